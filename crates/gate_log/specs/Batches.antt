-- A file of batches. A batch is a gate byte, the length of its body and the body.
use Rattle.std.specs.Prelude.{ℕ, zero, suc, ◌<◌, ◌^◌, ◌==◌, if◌then◌else◌, List, [], ◌∷◌, ◌++◌, length, Option, Some, None}
use Rattle.volt_base.specs.Spelling.{body_bytes}
use Rattle.volt_base.specs.Reading.{body_at}

-- the gate of an open batch; with any other byte it is closed
abbrev pub open_gate : ℕ
open_gate = 165

-- an open batch
abbrev pub batch_bytes : List ℕ → List ℕ
batch_bytes body = open_gate ∷ body_bytes body

-- the body of the batch at the beginning of the bytes, and what stands behind it, where the batch is open and fits
abbrev pub first_batch : List ℕ → Option (List ℕ × List ℕ)
first_batch [] = None
first_batch (gate ∷ bytes) = if gate == open_gate then body_at bytes else None

-- the body of a first batch, if there is one, and then the bodies behind it
abbrev pub first_and : Option (List ℕ × List ℕ) → (List ℕ → List (List ℕ)) → List (List ℕ)
first_and None others = []
first_and (Some batch) others = batch.0 ∷ others batch.1

-- the bodies of at most so many batches
abbrev pub first_batches : ℕ → List ℕ → List (List ℕ)
first_batches zero bytes = []
first_batches (suc n) bytes = first_and (first_batch bytes) (λ rest. first_batches n rest)

-- the bodies of a file, up to the first batch that isn't open or doesn't fit; a batch takes a byte at least
unfoldable pub batches : List ℕ → List (List ℕ)
batches bytes = first_batches (length bytes) bytes

-- open batches, one after another
abbrev pub spelled : List (List ℕ) → List ℕ
spelled [] = []
spelled (body ∷ bodies) = batch_bytes body ++ spelled bodies

-- each length fits its four bytes
abbrev pub AllFit : List (List ℕ) → Type 0
AllFit [] = Unit {0}
AllFit (body ∷ bodies) = (length body < 2 ^ 32) × AllFit bodies
