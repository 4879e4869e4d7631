-- Readers: what bytes begin with, and what stands behind it.
use Rattle.std.specs.Prelude.{◌≡◌, ℕ, zero, suc, ◌+◌, ◌*◌, ◌^◌, ℤ, List, [], ◌∷◌, ◌++◌, flat_map, length, Option, Some, None, Result, Ok, Err}
use Rattle.std.specs.Int.{w32, w64, w128, to_be_bytes, cast_unsigned, cast_signed}
use Rattle.volt_base.specs.Reading.{◌>>=◌, number_at}
use Rattle.byte_codec.specs.declared.unread.Unread.{Unread}
use Rattle.byte_codec.specs.declared.unread.Unread.TheVariants.{NotSpelled, NoMemory}

-- nothing is read only where nothing can be, unless memory runs out
abbrev pub Fails : {Y : Type 0} → Unread → Option Y → Type 0
Fails NotSpelled read = read ≡ None
Fails NoMemory read = Unit {0}

-- what a function returned, seen by view, is what can be read, unless memory ran out
abbrev pub Gives : {X Y : Type 0} → (X → Y) → Result X Unread → Option Y → Type 0
Gives view (Ok x) read = read ≡ Some (view x)
Gives view (Err e) read = Fails e read

abbrev pub Reader : Type 0 → Type 0
Reader A = List ℕ → Option (A × List ℕ)

abbrev pub byte_at : Reader ℕ
byte_at [] = None
byte_at (b ∷ bytes) = Some (b, bytes)

-- one thing, and another behind it
abbrev pub both_at : {A B : Type 0} → Reader A → Reader B → Reader (A × B)
both_at first_at second_at bytes = do
  first ← first_at bytes
  second ← second_at first.1
  Some ((first.0, second.0), second.1)

-- what a thing stands for, if it stands for something
abbrev pub as_at : {A B : Type 0} → (A → Option B) → Reader A → Reader B
as_at meaning one_at bytes = do
  one ← one_at bytes
  x ← meaning one.0
  Some (x, one.1)

-- what a thing stands for, where each stands for something
abbrev pub mapped_at : {A B : Type 0} → (A → B) → Reader A → Reader B
mapped_at make one_at bytes = do
  one ← one_at bytes
  Some (make one.0, one.1)

-- so many things
abbrev pub many_at : {A : Type 0} → Reader A → ℕ → Reader (List A)
many_at one_at zero bytes = Some ([], bytes)
many_at one_at (suc n) bytes = do
  first ← one_at bytes
  rest ← many_at one_at n first.1
  Some (first.0 ∷ rest.0, rest.1)

-- as many as a number says that stands ahead of them
abbrev pub counted_at : {A : Type 0} → Reader ℕ → Reader A → Reader (List A)
counted_at count_at one_at bytes = do
  count ← count_at bytes
  many_at one_at count.0 count.1

-- ---- numbers of 128 bits with a sign: the high half of their bits, and the low half

-- the number whose bits these are
abbrev pub of_halves : ℕ × ℕ → ℤ
of_halves halves = cast_signed w128 (halves.0 * 2 ^ 64 + halves.1)

unfoldable pub wide_at : Reader ℤ
wide_at = mapped_at of_halves (both_at (number_at w64) (number_at w64))

-- ---- lists behind the number of what they hold

-- in one byte
abbrev pub short_list_bytes : {A : Type 0} → (A → List ℕ) → List A → List ℕ
short_list_bytes spell xs = length xs ∷ flat_map spell xs

abbrev pub short_list_at : {A : Type 0} → Reader A → Reader (List A)
short_list_at one_at = counted_at byte_at one_at

-- in four bytes
abbrev pub list_bytes : {A : Type 0} → (A → List ℕ) → List A → List ℕ
list_bytes spell xs = to_be_bytes w32 (length xs) ++ flat_map spell xs

abbrev pub list_at : {A : Type 0} → Reader A → Reader (List A)
list_at one_at = counted_at (number_at w32) one_at
