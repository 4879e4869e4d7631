-- The calls that a client has still to submit, one after another.
use Rattle.std.proofs.Common.{◌≡◌, ℕ, ◌+◌, ◌<◌, ◌≤◌, List, ◌∷◌, ◌++◌, length, get_or, drop, refl, ap, ◌∙◌, drop-cons, add-one}
use Rattle.std.proofs.lemmas.List.{drop_all, append-nil}
use Rattle.one_host_model.specs.declared.input.WorldCall.{WorldCall}
use Rattle.one_host_model.specs.declared.state.Due.{Due}
use Rattle.one_host_model.specs.World.{due}

-- the first of the calls that are left is the next one
pub due_next : (calls : List WorldCall) (i number : ℕ) (call : WorldCall) → i < length calls → call ≡ get_or calls i call → call.client ≡ 1
    → due 1 number (drop i calls) ≡ record { body = call.body; call = number; part = call.part } ∷ due 1 (number + 1) (drop (i + 1) calls)
due_next calls i number call lt is one = rw (add-one i, drop-cons calls i call, ← is, one) refl

-- none is left behind the last one
pub due_none : (calls : List WorldCall) (i number : ℕ) (left : List Due) → length calls ≤ i → left ++ due 1 number (drop i calls) ≡ left
due_none calls i number left all = ap (λ (cs : List WorldCall). left ++ due 1 number cs) (drop_all i calls all) ∙ append-nil left
