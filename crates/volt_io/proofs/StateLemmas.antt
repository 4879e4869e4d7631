-- One write after another, on what is seen of a sink.
use Rattle.std.proofs.Common.{◌≡◌, ℕ, ◌+◌, ◌-◌, ◌≤◌, List, [], ◌∷◌, ◌++◌, length, take, drop, Option, None, Some, sym, ap, ◌∙◌, inl, inr, append-nil, append_assoc, length-append, arith}
use Rattle.std.proofs.lemmas.List.{take-append-drop, take_rest}
use Rattle.std.proofs.Math.Seq.{take-add}
use Rattle.std.proofs.lemmas.Bool.{cases_lt}
use Rattle.volt_base.specs.Faults.{Increased}
use Rattle.volt_io.specs.States.{SourceState, SinkState, LosesPrefix, SourceGives, SourceGivesAtMost, SinkTakes, SinkTakesPrefixOf, SinkTakesAllBut}

-- a second text is written after a first
pub SinkTakes-then : (a b c : SinkState) (x y : List ℕ) → SinkTakes a b x → SinkTakes b c y → SinkTakes a c (x ++ y)
SinkTakes-then a b c x y p q = record { taken = q.taken ∙ (ap (λ l. l ++ y) p.taken ∙ append_assoc a.taken x y) }

-- a failed write adds nothing
SinkTakes-kept : (a b c : SinkState) (x : List ℕ) → SinkTakes a b x → c.taken ≡ b.taken → SinkTakes a c x
SinkTakes-kept a b c x p q = record { taken = q ∙ p.taken }

-- the prefix of a text is written, and then the prefix of what stands behind it
pub SinkTakes-more : (a b c : SinkState) (text : List ℕ) (at n : ℕ) → SinkTakes a b (take at text) → SinkTakes b c (take n (take (length text - at) (drop at text))) → SinkTakes a c (take (at + n) text)
SinkTakes-more a b c text at n p q =
    rw (take-add at n text) (SinkTakes-then a b c (take at text) (take n (drop at text)) p (rw (take_rest text at) at q))

-- the prefix of a text is written, and then a write fails
pub SinkTakesPrefixOf-kept : (a b c : SinkState) (text : List ℕ) (at : ℕ) → SinkTakes a b (take at text) → c.taken ≡ b.taken → SinkTakesPrefixOf a c text
SinkTakesPrefixOf-kept a b c text at p q =
    (take at text, (drop at text, sym (take-append-drop at text)), SinkTakes-kept a b c (take at text) p q)

-- a first text is written, and then a prefix of a second
pub SinkTakesPrefixOf-then : (a b c : SinkState) (x y : List ℕ) → SinkTakes a b x → SinkTakesPrefixOf b c y → SinkTakesPrefixOf a c (x ++ y)
SinkTakesPrefixOf-then a b c x y p q =
    (x ++ q.0, (q.1.0, ap (λ l. x ++ l) q.1.1 ∙ sym (append_assoc x q.0 q.1.0)), SinkTakes-then a b c x q.0 p q.2)

-- a prefix of a text is a prefix of a longer one
pub SinkTakesPrefixOf-longer : (a b : SinkState) (x y : List ℕ) → SinkTakesPrefixOf a b x → SinkTakesPrefixOf a b (x ++ y)
SinkTakesPrefixOf-longer a b x y p =
    (p.0, (p.1.0 ++ y, ap (λ l. l ++ y) p.1.1 ∙ append_assoc p.0 p.1.0 y), p.2)

-- of what was left, the next bytes but the last ones are written
pub SinkTakesAllBut-then : (a b c : SinkState) (text left next last others : List ℕ) → SinkTakesAllBut a b text left → left ≡ next ++ others → SinkTakesAllBut b c next last → SinkTakesAllBut a c text (last ++ others)
SinkTakesAllBut-then a b c text left next last others p split q = (
  p.0 ++ q.0,
  p.1 ∙ (ap (λ l. p.0 ++ l) (split ∙ (ap (λ l. l ++ others) q.1 ∙ append_assoc q.0 last others)) ∙ sym (append_assoc p.0 q.0 (last ++ others))),
  SinkTakes-then a b c p.0 q.0 p.2 q.2,
)

-- of what was left, a prefix of the next bytes is written
pub SinkTakesAllBut-prefix : (a b c : SinkState) (text left next others : List ℕ) → SinkTakesAllBut a b text left → left ≡ next ++ others → SinkTakesPrefixOf b c next → SinkTakesPrefixOf a c text
SinkTakesAllBut-prefix a b c text left next others p split q =
    rw p.1 (SinkTakesPrefixOf-then a b c p.0 left p.2 (rw split (SinkTakesPrefixOf-longer b c next others q)))

-- ---- counts of faults
