-- What is seen of a source and of a sink, and what calls do to it.
use Rattle.std.specs.Prelude.{◌≡◌, ◌≤◌, ℕ, Bool, Option, None, Some, List, ◌++◌, length}

-- a source
pub record SourceState : Type 0 where
  -- the bytes that its reads gave so far, in their order
  pub given : List ℕ
  -- whether the last read that worked gave none: the source is at its end
  pub ended : Bool
  -- the bytes that reads will give from here on, where the source tells them
  pub rest : Option (List ℕ)
  -- how many reads failed
  pub faults : ℕ

-- a sink
pub record SinkState : Type 0 where
  -- the bytes that it took so far, in their order
  pub taken : List ℕ
  -- how many writes failed
  pub faults : ℕ

-- ---- reading

-- told bytes begin with these, and are told again without them
abbrev pub LosesPrefix : Option (List ℕ) → Option (List ℕ) → List ℕ → Type 0
LosesPrefix None after prefix = Unit {0}
LosesPrefix (Some bytes) None prefix = ⊥
LosesPrefix (Some bytes) (Some now) prefix = bytes ≡ prefix ++ now

-- the source gave these bytes, and no others
pub record SourceGives (before after : SourceState) (bytes : List ℕ) : Type 0 where
  pub given : after.given ≡ before.given ++ bytes
  pub told : LosesPrefix before.rest after.rest bytes

-- it gave so many bytes at most
abbrev pub SourceGivesAtMost : SourceState → SourceState → ℕ → Type 0
SourceGivesAtMost before after most = (bytes : List ℕ) × (length bytes ≤ most) × SourceGives before after bytes

-- it gave some bytes, which moved to the end of a list
abbrev pub SourceGivesTo : SourceState → SourceState → List ℕ → List ℕ → Type 0
SourceGivesTo before after old new = (bytes : List ℕ) × SourceGives before after bytes × (new ≡ old ++ bytes)

-- ---- writing

-- the sink took these bytes, and no others
pub record SinkTakes (before after : SinkState) (bytes : List ℕ) : Type 0 where
  pub taken : after.taken ≡ before.taken ++ bytes

-- a list begins with another
abbrev pub IsPrefixOf : List ℕ → List ℕ → Type 0
IsPrefixOf prefix whole = (others : List ℕ) × (whole ≡ prefix ++ others)

-- it took some prefix of these
abbrev pub SinkTakesPrefixOf : SinkState → SinkState → List ℕ → Type 0
SinkTakesPrefixOf before after text = (prefix : List ℕ) × IsPrefixOf prefix text × SinkTakes before after prefix

-- it took all of these but the last ones
abbrev pub SinkTakesAllBut : SinkState → SinkState → List ℕ → List ℕ → Type 0
SinkTakesAllBut before after text last = (prefix : List ℕ) × (text ≡ prefix ++ last) × SinkTakes before after prefix
