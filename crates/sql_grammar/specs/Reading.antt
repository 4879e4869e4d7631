-- What it means that tokens are read by a rule, or refused: the longest prefix decides.
use Rattle.std.specs.Prelude.{◌≡◌, ◌≤◌, ◌<◌, ℕ, ◌+◌, ◌-◌, Bool, true, false, ◌&&◌, List, ◌∷◌, ◌++◌, length, take, drop}
use Rattle.sql_grammar.specs.Grammar.{Tok, G, tok, pure, seq, alt, map, skip, chain, guard, never, limit, note, Derives, Starts, IsPrefix}

-- the tokens from one place up to another
abbrev pub part : ℕ → ℕ → List Tok → List Tok
part from to ts = take (to - from) (drop from ts)

-- no text of the rule begins with the tokens from the first place to the second, with the token that stands there
abbrev pub Stops : {A : Type 0} → G A → List Tok → ℕ → ℕ → Type 0
Stops g ts from place = place < length ts → (more : List Tok) → IsPrefix g (part from (place + 1) ts ++ more) → ⊥

-- the tokens from the first place up to the next are a text of the rule with this tree and no other, and the token
-- behind them goes on with no text of it
pub record IsRead {A : Type 0} (g : G A) (ts : List Tok) (from : ℕ) (tree : A) (next : ℕ) : Type 0 where
  pub from_on : from ≤ next
  pub within : next ≤ length ts
  pub derives : Derives g (part from next ts) tree
  pub only : (y : A) → Derives g (part from next ts) y → y ≡ tree
  pub stops : Stops g ts from next

-- with the tokens up to this place a text of the rule begins, they are none, and the token that stands there goes on
-- with no text of it. The place behind the last token stands for the end
pub record IsRefused {A : Type 0} (g : G A) (ts : List Tok) (from place : ℕ) : Type 0 where
  pub from_on : from ≤ place
  pub within : place ≤ length ts
  pub starts : Starts g (part from place ts)
  pub none : (y : A) → Derives g (part from place ts) y → ⊥
  pub stops : Stops g ts from place

-- nothing in the rule forbids a token: no flag that is false, no last level of nesting, and no greatest number of tokens
abbrev pub free : {A : Type 0} → G A → Bool
free (tok k) = true
free (pure a) = true
free (seq g h) = free g && free h
free (alt g h) = free g && free h
free (map f g) = free g
free (skip k g) = free g
free (chain f g h) = free g && free h
free (guard b g) = b && free g
free never = false
free (limit n g) = false
free (note ks g) = free g

-- the tokens go on, by one more or by several, to a text of the rule
abbrev pub GoOn : {A : Type 0} → G A → List Tok → Type 0
GoOn g ts = (t : Tok) × (more : List Tok) × (x : _) × Derives g (ts ++ t ∷ more) x
