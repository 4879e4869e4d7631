-- A turn of a loop that reads items.
use Rattle.std.proofs.Common.{◌≡◌, ◌<◌, ℕ, suc, ◌+◌, ◌-◌, Bool, true, false, List, Result, Ok, ap, ◌∙◌, arith, refl}
use Rattle.sql_grammar.specs.declared.kind.Kind.{Kind}
use Rattle.expr_parse.specs.Cursor.{Eats}
use Rattle.expr_parse.specs.Reads.{Reads, applied}
use Rattle.expr_parse.specs.declared.fault.Fault.{Fault}
use Rattle.sql_grammar.specs.Grammar.{Tok, G, Outcome, seq, alt, skip, at, parse, loop}

pub one_more : {X : Type 0} {x : X} (f : ℕ → X) (n at : ℕ) → at < n → x ≡ f (n - at) → x ≡ f (suc (n - (at + 1)))
one_more f n at below e = let turn : n - at ≡ suc (n - (at + 1)) = omega arith in e ∙ ap f turn

one_item : {A B : Type 0} (f : A → B → A) (begins : List Tok → Bool) (read : List Tok → Outcome B) (n : ℕ) (a : A) (ts : List Tok) (b : B) (rest : List Tok)
    → begins ts ≡ true → read ts ≡ Ok (b, rest) → loop f begins read (suc n) a ts ≡ loop f begins read n (f a b) rest
one_item f begins read n a ts b rest is reads = rw (is, reads) refl

-- an item was read, and joined to what was read before it
pub turned : {A B : Type 0} (f : A → B → A) (begins : List Tok → Bool) (read : List Tok → Outcome B) (x : Outcome A) (n turn : ℕ) (a : A) (ts : List Tok)
    (b : B) (rest : List Tok) (after : A) → turn < n → x ≡ loop f begins read (n - turn) a ts → begins ts ≡ true → read ts ≡ Ok (b, rest) → after ≡ f a b
    → x ≡ loop f begins read (n - (turn + 1)) after rest
turned f begins read x n turn a ts b rest after below so_far is reads joined =
    rw joined (one_more (λ m. loop f begins read m a ts) n turn below so_far ∙ one_item f begins read (n - (turn + 1)) a ts b rest is reads)

pub seq_at : {A B : Type 0} (g : G A) (h : G B) (ts : List Tok) → at g ts ≡ true → at (seq g h) ts ≡ true
seq_at g h ts e = rw e refl

pub seq_read : {A B : Type 0} (g : G A) (h : G B) (ts rest end : List Tok) (a : A) (b : B) → parse g ts ≡ Ok (a, rest) → parse h rest ≡ Ok (b, end)
    → parse (seq g h) ts ≡ Ok ((a, b), end)
seq_read g h ts rest end a b first second = rw (first, second) refl

pub eaten_at : {A : Type 0} (k : Kind) (g : G A) (ts rest : List Tok) (r : Bool) → r ≡ true → Eats k r ts rest → at (skip k g) ts ≡ true
eaten_at k g ts rest true e (t, is, same) = rw (is, same) refl
eaten_at k g ts rest false e h = cc

pub eaten_read : {A : Type 0} (k : Kind) (g : G A) (ts rest end : List Tok) (r : Bool) (b : A) → r ≡ true → Eats k r ts rest → parse g rest ≡ Ok (b, end) → parse (skip k g) ts ≡ Ok (b, end)
eaten_read k g ts rest end true b e (t, is, same) reads = rw (is, same, reads) refl
eaten_read k g ts rest end false b e h reads = cc

-- the next token isn't of the kind with which the first of two rules begins
pub passed : {A B : Type 0} (value : A) (k : Kind) (g h : G (A → B)) (ts rest end : List Tok) (r : Bool) (result : Result B Fault) → r ≡ false → Eats k r ts rest
    → Reads (applied value (parse h rest)) result end → Reads (applied value (parse (alt (skip k g) h) ts)) result end
passed value k g h ts rest end true result e eats reads = cc
passed value k g h ts rest end false result e (is, same) reads = rw (is, ← same) reads

-- no further item begins
pub ended : {A B : Type 0} (f : A → B → A) (k : Kind) (h : G B) (x : Outcome A) (n turn : ℕ) (a : A) (ts rest : List Tok) (r : Bool) → turn < n
    → x ≡ loop f (at (skip k h)) (parse (skip k h)) (n - turn) a ts → r ≡ false → Eats k r ts rest → x ≡ Ok (a, rest)
ended f k h x n turn a ts rest true below so_far e eats = cc
ended f k h x n turn a ts rest false below so_far e (is, same) =
    one_more (λ m. loop f (at (skip k h)) (parse (skip k h)) m a ts) n turn below so_far ∙ rw (is, same) refl
