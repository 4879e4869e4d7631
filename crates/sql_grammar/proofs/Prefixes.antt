-- What starts a rule, and what begins a text of it.
use Rattle.std.proofs.Common.{arith, ◌≡◌, Bool, true, ◌&&◌, List, [], ◌∷◌, ◌++◌, length, length-append, append_assoc, append-nil, refl, ap, sym, ◌∙◌}
use mathlib.Core.Logic.{inl, inr}
use Rattle.sql_grammar.specs.declared.kind.Kind.{Kind}
use Rattle.sql_grammar.specs.Grammar.{Tok, G, tok, pure, seq, alt, map, skip, chain, guard, never, limit, note, Lang, Joined, Repetition, RepetitionStarts, Loop, IsTok, folded, ok, Derives, Starts}
use Rattle.sql_grammar.specs.Reading.{free, GoOn}
use Rattle.sql_grammar.proofs.Lists.{Cut, long, same, short, cut, no_cons, append_none, both}
use Rattle.sql_grammar.proofs.Langs.{Begun, Through}
use Rattle.sql_grammar.proofs.Rules.{seq_ok, alt_ok, chain_ok, guard_ok, note_ok, some_text}

-- Prefixes start

-- a proper prefix of a text
abbrev Proper : {A : Type 0} → Lang A → Begun → Type 0
Proper L S = (ts more : List Tok) (t : Tok) (x : _) → L (ts ++ t ∷ more) x → S ts

joined_proper : {A B : Type 0} (L : Lang A) (S : Begun) (M : A → Lang B) (R : A → Begun) → Proper L S → ((a : A) → Proper (M a) (R a)) → Proper (Joined L M) (Through L S R)
joined_proper {A} {B} L S M R first then ts more t x j = go (cut ts (t ∷ more) j.prefix j.back j.parts)
  where
    behind : (back : List Tok) → ts ≡ j.prefix ++ back → M j.value (back ++ t ∷ more) x → Through L S R ts
    behind back e m = inr (record { prefix = j.prefix; back = back; value = j.value; parts = e; is_first = j.is_first; is_then = then j.value back more t x m })

    go : Cut ts (t ∷ more) j.prefix j.back → Through L S R ts
    go (long w us e f) = behind (w ∷ us) e (rw f at j.is_then)
    go (same e f) = behind [] (e ∙ sym (append-nil j.prefix)) (rw (← f) at j.is_then)
    go (short w us e f) = inl (first ts us w j.value (rw e at j.is_first))

repetition_proper : {B : Type 0} (L : Lang B) (S : Begun) → Proper L S → (bs : List B) (ts more : List Tok) (t : Tok) → Repetition L bs (ts ++ t ∷ more) → RepetitionStarts L S ts
repetition_proper L S first [] ts more t row = absurd (no_cons (append_none ts (t ∷ more) row).1)
repetition_proper {B} L S first (b ∷ bs) ts more t row = go (λ us r. repetition_proper L S first bs us more t r) (cut ts (t ∷ more) row.0 row.1 row.2)
  where
    behind : ((us : List Tok) → Repetition L bs (us ++ t ∷ more) → RepetitionStarts L S us) → (back : List Tok) → ts ≡ row.0 ++ back → Repetition L bs (back ++ t ∷ more) → RepetitionStarts L S ts
    behind on back e r =
        let k = on back r in
        let j = k.1 in (
          b ∷ k.0,
          record {
            prefix = row.0 ++ j.prefix;
            back = j.back;
            value = tt;
            parts = e ∙ ap (λ us. row.0 ++ us) j.parts ∙ sym (append_assoc row.0 j.prefix j.back);
            is_first = (row.0, j.prefix, refl, row.3, j.is_first);
            is_then = j.is_then;
          },
        )

    go : ((us : List Tok) → Repetition L bs (us ++ t ∷ more) → RepetitionStarts L S us) → Cut ts (t ∷ more) row.0 row.1 → RepetitionStarts L S ts
    go on (long w us e f) = behind on (w ∷ us) e (rw f at row.4)
    go on (same e f) = behind on [] (e ∙ sym (append-nil row.0)) (rw (← f) at row.4)
    go on (short w us e f) = ([], record { prefix = []; back = ts; value = tt; parts = refl; is_first = refl; is_then = first ts us w b (rw e at row.3) })

tok_proper : (k : Kind) → Proper (IsTok k) (λ us. us ≡ [])
tok_proper k [] more t x e = refl
tok_proper k (u ∷ us) more t x e = absurd (omega (arith, ap length e, length-append (u ∷ us) (t ∷ more)))

pub prefixes : {A : Type 0} (g : G A) → Proper (Derives g) (Starts g)
prefixes (tok k) ts more t x d = tok_proper k ts more t x d
prefixes (pure a) ts more t x d = absurd (no_cons (append_none ts (t ∷ more) d.0).1)
prefixes (seq g h) ts more t x d = joined_proper (Derives g) (Starts g) (λ a us y. (y.0 ≡ a) × Derives h us y.1) (λ a. Starts h) (prefixes g) (λ a us vs u y m. prefixes h us vs u y.1 m.1) ts more t x d
prefixes (alt g h) ts more t x (inl d) = inl (prefixes g ts more t x d)
prefixes (alt g h) ts more t x (inr d) = inr (prefixes h ts more t x d)
prefixes (map f g) ts more t x d = prefixes g ts more t d.0 d.1
prefixes (skip k g) ts more t x d = joined_proper (IsTok k) (λ us. us ≡ []) (λ a. Derives g) (λ a. Starts g) (tok_proper k) (λ a. prefixes g) ts more t x d
prefixes (chain f g h) ts more t x d =
    joined_proper (Derives g) (Starts g) (Loop f (Derives h)) (λ a. RepetitionStarts (Derives h) (Starts h)) (prefixes g) (λ a us vs u y m. repetition_proper (Derives h) (Starts h) (prefixes h) m.0 us vs u m.1) ts more t x d
prefixes (guard b g) ts more t x d = inl (prefixes g ts more t x d.0, d.1)
prefixes never ts more t x d = absurd d
prefixes (limit n g) ts more t x d = (prefixes g ts more t x d.0, omega (arith, d.1, length-append ts (t ∷ more)))
prefixes (note ks g) ts more t x d = prefixes g ts more t x d

-- What starts a rule in which nothing is forbidden goes on

two : {a b : Bool} → a && b ≡ true → (a ≡ true) × (b ≡ true)
two {a} {b} e = both {a = a} {b = b} e

some : {A : Type 0} (g : G A) → free g ≡ true → (ts : List Tok) × (x : A) × Derives g ts x
some (tok k) e = (record { kind = k; text = [] } ∷ [], [], refl)
some (pure a) e = ([], a, (refl, refl))
some (seq g h) e =
    let k = two {a = free g} {b = free h} e in
    let p = some g k.0 in
    let q = some h k.1 in
    (p.0 ++ q.0, (p.1, q.1), record { prefix = p.0; back = q.0; value = p.1; parts = refl; is_first = p.2; is_then = (refl, q.2) })
some (alt g h) e = let p = some g (two {a = free g} {b = free h} e).0 in (p.0, p.1, inl p.2)
some (map f g) e = let p = some g e in (p.0, f p.1, (p.1, p.2, refl))
some (skip k g) e =
    let p = some g e in
    (record { kind = k; text = [] } ∷ p.0, p.1, record { prefix = record { kind = k; text = [] } ∷ []; back = p.0; value = []; parts = refl; is_first = refl; is_then = p.2 })
some (chain f g h) e =
    let p = some g (two {a = free g} {b = free h} e).0 in
    (p.0, p.1, record { prefix = p.0; back = []; value = p.1; parts = sym (append-nil p.0); is_first = p.2; is_then = ([], refl, refl) })
some (guard b g) e = let k = two {a = b} {b = free g} e in let p = some g k.1 in (p.0, p.1, (p.2, k.0))
some never e = absurd cc
some (limit n g) e = absurd cc
some (note ks g) e = some g e

repetition_end : {B : Type 0} (L : Lang B) (bs : List B) (b : B) (us vs : List Tok) → Repetition L bs us → L vs b → Repetition L (bs ++ b ∷ []) (us ++ vs)
repetition_end L [] b us vs e l = (vs, [], ap (λ ts. ts ++ vs) e ∙ sym (append-nil vs), l, refl)
repetition_end L (c ∷ bs) b us vs row l = (row.0, row.1 ++ vs, ap (λ ts. ts ++ vs) row.2 ∙ append_assoc row.0 row.1 vs, row.3, repetition_end L bs b row.1 vs row.4 l)

-- one more text behind what goes on
then_some : (ts more q : List Tok) (t : Tok) → ts ++ t ∷ (more ++ q) ≡ (ts ++ t ∷ more) ++ q
then_some ts more q t = sym (append_assoc ts (t ∷ more) q)

-- what goes on behind a text
after : (ts prefix back more : List Tok) (t : Tok) → ts ≡ prefix ++ back → ts ++ t ∷ more ≡ prefix ++ (back ++ t ∷ more)
after ts prefix back more t e = ap (λ us. us ++ t ∷ more) e ∙ append_assoc prefix back (t ∷ more)

pub go_on : {A : Type 0} (g : G A) → ok g ≡ true → free g ≡ true → (ts : List Tok) → Starts g ts → GoOn g ts
go_on (tok k) o e ts s = (record { kind = k; text = [] }, [], [], ap (λ us. us ++ record { kind = k; text = [] } ∷ []) s)
go_on (pure a) o e ts s = absurd s
go_on (seq g h) o e ts (inl s) =
    let n = two {a = free g} {b = free h} e in
    let p = go_on g (seq_ok g h o).0 n.0 ts s in
    let q = some h n.1 in
    (p.0, p.1 ++ q.0, (p.2, q.1), record { prefix = ts ++ p.0 ∷ p.1; back = q.0; value = p.2; parts = then_some ts p.1 q.0 p.0; is_first = p.3; is_then = (refl, q.2) })
go_on (seq g h) o e ts (inr j) =
    let p = go_on h (seq_ok g h o).1 (two {a = free g} {b = free h} e).1 j.back j.is_then in
    (p.0, p.1, (j.value, p.2), record { prefix = j.prefix; back = j.back ++ p.0 ∷ p.1; value = j.value; parts = after ts j.prefix j.back p.1 p.0 j.parts; is_first = j.is_first; is_then = (refl, p.3) })
go_on (alt g h) o e ts (inl s) = let p = go_on g (alt_ok g h o).0 (two {a = free g} {b = free h} e).0 ts s in (p.0, p.1, p.2, inl p.3)
go_on (alt g h) o e ts (inr s) = let p = go_on h (alt_ok g h o).1 (two {a = free g} {b = free h} e).1 ts s in (p.0, p.1, p.2, inr p.3)
go_on (map f g) o e ts s = let p = go_on g o e ts s in (p.0, p.1, f p.2, (p.2, p.3, refl))
go_on (skip k g) o e ts (inl s) =
    let p = some g e in
    let t : Tok = record { kind = k; text = [] } in
    (t, p.0, p.1, record { prefix = t ∷ []; back = p.0; value = []; parts = ap (λ us. us ++ t ∷ p.0) s; is_first = refl; is_then = p.2 })
go_on (skip k g) o e ts (inr j) =
    let p = go_on g o e j.back j.is_then in
    (p.0, p.1, p.2, record { prefix = j.prefix; back = j.back ++ p.0 ∷ p.1; value = j.value; parts = after ts j.prefix j.back p.1 p.0 j.parts; is_first = j.is_first; is_then = p.3 })
go_on (chain f g h) o e ts (inl s) =
    let p = go_on g (chain_ok f g h o).0 (two {a = free g} {b = free h} e).0 ts s in
    (p.0, p.1, p.2, record { prefix = ts ++ p.0 ∷ p.1; back = []; value = p.2; parts = sym (append-nil (ts ++ p.0 ∷ p.1)); is_first = p.3; is_then = ([], refl, refl) })
go_on (chain f g h) o e ts (inr j) =
    let i = j.is_then.1 in
    let p = go_on h (chain_ok f g h o).1 (two {a = free g} {b = free h} e).1 i.back i.is_then in
    let bs = j.is_then.0 ++ p.2 ∷ [] in (
      p.0,
      p.1,
      folded f j.value bs,
      record {
        prefix = j.prefix;
        back = j.back ++ p.0 ∷ p.1;
        value = j.value;
        parts = after ts j.prefix j.back p.1 p.0 j.parts;
        is_first = j.is_first;
        is_then = (bs, rw (← after j.back i.prefix i.back p.1 p.0 i.parts) at (repetition_end (Derives h) j.is_then.0 p.2 i.prefix (i.back ++ p.0 ∷ p.1) i.is_first p.3), refl);
      },
    )
go_on (guard b g) o e ts (inl s) = let p = go_on g (guard_ok b g o).0 (two {a = b} {b = free g} e).1 ts s.0 in (p.0, p.1, p.2, (p.3, s.1))
go_on (guard b g) o e ts (inr s) = first (some g k.1)
  where
    k : (b ≡ true) × (free g ≡ true)
    k = two {a = b} {b = free g} e

    first : (us : List Tok) × (x : _) × Derives g us x → GoOn (guard b g) ts
    first ([], x, d) = absurd (some_text g (guard_ok b g o).1 x d)
    first (u ∷ us, x, d) = (u, us, x, (rw s d, k.0))
go_on never o e ts s = absurd cc
go_on (limit n g) o e ts s = absurd cc
go_on (note ks g) o e ts s = go_on g (note_ok ks g o).0 e ts s
