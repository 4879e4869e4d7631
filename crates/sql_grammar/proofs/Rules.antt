-- What the functions that look at a rule say of its texts.
use Rattle.std.proofs.Common.{arith, ◌≡◌, ℕ, Bool, true, false, not, ◌&&◌, ◌||◌, List, [], ◌∷◌, ◌++◌, length, length-append, append-nil, refl, ap, sym, ◌∙◌}
use Rattle.std.specs.Prelude.{◌⊎◌, nat_lt, if◌then◌else◌}
use mathlib.Core.Logic.{inl, inr}
use Rattle.sql_grammar.specs.declared.kind.Kind.{Kind}
use Rattle.sql_grammar.specs.Kinds.{same_kind}
use Rattle.sql_grammar.specs.Grammar.{Tok, G, tok, pure, seq, alt, map, skip, chain, guard, never, limit, note, Lang, RepetitionStarts, Loop, IsTok, Derives, Starts, IsPrefix, null, at, first, cont, ok, is_in, apart, within}
use Rattle.sql_grammar.proofs.KindPlaces.{same_refl}
use Rattle.sql_grammar.proofs.Lists.{no_cons, append_none, in_left, in_right, opposed, both, or_left, or_right, and_both, not_true, apart_none, within_in}
use Rattle.sql_grammar.proofs.Langs.{Begun, Prefixes, Through, Begins, Goes, joined_goes}
use Rattle.sql_grammar.proofs.Repetitions.{RepetitionPrefixes, loop_prefixes, repetition_begun, repetition_begins, repetition_goes}

-- What the check says, part by part

pub seq_ok : {A B : Type 0} (g : G A) (h : G B) → ok (seq g h) ≡ true → (ok g ≡ true) × (ok h ≡ true) × (apart (cont g) (first h) ≡ true)
seq_ok g h o = let k = both {a = ok g && ok h} {b = apart (cont g) (first h)} o in let j = both {a = ok g} {b = ok h} k.0 in (j.0, j.1, k.1)

pub alt_ok : {A : Type 0} (g h : G A) → ok (alt g h) ≡ true → (ok g ≡ true) × (ok h ≡ true) × (not (null g) ≡ true) × (apart (first g) (first h) ≡ true)
alt_ok g h o =
    let k = both {a = ok g && ok h && not (null g)} {b = apart (first g) (first h)} o in
    let j = both {a = ok g && ok h} {b = not (null g)} k.0 in
    let i = both {a = ok g} {b = ok h} j.0 in
    (i.0, i.1, j.1, k.1)

pub chain_ok : {A B : Type 0} (f : A → B → A) (g : G A) (h : G B) → ok (chain f g h) ≡ true
    → (ok g ≡ true) × (ok h ≡ true) × (not (null h) ≡ true) × (apart (cont g) (first h) ≡ true) × (apart (cont h) (first h) ≡ true)
chain_ok f g h o =
    let l = both {a = ok g && ok h && not (null h) && apart (cont g) (first h)} {b = apart (cont h) (first h)} o in
    let k = both {a = ok g && ok h && not (null h)} {b = apart (cont g) (first h)} l.0 in
    let j = both {a = ok g && ok h} {b = not (null h)} k.0 in
    let i = both {a = ok g} {b = ok h} j.0 in
    (i.0, i.1, j.1, k.1, l.1)

pub guard_ok : {A : Type 0} (b : Bool) (g : G A) → ok (guard b g) ≡ true → (ok g ≡ true) × (not (null g) ≡ true)
guard_ok b g o = both {a = ok g} {b = not (null g)} o

pub limit_ok : {A : Type 0} (n : ℕ) (g : G A) → ok (limit n g) ≡ true → (ok g ≡ true) × (nat_lt 0 n ≡ true)
limit_ok n g o = both {a = ok g} {b = nat_lt 0 n} o

pub note_ok : {A : Type 0} (ks : List Kind) (g : G A) → ok (note ks g) ≡ true → (ok g ≡ true) × (within (cont g) ks ≡ true)
note_ok ks g o = both {a = ok g} {b = within (cont g) ks} o

-- The empty text

pub empties : {A : Type 0} (g : G A) (x : A) → Derives g [] x → null g ≡ true
empties (tok k) x d = absurd (no_cons (sym d))
empties (pure a) x d = refl
empties (seq g h) x d =
    let none = append_none d.prefix d.back (sym d.parts) in
    and_both (empties g d.value (rw none.0 at d.is_first)) (empties h x.1 (rw none.1 at d.is_then.1))
empties (alt g h) x (inl d) = or_left (null h) (empties g x d)
empties (alt g h) x (inr d) = or_right (null g) (empties h x d)
empties (map f g) x d = empties g d.0 d.1
empties (skip k g) x d =
    let none = append_none d.prefix d.back (sym d.parts) in
    absurd (no_cons (sym (rw none.0 at d.is_first)))
empties (chain f g h) x d =
    let none = append_none d.prefix d.back (sym d.parts) in
    empties g d.value (rw none.0 at d.is_first)
empties (guard b g) x d = empties g x d.0
empties never x d = absurd d
empties (limit n g) x d = empties g x d.0
empties (note ks g) x d = empties g x d

pub fills : {A : Type 0} (g : G A) → ok g ≡ true → null g ≡ true → (x : A) × Derives g [] x
fills (tok k) o e = absurd cc
fills (pure a) o e = (a, (refl, refl))
fills (seq g h) o e =
    let k = seq_ok g h o in
    let n = both {a = null g} {b = null h} e in
    let x = fills g k.0 n.0 in
    let y = fills h k.1 n.1 in
    ((x.0, y.0), record { prefix = []; back = []; value = x.0; parts = refl; is_first = x.1; is_then = (refl, y.1) })
fills (alt g h) o e =
    let k = alt_ok g h o in
    let none : null g ≡ false = not_true k.2 in
    let y = fills h k.1 (rw none at e) in
    (y.0, inr y.1)
fills (map f g) o e = let x = fills g o e in (f x.0, (x.0, x.1, refl))
fills (skip k g) o e = absurd cc
fills (chain f g h) o e =
    let x = fills g (chain_ok f g h o).0 e in
    (x.0, record { prefix = []; back = []; value = x.0; parts = refl; is_first = x.1; is_then = ([], refl, refl) })
fills (guard b g) o e = absurd (opposed (not_true (guard_ok b g o).1) e)
fills never o e = absurd cc
fills (limit n g) o e = let x = fills g (limit_ok n g o).0 e in (x.0, (x.1, omega arith))
fills (note ks g) o e = fills g (note_ok ks g o).0 e

-- The first token

-- whatever the first token tells of either part, it tells of one behind the other
joined_told : {A : Type 0} (L : Lang A) (S : Begun) (X : A → Begun) (n p q : Bool) (z : Tok) (zs : List Tok) → ((a : A) → L [] a → n ≡ true)
    → ((ys : List Tok) → Prefixes L S (z ∷ ys) → p ≡ true) → ((a : A) → X a (z ∷ zs) → q ≡ true) → Through L S X (z ∷ zs) → p || (n && q) ≡ true
joined_told L S X n p q z zs empty tells more (inl s) = or_left (n && q) (tells zs (inl s))
joined_told L S X n p q z zs empty tells more (inr j) = go j.prefix refl
  where
    go : (prefix : List Tok) → j.prefix ≡ prefix → p || (n && q) ≡ true
    go [] e =
        let all : j.back ≡ z ∷ zs = sym (j.parts ∙ ap (λ us. us ++ j.back) e) in
        or_right p (and_both (empty j.value (rw e at j.is_first)) (more j.value (rw all at j.is_then)))
    go (w ∷ ws) e =
        let all : z ∷ zs ≡ w ∷ (ws ++ j.back) = j.parts ∙ ap (λ us. us ++ j.back) e in
        let head : w ≡ z = cc in
        or_left (n && q) (tells ws (inr (j.value, rw (e, head) at j.is_first)))

-- a prefix of a pair is one of its parts, one behind the other
pub seq_through : {A B : Type 0} (g : G A) (h : G B) (ts : List Tok) → IsPrefix (seq g h) ts → Through (Derives g) (Starts g) (λ a. IsPrefix h) ts
seq_through g h ts (inl (inl s)) = inl s
seq_through g h ts (inl (inr j)) = inr (record { prefix = j.prefix; back = j.back; value = j.value; parts = j.parts; is_first = j.is_first; is_then = inl j.is_then })
seq_through g h ts (inr (x, j)) = inr (record { prefix = j.prefix; back = j.back; value = j.value; parts = j.parts; is_first = j.is_first; is_then = inr (x.1, j.is_then.1) })

pub chain_through : {A B : Type 0} (f : A → B → A) (g : G A) (h : G B) (ts : List Tok) → IsPrefix (chain f g h) ts → Through (Derives g) (Starts g) (λ a. RepetitionPrefixes (Derives h) (Starts h)) ts
chain_through f g h ts (inl (inl s)) = inl s
chain_through f g h ts (inl (inr j)) = inr (record { prefix = j.prefix; back = j.back; value = j.value; parts = j.parts; is_first = j.is_first; is_then = inl j.is_then })
chain_through f g h ts (inr (x, j)) = inr (record { prefix = j.prefix; back = j.back; value = j.value; parts = j.parts; is_first = j.is_first; is_then = inr (j.is_then.0, j.is_then.1) })

pub skip_through : {A : Type 0} (k : Kind) (g : G A) (ts : List Tok) → IsPrefix (skip k g) ts → Through (IsTok k) (λ us. us ≡ []) (λ a. IsPrefix g) ts
skip_through k g ts (inl (inl s)) = inl s
skip_through k g ts (inl (inr j)) = inr (record { prefix = j.prefix; back = j.back; value = j.value; parts = j.parts; is_first = j.is_first; is_then = inl j.is_then })
skip_through k g ts (inr (x, j)) = inr (record { prefix = j.prefix; back = j.back; value = j.value; parts = j.parts; is_first = j.is_first; is_then = inr (x, j.is_then) })

tok_kind : (k : Kind) (z : Tok) (zs : List Tok) → Prefixes (IsTok k) (λ us. us ≡ []) (z ∷ zs) → z.kind ≡ k
tok_kind k z zs (inl e) = absurd (no_cons e)
tok_kind k z zs (inr (x, e)) =
    let head : z ≡ record { kind = k; text = x } = cc in
    ap (λ t. t.kind) head

tok_told : (k : Kind) (z : Tok) (zs : List Tok) → Prefixes (IsTok k) (λ us. us ≡ []) (z ∷ zs) → same_kind z.kind k ≡ true
tok_told k z zs f = rw (tok_kind k z zs f) (same_refl k)

skip_told : {A : Type 0} (k : Kind) (g : G A) (z : Tok) (zs : List Tok) → IsPrefix (skip k g) (z ∷ zs) → same_kind z.kind k ≡ true
skip_told k g z zs f = go (skip_through k g (z ∷ zs) f)
  where
    go : Through (IsTok k) (λ us. us ≡ []) (λ a. IsPrefix g) (z ∷ zs) → same_kind z.kind k ≡ true
    go (inl e) = absurd (no_cons e)
    go (inr j) =
        let all : z ∷ zs ≡ record { kind = k; text = j.value } ∷ j.back = j.parts ∙ ap (λ us. us ++ j.back) j.is_first in
        let head : z ≡ record { kind = k; text = j.value } = cc in
        rw head (same_refl k)

pub some_text : {A : Type 0} (g : G A) → not (null g) ≡ true → (x : A) → Derives g [] x → ⊥
some_text g e x d = opposed (not_true e) (empties g x d)

pub tells : {A : Type 0} (g : G A) → ok g ≡ true → (z : Tok) (zs more : List Tok) → IsPrefix g (z ∷ zs) → at g (z ∷ more) ≡ true
tells (tok k) o z zs more f = tok_told k z zs f
tells (pure a) o z zs more (inl s) = absurd s
tells (pure a) o z zs more (inr (x, d)) = absurd (no_cons d.0)
tells (seq g h) o z zs more f =
    let k = seq_ok g h o in
    joined_told (Derives g) (Starts g) (λ a. IsPrefix h) (null g) (at g (z ∷ more)) (at h (z ∷ more)) z zs (empties g)
    (λ ys t. tells g k.0 z ys more t) (λ a t. tells h k.1 z zs more t) (seq_through g h (z ∷ zs) f)
tells (alt g h) o z zs more (inl (inl s)) = or_left (at h (z ∷ more)) (tells g (alt_ok g h o).0 z zs more (inl s))
tells (alt g h) o z zs more (inl (inr s)) = or_right (at g (z ∷ more)) (tells h (alt_ok g h o).1 z zs more (inl s))
tells (alt g h) o z zs more (inr (x, inl d)) = or_left (at h (z ∷ more)) (tells g (alt_ok g h o).0 z zs more (inr (x, d)))
tells (alt g h) o z zs more (inr (x, inr d)) = or_right (at g (z ∷ more)) (tells h (alt_ok g h o).1 z zs more (inr (x, d)))
tells (map f g) o z zs more (inl s) = tells g o z zs more (inl s)
tells (map f g) o z zs more (inr (x, d)) = tells g o z zs more (inr (d.0, d.1))
tells (skip k g) o z zs more f = skip_told k g z zs f
tells (chain f g h) o z zs more t =
    let k = chain_ok f g h o in
    joined_told (Derives g) (Starts g) (λ a. RepetitionPrefixes (Derives h) (Starts h)) (null g) (at g (z ∷ more)) (at h (z ∷ more)) z zs (empties g)
    (λ ys u. tells g k.0 z ys more u)
    (λ a u. let b = repetition_begun (Derives h) (Starts h) (some_text h k.2) z zs u in tells h k.1 z b.0 more b.1)
    (chain_through f g h (z ∷ zs) t)
tells (guard b g) o z zs more (inl (inl s)) = and_both s.1 (tells g (guard_ok b g o).0 z zs more (inl s.0))
tells (guard b g) o z zs more (inl (inr e)) = absurd (no_cons e)
tells (guard b g) o z zs more (inr (x, d)) = and_both d.1 (tells g (guard_ok b g o).0 z zs more (inr (x, d.0)))
tells never o z zs more (inl e) = absurd (no_cons e)
tells never o z zs more (inr (x, d)) = absurd d
tells (limit n g) o z zs more (inl s) = tells g (limit_ok n g o).0 z zs more (inl s.0)
tells (limit n g) o z zs more (inr (x, d)) = tells g (limit_ok n g o).0 z zs more (inr (x, d.0))
tells (note ks g) o z zs more (inl s) = tells g (note_ok ks g o).0 z zs more (inl s)
tells (note ks g) o z zs more (inr (x, d)) = tells g (note_ok ks g o).0 z zs more (inr (x, d))

joined_begun : {A : Type 0} (L : Lang A) (S : Begun) (X : A → Begun) (n : Bool) (ks js : List Kind) → ((a : A) → L [] a → n ≡ true) → Begins (Prefixes L S) ks → ((a : A) → Begins (X a) js) → Begins (Through L S X) (ks ++ (if n then js else []))
joined_begun L S X n ks js empty begins more z zs (inl s) = in_left z.kind ks (if n then js else []) (begins z zs (inl s))
joined_begun L S X n ks js empty begins more z zs (inr j) = go j.prefix refl
  where
    go : (prefix : List Tok) → j.prefix ≡ prefix → is_in z.kind (ks ++ (if n then js else [])) ≡ true
    go [] e =
        let all : j.back ≡ z ∷ zs = sym (j.parts ∙ ap (λ us. us ++ j.back) e) in
        let none : n ≡ true = empty j.value (rw e at j.is_first) in
        rw none (in_right z.kind ks js (more j.value z zs (rw all at j.is_then)))
    go (w ∷ ws) e =
        let all : z ∷ zs ≡ w ∷ (ws ++ j.back) = j.parts ∙ ap (λ us. us ++ j.back) e in
        let head : w ≡ z = cc in
        in_left z.kind ks (if n then js else []) (begins z ws (inr (j.value, rw (e, head) at j.is_first)))

one_kind : (a k : Kind) → same_kind a k ≡ true → is_in a (k ∷ []) ≡ true
one_kind a k e = or_left false e

pub begins : {A : Type 0} (g : G A) → ok g ≡ true → Begins (IsPrefix g) (first g)
begins (tok k) o z zs f = one_kind z.kind k (tok_told k z zs f)
begins (pure a) o z zs (inl s) = absurd s
begins (pure a) o z zs (inr (x, d)) = absurd (no_cons d.0)
begins (seq g h) o z zs f =
    let k = seq_ok g h o in
    joined_begun (Derives g) (Starts g) (λ a. IsPrefix h) (null g) (first g) (first h) (empties g) (begins g k.0) (λ a. begins h k.1) z zs (seq_through g h (z ∷ zs) f)
begins (alt g h) o z zs (inl (inl s)) = in_left z.kind (first g) (first h) (begins g (alt_ok g h o).0 z zs (inl s))
begins (alt g h) o z zs (inl (inr s)) = in_right z.kind (first g) (first h) (begins h (alt_ok g h o).1 z zs (inl s))
begins (alt g h) o z zs (inr (x, inl d)) = in_left z.kind (first g) (first h) (begins g (alt_ok g h o).0 z zs (inr (x, d)))
begins (alt g h) o z zs (inr (x, inr d)) = in_right z.kind (first g) (first h) (begins h (alt_ok g h o).1 z zs (inr (x, d)))
begins (map f g) o z zs (inl s) = begins g o z zs (inl s)
begins (map f g) o z zs (inr (x, d)) = begins g o z zs (inr (d.0, d.1))
begins (skip k g) o z zs f = one_kind z.kind k (skip_told k g z zs f)
begins (chain f g h) o z zs t =
    let k = chain_ok f g h o in
    joined_begun (Derives g) (Starts g) (λ a. RepetitionPrefixes (Derives h) (Starts h)) (null g) (first g) (first h) (empties g) (begins g k.0)
    (λ a. repetition_begins (Derives h) (Starts h) (some_text h k.2) (first h) (begins h k.1)) z zs (chain_through f g h (z ∷ zs) t)
begins (guard b g) o z zs (inl (inl s)) = begins g (guard_ok b g o).0 z zs (inl s.0)
begins (guard b g) o z zs (inl (inr e)) = absurd (no_cons e)
begins (guard b g) o z zs (inr (x, d)) = begins g (guard_ok b g o).0 z zs (inr (x, d.0))
begins never o z zs (inl e) = absurd (no_cons e)
begins never o z zs (inr (x, d)) = absurd d
begins (limit n g) o z zs (inl s) = begins g (limit_ok n g o).0 z zs (inl s.0)
begins (limit n g) o z zs (inr (x, d)) = begins g (limit_ok n g o).0 z zs (inr (x, d.0))
begins (note ks g) o z zs (inl s) = begins g (note_ok ks g o).0 z zs (inl s)
begins (note ks g) o z zs (inr (x, d)) = begins g (note_ok ks g o).0 z zs (inr (x, d))

-- What goes on

no_more : (us : List Tok) (z : Tok) (zs : List Tok) → us ++ z ∷ zs ≡ [] → ⊥
no_more us z zs e = no_cons (append_none us (z ∷ zs) e).1

pub tok_goes : (k : Kind) → Goes (IsTok k) (Prefixes (IsTok k) (λ us. us ≡ [])) []
tok_goes k us x z zs d (inl e) = absurd (no_more us z zs e)
tok_goes k us x z zs d (inr (y, e)) = absurd (omega (arith, ap length d, ap length e, length-append us (z ∷ zs)))

pub pair_prefix : {A B : Type 0} (h : G B) (a : A) (ts : List Tok) → Prefixes {A = A × B} (λ us y. (y.0 ≡ a) × Derives h us y.1) (Starts h) ts → IsPrefix h ts
pair_prefix h a ts (inl s) = inl s
pair_prefix h a ts (inr (y, m)) = inr (y.1, m.1)

either_prefix : {A : Type 0} (g h : G A) (ts : List Tok) → IsPrefix (alt g h) ts → IsPrefix g ts ⊎ IsPrefix h ts
either_prefix g h ts (inl (inl s)) = inl (inl s)
either_prefix g h ts (inl (inr s)) = inr (inl s)
either_prefix g h ts (inr (x, inl d)) = inl (inr (x, d))
either_prefix g h ts (inr (x, inr d)) = inr (inr (x, d))

alt_goes : (A : Type 0) (g h : G A) (o : ok (alt g h) ≡ true) → Goes (Derives g) (IsPrefix g) (cont g) → Goes (Derives h) (IsPrefix h) (cont h)
    → (us : List Tok) (x : A) (z : Tok) (zs : List Tok) → Derives g us x ⊎ Derives h us x → IsPrefix g (us ++ z ∷ zs) ⊎ IsPrefix h (us ++ z ∷ zs) → is_in z.kind (cont (alt g h)) ≡ true
alt_goes A g h o go_g go_h us x z zs d f = go us refl d f
  where
    k : (ok g ≡ true) × (ok h ≡ true) × (not (null g) ≡ true) × (apart (first g) (first h) ≡ true)
    k = alt_ok g h o

    go : (vs : List Tok) → us ≡ vs → Derives g us x ⊎ Derives h us x → IsPrefix g (us ++ z ∷ zs) ⊎ IsPrefix h (us ++ z ∷ zs) → is_in z.kind (cont (alt g h)) ≡ true
    go vs e (inl d) (inl f) = in_left z.kind (cont g ++ cont h) (if null h then first g else []) (in_left z.kind (cont g) (cont h) (go_g us x z zs d f))
    go vs e (inr d) (inr f) = in_left z.kind (cont g ++ cont h) (if null h then first g else []) (in_right z.kind (cont g) (cont h) (go_h us x z zs d f))
    go [] e (inl d) (inr f) = absurd (some_text g k.2 x (rw e at d))
    go (v ∷ vs) e (inl d) (inr f) = absurd (apart_none v.kind (first g) (first h) k.3 (begins g k.0 v vs (inr (x, rw e at d))) (begins h k.1 v (vs ++ z ∷ zs) (rw e at f)))
    go [] e (inr d) (inl f) =
        let n : null h ≡ true = empties h x (rw e at d) in
        rw n (in_right z.kind (cont g ++ cont h) (first g) (begins g k.0 z zs (rw e at f)))
    go (v ∷ vs) e (inr d) (inl f) = absurd (apart_none v.kind (first g) (first h) k.3 (begins g k.0 v (vs ++ z ∷ zs) (rw e at f)) (begins h k.1 v vs (inr (x, rw e at d))))

pub goes : {A : Type 0} (g : G A) → ok g ≡ true → Goes (Derives g) (IsPrefix g) (cont g)
goes (tok k) o us x z zs d f = tok_goes k us x z zs d f
goes (pure a) o us x z zs d (inl s) = absurd s
goes (pure a) o us x z zs d (inr (y, e)) = absurd (no_more us z zs e.0)
goes (seq g h) o us x z zs d f =
    let k = seq_ok g h o in
    joined_goes (Derives g) (Starts g) (λ a vs y. (y.0 ≡ a) × Derives h vs y.1) (λ a. Starts h) (cont g) (first h) (goes g k.0)
    (λ a w ws t. begins h k.1 w ws (pair_prefix h a (w ∷ ws) t)) k.2 (null h) (cont h)
    (λ a y m. empties h y.1 m.1) (λ a b vs y w ws m t. goes h k.1 vs y.1 w ws m.1 (pair_prefix h b (vs ++ w ∷ ws) t)) us x z zs d f
goes {A} (alt g h) o us x z zs d f =
    let k = alt_ok g h o in
    alt_goes A g h o (goes g k.0) (goes h k.1) us x z zs d (either_prefix g h (us ++ z ∷ zs) f)
goes (map m g) o us x z zs d (inl s) = goes g o us d.0 z zs d.1 (inl s)
goes (map m g) o us x z zs d (inr (y, e)) = goes g o us d.0 z zs d.1 (inr (e.0, e.1))
goes (skip k g) o us x z zs d f =
    rw append-nil at (joined_goes (IsTok k) (λ vs. vs ≡ []) (λ a. Derives g) (λ a. Starts g) [] (first g) (tok_goes k) (λ a. begins g o) refl true (cont g)
    (λ a y m. refl) (λ a b vs y w ws m t. goes g o vs y w ws m t) us x z zs d f)
goes (chain j g h) o us x z zs d f =
    let k = chain_ok j g h o in
    joined_goes (Derives g) (Starts g) (Loop j (Derives h)) (λ a. RepetitionStarts (Derives h) (Starts h)) (cont g) (first h) (goes g k.0)
    (λ a w ws t. repetition_begins (Derives h) (Starts h) (some_text h k.2) (first h) (begins h k.1) w ws (loop_prefixes j (Derives h) (Starts h) a (w ∷ ws) t))
    k.3 true (first h ++ cont h) (λ a y m. refl)
    (λ a b vs y w ws m t. repetition_goes (Derives h) (Starts h) (some_text h k.2) (cont h) (first h) (goes h k.1) (begins h k.1) k.4 m.0 vs w ws m.1 (loop_prefixes j (Derives h) (Starts h) b (vs ++ w ∷ ws) t))
    us x z zs d f
goes (guard b g) o us x z zs d (inl (inl s)) = goes g (guard_ok b g o).0 us x z zs d.0 (inl s.0)
goes (guard b g) o us x z zs d (inl (inr e)) = absurd (no_more us z zs e)
goes (guard b g) o us x z zs d (inr (y, e)) = goes g (guard_ok b g o).0 us x z zs d.0 (inr (y, e.0))
goes never o us x z zs d f = absurd d
goes (limit n g) o us x z zs d (inl s) = goes g (limit_ok n g o).0 us x z zs d.0 (inl s.0)
goes (limit n g) o us x z zs d (inr (y, e)) = goes g (limit_ok n g o).0 us x z zs d.0 (inr (y, e.0))
goes (note ks g) o us x z zs d (inl s) = within_in z.kind (cont g) ks (note_ok ks g o).1 (goes g (note_ok ks g o).0 us x z zs d (inl s))
goes (note ks g) o us x z zs d (inr (y, e)) = within_in z.kind (cont g) ks (note_ok ks g o).1 (goes g (note_ok ks g o).0 us x z zs d (inr (y, e)))
