-- Facts on texts one behind another, as many as there are.
use Rattle.std.proofs.Common.{arith, ◌≡◌, ◌≤◌, ℕ, zero, suc, Bool, true, false, List, [], ◌∷◌, ◌++◌, length, length-append, append_assoc, refl, ap, sym, ◌∙◌}
use Rattle.std.specs.Prelude.{◌⊎◌, Ok, Err, if◌then◌else◌}
use mathlib.Core.Logic.{inl, inr}
use Rattle.sql_grammar.specs.declared.kind.Kind.{Kind}
use Rattle.sql_grammar.specs.Grammar.{Tok, Lang, Joined, Repetition, RepetitionStarts, Loop, folded, Outcome, and_then, loop, is_in, apart}
use Rattle.sql_grammar.proofs.Lists.{Meets, no_cons, append_none, in_left, in_right, opposed}
use Rattle.sql_grammar.proofs.Langs.{Begun, Prefixes, Through, Begins, Goes, Read, Good, split_goes, joined_good}

-- some of the texts, or some and a prefix of a further one
abbrev pub RepetitionPrefixes : {B : Type 0} → Lang B → Begun → Begun
RepetitionPrefixes L S ts = RepetitionStarts L S ts ⊎ ((bs : List _) × Repetition L bs ts)

pub loop_prefixes : {A B : Type 0} (f : A → B → A) (L : Lang B) (S : Begun) (a : A) (ts : List Tok) → Prefixes (Loop f L a) (RepetitionStarts L S) ts → RepetitionPrefixes L S ts
loop_prefixes f L S a ts (inl s) = inl s
loop_prefixes f L S a ts (inr (x, k)) = inr (k.0, k.1)

module _ {B : Type 0} (L : Lang B) (S : Begun) (no_empty : (b : B) → L [] b → ⊥) where
  -- what isn't empty begins with a text or with a prefix of one
  opens : (z : Tok) (zs : List Tok) → RepetitionPrefixes L S (z ∷ zs) → Through L S (λ b. RepetitionPrefixes L S) (z ∷ zs)
  opens z zs (inr ([], e)) = absurd (no_cons e)
  opens z zs (inr (b ∷ bs, row)) = inr (record { prefix = row.0; back = row.1; value = b; parts = row.2; is_first = row.3; is_then = inr (bs, row.4) })
  opens z zs (inl ([], j)) =
      let e : j.prefix ≡ [] = j.is_first in
      let all : j.back ≡ z ∷ zs = sym (j.parts ∙ ap (λ us. us ++ j.back) e) in
      inl (rw all at j.is_then)
  opens z zs (inl (b ∷ bs, j)) =
      let row = j.is_first in
      inr (record {
        prefix = row.0;
        back = row.1 ++ j.back;
        value = b;
        parts = j.parts ∙ ap (λ us. us ++ j.back) row.2 ∙ append_assoc row.0 row.1 j.back;
        is_first = row.3;
        is_then = inl (bs, record { prefix = row.1; back = j.back; value = tt; parts = refl; is_first = row.4; is_then = j.is_then });
      })

  -- the first token begins one of the texts
  pub repetition_begun : (z : Tok) (zs : List Tok) → RepetitionPrefixes L S (z ∷ zs) → (ys : List Tok) × Prefixes L S (z ∷ ys)
  repetition_begun z zs f = go (opens z zs f)
    where
      first : (j : Joined {B = Unit {0}} L (λ b us u. RepetitionPrefixes L S us) (z ∷ zs) tt) (prefix : List Tok) → j.prefix ≡ prefix → (ys : List Tok) × Prefixes L S (z ∷ ys)
      first j [] e = absurd (no_empty j.value (rw e at j.is_first))
      first j (w ∷ ws) e =
          let all : z ∷ zs ≡ w ∷ (ws ++ j.back) = j.parts ∙ ap (λ us. us ++ j.back) e in
          let head : z ≡ w = cc in
          (ws, inr (j.value, rw (head, ← e) j.is_first))

      go : Through L S (λ b. RepetitionPrefixes L S) (z ∷ zs) → (ys : List Tok) × Prefixes L S (z ∷ ys)
      go (inl s) = (zs, inl s)
      go (inr j) = first j j.prefix refl

  pub repetition_begins : (js : List Kind) → Begins (Prefixes L S) js → Begins (RepetitionPrefixes L S) js
  repetition_begins js begins z zs f = let k = repetition_begun z zs f in begins z k.0 k.1

  pub repetition_goes : (ks js : List Kind) → Goes L (Prefixes L S) ks → Begins (Prefixes L S) js → apart ks js ≡ true
      → (bs : List B) (us : List Tok) (z : Tok) (zs : List Tok) → Repetition L bs us → RepetitionPrefixes L S (us ++ z ∷ zs) → is_in z.kind (js ++ ks) ≡ true
  repetition_goes ks js goes begins are_apart [] us z zs row f =
      let e : us ≡ [] = row in
      in_left z.kind js ks (repetition_begins js begins z zs (rw e at f))
  repetition_goes ks js goes begins are_apart (b ∷ bs) us z zs row f = go_on (repetition_goes ks js goes begins are_apart bs row.1 z zs row.4)
    where
      all : us ++ z ∷ zs ≡ (row.0 ++ row.1) ++ z ∷ zs
      all = ap (λ ts. ts ++ z ∷ zs) row.2

      go : (RepetitionPrefixes L S (row.1 ++ z ∷ zs) → is_in z.kind (js ++ ks) ≡ true) → ((row.1 ≡ []) × (is_in z.kind ks ≡ true)) ⊎ (B × RepetitionPrefixes L S (row.1 ++ z ∷ zs)) → is_in z.kind (js ++ ks) ≡ true
      go on (inl (n, i)) = in_right z.kind js ks i
      go on (inr (c, g)) = on g

      split : (ws : List Tok) → row.0 ≡ ws → ((row.1 ≡ []) × (is_in z.kind ks ≡ true)) ⊎ (B × RepetitionPrefixes L S (row.1 ++ z ∷ zs))
      split [] n = absurd (no_empty b (rw n at row.3))
      split (w ∷ ws) n =
          let whole : RepetitionPrefixes L S (w ∷ ((ws ++ row.1) ++ z ∷ zs)) = rw (all, n) at f in
          let t : Through L S (λ b. RepetitionPrefixes L S) ((row.0 ++ row.1) ++ z ∷ zs) = rw n (opens w ((ws ++ row.1) ++ z ∷ zs) whole) in
          split_goes L S (λ b. RepetitionPrefixes L S) ks js goes (λ c. repetition_begins js begins) are_apart row.0 row.1 b z zs row.3 (inr (bs, row.4)) t

      go_on : (RepetitionPrefixes L S (row.1 ++ z ∷ zs) → is_in z.kind (js ++ ks) ≡ true) → is_in z.kind (js ++ ks) ≡ true
      go_on on = go on (split row.0 refl)

-- A loop reads as many as there are

module _ {A B : Type 0} (f : A → B → A) (L : Lang B) (S : Begun) (p : List Tok → Bool) (ks js : List Kind) (no_empty : (b : B) → L [] b → ⊥)
    (goes : Goes L (Prefixes L S) ks) (begins : Begins (Prefixes L S) js) (are_apart : apart ks js ≡ true)
    (tells : (z : Tok) (zs more : List Tok) → Prefixes L S (z ∷ zs) → p (z ∷ more) ≡ true)
    (read : List Tok → Outcome B) (reads : (ts : List Tok) → Good L S (p ts) ts (read ts)) where
  none_begun : (ts ws : List Tok) → p ts ≡ false → Meets ws ts → RepetitionPrefixes L S ws → ws ≡ []
  none_begun ts [] e m r = refl
  none_begun [] (w ∷ ws) e m r = absurd m
  none_begun (t ∷ ts) (w ∷ ws) e m r =
      let k = repetition_begun L S no_empty w ws r in
      let head : w ≡ t = m in
      absurd (opposed e (rw head at (tells w k.0 ts k.1)))

  stops : (a : A) (ts : List Tok) → p ts ≡ false → Read (Loop f L a) (RepetitionStarts L S) (p ts) ts a ts
  stops a ts e = record {
    prefix = [];
    is_prefix = refl;
    reads = ([], refl, refl);
    only = λ ws y m k. only ws y m k (none_begun ts ws e m (inr (k.0, k.1)));
    ends = λ ws m s. none_begun ts ws e m (inl s);
    takes = λ t n. opposed e t;
  }
    where
      valued : (y : A) (bs : List B) → Repetition L bs [] → y ≡ folded f a bs → y ≡ a
      valued y [] row v = v
      valued y (b ∷ bs) row v =
          let none : row.0 ≡ [] = (append_none row.0 row.1 (sym row.2)).0 in
          absurd (no_empty b (rw none at row.3))

      only : (ws : List Tok) (y : A) → Meets ws ts → Loop f L a ws y → ws ≡ [] → (ws ≡ []) × (y ≡ a)
      only ws y m k n = (n, valued y k.0 (rw n at k.1) k.2)

  nothing : (o : Outcome B) → Good L S (p []) [] o → p [] ≡ false
  nothing o g = go (p []) refl o g
    where
      go : (q : Bool) → p [] ≡ q → (o : Outcome B) → Good L S (p []) [] o → p [] ≡ false
      go false e o g = e
      go true e (Ok r) g = absurd (g.takes e (append_none g.prefix r.1 (sym g.is_prefix)).0)
      go true e (Err rest) g = absurd (g.takes e (append_none g.prefix rest (sym g.is_prefix)).0)

  -- a first text and then the others are such texts
  first_and : (a : A) (ts : List Tok) (x : A) → Joined L (λ b. Loop f L (f a b)) ts x → Loop f L a ts x
  first_and a ts x j = (j.value ∷ j.is_then.0, (j.prefix, j.back, j.parts, j.is_first, j.is_then.1), j.is_then.2)

  first_starts : (a : A) (ts : List Tok) → Through L S (λ b. RepetitionStarts L S) ts → RepetitionStarts L S ts
  first_starts a ts (inl s) = ([], record { prefix = []; back = ts; value = tt; parts = refl; is_first = refl; is_then = s })
  first_starts a ts (inr j) =
      let k = j.is_then.1 in (
        j.value ∷ j.is_then.0,
        record {
          prefix = j.prefix ++ k.prefix;
          back = k.back;
          value = tt;
          parts = j.parts ∙ ap (λ us. j.prefix ++ us) k.parts ∙ sym (append_assoc j.prefix k.prefix k.back);
          is_first = (j.prefix, k.prefix, refl, j.is_first, k.is_first);
          is_then = k.is_then;
        },
      )

  -- and the other way round, where there is a token
  and_first : (a : A) (ts : List Tok) (x : A) → (ts ≡ [] → ⊥) → Loop f L a ts x → Joined L (λ b. Loop f L (f a b)) ts x
  and_first a ts x some k = go k.0 k.1 k.2
    where
      go : (bs : List B) → Repetition L bs ts → x ≡ folded f a bs → Joined L (λ b. Loop f L (f a b)) ts x
      go [] row v = absurd (some row)
      go (b ∷ bs) row v = record { prefix = row.0; back = row.1; value = b; parts = row.2; is_first = row.3; is_then = (bs, row.4, v) }

  starts_first : (ts : List Tok) → RepetitionStarts L S ts → Through L S (λ b. RepetitionStarts L S) ts
  starts_first ts k = go k.0 k.1
    where
      go : (bs : List B) → Joined {B = Unit {0}} (λ us (v : Unit {0}). Repetition L bs us) (λ v us w. S us) ts tt → Through L S (λ b. RepetitionStarts L S) ts
      go [] j =
          let none : j.prefix ≡ [] = j.is_first in
          let all : j.back ≡ ts = sym (j.parts ∙ ap (λ us. us ++ j.back) none) in
          inl (rw all at j.is_then)
      go (b ∷ bs) j =
          let row = j.is_first in
          inr (record {
            prefix = row.0;
            back = row.1 ++ j.back;
            value = b;
            parts = j.parts ∙ ap (λ us. us ++ j.back) row.2 ∙ append_assoc row.0 row.1 j.back;
            is_first = row.3;
            is_then = (bs, record { prefix = row.1; back = j.back; value = tt; parts = refl; is_first = row.4; is_then = j.is_then });
          })

  turned : (a : A) (ts : List Tok) (o : Outcome A) → Good (Joined L (λ b. Loop f L (f a b))) (Through L S (λ b. RepetitionStarts L S)) true ts o → Good (Loop f L a) (RepetitionStarts L S) true ts o
  turned a ts (Ok r) g = record {
    prefix = g.prefix;
    is_prefix = g.is_prefix;
    reads = first_and a g.prefix r.0 g.reads;
    only = λ ws y m k. g.only ws y m (and_first a (g.prefix ++ ws) y (λ e. g.takes refl (append_none g.prefix ws e).0) k);
    ends = λ ws m s. g.ends ws m (starts_first (g.prefix ++ ws) s);
    takes = g.takes;
  }
  turned a ts (Err rest) g = record {
    prefix = g.prefix;
    is_prefix = g.is_prefix;
    starts = first_starts a g.prefix g.starts;
    none = λ ws y m k. g.none ws y m (and_first a (g.prefix ++ ws) y (λ e. g.takes refl (append_none g.prefix ws e).0) k);
    ends = λ ws m s. g.ends ws m (starts_first (g.prefix ++ ws) s);
    takes = g.takes;
  }

  shorter : (prefix rest ts : List Tok) (n : ℕ) → ts ≡ prefix ++ rest → (prefix ≡ [] → ⊥) → length ts ≤ suc n → length rest ≤ n
  shorter [] rest ts n e some h = absurd (some refl)
  shorter (x ∷ prefix) rest ts n e some h = omega (arith, ap length e, length-append (x ∷ prefix) rest)

  after_begins : (a : A) → Begins (Prefixes (Loop f L a) (RepetitionStarts L S)) js
  after_begins a z zs k = repetition_begins L S no_empty js begins z zs (loop_prefixes f L S a (z ∷ zs) k)

  pub loop_good : (n : ℕ) (a : A) (ts : List Tok) → length ts ≤ n → Good (Loop f L a) (RepetitionStarts L S) (p ts) ts (loop f p read n a ts)
  loop_good zero a [] h = stops a [] (nothing (read []) (reads []))
  loop_good zero a (t ∷ ts) h = absurd (omega arith)
  loop_good (suc n) a ts h = go (p ts) refl (loop_good n)
    where
      go : (q : Bool) → p ts ≡ q → ((b : A) (us : List Tok) → length us ≤ n → Good (Loop f L b) (RepetitionStarts L S) (p us) us (loop f p read n b us))
          → Good (Loop f L a) (RepetitionStarts L S) (p ts) ts (if p ts then and_then (read ts) (λ b rest. loop f p read n (f a b) rest) else Ok (a, ts))
      go true e more = rw e (turned a ts (and_then (read ts) (λ b rest. loop f p read n (f a b) rest))
          (joined_good L S (λ b. Loop f L (f a b)) (λ b. RepetitionStarts L S) ks js goes (λ b. after_begins (f a b)) are_apart true true p ts (λ t. inl refl)
          (read ts) (λ b rest. loop f p read n (f a b) rest) (rw e at (reads ts))
          (λ b rest r. more (f a b) rest (shorter r.prefix rest ts n r.is_prefix (r.takes refl) h))))
      go false e more = rw e (rw e at (stops a ts e))
