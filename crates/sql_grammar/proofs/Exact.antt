-- Reading with one token ahead is exact, for each rule that passes the check.
use Rattle.std.proofs.Common.{arith, ◌≡◌, ◌≤◌, ℕ, zero, suc, Bool, true, false, ◌&&◌, ◌||◌, List, [], ◌∷◌, ◌++◌, length, take, drop, length-append, append_assoc, refl, ap, sym, ◌∙◌}
use Rattle.std.specs.Prelude.{◌⊎◌, Ok, Err, nat_lt, if◌then◌else◌}
use Rattle.std.proofs.lemmas.List.{take-append-drop, length-take}
use mathlib.Core.Logic.{inl, inr}
use Rattle.sql_grammar.specs.declared.kind.Kind.{Kind}
use Rattle.sql_grammar.specs.Kinds.{same_kind}
use Rattle.sql_grammar.specs.Grammar.{Tok, G, tok, pure, seq, alt, map, skip, chain, guard, never, limit, note, Lang, RepetitionStarts, Loop, IsTok, Derives, Starts, IsPrefix, null, at, first, cont, ok, next_is, Outcome, and_then, take_tok, after_tok, loop, put_back, parse}
use Rattle.sql_grammar.proofs.KindPlaces.{same_eq, same_refl}
use Rattle.sql_grammar.proofs.Lists.{Meets, meets_nil, meets_append, no_cons, append_none, opposed, either, both, apart_none}
use Rattle.sql_grammar.proofs.Langs.{Begun, Refused, Good, joined_good}
use Rattle.sql_grammar.proofs.Repetitions.{loop_prefixes, repetition_begins, loop_good}
use Rattle.sql_grammar.proofs.Rules.{seq_ok, alt_ok, chain_ok, guard_ok, limit_ok, note_ok, fills, tells, begins, goes, tok_goes, pair_prefix, some_text}

-- One token

none_left : (ws rest : List Tok) → ws ≡ [] → Meets ws rest
none_left ws rest e = rw e tt

tok_good : (k : Kind) (ts : List Tok) → Good (IsTok k) (λ us. us ≡ []) (next_is k ts) ts (take_tok k ts)
tok_good k [] = record {
  prefix = [];
  is_prefix = refl;
  starts = refl;
  none = λ ws y m d. no_cons (sym d ∙ meets_nil ws m);
  ends = λ ws m e. e;
  takes = λ e f. absurd cc;
}
tok_good k (t ∷ ts) = go (same_kind t.kind k) refl
  where
    met : (ws : List Tok) (y : List ℕ) → Meets ws (t ∷ ts) → IsTok k ws y → same_kind t.kind k ≡ true
    met [] y m d = absurd (no_cons (sym d))
    met (w ∷ ws) y m d =
        let head : w ≡ t = m in
        let this : w ≡ record { kind = k; text = y } = cc in
        rw (← head, this) (same_refl k)

    only : t.kind ≡ k → (ws : List Tok) (y : List ℕ) → t ∷ ws ≡ record { kind = k; text = y } ∷ [] → (ws ≡ []) × (y ≡ t.text)
    only e ws y d =
        let head : t ≡ record { kind = k; text = y } = cc in
        (cc, sym (ap (λ u. u.text) head))

    go : (q : Bool) → same_kind t.kind k ≡ q → Good (IsTok k) (λ us. us ≡ []) (same_kind t.kind k) (t ∷ ts) (if same_kind t.kind k then Ok (t.text, ts) else Err (t ∷ ts))
    go true e = rw e (record {
      prefix = t ∷ [];
      is_prefix = refl;
      reads = ap (λ j. record { kind = j; text = t.text } ∷ []) (same_eq t.kind k e);
      only = λ ws y m d. only (same_eq t.kind k e) ws y d;
      ends = λ ws m s. absurd (no_cons s);
      takes = λ u f. no_cons f;
    })
    go false e = rw e (record {
      prefix = [];
      is_prefix = refl;
      starts = refl;
      none = λ ws y m d. opposed e (met ws y m d);
      ends = λ ws m s. s;
      takes = λ u f. absurd cc;
    })

after_is : {A : Type 0} (k : Kind) (read : List Tok → Outcome A) (ts : List Tok) → and_then (take_tok k ts) (λ a rest. read rest) ≡ after_tok k read ts
after_is k read [] = refl
after_is {A} k read (t ∷ ts) = go (same_kind t.kind k)
  where
    go : (q : Bool) → and_then {A = List ℕ} {B = A} (if q then Ok (t.text, ts) else Err (t ∷ ts)) (λ a rest. read rest) ≡ (if q then read ts else Err (t ∷ ts))
    go true = refl
    go false = refl

-- The same texts under another name

mapped_good : {A B : Type 0} (f : A → B) (L : Lang A) (S : Begun) (p : Bool) (ts : List Tok) (o : Outcome A) → Good L S p ts o
    → Good (λ us y. (a : A) × L us a × (y ≡ f a)) S p ts (and_then o (λ a rest. Ok (f a, rest)))
mapped_good f L S p ts (Ok r) g = record {
  prefix = g.prefix;
  is_prefix = g.is_prefix;
  reads = (r.0, g.reads, refl);
  only = λ ws y m d. let k = g.only ws d.0 m d.1 in (k.0, d.2 ∙ ap f k.1);
  ends = g.ends;
  takes = g.takes;
}
mapped_good f L S p ts (Err rest) g = record {
  prefix = g.prefix;
  is_prefix = g.is_prefix;
  starts = g.starts;
  none = λ ws y m d. g.none ws d.0 m d.1;
  ends = g.ends;
  takes = g.takes;
}

pair : {A B : Type 0} (y : A × B) (a : A) (b : B) → y.0 ≡ a → y.1 ≡ b → y ≡ (a, b)
pair {A} {B} y a b e f =
    let one : y ≡ (a, y.1) = ap {B = A × B} (λ u. (u, y.1)) e in
    let two : (a, y.1) ≡ (a, b) = ap {B = A × B} (λ v. (a, v)) f in
    one ∙ two

paired_good : {A B : Type 0} (a : A) (L : Lang B) (S : Begun) (p : Bool) (ts : List Tok) (o : Outcome B) → Good L S p ts o
    → Good {A = A × B} (λ us y. (y.0 ≡ a) × L us y.1) S p ts (and_then o (λ b end. Ok ((a, b), end)))
paired_good a L S p ts (Ok r) g = record {
  prefix = g.prefix;
  is_prefix = g.is_prefix;
  reads = (refl, g.reads);
  only = λ ws y m d. let k = g.only ws y.1 m d.1 in (k.0, pair y a r.0 d.0 k.1);
  ends = g.ends;
  takes = g.takes;
}
paired_good a L S p ts (Err rest) g = record {
  prefix = g.prefix;
  is_prefix = g.is_prefix;
  starts = g.starts;
  none = λ ws y m d. g.none ws y.1 m d.1;
  ends = g.ends;
  takes = g.takes;
}

-- With a flag

forbidden : {A : Type 0} (L : Lang A) (S : Begun) (ts : List Tok) → Refused {A = A} (λ us y. L us y × (false ≡ true)) (λ us. (S us × (false ≡ true)) ⊎ (us ≡ [])) false ts ts
forbidden L S ts = record {
  prefix = [];
  is_prefix = refl;
  starts = inr refl;
  none = λ ws y m d. opposed refl d.1;
  ends = λ ws m s. ends ws s;
  takes = λ e f. opposed refl e;
}
  where
    ends : (ws : List Tok) → (S ws × (false ≡ true)) ⊎ (ws ≡ []) → ws ≡ []
    ends ws (inl s) = absurd (opposed refl s.1)
    ends ws (inr e) = e

allowed : {A : Type 0} (L : Lang A) (S : Begun) (p : Bool) (ts : List Tok) (o : Outcome A) → Good L S p ts o → Good {A = A} (λ us y. L us y × (true ≡ true)) (λ us. (S us × (true ≡ true)) ⊎ (us ≡ [])) p ts o
allowed L S p ts (Ok r) g = record {
  prefix = g.prefix;
  is_prefix = g.is_prefix;
  reads = (g.reads, refl);
  only = λ ws y m d. g.only ws y m d.0;
  ends = λ ws m s. ends ws m s;
  takes = g.takes;
}
  where
    ends : (ws : List Tok) → Meets ws r.1 → (S (g.prefix ++ ws) × (true ≡ true)) ⊎ (g.prefix ++ ws ≡ []) → ws ≡ []
    ends ws m (inl s) = g.ends ws m s.0
    ends ws m (inr e) = (append_none g.prefix ws e).1
allowed L S p ts (Err rest) g = record {
  prefix = g.prefix;
  is_prefix = g.is_prefix;
  starts = inl (g.starts, refl);
  none = λ ws y m d. g.none ws y m d.0;
  ends = λ ws m s. ends ws m s;
  takes = g.takes;
}
  where
    ends : (ws : List Tok) → Meets ws rest → (S (g.prefix ++ ws) × (true ≡ true)) ⊎ (g.prefix ++ ws ≡ []) → ws ≡ []
    ends ws m (inl s) = g.ends ws m s.0
    ends ws m (inr e) = (append_none g.prefix ws e).1

guard_good : {A : Type 0} (b : Bool) (L : Lang A) (S : Begun) (p : Bool) (ts : List Tok) (o : Outcome A) → Good L S p ts o
    → Good {A = A} (λ us y. L us y × (b ≡ true)) (λ us. (S us × (b ≡ true)) ⊎ (us ≡ [])) (b && p) ts (if b then o else Err ts)
guard_good true L S p ts o g = allowed L S p ts o g
guard_good false L S p ts o g = forbidden L S ts

-- Of at most so many tokens

-- what is within the limit sees the first token behind the tokens that are looked at only where it may still take one
limit_meets : (n : ℕ) (prefix rest more ws : List Tok) → length (prefix ++ rest) ≡ n ⊎ (more ≡ []) → Meets ws (rest ++ more) → length (prefix ++ ws) ≤ n → Meets ws rest
limit_meets n prefix (r ∷ rest) more ws k m h = meets_on r rest (rest ++ more) ws m
  where
    meets_on : (r : Tok) (xs ys ws : List Tok) → Meets ws (r ∷ ys) → Meets ws (r ∷ xs)
    meets_on r xs ys [] m = tt
    meets_on r xs ys (w ∷ ws) m = m
limit_meets n prefix [] more [] k m h = tt
limit_meets n prefix [] more (w ∷ ws) (inl e) m h = absurd (omega (arith, e, length-append prefix (w ∷ ws), length-append prefix []))
limit_meets n prefix [] more (w ∷ ws) (inr e) m h = rw e at m

looked_at : (n : ℕ) (ts : List Tok) → (length (take n ts) ≡ n) ⊎ (drop n ts ≡ [])
looked_at zero ts = inl refl
looked_at (suc n) [] = inr refl
looked_at (suc n) (t ∷ ts) = elim (looked_at n ts) [
  | inl e ↦ inl (ap (λ k. suc k) e)
  | inr e ↦ inr e
]

-- the next token alone tells whether a text begins
at_next : {A : Type 0} (g : G A) (t : Tok) (xs ys : List Tok) → at g (t ∷ xs) ≡ at g (t ∷ ys)
at_next (tok k) t xs ys = refl
at_next (pure a) t xs ys = refl
at_next (seq g h) t xs ys = rw (at_next g t xs ys, at_next h t xs ys) refl
at_next (alt g h) t xs ys = rw (at_next g t xs ys, at_next h t xs ys) refl
at_next (map f g) t xs ys = at_next g t xs ys
at_next (skip k g) t xs ys = refl
at_next (chain f g h) t xs ys = rw (at_next g t xs ys, at_next h t xs ys) refl
at_next (guard b g) t xs ys = ap (λ q. b && q) (at_next g t xs ys)
at_next never t xs ys = refl
at_next (limit n g) t xs ys = at_next g t xs ys
at_next (note ks g) t xs ys = at_next g t xs ys

at_take : {A : Type 0} (g : G A) (n : ℕ) (ts : List Tok) → nat_lt 0 n ≡ true → at g ts ≡ true → at g (take n ts) ≡ true
at_take g zero ts h e = absurd cc
at_take g (suc n) [] h e = e
at_take g (suc n) (t ∷ ts) h e = rw (at_next g t (take n ts) ts) e

module _ {A : Type 0} (n : ℕ) (L : Lang A) (S : Begun) (p q : Bool) (ts : List Tok) (t : q ≡ true → p ≡ true) where
  whole : (prefix rest : List Tok) → take n ts ≡ prefix ++ rest → ts ≡ prefix ++ (rest ++ drop n ts)
  whole prefix rest e = sym (take-append-drop n ts) ∙ ap (λ us. us ++ drop n ts) e ∙ append_assoc prefix rest (drop n ts)

  fits : (prefix rest : List Tok) → take n ts ≡ prefix ++ rest → length prefix ≤ n
  fits prefix rest e = omega (arith, ap length e, length-append prefix rest, length-take n ts)

  meets : (prefix rest ws : List Tok) → take n ts ≡ prefix ++ rest → Meets ws (rest ++ drop n ts) → length (prefix ++ ws) ≤ n → Meets ws rest
  meets prefix rest ws e m h = limit_meets n prefix rest (drop n ts) ws (rw e at (looked_at n ts)) m h

  limit_good : (o : Outcome A) → Good L S p (take n ts) o → Good {A = A} (λ us y. L us y × (length us ≤ n)) (λ us. S us × (length us ≤ n)) q ts (put_back (drop n ts) o)
  limit_good (Ok r) g = record {
    prefix = g.prefix;
    is_prefix = whole g.prefix r.1 g.is_prefix;
    reads = (g.reads, fits g.prefix r.1 g.is_prefix);
    only = λ ws y m d. g.only ws y (meets g.prefix r.1 ws g.is_prefix m d.1) d.0;
    ends = λ ws m s. g.ends ws (meets g.prefix r.1 ws g.is_prefix m s.1) s.0;
    takes = λ e f. g.takes (t e) f;
  }
  limit_good (Err rest) g = record {
    prefix = g.prefix;
    is_prefix = whole g.prefix rest g.is_prefix;
    starts = (g.starts, fits g.prefix rest g.is_prefix);
    none = λ ws y m d. g.none ws y (meets g.prefix rest ws g.is_prefix m d.1) d.0;
    ends = λ ws m s. g.ends ws (meets g.prefix rest ws g.is_prefix m s.1) s.0;
    takes = λ e f. g.takes (t e) f;
  }

-- Of two

module _ {A : Type 0} (g h : G A) (o : ok (alt g h) ≡ true) (ts : List Tok) where
  -- what begins with a prefix of the first is none of the second
  not_second : (prefix ws : List Tok) → (prefix ≡ [] → ⊥) → IsPrefix g prefix → IsPrefix h (prefix ++ ws) → ⊥
  not_second [] ws some f e = some refl
  not_second (v ∷ vs) ws some f e = let k = alt_ok g h o in apart_none v.kind (first g) (first h) k.3 (begins g k.0 v vs f) (begins h k.1 v (vs ++ ws) e)

  -- where the next token begins none of the first, only the empty text is a prefix of it
  not_first : (vs us : List Tok) → at g us ≡ false → Meets vs us → IsPrefix g vs → vs ≡ []
  not_first [] us e m f = refl
  not_first (v ∷ vs) [] e m f = absurd m
  not_first (v ∷ vs) (u ∷ us) e m f =
      let head : v ≡ u = m in
      absurd (opposed e (rw head at (tells g (alt_ok g h o).0 v vs us f)))

  left : (r : Outcome A) → Good (Derives g) (Starts g) true ts r → Good (Derives (alt g h)) (Starts (alt g h)) true ts r
  left (Ok r) a = record {
    prefix = a.prefix;
    is_prefix = a.is_prefix;
    reads = inl a.reads;
    only = λ ws y m d. only ws y m d;
    ends = λ ws m s. ends ws m s;
    takes = a.takes;
  }
    where
      only : (ws : List Tok) (y : A) → Meets ws r.1 → Derives g (a.prefix ++ ws) y ⊎ Derives h (a.prefix ++ ws) y → (ws ≡ []) × (y ≡ r.0)
      only ws y m (inl d) = a.only ws y m d
      only ws y m (inr d) = absurd (not_second a.prefix ws (a.takes refl) (inr (r.0, a.reads)) (inr (y, d)))

      ends : (ws : List Tok) → Meets ws r.1 → Starts g (a.prefix ++ ws) ⊎ Starts h (a.prefix ++ ws) → ws ≡ []
      ends ws m (inl s) = a.ends ws m s
      ends ws m (inr s) = absurd (not_second a.prefix ws (a.takes refl) (inr (r.0, a.reads)) (inl s))
  left (Err rest) a = record {
    prefix = a.prefix;
    is_prefix = a.is_prefix;
    starts = inl a.starts;
    none = λ ws y m d. none ws y m d;
    ends = λ ws m s. ends ws m s;
    takes = a.takes;
  }
    where
      none : (ws : List Tok) (y : A) → Meets ws rest → Derives g (a.prefix ++ ws) y ⊎ Derives h (a.prefix ++ ws) y → ⊥
      none ws y m (inl d) = a.none ws y m d
      none ws y m (inr d) = not_second a.prefix ws (a.takes refl) (inl a.starts) (inr (y, d))

      ends : (ws : List Tok) → Meets ws rest → Starts g (a.prefix ++ ws) ⊎ Starts h (a.prefix ++ ws) → ws ≡ []
      ends ws m (inl s) = a.ends ws m s
      ends ws m (inr s) = absurd (not_second a.prefix ws (a.takes refl) (inl a.starts) (inl s))

  right : at g ts ≡ false → (r : Outcome A) → Good (Derives h) (Starts h) (at h ts) ts r → Good (Derives (alt g h)) (Starts (alt g h)) (at h ts) ts r
  right e (Ok r) b = record {
    prefix = b.prefix;
    is_prefix = b.is_prefix;
    reads = inr b.reads;
    only = λ ws y m d. only ws y m d;
    ends = λ ws m s. ends ws m s;
    takes = b.takes;
  }
    where
      met : (ws : List Tok) → Meets ws r.1 → Meets (b.prefix ++ ws) ts
      met ws m = rw b.is_prefix (meets_append b.prefix ws r.1 m)

      only : (ws : List Tok) (y : A) → Meets ws r.1 → Derives g (b.prefix ++ ws) y ⊎ Derives h (b.prefix ++ ws) y → (ws ≡ []) × (y ≡ r.0)
      only ws y m (inl d) =
          let n : b.prefix ++ ws ≡ [] = not_first (b.prefix ++ ws) ts e (met ws m) (inr (y, d)) in
          absurd (some_text g (alt_ok g h o).2 y (rw n at d))
      only ws y m (inr d) = b.only ws y m d

      ends : (ws : List Tok) → Meets ws r.1 → Starts g (b.prefix ++ ws) ⊎ Starts h (b.prefix ++ ws) → ws ≡ []
      ends ws m (inl s) = (append_none b.prefix ws (not_first (b.prefix ++ ws) ts e (met ws m) (inl s))).1
      ends ws m (inr s) = b.ends ws m s
  right e (Err rest) b = record {
    prefix = b.prefix;
    is_prefix = b.is_prefix;
    starts = inr b.starts;
    none = λ ws y m d. none ws y m d;
    ends = λ ws m s. ends ws m s;
    takes = b.takes;
  }
    where
      met : (ws : List Tok) → Meets ws rest → Meets (b.prefix ++ ws) ts
      met ws m = rw b.is_prefix (meets_append b.prefix ws rest m)

      none : (ws : List Tok) (y : A) → Meets ws rest → Derives g (b.prefix ++ ws) y ⊎ Derives h (b.prefix ++ ws) y → ⊥
      none ws y m (inl d) =
          let n : b.prefix ++ ws ≡ [] = not_first (b.prefix ++ ws) ts e (met ws m) (inr (y, d)) in
          some_text g (alt_ok g h o).2 y (rw n at d)
      none ws y m (inr d) = b.none ws y m d

      ends : (ws : List Tok) → Meets ws rest → Starts g (b.prefix ++ ws) ⊎ Starts h (b.prefix ++ ws) → ws ≡ []
      ends ws m (inl s) = (append_none b.prefix ws (not_first (b.prefix ++ ws) ts e (met ws m) (inl s))).1
      ends ws m (inr s) = b.ends ws m s

  alt_good : Good (Derives g) (Starts g) (at g ts) ts (parse g ts) → Good (Derives h) (Starts h) (at h ts) ts (parse h ts)
      → Good (Derives (alt g h)) (Starts (alt g h)) (at g ts || at h ts) ts (if at g ts then parse g ts else parse h ts)
  alt_good a b = go (at g ts) refl
    where
      go : (q : Bool) → at g ts ≡ q → Good (Derives (alt g h)) (Starts (alt g h)) (at g ts || at h ts) ts (if at g ts then parse g ts else parse h ts)
      go true e = rw e (left (parse g ts) (rw e at a))
      go false e = rw e (right e (parse h ts) b)

-- Every rule

taken : {A : Type 0} (g : G A) (q : Bool) (ts : List Tok) (p : List Tok → Bool) → ok g ≡ true → q || (null g && p ts) ≡ true → (q ≡ true) ⊎ (((a : A) × Derives g [] a) × (p ts ≡ true))
taken g q ts p o e = elim (either {a = q} {b = null g && p ts} e) [
  | inl k ↦ inl k
  | inr k ↦ let n = both {a = null g} {b = p ts} k in inr (fills g o n.0, n.1)
]

pub exact : {A : Type 0} (g : G A) → ok g ≡ true → (ts : List Tok) → Good (Derives g) (Starts g) (at g ts) ts (parse g ts)
exact (tok k) o ts = tok_good k ts
exact (pure a) o ts = record {
  prefix = [];
  is_prefix = refl;
  reads = (refl, refl);
  only = λ ws y m d. d;
  ends = λ ws m s. absurd s;
  takes = λ e f. opposed refl e;
}
exact (seq g h) o ts =
    let k = seq_ok g h o in
    joined_good (Derives g) (Starts g) (λ a us y. (y.0 ≡ a) × Derives h us y.1) (λ a. Starts h) (cont g) (first h) (goes g k.0)
    (λ a z zs f. begins h k.1 z zs (pair_prefix h a (z ∷ zs) f)) k.2 (at g ts || (null g && at h ts)) (at g ts) (at h) ts (taken g (at g ts) ts (at h) k.0)
    (parse g ts) (λ a rest. and_then (parse h rest) (λ b end. Ok ((a, b), end))) (exact g k.0 ts)
    (λ a rest r. paired_good a (Derives h) (Starts h) (at h rest) rest (parse h rest) (exact h k.1 rest))
exact (alt g h) o ts = let k = alt_ok g h o in alt_good g h o ts (exact g k.0 ts) (exact h k.1 ts)
exact (map f g) o ts = mapped_good f (Derives g) (Starts g) (at g ts) ts (parse g ts) (exact g o ts)
exact (skip k g) o ts =
    rw (after_is k (parse g) ts) at (joined_good (IsTok k) (λ us. us ≡ []) (λ a. Derives g) (λ a. Starts g) [] (first g) (tok_goes k) (λ a. begins g o) refl (next_is k ts) (next_is k ts) (at g) ts (λ e. inl e)
    (take_tok k ts) (λ a rest. parse g rest) (tok_good k ts) (λ a rest r. exact g o rest))
exact (chain f g h) o ts =
    let k = chain_ok f g h o in
    joined_good (Derives g) (Starts g) (Loop f (Derives h)) (λ a. RepetitionStarts (Derives h) (Starts h)) (cont g) (first h) (goes g k.0)
    (λ a z zs t. repetition_begins (Derives h) (Starts h) (some_text h k.2) (first h) (begins h k.1) z zs (loop_prefixes f (Derives h) (Starts h) a (z ∷ zs) t)) k.3
    (at g ts || (null g && at h ts)) (at g ts) (at h) ts (taken g (at g ts) ts (at h) k.0)
    (parse g ts) (λ a rest. loop f (at h) (parse h) (length rest) a rest) (exact g k.0 ts)
    (λ a rest r. loop_good f (Derives h) (Starts h) (at h) (cont h) (first h) (some_text h k.2) (goes h k.1) (begins h k.1) k.4 (tells h k.1) (parse h) (λ us. exact h k.1 us) (length rest) a rest (omega arith))
exact (guard b g) o ts = guard_good b (Derives g) (Starts g) (at g ts) ts (parse g ts) (exact g (guard_ok b g o).0 ts)
exact never o ts = record {
  prefix = [];
  is_prefix = refl;
  starts = refl;
  none = λ ws y m d. d;
  ends = λ ws m s. s;
  takes = λ e f. opposed refl e;
}
exact (limit n g) o ts = let k = limit_ok n g o in limit_good n (Derives g) (Starts g) (at g (take n ts)) (at g ts) ts (at_take g n ts k.1) (parse g (take n ts)) (exact g k.0 (take n ts))
exact (note ks g) o ts = exact g (note_ok ks g o).0 ts
