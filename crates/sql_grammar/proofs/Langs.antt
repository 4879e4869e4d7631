-- Facts on one text behind another, whatever the two sets of texts are.
use Rattle.std.proofs.Common.{◌≡◌, Bool, true, List, [], ◌∷◌, ◌++◌, append_assoc, append-nil, refl, ap, sym, ◌∙◌}
use Rattle.std.specs.Prelude.{◌⊎◌, Ok, Err, if◌then◌else◌}
use mathlib.Core.Logic.{inl, inr}
use Rattle.sql_grammar.specs.declared.kind.Kind.{Kind}
use Rattle.sql_grammar.specs.Grammar.{Tok, Lang, Joined, Outcome, and_then, is_in, apart}
use Rattle.sql_grammar.proofs.Lists.{Cut, long, same, short, cut, Meets, meets_append, meets_first, no_cons, append_none, in_left, in_right, apart_none}

-- what begins texts, without their values
abbrev pub Begun : Type 1
Begun = List Tok → Type 0

-- the tokens are a text, or one begins with them
abbrev pub Prefixes : {A : Type 0} → Lang A → Begun → Begun
Prefixes L S ts = S ts ⊎ ((x : _) × L ts x)

-- prefixes that are a prefix of the first, or a text of the first with a prefix of the second behind it
abbrev pub Through : {A : Type 0} → Lang A → Begun → (A → Begun) → Begun
Through L S X ts = S ts ⊎ Joined {B = Unit {0}} L (λ a us u. X a us) ts tt

-- a prefix of both rules, where one begins with both
pub through : {A B : Type 0} (L : Lang A) (S : Begun) (M : A → Lang B) (R : A → Begun) (ts : List Tok) → Prefixes (Joined L M) (Through L S R) ts → Through L S (λ a. Prefixes (M a) (R a)) ts
through L S M R ts (inl (inl s)) = inl s
through L S M R ts (inl (inr j)) = inr (record { prefix = j.prefix; back = j.back; value = j.value; parts = j.parts; is_first = j.is_first; is_then = inl j.is_then })
through L S M R ts (inr (x, j)) = inr (record { prefix = j.prefix; back = j.back; value = j.value; parts = j.parts; is_first = j.is_first; is_then = inr (x, j.is_then) })

-- What the first token is, and what may go on

abbrev pub Begins : Begun → List Kind → Type 0
Begins X ks = (z : Tok) (zs : List Tok) → X (z ∷ zs) → is_in z.kind ks ≡ true

abbrev pub Goes : {A : Type 0} → Lang A → Begun → List Kind → Type 0
Goes L X ks = (us : List Tok) (a : _) (z : Tok) (zs : List Tok) → L us a → X (us ++ z ∷ zs) → is_in z.kind ks ≡ true

-- What is read, and what is refused

-- the prefix of the tokens before the rest is a text, of this value alone, and no other text or prefix begins with what
-- one token of the rest tells. Where the flag is true, the prefix isn't empty
pub record Read {A : Type 0} (L : Lang A) (S : Begun) (p : Bool) (ts : List Tok) (x : A) (rest : List Tok) : Type 0 where
  pub prefix : List Tok
  pub is_prefix : ts ≡ prefix ++ rest
  pub reads : L prefix x
  pub only : (ws : List Tok) (y : A) → Meets ws rest → L (prefix ++ ws) y → (ws ≡ []) × (y ≡ x)
  pub ends : (ws : List Tok) → Meets ws rest → S (prefix ++ ws) → ws ≡ []
  pub takes : p ≡ true → prefix ≡ [] → ⊥

pub record Refused {A : Type 0} (L : Lang A) (S : Begun) (p : Bool) (ts rest : List Tok) : Type 0 where
  pub prefix : List Tok
  pub is_prefix : ts ≡ prefix ++ rest
  pub starts : S prefix
  pub none : (ws : List Tok) (y : A) → Meets ws rest → L (prefix ++ ws) y → ⊥
  pub ends : (ws : List Tok) → Meets ws rest → S (prefix ++ ws) → ws ≡ []
  pub takes : p ≡ true → prefix ≡ [] → ⊥

abbrev pub Good : {A : Type 0} → Lang A → Begun → Bool → List Tok → Outcome A → Type 0
Good L S p ts (Ok r) = Read L S p ts r.0 r.1
Good L S p ts (Err rest) = Refused L S p ts rest

-- Where the first ends is told by one token

module _ {A : Type 0} (L : Lang A) (S : Begun) (X : A → Begun) (ks js : List Kind) (goes : Goes L (Prefixes L S) ks) (begins : (a : A) → Begins (X a) js) (are_apart : apart ks js ≡ true) where
  clash : (us : List Tok) (a b : A) (w : Tok) (more ys : List Tok) → L us a → Prefixes L S (us ++ w ∷ more) → X b (w ∷ ys) → ⊥
  clash us a b w more ys l f x = apart_none w.kind ks js are_apart (goes us a w more l f) (begins b w ys x)

  behind : (p q : List Tok) (a : A) (z : Tok) (zs : List Tok) → L p a → X a q → Prefixes L S (p ++ (q ++ z ∷ zs)) → (q ≡ []) × (is_in z.kind ks ≡ true)
  behind p [] a z zs l x f = (refl, goes p a z zs l f)
  behind p (w ∷ ws) a z zs l x f = absurd (clash p a a w (ws ++ z ∷ zs) ws l f x)

  next_of : (q : List Tok) (a : A) (z : Tok) (zs : List Tok) (w : Tok) (ys : List Tok) → X a q → q ++ z ∷ zs ≡ w ∷ ys → is_in w.kind ks ≡ true → (q ≡ []) × (is_in z.kind ks ≡ true)
  next_of [] a z zs w ys x e i =
      let head : z ≡ w = cc in
      (refl, rw head i)
  next_of (v ∷ vs) a z zs w ys x e i =
      let head : v ≡ w = cc in
      absurd (apart_none v.kind ks js are_apart (rw head i) (begins a v vs x))

  -- what a longer prefix says, where a text of the first has this one behind it
  pub split_goes : (p q : List Tok) (a : A) (z : Tok) (zs : List Tok) → L p a → X a q → Through L S X ((p ++ q) ++ z ∷ zs)
      → ((q ≡ []) × (is_in z.kind ks ≡ true)) ⊎ ((b : A) × X b (q ++ z ∷ zs))
  split_goes p q a z zs l x (inl s) = inl (behind p q a z zs l x (inl (rw append_assoc at s)))
  split_goes p q a z zs l x (inr j) = go (cut j.prefix j.back p (q ++ z ∷ zs) (sym j.parts ∙ append_assoc p q (z ∷ zs)))
    where
      go : Cut j.prefix j.back p (q ++ z ∷ zs) → ((q ≡ []) × (is_in z.kind ks ≡ true)) ⊎ ((b : A) × X b (q ++ z ∷ zs))
      go (long w more e f) = inl (next_of q a z zs w (more ++ j.back) x f (goes p a w more l (inr (j.value, rw e at j.is_first))))
      go (same e f) = inr (j.value, rw f at j.is_then)
      go (short w more e f) = absurd (clash j.prefix j.value j.value w more (more ++ (q ++ z ∷ zs)) j.is_first (inr (a, rw e at l)) (rw f at j.is_then))

  -- behind a text that was read, what one token of the rest tells stands behind the same text
  pub met : (prefix : List Tok) (a : A) (rest v : List Tok) → L prefix a → ((ws : List Tok) (y : A) → Meets ws rest → L (prefix ++ ws) y → (ws ≡ []) × (y ≡ a)) → Meets v rest
      → Joined {B = Unit {0}} L (λ b us u. X b us) (prefix ++ v) tt → X a v
  met prefix a rest v l only m j = go (cut j.prefix j.back prefix v (sym j.parts))
    where
      go : Cut j.prefix j.back prefix v → X a v
      go (long w more e f) = absurd (no_cons (only (w ∷ more) j.value (meets_first w (more ++ j.back) more rest (rw f at m)) (rw e at j.is_first)).0)
      go (same e f) = rw (← f) (rw (only [] j.value tt (rw (append-nil prefix, ← e) j.is_first)).1 at j.is_then)
      go (short w more e f) = absurd (clash j.prefix j.value j.value w more (more ++ v) j.is_first (inr (a, rw e at l)) (rw f at j.is_then))

  pub not_met : (prefix rest v : List Tok) → S prefix → ((ws : List Tok) (y : A) → Meets ws rest → L (prefix ++ ws) y → ⊥) → Meets v rest
      → Joined {B = Unit {0}} L (λ b us u. X b us) (prefix ++ v) tt → ⊥
  not_met prefix rest v s none m j = go (cut j.prefix j.back prefix v (sym j.parts))
    where
      go : Cut j.prefix j.back prefix v → ⊥
      go (long w more e f) = none (w ∷ more) j.value (meets_first w (more ++ j.back) more rest (rw f at m)) (rw e at j.is_first)
      go (same e f) = none [] j.value tt (rw (append-nil prefix, ← e) j.is_first)
      go (short w more e f) = clash j.prefix j.value j.value w more (more ++ v) j.is_first (inl (rw e at s)) (rw f at j.is_then)

-- One behind the other

module _ {A B : Type 0} (L : Lang A) (S : Begun) (M : A → Lang B) (R : A → Begun) (ks js : List Kind) (goes : Goes L (Prefixes L S) ks) (begins : (a : A) → Begins (Prefixes (M a) (R a)) js) (are_apart : apart ks js ≡ true) where
  pub joined_goes : (n : Bool) (hs : List Kind) → ((a : A) (y : B) → M a [] y → n ≡ true)
      → ((a b : A) (us : List Tok) (y : B) (z : Tok) (zs : List Tok) → M a us y → Prefixes (M b) (R b) (us ++ z ∷ zs) → is_in z.kind hs ≡ true)
      → Goes (Joined L M) (Prefixes (Joined L M) (Through L S R)) (hs ++ (if n then ks else []))
  joined_goes n hs empty more us x z zs j f = go (split_goes L S (λ a. Prefixes (M a) (R a)) ks js goes begins are_apart j.prefix j.back j.value z zs j.is_first (inr (x, j.is_then)) (rw j.parts at (through L S M R (us ++ z ∷ zs) f)))
    where
      go : ((j.back ≡ []) × (is_in z.kind ks ≡ true)) ⊎ ((b : A) × Prefixes (M b) (R b) (j.back ++ z ∷ zs)) → is_in z.kind (hs ++ (if n then ks else [])) ≡ true
      go (inl (e, i)) = rw (empty j.value x (rw e at j.is_then)) (in_right z.kind hs ks i)
      go (inr (b, g)) = in_left z.kind hs (if n then ks else []) (more j.value b j.back x z zs j.is_then g)

  met_text : (prefix : List Tok) (a : A) (rest v : List Tok) (y : B) → L prefix a → ((ws : List Tok) (y : A) → Meets ws rest → L (prefix ++ ws) y → (ws ≡ []) × (y ≡ a)) → Meets v rest → Joined L M (prefix ++ v) y → M a v y
  met_text prefix a rest v y l only m j =
      met L S (λ b us. M b us y) ks js goes (λ b z zs h. begins b z zs (inr (y, h))) are_apart prefix a rest v l only m
      (record { prefix = j.prefix; back = j.back; value = j.value; parts = j.parts; is_first = j.is_first; is_then = j.is_then })

  met_prefix : (prefix : List Tok) (a : A) (rest v : List Tok) → L prefix a → ((ws : List Tok) (y : A) → Meets ws rest → L (prefix ++ ws) y → (ws ≡ []) × (y ≡ a)) → Meets v rest → Joined {B = Unit {0}} L (λ b us u. R b us) (prefix ++ v) tt → R a v
  met_prefix prefix a rest v l only m j = met L S R ks js goes (λ b z zs h. begins b z zs (inl h)) are_apart prefix a rest v l only m j

  not_met_text : (prefix rest v : List Tok) (y : B) → S prefix → ((ws : List Tok) (y : A) → Meets ws rest → L (prefix ++ ws) y → ⊥) → Meets v rest → Joined L M (prefix ++ v) y → ⊥
  not_met_text prefix rest v y s none m j =
      not_met L S (λ b us. M b us y) ks js goes (λ b z zs h. begins b z zs (inr (y, h))) are_apart prefix rest v s none m
      (record { prefix = j.prefix; back = j.back; value = j.value; parts = j.parts; is_first = j.is_first; is_then = j.is_then })

  not_met_prefix : (prefix rest v : List Tok) → S prefix → ((ws : List Tok) (y : A) → Meets ws rest → L (prefix ++ ws) y → ⊥) → Meets v rest → Joined {B = Unit {0}} L (λ b us u. R b us) (prefix ++ v) tt → ⊥
  not_met_prefix prefix rest v s none m j = not_met L S R ks js goes (λ b z zs h. begins b z zs (inl h)) are_apart prefix rest v s none m j

  refused_first : (p pg : Bool) (q : Bool) (ts rest : List Tok) → (p ≡ true → (pg ≡ true) ⊎ (((a : A) × L [] a) × (q ≡ true))) → Refused L S pg ts rest → Refused (Joined L M) (Through L S R) p ts rest
  refused_first p pg q ts rest split r = record {
    prefix = r.prefix;
    is_prefix = r.is_prefix;
    starts = inl r.starts;
    none = λ ws y m j. not_met_text r.prefix rest ws y r.starts r.none m j;
    ends = λ ws m s. ended ws m s;
    takes = λ e f. taken f (split e);
  }
    where
      ended : (ws : List Tok) → Meets ws rest → Through L S R (r.prefix ++ ws) → ws ≡ []
      ended ws m (inl s) = r.ends ws m s
      ended ws m (inr j) = absurd (not_met_prefix r.prefix rest ws r.starts r.none m j)

      taken : r.prefix ≡ [] → (pg ≡ true) ⊎ (((a : A) × L [] a) × (q ≡ true)) → ⊥
      taken f (inl e) = r.takes e f
      taken f (inr ((a, l), e)) = r.none [] a tt (rw (f) l)

  module _ (p pg : Bool) (ph : List Tok → Bool) (ts : List Tok) (split : p ≡ true → (pg ≡ true) ⊎ (((a : A) × L [] a) × (ph ts ≡ true))) (a : A) (rest : List Tok) (r : Read L S pg ts a rest) where
    whole : (prefix end : List Tok) → rest ≡ prefix ++ end → ts ≡ (r.prefix ++ prefix) ++ end
    whole prefix end e = r.is_prefix ∙ ap (λ us. r.prefix ++ us) e ∙ sym (append_assoc r.prefix prefix end)

    further : (prefix end ws : List Tok) → rest ≡ prefix ++ end → Meets ws end → Meets (prefix ++ ws) rest
    further prefix end ws e m = rw e (meets_append prefix ws end m)

    taken : (prefix end : List Tok) → rest ≡ prefix ++ end → (ph rest ≡ true → prefix ≡ [] → ⊥) → p ≡ true → r.prefix ++ prefix ≡ [] → ⊥
    taken prefix end e takes h f = go (append_none r.prefix prefix f) (split h)
      where
        go : (r.prefix ≡ []) × (prefix ≡ []) → (pg ≡ true) ⊎ (((a : A) × L [] a) × (ph ts ≡ true)) → ⊥
        go (f, g) (inl k) = r.takes k f
        go (f, g) (inr (b, k)) =
            let all : ts ≡ rest = r.is_prefix ∙ ap (λ us. us ++ rest) f in
            takes (rw (← all) k) g

    ended : (prefix end : List Tok) → rest ≡ prefix ++ end → ((ws : List Tok) → Meets ws end → R a (prefix ++ ws) → ws ≡ []) → (ws : List Tok) → Meets ws end → Through L S R ((r.prefix ++ prefix) ++ ws) → ws ≡ []
    ended prefix end e ends ws m (inl s) = (append_none prefix ws (r.ends (prefix ++ ws) (further prefix end ws e m) (rw append_assoc at s))).1
    ended prefix end e ends ws m (inr j) = ends ws m (met_prefix r.prefix a rest (prefix ++ ws) r.reads r.only (further prefix end ws e m) (rw append_assoc at j))

    read_both : (o : Outcome B) → Good (M a) (R a) (ph rest) rest o → Good (Joined L M) (Through L S R) p ts o
    read_both (Ok q) h = record {
      prefix = r.prefix ++ h.prefix;
      is_prefix = whole h.prefix q.1 h.is_prefix;
      reads = record { prefix = r.prefix; back = h.prefix; value = a; parts = refl; is_first = r.reads; is_then = h.reads };
      only = λ ws y m j. h.only ws y m (met_text r.prefix a rest (h.prefix ++ ws) y r.reads r.only (further h.prefix q.1 ws h.is_prefix m) (rw append_assoc at j));
      ends = λ ws m s. ended h.prefix q.1 h.is_prefix h.ends ws m s;
      takes = λ e f. taken h.prefix q.1 h.is_prefix h.takes e f;
    }
    read_both (Err end) h = record {
      prefix = r.prefix ++ h.prefix;
      is_prefix = whole h.prefix end h.is_prefix;
      starts = inr (record { prefix = r.prefix; back = h.prefix; value = a; parts = refl; is_first = r.reads; is_then = h.starts });
      none = λ ws y m j. h.none ws y m (met_text r.prefix a rest (h.prefix ++ ws) y r.reads r.only (further h.prefix end ws h.is_prefix m) (rw append_assoc at j));
      ends = λ ws m s. ended h.prefix end h.is_prefix h.ends ws m s;
      takes = λ e f. taken h.prefix end h.is_prefix h.takes e f;
    }

  pub joined_good : (p pg : Bool) (ph : List Tok → Bool) (ts : List Tok) → (p ≡ true → (pg ≡ true) ⊎ (((a : A) × L [] a) × (ph ts ≡ true))) → (o : Outcome A) (read : A → List Tok → Outcome B) → Good L S pg ts o
      → ((a : A) (rest : List Tok) → Read L S pg ts a rest → Good (M a) (R a) (ph rest) rest (read a rest)) → Good (Joined L M) (Through L S R) p ts (and_then o read)
  joined_good p pg ph ts split (Ok q) read g h = read_both p pg ph ts split q.0 q.1 g (read q.0 q.1) (h q.0 q.1 g)
  joined_good p pg ph ts split (Err rest) read g h = refused_first p pg (ph ts) ts rest split g
