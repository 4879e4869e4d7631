-- Puts into finite maps may change places: those of unlike keys always, and others where joining may.
use Rattle.std.proofs.Common.{◌≡◌, List, [], ◌∷◌, ◌++◌, map, fold, sym, refl, ap, ◌∙◌, arith}
use Rattle.std.specs.List.{flat_map}
use Rattle.std.specs.declared.cmp.Ordering.{Ordering}
use Rattle.std.specs.declared.cmp.Ordering.TheVariants.{Less, Equal, Greater}
use Rattle.std.specs.Cmp.{IsTotalOrder}
use Rattle.std.specs.Ordering.{ordering_reverse}
use Rattle.sql_meaning.specs.Maps.{put_by, put, put_all}

pub put_all-fold : {K V : Type 0} (R : K → K → Ordering) (join : V → V → V) (es xs : List (K × V)) → put_all R join es xs ≡ fold (put R join) es xs
put_all-fold R join es [] = refl
put_all-fold R join es (x ∷ xs) = put_all-fold R join (put R join es x) xs

pub put_all-append : {K V : Type 0} (R : K → K → Ordering) (join : V → V → V) (es xs ys : List (K × V)) → put_all R join es (xs ++ ys) ≡ put_all R join (put_all R join es xs) ys
put_all-append R join es [] ys = refl
put_all-append R join es (x ∷ xs) ys = put_all-append R join (put R join es x) xs ys

module _ {K V : Type 0} (R : K → K → Ordering) (o : IsTotalOrder R) (join : V → V → V) where
  pub swap_apart : (a x : K × V) (es : List (K × V)) → (R a.0 x.0 ≡ Equal → ⊥) → put R join (put R join es a) x ≡ put R join (put R join es x) a
  swap_apart a x [] apart = grind (arith, o.antisymm a.0 x.0, o.antisymm x.0 a.0, apart)
  swap_apart a x (e ∷ es) apart = grind (
    arith,
    apart,
    o.antisymm a.0 x.0,
    o.antisymm x.0 a.0,
    o.antisymm a.0 e.0,
    o.antisymm x.0 e.0,
    o.antisymm e.0 x.0,
    o.antisymm e.0 a.0,
    o.trans x.0 e.0 a.0,
    o.trans a.0 e.0 x.0,
    o.congr a.0 e.0 x.0,
    o.congr x.0 e.0 a.0,
    swap_apart a x es apart,
  )

  reverse_same : (r : Ordering) → r ≡ ordering_reverse r → r ≡ Equal
  reverse_same Less e = absurd (cc)
  reverse_same Equal e = refl
  reverse_same Greater e = absurd (cc)

  itself : (k : K) → R k k ≡ Equal
  itself k = reverse_same (R k k) (o.antisymm k k)

  module _ (exact : (a b : K) → R a b ≡ Equal → a ≡ b) (assoc : (a b c : V) → join (join a b) c ≡ join a (join b c)) (comm : (a b : V) → join a b ≡ join b a) where
    twice_by : (k : K) (v w : V) (e : K × V) (es : List (K × V)) → put R join (put R join es (k, v)) (k, w) ≡ put R join es (k, join v w) → (r : Ordering) → R k e.0 ≡ r
        → put R join (put_by join r e es (k, v) (put R join es (k, v))) (k, w) ≡ put_by join r e es (k, join v w) (put R join es (k, join v w))
    twice_by k v w e es later Less same = rw (itself k)
    twice_by k v w e es later Equal same = rw same (ap (λ u. (e.0, u) ∷ es) (assoc e.1 v w))
    twice_by k v w e es later Greater same = rw same (ap (λ (fs : List (K × V)). e ∷ fs) later)

    -- two values of one key come to one put of both
    pub put-twice : (k : K) (v w : V) (es : List (K × V)) → put R join (put R join es (k, v)) (k, w) ≡ put R join es (k, join v w)
    put-twice k v w [] = rw (itself k)
    put-twice k v w (e ∷ es) = twice_by k v w e es (put-twice k v w es) (R k e.0) refl

    swap_alike : (k l : K) (v w : V) (es : List (K × V)) → k ≡ l → put R join (put R join es (k, v)) (l, w) ≡ put R join (put R join es (l, w)) (k, v)
    swap_alike k l v w es same =
        rw same (put-twice l v w es ∙ ap (λ u. put R join es (l, u)) (comm v w) ∙ sym (put-twice l w v es))

    swap_by : (a x : K × V) (es : List (K × V)) (r : Ordering) → R a.0 x.0 ≡ r → put R join (put R join es a) x ≡ put R join (put R join es x) a
    swap_by a x es Less same = swap_apart a x es (λ e. absurd (let f = sym same ∙ e in cc))
    swap_by a x es Equal same = swap_alike a.0 x.0 a.1 x.1 es (exact a.0 x.0 same)
    swap_by a x es Greater same = swap_apart a x es (λ e. absurd (let f = sym same ∙ e in cc))

    pub swap : (a x : K × V) (es : List (K × V)) → put R join (put R join es a) x ≡ put R join (put R join es x) a
    swap a x es = swap_by a x es (R a.0 x.0) refl

    put_last : (x : K × V) (fs es : List (K × V)) → put_all R join (put R join es x) fs ≡ put R join (put_all R join es fs) x
    put_last x [] es = refl
    put_last x (f ∷ fs) es = ap (λ (ds : List (K × V)). put_all R join ds fs) (swap x f es) ∙ put_last x fs (put R join es f)

    absorb_by : (x : K × V) (f : K × V) (fs es : List (K × V)) → put_all R join (put R join es f) (put R join fs x) ≡ put R join (put_all R join (put R join es f) fs) x
        → (r : Ordering) → R x.0 f.0 ≡ r → put_all R join es (put_by join r f fs x (put R join fs x)) ≡ put R join (put_all R join (put R join es f) fs) x
    absorb_by x f fs es later Less same = put_last x (f ∷ fs) es
    absorb_by x f fs es later Equal same =
        let k : x.0 ≡ f.0 = exact x.0 f.0 same in
        ap (λ (ds : List (K × V)). put_all R join ds fs) (sym (put-twice f.0 f.1 x.1 es) ∙ ap (λ l. put R join (put R join es f) (l, x.1)) (sym k)) ∙ put_last x fs (put R join es f)
    absorb_by x f fs es later Greater same = later

    absorb_put : (x : K × V) (fs es : List (K × V)) → put_all R join es (put R join fs x) ≡ put R join (put_all R join es fs) x
    absorb_put x [] es = refl
    absorb_put x (f ∷ fs) es = absorb_by x f fs es (absorb_put x fs (put R join es f)) (R x.0 f.0) refl

    -- a map put into another is all that went into it
    pub absorb : (xs fs es : List (K × V)) → put_all R join es (put_all R join fs xs) ≡ put_all R join (put_all R join es fs) xs
    absorb [] fs es = refl
    absorb (x ∷ xs) fs es = absorb xs (put R join fs x) es ∙ ap (λ (ds : List (K × V)). put_all R join ds xs) (absorb_put x fs es)

    pub absorb_all : {A : Type 0} (parts : A → List (K × V)) (ps : List A) (es : List (K × V))
        → put_all R join es (flat_map (λ p. put_all R join [] (parts p)) ps) ≡ put_all R join es (flat_map parts ps)
    absorb_all parts [] es = refl
    absorb_all parts (p ∷ ps) es =
        put_all-append R join es (put_all R join [] (parts p)) (flat_map (λ q. put_all R join [] (parts q)) ps)
        ∙ ap (λ (ds : List (K × V)). put_all R join ds (flat_map (λ q. put_all R join [] (parts q)) ps)) (absorb (parts p) [] es)
        ∙ absorb_all parts ps (put_all R join es (parts p))
        ∙ sym (put_all-append R join es (parts p) (flat_map parts ps))

-- ---- what stands at keys, seen through a function that turns one joining into another

module _ {K V W : Type 0} (R : K → K → Ordering) (join : V → V → V) (join' : W → W → W) (h : V → W) (turns : (a b : V) → h (join a b) ≡ join' (h a) (h b)) where
  abbrev seen : List (K × V) → List (K × W)
  seen es = map (λ e. (e.0, h e.1)) es

  seen_by : (r : Ordering) (e x : K × V) (es rest : List (K × V)) → seen (put_by join r e es x rest) ≡ put_by join' r (e.0, h e.1) (seen es) (x.0, h x.1) (seen rest)
  seen_by Less e x es rest = refl
  seen_by Equal e x es rest = ap (λ w. (e.0, w) ∷ seen es) (turns e.1 x.1)
  seen_by Greater e x es rest = refl

  seen_put : (es : List (K × V)) (x : K × V) → seen (put R join es x) ≡ put R join' (seen es) (x.0, h x.1)
  seen_put [] x = refl
  seen_put (e ∷ es) x = seen_by (R x.0 e.0) e x es (put R join es x) ∙ ap (λ (ds : List (K × W)). put_by join' (R x.0 e.0) (e.0, h e.1) (seen es) (x.0, h x.1) ds) (seen_put es x)

  pub map-put_all : (xs es : List (K × V)) → map (λ e. (e.0, h e.1)) (put_all R join es xs) ≡ put_all R join' (map (λ e. (e.0, h e.1)) es) (map (λ e. (e.0, h e.1)) xs)
  map-put_all [] es = refl
  map-put_all (x ∷ xs) es = map-put_all xs (put R join es x) ∙ ap (λ (ds : List (K × W)). put_all R join' ds (seen xs)) (seen_put es x)
