-- Entries that are put into a map one by one, and entries in order that are joined where they stand.
use Rattle.std.proofs.Common.{◌≡◌, ℕ, ◌+◌, Bool, true, false, ◌&&◌, not, cond, List, [], ◌∷◌, ◌++◌, sym, refl, ap, ◌∙◌, subst, arith}
use Rattle.std.specs.List.{filter}
use Rattle.std.proofs.Math.ListN.{get_or}
use Rattle.std.proofs.lemmas.Grind.{get_or_tail}
use Rattle.std.specs.List.Sorted.{ties, IsSortedBy, IsStableBy}
use Rattle.std.specs.Ordering.{is_lt, is_eq, ordering_reverse}
use Rattle.std.specs.Cmp.{IsTotalOrder, tied_itself, tied_back}
use Rattle.std.specs.declared.cmp.Ordering.{Ordering}
use Rattle.std.specs.declared.cmp.Ordering.TheVariants.{Less, Equal, Greater}
use Rattle.sql_meaning.specs.Maps.{put_by, put, put_all}
use Rattle.sql_merge.specs.Joined.{joined_from, joined_sorted}

module _ {K V : Type 0} (R : K → K → Ordering) (o : IsTotalOrder R) (join : V → V → V) where
  -- ---- entries that rise are joined where they stand

  -- no entry of these is below a key
  abbrev pub NoneBelow : K → List (K × V) → Type 0
  NoneBelow k [] = Unit {0}
  NoneBelow k (x ∷ xs) = (is_lt (R x.0 k) ≡ false) × NoneBelow k xs

  abbrev pub Rise : List (K × V) → Type 0
  Rise [] = Unit {0}
  Rise (x ∷ xs) = NoneBelow x.0 xs × Rise xs

  -- all entries of these are above a key
  abbrev AllAbove : K → List (K × V) → Type 0
  AllAbove k [] = Unit {0}
  AllAbove k (x ∷ xs) = (R x.0 k ≡ Greater) × AllAbove k xs

  above-one : (k l m : K) → R l k ≡ Greater → is_lt (R m l) ≡ false → R m k ≡ Greater
  above-one k l m above not_below =
      grind (arith, above, not_below, o.antisymm l k, o.antisymm k l, o.antisymm m l, o.antisymm l m, o.antisymm m k, o.antisymm k m, o.trans k l m, o.congr m l k)

  above-all : (k l : K) (xs : List (K × V)) → R l k ≡ Greater → NoneBelow l xs → AllAbove k xs
  above-all k l [] above none = tt
  above-all k l (x ∷ xs) above none = (above-one k l x.0 above none.0, above-all k l xs above none.1)

  put-above : (e x : K × V) (es : List (K × V)) → R x.0 e.0 ≡ Greater → put R join (e ∷ es) x ≡ e ∷ put R join es x
  put-above e x es above = ap (λ r. put_by join r e es x (put R join es x)) above

  -- what is above an entry goes behind it
  puts-above : (e : K × V) (es xs : List (K × V)) → AllAbove e.0 xs → put_all R join (e ∷ es) xs ≡ e ∷ put_all R join es xs
  puts-above e es [] above = refl
  puts-above e es (x ∷ xs) above =
      ap (λ (ds : List (K × V)). put_all R join ds xs) (put-above e x es above.0) ∙ puts-above e (put R join es x) xs above.1

  from-by : (first next : K × V) (more : List (K × V)) (r : Ordering) → R next.0 first.0 ≡ r → NoneBelow first.0 (next ∷ more) → Rise (next ∷ more)
      → put_all R join ((first.0, join first.1 next.1) ∷ []) more ≡ joined_from R join (first.0, join first.1 next.1) more
      → put_all R join (next ∷ []) more ≡ joined_from R join next more
      → put_all R join (first ∷ []) (next ∷ more) ≡ joined_from R join first (next ∷ more)
  from-by first next more Less same none rise alike apart = absurd (let e = sym (ap is_lt same) ∙ none.0 in cc)
  from-by first next more Equal same none rise alike apart = rw same alike
  from-by first next more Greater same none rise alike apart =
      rw same (puts-above first (next ∷ []) more (above-all first.0 next.0 more same rise.0) ∙ ap (λ (ds : List (K × V)). first ∷ ds) apart)

  from-is : (first : K × V) (more : List (K × V)) → NoneBelow first.0 more → Rise more → put_all R join (first ∷ []) more ≡ joined_from R join first more
  from-is first [] none rise = refl
  from-is first (next ∷ more) none rise =
      from-by first next more (R next.0 first.0) refl none rise
      (from-is (first.0, join first.1 next.1) more none.1 rise.1)
      (from-is next more rise.0 rise.1)

  pub joined-is : (xs : List (K × V)) → Rise xs → put_all R join [] xs ≡ joined_sorted R join xs
  joined-is [] rise = refl
  joined-is (x ∷ xs) rise = from-is x xs rise.0 rise.1

  -- ---- entries of unlike keys may be put in any order

  pub swap-apart : (a x : K × V) (es : List (K × V)) → (R a.0 x.0 ≡ Equal → ⊥) → put R join (put R join es a) x ≡ put R join (put R join es x) a
  swap-apart a x [] apart = grind (arith, o.antisymm a.0 x.0, o.antisymm x.0 a.0, apart)
  swap-apart a x (e ∷ es) apart = grind (
    arith,
    apart,
    o.antisymm a.0 x.0,
    o.antisymm x.0 a.0,
    o.antisymm a.0 e.0,
    o.antisymm x.0 e.0,
    o.antisymm e.0 x.0,
    o.antisymm e.0 a.0,
    o.trans x.0 e.0 a.0,
    o.trans a.0 e.0 x.0,
    o.congr a.0 e.0 x.0,
    o.congr x.0 e.0 a.0,
    swap-apart a x es apart,
  )

  abbrev below : K × V → K × V → Bool
  below x y = is_lt (R x.0 y.0)

  -- the entries with the key of one, in their order
  abbrev like : K × V → List (K × V) → List (K × V)
  like x = filter (ties below x)

  abbrev SameTies : List (K × V) → List (K × V) → Type 0
  SameTies xs ys = (x : K × V) → like x xs ≡ like x ys

  ties-itself : (x : K × V) → ties below x x ≡ true
  ties-itself x = rw (tied_itself o x.0) refl

  ties-equal : (x y : K × V) → ties below x y ≡ false → R x.0 y.0 ≡ Equal → ⊥
  ties-equal x y apart same = let e = o.antisymm x.0 y.0 in absurd (grind (arith, apart, same, e, o.antisymm y.0 x.0))

  -- two entries of unlike keys are not both like a third
  ties-both : (x a b : K × V) → ties below a b ≡ false → ties below x a ≡ true → ties below x b ≡ true → ⊥
  ties-both x a b apart one other =
      absurd (grind (arith, apart, one, other, o.antisymm a.0 b.0, o.antisymm b.0 a.0, o.antisymm x.0 a.0, o.antisymm a.0 x.0, o.antisymm x.0 b.0, o.antisymm b.0 x.0, o.congr x.0 a.0 b.0, o.congr a.0 x.0 b.0, o.congr x.0 b.0 a.0))

  -- an entry that is the first of its key may be put first
  abbrev Pulled : K × V → List (K × V) → Type 0
  Pulled y xs = (rest : List (K × V)) × ((es : List (K × V)) → put_all R join es xs ≡ put_all R join (put R join es y) rest) × SameTies xs (y ∷ rest)

  like-swapped : (w x y : K × V) (rest : List (K × V)) → ties below y x ≡ false → (b c : Bool) → ties below w x ≡ b → ties below w y ≡ c
      → cond b (x ∷ cond c (y ∷ rest) rest) (cond c (y ∷ rest) rest) ≡ cond c (y ∷ cond b (x ∷ rest) rest) (cond b (x ∷ rest) rest)
  like-swapped w x y rest apart true true one other = absurd (ties-both w y x apart other one)
  like-swapped w x y rest apart true false one other = refl
  like-swapped w x y rest apart false c one other = refl

  head-is : (x y : K × V) (xs ys : List (K × V)) → x ∷ xs ≡ y ∷ ys → x ≡ y
  head-is x y xs ys e = cc

  pull-by : (y x : K × V) (xs zs : List (K × V)) (b : Bool) → ties below y x ≡ b → cond b (x ∷ like y xs) (like y xs) ≡ y ∷ zs
      → (like y xs ≡ y ∷ zs → Pulled y xs) → Pulled y (x ∷ xs)
  pull-by y x xs zs true same e later = subst (λ u. Pulled u (x ∷ xs)) (head-is x y (like y xs) zs e) (xs, λ es. refl, λ w. refl)
  pull-by y x xs zs false apart e later =
      let p = later e in (
        x ∷ p.0,
        λ es. p.1 (put R join es x) ∙ ap (λ (ds : List (K × V)). put_all R join ds p.0) (swap-apart x y es (λ same. ties-equal y x apart (tied_back o x.0 y.0 same))),
        λ w. ap (λ (l : List (K × V)). cond (ties below w x) (x ∷ l) l) (p.2 w) ∙ like-swapped w x y (like w p.0) apart (ties below w x) (ties below w y) refl refl,
      )

  pull : (y : K × V) (xs zs : List (K × V)) → like y xs ≡ y ∷ zs → Pulled y xs
  pull y [] zs e = absurd (cc)
  pull y (x ∷ xs) zs e = pull-by y x xs zs (ties below y x) refl e (pull y xs zs)

  rest-same : (b : Bool) (y : K × V) (xs ys : List (K × V)) → cond b (y ∷ xs) xs ≡ cond b (y ∷ ys) ys → xs ≡ ys
  rest-same true y xs ys e = cc
  rest-same false y xs ys e = e

  -- lists in which the entries of each key stand in one order
  pub same-puts : (ys xs es : List (K × V)) → SameTies ys xs → put_all R join es xs ≡ put_all R join es ys
  same-puts [] [] es same = refl
  same-puts [] (x ∷ xs) es same =
      absurd (let e = same x ∙ ap (λ b. cond b (x ∷ like x xs) (like x xs)) (ties-itself x) in cc)
  same-puts (y ∷ ys) xs es same =
      let p = pull y xs (like y ys) (sym (same y) ∙ ap (λ b. cond b (y ∷ like y ys) (like y ys)) (ties-itself y)) in
      p.1 es ∙ same-puts ys p.0 (put R join es y) (λ w. rest-same (ties below w y) y (like w ys) (like w p.0) (same w ∙ p.2 w))

  -- ---- what a stable sort gives

  not-below : (k l m : K) → is_lt (R l k) ≡ false → is_lt (R m l) ≡ false → is_lt (R m k) ≡ false
  not-below k l m one other =
      grind (arith, one, other, o.antisymm l k, o.antisymm k l, o.antisymm m l, o.antisymm l m, o.antisymm m k, o.antisymm k m, o.trans k l m, o.congr m l k, o.congr l k m, o.congr k l m)

  none-further : (k l : K) (xs : List (K × V)) → is_lt (R l k) ≡ false → NoneBelow l xs → NoneBelow k xs
  none-further k l [] one none = tt
  none-further k l (x ∷ xs) one none = (not-below k l x.0 one none.0, none-further k l xs one none.1)

  behind : (x : K × V) (xs : List (K × V)) (n : ℕ) (d : K × V) → get_or (x ∷ xs) (n + 1) d ≡ get_or xs n d
  behind x xs n d = get_or_tail x xs (n + 1) d (omega arith) ∙ ap (λ m. get_or xs m d) (omega arith)

  sorted-behind : (x : K × V) (xs : List (K × V)) → IsSortedBy below (x ∷ xs) → IsSortedBy below xs
  sorted-behind x xs up k d low high =
      sym (λ i. below (behind x xs (k + 1) d i) (behind x xs k d i)) ∙ up (k + 1) d (omega arith) (omega (arith, high))

  rises : (xs : List (K × V)) → IsSortedBy below xs → Rise xs
  rises [] up = tt
  rises (x ∷ []) up = (tt, tt)
  rises (x ∷ y ∷ ys) up =
      let first : below y x ≡ false = up 0 x (omega arith) (omega arith) in
      let rest = rises (y ∷ ys) (sorted-behind x (y ∷ ys) up) in
      ((first, none-further x.0 y.0 ys first rest.0), rest)

  pub sorted-is : (xs ys : List (K × V)) → IsSortedBy below ys → IsStableBy below xs ys → put_all R join [] xs ≡ joined_sorted R join ys
  sorted-is xs ys up stable = same-puts ys xs [] stable ∙ joined-is ys (rises ys up)
