-- What the walks of the functions with raw pointers share. Assumes `Logic`.
--     address_had, mark_had, mark_made, address_made      an address, and a part that takes no space, taken apart and made
--     run_of, array_of, one_zero_more, room_of            bytes one by one and as one array;  a run of zeros that grows;  bytes let go
use mathlib.Core.Path.{◌≡◌, refl, subst}
use Prim.Native.Nat.{ℕ, zero, suc, ◌+◌}
use native.Mathlib.Omega.{arith}
use mathlib.Core.List.{List, [], ◌∷◌, ◌++◌}
use lib.Dec.{T, lit<}
use lib.ListN.{length, replicate}
use seplogic.Ra.Ura.{Ura}
use base.Fraction.{full_share}
use base.Fml.{Fml, feq, fsep, fat, ftrue}
use base.Logic.{ent, sep, emp}
use mir.Val.{Val, vstruct, vcons, vnil, of_list, has_ty, WT}
use types.Logic.{Logic, sem}
use types.Kit.{Item, Goal, Seq, Step, step, ‵, ◌⊛◌, some, ◌$◌, ◌∵◌, !, qed, by, move, keep, drop, pick, split, rewrite, use1, use2, fsplit, fjoin, fpick, fpack, feq_i, feq_l, done}
use denote.Array.{Array}
use denote.ArrayMemory.{Array-apart, Array-whole}
use denote.Builtin.{u8}
use denote.Index.{row}
use denote.Memory.{part_at}
use denote.Param.{layout}
use denote.RattleType.{RattleType, Valss}
use denote.RawPtr.{Ptr, RawPtr, block_ptr, null_ptr, ptr_val}
use denote.Shadow.{makes_shadow}
use denote.Steps.{nothing}
use denote.Struct.Declared as Declared
use denote.Struct.Owning.{shape}
use denote.Struct.Struct.{Struct, within}
use denote.Struct.Tuple.{Tuple, tuple_type}
use borrow.Table.OneValue.{part_out}
use Rattle.tuple_block.specs.Ownership.{block_type}
use Rattle.tuple_block.specs.contracts.memory.Address as Ad
use Rattle.tuple_block.specs.contracts.memory.Memory as Me

-- ---- the structs
abbrev pub address_val : Ptr → Val
address_val p = vstruct (vcons (ptr_val p) vnil)

pub address_Good : (p : Ptr) → T (has_ty (layout Ad.the_row) (address_val p)) × WT (address_val p)
address_Good (block_ptr b o) = (tt, (tt, tt))
address_Good null_ptr = (tt, (record { fits = lit< tt }, tt))

-- the one field of a part that takes no space
abbrev pub Mark : RattleType
Mark = Struct (shape Me.the_type)

abbrev pub mark : Val
mark = vstruct (vcons (vstruct vnil) vnil)

pub mark_made : {M : Type 1} {𝓤 : Ura M} (𝓛 : Logic 𝓤) → ent 𝓤 (emp 𝓤) (sem 𝓛 (Mark.own_val (tt, tt) (mark ∷ [])))
mark_made 𝓛 = makes_shadow 𝓛 (Mark.own_val (tt, tt) (mark ∷ [])) (λ vss. (tt, ((λ uss. (tt, tt)), tt))) ((vstruct vnil ∷ [], tt), (refl, ((tt, (refl, tt)), tt)))

module _ {M : Type 1} {𝓤 : Ura M} {𝓛 : Logic 𝓤} {K : Type 0} {Γ : List (Item 𝓤)} {G : Goal 𝓤 𝓛.H} where
  pub address_had : K → (p : Ptr) (vs : List Val) → (vs ≡ address_val p ∷ [] → Seq K 𝓛 Γ G) → Seq K 𝓛 (‵ ((Ad.the_row).own_val (record { ptr = p }) vs) ∷ Γ) G
  address_had t p vs k =
      fpick t (λ vss. fsplit t $ feq_l t (λ all. fsplit t $ feq_l t (λ one. drop t $
      k (subst (λ (ws : List Val). vs ≡ vstruct (of_list (ws ++ [])) ∷ []) one all))))

  pub mark_had : K → (vs : List Val) → (vs ≡ mark ∷ [] → Seq K 𝓛 Γ G) → Seq K 𝓛 (‵ (Mark.own_val (tt, tt) vs) ∷ Γ) G
  mark_had t vs k =
      fpick t (λ vss. fsplit t $ feq_l t (λ all. fsplit t $ fpick t (λ none. fsplit t $ feq_l t (λ one. drop t $ drop t $
      k (subst (λ (ws : List Val). vs ≡ vstruct (of_list (ws ++ [])) ∷ []) one all)))))

  pub address_made : K → (p : Ptr) → Step K 𝓛 (‵ ((Ad.the_row).own_val (record { ptr = p }) (address_val p ∷ [])) ∷ Γ) G Γ G
  address_made t p = step (λ s.
      let S = Declared.shape Ad.the_type in
      nothing t $ feq_i t (List Val) (ptr_val p ∷ []) (ptr_val p ∷ []) refl $ fjoin t $ feq_i t (List Val) (address_val p ∷ []) (address_val p ∷ []) refl $ fjoin t $
      fpack t (Valss (RawPtr ∷ [])) (within S (p, tt) (address_val p ∷ [])) (ptr_val p ∷ [], tt) $ s)

-- a tuple of three
abbrev pub three_val : Val → Val → Val → Val
three_val u v w = vstruct (vcons u (vcons v (vcons w vnil)))

pub three_of : {M : Type 1} {𝓤 : Ura M} (𝓛 : Logic 𝓤) (R S Q : RattleType) (x : R.Denot) (y : S.Denot) (z : Q.Denot) (u v w : Val)
    → ent 𝓤 (sep 𝓤 (sem 𝓛 (R.own_val x (u ∷ []))) (sep 𝓤 (sem 𝓛 (S.own_val y (v ∷ []))) (sem 𝓛 (Q.own_val z (w ∷ []))))) (sem 𝓛 ((Tuple (R ∷ S ∷ Q ∷ [])).own_val (x, y, z) (three_val u v w ∷ [])))
three_of 𝓛 R S Q x y z u v w =
    qed 𝓛 (‵ (R.own_val x (u ∷ [])) ∷ ‵ (S.own_val y (v ∷ [])) ∷ ‵ (Q.own_val z (w ∷ [])) ∷ []) ∵ nothing ! $ move ! (3 ∷ 0 ∷ []) $ fjoin ! $ move ! (2 ∷ 0 ∷ []) $ fjoin ! $ move ! (1 ∷ 0 ∷ []) $ fjoin ! $
    feq_i ! (List Val) (three_val u v w ∷ []) (three_val u v w ∷ []) refl $ fjoin ! $
    fpack ! (Valss (R ∷ S ∷ Q ∷ [])) (within (Declared.shape (tuple_type (R ∷ S ∷ Q ∷ []))) (x, (y, (z, tt))) (three_val u v w ∷ [])) (u ∷ [], (v ∷ [], (w ∷ [], tt))) $ done !

-- ---- bytes in memory
module _ {M : Type 1} {𝓤 : Ura M} (𝓛 : Logic 𝓤) (b : ℕ) where
  open 𝓛 use {H}

  -- bytes side by side from o on
  abbrev pub Run : List ℕ → ℕ → Fml
  Run xs o = row u8 full_share xs b o

  pub run_of : (xs : List ℕ) (o : ℕ) → ent 𝓤 (sem 𝓛 (part_at (Array u8 (length xs)) full_share xs b o)) (sem 𝓛 (Run xs o))
  run_of xs o = qed 𝓛 (‵ (part_at (Array u8 (length xs)) full_share xs b o) ∷ []) ∵
      use1 𝓛 (‵ (fsep (feq ℕ (length xs) (length xs)) (Run xs o))) (Array-apart 𝓛 u8 full_share tt (length xs) xs b o) $ fsplit ! $ drop ! $ done !

  pub array_of : (xs : List ℕ) (o : ℕ) → ent 𝓤 (sem 𝓛 (Run xs o)) (sem 𝓛 (part_at (Array u8 (length xs)) full_share xs b o))
  array_of xs o = qed 𝓛 (‵ (Run xs o) ∷ []) ∵ feq_i ! ℕ (length xs) (length xs) refl $ fjoin ! $ by ! (Array-whole 𝓛 u8 full_share (length xs) xs b o)

  -- a run of zeros, and one more behind it
  pub one_zero_more : (n o at : ℕ) → at ≡ n + o → ent 𝓤 (sep 𝓤 (sem 𝓛 (Run (replicate n 0) o)) (sem 𝓛 (part_at u8 full_share 0 b at))) (sem 𝓛 (Run (replicate (suc n) 0) o))
  one_zero_more zero o at e =
      let here : at ≡ o = omega arith in
      qed 𝓛 (‵ ftrue ∷ ‵ (part_at u8 full_share 0 b at) ∷ []) ∵ move ! (1 ∷ 0 ∷ []) $ rewrite ! 0 (λ (k : ℕ). ‵ (part_at u8 full_share 0 b k)) here refl $ fjoin ! $ done !
  one_zero_more (suc n) o at e =
      qed 𝓛 (‵ (Run (0 ∷ replicate n 0) o) ∷ ‵ (part_at u8 full_share 0 b at) ∷ []) ∵ fsplit ! $ move ! (1 ∷ 2 ∷ []) $
      use2 𝓛 (‵ (Run (replicate (suc n) 0) (o + 1))) (one_zero_more n (o + 1) at (omega arith)) $ move ! (1 ∷ 0 ∷ []) $ fjoin ! $ done !

  -- the block of bytes, whatever they are
  pub room_of : (xs : List ℕ) (o : ℕ) → ent 𝓤 (sem 𝓛 (part_at (Array u8 (length xs)) full_share xs b o)) (H.room (block_type (length xs)) b o)
  room_of xs o = qed 𝓛 (‵ (part_at (Array u8 (length xs)) full_share xs b o) ∷ []) ∵
      use1 𝓛 (some (λ (v : Val). ‵ (fat full_share (block_type (length xs)) b o v) ⊛ ‵ ((Array u8 (length xs)).own_val xs (v ∷ [])))) (part_out 𝓛 (Array u8 (length xs)) refl full_share xs b o) $
      pick ! (λ v. split ! $ keep ! (0 ∷ []) $ by ! (𝓛.laws.at_room (block_type (length xs)) b o v))
