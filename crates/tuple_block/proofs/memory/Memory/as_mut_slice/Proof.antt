-- `as_mut_slice` lends the bytes, and the memory ends as they do. Assumes `Logic`.
use mathlib.Core.Path.{◌≡◌, refl, sym, subst, ◌∙◌}
use mathlib.Core.List.{List, [], ◌∷◌, ◌++◌}
use Prim.Native.Nat.{ℕ, ◌<◌, ◌^◌}
use native.Mathlib.Nat.{mul-one}
use native.Mathlib.Omega.{arith}
use lib.ListN.{length, drop as drop_l}
use lib.Seq.{take_at}
use seplogic.Ra.Ura.{Ura}
use base.Fraction.{full_share}
use base.Fml.{Fml, GName, Lft, Share, ftrue, fsep, fat, fbor, flft, fobs}
use base.Logic.{SProp, ent, sep, id⊢, never}
use mir.Syntax.{named, w64}
use mir.Val.{Val, vint, vptr}
use prog.Memory as memory
use prog.Routine.{Routine}
use prog.Wp.{Calls, Env, Loops, Tables, WpFn}
use contract.Monad.{Fun}
use contract.Running.{tables, tables_of}
use sound.WpLaws.{WpFn-mono}
use types.Logic.{Logic, sem}
use types.Kit.{Item, ⋆, ‵, raw, ◌⊛◌, some, later, await, pick, at_ret, ◌$◌, ◌∵◌, !, qed, by, move, keep, use1, join, split, group, rewrite, fsplit, fsplit3, fjoin, fpack, feq_l, flt_l, suffices, frame, done}
use types.Part.{whole, sub, agg}
use types.Run.{stop, fld, of_opd, and_then, no_more, first, blocks, exec, returns, enter}
use types.ByLocal.{alloc_all, pass_all, free_all, look_at, get, get_in, sets, sets_last, env, take_at as take_local, give_at}
use types.SemTy.{cells, Body as Borrowed}
use denote.Array.{Array}
use denote.Builtin.{u8, usize}
use denote.Exit.{yes, no}
use denote.Follow.{follows}
use denote.FollowSlice.{Elements, lends_Elements}
use denote.Index.{whole_in, whole_out}
use denote.Memory.{mem, cell_at, part_of}
use denote.Param.{layout}
use denote.RattleType.{RattleType, owns}
use denote.RawPtr.{Ptr, block_ptr, in_a_block}
use denote.Ref.{MutBor, MutRef}
use denote.Signature.{plain, mut_ref_to}
use denote.Slice.{MutSlice, Room, slice_val}
use denote.Steps.{nothing, opens}
use denote.Triple.Clauses.{Clauses}
use denote.Triple.Entry.{on_entry}
use denote.Triple.Spec.{Meets, triple_of}
use denote.Triple.Table.{entered}
use denote.Triple.Walked.{says, needs, Stays, stay_dropped, walk_of, ends_at, Goes-dropped, Goes-spent_ref, walk_Meets}
use Rattle.std.specs.List.{refill}
use Rattle.core.proofs.slots.Bodies.{after}
use Rattle.tuple_block.specs.Lends.{with_bytes}
use Rattle.tuple_block.specs.Ownership.{bytes_at}
use Rattle.tuple_block.proofs.Walks.{Mark, Run, run_of, array_of, address_val, address_Good, address_had}
use Rattle.tuple_block.specs.contracts.memory.Address as Ad
use Rattle.tuple_block.specs.contracts.memory.Memory as Me
use Rattle.tuple_block.specs.contracts.memory.Memory.as_mut_slice as f
use Rattle.tuple_block.specs.contracts.memory.Memory.as_mut_slice.Key.{name as #self}
use Rattle.tuple_block.proofs.memory.Memory.as_mut_slice.Statement as stated
use Rattle.tuple_block.proofs.memory.Memory.as_mut_slice.Code as code

abbrev Mem : RattleType
Mem = Me.the_row

abbrev stayed : Stays f.ended.signature.params f.ended.kept
stayed = (stay_dropped (mut_ref_to (0 ∷ []) tt (plain (λ _. Mem))) no, (stay_dropped (plain (λ _. Ad.the_row)) yes, (stay_dropped (plain (λ _. usize)) yes, tt)))

module _ {M : Type 1} {𝓤 : Ura M} (𝓛 : Logic 𝓤) (at_mem : memory.Memory → SProp 𝓤) (run : Routine → Fun 𝓤) where
  open 𝓛 use {H, A}

  abbrev held : Clauses 𝓤 f.ended
  held = f.clauses 𝓛 at_mem run

  module _ (C : Calls 𝓤 H) (Λ : Loops 𝓤 H) (κ : Lft) (q : Share) (rb ro : ℕ) (γ : GName) (m : Mem.Denot) (a : (Ad.the_row).Denot) (len : ℕ) (us0 us1 us2 : List Val) where
    abbrev Asks : Type 0
    Asks = (a.ptr ≡ m.at) × (length m.bytes ≡ len) × (len < 2 ^ 63)

    abbrev self : MutBor Mem.Denot
    self = record { ref_ptr = (rb, ro); ghost_name = γ; now = m }

    abbrev bound : (walk_of 𝓛 f.ended stayed held).Ghost
    bound = (((κ, tt), (q, tt), tt, (self, (a, (len, tt))), (us0, (us1, (us2, tt)))), tt)

    abbrev Post : Val → SProp 𝓤
    Post = (walk_of 𝓛 f.ended stayed held).post bound

    module _ (vs : List Val) (b o : ℕ) where
      -- all of the memory but its bytes
      abbrev Rest : Fml
      Rest = fsep (Mark.own_val (tt, tt) vs) (cell_at full_share Mem.mir vs rb ro)

      back : m.at ≡ block_ptr b o → (ws : List ℕ) → length ws ≡ length m.bytes
          → ent 𝓤 (sep 𝓤 (sem 𝓛 (cells (mem u8) ws b o)) (sem 𝓛 Rest)) (sem 𝓛 ((mem Mem).own_at (with_bytes m ws) rb ro))
      unfolding part_of
      back e ws same =
          let new : Mem.Denot = with_bytes m ws in
          let all : refill (length m.bytes) m.bytes ws ≡ ws = take_at ws (drop_l (length ws) m.bytes) (length m.bytes) same in
          qed 𝓛 (‵ (cells (mem u8) ws b o) ∷ ‵ Rest ∷ []) ∵ use1 𝓛 (‵ (Run 𝓛 b ws o)) (whole_out 𝓛 u8 ws b o) $
          use1 𝓛 (‵ (bytes_at (block_ptr b o) ws)) (array_of 𝓛 b ws o) $ rewrite ! 0 (λ (zs : List ℕ). ‵ (bytes_at (block_ptr b o) zs)) (sym all) refl $
          rewrite ! 0 (λ (p : Ptr). ‵ (bytes_at p new.bytes)) (sym e) refl $ move ! (1 ∷ []) $ fsplit ! $ move ! (0 ∷ 2 ∷ []) $ fjoin ! $ move ! (1 ∷ 0 ∷ []) $ fjoin ! $
          fpack ! (List Val) (λ us. fsep (cell_at full_share Mem.mir us rb ro) (Mem.own_val new us)) vs $ done !

    exits : (v : Val) (r : MutBor (List ℕ)) → r.now ≡ m.bytes
        → ent 𝓤 (sep 𝓤 (sem 𝓛 ((MutSlice (named 0) κ u8).own_val r (v ∷ []))) (sep 𝓤 (A.lft κ q) (sem 𝓛 (follows Mem (Array u8 0) γ r.ghost_name (with_bytes m))))) (Post v)
    exits v r shown =
        qed 𝓛 (‵ ((MutSlice (named 0) κ u8).own_val r (v ∷ [])) ∷ ‵ (flft κ q) ∷ ‵ (follows Mem (Array u8 0) γ r.ghost_name (with_bytes m)) ∷ []) ∵
        suffices ! _ (ends_at 𝓛 f.ended stayed held bound v r (tt, (tt, (tt, tt))) (tt, (tt, (tt, tt)))) $
        nothing ! $ nothing ! $ fjoin ! $ nothing ! $ fjoin ! $ nothing ! $ fjoin ! $ join ! $ nothing ! $ move ! (2 ∷ 0 ∷ []) $ join ! $ join ! $ frame ! $ says ! shown $ done !

    abbrev Had : List (Item 𝓤)
    Had = ‵ (fobs γ (Mem.coded.code m)) ∷ ‵ (fbor κ (Borrowed (mem Mem) rb ro γ)) ∷ ‵ (flft κ q) ∷ []

    walk : Asks → len < 2 ^ 64 → ent 𝓤 (⋆ 𝓛 Had) (WpFn 𝓤 H C Λ code.function (vptr rb ro ∷ address_val a.ptr ∷ vint w64 len ∷ []) Post)
    walk asked fits =
        let xs = m.bytes in
        let new = with_bytes m in
        let known = Mem.coded.code m in
        let long : length xs ≡ len = asked.1 in
        let low : len < 2 ^ 63 = asked.2 in
        let roomy : Room u8 (length xs) = (omega arith, omega (arith, mul-one (length xs))) in
        qed 𝓛 Had ∵ enter ! C Λ code.function (vptr rb ro ∷ address_val a.ptr ∷ vint w64 len ∷ []) _ $
        alloc_all ! (λ l. pass_all ! refl ((tt, tt), (address_Good a.ptr, ((tt, record { fits = fits }), tt))) $
        let En : Env 𝓤 H = env (code.function).locals l in
        opens ! tt Mem {h = m} rb ro (λ vs. move ! (1 ∷ []) $ fsplit ! $ move ! (1 ∷ []) $
        in_a_block ! m.at (λ p. bytes_at p xs) (id⊢ 𝓤 (never 𝓤)) (λ b o e.
        let way = back vs b o e in
        take_local ! 2 $ rewrite ! 0 (λ (p : Ptr). ‵ (fat full_share (layout Ad.the_row) (l 2) 0 (address_val p))) (asked.0 ∙ e) refl $ give_at ! 2 $
        use1 𝓛 (‵ (Run 𝓛 b xs o)) (run_of 𝓛 b xs o) $ use1 𝓛 (‵ (cells (mem u8) xs b o)) (whole_in 𝓛 u8 xs b o) $ first ! $ blocks ! $
        -- [the bytes; the mark; the memory's cell; the open borrow; obs; auth]
        sets_last ! (agg ! (and_then ! (get_in ! (fld ! refl (stop !)) (sub ! 0 refl (whole !))) (and_then ! (get ! refl) (no_more !)))) refl (tt, (tt, (record { fits = fits }, tt))) $
        exec ! C Λ En (after 1 (code.function).body) (at_ret En Post) $ sets ! (of_opd ! (get ! refl)) refl (tt, (tt, (record { fits = fits }, tt))) $
        move ! (1 ∷ 2 ∷ []) $ fjoin ! $ move ! (2 ∷ 3 ∷ 4 ∷ 1 ∷ 0 ∷ []) $ group ! 5 $
        use1 𝓛 (later (some (λ (δ : GName). raw (Elements 𝓛 Mem u8 new (named 0) κ q rb ro b o γ xs roomy (sem 𝓛 (Rest vs b o)) way δ))))
        (lends_Elements 𝓛 Mem u8 new (named 0) κ q rb ro b o γ xs roomy (sem 𝓛 (Rest vs b o)) way known known) $ await ! tt $ pick ! (λ δ.
        returns ! (look_at ! 0 refl) $ free_all ! refl $ keep ! (0 ∷ []) $
        by ! (subst (λ (k : ℕ). ent 𝓤 (Elements 𝓛 Mem u8 new (named 0) κ q rb ro b o γ xs roomy (sem 𝓛 (Rest vs b o)) way δ) (Post (slice_val (b, o) k))) long
        (exits (slice_val (b, o) (length xs)) (record { ref_ptr = (b, o); ghost_name = δ; now = xs }) refl))))))

    entry : Asks → ent 𝓤 (on_entry 𝓛 f.signature (κ, tt) (q, tt) (self, (a, (len, tt))) (us0, (us1, (us2, tt)))) (WpFn 𝓤 H C Λ code.function (us0 ++ (us1 ++ (us2 ++ []))) Post)
    entry asked =
        qed 𝓛 ((‵ (flft κ q) ⊛ ‵ ftrue) ∷ ‵ (owns (MutRef (named 0) κ Mem ∷ Ad.the_row ∷ usize ∷ []) (self, (a, (len, tt))) (us0, (us1, (us2, tt)))) ∷ []) ∵
        split ! $ move ! (2 ∷ []) $ fsplit ! $ fsplit3 ! $ feq_l ! (λ e0. move ! (2 ∷ []) $ fsplit ! $ address_had ! a.ptr us1 (λ e1. fsplit ! $ fsplit ! $ feq_l ! (λ e2. flt_l ! (λ fits.
        keep ! (1 ∷ 2 ∷ 3 ∷ []) $
        by ! (subst (λ (ws : List Val × List Val × List Val). ent 𝓤 (⋆ 𝓛 Had) (WpFn 𝓤 H C Λ code.function (ws.0 ++ (ws.1 ++ (ws.2 ++ []))) Post)) (λ j. (sym e0 j, sym e1 j, sym e2 j)) (walk asked fits))))))

  meets : (𝓣 : Tables 𝓤 H) → Meets 𝓛 f.signature (WpFn 𝓤 H 𝓣.C 𝓣.Λ code.function) (f.spec 𝓛 at_mem run)
  meets 𝓣 =
      walk_Meets 𝓛 f.ended stayed
      (Goes-spent_ref 𝓛 1 (0 ∷ []) tt (plain (λ _. Mem)), (Goes-dropped 𝓛 1 (plain (λ _. Ad.the_row)) yes (λ κs x w. refl), (Goes-dropped 𝓛 1 (plain (λ _. usize)) yes (λ κs x w. refl), tt)))
      held (WpFn 𝓤 H 𝓣.C 𝓣.Λ code.function) (WpFn-mono 𝓤 H 𝓛.laws 𝓣 code.function)
      (λ z. let r = z.0.3.0 in let a = z.0.3.1.0 in let len = z.0.3.1.1.0 in
      needs 𝓤 ((a.ptr ≡ r.now.at) × (length r.now.bytes ≡ len) × (len < 2 ^ 63)) _
      (entry 𝓣.C 𝓣.Λ z.0.0.0 z.0.1.0 r.ref_ptr.0 r.ref_ptr.1 r.ghost_name r.now a len z.0.4.0 z.0.4.1.0 z.0.4.1.1.0))

pub as_mut_slice_spec : {M : Type 1} → stated.statement M
unfolding tables_of
as_mut_slice_spec 𝓤 𝓛 𝓜 𝓡 wired =
    entered 𝓤 𝓛.H (triple_of 𝓛 f.signature (f.spec 𝓛 𝓜.mem 𝓡.returns))
    (tables 𝓤 𝓛.H 𝓜 𝓡 𝓡.env).C (tables 𝓤 𝓛.H 𝓜 𝓡 𝓡.env).Λ #self code.function (code.unfolded 𝓤 𝓛.H 𝓜 𝓡 wired)
    (meets 𝓛 𝓜.mem 𝓡.returns (tables_of 𝓤 𝓛.H 𝓜 (tables 𝓤 𝓛.H 𝓜 𝓡 𝓡.env)))
