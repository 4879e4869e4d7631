-- `set_zero` turns room into zeros, one byte in each turn. Assumes `Logic`.
use mathlib.Core.Path.{◌≡◌, refl}
use mathlib.Core.List.{List, [], ◌∷◌}
use mathlib.Core.WellFounded.InvImage
use Prim.Native.Nat.{ℕ, zero, suc, ◌+◌, ◌-◌, ◌≤◌, ◌<◌, ◌^◌}
use native.Mathlib.Omega.{arith}
use lib.Dec.{lit<, ltb→lt, nltb→le}
use lib.ListN.{replicate}
use lib.WfN.{lt-wf_rel}
use seplogic.Ra.Ura.{Ura}
use base.Fraction.{full_share}
use base.Fml.{ftrue, fat, froom}
use base.Logic.{SProp, ent, id⊢}
use mir.Syntax.{Body, w8, w64, ty_int}
use mir.Val.{Val, vint, vptr, vunit}
use prog.Memory.{Memory}
use prog.Routine.{Routine}
use prog.Wp.{Env, Out, Tables, Wp, WpFn, after_block, after_seq, after_turn, at_return}
use contract.Monad.{Fun}
use contract.Running.{tables, tables_of}
use sound.WpLaws.{WpFn-mono}
use types.Logic.{Logic, sem}
use types.Kit.{Item, Sq, any_q, runs, prop, regoal, ‵, ◌⊛◌, at_ret, ◌$◌, ◌∵◌, !, qed, by, move, keep, drop, use1, use2, join, split, rewrite, fjoin, feq_i, suffices, done}
use types.Run.{stop, lit, bin, unit_lit, of_opd, init, assigns_last, first, blocks, skips, jumps, branches, exec, returns, enter, loops, again, Below}
use types.ByLocal.{alloc_all, pass_all, free_all, look_at, get, through, sets, sets_last, env, holding, forget_but, take_at, give_at}
use denote.Builtin.{u8, usize}
use denote.Exit.{yes}
use denote.Memory.{part_at}
use denote.Plain.{uint_in, uint_vals, uint_Tells}
use denote.RattleType.{owns}
use denote.RawPtr.{Ptr, RawPtr, block_ptr, ptr_val, rawptr_vals, rawptr_Tells, room_for, in_a_block}
use denote.Signature.{plain}
use denote.Steps.{nothing}
use denote.Triple.Clauses.{Clauses}
use denote.Triple.Spec.{triple_of}
use denote.Triple.Table.{entered}
use denote.Triple.Walked.{Stays, stay_dropped, walk_of, ends_at, walked, Goes-dropped, walk_Meets}
use Rattle.core.proofs.slots.Bodies.{after, head}
use Rattle.tuple_block.specs.Ownership.{block_type, bytes_at}
use Rattle.tuple_block.proofs.Walks.{Run, array_of, one_zero_more}
use Rattle.tuple_block.specs.contracts.memory.set_zero as f
use Rattle.tuple_block.specs.contracts.memory.set_zero.Key.{name as #self}
use Rattle.tuple_block.proofs.memory.set_zero.Statement as stated
use Rattle.tuple_block.proofs.memory.set_zero.Code as code

abbrev stayed : Stays f.ended.signature.params f.ended.kept
stayed = (stay_dropped (plain (λ _. RawPtr)) yes, (stay_dropped (plain (λ _. usize)) yes, tt))

abbrev turn : Body
turn = head (head (head (after 1 (code.function).body)))

module _ {M : Type 1} {𝓤 : Ura M} (𝓛 : Logic 𝓤) (at_mem : Memory → SProp 𝓤) (run : Routine → Fun 𝓤) (𝓣 : Tables 𝓤 𝓛.H) (n : ℕ) (fits : n < 2 ^ 64) where
  open 𝓛 use {H}

  abbrev held : Clauses 𝓤 f.ended
  held = f.clauses 𝓛 at_mem run

  abbrev bound : Ptr → (walk_of 𝓛 f.ended stayed held).Ghost
  bound p = ((tt, tt, tt, (p, (n, tt)), (ptr_val p ∷ [], (vint w64 n ∷ [], tt))), tt)

  abbrev Post : Ptr → Val → SProp 𝓤
  Post p = (walk_of 𝓛 f.ended stayed held).post (bound p)

  module _ (b o : ℕ) where
    exits : ent 𝓤 (sem 𝓛 (bytes_at (block_ptr b o) (replicate n 0))) (Post (block_ptr b o) vunit)
    exits =
        qed 𝓛 (‵ (bytes_at (block_ptr b o) (replicate n 0)) ∷ []) ∵
        suffices ! _ (ends_at 𝓛 f.ended stayed held (bound (block_ptr b o)) vunit tt (tt, (tt, tt)) (tt, (tt, tt))) $
        feq_i ! (List Val) (vunit ∷ []) (vunit ∷ []) refl $ nothing ! $ nothing ! $ fjoin ! $ nothing ! $ fjoin ! $ join ! $ nothing ! $ join ! $ done !

    -- how many are written
    abbrev Count : Type 0
    Count = (i : ℕ) × (i ≤ n)

    abbrev Nearer : Count → Count → Type 0
    Nearer t u = n - t.0 < n - u.0

    module _ (l : ℕ → ℕ) where
      abbrev En : Env 𝓤 H
      En = env (code.function).locals l

      -- zeros, and room behind them
      abbrev Now : Count → List (Item 𝓤)
      Now t = ‵ (Run 𝓛 b (replicate t.0 0) o) ∷ ‵ (froom (block_type (n - t.0)) b (t.0 + o)) ∷ holding 𝓛 En ((1, vptr b o) ∷ (2, vint w64 n) ∷ (3, vint w64 t.0) ∷ [])

      abbrev Turned : Count → Out → SProp 𝓤
      Turned t = after_turn 𝓤 H (Below 𝓛 Nearer Now t) (after_block 𝓤 H (after_seq 𝓤 H (Wp 𝓤 H 𝓣.C 𝓣.Λ En (after 2 (code.function).body) (at_return 𝓤 H En (Post (block_ptr b o)))) (at_return 𝓤 H En (Post (block_ptr b o)))))

      turns : (t : Count) → Sq 𝓛 (Now t) (runs 𝓣.C 𝓣.Λ En turn (any_q (Turned t)))
      unfolding after_turn
      turns t =
          let i : ℕ = t.0 in
          let le : i ≤ n = t.1 in
          sets ! (bin ! (get ! refl) (get ! refl) tt) refl (tt, tt) $ first ! $ branches ! (get ! refl)
          (λ less.
          let h : i < n = ltb→lt i n less in
          let more : n - i ≡ suc (n - suc i) = omega arith in
          let next : i + 1 < 2 ^ 64 = omega arith in
          let one_on : i + 1 ≡ suc i = omega arith in
          let behind : i + o + 1 ≡ suc i + o = omega arith in
          skips ! $ exec ! 𝓣.C 𝓣.Λ En (after 2 turn) (any_q (Turned t)) $ first ! $ blocks ! $
          sets ! (bin ! (get ! refl) (get ! refl) tt) refl (tt, tt) $ move ! (1 ∷ []) $
          rewrite ! 0 (λ (k : ℕ). ‵ (froom (block_type k) b (i + o))) more refl $
          use1 𝓛 (‵ (froom (ty_int w8) b (i + o)) ⊛ ‵ (froom (block_type (n - suc i)) b (i + o + 1))) (𝓛.laws.room_uncons (ty_int w8) (n - suc i) b (i + o)) $ split ! $
          -- [room for one; the rest of the room; the zeros]
          assigns_last ! (of_opd ! (lit ! tt)) (through ! refl (stop !)) (init ! 0 refl (tt, record { fits = lit< tt })) $
          exec ! 𝓣.C 𝓣.Λ En (after 3 turn) (any_q (Turned t)) $ sets_last ! (bin ! (get ! refl) (lit ! tt) (record { fits = next })) refl (tt, record { fits = next }) $
          use1 𝓛 (‵ (part_at u8 full_share 0 b (i + o))) (uint_in 𝓛 full_share w8 0 b (i + o)) $ move ! (2 ∷ 0 ∷ []) $
          use2 𝓛 (‵ (Run 𝓛 b (replicate (suc i) 0) o)) (one_zero_more 𝓛 b i o (i + o) refl) $ move ! (1 ∷ []) $
          rewrite ! 0 (λ (k : ℕ). ‵ (froom (block_type (n - suc i)) b k)) behind refl $ move ! (1 ∷ 0 ∷ []) $
          forget_but ! En (1 ∷ 2 ∷ 3 ∷ []) refl $ take_at ! 3 $ rewrite ! 0 (λ (k : ℕ). ‵ (fat full_share (ty_int w64) (l 3) zero (vint w64 k))) one_on refl $ give_at ! 3 $
          again ! Nearer Now t (suc i, omega arith) (omega arith))
          (λ over.
          let ge : n ≤ i = nltb→le i n over in
          let all : i ≡ n = omega arith in
          jumps ! $ exec ! 𝓣.C 𝓣.Λ En (after 2 (code.function).body) (at_ret En (Post (block_ptr b o))) $
          rewrite ! 0 (λ (k : ℕ). ‵ (Run 𝓛 b (replicate k 0) o)) all refl $ use1 𝓛 (‵ (bytes_at (block_ptr b o) (replicate n 0))) (array_of 𝓛 b (replicate n 0) o) $
          sets ! (of_opd ! (unit_lit !)) refl (tt, tt) $ returns ! (look_at ! 0 refl) $ free_all ! refl $ keep ! (0 ∷ []) $ by ! exits)

    walk : ent 𝓤 (H.room (block_type n) b o) (WpFn 𝓤 H 𝓣.C 𝓣.Λ code.function (vptr b o ∷ vint w64 n ∷ []) (Post (block_ptr b o)))
    walk =
        qed 𝓛 (‵ (froom (block_type n) b o) ∷ []) ∵ enter ! 𝓣.C 𝓣.Λ code.function (vptr b o ∷ vint w64 n ∷ []) _ $
        alloc_all ! (λ l. pass_all ! refl ((tt, tt), ((tt, record { fits = fits }), tt)) $
        let all : n ≡ n - 0 = omega arith in
        let here : o ≡ 0 + o = omega arith in
        rewrite ! 0 (λ (k : ℕ). ‵ (froom (block_type k) b o)) all refl $ rewrite ! 0 (λ (k : ℕ). ‵ (froom (block_type (n - 0)) b k)) here refl $ nothing ! $
        sets ! (of_opd ! (lit ! tt)) refl (tt, record { fits = lit< tt }) $
        first ! $ blocks ! $ loops ! 𝓣 Nearer (InvImage.wf (λ (t : Count). n - t.0) lt-wf_rel.wf) (Now l) (turns l) (0, omega arith))

  walk_at : (p : Ptr) → ent 𝓤 ((walk_of 𝓛 f.ended stayed held).pre (bound p)) (WpFn 𝓤 H 𝓣.C 𝓣.Λ code.function (ptr_val p ∷ vint w64 n ∷ []) (Post p))
  walk_at p =
      qed 𝓛 ((‵ ftrue ⊛ ‵ (owns (RawPtr ∷ usize ∷ []) (p, (n, tt)) (ptr_val p ∷ [], (vint w64 n ∷ [], tt)))) ∷ ‵ (room_for (block_type n) p) ∷ []) ∵ drop ! $
      in_a_block ! p (λ z. room_for (block_type n) z) (id⊢ 𝓤 _) (λ b o e.
      regoal ! (λ z. prop (WpFn 𝓤 H 𝓣.C 𝓣.Λ code.function (ptr_val z ∷ vint w64 n ∷ []) (Post z))) e refl $ by ! (walk b o))

pub set_zero_spec : {M : Type 1} → stated.statement M
unfolding tables_of
set_zero_spec 𝓤 𝓛 𝓜 𝓡 wired =
    let 𝓣 : Tables 𝓤 𝓛.H = tables_of 𝓤 𝓛.H 𝓜 (tables 𝓤 𝓛.H 𝓜 𝓡 𝓡.env) in
    let held' = f.clauses 𝓛 𝓜.mem 𝓡.returns in
    entered 𝓤 𝓛.H (triple_of 𝓛 f.signature (f.spec 𝓛 𝓜.mem 𝓡.returns)) 𝓣.C 𝓣.Λ #self code.function (code.unfolded 𝓤 𝓛.H 𝓜 𝓡 wired)
    (walk_Meets 𝓛 f.ended stayed (Goes-dropped 𝓛 0 (plain (λ _. RawPtr)) yes (λ κs x w. refl), (Goes-dropped 𝓛 0 (plain (λ _. usize)) yes (λ κs x w. refl), tt)) held'
    (WpFn 𝓤 𝓛.H 𝓣.C 𝓣.Λ code.function) (WpFn-mono 𝓤 𝓛.H 𝓛.laws 𝓣 code.function)
    (walked 𝓛 f.ended stayed held' (WpFn 𝓤 𝓛.H 𝓣.C 𝓣.Λ code.function) (λ κs. (rawptr_vals, (uint_vals w64, tt))) (λ κs. (rawptr_Tells, (uint_Tells w64, tt)))
    (λ κs qs bounds a g are. walk_at 𝓛 𝓜.mem 𝓡.returns 𝓣 a.1.0 are.1.0.1 a.0)))
