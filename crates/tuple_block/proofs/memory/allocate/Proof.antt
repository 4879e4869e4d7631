-- `allocate` fills the new block with zeros, and keeps the right to free it. Assumes `Logic`.
use mathlib.Core.Path.{◌≡◌, refl, sym, ap, subst}
use mathlib.Core.Bool.{true, false}
use mathlib.Core.List.{List, [], ◌∷◌, ◌++◌}
use Prim.Native.Nat.{ℕ, ◌<◌, ◌^◌}
use lib.Dec.{T, lit<}
use lib.ListN.{replicate}
use seplogic.Ra.Ura.{Ura}
use base.Fml.{Lft, Share, Incl-trans, ftrue, fsep, flft, froom}
use base.Logic.{SProp, ent, guard, id⊢}
use mir.Syntax.{Body, Fn, named, ty_unit, w64}
use mir.MapTy.{inst_fn}
use mir.Val.{Val, vint, vptr, vstruct, vcons, vnil, vunit, has_ty, WT}
use prog.Memory as memory
use prog.Routine.{Routine}
use prog.Wp.{Calls, Env, Loops, Tables, Wp, WpFn, after_seq, at_return}
use contract.BorrowLft.{◌⊑◌}
use contract.Monad.{Fun, fact}
use contract.Running.{tables, tables_of}
use sound.WpLaws.{FmC, fm_of, WpFn-mono}
use types.Logic.{Logic, sem}
use types.Kit.{Item, Post as After, any_q, ⋆, ‵, raw, ◌⊛◌, some, given, later, await, pick, learn, check, updating, now, at_ret, ◌$◌, ◌∵◌, !, qed, by, move, keep, drop, use0, use1, use2, use3, join, split, fsplit, fsplit3, fjoin, feq_i, feq_l, flt_i, flt_l, suffices, frame, done}
use types.Match.{live, vrt, in_variant}
use types.Part.{whole, agg}
use types.Run.{stop, fld, lit, of_opd, and_then, no_more, first, blocks, switches_on, exec, returns, enter}
use types.ByLocal.{alloc_all, pass_all, free_all, look_at, get, get_in, get_tag, sets, sets_last, lands_as, lands_last, env}
use denote.Builtin.{unit, usize, RefOf}
use denote.Exit.{yes}
use denote.Laws.{Is}
use denote.Memory.{hidden_shr}
use denote.Param.{layout}
use denote.RattleType.{RattleType, owns}
use denote.RawPtr.{Ptr, block_ptr}
use denote.Ref.{Bor, ShrRef}
use denote.Signature.{plain}
use denote.Steps.{only, nothing, owned}
use denote.Struct.Declared as Declared
use denote.Struct.Struct.{Struct, Struct-Makes}
use denote.Struct.Tuple.{Tuple}
use denote.Triple.Call.{calls_at, calls_at_last}
use denote.Triple.Clauses.{Clauses, Ended, closing}
use denote.Triple.Entry.{on_entry}
use denote.Triple.Spec.{Meets, triple_of}
use denote.Triple.Statement.{Contract, Triple}
use denote.Triple.Table.{entered}
use denote.Triple.Walked.{says, needs, Stays, stay_dropped, walk_of, ends_at, Goes-dropped, walk_Meets}
use Rattle.std.specs.Prelude.{IfOk, Ok, Err}
use Rattle.core.specs.contracts.result.Result as RS
use Rattle.core.specs.contracts.alloc.AllocError as AE
use Rattle.core.proofs.alloc.Calls.{Al, Answer-typed, takes_key, Takes, at_takes, Answered, Takes-goes, Takes-gives, answers}
use Rattle.core.proofs.slots.Bodies.{after, head}
use Rattle.std_alloc.proofs.VecSteps.Shapes.{arm_body}
use Rattle.std_alloc.proofs.ResultValues.{ok_of, err_of}
use Rattle.std_alloc.proofs.RcSteps.{Good, first_Good}
use Rattle.tuple_block.specs.Ownership.{block_type, bytes_at}
use Rattle.tuple_block.proofs.Calls.{args, P, Right, block_size, block_align, within}
use Rattle.tuple_block.proofs.Walks.{Mark, mark, mark_made, address_val, address_Good, address_made, three_val, three_of}
use Rattle.tuple_block.specs.contracts.memory.Address as Ad
use Rattle.tuple_block.specs.contracts.memory.Memory as Me
use Rattle.tuple_block.specs.contracts.memory.allocate as f
use Rattle.tuple_block.specs.contracts.memory.allocate.Key.{name as #self}
use Rattle.tuple_block.specs.contracts.memory.set_zero as zero
use Rattle.tuple_block.specs.contracts.memory.set_zero.Key.{name as #zero}
use Rattle.tuple_block.proofs.memory.set_zero.Met.{met}
use Rattle.tuple_block.proofs.memory.allocate.Statement as stated
use Rattle.tuple_block.proofs.memory.allocate.Code as code

-- ---- the call of `set_zero`
module _ {M : Type 1} {𝓤 : Ura M} (𝓛 : Logic 𝓤) (at_mem : memory.Memory → SProp 𝓤) (run : Routine → Fun 𝓤) where
  open 𝓛 use {H}

  abbrev Zeroes : Contract 𝓤
  Zeroes = triple_of 𝓛 zero.signature (zero.spec 𝓛 at_mem run)

  module _ (b o n : ℕ) where
    abbrev at_zeroes : Zeroes.Ghost
    at_zeroes = ((tt, tt, tt, (block_ptr b o, (n, tt)), (vptr b o ∷ [], (vint w64 n ∷ [], tt))), tt)

    Zeroes-goes : n < 2 ^ 64 → ent 𝓤 (H.room (block_type n) b o) (Zeroes.pre at_zeroes)
    Zeroes-goes fits =
        qed 𝓛 (‵ (froom (block_type n) b o) ∷ []) ∵ nothing ! $ flt_i ! n (2 ^ 64) fits $ feq_i ! (List Val) (vint w64 n ∷ []) (vint w64 n ∷ []) refl $ fjoin ! $ fjoin ! $
        feq_i ! (List Val) (vptr b o ∷ []) (vptr b o ∷ []) refl $ fjoin ! $ nothing ! $ join ! $ join ! $ done !

    Zeroes-gives : (v : Val) → ent 𝓤 (Zeroes.post at_zeroes v) (H.⇛ (guard 𝓤 (v ≡ vunit) (sem 𝓛 (bytes_at (block_ptr b o) (replicate n 0)))))
    Zeroes-gives v =
        qed 𝓛 (raw (Zeroes.post at_zeroes v) ∷ []) ∵ updating ! $
        use1 𝓛 (later (some (λ (r : Unit {0}). (‵ ftrue ⊛ ‵ (unit.own_val r (v ∷ []))) ⊛ some (λ (ws : Unit {0} × (Unit {0} × Unit {0})). ‵ (fsep ftrue (fsep ftrue ftrue)) ⊛ ‵ (bytes_at (block_ptr b o) (replicate n 0)))))) (id⊢ 𝓤 _) $
        await ! tt $ pick ! (λ r. split ! $ split ! $ drop ! $ feq_l ! (λ e. pick ! (λ ws. split ! $ drop ! $ now ! $ check ! (ap only e) $ done !)))

module _ (Z : Al) where
  abbrev function : Fn
  function = inst_fn (args Z) code.function

  abbrev ended : Ended
  ended = f.ended Z.row Z.g Z.d Z.drops

  abbrev stayed : Stays ended.signature.params ended.kept
  stayed = (stay_dropped (RefOf (0 ∷ []) tt (plain (λ _. P Z)) (λ _. tt)) yes, (stay_dropped (plain (λ _. usize)) yes, tt))

  abbrev Parts : RattleType
  Parts = Tuple (Ad.the_row ∷ Me.the_row ∷ Right Z ∷ [])

  abbrev Out : RattleType
  Out = RS.the_row Parts AE.the_row

  abbrev Gives : Z.row.Denot → ℕ → Out.Denot → Type 0
  Gives h len r = IfOk r (λ t. (t.1.at ≡ t.0.ptr) × (t.1.bytes ≡ replicate len 0) × (t.2.at ≡ t.0.ptr) × (t.2.len ≡ len) × (t.2.alloc ≡ h))

module _ (Z : Al) {M : Type 1} {𝓤 : Ura M} (𝓛 : Logic 𝓤) (at_mem : memory.Memory → SProp 𝓤) (run : Routine → Fun 𝓤) where
  open 𝓛 use {H}

  abbrev held : Clauses 𝓤 (ended Z)
  held = f.clauses Z.row Z.g Z.d Z.drops 𝓛 at_mem run

  module _ (C : Calls 𝓤 H) (Λ : Loops 𝓤 H) (fm : FmC 𝓤 H 𝓛.laws C) (taking : Triple 𝓤 (C (takes_key Z)) (Takes Z 𝓛 at_mem run)) (zeroing : Triple 𝓤 (C #zero) (Zeroes 𝓛 at_mem run))
      (κ κ₁ : Lft) (q q₁ : Share) (short : κ ⊑ κ₁) (lives : κ₁ ⊑ Z.row.lives) (rb ro : ℕ) (h : Z.row.Denot) (len : ℕ) (us0 us1 : List Val) where
    abbrev self : Bor Z.row.Denot
    self = record { ref_ptr = (rb, ro); now = h }

    abbrev others : Item 𝓤
    others = ‵ (flft κ₁ q₁) ⊛ ‵ ftrue

    abbrev bound : (walk_of 𝓛 (ended Z) (stayed Z) held).Ghost
    bound = (((κ, (κ₁, tt)), (q, (q₁, tt)), (short, tt), (self, (len, tt)), (us0, (us1, tt))), tt)

    abbrev Post : Val → SProp 𝓤
    Post = (walk_of 𝓛 (ended Z) (stayed Z) held).post bound

    exits : (r : (Out Z).Denot) (v : Val) → Gives Z h len r → ent 𝓤 (⋆ 𝓛 (‵ ((Out Z).own_val r (v ∷ [])) ∷ ‵ (flft κ q) ∷ others ∷ [])) (Post v)
    exits r v given_is =
        qed 𝓛 (‵ ((Out Z).own_val r (v ∷ [])) ∷ ‵ (flft κ q) ∷ others ∷ []) ∵
        suffices ! _ (ends_at 𝓛 (ended Z) (stayed Z) held bound v r (tt, (tt, tt)) (tt, (tt, tt))) $ says ! given_is $
        move ! (1 ∷ 2 ∷ []) $ join ! $ frame ! $ nothing ! $ nothing ! $ fjoin ! $ nothing ! $ fjoin ! $ done !

    abbrev Had : List (Item 𝓤)
    Had = ‵ (hidden_shr (P Z) κ h rb ro) ∷ ‵ (flft κ q) ∷ others ∷ []

    walk : len < 2 ^ 63 → len < 2 ^ 64 → ent 𝓤 (⋆ 𝓛 Had) (WpFn 𝓤 H C Λ (function Z) (vptr rb ro ∷ vint w64 len ∷ []) Post)
    walk small fits =
        qed 𝓛 Had ∵ enter ! C Λ (function Z) (vptr rb ro ∷ vint w64 len ∷ []) _ $ alloc_all ! (λ l. pass_all ! refl ((tt, tt), ((tt, record { fits = fits }), tt)) $
        let En : Env 𝓤 H = env (function Z).locals l in
        let both : Body = head (after 1 (function Z).body) in
        let Then : After 𝓤 H = any_q (after_seq 𝓤 H (Wp 𝓤 H C Λ En (after 2 (function Z).body) (at_return 𝓤 H En Post)) (at_return 𝓤 H En Post)) in
        let y : (Takes Z 𝓛 at_mem run).Ghost = at_takes Z 𝓛 at_mem run κ q (rb, ro) h len 1 (block_type len) in
        use2 𝓛 (raw ((Takes Z 𝓛 at_mem run).pre y)) (Takes-goes Z 𝓛 at_mem run κ q (rb, ro) h (Incl-trans short lives) len 1 (block_type len) (block_size len fits) (block_align len) fits (lit< tt)) $
        calls_at ! fm (Takes Z 𝓛 at_mem run) taking y (and_then ! (get ! refl) (and_then ! (get ! refl) (and_then ! (lit ! tt) (no_more !)))) (λ v.
        use1 𝓛 (later (raw (Answered Z 𝓛 at_mem run h (block_type len) v) ⊛ ‵ (flft κ q))) (Takes-gives Z 𝓛 at_mem run κ q (rb, ro) h len 1 (block_type len) v) $ await ! tt $ split ! $
        answers Z ! at_mem run h (block_type len) v
        (λ b o e.
        let p : Ptr = block_ptr b o in
        let a : (Ad.the_row).Denot = record { ptr = p } in
        let m : (Me.the_row).Denot = record { mark = record {}; at = p; bytes = replicate len 0 } in
        let right : (Right Z).Denot = record { mark = record {}; at = p; len = len; alloc = h } in
        let made : Val = three_val (address_val p) mark mark in
        let typed : Good (layout (Parts Z)) made = (tt, ((tt, tt), ((tt, tt), ((tt, tt), tt)))) in
        let ok = first_Good (layout (Parts Z)) made typed in
        lands_as ! e refl (Answer-typed true b o) $ first ! $ switches_on ! (get_tag ! (vrt ! refl (fld ! refl (stop !))) (whole !)) $ exec ! C Λ En (arm_body 0 both) Then $
        sets ! (of_opd ! (get_in ! (vrt ! refl (fld ! refl (stop !))) (in_variant ! 0 0 refl refl (whole !)))) refl (tt, tt) $
        use1 𝓛 (raw ((Zeroes 𝓛 at_mem run).pre (at_zeroes 𝓛 at_mem run b o len))) (Zeroes-goes 𝓛 at_mem run b o len fits) $ first ! $ blocks ! $
        calls_at_last ! fm (Zeroes 𝓛 at_mem run) zeroing (at_zeroes 𝓛 at_mem run b o len) (and_then ! (get ! refl) (and_then ! (get ! refl) (no_more !))) (λ w.
        use1 𝓛 (later (given (w ≡ vunit) (‵ (bytes_at p (replicate len 0))))) (Zeroes-gives 𝓛 at_mem run b o len w) $ await ! tt $ learn ! (λ is_unit.
        lands_last ! refl (subst (λ (z : Val). T (has_ty ty_unit z) × WT z) (sym is_unit) (tt, tt)) $ exec ! C Λ En (after 2 (arm_body 0 both)) Then $
        -- [the zeros; the right to free them; the token; ..]
        sets ! (agg ! (and_then ! (get ! refl) (no_more !))) refl (address_Good p) $
        sets ! (agg ! (no_more !)) refl (tt, tt) $ sets ! (agg ! (and_then ! (get ! refl) (no_more !))) refl (tt, (tt, tt)) $
        sets ! (agg ! (no_more !)) refl (tt, tt) $ sets ! (agg ! (and_then ! (get ! refl) (no_more !))) refl (tt, (tt, tt)) $
        sets ! (agg ! (and_then ! (get ! refl) (and_then ! (get ! refl) (and_then ! (get ! refl) (no_more !))))) refl typed $
        sets_last ! (agg ! (and_then ! (lit ! tt) (and_then ! (get ! refl) (no_more !)))) refl ok $
        exec ! C Λ En (after 2 (function Z).body) (at_ret En Post) $ sets ! (of_opd ! (get ! refl)) refl ok $
        move ! (1 ∷ []) $ use0 𝓛 (‵ (Mark.own_val (tt, tt) (mark ∷ []))) (mark_made 𝓛) $ fjoin ! $ move ! (1 ∷ []) $
        use0 𝓛 (‵ (Mark.own_val (tt, tt) (mark ∷ []))) (mark_made 𝓛) $ fjoin ! $ address_made ! p $
        use3 𝓛 (‵ ((Parts Z).own_val (a, m, right) (made ∷ []))) (three_of 𝓛 Ad.the_row Me.the_row (Right Z) a m right (address_val p) mark mark) $
        use1 𝓛 (‵ ((Out Z).own_val (Ok (a, m, right)) (live 0 (vcons made vnil) ∷ []))) (ok_of 𝓛 (Parts Z) AE.the_row (a, m, right) made) $
        returns ! (look_at ! 0 refl) $ free_all ! refl $ keep ! (0 ∷ 1 ∷ 2 ∷ []) $ by ! (exits (Ok (a, m, right)) (live 0 (vcons made vnil)) (refl, refl, refl, refl, refl)))))
        (λ e.
        let Refused : RattleType = Struct (Declared.shape AE.the_type) in
        let none : Val = live 1 (vcons (vstruct vnil) vnil) in
        lands_as ! e refl (Answer-typed false 0 0) $ first ! $ switches_on ! (get_tag ! (vrt ! refl (fld ! refl (stop !))) (whole !)) $ exec ! C Λ En (arm_body 1 both) Then $
        sets ! (of_opd ! (get_in ! (vrt ! refl (fld ! refl (stop !))) (in_variant ! 1 0 refl refl (whole !)))) refl (tt, tt) $
        sets_last ! (agg ! (and_then ! (lit ! tt) (and_then ! (get ! refl) (no_more !)))) refl (tt, (record { fits = lit< tt }, (tt, tt))) $
        exec ! C Λ En (after 2 (function Z).body) (at_ret En Post) $ sets ! (of_opd ! (get ! refl)) refl (tt, (record { fits = lit< tt }, (tt, tt))) $
        owned ! Refused (Is Refused) (Struct-Makes 𝓛 (Declared.shape AE.the_type) tt) tt (vstruct vnil ∷ []) (tt, (refl, tt)) $
        use1 𝓛 (‵ ((Out Z).own_val (Err (record {})) (none ∷ []))) (err_of 𝓛 (Parts Z) AE.the_row (record {}) (vstruct vnil)) $
        returns ! (look_at ! 0 refl) $ free_all ! refl $ keep ! (0 ∷ 1 ∷ 2 ∷ []) $ by ! (exits (Err (record {})) none tt))))

    entry : len < 2 ^ 63 → ent 𝓤 (on_entry 𝓛 (ended Z).signature (κ, (κ₁, tt)) (q, (q₁, tt)) (self, (len, tt)) (us0, (us1, tt))) (WpFn 𝓤 H C Λ (function Z) (us0 ++ (us1 ++ [])) Post)
    entry small =
        qed 𝓛 ((‵ (flft κ q) ⊛ others) ∷ ‵ (owns (ShrRef (named 0) κ (P Z) ∷ usize ∷ []) (self, (len, tt)) (us0, (us1, tt))) ∷ []) ∵ split ! $ move ! (2 ∷ []) $ fsplit3 ! $ fsplit ! $ feq_l ! (λ e0.
        move ! (1 ∷ []) $ fsplit ! $ feq_l ! (λ e1. flt_l ! (λ fits. keep ! (0 ∷ 2 ∷ 3 ∷ []) $
        by ! (subst (λ (ws : List Val × List Val). ent 𝓤 (⋆ 𝓛 Had) (WpFn 𝓤 H C Λ (function Z) (ws.0 ++ (ws.1 ++ [])) Post)) (λ j. (sym e0 j, sym e1 j)) (walk small fits)))))

  meets : (𝓣 : Tables 𝓤 H) → Triple 𝓤 (𝓣.C (takes_key Z)) (Takes Z 𝓛 at_mem run) → Triple 𝓤 (𝓣.C #zero) (Zeroes 𝓛 at_mem run)
      → Meets 𝓛 (ended Z).signature (WpFn 𝓤 H 𝓣.C 𝓣.Λ (function Z)) (closing 𝓛 (ended Z) held)
  meets 𝓣 taking zeroing =
      walk_Meets 𝓛 (ended Z) (stayed Z) (Goes-dropped 𝓛 2 (RefOf (0 ∷ []) tt (plain (λ _. P Z)) (λ _. tt)) yes (λ κs x w. refl), (Goes-dropped 𝓛 2 (plain (λ _. usize)) yes (λ κs x w. refl), tt))
      held (WpFn 𝓤 H 𝓣.C 𝓣.Λ (function Z)) (WpFn-mono 𝓤 H 𝓛.laws 𝓣 (function Z))
      (λ z. let κs = z.0.0 in let qs = z.0.1 in let a = z.0.3 in let vss = z.0.4 in
      let On : SProp 𝓤 = on_entry 𝓛 (ended Z).signature κs qs a vss in
      within 𝓤 (κs.1.0 ⊑ Z.row.lives) On (fact 𝓤 (a.1.0 < 2 ^ 63)) (λ lives. needs 𝓤 (a.1.0 < 2 ^ 63) On
      (entry 𝓣.C 𝓣.Λ (fm_of 𝓤 H 𝓛.laws 𝓣) taking zeroing κs.0 κs.1.0 qs.0 qs.1.0 z.0.2.0 lives a.0.ref_ptr.0 a.0.ref_ptr.1 a.0.now a.1.0 vss.0 vss.1.0)))

pub allocate_spec : {M : Type 1} → stated.statement M
unfolding tables_of
allocate_spec 𝓤 𝓛 𝓜 𝓡 wired W LW g d dd met' md =
    let Z : Al = record { row = W; laws = LW; g = g; d = d; drops = dd } in
    let 𝓣 : Tables 𝓤 𝓛.H = tables_of 𝓤 𝓛.H 𝓜 (tables 𝓤 𝓛.H 𝓜 𝓡 𝓡.env) in
    entered 𝓤 𝓛.H (triple_of 𝓛 (ended Z).signature (f.spec W g d dd 𝓛 𝓜.mem 𝓡.returns)) 𝓣.C 𝓣.Λ (#self (args Z)) (function Z) (code.unfolded 𝓤 𝓛.H 𝓜 𝓡 wired (W, tt) d dd)
    (meets Z 𝓛 𝓜.mem 𝓡.returns 𝓣 (met'.allocate dd) (met 𝓤 𝓛 𝓜 𝓡 (code.calls-tuple_block::memory::set_zero 𝓡.env wired)))
