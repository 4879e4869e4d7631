-- `free` gives up the bytes as room, and hands it back with the right to free it. Assumes `Logic`.
use mathlib.Core.Path.{◌≡◌, refl, sym, subst, ◌∙◌}
use mathlib.Core.List.{List, [], ◌∷◌, ◌++◌}
use Prim.Native.Nat.{ℕ, ◌<◌, ◌^◌}
use lib.Dec.{T, lit<}
use lib.ListN.{length}
use seplogic.Ra.Ura.{Ura}
use base.Fraction.{full_share}
use base.Fml.{Lft, Share, Incl-trans, ftrue, fat, flft, froom}
use base.Logic.{SProp, ent, id⊢, never}
use mir.Syntax.{Fn, named, ty_unit, w64}
use mir.MapTy.{inst_fn}
use mir.Val.{Val, vint, vptr, vunit, has_ty, WT}
use prog.Memory as memory
use prog.Routine.{Routine}
use prog.Wp.{Calls, Env, Loops, Tables, WpFn}
use contract.BorrowLft.{◌⊑◌}
use contract.Monad.{Fun, fact}
use contract.Running.{tables, tables_of}
use sound.WpLaws.{FmC, fm_of, WpFn-mono}
use types.Logic.{Logic}
use types.Kit.{Item, ⋆, ‵, raw, ◌⊛◌, given, later, await, learn, at_ret, ◌$◌, ◌∵◌, !, qed, by, move, keep, use1, join, split, group, rewrite, fsplit, fsplit3, fjoin, feq_i, feq_l, flt_l, suffices, done}
use types.Part.{whole, sub}
use types.Run.{stop, fld, lit, unit_lit, of_opd, and_then, no_more, first, blocks, exec, returns, enter}
use types.ByLocal.{alloc_all, pass_all, free_all, look_at, get, get_in, sets, lands_last, env, take_at, give_at}
use denote.Builtin.{usize, RefOf}
use denote.Exit.{yes, no}
use denote.Memory.{hidden_shr}
use denote.Param.{layout}
use denote.RattleType.{owns}
use denote.RawPtr.{Ptr, block_ptr, in_a_block}
use denote.Ref.{Bor, ShrRef}
use denote.Signature.{plain}
use denote.Steps.{nothing}
use denote.Triple.Call.{calls_at_last}
use denote.Triple.Clauses.{Clauses, Ended, closing}
use denote.Triple.Entry.{on_entry}
use denote.Triple.Spec.{Meets, triple_of}
use denote.Triple.Statement.{Triple}
use denote.Triple.Table.{entered}
use denote.Triple.Walked.{needs, Stays, stay_dropped, walk_of, ends_at, Goes-dropped, walk_Meets}
use Rattle.core.proofs.alloc.Calls.{Al, token, gives_key, Gives, at_gives, Gives-goes, Gives-Gives, Goes-blank}
use Rattle.core.proofs.slots.Bodies.{after}
use Rattle.tuple_block.specs.Ownership.{block_type, bytes_at}
use Rattle.tuple_block.proofs.Calls.{args, P, Right, block_size, block_align, within}
use Rattle.tuple_block.proofs.Walks.{mark, mark_had, room_of, address_val, address_Good, address_had}
use Rattle.tuple_block.specs.contracts.memory.Address as Ad
use Rattle.tuple_block.specs.contracts.memory.Memory as Me
use Rattle.tuple_block.specs.contracts.memory.free as f
use Rattle.tuple_block.specs.contracts.memory.free.Key.{name as #self}
use Rattle.tuple_block.proofs.memory.free.Statement as stated
use Rattle.tuple_block.proofs.memory.free.Code as code

module _ (Z : Al) where
  abbrev function : Fn
  function = inst_fn (args Z) code.function

  abbrev ended : Ended
  ended = f.ended Z.row Z.g Z.d Z.drops

  abbrev stayed : Stays ended.signature.params ended.kept
  stayed = (stay_dropped (RefOf (0 ∷ []) tt (plain (λ _. P Z)) (λ _. tt)) yes, (stay_dropped (plain (λ _. Ad.the_row)) yes, (stay_dropped (plain (λ _. usize)) yes, (stay_dropped (plain (λ _. Me.the_row)) yes, (stay_dropped (plain (λ _. Right Z)) no, tt)))))

  abbrev Asks : Z.row.Denot → (Ad.the_row).Denot → ℕ → (Me.the_row).Denot → (Right Z).Denot → Type 0
  Asks h a len m r = (m.at ≡ a.ptr) × (length m.bytes ≡ len) × (r.at ≡ a.ptr) × (r.len ≡ len) × (r.alloc ≡ h)

module _ (Z : Al) {M : Type 1} {𝓤 : Ura M} (𝓛 : Logic 𝓤) (at_mem : memory.Memory → SProp 𝓤) (run : Routine → Fun 𝓤) where
  open 𝓛 use {H}

  abbrev held : Clauses 𝓤 (ended Z)
  held = f.clauses Z.row Z.g Z.d Z.drops 𝓛 at_mem run

  module _ (C : Calls 𝓤 H) (Λ : Loops 𝓤 H) (fm : FmC 𝓤 H 𝓛.laws C) (callee : Triple 𝓤 (C (gives_key Z)) (Gives Z 𝓛 at_mem run))
      (κ κ₁ : Lft) (q q₁ : Share) (short : κ ⊑ κ₁) (lives : κ₁ ⊑ Z.row.lives) (rb ro : ℕ) (h : Z.row.Denot) (a : (Ad.the_row).Denot) (len : ℕ) (m : (Me.the_row).Denot) (r : (Right Z).Denot) (us0 us1 us2 us3 us4 : List Val) where
    abbrev self : Bor Z.row.Denot
    self = record { ref_ptr = (rb, ro); now = h }

    abbrev others : Item 𝓤
    others = ‵ (flft κ₁ q₁) ⊛ ‵ ftrue

    abbrev bound : (walk_of 𝓛 (ended Z) (stayed Z) held).Ghost
    bound = (((κ, (κ₁, tt)), (q, (q₁, tt)), (short, tt), (self, (a, (len, (m, (r, tt))))), (us0, (us1, (us2, (us3, (us4, tt)))))), tt)

    abbrev Post : Val → SProp 𝓤
    Post = (walk_of 𝓛 (ended Z) (stayed Z) held).post bound

    exits : ent 𝓤 (⋆ 𝓛 (‵ (flft κ q) ∷ others ∷ [])) (Post vunit)
    exits =
        qed 𝓛 (‵ (flft κ q) ∷ others ∷ []) ∵
        suffices ! _ (ends_at 𝓛 (ended Z) (stayed Z) held bound vunit tt (tt, (tt, (tt, (tt, (tt, tt))))) (tt, (tt, (tt, (tt, (tt, tt)))))) $
        join ! $ feq_i ! (List Val) (vunit ∷ []) (vunit ∷ []) refl $ nothing ! $ nothing ! $ fjoin ! $ nothing ! $ fjoin ! $ nothing ! $ fjoin ! $ nothing ! $ fjoin ! $ nothing ! $ fjoin ! $ join ! $
        move ! (1 ∷ 0 ∷ []) $ join ! $ nothing ! $ move ! (1 ∷ 0 ∷ []) $ done !

    abbrev Had : List (Item 𝓤)
    Had = ‵ (bytes_at m.at m.bytes) ∷ ‵ (token Z r.alloc (block_type r.len) r.at) ∷ ‵ (hidden_shr (P Z) κ h rb ro) ∷ ‵ (flft κ q) ∷ others ∷ []

    walk : Asks Z h a len m r → len < 2 ^ 64 → ent 𝓤 (⋆ 𝓛 Had) (WpFn 𝓤 H C Λ (function Z) (vptr rb ro ∷ address_val a.ptr ∷ vint w64 len ∷ mark ∷ mark ∷ []) Post)
    walk asked fits =
        qed 𝓛 Had ∵ enter ! C Λ (function Z) (vptr rb ro ∷ address_val a.ptr ∷ vint w64 len ∷ mark ∷ mark ∷ []) _ $
        alloc_all ! (λ l. pass_all ! refl ((tt, tt), (address_Good a.ptr, ((tt, record { fits = fits }), ((tt, (tt, tt)), ((tt, (tt, tt)), tt))))) $
        let En : Env 𝓤 H = env (function Z).locals l in
        in_a_block ! m.at (λ p. bytes_at p m.bytes) (id⊢ 𝓤 (never 𝓤)) (λ b o e.
        let here : a.ptr ≡ block_ptr b o = sym asked.0 ∙ e in
        let y : (Gives Z 𝓛 at_mem run).Ghost = at_gives Z 𝓛 at_mem run κ q (rb, ro) h b o len 1 (block_type len) in
        use1 𝓛 (‵ (froom (block_type (length m.bytes)) b o)) (room_of 𝓛 b m.bytes o) $ rewrite ! 0 (λ (k : ℕ). ‵ (froom (block_type k) b o)) asked.1 refl $
        rewrite ! 1 (λ (d : Z.row.Denot × ℕ × Ptr). ‵ (token Z d.0 (block_type d.1) d.2)) (λ j. (asked.4 j, asked.3 j, (asked.2 ∙ here) j)) refl $
        take_at ! 2 $ rewrite ! 0 (λ (p : Ptr). ‵ (fat full_share (layout Ad.the_row) (l 2) 0 (address_val p))) here refl $ give_at ! 2 $
        group ! 4 $ use1 𝓛 (raw ((Gives Z 𝓛 at_mem run).pre y)) (Gives-goes Z 𝓛 at_mem run κ q (rb, ro) h (Incl-trans short lives) b o len 1 (block_type len) (block_size len fits) (block_align len) fits (lit< tt)) $
        first ! $ blocks ! $
        calls_at_last ! fm (Gives Z 𝓛 at_mem run) callee y (and_then ! (get ! refl) (and_then ! (get_in ! (fld ! refl (stop !)) (sub ! 0 refl (whole !))) (and_then ! (get ! refl) (and_then ! (lit ! tt) (no_more !))))) (λ v.
        use1 𝓛 (later (given (v ≡ vunit) (‵ (flft κ q)))) (Gives-Gives Z 𝓛 at_mem run κ q (rb, ro) h b o len 1 (block_type len) v) $ await ! tt $ learn ! (λ is_unit.
        lands_last ! refl (subst (λ (z : Val). T (has_ty ty_unit z) × WT z) (sym is_unit) (tt, tt)) $ exec ! C Λ En (after 1 (function Z).body) (at_ret En Post) $
        sets ! (of_opd ! (unit_lit !)) refl (tt, tt) $ returns ! (look_at ! 0 refl) $ free_all ! refl $ keep ! (0 ∷ 1 ∷ []) $ by ! exits))))

    entry : Asks Z h a len m r → ent 𝓤 (on_entry 𝓛 (ended Z).signature (κ, (κ₁, tt)) (q, (q₁, tt)) (self, (a, (len, (m, (r, tt))))) (us0, (us1, (us2, (us3, (us4, tt)))))) (WpFn 𝓤 H C Λ (function Z) (us0 ++ (us1 ++ (us2 ++ (us3 ++ (us4 ++ []))))) Post)
    entry asked =
        qed 𝓛 ((‵ (flft κ q) ⊛ others) ∷ ‵ (owns (ShrRef (named 0) κ (P Z) ∷ Ad.the_row ∷ usize ∷ Me.the_row ∷ Right Z ∷ []) (self, (a, (len, (m, (r, tt))))) (us0, (us1, (us2, (us3, (us4, tt)))))) ∷ []) ∵
        split ! $ move ! (2 ∷ []) $ fsplit3 ! $ fsplit ! $ feq_l ! (λ e0. move ! (1 ∷ []) $ address_had ! a.ptr us1 (λ e1. move ! (1 ∷ []) $ fsplit3 ! $ fsplit ! $ feq_l ! (λ e2. flt_l ! (λ fits.
        fsplit ! $ mark_had ! us3 (λ e3. move ! (1 ∷ []) $ fsplit ! $ fsplit ! $ mark_had ! us4 (λ e4. keep ! (2 ∷ 0 ∷ 3 ∷ 4 ∷ 5 ∷ []) $
        by ! (subst (λ (ws : List Val × List Val × List Val × List Val × List Val). ent 𝓤 (⋆ 𝓛 Had) (WpFn 𝓤 H C Λ (function Z) (ws.0 ++ (ws.1 ++ (ws.2 ++ (ws.3 ++ (ws.4 ++ []))))) Post))
        (λ j. (sym e0 j, sym e1 j, sym e2 j, sym e3 j, sym e4 j)) (walk asked fits))))))))

  meets : (𝓣 : Tables 𝓤 H) → Triple 𝓤 (𝓣.C (gives_key Z)) (Gives Z 𝓛 at_mem run) → Meets 𝓛 (ended Z).signature (WpFn 𝓤 H 𝓣.C 𝓣.Λ (function Z)) (closing 𝓛 (ended Z) held)
  meets 𝓣 callee =
      walk_Meets 𝓛 (ended Z) (stayed Z) (Goes-dropped 𝓛 2 (RefOf (0 ∷ []) tt (plain (λ _. P Z)) (λ _. tt)) yes (λ κs x w. refl), (Goes-dropped 𝓛 2 (plain (λ _. Ad.the_row)) yes (λ κs x w. refl), (Goes-dropped 𝓛 2 (plain (λ _. usize)) yes (λ κs x w. refl), (Goes-blank 𝓛 2 (plain (λ _. Me.the_row)) yes (λ κs x w. tt), (Goes-blank 𝓛 2 (plain (λ _. Right Z)) no (λ κs x w. tt), tt)))))
      held (WpFn 𝓤 H 𝓣.C 𝓣.Λ (function Z)) (WpFn-mono 𝓤 H 𝓛.laws 𝓣 (function Z))
      (λ z. let κs = z.0.0 in let qs = z.0.1 in let a = z.0.3 in let vss = z.0.4 in
      let On : SProp 𝓤 = on_entry 𝓛 (ended Z).signature κs qs a vss in
      let asks = Asks Z a.0.now a.1.0 a.1.1.0 a.1.1.1.0 a.1.1.1.1.0 in
      within 𝓤 (κs.1.0 ⊑ Z.row.lives) On (fact 𝓤 asks) (λ lives. needs 𝓤 asks On
      (entry 𝓣.C 𝓣.Λ (fm_of 𝓤 H 𝓛.laws 𝓣) callee κs.0 κs.1.0 qs.0 qs.1.0 z.0.2.0 lives a.0.ref_ptr.0 a.0.ref_ptr.1 a.0.now a.1.0 a.1.1.0 a.1.1.1.0 a.1.1.1.1.0 vss.0 vss.1.0 vss.1.1.0 vss.1.1.1.0 vss.1.1.1.1.0)))

pub free_spec : {M : Type 1} → stated.statement M
unfolding tables_of
free_spec 𝓤 𝓛 𝓜 𝓡 wired W LW g d dd met md =
    let Z : Al = record { row = W; laws = LW; g = g; d = d; drops = dd } in
    let 𝓣 : Tables 𝓤 𝓛.H = tables_of 𝓤 𝓛.H 𝓜 (tables 𝓤 𝓛.H 𝓜 𝓡 𝓡.env) in
    entered 𝓤 𝓛.H (triple_of 𝓛 (ended Z).signature (f.spec W g d dd 𝓛 𝓜.mem 𝓡.returns)) 𝓣.C 𝓣.Λ (#self (args Z)) (function Z) (code.unfolded 𝓤 𝓛.H 𝓜 𝓡 wired (W, tt) d dd)
    (meets Z 𝓛 𝓜.mem 𝓡.returns 𝓣 (met.deallocate dd))
