-- `as_slice` shows the bytes that a `&` to the memory lends. Assumes `Logic`.
use mathlib.Core.Path.{◌≡◌, refl, sym, ap, subst, ◌∙◌}
use mathlib.Core.List.{List, [], ◌∷◌, ◌++◌}
use Prim.Native.Nat.{ℕ, ◌*◌, ◌<◌, ◌^◌}
use native.Mathlib.Nat.{mul-one}
use native.Mathlib.Omega.{arith}
use lib.ListN.{length}
use seplogic.Ra.Ura.{Ura}
use base.Fraction.{full_share}
use base.Fml.{Lft, Share, ftrue, fat, flft}
use base.Logic.{SProp, ent, fst∗, never}
use mir.Syntax.{named, w64}
use mir.Val.{Val, vint, vptr}
use prog.Memory as memory
use prog.Routine.{Routine}
use prog.Wp.{Calls, Env, Loops, Tables, WpFn}
use contract.Monad.{Fun}
use contract.Running.{tables, tables_of}
use sound.WpLaws.{WpFn-mono}
use types.Logic.{Logic, sem}
use types.Kit.{Item, ⋆, ‵, ◌⊛◌, at_ret, ◌$◌, ◌∵◌, !, qed, by, move, keep, drop, join, split, rewrite, fsplit, fjoin, feq_i, feq_l, flt_i, flt_l, suffices, frame, done}
use types.Part.{whole, sub, agg}
use types.Run.{stop, fld, of_opd, and_then, no_more, first, blocks, exec, returns, enter}
use types.ByLocal.{alloc_all, pass_all, free_all, look_at, get, get_in, sets, sets_last, env, take_at, give_at}
use denote.Array.{Array}
use denote.Builtin.{u8, usize, RefOf}
use denote.Exit.{yes}
use denote.Memory.{hidden_shr, shared_of}
use denote.Opens.{hide, unhide}
use denote.Param.{layout}
use denote.RattleType.{owns}
use denote.RawPtr.{Ptr, in_a_block}
use denote.Ref.{Bor, ShrRef}
use denote.Signature.{plain}
use denote.Slice.{ShrSlice, slice_val}
use denote.Steps.{nothing}
use denote.Triple.Clauses.{Clauses}
use denote.Triple.Entry.{on_entry}
use denote.Triple.Spec.{Meets, triple_of}
use denote.Triple.Table.{entered}
use denote.Triple.Walked.{says, needs, Stays, stay_dropped, walk_of, ends_at, Goes-dropped, walk_Meets}
use Rattle.core.proofs.slots.Bodies.{after}
use Rattle.tuple_block.specs.Ownership.{bytes_lent}
use Rattle.tuple_block.proofs.Walks.{address_val, address_Good, address_had}
use Rattle.tuple_block.specs.contracts.memory.Address as Ad
use Rattle.tuple_block.specs.contracts.memory.Memory as Me
use Rattle.tuple_block.specs.contracts.memory.Memory.as_slice as f
use Rattle.tuple_block.specs.contracts.memory.Memory.as_slice.Key.{name as #self}
use Rattle.tuple_block.proofs.memory.Memory.as_slice.Statement as stated
use Rattle.tuple_block.proofs.memory.Memory.as_slice.Code as code

abbrev stayed : Stays f.ended.signature.params f.ended.kept
stayed = (stay_dropped (RefOf (0 ∷ []) tt (plain (λ _. Me.the_row)) (λ _. tt)) yes, (stay_dropped (plain (λ _. Ad.the_row)) yes, (stay_dropped (plain (λ _. usize)) yes, tt)))

module _ {M : Type 1} {𝓤 : Ura M} (𝓛 : Logic 𝓤) (at_mem : memory.Memory → SProp 𝓤) (run : Routine → Fun 𝓤) where
  open 𝓛 use {H}

  abbrev held : Clauses 𝓤 f.ended
  held = f.clauses 𝓛 at_mem run

  module _ (C : Calls 𝓤 H) (Λ : Loops 𝓤 H) (κ : Lft) (q : Share) (rb ro : ℕ) (m : (Me.the_row).Denot) (a : (Ad.the_row).Denot) (len : ℕ) (us0 us1 us2 : List Val) where
    abbrev Asks : Type 0
    Asks = (a.ptr ≡ m.at) × (length m.bytes ≡ len) × (len < 2 ^ 63)

    abbrev self : Bor (Me.the_row).Denot
    self = record { ref_ptr = (rb, ro); now = m }

    abbrev bound : (walk_of 𝓛 f.ended stayed held).Ghost
    bound = (((κ, tt), (q, tt), tt, (self, (a, (len, tt))), (us0, (us1, (us2, tt)))), tt)

    abbrev Post : Val → SProp 𝓤
    Post = (walk_of 𝓛 f.ended stayed held).post bound

    exits : (r : Bor (List ℕ)) (v : Val) → r.now ≡ m.bytes → ent 𝓤 (⋆ 𝓛 (‵ (flft κ q) ∷ ‵ ((ShrSlice (named 0) κ u8).own_val r (v ∷ [])) ∷ [])) (Post v)
    exits r v shown =
        qed 𝓛 (‵ (flft κ q) ∷ ‵ ((ShrSlice (named 0) κ u8).own_val r (v ∷ [])) ∷ []) ∵
        suffices ! _ (ends_at 𝓛 f.ended stayed held bound v r (tt, (tt, (tt, tt))) (tt, (tt, (tt, tt)))) $ says ! shown $
        nothing ! $ move ! (1 ∷ 0 ∷ []) $ join ! $ frame ! $ nothing ! $ nothing ! $ fjoin ! $ nothing ! $ fjoin ! $ nothing ! $ fjoin ! $ done !

    abbrev Had : List (Item 𝓤)
    Had = ‵ (hidden_shr Me.the_row κ m rb ro) ∷ ‵ (flft κ q) ∷ []

    walk : Asks → len < 2 ^ 64 → ent 𝓤 (⋆ 𝓛 Had) (WpFn 𝓤 H C Λ code.function (vptr rb ro ∷ address_val a.ptr ∷ vint w64 len ∷ []) Post)
    walk asked fits =
        let long : length m.bytes ≡ len = asked.1 in
        let low : len < 2 ^ 63 = asked.2 in
        let small : length m.bytes * 1 < 2 ^ 63 = omega (arith, mul-one (length m.bytes)) in
        qed 𝓛 Had ∵ enter ! C Λ code.function (vptr rb ro ∷ address_val a.ptr ∷ vint w64 len ∷ []) _ $
        alloc_all ! (λ l. pass_all ! refl ((tt, tt), (address_Good a.ptr, ((tt, record { fits = fits }), tt))) $
        let En : Env 𝓤 H = env (code.function).locals l in
        unhide ! $ fsplit ! $ drop ! $ in_a_block ! m.at (λ p. bytes_lent p m.bytes κ) (fst∗ 𝓤 (never 𝓤) (sem 𝓛 (shared_of (Array u8 (length m.bytes)) m.bytes 0 0 κ))) (λ b o e. fsplit ! $ drop ! $ fsplit ! $ drop ! $
        take_at ! 2 $ rewrite ! 0 (λ (p : Ptr). ‵ (fat full_share (layout Ad.the_row) (l 2) 0 (address_val p))) (asked.0 ∙ e) refl $ give_at ! 2 $ first ! $ blocks ! $ hide ! $
        -- [the bytes, shared; the token]
        sets_last ! (agg ! (and_then ! (get_in ! (fld ! refl (stop !)) (sub ! 0 refl (whole !))) (and_then ! (get ! refl) (no_more !)))) refl (tt, (tt, (record { fits = fits }, tt))) $
        exec ! C Λ En (after 1 (code.function).body) (at_ret En Post) $ sets ! (of_opd ! (get ! refl)) refl (tt, (tt, (record { fits = fits }, tt))) $
        flt_i ! (length m.bytes * 1) (2 ^ 63) small $ flt_i ! (length m.bytes) (2 ^ 64) (omega arith) $ fjoin ! $
        feq_i ! (List Val) (slice_val (b, o) len ∷ []) (slice_val (b, o) (length m.bytes) ∷ []) (ap (λ k. slice_val (b, o) k ∷ []) (sym long)) $ fjoin ! $ fjoin ! $
        returns ! (look_at ! 0 refl) $ free_all ! refl $ keep ! (1 ∷ 0 ∷ []) $ by ! (exits (record { ref_ptr = (b, o); now = m.bytes }) (slice_val (b, o) len) refl)))

    entry : Asks → ent 𝓤 (on_entry 𝓛 f.signature (κ, tt) (q, tt) (self, (a, (len, tt))) (us0, (us1, (us2, tt)))) (WpFn 𝓤 H C Λ code.function (us0 ++ (us1 ++ (us2 ++ []))) Post)
    entry asked =
        qed 𝓛 ((‵ (flft κ q) ⊛ ‵ ftrue) ∷ ‵ (owns (ShrRef (named 0) κ Me.the_row ∷ Ad.the_row ∷ usize ∷ []) (self, (a, (len, tt))) (us0, (us1, (us2, tt)))) ∷ []) ∵
        split ! $ move ! (2 ∷ []) $ fsplit ! $ fsplit ! $ feq_l ! (λ e0. move ! (1 ∷ []) $ fsplit ! $ address_had ! a.ptr us1 (λ e1. fsplit ! $ fsplit ! $ feq_l ! (λ e2. flt_l ! (λ fits.
        keep ! (1 ∷ 2 ∷ []) $
        by ! (subst (λ (ws : List Val × List Val × List Val). ent 𝓤 (⋆ 𝓛 Had) (WpFn 𝓤 H C Λ code.function (ws.0 ++ (ws.1 ++ (ws.2 ++ []))) Post)) (λ j. (sym e0 j, sym e1 j, sym e2 j)) (walk asked fits))))))

  meets : (𝓣 : Tables 𝓤 H) → Meets 𝓛 f.signature (WpFn 𝓤 H 𝓣.C 𝓣.Λ code.function) (f.spec 𝓛 at_mem run)
  meets 𝓣 =
      walk_Meets 𝓛 f.ended stayed
      (Goes-dropped 𝓛 1 (RefOf (0 ∷ []) tt (plain (λ _. Me.the_row)) (λ _. tt)) yes (λ κs x w. refl), (Goes-dropped 𝓛 1 (plain (λ _. Ad.the_row)) yes (λ κs x w. refl), (Goes-dropped 𝓛 1 (plain (λ _. usize)) yes (λ κs x w. refl), tt)))
      held (WpFn 𝓤 H 𝓣.C 𝓣.Λ code.function) (WpFn-mono 𝓤 H 𝓛.laws 𝓣 code.function)
      (λ z. let r = z.0.3.0 in let a = z.0.3.1.0 in let len = z.0.3.1.1.0 in
      needs 𝓤 ((a.ptr ≡ r.now.at) × (length r.now.bytes ≡ len) × (len < 2 ^ 63)) _
      (entry 𝓣.C 𝓣.Λ z.0.0.0 z.0.1.0 r.ref_ptr.0 r.ref_ptr.1 r.now a len z.0.4.0 z.0.4.1.0 z.0.4.1.1.0))

pub as_slice_spec : {M : Type 1} → stated.statement M
unfolding tables_of
as_slice_spec 𝓤 𝓛 𝓜 𝓡 wired =
    entered 𝓤 𝓛.H (triple_of 𝓛 f.signature (f.spec 𝓛 𝓜.mem 𝓡.returns))
    (tables 𝓤 𝓛.H 𝓜 𝓡 𝓡.env).C (tables 𝓤 𝓛.H 𝓜 𝓡 𝓡.env).Λ #self code.function (code.unfolded 𝓤 𝓛.H 𝓜 𝓡 wired)
    (meets 𝓛 𝓜.mem 𝓡.returns (tables_of 𝓤 𝓛.H 𝓜 (tables 𝓤 𝓛.H 𝓜 𝓡 𝓡.env)))
