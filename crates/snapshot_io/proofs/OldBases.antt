-- What a base of format 1 has: no replies, and the call of its last transaction is of no client.
use Rattle.std.proofs.Common.{◌≡◌, ℕ, zero, suc, Bool, true, false, cond, eqb, List, [], ◌∷◌, Option, Some, None, refl, sym, ap, subst}
use Rattle.std.specs.Prelude.{◌&&◌}
use Rattle.volt_base.specs.declared.entry.Outcome.{Outcome}
use Rattle.volt_base.specs.declared.entry.Outcome.TheVariants.{Dropped, Kept, Aborted, Snapshot}
use Rattle.volt_base.specs.Reading.{◌>>=◌, number_at, mark_at, outcome_of, outcome_at}
use Rattle.std.specs.Int.{w64}
use Rattle.volt_base.proofs.Fields.{bind_some, some_is}
use Rattle.snapshot_io.specs.Base.{Head, Base, IsOfNoClient, IfOfNoClient}
use Rattle.snapshot_io.specs.Reading.{Reader, both_at, as_at, layout_at, place_at, if_zeros, old_last_of, old_last_at, all_applied_at, no_replies_at, as_head, old_head_at, chunks_of, base_by, base_of, format_at}
use Rattle.snapshot_io.proofs.Bases.{by_format}

-- ---- what was read in two

record BothAre {A B : Type 0} (first_at : Reader A) (second_at : Reader B) (bytes : List ℕ) (x : (A × B) × List ℕ) : Type 0 where
  pub between : List ℕ
  pub first : first_at bytes ≡ Some (x.0.0, between)
  pub second : second_at between ≡ Some (x.0.1, x.1)

both_are : {A B : Type 0} (first_at : Reader A) (second_at : Reader B) (bytes : List ℕ) (x : (A × B) × List ℕ) → both_at first_at second_at bytes ≡ Some x → BothAre first_at second_at bytes x
both_are {A} {B} first_at second_at bytes x e =
    let a = bind_some (first_at bytes) (λ p. second_at p.1 >>= λ q. Some ((p.0, q.0), q.1)) x e in
    let b = bind_some (second_at a.0.1) (λ q. Some ((a.0.0, q.0), q.1)) x a.2 in
    let made : (A × B) × List ℕ = ((a.0.0, b.0.0), b.0.1) in
    subst (λ y. BothAre first_at second_at bytes y) {x = made} (some_is made x b.2) (record { between = a.0.1; first = a.1; second = b.1 })

record ItStands {A B : Type 0} (meaning : A → Option B) (one_at : Reader A) (bytes : List ℕ) (x : B × List ℕ) : Type 0 where
  pub one : A
  pub read : one_at bytes ≡ Some (one, x.1)
  pub means : meaning one ≡ Some x.0

it_stands : {A B : Type 0} (meaning : A → Option B) (one_at : Reader A) (bytes : List ℕ) (x : B × List ℕ) → as_at meaning one_at bytes ≡ Some x → ItStands meaning one_at bytes x
it_stands {A} {B} meaning one_at bytes x e =
    let a = bind_some (one_at bytes) (λ p. meaning p.0 >>= λ b. Some (b, p.1)) x e in
    let b = bind_some (meaning a.0.0) (λ b. Some (b, a.0.1)) x a.2 in
    let made : B × List ℕ = (b.0, a.0.1) in
    subst (λ y. ItStands meaning one_at bytes y) {x = made} (some_is made x b.2) (record { one = a.0.0; read = a.1; means = b.1 })

-- ---- the outcome

if_some : (t : Bool) (o p : Outcome) → cond t (Some o) None ≡ Some p → o ≡ p
if_some true o p e = some_is o p e
if_some false o p e = absurd cc

outcome_of_none : (kind call point : ℕ) (o : Outcome) → outcome_of kind call point ≡ Some o → IsOfNoClient o
outcome_of_none zero call point o e = subst IsOfNoClient (if_some (eqb call 0 && eqb point 0) Dropped o e) tt
outcome_of_none (suc zero) call point o e = subst IsOfNoClient (some_is (Kept call 0 point []) o e) (refl, refl)
outcome_of_none (suc (suc zero)) call point o e = subst IsOfNoClient (some_is (Aborted call 0 point []) o e) (refl, refl)
outcome_of_none (suc (suc (suc zero))) call point o e = subst IsOfNoClient (if_some (eqb call 0 && eqb point 0) Snapshot o e) tt
outcome_of_none (suc (suc (suc (suc kind)))) call point o e = absurd cc

outcome_at_none : (bytes : List ℕ) (x : Outcome × List ℕ) → outcome_at bytes ≡ Some x → IsOfNoClient x.0
unfolding outcome_at
outcome_at_none [] x e = absurd cc
outcome_at_none (kind ∷ bytes) x e =
    let a = bind_some (mark_at bytes) (λ mark. outcome_of kind mark.0 mark.1 >>= λ outcome. Some (outcome, mark.2)) x e in
    let b = bind_some (outcome_of kind a.0.0 a.0.1) (λ outcome. Some (outcome, a.0.2)) x a.2 in
    let made : Outcome × List ℕ = (b.0, a.0.2) in
    subst (λ (y : Outcome × List ℕ). IsOfNoClient y.0) {x = made} (some_is made x b.2) (outcome_of_none kind a.0.0 a.0.1 b.0 b.1)

zeros_none : (o : Outcome) (last : Option (ℕ × Outcome)) → if_zeros o ≡ Some last → IfOfNoClient last
zeros_none Dropped last e = subst IfOfNoClient (some_is None last e) tt
zeros_none (Kept call client point reply) last e = absurd cc
zeros_none (Aborted call client point reply) last e = absurd cc
zeros_none Snapshot last e = absurd cc

last_by : (t : Bool) (x : ℕ × Outcome) (last : Option (ℕ × Outcome)) → IsOfNoClient x.1 → cond t (if_zeros x.1) (Some (Some x)) ≡ Some last → IfOfNoClient last
last_by true x last none e = zeros_none x.1 last e
last_by false x last none e = subst IfOfNoClient (some_is (Some x) last e) none

old_last_none : (bytes : List ℕ) (x : Option (ℕ × Outcome) × List ℕ) → old_last_at bytes ≡ Some x → IfOfNoClient x.0
unfolding old_last_at
old_last_none bytes x e =
    let a = it_stands old_last_of (both_at (number_at w64) outcome_at) bytes x e in
    let b = both_are (number_at w64) outcome_at bytes (a.one, x.1) a.read in
    last_by (eqb a.one.0 0) a.one x.0 (outcome_at_none b.between (a.one.1, x.1) b.second) a.means

-- ---- the base

abbrev IsOld : Head → Type 0
IsOld h = (h.replies ≡ []) × IfOfNoClient h.last

old_head : (bytes : List ℕ) (x : Head × List ℕ) → old_head_at bytes ≡ Some x → IsOld x.0
unfolding old_head_at
old_head bytes x e =
    let h = it_stands as_head (both_at layout_at (both_at place_at (both_at old_last_at (both_at all_applied_at no_replies_at)))) bytes x e in
    let p = both_are layout_at (both_at place_at (both_at old_last_at (both_at all_applied_at no_replies_at))) bytes (h.one, x.1) h.read in
    let q = both_are place_at (both_at old_last_at (both_at all_applied_at no_replies_at)) p.between (h.one.1, x.1) p.second in
    let r = both_are old_last_at (both_at all_applied_at no_replies_at) q.between (h.one.1.1, x.1) q.second in
    let s = both_are all_applied_at no_replies_at r.between (h.one.1.1.1, x.1) r.second in
    let none : [] ≡ h.one.1.1.1.1 = ap (λ y. y.0) (some_is ([], s.between) (h.one.1.1.1.1, x.1) s.second) in
    subst IsOld (some_is _ x.0 h.means) (sym none, old_last_none q.between (h.one.1.1.0, r.between) r.first)

pub old_base : (bytes rest : List ℕ) (b : Base) → format_at bytes ≡ Some (1, rest) → base_of bytes ≡ Some b → (b.head.replies ≡ []) × IfOfNoClient b.head.last
old_base bytes rest b format e =
    let read : base_by old_head_at rest ≡ Some b = by_format bytes (1, rest) b format e in
    let a = bind_some (old_head_at rest) (λ head. chunks_of head.1 >>= λ chunks. Some (record { head = head.0; chunks = chunks })) b read in
    let c = bind_some (chunks_of a.0.1) (λ chunks. Some (record { head = a.0.0; chunks = chunks })) b a.2 in
    let made : Base = record { head = a.0.0; chunks = c.0 } in
    subst (λ (x : Base). IsOld x.head) {x = made} (some_is made b c.2) (old_head rest a.0 a.1)
