-- What is read is spelled so, what is spelled so is read, and no spelling begins another.
use Rattle.std.proofs.Common.{◌≡◌, ℕ, zero, suc, ◌+◌, ◌-◌, ◌^◌, ◌<◌, ◌≤◌, Bool, true, false, eqb, ◌==◌, Option, ◌⊎◌, inl, inr, List, [], ◌∷◌, ◌++◌, length, drop, Some, None, refl, sym, ap, subst, ◌∙◌, append_assoc, arith}
use Rattle.std.specs.Prelude.{◌&&◌, if◌then◌else◌}
use Rattle.std.specs.Int.{w16, w32, w64, to_be_bytes}
use Rattle.std.proofs.lemmas.List.{drop_at, length-append}
use Rattle.std.proofs.lemmas.Option.{none-some, some_pair_parts, cond_some}
use Rattle.std.proofs.lemmas.Bool.{eqb-true, ne_eqb, and_parts}
use Rattle.volt_base.specs.declared.entry.Entry.{Entry}
use Rattle.volt_base.specs.declared.entry.Entry.TheVariants.{Sp, Frag, Done}
use Rattle.volt_base.specs.declared.entry.Outcome.{Outcome}
use Rattle.volt_base.specs.declared.entry.Outcome.TheVariants.{Dropped, Kept, Aborted, Snapshot}
use Rattle.volt_base.specs.Spelling.{body_bytes, mark_bytes, client_bytes, sp_bytes, end_bytes, applied_bytes, done_bytes, entry_bytes, reply_of, HasClientOfReply, CallFits, OutcomeFits, Fits, BeginsWith, BeginsWithNone}
use Rattle.volt_base.specs.Reading.{◌>>=◌, number_at, body_at, mark_at, of_client_at, sp_at, client_sp_at, frag_at, without_call, outcome_of, applied_of, outcome_at, applied_at, done_at, entry_at}
use Rattle.volt_base.proofs.Fields.{IsBytes, IsBytes-rest, bind_some, some_is, Takes, Takes-then, with_kind, wide16, wide64, number_takes, number_again, body_takes, body_again, mark_takes, mark_again, of_client_takes, client_rest, of_client_again}

abbrev Read : Type 0
Read = Entry × List ℕ

eqb-positive : (n : ℕ) → 0 < n → eqb n 0 ≡ false
eqb-positive n some = ne_eqb n 0 (λ z. omega (arith, z, some))

sp_takes : (bytes : List ℕ) (x : Read) → IsBytes bytes → sp_at bytes ≡ Some x → Takes (1 ∷ bytes) (entry_bytes x.0) x.1 × Fits x.0
unfolding sp_at entry_bytes sp_bytes
sp_takes bytes x fits e =
    let a = bind_some (mark_at bytes) (λ mark. body_at mark.2 >>= λ body. Some (Sp mark.0 0 mark.1 body.0, body.1)) x e in
    let b = bind_some (body_at a.0.2) (λ body. Some (Sp a.0.0 0 a.0.1 body.0, body.1)) x a.2 in
    let t0 = mark_takes 1 bytes a.0 fits a.1 in
    let t1 = body_takes a.0.2 b.0.0 b.0.1 t0.0.rest_fits b.1 in
    let both = Takes-then (1 ∷ bytes) (mark_bytes 1 a.0.0 a.0.1) a.0.2 (body_bytes b.0.0) b.0.1 t0.0 t1.0 in
    let made : Read = (Sp a.0.0 0 a.0.1 b.0.0, b.0.1) in
    subst (λ (y : Read). Takes (1 ∷ bytes) (entry_bytes y.0) y.1 × Fits y.0) {x = made} (some_is made x b.2)
    (both, record { numbers = (t0.1, omega arith, t0.2); bytes = t1.1; client = tt })

client_sp_takes : (bytes : List ℕ) (x : Read) → IsBytes bytes → client_sp_at bytes ≡ Some x → Takes (4 ∷ bytes) (entry_bytes x.0) x.1 × Fits x.0
unfolding client_sp_at entry_bytes sp_bytes
client_sp_takes bytes x fits e =
    let a = bind_some (of_client_at bytes) (λ y. Some (Sp y.0 y.1 y.2 y.3, y.4)) x e in
    let t = of_client_takes 4 bytes a.0 fits a.1 in
    let made : Read = (Sp a.0.0 a.0.1 a.0.2 a.0.3, a.0.4) in
    subst (λ (y : Read). Takes (4 ∷ bytes) (entry_bytes y.0) y.1 × Fits y.0) {x = made} (some_is made x a.2)
    (rw (eqb-positive a.0.1 t.some) t.takes, record { numbers = t.call; bytes = t.short; client = tt })

frag_takes : (bytes : List ℕ) (x : Read) → IsBytes bytes → frag_at bytes ≡ Some x → Takes (2 ∷ bytes) (entry_bytes x.0) x.1 × Fits x.0
unfolding frag_at entry_bytes
frag_takes bytes x fits e =
    let a = bind_some (number_at w64 bytes) (λ m. number_at w16 m.1 >>= λ round. body_at round.1 >>= λ body. Some (Frag m.0 round.0 body.0, body.1)) x e in
    let b = bind_some (number_at w16 a.0.1) (λ round. body_at round.1 >>= λ body. Some (Frag a.0.0 round.0 body.0, body.1)) x a.2 in
    let c = bind_some (body_at b.0.1) (λ body. Some (Frag a.0.0 b.0.0 body.0, body.1)) x b.2 in
    let t0 = number_takes w64 (2 ^ 64) wide64 bytes a.0.0 a.0.1 fits a.1 in
    let t1 = number_takes w16 (2 ^ 16) wide16 a.0.1 b.0.0 b.0.1 t0.0.rest_fits b.1 in
    let t2 = body_takes b.0.1 c.0.0 c.0.1 t1.0.rest_fits c.1 in
    let e12 = Takes-then a.0.1 (to_be_bytes w16 b.0.0) b.0.1 (body_bytes c.0.0) c.0.1 t1.0 t2.0 in
    let e02 = Takes-then bytes (to_be_bytes w64 a.0.0) a.0.1 (to_be_bytes w16 b.0.0 ++ body_bytes c.0.0) c.0.1 t0.0 e12 in
    let made : Read = (Frag a.0.0 b.0.0 c.0.0, c.0.1) in
    subst (λ (y : Read). Takes (2 ∷ bytes) (entry_bytes y.0) y.1 × Fits y.0) {x = made} (some_is made x c.2) (with_kind 2 bytes (to_be_bytes w64 a.0.0 ++ (to_be_bytes w16 b.0.0 ++ body_bytes c.0.0)) c.0.1 e02, record { numbers = (t0.1, t1.1); bytes = t2.1; client = tt })

-- ---- ends

-- an outcome is spelled, behind its transaction, as what it was read from
record EndIs (m : ℕ) (kind : ℕ) (text : List ℕ) (o : Outcome) : Type 0 where
  pub spelled : done_bytes m o ≡ kind ∷ (to_be_bytes w64 m ++ text)
  pub numbers : OutcomeFits o
  pub reply : length (reply_of o) < 2 ^ 32
  pub client : HasClientOfReply (Done m o)

-- what stands for no call is zeros
without_call_is : (outcome : Outcome) (call point : ℕ) (o : Outcome) → without_call outcome call point ≡ Some o → (outcome ≡ o) × (call ≡ 0) × (point ≡ 0)
without_call_is outcome call point o e =
    let given = cond_some (eqb call 0 && eqb point 0) outcome o e in
    let zeros = and_parts (eqb call 0) (eqb point 0) given.0 in
    (given.1, eqb-true call 0 zeros.0, eqb-true point 0 zeros.1)

outcome_is : (m kind call point : ℕ) (o : Outcome) → outcome_of kind call point ≡ Some o → call < 2 ^ 32 → point < 2 ^ 64 → EndIs m 3 (mark_bytes kind call point) o
unfolding done_bytes end_bytes applied_bytes
outcome_is m zero call point o e c p =
    let w = without_call_is Dropped call point o e in
    subst (EndIs m 3 (mark_bytes 0 call point)) w.0 (record { spelled = rw (w.1, w.2) refl; numbers = tt; reply = omega arith; client = tt })
outcome_is m (suc zero) call point o e c p =
    subst (EndIs m 3 (mark_bytes 1 call point)) (some_is (Kept call 0 point []) o e) (record { spelled = refl; numbers = (c, omega arith, p); reply = omega arith; client = λ z. refl })
outcome_is m (suc (suc zero)) call point o e c p =
    subst (EndIs m 3 (mark_bytes 2 call point)) (some_is (Aborted call 0 point []) o e) (record { spelled = refl; numbers = (c, omega arith, p); reply = omega arith; client = λ z. refl })
outcome_is m (suc (suc (suc zero))) call point o e c p =
    let w = without_call_is Snapshot call point o e in
    subst (EndIs m 3 (mark_bytes 3 call point)) w.0 (record { spelled = rw (w.1, w.2) refl; numbers = tt; reply = omega arith; client = tt })
outcome_is m (suc (suc (suc (suc kind)))) call point o e c p = absurd cc

applied_is : (m kind call client point : ℕ) (reply : List ℕ) (o : Outcome) → applied_of kind call client point reply ≡ Some o → CallFits call client point → 0 < client → length reply < 2 ^ 32
    → EndIs m 5 (client_bytes kind call client point reply) o
unfolding done_bytes applied_bytes
applied_is m zero call client point reply o e c some short = absurd cc
applied_is m (suc zero) call client point reply o e c some short =
    subst (EndIs m 5 (client_bytes 1 call client point reply)) (some_is (Kept call client point reply) o e) (record { spelled = rw (eqb-positive client some) refl; numbers = c; reply = short; client = λ z. absurd (omega (arith, z, some)) })
applied_is m (suc (suc zero)) call client point reply o e c some short =
    subst (EndIs m 5 (client_bytes 2 call client point reply)) (some_is (Aborted call client point reply) o e) (record { spelled = rw (eqb-positive client some) refl; numbers = c; reply = short; client = λ z. absurd (omega (arith, z, some)) })
applied_is m (suc (suc (suc kind))) call client point reply o e c some short = absurd cc

-- what was read as an outcome
record OutcomeTakes (m kind : ℕ) (bytes : List ℕ) (x : Outcome × List ℕ) : Type 0 where
  pub text : List ℕ
  pub takes : Takes bytes text x.1
  pub is : EndIs m kind text x.0

outcome_takes : (m : ℕ) (bytes : List ℕ) (x : Outcome × List ℕ) → IsBytes bytes → outcome_at bytes ≡ Some x → OutcomeTakes m 3 bytes x
unfolding outcome_at
outcome_takes m [] x fits e = absurd cc
outcome_takes m (kind ∷ bytes) x fits e =
    let a = bind_some (mark_at bytes) (λ mark. outcome_of kind mark.0 mark.1 >>= λ outcome. Some (outcome, mark.2)) x e in
    let b = bind_some (outcome_of kind a.0.0 a.0.1) (λ outcome. Some (outcome, a.0.2)) x a.2 in
    let t = mark_takes kind bytes a.0 (IsBytes-rest kind bytes fits) a.1 in
    let made : Outcome × List ℕ = (b.0, a.0.2) in
    subst (OutcomeTakes m 3 (kind ∷ bytes)) {x = made} (some_is made x b.2)
    (record { text = mark_bytes kind a.0.0 a.0.1; takes = t.0; is = outcome_is m kind a.0.0 a.0.1 b.0 b.1 t.1 t.2 })

applied_takes : (m : ℕ) (bytes : List ℕ) (x : Outcome × List ℕ) → IsBytes bytes → applied_at bytes ≡ Some x → OutcomeTakes m 5 bytes x
unfolding applied_at
applied_takes m [] x fits e = absurd cc
applied_takes m (kind ∷ bytes) x fits e =
    let a = bind_some (of_client_at bytes) (λ y. applied_of kind y.0 y.1 y.2 y.3 >>= λ outcome. Some (outcome, y.4)) x e in
    let b = bind_some (applied_of kind a.0.0 a.0.1 a.0.2 a.0.3) (λ outcome. Some (outcome, a.0.4)) x a.2 in
    let t = of_client_takes kind bytes a.0 (IsBytes-rest kind bytes fits) a.1 in
    let made : Outcome × List ℕ = (b.0, a.0.4) in
    subst (OutcomeTakes m 5 (kind ∷ bytes)) {x = made} (some_is made x b.2)
    (record { text = client_bytes kind a.0.0 a.0.1 a.0.2 a.0.3; takes = t.takes; is = applied_is m kind a.0.0 a.0.1 a.0.2 a.0.3 b.0 b.1 t.call t.some t.short })

done_takes : (kind : ℕ) (ends_at : List ℕ → Option (Outcome × List ℕ)) (bytes : List ℕ) (x : Read)
    → ((m : ℕ) (bytes : List ℕ) (x : Outcome × List ℕ) → IsBytes bytes → ends_at bytes ≡ Some x → OutcomeTakes m kind bytes x)
    → IsBytes bytes → done_at ends_at bytes ≡ Some x → Takes (kind ∷ bytes) (entry_bytes x.0) x.1 × Fits x.0
unfolding done_at entry_bytes
done_takes kind ends_at bytes x takes fits e =
    let a = bind_some (number_at w64 bytes) (λ m. ends_at m.1 >>= λ outcome. Some (Done m.0 outcome.0, outcome.1)) x e in
    let b = bind_some (ends_at a.0.1) (λ outcome. Some (Done a.0.0 outcome.0, outcome.1)) x a.2 in
    let t0 = number_takes w64 (2 ^ 64) wide64 bytes a.0.0 a.0.1 fits a.1 in
    let t1 = takes a.0.0 a.0.1 b.0 t0.0.rest_fits b.1 in
    let both = with_kind kind bytes (to_be_bytes w64 a.0.0 ++ t1.text) b.0.1 (Takes-then bytes (to_be_bytes w64 a.0.0) a.0.1 t1.text b.0.1 t0.0 t1.takes) in
    let made : Read = (Done a.0.0 b.0.0, b.0.1) in
    subst (λ (y : Read). Takes (kind ∷ bytes) (entry_bytes y.0) y.1 × Fits y.0) {x = made} (some_is made x b.2)
    (rw t1.is.spelled both, record { numbers = (t0.1, t1.is.numbers); bytes = t1.is.reply; client = t1.is.client })

entry_takes : (bytes : List ℕ) (x : Read) → IsBytes bytes → entry_at bytes ≡ Some x → Takes bytes (entry_bytes x.0) x.1 × Fits x.0
unfolding entry_at
entry_takes [] x fits e = absurd cc
entry_takes (zero ∷ bytes) x fits e = absurd cc
entry_takes (suc zero ∷ bytes) x fits e = sp_takes bytes x (IsBytes-rest 1 bytes fits) e
entry_takes (suc (suc zero) ∷ bytes) x fits e = frag_takes bytes x (IsBytes-rest 2 bytes fits) e
entry_takes (suc (suc (suc zero)) ∷ bytes) x fits e = done_takes 3 outcome_at bytes x outcome_takes (IsBytes-rest 3 bytes fits) e
entry_takes (suc (suc (suc (suc zero))) ∷ bytes) x fits e = client_sp_takes bytes x (IsBytes-rest 4 bytes fits) e
entry_takes (suc (suc (suc (suc (suc zero)))) ∷ bytes) x fits e = done_takes 5 applied_at bytes x applied_takes (IsBytes-rest 5 bytes fits) e
entry_takes (suc (suc (suc (suc (suc (suc kind))))) ∷ bytes) x fits e = absurd cc

-- ---- what was written is read again

three : (a b c rest : List ℕ) → (a ++ b ++ c) ++ rest ≡ a ++ (b ++ (c ++ rest))
three a b c rest = simp append_assoc

-- a client's number is 0 or above
some_or_none : (n : ℕ) → (n ≡ 0) ⊎ (0 < n)
some_or_none zero = inl refl
some_or_none (suc n) = inr (omega arith)

sp_again : (call client point : ℕ) (body rest : List ℕ) → CallFits call client point → length body < 2 ^ 32 → entry_at (sp_bytes call client point body ++ rest) ≡ Some (Sp call client point body, rest)
unfolding entry_at sp_bytes sp_at client_sp_at mark_bytes client_bytes
sp_again call client point body rest fits short = elim (some_or_none client) [
  | inl z ↦
      subst (λ (k : ℕ). entry_at (sp_bytes call k point body ++ rest) ≡ Some (Sp call k point body, rest)) (sym z)
      (ap sp_at (append_assoc (to_be_bytes w32 call ++ to_be_bytes w64 point) (body_bytes body) rest)
      ∙ rw (mark_again call point (body_bytes body ++ rest) fits.0 fits.2, body_again body rest short) refl)
  | inr some ↦
      rw (eqb-positive client some, of_client_again call client point body rest fits some short) refl
]

ends_again : (m kind call point : ℕ) (o : Outcome) (rest : List ℕ) → m < 2 ^ 64 → call < 2 ^ 32 → point < 2 ^ 64 → outcome_of kind call point ≡ Some o
    → entry_at (end_bytes m kind call point ++ rest) ≡ Some (Done m o, rest)
unfolding entry_at end_bytes done_at outcome_at mark_bytes
ends_again m kind call point o rest wide c p is =
    ap (done_at outcome_at) (append_assoc (to_be_bytes w64 m) (kind ∷ (to_be_bytes w32 call ++ to_be_bytes w64 point)) rest)
    ∙ rw (number_again w64 (2 ^ 64) wide64 m (kind ∷ ((to_be_bytes w32 call ++ to_be_bytes w64 point) ++ rest)) wide, mark_again call point rest c p, is) refl

applied_again : (m kind call client point : ℕ) (reply : List ℕ) (o : Outcome) (rest : List ℕ) → m < 2 ^ 64 → CallFits call client point → 0 < client → length reply < 2 ^ 32
    → applied_of kind call client point reply ≡ Some o → entry_at (applied_bytes m kind call client point reply ++ rest) ≡ Some (Done m o, rest)
unfolding entry_at applied_bytes done_at applied_at client_bytes
applied_again m kind call client point reply o rest wide c some short is =
    rw (eqb-positive client some)
    (ap (done_at applied_at) (append_assoc (to_be_bytes w64 m) (kind ∷ client_rest call client point reply) rest)
    ∙ rw (
      number_again w64 (2 ^ 64) wide64 m (kind ∷ (client_rest call client point reply ++ rest)) wide,
      of_client_again call client point reply rest c some short,
      is,
    ) refl)

-- an end that applies a call, of no client and of one
call_again : (m kind call client point : ℕ) (reply : List ℕ) (o : Outcome) (rest : List ℕ) → m < 2 ^ 64 → CallFits call client point → length reply < 2 ^ 32
    → (client ≡ 0 → outcome_of kind call point ≡ Some o) → (0 < client → applied_of kind call client point reply ≡ Some o)
    → entry_at (applied_bytes m kind call client point reply ++ rest) ≡ Some (Done m o, rest)
unfolding applied_bytes
call_again m kind call client point reply o rest wide c short none some = elim (some_or_none client) [
  | inl z ↦ rw z (ends_again m kind call point o rest wide c.0 c.2 (none z))
  | inr up ↦ applied_again m kind call client point reply o rest wide c up short (some up)
]

done_again : (m : ℕ) (o : Outcome) (rest : List ℕ) → m < 2 ^ 64 → Fits (Done m o) → entry_at (done_bytes m o ++ rest) ≡ Some (Done m o, rest)
unfolding done_bytes
done_again m Dropped rest wide fits = ends_again m 0 0 0 Dropped rest wide (omega arith) (omega arith) refl
done_again m (Kept call client point reply) rest wide fits =
    call_again m 1 call client point reply (Kept call client point reply) rest wide fits.numbers.1 fits.bytes
    (λ z. rw (z, fits.client z) refl) (λ some. refl)
done_again m (Aborted call client point reply) rest wide fits =
    call_again m 2 call client point reply (Aborted call client point reply) rest wide fits.numbers.1 fits.bytes
    (λ z. rw (z, fits.client z) refl) (λ some. refl)
done_again m Snapshot rest wide fits = ends_again m 3 0 0 Snapshot rest wide (omega arith) (omega arith) refl

pub entry_again : (entry : Entry) (rest : List ℕ) → Fits entry → entry_at (entry_bytes entry ++ rest) ≡ Some (entry, rest)
unfolding entry_at entry_bytes frag_at
entry_again (Sp call client point body) rest fits = sp_again call client point body rest fits.numbers fits.bytes
entry_again (Frag m round body) rest fits =
    ap frag_at (three (to_be_bytes w64 m) (to_be_bytes w16 round) (body_bytes body) rest)
    ∙ rw (number_again w64 (2 ^ 64) wide64 m (to_be_bytes w16 round ++ (body_bytes body ++ rest)) fits.numbers.0, number_again w16 (2 ^ 16) wide16 round (body_bytes body ++ rest) fits.numbers.1, body_again body rest fits.bytes) refl
entry_again (Done m outcome) rest fits = done_again m outcome rest fits.numbers.0 fits

-- an entry is spelled by one byte at least
either_some : (b : Bool) (x y : List ℕ) → 0 < length x → 0 < length y → 0 < length (if b then x else y)
either_some true x y p q = p
either_some false x y p q = q

applied_by_some : (m kind call client point : ℕ) (reply : List ℕ) → 0 < length (applied_bytes m kind call client point reply)
unfolding applied_bytes end_bytes
applied_by_some m kind call client point reply =
    either_some (client == 0) (3 ∷ (to_be_bytes w64 m ++ mark_bytes kind call point)) (5 ∷ (to_be_bytes w64 m ++ client_bytes kind call client point reply)) (omega arith) (omega arith)

spelled_by_some : (entry : Entry) → 0 < length (entry_bytes entry)
unfolding entry_bytes sp_bytes done_bytes end_bytes mark_bytes client_bytes
spelled_by_some (Sp call client point body) =
    either_some (client == 0) ((1 ∷ (to_be_bytes w32 call ++ to_be_bytes w64 point)) ++ body_bytes body) (4 ∷ client_rest call client point body) (omega arith) (omega arith)
spelled_by_some (Frag m round body) = omega arith
spelled_by_some (Done m Dropped) = omega arith
spelled_by_some (Done m (Kept call client point reply)) = applied_by_some m 1 call client point reply
spelled_by_some (Done m (Aborted call client point reply)) = applied_by_some m 2 call client point reply
spelled_by_some (Done m Snapshot) = omega arith

-- an entry that was read takes what its spelling takes
sizes : (bytes : List ℕ) (entry : Entry) (rest : List ℕ) → bytes ≡ entry_bytes entry ++ rest → length bytes ≡ length (entry_bytes entry) + length rest
sizes bytes entry rest parts = ap (λ (x : List ℕ). length x) parts ∙ length-append (entry_bytes entry) rest

pub rest_within : (bytes : List ℕ) (entry : Entry) (rest : List ℕ) → IsBytes bytes → entry_at bytes ≡ Some (entry, rest) → length rest ≤ length bytes
rest_within bytes entry rest fits e =
    let t = entry_takes bytes (entry, rest) fits e in
    omega (arith, sizes bytes entry rest t.0.parts)

pub begins : (bytes : List ℕ) (entry : Entry) (rest : List ℕ) → IsBytes bytes → entry_at bytes ≡ Some (entry, rest) → BeginsWith bytes entry (length bytes - length rest)
begins bytes entry rest fits e =
    let t = entry_takes bytes (entry, rest) fits e in
    let len : length (entry_bytes entry) ≡ length bytes - length rest = omega (arith, sizes bytes entry rest t.0.parts) in
    let after : drop (length bytes - length rest) bytes ≡ rest = ap (drop (length bytes - length rest)) t.0.parts ∙ drop_at (entry_bytes entry) rest (length bytes - length rest) len in
    record { spelled = rw after t.0.parts; some = omega (arith, spelled_by_some entry); within = omega arith; fits = t.1 }

-- what was read is the entry that is spelled ahead of the rest
pub read_again : (bytes : List ℕ) (found : Entry) (after : List ℕ) → entry_at bytes ≡ Some (found, after) → (entry : Entry) (rest : List ℕ) → Fits entry → bytes ≡ entry_bytes entry ++ rest → (found ≡ entry) × (length bytes - length after ≡ length (entry_bytes entry))
read_again bytes found after e entry rest fits spelled =
    let same = some_pair_parts found entry after rest (sym e ∙ ap entry_at spelled ∙ entry_again entry rest fits) in
    (same.0, omega (arith, sizes bytes entry rest spelled, ap (λ (x : List ℕ). length x) same.1))

-- what can't be read has no spelling ahead of the rest
pub begins_none : (bytes : List ℕ) → entry_at bytes ≡ None → BeginsWithNone bytes
begins_none bytes e entry rest fits spelled =
    none-some (entry, rest) (sym e ∙ ap entry_at spelled ∙ entry_again entry rest fits)

-- a spelling is of one entry, and begins no other's
pub one : (a b : Entry) (x y : List ℕ) → Fits a → Fits b → entry_bytes a ++ x ≡ entry_bytes b ++ y → (a ≡ b) × (x ≡ y)
one a b x y a-fits b-fits e =
    some_pair_parts a b x y (sym (entry_again a x a-fits) ∙ ap entry_at e ∙ entry_again b y b-fits)
