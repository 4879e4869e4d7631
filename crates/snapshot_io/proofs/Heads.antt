-- The readers of a head are exact.
use Rattle.std.proofs.Common.{◌≡◌, ℕ, zero, suc, ◌-◌, ◌^◌, ◌<◌, Bool, true, false, cond, eqb, List, [], ◌∷◌, ◌++◌, append-nil, flat_map, length, drop, Option, Some, None, refl, sym, ap, subst, ◌∙◌, arith}
use Rattle.std.proofs.lemmas.Bool.{ne_eqb}
use Rattle.std.proofs.lemmas.Option.{some_pair_parts}
use Rattle.std.specs.List.{AllByRecursion}
use Rattle.std.specs.Int.{w32, w64, to_be_bytes}
use Rattle.volt_base.specs.declared.entry.Applied.{Applied}
use Rattle.volt_base.specs.declared.entry.LastReply.{LastReply}
use Rattle.volt_base.specs.declared.entry.Entry.{Entry}
use Rattle.volt_base.specs.declared.entry.Entry.TheVariants.{Sp, Frag, Done}
use Rattle.volt_base.specs.declared.entry.Outcome.{Outcome}
use Rattle.volt_base.specs.Spelling.{body_bytes, done_bytes, entry_bytes}
use Rattle.volt_base.specs.Reading.{number_at, body_at, entry_at}
use Rattle.volt_base.proofs.Fields.{IsBytes, some_is, wide32, wide64}
use Rattle.volt_base.proofs.Entries.{entry_again, begins}
use Rattle.snapshot_io.specs.Base.{Head, ended_bytes, last_bytes, applied_bytes, all_applied_bytes, reply_bytes, replies_bytes, layout_bytes, place_bytes, calls_bytes, rise_above, AppliedFits, ReplyFits, IfLastFits, HeadFits}
use Rattle.snapshot_io.specs.Reading.{byte_at, both_at, counted_at, layout_at, place_at, ended, ended_by, last_of, last_at, as_applied, applied_at, all_applied_at, as_reply, reply_at, if_rising, replies_at, Parts, as_head, head_at}
use Rattle.snapshot_io.proofs.Ended.{entry_found}
use Rattle.snapshot_io.proofs.Exact.{Exact, Stands, IsBytes-behind, one_byte, byte_exact, number_exact, body_exact, both_exact, as_exact, counted_exact}

abbrev IsByte : ℕ → Type 0
IsByte n = n < 2 ^ 8

abbrev IsNumber32 : ℕ → Type 0
IsNumber32 n = n < 2 ^ 32

abbrev IsNumber64 : ℕ → Type 0
IsNumber64 n = n < 2 ^ 64

abbrev IsShort : List ℕ → Type 0
IsShort body = length body < 2 ^ 32

exact32 : Exact (number_at w32) (to_be_bytes w32) IsNumber32
exact32 = number_exact w32 (2 ^ 32) wide32

exact64 : Exact (number_at w64) (to_be_bytes w64) IsNumber64
exact64 = number_exact w64 (2 ^ 64) wide64

-- ---- the transaction that ended last

if_kept : (t : Bool) (a b : Option (ℕ × Outcome)) → cond t None (Some a) ≡ Some b → a ≡ b
if_kept true a b e = absurd cc
if_kept false a b e = some_is a b e

if_some : (m : ℕ) (o : Outcome) (b : Option (ℕ × Outcome)) → ended m o ≡ Some b → (0 < m) × (Some (m, o) ≡ b)
if_some zero o b e = absurd cc
if_some (suc m) o b e = (omega arith, if_kept (eqb (suc m) 0) (Some (suc m, o)) b e)

abbrev Signs : List ℕ → Option (ℕ × Outcome) → Type 0
Signs bytes last = (bytes ≡ ended_bytes last) × IfLastFits last

-- an entry was read of all the bytes
ended_is : (bytes : List ℕ) (m : ℕ) (o : Outcome) (last : Option (ℕ × Outcome)) → length bytes < 2 ^ 32 → IsBytes bytes → entry_at bytes ≡ Some (Done m o, []) → ended m o ≡ Some last → Signs bytes last
unfolding entry_bytes
ended_is bytes m o last short fits read e =
    let is = if_some m o last e in
    let found = begins bytes (Done m o) [] fits read in
    let none = some_pair_parts (Done m o) (Done m o) (drop (length bytes - length {A = ℕ} []) bytes) [] (sym (entry_found bytes (Done m o) (length bytes - length {A = ℕ} []) found) ∙ read) in
    let spelled : bytes ≡ done_bytes m o = found.spelled ∙ ap (λ (r : List ℕ). done_bytes m o ++ r) none.1 ∙ append-nil (done_bytes m o) in
    subst (λ (l : Option (ℕ × Outcome)). Signs bytes l) is.1
    (spelled, record { some = is.0; fits = found.fits; short = subst (λ (r : List ℕ). length r < 2 ^ 32) spelled short })

ended_from : (bytes : List ℕ) (read : Option (Entry × List ℕ)) (last : Option (ℕ × Outcome)) → length bytes < 2 ^ 32 → IsBytes bytes → entry_at bytes ≡ read → ended_by read ≡ Some last → Signs bytes last
ended_from bytes None last short fits is e = absurd cc
ended_from bytes (Some (Sp call client point body, rest)) last short fits is e = absurd cc
ended_from bytes (Some (Frag m round body, rest)) last short fits is e = absurd cc
ended_from bytes (Some (Done m o, b ∷ rest)) last short fits is e = absurd cc
ended_from bytes (Some (Done m o, [])) last short fits is e = ended_is bytes m o last short fits is e

last_signs : (bytes : List ℕ) (last : Option (ℕ × Outcome)) → IsShort bytes → IsBytes (body_bytes bytes) → last_of bytes ≡ Some last → Signs bytes last
unfolding body_bytes
last_signs [] last short fits e = subst (λ (l : Option (ℕ × Outcome)). Signs [] l) (some_is None last e) (refl, tt)
last_signs (b ∷ bytes) last short fits e =
    ended_from (b ∷ bytes) (entry_at (b ∷ bytes)) last short (IsBytes-behind (to_be_bytes w32 (length (b ∷ bytes))) (b ∷ bytes) (body_bytes (b ∷ bytes)) refl fits) refl e

of_entry : (bytes : List ℕ) (x : Entry × List ℕ) → entry_at bytes ≡ Some x → last_of bytes ≡ ended_by (Some x)
unfolding entry_at
of_entry [] x e = absurd cc
of_entry (b ∷ bytes) x e = ap ended_by e

last_means : (last : Option (ℕ × Outcome)) → IfLastFits last → (last_of (ended_bytes last) ≡ Some last) × IsShort (ended_bytes last)
unfolding entry_bytes
last_means None fits = (refl, omega arith)
last_means (Some (m, o)) fits =
    let read : entry_at (done_bytes m o) ≡ Some (Done m o, []) = ap entry_at (sym (append-nil (done_bytes m o))) ∙ entry_again (Done m o) [] fits.fits in
    let some : eqb m 0 ≡ false = ne_eqb m 0 (λ z. omega (arith, z, fits.some)) in
    (of_entry (done_bytes m o) (Done m o, []) read ∙ ap (λ (t : Bool). cond t None (Some (Some (m, o)))) some, fits.short)

last_exact : Exact last_at last_bytes IfLastFits
unfolding last_at last_bytes
last_exact = as_exact last_of ended_bytes body_at body_bytes IsShort IfLastFits body_exact (record { signs = last_signs; means = last_means })

-- ---- calls and replies

applied_exact : Exact applied_at applied_bytes AppliedFits
unfolding applied_at
applied_exact =
    as_exact as_applied (λ a. (a.call, a.point)) (both_at (number_at w32) (number_at w64)) (λ p. to_be_bytes w32 p.0 ++ to_be_bytes w64 p.1) (λ p. IsNumber32 p.0 × IsNumber64 p.1) AppliedFits
    (both_exact (number_at w32) (number_at w64) (to_be_bytes w32) (to_be_bytes w64) IsNumber32 IsNumber64 exact32 exact64)
    (record {
      signs = λ p a fits bytes e. let same = some_is (record { call = p.0; point = p.1 }) a e in (ap (λ (x : Applied). (x.call, x.point)) same, subst (λ (x : Applied). AppliedFits x) same fits);
      means = λ a fits. (refl, fits);
    })

all_applied_exact : Exact all_applied_at all_applied_bytes (λ calls. (length calls < 2 ^ 32) × AllByRecursion AppliedFits calls)
unfolding all_applied_at all_applied_bytes
all_applied_exact = counted_exact (number_at w32) (to_be_bytes w32) (2 ^ 32) applied_at applied_bytes AppliedFits exact32 applied_exact

reply_exact : Exact reply_at reply_bytes ReplyFits
unfolding reply_at
reply_exact =
    as_exact as_reply (λ r. (r.client, (r.call, r.reply))) (both_at byte_at (both_at (number_at w32) body_at)) (λ p. one_byte p.0 ++ (to_be_bytes w32 p.1.0 ++ body_bytes p.1.1)) (λ p. IsByte p.0 × (IsNumber32 p.1.0 × IsShort p.1.1)) ReplyFits
    (both_exact byte_at (both_at (number_at w32) body_at) one_byte (λ p. to_be_bytes w32 p.0 ++ body_bytes p.1) IsByte (λ p. IsNumber32 p.0 × IsShort p.1) byte_exact
    (both_exact (number_at w32) body_at (to_be_bytes w32) body_bytes IsNumber32 IsShort exact32 body_exact))
    (record {
      signs = λ p r fits bytes e. let same = some_is (record { client = p.0; call = p.1.0; reply = p.1.1 }) r e in (ap (λ (x : LastReply). (x.client, (x.call, x.reply))) same, subst (λ (x : LastReply). ReplyFits x) same (fits.0, fits.1.0, fits.1.1));
      means = λ r fits. (refl, (fits.0, (fits.1, fits.2)));
    })

abbrev RepliesFit : List LastReply → Type 0
RepliesFit rs = ((length rs < 2 ^ 8) × AllByRecursion ReplyFits rs) × (rise_above 0 rs ≡ true)

rising_is : (t : Bool) (a b : List LastReply) → cond t (Some a) None ≡ Some b → (a ≡ b) × (t ≡ true)
rising_is true a b e = (some_is a b e, refl)
rising_is false a b e = absurd cc

replies_exact : Exact replies_at replies_bytes RepliesFit
unfolding replies_at replies_bytes
replies_exact =
    as_exact if_rising (λ rs. rs) (counted_at byte_at reply_at) (λ rs. one_byte (length rs) ++ flat_map reply_bytes rs) (λ rs. (length rs < 2 ^ 8) × AllByRecursion ReplyFits rs) RepliesFit
    (counted_exact byte_at one_byte (2 ^ 8) reply_at reply_bytes ReplyFits byte_exact reply_exact)
    (record {
      signs = λ a b fits bytes e. let is = rising_is (rise_above 0 a) a b e in (is.0, subst (λ (rs : List LastReply). RepliesFit rs) is.0 (fits, is.1));
      means = λ b fits. (ap (λ (t : Bool). cond t (Some b) None) fits.1, fits.0);
    })

-- ---- the head

layout_exact : Exact layout_at (λ p. p.0 ∷ p.1.0 ∷ p.1.1.0 ∷ p.1.1.1 ∷ []) (λ p. IsByte p.0 × (IsByte p.1.0 × (IsByte p.1.1.0 × IsByte p.1.1.1)))
unfolding layout_at
layout_exact =
    both_exact byte_at (both_at byte_at (both_at byte_at byte_at)) one_byte (λ p. one_byte p.0 ++ (one_byte p.1.0 ++ one_byte p.1.1)) IsByte (λ p. IsByte p.0 × (IsByte p.1.0 × IsByte p.1.1)) byte_exact
    (both_exact byte_at (both_at byte_at byte_at) one_byte (λ p. one_byte p.0 ++ one_byte p.1) IsByte (λ p. IsByte p.0 × IsByte p.1) byte_exact
    (both_exact byte_at byte_at one_byte one_byte IsByte IsByte byte_exact byte_exact))

place_exact : Exact place_at (λ p. body_bytes p.0 ++ (to_be_bytes w64 p.1.0 ++ to_be_bytes w64 p.1.1)) (λ p. IsShort p.0 × (IsNumber64 p.1.0 × IsNumber64 p.1.1))
unfolding place_at
place_exact =
    both_exact body_at (both_at (number_at w64) (number_at w64)) body_bytes (λ p. to_be_bytes w64 p.0 ++ to_be_bytes w64 p.1) IsShort (λ p. IsNumber64 p.0 × IsNumber64 p.1) body_exact
    (both_exact (number_at w64) (number_at w64) (to_be_bytes w64) (to_be_bytes w64) IsNumber64 IsNumber64 exact64 exact64)

abbrev Calls : Type 0
Calls = Option (ℕ × Outcome) × (List Applied × List LastReply)

calls_exact : Exact (both_at last_at (both_at all_applied_at replies_at)) (λ (p : Calls). last_bytes p.0 ++ (all_applied_bytes p.1.0 ++ replies_bytes p.1.1)) (λ p. IfLastFits p.0 × (((length p.1.0 < 2 ^ 32) × AllByRecursion AppliedFits p.1.0) × RepliesFit p.1.1))
calls_exact =
    both_exact last_at (both_at all_applied_at replies_at) last_bytes (λ p. all_applied_bytes p.0 ++ replies_bytes p.1) IfLastFits (λ p. ((length p.0 < 2 ^ 32) × AllByRecursion AppliedFits p.0) × RepliesFit p.1) last_exact
    (both_exact all_applied_at replies_at all_applied_bytes replies_bytes (λ calls. (length calls < 2 ^ 32) × AllByRecursion AppliedFits calls) RepliesFit all_applied_exact replies_exact)

parts_of : Head → Parts
parts_of h = ((h.hosts, (h.sites, (h.k, h.slot))), ((h.ddl, (h.mark, h.position)), (h.last, (h.applied, h.replies))))

abbrev PartsFit : Parts → Type 0
PartsFit p = (IsByte p.0.0 × (IsByte p.0.1.0 × (IsByte p.0.1.1.0 × IsByte p.0.1.1.1)))
    × ((IsShort p.1.0.0 × (IsNumber64 p.1.0.1.0 × IsNumber64 p.1.0.1.1))
    × (IfLastFits p.1.1.0 × (((length p.1.1.1.0 < 2 ^ 32) × AllByRecursion AppliedFits p.1.1.1.0) × RepliesFit p.1.1.1.1)))

abbrev parts_bytes : Parts → List ℕ
parts_bytes p = (p.0.0 ∷ p.0.1.0 ∷ p.0.1.1.0 ∷ p.0.1.1.1 ∷ []) ++ ((body_bytes p.1.0.0 ++ (to_be_bytes w64 p.1.0.1.0 ++ to_be_bytes w64 p.1.0.1.1))
    ++ (last_bytes p.1.1.0 ++ (all_applied_bytes p.1.1.1.0 ++ replies_bytes p.1.1.1.1)))

parts_exact : Exact (both_at layout_at (both_at place_at (both_at last_at (both_at all_applied_at replies_at)))) parts_bytes PartsFit
parts_exact =
    both_exact layout_at (both_at place_at (both_at last_at (both_at all_applied_at replies_at)))
    (λ p. p.0 ∷ p.1.0 ∷ p.1.1.0 ∷ p.1.1.1 ∷ [])
    (λ p. (body_bytes p.0.0 ++ (to_be_bytes w64 p.0.1.0 ++ to_be_bytes w64 p.0.1.1)) ++ (last_bytes p.1.0 ++ (all_applied_bytes p.1.1.0 ++ replies_bytes p.1.1.1)))
    (λ p. IsByte p.0 × (IsByte p.1.0 × (IsByte p.1.1.0 × IsByte p.1.1.1)))
    (λ p. (IsShort p.0.0 × (IsNumber64 p.0.1.0 × IsNumber64 p.0.1.1)) × (IfLastFits p.1.0 × (((length p.1.1.0 < 2 ^ 32) × AllByRecursion AppliedFits p.1.1.0) × RepliesFit p.1.1.1)))
    layout_exact
    (both_exact place_at (both_at last_at (both_at all_applied_at replies_at))
    (λ p. body_bytes p.0 ++ (to_be_bytes w64 p.1.0 ++ to_be_bytes w64 p.1.1))
    (λ p. last_bytes p.0 ++ (all_applied_bytes p.1.0 ++ replies_bytes p.1.1))
    (λ p. IsShort p.0 × (IsNumber64 p.1.0 × IsNumber64 p.1.1))
    (λ p. IfLastFits p.0 × (((length p.1.0 < 2 ^ 32) × AllByRecursion AppliedFits p.1.0) × RepliesFit p.1.1))
    place_exact calls_exact)

fits_by_parts : (h : Head) → PartsFit (parts_of h) → HeadFits h
unfolding parts_of
fits_by_parts h f = record {
  layout = (f.0.0, f.0.1.0, f.0.1.1.0, f.0.1.1.1);
  ddl = f.1.0.0;
  mark = f.1.0.1.0;
  position = f.1.0.1.1;
  last = f.1.1.0;
  calls = f.1.1.1.0.0;
  applied = f.1.1.1.0.1;
  clients = f.1.1.1.1.0.0;
  replies = f.1.1.1.1.0.1;
  rise = f.1.1.1.1.1;
}

parts_by_fits : (h : Head) → HeadFits h → PartsFit (parts_of h)
unfolding parts_of
parts_by_fits h f = ((f.layout.0, (f.layout.1, (f.layout.2, f.layout.3))), ((f.ddl, (f.mark, f.position)), (f.last, ((f.calls, f.applied), ((f.clients, f.replies), f.rise)))))

abbrev pub fields_bytes : Head → List ℕ
fields_bytes h = layout_bytes h ++ (place_bytes h ++ calls_bytes h)

head_stands : Stands as_head parts_of parts_bytes PartsFit HeadFits
unfolding parts_of
head_stands = record {
  signs = λ p h fits bytes e.
      let same : p ≡ parts_of h = ap parts_of (some_is (record { hosts = p.0.0; sites = p.0.1.0; k = p.0.1.1.0; slot = p.0.1.1.1; ddl = p.1.0.0; mark = p.1.0.1.0; position = p.1.0.1.1; last = p.1.1.0; applied = p.1.1.1.0; replies = p.1.1.1.1 }) h e) in
      (same, fits_by_parts h (subst (λ (q : Parts). PartsFit q) same fits));
  means = λ h fits. (refl, parts_by_fits h fits);
}

pub head_exact : Exact head_at fields_bytes HeadFits
unfolding head_at layout_bytes place_bytes calls_bytes parts_of
head_exact = as_exact as_head parts_of (both_at layout_at (both_at place_at (both_at last_at (both_at all_applied_at replies_at)))) parts_bytes PartsFit HeadFits parts_exact head_stands
