-- Records that were written are read again, and what is read as records is spelled so.
use Rattle.std.proofs.Common.{◌≡◌, ℕ, zero, suc, ◌+◌, ◌-◌, ◌^◌, ◌<◌, ◌≤◌, Bool, true, false, cond, eqb, List, [], ◌∷◌, ◌++◌, append_assoc, append-nil, length, length-append, drop, Option, Some, None, refl, sym, ap, subst, ◌∙◌, arith}
use Rattle.std.proofs.lemmas.Bool.{eqb-true}
use Rattle.std.specs.Int.{w64, to_be_bytes}
use Rattle.std.specs.List.{AllByRecursion}
use Rattle.volt_base.specs.declared.entry.Entry.{Entry}
use Rattle.volt_base.specs.Spelling.{entry_bytes, Fits}
use Rattle.volt_base.specs.Reading.{◌>>=◌, number_at, entry_at}
use Rattle.volt_base.proofs.Fields.{IsBytes, IsBytes-rest, bind_some, some_is, Takes, with_kind, wide64, number_takes, number_again}
use Rattle.volt_base.proofs.Entries.{entry_again, begins}
use Rattle.snapshot_io.specs.Reading.{both_at}
use Rattle.snapshot_io.proofs.Exact.{Taken, Exact, IsBytes-behind, number_exact, both_exact}
use Rattle.snapshot_io.proofs.Ended.{entry_found}
use Rattle.log_records.specs.declared.record.Record.{Record}
use Rattle.log_records.specs.declared.record.Record.TheVariants.{Mark, Placed}
use Rattle.log_records.specs.Records.{record_bytes, records_bytes, RecordFits, mark_at, placed_at, record_at, records_from, records_of}

-- ---- one record

entry_takes : (bytes : List ℕ) (x : Entry × List ℕ) → IsBytes bytes → entry_at bytes ≡ Some x → Taken entry_bytes Fits bytes x
entry_takes bytes x fits e =
    let b = begins bytes x.0 x.1 fits e in
    let found = entry_found bytes x.0 (length bytes - length x.1) b in
    let same : drop (length bytes - length x.1) bytes ≡ x.1 =
    ap (λ (y : Entry × List ℕ). y.1) (some_is (x.0, drop (length bytes - length x.1) bytes) x (sym found ∙ e)) in
    let parts : bytes ≡ entry_bytes x.0 ++ x.1 = b.spelled ∙ ap (λ (r : List ℕ). entry_bytes x.0 ++ r) same in
    (record { parts = parts; rest_fits = IsBytes-behind (entry_bytes x.0) x.1 bytes parts fits }, b.fits)

entry_exact : Exact entry_at entry_bytes Fits
entry_exact = record { takes = entry_takes; again = entry_again }

place_exact : Exact (both_at (number_at w64) entry_at) (λ (p : ℕ × Entry). to_be_bytes w64 p.0 ++ entry_bytes p.1) (λ (p : ℕ × Entry). (p.0 < 2 ^ 64) × Fits p.1)
place_exact = both_exact (number_at w64) entry_at (to_be_bytes w64) entry_bytes (λ n. n < 2 ^ 64) Fits (number_exact w64 (2 ^ 64) wide64) entry_exact

abbrev IsRecord : List ℕ → Record × List ℕ → Type 0
IsRecord bytes x = Takes bytes (record_bytes x.0) x.1 × RecordFits x.0

mark_takes : (bytes : List ℕ) (x : Record × List ℕ) → IsBytes bytes → mark_at bytes ≡ Some x → IsRecord (16 ∷ bytes) x
unfolding mark_at record_bytes
mark_takes bytes x fits e =
    let a = bind_some (number_at w64 bytes) (λ n. Some (Mark n.0, n.1)) x e in
    let t = number_takes w64 (2 ^ 64) wide64 bytes a.0.0 a.0.1 fits a.1 in
    let made : Record × List ℕ = (Mark a.0.0, a.0.1) in
    subst (λ y. IsRecord (16 ∷ bytes) y) {x = made} (some_is made x a.2)
    (with_kind 16 bytes (to_be_bytes w64 a.0.0) a.0.1 t.0, t.1)

placed_takes : (bytes : List ℕ) (x : Record × List ℕ) → IsBytes bytes → placed_at bytes ≡ Some x → IsRecord (17 ∷ bytes) x
unfolding placed_at record_bytes
placed_takes bytes x fits e =
    let a = bind_some (both_at (number_at w64) entry_at bytes) (λ (p : (ℕ × Entry) × List ℕ). Some (Placed p.0.0 p.0.1, p.1)) x e in
    let t = place_exact.takes bytes a.0 fits a.1 in
    let made : Record × List ℕ = (Placed a.0.0.0 a.0.0.1, a.0.1) in
    subst (λ y. IsRecord (17 ∷ bytes) y) {x = made} (some_is made x a.2)
    (with_kind 17 bytes (to_be_bytes w64 a.0.0.0 ++ entry_bytes a.0.0.1) a.0.1 t.0, t.1)

by_kind : (kind : ℕ) (bytes : List ℕ) (x : Record × List ℕ) (t u : Bool) → IsBytes (kind ∷ bytes) → eqb kind 16 ≡ t → eqb kind 17 ≡ u
    → cond t (mark_at bytes) (cond u (placed_at bytes) None) ≡ Some x → IsRecord (kind ∷ bytes) x
by_kind kind bytes x true u fits k l e =
    rw (eqb-true kind 16 k) (mark_takes bytes x (IsBytes-rest kind bytes fits) e)
by_kind kind bytes x false true fits k l e =
    rw (eqb-true kind 17 l) (placed_takes bytes x (IsBytes-rest kind bytes fits) e)
by_kind kind bytes x false false fits k l e = absurd cc

pub record_takes : (bytes : List ℕ) (x : Record × List ℕ) → IsBytes bytes → record_at bytes ≡ Some x → IsRecord bytes x
unfolding record_at
record_takes [] x fits e = absurd cc
record_takes (kind ∷ bytes) x fits e = by_kind kind bytes x (eqb kind 16) (eqb kind 17) fits refl refl e

pub record_again : (r : Record) (rest : List ℕ) → RecordFits r → record_at (record_bytes r ++ rest) ≡ Some (r, rest)
unfolding record_at record_bytes mark_at placed_at
record_again (Mark term) rest fits = rw (number_again w64 (2 ^ 64) wide64 term rest fits) refl
record_again (Placed position entry) rest fits = rw (place_exact.again (position, entry) rest fits) refl

some_bytes : (r : Record) → 0 < length (record_bytes r)
unfolding record_bytes
some_bytes (Mark term) = omega arith
some_bytes (Placed position entry) = omega arith

pub record_shorter : (bytes : List ℕ) (x : Record × List ℕ) → IsBytes bytes → record_at bytes ≡ Some x → length x.1 < length bytes
record_shorter bytes x fits e =
    let t = record_takes bytes x fits e in
    omega (arith, some_bytes x.0, ap length t.0.parts ∙ length-append (record_bytes x.0) x.1)

-- ---- all records

-- what was read, and what is read behind it
abbrev pub records_before : List Record → Option (List Record) → Option (List Record)
records_before records rest = rest >>= λ more. Some (records ++ more)

next_same : (read : Option (Record × List ℕ)) (f g : List ℕ → Option (List Record)) → ((x : Record × List ℕ) → read ≡ Some x → f x.1 ≡ g x.1)
    → (read >>= λ first. f first.1 >>= λ records. Some (first.0 ∷ records)) ≡ (read >>= λ first. g first.1 >>= λ records. Some (first.0 ∷ records))
next_same None f g same = refl
next_same (Some x) f g same = ap (λ (o : Option (List Record)). o >>= λ records. Some (x.0 ∷ records)) (same x refl)

-- any number that isn't below the length will do
enough : (n m : ℕ) (bytes : List ℕ) → IsBytes bytes → length bytes ≤ n → length bytes ≤ m → records_from n bytes ≡ records_from m bytes
enough zero zero bytes fits low high = refl
enough zero (suc m) [] fits low high = refl
enough (suc n) zero [] fits low high = refl
enough (suc n) (suc m) [] fits low high = refl
enough zero (suc m) (b ∷ bytes) fits low high = absurd (omega (arith, low))
enough (suc n) zero (b ∷ bytes) fits low high = absurd (omega (arith, high))
enough (suc n) (suc m) (b ∷ bytes) fits low high =
    next_same (record_at (b ∷ bytes)) (records_from n) (records_from m)
    (λ x e. enough n m x.1 ((record_takes (b ∷ bytes) x fits e).0.rest_fits) (omega (arith, record_shorter (b ∷ bytes) x fits e, low)) (omega (arith, record_shorter (b ∷ bytes) x fits e, high)))

pub records_end : records_of [] ≡ Some []
unfolding records_of
records_end = refl

-- one more record
pub records_next : (bytes rest : List ℕ) (r : Record) → IsBytes bytes → record_at bytes ≡ Some (r, rest) → records_of bytes ≡ records_before (r ∷ []) (records_of rest)
unfolding records_of
records_next [] rest r fits found = absurd (omega (arith, record_shorter [] (r, rest) fits found))
records_next (b ∷ bytes) rest r fits found =
    ap (λ (o : Option (Record × List ℕ)). o >>= λ first. records_from (length bytes) first.1 >>= λ records. Some (first.0 ∷ records)) found
    ∙ ap (λ (o : Option (List Record)). o >>= λ records. Some (r ∷ records))
    (enough (length bytes) (length rest) rest ((record_takes (b ∷ bytes) (r, rest) fits found).0.rest_fits) (omega (arith, record_shorter (b ∷ bytes) (r, rest) fits found)) (omega arith))

-- something that is no record
pub records_none : (bytes : List ℕ) → 0 < length bytes → record_at bytes ≡ None → records_of bytes ≡ None
unfolding records_of
records_none [] some none = absurd (omega (arith, some))
records_none (b ∷ bytes) some none =
    ap (λ (o : Option (Record × List ℕ)). o >>= λ first. records_from (length bytes) first.1 >>= λ records. Some (first.0 ∷ records)) none

before_joined : (a b : List Record) (rest : Option (List Record)) → records_before a (records_before b rest) ≡ records_before (a ++ b) rest
before_joined a b None = refl
before_joined a b (Some more) = ap (λ (rs : List Record). Some rs) (sym (append_assoc a b more))

-- what was read so far, with one more
pub read_more : (whole : Option (List Record)) (rest behind : List ℕ) (r : Record) (records now : List Record) → IsBytes rest → now ≡ records ++ r ∷ []
    → record_at rest ≡ Some (r, behind) → whole ≡ records_before records (records_of rest) → whole ≡ records_before now (records_of behind)
read_more whole rest behind r records now fits pushed found is =
    is ∙ (ap (records_before records) (records_next rest behind r fits found)
    ∙ (before_joined records (r ∷ []) (records_of behind) ∙ ap (λ (rs : List Record). records_before rs (records_of behind)) (sym pushed)))

pub read_none : (whole : Option (List Record)) (rest : List ℕ) (records : List Record) → 0 < length rest → record_at rest ≡ None
    → whole ≡ records_before records (records_of rest) → whole ≡ None
read_none whole rest records some none is = is ∙ ap (records_before records) (records_none rest some none)

pub read_end : (whole : Option (List Record)) (rest : List ℕ) (records : List Record) → length rest ≡ 0
    → whole ≡ records_before records (records_of rest) → whole ≡ Some records
read_end whole [] records none is =
    is ∙ (ap (records_before records) records_end ∙ ap (λ (rs : List Record). Some rs) (append-nil records))
read_end whole (b ∷ rest) records none is = absurd (omega (arith, none))

-- ---- their one spelling

again_from : (rs : List Record) (n : ℕ) → length (records_bytes rs) ≤ n → AllByRecursion RecordFits rs → records_from n (records_bytes rs) ≡ Some rs
again_from [] n long fits = none n
  where
    none : (n : ℕ) → records_from n [] ≡ Some []
    none zero = refl
    none (suc n) = refl
again_from (r ∷ rs) n long fits =
    one_from r (records_bytes rs) n rs (omega (arith, long, length-append (record_bytes r) (records_bytes rs))) fits.0
    (λ m low. again_from rs m low fits.1)
  where
    one_from : (r : Record) (rest : List ℕ) (n : ℕ) (rs : List Record) → length (record_bytes r) + length rest ≤ n → RecordFits r
        → ((m : ℕ) → length rest ≤ m → records_from m rest ≡ Some rs) → records_from n (record_bytes r ++ rest) ≡ Some (r ∷ rs)
    one_from r rest zero rs long fits others = absurd (omega (arith, long, some_bytes r))
    one_from r rest (suc n) rs long fits others =
        by (record_bytes r ++ rest) refl (record_again r rest fits)
      where
        by : (bytes : List ℕ) → record_bytes r ++ rest ≡ bytes → record_at bytes ≡ Some (r, rest) → records_from (suc n) bytes ≡ Some (r ∷ rs)
        by [] is found = absurd (omega (arith, ap length is, length-append (record_bytes r) rest, some_bytes r))
        by (b ∷ bytes) is found =
            ap (λ (o : Option (Record × List ℕ)). o >>= λ first. records_from n first.1 >>= λ records. Some (first.0 ∷ records)) found
            ∙ ap (λ (o : Option (List Record)). o >>= λ records. Some (r ∷ records)) (others n (omega (arith, long, some_bytes r)))

pub records_again : (rs : List Record) → AllByRecursion RecordFits rs → records_of (records_bytes rs) ≡ Some rs
unfolding records_of
records_again rs fits = again_from rs (length (records_bytes rs)) (omega arith) fits

take_from : (n : ℕ) (bytes : List ℕ) (rs : List Record) → IsBytes bytes → records_from n bytes ≡ Some rs → (bytes ≡ records_bytes rs) × AllByRecursion RecordFits rs
take_from zero [] rs fits e = subst (λ (xs : List Record). ([] ≡ records_bytes xs) × AllByRecursion RecordFits xs) {x = []} (some_is [] rs e) (refl, tt)
take_from (suc n) [] rs fits e = subst (λ (xs : List Record). ([] ≡ records_bytes xs) × AllByRecursion RecordFits xs) {x = []} (some_is [] rs e) (refl, tt)
take_from zero (b ∷ bytes) rs fits e = absurd cc
take_from (suc n) (b ∷ bytes) rs fits e =
    let a = bind_some (record_at (b ∷ bytes)) (λ first. records_from n first.1 >>= λ records. Some (first.0 ∷ records)) rs e in
    let c = bind_some (records_from n a.0.1) (λ records. Some (a.0.0 ∷ records)) rs a.2 in
    let t = record_takes (b ∷ bytes) a.0 fits a.1 in
    let u = take_from n a.0.1 c.0 t.0.rest_fits c.1 in
    subst (λ (xs : List Record). (b ∷ bytes ≡ records_bytes xs) × AllByRecursion RecordFits xs) {x = a.0.0 ∷ c.0} (some_is (a.0.0 ∷ c.0) rs c.2)
    (t.0.parts ∙ ap (λ (r : List ℕ). record_bytes a.0.0 ++ r) u.0, (t.1, u.1))

pub records_take : (bytes : List ℕ) (rs : List Record) → IsBytes bytes → records_of bytes ≡ Some rs → (bytes ≡ records_bytes rs) × AllByRecursion RecordFits rs
unfolding records_of
records_take bytes rs fits e = take_from (length bytes) bytes rs fits e
