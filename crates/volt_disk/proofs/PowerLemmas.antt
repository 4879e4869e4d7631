-- What a counted call needs of power, and what it makes of the count of faults.
use Rattle.std.proofs.Common.{◌≡◌, ℕ, false, IsTrue, Option, Some, None, refl, inl, inr}
use Rattle.std.proofs.lemmas.Bool.{cases_Bool}
use Rattle.std.specs.Prelude.{nat_le}
use Rattle.volt_disk.specs.declared.power.Power.{Power}
use Rattle.volt_disk.specs.declared.power.Fate.TheVariants.{Works, Dark}
use Rattle.volt_disk.specs.Power.{has_power, fate, after_call}

-- a call that meets nothing leaves the power on
powered_at : (lost : Option ℕ) (cut : Option (ℕ × ℕ)) (plans : ℕ) (last : ℕ × ℕ) → fate (record { lost = lost; cut = cut; plans = plans; last = last }) ≡ Works → IsTrue (has_power (after_call (record { lost = lost; cut = cut; plans = plans; last = last })))
powered_at (Some choice) cut plans last works = absurd (cc)
powered_at None None plans last works = refl
powered_at None (Some plan) plans last works =
    elim (cases_Bool (nat_le plan.0 1)) [ inl near ↦ let is = rw near at works in absurd (cc) | inr far ↦ rw far refl ]

pub powered_where_works : (p : Power) → fate p ≡ Works → IsTrue (has_power (after_call p))
powered_where_works p works = powered_at p.lost p.cut p.plans p.last works

dark_at : (lost : Option ℕ) (cut : Option (ℕ × ℕ)) (plans : ℕ) (last : ℕ × ℕ) → has_power (record { lost = lost; cut = cut; plans = plans; last = last }) ≡ false → fate (record { lost = lost; cut = cut; plans = plans; last = last }) ≡ Dark
dark_at (Some choice) cut plans last none = refl
dark_at None cut plans last none = absurd (cc)

pub dark_without_power : (p : Power) → has_power p ≡ false → fate p ≡ Dark
dark_without_power p none = dark_at p.lost p.cut p.plans p.last none
