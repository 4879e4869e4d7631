-- The readers of parts are exact.
use Rattle.std.proofs.Common.{◌≡◌, ℕ, zero, suc, ℤ, ◌^◌, ◌<◌, List, [], ◌∷◌, ◌++◌, Option, Some, None, Result, Ok, Err, refl, sym, ap, subst, ◌∙◌}
use Rattle.std.specs.Int.{w64, to_be_bytes}
use Rattle.std.proofs.lemmas.Option.{none-some}
use Rattle.volt_base.specs.Reading.{number_at}
use Rattle.byte_codec.specs.Readers.{both_at, list_at, list_bytes, wide_at}
use Rattle.byte_codec.specs.Exactness.{AreBytes, Taken, Exact, FitsIn, IsWide, wide_bytes}
use Rattle.byte_codec.proofs.ExactReaders.{IsBelow, one_byte, exact64, both_exact, mapped_exact, list_exact, kind_takes, of_kind, bare_kind, mapped_again}
use Rattle.byte_codec.proofs.WideNumbers.{wide_exact}
use Rattle.volt_value.specs.declared.value.Value.{Value}
use Rattle.volt_value.specs.Values.{IsValue}
use Rattle.volt_value.specs.Spelling.{value_bytes}
use Rattle.sql_plan.specs.Faults.{code_of}
use Rattle.sql_plan.specs.Rows.{Cells}
use Rattle.sql_plan.specs.declared.fault.Fault.{Fault}
use Rattle.sql_plan.specs.declared.partial.Gathered.{Gathered}
use Rattle.sql_plan.specs.declared.partial.Gathered.TheVariants as gathered
use Rattle.sql_plan.specs.declared.partial.Group.{Group}
use Rattle.sql_plan.specs.declared.partial.KeyedRow.{KeyedRow}
use Rattle.sql_plan.specs.declared.partial.Partial.{Partial}
use Rattle.sql_plan.specs.declared.partial.Partial.TheVariants as partial
use Rattle.sql_plan.specs.declared.row_key.Directed.{Directed}
use Rattle.sql_plan.specs.declared.row_key.Directed.TheVariants as directed
use Rattle.sql_wire.specs.Parts.{directed_bytes, keyed_bytes, limit_bytes, gathered_bytes, group_bytes, part_bytes, outcome_bytes}
use Rattle.sql_wire.specs.Reading.{one_value_at, fault_at, directed_at, keyed_with, keyed_at, limit_with, limit_at, sum_with, gathered_at, group_with, group_at, rows_with, groups_with, part_at, with_part, with_fault, outcome_at}
use Rattle.sql_wire.specs.Spelled.{DirectedFits, KeyedFits, LimitFits, GatheredFits, GroupFits, PartFits, OutcomeFits}
use Rattle.sql_wire.specs.ExactValues.{value_exact}
use Rattle.sql_wire.specs.ExactReplies.{fault_exact, IsFault}

abbrev IsNumber : ℕ → Type 0
IsNumber n = IsBelow (2 ^ 64) n

-- ---- values with their directions, and rows with these

directed_takes : (bytes : List ℕ) (x : Directed × List ℕ) → AreBytes bytes → directed_at bytes ≡ Some x → Taken directed_bytes DirectedFits bytes x
unfolding directed_at
directed_takes [] x fits e = absurd (none-some x e)
directed_takes (zero ∷ bytes) x fits e =
    of_kind value_bytes IsValue directed.Ascending directed_bytes DirectedFits 0 bytes x (λ a. refl) (λ a f. f)
    (kind_takes one_value_at value_bytes IsValue directed.Ascending value_exact 0 bytes x fits e)
directed_takes (suc zero ∷ bytes) x fits e =
    of_kind value_bytes IsValue directed.Descending directed_bytes DirectedFits 1 bytes x (λ a. refl) (λ a f. f)
    (kind_takes one_value_at value_bytes IsValue directed.Descending value_exact 1 bytes x fits e)
directed_takes (suc (suc kind) ∷ bytes) x fits e = absurd (none-some x e)

directed_again : (d : Directed) (rest : List ℕ) → DirectedFits d → directed_at (directed_bytes d ++ rest) ≡ Some (d, rest)
unfolding directed_at
directed_again (directed.Ascending v) rest fits = mapped_again one_value_at value_bytes IsValue directed.Ascending value_exact v rest fits
directed_again (directed.Descending v) rest fits = mapped_again one_value_at value_bytes IsValue directed.Descending value_exact v rest fits

pub directed_exact : Exact directed_at directed_bytes DirectedFits
directed_exact = record { takes = directed_takes; again = directed_again }

abbrev AreValues : Cells → Type 0
AreValues row = FitsIn (2 ^ 32) IsValue row

values_exact : Exact (list_at one_value_at) (list_bytes value_bytes) AreValues
values_exact = list_exact one_value_at value_bytes IsValue value_exact

abbrev IsKey : List Directed → Type 0
IsKey key = FitsIn (2 ^ 32) DirectedFits key

pub keyed_exact : Exact keyed_at keyed_bytes KeyedFits
unfolding keyed_at
keyed_exact =
    mapped_exact keyed_with (λ r. (r.key, r.row)) (both_at (list_at directed_at) (list_at one_value_at)) (λ p. list_bytes directed_bytes p.0 ++ list_bytes value_bytes p.1)
    (λ p. IsKey p.0 × AreValues p.1) KeyedFits (record { signs = λ p fits. (refl, fits); makes = λ r fits. (refl, fits) })
    (both_exact (list_at directed_at) (list_at one_value_at) (list_bytes directed_bytes) (list_bytes value_bytes) IsKey AreValues
    (list_exact directed_at directed_bytes DirectedFits directed_exact) values_exact)

-- ---- the value of LIMIT

limit_takes : (bytes : List ℕ) (x : Option ℕ × List ℕ) → AreBytes bytes → limit_at bytes ≡ Some x → Taken limit_bytes LimitFits bytes x
unfolding limit_at
limit_takes [] x fits e = absurd (none-some x e)
limit_takes (zero ∷ bytes) x fits e = bare_kind limit_bytes LimitFits None 0 bytes x refl tt e
limit_takes (suc zero ∷ bytes) x fits e =
    of_kind (to_be_bytes w64) IsNumber limit_with limit_bytes LimitFits 1 bytes x (λ a. refl) (λ a f. f)
    (kind_takes (number_at w64) (to_be_bytes w64) IsNumber limit_with exact64 1 bytes x fits e)
limit_takes (suc (suc kind) ∷ bytes) x fits e = absurd (none-some x e)

limit_again : (limit : Option ℕ) (rest : List ℕ) → LimitFits limit → limit_at (limit_bytes limit ++ rest) ≡ Some (limit, rest)
unfolding limit_at
limit_again None rest fits = refl
limit_again (Some n) rest fits = mapped_again (number_at w64) (to_be_bytes w64) IsNumber limit_with exact64 n rest fits

limit_exact : Exact limit_at limit_bytes LimitFits
limit_exact = record { takes = limit_takes; again = limit_again }

-- ---- what aggregates gathered, and groups

gathered_takes : (bytes : List ℕ) (x : Gathered × List ℕ) → AreBytes bytes → gathered_at bytes ≡ Some x → Taken gathered_bytes GatheredFits bytes x
unfolding gathered_at
gathered_takes [] x fits e = absurd (none-some x e)
gathered_takes (zero ∷ bytes) x fits e =
    of_kind (to_be_bytes w64) IsNumber gathered.Count gathered_bytes GatheredFits 0 bytes x (λ a. refl) (λ a f. f)
    (kind_takes (number_at w64) (to_be_bytes w64) IsNumber gathered.Count exact64 0 bytes x fits e)
gathered_takes (suc zero ∷ bytes) x fits e = bare_kind gathered_bytes GatheredFits (gathered.Sum None) 1 bytes x refl tt e
gathered_takes (suc (suc zero) ∷ bytes) x fits e =
    of_kind wide_bytes IsWide sum_with gathered_bytes GatheredFits 2 bytes x (λ a. refl) (λ a f. f)
    (kind_takes wide_at wide_bytes IsWide sum_with wide_exact 2 bytes x fits e)
gathered_takes (suc (suc (suc zero)) ∷ bytes) x fits e =
    of_kind value_bytes IsValue gathered.Min gathered_bytes GatheredFits 3 bytes x (λ a. refl) (λ a f. f)
    (kind_takes one_value_at value_bytes IsValue gathered.Min value_exact 3 bytes x fits e)
gathered_takes (suc (suc (suc (suc zero))) ∷ bytes) x fits e =
    of_kind value_bytes IsValue gathered.Max gathered_bytes GatheredFits 4 bytes x (λ a. refl) (λ a f. f)
    (kind_takes one_value_at value_bytes IsValue gathered.Max value_exact 4 bytes x fits e)
gathered_takes (suc (suc (suc (suc (suc kind)))) ∷ bytes) x fits e = absurd (none-some x e)

gathered_again : (g : Gathered) (rest : List ℕ) → GatheredFits g → gathered_at (gathered_bytes g ++ rest) ≡ Some (g, rest)
unfolding gathered_at
gathered_again (gathered.Count n) rest fits = mapped_again (number_at w64) (to_be_bytes w64) IsNumber gathered.Count exact64 n rest fits
gathered_again (gathered.Sum None) rest fits = refl
gathered_again (gathered.Sum (Some z)) rest fits = mapped_again wide_at wide_bytes IsWide sum_with wide_exact z rest fits
gathered_again (gathered.Min v) rest fits = mapped_again one_value_at value_bytes IsValue gathered.Min value_exact v rest fits
gathered_again (gathered.Max v) rest fits = mapped_again one_value_at value_bytes IsValue gathered.Max value_exact v rest fits

pub gathered_exact : Exact gathered_at gathered_bytes GatheredFits
gathered_exact = record { takes = gathered_takes; again = gathered_again }

abbrev AreGathered : List Gathered → Type 0
AreGathered all = FitsIn (2 ^ 32) GatheredFits all

pub group_exact : Exact group_at group_bytes GroupFits
unfolding group_at
group_exact =
    mapped_exact group_with (λ g. (g.key, g.gathered)) (both_at (list_at one_value_at) (list_at gathered_at)) (λ p. list_bytes value_bytes p.0 ++ list_bytes gathered_bytes p.1)
    (λ p. AreValues p.0 × AreGathered p.1) GroupFits (record { signs = λ p fits. (refl, fits); makes = λ g fits. (refl, fits) })
    (both_exact (list_at one_value_at) (list_at gathered_at) (list_bytes value_bytes) (list_bytes gathered_bytes) AreValues AreGathered values_exact
    (list_exact gathered_at gathered_bytes GatheredFits gathered_exact))

-- ---- parts

abbrev RowsPart : Type 0
RowsPart = Option ℕ × List KeyedRow

abbrev rows_part_bytes : RowsPart → List ℕ
rows_part_bytes p = limit_bytes p.0 ++ list_bytes keyed_bytes p.1

abbrev RowsPartFits : RowsPart → Type 0
RowsPartFits p = LimitFits p.0 × FitsIn (2 ^ 32) KeyedFits p.1

rows_part_exact : Exact (both_at limit_at (list_at keyed_at)) rows_part_bytes RowsPartFits
rows_part_exact =
    both_exact limit_at (list_at keyed_at) limit_bytes (list_bytes keyed_bytes) LimitFits (λ rows. FitsIn (2 ^ 32) KeyedFits rows) limit_exact
    (list_exact keyed_at keyed_bytes KeyedFits keyed_exact)

abbrev GroupsPart : Type 0
GroupsPart = Option ℕ × List Group

abbrev groups_part_bytes : GroupsPart → List ℕ
groups_part_bytes p = limit_bytes p.0 ++ list_bytes group_bytes p.1

abbrev GroupsPartFits : GroupsPart → Type 0
GroupsPartFits p = LimitFits p.0 × FitsIn (2 ^ 32) GroupFits p.1

groups_part_exact : Exact (both_at limit_at (list_at group_at)) groups_part_bytes GroupsPartFits
groups_part_exact =
    both_exact limit_at (list_at group_at) limit_bytes (list_bytes group_bytes) LimitFits (λ groups. FitsIn (2 ^ 32) GroupFits groups) limit_exact
    (list_exact group_at group_bytes GroupFits group_exact)

part_takes : (bytes : List ℕ) (x : Partial × List ℕ) → AreBytes bytes → part_at bytes ≡ Some x → Taken part_bytes PartFits bytes x
unfolding part_at
part_takes [] x fits e = absurd (none-some x e)
part_takes (zero ∷ bytes) x fits e =
    of_kind (to_be_bytes w64) IsNumber partial.Count part_bytes PartFits 0 bytes x (λ a. refl) (λ a f. f)
    (kind_takes (number_at w64) (to_be_bytes w64) IsNumber partial.Count exact64 0 bytes x fits e)
part_takes (suc zero ∷ bytes) x fits e =
    of_kind rows_part_bytes RowsPartFits rows_with part_bytes PartFits 1 bytes x (λ a. refl) (λ a f. f)
    (kind_takes (both_at limit_at (list_at keyed_at)) rows_part_bytes RowsPartFits rows_with rows_part_exact 1 bytes x fits e)
part_takes (suc (suc zero) ∷ bytes) x fits e =
    of_kind groups_part_bytes GroupsPartFits groups_with part_bytes PartFits 2 bytes x (λ a. refl) (λ a f. f)
    (kind_takes (both_at limit_at (list_at group_at)) groups_part_bytes GroupsPartFits groups_with groups_part_exact 2 bytes x fits e)
part_takes (suc (suc (suc kind)) ∷ bytes) x fits e = absurd (none-some x e)

part_again : (p : Partial) (rest : List ℕ) → PartFits p → part_at (part_bytes p ++ rest) ≡ Some (p, rest)
unfolding part_at
part_again (partial.Count n) rest fits = mapped_again (number_at w64) (to_be_bytes w64) IsNumber partial.Count exact64 n rest fits
part_again (partial.Rows rows limit) rest fits =
    mapped_again (both_at limit_at (list_at keyed_at)) rows_part_bytes RowsPartFits rows_with rows_part_exact (limit, rows) rest fits
part_again (partial.Groups groups limit) rest fits =
    mapped_again (both_at limit_at (list_at group_at)) groups_part_bytes GroupsPartFits groups_with groups_part_exact (limit, groups) rest fits

pub part_exact : Exact part_at part_bytes PartFits
part_exact = record { takes = part_takes; again = part_again }

-- ---- outcomes

abbrev code_bytes : Fault → List ℕ
code_bytes fault = one_byte (code_of fault)

outcome_takes : (bytes : List ℕ) (x : Result Partial Fault × List ℕ) → AreBytes bytes → outcome_at bytes ≡ Some x → Taken outcome_bytes OutcomeFits bytes x
unfolding outcome_at
outcome_takes [] x fits e = absurd (none-some x e)
outcome_takes (zero ∷ bytes) x fits e =
    of_kind part_bytes PartFits with_part outcome_bytes OutcomeFits 0 bytes x (λ a. refl) (λ a f. f)
    (kind_takes part_at part_bytes PartFits with_part part_exact 0 bytes x fits e)
outcome_takes (suc zero ∷ bytes) x fits e =
    of_kind code_bytes IsFault with_fault outcome_bytes OutcomeFits 1 bytes x (λ a. refl) (λ a f. f)
    (kind_takes fault_at code_bytes IsFault with_fault fault_exact 1 bytes x fits e)
outcome_takes (suc (suc kind) ∷ bytes) x fits e = absurd (none-some x e)

outcome_again : (o : Result Partial Fault) (rest : List ℕ) → OutcomeFits o → outcome_at (outcome_bytes o ++ rest) ≡ Some (o, rest)
unfolding outcome_at
outcome_again (Ok part) rest fits = mapped_again part_at part_bytes PartFits with_part part_exact part rest fits
outcome_again (Err fault) rest fits = mapped_again fault_at code_bytes IsFault with_fault fault_exact fault rest tt

pub outcome_exact : Exact outcome_at outcome_bytes OutcomeFits
outcome_exact = record { takes = outcome_takes; again = outcome_again }
