-- Calls one after another, where each partition has its share alone.
use Rattle.std.proofs.Common.{◌≡◌, ℕ, ◌<◌, List, [], ◌∷◌, slice_get, Option, Some, None, option_map, sym, refl, ap, ◌∙◌, subst, inl, inr}
use Rattle.std.specs.Option.{option_and_then}
use Rattle.std.proofs.lemmas.Bool.{cases_eq, eq-eqb, ne_eqb}
use Rattle.volt_catalog.specs.declared.procedure.ProcDef.{ProcDef}
use Rattle.sql_plan.specs.declared.plan.Plan.{Plan}
use Rattle.sql_plan.specs.declared.program.Program.{Program}
use Rattle.sql_meaning.specs.Values.{at}
use Rattle.sql_meaning.specs.Tables.{part_of_value}
use Rattle.sql_meaning.specs.Database.{Database, share, IsDatabase}
use Rattle.sql_meaning.specs.Calls.{Call, part_of_args, call, part_of_call, own_call, serial}
use Rattle.sql_meaning.specs.Rounds.{call_by_part, call_on_shares, serial_on_shares}
use Rattle.sql_meaning.specs.Plans.{IsPlan}
use Rattle.sql_laws.proofs.Fits.{part_of_value-within}
use Rattle.sql_laws.proofs.Calls.{call-database, one_part-call}
use Rattle.sql_laws.proofs.Rounds.{Same, rounds-call-of}

module _ (plan : Plan) (is_plan : IsPlan plan) where
  abbrev pub Are : Database → (ℕ → Database) → Type 0
  Are db own = (p : ℕ) → p < plan.parts → own p ≡ share plan.parts plan.catalog p db

  part-within : (c : Call) (part : ℕ) → part_of_call plan c ≡ Some part → part < plan.parts
  part-within c part e = by (slice_get plan.procs c.proc) e
    where
      by_place : (o : Option (ℕ × ℕ × ℕ)) → option_map (λ (place : ℕ × ℕ × ℕ). part_of_value plan.parts (at c.args place.2)) o ≡ Some part → part < plan.parts
      by_place None e = absurd (cc)
      by_place (Some place) e =
          subst (λ p. p < plan.parts) (let f : Some (part_of_value plan.parts (at c.args place.2)) ≡ Some part = e in cc) (part_of_value-within plan.parts (at c.args place.2) is_plan.some_part)

      by : (o : Option (ProcDef × Program)) → option_and_then (λ (proc : ProcDef × Program). part_of_args plan.parts proc.0 c.args) o ≡ Some part → part < plan.parts
      by None e = absurd (cc)
      by (Some proc) e = by_place proc.0.part e

  call-same : (db : Database) (c : Call) → IsDatabase plan.catalog db → (own : ℕ → Database) → Are db own → Same plan (call plan db c) (call_on_shares plan own c)
  call-same db c is own are = by (part_of_call plan c) refl
    where
      by : (o : Option ℕ) → part_of_call plan c ≡ o → Same plan (call plan db c) (call_by_part plan own c o)
      by None e = rounds-call-of plan is_plan db c is e own are
      by (Some part) e =
          let law = one_part-call plan is_plan db c part is e in
          let here : own part ≡ share plan.parts plan.catalog part db = are part (part-within c part e) in (
            ap (λ (d : Database). (own_call plan part d c).1) here ∙ sym law.reply,
            λ q below. elim (cases_eq q part) [
              | inl same ↦ rw (eq-eqb q part same) (ap (λ (d : Database). (own_call plan part d c).0) here ∙ sym law.own ∙ ap (λ (p : ℕ). share plan.parts plan.catalog p (call plan db c).0) (sym same))
              | inr other ↦ rw (ne_eqb q part other) (are q below ∙ sym (law.others q other))
            ],
          )

  pub serial-same : (calls : List Call) (db : Database) → IsDatabase plan.catalog db → (own : ℕ → Database) → Are db own
      → ((serial_on_shares plan own calls).1 ≡ (serial plan db calls).1) × Are (serial plan db calls).0 (serial_on_shares plan own calls).0
  serial-same [] db is own are = (refl, are)
  serial-same (c ∷ calls) db is own are =
      let one = call-same db c is own are in
      let rest = serial-same calls (call plan db c).0 (call-database plan is_plan db c is) (call_on_shares plan own c).0 one.1 in
      (λ i. one.0 i ∷ rest.0 i, rest.1)
