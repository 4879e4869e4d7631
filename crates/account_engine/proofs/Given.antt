-- In every run from no rows the answers are such as the engine gives.
use Rattle.std.proofs.Common.{◌≡◌, ℕ, ℤ, pos, Bool, true, false, cond, eqb, List, [], ◌∷◌, Option, Some, None, refl, subst, sym, inl, inr, ◌∙◌}
use Rattle.std.specs.Prelude.{is_some, if◌then◌else◌}
use Rattle.std.specs.List.{AllByRecursion}
use Rattle.std.specs.Map.{lookup}
use Rattle.std.specs.Option.{option_map, option_map_or}
use Rattle.std.specs.Ordering.{int_cmp, match_ordering}
use Rattle.std.specs.declared.cmp.Ordering.TheVariants.{Less, Equal, Greater}
use Rattle.std.proofs.lemmas.Bool.{and_parts, cases_Bool, cond-true, cond-false}
use Rattle.std.proofs.lemmas.Option.{same_Some, none-some}
use Rattle.volt_base.specs.declared.entry.Applied.{Applied}
use Rattle.volt_report.specs.Report.{ReportEnd}
use Rattle.soundness.specs.Meaning.{Script}
use Rattle.soundness.specs.Sound.{call_at, next, reply_in}
use Rattle.account_engine.specs.declared.call.AccountCall.{AccountCall}
use Rattle.account_engine.specs.declared.call.AccountCall.TheVariants.{Put, Get}
use Rattle.volt_value.specs.Values.{is_bigint}
use Rattle.account_engine.specs.Calls.{is_valid, ValidCall}
use Rattle.account_engine.specs.Answers.{is_given}
use Rattle.account_engine.specs.Accounts.{Rows, balance_of, with_row, rows_after, duplicate, one_integer, found, reply, accounts}

-- each balance is a value
abbrev AreValues : Rows → Type 0
AreValues rows = AllByRecursion (λ row. is_bigint row.1 ≡ true) rows

AreValues-with_row : (rows : Rows) (id balance : ℤ) → is_bigint balance ≡ true → AreValues rows → AreValues (with_row rows id balance)
AreValues-with_row [] id balance new old = (new, tt)
AreValues-with_row (row ∷ rows) id balance new old =
    elim (int_cmp id row.0) as (λ o. AreValues (match_ordering o ((id, balance) ∷ row ∷ rows) ((row.0, balance) ∷ rows) (row ∷ with_row rows id balance))) [
      | Less ↦ (new, old)
      | Equal ↦ (new, old.1)
      | Greater ↦ (old.0, AreValues-with_row rows id balance new old.1)
    ]

AreValues-put : (there : Bool) (rows added : Rows) → AreValues rows → AreValues added → AreValues (if there then rows else added)
AreValues-put true rows added old new = old
AreValues-put false rows added old new = new

AreValues-after : (rows : Rows) (c : AccountCall) → is_valid c ≡ true → AreValues rows → AreValues (rows_after rows c)
AreValues-after rows (Put id balance) valid old =
    AreValues-put (is_some (balance_of rows id)) rows (with_row rows id balance) old (AreValues-with_row rows id balance (and_parts (is_bigint id) (is_bigint balance) valid).1 old)
AreValues-after rows (Get id) valid old = old

is_given-found : (test : ℤ → Bool) (rows : Rows) → AreValues rows → is_given (found (lookup test rows)) ≡ true
is_given-found test [] old = refl
is_given-found test (row ∷ rows) old =
    elim (test row.0) as (λ b. is_given (found (cond b (Some row.1) (lookup test rows))) ≡ true) [
      | true ↦ old.0
      | false ↦ is_given-found test rows old.1
    ]

is_given-put : (there : Bool) → is_given (if there then duplicate else one_integer (pos 1)) ≡ true
is_given-put true = refl
is_given-put false = refl

is_given-reply : (rows : Rows) (c : AccountCall) → AreValues rows → is_given (reply rows c) ≡ true
is_given-reply rows (Put id balance) old = is_given-put (is_some (balance_of rows id))
is_given-reply rows (Get id) old = is_given-found _ rows old

-- the call that a number stands for may not be there
is_given-asked : (rows : Rows) (o : Option ValidCall) (e : ReportEnd) → AreValues rows → option_map (λ c. reply rows c.call) o ≡ Some e → is_given e ≡ true
is_given-asked rows None e old is = absurd (none-some e is)
is_given-asked rows (Some c) e old is = subst (λ (end : ReportEnd). is_given end ≡ true) (same_Some _ e is) (is_given-reply rows c.call old)

AreValues-asked : (rows : Rows) (o : Option ValidCall) → AreValues rows → AreValues (option_map_or (λ c. rows_after rows c.call) o rows)
AreValues-asked rows None old = old
AreValues-asked rows (Some c) old = AreValues-after rows c.call c.valid old

AreValues-next : (s : Script accounts) (rows : Rows) (a : Applied) → AreValues rows → AreValues (next accounts s rows a)
AreValues-next s rows a old = AreValues-asked rows (call_at accounts s.calls a.call) old

is_given-from : (s : Script accounts) (rows : Rows) (list : List Applied) (call : ℕ) (e : ReportEnd) → AreValues rows → reply_in accounts s rows list call ≡ Some e → is_given e ≡ true
is_given-from s rows [] call e old is = absurd (none-some e is)
is_given-from s rows (a ∷ later) call e old is =
    let here : Option ReportEnd = option_map (λ (c : ValidCall). reply rows c.call) (call_at accounts s.calls call) in
    let there : Option ReportEnd = reply_in accounts s (next accounts s rows a) later call in
    elim (cases_Bool (eqb a.call call)) [
      | inl same ↦ is_given-asked rows (call_at accounts s.calls call) e old (sym (cond-true _ here there same) ∙ is)
      | inr other ↦ is_given-from s (next accounts s rows a) later call e (AreValues-next s rows a old) (sym (cond-false _ here there other) ∙ is)
    ]

pub is_given-reply_in : (s : Script accounts) (list : List Applied) (call : ℕ) (e : ReportEnd) → reply_in accounts s (accounts.database []) list call ≡ Some e → is_given e ≡ true
is_given-reply_in s list call e is = is_given-from s [] list call e tt is
