-- An engine that carries out the calls of a meaning, on a deployment of one partition with one copy.
use Rattle.std.specs.Prelude.{ℕ, ◌≡◌, true, List, [], ◌∷◌, ◌++◌, map, Some}
use Rattle.std.specs.List.{flat_map}
use Rattle.volt_base.specs.Semantics.{Semantics}
use Rattle.volt_base.specs.declared.entry.Entry.TheVariants.{Sp}
use Rattle.one_host_model.specs.declared.input.WorldCall.{WorldCall}
use Rattle.volt_report.specs.Report.{ReportEnd}
use Rattle.volt_report.specs.Spelling.{table_line}
use Rattle.soundness.specs.Meaning.{Meaning, Script}
use Rattle.soundness.specs.Sound.{is_answer}

pub record Carries (S : Semantics) (M : Meaning) : Type 0 where
  -- how a call's body and a reply are spelled
  pub body : M.Call → List ℕ
  pub reply_bytes : ReportEnd → List ℕ
  -- the database that a state stands for
  pub database : S.State → M.Database
  -- an engine opens with the empty database, and each call does to its state what it means
  pub opens : database (S.opening 0) ≡ M.database []
  pub after : (s : S.State) (call client point : ℕ) (c : M.Call) → database (S.after s (Sp call client point (body c))) ≡ M.after (database s) c
  pub answers : (s : S.State) (call client point : ℕ) (c : M.Call) → S.answer s (Sp call client point (body c)) ≡ reply_bytes (M.reply (database s) c)
  pub is_answer : (d : M.Database) (c : M.Call) → is_answer (M.reply d c) ≡ true
  -- each call is noted with its point
  pub opens_applied : S.applied (S.opening 0) ≡ []
  pub applied : (s : S.State) (call client point : ℕ) (c : M.Call) → S.applied (S.after s (Sp call client point (body c))) ≡ S.applied s ++ record { call = call; point = point } ∷ []
  -- the rows are the partition's
  pub rows : (s : S.State) → S.rows s ≡ flat_map table_line (M.part 0 (database s))
  -- there is one partition, and all calls are its
  pub one_part : M.parts ≡ 1
  pub all_calls : (c : M.Call) → M.is_call_of 0 c ≡ true

-- what the world is given for these calls, and what they are asked to do: all of client 1
abbrev pub world_calls : (M : Meaning) → (M.Call → List ℕ) → List M.Call → List WorldCall
world_calls M body calls = map (λ c. record { client = 1; part = Some 0; body = body c }) calls

abbrev pub script : (M : Meaning) → List M.Call → Script M
script M calls = record { calls = map (λ c. record { client = 1; call = c }) calls; copies = 1 }
