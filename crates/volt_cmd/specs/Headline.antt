-- What the top call promises of what it writes.
use Rattle.std.specs.Prelude.{ℕ, ◌≡◌, ◌≤◌, ◌⊎◌, Bool, true, false, Some, is_some, List, [], ◌∷◌, ◌++◌, length, map, codes, decimal, bytes_eq, IfSome}
use Rattle.std.specs.List.{range_with_len, AllByRecursion}
use Rattle.volt_io.specs.States.{SourceState, SinkState, SourceGives, SinkTakes, SinkTakesPrefixOf}
use Rattle.volt_wire.specs.declared.event.Event.{Event}
use Rattle.one_host_model.specs.Runs.{run, IsRun, TakesFirst, IsQuiescent}
use Rattle.volt_report.specs.Report.{Report}
use Rattle.volt_report.specs.Spelling.{spelling}
use Rattle.soundness.specs.Sound.{Sound, is_answer}
use Rattle.soundness.specs.Tied.{Tied}
use Rattle.soundness.specs.Carries.{script}
use Rattle.volt_form.specs.Form.{longest_input, calls_of_text, first_wrong_line}
use Rattle.account_engine.specs.Calls.{ValidCall}
use Rattle.account_engine.specs.Spelling.{reply_bytes}
use Rattle.account_engine.specs.Accounts.{accounts, accounts_semantics}
use Rattle.cluster_core.specs.declared.world.Outcomes.{Outcomes}
use Rattle.cluster_core.specs.Outcomes.{TellsOutcomes}
use Rattle.volt_cmd.specs.declared.status.Status.{Status}
use Rattle.volt_cmd.specs.declared.status.Status.TheVariants.{Ok, BadUse, ReadFault, WriteFault, NoMemory, NotBuilt}
use Rattle.volt_cmd.specs.Script.{start, script_call}

-- whether the words are a command: `run` alone
abbrev pub is_command : List (List ℕ) → Bool
is_command (word ∷ []) = bytes_eq word (codes "run")
is_command _ = false

-- The outcomes are those of a run of these calls by the schedule `first`, which ended quiescent.
pub record Ran (calls : List ValidCall) (o : Outcomes) : Type 0 where
  pub events : List Event
  pub is_run : IsRun accounts_semantics events (start calls)
  pub schedule : TakesFirst accounts_semantics events (start calls)
  pub quiescent : IsQuiescent (run accounts_semantics events (start calls))
  pub tells : TellsOutcomes accounts_semantics o (run accounts_semantics events (start calls))

-- The bytes have a meaning, and the text is the spelling of one report that is sound for it and tied to a run of it. The
-- report has a line for each call of the input, in their order, and each of them was answered.
pub record Explains (bytes text : List ℕ) : Type 0 where
  pub calls : List ValidCall
  pub input : calls_of_text bytes ≡ Some (map (λ c. script_call c.call) calls)
  pub report : Report
  pub sound : Sound accounts (script accounts calls) report
  pub tied : Tied accounts_semantics reply_bytes (start calls) report
  pub every_call : map (λ line. line.call) report.calls ≡ range_with_len 1 (length calls)
  pub answered : AllByRecursion (λ line. is_answer line.end ≡ true) report.calls
  pub spelled : text ≡ spelling report

-- These are the source's bytes: all that its reads gave since then, up to its end, and where it told its bytes, those.
pub record ReadsAll (before after : SourceState) (bytes : List ℕ) : Type 0 where
  pub gives : SourceGives before after bytes
  pub to_end : after.ended ≡ true
  pub told : IfSome before.rest (λ left. bytes ≡ left)

-- The headline: the source's bytes explain what the sink took.
pub record Reports (source source' : SourceState) (sink sink' : SinkState) : Type 0 where
  pub bytes : List ℕ
  pub text : List ℕ
  pub read : ReadsAll source source' bytes
  pub explains : Explains bytes text
  pub wrote : SinkTakes sink sink' text

-- the same of a sink that took only a prefix
pub record ReportsPartly (source source' : SourceState) (sink sink' : SinkState) : Type 0 where
  pub bytes : List ℕ
  pub text : List ℕ
  pub read : ReadsAll source source' bytes
  pub explains : Explains bytes text
  pub wrote : SinkTakesPrefixOf sink sink' text

-- ---- refusals

-- This line of the source's bytes is the first that isn't of the form. They were read to their end, or as far as shows that
-- they are too long.
pub record IsWrongAt (before after : SourceState) (line : ℕ) : Type 0 where
  pub bytes : List ℕ
  pub gives : SourceGives before after bytes
  pub enough : length bytes ≤ longest_input → after.ended ≡ true
  pub wrong : first_wrong_line bytes ≡ Some line
  pub told : IfSome before.rest (λ left. first_wrong_line left ≡ Some line)

-- The source's bytes, which it told or its reads gave, are of the form.
pub record IsOfForm (before after : SourceState) : Type 0 where
  pub bytes : List ℕ
  pub form : is_some (calls_of_text bytes) ≡ true
  pub source : (before.rest ≡ Some bytes) ⊎ ReadsAll before after bytes

-- The line of a fault. Running out of memory has none.
abbrev pub fault_line : Status → List ℕ
fault_line BadUse = codes "fault BadUse\n"
fault_line ReadFault = codes "fault ReadFault\n"
fault_line (NotBuilt line) = codes "fault NotBuilt " ++ decimal line ++ codes "\n"
fault_line Ok = []
fault_line WriteFault = []
fault_line NoMemory = []

-- whether a call that ends so has written no report
abbrev pub is_refusal : Status → Bool
is_refusal Ok = false
is_refusal WriteFault = false
is_refusal _ = true

-- whether a call ends so where the command, the input, the source and the sink are as they must be
abbrev pub is_ok_or_no_memory : Status → Bool
is_ok_or_no_memory Ok = true
is_ok_or_no_memory NoMemory = true
is_ok_or_no_memory _ = false
