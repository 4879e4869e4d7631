-- How the program ends.
use Rattle.std.specs.Prelude.{ℕ, ◌≡◌, ◌+◌, ◌↔◌, true, false, List}
use Rattle.volt_base.specs.Faults.{Increased}
use Rattle.volt_io.specs.States.{SourceState, SinkState, SourceGivesAtMost, SinkTakes, SinkTakesPrefixOf}
use Rattle.volt_form.specs.Form.{longest_input}
use Rattle.volt_cmd.specs.declared.status.Status.{Status}
use Rattle.volt_cmd.specs.declared.status.Status.TheVariants.{Ok, BadUse, ReadFault, WriteFault, NotBuilt}
use Rattle.volt_cmd.specs.Headline.{IsOfForm, IsWrongAt, Reports, ReportsPartly, is_command, is_ok_or_no_memory, is_refusal, fault_line}

-- What the top call promises of its words, its source, its sink and its status.
pub record EndsWith (words : List (List ℕ)) (source source' : SourceState) (sink sink' : SinkState) (status : Status) : Type 0 where
  -- the headline
  pub sound : status ≡ Ok → Reports source source' sink sink'
  pub partly : status ≡ WriteFault → ReportsPartly source source' sink sink'
  -- the causes
  pub bad_use : (status ≡ BadUse) ↔ (is_command words ≡ false)
  pub read_fault : status ≡ ReadFault → Increased source.faults source'.faults
  pub write_fault : status ≡ WriteFault → Increased sink.faults sink'.faults
  pub not_built : (line : ℕ) → status ≡ NotBuilt line → IsWrongAt source source' line
  -- completeness
  pub complete : is_command words ≡ true → IsOfForm source source' → ¬ Increased source.faults source'.faults → ¬ Increased sink.faults sink'.faults → is_ok_or_no_memory status ≡ true
  -- the line of a refusal
  pub line : is_refusal status ≡ true → SinkTakesPrefixOf sink sink' (fault_line status)
  pub whole_line : is_refusal status ≡ true → ¬ Increased sink.faults sink'.faults → SinkTakes sink sink' (fault_line status)
  -- what is taken of the source
  pub untouched : status ≡ BadUse → source' ≡ source
  pub at_most : SourceGivesAtMost source source' (longest_input + 1)
