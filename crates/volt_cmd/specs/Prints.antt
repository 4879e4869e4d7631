-- What is printed of a world's outcomes.
use Rattle.std.specs.Prelude.{◌≡◌, ◌==◌, true, ℕ, List, [], ◌++◌, length, map, codes, count_by}
use Rattle.std.specs.List.{AllByRecursion, flat_map}
use Rattle.volt_wire.specs.declared.event.Event.{Event}
use Rattle.volt_report.specs.Report.{Report, RowLine}
use Rattle.volt_report.specs.Spelling.{table_line, event_line, newline}
use Rattle.soundness.specs.Tied.{ended_line, copy_shown}
use Rattle.account_engine.specs.Spelling.{reply_bytes}
use Rattle.account_engine.specs.Answers.{is_given}
use Rattle.cluster_core.specs.declared.world.Outcomes.{Outcomes}
use Rattle.volt_cmd.specs.declared.printing.Printed.{Printed}

-- each row is one line
abbrev pub AreLines : List RowLine → Type 0
AreLines rows = count_by (λ b. b == 10) (flat_map table_line rows) ≡ length rows

-- The report says what the outcomes tell. Each of its ends is one that the engine gives, and each of its rows is a line.
pub record Prints (o : Outcomes) (r : Report) : Type 0 where
  pub opening : r.opening ≡ []
  pub ends : map (ended_line reply_bytes) r.calls ≡ o.ends.items
  pub given : AllByRecursion (λ line. is_given line.end ≡ true) r.calls
  pub serial : r.serial ≡ o.serial.items
  pub copies : map copy_shown r.copies ≡ o.copies.items
  pub lines : AllByRecursion (λ c. AreLines c.rows) r.copies
  pub looks : r.looks ≡ []
  pub trace : r.trace ≡ o.trace.items

-- the lines of the events, and the last line
abbrev pub last_lines : List Event → List ℕ
last_lines trace = flat_map event_line trace ++ codes "end" ++ newline

-- the bytes of a report of which the events are still to be spelled
abbrev pub printed_text : Printed → List ℕ
printed_text p = p.prefix.items ++ last_lines p.trace.items
