-- How a report is written.
use Rattle.std.specs.Prelude.{ℕ, ◌==◌, if◌then◌else◌, List, [], ◌∷◌, ◌++◌, length, codes, decimal}
use Rattle.std.specs.List.{flat_map}
use Rattle.std.specs.Fmt.{signed_decimal}
use Rattle.volt_base.specs.declared.entry.Applied.{Applied}
use Rattle.volt_text.specs.Tokens.{quoted}
use Rattle.volt_value.specs.declared.value.Value.{Value}
use Rattle.volt_value.specs.declared.value.Value.TheVariants as value
use Rattle.volt_wire.specs.declared.actor.Actor.{Actor}
use Rattle.volt_wire.specs.declared.actor.Actor.TheVariants.{Director, Client, Agent, Site, Scanner}
use Rattle.volt_wire.specs.declared.event.Event.{Event}
use Rattle.volt_wire.specs.declared.event.Event.TheVariants.{Deliver, Sync, Scan, Recover, Item, Submit, Idle}
use Rattle.volt_report.specs.Report.{RowLine, ReportEnd, Kept, User, Fault, Statements, Steps, Size, Lost, Down, CallLine, CopyLine, Report}

-- a number behind a space
abbrev pub then_number : ℕ → List ℕ
then_number n = 32 ∷ decimal n

-- the end of a line
abbrev pub newline : List ℕ
newline = 10 ∷ []

-- a value: a text stands in single quotes, each quote in it doubled
abbrev pub value_text : Value → List ℕ
value_text value.Null = codes "NULL"
value_text (value.Int z) = signed_decimal z
value_text (value.Text t) = quoted t

-- the values of a row, each behind a space
abbrev pub row_text : List Value → List ℕ
row_text row = flat_map (λ v. 32 ∷ value_text v) row

-- the line of a row that a call answered
abbrev pub row_line : List Value → List ℕ
row_line row = row_text row ++ newline

-- the line of a row of a table
abbrev pub table_line : RowLine → List ℕ
table_line r = 32 ∷ r.table ++ row_text r.row ++ newline

-- a word, how many things follow, and these
abbrev pub section : {A : Type 0} → List ℕ → (A → List ℕ) → List A → List ℕ
section word line xs = word ++ then_number (length xs) ++ newline ++ flat_map line xs

abbrev pub fault_name : ℕ → List ℕ
fault_name code =
    if code == 1 then codes "Overflow" else
    if code == 2 then codes "DivideByZero" else
    if code == 3 then codes "NullInColumn" else
    if code == 4 then codes "OutOfRange" else
    if code == 5 then codes "TooLong" else
    if code == 6 then codes "WrongPartition" else
    if code == 7 then codes "Duplicate" else codes "TooManyRows"

abbrev pub end_text : ReportEnd → List ℕ
end_text (Kept rows) = section (codes "ok") row_line rows
end_text (User text) = codes "abort user " ++ quoted text ++ newline
end_text (Fault code) = codes "abort fault " ++ fault_name code ++ newline
end_text Statements = codes "abort Statements" ++ newline
end_text Steps = codes "abort Steps" ++ newline
end_text Size = codes "abort Size" ++ newline
end_text Lost = codes "lost" ++ newline
end_text (Down part) = codes "down" ++ then_number part ++ newline

-- number, client, stamps, and how it ended
abbrev pub call_text : CallLine → List ℕ
call_text c = decimal c.call ++ then_number c.client ++ then_number c.submitted ++ then_number c.ended ++ 32 ∷ end_text c.end

-- the point and then the number of a call
abbrev pub applied_line : Applied → List ℕ
applied_line a = decimal a.point ++ then_number a.call ++ newline

-- a copy or a look: slot, position, number of rows, and the rows
abbrev pub copy_text : List ℕ → CopyLine → List ℕ
copy_text word c = word ++ then_number c.slot ++ then_number c.position ++ section [] table_line c.rows

abbrev pub actor_text : Actor → List ℕ
actor_text Director = codes "d"
actor_text (Client n) = codes "c" ++ decimal n
actor_text (Agent h) = codes "h" ++ decimal h
actor_text (Site i) = codes "s" ++ decimal i
actor_text (Scanner i) = codes "x" ++ decimal i

abbrev pub event_text : Event → List ℕ
event_text (Deliver to from) = codes "deliver " ++ actor_text to ++ 32 ∷ actor_text from
event_text (Sync i) = codes "sync " ++ actor_text (Site i)
event_text (Scan i) = codes "scan " ++ actor_text (Scanner i)
event_text Recover = codes "recover"
event_text Item = codes "item"
event_text (Submit n) = codes "submit " ++ actor_text (Client n)
event_text (Idle a) = codes "idle " ++ actor_text a

abbrev pub event_line : Event → List ℕ
event_line e = event_text e ++ newline

-- the bytes of a report
abbrev pub spelling : Report → List ℕ
spelling r =
    codes "volt 1" ++ newline
    ++ section (codes "opening") table_line r.opening
    ++ section (codes "calls") call_text r.calls
    ++ section (codes "serial") applied_line r.serial
    ++ section (codes "copies") (copy_text (codes "copy")) r.copies
    ++ section (codes "looks") (copy_text (codes "look")) r.looks
    ++ section (codes "trace") event_line r.trace
    ++ codes "end" ++ newline
