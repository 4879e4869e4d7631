use Rattle.std.proofs.Common.{◌≡◌, ◌++◌}
use Rattle.std.specs.List.{flat_map}
use Rattle.volt_report.specs.Spelling.{table_line}
use Rattle.account_engine.specs.Accounts.{row_lines}
use Rattle.account_engine.proofs.accounts.AccountsEngine.dump.Given as goal

-- the lines so far, and those of the rows that are left
abbrev pub invariant-loop-id : goal.invariant-loop-id
invariant-loop-id l = l.text.items ++ flat_map table_line (row_lines l.id-iterator) ≡ flat_map table_line (row_lines l.self.rows)
