use Rattle.std.proofs.Common.{◌≡◌, true, ◌∙◌}
use Rattle.ddl_parse.specs.Procedures.{is_lone_name}
use Rattle.ddl_parse.proofs.Returned.{lone}
use Rattle.ddl_parse.proofs.program.returned_of.Goals as goal

pub returns-then-is_lone_name : goal.returns-then-is_lone_name
returns-then-is_lone_name c =
    let alone : is_lone_name c.args.values ≡ true = cc in
    c.result_of.ensures ∙ lone c.args.values c.pop.new.self c.pop.result alone c.pop.ensures
