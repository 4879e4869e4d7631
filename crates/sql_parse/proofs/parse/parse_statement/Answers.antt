use Rattle.std.proofs.Common.{arith, ◌≡◌, Err, ap, sym, ◌∙◌, subst}
use Rattle.sql_grammar.specs.Grammar.{parse}
use Rattle.expr_parse.specs.Expressions.{max_nesting}
use Rattle.expr_parse.specs.Reads.{Reads, refused_at}
use Rattle.expr_parse.specs.declared.fault.ParseFault.TheVariants as fault
use Rattle.expr_parse.proofs.Standing.{few}
use Rattle.expr_parse.proofs.Whereabouts.{read_there, refused_there}
use Rattle.sql_parse.specs.Statements.{stmt, statement}
use Rattle.sql_parse.proofs.StatementsOk.{statement-ok}
use Rattle.sql_parse.proofs.parse.parse_statement.Goals as goal

pub at-requires : goal.at-requires
at-requires c = omega (arith, few c.args.text.now c.args.tokens.now c.requires.lexed)

pub returns-in-Ok-clause-read : goal.returns-in-Ok-clause-read
unfolding statement
returns-in-Ok-clause-read c =
    read_there statement statement-ok c.args.text.now c.args.tokens.now c.args.from c.requires.within c.in-Ok.found c.stmt-read.new.tokens c.saturating_sub-place.result
    (ap (parse (stmt max_nesting)) (sym c.at-cursor.ensures) ∙ c.in-Ok.ensures) (omega arith)

pub returns-in-Err-clause-refused : goal.returns-in-Err-clause-refused
unfolding statement
returns-in-Err-clause-refused c = λ place e.
    let named : refused_at c.in-Err.fault c.saturating_sub-place.result ≡ fault.Syntax place = cc in
    let reads : Reads (parse (stmt max_nesting) c.at-cursor.result) (Err c.in-Err.fault) c.stmt-read.new.tokens = c.in-Err.ensures in
    refused_there statement statement-ok c.args.text.now c.args.tokens.now c.args.from c.requires.within c.in-Err.fault c.saturating_sub-place.result place c.stmt-read.new.tokens named
    (subst (λ ts. Reads (parse (stmt max_nesting) ts) (Err c.in-Err.fault) c.stmt-read.new.tokens) c.at-cursor.ensures reads) (omega arith)
