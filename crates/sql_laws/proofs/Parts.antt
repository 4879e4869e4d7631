-- A statement and its parts, put together from what holds of its answer, of the shares, and of databases.
use Rattle.std.proofs.Common.{◌≡◌, ℕ, ◌<◌, List, None, Result, Ok, sym, ap, ◌∙◌}
use Rattle.volt_catalog.specs.Rules.{Contents}
use Rattle.volt_catalog.specs.Catalog.{IsCatalog}
use Rattle.sql_plan.specs.declared.fault.Fault.{Fault}
use Rattle.sql_plan.specs.declared.partial.Partial.{Partial}
use Rattle.sql_plan.specs.declared.prepared.Prepared.{Prepared}
use Rattle.sql_plan.specs.declared.prepared.Scope.TheVariants.{OnePartition}
use Rattle.sql_plan.specs.Rows.{Cells}
use Rattle.sql_meaning.specs.Judged.{with}
use Rattle.sql_meaning.specs.Database.{Database, share, IsDatabase}
use Rattle.sql_meaning.specs.Statements.{means}
use Rattle.sql_meaning.specs.WellFormed.{IsPrepared}
use Rattle.sql_laws.specs.Parts.{HasShares, IsOfParts}
use Rattle.sql_laws.proofs.Statements.{in_parts, shares_after}
use Rattle.sql_laws.proofs.Keep.Statements.{means-database}
use Rattle.sql_laws.proofs.Keep.Told.{database-told}

one_share : (x y : Database) → ◌≡◌ {A = Result Database Fault} (Ok x) (Ok y) → x ≡ y
one_share x y e = cc

module _ (parts : ℕ) (some : 0 < parts) (catalog : Contents) (rules : IsCatalog catalog) (statement : Prepared) (prepared : IsPrepared catalog statement) (many : statement.scope ≡ OnePartition → ⊥)
    (args : Cells) (db : Database) (is : IsDatabase catalog db) where
  has_shares : (made : Database × List Cells) → means parts catalog None statement args db ≡ Ok made → HasShares parts catalog statement args db made.0
  has_shares made done part below =
      let mine = shares_after parts some catalog rules db is statement prepared many args part below made done in
      ap (λ (r : Result (Database × Partial) Fault). with r (λ made. Ok made.0)) mine.1

  pub of_parts : IsOfParts parts catalog statement args db
  of_parts =
      record {
        answer = in_parts parts some catalog rules db is statement prepared many args;
        shares = has_shares;
        only = λ made done other is_other has.
            database-told parts some catalog rules other made.0 is_other (means-database parts catalog rules None statement prepared args db made done is) (λ part below.
            one_share (share parts catalog part other) (share parts catalog part made.0) (sym (has part below) ∙ has_shares made done part below));
      }
