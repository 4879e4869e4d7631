-- Calls: what they leave, what they read, and rounds.
use Rattle.std.proofs.Common.{◌≡◌, ℕ, zero, suc, Bool, true, false, List, [], ◌∷◌, filter, slice_get, Option, Some, None, is_some, option_map, Result, Ok, Err, sym, refl, ap, ◌∙◌, subst, inl, inr}
use Rattle.std.specs.List.{list_all, AllByRecursion}
use Rattle.std.specs.Option.{option_and_then}
use Rattle.std.proofs.lemmas.Bool.{cases_Bool, and_parts, and_from, both_ways, not-true}
use Rattle.volt_catalog.specs.declared.procedure.ProcDef.{ProcDef}
use Rattle.volt_catalog.specs.Rules.{Contents}
use Rattle.volt_catalog.specs.Catalog.{IsCatalog}
use Rattle.sql_plan.specs.declared.fault.Fault.{Fault}
use Rattle.sql_plan.specs.declared.plan.Plan.{Plan}
use Rattle.sql_plan.specs.declared.prepared.Prepared.{Prepared}
use Rattle.sql_plan.specs.declared.prepared.Scope.TheVariants.{OnePartition}
use Rattle.sql_plan.specs.declared.program.Program.{Program}
use Rattle.sql_plan.specs.declared.reply.Cause.{Cause}
use Rattle.sql_plan.specs.declared.reply.ProcReply.{ProcReply}
use Rattle.sql_plan.specs.declared.reply.ProcReply.TheVariants as reply
use Rattle.sql_plan.specs.Prepared.{written_by}
use Rattle.sql_plan.specs.Rows.{Cells}
use Rattle.sql_meaning.specs.Values.{at}
use Rattle.sql_meaning.specs.Tables.{table_at, lies_in, part_of_value}
use Rattle.sql_meaning.specs.Database.{Database, rows_of, share, IsDatabase}
use Rattle.sql_meaning.specs.Statements.{means}
use Rattle.sql_meaning.specs.Programs.{Talk, Returns, Aborts, Asks, talk_of}
use Rattle.sql_meaning.specs.Replies.{sized}
use Rattle.sql_meaning.specs.Calls.{Answers, after_answer, settled, statement_means, answers_of, ran, Call, put_back, kept, run_call, on_part, part_of_args, run_on, call_of, call, part_of_call, own_call_of, own_call, serial}
use Rattle.sql_meaning.specs.Plans.{is_one_partition, is_partitioned, IsStatement, IsProcedure, IsPlan}
use Rattle.sql_laws.proofs.Plain.Rows.{rows_of-share}
use Rattle.sql_laws.proofs.Keep.Databases.{database-share}
use Rattle.sql_laws.proofs.Keep.Statements.{Own, means-database, means-own}
use Rattle.sql_laws.proofs.Keep.PutBack.{put_database, put_own, put_other}
use Rattle.sql_laws.specs.Alone.{OnOnePart}

-- ---- statements of a procedure

pub statement_at : (catalog : Contents) (single : Bool) (statements : List Prepared) (n : ℕ) (statement : Prepared) → AllByRecursion (IsStatement catalog single) statements → slice_get statements n ≡ Some statement → IsStatement catalog single statement
statement_at catalog single [] n statement all e = absurd (cc)
statement_at catalog single (s ∷ statements) zero statement all e = subst (IsStatement catalog single) (let f : Some s ≡ Some statement = e in cc) all.0
statement_at catalog single (s ∷ statements) (suc n) statement all e = statement_at catalog single statements n statement all.1 e

writes_partitioned : (catalog : Contents) (statement : Prepared) → IsStatement catalog true statement → (n : ℕ) → written_by statement.action ≡ Some n → is_some (table_at catalog n).part ≡ true
writes_partitioned catalog statement is n e =
    let two = and_parts (is_one_partition statement.scope) (is_partitioned catalog (written_by statement.action)) is.suits in
    subst (λ o. is_partitioned catalog o ≡ true) e two.1

pub runs_on_many : (catalog : Contents) (statement : Prepared) → IsStatement catalog false statement → statement.scope ≡ OnePartition → ⊥
runs_on_many catalog statement is e = both_ways (is_one_partition statement.scope) (not-true (is_one_partition statement.scope) is.suits) (ap is_one_partition e)

-- ---- a talk leaves what its statements leave

module _ (P : Database → Type 0) (answers : Answers) (keeps : (n : ℕ) (args : Cells) (db : Database) (made : Database × List Cells) → answers n args db ≡ Ok made → P db → P made.0) where
  answered : (go : Result (List Cells) Fault → Database → Database × ProcReply) → ((r : Result (List Cells) Fault) (db : Database) → P db → P (go r db).0)
      → (db : Database) → P db → (r : Result (Database × List Cells) Fault) → ((made : Database × List Cells) → r ≡ Ok made → P made.0) → P (after_answer db go r).0
  answered go each db holds (Ok made) keep_it = each (Ok made.1) made.0 (keep_it made refl)
  answered go each db holds (Err fault) keep_it = each (Err fault) db holds

  pub settled-keeps : (talk : Talk) (db : Database) → P db → P (settled answers talk db).0
  settled-keeps (Returns rows) db holds = holds
  settled-keeps (Aborts cause) db holds = holds
  settled-keeps (Asks statement args go) db holds =
      answered (λ answer later. settled answers (go answer) later) (λ r d h. settled-keeps (go r) d h) db holds (answers statement args db) (λ made e. keeps statement args db made e holds)

module _ (parts : ℕ) (catalog : Contents) (rules : IsCatalog catalog) (program : Program) where
  statement_keeps : (P : Database → Type 0) (here : Option ℕ) → ((statement : Prepared) (n : ℕ) → slice_get program.statements n ≡ Some statement → (args : Cells) (db : Database) (made : Database × List Cells) → means parts catalog here statement args db ≡ Ok made → P db → P made.0)
      → (n : ℕ) (args : Cells) (db : Database) (made : Database × List Cells) → answers_of parts catalog here program n args db ≡ Ok made → P db → P made.0
  statement_keeps P here each n args db made e holds = by (slice_get program.statements n) refl e
    where
      by : (o : Option Prepared) → slice_get program.statements n ≡ o → statement_means parts catalog here o args db ≡ Ok made → P made.0
      by None same e = subst P (nothing_made e) holds
        where
          nothing_made : ◌≡◌ {A = Result (Database × List Cells) Fault} (Ok (db, [])) (Ok made) → db ≡ made.0
          nothing_made f = let g : ◌≡◌ {A = Database × List Cells} (db, []) made = cc in ap (λ (w : Database × List Cells). w.0) g
      by (Some statement) same e = each statement n same args db made e holds

  pub ran-database : (single : Bool) (here : Option ℕ) → AllByRecursion (IsStatement catalog single) program.statements → (args : Cells) (db : Database) → IsDatabase catalog db → IsDatabase catalog (ran parts catalog here program args db).0
  ran-database single here all args db is =
      settled-keeps (IsDatabase catalog) (answers_of parts catalog here program)
      (statement_keeps (IsDatabase catalog) here (λ statement n at_n args db made e is. means-database parts catalog rules here statement (statement_at catalog single program.statements n statement all at_n).prepared args db made e is))
      (talk_of program args) db is

  pub ran-own : (part : ℕ) → AllByRecursion (IsStatement catalog true) program.statements → (args : Cells) (start : Database) → Own parts part catalog start start → Own parts part catalog start (ran parts catalog (Some part) program args start).0
  ran-own part all args start own =
      settled-keeps (Own parts part catalog start) (answers_of parts catalog (Some part) program)
      (statement_keeps (Own parts part catalog start) (Some part) (λ statement n at_n args db made e own.
      let is = statement_at catalog true program.statements n statement all at_n in
      means-own parts catalog rules part statement is.prepared (writes_partitioned catalog statement is) args start db made e own))
      (talk_of program args) start own

-- ---- a call

kept-reply : (a b : Database) (r : ProcReply) → (kept a b r).1 ≡ r
kept-reply a b (reply.Ok rows) = refl
kept-reply a b (reply.Abort cause) = refl

kept-either : (P : Database → Type 0) (a b : Database) (r : ProcReply) → P a → P b → P (kept a b r).0
kept-either P a b (reply.Ok rows) x y = y
kept-either P a b (reply.Abort cause) x y = x

-- an abort leaves the database as it was
kept-abort : (a b : Database) (r : ProcReply) (cause : Cause) → (kept a b r).1 ≡ reply.Abort cause → (kept a b r).0 ≡ a
kept-abort a b (reply.Ok rows) cause e = absurd (cc)
kept-abort a b (reply.Abort c) cause e = refl

pub abort_leaves : (plan : Plan) (db : Database) (c : Call) (cause : Cause) → (call plan db c).1 ≡ reply.Abort cause → (call plan db c).0 ≡ db
abort_leaves plan db c cause e = by (slice_get plan.procs c.proc) e
  where
    run_abort : (part : Option ℕ) (program : Program) → (run_on plan program c.args db part).1 ≡ reply.Abort cause → (run_on plan program c.args db part).0 ≡ db
    run_abort None program e = kept-abort db (ran plan.parts plan.catalog None program c.args db).0 (sized (ran plan.parts plan.catalog None program c.args db).1) cause e
    run_abort (Some part) program e =
        let end = run_call plan (Some part) program c.args (share plan.parts plan.catalog part db) in
        kept-abort db (put_back plan.parts plan.catalog part db end.0) end.1 cause e

    by : (o : Option (ProcDef × Program)) → (call_of plan c.args db o).1 ≡ reply.Abort cause → (call_of plan c.args db o).0 ≡ db
    by None e = absurd (cc)
    by (Some proc) e = run_abort (part_of_args plan.parts proc.0 c.args) proc.1 e

all_lie : {X : Type 0} (f : X → Bool) (xs : List X) → list_all f (filter f xs) ≡ true
all_lie f [] = refl
all_lie f (x ∷ xs) =
    elim (cases_Bool (f x)) [
      | inl passes ↦ rw passes (and_from (f x) (list_all f (filter f xs)) passes (all_lie f xs))
      | inr fails ↦ rw fails (all_lie f xs)
    ]

pub own-share : (parts part : ℕ) (catalog : Contents) (db : Database) → IsDatabase catalog db → Own parts part catalog (share parts catalog part db) (share parts catalog part db)
own-share parts part catalog db is =
    record {
      database = database-share parts catalog part db is;
      here = λ n. ap (list_all (lies_in parts part (table_at catalog n))) (rows_of-share parts catalog part db n is.tables) ∙ all_lie (lies_in parts part (table_at catalog n)) (rows_of db n);
      others = λ n none. refl;
    }

pub procedure_at : (catalog : Contents) (procs : List (ProcDef × Program)) (n : ℕ) (proc : ProcDef × Program) → AllByRecursion (λ proc. IsProcedure catalog proc.0 proc.1) procs → slice_get procs n ≡ Some proc → IsProcedure catalog proc.0 proc.1
procedure_at catalog [] n proc all e = absurd (cc)
procedure_at catalog (p ∷ procs) zero proc all e = subst (λ (proc : ProcDef × Program). IsProcedure catalog proc.0 proc.1) (let f : Some p ≡ Some proc = e in cc) all.0
procedure_at catalog (p ∷ procs) (suc n) proc all e = procedure_at catalog procs n proc all.1 e

-- a procedure that chooses a partition runs on one
chosen_some : (parts : ℕ) (def : ProcDef) (args : Cells) (part : ℕ) → part_of_args parts def args ≡ Some part → is_some def.part ≡ true
chosen_some parts def args part e = by def.part e
  where
    by : (o : Option (ℕ × ℕ × ℕ)) → option_map (λ place. part_of_value parts (at args place.2)) o ≡ Some part → is_some o ≡ true
    by None e = absurd (cc)
    by (Some x) e = refl

module _ (plan : Plan) (is_plan : IsPlan plan) (db : Database) (is : IsDatabase plan.catalog db) (part : ℕ) (proc : ProcDef × Program) (procedure : IsProcedure plan.catalog proc.0 proc.1) (single : is_some proc.0.part ≡ true) (args : Cells) where
  abbrev start : Database
  start = share plan.parts plan.catalog part db

  abbrev end : Database × ProcReply
  end = ran plan.parts plan.catalog (Some part) proc.1 args start

  end_own : Own plan.parts part plan.catalog start end.0
  end_own = ran-own plan.parts plan.catalog is_plan.catalog proc.1 part (subst (λ b. AllByRecursion (IsStatement plan.catalog b) proc.1.statements) single procedure.statements) args start (own-share plan.parts part plan.catalog db is)

  own_by : (r : ProcReply) → share plan.parts plan.catalog part (kept db (put_back plan.parts plan.catalog part db (kept start end.0 r).0) (kept start end.0 r).1).0 ≡ (kept start end.0 r).0
  own_by (reply.Ok rows) = put_own plan.parts part is_plan.some_part plan.catalog is_plan.catalog db end.0 is end_own
  own_by (reply.Abort cause) = refl

  other_by : (q : ℕ) → (q ≡ part → ⊥) → (r : ProcReply) → share plan.parts plan.catalog q (kept db (put_back plan.parts plan.catalog part db (kept start end.0 r).0) (kept start end.0 r).1).0 ≡ share plan.parts plan.catalog q db
  other_by q other (reply.Ok rows) = put_other plan.parts part is_plan.some_part plan.catalog is_plan.catalog db end.0 is end_own q other
  other_by q other (reply.Abort cause) = refl

  database_by : (r : ProcReply) → IsDatabase plan.catalog (kept db (put_back plan.parts plan.catalog part db (kept start end.0 r).0) (kept start end.0 r).1).0
  database_by (reply.Ok rows) = put_database plan.parts part is_plan.some_part plan.catalog is_plan.catalog db end.0 is end_own
  database_by (reply.Abort cause) = is

  pub part-own : share plan.parts plan.catalog part (on_part plan proc.1 args db part).0 ≡ (run_call plan (Some part) proc.1 args start).0
  part-own = own_by (sized end.1)

  pub part-other : (q : ℕ) → (q ≡ part → ⊥) → share plan.parts plan.catalog q (on_part plan proc.1 args db part).0 ≡ share plan.parts plan.catalog q db
  part-other q other = other_by q other (sized end.1)

  pub part-database : IsDatabase plan.catalog (on_part plan proc.1 args db part).0
  part-database = database_by (sized end.1)

  pub part-reply : (on_part plan proc.1 args db part).1 ≡ (run_call plan (Some part) proc.1 args start).1
  part-reply = kept-reply db (put_back plan.parts plan.catalog part db (kept start end.0 (sized end.1)).0) (kept start end.0 (sized end.1)).1

-- a call leaves a database
pub call-database : (plan : Plan) (is_plan : IsPlan plan) (db : Database) (c : Call) → IsDatabase plan.catalog db → IsDatabase plan.catalog (call plan db c).0
call-database plan is_plan db c is = by (slice_get plan.procs c.proc) refl
  where
    on : (proc : ProcDef × Program) → IsProcedure plan.catalog proc.0 proc.1 → (o : Option ℕ) → part_of_args plan.parts proc.0 c.args ≡ o → IsDatabase plan.catalog (run_on plan proc.1 c.args db o).0
    on proc procedure None e =
        kept-either (IsDatabase plan.catalog) db (ran plan.parts plan.catalog None proc.1 c.args db).0 (sized (ran plan.parts plan.catalog None proc.1 c.args db).1) is
        (ran-database plan.parts plan.catalog is_plan.catalog proc.1 (is_some proc.0.part) None procedure.statements c.args db is)
    on proc procedure (Some part) e = part-database plan is_plan db is part proc procedure (chosen_some plan.parts proc.0 c.args part e) c.args

    by : (o : Option (ProcDef × Program)) → slice_get plan.procs c.proc ≡ o → IsDatabase plan.catalog (call_of plan c.args db o).0
    by None same = is
    by (Some proc) same = on proc (procedure_at plan.catalog plan.procs c.proc proc is_plan.procs same) (part_of_args plan.parts proc.0 c.args) refl

pub serial-database : (plan : Plan) (is_plan : IsPlan plan) (calls : List Call) (db : Database) → IsDatabase plan.catalog db → IsDatabase plan.catalog (serial plan db calls).0
serial-database plan is_plan [] db is = is
serial-database plan is_plan (c ∷ calls) db is = serial-database plan is_plan calls (call plan db c).0 (call-database plan is_plan db c is)

-- ---- a call on one partition

pub one_part-call : (plan : Plan) (is_plan : IsPlan plan) (db : Database) (c : Call) (part : ℕ) → IsDatabase plan.catalog db → part_of_call plan c ≡ Some part → OnOnePart plan db c part
one_part-call plan is_plan db c part is e = by (slice_get plan.procs c.proc) refl e
  where
    by : (o : Option (ProcDef × Program)) → slice_get plan.procs c.proc ≡ o → option_and_then (λ (proc : ProcDef × Program). part_of_args plan.parts proc.0 c.args) o ≡ Some part → OnOnePart plan db c part
    by None same e = absurd (cc)
    by (Some proc) same e =
        let procedure = procedure_at plan.catalog plan.procs c.proc proc is_plan.procs same in
        let single = chosen_some plan.parts proc.0 c.args part e in
        let whole : call plan db c ≡ on_part plan proc.1 c.args db part = ap (call_of plan c.args db) same ∙ ap (run_on plan proc.1 c.args db) e in
        let alone : own_call plan part (share plan.parts plan.catalog part db) c ≡ run_call plan (Some part) proc.1 c.args (share plan.parts plan.catalog part db) = ap (own_call_of plan part c.args (share plan.parts plan.catalog part db)) same in
        record {
          reply = ap (λ (w : Database × ProcReply). w.1) whole ∙ part-reply plan is_plan db is part proc procedure single c.args ∙ sym (ap (λ (w : Database × ProcReply). w.1) alone);
          own = ap (λ (w : Database × ProcReply). share plan.parts plan.catalog part w.0) whole ∙ part-own plan is_plan db is part proc procedure single c.args ∙ sym (ap (λ (w : Database × ProcReply). w.0) alone);
          others = λ q other. ap (λ (w : Database × ProcReply). share plan.parts plan.catalog q w.0) whole ∙ part-other plan is_plan db is part proc procedure single c.args q other;
        }
