-- A call that runs in rounds gives what it means on the whole database.
use Rattle.std.proofs.Common.{◌≡◌, ℕ, zero, suc, ◌+◌, ◌<◌, Bool, true, false, if◌then◌else◌, nat_le, List, [], ◌∷◌, map, length, slice_get, Option, Some, None, is_some, option_map, Result, Ok, Err, sym, refl, ap, ◌∙◌, subst, arith}
use Rattle.std.specs.List.{range_with_len, AllByRecursion}
use Rattle.std.specs.Option.{option_and_then}
use Rattle.volt_catalog.specs.declared.procedure.ProcDef.{ProcDef}
use Rattle.volt_catalog.specs.Rules.{Contents}
use Rattle.volt_catalog.specs.Catalog.{IsCatalog}
use Rattle.sql_plan.specs.declared.fault.Fault.{Fault}
use Rattle.sql_plan.specs.declared.plan.Plan.{Plan}
use Rattle.sql_plan.specs.declared.prepared.Prepared.{Prepared}
use Rattle.sql_plan.specs.declared.program.Program.{Program}
use Rattle.sql_plan.specs.declared.reply.Cause.TheVariants as cause
use Rattle.sql_plan.specs.declared.reply.ProcReply.{ProcReply}
use Rattle.sql_plan.specs.declared.reply.ProcReply.TheVariants as reply
use Rattle.sql_plan.specs.declared.row.Rows.{Rows}
use Rattle.sql_plan.specs.Rows.{Cells}
use Rattle.sql_meaning.specs.Judged.{with, collected}
use Rattle.sql_meaning.specs.Database.{Database, share, IsDatabase}
use Rattle.sql_meaning.specs.Parts.{part_means, merged, given_by_parts}
use Rattle.sql_meaning.specs.Programs.{Talk, Returns, Aborts, Asks, talk_of}
use Rattle.sql_meaning.specs.Replies.{most_bytes, reply_bytes, sized}
use Rattle.sql_meaning.specs.Calls.{settled, statement_means, answers_of, after_answer, ran, Call, kept, run_call, part_of_args, run_on, call_of, call, part_of_call}
use Rattle.sql_meaning.specs.Rounds.{share_after, round_answer, round_shares, in_rounds, run_in_rounds, call_in_rounds_of, call_in_rounds}
use Rattle.sql_meaning.specs.Plans.{IsStatement, IsProcedure, IsPlan}
use Rattle.sql_laws.specs.InRounds.{shares_of, InRounds}
use Rattle.sql_laws.proofs.Statements.{in_parts, shares_after}
use Rattle.sql_laws.proofs.Keep.Statements.{means-database}
use Rattle.sql_laws.proofs.Calls.{statement_at, runs_on_many, procedure_at}
use Rattle.sql_laws.proofs.Talks.{GivesUp, talk-gives_up}

-- what two functions give of each of a range, where they give the same of all
same_of_range : {A : Type 0} (f g : ℕ → A) (a n : ℕ) → ((p : ℕ) → p < a + n → f p ≡ g p) → map f (range_with_len a n) ≡ map g (range_with_len a n)
same_of_range f g a zero same = refl
same_of_range f g a (suc n) same = λ i. same a (omega arith) i ∷ same_of_range f g (a + 1) n (λ p below. same p (omega arith)) i

module _ (parts : ℕ) (some : 0 < parts) (catalog : Contents) (rules : IsCatalog catalog) (program : Program) (all : AllByRecursion (IsStatement catalog false) program.statements) where
  -- the shares of a database
  abbrev Are : Database → (ℕ → Database) → Type 0
  Are db own = (p : ℕ) → p < parts → own p ≡ share parts catalog p db

  given_same : (statement : Prepared) (args : Cells) (db : Database) (own : ℕ → Database) → Are db own
      → given_by_parts parts catalog statement args own ≡ given_by_parts parts catalog statement args (λ p. share parts catalog p db)
  given_same statement args db own are =
      ap (λ rs. with (collected rs) (merged statement))
      (same_of_range (λ p. with (part_means parts catalog p statement args (own p)) (λ made. Ok made.1)) (λ p. with (part_means parts catalog p statement args (share parts catalog p db)) (λ made. Ok made.1)) 0 parts
      (λ p below. ap (λ (d : Database). with (part_means parts catalog p statement args d) (λ made. Ok made.1)) (are p (omega arith))))

  -- one statement: its answer, and the shares behind it
  round-answer : (n : ℕ) (o : Option Prepared) → slice_get program.statements n ≡ o → (args : Cells) (db : Database) → IsDatabase catalog db → (own : ℕ → Database) → Are db own
      → round_answer parts catalog o args own ≡ with (statement_means parts catalog None o args db) (λ made. Ok made.1)
  round-answer n None at_n args db is own are = refl
  round-answer n (Some statement) at_n args db is own are =
      let known = statement_at catalog false program.statements n statement all at_n in
      given_same statement args db own are
      ∙ sym (in_parts parts some catalog rules db is statement known.prepared (runs_on_many catalog statement known) args)

  round-shares : (n : ℕ) (o : Option Prepared) → slice_get program.statements n ≡ o → (args : Cells) (db : Database) → IsDatabase catalog db → (own : ℕ → Database) → Are db own
      → (made : Database × List Cells) → statement_means parts catalog None o args db ≡ Ok made → Are made.0 (round_shares parts catalog o args own) × IsDatabase catalog made.0
  round-shares n None at_n args db is own are made done =
      let same : db ≡ made.0 = (let f : ◌≡◌ {A = Database × List Cells} (db, []) made = (let g : ◌≡◌ {A = Result (Database × List Cells) Fault} (Ok (db, [])) (Ok made) = done in cc) in ap (λ (w : Database × List Cells). w.0) f) in
      subst (λ d. Are d own × IsDatabase catalog d) same (are, is)
  round-shares n (Some statement) at_n args db is own are made done =
      let known = statement_at catalog false program.statements n statement all at_n in (
        λ p below.
            let mine = shares_after parts some catalog rules db is statement known.prepared (runs_on_many catalog statement known) args p below made done in
            ap (λ (d : Database). share_after d (part_means parts catalog p statement args d)) (are p below)
            ∙ ap (share_after (share parts catalog p db)) mine.1,
        means-database parts catalog rules None statement known.prepared args db made done is,
      )

  -- the reply is the same; and so are the shares, where it isn't an abort
  abbrev Agree : Database × ProcReply → (ℕ → Database) × ProcReply → Type 0
  Agree whole rounds = (rounds.1 ≡ whole.1) × ((rows : Rows) → whole.1 ≡ reply.Ok rows → Are whole.0 rounds.0)

  talk-agrees : (talk : Talk) → GivesUp talk → (db : Database) → IsDatabase catalog db → (own : ℕ → Database) → Are db own
      → Agree (settled (answers_of parts catalog None program) talk db) (in_rounds parts catalog program talk own)
  talk-agrees (Returns rows) gives db is own are = (refl, λ rows e. are)
  talk-agrees (Aborts cause) gives db is own are = (refl, λ rows e. absurd (cc))
  talk-agrees (Asks n args go) gives db is own are =
      by (λ made later others so. talk-agrees (go (Ok made.1)) (gives.0 made.1) made.0 later others so)
      (answers_of parts catalog None program n args db) refl
      (round-answer n (slice_get program.statements n) refl args db is own are)
    where
      by : ((made : Database × List Cells) → IsDatabase catalog made.0 → (others : ℕ → Database) → Are made.0 others
          → Agree (settled (answers_of parts catalog None program) (go (Ok made.1)) made.0) (in_rounds parts catalog program (go (Ok made.1)) others))
          → (r : Result (Database × List Cells) Fault) → answers_of parts catalog None program n args db ≡ r
          → round_answer parts catalog (slice_get program.statements n) args own ≡ with r (λ made. Ok made.1)
          → Agree (after_answer db (λ answer later. settled (answers_of parts catalog None program) (go answer) later) r)
          (in_rounds parts catalog program (go (round_answer parts catalog (slice_get program.statements n) args own)) (round_shares parts catalog (slice_get program.statements n) args own))
      by on (Ok made) same answer =
          let next = round-shares n (slice_get program.statements n) refl args db is own are made same in
          subst (λ a. Agree (settled (answers_of parts catalog None program) (go (Ok made.1)) made.0) (in_rounds parts catalog program (go a) (round_shares parts catalog (slice_get program.statements n) args own))) (sym answer)
          (on made next.1 (round_shares parts catalog (slice_get program.statements n) args own) next.0)
      by on (Err fault) same answer =
          subst (λ a. Agree (settled (answers_of parts catalog None program) (go (Err fault)) db) (in_rounds parts catalog program (go a) (round_shares parts catalog (slice_get program.statements n) args own))) (sym answer)
          (subst (λ t. Agree (settled (answers_of parts catalog None program) t db) (in_rounds parts catalog program t (round_shares parts catalog (slice_get program.statements n) args own))) (sym (gives.1 fault))
          (refl, λ rows e. absurd (cc)))

-- ---- a call

sized-ok : (r : ProcReply) (rows : Rows) → sized r ≡ reply.Ok rows → r ≡ reply.Ok rows
sized-ok r rows e = by (nat_le (length (reply_bytes r)) most_bytes) e
  where
    by : (b : Bool) → (if b then r else reply.Abort cause.Size) ≡ reply.Ok rows → r ≡ reply.Ok rows
    by true e = e
    by false e = absurd (cc)

-- the same reply, and the shares of the same database
abbrev pub Same : Plan → Database × ProcReply → (ℕ → Database) × ProcReply → Type 0
Same plan whole rounds = (rounds.1 ≡ whole.1) × ((part : ℕ) → part < plan.parts → rounds.0 part ≡ share plan.parts plan.catalog part whole.0)

-- over any shares that are those of the database
pub rounds-call-of : (plan : Plan) → IsPlan plan → (db : Database) (c : Call) → IsDatabase plan.catalog db → part_of_call plan c ≡ None
    → (own : ℕ → Database) → ((part : ℕ) → part < plan.parts → own part ≡ share plan.parts plan.catalog part db) → Same plan (call plan db c) (call_in_rounds plan own c)
rounds-call-of plan is_plan db c is none own are = same_call (slice_get plan.procs c.proc) refl none
  where
    kept_same : (whole : Database × ProcReply) (rounds : (ℕ → Database) × ProcReply) (r : ProcReply) → ((rows : Rows) → r ≡ reply.Ok rows → (part : ℕ) → part < plan.parts → rounds.0 part ≡ share plan.parts plan.catalog part whole.0)
        → (part : ℕ) → part < plan.parts → (kept own rounds.0 r).0 part ≡ share plan.parts plan.catalog part (kept db whole.0 r).0
    kept_same whole rounds (reply.Ok rows) so = so rows refl
    kept_same whole rounds (reply.Abort why) so = are

    kept_answer : {A B : Type 0} (a b : A) (x y : B) (r : ProcReply) → (kept a b r).1 ≡ (kept x y r).1
    kept_answer a b x y (reply.Ok rows) = refl
    kept_answer a b x y (reply.Abort why) = refl

    run_same : (proc : ProcDef × Program) → IsProcedure plan.catalog proc.0 proc.1 → is_some proc.0.part ≡ false → Same plan (run_call plan None proc.1 c.args db) (run_in_rounds plan proc.1 c.args own)
    run_same proc procedure single =
        let end = ran plan.parts plan.catalog None proc.1 c.args db in
        let rounds = in_rounds plan.parts plan.catalog proc.1 (talk_of proc.1 c.args) own in
        let agree = talk-agrees plan.parts is_plan.some_part plan.catalog is_plan.catalog proc.1 (subst (λ b. AllByRecursion (IsStatement plan.catalog b) proc.1.statements) single procedure.statements)
        (talk_of proc.1 c.args) (talk-gives_up proc.1 c.args) db is own are in
        subst (λ r. Same plan (kept db end.0 (sized end.1)) (kept own rounds.0 (sized r))) (sym agree.0)
        (kept_answer own rounds.0 db end.0 (sized end.1), kept_same end rounds (sized end.1) (λ rows e. agree.1 rows (sized-ok end.1 rows e)))

    no_part : (o : Option (ℕ × ℕ × ℕ)) → (f : ℕ × ℕ × ℕ → ℕ) → option_map f o ≡ None → is_some o ≡ false
    no_part None f e = refl
    no_part (Some x) f e = absurd (cc)

    same_call : (o : Option (ProcDef × Program)) → slice_get plan.procs c.proc ≡ o → option_and_then (λ (proc : ProcDef × Program). part_of_args plan.parts proc.0 c.args) o ≡ None
        → Same plan (call_of plan c.args db o) (call_in_rounds_of plan c.args own o)
    same_call None at_c none = (refl, are)
    same_call (Some proc) at_c none =
        subst (λ o. Same plan (run_on plan proc.1 c.args db o) (run_in_rounds plan proc.1 c.args own)) (sym none)
        (run_same proc (procedure_at plan.catalog plan.procs c.proc proc is_plan.procs at_c) (no_part proc.0.part _ none))

pub rounds-call : (plan : Plan) → IsPlan plan → (db : Database) (c : Call) → IsDatabase plan.catalog db → part_of_call plan c ≡ None → InRounds plan db c
rounds-call plan is_plan db c is none =
    let same = rounds-call-of plan is_plan db c is none (shares_of plan db) (λ part below. refl) in record { reply = same.0; shares = same.1 }
