-- A call that engines and a coordinator carry out in rounds ends as it means.
use Rattle.std.proofs.Common.{◌≡◌, ℕ, zero, suc, ◌+◌, ◌<◌, List, [], ◌∷◌, ◌++◌, map, flat_map, length, slice_get, Option, Some, None, Result, Ok, sym, refl, ap, ◌∙◌, subst, arith}
use Rattle.std.proofs.lemmas.List.{append-nil, append_assoc}
use Rattle.std.specs.List.{range_with_len}
use Rattle.std.specs.Option.{option_and_then}
use Rattle.volt_base.specs.declared.entry.Entry.{Entry}
use Rattle.volt_catalog.specs.declared.procedure.ProcDef.{ProcDef}
use Rattle.sql_plan.specs.declared.fault.Fault.{Fault}
use Rattle.sql_plan.specs.declared.partial.Partial.{Partial}
use Rattle.sql_plan.specs.declared.plan.Plan.{Plan}
use Rattle.sql_plan.specs.declared.prepared.Prepared.{Prepared}
use Rattle.sql_plan.specs.declared.program.Program.{Program}
use Rattle.sql_plan.specs.declared.reply.ProcReply.{ProcReply}
use Rattle.sql_plan.specs.declared.reply.ProcReply.TheVariants as reply
use Rattle.sql_plan.specs.Rows.{Cells}
use Rattle.sql_meaning.specs.Judged.{with, collected}
use Rattle.sql_meaning.specs.Calls.{Call, kept, part_of_call}
use Rattle.sql_meaning.specs.Database.{Database, IsDatabase}
use Rattle.sql_meaning.specs.Parts.{part_means, merged}
use Rattle.sql_meaning.specs.Plans.{IsPlan}
use Rattle.sql_meaning.specs.Programs.{Talk, Returns, Aborts, Asks, talk_of}
use Rattle.sql_meaning.specs.Replies.{sized}
use Rattle.sql_meaning.specs.Rounds.{share_after, round_answer, round_shares, in_rounds, call_in_rounds_of}
use Rattle.sql_laws.specs.InRounds.{shares_of}
use Rattle.sql_laws.proofs.Rounds.{rounds-call}
use Rattle.sql_wire.specs.declared.bodies.RoundBody.{RoundBody}
use Rattle.sql_wire.specs.declared.bodies.RoundBody.TheVariants as round
use Rattle.sql_wire.specs.declared.bodies.StatementBody.{StatementBody}
use Rattle.sql_wire.specs.declared.answers.Answer.{Answer}
use Rattle.sql_wire.specs.Bodies.{statement_bytes}
use Rattle.sql_wire.specs.Parts.{answer_bytes}
use Rattle.sql_wire.specs.Spelled.{AnswerFits}
use Rattle.sql_wire.specs.declared.answers.Answer.TheVariants as wire
use Rattle.sql_wire.specs.Whole.{round_of, round_again, answer_of, answer_again}
use Rattle.engine_meaning.specs.Bodies.{outcome_in}
use Rattle.engine_meaning.specs.State.{SqlState, tables_before, before_open}
use Rattle.engine_meaning.specs.Entries.{statement_of, made, part_made, tables_behind, answer_to_statement, answer_to_round, after_round, after, answer}
use Rattle.engine_meaning.specs.Coordinator.{come_to, told, next_of, next}
use Rattle.engine_meaning.specs.Rounds.{entry_of, behind, answers, AreSpelled, Runs, ends, goes_on, HaveShares, end_of, IsCarriedOut}

-- where each of a range gives one thing, all of them give these
one-each : {A B : Type 0} (f : ℕ → A) (read : A → List B) (g : ℕ → B) (a n : ℕ) → ((p : ℕ) → p < a + n → read (f p) ≡ g p ∷ [])
    → flat_map read (map f (range_with_len a n)) ≡ map g (range_with_len a n)
one-each f read g a zero each = refl
one-each f read g a (suc n) each =
    ap (λ l. l ++ flat_map read (map f (range_with_len (a + 1) n))) (each a (omega arith))
    ∙ ap (λ l. g a ∷ l) (one-each f read g (a + 1) n (λ p below. each p (omega arith)))

module _ (plan : Plan) (c : Call) (transaction : ℕ) (proc : ProcDef × Program) (there : slice_get plan.procs c.proc ≡ Some proc) where
  -- the states of all partitions have these tables, and had those before the transaction
  pub record Have (states : ℕ → SqlState) (own before : ℕ → Database) : Type 0 where
    pub numbered : (part : ℕ) → part < plan.parts → (states part).part ≡ part
    pub tables : (part : ℕ) → part < plan.parts → (states part).tables ≡ own part
    pub saved : (part : ℕ) → part < plan.parts → tables_before (states part) ≡ before part

  abbrev Told : List (List (List ℕ)) → Talk → Type 0
  Told fed talk = (more : List (List (List ℕ))) → told c.proc proc.1 (talk_of proc.1 c.args) (fed ++ more) ≡ told c.proc proc.1 talk more

  next-told : (fed : List (List (List ℕ))) (talk : Talk) → Told fed talk → next plan c fed ≡ told c.proc proc.1 talk []
  next-told fed talk goes =
      ap (λ (o : Option (ProcDef × Program)). next_of c o fed) there ∙ ap (told c.proc proc.1 (talk_of proc.1 c.args)) (sym (append-nil fed)) ∙ goes []

  module _ (n : ℕ) (args : Cells) (asked : StatementBody) (same : ◌≡◌ {A = StatementBody} (record { procedure = c.proc; statement = n; args = args }) asked)
      (number : ℕ) (states : ℕ → SqlState) (spelled : AreSpelled plan asked states) (own before : ℕ → Database) (have : Have states own before) where
    abbrev entry : Entry
    entry = entry_of transaction number asked

    statement-is : statement_of plan asked ≡ slice_get proc.1.statements n
    statement-is =
        ap (statement_of plan) (sym same) ∙ ap (option_and_then (λ (p : ProcDef × Program). slice_get p.1.statements n)) there

    args-are : asked.args ≡ args
    args-are = ap (λ (a : StatementBody). a.args) (sym same)

    again : round_of (statement_bytes asked) ≡ Some (round.Statement asked)
    again = round_again (round.Statement asked) spelled.statement

    abbrev part_of : Prepared → ℕ → Result Partial Fault
    part_of statement p = with (part_means plan.parts plan.catalog p statement args (own p)) (λ made. Ok made.1)

    -- a partition answers its part
    answers-part : (statement : Prepared) → statement_of plan asked ≡ Some statement → (p : ℕ) → p < plan.parts
        → outcome_in (answer_of (answer plan (states p) entry)) ≡ part_of statement p ∷ []
    answers-part statement e p below =
        let says : answer_to_round plan (states p) (Some (round.Statement asked)) ≡ answer_to_statement plan (states p) (Some statement) asked.args
        = ap (λ (o : Option Prepared). answer_to_statement plan (states p) o asked.args) e in
        ap (λ (o : Option RoundBody). outcome_in (answer_of (answer_bytes (answer_to_round plan (states p) o)))) again
        ∙ ap (λ (a : Answer). outcome_in (answer_of (answer_bytes a))) says
        ∙ ap outcome_in (answer_again (wire.Outcome (part_made (made plan (states p) statement asked.args))) (subst AnswerFits says (spelled.answers p below)))
        ∙ ap (λ (a : Cells). part_made (made plan (states p) statement a) ∷ []) args-are
        ∙ ap (λ (q : ℕ). part_made (part_means plan.parts plan.catalog q statement args (states p).tables) ∷ []) (have.numbered p below)
        ∙ ap (λ (d : Database). part_made (part_means plan.parts plan.catalog p statement args d) ∷ []) (have.tables p below)

    -- what the statement comes to
    comes-to : (o : Option Prepared) → statement_of plan asked ≡ o → come_to o (answers plan entry states) ≡ round_answer plan.parts plan.catalog o args own
    comes-to None e = refl
    comes-to (Some statement) e =
        ap (λ l. with (collected l) (merged statement))
        (one-each (λ p. answer plan (states p) entry) (λ bytes. outcome_in (answer_of bytes)) (part_of statement) 0 plan.parts (λ p below. answers-part statement e p (omega (arith, below))))

    -- the tables behind it
    tables-behind : (o : Option Prepared) → statement_of plan asked ≡ o → (p : ℕ) → p < plan.parts
        → (after plan (states p) entry).tables ≡ round_shares plan.parts plan.catalog o args own p
    tables-behind o e p below =
        ap (λ (r : Option RoundBody). (after_round plan transaction number (states p) r).tables) again
        ∙ ap (λ (o : Option Prepared). tables_behind plan (states p) o asked.args) e
        ∙ by o
      where
        by : (o : Option Prepared) → tables_behind plan (states p) o asked.args ≡ round_shares plan.parts plan.catalog o args own p
        by None = have.tables p below
        by (Some statement) =
            ap (λ (a : Cells). share_after (states p).tables (made plan (states p) statement a)) args-are
            ∙ ap (λ (q : ℕ). share_after (states p).tables (part_means plan.parts plan.catalog q statement args (states p).tables)) (have.numbered p below)
            ∙ ap (λ (d : Database). share_after d (part_means plan.parts plan.catalog p statement args d)) (have.tables p below)

    have-behind : Have (behind plan entry states) (round_shares plan.parts plan.catalog (slice_get proc.1.statements n) args own) before
    have-behind =
        record {
          numbered = have.numbered;
          tables = tables-behind (slice_get proc.1.statements n) statement-is;
          saved = have.saved;
        }

    pub answered : come_to (slice_get proc.1.statements n) (answers plan entry states) ≡ round_answer plan.parts plan.catalog (slice_get proc.1.statements n) args own
    answered = comes-to (slice_get proc.1.statements n) statement-is

  -- the reply, and what the partitions have behind the last round
  abbrev Ended : (ℕ → SqlState) → ProcReply → (ℕ → Database) → (ℕ → Database) × ProcReply → Type 0
  Ended last answer before end = (answer ≡ sized end.1) × Have last end.0 before

  runs-end : {fed : List (List (List ℕ))} {states last : ℕ → SqlState} {answer : ProcReply} → Runs plan c transaction fed states last answer
      → (talk : Talk) → Told fed talk → (own before : ℕ → Database) → Have states own before → Ended last answer before (in_rounds plan.parts plan.catalog proc.1 talk own)
  runs-end {fed} (ends e) (Returns rows) goes own before have = (let same = sym (next-told fed (Returns rows) goes) ∙ e in cc, have)
  runs-end {fed} (ends e) (Aborts cause) goes own before have = (let same = sym (next-told fed (Aborts cause) goes) ∙ e in cc, have)
  runs-end {fed} (ends e) (Asks n args go) goes own before have = absurd (let same = sym (next-told fed (Asks n args go) goes) ∙ e in cc)
  runs-end {fed} {states} (goes_on asked e spelled rest) (Returns rows) goes own before have = absurd (let same = sym (next-told fed (Returns rows) goes) ∙ e in cc)
  runs-end {fed} {states} (goes_on asked e spelled rest) (Aborts cause) goes own before have = absurd (let same = sym (next-told fed (Aborts cause) goes) ∙ e in cc)
  runs-end {fed} {states} (goes_on asked e spelled rest) (Asks n args go) goes own before have =
      let same = sym (next-told fed (Asks n args go) goes) ∙ e in
      let is : ◌≡◌ {A = StatementBody} (record { procedure = c.proc; statement = n; args = args }) asked = cc in
      let step = answers plan (entry_of transaction (length fed + 1) asked) states in
      runs-end rest (go (round_answer plan.parts plan.catalog (slice_get proc.1.statements n) args own))
      (λ more. ap (told c.proc proc.1 (talk_of proc.1 c.args)) (append_assoc fed (step ∷ []) more) ∙ goes (step ∷ more)
      ∙ ap (λ r. told c.proc proc.1 (go r) more) (answered n args asked is (length fed + 1) states spelled own before have))
      (round_shares plan.parts plan.catalog (slice_get proc.1.statements n) args own) before
      (have-behind n args asked is (length fed + 1) states spelled own before have)

-- ---- the whole call

module _ (plan : Plan) (is_plan : IsPlan plan) (db : Database) (c : Call) (is : IsDatabase plan.catalog db) (none : part_of_call plan c ≡ None)
    (transaction : ℕ) (states last : ℕ → SqlState) (answer : ProcReply) (shares : HaveShares plan db states) (runs : Runs plan c transaction [] states last answer) where
  abbrev own : ℕ → Database
  own = shares_of plan db

  before-all : (part : ℕ) → part < plan.parts → tables_before (states part) ≡ own part
  before-all part below = ap (before_open (states part).tables) (shares.closed part below) ∙ shares.tables part below

  -- behind its end a partition has what the rounds left, or what was there before
  abbrev Leaves : (ℕ → Database) × ProcReply → Type 0
  Leaves end = (answer ≡ end.1) × ((number client point part : ℕ) → part < plan.parts → (after plan (last part) (end_of transaction number client point answer)).tables ≡ end.0 part)

  leaves : (proc : ProcDef × Program) → slice_get plan.procs c.proc ≡ Some proc → Leaves (call_in_rounds_of plan c.args own (Some proc))
  leaves proc there =
      let end = in_rounds plan.parts plan.catalog proc.1 (talk_of proc.1 c.args) own in
      let ended = runs-end plan c transaction proc there runs (talk_of proc.1 c.args) (λ more. refl) own own
      (record { numbered = shares.numbered; tables = shares.tables; saved = before-all }) in (
        ended.0 ∙ same end.0 (sized end.1),
        λ number client point part below.
            closes end.0 number client point part answer (ended.1.tables part below) (ended.1.saved part below) ∙ ap (λ r. (kept own end.0 r).0 part) ended.0,
      )
    where
      same : (later : ℕ → Database) (r : ProcReply) → r ≡ (kept own later r).1
      same later (reply.Ok rows) = refl
      same later (reply.Abort cause) = refl

      closes : (later : ℕ → Database) (number client point part : ℕ) (r : ProcReply) → (last part).tables ≡ later part → tables_before (last part) ≡ own part
          → (after plan (last part) (end_of transaction number client point r)).tables ≡ (kept own later r).0 part
      closes later number client point part (reply.Ok rows) has had = has
      closes later number client point part (reply.Abort cause) has had = had

  leaves-nothing : {fed : List (List (List ℕ))} {states last : ℕ → SqlState} {answer : ProcReply} → slice_get plan.procs c.proc ≡ None
      → Runs plan c transaction fed states last answer → ((part : ℕ) → part < plan.parts → (states part).tables ≡ own part)
      → (answer ≡ reply.Ok (record { rows = [] })) × ((part : ℕ) → part < plan.parts → (last part).tables ≡ own part)
  leaves-nothing {fed} there (ends e) tables = (let same = sym (ap (λ (o : Option (ProcDef × Program)). next_of c o fed) there) ∙ e in cc, tables)
  leaves-nothing {fed} there (goes_on asked e spelled rest) tables = absurd (let same = sym (ap (λ (o : Option (ProcDef × Program)). next_of c o fed) there) ∙ e in cc)

  leaves-any : (o : Option (ProcDef × Program)) → slice_get plan.procs c.proc ≡ o → Leaves (call_in_rounds_of plan c.args own o)
  leaves-any (Some proc) there = leaves proc there
  leaves-any None there =
      let nothing = leaves-nothing there runs shares.tables in
      (nothing.0, λ number client point part below. ap (λ r. (after plan (last part) (end_of transaction number client point r)).tables) nothing.0 ∙ nothing.1 part below)

  pub carried-out : IsCarriedOut plan db c transaction last answer
  carried-out =
      let left = leaves-any (slice_get plan.procs c.proc) refl in
      let means = rounds-call plan is_plan db c is none in
      record {
        reply = left.0 ∙ means.reply;
        tables = λ number client point part below. left.1 number client point part below ∙ means.shares part below;
      }
