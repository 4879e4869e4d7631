-- What bytes are, all of them: a call, a round, a reply or an answer, if they are one.
use Rattle.std.proofs.Common.{◌≡◌, ℕ, List, [], ◌∷◌, ◌++◌, append-nil, Option, Some, None, option_map, Result, Ok, Err, refl, sym, ap, ◌∙◌}
use Rattle.byte_codec.specs.Readers.{Reader}
use Rattle.byte_codec.specs.Exactness.{Exact}
use Rattle.sql_meaning.specs.Replies.{reply_bytes}
use Rattle.sql_plan.specs.declared.fault.Fault.{Fault}
use Rattle.sql_plan.specs.declared.partial.Partial.{Partial}
use Rattle.sql_plan.specs.declared.reply.ProcReply.{ProcReply}
use Rattle.sql_wire.specs.declared.answers.Answer.{Answer}
use Rattle.sql_wire.specs.declared.answers.Answer.TheVariants as answer
use Rattle.sql_wire.specs.declared.bodies.CallBody.{CallBody}
use Rattle.sql_wire.specs.declared.bodies.RoundBody.{RoundBody}
use Rattle.sql_wire.specs.declared.bodies.RoundBody.TheVariants as round
use Rattle.sql_wire.specs.Bodies.{call_bytes, statement_bytes, round_bytes}
use Rattle.sql_wire.specs.Parts.{outcome_bytes, answer_bytes}
use Rattle.sql_wire.specs.Reading.{call_at, statement_at, reply_at, outcome_at}
use Rattle.sql_wire.specs.Spelled.{CallFits, StatementFits, RoundFits, ReplyFits, OutcomeFits, AnswerFits}
use Rattle.sql_wire.specs.ExactValues.{call_exact, statement_exact}
use Rattle.sql_wire.specs.ExactReplies.{reply_exact}
use Rattle.sql_wire.specs.ExactParts.{outcome_exact}

-- where nothing stands behind it
abbrev pub alone : {A : Type 0} → Option (A × List ℕ) → Option A
alone (Some (x, [])) = Some x
alone _ = None

abbrev pub whole : {A : Type 0} → Reader A → List ℕ → Option A
whole one_at bytes = alone (one_at bytes)

abbrev pub call_of : List ℕ → Option CallBody
call_of bytes = whole call_at bytes

-- no bytes are a round without a statement
abbrev pub round_of : List ℕ → Option RoundBody
round_of [] = Some round.Nothing
round_of (b ∷ bytes) = option_map round.Statement (whole statement_at (b ∷ bytes))

abbrev pub reply_of : List ℕ → Option ProcReply
reply_of bytes = whole reply_at bytes

-- no bytes are the answer to a round without a statement
abbrev pub answer_of : List ℕ → Option Answer
answer_of [] = Some answer.Nothing
answer_of (b ∷ bytes) = option_map answer.Outcome (whole outcome_at (b ∷ bytes))

-- ---- what is spelled is read again

whole_again : {A : Type 0} (one_at : Reader A) (spell : A → List ℕ) (Fit : A → Type 0) → Exact one_at spell Fit → (x : A) → Fit x → whole one_at (spell x) ≡ Some x
whole_again {A} one_at spell Fit exact x fits = ap alone (ap one_at (sym (append-nil (spell x))) ∙ exact.again x [] fits)

pub call_again : (call : CallBody) → CallFits call → call_of (call_bytes call) ≡ Some call
call_again call fits = whole_again call_at call_bytes CallFits call_exact call fits

pub round_again : (r : RoundBody) → RoundFits r → round_of (round_bytes r) ≡ Some r
round_again round.Nothing fits = refl
round_again (round.Statement s) fits = ap (option_map round.Statement) (whole_again statement_at statement_bytes StatementFits statement_exact s fits)

pub reply_again : (reply : ProcReply) → ReplyFits reply → reply_of (reply_bytes reply) ≡ Some reply
reply_again reply fits = whole_again reply_at reply_bytes ReplyFits reply_exact reply fits

outcome_again : (o : Result Partial Fault) → OutcomeFits o → answer_of (outcome_bytes o) ≡ Some (answer.Outcome o)
outcome_again (Ok part) fits = ap (option_map answer.Outcome) (whole_again outcome_at outcome_bytes OutcomeFits outcome_exact (Ok part) fits)
outcome_again (Err fault) fits = ap (option_map answer.Outcome) (whole_again outcome_at outcome_bytes OutcomeFits outcome_exact (Err fault) fits)

pub answer_again : (a : Answer) → AnswerFits a → answer_of (answer_bytes a) ≡ Some a
answer_again answer.Nothing fits = refl
answer_again (answer.Outcome o) fits = outcome_again o fits
