-- The laws of answers, from what holds of each world.
use Rattle.std.proofs.Common.{◌≡◌, true, List, refl, subst}
use Rattle.std.specs.Prelude.{ℕ}
use Rattle.volt_wire.specs.declared.end.End.{End}
use Rattle.volt_wire.specs.declared.message.Msg.{Msg}
use Rattle.volt_wire.specs.declared.message.Msg.TheVariants as msg
use Rattle.cluster_model.specs.Engine.{Database}
use Rattle.cluster_model.specs.Letters.{Blocks, Letter}
use Rattle.cluster_model.specs.Words.{part_of_slot}
use Rattle.cluster_model.specs.World.{World, Input}
use Rattle.cluster_model.specs.Runs.{Reached}
use Rattle.cluster_steps.specs.Lists.{In}
use Rattle.cluster_steps.proofs.Lists.{all-at}
use Rattle.disk_laws.specs.Survival.{firm_entries}
use Rattle.reply_laws.specs.Answers.{ClaimOf, is_answer}
use Rattle.reply_laws.specs.UnderWay.{RepliesTo, AnswersRound, TellsEnd, StandsFirm, CallStandsFirm, RoundStandsFirm, EndStandsFirm, under_way}
use Rattle.reply_laws.proofs.Worlds.{AnswerIn, answers-agree}

module _ (E : Database) (input : Input) (w : World) (i h : ℕ) (l : Letter) (r : Reached E input w)
    (there : In l (under_way w i h)) where
  -- What an answer that is under way says of its entry is so of one that is firm.
  answer-stands : (m : Msg Blocks) → l.body ≡ m → is_answer m ≡ true
      → StandsFirm w i (ClaimOf E (part_of_slot w.deployment i) m)
  answer-stands m tells =
      let p = part_of_slot w.deployment i in
      let k = (answers-agree E input w r).sent i h in
      subst (λ b. AnswerIn E p (firm_entries w p) (record l { body = b })) tells (all-at (AnswerIn E p (firm_entries w p)) (under_way w i h) k l there)

  -- It is so of each kind of answer.
  pub replies-firm : (call : ℕ) (end : End) → RepliesTo l call end → CallStandsFirm E w i call end
  replies-firm call end tells = answer-stands (msg.Reply call tells.0 end) tells.1 refl

  pub rounds-firm : (m round : ℕ) (partial : List ℕ) → AnswersRound l m round partial → RoundStandsFirm E w i m round partial
  rounds-firm m round partial tells = answer-stands (msg.FragDone m round partial) tells refl

  pub ends-firm : (m : ℕ) → TellsEnd l m → EndStandsFirm w i m
  ends-firm m tells = answer-stands (msg.Finished m) tells refl
