-- What the laws of answers say of a world: where the entry stands to which an answer is under way.
use Rattle.std.specs.Prelude.{ℕ, ◌≡◌, List}
use Rattle.volt_wire.specs.declared.actor.Actor.TheVariants.{Agent, Site}
use Rattle.volt_wire.specs.declared.end.End.{End}
use Rattle.volt_wire.specs.declared.message.Msg.TheVariants as msg
use Rattle.cluster_model.specs.Engine.{Database}
use Rattle.cluster_model.specs.Words.{part_of_slot}
use Rattle.cluster_model.specs.Letters.{Letter}
use Rattle.cluster_model.specs.World.{World}
use Rattle.disk_laws.specs.Survival.{firm_entries}
use Rattle.reply_laws.specs.Answers.{Claim, IsAnsweredCall, IsAnsweredRound, IsAnsweredEnd, Stands}

-- the messages under way from the site of slot i to the agent of host h
abbrev pub under_way : World → ℕ → ℕ → List Letter
under_way w i h = w.channel (Site i) (Agent h)

-- A message tells, to some start, that the call ended so.
abbrev pub RepliesTo : Letter → ℕ → End → Type 0
RepliesTo l call end = (start : ℕ) × (l.body ≡ msg.Reply call start end)

-- A message brings this part of the round of a transaction.
abbrev pub AnswersRound : Letter → ℕ → ℕ → List ℕ → Type 0
AnswersRound l m round partial = l.body ≡ msg.FragDone m round partial

-- A message tells that the transaction has ended.
abbrev pub TellsEnd : Letter → ℕ → Type 0
TellsEnd l m = l.body ≡ msg.Finished m

-- An entry of which this is so stands among the entries of the slot's partition that leaders counted firm.
abbrev pub StandsFirm : World → ℕ → Claim → Type 0
StandsFirm w i P = Stands P (firm_entries w (part_of_slot w.deployment i))

-- An entry that applies the call stands among them, and this end is that of the reply which is given there.
abbrev pub CallStandsFirm : Database → World → ℕ → ℕ → End → Type 0
CallStandsFirm E w i call end = StandsFirm w i (IsAnsweredCall E (part_of_slot w.deployment i) call end)

-- The round stands among them, and this part is what the replay answers there.
abbrev pub RoundStandsFirm : Database → World → ℕ → ℕ → ℕ → List ℕ → Type 0
RoundStandsFirm E w i m round partial = StandsFirm w i (IsAnsweredRound E (part_of_slot w.deployment i) m round partial)

-- An end of the transaction stands among them.
abbrev pub EndStandsFirm : World → ℕ → ℕ → Type 0
EndStandsFirm w i m = StandsFirm w i (IsAnsweredEnd m)
