-- What is kept from one state to a later one.
use Rattle.std.proofs.Common.{◌≡◌, List, [], ◌∷◌, sym, subst, ap, ◌∙◌, ◌==◌}
use Rattle.std.specs.Prelude.{ℕ, Some}
use Rattle.std.specs.List.{AllByRecursion, list_any}
use Rattle.volt_wire.specs.Word.{Membership}
use Rattle.volt_wire.specs.declared.actor.Actor.{Actor}
use Rattle.volt_wire.specs.declared.actor.Actor.TheVariants.{Director, Client, Agent, Site, Scanner}
use Rattle.volt_wire.specs.declared.message.Msg.TheVariants as msg
use Rattle.cluster_model.specs.Words.{start_of, with_admitted}
use Rattle.cluster_model.specs.Letters.{Letter}
use Rattle.cluster_model.specs.declared.initiating.Queued.{Queued}
use Rattle.cluster_model.specs.declared.initiating.Queued.TheVariants.{ToRun, Admission}
use Rattle.cluster_steps.specs.Lists.{In}
use Rattle.word_laws.specs.Histories.{State, Admitted, Recorded, GoodWord, SaidBy, Unnamed, AsksAdmission, LetterOk, ClosesFrom, InOrder, CameOk, QueuedAdmissionOk, AgentWaitingFrom, OwnOk, AdmittedOk}
use Rattle.cluster_steps.proofs.Lists.{all-mono}
use Rattle.word_laws.proofs.Moves.{TellsKnown, ShownOk, WordsLater}

-- ---- what is so in S is so in a later T

-- words, messages, and what agents know
pub recorded-later : (S T : State) → WordsLater S T → (w : Membership) (s : ℕ) → Recorded S w s → Recorded T w s
recorded-later S T f w s r = record { entry = r.entry; is_one = f.admitted r.entry r.is_one; same = r.same; within = r.within }

pub good-later : (S T : State) → WordsLater S T → (w : Membership) → GoodWord S w → GoodWord T w
good-later S T f w h = record {
  base = h.base ∙ ap (λ x. x.base) (sym f.first);
  first = h.first ∙ ap (λ x. x.first) (sym f.first);
  lost_rises = h.lost_rises;
  admitted_rises = h.admitted_rises;
  owned = subst (λ o. AllByRecursion (λ a. o a.0 ≡ a.1) w.admitted) (sym f.owner) h.owned;
  lost_gone = λ s e. f.gone s (h.lost_gone s e);
  named_begun = λ s e. f.begun s (h.named_begun s e);
  recorded = λ s e. recorded-later S T f w s (h.recorded s e);
}

pub said_by-later : (S T : State) → WordsLater S T → (h : ℕ) (w : Membership) → SaidBy S h w → SaidBy T h w
said_by-later S T f h w k = (k.0, k.1, f.said k.0 w k.2)

pub ask-later : (S T : State) → WordsLater S T → (h g term j : ℕ) → AsksAdmission S h g term j → AsksAdmission T h g term j
ask-later S T f h g term j k = record {
  owned = ap (λ o. o j) f.owner ∙ k.owned;
  begun = f.begun j k.begun;
  other = k.other;
  word = k.word;
  took = f.took_word j k.word k.took;
  term_is = k.term_is;
}

pub letter-later : (S T : State) → WordsLater S T → (h g : ℕ) (l : Letter) → LetterOk S h g l → LetterOk T h g l
letter-later S T f h g l p = elim l.body as (λ m. LetterOk S h g (record l { body = m }) → LetterOk T h g (record l { body = m })) [
  | msg.Word base lost admitted ↦ λ k. subst
      (λ F. (l.term ≡ 0) × (base ≡ F.base) × SaidBy T h (record F { lost = lost; admitted = admitted }) × (start_of (record F { lost = lost; admitted = admitted }) g ≡ Some l.start))
      (sym f.first) (k.0, k.1, said_by-later S T f h (record S.history.first { lost = lost; admitted = admitted }) k.2, k.3)
  | msg.Decided w ↦ λ k. (k.0, f.decided w k.1)
  | msg.Closed o ↦ λ k. (k.0, k.1, f.gone o k.2, ap (λ x. x o) f.owner ∙ k.3)
  | msg.Admit j ↦ ask-later S T f h g l.term j
  | msg.View w ↦ λ k. k
  | m ↦ λ k. tt
] p

-- an Admit that came, where no Closed of an earlier start has come into its channel
pub came-later : (S T : State) → WordsLater S T → (h g term j : ℕ) → AllByRecursion (ClosesFrom (T.history.began h) j) (T.channel (Agent h) (Agent g)) → CameOk S h g term j → CameOk T h g term j
came-later S T f h g term j c k = (ask-later S T f h g term j k.0, c)

-- a Closed isn't of an earlier start, if it wasn't
pub closes-later : (S T : State) → WordsLater S T → (h j : ℕ) → In j (S.history.began h) → (l : Letter) → ClosesFrom (S.history.began h) j l → ClosesFrom (T.history.began h) j l
closes-later S T f h j i l p = elim l.body as (λ m. ClosesFrom (S.history.began h) j (record l { body = m }) → ClosesFrom (T.history.began h) j (record l { body = m })) [
  | msg.Closed o ↦ λ k e. k (f.earlier h o j i e)
  | m ↦ λ k. tt
] p

-- one that asks has begun on its host
pub ask-began : (S : State) (h g term j : ℕ) → AsksAdmission S h g term j → In j (S.history.began h)
ask-began S h g term j k = subst (λ x. In j (S.history.began x)) k.owned k.begun.began

-- an agent's own word, where its start said nothing more
pub own-later : (S T : State) → WordsLater S T → (s : ℕ) (w : Membership) → T.history.said s ≡ S.history.said s → OwnOk S s w → OwnOk T s w
own-later S T f s w e k = record {
  good = good-later S T f w k.good;
  member = λ n. let m = k.member n in (m.0, e ∙ m.1);
  joiner = λ n. e ∙ k.joiner n;
}

pub admitted_ok-later : (S T : State) → WordsLater S T → (x : Admitted) → AdmittedOk S x → AdmittedOk T x
admitted_ok-later S T f x k = record {
  decided = f.decided x.at k.decided;
  by_initiator = k.by_initiator ∙ ap (λ o. Some (o x.by, x.by)) (sym f.owner);
  fresh = k.fresh;
  said = subst (λ o. In (with_admitted x.start (o x.start) x.at) (T.history.said x.by)) (sym f.owner) (f.said x.by (with_admitted x.start (S.owner x.start) x.at) k.said);
  word = k.word;
  took = f.took_word x.start k.word k.took;
  term_is = k.term_is;
  begun = f.begun x.start k.begun;
  one_host = λ s n e. k.one_host s n (ap (λ o. o s) (sym f.owner) ∙ e ∙ ap (λ o. o x.start) f.owner);
  above = k.above;
}

-- where the later state admits nobody with this start
pub unnamed-later : (S T : State) → WordsLater S T → (s : ℕ) → ((x : Admitted) → In x T.history.admitted → x.start ≡ s → ⊥) → Unnamed S s → Unnamed T s
unnamed-later S T f s none k = record {
  not_first = ap (λ F. list_any (λ m. m.1 == s) F.first) f.first ∙ k.not_first;
  not_admitted = none;
}

-- what waits, and what is queued, where no Closed of an earlier start has come into its channel
pub waiting-later : (S T : State) (g : ℕ) → ((h term j : ℕ) → CameOk S h g term j → CameOk T h g term j) → (from : Actor) (l : Letter) → AgentWaitingFrom S g from l → AgentWaitingFrom T g from l
waiting-later S T g came (Agent h) l p = elim l.body as (λ m. AgentWaitingFrom S g (Agent h) (record l { body = m }) → AgentWaitingFrom T g (Agent h) (record l { body = m })) [
  | msg.Word base lost admitted ↦ λ k. k
  | msg.Decided w ↦ λ k. k
  | msg.Closed o ↦ λ k. k
  | msg.View w ↦ λ k. k
  | msg.Admit j ↦ came h l.term j
  | m ↦ λ k. tt
] p
waiting-later S T g came Director l p = tt
waiting-later S T g came (Client c) l p = tt
waiting-later S T g came (Site i) l p = tt
waiting-later S T g came (Scanner i) l p = tt

pub queued-later : (S T : State) (g : ℕ) → ((h term j : ℕ) → CameOk S h g term j → CameOk T h g term j) → (q : Queued) → QueuedAdmissionOk S g q → QueuedAdmissionOk T g q
queued-later S T g came (ToRun job) k = tt
queued-later S T g came (Admission j h term) k = came h term j k

-- An Admit's start has begun, so the Closed behind it stay in order.
pub order-later : (S T : State) → WordsLater S T → (h g : ℕ) (ls : List Letter) → AllByRecursion (LetterOk S h g) ls → InOrder (S.history.began h) ls → InOrder (T.history.began h) ls
order-later S T f h g [] k o = tt
order-later S T f h g (l ∷ ls) k o = (
  (elim l.body as (λ m. LetterOk S h g (record l { body = m }) → InOrder (S.history.began h) (record l { body = m } ∷ ls)
      → (elim m as (λ _. Type 0) [ msg.Admit j ↦ AllByRecursion (ClosesFrom (T.history.began h) j) ls | _ ↦ Unit {0} ])) [
        | msg.Admit j ↦ λ a p. all-mono (ClosesFrom (S.history.began h) j) (ClosesFrom (T.history.began h) j) (λ x c. closes-later S T f h j (ask-began S h g l.term j a) x c) ls p.0
        | m ↦ λ a p. tt
      ] k.0 o),
  order-later S T f h g ls k.1 o.1,
)

-- what others than agents are shown
pub shown-later : (S T : State) → WordsLater S T → (b : Actor) (ls : List Letter) → AllByRecursion (ShownOk S b) ls → AllByRecursion (ShownOk T b) ls
shown-later S T f b ls h = all-mono (ShownOk S b) (ShownOk T b) (one b) ls h
  where
    told : (l : Letter) → TellsKnown S l → TellsKnown T l
    told l p = elim l.body as (λ m. TellsKnown S (record l { body = m }) → TellsKnown T (record l { body = m })) [
      | msg.Word base lost admitted ↦ λ k. k
      | msg.Decided w ↦ f.decided w
      | msg.View w ↦ f.decided w
      | msg.Closed o ↦ f.gone o
      | m ↦ λ k. tt
    ] p

    one : (b : Actor) (l : Letter) → ShownOk S b l → ShownOk T b l
    one (Agent g) l p = tt
    one Director l p = told l p
    one (Client g) l p = told l p
    one (Site g) l p = told l p
    one (Scanner g) l p = told l p
