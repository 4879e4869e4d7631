-- Events that leave all sites as they are, and what is under way between them: those of agents, the director, clients and scanners.
use Rattle.disk_laws.proofs.Names.{◌≡◌, Bool, true, List, refl, sym, subst, arith, ℕ, AllByRecursion, Actor, Site, Letter, Turn, AgentState, History, all-mono, LogState, part, site_start, between, prefix-refl, AgentGoes, Top, Firm, ContentOk, DiskOk, StreamLetter, Halted, DisksHold}
use Rattle.volt_wire.specs.declared.message.Msg.TheVariants as msg
use Rattle.word_laws.proofs.Moves as word_moves
use Rattle.disk_laws.proofs.Contents.{rises-same, content-later}
use Rattle.disk_laws.proofs.Own.{disk-own, own-disk, own-on}
use Rattle.disk_laws.proofs.Halts.{NoStreamFor, halted-agent}

-- ---- other words, with the same sites

module _ (S : LogState) (F : Firm) (halted : Bool) (K : DisksHold S F halted) (next : ℕ) (agents : ℕ → AgentState) (ch : Actor → Actor → List Letter) (owner : ℕ → ℕ)
    (G : History) where
  abbrev worded : LogState
  worded = record S { words = record S.words { next = next; agents = agents; channel = ch; owner = owner; history = G } }

  top-worded : (p m n : ℕ) → Top S p m n → Top worded p m n
  top-worded p m n t = record { slot = t.slot; is_slot = t.is_slot; part_is = t.part_is; all = t.all }

  disk-worded : (c : ℕ) → DiskOk S F halted c → DiskOk worded F halted c
  disk-worded c k = own-disk worded F halted c (S.sites c) refl
      (own-on halted (ContentOk S F halted (part S c)) (ContentOk worded F halted (part S c)) (S.logs.leadership (part S c)) (S.logs.leadership (part S c))
      (F (part S c)) (F (part S c)) (S.sites c)
      (all-mono (ContentOk S F halted (part S c)) (ContentOk worded F halted (part S c))
      (content-later S worded (rises-same S worded refl refl) F F (part S c) halted (λ _ _ r. r)) (S.sites c).contents)
      (λ t g is. (g, is, refl, prefix-refl g.log)) (omega arith) (disk-own S F halted c k))

  stream-worded : (c : ℕ) (l : Letter) → StreamLetter S c l → StreamLetter worded c l
  stream-worded c l k = elim l.body as (λ m. StreamLetter S c (record l { body = m }) → StreamLetter worded c (record l { body = m })) [
    | msg.StreamStart head ↦ λ k. record { mark_is = k.mark_is; top = top-worded (part S c) l.term 0 k.top }
    | m ↦ λ k. tt
  ] k

  module _ (same : (i c : ℕ) → ch (Site i) (Site c) ≡ between S i c) where
    -- What disks show is kept.
    pub disks-worded : (halted ≡ true → Halted worded) → DisksHold worded F halted
    disks-worded halts = record {
      disks = λ c slot. disk-worded c (K.disks c slot);
      environment = K.environment;
      streams = λ i c slot. subst (AllByRecursion (StreamLetter worded c)) (sym (same i c))
          (all-mono (StreamLetter S c) (StreamLetter worded c) (stream-worded c) (between S i c) (K.streams i c slot));
      firm = λ p. let k = K.firm p in record { term = k.term; leadership = k.leadership; led = k.led; reach = k.reach; top = λ some. top-worded p k.term (F p) (k.top some) };
      halts = halts;
    }

-- ---- events

-- where agents stay as they are too
pub disks-plain : (S : LogState) (F : Firm) (halted : Bool) → DisksHold S F halted → (next : ℕ) (ch : Actor → Actor → List Letter) (owner : ℕ → ℕ)
    → ((i c : ℕ) → ch (Site i) (Site c) ≡ between S i c)
    → DisksHold (record S { words = record S.words { next = next; channel = ch; owner = owner } }) F halted
disks-plain S F halted K next ch owner same = disks-worded S F halted K next S.words.agents ch owner S.words.history same (λ e. let k = K.halts e in record {
  decided = k.decided;
  unnamed = k.unnamed;
  joiners = k.joiners;
  streams = λ c i up. subst (AllByRecursion (NoStreamFor (site_start S c))) (sym (same i c)) (k.streams c i up);
})

-- the turn of an agent that took a message
pub disks-agent : (S : LogState) (F : Firm) (halted : Bool) → DisksHold S F halted → (n : ℕ) (from : Actor) (t : Turn AgentState) (r : AgentGoes S n from t)
    → DisksHold (record S { words = word_moves.after_agent (word_moves.agent_popped S.words from n) n t.state t.sends r.history }) F halted
disks-agent S F halted K n from t r =
    let W = word_moves.after_agent (word_moves.agent_popped S.words from n) n t.state t.sends r.history in
    disks-worded S F halted K W.next W.agents W.channel W.owner W.history (λ i c. refl) (λ e. halted-agent S (K.halts e) n from t r)
