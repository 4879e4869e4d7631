-- What an agent says to sites and to agents as it tells its word and as it stops: to sites neither a start nor a word.
use Rattle.log_laws.proofs.Names.{◌≡◌, Bool, true, false, List, [], refl, ◌==◌, ℕ, ◌&&◌, not, if◌then◌else◌, Option, Some, None, AllByRecursion, Deployment, Membership, Agent, Site, is_host, start_of, is_member, Letter, Turn, becomes, AgentState, says, word_to, is_other_word, all-if, all-mono, StopsSay}
use Rattle.volt_wire.specs.declared.message.Msg.TheVariants as msg
use Rattle.word_laws.proofs.Turns.{tells}

-- to a site: neither its start nor a word, nor a stream
abbrev pub NoView : Letter → Type 0
NoView l = elim l.body as (λ _. Type 0) [ msg.Start s ↦ ⊥ | msg.View w ↦ ⊥ | msg.StreamStart head ↦ ⊥ | _ ↦ Unit {0} ]

-- to an agent: no wish to be admitted
abbrev pub NoAdmit : Letter → Type 0
NoAdmit l = elim l.body as (λ _. Type 0) [ msg.Admit j ↦ ⊥ | _ ↦ Unit {0} ]

-- ---- an agent says its word to the others

-- for whom these sites had loaded
pub record Tells (loaded : List ℕ) (t : Turn AgentState) : Type 0 where
  pub same : t.state.loaded ≡ loaded
  pub sites : (c : ℕ) → AllByRecursion NoView (t.sends (Site c))
  pub agents : (g : ℕ) → AllByRecursion NoAdmit (t.sends (Agent g))

pub tells-says : (D : Deployment) (n : ℕ) (before : Option Membership) (a : AgentState) → Tells a.loaded (tells D n before a)
tells-says D n before a = choice (is_other_word before a.own) a.own
  where
    one : (w : Membership) (start : Option ℕ) → AllByRecursion NoAdmit (word_to w start)
    one w None = tt
    one w (Some start) = (tt, tt)

    choice : (c : Bool) (own : Option Membership) → Tells a.loaded (if c then says D n a own else becomes a)
    choice false own = record { same = refl; sites = λ c. tt; agents = λ g. tt }
    choice true None = record { same = refl; sites = λ c. tt; agents = λ g. tt }
    choice true (Some w) = record {
      same = refl;
      sites = λ c. tt;
      agents = λ g. all-if NoAdmit (is_member w n a.start && is_host D g && not (g == n)) (word_to w (start_of w g)) [] (one w (start_of w g)) tt;
    }

-- ---- an agent that stops

stop-plain : (s : ℕ) (l : Letter) → StopsSay s l → NoView l × NoAdmit l
stop-plain s l p = elim l.body as (λ m. StopsSay s (record l { body = m }) → NoView (record l { body = m }) × NoAdmit (record l { body = m })) [
  | msg.Closed o ↦ λ k. (tt, tt)
  | msg.Stop o ↦ λ k. (tt, tt)
  | m ↦ λ k. absurd k
] p

-- to its sites, and to other agents
pub stops-plain : (s : ℕ) (ls : List Letter) → AllByRecursion (StopsSay s) ls → AllByRecursion NoView ls
stops-plain s ls h = all-mono (StopsSay s) NoView (λ l p. (stop-plain s l p).0) ls h

pub stops-none : (s : ℕ) (ls : List Letter) → AllByRecursion (StopsSay s) ls → AllByRecursion NoAdmit ls
stops-none s ls h = all-mono (StopsSay s) NoAdmit (λ l p. (stop-plain s l p).1) ls h
