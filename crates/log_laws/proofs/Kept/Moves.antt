-- Of what the proofs speak: the state after a turn of a site, what is kept in a later one, and what a turn adds to the history.
use Rattle.log_laws.proofs.Names.{refl, ◌≡◌, ◌<◌, List, ◌⊎◌, arith, ℕ, ◌≤◌, length, Some, None, true, AllByRecursion, Membership, Actor, Site, Deployment, part_of_slot, term_of, leader, start_of_slot, Letter, Sends, Turn, Waiting, SiteState, Joining, site_term, took, sent, set_at, In, Prefix, LogState, Logs, Entered, Streaming, Leadership, LogsHold, site_start, log_at, term_at, JoinsIn}
use Rattle.volt_wire.specs.declared.message.Msg.TheVariants as msg
use Rattle.word_laws.proofs.Moves as word

-- ---- states

-- the state after a turn of the site of slot i
abbrev pub after_site : LogState → ℕ → SiteState → Sends → Logs → LogState
after_site S i s out G = record S {
  words = record S.words { channel = sent S.words.channel (Site i) out };
  sites = set_at S.sites i s;
  logs = G;
}

-- the state once the site of slot i took the first message from this actor
abbrev pub site_popped : LogState → Actor → ℕ → LogState
site_popped S from i = record S { words = record S.words { channel = took S.words.channel from (Site i) } }

-- once these messages are left of those that the site takes, which waited for its term
abbrev pub left : LogState → ℕ → List Waiting → LogState
left S i ws = record S { pending = set_at S.pending i ws }

-- ---- what is so in S is so in a later T

-- A site goes on: with its start, a log and a term that only grow, and, as a joiner, with its base on disk if it was there.
pub record SiteRises (a b : SiteState) : Type 0 where
  pub start : b.start ≡ a.start
  pub earlier : b.earlier ≡ a.earlier
  pub greatest : a.greatest ≤ b.greatest
  pub log : length a.log ≤ length b.log
  pub term : site_term a ≤ site_term b
  pub member : a.joining ≡ None → b.joining ≡ None
  pub loaded : (k : Joining) → b.joining ≡ Some k → (j : Joining) × (a.joining ≡ Some j) × (j.is_based ≡ true → k.is_based ≡ true)

-- one that is as it was
pub site-stays : (a : SiteState) → SiteRises a a
site-stays a = record { start = refl; earlier = refl; greatest = omega arith; log = omega arith; term = omega arith; member = λ e. e; loaded = λ k e. (k, e, λ l. l) }

-- so it is with a slot's site
abbrev pub Stays : LogState → LogState → ℕ → Type 0
Stays S T c = SiteRises (S.sites c) (T.sites c)

-- it runs anew, with a start that its slot hasn't run with
pub record RunsAnew (S T : LogState) (c : ℕ) : Type 0 where
  pub fresh : In (site_start T c) (S.logs.ran c) → ⊥
  pub earlier : (T.sites c).earlier ≡ (S.sites c).greatest

abbrev pub SiteLater : LogState → LogState → ℕ → Type 0
SiteLater S T c = Stays S T c ⊎ (site_start T c ≡ 0) ⊎ RunsAnew S T c

-- what was entered since
pub record EntersNow (S : LogState) (c t : ℕ) (e : Entered) : Type 0 where
  pub runs : 0 < site_start S c
  pub start : e.start ≡ site_start S c
  pub log : length (log_at S c) ≤ length e.log
  pub above : term_at S c < t

-- a start hasn't entered a term
abbrev pub Unentered : Logs → ℕ → ℕ → Type 0
Unentered G c a = (u : ℕ) (e : Entered) → G.entered c u ≡ Some e → e.start ≡ a → ⊥

-- What only grows.
pub record LogsLater (S T : LogState) : Type 0 where
  pub words : word.WordsLater S.words T.words
  pub ran : (c a : ℕ) → In a (S.logs.ran c) → In a (T.logs.ran c)
  pub greatest : (c : ℕ) → (S.sites c).greatest ≤ (T.sites c).greatest
  pub sites : (c : ℕ) → SiteLater S T c
  pub entered : (c t : ℕ) (e : Entered) → S.logs.entered c t ≡ Some e → T.logs.entered c t ≡ Some e
  pub entered_now : (c t : ℕ) (e : Entered) → T.logs.entered c t ≡ Some e → (S.logs.entered c t ≡ Some e) ⊎ EntersNow S c t e
  pub streamed : (c t : ℕ) (x : Streaming) → S.logs.streamed c t ≡ Some x → T.logs.streamed c t ≡ Some x
  -- a start that took a stream since hasn't entered a term
  pub streamed_now : (c t : ℕ) (x : Streaming) → T.logs.streamed c t ≡ Some x
      → (S.logs.streamed c t ≡ Some x) ⊎ Unentered T.logs c x.start
  pub reach : (p t : ℕ) → S.logs.reach p t ≤ T.logs.reach p t

-- The same terms have been led, and their logs have only grown.
pub record SameLeaderships (G H : Logs) : Type 0 where
  pub kept : (p t : ℕ) (g : Leadership) → G.leadership p t ≡ Some g → (h : Leadership) × (H.leadership p t ≡ Some h) × (h.begun ≡ g.begun) × Prefix g.log h.log
  pub none : (p t : ℕ) → G.leadership p t ≡ None → H.leadership p t ≡ None

-- a start joins on in its word
abbrev pub JoinsOn : LogState → LogState → ℕ → Type 0
JoinsOn S T c = (w : _) → JoinsIn S c w → JoinsIn T c w

-- ---- what is added to the history of terms that are led

-- Terms that were led are led, with logs that have only grown. What is everywhere only rises. So it is while no recovery works.
pub record Onward (F G : Logs) : Type 0 where
  pub kept : (p t : ℕ) (g : Leadership) → F.leadership p t ≡ Some g → (h : Leadership) × (G.leadership p t ≡ Some h) × (h.begun ≡ g.begun) × Prefix g.log h.log
  pub reach : (p t : ℕ) → F.reach p t ≤ G.reach p t

-- Slot i leads partition p in term t, by the word that its site has.
pub record Heads (D : Deployment) (i : ℕ) (s : SiteState) (p t : ℕ) : Type 0 where
  pub word : Membership
  pub view : s.view ≡ Some word
  pub part_is : part_of_slot D i ≡ p
  pub term_is : term_of word ≡ t
  pub first : leader D word p ≡ Some i
  pub start_is : start_of_slot D word i ≡ Some s.start

-- By a turn of the site of slot i, of which this is made, no term is led anew, or with a longer log, but for one that it leads.
pub record Grown (D : Deployment) (i : ℕ) (s : SiteState) (F G : Logs) : Type 0 where
  pub onward : Onward F G
  pub led : (p t : ℕ) (h : Leadership) → G.leadership p t ≡ Some h → (F.leadership p t ≡ Some h) ⊎ Heads D i s p t

-- By a turn of the site of slot i, with so many entries in its log, what was entered stays, and it enters a term with no fewer.
pub record Enters (i low : ℕ) (F G : Logs) : Type 0 where
  pub kept : (c t : ℕ) (e : Entered) → F.entered c t ≡ Some e → G.entered c t ≡ Some e
  pub now : (t : ℕ) (e : Entered) → G.entered i t ≡ Some e → (F.entered i t ≡ Some e) ⊎ (low ≤ length e.log)

-- ---- turns

-- no stream begins with this message
abbrev pub NoStreamStart : Letter → Type 0
NoStreamStart l = elim l.body as (λ _. Type 0) [ msg.StreamStart head ↦ ⊥ | _ ↦ Unit {0} ]

-- A turn of the site of slot i, from a state: the site goes on with its start, begins no stream, and what holds, holds after it.
pub record Turns (S : LogState) (i : ℕ) (t : Turn SiteState) : Type 0 where
  pub logs : Logs
  pub start : t.state.start ≡ site_start S i
  pub plain : (c : ℕ) → AllByRecursion NoStreamStart (t.sends (Site c))
  pub holds : LogsHold (after_site S i t.state t.sends logs)
  pub grown : Grown S.words.deployment i t.state S.logs logs
  pub enters : Enters i (length (log_at S i)) S.logs logs
  pub longer : length (log_at S i) ≤ length t.state.log

-- one in which it stays in its word
pub record LogsGo (S : LogState) (i : ℕ) (t : Turn SiteState) : Type 0 where
  pub logs : Logs
  pub start : t.state.start ≡ site_start S i
  pub view : t.state.view ≡ (S.sites i).view
  pub plain : (c : ℕ) → AllByRecursion NoStreamStart (t.sends (Site c))
  pub holds : LogsHold (after_site S i t.state t.sends logs)
  pub grown : Grown S.words.deployment i t.state S.logs logs
  pub enters : Enters i (length (log_at S i)) S.logs logs
  pub longer : length (log_at S i) ≤ length t.state.log
