-- A recovery: all hosts start again from what their disks show.
use Rattle.std.specs.Prelude.{ℕ, ◌+◌, ◌==◌, ◌&&◌, Bool, true, false, nat_lt, if◌then◌else◌, List, [], ◌∷◌, ◌++◌, map, take, length, slice_get, slice_index, Option, Some, None, option_map, option_and_then}
use Rattle.std.specs.List.{range_with_len}
use Rattle.volt_base.specs.declared.entry.Entry.{Entry}
use Rattle.volt_wire.specs.Word.{Membership}
use Rattle.volt_wire.specs.declared.actor.Actor.{Actor}
use Rattle.volt_wire.specs.declared.actor.Actor.TheVariants.{Client, Agent, Site, Scanner}
use Rattle.volt_wire.specs.declared.message.Msg.TheVariants as msg
use Rattle.cluster_model.specs.Engine.{Database}
use Rattle.cluster_model.specs.Words.{Deployment, slots, parts, part_of_slot, is_host, is_client}
use Rattle.cluster_model.specs.Letters.{Letter, open_letter}
use Rattle.cluster_model.specs.Disk.{Shown, greatest_mark, recovered}
use Rattle.cluster_model.specs.Director.{DirectorState}
use Rattle.cluster_model.specs.SiteState.{SiteState, stopped_site, member_site}
use Rattle.cluster_model.specs.World.{World, Recovery, stamp_of, new_word, greatest_done, greatest_replies, member_agent, start_from}

-- ---- what the disks show

-- what the disk of a slot showed, of the contents that it may show
abbrev pub shown_of : World → List ℕ → ℕ → Shown
shown_of w shown i = option_and_then (λ c. c) (slice_get (w.sites i).contents (slice_index shown i))

abbrev pub all_shown : World → List ℕ → List Shown
all_shown w shown = map (shown_of w shown) (range_with_len 0 (slots w.deployment))

-- as its mark and position
abbrev pub pair_of : Shown → Option (ℕ × ℕ)
pair_of c = option_map (λ x. (x.mark, length x.log)) c

-- the base term of the new word, which is the mark of all bases that are written
abbrev pub new_base : World → List ℕ → ℕ
new_base w shown = greatest_mark (all_shown w shown) + 1

-- the log with which each partition goes on
abbrev pub new_log : Database → World → List ℕ → ℕ → List Entry
new_log E w shown p = recovered E w.deployment (shown_of w shown) p

-- what the disk of a slot shows once its new base is written
abbrev pub new_content : Database → World → List ℕ → ℕ → Shown
new_content E w shown i =
    let log = new_log E w shown (part_of_slot w.deployment i) in
    Some (record { mark = new_base w shown; base = length log; log = log })

-- ---- a recovery that fails stops at its first failing disk

-- As the disks are read, in order of slots, each shows one content from then on.
abbrev pub read_up_to : World → List ℕ → ℕ → ℕ → List Shown
read_up_to w shown failed i = if nat_lt i failed then shown_of w shown i ∷ [] else (w.sites i).contents

-- As the bases are written, all disks were read. The one that failed shows either.
abbrev pub written_up_to : Database → World → List ℕ → ℕ → ℕ → List Shown
written_up_to E w shown failed i =
    if nat_lt i failed then new_content E w shown i ∷ []
    else if i == failed then shown_of w shown i ∷ new_content E w shown i ∷ []
    else shown_of w shown i ∷ []

abbrev pub left_contents : Database → World → List ℕ → ℕ × Bool → ℕ → List Shown
left_contents E w shown failed i =
    if failed.1 then written_up_to E w shown failed.0 i else read_up_to w shown failed.0 i

-- the request is over
abbrev pub no_request : DirectorState → DirectorState
no_request d = record d { recovery_asked = false; recovery_implied = false }

-- how many disks showed a content: those before the one that failed as it was read, else all
abbrev pub count_shown : Deployment → Option (ℕ × Bool) → ℕ
count_shown D (Some (i, false)) = i
count_shown D failed = slots D

abbrev pub remembered : World → List ℕ → Option (ℕ × Bool) → Recovery
remembered w shown failed =
    record {
      at = stamp_of w;
      shown = map pair_of (take (count_shown w.deployment failed) (all_shown w shown));
      failed = option_map (λ f. f.0) failed;
      is_implied = w.director.recovery_implied;
    }

-- all stays stopped
abbrev pub stays_stopped : Database → World → List ℕ → ℕ × Bool → World
stays_stopped E w shown failed =
    record w {
      director = no_request w.director;
      sites = λ i. record (w.sites i) { contents = left_contents E w shown failed i };
      recoveries = w.recoveries ++ remembered w shown (Some failed) ∷ [];
    }

-- ---- a recovery that works

-- new starts are drawn in order of hosts
abbrev pub draws_starts : Deployment → DirectorState → DirectorState
draws_starts D d =
    record d {
      next_start = d.next_start + D.layout.hosts;
      last_start = λ h. d.next_start + h;
      recovery_asked = false;
      recovery_implied = false;
    }

-- The channels between agents, sites and scanners are emptied. Each agent sends Opened to all clients.
abbrev pub is_of_host : Actor → Bool
is_of_host (Agent h) = true
is_of_host (Site i) = true
is_of_host (Scanner i) = true
is_of_host a = false

abbrev pub opens : Deployment → ℕ → Actor → Actor → List Letter
opens D start (Agent h) (Client n) =
    if is_host D h && is_client D n then open_letter (msg.Opened (start + h)) ∷ [] else []
opens D start a b = []

abbrev pub new_channels : Deployment → ℕ → (Actor → Actor → List Letter) → Actor → Actor → List Letter
new_channels D start channel a b = if is_of_host a && is_of_host b then [] else channel a b ++ opens D start a b

-- a member of the new word; the greatest term of its slot begins anew with the base term
abbrev pub new_site : Deployment → ℕ → SiteState → Membership → ℕ → List Entry → SiteState
new_site D i s w start log = member_site D i (stopped_site s) w start log

-- Every slot gets a new base. All hosts run with new starts and a new word.
abbrev pub starts_anew : Database → World → List ℕ → World
starts_anew E w shown =
    let D = w.deployment in
    let start = w.director.next_start in
    let word = new_word D (new_base w shown) start in
    let logs = new_log E w shown in
    record w {
      director = draws_starts D w.director;
      agents = λ h. if is_host D h then member_agent word (greatest_done E logs (parts D) + 1) (greatest_replies E logs (parts D)) start h else w.agents h;
      sites = λ i. if nat_lt i (slots D) then new_site D i (w.sites i) word (start_from D start i) (logs (part_of_slot D i)) else w.sites i;
      scanners = λ i. if nat_lt i (slots D) then record { start = start_from D start i; stop = (w.scanners i).stop; scan = None } else w.scanners i;
      channel = new_channels D start w.channel;
      authoritative = λ p. record { term = word.base; log = logs p; firm = length (logs p) };
      recoveries = w.recoveries ++ remembered w shown None ∷ [];
    }

abbrev pub recovers : Database → World → List ℕ → Option (ℕ × Bool) → World
recovers E w shown None = starts_anew E w shown
recovers E w shown (Some failed) = stays_stopped E w shown failed
