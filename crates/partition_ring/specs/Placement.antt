-- Which layouts there are, which place each copy of a partition has, and in which order copies stand.
use Rattle.std.specs.Prelude.{◌≡◌, ℕ, ◌+◌, ◌*◌, ◌/◌, ◌%◌, ◌≤◌, Bool, true, ◌==◌, ◌&&◌, ◌||◌, nat_lt, nat_le, if◌then◌else◌, List, [], ◌∷◌, map, filter_map, fold, Option, Some, None, option_map, max}
use Rattle.std.specs.List.{range_with_len, AllByRecursion}

-- how many hosts, sites on each host, and spare copies of each partition a layout may ask for
pub record IsWithinLimits (hosts sites k : ℕ) : Type 0 where
  pub some_host : 1 ≤ hosts
  pub few_hosts : hosts ≤ 8
  pub some_site : 1 ≤ sites
  pub few_sites : sites ≤ 4
  pub few_spares : k ≤ 3

-- the hosts can hold all copies: the slots make whole partitions, and no host has a partition twice
abbrev pub is_layout : ℕ → ℕ → ℕ → Bool
is_layout hosts sites k = (hosts * sites % (k + 1) == 0) && nat_le (k + 1) hosts

-- the numbers of a layout that isn't refused
pub record IsLayout (hosts sites k : ℕ) : Type 0 where
  pub within : IsWithinLimits hosts sites k
  pub accepted : is_layout hosts sites k ≡ true

-- how many slots there are, one for each site
abbrev pub slots_of : ℕ → ℕ → ℕ
slots_of hosts sites = hosts * sites

-- how many partitions there are, each with k + 1 copies
abbrev pub parts_of : ℕ → ℕ → ℕ → ℕ
parts_of hosts sites k = slots_of hosts sites / (k + 1)

-- the slot of a copy of a partition, both counted from 0: the copies of a partition stand side by side
abbrev pub slot_of : ℕ → ℕ → ℕ → ℕ
slot_of k part copy = part * (k + 1) + copy

-- the partition that a slot has a copy of
abbrev pub part_of : ℕ → ℕ → ℕ
part_of k slot = slot / (k + 1)

-- slots are dealt out to the hosts in turn: the host of a slot, and which of its host's sites it is
abbrev pub host_of : ℕ → ℕ → ℕ
host_of hosts slot = slot % hosts

abbrev pub site_of : ℕ → ℕ → ℕ
site_of hosts slot = slot / hosts

-- the place of a copy of a partition: its slot, its host and the host's site
abbrev pub place_of : ℕ → ℕ → ℕ → ℕ → ℕ × ℕ × ℕ
place_of hosts k part copy =
    (slot_of k part copy, host_of hosts (slot_of k part copy), site_of hosts (slot_of k part copy))

-- the slots of a partition
abbrev pub slots_of_part : ℕ → ℕ → List ℕ
slots_of_part k part = range_with_len (slot_of k part 0) (k + 1)

-- Members are hosts, each with the start by which it is one. A copy stands where its host is a member.

-- the start by which a host is a member, of a start that was found before and one more member
abbrev pub greater_start : ℕ → Option ℕ → ℕ × ℕ → Option ℕ
greater_start host None member = if member.0 == host then Some member.1 else None
greater_start host (Some start) member = Some (if member.0 == host then max start member.1 else start)

-- the start by which a host is a member: the greatest that stands with it
abbrev pub start_in : List (ℕ × ℕ) → ℕ → Option ℕ
start_in members host = fold (greater_start host) None members

-- the copies that stand, of those with these slots: each with its host's start and its slot
abbrev pub standing : ℕ → List (ℕ × ℕ) → List ℕ → List (ℕ × ℕ)
standing hosts members slots =
    filter_map (λ slot. option_map (λ start. (start, slot)) (start_in members (host_of hosts slot))) slots

-- a copy comes before another by its host's start, and then by its slot
abbrev pub comes_before : ℕ × ℕ → ℕ × ℕ → Bool
comes_before a b = nat_lt a.0 b.0 || (a.0 == b.0 && nat_lt a.1 b.1)

-- copies in order, with one more at its place, once
abbrev pub with_copy : List (ℕ × ℕ) → ℕ × ℕ → List (ℕ × ℕ)
with_copy [] copy = copy ∷ []
with_copy (first ∷ copies) copy =
    if comes_before copy first then copy ∷ first ∷ copies
    else if comes_before first copy then first ∷ with_copy copies copy
    else first ∷ copies

-- copies in order, with more of them at their places
abbrev pub with_copies : List (ℕ × ℕ) → List (ℕ × ℕ) → List (ℕ × ℕ)
with_copies ordered [] = ordered
with_copies ordered (copy ∷ copies) = with_copies (with_copy ordered copy) copies

-- each copy comes before all that stand behind it
abbrev pub Rises : List (ℕ × ℕ) → Type 0
Rises [] = Unit {0}
Rises (copy ∷ copies) = AllByRecursion (λ later. comes_before copy later ≡ true) copies × Rises copies

-- a partition's copies that stand, in order
abbrev pub ordered_copies : ℕ → ℕ → List (ℕ × ℕ) → ℕ → List (ℕ × ℕ)
ordered_copies hosts k members part = with_copies [] (standing hosts members (slots_of_part k part))

-- their slots; the first is the leader's
abbrev pub copies_of : ℕ → ℕ → List (ℕ × ℕ) → ℕ → List ℕ
copies_of hosts k members part = map (λ copy. copy.1) (ordered_copies hosts k members part)
