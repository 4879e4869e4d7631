-- Words: which hosts are members, and what follows from it for the partitions.
use Rattle.std.specs.Prelude.{ℕ, ◌≤◌, ◌+◌, ◌==◌, ◌&&◌, ◌||◌, Bool, true, false, not, nat_lt, nat_le, if◌then◌else◌, List, [], ◌∷◌, ◌++◌, map, filter, find, length, Option, Some, None, is_some}
use Rattle.std.specs.List.{list_any, list_all, range_with_len}
use Rattle.partition_ring.specs.Placement.{IsLayout, slots_of, parts_of, part_of, host_of, start_in, copies_of}
use Rattle.volt_wire.specs.Word.{Membership}
pub use Rattle.partition_ring.specs.declared.deployment.Deployment.{Deployment}

-- ---- numbers of a deployment

abbrev pub slots : Deployment → ℕ
slots D = slots_of D.layout.hosts D.layout.sites

abbrev pub parts : Deployment → ℕ
parts D = parts_of D.layout.hosts D.layout.sites D.layout.k

-- the partition of a slot, and its host
abbrev pub part_of_slot : Deployment → ℕ → ℕ
part_of_slot D slot = part_of D.layout.k slot

abbrev pub host_of_slot : Deployment → ℕ → ℕ
host_of_slot D slot = host_of D.layout.hosts slot

abbrev pub is_host : Deployment → ℕ → Bool
is_host D host = nat_lt host D.layout.hosts

abbrev pub is_client : Deployment → ℕ → Bool
is_client D n = nat_lt 0 n && nat_le n D.clients

-- a layout that isn't refused
abbrev pub IsLaidOut : Deployment → Type 0
IsLaidOut D = IsLayout D.layout.hosts D.layout.sites D.layout.k

-- A deployment that isn't refused: its layout isn't, and it serves 1 to 16 clients.
pub record IsDeployment (D : Deployment) : Type 0 where
  pub layout : IsLaidOut D
  pub some_client : 1 ≤ D.clients
  pub few_clients : D.clients ≤ 16

-- whether a slot is one of a host's
abbrev pub is_slot_of : Deployment → ℕ → ℕ → Bool
is_slot_of D host slot = nat_lt slot (slots D) && host_of_slot D slot == host

-- the slots of a host
abbrev pub slots_of_host : Deployment → ℕ → List ℕ
slots_of_host D host = filter (is_slot_of D host) (range_with_len 0 (slots D))

abbrev pub all_parts : Deployment → List ℕ
all_parts D = range_with_len 0 (parts D)

-- ---- lists of numbers

abbrev pub is_in : ℕ → List ℕ → Bool
is_in x xs = list_any (λ y. y == x) xs

abbrev pub same_numbers : List ℕ → List ℕ → Bool
same_numbers [] [] = true
same_numbers (x ∷ xs) (y ∷ ys) = x == y && same_numbers xs ys
same_numbers _ _ = false

-- a rising list with one more number
abbrev pub with_number : ℕ → List ℕ → List ℕ
with_number x [] = x ∷ []
with_number x (y ∷ ys) = if x == y then y ∷ ys else if nat_lt x y then x ∷ y ∷ ys else y ∷ with_number x ys

abbrev pub with_numbers : List ℕ → List ℕ → List ℕ
with_numbers [] ys = ys
with_numbers (x ∷ xs) ys = with_number x (with_numbers xs ys)

-- the same of pairs that rise by their first number
abbrev pub same_pairs : List (ℕ × ℕ) → List (ℕ × ℕ) → Bool
same_pairs [] [] = true
same_pairs (x ∷ xs) (y ∷ ys) = x.0 == y.0 && x.1 == y.1 && same_pairs xs ys
same_pairs _ _ = false

abbrev pub with_pair : ℕ × ℕ → List (ℕ × ℕ) → List (ℕ × ℕ)
with_pair x [] = x ∷ []
with_pair x (y ∷ ys) = if x.0 == y.0 then y ∷ ys else if nat_lt x.0 y.0 then x ∷ y ∷ ys else y ∷ with_pair x ys

abbrev pub with_pairs : List (ℕ × ℕ) → List (ℕ × ℕ) → List (ℕ × ℕ)
with_pairs [] ys = ys
with_pairs (x ∷ xs) ys = with_pair x (with_pairs xs ys)

-- ---- words

-- A word's term is that with which it began, and one more for each start that was lost or admitted since.
abbrev pub term_of : Membership → ℕ
term_of w = w.base + length w.lost + length w.admitted

-- that of a word, where there is one
abbrev pub term_in : Option Membership → ℕ
term_in None = 0
term_in (Some w) = term_of w

-- two words of one base are the same
abbrev pub same_word : Membership → Membership → Bool
same_word v w = v.base == w.base && same_numbers v.lost w.lost && same_pairs v.admitted w.admitted

-- what two words with one base, and so with the same first hosts, say together
abbrev pub union : Membership → Membership → Membership
union v w = record v { lost = with_numbers v.lost w.lost; admitted = with_pairs v.admitted w.admitted }

-- a word in which one more start is lost, or admitted
abbrev pub with_lost : ℕ → Membership → Membership
with_lost start w = record w { lost = with_number start w.lost }

abbrev pub with_admitted : ℕ → ℕ → Membership → Membership
with_admitted start host w = record w { admitted = with_pair (start, host) w.admitted }

-- the hosts with which the word began and those that it admitted, without the lost ones, by rising start
abbrev pub not_lost : Membership → List (ℕ × ℕ)
not_lost w = filter (λ m. not (is_in m.1 w.lost)) (w.first ++ map (λ a. (a.1, a.0)) w.admitted)

-- The members: hosts, each with the start by which it is one. Of one host the greatest start counts.
abbrev pub members : Membership → List (ℕ × ℕ)
members w = filter (λ m. list_all (λ n. not (n.0 == m.0) || nat_le n.1 m.1) (not_lost w)) (not_lost w)

-- the start by which a host is a member
abbrev pub start_of : Membership → ℕ → Option ℕ
start_of w host = start_in (members w) host

abbrev pub is_some_of : Option ℕ → ℕ → Bool
is_some_of None x = false
is_some_of (Some y) x = y == x

-- whether a host is a member by this start
abbrev pub is_member : Membership → ℕ → ℕ → Bool
is_member w host start = is_some_of (start_of w host) start

-- whether the word admitted this start
abbrev pub admits : Membership → ℕ → Bool
admits w start = list_any (λ a. a.0 == start) w.admitted

-- the first of a list, if there is one
abbrev pub first_of : {A : Type 0} → List A → Option A
first_of [] = None
first_of (x ∷ xs) = Some x

-- The initiator is the first of the members: its host, and its start.
abbrev pub initiator : Membership → Option (ℕ × ℕ)
initiator w = first_of (members w)

-- the slots that hold a copy of a partition, by their hosts' starts
abbrev pub copies : Deployment → Membership → ℕ → List ℕ
copies D w part = copies_of D.layout.hosts D.layout.k (members w) part

-- The leader of a partition is the first of its copies.
abbrev pub leader : Deployment → Membership → ℕ → Option ℕ
leader D w part = first_of (copies D w part)

-- the start of the host of a slot, by which it is a member
abbrev pub start_of_slot : Deployment → Membership → ℕ → Option ℕ
start_of_slot D w slot = start_of w (host_of_slot D slot)

-- the least partition that has no copy left
abbrev pub part_down : Deployment → Membership → Option ℕ
part_down D w = find (λ p. not (is_some (leader D w p))) (all_parts D)

abbrev pub is_down : Deployment → Membership → Bool
is_down D w = is_some (part_down D w)
