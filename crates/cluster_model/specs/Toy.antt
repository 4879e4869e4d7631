-- An example of a database: one table of accounts, each with a balance, and calls that put, get, add, move and sum.
use Rattle.std.specs.Prelude.{ℕ, zero, suc, ◌+◌, ◌-◌, ◌==◌, true, false, nat_le, if◌then◌else◌, List, [], ◌∷◌, ◌++◌, map, flat_map, fold, Option, Some, None, is_some, unwrap_or}
use Rattle.volt_base.specs.Semantics.{Semantics}
use Rattle.volt_base.specs.declared.entry.Applied.{Applied}
use Rattle.volt_base.specs.declared.entry.Entry.{Entry}
use Rattle.volt_base.specs.declared.entry.LastReply.{LastReply}
use Rattle.volt_base.specs.declared.entry.Entry.TheVariants.{Sp, Frag, Done}
use Rattle.volt_base.specs.declared.entry.Outcome.{Outcome}
use Rattle.volt_base.specs.declared.entry.Outcome.TheVariants.{Kept, Snapshot}
use Rattle.cluster_model.specs.Engine.{Database, CoordStep, Round, Finish}
use Rattle.cluster_model.specs.Log.{applied_by}
use Rattle.cluster_model.specs.Replies.{replies_after}

-- ---- accounts

-- accounts and their balances, by rising number
abbrev pub Accounts : Type 0
Accounts = List (ℕ × ℕ)

abbrev pub balance : ℕ → Accounts → Option ℕ
balance id [] = None
balance id (a ∷ as_) = if a.0 == id then Some a.1 else balance id as_

abbrev pub opened : ℕ → ℕ → Accounts → Accounts
opened id bal [] = (id, bal) ∷ []
opened id bal (a ∷ as_) = if nat_le a.0 id then a ∷ opened id bal as_ else (id, bal) ∷ a ∷ as_

abbrev pub set_balance : ℕ → ℕ → Accounts → Accounts
set_balance id bal [] = []
set_balance id bal (a ∷ as_) = if a.0 == id then (id, bal) ∷ as_ else a ∷ set_balance id bal as_

-- a partition's accounts, those from before the transaction that is open, the calls that were applied, and the last replies
pub record Toy : Type 0 where
  pub accounts : Accounts
  pub saved : Option Accounts
  pub applied : List Applied
  pub replies : List LastReply

-- ---- calls and their bodies

-- a body: what it asks for, and its numbers
abbrev pub put : ℕ → ℕ → List ℕ
put id bal = 0 ∷ id ∷ bal ∷ []

abbrev pub get : ℕ → List ℕ
get id = 1 ∷ id ∷ []

-- a sum is added, or taken away
abbrev pub add : ℕ → ℕ → List ℕ
add id n = 2 ∷ id ∷ n ∷ []

abbrev pub take_away : ℕ → ℕ → List ℕ
take_away id n = 3 ∷ id ∷ n ∷ []

abbrev pub move : ℕ → ℕ → ℕ → List ℕ
move src dst n = 4 ∷ src ∷ dst ∷ n ∷ []

abbrev pub total : List ℕ
total = 5 ∷ []

-- replies: the call went through with this number, or without one; or it aborted
abbrev pub gives : ℕ → List ℕ
gives n = 0 ∷ n ∷ []

abbrev pub gives_nothing : List ℕ
gives_nothing = 0 ∷ []

abbrev pub is_refused : List ℕ
is_refused = 1 ∷ []

-- ---- what a body does to accounts, and what it answers

abbrev pub adds : ℕ → ℕ → Accounts → Option ℕ → Accounts
adds id n accounts None = accounts
adds id n accounts (Some bal) = set_balance id (bal + n) accounts

abbrev pub takes : ℕ → ℕ → Accounts → Option ℕ → Accounts
takes id n accounts None = accounts
takes id n accounts (Some bal) = if nat_le n bal then set_balance id (bal - n) accounts else accounts

abbrev pub accounts_after : List ℕ → Accounts → Accounts
accounts_after (zero ∷ id ∷ bal ∷ []) accounts = if is_some (balance id accounts) then accounts else opened id bal accounts
accounts_after (suc (suc zero) ∷ id ∷ n ∷ []) accounts = adds id n accounts (balance id accounts)
accounts_after (suc (suc (suc zero)) ∷ id ∷ n ∷ []) accounts = takes id n accounts (balance id accounts)
accounts_after body accounts = accounts

abbrev pub after_adding : ℕ → Option ℕ → List ℕ
after_adding n None = is_refused
after_adding n (Some bal) = gives (bal + n)

abbrev pub after_taking : ℕ → Option ℕ → List ℕ
after_taking n None = is_refused
after_taking n (Some bal) = if nat_le n bal then gives (bal - n) else is_refused

abbrev pub gets : Option ℕ → List ℕ
gets None = gives_nothing
gets (Some bal) = gives bal

abbrev pub reply_to : List ℕ → Accounts → List ℕ
reply_to (zero ∷ id ∷ bal ∷ []) accounts = if is_some (balance id accounts) then is_refused else gives 1
reply_to (suc zero ∷ id ∷ []) accounts = gets (balance id accounts)
reply_to (suc (suc zero) ∷ id ∷ n ∷ []) accounts = after_adding n (balance id accounts)
reply_to (suc (suc (suc zero)) ∷ id ∷ n ∷ []) accounts = after_taking n (balance id accounts)
reply_to body accounts = []

-- a round answers the balance that it asks for, if the account lies here, or the sum of all
abbrev pub found : Option ℕ → List ℕ
found None = []
found (Some bal) = bal ∷ []

abbrev pub sum_of : Accounts → ℕ
sum_of [] = 0
sum_of (a ∷ as_) = a.1 + sum_of as_

abbrev pub part_of_round : List ℕ → Accounts → List ℕ
part_of_round (suc zero ∷ id ∷ []) accounts = found (balance id accounts)
part_of_round (suc (suc (suc (suc (suc zero)))) ∷ []) accounts = sum_of accounts ∷ []
part_of_round body accounts = []

-- ---- the engine

abbrev pub notes : Toy → Entry → List ℕ → Toy
notes t e answer = record t { applied = t.applied ++ applied_by e; replies = replies_after e answer t.replies }

-- an end keeps what its transaction did, or restores what was before it
abbrev pub ends : Toy → Outcome → Toy
ends t Snapshot = t
ends t (Kept call client point reply) = record t { saved = None }
ends t o = record t { accounts = unwrap_or t.saved t.accounts; saved = None }

abbrev pub toy_after : Toy → Entry → Toy
toy_after t (Sp call client point body) =
    notes (record t { accounts = accounts_after body t.accounts }) (Sp call client point body) (reply_to body t.accounts)
toy_after t (Frag m round body) =
    record t { accounts = accounts_after body t.accounts; saved = Some (unwrap_or t.saved t.accounts) }
toy_after t (Done m o) = notes (ends t o) (Done m o) []

abbrev pub toy_answer : Toy → Entry → List ℕ
toy_answer t (Sp call client point body) = reply_to body t.accounts
toy_answer t (Frag m round body) = part_of_round body t.accounts
toy_answer t (Done m o) = []

abbrev pub toy_tables : Semantics
toy_tables =
    record {
      State = Toy;
      opening = λ p. record { accounts = []; saved = None; applied = []; replies = [] };
      fits = λ t e. true;
      after = toy_after;
      answer = toy_answer;
      rows = λ t. flat_map (λ a. a.0 ∷ a.1 ∷ []) t.accounts;
      applied = λ t. t.applied;
      replies = λ t. t.replies;
    }

-- ---- calls on all partitions

-- what the partitions answered together
abbrev pub together : List (List ℕ) → List ℕ
together [] = []
together (x ∷ xs) = x ++ together xs

-- Move reads both balances, and then takes from the one and adds to the other, in four rounds.
abbrev pub moves : ℕ → ℕ → ℕ → List ℕ → List ℕ → CoordStep
moves src dst n (bal ∷ []) (other ∷ []) = if nat_le n bal then Round (take_away src n) else Finish false is_refused
moves src dst n _ _ = Finish false is_refused

abbrev pub balance_left : ℕ → List ℕ → List ℕ
balance_left n [] = gives_nothing
balance_left n (bal ∷ more) = gives (bal - n)

abbrev pub asks_move : ℕ → ℕ → ℕ → List (List (List ℕ)) → CoordStep
asks_move src dst n [] = Round (get src)
asks_move src dst n (a ∷ []) = Round (get dst)
asks_move src dst n (a ∷ b ∷ []) = moves src dst n (together a) (together b)
asks_move src dst n (a ∷ b ∷ c ∷ []) = Round (add dst n)
asks_move src dst n (a ∷ b ∷ c ∷ d ∷ more) = Finish true (balance_left n (together a))

-- Total sums in one round.
abbrev pub asks_total : List (List (List ℕ)) → CoordStep
asks_total [] = Round total
asks_total (a ∷ more) = Finish true (gives (fold (λ x y. x + y) 0 (together a)))

abbrev pub toy_asks : List ℕ → List (List (List ℕ)) → CoordStep
toy_asks (suc (suc (suc (suc zero))) ∷ src ∷ dst ∷ n ∷ []) fed = asks_move src dst n fed
toy_asks (suc (suc (suc (suc (suc zero)))) ∷ []) fed = asks_total fed
toy_asks body fed = Finish false is_refused

-- each account is a block of its own
abbrev pub toy : Database
toy =
    record {
      tables = toy_tables;
      opening = toy_tables.opening;
      opening_done = λ p. None;
      blocks = λ t. map (λ a. a.0 ∷ a.1 ∷ []) t.accounts;
      asks = toy_asks;
    }
