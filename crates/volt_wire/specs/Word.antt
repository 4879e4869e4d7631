-- Who is a member of the cluster.
use Rattle.std.specs.Prelude.{ℕ, List}

-- A word, as the hosts say it to one another. Of two words with one base the later one has more in it.
pub record Membership : Type 0 where
  -- the term with which the word began, at the boot or at a recovery
  pub base : ℕ
  -- the hosts with which it began and their starts, by rising start
  pub first : List (ℕ × ℕ)
  -- the starts that were lost since, rising
  pub lost : List ℕ
  -- the starts that were admitted since and their hosts, by rising start
  pub admitted : List (ℕ × ℕ)
