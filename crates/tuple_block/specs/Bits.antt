-- Places of bits in a word of 64.
use Rattle.std.specs.Prelude.{◌≡◌, ℕ, ◌<◌, ◌≤◌}
use Rattle.std.specs.Int.{bit_at}

pub record IsFirstZero (word i : ℕ) : Type 0 where
  pub within : i < 64
  pub zero : bit_at word i ≡ 0
  pub ones_before : (k : ℕ) → k < i → bit_at word k ≡ 1

-- the first 1 from a place on
pub record IsNextOne (word from i : ℕ) : Type 0 where
  pub not_before : from ≤ i
  pub within : i < 64
  pub one : bit_at word i ≡ 1
  pub zeros_between : (k : ℕ) → from ≤ k → k < i → bit_at word k ≡ 0

pub record IsLastOne (word i : ℕ) : Type 0 where
  pub within : i < 64
  pub one : bit_at word i ≡ 1
  pub zeros_behind : (k : ℕ) → i < k → k < 64 → bit_at word k ≡ 0
