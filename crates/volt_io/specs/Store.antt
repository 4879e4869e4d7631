-- What was written to a sink over memory, and which of its calls fail.
use Rattle.std.specs.Prelude.{ℕ, min, List, [], ◌++◌}
use Rattle.volt_base.specs.Faults.{one_more}

-- a sink over memory
pub record Store : Type 0 where
  -- the bytes written so far
  pub written : List ℕ
  -- the numbers, from 1, of the calls that fail
  pub fail : List ℕ
  -- the most bytes that one call takes
  pub piece : ℕ
  -- the number of the next call; past the greatest u64 it stays there
  pub call : ℕ
  -- how many calls failed; past the greatest u64 it stays there
  pub faults : ℕ
  -- how many of them found no memory; past the greatest u64 it stays there
  pub starved : ℕ

-- a sink before its first call
abbrev pub empty_store : List ℕ → ℕ → Store
empty_store fail piece = record { written = []; fail = fail; piece = piece; call = 1; faults = 0; starved = 0 }

-- how many bytes a call takes of a piece of this length
abbrev pub taken_len : Store → ℕ → ℕ
taken_len s len = min len s.piece

-- the sink after a call that took these bytes
abbrev pub after_taking : Store → List ℕ → Store
after_taking s bytes = record s { written = s.written ++ bytes; call = one_more s.call }

-- the sink after a call that failed by its number
abbrev pub after_failed_write : Store → Store
after_failed_write s = record s { call = one_more s.call; faults = one_more s.faults }

-- the sink after a call that found no memory
abbrev pub after_starved_write : Store → Store
after_starved_write s = record (after_failed_write s) { starved = one_more s.starved }
