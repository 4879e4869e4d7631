use Rattle.sql_meaning.proofs.Meanings.{meanings}
use Rattle.sql_scenarios.proofs.partitions.sums_of_all.Goals as goal

pub returns-clause-greatest : goal.returns-clause-greatest
returns-clause-greatest c = simp meanings

pub returns-clause-beyond : goal.returns-clause-beyond
returns-clause-beyond c = simp meanings

pub returns-clause-back : goal.returns-clause-back
returns-clause-back c = simp meanings

pub returns-clause-part_beyond : goal.returns-clause-part_beyond
returns-clause-part_beyond c = simp meanings

pub returns-clause-whole_greatest : goal.returns-clause-whole_greatest
returns-clause-whole_greatest c = simp meanings

pub returns-clause-whole_back : goal.returns-clause-whole_back
returns-clause-whole_back c = simp meanings

pub returns-clause-whole_beyond : goal.returns-clause-whole_beyond
returns-clause-whole_beyond c = simp meanings
