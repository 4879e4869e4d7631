use Rattle.std.proofs.Common.{◌≡◌, drop}
use Rattle.proc_lang.specs.Drafts.{same_each}
use Rattle.proc_lang.proofs.draft.have_same_heads.Given as goal

abbrev pub invariant-loop-place : goal.invariant-loop-place
invariant-loop-place l = same_each (drop l.place l.a) (drop l.place l.b) ≡ same_each l.a l.b
