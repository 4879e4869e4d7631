use Rattle.std.proofs.Common.{rules}
use Rattle.volt_disk.proofs.FileLemmas.{retained-all_lost, retained-cycles}
use Rattle.volt_disk.proofs.files.lose.Goals as goal

pub returns-clause-files : goal.returns-clause-files
returns-clause-files c =
    retained-all_lost _ (λ f. f.1.now) (λ f. f.0.now) (λ f k v b w f' t. search rules) _ _ _ c.retain.ensures.filtered

pub returns-clause-each : goal.returns-clause-each
returns-clause-each c =
    retained-cycles _ (λ f. f.1.now) (λ f. f.0.now) (λ f k v b w f' t. search rules) _ _ _ c.retain.ensures.filtered
