use Rattle.log_records.proofs.ManifestLemmas.{manifest_again, manifest_takes}
use Rattle.log_records.proofs.laws.manifests_have_one_spelling.Goals as goal

pub returns-clause-again : goal.returns-clause-again
returns-clause-again c = manifest_again

pub returns-clause-one : goal.returns-clause-one
returns-clause-one c = manifest_takes
