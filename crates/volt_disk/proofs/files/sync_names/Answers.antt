use Rattle.std.proofs.Common.{rules}
use Rattle.std.proofs.lemmas.Map.Made.{map_same_pairs}
use Rattle.volt_disk.specs.Stored.{stored_names_synced}
use Rattle.volt_disk.proofs.files.sync_names.Goals as goal

pub returns : goal.returns
returns c = map_same_pairs _ stored_names_synced _ (λ k v b w f t. search rules) _ _ c.retain.ensures.filtered
