-- When the code's site stands for a site of the world: the log isn't kept, only its end and what it has led to.
use Rattle.std.specs.Prelude.{ℕ, ◌≡◌, length}
use Rattle.volt_base.specs.Semantics.{Semantics}
use Rattle.one_host_model.specs.Site.{SiteState, tables}
use Rattle.cluster_core.specs.declared.site.LogEnd.{LogEnd}

pub record StandsForSite (S : Semantics) (slot : ℕ) (log : LogEnd) (state : S.State) (s : SiteState) : Type 0 where
  pub ends : log.end ≡ length s.log
  pub written : log.on_disk ≡ s.on_disk
  pub waits : log.waiting.items ≡ s.waiting
  -- the engine's state is what the log leads to
  pub replayed : state ≡ tables S slot s
