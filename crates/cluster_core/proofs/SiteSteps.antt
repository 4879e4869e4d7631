-- What a site stands for after a call, and what it sends for the replies that waited.
use Rattle.std.proofs.Common.{◌≡◌, ℕ, ◌+◌, List, [], ◌∷◌, ◌++◌, refl, sym, ap, ◌∙◌, append_assoc, length-append}
use Rattle.volt_base.specs.Semantics.{Semantics}
use Rattle.volt_base.specs.declared.entry.Entry.{Entry}
use Rattle.volt_base.specs.declared.entry.Entry.TheVariants.{Sp}
use Rattle.volt_wire.specs.declared.actor.Actor.{Actor}
use Rattle.volt_wire.specs.declared.actor.Actor.TheVariants.{Agent}
use Rattle.one_host_model.specs.declared.message.Msg.{Msg}
use Rattle.one_host_model.specs.declared.message.Msg.TheVariants as msg
use Rattle.one_host_model.specs.declared.state.Waiting.{Waiting}
use Rattle.one_host_model.specs.Actors.{only}
use Rattle.one_host_model.specs.Site.{SiteState, replay, site_after, replies}
use Rattle.cluster_core.specs.declared.site.LogEnd.{LogEnd}
use Rattle.cluster_core.specs.Site.{StandsForSite}
use Rattle.cluster_core.specs.Outbox.{SendsMore, sent_to}

-- entries after entries
pub replay-append : (S : Semantics) (state : S.State) (xs ys : List Entry) → replay S state (xs ++ ys) ≡ replay S (replay S state xs) ys
replay-append S state [] ys = refl
replay-append S state (x ∷ xs) ys = replay-append S (S.after state x) xs ys

-- a call that was applied, its reply waiting
pub stands_called : (S : Semantics) (slot stamp : ℕ) (old new : LogEnd) (before after : S.State) (w : Waiting) (client : ℕ) (body : List ℕ) (s : SiteState)
    → StandsForSite S slot old before s
    → new.end ≡ old.end + 1
    → new.on_disk ≡ old.on_disk
    → new.waiting.items ≡ old.waiting.items ++ w ∷ []
    → after ≡ S.after before (Sp w.call client stamp body)
    → w.reply ≡ S.answer before (Sp w.call client stamp body)
    → StandsForSite S slot new after (site_after S stamp slot s (Agent w.host) (msg.SpCall w.call w.start client body))
stands_called S slot stamp old new before after w client body s h end disk waiting state reply = record {
  ends = end ∙ ap (λ (n : ℕ). n + 1) h.ends ∙ sym (length-append s.log (Sp w.call client stamp body ∷ []));
  written = disk ∙ h.written;
  waits = waiting ∙ ap (λ (ws : List Waiting). ws ++ w ∷ []) h.waits ∙ ap (λ (r : List ℕ). s.waiting ++ record { reply = r; call = w.call; start = w.start; host = w.host } ∷ []) (reply ∙ ap (λ (t : S.State). S.answer t (Sp w.call client stamp body)) h.replayed);
  replayed = state ∙ ap (λ (t : S.State). S.after t (Sp w.call client stamp body)) h.replayed ∙ sym (replay-append S (S.opening slot) s.log (Sp w.call client stamp body ∷ []));
}
