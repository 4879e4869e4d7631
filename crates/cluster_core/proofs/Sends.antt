-- What an outbox holds for each actor after a message more.
use Rattle.std.proofs.Common.{◌≡◌, Bool, true, false, List, [], ◌∷◌, ◌++◌, refl, ap, ◌∙◌, append_assoc, inl, inr}
use Rattle.std.specs.Prelude.{if◌then◌else◌}
use Rattle.std.proofs.lemmas.Bool.{cases_Bool}
use Rattle.std.proofs.lemmas.List.{append-nil}
use Rattle.volt_wire.specs.declared.actor.Actor.{Actor}
use Rattle.volt_wire.specs.declared.actor.Actor.TheVariants.{Director, Agent}
use Rattle.one_host_model.specs.declared.message.Msg.{Msg}
use Rattle.one_host_model.specs.declared.message.Msg.TheVariants as msg
use Rattle.one_host_model.specs.declared.state.Due.{Due}
use Rattle.one_host_model.specs.Actors.{same, only}
use Rattle.one_host_model.specs.Client.{submit_sends}
use Rattle.one_host_model.specs.World.{sent}
use Rattle.cluster_core.specs.Outbox.{sent_to, SendsMore}

chosen : (t : Bool) (m : Msg) (xs ys : List Msg) → (if t then m ∷ (xs ++ ys) else (xs ++ ys)) ≡ (if t then m ∷ xs else xs) ++ ys
chosen true m xs ys = refl
chosen false m xs ys = refl

-- one message more is at the end of what its receiver gets
pub sent_to-push : (b to : Actor) (m : Msg) (xs : List (Actor × Msg)) → sent_to b (xs ++ (to, m) ∷ []) ≡ sent_to b xs ++ only to m b
sent_to-push b to m [] = refl
sent_to-push b to m (x ∷ xs) = ap (λ (ys : List Msg). if same x.0 b then x.1 ∷ ys else ys) (sent_to-push b to m xs) ∙ chosen (same x.0 b) x.1 (sent_to b xs) (only to m b)

-- a submitted call: the director is told, and the agent gets the call
pub sends_submit : (old mid new : List (Actor × Msg)) (due : Due) (left : List Due)
    → SendsMore old mid (only Director msg.Told)
    → SendsMore mid new (only (Agent 0) (msg.Call due.call 1 due.part due.body))
    → SendsMore old new (submit_sends (due ∷ left))
sends_submit old mid new due left p q b = q b ∙ ap (λ (ys : List Msg). ys ++ only (Agent 0) (msg.Call due.call 1 due.part due.body) b) (p b) ∙ append_assoc (sent_to b old) (only Director msg.Told b) (only (Agent 0) (msg.Call due.call 1 due.part due.body) b)

-- a message more was sent, and is no longer to be sent
pub post_one : (old new : Actor → Actor → List Msg) (from to : Actor) (m : Msg) (left : List (Actor × Msg))
    → ((f t : Actor) → new f t ≡ sent old from (only to m) f t)
    → (f t : Actor) → sent new from (λ b. sent_to b left) f t ≡ sent old from (λ b. sent_to b ((to, m) ∷ left)) f t
post_one old new from to m left h f t =
    ap (λ (ms : List Msg). if same from f then ms ++ sent_to t left else ms) (h f t) ∙ split (same from f) (same to t)
  where
    split : (a b : Bool) → (if a then (if a then old f t ++ (if b then m ∷ [] else []) else old f t) ++ sent_to t left else (if a then old f t ++ (if b then m ∷ [] else []) else old f t)) ≡ (if a then old f t ++ (if b then m ∷ sent_to t left else sent_to t left) else old f t)
    split true true = append_assoc (old f t) (m ∷ []) (sent_to t left)
    split true false = append_assoc (old f t) [] (sent_to t left)
    split false b = refl

-- nothing is left to be sent
pub post_none : (channel : Actor → Actor → List Msg) (from f t : Actor) → sent channel from (λ b. []) f t ≡ channel f t
post_none channel from f t = elim (cases_Bool (same from f)) [ inl a ↦ rw a (append-nil (channel f t)) | inr a ↦ rw a refl ]
