-- The channels after a message was taken and others were sent, and which message it was.
use Rattle.std.proofs.Common.{◌≡◌, ℕ, ◌&&◌, Bool, List, [], ◌∷◌, ◌++◌, Some, None, refl, sym, ap, ◌∙◌, inl, inr}
use Rattle.std.specs.Prelude.{if◌then◌else◌}
use Rattle.std.proofs.lemmas.Bool.{cases_Bool}
use Rattle.volt_base.specs.Semantics.{Semantics}
use Rattle.volt_wire.specs.declared.actor.Actor.{Actor}
use Rattle.one_host_model.specs.declared.message.Msg.{Msg}
use Rattle.one_host_model.specs.Actors.{same, Sends}
use Rattle.one_host_model.specs.World.{World, took, sent, rest, received, delivered}
use Rattle.one_host_model.proofs.Actors.{same-true}
use Rattle.cluster_core.specs.Channels.{first_message}
use Rattle.cluster_core.specs.Outbox.{sent_to}
use Rattle.cluster_core.proofs.Sends.{post_none}

-- the first message is the one that is taken
pub delivered_some : (S : Semantics) (stamp : ℕ) (w : World) (to from : Actor) (m : Msg) (ms : List Msg) → Some m ≡ first_message ms → delivered S stamp w to from ms ≡ received S stamp w to from m
delivered_some S stamp w to from m [] e = absurd cc
delivered_some S stamp w to from m (x ∷ ms) e = ap (received S stamp w to from) (let f : Some x ≡ Some m = sym e in cc)

took_one : (t : Bool) (xs ys : List Msg) → xs ≡ ys → (if t then rest xs else xs) ≡ (if t then rest ys else ys)
took_one t xs ys e = ap (λ (zs : List Msg). if t then rest zs else zs) e

-- queues that stand for channels stand for them after a message was taken
pub took_same : (queue channel : Actor → Actor → List Msg) (from to : Actor) → ((f t : Actor) → queue f t ≡ channel f t) → (f t : Actor) → took queue from to f t ≡ took channel from to f t
took_same queue channel from to h f t = took_one (same to t && same from f) (queue f t) (channel f t) (h f t)

empty_rest : (ms : List Msg) → None ≡ first_message ms → rest ms ≡ ms
empty_rest [] e = refl
empty_rest (m ∷ ms) e = absurd cc

-- taking from an empty channel changes nothing
pub took_nothing : (channel : Actor → Actor → List Msg) (from to : Actor) → None ≡ first_message (channel from to) → (f t : Actor) → took channel from to f t ≡ channel f t
took_nothing channel from to e f t =
    elim (cases_Bool (same to t)) [
      | inl a ↦ elim (cases_Bool (same from f)) [
        | inl b ↦ rw (a, b) (ap (λ (x : Actor). rest (channel f x)) (sym (same-true to t a)) ∙ ap (λ (x : Actor). rest (channel x to)) (sym (same-true from f b)) ∙ empty_rest (channel from to) e ∙ ap (λ (x : Actor). channel x to) (same-true from f b) ∙ ap (λ (x : Actor). channel f x) (same-true to t a))
        | inr b ↦ rw (a, b) refl
      ]
      | inr a ↦ rw a refl
    ]

-- and after others were sent
pub sent_same : (queue channel : Actor → Actor → List Msg) (from : Actor) (out : List (Actor × Msg)) (sends : Sends)
    → ((f t : Actor) → queue f t ≡ channel f t) → ((b : Actor) → sent_to b out ≡ sends b)
    → (f t : Actor) → sent queue from (λ b. sent_to b out) f t ≡ sent channel from sends f t
sent_same queue channel from out sends h s f t =
    ap (λ (xs : List Msg). if same from f then xs ++ sent_to t out else xs) (h f t)
    ∙ ap (λ (xs : List Msg). if same from f then channel f t ++ xs else channel f t) (s t)

-- the channels of an event that takes a message and sends others
pub taken_and_sent : (queue popped posted channel : Actor → Actor → List Msg) (from to : Actor) (out : List (Actor × Msg)) (sends : Sends)
    → ((f t : Actor) → queue f t ≡ channel f t)
    → ((f t : Actor) → popped f t ≡ took queue from to f t)
    → ((f t : Actor) → posted f t ≡ sent popped to (λ b. sent_to b out) f t)
    → ((b : Actor) → sent_to b out ≡ sends b)
    → (f t : Actor) → posted f t ≡ sent (took channel from to) to sends f t
taken_and_sent queue popped posted channel from to out sends h p q s f t =
    q f t ∙ sent_same popped (took channel from to) to out sends (λ a b. p a b ∙ took_same queue channel from to h a b) s f t
