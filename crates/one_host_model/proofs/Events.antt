-- The events of the one client, the one agent and the one site, and where none of them may happen.
use Rattle.std.proofs.Common.{◌≡◌, Bool, true, false, cond, List, [], ◌∷◌, ◌++◌, map, filter, length, ap, sym, subst, ◌∙◌, inl, inr, arith}
use Rattle.std.specs.List.{flat_map, AllByRecursion}
use Rattle.std.proofs.lemmas.Bool.{eqb-true, false≢true, and_parts, cases_Bool}
use Rattle.volt_wire.specs.declared.actor.Actor.{Actor}
use Rattle.volt_wire.specs.declared.actor.Actor.TheVariants.{Director, Client, Agent, Site, Scanner}
use Rattle.volt_wire.specs.declared.event.Event.{Event}
use Rattle.volt_wire.specs.declared.event.Event.TheVariants.{Deliver, Sync, Submit}
use Rattle.one_host_model.specs.World.{World, can}
use Rattle.one_host_model.specs.Runs.{actors, is_one_of_them, is_event_of_them, events, enabled, IsQuiescent}

-- ---- what holds of each element of a list that is put together

-- of two lists, one after the other
AllByRecursion-append : {A : Type 0} (P : A → Type 0) (xs ys : List A) → AllByRecursion P (xs ++ ys) → AllByRecursion P xs × AllByRecursion P ys
AllByRecursion-append P [] ys h = (tt, h)
AllByRecursion-append P (x ∷ xs) ys h = let r = AllByRecursion-append P xs ys h.1 in ((h.0, r.0), r.1)

-- of what a function makes of each
AllByRecursion-map : {A B : Type 0} (P : B → Type 0) (f : A → B) (xs : List A) → AllByRecursion P (map f xs) → AllByRecursion (λ x. P (f x)) xs
AllByRecursion-map P f [] h = tt
AllByRecursion-map P f (x ∷ xs) h = (h.0, AllByRecursion-map P f xs h.1)

-- of the lists that a function makes of each
AllByRecursion-flat_map : {A B : Type 0} (P : B → Type 0) (f : A → List B) (xs : List A) → AllByRecursion P (flat_map f xs) → AllByRecursion (λ x. AllByRecursion P (f x)) xs
AllByRecursion-flat_map P f [] h = tt
AllByRecursion-flat_map P f (x ∷ xs) h = let r = AllByRecursion-append P (f x) (flat_map f xs) h in (r.0, AllByRecursion-flat_map P f xs r.1)

-- ---- the actors and events of a small deployment

-- what holds of each actor in the list holds of each that is one of them
pub each_actor : (P : Actor → Type 0) → AllByRecursion P actors → (a : Actor) → is_one_of_them a ≡ true → P a
each_actor P h Director e = h.0
each_actor P h (Client n) e = subst (λ x. P (Client x)) (sym (eqb-true n 1 e)) h.1.0
each_actor P h (Agent n) e = subst (λ x. P (Agent x)) (sym (eqb-true n 0 e)) h.1.1.0
each_actor P h (Site n) e = subst (λ x. P (Site x)) (sym (eqb-true n 0 e)) h.1.1.1.0
each_actor P h (Scanner n) e = absurd (false≢true e)

-- the events in which a message is taken, by receiver
abbrev deliveries : Actor → List Event
deliveries to = map (λ from. Deliver to from) actors

-- what holds of each event in the list holds of each that is one of theirs
pub each_event : (P : Event → Type 0) → AllByRecursion P events → (e : Event) → is_event_of_them e ≡ true → P e
each_event P h (Deliver to from) e =
    let is = and_parts (is_one_of_them to) (is_one_of_them from) e in
    let taken = AllByRecursion-flat_map P deliveries actors (AllByRecursion-append P (flat_map deliveries actors) (Sync 0 ∷ Submit 1 ∷ []) h).0 in
    each_actor (λ b. P (Deliver to b)) (AllByRecursion-map P (λ b. Deliver to b) actors (each_actor (λ a. AllByRecursion P (deliveries a)) taken to is.0)) from is.1
each_event P h (Sync i) e =
    subst (λ x. P (Sync x)) (sym (eqb-true i 0 e)) (AllByRecursion-append P (flat_map deliveries actors) (Sync 0 ∷ Submit 1 ∷ []) h).1.0
each_event P h (Submit n) e =
    subst (λ x. P (Submit x)) (sym (eqb-true n 1 e)) (AllByRecursion-append P (flat_map deliveries actors) (Sync 0 ∷ Submit 1 ∷ []) h).1.1.0
each_event P h _ e = absurd (false≢true e)

-- ---- where none may happen

-- where a test keeps nothing of a list, each element fails it
filter_keeps_nothing : {A : Type 0} (test : A → Bool) (xs : List A) → filter test xs ≡ [] → AllByRecursion (λ x. test x ≡ false) xs
filter_keeps_nothing test [] e = tt
filter_keeps_nothing test (x ∷ xs) e =
    elim (cases_Bool (test x)) [
      | inl t ↦ absurd (omega (arith, ap length (ap (λ b. cond b (x ∷ filter test xs) (filter test xs)) (sym t) ∙ e)))
      | inr f ↦ (f, filter_keeps_nothing test xs (ap (λ b. cond b (x ∷ filter test xs) (filter test xs)) (sym f) ∙ e))
    ]

-- where only these events may happen, and none of them may, none may at all
pub IsQuiescent-enabled : (w : World) → ((e : Event) → can w e ≡ true → is_event_of_them e ≡ true) → enabled w ≡ [] → IsQuiescent w
IsQuiescent-enabled w only none e =
    elim (cases_Bool (can w e)) [
      | inl t ↦ each_event (λ x. can w x ≡ false) (filter_keeps_nothing (can w) events none) e (only e t)
      | inr f ↦ f
    ]
