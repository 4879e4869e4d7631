-- The queues of a map of routes, and what they are with a message more or less in one of them.
use Rattle.std.proofs.Common.{◌≡◌, ◌==◌, Bool, true, false, not, ℕ, cond, ◌&&◌, List, [], ◌∷◌, ◌++◌, Option, Some, None, refl, ap, sym, ◌∙◌, inl, inr, arith, Global, length, drop}
use Rattle.std.proofs.lemmas.Bool.{cases_Bool}
use Rattle.std.proofs.lemmas.Bool.Decides.{nat_tests}
use Rattle.std.proofs.lemmas.List.{append-nil}
use Rattle.std.specs.BTreeMap.{is_at}
use Rattle.std.specs.Map.{lookup, remove_entry}
use Rattle.std.specs.BTreeMap.{insert_entry}
use Rattle.std.specs.Ordering.{match_ordering}
use Rattle.std.specs.Prelude.{is_some, slice_get}
use Rattle.std.specs.Option.{unwrap_or, option_to_list}
use Rattle.std.specs.declared.cmp.Ordering.{Ordering}
use Rattle.std.specs.declared.cmp.Ordering.TheVariants.{Less, Equal, Greater}
use Rattle.std.proofs.lemmas.Bool.{false≢true}
use Rattle.std.specs.declared.collections.VecDeque.{VecDeque}
use Rattle.volt_wire.specs.declared.actor.Actor.{Actor}
use Rattle.one_host_model.specs.declared.message.Msg.{Msg}
use Rattle.one_host_model.specs.Actors.{same, only}
use Rattle.one_host_model.specs.World.{took, sent, rest, is_some_message}
use Rattle.one_host_model.proofs.Actors.{same-true}
use Rattle.cluster_core.specs.declared.route.Route.{Route}
use Rattle.cluster_core.specs.contracts.route.RouteOrd.TheImpl.{cmp-value}
use Rattle.cluster_core.specs.Channels.{queue_of, shown, first_message}
use Rattle.cluster_core.proofs.RouteLemmas.{route_at}

abbrev pub Entries : Type 0
Entries = List (Route × VecDeque Msg Global)

abbrev pub items_of : Option (VecDeque Msg Global) → List Msg
items_of None = []
items_of (Some queue) = queue.items

abbrev pub route : Actor → Actor → Route
route to from = record { to = to; from = from }

items_of-cond : (t : Bool) (q : VecDeque Msg Global) (o : Option (VecDeque Msg Global)) → items_of (cond t (Some q) o) ≡ cond t q.items (items_of o)
items_of-cond true q o = refl
items_of-cond false q o = refl

-- a queue is what the map has at its route
pub queue_of-shown : (es : Entries) (from to : Actor) → queue_of (shown es) from to ≡ items_of (lookup (is_at (cmp-value.it (route to from))) es)
queue_of-shown [] from to = refl
queue_of-shown (e ∷ es) from to =
    ap (λ (xs : List Msg). cond (same to e.0.to && same from e.0.from) e.1.items xs) (queue_of-shown es from to)
    ∙ ap (λ (t : Bool). cond t e.1.items (items_of (lookup (is_at (cmp-value.it (route to from))) es))) (sym (route_at (route to from) e.0))
    ∙ sym (items_of-cond (is_at (cmp-value.it (route to from)) e.0) e.1 (lookup (is_at (cmp-value.it (route to from))) es))

-- the channels with this queue on one route
abbrev pub with_queue : (Actor → Actor → List Msg) → Route → List Msg → Actor → Actor → List Msg
with_queue channel route queue from to = cond (same route.to to && same route.from from) queue (channel from to)

-- what a map has after a queue was put in, seen as queues
pub with_queue-shown : (old new : Entries) (r : Route) (o : Option (VecDeque Msg Global))
    → ((q : Route) → lookup (is_at (cmp-value.it q)) new ≡ cond (is_at (cmp-value.it r) q) o (lookup (is_at (cmp-value.it q)) old))
    → (f t : Actor) → queue_of (shown new) f t ≡ with_queue (queue_of (shown old)) r (items_of o) f t
with_queue-shown old new r o h f t =
    queue_of-shown new f t
    ∙ ap items_of (h (route t f))
    ∙ ap (λ (b : Bool). items_of (cond b o (lookup (is_at (cmp-value.it (route t f))) old))) (route_at r (route t f))
    ∙ chosen (same r.to t && same r.from f) o (lookup (is_at (cmp-value.it (route t f))) old)
    ∙ ap (λ (xs : List Msg). cond (same r.to t && same r.from f) (items_of o) xs) (sym (queue_of-shown old f t))
  where
    chosen : (b : Bool) (x y : Option (VecDeque Msg Global)) → items_of (cond b x y) ≡ cond b (items_of x) (items_of y)
    chosen true x y = refl
    chosen false x y = refl

-- where the queue has a message more
pub pushed_is_sent : (channel : Actor → Actor → List Msg) (from to : Actor) (m : Msg) (f t : Actor)
    → with_queue channel (route to from) (channel from to ++ m ∷ []) f t ≡ sent channel from (only to m) f t
pushed_is_sent channel from to m f t =
    elim (cases_Bool (same to t)) [
      | inl a ↦ elim (cases_Bool (same from f)) [
        | inl b ↦ rw (a, b) (ap (λ (x : Actor). channel x to ++ m ∷ []) (same-true from f b) ∙ ap (λ (x : Actor). channel f x ++ m ∷ []) (same-true to t a))
        | inr b ↦ rw (a, b) refl
      ]
      | inr a ↦ elim (cases_Bool (same from f)) [
        | inl b ↦ rw (a, b) (sym (append-nil (channel f t)))
        | inr b ↦ rw (a, b) refl
      ]
    ]

-- where the queue has lost its first message
pub popped_is_took : (channel : Actor → Actor → List Msg) (from to : Actor) (f t : Actor)
    → with_queue channel (route to from) (rest (channel from to)) f t ≡ took channel from to f t
popped_is_took channel from to f t =
    elim (cases_Bool (same to t)) [
      | inl a ↦ elim (cases_Bool (same from f)) [
        | inl b ↦ rw (a, b) (ap (λ (x : Actor). rest (channel x to)) (same-true from f b) ∙ ap (λ (x : Actor). rest (channel f x)) (same-true to t a))
        | inr b ↦ rw (a, b) refl
      ]
      | inr a ↦ rw a refl
    ]

pub drop-one : (xs : List Msg) → drop 1 xs ≡ rest xs
drop-one [] = refl
drop-one (x ∷ xs) = refl

-- whether a queue has a message, by its length
pub some-by_length : (ms : List Msg) (len : ℕ) → length ms ≡ len → is_some_message ms ≡ not (len == 0)
some-by_length [] len e = grind (arith, nat_tests)
some-by_length (m ∷ ms) len e = grind (arith, nat_tests)

-- a queue that may not be there, and else is empty
pub items_of-unwrap_or : (o : Option (VecDeque Msg Global)) (none : VecDeque Msg Global) → none.items ≡ [] → (unwrap_or o none).items ≡ items_of o
items_of-unwrap_or None none is = is
items_of-unwrap_or (Some queue) none is = refl

-- what is taken of a queue is its first message
pub first_of-pop : (ms left : List Msg) (o : Option Msg) → ms ≡ option_to_list o ++ left → left ≡ drop 1 ms → o ≡ first_message ms
first_of-pop [] left None is rest = refl
first_of-pop (m ∷ ms) left None is rest = absurd (let same = ap length is in let less = ap length rest in omega arith)
first_of-pop ms left (Some m) is rest = rw is refl
