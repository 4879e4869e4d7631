-- What messages behind others, and messages that are taken, do to what is said of channels.
use Rattle.std.proofs.Common.{List, [], ◌∷◌, ◌++◌, inl, inr}
use Rattle.std.specs.Prelude.{ℕ}
use Rattle.std.specs.List.{AllByRecursion}
use Rattle.volt_wire.specs.declared.message.Msg.TheVariants as msg
use Rattle.cluster_model.specs.Letters.{Letter}
use Rattle.cluster_model.specs.World.{rest}
use Rattle.word_laws.specs.Histories.{ClosesFrom, InOrder, TellsAdmission, IsClosed, Telling, ClosedUnderWay}
use Rattle.cluster_steps.proofs.Lists.{all-append}

-- ---- messages behind others

-- what tells a start of an admission still does
pub telling-left : (c j i : ℕ) (xs ys : List Letter) → Telling c j i xs → Telling c j i (xs ++ ys)
telling-left c j i [] ys t = absurd t
telling-left c j i (x ∷ xs) ys (inl k) = inl k
telling-left c j i (x ∷ xs) ys (inr k) = inr (k.0, telling-left c j i xs ys k.1)

-- and so does a new message, where no Closed of the initiator is ahead of it
pub telling-end : (c j i : ℕ) (ls : List Letter) (l : Letter) → AllByRecursion (λ x. IsClosed i x → ⊥) ls → TellsAdmission c j l → Telling c j i (ls ++ l ∷ [])
telling-end c j i [] l n t = inl t
telling-end c j i (x ∷ xs) l n t = inr (n.0, telling-end c j i xs l n.1 t)

-- a Closed is still there
pub closing-left : (o : ℕ) (xs ys : List Letter) → ClosedUnderWay o xs → ClosedUnderWay o (xs ++ ys)
closing-left o [] ys t = absurd t
closing-left o (x ∷ xs) ys (inl k) = inl k
closing-left o (x ∷ xs) ys (inr k) = inr (closing-left o xs ys k)

pub closing-right : (o : ℕ) (xs ys : List Letter) → ClosedUnderWay o ys → ClosedUnderWay o (xs ++ ys)
closing-right o [] ys t = t
closing-right o (x ∷ xs) ys t = inr (closing-right o xs ys t)

-- messages in order, behind which no earlier start is closed
pub order-append : (began : List ℕ) (xs ys : List Letter) → InOrder began xs → InOrder began ys → ((j : ℕ) → AllByRecursion (ClosesFrom began j) ys) → InOrder began (xs ++ ys)
order-append began [] ys h k c = k
order-append began (x ∷ xs) ys h k c = (
  (elim x.body as (λ m. InOrder began (record x { body = m } ∷ xs)
      → (elim m as (λ _. Type 0) [ msg.Admit j ↦ AllByRecursion (ClosesFrom began j) (xs ++ ys) | _ ↦ Unit {0} ])) [
        | msg.Admit j ↦ λ p. all-append (ClosesFrom began j) xs ys p.0 (c j)
        | m ↦ λ p. tt
      ] h),
  order-append began xs ys h.1 k c,
)

pub order-rest : (began : List ℕ) (ls : List Letter) → InOrder began ls → InOrder began (rest ls)
order-rest began [] h = tt
order-rest began (l ∷ ls) h = h.1
