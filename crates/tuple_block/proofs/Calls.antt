-- The calls of an allocator for a block of bytes: the block's layout, and what a contract says of the allocator's lifetime. Assumes `Logic`.
use mathlib.Core.Path.{◌≡◌, ap, ◌∙◌}
use mathlib.Core.List.{[], ◌∷◌}
use Prim.Native.Nat.{ℕ, ◌<◌, ◌^◌}
use native.Mathlib.Nat.{mul-one}
use lib.Dec.{lit<}
use seplogic.Ra.Ura.{Ura}
use base.Logic.{SProp, ent, sep, via, snd∗, fst∗, mono_r}
use contract.Monad.{fact, fact_use}
use mir.Syntax.{Args, a_type, dcons, dnil}
use prog.Memory.{size, align, capped}
use prog.Capped.{capped_is}
use denote.Param.{param, bounded}
use denote.RattleType.{RattleType}
use Rattle.core.proofs.alloc.Calls.{Al}
use Rattle.tuple_block.specs.Ownership.{block_type}
use Rattle.tuple_block.specs.contracts.memory.Allocation as D

pub block_size : (n : ℕ) → n < 2 ^ 64 → capped (size (block_type n)) ≡ n
block_size n fits = ap capped (mul-one n) ∙ capped_is n fits

pub block_align : (n : ℕ) → capped (align (block_type n)) ≡ 1
block_align n = capped_is 1 (lit< tt)

module _ (Z : Al) where
  abbrev pub args : Args
  args = bounded (a_type ∷ []) (Z.row, tt) (dcons Z.d (dcons Z.drops dnil))

  -- the allocator's type, as the one parameter
  abbrev pub P : RattleType
  P = param 0 Z.row

  abbrev pub Right : RattleType
  Right = D.the_row P Z.g

-- of a `requires` under one type parameter, the fact about its lifetime
pub within : {M : Type 1} (𝓤 : Ura M) (φ : Type 0) (E R : SProp 𝓤) {Q : SProp 𝓤} → (φ → ent 𝓤 (sep 𝓤 E R) Q) → ent 𝓤 (sep 𝓤 E (sep 𝓤 (fact 𝓤 φ) R)) Q
within 𝓤 φ E R k =
    let S : SProp 𝓤 = sep 𝓤 (fact 𝓤 φ) R in
    fact_use 𝓤 φ (via 𝓤 S (snd∗ 𝓤 E S) (fst∗ 𝓤 (fact 𝓤 φ) R)) (λ x. via 𝓤 (sep 𝓤 E R) (mono_r 𝓤 E {Q = S} {Q' = R} (snd∗ 𝓤 (fact 𝓤 φ) R)) (k x))
