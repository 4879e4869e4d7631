-- What contracts see of a list of states, after a write to one of them.
use Rattle.std.proofs.Common.{◌≡◌, ℕ, ◌<◌, Bool, false, List, length, get_or, set, map, Some, option_map, sym, ap, ◌∙◌, arith}
use Rattle.std.specs.List.{slice_get}
use Rattle.std.proofs.lemmas.List.{map-set, set-get_or, length-map, get_or-map}
use Rattle.std.proofs.lemmas.Option.{slice_get-map, slice_get-get_or}
use Rattle.tuple_block.specs.Tuples.{Tuples}
use Rattle.cow_scan.specs.Cow.{Cow, with_owned, with_block, is_shared_at}
use Rattle.cow_scan.specs.State.{block_of, is_shared}
use Rattle.cow_scan.specs.declared.state.State.{State}
use Rattle.cow_scan.specs.declared.state.State.TheVariants.{Owned}

-- the blocks that the states are seen as
abbrev pub seen : ℕ → List State → Cow
seen width states = record { width = width; blocks = map block_of states; shared = map is_shared states }

same_cow : (width : ℕ) (blocks others : List Tuples) (shared flags : List Bool) → blocks ≡ others → shared ≡ flags
    → ◌≡◌ {A = Cow} (record { width = width; blocks = blocks; shared = shared }) (record { width = width; blocks = others; shared = flags })
same_cow width blocks others shared flags same agree =
    let f : List Tuples → List Bool → Cow = λ b s. record { width = width; blocks = b; shared = s } in
    ap (λ b. f b shared) same ∙ ap (f others) agree

-- a flag that is false is set to false
shared-owned : (flags : List Bool) (n : ℕ) → get_or flags n false ≡ false → set flags n false ≡ flags
shared-owned flags n owned = ap (set flags n) (sym owned) ∙ set-get_or flags n false

pub seen-owned : (width n : ℕ) (states : List State) → is_shared_at (seen width states) n ≡ false
    → seen width states ≡ with_owned (seen width states) n
seen-owned width n states owned =
    same_cow width _ _ _ _ (λ i. map block_of states) (sym (shared-owned (map is_shared states) n owned))

pub seen-lent : (width n : ℕ) (states : List State) (block : Tuples) → is_shared_at (seen width states) n ≡ false
    → seen width (set states n (Owned block)) ≡ with_block (seen width states) n block
seen-lent width n states block owned =
    same_cow width _ _ _ _ (map-set block_of states n (Owned block))
    (map-set is_shared states n (Owned block) ∙ shared-owned (map is_shared states) n owned)

pub seen-copied : (width n : ℕ) (states : List State) (block : Tuples) (d : Tuples) → get_or (map block_of states) n d ≡ block
    → seen width (set states n (Owned block)) ≡ with_owned (seen width states) n
seen-copied width n states block d same =
    same_cow width _ _ _ _ (map-set block_of states n (Owned block) ∙ (ap (set (map block_of states) n) (sym same) ∙ set-get_or (map block_of states) n d))
    (map-set is_shared states n (Owned block))

-- ---- a state that was read
module _ (states : List State) (n : ℕ) (state : State) (within : n < length (map block_of states)) (read : state ≡ get_or states n state) where
  pub block_read : (block : Tuples) → block ≡ block_of state → slice_get (map block_of states) n ≡ Some block
  block_read block is =
      slice_get-map block_of states n
      ∙ (ap (option_map block_of) (slice_get-get_or states n state (omega (arith, length-map states block_of)))
      ∙ ap Some (ap block_of (sym read) ∙ sym is))

  pub block_at_read : (d : Tuples) → get_or (map block_of states) n d ≡ block_of state
  block_at_read d = get_or-map block_of states n state d (omega (arith, length-map states block_of)) ∙ ap block_of (sym read)

  pub shared_read : get_or (map is_shared states) n false ≡ is_shared state
  shared_read = get_or-map is_shared states n state false (omega (arith, length-map states block_of)) ∙ ap is_shared (sym read)
