-- A `&` to the memory is a `&` to its bytes. Assumes `Logic`.
use Prim.Native.Nat.{ℕ}
use contract.BorrowLft.{⊑_static}
use denote.Array.{Array}
use denote.Builtin.{u8}
use denote.Param.Shared.{Sharable, copy_shared, array_shared}
use denote.RawPtr.{RawPtr}
use denote.Shares.{Shares-less}
use denote.Struct.Field.{u8-field, array_field}
use denote.Struct.Laws.{u8-copy, field_copy}
use denote.Struct.Lending.{lent_at_shr_laws, Lends-lies, of_Lends}
use lib.ListN.{length}
use Rattle.core.specs.contracts.marker.PhantomData as marker
use Rattle.tuple_block.specs.contracts.memory.Memory as M
use Rattle.tuple_block.proofs.memory.Memory.TheLaw.Statement.{statement}

bytes_shared : (n : ℕ) → Sharable (array_field u8-field n)
bytes_shared n = array_shared u8-field (copy_shared u8-field u8-copy) n

pub shares : statement
shares =
    of_Lends M.struct (M.the_codes (marker.the_row RawPtr).coded) M.the_heap M.the_lent
    (λ d p. lent_at_shr_laws (Array u8 (length d.bytes)) (bytes_shared (length d.bytes)).shr_laws d.at d.bytes)
    (copy_shared (marker.the_field RawPtr) (field_copy (marker.the_type RawPtr) tt), tt)
    (λ K 𝓤 𝓛 d p.
    let R = Array u8 (length d.bytes) in
    let l = (M.the_row).lives in
    Lends-lies 𝓛 R l d.at d.bytes (Shares-less 𝓛 R R.lives l (⊑_static l) ((bytes_shared (length d.bytes)).shares K 𝓤 𝓛) d.bytes))
