-- The parts of an allocation may cross threads: its bytes always, the right to free it where the allocator frees on any thread.
use lib.ListN.{length}
use denote.Array.{Array}
use denote.Builtin.{u8}
use denote.RattleType.{RattleType}
use denote.Param.Send.{IsSend, IsSync, AllSend, owning_send, struct_send, struct_sync, array_send, array_sync, sendable}
use denote.Struct.Owning.{shape, fields, to}
use denote.Struct.Struct.{exits_of}
use Rattle.core.specs.declared.alloc.Allocator.{Ghosts}
use Rattle.std_alloc.proofs.SendSync.{FreesAnywhere, quiet, lies, seen}
use Rattle.tuple_block.specs.Ownership.{block_type}
use Rattle.tuple_block.specs.contracts.memory.Memory as M
use Rattle.tuple_block.specs.contracts.memory.Allocation as D

byte-send : IsSend u8
byte-send = search sendable

byte-sync : IsSync u8
byte-sync = search sendable

pub memory-send : IsSend M.the_row
memory-send =
    let O = M.the_type in
    let all : AllSend (fields O) = (search sendable, tt) in
    owning_send O all (λ d. lies (Array u8 (length d.bytes)) (array_send u8 (length d.bytes) byte-send) d.at d.bytes)
    (λ k. quiet (to O) (exits_of k (fields O)) ((struct_send (shape O) all).leaving k))

pub memory-sync : IsSync M.the_row
memory-sync =
    let O = M.the_type in record {
      shared = λ d b o κ. ((struct_sync (shape O) (search sendable, tt)).shared (to O d) b o κ, seen (Array u8 (length d.bytes)) (array_sync u8 (length d.bytes) byte-sync) d.at d.bytes κ);
    }

module _ (A : RattleType) (g : Ghosts A.Denot) where
  pub allocation-send : FreesAnywhere A.Denot g → IsSend (D.the_row A g)
  allocation-send anywhere =
      let O = D.the_type A g in
      let all : AllSend (fields O) = (search sendable, tt) in
      owning_send O all (λ d. anywhere.frees d.alloc (block_type d.len) d.at)
      (λ k. quiet (to O) (exits_of k (fields O)) ((struct_send (shape O) all).leaving k))

  pub allocation-sync : IsSync (D.the_row A g)
  allocation-sync =
      let O = D.the_type A g in
      record { shared = λ d b o κ. ((struct_sync (shape O) (search sendable, tt)).shared (to O d) b o κ, tt) }
