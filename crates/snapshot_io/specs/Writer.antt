-- A base under way in a file of a disk.
use Rattle.std.specs.Prelude.{◌≡◌, ℕ, List, length}
use Rattle.volt_disk.specs.File.{File}
use Rattle.volt_disk.specs.declared.listing.Listing.TheVariants.{Kept}
use Rattle.snapshot_io.specs.Base.{Head, begun}
use Rattle.snapshot_io.specs.declared.writing.BaseWriter.{BaseWriter}

-- the writer goes on at the end of the file, which isn't to be removed
pub record IsAtEnd (writer : BaseWriter) (f : File) : Type 0 where
  pub listed : f.listing ≡ Kept
  pub ends : writer.end ≡ length f.bytes

-- what a read gives of the file is the head and these chunks; what a crash leaves of it isn't said
abbrev pub HasBegun : Head → List (List ℕ) → File → Type 0
HasBegun head chunks f = f.bytes ≡ begun head chunks
