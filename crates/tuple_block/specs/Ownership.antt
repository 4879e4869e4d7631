-- Bytes at a pointer: what their owner owns, and what a `&` to it lends.
use Rattle.std.specs.Prelude.{ℕ, List, length}
use base.Fraction.{full_share}
use base.Fml.{Lft, Fml}
use mir.Syntax.{Ty, ty_array, ty_int, w8}
use denote.Array.{Array}
use denote.Builtin.{u8}
use denote.RawPtr.{Ptr, lies_at}
use denote.Struct.Lending.{lent_at}

-- the type that a block of so many bytes is allocated for
abbrev pub block_type : ℕ → Ty
block_type len = ty_array (ty_int w8) len

abbrev pub bytes_at : Ptr → List ℕ → Fml
bytes_at p bytes = lies_at (Array u8 (length bytes)) full_share p bytes

abbrev pub bytes_lent : Ptr → List ℕ → Lft → Fml
bytes_lent p bytes = lent_at (Array u8 (length bytes)) p bytes
