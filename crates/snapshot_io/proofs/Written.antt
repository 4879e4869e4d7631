-- What the calls of a writer make of its file.
use Rattle.std.proofs.Common.{◌≡◌, ℕ, List, [], ◌∷◌, ◌++◌, append_assoc, append-nil, flat_map, length, Some, sym, ap, subst, ◌∙◌}
use Rattle.volt_disk.specs.declared.listing.Listing.{Listing}
use Rattle.volt_disk.specs.declared.listing.Listing.TheVariants.{Kept}
use Rattle.volt_disk.specs.File.{File, IsImage, settled}
use Rattle.volt_disk.specs.Effects.{synced, synced_if}
use Rattle.gate_log.specs.Log.{EachImage}
use Rattle.gate_log.proofs.Append.{settled-only}
use Rattle.snapshot_io.specs.Base.{Head, Base, end_mark, head_bytes, begun, base_bytes, BaseFits}
use Rattle.snapshot_io.specs.Reading.{base_of}
use Rattle.snapshot_io.specs.Writer.{HasBegun}
use Rattle.snapshot_io.proofs.Bases.{base_again}

-- the head alone
pub begun_head : (head : Head) (bytes : List ℕ) (old now : File) → old.bytes ≡ [] → now.bytes ≡ old.bytes ++ bytes → bytes ≡ head_bytes head → HasBegun head [] now
unfolding begun
begun_head head bytes old now blank written spelled =
    written ∙ ap (λ (b : List ℕ). b ++ bytes) blank ∙ spelled ∙ sym (append-nil (head_bytes head))

-- one chunk more
flat_more : (chunks : List (List ℕ)) (chunk : List ℕ) → flat_map (λ c. c) (chunks ++ chunk ∷ []) ≡ flat_map (λ c. c) chunks ++ chunk
flat_more [] chunk = append-nil chunk
flat_more (c ∷ chunks) chunk = ap (λ (r : List ℕ). c ++ r) (flat_more chunks chunk) ∙ sym (append_assoc c (flat_map (λ d. d) chunks) chunk)

pub begun_more : (head : Head) (chunks : List (List ℕ)) (chunk : List ℕ) (old now : File) → HasBegun head chunks old → now.bytes ≡ old.bytes ++ chunk → HasBegun head (chunks ++ chunk ∷ []) now
unfolding begun
begun_more head chunks chunk old now has written =
    written ∙ ap (λ (b : List ℕ). b ++ chunk) has
    ∙ append_assoc (head_bytes head) (flat_map (λ c. c) chunks) chunk
    ∙ ap (λ (r : List ℕ). head_bytes head ++ r) (sym (flat_more chunks chunk))

-- the end, and a sync
synced_kept : (f : File) → f.listing ≡ Kept → synced f ≡ settled f.bytes
synced_kept f kept =
    ap (λ (l : Listing). synced_if l f) kept
    ∙ ap (λ (l : Listing). record { bytes = f.bytes; least = length f.bytes; most = length f.bytes; written = []; listing = l }) kept

pub finished : (base : Base) (old put now : File) → HasBegun base.head base.chunks old → put.bytes ≡ old.bytes ++ end_mark → put.listing ≡ Kept → now ≡ synced put → now ≡ settled (base_bytes base)
unfolding base_bytes
finished base old put now has written kept is =
    is ∙ synced_kept put kept ∙ ap settled (written ∙ ap (λ (b : List ℕ). b ++ end_mark) has)

pub finished_reads : (base : Base) (now : File) → BaseFits base → now ≡ settled (base_bytes base) → EachImage now (λ image. base_of image ≡ Some base)
finished_reads base now fits is image one =
    ap base_of (settled-only (base_bytes base) image (subst (λ (f : File). IsImage f image) is one)) ∙ base_again base fits
