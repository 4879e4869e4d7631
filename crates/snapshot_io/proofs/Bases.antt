-- A base that was written is read again, and what is read as format 2 is spelled so.
use Rattle.std.proofs.Common.{◌≡◌, ℕ, zero, suc, ◌<◌, Bool, true, false, cond, eqb, List, [], ◌∷◌, ◌++◌, append_assoc, flat_map, length, Option, Some, None, refl, sym, ap, subst, ◌∙◌, arith}
use Rattle.std.proofs.lemmas.Bool.{eqb-true}
use Rattle.std.specs.List.{AllByRecursion}
use Rattle.volt_base.specs.Reading.{◌>>=◌}
use Rattle.volt_base.proofs.Fields.{IsBytes, bind_some, some_is}
use Rattle.snapshot_io.specs.Base.{Base, signature, end_mark, head_bytes, begun, base_bytes, BaseFits}
use Rattle.snapshot_io.specs.Chunks.{IsChunk, behind_chunk, chunk_at}
use Rattle.snapshot_io.specs.Reading.{byte_at, behind_these, none_left, chunks_from, chunks_of, head_at, base_by, base_of_format, format_at, base_of}
use Rattle.snapshot_io.proofs.Exact.{IsBytes-behind}
use Rattle.snapshot_io.proofs.ChunkLemmas.{chunk_exact, chunks_end, chunks_next}
use Rattle.snapshot_io.proofs.Heads.{fields_bytes, head_exact}

-- ---- the end

-- what was read up to these bytes began with them
these_is : (these bytes rest : List ℕ) → behind_these these bytes ≡ Some rest → bytes ≡ these ++ rest
these_is [] bytes rest e = some_is bytes rest e
these_is (x ∷ xs) [] rest e = absurd cc
these_is (x ∷ xs) (b ∷ bytes) rest e =
    let is = if_same (eqb b x) (behind_these xs bytes) rest e in
    let same : b ≡ x = eqb-true b x is.0 in
    rw same (ap (λ (r : List ℕ). x ∷ r) (these_is xs bytes rest is.1))
  where
    if_same : (t : Bool) (read : Option (List ℕ)) (rest : List ℕ) → cond t read None ≡ Some rest → (t ≡ true) × (read ≡ Some rest)
    if_same true read rest e = (refl, e)
    if_same false read rest e = absurd cc

left_none : (read : Option (List ℕ)) → none_left read ≡ true → read ≡ Some []
left_none None e = absurd cc
left_none (Some []) e = refl
left_none (Some (b ∷ bytes)) e = absurd cc

ends_is : (bytes : List ℕ) → none_left (behind_these end_mark bytes) ≡ true → bytes ≡ end_mark
ends_is bytes e = these_is end_mark bytes [] (left_none (behind_these end_mark bytes) e)

-- ---- chunks

abbrev concat : List (List ℕ) → List ℕ
concat chunks = flat_map (λ chunk. chunk) chunks

abbrev ChunksAre : List ℕ → List (List ℕ) → Type 0
ChunksAre bytes chunks = (bytes ≡ concat chunks ++ end_mark) × AllByRecursion IsChunk chunks

-- the end, or one chunk and the others
next_of : (t : Bool) (read : Option (List ℕ × List ℕ)) (others : List ℕ → Option (List (List ℕ))) (chunks : List (List ℕ)) → cond t (Some []) (read >>= λ chunk. others chunk.1 >>= λ more. Some (chunk.0 ∷ more)) ≡ Some chunks
    → (P : Type 0) → (t ≡ true → [] ≡ chunks → P) → ((x : List ℕ × List ℕ) (more : List (List ℕ)) → read ≡ Some x → others x.1 ≡ Some more → x.0 ∷ more ≡ chunks → P) → P
next_of true read others chunks e P ended more = ended refl (some_is [] chunks e)
next_of false read others chunks e P ended more =
    let a = bind_some read (λ chunk. others chunk.1 >>= λ more. Some (chunk.0 ∷ more)) chunks e in
    let b = bind_some (others a.0.1) (λ more. Some (a.0.0 ∷ more)) chunks a.2 in
    more a.0 b.0 a.1 b.1 (some_is (a.0.0 ∷ b.0) chunks b.2)

chunks_take : (n : ℕ) (bytes : List ℕ) (chunks : List (List ℕ)) → IsBytes bytes → chunks_from n bytes ≡ Some chunks → ChunksAre bytes chunks
chunks_take zero bytes chunks fits e = absurd cc
chunks_take (suc n) bytes chunks fits e =
    next_of (none_left (behind_these end_mark bytes)) (chunk_at bytes) (chunks_from n) chunks e (ChunksAre bytes chunks)
    (λ ended none. subst (λ (cs : List (List ℕ)). ChunksAre bytes cs) none (ends_is bytes ended, tt))
    (λ x more found others is.
    let t = chunk_exact.takes bytes x fits found in
    let rest = chunks_take n x.1 more t.0.rest_fits others in
    subst (λ (cs : List (List ℕ)). ChunksAre bytes cs) is
    (t.0.parts ∙ ap (λ (r : List ℕ). x.0 ++ r) rest.0 ∙ sym (append_assoc x.0 (concat more) end_mark), (t.1, rest.1)))

-- a chunk is no end
never : (x : List ℕ × List ℕ) → chunk_at end_mark ≡ Some x → ⊥
unfolding chunk_at behind_chunk
never x e = absurd cc

no_end : (bytes chunk rest : List ℕ) → chunk_at bytes ≡ Some (chunk, rest) → none_left (behind_these end_mark bytes) ≡ false
no_end bytes chunk rest found = by (none_left (behind_these end_mark bytes)) refl
  where
    by : (t : Bool) → none_left (behind_these end_mark bytes) ≡ t → t ≡ false
    by true e = absurd (never (chunk, rest) (ap chunk_at (sym (ends_is bytes e)) ∙ found))
    by false e = refl

IsBytes-all : (bytes : List ℕ) → AllByRecursion (λ b. b < 256) bytes → IsBytes bytes
IsBytes-all [] all i = omega arith
IsBytes-all (b ∷ bytes) all zero = all.0
IsBytes-all (b ∷ bytes) all (suc i) = IsBytes-all bytes all.1 i

IsBytes-append : (a b : List ℕ) → IsBytes a → IsBytes b → IsBytes (a ++ b)
IsBytes-append [] b p q i = q i
IsBytes-append (x ∷ a) b p q zero = p 0
IsBytes-append (x ∷ a) b p q (suc i) = IsBytes-append a b (λ j. p (suc j)) q i

end_bytes : IsBytes end_mark
end_bytes = IsBytes-all end_mark (omega arith, (omega arith, (omega arith, (omega arith, (omega arith, (omega arith, tt))))))

rest_bytes : (chunks : List (List ℕ)) → AllByRecursion IsChunk chunks → IsBytes (concat chunks ++ end_mark)
rest_bytes [] fits = end_bytes
rest_bytes (chunk ∷ chunks) fits =
    rw (append_assoc chunk (concat chunks) end_mark) (IsBytes-append chunk (concat chunks ++ end_mark) fits.0.are_bytes (rest_bytes chunks fits.1))

chunks_again : (chunks : List (List ℕ)) → AllByRecursion IsChunk chunks → chunks_of (concat chunks ++ end_mark) ≡ Some chunks
chunks_again [] fits = chunks_end end_mark refl
chunks_again (chunk ∷ chunks) fits =
    let rest : List ℕ = concat chunks ++ end_mark in
    let read : chunk_at (chunk ++ rest) ≡ Some (chunk, rest) = chunk_exact.again chunk rest fits.0 in
    ap chunks_of (append_assoc chunk (concat chunks) end_mark)
    ∙ chunks_next (chunk ++ rest) chunk rest (IsBytes-append chunk rest fits.0.are_bytes (rest_bytes chunks fits.1)) (no_end (chunk ++ rest) chunk rest read) read
    ∙ ap (λ (o : Option (List (List ℕ))). o >>= λ more. Some (chunk ∷ more)) (chunks_again chunks fits.1)

-- ---- the file

-- its parts, one behind another
base_parts : (b : Base) → base_bytes b ≡ signature ++ 2 ∷ (fields_bytes b.head ++ (concat b.chunks ++ end_mark))
unfolding base_bytes begun head_bytes
base_parts b =
    append_assoc (signature ++ 2 ∷ fields_bytes b.head) (concat b.chunks) end_mark
    ∙ append_assoc (signature ++ 2 ∷ []) (fields_bytes b.head) (concat b.chunks ++ end_mark)

pub base_again : (b : Base) → BaseFits b → base_of (base_bytes b) ≡ Some b
unfolding base_of format_at
base_again b fits =
    ap base_of (base_parts b)
    ∙ rw (head_exact.again b.head (concat b.chunks ++ end_mark) fits.head, chunks_again b.chunks fits.chunks) refl

byte_is : (bytes : List ℕ) (x : ℕ × List ℕ) → byte_at bytes ≡ Some x → bytes ≡ x.0 ∷ x.1
byte_is [] x e = absurd cc
byte_is (b ∷ bytes) x e = ap (λ (y : ℕ × List ℕ). y.0 ∷ y.1) (some_is (b, bytes) x e)

format_is : (bytes : List ℕ) (x : ℕ × List ℕ) → format_at bytes ≡ Some x → bytes ≡ signature ++ x.0 ∷ x.1
unfolding format_at
format_is bytes x e =
    let a = bind_some (behind_these signature bytes) byte_at x e in
    these_is signature bytes a.0 a.1 ∙ ap (λ (r : List ℕ). signature ++ r) (byte_is a.0 x a.2)

-- what stands behind the number of a format
pub by_format : (bytes : List ℕ) (x : ℕ × List ℕ) (b : Base) → format_at bytes ≡ Some x → base_of bytes ≡ Some b → base_of_format x ≡ Some b
unfolding base_of
by_format bytes x b format e = ap (λ (o : Option (ℕ × List ℕ)). o >>= base_of_format) (sym format) ∙ e

pub base_takes : (bytes rest : List ℕ) (b : Base) → IsBytes bytes → format_at bytes ≡ Some (2, rest) → base_of bytes ≡ Some b → (bytes ≡ base_bytes b) × BaseFits b
unfolding chunks_of
base_takes bytes rest b fits format e =
    let parts = format_is bytes (2, rest) format in
    let rest_fits : IsBytes rest = IsBytes-behind (signature ++ 2 ∷ []) rest bytes parts fits in
    let read : base_by head_at rest ≡ Some b = by_format bytes (2, rest) b format e in
    let a = bind_some (head_at rest) (λ head. chunks_of head.1 >>= λ chunks. Some (record { head = head.0; chunks = chunks })) b read in
    let c = bind_some (chunks_of a.0.1) (λ chunks. Some (record { head = a.0.0; chunks = chunks })) b a.2 in
    let t = head_exact.takes rest a.0 rest_fits a.1 in
    let u = chunks_take (length a.0.1) a.0.1 c.0 t.0.rest_fits c.1 in
    let made : Base = record { head = a.0.0; chunks = c.0 } in
    let whole : bytes ≡ base_bytes made =
    parts ∙ ap (λ (r : List ℕ). signature ++ 2 ∷ r) (t.0.parts ∙ ap (λ (r : List ℕ). fields_bytes a.0.0 ++ r) u.0) ∙ sym (base_parts made) in
    let same : made ≡ b = some_is made b c.2 in
    subst (λ (x : Base). (bytes ≡ base_bytes x) × BaseFits x) same (whole, record { head = t.1; chunks = u.1 })
