-- Chunks, found one behind another.
use Rattle.std.proofs.Common.{◌≡◌, ℕ, zero, suc, ◌-◌, ◌^◌, ◌<◌, ◌≤◌, Bool, true, false, cond, eqb, List, [], ◌∷◌, ◌++◌, append_assoc, append-nil, length, length-append, take, drop, Option, Some, None, refl, sym, ap, subst, ◌∙◌, arith}
use Rattle.std.specs.Prelude.{option_map}
use Rattle.std.specs.Int.{w16, to_be_bytes}
use Rattle.std.proofs.lemmas.List.{take_at, drop_at}
use Rattle.volt_base.specs.Reading.{◌>>=◌, number_at}
use Rattle.volt_base.proofs.Fields.{IsBytes, IsBytes-rest, bind_some, some_is, wide16, number_takes, number_again}
use Rattle.volt_value.specs.declared.value.Value.{Value}
use Rattle.volt_value.specs.Values.{IsValue}
use Rattle.volt_value.specs.Spelling.{value_bytes}
use Rattle.volt_value.specs.Reading.{value_at}
use Rattle.volt_value.proofs.ValueLemmas.{begins, value_again}
use Rattle.snapshot_io.specs.Base.{end_mark}
use Rattle.snapshot_io.specs.Chunks.{behind_value, behind_all, behind_row, behind_chunk, chunk_at, IsChunk}
use Rattle.snapshot_io.specs.Reading.{behind_these, none_left, chunks_from, chunks_of}
use Rattle.snapshot_io.proofs.Exact.{IsBytes-behind, Taken, Exact}

-- ---- what stands behind something stands there whatever it is

-- the front is what was passed over, and it is passed over ahead of anything
pub record Cut (behind : List ℕ → Option (List ℕ)) (bytes rest : List ℕ) : Type 0 where
  pub front : List ℕ
  pub parts : bytes ≡ front ++ rest
  pub again : (more : List ℕ) → behind (front ++ more) ≡ Some more

map_some : {A B : Type 0} (f : A → B) (read : Option A) (y : B) → option_map f read ≡ Some y → (x : A) × (read ≡ Some x) × (f x ≡ y)
map_some f None y e = absurd cc
map_some f (Some x) y e = (x, refl, some_is (f x) y e)

pub value_passed : (v : Value) (more : List ℕ) → IsValue v → behind_value (value_bytes v ++ more) ≡ Some more
unfolding behind_value
value_passed v more is =
    ap (option_map (λ (f : Value × ℕ). drop f.1 (value_bytes v ++ more))) (value_again v more is)
    ∙ ap (λ (r : List ℕ). Some r) (drop_at (value_bytes v) more (length (value_bytes v)) refl)

cut_value : (bytes rest : List ℕ) → IsBytes bytes → behind_value bytes ≡ Some rest → Cut behind_value bytes rest
unfolding behind_value
cut_value bytes rest fits e =
    let found = map_some (λ (f : Value × ℕ). drop f.1 bytes) (value_at bytes) rest e in
    let is = begins bytes found.0 fits found.1 in
    record {
      front = value_bytes found.0.0;
      parts = is.spelled ∙ ap (λ (r : List ℕ). value_bytes found.0.0 ++ r) found.2;
      again = λ more. value_passed found.0.0 more is.is_value;
    }

abbrev pub Cuts : (List ℕ → Option (List ℕ)) → Type 0
Cuts behind = (bytes rest : List ℕ) → IsBytes bytes → behind bytes ≡ Some rest → Cut behind bytes rest

cut_all : (behind : List ℕ → Option (List ℕ)) → Cuts behind → (n : ℕ) → Cuts (behind_all behind n)
cut_all behind cuts zero bytes rest fits e = record { front = []; parts = some_is bytes rest e; again = λ more. refl }
cut_all behind cuts (suc n) bytes rest fits e =
    let a = bind_some (behind bytes) (λ r. behind_all behind n r) rest e in
    let first = cuts bytes a.0 fits a.1 in
    let others = cut_all behind cuts n a.0 rest (IsBytes-behind first.front a.0 bytes first.parts fits) a.2 in
    record {
      front = first.front ++ others.front;
      parts = first.parts ∙ ap (λ (r : List ℕ). first.front ++ r) others.parts ∙ sym (append_assoc first.front others.front rest);
      again = λ more.
          ap (behind_all behind (suc n)) (append_assoc first.front others.front more)
          ∙ rw (first.again (others.front ++ more)) (others.again more);
    }

cut_row : Cuts behind_row
unfolding behind_row
cut_row [] rest fits e = absurd cc
cut_row (count ∷ bytes) rest fits e =
    let row = cut_all behind_value cut_value count bytes rest (IsBytes-rest count bytes fits) e in
    record {
      front = count ∷ row.front;
      parts = ap (λ (r : List ℕ). count ∷ r) row.parts;
      again = row.again;
    }

if_table : {A : Type 0} (b : Bool) (read : Option A) (x : A) → cond b None read ≡ Some x → (b ≡ false) × (read ≡ Some x)
if_table true read x e = absurd cc
if_table false read x e = (refl, e)

two_and : (a b c rest : List ℕ) → (a ++ (b ++ c)) ++ rest ≡ a ++ (b ++ (c ++ rest))
two_and a b c rest = simp append_assoc

joined : (bytes first second table count front rest : List ℕ) → bytes ≡ table ++ first → first ≡ count ++ second → second ≡ front ++ rest → bytes ≡ (table ++ (count ++ front)) ++ rest
joined bytes first second table count front rest p q r =
    p ∙ ap (λ (l : List ℕ). table ++ l) (q ∙ ap (λ (l : List ℕ). count ++ l) r) ∙ sym (two_and table count front rest)

pub passed_over : (t n : ℕ) (front more : List ℕ) → t < 2 ^ 16 → n < 2 ^ 16 → eqb t 65535 ≡ false → behind_all behind_row n (front ++ more) ≡ Some more
    → behind_chunk ((to_be_bytes w16 t ++ (to_be_bytes w16 n ++ front)) ++ more) ≡ Some more
unfolding behind_chunk
passed_over t n front more t_fits n_fits some rows =
    ap behind_chunk (two_and (to_be_bytes w16 t) (to_be_bytes w16 n) front more)
    ∙ rw (number_again w16 (2 ^ 16) wide16 t (to_be_bytes w16 n ++ (front ++ more)) t_fits, number_again w16 (2 ^ 16) wide16 n (front ++ more) n_fits, some) rows

-- a chunk takes a byte at least
pub record CutChunk (bytes rest : List ℕ) : Type 0 where
  pub cut : Cut behind_chunk bytes rest
  pub some : 0 < length cut.front

pub cut_chunk : (bytes rest : List ℕ) → IsBytes bytes → behind_chunk bytes ≡ Some rest → CutChunk bytes rest
unfolding behind_chunk
cut_chunk bytes rest fits e =
    let a = bind_some (number_at w16 bytes) (λ table. number_at w16 table.1 >>= λ count. cond (eqb table.0 65535) None (behind_all behind_row count.0 count.1)) rest e in
    let b = bind_some (number_at w16 a.0.1) (λ count. cond (eqb a.0.0 65535) None (behind_all behind_row count.0 count.1)) rest a.2 in
    let c = if_table (eqb a.0.0 65535) (behind_all behind_row b.0.0 b.0.1) rest b.2 in
    let t0 = number_takes w16 (2 ^ 16) wide16 bytes a.0.0 a.0.1 fits a.1 in
    let t1 = number_takes w16 (2 ^ 16) wide16 a.0.1 b.0.0 b.0.1 t0.0.rest_fits b.1 in
    let rows = cut_all behind_row cut_row b.0.0 b.0.1 rest t1.0.rest_fits c.1 in
    let table = to_be_bytes w16 a.0.0 in
    let count = to_be_bytes w16 b.0.0 in
    record {
      cut = record {
        front = table ++ (count ++ rows.front);
        parts = joined bytes a.0.1 b.0.1 table count rows.front rest t0.0.parts t1.0.parts rows.parts;
        again = λ more. passed_over a.0.0 b.0.0 rows.front more t0.1 t1.1 c.0 (rows.again more);
      };
      some = omega arith;
    }

pub rest_shorter : (bytes rest : List ℕ) → IsBytes bytes → behind_chunk bytes ≡ Some rest → length rest < length bytes
rest_shorter bytes rest fits e =
    let c = cut_chunk bytes rest fits e in
    omega (arith, ap (λ (x : List ℕ). length x) c.cut.parts, length-append c.cut.front rest, c.some)

-- ---- a chunk is exact

front_is : (front rest bytes : List ℕ) → bytes ≡ front ++ rest → take (length bytes - length rest) bytes ≡ front
front_is front rest bytes parts =
    let len : length front ≡ length bytes - length rest = omega (arith, ap (λ (x : List ℕ). length x) parts, length-append front rest) in
    ap (take (length bytes - length rest)) parts ∙ take_at front rest (length bytes - length rest) len

IsBytes-front : (front rest bytes : List ℕ) → bytes ≡ front ++ rest → IsBytes bytes → IsBytes front
IsBytes-front [] rest bytes parts fits i = omega arith
IsBytes-front (b ∷ front) rest bytes parts fits zero = rw parts at fits 0
IsBytes-front (b ∷ front) rest bytes parts fits (suc i) = IsBytes-front front rest (front ++ rest) refl (λ j. rw parts at fits (suc j)) i

pub chunk_exact : Exact chunk_at (λ chunk. chunk) IsChunk
unfolding chunk_at
chunk_exact = record {
  takes = λ bytes x fits e.
      let a = bind_some (behind_chunk bytes) (λ rest. Some (take (length bytes - length rest) bytes, rest)) x e in
      let c = cut_chunk bytes a.0 fits a.1 in
      let is = front_is c.cut.front a.0 bytes c.cut.parts in
      let made : List ℕ × List ℕ = (c.cut.front, a.0) in
      let same : made ≡ x = ap (λ (f : List ℕ). (f, a.0)) (sym is) ∙ some_is (take (length bytes - length a.0) bytes, a.0) x a.2 in
      subst (λ (y : List ℕ × List ℕ). Taken (λ (chunk : List ℕ). chunk) IsChunk bytes y) {x = made} same (
        record { parts = c.cut.parts; rest_fits = IsBytes-behind c.cut.front a.0 bytes c.cut.parts fits },
        record { are_bytes = IsBytes-front c.cut.front a.0 bytes c.cut.parts fits; whole = ap behind_chunk (sym (append-nil c.cut.front)) ∙ c.cut.again [] },
      );
  again = λ chunk rest is.
      let c = cut_chunk chunk [] is.are_bytes is.whole in
      let same : chunk ≡ c.cut.front = c.cut.parts ∙ append-nil c.cut.front in
      let read : behind_chunk (chunk ++ rest) ≡ Some rest = ap (λ (f : List ℕ). behind_chunk (f ++ rest)) same ∙ c.cut.again rest in
      ap (λ (o : Option (List ℕ)). o >>= λ r. Some (take (length (chunk ++ rest) - length r) (chunk ++ rest), r)) read
      ∙ ap (λ (f : List ℕ). Some (f, rest)) (front_is chunk rest (chunk ++ rest) refl);
}

-- ---- all chunks

-- what was read, and what is read behind it
abbrev pub chunks_before : List (List ℕ) → Option (List (List ℕ)) → Option (List (List ℕ))
chunks_before chunks rest = rest >>= λ more. Some (chunks ++ more)

next_same : (b : Bool) (read : Option (List ℕ × List ℕ)) (f g : List ℕ → Option (List (List ℕ))) → ((x : List ℕ × List ℕ) → read ≡ Some x → f x.1 ≡ g x.1)
    → cond b (Some []) (read >>= λ chunk. f chunk.1 >>= λ chunks. Some (chunk.0 ∷ chunks)) ≡ cond b (Some []) (read >>= λ chunk. g chunk.1 >>= λ chunks. Some (chunk.0 ∷ chunks))
next_same true read f g same = refl
next_same false None f g same = refl
next_same false (Some x) f g same = ap (λ (o : Option (List (List ℕ))). o >>= λ chunks. Some (x.0 ∷ chunks)) (same x refl)

pub chunk_shorter : (bytes : List ℕ) (x : List ℕ × List ℕ) → IsBytes bytes → chunk_at bytes ≡ Some x → length x.1 < length bytes
unfolding chunk_at
chunk_shorter bytes x fits e =
    let a = bind_some (behind_chunk bytes) (λ rest. Some (take (length bytes - length rest) bytes, rest)) x e in
    let same = some_is (take (length bytes - length a.0) bytes, a.0) x a.2 in
    subst (λ (y : List ℕ × List ℕ). length y.1 < length bytes) same (rest_shorter bytes a.0 fits a.1)

-- any number that isn't below the length will do
enough : (n m : ℕ) (bytes : List ℕ) → IsBytes bytes → length bytes ≤ n → length bytes ≤ m → chunks_from n bytes ≡ chunks_from m bytes
unfolding chunk_at behind_chunk
enough zero zero bytes fits low high = refl
enough zero (suc m) [] fits low high = refl
enough (suc n) zero [] fits low high = refl
enough zero (suc m) (b ∷ bytes) fits low high = absurd (omega (arith, low))
enough (suc n) zero (b ∷ bytes) fits low high = absurd (omega (arith, high))
enough (suc n) (suc m) bytes fits low high =
    next_same (none_left (behind_these end_mark bytes)) (chunk_at bytes) (chunks_from n) (chunks_from m)
    (λ x e. enough n m x.1 ((chunk_exact.takes bytes x fits e).0.rest_fits) (omega (arith, chunk_shorter bytes x fits e, low)) (omega (arith, chunk_shorter bytes x fits e, high)))

-- the end
pub chunks_end : (bytes : List ℕ) → none_left (behind_these end_mark bytes) ≡ true → chunks_of bytes ≡ Some []
unfolding chunks_of
chunks_end [] e = absurd cc
chunks_end (b ∷ bytes) e = ap (λ (t : Bool). cond t (Some []) (chunk_at (b ∷ bytes) >>= λ chunk. chunks_from (length bytes) chunk.1 >>= λ chunks. Some (chunk.0 ∷ chunks))) e

-- one more chunk
pub chunks_next : (bytes chunk rest : List ℕ) → IsBytes bytes → none_left (behind_these end_mark bytes) ≡ false → chunk_at bytes ≡ Some (chunk, rest)
    → chunks_of bytes ≡ (chunks_of rest >>= λ chunks. Some (chunk ∷ chunks))
unfolding chunks_of
chunks_next [] chunk rest fits e found = absurd (omega (arith, chunk_shorter [] (chunk, rest) fits found))
chunks_next (b ∷ bytes) chunk rest fits e found =
    ap (λ (t : Bool). cond t (Some []) (chunk_at (b ∷ bytes) >>= λ c. chunks_from (length bytes) c.1 >>= λ chunks. Some (c.0 ∷ chunks))) e
    ∙ ap (λ (o : Option (List ℕ × List ℕ)). o >>= λ c. chunks_from (length bytes) c.1 >>= λ chunks. Some (c.0 ∷ chunks)) found
    ∙ ap (λ (o : Option (List (List ℕ))). o >>= λ chunks. Some (chunk ∷ chunks))
    (enough (length bytes) (length rest) rest ((chunk_exact.takes (b ∷ bytes) (chunk, rest) fits found).0.rest_fits) (omega (arith, chunk_shorter (b ∷ bytes) (chunk, rest) fits found)) (omega arith))

pub chunks_none : (bytes : List ℕ) → none_left (behind_these end_mark bytes) ≡ false → chunk_at bytes ≡ None → chunks_of bytes ≡ None
unfolding chunks_of
chunks_none [] e none = refl
chunks_none (b ∷ bytes) e none =
    ap (λ (t : Bool). cond t (Some []) (chunk_at (b ∷ bytes) >>= λ c. chunks_from (length bytes) c.1 >>= λ chunks. Some (c.0 ∷ chunks))) e
    ∙ ap (λ (o : Option (List ℕ × List ℕ)). o >>= λ c. chunks_from (length bytes) c.1 >>= λ chunks. Some (c.0 ∷ chunks)) none

pub before_more : (chunks now : List (List ℕ)) (chunk : List ℕ) (whole rest : Option (List (List ℕ))) → now ≡ chunks ++ chunk ∷ [] → whole ≡ chunks_before chunks (rest >>= λ more. Some (chunk ∷ more))
    → whole ≡ chunks_before now rest
before_more chunks now chunk whole None pushed is = is
before_more chunks now chunk whole (Some more) pushed is =
    is ∙ ap (λ (cs : List (List ℕ)). Some cs) (sym (append_assoc chunks (chunk ∷ []) more) ∙ ap (λ (cs : List (List ℕ)). cs ++ more) (sym pushed))
