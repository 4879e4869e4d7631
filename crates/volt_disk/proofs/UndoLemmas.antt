-- What a disk in memory keeps of a file: ranges within it, and writes that are taken back.
use Rattle.std.proofs.Common.{◌≡◌, ℕ, zero, suc, ◌+◌, ◌-◌, ◌<◌, ◌≤◌, max, get_or, slice_range, replicate, take, List, [], ◌∷◌, ◌++◌, length, refl, ap, ◌∙◌, inl, inr, arith}
use Rattle.std.proofs.lemmas.List.{take-append-le, get_or-take, length-take-le}
use Rattle.volt_disk.specs.declared.listing.Listing.{Listing}
use Rattle.volt_disk.specs.File.{IsInSome, IsTorn}
use Rattle.volt_disk.specs.Effects.{overwritten, lengthened, grown, write_asked, after_write}
use Rattle.volt_disk.specs.Undo.{AreWithin, ranges, undone, stored_of}
use Rattle.volt_disk.proofs.Overwritten.{length-overwritten, get-overwritten, length-part, overwritten-append, overwritten-asked, overwritten-overwritten}

pub AreWithin-longer : (a b : ℕ) (rs : List (ℕ × List ℕ)) → a ≤ b → AreWithin a rs → AreWithin b rs
AreWithin-longer a b [] le h = tt
AreWithin-longer a b (r ∷ rs) le h = let first = h.0 in (omega arith, AreWithin-longer a b rs le h.1)

pub AreWithin-push : (len : ℕ) (rs : List (ℕ × List ℕ)) (r : ℕ × List ℕ) → AreWithin len rs → r.0 + length r.1 ≤ len → AreWithin len (rs ++ r ∷ [])
AreWithin-push len [] r h le = (le, tt)
AreWithin-push len (s ∷ rs) r h le = (h.0, AreWithin-push len rs r h.1 le)

pub AreWithin-prefix : (len : ℕ) (rs : List (ℕ × List ℕ)) (r : ℕ × List ℕ) → AreWithin len (rs ++ r ∷ []) → AreWithin len rs
AreWithin-prefix len [] r h = tt
AreWithin-prefix len (s ∷ rs) r h = (h.0, AreWithin-prefix len rs r h.1)

pub AreWithin-last : (len : ℕ) (rs : List (ℕ × List ℕ)) (r : ℕ × List ℕ) → AreWithin len (rs ++ r ∷ []) → r.0 + length r.1 ≤ len
AreWithin-last len [] r h = h.0
AreWithin-last len (s ∷ rs) r h = AreWithin-last len rs r h.1

pub AreWithin-at : (len : ℕ) (rs : List (ℕ × List ℕ)) (i : ℕ) (r : ℕ × List ℕ) → i < length rs → r ≡ get_or rs i r → AreWithin len rs → r.0 + length r.1 ≤ len
AreWithin-at len [] i r lt is h = absurd (omega arith)
AreWithin-at len (s ∷ rs) zero r lt is h = let same : r ≡ s = is in rw same h.0
AreWithin-at len (s ∷ rs) (suc i) r lt is h = AreWithin-at len rs i r (omega arith) is h.1

-- the last write is taken back first
pub undone-push : (rs : List (ℕ × List ℕ)) (r : ℕ × List ℕ) (bytes : List ℕ) → undone (rs ++ r ∷ []) bytes ≡ undone rs (overwritten r.0 r.1 bytes)
undone-push [] r bytes = refl
undone-push (s ∷ rs) r bytes = ap (overwritten s.0 s.1) (undone-push rs r bytes)

ranges-push : (rs : List (ℕ × List ℕ)) (r : ℕ × List ℕ) → ranges (rs ++ r ∷ []) ≡ ranges rs ++ (r.0, length r.1) ∷ []
ranges-push [] r = refl
ranges-push (s ∷ rs) r = ap (λ l. (s.0, length s.1) ∷ l) (ranges-push rs r)

pub length-undone : (rs : List (ℕ × List ℕ)) (bytes : List ℕ) → AreWithin (length bytes) rs → length (undone rs bytes) ≡ length bytes
length-undone [] bytes within = refl
length-undone (r ∷ rs) bytes within =
    let same = length-undone rs bytes within.1 in
    let first = within.0 in
    length-overwritten r.0 r.1 (undone rs bytes) (omega arith) ∙ same

-- ---- the bytes at the last sync, which a write and a growth leave as they are

undone-append : (rs : List (ℕ × List ℕ)) (b z : List ℕ) → AreWithin (length b) rs → undone rs (b ++ z) ≡ undone rs b ++ z
undone-append [] b z within = refl
undone-append (r ∷ rs) b z within =
    let same = length-undone rs b within.1 in
    let first = within.0 in
    ap (overwritten r.0 r.1) (undone-append rs b z within.1) ∙ overwritten-append r.0 r.1 (undone rs b) z (omega arith)

pub stored_of-grown : (b : List ℕ) (least most : ℕ) (rs : List (ℕ × List ℕ)) (l : Listing) (to : ℕ) → least ≤ length b → AreWithin (length b) rs → stored_of (lengthened to b) least (max most to) rs l ≡ record (stored_of b least most rs l) { file = grown to (stored_of b least most rs l).file }
stored_of-grown b least most rs l to low within =
    let same = length-undone rs b within in
    let zeros : List ℕ = replicate (to - length b) 0 in
    ap (λ x. record (stored_of (lengthened to b) least (max most to) rs l) { last = x })
    (ap (take least) (undone-append rs b zeros within) ∙ take-append-le least (undone rs b) zeros (omega arith))

-- what stood in a range is kept, and its bytes are written or not
ranges-kept : (rs : List (ℕ × List ℕ)) (at n : ℕ) (b : List ℕ) → at + n ≤ length b → ranges (rs ++ (at, slice_range b at (at + n)) ∷ []) ≡ ranges rs ++ (at, n) ∷ []
ranges-kept rs at n b room = ranges-push rs (at, slice_range b at (at + n)) ∙ ap (λ len. ranges rs ++ (at, len) ∷ []) (length-part at n b room)

undone-written : (rs : List (ℕ × List ℕ)) (at : ℕ) (xs b : List ℕ) → at + length xs ≤ length b → undone (rs ++ (at, slice_range b at (at + length xs)) ∷ []) (overwritten at xs b) ≡ undone rs b
undone-written rs at xs b room =
    undone-push rs (at, slice_range b at (at + length xs)) (overwritten at xs b) ∙ ap (undone rs) (overwritten-overwritten at xs b room)

undone-asked : (rs : List (ℕ × List ℕ)) (at n : ℕ) (b : List ℕ) → at + n ≤ length b → undone (rs ++ (at, slice_range b at (at + n)) ∷ []) b ≡ undone rs b
undone-asked rs at n b room =
    undone-push rs (at, slice_range b at (at + n)) b ∙ ap (undone rs) (overwritten-asked at n b room)

pub stored_of-written : (b : List ℕ) (least most : ℕ) (rs : List (ℕ × List ℕ)) (l : Listing) (at : ℕ) (xs : List ℕ) → at + length xs ≤ length b → stored_of (overwritten at xs b) least most (rs ++ (at, slice_range b at (at + length xs)) ∷ []) l ≡ record (stored_of b least most rs l) { file = after_write at xs (stored_of b least most rs l).file }
stored_of-written b least most rs l at xs room =
    let written = ranges-kept rs at (length xs) b room in
    let last = ap (take least) (undone-written rs at xs b room) in cc

pub stored_of-asked : (b : List ℕ) (least most : ℕ) (rs : List (ℕ × List ℕ)) (l : Listing) (at n : ℕ) → at + n ≤ length b → stored_of b least most (rs ++ (at, slice_range b at (at + n)) ∷ []) l ≡ record (stored_of b least most rs l) { file = write_asked at n (stored_of b least most rs l).file }
stored_of-asked b least most rs l at n room =
    let written = ranges-kept rs at n b room in
    let last = ap (take least) (undone-asked rs at n b room) in cc

-- ---- what a crash may leave

get-undone : (rs : List (ℕ × List ℕ)) (bytes : List ℕ) (i : ℕ) → AreWithin (length bytes) rs → ¬ IsInSome i (ranges rs) → get_or (undone rs bytes) i 0 ≡ get_or bytes i 0
get-undone [] bytes i within beyond = refl
get-undone (r ∷ rs) bytes i within beyond =
    let same = length-undone rs bytes within.1 in
    let first = within.0 in
    get-overwritten r.0 r.1 (undone rs bytes) i (omega arith) (λ h. beyond (inl h))
    ∙ get-undone rs bytes i within.1 (λ h. beyond (inr h))

pub last-is_torn : (b : List ℕ) (least most : ℕ) (rs : List (ℕ × List ℕ)) (l : Listing) → least ≤ length b → length b ≤ most → AreWithin (length b) rs → IsTorn (stored_of b least most rs l).file (stored_of b least most rs l).last
last-is_torn b least most rs l low high within =
    let same = length-undone rs b within in
    let len : length (take least (undone rs b)) ≡ least = length-take-le least (undone rs b) (omega arith) in
    record {
      no_shorter = omega arith;
      no_longer = omega arith;
      others = λ i less beyond. get_or-take least (undone rs b) i 0 (omega (arith, less, len)) ∙ get-undone rs b i within beyond;
    }
