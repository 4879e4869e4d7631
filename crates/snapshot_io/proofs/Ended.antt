-- An entry at the beginning of bytes.
use Rattle.std.proofs.Common.{◌≡◌, ℕ, ◌+◌, ◌≤◌, Bool, true, false, List, ◌∷◌, ◌++◌, length, drop, Option, Some, None, refl, ap, ◌∙◌, arith}
use Rattle.std.specs.Prelude.{◌==◌, if◌then◌else◌}
use Rattle.std.specs.Int.{w32, w64, to_be_bytes}
use Rattle.volt_base.specs.declared.entry.Outcome.{Outcome}
use Rattle.volt_base.specs.declared.entry.Outcome.TheVariants.{Dropped, Kept, Aborted, Snapshot}
use Rattle.volt_base.specs.declared.entry.Entry.{Entry}
use Rattle.volt_base.specs.Spelling.{body_bytes, mark_bytes, client_bytes, end_bytes, applied_bytes, done_bytes, reply_of, BeginsWith, BeginsWithNone}
use Rattle.volt_base.specs.Reading.{entry_at}
use Rattle.volt_base.proofs.Fields.{IsBytes}
use Rattle.volt_base.proofs.Entries.{entry_again, begins}

pub entry_found : (bytes : List ℕ) (entry : Entry) (len : ℕ) → BeginsWith bytes entry len → entry_at bytes ≡ Some (entry, drop len bytes)
entry_found bytes entry len found = ap entry_at found.spelled ∙ entry_again entry (drop len bytes) found.fits

none_if : (bytes : List ℕ) (read : Option (Entry × List ℕ)) → IsBytes bytes → entry_at bytes ≡ read → BeginsWithNone bytes → read ≡ None
none_if bytes None fits is none = refl
none_if bytes (Some x) fits is none =
    let found = begins bytes x.0 x.1 fits is in
    absurd (none x.0 (drop _ bytes) found.fits found.spelled)

pub entry_none : (bytes : List ℕ) → IsBytes bytes → BeginsWithNone bytes → entry_at bytes ≡ None
entry_none bytes fits none = none_if bytes (entry_at bytes) fits refl none

-- an entry that ends a transaction takes 27 bytes at most besides its reply
applied_short : (m kind call client point : ℕ) (reply : List ℕ) → length (applied_bytes m kind call client point reply) ≤ length reply + 27
unfolding applied_bytes end_bytes mark_bytes client_bytes body_bytes
applied_short m kind call client point reply = either_short (client == 0) (3 ∷ (to_be_bytes w64 m ++ kind ∷ (to_be_bytes w32 call ++ to_be_bytes w64 point)))
    (5 ∷ (to_be_bytes w64 m ++ kind ∷ (to_be_bytes w32 call ++ client ∷ (to_be_bytes w64 point ++ (to_be_bytes w32 (length reply) ++ reply))))) (length reply + 27) (omega arith) (omega arith)
  where
    either_short : (b : Bool) (x y : List ℕ) (n : ℕ) → length x ≤ n → length y ≤ n → length (if b then x else y) ≤ n
    either_short true x y n p q = p
    either_short false x y n p q = q

pub ended_short : (m : ℕ) (o : Outcome) → length (done_bytes m o) ≤ length (reply_of o) + 27
unfolding done_bytes end_bytes mark_bytes
ended_short m Dropped = omega arith
ended_short m (Kept call client point reply) = applied_short m 1 call client point reply
ended_short m (Aborted call client point reply) = applied_short m 2 call client point reply
ended_short m Snapshot = omega arith
