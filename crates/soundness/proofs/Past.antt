-- The calls of a run that ended, as plain values, and what a report says of them.
use Rattle.std.proofs.Common.{◌≡◌, ℕ, suc, ◌+◌, ◌<◌, ◌≤◌, List, [], ◌∷◌, ◌++◌, length, map, Some, refl, sym, ap, ◌∙◌, append_assoc, append-nil, arith}
use Rattle.volt_base.specs.Semantics.{Semantics}
use Rattle.volt_base.specs.declared.entry.Applied.{Applied}
use Rattle.volt_base.specs.declared.entry.Entry.{Entry}
use Rattle.volt_base.specs.declared.entry.Entry.TheVariants.{Sp}
use Rattle.volt_wire.specs.declared.event.Event.{Event}
use Rattle.volt_report.specs.Report.{CallLine, Report}
use Rattle.one_host_model.specs.Site.{replay}
use Rattle.soundness.specs.Meaning.{Meaning, Asked}
use Rattle.soundness.specs.Sound.{call_at}
use Rattle.soundness.specs.Carries.{Carries}

-- a call that ended: the stamps of its submission and its end, and its point
pub record Past (A : Type 0) : Type 0 where
  pub call : A
  pub submitted : ℕ
  pub point : ℕ
  pub ended : ℕ

-- what was called
abbrev pub calls_of : {A : Type 0} → List (Past A) → List A
calls_of past = map (λ p. p.call) past

-- the serial list of these calls, the first of which has number n
abbrev pub applied_from : {A : Type 0} → ℕ → List (Past A) → List Applied
applied_from n [] = []
applied_from n (p ∷ ps) = record { call = n; point = p.point } ∷ applied_from (n + 1) ps

-- the lines of these calls, the first of which runs on database d
abbrev pub lines_from : (M : Meaning) → ℕ → M.Database → List (Past M.Call) → List CallLine
lines_from M n d [] = []
lines_from M n d (p ∷ ps) =
    record { call = n; client = 1; submitted = p.submitted; ended = p.ended; end = M.reply d p.call }
    ∷ lines_from M (n + 1) (M.after d p.call) ps

-- the database after these calls
abbrev pub database_of : (M : Meaning) → M.Database → List (Past M.Call) → M.Database
database_of M d [] = d
database_of M d (p ∷ ps) = database_of M (M.after d p.call) ps

-- the log of these calls
abbrev pub entries_from : {A : Type 0} → (A → List ℕ) → ℕ → List (Past A) → List Entry
entries_from body n [] = []
entries_from body n (p ∷ ps) = Sp n 1 p.point (body p.call) ∷ entries_from body (n + 1) ps

-- each call's stamps rise, and no call was submitted before the one ahead of it ended
abbrev pub Timed : {A : Type 0} → ℕ → List (Past A) → ℕ → Type 0
Timed low [] high = low ≤ high
Timed low (p ∷ ps) high = (low ≤ p.submitted) × (p.submitted < p.point) × (p.point < p.ended) × Timed p.ended ps high

-- these are the calls of the script from number n on
abbrev pub Named : (M : Meaning) → List (Asked M) → ℕ → List (Past M.Call) → Type 0
Named M asked n [] = Unit {0}
Named M asked n (p ∷ ps) = (call_at M asked n ≡ Some p.call) × Named M asked (n + 1) ps

-- the report of a run in which these calls ended
abbrev pub report_of : (M : Meaning) → List (Past M.Call) → List Event → Report
report_of M past trace =
    record {
      opening = [];
      calls = lines_from M 1 (M.database []) past;
      serial = applied_from 1 past;
      copies = record { slot = 0; position = length past; rows = M.part 0 (database_of M (M.database []) past) } ∷ [];
      looks = [];
      trace = trace;
    }

-- ---- one call more

-- its line is the last
pub lines_push : (M : Meaning) (k n : ℕ) (d : M.Database) (past : List (Past M.Call)) (p : Past M.Call) → n ≡ length past + k → lines_from M k d (past ++ p ∷ []) ≡ lines_from M k d past ++ record { call = n; client = 1; submitted = p.submitted; ended = p.ended; end = M.reply (database_of M d past) p.call } ∷ []
lines_push M k n d [] p e = ap (λ x. record { call = x; client = 1; submitted = p.submitted; ended = p.ended; end = M.reply d p.call } ∷ []) (omega (arith, sym e))
lines_push M k n d (q ∷ past) p e = ap (λ x. record { call = k; client = 1; submitted = q.submitted; ended = q.ended; end = M.reply d q.call } ∷ x) (lines_push M (k + 1) n (M.after d q.call) past p (omega (arith, e)))

-- its entry is the last
pub entries_push : {A : Type 0} (body : A → List ℕ) (k n : ℕ) (past : List (Past A)) (p : Past A) → n ≡ length past + k → entries_from body k (past ++ p ∷ []) ≡ entries_from body k past ++ Sp n 1 p.point (body p.call) ∷ []
entries_push body k n [] p e = ap (λ x. Sp x 1 p.point (body p.call) ∷ []) (omega (arith, sym e))
entries_push body k n (q ∷ past) p e = ap (λ x. Sp k 1 q.point (body q.call) ∷ x) (entries_push body (k + 1) n past p (omega (arith, e)))

-- its stamps are the latest
pub Timed-push : {A : Type 0} (low middle high : ℕ) (past : List (Past A)) (p : Past A) → Timed low past middle → middle ≤ p.submitted → p.submitted < p.point → p.point < p.ended → p.ended ≤ high → Timed low (past ++ p ∷ []) high
Timed-push low middle high [] p t a b c d = (omega arith, b, c, d)
Timed-push low middle high (q ∷ past) p t a b c d = (t.0, t.1, t.2, Timed-push q.ended middle high past p t.3 a b c d)

-- time goes on
pub Timed-later : {A : Type 0} (low high later : ℕ) (past : List (Past A)) → Timed low past high → high ≤ later → Timed low past later
Timed-later low high later [] t l = omega arith
Timed-later low high later (q ∷ past) t l = (t.0, t.1, t.2, Timed-later q.ended high later past t.3 l)

-- ---- what an engine makes of them

-- its state stands for the database after these calls
pub database_after_log : (S : Semantics) (M : Meaning) (h : Carries S M) (n : ℕ) (s : S.State) (past : List (Past M.Call)) → h.database (replay S s (entries_from h.body n past)) ≡ database_of M (h.database s) past
database_after_log S M h n s [] = refl
database_after_log S M h n s (p ∷ past) =
    database_after_log S M h (n + 1) (S.after s (Sp n 1 p.point (h.body p.call))) past ∙ ap (λ d. database_of M d past) (h.after s n 1 p.point p.call)

-- it has noted them
pub applied_after_log : (S : Semantics) (M : Meaning) (h : Carries S M) (n : ℕ) (s : S.State) (past : List (Past M.Call)) → S.applied (replay S s (entries_from h.body n past)) ≡ S.applied s ++ applied_from n past
applied_after_log S M h n s [] = sym (append-nil (S.applied s))
applied_after_log S M h n s (p ∷ past) =
    applied_after_log S M h (n + 1) (S.after s (Sp n 1 p.point (h.body p.call))) past
    ∙ (ap (λ x. x ++ applied_from (n + 1) past) (h.applied s n 1 p.point p.call)
    ∙ append_assoc (S.applied s) (record { call = n; point = p.point } ∷ []) (applied_from (n + 1) past))

-- the serial list has each call
pub length-applied_from : {A : Type 0} (n : ℕ) (past : List (Past A)) → length (applied_from n past) ≡ length past
length-applied_from n [] = refl
length-applied_from n (p ∷ past) = ap suc (length-applied_from (n + 1) past)
