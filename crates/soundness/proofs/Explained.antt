-- The report of calls that ended one after another is sound.
use Rattle.std.proofs.Common.{◌≡◌, ℕ, suc, ◌==◌, ◌||◌, not, Bool, true, false, cond, nat_lt, nat_le, ◌+◌, ◌<◌, ◌≤◌, List, [], ◌∷◌, ◌++◌, length, map, Option, Some, if◌then◌else◌, inl, inr, refl, sym, ap, ◌∙◌, subst, append_assoc, arith, count_by, filter}
use Rattle.std.specs.List.{range_with_len, list_all, list_any, AllByRecursion}
use Rattle.std.specs.Option.{option_map, option_map_or}
use Rattle.std.proofs.lemmas.List.{length_push}
use Rattle.std.proofs.lemmas.List.Sums.{sum_by-cons}
use Rattle.std.proofs.lemmas.Bool.{cases_eq, and_from, and_parts, eq-eqb, or_left, or_right, ne_eqb, lt-ltb, le-leb}
use Rattle.std.proofs.lemmas.Bool.Decides.{nat_tests}
use Rattle.volt_base.specs.declared.entry.Applied.{Applied}
use Rattle.volt_wire.specs.declared.event.Event.{Event}
use Rattle.volt_report.specs.Report.{ReportEnd, CallLine}
use Rattle.soundness.specs.Meaning.{Meaning, Script}
use Rattle.soundness.specs.Sound.{Sound, is_answer, call_at, next, database_after, reply_in, is_call_of, prefix_with, times, has_no_double, is_between, is_in_time, IsReply, rises_from}
use Rattle.soundness.specs.Carries.{script}
use Rattle.soundness.proofs.Past.{Past, calls_of, applied_from, lines_from, database_of, Timed, Named, report_of, length-applied_from}

-- ---- lists of calls that are numbered on

-- a test that each call from number n on passes
list_all-applied : {A : Type 0} (n : ℕ) (past : List (Past A)) (test : Applied → Bool) → ((a : Applied) → n ≤ a.call → a.call < n + length past → test a ≡ true) → list_all test (applied_from n past) ≡ true
list_all-applied n [] test each = refl
list_all-applied n (p ∷ past) test each =
    and_from (test (record { call = n; point = p.point })) (list_all test (applied_from (n + 1) past)) (each (record { call = n; point = p.point }) (omega arith) (omega arith))
    (list_all-applied (n + 1) past test (λ a l u. each a (omega arith) (omega arith)))

-- a test that follows from another one for the calls from number n on
list_all-from : {A : Type 0} (n : ℕ) (past : List (Past A)) (test other : Applied → Bool) → ((a : Applied) → n ≤ a.call → other a ≡ true → test a ≡ true) → list_all other (applied_from n past) ≡ true → list_all test (applied_from n past) ≡ true
list_all-from n [] test other each h = refl
list_all-from n (p ∷ past) test other each h =
    let a : Applied = record { call = n; point = p.point } in
    let parts = and_parts (other a) (list_all other (applied_from (n + 1) past)) h in
    and_from (test a) (list_all test (applied_from (n + 1) past)) (each a (omega arith) parts.0)
    (list_all-from (n + 1) past test other (λ b l. each b (omega arith)) parts.1)

-- a test that each line from number n on passes
list_all-lines : (M : Meaning) (n : ℕ) (d : M.Database) (past : List (Past M.Call)) (test : CallLine → Bool) → ((line : CallLine) → n ≤ line.call → line.call < n + length past → test line ≡ true) → list_all test (lines_from M n d past) ≡ true
list_all-lines M n d [] test each = refl
list_all-lines M n d (p ∷ past) test each =
    let line : CallLine = record { call = n; client = 1; submitted = p.submitted; ended = p.ended; end = M.reply d p.call } in
    and_from (test line) (list_all test (lines_from M (n + 1) (M.after d p.call) past)) (each line (omega arith) (omega arith))
    (list_all-lines M (n + 1) (M.after d p.call) past test (λ x l u. each x (omega arith) (omega arith)))

-- a fact that follows from another one for the lines from number n on
AllByRecursion-lines : (M : Meaning) (n : ℕ) (d : M.Database) (past : List (Past M.Call)) (P Q : CallLine → Type 0) → ((line : CallLine) → n ≤ line.call → Q line → P line) → AllByRecursion Q (lines_from M n d past) → AllByRecursion P (lines_from M n d past)
AllByRecursion-lines M n d [] P Q each h = tt
AllByRecursion-lines M n d (p ∷ past) P Q each h =
    (each _ (omega arith) h.0, AllByRecursion-lines M (n + 1) (M.after d p.call) past P Q (λ line l. each line (omega arith)) h.1)

-- ---- each call stands in the list once

-- a count, one element at a time
count_by-cons : {X : Type 0} (test : X → Bool) (x : X) (xs : List X) → count_by test (x ∷ xs) ≡ cond (test x) 1 0 + count_by test xs
count_by-cons test x xs = sum_by-cons (λ y. cond (test y) 1 0) x xs

-- a number below the first isn't there
times_below : {A : Type 0} (n : ℕ) (past : List (Past A)) (k : ℕ) → k < n → times k (applied_from n past) ≡ 0
times_below n [] k l = refl
times_below n (p ∷ past) k l =
    let e = count_by-cons (λ a. a.call == k) (record { call = n; point = p.point }) (applied_from (n + 1) past) in
    let i = times_below (n + 1) past k (omega arith) in
    grind (arith, nat_tests, e, i)

-- a number of the list is there once
times_once : {A : Type 0} (n : ℕ) (past : List (Past A)) (k : ℕ) → n ≤ k → k < n + length past → times k (applied_from n past) ≡ 1
times_once n [] k l u = absurd (omega arith)
times_once n (p ∷ past) k l u =
    let e = count_by-cons (λ a. a.call == k) (record { call = n; point = p.point }) (applied_from (n + 1) past) in
    elim (cases_eq n k) [
      | inl q ↦ let i = times_below (n + 1) past k (omega arith) in grind (arith, nat_tests, e, i)
      | inr q ↦ let i = times_once (n + 1) past k (omega arith) (omega arith) in grind (arith, nat_tests, e, i)
    ]

-- no later call has an earlier number
none_below : {A : Type 0} (n : ℕ) (past : List (Past A)) (k : ℕ) → k < n → list_any (λ b. b.call == k) (applied_from n past) ≡ false
none_below n [] k l = refl
none_below n (p ∷ past) k l = rw (ne_eqb n k (omega arith)) (none_below (n + 1) past k (omega arith))

-- so no number is there twice
no_double : {A : Type 0} (n : ℕ) (past : List (Past A)) → has_no_double (applied_from n past) ≡ true
no_double n [] = refl
no_double n (p ∷ past) = rw (none_below (n + 1) past n (omega arith)) (no_double (n + 1) past)

-- ---- times

-- no line speaks of a call with an earlier number
in_time_below : (M : Meaning) (n : ℕ) (d : M.Database) (past : List (Past M.Call)) (a : Applied) → a.call < n → is_in_time (lines_from M n d past) a ≡ true
in_time_below M n d past a l = list_all-lines M n d past _ (λ line f u. rw (ne_eqb line.call a.call (omega arith)))

-- each call is after its submission and before its end
in_time : (M : Meaning) (n low high : ℕ) (d : M.Database) (past : List (Past M.Call)) → Timed low past high → list_all (is_in_time (lines_from M n d past)) (applied_from n past) ≡ true
in_time M n low high d [] t = refl
in_time M n low high d (p ∷ past) t =
    let d' = M.after d p.call in
    let lines = lines_from M (n + 1) d' past in
    let a : Applied = record { call = n; point = p.point } in
    let line : CallLine = record { call = n; client = 1; submitted = p.submitted; ended = p.ended; end = M.reply d p.call } in
    and_from (is_in_time (line ∷ lines) a) (list_all (is_in_time (line ∷ lines)) (applied_from (n + 1) past))
    (and_from (not (n == n) || is_between line p.point) (is_in_time lines a)
    (or_right (not (n == n)) (is_between line p.point)
    (and_from (nat_lt p.submitted p.point) (not (is_answer line.end) || nat_lt p.point p.ended) (lt-ltb _ _ t.1)
    (or_right (not (is_answer line.end)) (nat_lt p.point p.ended) (lt-ltb _ _ t.2))))
    (in_time_below M (n + 1) d' past a (omega arith)))
    (list_all-from (n + 1) past (is_in_time (line ∷ lines)) (is_in_time lines)
    (λ b l h. and_from (not (n == b.call) || is_between line b.point) (is_in_time lines b) (rw (ne_eqb n b.call (omega arith))) h)
    (in_time M (n + 1) p.ended high d' past t.3))

-- the points rise
rises : {A : Type 0} (n low start high : ℕ) (past : List (Past A)) → low ≤ start → Timed start past high → rises_from low (applied_from n past) ≡ true
rises n low start high [] l t = refl
rises n low start high (p ∷ past) l t =
    and_from (nat_le low p.point) (rises_from p.point (applied_from (n + 1) past)) (le-leb _ _ (omega (arith, t.0, t.1))) (rises (n + 1) p.point p.ended high past (omega (arith, t.2)) t.3)

-- ---- what the calls are

-- a call stands in the script at the number of the calls before it
call_here : (M : Meaning) (before past : List (Past M.Call)) (p : Past M.Call) → call_at M (script M (calls_of (before ++ p ∷ past))).calls (suc (length before)) ≡ Some p.call
call_here M [] past p = refl
call_here M (q ∷ before) past p = call_here M before past p

-- the calls of a script are named
names : (M : Meaning) (before past : List (Past M.Call)) (n : ℕ) → n ≡ length before + 1 → Named M (script M (calls_of (before ++ past))).calls n past
names M before [] n e = tt
names M before (p ∷ past) n e =
    let number : suc (length before) ≡ n = omega (arith, e) in (
      subst (λ k. call_at M (script M (calls_of (before ++ p ∷ past))).calls k ≡ Some p.call) number (call_here M before past p),
      subst (λ x. Named M (script M (calls_of x)).calls (n + 1) past) (append_assoc before (p ∷ []) past) (names M (before ++ p ∷ []) past (n + 1) (omega (arith, length_push before p, e))),
    )

-- an end that is the reply
is_reply : (t : Bool) (reply : Option ReportEnd) (end : ReportEnd) → reply ≡ Some end → IsReply t reply end
is_reply true reply end e = e
is_reply false reply end e = tt

module _ (M : Meaning) (s : Script M) where
  -- the list leads to the database after the calls
  database_is : (n : ℕ) (d : M.Database) (past : List (Past M.Call)) → Named M s.calls n past → database_after M s d (applied_from n past) ≡ database_of M d past
  database_is n d [] h = refl
  database_is n d (p ∷ past) h =
      ap (λ x. database_after M s (option_map_or (λ c. M.after d c) x d) (applied_from (n + 1) past)) h.0
      ∙ database_is (n + 1) (M.after d p.call) past h.1

  -- each line has the reply of its call
  replies_are : (n : ℕ) (d : M.Database) (past : List (Past M.Call)) → Named M s.calls n past → AllByRecursion (λ line. IsReply (is_answer line.end) (reply_in M s d (applied_from n past) line.call) line.end) (lines_from M n d past)
  replies_are n d [] h = tt
  replies_are n d (p ∷ past) h =
      let d' = M.after d p.call in
      let later = applied_from (n + 1) past in
      let a : Applied = record { call = n; point = p.point } in (
        is_reply (is_answer (M.reply d p.call)) (reply_in M s d (a ∷ later) n) (M.reply d p.call)
            (ap (λ t. if t then option_map (λ c. M.reply d c) (call_at M s.calls n) else reply_in M s (next M s d a) later n) (eq-eqb n n refl)
            ∙ ap (λ x. option_map (λ c. M.reply d c) x) h.0),
        AllByRecursion-lines M (n + 1) d' past
            (λ line. IsReply (is_answer line.end) (reply_in M s d (a ∷ later) line.call) line.end)
            (λ line. IsReply (is_answer line.end) (reply_in M s d' later line.call) line.end)
            (λ line l q. subst (λ x. IsReply (is_answer line.end) x line.end)
            (sym (ap (λ t. if t then option_map (λ c. M.reply d c) (call_at M s.calls line.call) else reply_in M s (next M s d a) later line.call) (ne_eqb n line.call (omega arith))
            ∙ ap (λ x. reply_in M s (option_map_or (λ c. M.after d c) x d) later line.call) h.0)) q)
            (replies_are (n + 1) d' past h.1),
      )

  -- each call is one of the partition
  calls_mine : ((c : M.Call) → M.is_call_of 0 c ≡ true) → (n : ℕ) (past : List (Past M.Call)) → Named M s.calls n past → list_all (is_call_of M s 0) (applied_from n past) ≡ true
  calls_mine all n [] h = refl
  calls_mine all n (p ∷ past) h =
      and_from (is_call_of M s 0 (record { call = n; point = p.point })) (list_all (is_call_of M s 0) (applied_from (n + 1) past))
      (ap (λ x. option_map_or (M.is_call_of 0) x false) h.0 ∙ all p.call)
      (calls_mine all (n + 1) past h.1)

-- ---- the copy

-- where each call is the partition's, a prefix with all of them is the list
prefix_with_all : (test : Applied → Bool) (list : List Applied) → list_all test list ≡ true → prefix_with test (length list) list ≡ list
prefix_with_all test [] h = refl
prefix_with_all test (a ∷ list) h =
    let parts = and_parts (test a) (list_all test list) h in
    ap (λ t. a ∷ prefix_with test (if t then length list else suc (length list)) list) parts.0
    ∙ ap (λ x. a ∷ x) (prefix_with_all test list parts.1)

-- the number of them is the list's length
count_by_all : (test : Applied → Bool) (list : List Applied) → list_all test list ≡ true → count_by test list ≡ length list
count_by_all test [] h = refl
count_by_all test (a ∷ list) h =
    let parts = and_parts (test a) (list_all test list) h in
    count_by-cons test a list ∙ (ap (λ t. cond t 1 0 + count_by test list) parts.0 ∙ omega (arith, count_by_all test list parts.1))

-- and the filter keeps all
filter_all : (test : Applied → Bool) (list : List Applied) → list_all test list ≡ true → filter test list ≡ list
filter_all test [] h = refl
filter_all test (a ∷ list) h =
    let parts = and_parts (test a) (list_all test list) h in
    ap (λ t. cond t (a ∷ filter test list) (filter test list)) parts.0 ∙ ap (λ x. a ∷ x) (filter_all test list parts.1)

-- a test that follows from another one
list_all-weaker : (test other : Applied → Bool) (list : List Applied) → ((a : Applied) → other a ≡ true → test a ≡ true) → list_all other list ≡ true → list_all test list ≡ true
list_all-weaker test other [] each h = refl
list_all-weaker test other (a ∷ list) each h =
    let parts = and_parts (other a) (list_all other list) h in
    and_from (test a) (list_all test list) (each a parts.0) (list_all-weaker test other list each parts.1)

-- each call of a list is in it
all_there : (list : List Applied) → list_all (λ a. list_any (λ b. b.call == a.call) list) list ≡ true
all_there [] = refl
all_there (a ∷ list) =
    and_from (a.call == a.call || list_any (λ b. b.call == a.call) list) (list_all (λ x. list_any (λ b. b.call == x.call) (a ∷ list)) list)
    (or_left (a.call == a.call) (list_any (λ b. b.call == a.call) list) (eq-eqb a.call a.call refl))
    (list_all-weaker (λ x. list_any (λ b. b.call == x.call) (a ∷ list)) (λ x. list_any (λ b. b.call == x.call) list) list
    (λ x h. or_right (a.call == x.call) (list_any (λ b. b.call == x.call) list) h) (all_there list))

-- the report is sound
pub report_is_sound : (M : Meaning) (past : List (Past M.Call)) (high : ℕ) (trace : List Event) → M.parts ≡ 1 → ((c : M.Call) → M.is_call_of 0 c ≡ true) → Timed 0 past high → Sound M (script M (calls_of past)) (report_of M past trace)
report_is_sound M past high trace one all timed =
    let s = script M (calls_of past) in
    let d = M.database [] in
    let list = applied_from 1 past in
    let named : Named M s.calls 1 past = names M [] past 1 refl in
    let test = is_call_of M s 0 in
    let mine : list_all test list ≡ true = calls_mine M s all 1 past named in
    let prefix : prefix_with test (length past) list ≡ list =
    ap (λ x. prefix_with test x list) (sym (length-applied_from 1 past)) ∙ prefix_with_all test list mine in
    let whole : filter test (prefix_with test (length past) list) ≡ list = ap (filter test) prefix ∙ filter_all test list mine in
    record {
      once = list_all-lines M 1 d past (λ line. not (is_answer line.end) || times line.call list == 1)
          (λ line l u. or_right (not (is_answer line.end)) (times line.call list == 1) (eq-eqb _ 1 (times_once 1 past line.call l u)));
      no_double = no_double 1 past;
      in_time = in_time M 1 0 high d past timed;
      replies = replies_are M s 1 d past named;
      copies = (
        record {
          enough = omega (arith, count_by_all test list mine, length-applied_from 1 past);
          rows = ap (M.part 0) (sym (ap (database_after M s d) prefix ∙ database_is M s 1 d past named));
        },
        tt,
      );
      points = rises 1 0 0 high past (omega arith) timed;
      held = list_all-weaker _ (λ a. list_any (λ b. b.call == a.call) list) list
          (λ a h. or_left _ false (ap (list_any (λ b. b.call == a.call)) whole ∙ h)) (all_there list);
      each_part = subst (λ x. list_all (λ p. 0 == p || false) (range_with_len 0 x) ≡ true) (sym one) refl;
    }

-- the lines have the numbers of the calls
pub lines_numbered : (M : Meaning) (n : ℕ) (d : M.Database) (past : List (Past M.Call)) → map (λ line. line.call) (lines_from M n d past) ≡ range_with_len n (length past)
lines_numbered M n d [] = refl
lines_numbered M n d (p ∷ past) = ap (λ x. n ∷ x) (lines_numbered M (n + 1) (M.after d p.call) past)
