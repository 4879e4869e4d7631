-- What a recovery may choose: whatever contents the disks show, the log that it goes on with has all that was counted firm.
use Rattle.disk_laws.proofs.Names.{◌≡◌, ◌<◌, ◌≤◌, zero, suc, Bool, true, false, List, [], ◌∷◌, length, take, refl, sym, subst, ap, ◌∙◌, inl, inr, arith, cases_Bool, cases_eq, nat_tests, ℕ, nat_lt, slice_get, slice_index, option_and_then, Option, Some, None, AllByRecursion, range_with_len, Entry, Database, slots, Content, Shown, chosen, recovered, World, AuthoritativeLog, shown_of, count_shown, new_log, is_shown, In, Prefix, none-and-some, not-both, all-at, list_all-at, Logs, LogState, LogsHold, Leadership, IsSlot, part, log_state, HasLogs, AuthoritativeOk, range-in, prefix-none, prefix-trans, prefixes-order, take-of-prefix, take-short, AtLeast, Written, Firm, ContentOk, DisksHold, Shows, shown_at}
use Rattle.word_laws.specs.Histories as word
use Rattle.disk_laws.proofs.Order.{top-chosen, chosen-recovered}
use Rattle.disk_laws.proofs.Contents.{firm-within, firm-begun, firm-prefix, firm-same}

-- ---- what the disks show

-- what is there is a slot's
pub shows-slot : (S : LogState) (shown : ℕ → Shown) → Shows S shown → (c : ℕ) (x : Content) → shown c ≡ Some x → IsSlot S c
shows-slot S shown k c x e = elim (cases_Bool (nat_lt c (slots S.words.deployment))) [
  | inl q ↦ q
  | inr q ↦ absurd (none-and-some (k.none c (λ y. not-both (nat_lt c (slots S.words.deployment)) y q)) e)
]

-- ---- what the disks of a world show

-- one of several contents
get-one : (xs : List Shown) (n : ℕ) → n < length xs → In (option_and_then (λ c. c) (slice_get xs n)) xs
get-one [] n l = absurd (omega (arith, l))
get-one (x ∷ xs) zero l = inl refl
get-one (x ∷ xs) (suc n) l = inr (get-one xs n (omega (arith, l)))

-- of blank ones nothing
pub get-none : (xs : List Shown) (n : ℕ) → AllByRecursion (λ x. x ≡ None) xs → option_and_then (λ c. c) (slice_get xs n) ≡ None
get-none [] n h = refl
get-none (x ∷ xs) zero h = h.0
get-none (x ∷ xs) (suc n) h = get-none xs n h.1

pub disk-shows : (w : World) (shown : List ℕ) (failed : Option (ℕ × Bool)) → is_shown w shown failed ≡ true → (c : ℕ) → c < count_shown w.deployment failed
    → In (shown_of w shown c) (w.sites c).contents
disk-shows w shown failed e c l =
    let t = list_all-at (λ i. nat_lt (slice_index shown i) (length (w.sites i).contents)) (range_with_len 0 (count_shown w.deployment failed)) c e
    (range-in c 0 (count_shown w.deployment failed) (omega arith) (omega (arith, l))) in
    get-one (w.sites c).contents (slice_index shown c) (grind (arith, nat_tests, t))

-- where each of them showed one
pub world-shows : (w : World) (owner : ℕ → ℕ) (history : word.History) (logs : Logs) (F : Firm) (halted : Bool) → DisksHold (log_state w owner history logs) F halted
    → (shown : List ℕ) (failed : Option (ℕ × Bool)) → is_shown w shown failed ≡ true → count_shown w.deployment failed ≡ slots w.deployment
    → Shows (log_state w owner history logs) (shown_of w shown)
world-shows w owner history logs F halted K shown failed e n = record {
  one = λ c q. disk-shows w shown failed e c (grind (arith, nat_tests, q, n));
  none = λ c out. get-none (w.sites c).contents (slice_index shown c) (K.environment c out);
}

-- ---- what was counted firm

-- of a content that is good enough
module _ (S : LogState) (H : LogsHold S) (F : Firm) (p v : ℕ) (g : Leadership) (led : S.logs.leadership p v ≡ Some g) (low : F p ≤ S.logs.reach p v) where
  written-firm : (x : Content) → Written S p x → AtLeast v (F p) (Some x) → Prefix (take (F p) g.log) x.log
  written-firm x w (inl above) =
      prefix-trans (take (F p) g.log) w.leadership.begun x.log (firm-begun S H p v x.mark (F p) g w.leadership led w.led low above).1 w.begun
  written-firm x w (inr same) =
      let short = take-short (F p) g.log in
      prefixes-order (take (F p) g.log) x.log w.later.log
      (firm-prefix S H p v w.term (F p) g w.later led w.later_led low (omega (arith, same.0, w.above))) w.prefix (omega (arith, same.1, short))

  content-firm : (halted : Bool) (x : Content) → ContentOk S F halted p (Some x) → AtLeast v (F p) (Some x) → Prefix (take (F p) g.log) x.log
  content-firm false x w a = written-firm x w a
  content-firm true x (inl w) a = written-firm x w a
  content-firm true x (inr r) a = r v g led low

-- ---- any choice

module _ (S : LogState) (H : LogsHold S) (F : Firm) (halted : Bool) (K : DisksHold S F halted) (shown : ℕ → Shown) (k : Shows S shown) (p : ℕ) where
  -- all that was counted firm, in the term of its witness
  abbrev counted : List Entry
  counted = take (F p) (K.firm p).leadership.log

  some-chosen : 0 < F p → Prefix counted (chosen S.words.deployment shown p)
  some-chosen some =
      let firm = K.firm p in
      let r = top-chosen S shown k.one p firm.term (F p) (firm.top some) in
      let q = shows-slot S shown k r.slot r.content r.shows in
      let ok : ContentOk S F halted (part S r.slot) (Some r.content) = subst (ContentOk S F halted (part S r.slot)) r.shows
      (all-at (ContentOk S F halted (part S r.slot)) (shown_at S r.slot) (K.disks r.slot q).contents (shown r.slot) (k.one r.slot q)) in
      subst (Prefix counted) (sym r.log_is)
      (content-firm S H F p firm.term firm.leadership firm.led firm.reach halted r.content (subst (λ x. ContentOk S F halted x (Some r.content)) r.part_is ok) r.good)

  any-chosen : Prefix counted (chosen S.words.deployment shown p)
  any-chosen = elim (cases_eq (F p) 0) [
    | inl e ↦ subst (λ n. Prefix (take n (K.firm p).leadership.log) (chosen S.words.deployment shown p)) (sym e) (prefix-none (chosen S.words.deployment shown p))
    | inr d ↦ some-chosen (omega (arith, d))
  ]

  -- It has what was taken to be everywhere in any term, where that is all that was counted firm.
  pub chosen-firm : (v : ℕ) (g : Leadership) → S.logs.leadership p v ≡ Some g → F p ≤ S.logs.reach p v → Prefix (take (F p) g.log) (chosen S.words.deployment shown p)
  chosen-firm v g led low =
      let firm = K.firm p in
      subst (λ l. Prefix l (chosen S.words.deployment shown p)) (firm-same S H p firm.term v (F p) firm.leadership g firm.led led firm.reach low) any-chosen

  -- So has the log with which a recovery goes on.
  pub recovered-firm : (E : Database) (v : ℕ) (g : Leadership) → S.logs.leadership p v ≡ Some g → F p ≤ S.logs.reach p v
      → Prefix (take (F p) g.log) (recovered E S.words.deployment shown p)
  recovered-firm E v g led low =
      prefix-trans (take (F p) g.log) (chosen S.words.deployment shown p) (recovered E S.words.deployment shown p) (chosen-firm v g led low)
      (chosen-recovered E S.words.deployment shown p)

  -- What is firm in the authoritative log is a prefix of what is chosen, and of the log with which a recovery goes on.
  pub authoritative-chosen : (l : AuthoritativeLog) → AuthoritativeOk S.logs p l → Prefix (take (F p) l.log) (chosen S.words.deployment shown p)
  authoritative-chosen l o =
      let firm = K.firm p in
      let later : Prefix counted o.leadership.log = firm-prefix S H p firm.term l.term (F p) firm.leadership o.leadership firm.led o.led firm.reach (o.greatest firm.term firm.leadership firm.led) in
      let same : take (F p) l.log ≡ counted =
      ap (take (F p)) o.log ∙ take-of-prefix (F p) firm.leadership.log o.leadership.log later (firm-within S H p firm.term (F p) firm.leadership firm.led firm.reach) in
      subst (λ x. Prefix x (chosen S.words.deployment shown p)) (sym same) any-chosen

  pub authoritative-recovered : (E : Database) (l : AuthoritativeLog) → AuthoritativeOk S.logs p l → Prefix (take (F p) l.log) (recovered E S.words.deployment shown p)
  authoritative-recovered E l o =
      prefix-trans (take (F p) l.log) (chosen S.words.deployment shown p) (recovered E S.words.deployment shown p) (authoritative-chosen l o)
      (chosen-recovered E S.words.deployment shown p)

-- Whatever contents the disks of a world show, a recovery goes on with all that is firm.
pub no-choice-lacks : (E : Database) (w : World) (k : HasLogs w) (F : Firm) (halted : Bool) → DisksHold (log_state w k.owner k.history k.logs) F halted
    → (shown : List ℕ) → is_shown w shown None ≡ true → (p : ℕ) → AuthoritativeOk k.logs p (w.authoritative p) → Prefix (take (F p) (w.authoritative p).log) (new_log E w shown p)
no-choice-lacks E w k F halted K shown e p o =
    authoritative-recovered (log_state w k.owner k.history k.logs) k.holds F halted K (shown_of w shown)
    (world-shows w k.owner k.history k.logs F halted K shown None e refl) p E (w.authoritative p) o
