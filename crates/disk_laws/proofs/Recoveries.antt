-- A recovery that is stopped: what the disks show from then on, and that all hosts stay stopped.
use Rattle.disk_laws.proofs.Names.{none-or-some, cond_both, ◌≡◌, ◌<◌, Bool, true, false, List, [], ◌∷◌, true≢false, refl, sym, subst, inl, inr, ◌==◌, arith, cases_Bool, and_parts, eqb-true, nat_tests, ℕ, ◌&&◌, nat_lt, if◌then◌else◌, slice_index, Some, None, AllByRecursion, list_all, range_with_len, Msg, Database, slots, is_host, Blocks, Letter, Shown, mark_of, DisksShow, World, shown_of, all_shown, new_base, new_content, left_contents, stays_stopped, is_stopped, may_recover, is_shown, is_slot_or_none, allows, In, names, all-at, all-from, all-mono, in-map, list_all-at, some-here, LogState, IsSlot, part, between, log_state, HasLogs, range-in, AtLeast, Top, Firm, ContentOk, StreamOk, StreamLetter, Halted, DisksHold}
use Rattle.volt_wire.specs.declared.message.Msg.TheVariants as msg
use Rattle.volt_wire.specs.declared.event.Event.TheVariants as event
use Rattle.word_laws.specs.Histories as word
use Rattle.disk_laws.proofs.Order.{Raise, greatest_mark-above, at_least-mark, top-later}
use Rattle.disk_laws.proofs.Contents.{rises-same, content-later, firm-later}
use Rattle.disk_laws.proofs.Choices.{get-none, disk-shows, world-shows, recovered-firm}

module _ (E : Database) (w : World) (k : HasLogs w) (F : Firm) (halted : Bool) (K : DisksHold (log_state w k.owner k.history k.logs) F halted) (shown : List ℕ)
    (f : ℕ) (owner : ℕ → ℕ) (history : word.History) where
  -- before it, and once it has stopped at this disk, as that was read or written
  abbrev S : LogState
  S = log_state w k.owner k.history k.logs

  abbrev after : Bool → LogState
  after b = log_state (stays_stopped E w shown (f, b)) owner history k.logs

  -- ---- what a disk shows from then on

  slot-below : (c : ℕ) → IsSlot S c → c < slots w.deployment
  slot-below c q = grind (arith, nat_tests, q)

  -- what holds of all that it showed, and of its new base where that may be written, holds of all that it shows
  left-all : (P : Shown → Type 0) (c : ℕ) → IsSlot S c → (b : Bool) → is_shown w shown (Some (f, b)) ≡ true → AllByRecursion P (w.sites c).contents
      → (b ≡ true → P (new_content E w shown c)) → AllByRecursion P (left_contents E w shown (f, b) c)
  left-all P c q true e h n = written (nat_lt c f) (c == f)
    where
      old : P (shown_of w shown c)
      old = all-at P (w.sites c).contents h (shown_of w shown c) (disk-shows w shown (Some (f, true)) e c (slot-below c q))

      written : (x y : Bool)
          → AllByRecursion P (if x then new_content E w shown c ∷ [] else if y then shown_of w shown c ∷ new_content E w shown c ∷ [] else shown_of w shown c ∷ [])
      written true y = (n refl, tt)
      written false true = (old, (n refl, tt))
      written false false = (old, tt)
  left-all P c q false e h n = cond_both (nat_lt c f) _ _ (AllByRecursion P)
      (λ t. (all-at P (w.sites c).contents h (shown_of w shown c) (disk-shows w shown (Some (f, false)) e c (grind (arith, nat_tests, t))), tt)) (λ t. h)

  -- it shows something
  left-some : (c : ℕ) (b : Bool) → ((w.sites c).contents ≡ [] → ⊥) → left_contents E w shown (f, b) c ≡ [] → ⊥
  left-some c true some = written (nat_lt c f) (c == f)
    where
      written : (x y : Bool)
          → (if x then new_content E w shown c ∷ [] else if y then shown_of w shown c ∷ new_content E w shown c ∷ [] else shown_of w shown c ∷ []) ≡ [] → ⊥
      written true y e = absurd (cc)
      written false true e = absurd (cc)
      written false false e = absurd (cc)
  left-some c false some = cond_both (nat_lt c f) _ _ (λ z. z ≡ [] → ⊥) (λ _ e. absurd (cc)) (λ _ e. some e)

  -- where there is no slot, nothing
  left-none : (c : ℕ) → (IsSlot S c → ⊥) → (b : Bool) → is_slot_or_none w.deployment (Some (f, b)) ≡ true
      → AllByRecursion (λ x. x ≡ None) (left_contents E w shown (f, b) c)
  left-none c out b slot = choice b
    where
      before : nat_lt c f ≡ false
      before = grind (arith, nat_tests, slot, out)

      other : (c == f) ≡ false
      other = grind (arith, nat_tests, slot, out)

      choice : (b : Bool) → AllByRecursion (λ x. x ≡ None) (left_contents E w shown (f, b) c)
      choice true = rw (before, other) (get-none (w.sites c).contents (slice_index shown c) (K.environment c out), tt)
      choice false = rw before (K.environment c out)

  -- ---- nothing is lost

  -- where all were read, the new bases have all that was counted firm
  new-rebuilt : (c : ℕ) → is_shown w shown (Some (f, true)) ≡ true → ContentOk S F true (part S c) (new_content E w shown c)
  new-rebuilt c e =
      inr (λ v g led low. recovered-firm S k.holds F halted K (shown_of w shown)
      (world-shows w k.owner k.history k.logs F halted K shown (Some (f, true)) e refl) (part S c) E v g led low)

  -- and their mark is above all that was shown
  pub new-above : (c : ℕ) → IsSlot S c → mark_of (shown_of w shown c) < new_base w shown
  new-above c q =
      let i : In (shown_of w shown c) (all_shown w shown) =
      in-map (shown_of w shown) c (range_with_len 0 (slots w.deployment)) (range-in c 0 (slots w.deployment) (omega arith) (omega (arith, slot-below c q))) in
      omega (arith, greatest_mark-above (all_shown w shown) (shown_of w shown c) i)

  -- no worse than something that a disk showed
  abbrev Better : ℕ → Shown → Type 0
  Better c y = (x : Shown) × In x (w.sites c).contents × ((m n : ℕ) → AtLeast m n x → AtLeast m n y)

  left-raised : (b : Bool) → is_shown w shown (Some (f, b)) ≡ true → (c : ℕ) → IsSlot S c → Raise (w.sites c).contents (left_contents E w shown (f, b) c)
  left-raised b e c q =
      all-at (Better c) (left_contents E w shown (f, b) c) (left-all (Better c) c q b e (all-from (Better c) (w.sites c).contents (λ y i. (y, i, λ m n h. h))) new)
    where
      new : b ≡ true → Better c (new_content E w shown c)
      new t = (
        shown_of w shown c,
        disk-shows w shown (Some (f, true)) (subst (λ x. is_shown w shown (Some (f, x)) ≡ true) t e) c (slot-below c q),
        λ m n h. inl (omega (arith, at_least-mark m n (shown_of w shown c) h, new-above c q)),
      )

  pub left-top : (b : Bool) → is_shown w shown (Some (f, b)) ≡ true → (p m n : ℕ) → Top S p m n → Top (after b) p m n
  left-top b e = top-later S (after b) refl (left-raised b e)

  -- what was written in the epoch, and what a recovery wrote
  left-content : (b : Bool) (p : ℕ) (x : Shown) → ContentOk S F true p x → ContentOk (after b) F true p x
  left-content b p = content-later S (after b) (rises-same S (after b) refl refl) F F p true (λ _ _ r. r)

  may-be : (p : ℕ) (t : Bool) (x : Shown) → ContentOk S F t p x → ContentOk S F true p x
  may-be p t None h = tt
  may-be p true (Some x) h = h
  may-be p false (Some x) h = inl h

  -- of a stream's letter, by its body
  abbrev Streams : ℕ → Letter → LogState → Msg Blocks → Type 0
  Streams c l T m = elim m as (λ _. Type 0) [ msg.StreamStart head ↦ StreamOk T c l head.mark | _ ↦ Unit {0} ]

  left-stream : (b : Bool) → is_shown w shown (Some (f, b)) ≡ true → (c : ℕ) (l : Letter) → StreamLetter S c l → StreamLetter (after b) c l
  left-stream b e c l h = elim l.body as (λ m. Streams c l S m → Streams c l (after b) m) [
    | msg.StreamStart head ↦ λ o. record { mark_is = o.mark_is; top = left-top b e (part S c) l.term 0 o.top }
    | _ ↦ λ o. tt
  ] h

  -- ---- all stays stopped

  pub agent-stopped : is_stopped w ≡ true → (h : ℕ) → (w.agents h).start ≡ 0
  agent-stopped s h = elim (cases_Bool (is_host w.deployment h)) [
    | inl q ↦
        let t = list_all-at (λ h. (w.agents h).start == 0) (range_with_len 0 w.deployment.layout.hosts) h
        (and_parts (list_all (λ h. (w.agents h).start == 0) (range_with_len 0 w.deployment.layout.hosts))
        (list_all (λ i. (w.sites i).start == 0 && (w.scanners i).start == 0) (range_with_len 0 (slots w.deployment))) s).0
        (range-in h 0 w.deployment.layout.hosts (omega arith) (grind (arith, nat_tests, q))) in
        eqb-true (w.agents h).start 0 t
    | inr q ↦ (k.holds.words.hosts h).environment q
  ]

  pub site-stopped : is_stopped w ≡ true → (c : ℕ) → (w.sites c).start ≡ 0
  site-stopped s c = elim (cases_Bool (nat_lt c (slots w.deployment))) [
    | inl q ↦
        let t = list_all-at (λ i. (w.sites i).start == 0 && (w.scanners i).start == 0) (range_with_len 0 (slots w.deployment)) c
        (and_parts (list_all (λ h. (w.agents h).start == 0) (range_with_len 0 w.deployment.layout.hosts))
        (list_all (λ i. (w.sites i).start == 0 && (w.scanners i).start == 0) (range_with_len 0 (slots w.deployment))) s).1
        (range-in c 0 (slots w.deployment) (omega arith) (omega (arith, slot-below c q))) in
        eqb-true (w.sites c).start 0 (and_parts ((w.sites c).start == 0) ((w.scanners c).start == 0) t).0
    | inr q ↦ (k.holds.sites c).environment q
  ]

  -- an agent that has stopped has decided no word, since a word names starts alone
  undecided : is_stopped w ≡ true → (h : ℕ) → (w.agents h).decided ≡ None
  undecided s h = elim (none-or-some (w.agents h).decided) [
    | inl e ↦ e
    | inr (v, e) ↦
        let d = some-here (λ x. In x k.history.decided × (names x (w.agents h).start ≡ true)) (w.agents h).decided v e (k.holds.words.agents h).decided in
        let named : names v 0 ≡ true = subst (λ n. names v n ≡ true) (agent-stopped s h) d.1 in
        absurd (omega (arith, ((k.holds.words.history.decided_good v d.0).named_begun 0 named).some))
  ]

  stopped-halts : (b : Bool) → is_stopped w ≡ true → Halted (after b)
  stopped-halts b s = record {
    decided = undecided s;
    unnamed = λ h up. absurd (omega (arith, up, agent-stopped s h));
    joiners = λ c up. absurd (omega (arith, up, site-stopped s c));
    streams = λ c i up. absurd (omega (arith, up, site-stopped s c));
  }

  -- A recovery that is stopped leaves disks of which all holds.
  pub halted-disks : (b : Bool) → is_stopped w ≡ true → is_shown w shown (Some (f, b)) ≡ true → is_slot_or_none w.deployment (Some (f, b)) ≡ true
      → DisksHold (after b) F true
  halted-disks b s e slot = record {
    disks = λ c q. let disk = K.disks c q in record {
      some = left-some c b disk.some;
      contents = left-all (ContentOk (after b) F true (part S c)) c q b e
          (all-mono (ContentOk S F halted (part S c)) (ContentOk (after b) F true (part S c)) (λ x h. left-content b (part S c) x (may-be (part S c) halted x h))
          (w.sites c).contents disk.contents)
          (λ t. left-content b (part S c) (new_content E w shown c) (new-rebuilt c (subst (λ x. is_shown w shown (Some (f, x)) ≡ true) t e)));
      marks = λ x. absurd (true≢false x);
      member = λ up. absurd (omega (arith, up, site-stopped s c));
      joiner = λ x. absurd (true≢false x);
    };
    environment = λ c out. left-none c out b slot;
    streams = λ i c q. all-mono (StreamLetter S c) (StreamLetter (after b) c) (left-stream b e c) (between S i c) (K.streams i c q);
    firm = λ p. firm-later S (after b) (rises-same S (after b) refl refl) F F p refl (left-top b e p) (K.firm p);
    halts = λ x. stopped-halts b s;
  }

-- So does one that may happen, with what the disks may show.
pub stopped-hold : (E : Database) (w : World) (k : HasLogs w) (F : Firm) (halted : Bool) → DisksHold (log_state w k.owner k.history k.logs) F halted
    → (shown : List ℕ) (failed : ℕ × Bool) → may_recover w ≡ true → allows w event.Recover (DisksShow shown (Some failed)) ≡ true
    → (v : HasLogs (stays_stopped E w shown failed)) → v.logs ≡ k.logs
    → DisksHold (log_state (stays_stopped E w shown failed) v.owner v.history v.logs) F true
stopped-hold E w k F halted K shown failed may allowed v same =
    let p = and_parts (is_shown w shown (Some failed)) (is_slot_or_none w.deployment (Some failed)) allowed in
    subst (λ G. DisksHold (log_state (stays_stopped E w shown failed) v.owner v.history G) F true) (sym same)
    (halted-disks E w k F halted K shown failed.0 v.owner v.history failed.1 (and_parts w.director.recovery_asked (is_stopped w) may).1 p.0 p.1)
