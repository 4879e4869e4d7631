-- What a site says to agents, after its turn: its answers are of entries that are firm, and how its partition stands is as its term began.
use Rattle.volt_wire.specs.declared.message.Msg.TheVariants as msg
use Rattle.transaction_laws.proofs.Names.{AllByRecursion, AnswerOk, Books, Bool, CountsOk, Database, Deployment, DisksHold, Done, Entry, EntryAt, Everywhere, Firm, Frag, IsPart, IsSlot, Joiner, LastReply, Leading, Letter, List, LogState, LogsHold, MemberDisk, None, OnlyCalls, Option, Outcome, Prefix, SentAnswer, SiteState, Some, StateOk, Stood, ToOrders, Top, Transactions, [], acked_in, acknowledged, all-append, and_parts, ap, arith, copy_acks, drop, eqb-true, false, first_stage, has_all_on_disk, heard_of, if◌then◌else◌, inr, is_some_of, is_some_of-is, last_done, last_replies, leading, leads, leads-runs, least, length, lesser, list_all, map, max, none-and-some, open_in, option_map, other_copies, own_ack, part, prefix-length, prefix-refl, prefix-rest, refl, site_start, site_term, some-term, stage, standing, subst, sym, term_in, term_of, true, ℕ, ◌++◌, ◌<◌, ◌==◌, ◌∙◌, ◌∷◌, ◌≡◌, ◌≤◌}
use Rattle.transaction_laws.proofs.Entries.{calls-done, calls-opened, done-append, open_in-stage, stage-append}
use Rattle.transaction_laws.proofs.Sites.Answers.{AnswersFirm, answers-firm}

-- ---- the least of what was acknowledged

abbrev IsLow : ℕ → Option ℕ → Type 0
IsLow low None = ⊥
IsLow low (Some n) = low ≤ n

lesser-low : (low : ℕ) (a b : Option ℕ) → IsLow low a → IsLow low b → IsLow low (lesser a b)
lesser-low low (Some m) (Some n) h k = omega (arith, h, k)
lesser-low low (Some m) None h k = absurd k
lesser-low low None b h k = absurd h

-- It isn't below what all are not below.
least-low : (low : ℕ) (a : Option ℕ) (xs : List (Option ℕ)) → IsLow low a → AllByRecursion (IsLow low) xs → IsLow low (least a xs)
least-low low a [] h k = h
least-low low a (b ∷ bs) h k = lesser-low low a (least b bs) h (least-low low b bs k.0 k.1)

some-low : (low : ℕ) (o : Option ℕ) → IsLow low o → (n : ℕ) × (o ≡ Some n) × (low ≤ n)
some-low low (Some n) h = (n, refl, h)
some-low low None h = absurd h

-- who acknowledged the whole log did so with all of its first part
acks-low : (low end : ℕ) (xs : List (Option ℕ)) → low ≤ end → list_all (λ a. is_some_of a end) xs ≡ true → AllByRecursion (IsLow low) xs
acks-low low end [] l e = tt
acks-low low end (x ∷ xs) l e =
    let p = and_parts (is_some_of x end) (list_all (λ a. is_some_of a end) xs) e in
    (subst (IsLow low) (sym (is_some_of-is x end p.0)) l, acks-low low end xs l p.1)

-- no stream began before that
joined-low : (low : ℕ) (js : List Joiner) → AllByRecursion (λ j. low ≤ j.stream_start) js → AllByRecursion (IsLow low) (map (λ j. Some (max j.stream_start j.position)) js)
joined-low low [] h = tt
joined-low low (j ∷ js) h = (omega (arith, h.0), joined-low low js h.1)

-- ---- calls

-- What is told of a transaction doesn't go by the replies that are told with it.
standing-told : (now : Option ℕ) (last : Option (ℕ × Outcome)) (had replies : List LastReply) (m : ℕ) (is_open : Bool) (outcome : Option Outcome)
    → standing now last had ≡ msg.MpState m is_open outcome replies → standing now last replies ≡ msg.MpState m is_open outcome replies
standing-told (Some n) last had replies m is_open outcome e = cc
standing-told None None had replies m is_open outcome e = cc
standing-told None (Some last) had replies m is_open outcome e = cc

-- These are the replies that it had.
standing-replies : (now : Option ℕ) (last : Option (ℕ × Outcome)) (had replies : List LastReply) (m : ℕ) (is_open : Bool) (outcome : Option Outcome)
    → standing now last had ≡ msg.MpState m is_open outcome replies → replies ≡ had
standing-replies (Some n) last had replies m is_open outcome e = cc
standing-replies None None had replies m is_open outcome e = cc
standing-replies None (Some last) had replies m is_open outcome e = cc

-- Nor does that change by calls behind it.
standing-calls : (E : Database) (p : ℕ) (prefix log : List Entry) (replies : List LastReply) → Prefix prefix log → OnlyCalls (drop (length prefix) log)
    → standing (open_in prefix) (last_done E p prefix) replies ≡ standing (open_in log) (last_done E p log) replies
standing-calls E p prefix log replies f calls = ap (λ o. standing o (last_done E p prefix) replies) opened ∙ ap (λ last. standing (open_in log) last replies) done
  where
    rest : List Entry
    rest = drop (length prefix) log

    is : log ≡ prefix ++ rest
    is = prefix-rest prefix log f

    opened : open_in prefix ≡ open_in log
    opened = open_in-stage E p prefix
        ∙ ap (option_map (λ x. x.0)) (sym (calls-opened (stage E p prefix) rest calls) ∙ ap (λ x. x.opened) (sym (stage-append (first_stage E p) prefix rest)) ∙ ap (λ xs. (stage E p xs).opened) (sym is))
        ∙ sym (open_in-stage E p log)

    done : last_done E p prefix ≡ last_done E p log
    done = sym (calls-done (last_done E p prefix) rest calls) ∙ sym (done-append (E.opening_done p) prefix rest) ∙ ap (last_done E p) (sym is)

-- ---- a site that leads

module _ (E : Database) (T : LogState) (J : LogsHold T) (M : Firm) (halted : Bool) (disks : DisksHold T M halted) (L : Transactions) (now : ℕ) (books : Books E T M L now) (i : ℕ)
    (slot : IsSlot T i) (inside : IsPart T (part T i)) (counts : leads T.words.deployment i (T.sites i) ≡ true → CountsOk T i) where
  abbrev D : Deployment
  D = T.words.deployment

  abbrev s : SiteState
  s = T.sites i

  module _ (authoritative : leads D i s ≡ true) where
    up : 0 < site_start T i
    up = leads-runs T J i authoritative

    abbrev k : Leading T i
    k = leading T i J up authoritative

    disk : MemberDisk T M i
    disk = (disks.disks i slot).member up k.joins

    term-is : site_term s ≡ term_of k.word
    term-is = ap term_in k.view

    some : (term : ℕ) → term ≡ site_term s → 0 < term
    some term e = subst (λ t. 0 < t) (sym (e ∙ term-is)) (some-term T J k.word k.member.decided)

    -- what it counts firm is everywhere
    everywhere : (n : ℕ) → n ≤ s.firm → Everywhere T M (part T i) (term_of k.word) n
    everywhere n l = record { reach = let a = k.member.firm in omega (arith, l, a); firm = let a = disk.firm in omega (arith, l, a) }

    -- An answer is of an entry that is firm.
    answer-stood : (term : ℕ) (e : Entry) → AnswersFirm D i s term e → (0 < term) × Stood T M (part T i) term e
    answer-stood term e a = (
      some term a.term_is,
      subst (λ t. Stood T M (part T i) t e) (sym (a.term_is ∙ term-is)) (record {
        leadership = k.leadership;
        led = k.led;
        position = a.position;
        stands = subst (λ xs. EntryAt xs a.position e) k.log a.stands;
        everywhere = everywhere a.position a.firm;
      }),
    )

    -- ---- how its partition stands

    module _ (all : has_all_on_disk D i s ≡ true) where
      begun-short : length k.leadership.begun ≤ length s.log
      begun-short = let a = prefix-length k.leadership.begun k.leadership.log (J.leaderships (part T i) (term_of k.word) k.leadership k.led).grown in let b = ap length k.log in omega (arith, a, b)

      -- what its term began with is acknowledged by all, and no joiner's stream began before
      begun-firm : length k.leadership.begun ≤ s.firm
      begun-firm =
          let low = length k.leadership.begun in
          let acks = acks-low low (length s.log) (copy_acks D i s) begun-short all in
          let led = ap (T.logs.leadership (part T i)) term-is ∙ k.led in
          let joiners : AllByRecursion (IsLow low) (map (λ j. Some (max j.stream_start j.position)) s.joiners) =
          joined-low low s.joiners ((counts authoritative).joined k.leadership led) in
          let n = some-low low (acknowledged D i s) (least-low low (own_ack s) (map (acked_in s.acks) (other_copies D i s) ++ map (λ j. Some (max j.stream_start j.position)) s.joiners) acks.0
          (all-append (IsLow low) (map (acked_in s.acks) (other_copies D i s)) (map (λ j. Some (max j.stream_start j.position)) s.joiners) acks.1 joiners)) in
          let l = (counts authoritative).counted n.0 n.1 in omega (arith, l, n.2)

      -- its own disk has the mark of the term
      own-mark : s.mark ≡ site_term s
      own-mark = go (s.mark == site_term s) refl (is_some_of-is (own_ack s) (length s.log) (and_parts (is_some_of (own_ack s) (length s.log)) _ all).0)
        where
          go : (b : Bool) → (s.mark == site_term s) ≡ b → (if b then Some s.on_disk else None) ≡ Some (length s.log) → s.mark ≡ site_term s
          go true e _ = eqb-true s.mark (site_term s) e
          go false e q = absurd (none-and-some refl q)

      own-top : Top T (part T i) (term_of k.word) 0
      own-top = record { slot = i; is_slot = slot; part_is = refl; all = rw disk.shows (inr (own-mark ∙ term-is, omega arith), tt) }

      told-state : (m : ℕ) (is_open : Bool) (outcome : Option Outcome) (replies : List LastReply)
          → standing (open_in s.log) (last_done E (part T i) s.log) (last_replies E (part T i) s.log) ≡ msg.MpState m is_open outcome replies → L.heard < term_of k.word
          → StateOk E T M (term_of k.word) (heard_of (part T i) m is_open outcome replies)
      told-state m is_open outcome replies told above = record {
        part = inside;
        leadership = k.leadership;
        led = k.led;
        told = standing-calls E (part T i) k.leadership.begun k.leadership.log replies (J.leaderships (part T i) (term_of k.word) k.leadership k.led).grown
            ((books.leaderships (part T i) (term_of k.word) k.leadership inside k.led).unheard above)
            ∙ ap (λ xs. standing (open_in xs) (last_done E (part T i) xs) replies) (sym k.log) ∙ standing-told (open_in s.log) (last_done E (part T i) s.log) (last_replies E (part T i) s.log) replies m is_open outcome told;
        everywhere = everywhere (length k.leadership.begun) begun-firm;
        top = own-top;
        log = s.log;
        behind = subst (Prefix k.leadership.begun) (sym k.log) (J.leaderships (part T i) (term_of k.word) k.leadership k.led).grown;
        within = subst (λ xs. Prefix xs k.leadership.log) (sym k.log) (prefix-refl k.leadership.log);
        replies_are = standing-replies (open_in s.log) (last_done E (part T i) s.log) (last_replies E (part T i) s.log) replies m is_open outcome told;
      }

  -- What it says is so.
  pub answers-ok : (l : Letter) → SentAnswer E D i ToOrders s l → AnswerOk E T M L (part T i) l
  answers-ok l = elim l.body as (λ b. SentAnswer E D i ToOrders s (record l { body = b }) → AnswerOk E T M L (part T i) (record l { body = b })) [
    | msg.FragDone m round partial ↦ λ a.
        let k = a.answered refl in let c = k.stands.here.claim in let e = Frag m round c.0 in
        let r = answer-stood k.leads l.term e (answers-firm D i s (ToOrders (msg.FragDone m round partial)) l.term e a.to_initiator k c.1) in (r.0, (c.0, r.1))
    | msg.Finished m ↦ λ a.
        let k = a.answered refl in let c = k.stands.here.claim in let e = Done m c.0 in
        let r = answer-stood k.leads l.term e (answers-firm D i s (ToOrders (msg.Finished m)) l.term e a.to_initiator k c.1) in (r.0, (c.0, r.1))
    | msg.MpState m is_open outcome replies ↦ λ sent. let a = sent.to_initiator in (
      some a.leads l.term a.term_is,
      λ above. let e = a.term_is ∙ term-is a.leads in
          subst (λ t. StateOk E T M t (heard_of (part T i) m is_open outcome replies)) (sym e)
          (told-state a.leads a.on_disk m is_open outcome replies a.told (omega (arith, above, e))),
    )
    | b ↦ λ a. tt
  ]
