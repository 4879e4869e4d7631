-- What a disk may show after parts of a Sync: each content was written in the epoch, and is no worse than what the disk showed.
use Rattle.disk_laws.proofs.Names.{◌≡◌, ◌<◌, ◌≤◌, Bool, true, false, List, [], ◌++◌, length, take, length-take, append_assoc, refl, sym, subst, ap, ◌∙◌, ◌⊎◌, inl, inr, arith, cases_lt, ℕ, Option, Some, None, AllByRecursion, Membership, Shown, mark_of, term_of, term_in, SiteState, Streamed, Joining, joiner_parts, parts_of_sync, all-mono, none-and-some, same-some, not-both, LogState, Leadership, Line, LogsHold, FollowsIn, LeadsIn, MemberOk, Took, StreamIn, ViewIn, StreamedOk, line, between, part, site_start, log_at, term_at, Prefix, leads-or-follows, prefix-trans, prefix-length, prefixes-order, prefix-take, take-prefix, AtLeast, Firm, ContentOk, MemberDisk, StreamDisk, DiskOk, Written}
use Rattle.std.proofs.lemmas.List.{take_all}
use Rattle.disk_laws.proofs.Order.{Raise, raise-one}
use Rattle.disk_laws.proofs.Contents.{member-written}
use Rattle.disk_laws.proofs.SyncParts.{PartOf, JoinerPart, BaseShown, member-parts, stream-parts}

-- What the parts of a Sync leave on the disk of slot i.
pub record PartsOk (S : LogState) (F : Firm) (i : ℕ) (parts : List Shown) : Type 0 where
  pub contents : AllByRecursion (ContentOk S F false (part S i)) parts
  pub marks : AllByRecursion (λ x. mark_of x ≤ (S.sites i).greatest) parts
  pub raise : Raise (S.sites i).contents parts

-- no parts
no-parts : (S : LogState) (F : Firm) (i : ℕ) → PartsOk S F i []
no-parts S F i = record { contents = tt; marks = tt; raise = λ y k. absurd k }

-- What a term began with that was led is in a site's log, up to a position.
pub record BegunContent (S : LogState) (i mark end : ℕ) : Type 0 where
  pub leadership : Leadership
  pub led : S.logs.leadership (part S i) mark ≡ Some leadership
  pub begun : Prefix leadership.begun (take end (log_at S i))

module _ (S : LogState) (H : LogsHold S) (i : ℕ) (up : 0 < site_start S i) (F : Firm) (K : DiskOk S F false i) where
  abbrev s : SiteState
  s = S.sites i

  low : s.on_disk ≤ length s.log
  low = ((H.sites i).keeps up).on_disk

  -- ---- a member

  module _ (none : (S.sites i).joining ≡ None) where
    pub disk : MemberDisk S F i
    disk = K.member up none

    m : (w : Membership) × (s.view ≡ Some w) × MemberOk S i w
    m = (H.sites i).member up none

    -- one that is repaired has what its term began with
    pub term-begun : s.repaired ≡ true → (g : Leadership) × (S.logs.leadership (part S i) (term_at S i) ≡ Some g) × Prefix g.begun s.log
    term-begun repaired = subst (λ t. (g : Leadership) × (S.logs.leadership (part S i) t ≡ Some g) × Prefix g.begun s.log) (sym (ap term_in m.1)) there
      where
        authoritative : (o : Option Leadership) → S.logs.leadership (part S i) (term_of m.0) ≡ o → LeadsIn s o
            → (g : Leadership) × (S.logs.leadership (part S i) (term_of m.0) ≡ Some g) × Prefix g.begun s.log
        authoritative None e k = absurd (not-both s.repaired repaired k)
        authoritative (Some g) e k = (g, e, subst (Prefix g.begun) (sym k.1) (H.leaderships (part S i) (term_of m.0) g e).grown)

        follow : (ln : List Line) (o : Option Leadership) → S.logs.leadership (part S i) (term_of m.0) ≡ o → FollowsIn s ln o
            → (g : Leadership) × (S.logs.leadership (part S i) (term_of m.0) ≡ Some g) × Prefix g.begun s.log
        follow ln None e k = absurd (not-both s.repaired repaired k.0)
        follow ln (Some g) e (inl k) = (g, e, k.4)
        follow ln (Some g) e (inr k) = absurd (not-both s.repaired repaired k.1)

        there : (g : Leadership) × (S.logs.leadership (part S i) (term_of m.0) ≡ Some g) × Prefix g.begun s.log
        there = elim (leads-or-follows S.words.deployment m.0 i (site_start S i) m.2.start_is) [
          | inl k ↦ authoritative (S.logs.leadership (part S i) (term_of m.0)) refl (m.2.leading k)
          | inr (l, f) ↦ follow (line (site_start S i) (term_of m.0) (between S l i)) (S.logs.leadership (part S i) (term_of m.0)) refl (m.2.following l f)
        ]

    -- the mark that it owes is its term's
    pub owed-mark : (n : ℕ) → s.owes ≡ Some n → (n ≡ term_at S i) × (s.repaired ≡ true)
    owed-mark n e = elim disk.owes [ inl k ↦ absurd (none-and-some k e) | inr k ↦ (same-some (sym e ∙ k.0), k.1) ]

    -- a mark of a part was led, and isn't below that which it has
    pub mark-begun : (n end : ℕ) → s.on_disk ≤ end → (n ≡ s.mark) ⊎ ((s.owes ≡ Some n) × (length s.log ≤ end)) → BegunContent S i n end
    mark-begun n end from (inl e) = record {
      leadership = disk.leadership;
      led = ap (S.logs.leadership (part S i)) e ∙ disk.led;
      begun = prefix-trans disk.leadership.begun (take s.on_disk s.log) (take end s.log) disk.begun (take-prefix s.on_disk end s.log from);
    }
    mark-begun n end from (inr (e, whole)) =
        let k = owed-mark n e in
        let g = term-begun k.1 in
        record { leadership = g.0; led = ap (S.logs.leadership (part S i)) k.0 ∙ g.1; begun = subst (Prefix g.0.begun) (sym (take_all end s.log whole)) g.2 }

    pub mark-rises : (n end : ℕ) → (n ≡ s.mark) ⊎ ((s.owes ≡ Some n) × (length s.log ≤ end)) → (s.mark ≤ n) × (n ≤ term_at S i)
    mark-rises n end (inl e) = let l = disk.mark in (omega (arith, e), omega (arith, e, l))
    mark-rises n end (inr (e, whole)) = let l = disk.mark in let k = (owed-mark n e).0 in (omega (arith, l, k), omega (arith, k))

    part-content : (y : Shown) → PartOf s y → ContentOk S F false (part S i) y
    part-content y k =
        let b = mark-begun k.mark k.end k.from k.marked in
        subst (ContentOk S F false (part S i)) (sym k.shows)
        (member-written S H i k.mark b.leadership b.led up none (mark-rises k.mark k.end k.marked).1 (record { mark = k.mark; base = k.base; log = take k.end s.log }) refl
        (prefix-take k.end s.log) b.begun)

    part-mark : (y : Shown) → PartOf s y → mark_of y ≤ s.greatest
    part-mark y k =
        let t = (H.sites i).term in
        let l = (mark-rises k.mark k.end k.marked).1 in
        let e = ap mark_of k.shows in
        omega (arith, t, l, e)

    part-good : (y : Shown) → PartOf s y → AtLeast s.mark (length (take s.on_disk s.log)) y
    part-good y k = subst (AtLeast s.mark (length (take s.on_disk s.log))) (sym k.shows) (elim (cases_lt s.mark k.mark) [
      | inl l ↦ inl l
      | inr l ↦ let r = (mark-rises k.mark k.end k.marked).0 in
          inr (omega (arith, l, r), prefix-length (take s.on_disk s.log) (take k.end s.log) (take-prefix s.on_disk k.end s.log k.from))
    ])

    member-ok : PartsOk S F i (parts_of_sync s None)
    member-ok =
        let parts = member-parts s low in
        record {
          contents = all-mono (PartOf s) (ContentOk S F false (part S i)) part-content (parts_of_sync s None) parts;
          marks = all-mono (PartOf s) (λ x. mark_of x ≤ s.greatest) part-mark (parts_of_sync s None) parts;
          raise = subst (λ xs. Raise xs (parts_of_sync s None)) (sym disk.shows)
              (raise-one (record { mark = s.mark; base = s.base; log = take s.on_disk s.log }) (parts_of_sync s None)
              (all-mono (PartOf s) (AtLeast s.mark (length (take s.on_disk s.log))) part-good (parts_of_sync s None) parts));
        }

  -- ---- a joiner that has taken its stream

  module _ (j : Joining) (joins : (S.sites i).joining ≡ Some j) (st : Streamed) (stream : j.stream ≡ Some st) where
    pub stream-disk : StreamDisk S i j (Some st)
    stream-disk = subst (StreamDisk S i j) stream (K.joiner refl j joins)

    pub base-shown : j.is_based ≡ true → BaseShown s st
    base-shown e = let k = stream-disk.2 e in record { mark = k.1; base = k.2; from = k.3 }

    -- in the term of its word
    took : (w : Membership) × (s.view ≡ Some w) × Took S i w j st.stream_start
    took = viewed s.view refl ((H.sites i).joiner j joins).view
      where
        viewed : (o : Option Membership) → s.view ≡ o → ViewIn S i j o → (w : Membership) × (s.view ≡ Some w) × Took S i w j st.stream_start
        viewed None e k = absurd (none-and-some k.stream stream)
        viewed (Some w) e k = (w, e, subst (StreamIn S i w j) stream k.stream)

    ok : StreamedOk S i (term_of took.0) (record { start = site_start S i; stream_start = st.stream_start })
    ok = H.streamed i (term_of took.0) (record { start = site_start S i; stream_start = st.stream_start }) took.2.streamed

    pub stream-within : st.stream_start ≤ length s.log
    stream-within = (ok.running refl).3

    -- its log is a prefix of its leader's
    stream-prefix : Prefix s.log took.2.leadership.log
    stream-prefix = (j.tasks ++ took.2.more, sym took.2.whole ∙ append_assoc s.log j.tasks took.2.more)

    marked : st.mark ≡ term_of took.0
    marked = stream-disk.0 ∙ ap term_in took.1

    -- its log up to there or further has what its term began with
    part-begun : (end : ℕ) → st.stream_start ≤ end → Prefix ok.leadership.begun (take end s.log)
    part-begun end from =
        let g = took.2.leadership in
        let same : ok.leadership ≡ g = same-some (sym ok.led ∙ took.2.led) in
        prefixes-order ok.leadership.begun (take end s.log) ok.leadership.log (H.leaderships (part S i) (term_of took.0) ok.leadership ok.led).grown
        (subst (λ r. Prefix (take end s.log) r.log) (sym same)
        (prefix-trans (take end s.log) s.log g.log (prefix-take end s.log) stream-prefix))
        (let b = ok.behind in omega (arith, b, from, stream-within, length-take end s.log))

    stream-written : (base end : ℕ) → st.stream_start ≤ end → Written S (part S i) (record { mark = st.mark; base = base; log = take end s.log })
    stream-written base end from = record {
      leadership = ok.leadership;
      led = ap (S.logs.leadership (part S i)) marked ∙ ok.led;
      begun = part-begun end from;
      term = term_of took.0;
      above = omega (arith, marked);
      later = took.2.leadership;
      later_led = took.2.led;
      prefix = prefix-trans (take end s.log) s.log took.2.leadership.log (prefix-take end s.log) stream-prefix;
    }

    stream-mark : (y : Shown) → JoinerPart s j st y → mark_of y ≤ s.greatest
    stream-mark y k =
        let t = (H.sites i).term in
        let l = stream-disk.0 in
        let e = ap mark_of k.shows in
        omega (arith, t, l, e)

    stream-good : j.is_based ≡ true → (y : Shown) → JoinerPart s j st y → AtLeast s.mark (length (take s.on_disk s.log)) y
    stream-good e y k = subst (AtLeast s.mark (length (take s.on_disk s.log))) (sym k.shows)
        (inr (sym (base-shown e).mark, prefix-length (take s.on_disk s.log) (take k.end s.log) (take-prefix s.on_disk k.end s.log (k.disk e))))

    stream-raise : (b : Bool) → j.is_based ≡ b → (parts : List Shown) → AllByRecursion (JoinerPart s j st) parts → Raise s.contents parts
    stream-raise false e parts h = subst (λ xs. Raise xs parts) (sym (stream-disk.1 e)) (λ y i. (None, inl refl, λ m n h. absurd h))
    stream-raise true e parts h = subst (λ xs. Raise xs parts) (sym (stream-disk.2 e).0)
        (raise-one (record { mark = s.mark; base = s.base; log = take s.on_disk s.log }) parts
        (all-mono (JoinerPart s j st) (AtLeast s.mark (length (take s.on_disk s.log))) (stream-good e) parts h))

    stream-ok : PartsOk S F i (joiner_parts s j (Some st))
    stream-ok =
        let parts = stream-parts s j st base-shown in
        record {
          contents = all-mono (JoinerPart s j st) (ContentOk S F false (part S i))
              (λ y k. subst (ContentOk S F false (part S i)) (sym k.shows) (stream-written k.base k.end k.from)) (joiner_parts s j (Some st)) parts;
          marks = all-mono (JoinerPart s j st) (λ x. mark_of x ≤ s.greatest) stream-mark (joiner_parts s j (Some st)) parts;
          raise = stream-raise j.is_based refl (joiner_parts s j (Some st)) parts;
        }

  -- ---- all parts

  pub parts-ok : PartsOk S F i (parts_of_sync s s.joining)
  parts-ok = choice s.joining refl
    where
      joins : (j : Joining) → s.joining ≡ Some j → (o : Option Streamed) → j.stream ≡ o → PartsOk S F i (joiner_parts s j o)
      joins j e None q = no-parts S F i
      joins j e (Some st) q = stream-ok j e st q

      choice : (o : Option Joining) → s.joining ≡ o → PartsOk S F i (parts_of_sync s o)
      choice None e = member-ok e
      choice (Some j) e = joins j e j.stream refl
