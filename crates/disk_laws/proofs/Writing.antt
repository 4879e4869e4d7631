-- What a site's disk shows once it has written all that it owed, and what the site knows of it.
use Rattle.disk_laws.proofs.Names.{◌≡◌, ◌<◌, ◌≤◌, Bool, true, false, List, [], ◌∷◌, length, refl, sym, subst, ap, ◌∙◌, ◌⊎◌, inl, inr, true≢false, arith, cases_Bool, cond_both, ℕ, if◌then◌else◌, unwrap_or, Option, Some, None, AllByRecursion, Shown, after_parts, mark_of, SiteState, Streamed, Joining, site_term, content, mark_owed, joiner_parts, joiner_written, member_written, written, parts_of_sync, none-and-some, same-some, not-both, LogState, LogsHold, HeldOk, part, site_start, term_at, Firm, ContentOk, MemberDisk, StreamDisk, DiskOk, own_content}
use Rattle.disk_laws.proofs.Order.{some-after_parts, all-after_parts}
use Rattle.disk_laws.proofs.Own.{OwnAt, OwnMember, OwnStream}
use Rattle.disk_laws.proofs.SyncParts.{member-last, stream-last, stream-waits}
use Rattle.disk_laws.proofs.SyncContents.{BegunContent, disk, owed-mark, mark-begun, mark-rises, stream-disk, base-shown, stream-within, parts-ok}

-- ---- what it shows once all is written

module _ (S : LogState) (H : LogsHold S) (i : ℕ) (up : 0 < site_start S i) (F : Firm) (K : DiskOk S F false i) where
  abbrev s : SiteState
  s = S.sites i

  abbrev parts : List Shown
  parts = parts_of_sync s s.joining

  abbrev pub wrote_disk : SiteState
  wrote_disk = record (written s s.joining) { contents = after_parts s.contents parts }

  low : s.on_disk ≤ length s.log
  low = ((H.sites i).keeps up).on_disk

  -- ---- a member

  module _ (none : s.joining ≡ None) where
    d : MemberDisk S F i
    d = disk S H i up F K none

    -- of the mark that it owed
    owed : (o : Option ℕ) → s.owes ≡ o → (unwrap_or o s.mark ≡ s.mark) ⊎ ((s.owes ≡ Some (unwrap_or o s.mark)) × (length s.log ≤ length s.log))
    owed None e = inl refl
    owed (Some m) e = inr (e, omega arith)

    b : BegunContent S i (mark_owed s) (length s.log)
    b = mark-begun S H i up F K none (mark_owed s) (length s.log) low (owed s.owes refl)

    marked : mark_owed s ≡ term_at S i → s.repaired ≡ true
    marked e = choice s.owes refl e
      where
        choice : (o : Option ℕ) → s.owes ≡ o → unwrap_or o s.mark ≡ term_at S i → s.repaired ≡ true
        choice None q k = d.marked k
        choice (Some m) q k = (owed-mark S H i up F K none m q).1

    member-wrote : OwnMember (S.logs.leadership (part S i)) (F (part S i)) (record (member_written s) { contents = after_parts s.contents (parts_of_sync s None) })
    member-wrote = record {
      shows = ap (λ xs. after_parts xs (parts_of_sync s None)) d.shows ∙ member-last s low;
      mark = (mark-rises S H i up F K none (mark_owed s) (length s.log) (owed s.owes refl)).1;
      leadership = b.leadership;
      is_led = b.led;
      begun = b.begun;
      marked = marked;
      firm = d.firm;
      owes = inl refl;
    }

  -- ---- a joiner

  module _ (j : Joining) (joins : s.joining ≡ Some j) (st : Streamed) (stream : j.stream ≡ Some st) where
    k : StreamDisk S i j (Some st)
    k = stream-disk S H i up F K j joins st stream

    -- once it has loaded all, its base is on disk
    loaded-wrote : j.is_loaded ≡ true → after_parts s.contents (joiner_parts s j (Some st)) ≡ content st.mark st.stream_start s (length s.log) ∷ []
    loaded-wrote loaded =
        stream-last s j st (base-shown S H i up F K j joins st stream) low s.contents (λ e. (k.2 e).0) loaded (stream-within S H i up F K j joins st stream)

    unbased : j.is_loaded ≡ false → j.is_based ≡ false
    unbased e = elim (cases_Bool j.is_based) [ inl t ↦ absurd (not-both j.is_loaded (((H.sites i).joiner j joins).based t) e) | inr f ↦ f ]

    waits-wrote : j.is_loaded ≡ false → after_parts s.contents (joiner_parts s j (Some st)) ≡ s.contents
    waits-wrote e = ap (after_parts s.contents) (stream-waits s j st (base-shown S H i up F K j joins st stream) e (unbased e))

    -- what a joiner's stream says of its disk then
    stream-wrote : (u : SiteState) (c : Bool) → j.is_loaded ≡ c → u ≡ record (if c
        then record s { joining = Some (record j { written = j.blocks; is_based = true }); on_disk = length s.log; mark = st.mark; base = st.stream_start }
        else record s { joining = Some (record j { written = j.blocks }) }) { contents = after_parts s.contents (joiner_parts s j (Some st)) }
        → (n : Joining) → u.joining ≡ Some n → OwnStream u n n.stream
    stream-wrote u true loaded is n some =
        let same : record j { written = j.blocks; is_based = true } ≡ n = same-some (sym (ap (λ x. x.joining) is) ∙ some) in
        subst (λ x. OwnStream u x x.stream) same (subst (OwnStream u (record j { written = j.blocks; is_based = true })) (sym stream) (
          k.0 ∙ ap site_term (sym is),
          λ e. absurd (true≢false e),
          λ _. (
            ap (λ x. x.contents) is ∙ loaded-wrote loaded ∙ ap (λ x. own_content x ∷ []) (sym is),
            ap (λ x. x.mark) is,
            ap (λ x. x.base) is,
            subst (λ x. st.stream_start ≤ x.on_disk) (sym is) (stream-within S H i up F K j joins st stream),
          ),
        ))
    stream-wrote u false loaded is n some =
        let same : record j { written = j.blocks } ≡ n = same-some (sym (ap (λ x. x.joining) is) ∙ some) in
        subst (λ x. OwnStream u x x.stream) same (subst (OwnStream u (record j { written = j.blocks })) (sym stream) (
          k.0 ∙ ap site_term (sym is),
          λ e. ap (λ x. x.contents) is ∙ waits-wrote loaded ∙ k.1 e,
          λ e. absurd (not-both j.is_based e (unbased loaded)),
        ))

  -- ---- either

  -- what no write changes
  written-same : {A : Type 0} (f : SiteState → A) → f (member_written s) ≡ f s → ((j : Joining) (st : Streamed) → f (joiner_written s j (Some st)) ≡ f s)
      → (o : Option Joining) → f (written s o) ≡ f s
  written-same f m k None = m
  written-same f m k (Some j) = choice j.stream
    where
      choice : (o : Option Streamed) → f (joiner_written s j o) ≡ f s
      choice None = refl
      choice (Some st) = k j st

  pub wrote-start : wrote_disk.start ≡ s.start
  wrote-start = written-same (λ x. x.start) refl (λ j st. cond_both {A = SiteState} j.is_loaded _ _ (λ x. x.start ≡ s.start) (λ _. refl) (λ _. refl)) s.joining

  pub wrote-firm : wrote_disk.firm ≡ s.firm
  wrote-firm = written-same (λ x. x.firm) refl (λ j st. cond_both {A = SiteState} j.is_loaded _ _ (λ x. x.firm ≡ s.firm) (λ _. refl) (λ _. refl)) s.joining

  pub wrote-held : AllByRecursion HeldOk wrote_disk.held
  wrote-held = subst (AllByRecursion HeldOk) (sym held) ((H.sites i).keeps up).held
    where
      held : wrote_disk.held ≡ s.held
      held = written-same (λ x. x.held) refl (λ j st. cond_both {A = SiteState} j.is_loaded _ _ (λ x. x.held ≡ s.held) (λ _. refl) (λ _. refl)) s.joining

  joiner-low : (j : Joining) (o : Option Streamed) → (joiner_written s j o).on_disk ≤ length (joiner_written s j o).log
  joiner-low j None = low
  joiner-low j (Some st) = cond_both {A = SiteState} j.is_loaded _ _ (λ x. x.on_disk ≤ length x.log) (λ _. omega arith) (λ _. low)

  written-low : (o : Option Joining) → (written s o).on_disk ≤ length (written s o).log
  written-low None = omega arith
  written-low (Some j) = joiner-low j j.stream

  pub wrote-low : wrote_disk.on_disk ≤ length wrote_disk.log
  wrote-low = written-low s.joining

  -- What is said of the site once it has written.
  pub wrote-own : OwnAt S F false i wrote_disk
  wrote-own = let p = parts-ok S H i up F K in record {
    some = some-after_parts s.contents parts K.some;
    contents = all-after_parts (ContentOk S F false (part S i)) s.contents parts K.contents p.contents;
    marks = λ _. subst (λ n. AllByRecursion (λ y. mark_of y ≤ n) (after_parts s.contents parts)) (sym greatest)
        (all-after_parts (λ y. mark_of y ≤ s.greatest) s.contents parts (K.marks refl) p.marks);
    member = λ _ none. member s.joining refl none;
    joiner = λ _ n is. joiner s.joining refl n is;
  }
    where
      greatest : wrote_disk.greatest ≡ s.greatest
      greatest = written-same (λ x. x.greatest) refl
          (λ j st. cond_both {A = SiteState} j.is_loaded _ _ (λ x. x.greatest ≡ s.greatest) (λ _. refl) (λ _. refl)) s.joining

      stream-joins : (j : Joining) (o : Option Streamed) → s.joining ≡ Some j → (joiner_written s j o).joining ≡ None → ⊥
      stream-joins j None e n = none-and-some n e
      stream-joins j (Some st) e n = cond_both {A = SiteState} j.is_loaded _ _ (λ x. x.joining ≡ None → ⊥) (λ _ q. absurd (cc)) (λ _ q. absurd (cc)) n

      member : (o : Option Joining) → s.joining ≡ o → wrote_disk.joining ≡ None → OwnMember (S.logs.leadership (part S i)) (F (part S i)) wrote_disk
      member None e n = subst (λ x. OwnMember (S.logs.leadership (part S i)) (F (part S i)) (record (written s x) { contents = after_parts s.contents (parts_of_sync s x) }))
          (sym e) (member-wrote e)
      member (Some j) e n = absurd (stream-joins j j.stream e (sym (ap (λ x. (written s x).joining) e) ∙ n))

      joiner : (o : Option Joining) → s.joining ≡ o → (n : Joining) → wrote_disk.joining ≡ Some n → OwnStream wrote_disk n n.stream
      joiner None e n is = absurd (none-and-some (ap (λ x. (written s x).joining) e ∙ e) is)
      joiner (Some j) e n is = stream j.stream refl
        where
          there : (o : Option Streamed) → j.stream ≡ o → wrote_disk ≡ record (joiner_written s j o) { contents = after_parts s.contents (joiner_parts s j o) }
          there o q = ap (λ x. record (written s x) { contents = after_parts s.contents (parts_of_sync s x) }) e
              ∙ ap (λ x. record (joiner_written s j x) { contents = after_parts s.contents (joiner_parts s j x) }) q

          -- one without its stream stays as it was
          none : j.stream ≡ None → OwnStream wrote_disk n n.stream
          none q =
              let same : j ≡ n = same-some (sym e ∙ sym (ap (λ x. x.joining) (there None q)) ∙ is) in
              subst (λ x. OwnStream wrote_disk x x.stream) same (subst (OwnStream wrote_disk j) (sym q)
              (subst (λ x. AllByRecursion (λ y. mark_of y ≤ x.earlier) x.contents) (sym (there None q)) (subst (StreamDisk S i j) q (K.joiner refl j e))))

          stream : (o : Option Streamed) → j.stream ≡ o → OwnStream wrote_disk n n.stream
          stream None q = none q
          stream (Some st) q = stream-wrote j e st q wrote_disk j.is_loaded refl (there (Some st) q) n is
