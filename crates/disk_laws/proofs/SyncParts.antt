-- What a Sync writes: what a disk shows after each of its parts, and after all of them.
use Rattle.disk_laws.proofs.Names.{cond_both, ◌≡◌, ◌<◌, ◌≤◌, Bool, true, false, List, [], ◌∷◌, ◌++◌, length, append-nil, refl, ap, ◌∙◌, ◌⊎◌, inl, inr, true≢false, arith, or_parts, and_parts, nat_tests, ℕ, ◌&&◌, ◌||◌, nat_lt, if◌then◌else◌, Option, Some, None, is_some, unwrap_or, AllByRecursion, Shown, after_parts, SiteState, Streamed, Joining, Scanning, ForJoiner, ForBase, content, mark_owed, split_at, batches, owed_batches, parts_of_sync, base_of, base_after, joiner_base, joiner_parts, all-append, all-one, all-if, not-both, own_content}
use Rattle.disk_laws.proofs.Order.{after_parts-last}

-- ---- a member

-- After a part its disk shows no less of its log than before under its mark, or all of it under the mark that it owes.
pub record PartOf (s : SiteState) (y : Shown) : Type 0 where
  pub mark : ℕ
  pub base : ℕ
  pub end : ℕ
  pub shows : y ≡ content mark base s end
  pub from : s.on_disk ≤ end
  pub marked : (mark ≡ s.mark) ⊎ ((s.owes ≡ Some mark) × (length s.log ≤ end))

module _ (s : SiteState) (low : s.on_disk ≤ length s.log) where
  -- the whole log
  whole-part : (base : ℕ) → PartOf s (content (mark_owed s) base s (length s.log))
  whole-part base = choice s.owes refl
    where
      choice : (o : Option ℕ) → s.owes ≡ o → PartOf s (content (unwrap_or o s.mark) base s (length s.log))
      choice None e = record { mark = s.mark; base = base; end = length s.log; shows = refl; from = low; marked = inl refl }
      choice (Some m) e = record { mark = m; base = base; end = length s.log; shows = refl; from = low; marked = inr (e, omega arith) }

  split-parts : (position : ℕ) → AllByRecursion (PartOf s) (split_at s position)
  split-parts position =
      all-append (PartOf s) (if nat_lt s.on_disk position && nat_lt position (length s.log) then content s.mark s.base s position ∷ [] else [])
      (content (mark_owed s) s.base s (length s.log) ∷ [])
      (all-one (PartOf s) (nat_lt s.on_disk position && nat_lt position (length s.log)) (content s.mark s.base s position) (λ e. record {
        mark = s.mark;
        base = s.base;
        end = position;
        shows = refl;
        from = let k : s.on_disk < position = grind (arith, nat_tests, (and_parts (nat_lt s.on_disk position) (nat_lt position (length s.log)) e).0) in omega (arith, k);
        marked = inl refl;
      }))
      (whole-part s.base, tt)

  batch-parts : (sc : Option Scanning) → AllByRecursion (PartOf s) (batches s sc)
  batch-parts (Some (ForBase id position blocks written count)) = split-parts position
  batch-parts o = (whole-part s.base, tt)

  base-parts : (sc : Option Scanning) → AllByRecursion (PartOf s) (base_of s sc)
  base-parts (Some (ForBase id position blocks written (Some count))) = (whole-part position, tt)
  base-parts o = tt

  -- each part of its Sync
  pub member-parts : AllByRecursion (PartOf s) (parts_of_sync s None)
  member-parts = all-append (PartOf s) (owed_batches s) (base_of s s.scanning)
      (all-if (PartOf s) (nat_lt s.on_disk (length s.log) || is_some s.owes) (batches s s.scanning) [] (batch-parts s.scanning) tt)
      (base-parts s.scanning)

  -- what it shows where nothing is owed
  nothing-owed : (nat_lt s.on_disk (length s.log) || is_some s.owes) ≡ false → own_content s ≡ content (mark_owed s) s.base s (length s.log)
  nothing-owed e = choice s.owes refl (or_parts (nat_lt s.on_disk (length s.log)) (is_some s.owes) e)
    where
      choice : (o : Option ℕ) → s.owes ≡ o → (nat_lt s.on_disk (length s.log) ≡ false) × (is_some o ≡ false)
          → own_content s ≡ content (unwrap_or o s.mark) s.base s (length s.log)
      choice (Some m) q k = absurd (true≢false k.1)
      choice None q k =
          let end : s.on_disk ≡ length s.log = grind (arith, nat_tests, low, k.0) in
          ap (λ n. content s.mark s.base s n) end

  -- After all parts it shows the whole log.
  pub member-last : after_parts (own_content s ∷ []) (parts_of_sync s None) ≡ content (mark_owed s) (base_after s.base s.scanning) s (length s.log) ∷ []
  member-last = go (nat_lt s.on_disk (length s.log) || is_some s.owes) refl s.scanning
    where
      last : Shown
      last = content (mark_owed s) s.base s (length s.log)

      go : (b : Bool) → (nat_lt s.on_disk (length s.log) || is_some s.owes) ≡ b → (sc : Option Scanning)
          → after_parts (own_content s ∷ []) ((if b then batches s sc else []) ++ base_of s sc) ≡ content (mark_owed s) (base_after s.base sc) s (length s.log) ∷ []
      go b e (Some (ForBase id position blocks written (Some count))) =
          after_parts-last (own_content s ∷ []) (if b then split_at s position else []) (content (mark_owed s) position s (length s.log))
      go true e (Some (ForBase id position blocks written None)) =
          ap (after_parts (own_content s ∷ [])) (append-nil (split_at s position))
          ∙ after_parts-last (own_content s ∷ []) (if nat_lt s.on_disk position && nat_lt position (length s.log) then content s.mark s.base s position ∷ [] else []) last
      go true e None = refl
      go true e (Some (ForJoiner id slot)) = refl
      go false e None = ap (λ x. x ∷ []) (nothing-owed e)
      go false e (Some (ForJoiner id slot)) = ap (λ x. x ∷ []) (nothing-owed e)
      go false e (Some (ForBase id position blocks written None)) = ap (λ x. x ∷ []) (nothing-owed e)

-- ---- a joiner with its stream

-- After a part its disk shows its log up to where its stream began, at least, under the mark of that.
pub record JoinerPart (s : SiteState) (j : Joining) (st : Streamed) (y : Shown) : Type 0 where
  pub base : ℕ
  pub end : ℕ
  pub shows : y ≡ content st.mark base s end
  pub from : st.stream_start ≤ end
  pub disk : j.is_based ≡ true → s.on_disk ≤ end

-- Its base is on its disk.
pub record BaseShown (s : SiteState) (st : Streamed) : Type 0 where
  pub mark : s.mark ≡ st.mark
  pub base : s.base ≡ st.stream_start
  pub from : st.stream_start ≤ s.on_disk

module _ (s : SiteState) (j : Joining) (st : Streamed) (based : j.is_based ≡ true → BaseShown s st) where
  -- what comes behind its base
  based-parts : (b : Bool) → j.is_based ≡ b → AllByRecursion (JoinerPart s j st)
      (if b then (if nat_lt s.on_disk (length s.log) then content s.mark s.base s (length s.log) ∷ [] else []) else if j.is_loaded then joiner_base s st else [])
  based-parts true e = all-one (JoinerPart s j st) (nat_lt s.on_disk (length s.log)) (content s.mark s.base s (length s.log)) (λ k.
      let h = based e in
      let low : s.on_disk < length s.log = grind (arith, nat_tests, k) in
      record {
        base = s.base;
        end = length s.log;
        shows = ap (λ m. content m s.base s (length s.log)) h.mark;
        from = omega (arith, low, h.from);
        disk = λ _. omega (arith, low);
      })
  based-parts false e = all-if (JoinerPart s j st) j.is_loaded (joiner_base s st) [] (
    record { base = st.stream_start; end = st.stream_start; shows = refl; from = omega arith; disk = λ t. absurd (not-both j.is_based t e) },
    all-one (JoinerPart s j st) (nat_lt st.stream_start (length s.log)) (content st.mark st.stream_start s (length s.log)) (λ k. record {
      base = st.stream_start;
      end = length s.log;
      shows = refl;
      from = let low : st.stream_start < length s.log = grind (arith, nat_tests, k) in omega (arith, low);
      disk = λ t. absurd (not-both j.is_based t e);
    }),
  ) tt

  -- each part of its Sync
  pub stream-parts : AllByRecursion (JoinerPart s j st) (joiner_parts s j (Some st))
  stream-parts = based-parts j.is_based refl

  -- After all parts it shows the whole log, if it has loaded all.
  pub stream-last : s.on_disk ≤ length s.log → (before : List Shown) → (j.is_based ≡ true → before ≡ own_content s ∷ []) → j.is_loaded ≡ true
      → st.stream_start ≤ length s.log → after_parts before (joiner_parts s j (Some st)) ≡ content st.mark st.stream_start s (length s.log) ∷ []
  stream-last low before shows loaded from = cond_both j.is_based _ _ (λ z. after_parts before z ≡ content st.mark st.stream_start s (length s.log) ∷ [])
      (λ e. based-last (based e) (shows e) (nat_lt s.on_disk (length s.log)) refl)
      (λ e. ap (λ b. after_parts before (if b then joiner_base s st else [])) loaded ∙ cond_both (nat_lt st.stream_start (length s.log)) _ _ (λ z. after_parts before (content st.mark st.stream_start s st.stream_start ∷ z) ≡ content st.mark st.stream_start s (length s.log) ∷ [])
      (λ e. refl) (λ e. let end : st.stream_start ≡ length s.log = grind (arith, nat_tests, from, e) in ap (λ n. content st.mark st.stream_start s n ∷ []) end))
    where
      based-last : BaseShown s st → before ≡ own_content s ∷ [] → (b : Bool) → nat_lt s.on_disk (length s.log) ≡ b
          → after_parts before (if b then content s.mark s.base s (length s.log) ∷ [] else []) ≡ content st.mark st.stream_start s (length s.log) ∷ []
      based-last h is true e = rw (h.mark, h.base) refl
      based-last h is false e =
          let end : s.on_disk ≡ length s.log = grind (arith, nat_tests, low, e) in
          is ∙ rw (h.mark, h.base, end) refl

  -- Until then nothing is written.
  pub stream-waits : j.is_loaded ≡ false → j.is_based ≡ false → joiner_parts s j (Some st) ≡ []
  stream-waits loaded unbased = rw (unbased, loaded) refl
