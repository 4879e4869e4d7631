-- A site takes a block, the end of a stream or of a scan: a joiner may have loaded all then.
use Rattle.log_laws.proofs.Names.{List, ap, append-nil, arith, false, inl, inr, refl, subst, sym, true, true≢false, ◌≡◌, ◌++◌, ◌∷◌, ◌∙◌, ◌⊎◌, ◌<◌, ◌≤◌, ◌==◌, [], ◌+◌, and_parts, length-append, AllByRecursion, None, Option, Some, is_some, length, map, not, ◌&&◌, ℕ, Entry, Membership, Letter, becomes, finishes_load, may_finish, on_chunk, on_scan_end, on_stream_end, with_count, ForBase, ForJoiner, Joiner, Joining, Scanning, SiteState, Streamed, is_some_of, term_in, term_of, none-and-some, same-some, set-here, set-there, no_sends, cond_both, CountedOk, EndOk, LogsHold, JoinerOk, LogState, StreamIn, Took, asked, between, log_at, part, site_start, term_at}
use Rattle.log_laws.proofs.Kept.{AtMost, asks-at, asks-of-same, at-most-same, LogsGo, LessTo, SiteTakes, becomes-goes, counts-on, same-counts, same-uncounts, takes-joined, takes-joiner, takes-letters, takes-stream, takes-took, takes-untaken, takes-word, takes-wordless, uncounts-on, with-site, goes-same, SiteGoesOn, map-joiners, map-slots, inert-becomes, reach-same, rests-goes, says-nothing, site-same, asked_of}

-- ---- a site changes with nothing under way

module _ (S : LogState) (H : LogsHold S) (i : ℕ) (up : 0 < site_start S i) (s : SiteState) (g : SiteGoesOn (S.sites i) s) (asks : s.asks ≡ (S.sites i).asks)
    (joiners : s.joiners ≡ (S.sites i).joiners) where
  pub alone-takes : SiteTakes S i s S.words.channel S.pending S.logs.streamed
  alone-takes = record {
    up = up;
    goes = g;
    others = λ a c n. refl;
    agents = λ h b. refl;
    told = λ c h. refl;
    director = λ h. refl;
    pending = λ c n. refl;
    streamed = λ c t n. refl;
    stays = λ t x is. is;
    fresh = λ t x is. inl is;
    asks = asks-at S (with-site S i s S.words.channel S.pending S.logs.streamed) i (λ l n. (set-there S.sites i s l n, refl, λ c. refl)) (λ c t.
        subst (λ x. AtMost (asked S c i t) (asked_of c t (between S c i) x (S.pending i))) (sym (set-here S.sites i s))
        (rw (g.waiting, asks-of-same c t (S.sites i) s g.view asks) (at-most-same (asked S c i t))));
    counted = counts-on S i s S.words.channel S.pending S.logs.streamed g (same-counts (S.sites i).joiners s.joiners joiners);
    uncounted = uncounts-on S i s S.words.channel S.pending S.logs.streamed g (same-uncounts (S.sites i).joiners s.joiners joiners);
  }

-- ---- a joiner loads

-- the site with this load and this log
abbrev pub with-load : SiteState → Joining → List Entry → SiteState
with-load s n log = record s { joining = Some n; log = log }

-- What is so of the load of a joiner that took its stream, from which it goes on to another one with this log.
pub record LoadsOn (S : LogState) (i : ℕ) (j n : Joining) (log : List Entry) (w : Membership) (stream_start : ℕ) : Type 0 where
  pub whole : log ++ n.tasks ≡ log_at S i ++ j.tasks
  pub loading : n.is_loaded ≡ false → length log ≡ stream_start
  pub loaded : n.is_loaded ≡ true → n.tasks ≡ []
  pub ends : (n.is_loaded ≡ true ⊎ is_some n.count ≡ true) → stream_start ≤ S.logs.reach (part S i) (term_of w)

pub load-on : (s : SiteState) (j n : Joining) (log : List Entry) → s.joining ≡ Some j → length s.log ≤ length log → (j.is_based ≡ true → n.is_based ≡ true)
    → SiteGoesOn s (with-load s n log)
load-on s j n log is longer based = record {
  start = refl;
  greatest = refl;
  earlier = refl;
  view = refl;
  acks = refl;
  reports = refl;
  held = refl;
  waiting = refl;
  log = longer;
  member = λ e. absurd (none-and-some e is);
  joins = λ x e. (n, refl);
  loaded = λ x e. (j, is, λ b. subst (λ z. z.is_based ≡ true) (same-some e) (based b));
}

module _ (S : LogState) (H : LogsHold S) (i : ℕ) (up : 0 < site_start S i) (j n : Joining) (log : List Entry) (is : (S.sites i).joining ≡ Some j)
    (longer : length (log_at S i) ≤ length log) (loaded : j.is_loaded ≡ true → n.is_loaded ≡ true) where
  load-goes : n.has_told ≡ j.has_told → n.is_based ≡ j.is_based → n.stream ≡ j.stream
      → (j.stream ≡ None → (n.is_loaded ≡ j.is_loaded) × (n.count ≡ j.count) × (n.tasks ≡ j.tasks) × (log ≡ log_at S i))
      → ((w : Membership) (stream_start : ℕ) → (S.sites i).view ≡ Some w → Took S i w j stream_start → LoadsOn S i j n log w stream_start)
      → LogsGo S i (becomes (with-load (S.sites i) n log))
  load-goes told based stream untaken took = becomes-goes S i s S.logs.streamed refl refl longer
      (takes-joined S H i s S.words.channel S.pending S.logs.streamed k j n is refl refl refl (λ h. let d = h.on_disk in omega (arith, d, longer)) (λ h. h)
      (takes-joiner S H i s S.words.channel S.pending S.logs.streamed k j n refl
      (λ e. loaded (old.told (sym told ∙ e))) (λ e. loaded (old.based (sym based ∙ e)))
      (λ w view h. takes-word S H i s S.words.channel S.pending S.logs.streamed k less w j n
      (λ u. subst (StreamIn T i w n) (sym stream) (in-stream w view j.stream refl u)) h)
      (λ none h. let u = untaken h.stream in
      takes-wordless S H i s S.words.channel S.pending S.logs.streamed k j n stream u.0 u.1 u.2 u.3 refl (λ t. refl) h) old)
      (λ l slot. takes-letters S H i s S.words.channel S.pending S.logs.streamed k (λ t. refl) l (λ a t stream_start b. b) (between S l i) (H.letters l i slot))
      (λ from. H.foreign from i)
      (takes-stream S H i s S.words.channel S.pending S.logs.streamed k))
    where
      s : SiteState
      s = with-load (S.sites i) n log

      T : LogState
      T = with-site S i s S.words.channel S.pending S.logs.streamed

      k : SiteTakes S i s S.words.channel S.pending S.logs.streamed
      k = alone-takes S H i up s (load-on (S.sites i) j n log is longer (λ b. based ∙ b)) refl refl

      less : LessTo S i S.words.channel
      less = record { lines = λ l a t. refl; flows = λ l a t e. e; ends = λ l a t e. e }

      old : JoinerOk S i j
      old = (H.sites i).joiner j is

      in-stream : (w : Membership) → (S.sites i).view ≡ Some w → (o : Option Streamed) → j.stream ≡ o → StreamIn S i w j o → StreamIn T i w n o
      in-stream w view None e h = let u = untaken e in
          takes-untaken S H i s S.words.channel S.pending S.logs.streamed k less (λ t. refl) w j n u.0 u.1 u.2 u.3 refl (λ l f low. refl) h
      in-stream w view (Some x) e h = let u = took w x.stream_start view h in
          takes-took S H i s S.words.channel S.pending S.logs.streamed k w j n x.stream_start h h.more h.flow_is (ap (λ z. z ++ h.more) u.whole ∙ h.whole) u.loading u.loaded u.ends refl

-- ---- with all blocks its load is finished

module _ (S : LogState) (H : LogsHold S) (i : ℕ) (up : 0 < site_start S i) (j n : Joining) (is : (S.sites i).joining ≡ Some j)
    (stream : n.stream ≡ j.stream) (loads : n.is_loaded ≡ j.is_loaded) (tasks : n.tasks ≡ j.tasks) (based : n.is_based ≡ j.is_based) (told : n.has_told ≡ j.has_told)
    (counts : j.stream ≡ None → n.count ≡ j.count)
    (ends : (w : Membership) (stream_start : ℕ) → (S.sites i).view ≡ Some w → Took S i w j stream_start → is_some n.count ≡ true → stream_start ≤ S.logs.reach (part S i) (term_of w)) where
  finish-goes : LogsGo S i (becomes (finishes_load (S.sites i) n))
  finish-goes = cond_both (may_finish n) _ _ (λ z. LogsGo S i (becomes z))
      (λ e. load-goes S H i up j done (log_at S i ++ n.tasks) is (rw (length-append (log_at S i) n.tasks) (omega arith)) (λ _. refl) told based stream
      (λ none. absurd (true≢false (sym (parts e).0 ∙ ap is_some (stream ∙ none))))
      (λ w stream_start view h. record {
        whole = append-nil (log_at S i ++ n.tasks) ∙ ap (λ z. log_at S i ++ z) tasks;
        loading = λ no. absurd (true≢false no);
        loaded = λ _. refl;
        ends = λ _. ends w stream_start view h (parts e).1;
      }))
      (λ e. load-goes S H i up j n (log_at S i) is (omega arith) (λ l. loads ∙ l) told based stream
      (λ none. (loads, counts none, tasks, refl))
      (λ w stream_start view h. record {
        whole = ap (λ z. log_at S i ++ z) tasks;
        loading = λ no. h.loading (sym loads ∙ no);
        loaded = λ whole. tasks ∙ h.loaded (sym loads ∙ whole);
        ends = λ some. elim some [ inl whole ↦ h.ends (inl (sym loads ∙ whole)) | inr known ↦ ends w stream_start view h known ];
      }))
    where
      done : Joining
      done = record n { is_loaded = true; tasks = [] }

      parts : may_finish n ≡ true → (is_some n.stream ≡ true) × (is_some n.count ≡ true)
      parts e =
          let p = and_parts (is_some n.stream && not n.is_loaded) (is_some_of n.count n.blocks) e in
          let q = and_parts (is_some n.stream) (not n.is_loaded) p.0 in
          (q.0, some n.count p.1)
        where
          some : (o : Option ℕ) → is_some_of o n.blocks ≡ true → is_some o ≡ true
          some None e = absurd (true≢false (sym e))
          some (Some x) e = refl

-- the end of a stream
pub stream-end-goes : (S : LogState) → LogsHold S → (i c : ℕ) (x : Letter) (count : ℕ) → 0 < site_start S i → x.start ≡ site_start S i → x.term ≡ term_at S i → EndOk S c i x
    → LogsGo S i (becomes (on_stream_end (S.sites i) (S.sites i).joining count))
stream-end-goes S H i c x count up start term e = go (S.sites i).joining refl
  where
    go : (o : Option Joining) → (S.sites i).joining ≡ o → LogsGo S i (becomes (on_stream_end (S.sites i) o count))
    go None none = goes-same S i H
    go (Some j) is = cond_both (is_some j.stream) _ _ (λ z. LogsGo S i (becomes z))
        (λ some. finish-goes S H i up j n is refl refl refl refl refl (λ none. absurd (true≢false (sym some ∙ ap is_some none))) ends) (λ none. goes-same S i H)
      where
        n : Joining
        n = record j { count = Some count }

        ends : (w : Membership) (stream_start : ℕ) → (S.sites i).view ≡ Some w → Took S i w j stream_start → is_some n.count ≡ true → stream_start ≤ S.logs.reach (part S i) (term_of w)
        ends w stream_start view h _ =
            let same-term : x.term ≡ term_of w = term ∙ ap term_in view in
            let at = e.taken (sym start) (sym term) (record { start = site_start S i; stream_start = stream_start }) (ap (S.logs.streamed i) same-term ∙ h.streamed) (sym start) in
            let low = subst (λ t. e.stream_start ≤ S.logs.reach (part S i) t) same-term e.everywhere in
            omega (arith, at, low)

-- ---- a block, and the end of a scan

-- with the number of blocks that a joiner was sent it is the same one
pub record SameJoiner (j n : Joiner) : Type 0 where
  pub slot : n.slot ≡ j.slot
  pub start : n.start ≡ j.start
  pub stream_start : n.stream_start ≡ j.stream_start
  pub position : n.position ≡ j.position

pub with_count-same : (slot count : ℕ) (j : Joiner) → SameJoiner j (with_count slot count j)
with_count-same slot count j = cond_both (j.slot == slot) _ _ (SameJoiner j)
    (λ _. record { slot = refl; start = refl; stream_start = refl; position = refl }) (λ _. record { slot = refl; start = refl; stream_start = refl; position = refl })

pub counted-same : (S : LogState) (p t : ℕ) (j n : Joiner) → SameJoiner j n → CountedOk S p t j → CountedOk S p t n
counted-same S p t j n e k = record {
  been = rw (e.slot, e.start) k.been;
  part_is = rw e.slot k.part_is;
  reached = rw (e.slot, e.start) k.reached;
  position = rw (e.slot, e.start, e.stream_start, e.position) k.position;
  later = rw (e.slot, e.start, e.stream_start, e.position) k.later;
}

module _ (f : Joiner → Joiner) (same : (j : Joiner) → SameJoiner j (f j)) where
  pub counted-mapped : (S : LogState) (p t : ℕ) (js : List Joiner) → AllByRecursion (CountedOk S p t) js → AllByRecursion (CountedOk S p t) (map f js)
  counted-mapped S p t [] h = tt
  counted-mapped S p t (j ∷ js) h = (counted-same S p t j (f j) (same j) h.0, counted-mapped S p t js h.1)

scan_end-joiners : (S : LogState) → LogsHold S → (i slot count : ℕ) → LogsGo S i (becomes (record (S.sites i) { scanning = None; joiners = map (with_count slot count) (S.sites i).joiners }))
scan_end-joiners S H i slot count = let o = site-same S H i S.logs.reach i in let f = with_count slot count in let same = with_count-same slot count in
    rests-goes S H i (record (S.sites i) { scanning = None; joiners = map f (S.sites i).joiners }) no_sends S.logs.reach (record {
      is = refl;
      member = o.member;
      joiner = o.joiner;
      counts = o.counts;
      acks = o.acks;
      joiners = λ up. counted-mapped f same S (part S i) (term_at S i) (S.sites i).joiners (o.joiners up);
      alone = λ up. rw (map-slots f (λ j. (same j).slot) (S.sites i).joiners) (o.alone up);
      leads = λ up. elim (o.leads up) [ inl none ↦ inl (ap (map f) none) | inr is ↦ inr is ];
      counted = map-joiners f (λ j. (same j).slot) (λ j. (same j).start) (λ j. (same j).stream_start) (S.sites i).joiners;
      on_disk = o.on_disk;
      held = o.held;
    }) (reach-same S H) (says-nothing S H i)

-- the end of a scan
pub scan-end-goes : (S : LogState) → LogsHold S → (i id count : ℕ) → 0 < site_start S i → LogsGo S i (becomes (on_scan_end (S.sites i) (S.sites i).scanning id count))
scan-end-goes S H i id count up = go (S.sites i).scanning
  where
    go : (o : Option Scanning) → LogsGo S i (becomes (on_scan_end (S.sites i) o id count))
    go None = goes-same S i H
    go (Some (ForJoiner own slot)) = cond_both (own == id) _ _ (λ z. LogsGo S i (becomes z)) (λ _. scan_end-joiners S H i slot count) (λ _. goes-same S i H)
    go (Some (ForBase own position blocks written ended)) = cond_both (own == id) _ _ (λ z. LogsGo S i (becomes z))
        (λ _. inert-becomes S i (record (S.sites i) { scanning = Some (ForBase own position blocks written (Some count)) }) H (record { same = refl; held = λ k. k }))
        (λ _. goes-same S i H)

-- a block
pub chunk-goes : (S : LogState) → LogsHold S → (i id : ℕ) → 0 < site_start S i → LogsGo S i (becomes (on_chunk (S.sites i) (S.sites i).joining (S.sites i).scanning id))
chunk-goes S H i id up = go (S.sites i).joining refl (S.sites i).scanning
  where
    go : (o : Option Joining) → (S.sites i).joining ≡ o → (scanning : Option Scanning) → LogsGo S i (becomes (on_chunk (S.sites i) o scanning id))
    go (Some j) is scanning = finish-goes S H i up j (record j { blocks = j.blocks + 1 }) is refl refl refl refl refl (λ none. refl) (λ w stream_start view h some. h.ends (inr some))
    go None none None = goes-same S i H
    go None none (Some (ForJoiner own slot)) = goes-same S i H
    go None none (Some (ForBase own position blocks written count)) = cond_both (own == id) _ _ (λ z. LogsGo S i (becomes z))
        (λ _. inert-becomes S i (record (S.sites i) { scanning = Some (ForBase own position (blocks + 1) written count) }) H (record { same = refl; held = λ k. k }))
        (λ _. goes-same S i H)
