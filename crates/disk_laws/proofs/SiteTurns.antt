-- Disks hold after a site has taken a message, whatever the environment's share is.
use Rattle.disk_laws.proofs.Names.{none-or-some, cond_both, ◌≡◌, ◌<◌, ◌≤◌, Bool, true, false, List, [], ◌∷◌, ◌++◌, length, take, length-take, append_assoc, refl, sym, subst, ap, ◌∙◌, ◌⊎◌, inl, inr, ◌==◌, arith, cases_Bool, and_parts, nat_tests, ℕ, ◌&&◌, not, nat_lt, nat_le, is_none, is_some, max, if◌then◌else◌, Option, Some, None, AllByRecursion, StreamHead, Membership, Actor, Agent, Site, Msg, Database, Deployment, host_of_slot, is_member, term_of, term_in, Shown, mark_of, after_parts, after_failure, Blocks, Letter, Turn, becomes, Arrival, arrival, Taken, Refused, Waits, SiteState, Joining, Streamed, stopped_site, site_term, is_joiner, in_new_term, may_stream, on_stream_start, on_start, on_stop, site_runs, site_takes, may_stream_in, parts_of_message, stops_so, start_after, site_turn, starts_in, Environment, NoFault, DiskFails, NoMemory, DisksShow, In, Prefix, all-mono, none-and-some, same-some, not-both, start-is_member, LogState, Logs, Leadership, LogsHold, IsSlot, SiteLetterOk, SiteWaitingOk, JoinerOk, ViewIn, StreamIn, InWord, Took, HeldOk, StreamedOk, agent_to_site, part, site_start, log_at, term_at, prefixes-order, prefix-trans, prefix-take, Grown, after_site, site_popped, here, taken-for, waits-for, later-word, with_stream, Plain, PlainWaiting, as_entered, as_joiner, stays_joiner, Firm, ContentOk, StreamDisk, StreamOk, StreamLetter, Halted, DisksHold, shown_at}
use Rattle.volt_wire.specs.declared.message.Msg.TheVariants as msg
use Rattle.disk_laws.proofs.Order.{Raise, in-take, in-after_parts, in-after_failure, some-after_parts, some-after_failure, raise-take, raise-after_parts, raise-after_failure}
use Rattle.disk_laws.proofs.Handlers.{DiskHandler, waiting-plain}
use Rattle.disk_laws.proofs.SiteHandlers.{plain-handler, refused-handler, stream-handler, joins-handler, enters-handler, entered-held}
use Rattle.disk_laws.proofs.Worded.{later-term, meant-for, unstreamed, word-based, word-start, word-unnamed}
use Rattle.disk_laws.proofs.Own.{Own, OwnMember, OwnStream}
use Rattle.disk_laws.proofs.SiteDisks.{Raised, firm-up}
use Rattle.disk_laws.proofs.Turning.{DisksGo, Kept, Wiped, LeavesShown, firm-before, own-before, same-tops, wiped-tops, same-still, handler-disks, handler-kept, handler-goes, handler-begins, halts-after, still-kept, begins-kept, stops-kept, leaves-same, noted-kept, none-ok, stops-none, taken-from, fewer}

-- ---- messages

-- none but a word and a stream
abbrev PlainKind : Letter → Type 0
PlainKind l = elim l.body as (λ _. Type 0) [ msg.View w ↦ ⊥ | msg.StreamStart head ↦ ⊥ | _ ↦ Unit {0} ]

plain-for : (from : Actor) (l : Letter) → PlainKind l → Plain from l
plain-for (Site k) l p = elim l.body as (λ m. PlainKind (record l { body = m }) → Plain (Site k) (record l { body = m })) [
  | msg.StreamStart head ↦ λ p. absurd p
  | m ↦ λ p. tt
] p
plain-for (Agent h) l p = elim l.body as (λ m. PlainKind (record l { body = m }) → Plain (Agent h) (record l { body = m })) [
  | msg.View w ↦ λ p. absurd p
  | m ↦ λ p. tt
] p
plain-for from l p = tt

not-none : (o : Option Joining) → is_some o ≡ true → o ≡ None → ⊥
not-none None e q = absurd (cc)
not-none (Some j) e q = absurd (cc)

both-not : (b : Bool) → b ≡ true → not b ≡ true → ⊥
both-not true e q = absurd (cc)
both-not false e q = absurd (cc)

module _ (S : LogState) (H : LogsHold S) (F : Firm) (halted : Bool) (K : DisksHold S F halted) (i : ℕ) (slot : IsSlot S i) where
  abbrev D : Deployment
  D = S.words.deployment

  abbrev s : SiteState
  s = S.sites i

  waits-plain : 0 < site_start S i → AllByRecursion PlainWaiting s.waiting
  waits-plain up = all-mono (SiteWaitingOk S i) PlainWaiting (waiting-plain S i) s.waiting ((H.sites i).keeps up).waiting

  -- ---- a stream that the joiner takes

  module _ (k : ℕ) (l : Letter) (head : StreamHead) (ls : List Letter) (is : S.words.channel (Site k) (Site i) ≡ record l { body = msg.StreamStart head } ∷ ls)
      (up : 0 < site_start S i) (take-it : arrival (site_start S i) (term_at S i) (record l { body = msg.StreamStart head }) ≡ Taken) where
    reached : (0 < l.start) × (0 < l.term)
    reached = (subst (AllByRecursion (SiteLetterOk S k i)) is (H.letters k i slot)).0.0

    letter : StreamOk S i (record l { body = msg.StreamStart head }) head.mark
    letter = (subst (AllByRecursion (StreamLetter S i)) is (K.streams k i slot)).0

    start-is : l.start ≡ site_start S i
    start-is = elim (taken-for (site_start S i) (term_at S i) (record l { body = msg.StreamStart head }) take-it).0 [
      | inl z ↦ let a = reached.0 in absurd (omega (arith, a, z))
      | inr e ↦ e
    ]

    term-is : l.term ≡ term_at S i
    term-is = elim (taken-for (site_start S i) (term_at S i) (record l { body = msg.StreamStart head }) take-it).1 [
      | inl z ↦ let a = reached.1 in absurd (omega (arith, a, z))
      | inr e ↦ e
    ]

    pub goes-on : halted ≡ false
    goes-on = elim (cases_Bool halted) [ inr e ↦ e | inl e ↦ absurd ((rw is at ((K.halts e).streams i k up)).0 start-is) ]

    module _ (j : Joining) (joins : s.joining ≡ Some j) (may : may_stream s j l ≡ true) where
      fresh : j.stream ≡ None
      fresh = unstreamed j.stream (and_parts (is_none j.stream) (nat_lt s.earlier l.term) may).0
        where
          unstreamed : (o : Option Streamed) → is_none o ≡ true → o ≡ None
          unstreamed None e = refl
          unstreamed (Some st) e = absurd (cc)

      above : s.earlier < l.term
      above = let e = (and_parts (is_none j.stream) (nat_lt s.earlier l.term) may).1 in grind (arith, nat_tests, e)

      -- its disk may be wiped
      pub wiped : Wiped S i
      wiped = record {
        mark = l.term;
        marks = all-mono (λ x. mark_of x ≤ s.earlier) (λ x. mark_of x < l.term) (λ x a. let b = above in omega (arith, a, b)) (shown_at S i)
            (subst (StreamDisk S i j) fresh ((K.disks i slot).joiner goes-on j joins));
        top = letter.top;
      }

      -- the joiner with its stream
      abbrev u : SiteState
      u = with_stream s j l head

      unwritten : s.on_disk ≤ length l.past
      unwritten =
          let a = ((H.sites i).keeps up).on_disk in
          let b = ap length (unstreamed S H i j joins fresh).1 in
          omega (arith, a, b)

      blank-based : j.is_based ≡ false
      blank-based = elim (cases_Bool j.is_based) [
        | inr e ↦ e
        | inl e ↦ absurd (not-both j.is_loaded (((H.sites i).joiner j joins).based e) (unstreamed S H i j joins fresh).0)
      ]

      stream-own : (C : Shown → Type 0) (led : ℕ → Option Leadership) (top : ℕ) → C None → Own halted C led top u
      stream-own C led top c = record {
        some = λ e. absurd (cc);
        contents = (c, tt);
        marks = λ e. (omega arith, tt);
        member = λ _ e. absurd (cc);
        joiner = λ e x q. subst (λ y. OwnStream u y y.stream) (same-some q)
            (letter.mark_is ∙ term-is, λ b. refl, λ b. absurd (not-both j.is_based b blank-based));
      }

      pub stream-kept : (t : Turn SiteState) → DiskHandler D i u t → Kept S F halted (Site k) i t
      stream-kept t handler M G L grown raised =
          let halts : halted ≡ true → Halted (after_site (site_popped S (Site k) i) i t.state t.sends G) = λ e. absurd (not-both halted e goes-on) in
          let C : Shown → Type 0 = ContentOk (after_site (site_popped S (Site k) i) i t.state t.sends G) M halted (part S i) in
          handler-disks S H F halted K (taken-from S (Site k) i) (fewer S (Site k) i) i slot t M G L grown raised halts u
          (stream-own C (G.leadership (part S i)) (M (part S i)) (none-ok (after_site (site_popped S (Site k) i) i t.state t.sends G) M halted (part S i)))
          unwritten handler (subst (λ n. 0 < n) (sym handler.at.start) up) ((H.sites i).keeps up).held (firm-before S H F halted K i slot up)
          (wiped-tops S H F halted K (taken-from S (Site k) i) (fewer S (Site k) i) i slot t M G L grown raised halts wiped)
          (λ e. absurd (not-both halted e goes-on))

    -- Its turn, whether the site takes the stream or not.
    pub start-kept : (E : Database) (stamp : ℕ) → Kept S F halted (Site k) i (site_runs E D stamp i s (Site k) (record l { body = msg.StreamStart head }))
    start-kept E stamp = choice s.joining refl
        (stream-handler E D i stamp s (record l { body = msg.StreamStart head }) (waits-plain up) take-it k head refl)
      where
        t : Turn SiteState
        t = site_runs E D stamp i s (Site k) (record l { body = msg.StreamStart head })

        may : (j : Joining) → s.joining ≡ Some j → (b : Bool) → may_stream s j l ≡ b → DiskHandler D i (if b then with_stream s j l head else s) t → Kept S F halted (Site k) i t
        may j e true m handler = stream-kept j e m t handler
        may j e false m handler = handler-kept S H F halted K (Site k) i slot t up handler

        choice : (o : Option Joining) → s.joining ≡ o → DiskHandler D i (on_stream_start s o (record l { body = msg.StreamStart head }) head) t → Kept S F halted (Site k) i t
        choice None e handler = handler-kept S H F halted K (Site k) i slot t up handler
        choice (Some j) e handler = may j e (may_stream s j l) refl handler

  -- ---- a word

  module _ (h : ℕ) (l : Letter) (w : Membership) (ls : List Letter) (is : S.words.channel (Agent h) (Site i) ≡ record l { body = msg.View w } ∷ ls) (up : 0 < site_start S i) where
    module _ (take-it : arrival (site_start S i) (term_at S i) (record l { body = msg.View w }) ≡ Taken) where
      abbrev word-for : l.start ≡ site_start S i
      word-for = word-start S H i slot up h l w ls is take-it

      higher : term_at S i < term_of w
      higher = later-term S H i slot up h l w ls is take-it

      held : AllByRecursion HeldOk (in_new_term s w).held
      held = entered-held s w ((H.sites i).keeps up).held

      -- a joiner that stays one has no word before
      module _ (stays : stays_joiner D i s w ≡ true) where
        view-none : s.view ≡ None
        view-none = choice s.view refl
          where
            choice : (o : Option Membership) → s.view ≡ o → o ≡ None
            choice None e = refl
            choice (Some v) e = absurd (both-not (is_member w (host_of_slot D i) (site_start S i)) (start-is_member w (host_of_slot D i) (site_start S i) (later-word S H h i l w ls is word-for up v e).1)
                (and_parts (is_joiner s) (not (is_member w (host_of_slot D i) (site_start S i))) stays).1)

        joins-own : (C : Shown → Type 0) (led : ℕ → Option Leadership) (top : ℕ) → Own halted C led top s → Own halted C led top (as_joiner s w)
        joins-own C led top o = record {
          some = o.some;
          contents = o.contents;
          marks = λ e. all-mono (λ x. mark_of x ≤ s.greatest) (λ x. mark_of x ≤ max s.greatest (term_of w)) (λ x a. omega (arith, a)) (shown_at S i) (o.marks e);
          member = λ _ none. absurd (not-none s.joining (and_parts (is_joiner s) (not (is_member w (host_of_slot D i) (site_start S i))) stays).0 none);
          joiner = λ e j q.
              let none : j.stream ≡ None = (subst (ViewIn S i j) view-none ((H.sites i).joiner j q).view).stream in
              subst (OwnStream (as_joiner s w) j) (sym none) (old j none (o.joiner e j q));
        }
          where
            old : (j : Joining) → j.stream ≡ None → OwnStream s j j.stream → AllByRecursion (λ x. mark_of x ≤ s.earlier) (shown_at S i)
            old j none k = subst (OwnStream s j) none k

        pub joins-kept : (t : Turn SiteState) → DiskHandler D i (as_joiner s w) t → Kept S F halted (Agent h) i t
        joins-kept t handler M G L grown raised =
            let halts = halts-after S H F halted K (taken-from S (Agent h) i) (fewer S (Agent h) i) i slot t G L (handler-goes S i t (as_joiner s w) handler refl (λ j e. (j, e, refl)))
            (handler-begins S i t (as_joiner s w) handler held) in
            handler-disks S H F halted K (taken-from S (Agent h) i) (fewer S (Agent h) i) i slot t M G L grown raised halts (as_joiner s w)
            (joins-own (ContentOk (after_site (site_popped S (Agent h) i) i t.state t.sends G) M halted (part S i)) (G.leadership (part S i)) (M (part S i))
            (own-before S H F halted K (taken-from S (Agent h) i) (fewer S (Agent h) i) i slot t M G L grown raised halts))
            ((H.sites i).keeps up).on_disk handler (subst (λ n. 0 < n) (sym handler.at.start) up) held (firm-before S H F halted K i slot up)
            (same-tops S H F halted K (taken-from S (Agent h) i) (fewer S (Agent h) i) i slot t M G L grown raised halts handler.at.contents)
            (same-still S H F halted K (taken-from S (Agent h) i) (fewer S (Agent h) i) i slot t M G L grown raised halts handler.at.contents)

      -- ---- a joiner that the word admits

      module _ (j : Joining) (joins : s.joining ≡ Some j) (v : Membership) (view : s.view ≡ Some v) where
        ok : JoinerOk S i j
        ok = (H.sites i).joiner j joins

        in_word : InWord S i v j
        in_word = subst (ViewIn S i j) view ok.view

        -- its base is on disk
        based : j.is_based ≡ true
        based = word-based S H i slot up h l w ls is take-it j joins v view

        module _ (st : Streamed) (stream : j.stream ≡ Some st) where
          taken : Took S i v j st.stream_start
          taken = subst (StreamIn S i v j) stream in_word.stream

          streamed : StreamedOk S i (term_of v) (record { start = site_start S i; stream_start = st.stream_start })
          streamed = H.streamed i (term_of v) (record { start = site_start S i; stream_start = st.stream_start }) taken.streamed

          log-prefix : Prefix (log_at S i) streamed.leadership.log
          log-prefix = subst (λ g. Prefix (log_at S i) g.log) (same-some (sym taken.led ∙ streamed.led))
              (j.tasks ++ taken.more, sym taken.whole ∙ append_assoc (log_at S i) j.tasks taken.more)

          -- with all that its mark's term began with
          base-begun : st.stream_start ≤ s.on_disk → Prefix streamed.leadership.begun (take s.on_disk s.log)
          base-begun low = prefixes-order streamed.leadership.begun (take s.on_disk s.log) streamed.leadership.log
              (H.leaderships (part S i) (term_of v) streamed.leadership streamed.led).grown
              (prefix-trans (take s.on_disk s.log) s.log streamed.leadership.log (prefix-take s.on_disk s.log) log-prefix)
              (let a = streamed.behind in let b = ((H.sites i).keeps up).on_disk in let c = length-take s.on_disk s.log in omega (arith, a, b, c, low))

          admitted-own : (G : Logs) → ((p t : ℕ) (g : Leadership) → S.logs.leadership p t ≡ Some g → (x : Leadership) × (G.leadership p t ≡ Some x) × (x.begun ≡ g.begun) × Prefix g.log x.log)
              → (top : ℕ) → s.firm ≤ top → OwnStream s j (Some st) → OwnMember (G.leadership (part S i)) top (as_entered s w)
          admitted-own G kept top firm os =
              let f = os.2 based in
              let e : s.mark ≡ term_of v = f.1 ∙ os.0 ∙ ap term_in view in
              let r = kept (part S i) (term_of v) streamed.leadership streamed.led in
              let above = (later-word S H h i l w ls is word-for up v view).2 in
              record {
                shows = f.0;
                mark = omega (arith, e, above);
                leadership = r.0;
                is_led = ap (G.leadership (part S i)) e ∙ r.1;
                begun = subst (λ b. Prefix b (take s.on_disk s.log)) (sym r.2) (base-begun f.3);
                marked = λ q. absurd (omega (arith, e, above, q));
                firm = firm;
                owes = inl refl;
              }

      -- ---- one that is a member from then on

      module _ (stays : stays_joiner D i s w ≡ false) (t : Turn SiteState) (handler : DiskHandler D i (as_entered s w) t) (M : Firm) (G : Logs)
          (L : LogsHold (after_site (site_popped S (Agent h) i) i t.state t.sends G)) (grown : Grown D i t.state S.logs G) (raised : Raised D i t.state F M) where
        abbrev U : LogState
        U = after_site (site_popped S (Agent h) i) i t.state t.sends G

        halts : halted ≡ true → Halted U
        halts = halts-after S H F halted K (taken-from S (Agent h) i) (fewer S (Agent h) i) i slot t G L (handler-goes S i t (as_entered s w) handler refl (λ j e. absurd (cc)))
            (handler-begins S i t (as_entered s w) handler held)

        -- so it isn't that all stays stopped
        entered-on : halted ≡ false
        entered-on = elim (cases_Bool halted) [
          | inr e ↦ e
          | inl e ↦
              let site = here (site_popped S (Agent h) i) i t.state t.sends G in
              let j = (halts e).joiners i (subst (λ x. 0 < x.start) (sym site) (subst (λ n. 0 < n) (sym handler.at.start) up)) in
              absurd (none-and-some (handler.at.member refl) (ap (λ x. x.joining) (sym site) ∙ j.1))
        ]

        old-own : Own halted (ContentOk U M halted (part S i)) (G.leadership (part S i)) (M (part S i)) s
        old-own = own-before S H F halted K (taken-from S (Agent h) i) (fewer S (Agent h) i) i slot t M G L grown raised halts

        firm-top : s.firm ≤ M (part S i)
        firm-top =
            let a = firm-before S H F halted K i slot up in
            let b = firm-up S H F M halted K (taken-from S (Agent h) i) (fewer S (Agent h) i) i slot
            t.state t.sends G L grown raised halts (part S i) in
            omega (arith, a, b)

        member-own : (s.joining ≡ None) → OwnMember (G.leadership (part S i)) (M (part S i)) (as_entered s w)
        member-own none =
            let m = old-own.member up none in
            let v = (H.sites i).member up none in
            let above = higher in
            record {
              shows = m.shows;
              mark = let a = m.mark in omega (arith, a, above);
              leadership = m.leadership;
              is_led = m.is_led;
              begun = m.begun;
              marked = λ q. let a = m.mark in absurd (omega (arith, a, above, q));
              firm = m.firm;
              owes = inl refl;
            }

        joiner-own : (j : Joining) → s.joining ≡ Some j → OwnMember (G.leadership (part S i)) (M (part S i)) (as_entered s w)
        joiner-own j joins = elim (none-or-some s.view) [
          | inl e ↦ absurd (word-unnamed S H i slot up h l w ls is take-it j joins e stays)
          | inr (v, e) ↦ streamed-own v e j.stream refl (old-own.joiner entered-on j joins)
        ]
          where
            streamed-own : (v : Membership) → s.view ≡ Some v → (o : Option Streamed) → j.stream ≡ o → OwnStream s j o
                → OwnMember (G.leadership (part S i)) (M (part S i)) (as_entered s w)
            streamed-own v e (Some st) q k = admitted-own j joins v e st q G grown.onward.kept (M (part S i)) firm-top k
            streamed-own v e None q k =
                absurd (not-both j.is_loaded (((H.sites i).joiner j joins).based (based j joins v e)) (unstreamed S H i j joins q).0)

        entered-own : Own halted (ContentOk U M halted (part S i)) (G.leadership (part S i)) (M (part S i)) (as_entered s w)
        entered-own = record {
          some = old-own.some;
          contents = old-own.contents;
          marks = λ e. all-mono (λ x. mark_of x ≤ s.greatest) (λ x. mark_of x ≤ max s.greatest (term_of w)) (λ x a. omega (arith, a)) (shown_at S i) (old-own.marks e);
          member = λ _ _. elim (none-or-some s.joining) [ inl e ↦ member-own e | inr (j, e) ↦ joiner-own j e ];
          joiner = λ e j q. absurd (cc);
        }

        pub enters-disks : DisksGo S U M halted
        enters-disks = handler-disks S H F halted K (taken-from S (Agent h) i) (fewer S (Agent h) i) i slot t M G L grown raised halts (as_entered s w) entered-own
            ((H.sites i).keeps up).on_disk handler (subst (λ n. 0 < n) (sym handler.at.start) up) held (firm-before S H F halted K i slot up)
            (same-tops S H F halted K (taken-from S (Agent h) i) (fewer S (Agent h) i) i slot t M G L grown raised halts handler.at.contents)
            (same-still S H F halted K (taken-from S (Agent h) i) (fewer S (Agent h) i) i slot t M G L grown raised halts handler.at.contents)

    -- Its turn: it is taken, or dropped; it doesn't wait.
    pub view-kept : (E : Database) (stamp : ℕ) → Kept S F halted (Agent h) i (site_runs E D stamp i s (Agent h) (record l { body = msg.View w }))
    view-kept E stamp = choice (arrival (site_start S i) (term_at S i) (record l { body = msg.View w })) refl
      where
        t : Turn SiteState
        t = site_runs E D stamp i s (Agent h) (record l { body = msg.View w })

        taken : arrival (site_start S i) (term_at S i) (record l { body = msg.View w }) ≡ Taken → (b : Bool) → stays_joiner D i s w ≡ b → Kept S F halted (Agent h) i t
        taken e true q = joins-kept e q t (joins-handler E D i stamp s (record l { body = msg.View w }) (waits-plain up) e h w refl q)
        taken e false q = λ M G L grown raised.
            enters-disks e q t (enters-handler E D i stamp s (record l { body = msg.View w }) (waits-plain up) e h w refl q) M G L grown raised

        choice : (a : Arrival) → arrival (site_start S i) (term_at S i) (record l { body = msg.View w }) ≡ a → Kept S F halted (Agent h) i t
        choice Taken e = taken e (stays_joiner D i s w) refl
        choice Refused e = handler-kept S H F halted K (Agent h) i slot t up (refused-handler E D i stamp s (Agent h) (record l { body = msg.View w }) (waits-plain up) e)
        choice Waits e =
            let a = (waits-for (site_start S i) (term_at S i) (record l { body = msg.View w }) e).1 in
            let b = (meant-for S H i slot up h l w ls is).0 in
            absurd (omega (arith, a, b))

  -- ---- a stream, whether it is taken or not

  stream-turn : (from : Actor) (l : Letter) (head : StreamHead) (ls : List Letter) → S.words.channel from (Site i) ≡ record l { body = msg.StreamStart head } ∷ ls
      → 0 < site_start S i → (E : Database) (stamp : ℕ) → Kept S F halted from i (site_runs E D stamp i s from (record l { body = msg.StreamStart head }))
  stream-turn (Site k) l head ls is up E stamp = choice (arrival (site_start S i) (term_at S i) (record l { body = msg.StreamStart head })) refl
    where
      reach : (0 < l.start) × (0 < l.term) × (site_start S i ≡ l.start → l.term ≤ term_at S i)
      reach = let r = (subst (AllByRecursion (SiteLetterOk S k i)) is (H.letters k i slot)).0 in (r.0.0, r.0.1, r.2)

      choice : (a : Arrival) → arrival (site_start S i) (term_at S i) (record l { body = msg.StreamStart head }) ≡ a
          → Kept S F halted (Site k) i (site_runs E D stamp i s (Site k) (record l { body = msg.StreamStart head }))
      choice Taken e = start-kept k l head ls is up e E stamp
      choice Refused e = handler-kept S H F halted K (Site k) i slot (site_runs E D stamp i s (Site k) (record l { body = msg.StreamStart head })) up
          (refused-handler E D i stamp s (Site k) (record l { body = msg.StreamStart head }) (waits-plain up) e)
      choice Waits e =
          let w = waits-for (site_start S i) (term_at S i) (record l { body = msg.StreamStart head }) e in
          elim w.0 [ inl z ↦ let a = reach.0 in absurd (omega (arith, a, z)) | inr q ↦ let a = reach.2 (sym q) in let b = w.1 in absurd (omega (arith, a, b)) ]
  stream-turn (Agent h) l head ls is up E stamp = absurd ((rw is at (H.foreign (Agent h) i)).0)
  stream-turn from l head ls is up E stamp = absurd ((rw is at (H.foreign from i)).0)

  plain-turn : (from : Actor) (l : Letter) → Plain from l → 0 < site_start S i → (E : Database) (stamp : ℕ) → Kept S F halted from i (site_runs E D stamp i s from l)
  plain-turn from l p up E stamp = handler-kept S H F halted K from i slot (site_runs E D stamp i s from l) up (plain-handler E D i stamp s from l (waits-plain up) p)

  view-turn : (from : Actor) (l : Letter) (w : Membership) (ls : List Letter) → S.words.channel from (Site i) ≡ record l { body = msg.View w } ∷ ls → 0 < site_start S i
      → (E : Database) (stamp : ℕ) → Kept S F halted from i (site_runs E D stamp i s from (record l { body = msg.View w }))
  view-turn (Agent h) l w ls is = view-kept h l w ls is
  view-turn from l w ls is = plain-turn from (record l { body = msg.View w }) tt

  -- ---- starts and stops

  -- a start that comes is one that the slot hasn't run with
  fresh-start : (from : Actor) (l : Letter) (a : ℕ) (ls : List Letter) → S.words.channel from (Site i) ≡ record l { body = msg.Start a } ∷ ls → In a (S.logs.ran i) → ⊥
  fresh-start (Agent h) l a ls is =
      let own : agent_to_site S i ≡ record l { body = msg.Start a } ∷ ls = ap (λ z. S.words.channel (Agent z) (Site i)) (sym (rw is at (H.foreign (Agent h) i)).0) ∙ is in
      ((H.views i).starting a (subst (λ x. In a (starts_in x)) (sym own) (inl refl))).0
  fresh-start from l a ls is = absurd ((rw is at (H.foreign from i)).0)

  module _ (from : Actor) where
    start-turn : (a : ℕ) → (In a (S.logs.ran i) → ⊥) → Kept S F halted from i (on_start i s a)
    start-turn a fresh = cond_both (nat_lt s.start a && nat_lt s.stop a) _ _ (Kept S F halted from i)
        (λ _. begins-kept S H F halted K from i slot a fresh) (λ _. still-kept S H F halted K from i slot)

    stop-turn : (a : ℕ) → Kept S F halted from i (becomes (on_stop s a))
    stop-turn a = cond_both (nat_le s.start a) _ _ (λ z. Kept S F halted from i (becomes z))
        (λ _. stops-kept S H F halted K from i slot (becomes (stopped_site (record s { stop = max s.stop a }))) refl refl (leaves-same S H F halted K from i slot) (λ c. tt))
        (λ _. noted-kept S H F halted K from i slot (max s.stop a) s.plans)

    fails-kept : (start : ℕ) (xs : List Shown) → LeavesShown S halted i xs → Kept S F halted from i (stops_so D i s start xs)
    fails-kept start xs k = stops-kept S H F halted K from i slot (stops_so D i s start xs) refl refl k (stops-none D i start s xs)

    running : (x : Letter) (E : Database) (stamp : ℕ) (b : Bool) → (site_start S i == 0) ≡ b → (0 < site_start S i → Kept S F halted from i (site_runs E D stamp i s from x))
        → Kept S F halted from i (if b then becomes s else site_runs E D stamp i s from x)
    running x E stamp true e k = still-kept S H F halted K from i slot
    running x E stamp false e k = k (grind (arith, nat_tests, e))

    takes-kept : (E : Database) (stamp : ℕ) (l : Letter) (ls : List Letter) (m : Msg Blocks) → S.words.channel from (Site i) ≡ record l { body = m } ∷ ls
        → Kept S F halted from i (site_takes E D stamp i s from (record l { body = m }))
    takes-kept E stamp l ls m = elim m as (λ m. S.words.channel from (Site i) ≡ record l { body = m } ∷ ls
        → Kept S F halted from i (site_takes E D stamp i s from (record l { body = m }))) [
          | msg.Start a ↦ λ is. start-turn a (fresh-start from l a ls is)
          | msg.Stop a ↦ λ is. stop-turn a
          | msg.Power call choice ↦ λ is. noted-kept S H F halted K from i slot s.stop (s.plans ++ (call, choice) ∷ [])
          | msg.View w ↦ λ is. running (record l { body = msg.View w }) E stamp (site_start S i == 0) refl (λ up. view-turn from l w ls is up E stamp)
          | msg.StreamStart head ↦ λ is. running (record l { body = msg.StreamStart head }) E stamp (site_start S i == 0) refl (λ up. stream-turn from l head ls is up E stamp)
          | m ↦ λ is. running (record l { body = m }) E stamp (site_start S i == 0) refl (λ up.
              plain-turn from (record l { body = m }) (plain-for from (record l { body = m }) tt) up E stamp)
        ]

  -- ---- parts of a message, that may fail

  -- They wipe the disk, or there are none; while all is stopped there are none.
  record Parts (parts : List Shown) : Type 0 where
    blank : (y : Shown) → In y parts → y ≡ None
    still : halted ≡ true → parts ≡ []
    wipes : (parts ≡ []) ⊎ Wiped S i

  no-parts : Parts []
  no-parts = record { blank = λ y m. absurd m; still = λ e. refl; wipes = inl refl }

  stream-parts : (k : ℕ) (l : Letter) (head : StreamHead) (ls : List Letter) → S.words.channel (Site k) (Site i) ≡ record l { body = msg.StreamStart head } ∷ ls
      → Parts (parts_of_message s (record l { body = msg.StreamStart head }))
  stream-parts k l head ls is = cond_both (s.start == 0) _ _ Parts
      (λ e. no-parts) (λ e. arrives (grind (arith, nat_tests, e)) (arrival s.start (site_term s) (record l { body = msg.StreamStart head })) refl)
    where
      taken : 0 < site_start S i → arrival s.start (site_term s) (record l { body = msg.StreamStart head }) ≡ Taken → (o : Option Joining) → s.joining ≡ o
          → Parts (if may_stream_in s o (record l { body = msg.StreamStart head }) then None ∷ [] else [])
      taken up e None q = no-parts
      taken up e (Some j) q = cond_both (may_stream s j l) _ _ Parts
          (λ m. record {
            blank = λ y n. elim n [ inl z ↦ sym z | inr z ↦ absurd z ];
            still = λ t. absurd (not-both halted t (goes-on k l head ls is up e));
            wipes = inr (wiped k l head ls is up e j q m);
          })
          (λ m. no-parts)

      arrives : 0 < site_start S i → (a : Arrival) → arrival s.start (site_term s) (record l { body = msg.StreamStart head }) ≡ a → Parts (elim a as (λ _. List Shown) [
        | Taken ↦ if may_stream_in s s.joining (record l { body = msg.StreamStart head }) then None ∷ [] else []
        | Refused ↦ []
        | Waits ↦ []
      ])
      arrives up Taken e = taken up e s.joining refl
      arrives up x e = no-parts

  stream-parts-from : (from : Actor) (l : Letter) (head : StreamHead) (ls : List Letter) → S.words.channel from (Site i) ≡ record l { body = msg.StreamStart head } ∷ ls
      → Parts (parts_of_message s (record l { body = msg.StreamStart head }))
  stream-parts-from (Site k) l head ls is = stream-parts k l head ls is
  stream-parts-from from l head ls is = absurd ((rw is at (H.foreign from i)).0)

  parts-ok : (from : Actor) (l : Letter) (ls : List Letter) (m : Msg Blocks) → S.words.channel from (Site i) ≡ record l { body = m } ∷ ls
      → Parts (parts_of_message s (record l { body = m }))
  parts-ok from l ls m = elim m as (λ m. S.words.channel from (Site i) ≡ record l { body = m } ∷ ls → Parts (parts_of_message s (record l { body = m }))) [
    | msg.StreamStart head ↦ λ is. stream-parts-from from l head ls is
    | m ↦ λ is. no-parts
  ]

  module _ (parts : List Shown) (k : Parts parts) (n : ℕ) where
    some : (shown_at S i ≡ []) → ⊥
    some = (K.disks i slot).some

    not-raised : parts ≡ [] → Raise (shown_at S i) parts
    not-raised e y m = absurd (subst (In y) e m)

    -- while all is stopped
    none-added : halted ≡ true → (y : Shown) → In y parts → In y (shown_at S i)
    none-added e y m = absurd (subst (In y) (k.still e) m)

    leaves-failure : LeavesShown S halted i (after_failure (shown_at S i) parts n)
    leaves-failure = record {
      some = some-after_failure (shown_at S i) parts n some;
      from = λ y m. elim (in-after_failure (shown_at S i) parts n y m) [ inl a ↦ inl a | inr b ↦ inr (k.blank y b) ];
      still = λ e y m. elim (in-after_failure (shown_at S i) parts n y m) [ inl a ↦ a | inr b ↦ none-added e y b ];
      wipes = elim k.wipes [ inl e ↦ inl (raise-after_failure (shown_at S i) parts (not-raised e) n) | inr w ↦ inr w ];
    }

    leaves-parts : LeavesShown S halted i (after_parts (shown_at S i) (take n parts))
    leaves-parts = record {
      some = some-after_parts (shown_at S i) (take n parts) some;
      from = λ y m. elim (in-after_parts (shown_at S i) (take n parts) y m) [ inl a ↦ inl a | inr b ↦ inr (k.blank y (in-take n y parts b)) ];
      still = λ e y m. elim (in-after_parts (shown_at S i) (take n parts) y m) [ inl a ↦ a | inr b ↦ none-added e y (in-take n y parts b) ];
      wipes = elim k.wipes [ inl e ↦ inl (raise-after_parts (shown_at S i) (take n parts) (raise-take (shown_at S i) parts (not-raised e) n)) | inr w ↦ inr w ];
    }

  -- ---- whatever the environment does

  pub site_turn-kept : (E : Database) (stamp : ℕ) (from : Actor) (l : Letter) (ls : List Letter) (o : Environment) → S.words.channel from (Site i) ≡ l ∷ ls
      → Kept S F halted from i (site_turn E D stamp i s from l o)
  site_turn-kept E stamp from l ls NoFault is = takes-kept from E stamp l ls l.body is
  site_turn-kept E stamp from l ls (DisksShow shown failed) is = takes-kept from E stamp l ls l.body is
  site_turn-kept E stamp from l ls (DiskFails n) is =
      fails-kept from s.start (after_failure (shown_at S i) (parts_of_message s l) n) (leaves-failure (parts_of_message s l) (parts-ok from l ls l.body is) n)
  site_turn-kept E stamp from l ls (NoMemory n) is =
      fails-kept from (start_after s l) (after_parts (shown_at S i) (take n (parts_of_message s l))) (leaves-parts (parts_of_message s l) (parts-ok from l ls l.body is) n)
