-- What holds of transactions, after a turn of a site: from what is so of the site's own turn.
use Rattle.transaction_laws.proofs.Names.{Actor, Agent, AgentCalls, Aligned, AllByRecursion, AnswerOk, Books, Bool, CallsHold, CallsOk, CountsOk, Database, Deployment, DisksHold, Enters, Entry, Firm, Grown, HoldsAnswers, In, IsPart, IsSlot, Leadership, Leading, LeadsIn, Letter, List, LogState, Logs, LogsHold, Membership, None, Option, Raised, Sends, SentAnswer, Shown, Shows, Site, SiteCalls, SiteState, Some, ToOrders, ToSiteOk, Top, Transactions, TurnAnswers, [], all-append, all-at, all-from, all-mono, ap, arith, cases_eq, chosen, drop, false, here, if◌then◌else◌, in-none, initiator, inl, inr, leader, leader-is, leader-view, leading, leads, leads-from, leads-runs, length, log_at, max, none-and-some, orders, part, prefix-length, refl, same-some, same-word, sent-either, shown_at, site_start, site_term, subst, sym, term_at, term_in, term_of, there, true, ℕ, ◌+◌, ◌<◌, ◌∙◌, ◌≡◌, ◌≤◌, ◌⊎◌}
use Rattle.transaction_laws.proofs.Kept.{Moved, Onto, with_due, aligned-later, answer-on, books-moved, to_site-on, agent-moved, keeps-same}
use Rattle.transaction_laws.proofs.Initiators.{LaidOut, slot-part}
use Rattle.transaction_laws.proofs.Sites.Answers.{NoOrderWaits}
use Rattle.transaction_laws.proofs.Sites.SiteSends.{answers-ok}
use Rattle.transaction_laws.proofs.Sites.Leaderships.{OwnTurn, all-moved, due-here, due-none, due-unless, due_after, heads-own, authoritative-on, led-before, next, runs, start, unled-due}
use Rattle.transaction_laws.proofs.Sites.SiteOrders.{none-under-way}
use Rattle.transaction_laws.proofs.Sites.SiteCounts.{Counted, Unrepaired}

module _ (E : Database) (S : LogState) (H : LogsHold S) (F M : Firm) (halted : Bool) (K : Transactions) (now : ℕ) (C : CallsHold E S F halted K now) (lay : LaidOut S) (i : ℕ)
    (slot : IsSlot S i) (ch : Actor → Actor → List Letter) (u : SiteState) (out : Sends) (G : Logs) (J : LogsHold (next S H i ch u out G)) (grown : Grown S.words.deployment i u S.logs G)
    (enters : Enters i (length (log_at S i)) S.logs G) (on : (u.start ≡ site_start S i) ⊎ (u.view ≡ None)) (disks : DisksHold (next S H i ch u out G) M halted)
    (raised : Raised S.words.deployment i u F M) (tops : (p m n : ℕ) → Top S p m n → Top (next S H i ch u out G) p m n) (taken : List Entry) where
  abbrev D : Deployment
  D = S.words.deployment

  abbrev T : LogState
  T = next S H i ch u out G

  -- What must be so of the site's own turn, and of the channels before what it sent.
  pub record OwnFacts : Type 0 where
    pub own : OwnTurn E S H K C.books.due (now + 1) i ch u out G J grown enters on taken
    pub answers : TurnAnswers E D i ToOrders (record { state = u; sends = out })
    pub waiting : 0 < u.start → NoOrderWaits u
    pub counted : leads D i u ≡ true → Counted D i u
    pub joined : (low : ℕ) → (leads D i (S.sites i) ≡ true → u.view ≡ (S.sites i).view → AllByRecursion (λ j. low ≤ j.stream_start) (S.sites i).joiners) → leads D i u ≡ true
        → low ≤ length u.log → AllByRecursion (λ j. low ≤ j.stream_start) u.joiners
    pub unrepaired : 0 < site_start S i → Unrepaired u
    -- what is due to it then is under way
    pub left : (k : Leading S i) (h a : ℕ) → initiator k.word ≡ Some (h, a)
        → orders (site_start S i) (term_at S i) (ch (Agent h) (Site i)) ≡ drop (length taken) (K.due (part S i) (term_at S i))
    -- no more was under way than before, and to other sites the same
    pub less : (a b : Actor) (l : Letter) → In l (ch a b) → In l (S.words.channel a b)
    pub there : (h c : ℕ) → (c ≡ i → ⊥) → ch (Agent h) (Site c) ≡ S.words.channel (Agent h) (Site c)

  -- ---- what only grows

  firm-up : (p : ℕ) → F p ≤ M p
  firm-up p = elim (cases_eq p (part S i)) [
    | inl q ↦ subst (λ z. F z ≤ M z) (sym q) (go (leads D i u) raised.own)
    | inr n ↦ let e = raised.others p n in omega (arith, e)
  ]
    where
      go : (b : Bool) → M (part S i) ≡ (if b then max (F (part S i)) u.firm else F (part S i)) → F (part S i) ≤ M (part S i)
      go true e = omega (arith, e)
      go false e = omega (arith, e)

  onto : Onto S T F M
  onto = record { deployment = refl; decided = λ w k. k; onward = grown.onward; firm = firm-up; tops = tops }

  module _ (facts : OwnFacts) where
    abbrev due : ℕ → ℕ → List Entry
    due = due_after S K i u taken

    abbrev L : Transactions
    L = with_due K due

    moved : (p t : ℕ) → IsPart S p → Moved E K.submitted S.logs T.logs K.due due (now + 1) p t
    moved p t _ = all-moved E S H K C.books.due (now + 1) i ch u out G J grown enters on taken facts.own p t

    books : Books E T M L (now + 1)
    books = books-moved E S T F M K now (now + 1) due (omega arith) H (λ p t b. J) onto moved C.books (keeps-same S T K.heard refl)
        (λ p t n. due-unless S K i u taken p t (λ e _ _ _. n (subst (IsPart S) (sym e) (slot-part S lay i slot))))

    -- ---- agents, and what is under way

    answer-kept : (p : ℕ) (l : Letter) → AnswerOk E S F K p l → AnswerOk E T M L p l
    answer-kept = answer-on E S T F M onto K L (omega arith)

    agents : (h : ℕ) → AgentCalls E T M L h
    agents h = agent-moved E S T F M K now (now + 1) due (omega arith) H (λ p t b. J) onto moved C.books h refl (C.agents h)

    to_sites : (h c : ℕ) → IsSlot S c → AllByRecursion (ToSiteOk T h c) (ch (Agent h) (Site c))
    to_sites h c is = all-from (ToSiteOk T h c) (ch (Agent h) (Site c)) (λ l m. to_site-on S T F M onto h c l
        (all-at (ToSiteOk S h c) (S.words.channel (Agent h) (Site c)) (C.to_sites h c is) l (facts.less (Agent h) (Site c) l m)))

    to_agents-kept : (c h : ℕ) → IsSlot S c → AllByRecursion (AnswerOk E T M L (part S c)) (ch (Site c) (Agent h))
    to_agents-kept c h is = all-from (AnswerOk E T M L (part S c)) (ch (Site c) (Agent h)) (λ l m. answer-kept (part S c) l
        (all-at (AnswerOk E S F K (part S c)) (S.words.channel (Site c) (Agent h)) (C.to_agents c h is) l (facts.less (Site c) (Agent h) l m)))

    environment : (c h : ℕ) → (IsSlot S c → ⊥) → T.words.channel (Site c) (Agent h) ≡ []
    environment c h = sent-either (record S { words = record S.words { channel = ch } }) i u out G (λ j ls. (IsSlot S j → ⊥) → ls ≡ []) (Agent h) (λ n. absurd (n slot))
        (λ j _ n. in-none (ch (Site j) (Agent h)) (λ l m. subst (In l) (C.environment j h n) (facts.less (Site j) (Agent h) l m))) c

    -- ---- other sites

    -- The word of a site that leads isn't that of another leader of its partition.
    not-both-lead : (c : ℕ) → (c ≡ i → ⊥) → (w : Membership) → In w S.words.history.decided → leader D w (part S c) ≡ Some c → part S c ≡ part S i → (authoritative : leads D i u ≡ true)
        → term_of w ≡ site_term u → ⊥
    not-both-lead c n w decided first p authoritative t =
        let k = authoritative-on S H i ch u out G J enters on authoritative in
        let site = here (record S { words = record S.words { channel = ch } }) i u out G in
        let e = ap site_term (sym site) ∙ ap term_in k.view in
        let same : w ≡ k.word = same-word S H (term_of k.word) w k.word (record { decided = decided; term_is = t ∙ e }) (record { decided = k.member.decided; term_is = refl }) in
        n (same-some (sym first ∙ ap (leader D w) p ∙ ap (λ v. leader D v (part S i)) same ∙ k.first))

    module _ (c : ℕ) (n : c ≡ i → ⊥) (w : Membership) (decided : In w S.words.history.decided) (first : leader D w (part S c) ≡ Some c) where
      due-other : due (part S c) (term_of w) ≡ K.due (part S c) (term_of w)
      due-other = due-unless S K i u taken (part S c) (term_of w) (λ p t authoritative on. not-both-lead c n w decided first p authoritative (t ∙ sym on))

      led-other : (g : Leadership) → G.leadership (part S c) (term_of w) ≡ Some g → S.logs.leadership (part S c) (term_of w) ≡ Some g
      led-other g is = elim (grown.led (part S c) (term_of w) g is) [
        | inl old ↦ old
        | inr heads ↦ let r = heads-own S H i ch u out G J (part S c) (term_of w) g is heads in absurd (not-both-lead c n w decided first r.1 r.0 r.2)
      ]

    other-site : (c : ℕ) → (c ≡ i → ⊥) → 0 < site_start S c → SiteCalls S K c → SiteCalls T L c
    other-site c n up k = record {
      waiting = rw same k.waiting;
      held = subst (HoldsAnswers ToOrders) (sym same) k.held;
      orders = λ w joins view first h a init.
          let joined = ap (λ x. x.joining) (sym same) ∙ joins in
          let viewed = ap (λ x. x.view) (sym same) ∙ view in
          ap (λ x. orders x.start (term_of w) (ch (Agent h) (Site c))) same
          ∙ ap (orders (site_start S c) (term_of w)) (facts.there h c n)
          ∙ k.orders w joined viewed first h a init
          ∙ sym (due-other c n w (decided-at w joined viewed) first);
      counts = λ authoritative. counts-kept (leading S c H up (ap (leads D c) (sym same) ∙ authoritative)) (k.counts (ap (leads D c) (sym same) ∙ authoritative));
      unrepaired = rw same k.unrepaired;
    }
      where
        same : T.sites c ≡ S.sites c
        same = there (record S { words = record S.words { channel = ch } }) i u out G c n

        decided-at : (w : Membership) → (S.sites c).joining ≡ None → (S.sites c).view ≡ Some w → In w S.words.history.decided
        decided-at w joins view = let m = (H.sites c).member up joins in subst (λ v. In v S.words.history.decided) (same-some (sym m.1 ∙ view)) m.2.decided

        counts-kept : Leading S c → CountsOk S c → CountsOk T c
        counts-kept m o = record {
          counted = subst (Counted D c) (sym same) o.counted;
          joined = λ g is.
              let t : term_at T c ≡ term_of m.word = ap site_term same ∙ ap term_in m.view in
              let old = led-other c n m.word m.member.decided m.first g (ap (G.leadership (part S c)) (sym t) ∙ is) in
              subst (λ x. AllByRecursion (λ j. length g.begun ≤ j.stream_start) x.joiners) (sym same) (o.joined g (ap (λ x. S.logs.leadership (part S c) (term_in x)) m.view ∙ old));
        }

    -- ---- the site itself

    mine : T.sites i ≡ u
    mine = here (record S { words = record S.words { channel = ch } }) i u out G

    module _ (calls : 0 < site_start S i → SiteCalls S K i) where
      -- as the leader of a term
      module _ (authoritative : leads D i u ≡ true) where
        abbrev k : Leading T i
        k = authoritative-on S H i ch u out G J enters on authoritative

        term-is : site_term u ≡ term_of k.word
        term-is = ap site_term (sym mine) ∙ ap term_in k.view

        up : 0 < site_start S i
        up = runs S H i ch u out G J enters on authoritative

        -- no stream began before what its term began with
        joined-here : (g : Leadership) → T.logs.leadership (part S i) (site_term u) ≡ Some g → AllByRecursion (λ j. length g.begun ≤ j.stream_start) u.joiners
        joined-here g is = facts.joined (length g.begun) before authoritative low
          where
            same : g ≡ k.leadership
            same = same-some (sym is ∙ ap (G.leadership (part S i)) term-is ∙ k.led)

            low : length g.begun ≤ length u.log
            low = let f = prefix-length g.begun g.log (J.leaderships (part S i) (site_term u) g is).grown in
                let e = ap (λ x. length x.log) mine in let b = ap length k.log in let q = ap (λ x. length x.log) same in omega (arith, f, e, b, q)

            before : leads D i (S.sites i) ≡ true → u.view ≡ (S.sites i).view → AllByRecursion (λ j. length g.begun ≤ j.stream_start) (S.sites i).joiners
            before was view =
                let b = leading S i H up was in
                let t : term_at S i ≡ term_of b.word = ap term_in b.view in
                let led = ap (S.logs.leadership (part S i)) t ∙ b.led in
                let r = grown.onward.kept (part S i) (term_at S i) b.leadership led in
                let q = ap (λ x. length x.begun) (same-some (sym r.1 ∙ ap (G.leadership (part S i)) (ap term_in (sym view)) ∙ is)) in
                let e = ap length r.2 in
                subst (λ m. AllByRecursion (λ j. m ≤ j.stream_start) (S.sites i).joiners) (omega (arith, q, e)) (((calls up).counts was).joined b.leadership led)

      -- what is due to it then is under way
      orders-here : (w : Membership) → u.joining ≡ None → u.view ≡ Some w → leader D w (part S i) ≡ Some i → 0 < u.start → (h a : ℕ) → initiator w ≡ Some (h, a)
          → orders u.start (term_of w) (ch (Agent h) (Site i)) ≡ due (part S i) (term_of w)
      orders-here w joins view first some h a init = go (S.logs.leadership (part S i) (term_of w)) refl
        where
          -- where the term was led, it led it and leads it still
          authoritative : (g : Leadership) → S.logs.leadership (part S i) (term_of w) ≡ Some g → leads D i u ≡ true
          authoritative g e =
              let m = (J.sites i).member (subst (λ x. 0 < x.start) (sym mine) some) (ap (λ x. x.joining) mine ∙ joins) in
              let same = same-some (sym m.1 ∙ ap (λ x. x.view) mine ∙ view) in
              let r = (grown.onward.kept (part S i) (term_of w) g e) in
              let l = subst (LeadsIn (T.sites i)) (ap (λ v. G.leadership (part S i) (term_of v)) same ∙ r.1) (m.2.leading (ap (λ v. leader D v (part S i)) same ∙ first)) in
              leads-from D i u (leader-is D i u w view joins first) (ap (λ x. x.repaired) (sym mine) ∙ l.0)

          led : (g : Leadership) → S.logs.leadership (part S i) (term_of w) ≡ Some g → orders u.start (term_of w) (ch (Agent h) (Site i)) ≡ due (part S i) (term_of w)
          led g e =
              let y = authoritative g e in
              let same = same-some (sym view ∙ ap (λ x. x.view) (sym mine) ∙ (k y).view) in
              let b = led-before S H i ch u out G J enters on y g (ap (λ v. S.logs.leadership (part S i) (term_of v)) (sym same) ∙ e) in
              let m = leading S i H (up y) b.0 in
              let t : term_at S i ≡ term_of w = ap term_in b.1 ∙ ap term_of (sym same) in
              let v = same-some (sym m.view ∙ b.1 ∙ ap Some (sym same)) in
              ap (λ n. orders n (term_of w) (ch (Agent h) (Site i))) (ap (λ x. x.start) (sym mine) ∙ start S H i ch u out G J enters on y)
              ∙ subst (λ n. orders (site_start S i) n (ch (Agent h) (Site i)) ≡ due (part S i) n) t
              (facts.left m h a (ap initiator v ∙ init) ∙ sym (due-here S K i u taken y (ap term_in view ∙ sym t)))

          go : (o : Option Leadership) → S.logs.leadership (part S i) (term_of w) ≡ o → orders u.start (term_of w) (ch (Agent h) (Site i)) ≡ due (part S i) (term_of w)
          go None e = none-under-way S h i u.start (term_of w) e (ch (Agent h) (Site i)) (all-from (ToSiteOk S h i) (ch (Agent h) (Site i)) (λ l m.
              all-at (ToSiteOk S h i) (S.words.channel (Agent h) (Site i)) (C.to_sites h i slot) l (facts.less (Agent h) (Site i) l m)))
              ∙ sym (due-none S K i u taken (part S i) (term_of w) (unled-due S K (part S i) (term_of w) (C.books.due (part S i) (term_of w)) e))
          go (Some g) e = led g e

      -- one that has just begun counts none
      unrepaired-here : 0 < u.start → (u.start ≡ site_start S i) ⊎ (u.view ≡ None) → Unrepaired u
      unrepaired-here some (inl e) = facts.unrepaired (omega (arith, some, e))
      unrepaired-here some (inr none) = λ _. elim ((J.sites i).keeps (subst (λ x. 0 < x.start) (sym mine) some)).leads [
        | inl e ↦ ap (λ x. x.joiners) (sym mine) ∙ e
        | inr authoritative ↦ absurd (none-and-some (ap (λ x. x.view) mine ∙ none) (leader-view D i (T.sites i) authoritative).1.1)
      ]

      own-site : 0 < u.start → SiteCalls T L i
      own-site some = record {
        waiting = rw mine (facts.waiting some);
        held = subst (HoldsAnswers ToOrders) (sym mine) (facts.answers.held some);
        orders = λ w joins view first h a init.
            ap (λ x. orders x.start (term_of w) (ch (Agent h) (Site i))) mine
            ∙ orders-here w (ap (λ x. x.joining) (sym mine) ∙ joins) (ap (λ x. x.view) (sym mine) ∙ view) first some h a init;
        counts = λ authoritative. let y = ap (leads D i) (sym mine) ∙ authoritative in record {
          counted = subst (Counted D i) (sym mine) (facts.counted y);
          joined = λ g is. subst (λ x. AllByRecursion (λ j. length g.begun ≤ j.stream_start) x.joiners) (sym mine) (joined-here y g (ap (λ x. G.leadership (part S i) (site_term x)) (sym mine) ∙ is));
        };
        unrepaired = subst Unrepaired (sym mine) (unrepaired-here some on);
      }

      -- ---- all sites, and what they say

      sites : (c : ℕ) → IsSlot S c → 0 < site_start T c → SiteCalls T L c
      sites c is some = elim (cases_eq c i) [
        | inl e ↦ subst (SiteCalls T L) (sym e) (own-site (subst (λ x. 0 < x.start) mine (subst (λ z. 0 < site_start T z) e some)))
        | inr n ↦
            let was = subst (λ x. 0 < x.start) (there (record S { words = record S.words { channel = ch } }) i u out G c n) some in
            other-site c n was (C.sites c is was)
      ]

      counts-here : leads D i (T.sites i) ≡ true → CountsOk T i
      counts-here authoritative = (own-site (subst (λ x. 0 < x.start) mine (leads-runs T J i authoritative))).counts authoritative

      said : (h : ℕ) → AllByRecursion (AnswerOk E T M L (part S i)) (out (Agent h))
      said h = all-mono (SentAnswer E D i ToOrders u) (AnswerOk E T M L (part S i)) (λ l a.
          answers-ok E T J M halted disks L (now + 1) books i slot (slot-part S lay i slot) counts-here l (subst (λ x. SentAnswer E D i ToOrders x l) (sym mine) a))
          (out (Agent h)) (facts.answers.sends h)

      to_agents : (c h : ℕ) → IsSlot S c → AllByRecursion (AnswerOk E T M L (part S c)) (T.words.channel (Site c) (Agent h))
      to_agents c h = sent-either (record S { words = record S.words { channel = ch } }) i u out G
          (λ j ls. IsSlot S j → AllByRecursion (AnswerOk E T M L (part S j)) ls) (Agent h)
          (λ is. all-append (AnswerOk E T M L (part S i)) (ch (Site i) (Agent h)) (out (Agent h)) (to_agents-kept i h is) (said h)) (λ j _ is. to_agents-kept j h is) c

      -- ---- all

      module _ (still : halted ≡ true → (c : ℕ) (y : Shown) → In y (shown_at T c) → In y (shown_at S c)) where
        choices : halted ≡ true → (shown : ℕ → Shown) → Shows T shown → (N : Transactions) × Aligned E D (now + 1) N (chosen D shown)
            × ((p : ℕ) → IsPart T p → CallsOk L.submitted p (chosen D shown p))
        choices e shown k =
            let r = C.halts e shown (record { one = λ c is. still e c (shown c) (k.one c is); none = k.none }) in
            (r.0, aligned-later E D now (now + 1) (omega arith) r.0 (chosen D shown) r.1, r.2)

        -- All that holds of transactions holds after the turn.
        pub turned-calls : CallsHold E T M halted L (now + 1)
        turned-calls = record {
          books = books;
          to_sites = to_sites;
          to_agents = to_agents;
          environment = environment;
          sites = sites;
          agents = agents;
          halts = choices;
        }
