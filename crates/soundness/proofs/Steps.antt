-- Each event that may happen leads from a world of some run to such a world.
use Rattle.std.proofs.Common.{◌≡◌, ℕ, zero, suc, ◌+◌, ◌==◌, ◌≤◌, true, false, if◌then◌else◌, nat_lt, List, [], ◌∷◌, ◌++◌, length, map, replicate, Some, None, refl, sym, ap, subst, ◌∙◌, append_assoc, append-nil, arith, inl, inr}
use Rattle.std.proofs.lemmas.List.{length_push, map-append}
use Rattle.std.proofs.lemmas.Bool.{false≢true, eq-eqb, eqb-true, cases_Bool}
use Rattle.std.proofs.lemmas.Bool.Decides.{nat_tests}
use Rattle.volt_base.specs.Semantics.{Semantics}
use Rattle.volt_base.specs.declared.entry.Entry.{Entry}
use Rattle.volt_base.specs.declared.entry.Entry.TheVariants.{Sp}
use Rattle.volt_wire.specs.declared.actor.Actor.{Actor}
use Rattle.volt_wire.specs.declared.actor.Actor.TheVariants.{Director, Client, Agent, Site, Scanner}
use Rattle.volt_wire.specs.declared.event.Event.{Event}
use Rattle.volt_wire.specs.declared.event.Event.TheVariants.{Deliver, Sync, Submit}
use Rattle.one_host_model.specs.declared.message.Msg.TheVariants as msg
use Rattle.one_host_model.specs.Actors.{only}
use Rattle.one_host_model.specs.declared.state.Due.{Due}
use Rattle.one_host_model.specs.Client.{ClientState, may_submit, submitted, submit_sends, client_after, ends}
use Rattle.one_host_model.specs.Agent.{agent_after, agent_sends, answers}
use Rattle.one_host_model.specs.Site.{SiteState, owes, synced, replies, sync_sends, site_after, replay}
use Rattle.one_host_model.specs.World.{World, can, step, delivered, is_some_message, set_at, took, sent, due}
use Rattle.soundness.specs.Meaning.{Meaning}
use Rattle.soundness.specs.Carries.{Carries, world_calls}
use Rattle.soundness.specs.Tied.{ended_line}
use Rattle.soundness.proofs.Past.{Past, calls_of, lines_from, database_of, entries_from, lines_push, entries_push, Timed-push, Timed-later, database_after_log}
use Rattle.soundness.proofs.Channels.{is_used, Channels, only_site, only_client, each_used, Channels-took_told, Channels-took_call, Channels-took_sp, Channels-took_reply, Channels-took_answer, Channels-sent_client, Channels-sent_agent, Channels-sent_site}
use Rattle.soundness.proofs.Phases.{Phase, Idle, Called, Sent, Logged, Replied, Answered, InTime, Stands, Good}

-- a place that is not the one that changes
at_other : {A : Type 0} (f : ℕ → A) (k : ℕ) (a : A) (j : ℕ) → (j == k) ≡ false → set_at f k a j ≡ f j
at_other f k a j e = ap (λ t. if t then a else f j) e

-- one word more to the director
tolds_more : (n : ℕ) → replicate n msg.Told ++ msg.Told ∷ [] ≡ msg.Told ∷ replicate n msg.Told
tolds_more zero = refl
tolds_more (suc n) = ap (λ x. msg.Told ∷ x) (tolds_more n)

-- a client speaks to the director and to its agent alone
submit_elsewhere : (d : Due) (left : List Due) (b : Actor) → is_used (Client 1) b ≡ false → submit_sends (d ∷ left) b ≡ []
submit_elsewhere d left Director u = absurd (false≢true (sym u))
submit_elsewhere d left (Client n) u = refl
submit_elsewhere d left (Agent h) u = rw u
submit_elsewhere d left (Site i) u = refl
submit_elsewhere d left (Scanner i) u = refl

-- a site speaks to its agent alone
sync_elsewhere : (n : ℕ) (reply : List ℕ) (b : Actor) → is_used (Site 0) b ≡ false → replies (record { host = 0; start = 1; call = n; reply = reply } ∷ []) b ≡ []
sync_elsewhere n reply Director u = refl
sync_elsewhere n reply (Client m) u = refl
sync_elsewhere n reply (Agent h) u = rw u
sync_elsewhere n reply (Site i) u = refl
sync_elsewhere n reply (Scanner i) u = refl

-- nothing is less than itself
lt_self : (n : ℕ) → nat_lt n n ≡ false
lt_self n = grind (arith, nat_tests)

-- a client that waits submits nothing
may_not : (left : List Due) (p : ℕ × ℕ) → may_submit left (Some p) ≡ false
may_not [] p = refl
may_not (d ∷ left) p = refl

-- time goes on
InTime-later : {A : Type 0} (past : List (Past A)) (phase : Phase A) (now later : ℕ) → InTime past phase now → now ≤ later → InTime past phase later
InTime-later past Idle now later t l = Timed-later 0 now later past t l
InTime-later past (Called c s) now later t l = (t.0, omega arith)
InTime-later past (Sent c s) now later t l = (t.0, omega arith)
InTime-later past (Logged c s p) now later t l = (t.0, t.1, omega arith)
InTime-later past (Replied c s p) now later t l = (t.0, t.1, omega arith)
InTime-later past (Answered c s p) now later t l = (t.0, t.1, omega arith)

-- the world once the event that led to it is noted
abbrev noted : World → Event → World
noted v e = record v { trace = v.trace ++ e ∷ [] }

module _ (S : Semantics) (M : Meaning) (h : Carries S M) (calls : List M.Call) (w : World) (past : List (Past M.Call)) (n : ℕ) where
  -- the bytes that a call is answered
  abbrev reply_to : M.Call → List ℕ
  reply_to c = h.reply_bytes (M.reply (database_of M (M.database []) past) c)

  -- Submit
  submit_good : (c : M.Call) (left : List M.Call) (told : ℕ) → Stands S M h calls w past n Idle (c ∷ left) told → Good S M h calls (step S w (Submit 1))
  submit_good c left told st =
      let now = length w.trace + 1 in
      let ds = due 1 n (world_calls M h.body (c ∷ left)) in
      subst (λ x. Good S M h calls (noted (record w { clients = set_at w.clients 1 (submitted now x x.left); channel = sent w.channel (Client 1) (submit_sends x.left) }) (Submit 1))) (sym st.client) (
        past,
        n,
        Called c now,
        left,
        suc told,
        record {
          number = st.number;
          all = st.all;
          client = refl;
          agent = st.agent;
          site = st.site;
          clients = λ m u. ap (λ x. may_submit x.left x.pending) (at_other w.clients 1 _ m u) ∙ st.clients m u;
          sites = st.sites;
          channels = subst (λ x. Channels (sent w.channel (Client 1) (submit_sends ds)) x (msg.Call n 1 (Some 0) (h.body c) ∷ []) [] [] []) (tolds_more told)
              (Channels-sent_client _ _ _ _ _ _ st.channels (submit_sends ds) (submit_elsewhere (record { call = n; part = Some 0; body = h.body c }) (due 1 (n + 1) (world_calls M h.body left))));
          timed = (Timed-later 0 (length w.trace) now past st.timed (omega arith), omega (arith, length_push w.trace (Submit 1)));
          counted = omega (arith, length_push w.trace (Submit 1), st.counted);
        },
      )

  -- the agent takes a Call
  call_good : (c : M.Call) (s : ℕ) (left : List M.Call) (told : ℕ) → Stands S M h calls w past n (Called c s) left told → Good S M h calls (step S w (Deliver (Agent 0) (Client 1)))
  call_good c s left told st =
      let e = Deliver (Agent 0) (Client 1) in
      let m = msg.Call n 1 (Some 0) (h.body c) in
      subst (λ ms. Good S M h calls (noted (delivered S (length w.trace + 1) w (Agent 0) (Client 1) ms) e)) (sym st.channels.call)
      (subst (λ x. Good S M h calls (noted (record w { agents = set_at w.agents 0 (agent_after x (Client 1) m); channel = sent (took w.channel (Client 1) (Agent 0)) (Agent 0) (agent_sends x (Client 1) m) }) e)) (sym st.agent) (
        past,
        n,
        Sent c s,
        left,
        told,
        record {
          number = st.number;
          all = st.all;
          client = st.client;
          agent = refl;
          site = st.site;
          clients = st.clients;
          sites = st.sites;
          channels = Channels-sent_agent _ _ _ _ _ _ (Channels-took_call _ _ _ _ _ _ st.channels) (only (Site 0) (msg.SpCall n 1 1 (h.body c))) (only_site _);
          timed = (st.timed.0, omega (arith, length_push w.trace e, st.timed.1));
          counted = omega (arith, length_push w.trace e, st.counted);
        },
      ))

  -- the site takes a SpCall
  sp_good : (c : M.Call) (s : ℕ) (left : List M.Call) (told : ℕ) → Stands S M h calls w past n (Sent c s) left told → Good S M h calls (step S w (Deliver (Site 0) (Agent 0)))
  sp_good c s left told st =
      let e = Deliver (Site 0) (Agent 0) in
      let now = length w.trace + 1 in
      let log = entries_from h.body 1 past in
      let entry = Sp n 1 now (h.body c) in
      let m = msg.SpCall n 1 1 (h.body c) in
      let answered : S.answer (replay S (S.opening 0) log) entry ≡ reply_to c =
      h.answers (replay S (S.opening 0) log) n 1 now c
      ∙ ap (λ d. h.reply_bytes (M.reply d c)) (database_after_log S M h 1 (S.opening 0) past ∙ ap (λ d. database_of M d past) h.opens) in
      subst (λ ms. Good S M h calls (noted (delivered S now w (Site 0) (Agent 0) ms) e)) (sym st.channels.sp) (
        past,
        n,
        Logged c s now,
        left,
        told,
        record {
          number = st.number;
          all = st.all;
          client = st.client;
          agent = st.agent;
          site = ap (λ x. site_after S now 0 x (Agent 0) m) st.site
              ∙ (ap (λ (x : List Entry). record { log = x ++ entry ∷ []; on_disk = length (log ++ []); waiting = record { host = 0; start = 1; call = n; reply = S.answer (replay S (S.opening 0) x) entry } ∷ [] }) (append-nil log)
              ∙ ap (λ (x : List ℕ). record { log = log ++ entry ∷ []; on_disk = length (log ++ []); waiting = record { host = 0; start = 1; call = n; reply = x } ∷ [] }) answered);
          clients = st.clients;
          sites = λ i u. ap owes (at_other w.sites 0 _ i u) ∙ st.sites i u;
          channels = Channels-took_sp _ _ _ _ _ _ st.channels;
          timed = (st.timed.0, omega (arith, st.timed.1), omega (arith, length_push w.trace e));
          counted = omega (arith, length_push w.trace e, st.counted);
        },
      )

  -- Sync
  sync_good : (c : M.Call) (s p : ℕ) (left : List M.Call) (told : ℕ) → Stands S M h calls w past n (Logged c s p) left told → Good S M h calls (step S w (Sync 0))
  sync_good c s p left told st =
      let e = Sync 0 in
      let log = entries_from h.body 1 past in
      let x : SiteState = record { log = log ++ Sp n 1 p (h.body c) ∷ []; on_disk = length (log ++ []); waiting = record { host = 0; start = 1; call = n; reply = reply_to c } ∷ [] } in
      subst (λ x. Good S M h calls (noted (record w { sites = set_at w.sites 0 (synced x); channel = sent w.channel (Site 0) (sync_sends x) }) e)) (sym st.site) (
        past,
        n,
        Replied c s p,
        left,
        told,
        record {
          number = st.number;
          all = st.all;
          client = st.client;
          agent = st.agent;
          site = refl;
          clients = st.clients;
          sites = λ i u. ap owes (at_other w.sites 0 _ i u) ∙ st.sites i u;
          channels = Channels-sent_site _ _ _ _ _ _ st.channels (sync_sends x) (sync_elsewhere n (reply_to c));
          timed = (st.timed.0, st.timed.1, omega (arith, length_push w.trace e, st.timed.2));
          counted = omega (arith, length_push w.trace e, st.counted);
        },
      )

  -- the agent takes a Reply
  reply_good : (c : M.Call) (s p : ℕ) (left : List M.Call) (told : ℕ) → Stands S M h calls w past n (Replied c s p) left told → Good S M h calls (step S w (Deliver (Agent 0) (Site 0)))
  reply_good c s p left told st =
      let e = Deliver (Agent 0) (Site 0) in
      let m = msg.Reply n 1 (reply_to c) in
      let channel = took w.channel (Site 0) (Agent 0) in
      subst (λ ms. Good S M h calls (noted (delivered S (length w.trace + 1) w (Agent 0) (Site 0) ms) e)) (sym st.channels.reply)
      (subst (λ x. Good S M h calls (noted (record w { agents = set_at w.agents 0 (agent_after x (Site 0) m); channel = sent channel (Agent 0) (agent_sends x (Site 0) m) }) e)) (sym st.agent)
      (subst (λ t. Good S M h calls (noted (record w { agents = set_at w.agents 0 (record { start = 1; pending = if t then [] else record { call = n; client = 1 } ∷ [] }); channel = sent channel (Agent 0) (answers (if t then Some 1 else None) n (reply_to c)) }) e)) (sym (eq-eqb n n refl)) (
        past,
        n,
        Answered c s p,
        left,
        told,
        record {
          number = st.number;
          all = st.all;
          client = st.client;
          agent = refl;
          site = st.site;
          clients = st.clients;
          sites = st.sites;
          channels = Channels-sent_agent _ _ _ _ _ _ (Channels-took_reply _ _ _ _ _ _ st.channels) (only (Client 1) (msg.Answer n (reply_to c))) (only_client _);
          timed = (st.timed.0, st.timed.1, omega (arith, length_push w.trace e, st.timed.2));
          counted = omega (arith, length_push w.trace e, st.counted);
        },
      )))

  -- the client takes an Answer
  answer_good : (c : M.Call) (s p : ℕ) (left : List M.Call) (told : ℕ) → Stands S M h calls w past n (Answered c s p) left told → Good S M h calls (step S w (Deliver (Client 1) (Agent 0)))
  answer_good c s p left told st =
      let e = Deliver (Client 1) (Agent 0) in
      let now = length w.trace + 1 in
      let q : Past M.Call = record { call = c; submitted = s; point = p; ended = now } in
      let lines = lines_from M 1 (M.database []) past in
      let waits : ClientState = record { left = due 1 (n + 1) (world_calls M h.body left); pending = Some (n, s); ended = map (ended_line h.reply_bytes) lines } in
      subst (λ ms. Good S M h calls (noted (delivered S now w (Client 1) (Agent 0) ms) e)) (sym st.channels.answer) (
        past ++ q ∷ [],
        n + 1,
        Idle,
        left,
        told,
        record {
          number = omega (arith, length_push past q, st.number);
          all = ap (λ x. x ++ left) (map-append (λ x. x.call) past (q ∷ [])) ∙ (append_assoc (calls_of past) (c ∷ []) left ∙ st.all);
          client = ap (λ x. client_after now 1 x (msg.Answer n (reply_to c))) st.client
              ∙ (ap (λ t. ends t now 1 waits n s (reply_to c)) (eq-eqb n n refl)
              ∙ ap (λ x. record { left = due 1 (n + 1) (world_calls M h.body left); pending = None; ended = x })
              (sym (ap (map (ended_line h.reply_bytes)) (lines_push M 1 n (M.database []) past q st.number) ∙ map-append (ended_line h.reply_bytes) lines _)));
          agent = st.agent;
          site = st.site ∙ ap (λ (x : List Entry). record { log = x; on_disk = length x; waiting = [] }) (sym (append-nil _ ∙ entries_push h.body 1 n past q st.number));
          clients = λ m u. ap (λ x. may_submit x.left x.pending) (at_other w.clients 1 _ m u) ∙ st.clients m u;
          sites = st.sites;
          channels = Channels-took_answer _ _ _ _ _ _ st.channels;
          timed = Timed-push 0 s _ past q st.timed.0 (omega arith) (omega (arith, st.timed.1)) (omega (arith, st.timed.2)) (omega (arith, length_push w.trace e));
          counted = omega (arith, length_push w.trace e, st.counted);
        },
      )

  -- the director takes a word
  told_good : (phase : Phase M.Call) (left : List M.Call) (told : ℕ) → Stands S M h calls w past n phase left (suc told) → Good S M h calls (step S w (Deliver Director (Client 1)))
  told_good phase left told st =
      let e = Deliver Director (Client 1) in
      subst (λ ms. Good S M h calls (noted (delivered S (length w.trace + 1) w Director (Client 1) ms) e)) (sym st.channels.told) (
        past,
        n,
        phase,
        left,
        told,
        record {
          number = st.number;
          all = st.all;
          client = st.client;
          agent = st.agent;
          site = st.site;
          clients = st.clients;
          sites = st.sites;
          channels = Channels-took_told _ _ _ _ _ _ st.channels;
          timed = InTime-later past phase (length w.trace) _ st.timed (omega (arith, length_push w.trace e));
          counted = omega (arith, length_push w.trace e, st.counted);
        },
      )

-- ---- which events may happen

module _ (S : Semantics) (M : Meaning) (h : Carries S M) (calls : List M.Call) (w : World) (past : List (Past M.Call)) (n : ℕ) where
  -- a word to the director may be taken if there is one
  on_told : (phase : Phase M.Call) (left : List M.Call) (told : ℕ) → Stands S M h calls w past n phase left told → can w (Deliver Director (Client 1)) ≡ true → Good S M h calls (step S w (Deliver Director (Client 1)))
  on_told phase left zero st m = absurd (false≢true (ap is_some_message (sym st.channels.told) ∙ m))
  on_told phase left (suc told) st m = told_good S M h calls w past n phase left told st

  -- a Call may be taken by the agent only in the phase after Submit
  on_call : (phase : Phase M.Call) (left : List M.Call) (told : ℕ) → Stands S M h calls w past n phase left told → can w (Deliver (Agent 0) (Client 1)) ≡ true → Good S M h calls (step S w (Deliver (Agent 0) (Client 1)))
  on_call (Called c s) left told st m = call_good S M h calls w past n c s left told st
  on_call _ left told st m = absurd (false≢true (ap is_some_message (sym st.channels.call) ∙ m))

  -- a SpCall only after that
  on_sp : (phase : Phase M.Call) (left : List M.Call) (told : ℕ) → Stands S M h calls w past n phase left told → can w (Deliver (Site 0) (Agent 0)) ≡ true → Good S M h calls (step S w (Deliver (Site 0) (Agent 0)))
  on_sp (Sent c s) left told st m = sp_good S M h calls w past n c s left told st
  on_sp _ left told st m = absurd (false≢true (ap is_some_message (sym st.channels.sp) ∙ m))

  -- a Reply only after Sync
  on_reply : (phase : Phase M.Call) (left : List M.Call) (told : ℕ) → Stands S M h calls w past n phase left told → can w (Deliver (Agent 0) (Site 0)) ≡ true → Good S M h calls (step S w (Deliver (Agent 0) (Site 0)))
  on_reply (Replied c s p) left told st m = reply_good S M h calls w past n c s p left told st
  on_reply _ left told st m = absurd (false≢true (ap is_some_message (sym st.channels.reply) ∙ m))

  -- an Answer only after that
  on_answer : (phase : Phase M.Call) (left : List M.Call) (told : ℕ) → Stands S M h calls w past n phase left told → can w (Deliver (Client 1) (Agent 0)) ≡ true → Good S M h calls (step S w (Deliver (Client 1) (Agent 0)))
  on_answer (Answered c s p) left told st m = answer_good S M h calls w past n c s p left told st
  on_answer _ left told st m = absurd (false≢true (ap is_some_message (sym st.channels.answer) ∙ m))

  -- the site owes its disk an entry only once it took the call
  on_sync : (phase : Phase M.Call) (left : List M.Call) (told : ℕ) → Stands S M h calls w past n phase left told → can w (Sync 0) ≡ true → Good S M h calls (step S w (Sync 0))
  on_sync (Logged c s p) left told st m = sync_good S M h calls w past n c s p left told st
  on_sync _ left told st m = absurd (false≢true (sym (lt_self _) ∙ (ap owes (sym st.site) ∙ m)))

  -- the client submits only if it waits for nothing and a call is left
  on_submit : (phase : Phase M.Call) (left : List M.Call) (told : ℕ) → Stands S M h calls w past n phase left told → can w (Submit 1) ≡ true → Good S M h calls (step S w (Submit 1))
  on_submit Idle (c ∷ left) told st m = submit_good S M h calls w past n c left told st
  on_submit Idle [] told st m = absurd (false≢true (ap (λ x. may_submit x.left x.pending) (sym st.client) ∙ m))
  on_submit (Called c s) left told st m = absurd (false≢true (sym (may_not _ _) ∙ (ap (λ x. may_submit x.left x.pending) (sym st.client) ∙ m)))
  on_submit (Sent c s) left told st m = absurd (false≢true (sym (may_not _ _) ∙ (ap (λ x. may_submit x.left x.pending) (sym st.client) ∙ m)))
  on_submit (Logged c s p) left told st m = absurd (false≢true (sym (may_not _ _) ∙ (ap (λ x. may_submit x.left x.pending) (sym st.client) ∙ m)))
  on_submit (Replied c s p) left told st m = absurd (false≢true (sym (may_not _ _) ∙ (ap (λ x. may_submit x.left x.pending) (sym st.client) ∙ m)))
  on_submit (Answered c s p) left told st m = absurd (false≢true (sym (may_not _ _) ∙ (ap (λ x. may_submit x.left x.pending) (sym st.client) ∙ m)))

  -- no other event may happen
  on_event : (phase : Phase M.Call) (left : List M.Call) (told : ℕ) → Stands S M h calls w past n phase left told → (e : Event) → can w e ≡ true → Good S M h calls (step S w e)
  on_event phase left told st (Deliver to from) m =
      elim (cases_Bool (is_used from to)) [
        | inl u ↦ each_used (λ a b. can w (Deliver b a) ≡ true → Good S M h calls (step S w (Deliver b a)))
            (on_told phase left told st) (on_call phase left told st) (on_sp phase left told st) (on_reply phase left told st) (on_answer phase left told st) from to u m
        | inr u ↦ absurd (false≢true (ap is_some_message (sym (st.channels.other from to u)) ∙ m))
      ]
  on_event phase left told st (Sync i) m =
      elim (cases_Bool (i == 0)) [
        | inl u ↦ subst (λ k. can w (Sync k) ≡ true → Good S M h calls (step S w (Sync k))) (sym (eqb-true i 0 u)) (on_sync phase left told st) m
        | inr u ↦ absurd (false≢true (sym (st.sites i u) ∙ m))
      ]
  on_event phase left told st (Submit k) m =
      elim (cases_Bool (k == 1)) [
        | inl u ↦ subst (λ k. can w (Submit k) ≡ true → Good S M h calls (step S w (Submit k))) (sym (eqb-true k 1 u)) (on_submit phase left told st) m
        | inr u ↦ absurd (false≢true (sym (st.clients k u) ∙ m))
      ]
  on_event phase left told st _ m = absurd (false≢true m)

-- an event that may happen leads to a world of some run
pub Good-step : (S : Semantics) (M : Meaning) (h : Carries S M) (calls : List M.Call) (w : World) (e : Event) → Good S M h calls w → can w e ≡ true → Good S M h calls (step S w e)
Good-step S M h calls w e g m = on_event S M h calls w g.0 g.1 g.2 g.3 g.4 g.5 e m
