-- The channels of a world with one client, one agent and one site.
use Rattle.std.proofs.Common.{◌≡◌, ◌==◌, ◌&&◌, Bool, true, false, if◌then◌else◌, List, [], ◌++◌, refl, ap, sym, subst, subst₂, ◌∙◌}
use Rattle.std.proofs.lemmas.Bool.{false≢true, eqb-true, and_parts}
use Rattle.volt_wire.specs.declared.actor.Actor.{Actor}
use Rattle.volt_wire.specs.declared.actor.Actor.TheVariants.{Director, Client, Agent, Site, Scanner}
use Rattle.one_host_model.specs.declared.message.Msg.{Msg}
use Rattle.one_host_model.specs.Actors.{same, Sends, only}
use Rattle.one_host_model.specs.World.{took, sent, rest}
use Rattle.one_host_model.proofs.Actors.{same-true}

-- whether messages may ever be under way from a to b
abbrev pub is_used : Actor → Actor → Bool
is_used (Client n) Director = 1 == n
is_used (Client n) (Agent h) = 1 == n && 0 == h
is_used (Agent h) (Site i) = 0 == h && 0 == i
is_used (Site i) (Agent h) = 0 == i && 0 == h
is_used (Agent h) (Client n) = 0 == h && 1 == n
is_used _ _ = false

-- what is under way: on the five channels that are used these messages, and on no other any
pub record Channels (channel : Actor → Actor → List Msg) (tolds calls sps replies answers : List Msg) : Type 0 where
  pub told : channel (Client 1) Director ≡ tolds
  pub call : channel (Client 1) (Agent 0) ≡ calls
  pub sp : channel (Agent 0) (Site 0) ≡ sps
  pub reply : channel (Site 0) (Agent 0) ≡ replies
  pub answer : channel (Agent 0) (Client 1) ≡ answers
  pub other : (a b : Actor) → is_used a b ≡ false → channel a b ≡ []

-- taking a message from an empty channel leaves it empty
took_nothing : (t : Bool) (ms : List Msg) → ms ≡ [] → (if t then rest ms else ms) ≡ []
took_nothing true ms e = ap rest e
took_nothing false ms e = e

-- an empty channel stays so where nothing is sent on it
sent_nothing : (t : Bool) (ms more : List Msg) → ms ≡ [] → (t ≡ true → more ≡ []) → (if t then ms ++ more else ms) ≡ []
sent_nothing true ms more e n = ap (λ x. x ++ more) e ∙ n refl
sent_nothing false ms more e n = e

-- a lone message to the site goes nowhere else
pub only_site : (m : Msg) (b : Actor) → is_used (Agent 0) b ≡ false → only (Site 0) m b ≡ []
only_site m Director u = refl
only_site m (Client n) u = refl
only_site m (Agent h) u = refl
only_site m (Site i) u = rw u
only_site m (Scanner i) u = refl

-- a lone message to the client goes nowhere else
pub only_client : (m : Msg) (b : Actor) → is_used (Agent 0) b ≡ false → only (Client 1) m b ≡ []
only_client m Director u = refl
only_client m (Client n) u = rw u
only_client m (Agent h) u = refl
only_client m (Site i) u = refl
only_client m (Scanner i) u = refl

-- what holds of the five channels holds of each that is used
pub each_used : (P : Actor → Actor → Type 0) → P (Client 1) Director → P (Client 1) (Agent 0) → P (Agent 0) (Site 0) → P (Site 0) (Agent 0) → P (Agent 0) (Client 1) → (a b : Actor) → is_used a b ≡ true → P a b
each_used P told call sp reply answer (Client n) Director u = subst (λ x. P (Client x) Director) (eqb-true 1 n u) told
each_used P told call sp reply answer (Client n) (Agent h) u =
    let e = and_parts (1 == n) (0 == h) u in
    subst₂ (λ x y. P (Client x) (Agent y)) (eqb-true 1 n e.0) (eqb-true 0 h e.1) call
each_used P told call sp reply answer (Agent h) (Site i) u =
    let e = and_parts (0 == h) (0 == i) u in
    subst₂ (λ x y. P (Agent x) (Site y)) (eqb-true 0 h e.0) (eqb-true 0 i e.1) sp
each_used P told call sp reply answer (Site i) (Agent h) u =
    let e = and_parts (0 == i) (0 == h) u in
    subst₂ (λ x y. P (Site x) (Agent y)) (eqb-true 0 i e.0) (eqb-true 0 h e.1) reply
each_used P told call sp reply answer (Agent h) (Client n) u =
    let e = and_parts (0 == h) (1 == n) u in
    subst₂ (λ x y. P (Agent x) (Client y)) (eqb-true 0 h e.0) (eqb-true 1 n e.1) answer
each_used P told call sp reply answer _ _ u = absurd (false≢true u)

module _ (channel : Actor → Actor → List Msg) (tolds calls sps replies answers : List Msg) (h : Channels channel tolds calls sps replies answers) where
  -- the director takes a word
  pub Channels-took_told : Channels (took channel (Client 1) Director) (rest tolds) calls sps replies answers
  Channels-took_told = record {
    told = ap rest h.told;
    call = h.call;
    sp = h.sp;
    reply = h.reply;
    answer = h.answer;
    other = λ a b u. took_nothing (same Director b && same (Client 1) a) (channel a b) (h.other a b u);
  }

  -- the agent takes a call
  pub Channels-took_call : Channels (took channel (Client 1) (Agent 0)) tolds (rest calls) sps replies answers
  Channels-took_call = record {
    told = h.told;
    call = ap rest h.call;
    sp = h.sp;
    reply = h.reply;
    answer = h.answer;
    other = λ a b u. took_nothing (same (Agent 0) b && same (Client 1) a) (channel a b) (h.other a b u);
  }

  -- the site takes a call
  pub Channels-took_sp : Channels (took channel (Agent 0) (Site 0)) tolds calls (rest sps) replies answers
  Channels-took_sp = record {
    told = h.told;
    call = h.call;
    sp = ap rest h.sp;
    reply = h.reply;
    answer = h.answer;
    other = λ a b u. took_nothing (same (Site 0) b && same (Agent 0) a) (channel a b) (h.other a b u);
  }

  -- the agent takes a reply
  pub Channels-took_reply : Channels (took channel (Site 0) (Agent 0)) tolds calls sps (rest replies) answers
  Channels-took_reply = record {
    told = h.told;
    call = h.call;
    sp = h.sp;
    reply = ap rest h.reply;
    answer = h.answer;
    other = λ a b u. took_nothing (same (Agent 0) b && same (Site 0) a) (channel a b) (h.other a b u);
  }

  -- the client takes an answer
  pub Channels-took_answer : Channels (took channel (Agent 0) (Client 1)) tolds calls sps replies (rest answers)
  Channels-took_answer = record {
    told = h.told;
    call = h.call;
    sp = h.sp;
    reply = h.reply;
    answer = ap rest h.answer;
    other = λ a b u. took_nothing (same (Client 1) b && same (Agent 0) a) (channel a b) (h.other a b u);
  }

  -- what the client sends joins its channels
  pub Channels-sent_client : (sends : Sends) → ((b : Actor) → is_used (Client 1) b ≡ false → sends b ≡ []) → Channels (sent channel (Client 1) sends) (tolds ++ sends Director) (calls ++ sends (Agent 0)) sps replies answers
  Channels-sent_client sends n = record {
    told = ap (λ x. x ++ sends Director) h.told;
    call = ap (λ x. x ++ sends (Agent 0)) h.call;
    sp = h.sp;
    reply = h.reply;
    answer = h.answer;
    other = λ a b u. sent_nothing (same (Client 1) a) (channel a b) (sends b) (h.other a b u)
        (λ s. n b (subst (λ x. is_used x b ≡ false) (sym (same-true (Client 1) a s)) u));
  }

  -- what the agent sends joins its channels
  pub Channels-sent_agent : (sends : Sends) → ((b : Actor) → is_used (Agent 0) b ≡ false → sends b ≡ []) → Channels (sent channel (Agent 0) sends) tolds calls (sps ++ sends (Site 0)) replies (answers ++ sends (Client 1))
  Channels-sent_agent sends n = record {
    told = h.told;
    call = h.call;
    sp = ap (λ x. x ++ sends (Site 0)) h.sp;
    reply = h.reply;
    answer = ap (λ x. x ++ sends (Client 1)) h.answer;
    other = λ a b u. sent_nothing (same (Agent 0) a) (channel a b) (sends b) (h.other a b u)
        (λ s. n b (subst (λ x. is_used x b ≡ false) (sym (same-true (Agent 0) a s)) u));
  }

  -- what the site sends joins its channel
  pub Channels-sent_site : (sends : Sends) → ((b : Actor) → is_used (Site 0) b ≡ false → sends b ≡ []) → Channels (sent channel (Site 0) sends) tolds calls sps (replies ++ sends (Agent 0)) answers
  Channels-sent_site sends n = record {
    told = h.told;
    call = h.call;
    sp = h.sp;
    reply = ap (λ x. x ++ sends (Agent 0)) h.reply;
    answer = h.answer;
    other = λ a b u. sent_nothing (same (Site 0) a) (channel a b) (sends b) (h.other a b u)
        (λ s. n b (subst (λ x. is_used x b ≡ false) (sym (same-true (Site 0) a s)) u));
  }
