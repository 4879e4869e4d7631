-- What an initiator answers: the end of a transaction that stands in all partitions, and is firm there.
use Rattle.volt_wire.specs.declared.message.Msg.TheVariants as msg
use Rattle.transaction_laws.proofs.Names.{Agent, AgentState, AllByRecursion, AnswersCall, Books, Bool, Client, Database, Deployment, Done, End, Entry, Everywhere, Firm, FromLogs, Initiating, In, IsAnswered, IsOnOne, IsPart, Job, JobAsked, KnownEnd, KnownReply, LastReply, Leadership, List, LogState, None, Option, OnSome, Outcome, Prefix, QueuedAsked, Replied, RunCall, Some, Stood, Submissions, TakeSnapshot, Transactions, Work, WorkAsked, [], all-if, all-mono, answers, answers_client, ap, append_assoc, arith, becomes, client_of, end_of_reply, false, if◌then◌else◌, in-cases, in-left, in-right, inl, inr, is_down_in, known_of, led_log, length, length-append, letter_to, lt-ltb, on_reply, only, open_letter, part, prefix-trans, refl, same, sending, since, slots, subst, sym, true, whole, ℕ, ◌&&◌, ◌++◌, ◌+◌, ◌*◌, ◌<◌, ◌==◌, ◌∙◌, ◌∷◌, ◌≡◌, ◌≤◌}
use Rattle.transaction_laws.proofs.Kept.{AllTell, Ending, Tells}
use Rattle.transaction_laws.proofs.Entries.{answer-point, calls-no-end, in-at, job-known, log-since, not-on-one}
use Rattle.transaction_laws.proofs.Initiators.Orders.{LaidOut, slot-part}
use Rattle.transaction_laws.proofs.Initiators.Beginning.{AtRest}

-- ---- places

-- There is a partition.
pub some-part : (S : LogState) → LaidOut S → IsPart S (part S 0)
some-part S lay = slot-part S lay 0 (lt-ltb 0 (slots S.words.deployment) (some S.words.deployment.layout.hosts S.words.deployment.layout.sites lay.within.some_host lay.within.some_site))
  where
    some : (hosts sites : ℕ) → 1 ≤ hosts → 1 ≤ sites → 0 < hosts * sites
    some hosts sites a b = grind (arith, a, b)

-- Of entries that are everywhere in a term each one stands there.
pub in-stood : (S : LogState) (F : Firm) (p t : ℕ) (g : Leadership) → S.logs.leadership p t ≡ Some g → (xs : List Entry) → Prefix xs g.log → Everywhere S F p t (length xs)
    → (e : Entry) → In e xs → Stood S F p t e
in-stood S F p t g led xs within everywhere e i =
    let (before, behind, is) = in-at e xs i in
    let seam = sym (append_assoc before (e ∷ []) behind) in
    let short : length before + 1 ≤ length xs = let a = ap length is in let b = length-append before (e ∷ behind) in omega (arith, a, b) in
    record {
      leadership = g;
      led = led;
      position = length before + 1;
      stands = record { prefix = before; stands = prefix-trans (before ++ e ∷ []) xs g.log (behind, is ∙ seam) within; at = refl };
      everywhere = record { reach = let r = everywhere.reach in omega (arith, r, short); firm = let f = everywhere.firm in omega (arith, f, short) };
    }

-- an entry that stands there is in the log
stood-in : (S : LogState) (F : Firm) (p t : ℕ) (e : Entry) → Stood S F p t e → In e (led_log (S.logs.leadership p t))
stood-in S F p t e k =
    let (more, is) = k.stands.stands in
    subst (In e) (sym (ap led_log k.led ∙ is)) (in-left e (k.stands.prefix ++ e ∷ []) more (in-right e k.stands.prefix (e ∷ []) (inl refl)))

-- ---- what is answered

-- A job is answered so, if it is.
abbrev pub AnswersJob : LogState → Firm → Job → Option End → Type 0
AnswersJob S F job None = Unit {0}
AnswersJob S F TakeSnapshot (Some e) = Unit {0}
AnswersJob S F (RunCall call client host start body) (Some e) = Replied S.logs S.words.deployment F call e

-- Where nothing is due, and behind what is over stand only calls on one partition.
module _ (E : Database) (S : LogState) (F : Firm) (K : Transactions) (now : ℕ) (B : Books E S F K now) (rest : AtRest S K) where
  -- ends stand in what is over, and are firm
  pub closed-stood : (p m : ℕ) (o : Outcome) → IsPart S p → In (Done m o) (K.closed p) → Stood S F p K.heard (Done m o)
  closed-stood p m o q i = let h = B.heard.each p q in in-stood S F p K.heard h.leadership h.led (K.closed p) h.inside h.closed (Done m o) i

  end-closed : (p m : ℕ) (o : Outcome) → IsPart S p → In (Done m o) (whole S K K.heard p) → In (Done m o) (K.closed p)
  end-closed p m o q i =
      let log = whole S K K.heard in
      elim (in-cases (Done m o) (K.closed p) (since K log p) (subst (In (Done m o)) (log-since E S.words.deployment now K log B.heard.aligned p q) i)) [
        | inl j ↦ j
        | inr j ↦ absurd (calls-no-end (since K log p) m o (rest p q).1 j)
      ]

  -- One that applies a call in one partition is so in all.
  end-replied : (p m : ℕ) (o : Outcome) (call : ℕ) (e : End) → IsPart S p → In (Done m o) (whole S K K.heard p) → AnswersCall o call e → Replied S.logs S.words.deployment F call e
  end-replied p m o call e q i k = let (x, point) = answer-point o call e k in record {
    term = K.heard;
    number = m;
    outcome = o;
    answers = k;
    stands = λ r other. closed-stood r m o other (B.heard.aligned.even p r m x o q other point (end-closed p m o q i));
  }

  known-replied : (r : LastReply) → KnownEnd S F K.heard r → Replied S.logs S.words.deployment F r.call (end_of_reply r.reply)
  known-replied r k =
      end-replied k.part k.number k.outcome r.call (end_of_reply r.reply) k.is_part
      (in-left (Done k.number k.outcome) (led_log (S.logs.leadership k.part K.heard)) (K.due k.part K.heard) (stood-in S F k.part K.heard (Done k.number k.outcome) k.stood)) k.answers

  -- So is that by which a call is answered that was run already.
  pub job-answered : (replies : List LastReply) → AllByRecursion (FromLogs S F K.submitted K.heard) replies → (job : Job) → JobAsked K.submitted job → (e : End)
      → known_of job replies ≡ IsAnswered e → AnswersJob S F job (Some e)
  job-answered replies from TakeSnapshot asked e is = tt
  job-answered replies from (RunCall call client host start body) asked e is =
      let (r, k, same, ends) = job-known (FromLogs S F K.submitted K.heard) replies from call client host start body e is in
      elim k [
        | inl one ↦ absurd (not-on-one K.submitted call client body asked (subst (λ c. IsOnOne K.submitted c) same one))
        | inr known ↦ subst (λ c. Replied S.logs S.words.deployment F c e) same (subst (Replied S.logs S.words.deployment F r.call) ends (known-replied r known))
      ]

-- ---- what it knows

-- Where nothing is decided, all that it knows is from logs.
pub undecided-logs : (S : LogState) (F : Firm) (A : Submissions) (t : ℕ) (work : Option Work) → ((x : Work) (o : Outcome) → work ≡ Some x → x.decision ≡ Some o → ⊥) → (replies : List LastReply)
    → AllByRecursion (KnownReply S F A t work) replies → AllByRecursion (FromLogs S F A t) replies
undecided-logs S F A t work none replies h = all-mono (KnownReply S F A t work) (FromLogs S F A t) (λ r k. elim k [ inl logs ↦ logs | inr (x, o, is, decision, own) ↦ absurd (none x o is decision) ]) replies h

-- The calls that wait for it, and the one at hand, were submitted.
abbrev pub JobsAsked : Submissions → Initiating → Type 0
JobsAsked A i = AllByRecursion (QueuedAsked A) i.queue × OnSome (WorkAsked A) i.work

-- ---- what it tells

abbrev Own : LogState → Firm → Ending
Own S F = Replied S.logs S.words.deployment F

module _ (M R : Ending) where
  client-tells : (a : AgentState) (call : ℕ) (e : End) → R call e → (o : Option ℕ) → AllTell M R (answers_client a call e o).sends
  client-tells a call e k None b = tt
  client-tells a call e k (Some n) b = all-if (Tells M R) (same (Client n) b) (open_letter (msg.Answer call e) ∷ []) [] (k, tt) tt

  pub reply-tells : (D : Deployment) (a : AgentState) (call : ℕ) (e : End) → R call e → AllTell M R (on_reply D a call e).sends
  reply-tells D a call e k = choice (is_down_in D a.decided)
    where
      choice : (c : Bool) → AllTell M R (if c then becomes a else answers_client a call e (client_of call a.pending)).sends
      choice true b = tt
      choice false b = client-tells a call e k (client_of call a.pending) b

pub answers-tell : (S : LogState) (F : Firm) (D : Deployment) (n : ℕ) (a : AgentState) (job : Job) (e : Option End) → AnswersJob S F job e → AllTell (Own S F) (Own S F) (answers D n a job e).sends
answers-tell S F D n a job None k = λ b. tt
answers-tell S F D n a TakeSnapshot (Some e) k = λ b. tt
answers-tell S F D n a (RunCall call client host start body) (Some e) k = choice (host == n && start == a.start)
  where
    choice : (c : Bool) → AllTell (Own S F) (Own S F) (if c then on_reply D a call e else sending a (only (Agent host) (letter_to start (msg.MpReply call e)))).sends
    choice true b = reply-tells (Own S F) (Own S F) D a call e k b
    choice false b = all-if (Tells (Own S F) (Own S F)) (same (Agent host) b) (letter_to start (msg.MpReply call e) ∷ []) [] (k, tt) tt
