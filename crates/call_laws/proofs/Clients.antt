-- The turn of a client: it submits its calls of the input one after another, in their order.
use Rattle.std.proofs.Common.{◌≡◌, ◌<◌, Bool, true, false, List, [], ◌∷◌, ◌++◌, append-nil, refl, sym, subst, ap, ◌∙◌, inl, inr, ◌==◌, ◌+◌, arith}
use Rattle.std.proofs.lemmas.Bool.{eqb-true, eq-eqb}
use Rattle.std.proofs.lemmas.Bool.Decides.{nat_tests}
use Rattle.std.specs.Prelude.{ℕ, ◌≤◌, ◌&&◌, if◌then◌else◌, map, Option, Some, None, unwrap_or}
use Rattle.std.specs.List.{AllByRecursion}
use Rattle.volt_wire.specs.declared.actor.Actor.{Actor}
use Rattle.volt_wire.specs.declared.actor.Actor.TheVariants.{Director, Client, Agent, Site, Scanner}
use Rattle.volt_wire.specs.declared.end.End.{End}
use Rattle.volt_wire.specs.declared.end.End.TheVariants as end
use Rattle.volt_wire.specs.declared.message.Msg.TheVariants as msg
use Rattle.cluster_model.specs.Words.{Deployment}
use Rattle.cluster_model.specs.Letters.{Letter, Turn, becomes, open_letter, only, same}
use Rattle.cluster_model.specs.Laws.{RiseFrom}
use Rattle.cluster_model.specs.Client.{Due, Submitted, Ended, ClientState, target, call_of, ends, on_answer, asks_again, loses, without_agent, on_closed, client_takes}
use Rattle.cluster_model.specs.World.{Input, AskedFor, due}
use Rattle.cluster_steps.specs.Lists.{In, OnSome}
use Rattle.cluster_steps.proofs.Lists.{all-append, all-at, all-if, all-mono, if-true, in-right, rise-above, rise-lower}
use Rattle.call_laws.specs.Submissions.{numbered, pending_call, submitted_by, Submission, Submissions, IsAsked, AskedIn, EndedOk, PendingOk, ClientAsks}

-- ---- the calls of the input

-- Their numbers rise.
pub due-rises : (n first : ℕ) (cs : List AskedFor) → RiseFrom first (map (λ d. d.call) (due n first cs))
due-rises n first [] = tt
due-rises n first (c ∷ cs) = choice (due-rises n (first + 1) cs) (c.client == n)
  where
    choice : RiseFrom (first + 1) (map (λ d. d.call) (due n (first + 1) cs)) → (b : Bool) → RiseFrom first (map (λ d. d.call) (if b then record { call = first; part = c.part; body = c.body } ∷ due n (first + 1) cs else due n (first + 1) cs))
    choice later true = (omega arith, later)
    choice later false = rise-lower first (first + 1) _ (omega arith) later

due-above : (n first : ℕ) (cs : List AskedFor) (d : Due) → In d (due n first cs) → first ≤ d.call
due-above n first [] d i = absurd i
due-above n first (c ∷ cs) d i = choice (due-above n (first + 1) cs d) (c.client == n) i
  where
    choice : (In d (due n (first + 1) cs) → first + 1 ≤ d.call) → (b : Bool) → In d (if b then record { call = first; part = c.part; body = c.body } ∷ due n (first + 1) cs else due n (first + 1) cs) → first ≤ d.call
    choice later true (inl e) = let q = ap (λ x. x.call) e in omega (arith, q)
    choice later true (inr i) = omega (arith, later i)
    choice later false i = omega (arith, later i)

-- One that is due to a client is that client's call of this number.
pub due-numbered : (n first : ℕ) (cs : List AskedFor) (d : Due) → In d (due n first cs) → numbered d.call first cs ≡ Some (record { client = n; part = d.part; body = d.body })
due-numbered n first [] d i = absurd i
due-numbered n first (c ∷ cs) d i = choice (due-numbered n (first + 1) cs d) (c.client == n) refl i
  where
    Later : Type 0
    Later = In d (due n (first + 1) cs) → numbered d.call (first + 1) cs ≡ Some (record { client = n; part = d.part; body = d.body })

    later : Later → In d (due n (first + 1) cs) → (if d.call == first then Some c else numbered d.call (first + 1) cs) ≡ Some (record { client = n; part = d.part; body = d.body })
    later f i =
        let l = due-above n (first + 1) cs d i in
        let e : (d.call == first) ≡ false = grind (arith, nat_tests, l) in
        rw e (f i)

    choice : Later → (b : Bool) → (c.client == n) ≡ b → In d (if b then record { call = first; part = c.part; body = c.body } ∷ due n (first + 1) cs else due n (first + 1) cs)
        → (if d.call == first then Some c else numbered d.call (first + 1) cs) ≡ Some (record { client = n; part = d.part; body = d.body })
    choice f true q (inl e) =
        let here : (d.call == first) ≡ true = eq-eqb d.call first (sym (ap (λ x. x.call) e)) in
        let whose : c.client ≡ n = eqb-true c.client n q in
        rw here (ap (λ x. Some (record { client = x; part = c.part; body = c.body })) whose ∙ ap (λ x. Some (record { client = n; part = x.part; body = x.body })) e)
    choice f true q (inr i) = later f i
    choice f false q i = later f i

-- ---- numbers that rise

-- one behind another is greater
pub rises-past : (low : ℕ) (xs ys : List ℕ) (x y : ℕ) → RiseFrom low (xs ++ ys) → In x xs → In y ys → x < y
rises-past low [] ys x y r i j = absurd i
rises-past low (z ∷ xs) ys x y r (inl e) j =
    let above = all-at (λ v. z + 1 ≤ v) (xs ++ ys) (rise-above (z + 1) (xs ++ ys) r.1) y (in-right y xs ys j) in
    omega (arith, e, above)
rises-past low (z ∷ xs) ys x y r (inr i) j = rises-past (z + 1) xs ys x y r.1 i j

-- ---- a turn

map-append : (xs ys : List Ended) → map (λ e. e.call) (xs ++ ys) ≡ map (λ e. e.call) xs ++ map (λ e. e.call) ys
map-append [] ys = refl
map-append (x ∷ xs) ys = ap (λ zs. x.call ∷ zs) (map-append xs ys)

module _ (I : Input) (D : Deployment) (A : Submissions) (n : ℕ) where
  abbrev Good : ClientState → Type 0
  Good c = ClientAsks I A n c

  -- It has submitted the same calls, and asks for them alone.
  pub record Goes (c : ClientState) (t : Turn ClientState) : Type 0 where
    pub state : Good t.state
    pub same : submitted_by t.state ≡ submitted_by c
    pub sends : (b : Actor) → AllByRecursion (AskedIn D A (Client n) b) (t.sends b)

  stays : (c : ClientState) → Good c → Goes c (becomes c)
  stays c k = record { state = k; same = refl; sends = λ b. tt }

  call-sent : (to : Actor) (d : Due) (start : ℕ) → IsAsked A d.call n d.part d.body → (b : Actor) → AllByRecursion (AskedIn D A (Client n) b) (only to (open_letter (call_of d start)) b)
  call-sent to d start is b = all-if (AskedIn D A (Client n) b) (same to b) (open_letter (call_of d start) ∷ []) [] (is, tt) tt

  -- the pending call ends
  ends-goes : (stamp : ℕ) (c : ClientState) (p : Submitted) (e : End) → c.pending ≡ Some p → Good c → Goes c (becomes (ends stamp n c p e))
  ends-goes stamp c p e is k = record { state = record { order = ap (λ xs. xs ++ map (λ d. d.call) c.left) calls ∙ k.order; left = k.left; pending = tt; ended = all }; same = calls; sends = λ b. tt }
    where
      last : Ended
      last = record { call = p.due.call; client = n; submitted = p.at; ended = stamp; end = e }

      pending : PendingOk A n p
      pending = subst (OnSome (PendingOk A n)) is k.pending

      calls : submitted_by (ends stamp n c p e) ≡ submitted_by c
      calls =
          append-nil (map (λ x. x.call) (c.ended ++ last ∷ [])) ∙ map-append c.ended (last ∷ []) ∙ ap (λ o. map (λ x. x.call) c.ended ++ pending_call o) (sym is)

      all : AllByRecursion (EndedOk A n) (c.ended ++ last ∷ [])
      all = all-append (EndedOk A n) c.ended (last ∷ []) k.ended ((refl, (_, pending, refl, refl)), tt)

  again-goes : (stamp : ℕ) (c : ClientState) (p : Submitted) (o : Option ℕ) → c.pending ≡ Some p → Good c → Goes c (asks_again stamp n c p o)
  again-goes stamp c p None is k = ends-goes stamp c p end.Lost is k
  again-goes stamp c p (Some h) is k =
      let start = unwrap_or (c.known h) 0 in
      let pending : PendingOk A n p = subst (OnSome (PendingOk A n)) is k.pending in
      let calls : submitted_by (record c { present = h; pending = Some (record p { host = h; start = start }) }) ≡ submitted_by c = ap (λ o. map (λ x. x.call) c.ended ++ pending_call o) (sym is) in
      record {
        state = record { order = ap (λ xs. xs ++ map (λ d. d.call) c.left) calls ∙ k.order; left = k.left; pending = pending; ended = k.ended };
        same = calls;
        sends = call-sent (Agent h) p.due start (record { at = p.at; is = pending });
      }

  answer-goes : (stamp : ℕ) (c : ClientState) (o : Option Submitted) (call : ℕ) (e : End) → c.pending ≡ o → Good c → Goes c (becomes (on_answer stamp n c o call e))
  answer-goes stamp c None call e is k = stays c k
  answer-goes stamp c (Some p) call e is k = choice (p.due.call == call)
    where
      choice : (b : Bool) → Goes c (becomes (if b then ends stamp n c p e else c))
      choice true = ends-goes stamp c p e is k
      choice false = stays c k

  closed-goes : (stamp : ℕ) (c : ClientState) (host start : ℕ) → Good c → Goes c (on_closed D stamp n c host start)
  closed-goes stamp c host start k = go c.pending refl
    where
      d : ClientState
      d = record c { known = without_agent c.known host start }

      good : Good d
      good = record { order = k.order; left = k.left; pending = k.pending; ended = k.ended }

      here : (t : Turn ClientState) → Goes d t → Goes c t
      here t g = record { state = g.state; same = g.same; sends = g.sends }

      choice : (p : Submitted) → c.pending ≡ Some p → (b : Bool) → Goes d (if b then asks_again stamp n d p (target D d) else becomes d)
      choice p is true = again-goes stamp d p (target D d) is good
      choice p is false = stays d good

      go : (o : Option Submitted) → c.pending ≡ o → Goes c (loses D stamp n d o host start)
      go None is = here _ (stays d good)
      go (Some p) is = here _ (choice p is (p.host == host && p.start == start))

  -- What a message makes of a client.
  pub takes-goes : (stamp : ℕ) (c : ClientState) (from : Actor) (l : Letter) → Good c → Goes c (client_takes D stamp n c from l)
  takes-goes stamp c (Agent h) l k = elim l.body as (λ m. Goes c (client_takes D stamp n c (Agent h) (record l { body = m }))) [
    | msg.Answer call e ↦ answer-goes stamp c c.pending call e refl k
    | msg.Closed start ↦ closed-goes stamp c h start k
    | msg.Opened start ↦ record { state = record { order = k.order; left = k.left; pending = k.pending; ended = k.ended }; same = refl; sends = λ b. tt }
    | m ↦ stays c k
  ]
  takes-goes stamp c Director l k = stays c k
  takes-goes stamp c (Client m) l k = stays c k
  takes-goes stamp c (Site s) l k = stays c k
  takes-goes stamp c (Scanner s) l k = stays c k

-- ---- Submit

-- with one submission more
abbrev pub with_submission : Submissions → ℕ → Submission → Submissions
with_submission A call s other = if other == call then Some s else A other

pub submission-here : (A : Submissions) (call : ℕ) (s : Submission) → with_submission A call s call ≡ Some s
submission-here A call s = if-true (call == call) (Some s) (A call) (eq-eqb call call refl)

module _ (I : Input) (A B : Submissions) (more : (call : ℕ) (s : Submission) → A call ≡ Some s → B call ≡ Some s) where
  pub asked-more : (call client : ℕ) (part : Option ℕ) (body : List ℕ) → IsAsked A call client part body → IsAsked B call client part body
  asked-more call client part body k = record { at = k.at; is = more call _ k.is }

  ended-more : (n : ℕ) (e : Ended) → EndedOk A n e → EndedOk B n e
  ended-more n e k = (k.0, (k.1.0, more e.call k.1.0 k.1.1, k.1.2, k.1.3))

  pending-more : (n : ℕ) (o : Option Submitted) → OnSome (PendingOk A n) o → OnSome (PendingOk B n) o
  pending-more n None k = tt
  pending-more n (Some p) k = more p.due.call _ k

  -- A client that did nothing.
  pub client-more : (n : ℕ) (c : ClientState) → ClientAsks I A n c → ClientAsks I B n c
  client-more n c k = record { order = k.order; left = k.left; pending = pending-more n c.pending k.pending; ended = all-mono (EndedOk A n) (EndedOk B n) (ended-more n) c.ended k.ended }
