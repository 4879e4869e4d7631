-- What is under way behind a turn: what was sent, and what was taken.
use Rattle.cluster_steps.proofs.Names.{◌≡◌, Bool, true, false, List, [], ◌∷◌, ◌++◌, append_assoc, refl, sym, subst, ap, ◌∙◌, ◌==◌, true≢false, arith, append-nil, and_parts, eqb-true, nat_tests, fun_ext, ℕ, ◌&&◌, if◌then◌else◌, AllByRecursion, Actor, Director, Agent, Deployment, is_host, same, Letter, Sends, open_letter, no_sends, took, sent, rest, stops_host, stops_all, RiseFrom, starts_in, start_in_letter, cond_both}
use Rattle.volt_wire.specs.declared.actor.Actor.TheVariants.{Client, Site, Scanner}
use Rattle.volt_wire.specs.declared.message.Msg.TheVariants as msg
use Rattle.cluster_steps.proofs.Lists.{all-append, all-if, all-rest, all-behind, rise-behind}

-- ---- channels behind a turn

-- of a channel of the agent that sent, and of another's
pub sent-both : (P : List Letter → Type 0) (ch : Actor → Actor → List Letter) (n : ℕ) (out : Sends) (h : ℕ) (b : Actor)
    → (n ≡ h → P (ch (Agent h) b ++ out b)) → ((n ≡ h → ⊥) → P (ch (Agent h) b)) → P (sent ch (Agent n) out (Agent h) b)
sent-both P ch n out h b here other = cond_both (n == h) _ _ P (λ q. here (eqb-true n h q)) (λ q. other (λ e. grind (arith, nat_tests, q, e)))

-- of each channel, where it is kept by what comes behind
pub sent-keep : (P : List Letter → Type 0) → ((xs ys : List Letter) → P xs → P (xs ++ ys)) → (ch : Actor → Actor → List Letter) (n : ℕ) (out : Sends) (h : ℕ) (b : Actor) → P (ch (Agent h) b) → P (sent ch (Agent n) out (Agent h) b)
sent-keep P more ch n out h b k = sent-both P ch n out h b (λ e. more (ch (Agent h) b) (out b) k) (λ d. k)

-- all of them, where nothing is sent, and where more is sent behind it
pub sent-nothing : (ch : Actor → Actor → List Letter) (from : Actor) → sent ch from no_sends ≡ ch
sent-nothing ch from = fun_ext (λ a. fun_ext (λ b. choice (same from a) a b))
  where
    choice : (c : Bool) (a b : Actor) → (if c then ch a b ++ [] else ch a b) ≡ ch a b
    choice true a b = append-nil (ch a b)
    choice false a b = refl

pub sent-twice : (ch : Actor → Actor → List Letter) (from : Actor) (out more : Sends) → sent (sent ch from out) from more ≡ sent ch from (λ x. out x ++ more x)
sent-twice ch from out more = fun_ext (λ x. fun_ext (λ y. letters (same from x) (ch x y) (out y) (more y)))
  where
    letters : (c : Bool) (xs ys zs : List Letter) → (if c then (if c then xs ++ ys else xs) ++ zs else (if c then xs ++ ys else xs)) ≡ (if c then xs ++ (ys ++ zs) else xs)
    letters true xs ys zs = append_assoc xs ys zs
    letters false xs ys zs = refl

-- ---- channels from which a message was taken

-- of the channel itself, and of others
pub taken-both : (P : List Letter → Type 0) (ch : Actor → Actor → List Letter) (k n h g : ℕ)
    → (k ≡ h → n ≡ g → P (rest (ch (Agent h) (Agent g)))) → P (ch (Agent h) (Agent g)) → P (took ch (Agent k) (Agent n) (Agent h) (Agent g))
taken-both P ch k n h g here other = cond_both (n == g && k == h) _ _ P
    (λ q. let e = and_parts (n == g) (k == h) q in here (eqb-true k h e.1) (eqb-true n g e.0)) (λ q. other)

pub took-all : (P : Letter → Type 0) (ch : Actor → Actor → List Letter) (from to a b : Actor) → AllByRecursion P (ch a b) → AllByRecursion P (took ch from to a b)
took-all P ch from to a b h = all-if P (same to b && same from a) (rest (ch a b)) (ch a b) (all-rest P (ch a b) h) h

-- the starts under way to a host
pub took-starts : (ch : Actor → Actor → List Letter) (k n h : ℕ) → starts_in (took ch (Agent k) (Agent n) Director (Agent h)) ≡ starts_in (ch Director (Agent h))
took-starts ch k n h = choice (n == h)
  where
    choice : (c : Bool) → starts_in (if c && false then rest (ch Director (Agent h)) else ch Director (Agent h)) ≡ starts_in (ch Director (Agent h))
    choice true = refl
    choice false = refl

-- ---- starts under way

-- those of messages and of others behind them
pub starts-append : (xs ys : List Letter) → starts_in (xs ++ ys) ≡ starts_in xs ++ starts_in ys
starts-append [] ys = refl
starts-append (x ∷ xs) ys = ap (λ zs. start_in_letter x ++ zs) (starts-append xs ys) ∙ sym (append_assoc (start_in_letter x) (starts_in xs) (starts_in ys))

-- where there are none
pub starts-if : (c : Bool) (xs : List Letter) → starts_in xs ≡ [] → starts_in (if c then xs else []) ≡ []
starts-if true xs h = h
starts-if false xs h = refl

-- the director's Stop isn't a Start
pub stops_all-starts : (D : Deployment) (last : ℕ → ℕ) (g : ℕ) → starts_in (stops_all D last (Agent g)) ≡ []
stops_all-starts D last g = starts-if (is_host D g) (stops_host D last g (Agent g)) (starts-if (g == g) (open_letter (msg.Stop (last g)) ∷ []) refl)

-- those that are left once a message was taken
pub starts-all : (P : ℕ → Type 0) (ch : Actor → Actor → List Letter) (from to : Actor) (g : ℕ) → AllByRecursion P (starts_in (ch Director (Agent g)))
    → AllByRecursion P (starts_in (took ch from to Director (Agent g)))
starts-all P ch from to g h = cond_both (same to (Agent g) && same from Director) _ _ (λ z. AllByRecursion P (starts_in z)) (λ _. left (ch Director (Agent g)) h) (λ _. h)
  where
    left : (ls : List Letter) → AllByRecursion P (starts_in ls) → AllByRecursion P (starts_in (rest ls))
    left [] h = h
    left (l ∷ ls) h = all-behind P (start_in_letter l) (starts_in ls) h

pub starts-rise : (ch : Actor → Actor → List Letter) (from to : Actor) (g : ℕ) → RiseFrom 0 (starts_in (ch Director (Agent g))) → RiseFrom 0 (starts_in (took ch from to Director (Agent g)))
starts-rise ch from to g h = cond_both (same to (Agent g) && same from Director) _ _ (λ z. RiseFrom 0 (starts_in z)) (λ _. left (ch Director (Agent g)) h) (λ _. h)
  where
    left : (ls : List Letter) → RiseFrom 0 (starts_in ls) → RiseFrom 0 (starts_in (rest ls))
    left [] h = h
    left (l ∷ ls) h = rise-behind 0 (start_in_letter l) (starts_in ls) h

-- ---- what holds of all that is under way

pub same-true : (a b : Actor) → same a b ≡ true → a ≡ b
same-true Director Director e = refl
same-true (Client a) (Client b) e = ap Client (eqb-true a b e)
same-true (Agent a) (Agent b) e = ap Agent (eqb-true a b e)
same-true (Site a) (Site b) e = ap Site (eqb-true a b e)
same-true (Scanner a) (Scanner b) e = ap Scanner (eqb-true a b e)
same-true a b e = absurd (true≢false (sym e))

-- behind a turn, where it holds of what was sent
pub sent-all : (P : Actor → Actor → Letter → Type 0) (ch : Actor → Actor → List Letter) (x : Actor) (out : Sends)
    → ((a b : Actor) → AllByRecursion (P a b) (ch a b)) → ((b : Actor) → AllByRecursion (P x b) (out b)) → (a b : Actor) → AllByRecursion (P a b) (sent ch x out a b)
sent-all P ch x out old new a b = cond_both (same x a) _ _ (AllByRecursion (P a b))
    (λ q. all-append (P a b) (ch a b) (out b) (old a b) (subst (λ y. AllByRecursion (P y b) (out b)) (same-true x a q) (new b))) (λ q. old a b)
