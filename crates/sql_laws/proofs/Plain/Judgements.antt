-- Each judgement is a fault and a value: `unless fault value`. What is made of such.
use Rattle.std.proofs.Common.{◌≡◌, List, [], ◌∷◌, map, Option, Some, None, Result, Ok, Err, sym, refl, ap, ◌∙◌}
use Rattle.std.specs.List.{filter_map}
use Rattle.sql_plan.specs.declared.fault.Fault.{Fault}
use Rattle.sql_meaning.specs.Judged.{with, least, fault_in, value_in, least_fault, unless, collected, both}
use Rattle.sql_laws.proofs.Plain.Faults.{least-assoc, least-comm, least-none, least-same}
use Rattle.sql_laws.proofs.Plain.Totals.{total}

abbrev pub value_or : {A : Type 0} → A → Result A Fault → A
value_or d (Ok x) = x
value_or d (Err f) = d

pub as_unless : {A : Type 0} (d : A) (r : Result A Fault) → r ≡ unless (fault_in r) (value_or d r)
as_unless d (Ok x) = refl
as_unless d (Err f) = refl

pub fault_in_unless : {A : Type 0} (f : Option Fault) (x : A) → fault_in (unless f x) ≡ f
fault_in_unless None x = refl
fault_in_unless (Some f) x = refl

-- the value counts only where there is no fault
pub unless_same : {A : Type 0} (f : Option Fault) (x y : A) → (f ≡ None → x ≡ y) → unless f x ≡ unless f y
unless_same None x y same = ap (λ z. Ok z) (same refl)
unless_same (Some f) x y same = refl

pub with_unless : {A B : Type 0} (f : Option Fault) (x : A) (h : A → B) → with (unless f x) (λ y. Ok (h y)) ≡ unless f (h x)
with_unless None x h = refl
with_unless (Some f) x h = refl

pub with_with : {A B C : Type 0} (r : Result A Fault) (g : A → Result B Fault) (h : B → Result C Fault) → with (with r g) h ≡ with r (λ x. with (g x) h)
with_with (Ok x) g h = refl
with_with (Err f) g h = refl

pub with_same : {A B : Type 0} (r : Result A Fault) (g h : A → Result B Fault) → ((x : A) → r ≡ Ok x → g x ≡ h x) → with r g ≡ with r h
with_same (Ok x) g h same = same x refl
with_same (Err f) g h same = refl

-- of two judgements one after the other the first fault counts
abbrev pub first_of : Option Fault → Option Fault → Option Fault
first_of None g = g
first_of (Some f) g = Some f

pub unless_unless : {A : Type 0} (f g : Option Fault) (x : A) → with (unless f x) (λ y. unless g y) ≡ unless (first_of f g) x
unless_unless None g x = refl
unless_unless (Some f) g x = refl

pub both_unless : {A B : Type 0} (d : B) (f : Option Fault) (x : A) (r : Result B Fault) → both (unless f x) r ≡ unless (least f (fault_in r)) (x, value_or d r)
both_unless d None x (Ok y) = refl
both_unless d None x (Err g) = refl
both_unless d (Some f) x (Ok y) = refl
both_unless d (Some f) x (Err g) = refl

-- ---- many judgements

abbrev pub all_least : {P : Type 0} → (P → Option Fault) → List P → Option Fault
all_least f ps = total least None f ps

pub least_fault-map : {P A : Type 0} (give : P → Result A Fault) (ps : List P) → least_fault (map give ps) ≡ all_least (λ p. fault_in (give p)) ps
least_fault-map give [] = refl
least_fault-map give (p ∷ ps) = ap (least (fault_in (give p))) (least_fault-map give ps)

none_first : (a b : Option Fault) → least a b ≡ None → a ≡ None
none_first None b e = refl
none_first (Some f) None e = absurd (cc)
none_first (Some f) (Some g) e = absurd (cc)

none_second : (a b : Option Fault) → least a b ≡ None → b ≡ None
none_second None b e = e
none_second (Some f) None e = absurd (cc)
none_second (Some f) (Some g) e = absurd (cc)

values_unless : {P B : Type 0} (f : P → Option Fault) (x : P → B) (ps : List P) → all_least f ps ≡ None → filter_map value_in (map (λ p. unless (f p) (x p)) ps) ≡ map x ps
values_unless f x [] e = refl
values_unless f x (p ∷ ps) e = rw (none_first (f p) (all_least f ps) e) (ap (λ (xs : List _). x p ∷ xs) (values_unless f x ps (none_second (f p) (all_least f ps) e)))

faults_unless : {P B : Type 0} (f : P → Option Fault) (x : P → B) (ps : List P) → least_fault (map (λ p. unless (f p) (x p)) ps) ≡ all_least f ps
faults_unless f x [] = refl
faults_unless f x (p ∷ ps) = λ i. least (fault_in_unless (f p) (x p) i) (faults_unless f x ps i)

pub collected_unless : {P B : Type 0} (f : P → Option Fault) (x : P → B) (ps : List P) → collected (map (λ p. unless (f p) (x p)) ps) ≡ unless (all_least f ps) (map x ps)
collected_unless f x ps =
    ap (λ a. unless a (filter_map value_in (map (λ p. unless (f p) (x p)) ps))) (faults_unless f x ps)
    ∙ unless_same (all_least f ps) (filter_map value_in (map (λ p. unless (f p) (x p)) ps)) (map x ps) (values_unless f x ps)

-- the same fault in each of some judgements besides their own
pub all_least-least : {P : Type 0} (f : P → Option Fault) (g : Option Fault) (p : P) (ps : List P) → all_least (λ q. least (f q) g) (p ∷ ps) ≡ least (all_least f (p ∷ ps)) g
all_least-least f g p [] = least-none (least (f p) g) ∙ ap (λ a. least a g) (sym (least-none (f p)))
all_least-least f g p (q ∷ qs) = ap (least (least (f p) g)) (all_least-least f g q qs) ∙ mixed (f p) g (all_least f (q ∷ qs))
  where
    mixed : (a b c : Option Fault) → least (least a b) (least c b) ≡ least (least a c) b
    mixed a b c =
        least-assoc a b (least c b) ∙ ap (least a) (sym (least-assoc b c b) ∙ ap (λ x. least x b) (least-comm b c) ∙ least-assoc c b b ∙ ap (least c) (least-same b)) ∙ sym (least-assoc a c b)
