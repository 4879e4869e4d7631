-- What a site of these laws answers to an initiator: its entry, and that this is firm.
use Rattle.transaction_laws.proofs.Names.{AllByRecursion, Answered, ClaimsFit, Database, Deployment, Entry, EntryAt, List, Prefix, SiteState, ToOrders, WaitsPlain, [], leads, refl, site_term, subst, true, ℕ, ◌++◌, ◌∷◌, ◌≡◌, ◌≤◌}

-- No round and no end waits for a term.
abbrev pub NoOrderWaits : SiteState → Type 0
NoOrderWaits s = AllByRecursion (λ x. WaitsPlain x.from x.letter) s.waiting

-- In this term the site of slot i leads, and this entry stands in its log at a position that it counted firm.
pub record AnswersFirm (D : Deployment) (i : ℕ) (u : SiteState) (term : ℕ) (e : Entry) : Type 0 where
  pub leads : leads D i u ≡ true
  pub term_is : term ≡ site_term u
  pub position : ℕ
  pub stands : EntryAt u.log position e
  pub firm : position ≤ u.firm

pub answers-firm : (D : Deployment) (i : ℕ) (u : SiteState) (P : List Entry → Entry → Type 0) (term : ℕ) (e : Entry) → term ≡ site_term u → (k : Answered D i u P)
    → k.stands.here.entry ≡ e → AnswersFirm D i u term e
answers-firm D i u P term e term_is k is = record {
  leads = k.leads;
  term_is = term_is;
  position = k.position;
  stands = record {
    prefix = k.stands.here.prefix;
    stands = subst (λ x. Prefix (k.stands.here.prefix ++ x ∷ []) u.log) is k.stands.here.stands;
    at = k.stands.at;
  };
  firm = k.firm;
}

-- What is claimed of rounds and ends is so as their answers are held.
pub orders-fit : (E : Database) (p : ℕ) → ClaimsFit E p ToOrders
orders-fit E p = record { call = λ log e call start point is. tt; round = λ log m round body. (body, refl); end = λ log m o. (o, refl) }
