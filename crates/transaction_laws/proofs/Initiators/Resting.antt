-- Where all is over but for calls on one partition, the history may have it so: with what is over by then, and no outcome that is agreed.
use Rattle.transaction_laws.proofs.Names.{Aligned, Books, Database, Entry, Everywhere, Firm, HeardPart, IsPart, Leadership, List, LogState, None, OnlyCalls, Prefix, Some, Transactions, drop, length, since, stage, whole, ℕ, ◌≡◌, ◌≤◌}
use Rattle.transaction_laws.proofs.Entries.{calls-of, calls-no-end, AppliedInAll}

-- Of a partition: this prefix of its log is over and firm, and calls on one partition alone stand behind it.
pub record OverAt (E : Database) (S : LogState) (F : Firm) (K : Transactions) (p : ℕ) (prefix : List Entry) : Type 0 where
  pub stands : Prefix prefix (whole S K K.heard p)
  pub led : (g : Leadership) × (S.logs.leadership p K.heard ≡ Some g) × Prefix prefix g.log
  pub calls : OnlyCalls (drop (length prefix) (whole S K K.heard p))
  pub everywhere : Everywhere S F p K.heard (length prefix)
  pub over : (stage E p prefix).opened ≡ None

abbrev pub resting : Transactions → (ℕ → List Entry) → ℕ → Transactions
resting K closed number = record K { number = number; closed = closed; agreed = None }

module _ (E : Database) (S : LogState) (F : Firm) (K : Transactions) (now : ℕ) (B : Books E S F K now) (closed : ℕ → List Entry) (number : ℕ)
    (over : (p : ℕ) → IsPart S p → OverAt E S F K p (closed p)) (low : (p : ℕ) → IsPart S p → (stage E p (closed p)).number ≤ number)
    (even : AppliedInAll S.words.deployment closed) where
  aligned : Aligned E S.words.deployment now (resting K closed number) (whole S K K.heard)
  aligned = record {
    formed = B.heard.aligned.formed;
    past = B.heard.aligned.past;
    prefix = λ p part. (over p part).stands;
    over = λ p part. (over p part).over;
    below = low;
    only = λ p part. calls-of number (since (resting K closed number) (whole S K K.heard) p) (over p part).calls;
    fresh = λ p q part other _. (over q other).calls;
    ends = λ p part o i. absurd (calls-no-end (since (resting K closed number) (whole S K K.heard) p) number o (over p part).calls i);
    snapshot = λ p part is. absurd (cc);
    decided = λ p x part is. absurd (cc);
    agreed = λ x is. absurd (cc);
    even = even;
  }

  each : (p : ℕ) → IsPart S p → HeardPart S F (resting K closed number) p
  each p part = record {
    leadership = (over p part).led.0;
    led = (over p part).led.1;
    inside = (over p part).led.2;
    closed = (over p part).everywhere;
    decided = λ x is. absurd (cc);
    top = (B.heard.each p part).top;
  }

  pub resting-books : Books E S F (resting K closed number) now
  resting-books = record {
    due = B.due;
    leaderships = λ p t g part led. let r = B.leaderships p t g part led in record { formed = r.formed; past = r.past; unheard = r.unheard; calls = r.calls };
    heard = record { word = B.heard.word; is_word = B.heard.is_word; by = B.heard.by; each = each; aligned = aligned; ends = λ o is. absurd (cc) };
  }
