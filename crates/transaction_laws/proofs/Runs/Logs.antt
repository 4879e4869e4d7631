-- The log of each site is a prefix of the log of a term's leader.
use Rattle.transaction_laws.proofs.Names.{Joining, Leadership, LogState, LogsHold, Membership, None, Option, Prefix, Some, StreamIn, Streamed, ViewIn, [], ap, append_assoc, arith, base-least, cases_eq, epoch_base, inl, inr, log_at, member-behind, part, prefix-none, refl, site_start, subst, sym, term_at, term_in, term_of, ℕ, ◌++◌, ◌<◌, ◌∙◌, ◌≡◌}

-- Of a slot's log: its partition's leader had it, in some term.
pub record LedLog (S : LogState) (c : ℕ) : Type 0 where
  pub term : ℕ
  pub leadership : Leadership
  pub is_led : S.logs.leadership (part S c) term ≡ Some leadership
  pub prefix : Prefix (log_at S c) leadership.log

module _ (S : LogState) (H : LogsHold S) (c : ℕ) where
  empty-led : log_at S c ≡ [] → LedLog S c
  empty-led e = let f = H.first (part S c) in record {
    term = epoch_base S;
    leadership = f.0;
    is_led = f.1;
    prefix = subst (λ l. Prefix l f.0.log) (sym e) (prefix-none f.0.log);
  }

  member-led : 0 < site_start S c → (S.sites c).joining ≡ None → LedLog S c
  member-led up joins =
      let m = (H.sites c).member up joins in
      let f = H.first (part S c) in
      let low = base-least S H m.0 m.2.decided in
      let term : term_at S c ≡ term_of m.0 = ap term_in m.1 in
      let k = member-behind S H c (epoch_base S) f.0 f.1 up joins (omega (arith, low, term)) in
      record { term = k.term; leadership = k.later; is_led = k.led; prefix = k.prefix }

  joiner-led : (j : Joining) → (S.sites c).joining ≡ Some j → LedLog S c
  joiner-led j joins = seen (S.sites c).view ((H.sites c).joiner j joins).view
    where
      streamed : (w : Membership) (o : Option Streamed) → StreamIn S c w j o → LedLog S c
      streamed w None k = empty-led k.empty
      streamed w (Some st) k = record {
        term = term_of w;
        leadership = k.leadership;
        is_led = k.led;
        prefix = (j.tasks ++ k.more, sym k.whole ∙ append_assoc (log_at S c) j.tasks k.more);
      }

      seen : (o : Option Membership) → ViewIn S c j o → LedLog S c
      seen None k = empty-led k.empty
      seen (Some w) k = streamed w j.stream k.stream

  pub log-led : (site_start S c ≡ 0 → log_at S c ≡ []) → LedLog S c
  log-led blank = elim (cases_eq (site_start S c) 0) [ inl z ↦ empty-led (blank z) | inr n ↦ choice (omega (arith, n)) (S.sites c).joining refl ]
    where
      choice : 0 < site_start S c → (o : Option Joining) → (S.sites c).joining ≡ o → LedLog S c
      choice up None e = member-led up e
      choice up (Some j) e = joiner-led j e
