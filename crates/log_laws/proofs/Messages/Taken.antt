-- A site takes the first message that another site sent it, or one that waited: what is under way to it then, and what holds.
use Rattle.log_laws.proofs.Names.{Bool, List, ap, false, refl, subst, sym, true, ◌≡◌, ◌++◌, ◌∷◌, ◌<◌, ◌==◌, [], ◌⊎◌, eqb-true, AllByRecursion, Option, Some, ◌&&◌, if◌then◌else◌, ℕ, Actor, Agent, Site, Letter, no_sends, same, SiteState, rest, took, took-all, sent-nothing, all-behind, and-false, eqb-same, BeginsAt, ForeignOk, LogsHold, IsSlot, LogState, SiteLetterOk, Streaming, between, end_of, stream_ends_in, flow, flow_of, line, line_in, site_start}
use Rattle.log_laws.proofs.Kept.{AsksLess, after_site, site_popped, Unentered, LessTo, SiteTakes, counts-on, same-counts, same-uncounts, takes-letters, uncounts-on, with-site, SiteGoesOn}
use Rattle.log_laws.proofs.Plain.{both-empty, if-empty, one-and-others}

module _ (S : LogState) (l i : ℕ) where
  -- the channels without that message
  abbrev pub without : Actor → Actor → List Letter
  without = took S.words.channel (Site l) (Site i)

  pub without-here : (x : Letter) (ls : List Letter) → between S l i ≡ x ∷ ls → without (Site l) (Site i) ≡ ls
  without-here x ls e = rw (eqb-same i, eqb-same l, e) refl

  pub without-from : (k : ℕ) → (k ≡ l → ⊥) → without (Site k) (Site i) ≡ between S k i
  without-from k n = choice (l == k) refl
    where
      choice : (b : Bool) → (l == k) ≡ b → (if i == i && b then rest (between S k i) else between S k i) ≡ between S k i
      choice true e = absurd (n (sym (eqb-true l k e)))
      choice false e = rw (and-false (i == i)) refl

  pub without-to : (a : Actor) (c : ℕ) → (c ≡ i → ⊥) → without a (Site c) ≡ S.words.channel a (Site c)
  without-to a c n = choice (i == c) refl
    where
      choice : (b : Bool) → (i == c) ≡ b → (if b && same (Site l) a then rest (S.words.channel a (Site c)) else S.words.channel a (Site c)) ≡ S.words.channel a (Site c)
      choice true e = absurd (n (sym (eqb-true i c e)))
      choice false e = refl

  without-agent : (h : ℕ) (b : Actor) → without (Agent h) b ≡ S.words.channel (Agent h) b
  without-agent h b = choice (same (Site i) b)
    where
      choice : (c : Bool) → (if c && false then rest (S.words.channel (Agent h) b) else S.words.channel (Agent h) b) ≡ S.words.channel (Agent h) b
      choice true = refl
      choice false = refl

  -- of what is under way to it, where the message and what is behind it are given
  pub without-each : (P : ℕ → List Letter → Type 0) (x : Letter) (ls : List Letter) → between S l i ≡ x ∷ ls → P l ls → ((k : ℕ) → (k ≡ l → ⊥) → P k (between S k i))
      → (k : ℕ) → P k (without (Site k) (Site i))
  without-each P x ls e here others = one-and-others (λ k. P k (without (Site k) (Site i))) l (subst (P l) (sym (without-here x ls e)) here) (λ k n. subst (P k) (sym (without-from k n)) (others k n))

-- ---- the first message of a channel

module _ (S : LogState) (H : LogsHold S) (l i : ℕ) (x : Letter) (ls : List Letter) (e : between S l i ≡ x ∷ ls) where
  -- without it less is under way
  pub first-less : line_in x.body ≡ [] → LessTo S i (without S l i)
  first-less plain = record {
    lines = λ k a t. without-each S l i (λ k ys. line a t ys ≡ line a t (between S k i)) x ls e
        (rw e (ap (λ z. z ++ line a t ls) (sym (if-empty _ _ plain)))) (λ k n. refl) k;
    flows = λ k a t. without-each S l i (λ k ys. flow a t (between S k i) ≡ [] → flow a t ys ≡ []) x ls e
        (rw e (λ none. (both-empty (flow_of a t x) (flow a t ls) none).1)) (λ k n none. none) k;
    ends = λ k a t. without-each S l i (λ k ys. stream_ends_in a t (between S k i) ≡ [] → stream_ends_in a t ys ≡ []) x ls e
        (rw e (λ none. (both-empty (end_of a t x) (stream_ends_in a t ls) none).1)) (λ k n none. none) k;
  }

  -- streams begin where they did
  pub first-begun : (k a t stream_start : ℕ) → AllByRecursion (BeginsAt stream_start) (flow a t (between S k i)) → AllByRecursion (BeginsAt stream_start) (flow a t (without S l i (Site k) (Site i)))
  first-begun k a t stream_start = without-each S l i (λ k ys. AllByRecursion (BeginsAt stream_start) (flow a t (between S k i)) → AllByRecursion (BeginsAt stream_start) (flow a t ys)) x ls e
      (rw e (all-behind (BeginsAt stream_start) (flow_of a t x) (flow a t ls))) (λ k n h. h) k

  pub first-foreign : (from : Actor) → AllByRecursion (ForeignOk S i from) (without S l i from (Site i))
  first-foreign from = took-all (ForeignOk S i from) S.words.channel (Site l) (Site i) from (Site i) (H.foreign from i)

  -- the site that took it
  module _ (s : SiteState) (g : SiteGoesOn (S.sites i) s) (st : ℕ → ℕ → Option Streaming) where
    pub first-takes : 0 < site_start S i → ((c t : ℕ) → (c ≡ i → ⊥) → st c t ≡ S.logs.streamed c t) → ((t : ℕ) (y : Streaming) → S.logs.streamed i t ≡ Some y → st i t ≡ Some y)
        → ((t : ℕ) (x : Streaming) → st i t ≡ Some x → (S.logs.streamed i t ≡ Some x) ⊎ Unentered S.logs i x.start)
        → AsksLess S (after_site (site_popped S (Site l) i) i s no_sends S.logs)
        → s.joiners ≡ (S.sites i).joiners → SiteTakes S i s (without S l i) S.pending st
    first-takes up streamed stays fresh asks joiners = record {
      up = up;
      goes = g;
      others = without-to S l i;
      agents = without-agent S l i;
      told = λ c h. refl;
      director = λ h. refl;
      pending = λ c n. refl;
      streamed = streamed;
      stays = stays;
      fresh = fresh;
      asks = subst (λ ch. AsksLess S (with-site S i s ch S.pending st)) (sent-nothing (without S l i) (Site i)) asks;
      counted = counts-on S i s (without S l i) S.pending st g (same-counts (S.sites i).joiners s.joiners joiners);
      uncounted = uncounts-on S i s (without S l i) S.pending st g (same-uncounts (S.sites i).joiners s.joiners joiners);
    }

    -- all that is under way to it may be
    pub first-letters : SiteTakes S i s (without S l i) S.pending st → ((t : ℕ) → st i t ≡ S.logs.streamed i t)
        → (k : ℕ) → IsSlot S i → AllByRecursion (SiteLetterOk (with-site S i s (without S l i) S.pending st) k i) (without S l i (Site k) (Site i))
    first-letters k streamed j slot = takes-letters S H i s (without S l i) S.pending st k streamed j (first-begun j)
        (without S l i (Site j) (Site i)) (took-all (SiteLetterOk S j i) S.words.channel (Site l) (Site i) (Site j) (Site i) (H.letters j i slot))
