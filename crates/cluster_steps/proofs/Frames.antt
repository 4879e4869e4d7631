-- What a small step of a site changes and says, where no law goes by it, and what it leaves of the joiners that are counted.
use Rattle.cluster_steps.proofs.Names.{◌≡◌, Bool, true, false, List, [], ◌∷◌, append_assoc, refl, ap, zero, suc, ◌==◌, fun_ext, ℕ, map, replicate, if◌then◌else◌, Option, Some, None, AllByRecursion, Actor, Agent, Msg, Blocks, Letter, Sends, Turn, ◌▸◌, letter_in, SiteState, Joiner, site_term, holds, holds_for, with_position, with_count, without_count, is_sent, cond_both}
use Rattle.volt_wire.specs.declared.message.Msg.TheVariants as msg

-- ---- what is sent

-- A message that says nothing of the log, and begins no stream: all but the answers, what an initiator is told, and StreamStart.
abbrev pub InertLetter : Letter → Type 0
InertLetter l = elim l.body as (λ _. Type 0) [
  | msg.StreamStart head ↦ ⊥
  | msg.Reply call start end ↦ ⊥
  | msg.FragDone m round partial ↦ ⊥
  | msg.Finished m ↦ ⊥
  | msg.MpState m is_open outcome replies ↦ ⊥
  | _ ↦ Unit {0}
]

abbrev pub InertSends : Sends → Type 0
InertSends out = (b : Actor) → AllByRecursion InertLetter (out b)

pub all-replicate : {A : Type 0} (P : A → Type 0) (n : ℕ) (x : A) → P x → AllByRecursion P (replicate n x)
all-replicate P zero x p = tt
all-replicate P (suc n) x p = (p, all-replicate P n x p)

-- One turn behind two is behind the second of them.
pub turn-assoc : {A : Type 0} (t : Turn A) (f g : A → Turn A) → t ▸ f ▸ g ≡ t ▸ (λ s. f s ▸ g)
turn-assoc t f g =
    let u = f t.state in let v = g u.state in
    ap (λ (out : Sends). record { state = v.state; sends = out }) (fun_ext (λ b. append_assoc (t.sends b) (u.sends b) (v.sends b)))

-- ---- what changes

-- the first site with the second one's floor, scans, those that ask to join or to see its tables, and what it has told: what no law goes by
abbrev pub with_rest : SiteState → SiteState → SiteState
with_rest s u = record s {
  floor = u.floor;
  has_told = u.has_told;
  asks = u.asks;
  scans = u.scans;
  scanning = u.scanning;
  looks = u.looks;
}

-- ---- the joiners that a leader counts

-- where their streams began
abbrev pub begins_at : List Joiner → List ℕ
begins_at js = map (λ j. j.stream_start) js

-- They are the same, but for what they acknowledged and whether all was sent to them.
pub record AlikeJoiners (js ks : List Joiner) : Type 0 where
  pub slots : map (λ j. j.slot) js ≡ map (λ j. j.slot) ks
  pub begins : begins_at js ≡ begins_at ks

-- One is the same, and has acknowledged as much.
pub record AlikeJoiner (j k : Joiner) : Type 0 where
  pub slot : j.slot ≡ k.slot
  pub stream_start : j.stream_start ≡ k.stream_start
  pub position : j.position ≡ k.position

pub map-field : (g : Joiner → ℕ) (f : Joiner → Joiner) → ((j : Joiner) → g (f j) ≡ g j) → (js : List Joiner) → map g (map f js) ≡ map g js
map-field g f e [] = refl
map-field g f e (j ∷ js) = rw (e j, map-field g f e js)

pub mapped-joiners : (f : Joiner → Joiner) → ((j : Joiner) → AlikeJoiner (f j) j) → (js : List Joiner) → AlikeJoiners (map f js) js
mapped-joiners f e js = record { slots = map-field (λ j. j.slot) f (λ j. (e j).slot) js; begins = map-field (λ j. j.stream_start) f (λ j. (e j).stream_start) js }

pub positioned : (slot position : ℕ) (js : List Joiner) → AlikeJoiners (map (with_position slot position) js) js
positioned slot position js = record {
  slots = map-field (λ j. j.slot) (with_position slot position) (λ j. slot-of j (j.slot == slot)) js;
  begins = map-field (λ j. j.stream_start) (with_position slot position) (λ j. begin-of j (j.slot == slot)) js;
}
  where
    slot-of : (j : Joiner) (b : Bool) → (if b then record j { position = position } else j).slot ≡ j.slot
    slot-of j true = refl
    slot-of j false = refl

    begin-of : (j : Joiner) (b : Bool) → (if b then record j { position = position } else j).stream_start ≡ j.stream_start
    begin-of j true = refl
    begin-of j false = refl

pub counted-alike : (slot count : ℕ) (j : Joiner) → AlikeJoiner (with_count slot count j) j
counted-alike slot count j = cond_both (j.slot == slot) _ _ (λ z. AlikeJoiner z j)
    (λ _. record { slot = refl; stream_start = refl; position = refl }) (λ _. record { slot = refl; stream_start = refl; position = refl })

pub uncounted-alike : (s : SiteState) (j : Joiner) → AlikeJoiner (without_count s j) j
uncounted-alike s j = cond_both (is_sent s j) _ _ (λ z. AlikeJoiner z j)
    (λ _. record { slot = refl; stream_start = refl; position = refl }) (λ _. record { slot = refl; stream_start = refl; position = refl })

-- ---- an answer that is held, where there is an initiator

pub holds_for-cases : (P : SiteState → Type 0) (s : SiteState) (o : Option (ℕ × ℕ)) (m : Msg Blocks) → P s
    → ((first : ℕ × ℕ) → P (holds s (Agent first.0) (letter_in (site_term s) first.1 m))) → P (holds_for s o m)
holds_for-cases P s None m none one = none
holds_for-cases P s (Some first) m none one = one first
