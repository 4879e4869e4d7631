-- Runs of bytes at the beginning of a text.
use Rattle.std.proofs.Common.{◌≡◌, ◌≤◌, ℕ, suc, ◌+◌, Bool, true, false, cond, List, [], ◌∷◌, length, take, drop, arith, refl}
use Rattle.std.proofs.lemmas.List.Sums.{prefix_len-drop_yes, prefix_len-drop_no, prefix_len-drop_all}
use Rattle.std.specs.List.{prefix_len, list_all}
use Rattle.volt_text.specs.Tokens.{begins}

pub ruleset runs = (prefix_len-drop_yes, prefix_len-drop_no, prefix_len-drop_all)

pub one_more : (n : ℕ) → 1 + n ≡ suc n
one_more n = omega arith

-- the first so many bytes of a text are the longest run at its beginning
pub record IsRun (p : ℕ → Bool) (text : List ℕ) (len : ℕ) : Type 0 where
  pub within : len ≤ length text
  pub all : list_all p (take len text) ≡ true
  pub stops : begins p (drop len text) ≡ false

run_more : (p : ℕ → Bool) (b : ℕ) (bs : List ℕ) (t : Bool) → p b ≡ t → IsRun p bs (prefix_len p bs) → IsRun p (b ∷ bs) (cond t (1 + prefix_len p bs) 0)
run_more p b bs true e h = rw one_more (record { within = omega (arith, h.within); all = rw e h.all; stops = h.stops })
run_more p b bs false e h = record { within = omega arith; all = refl; stops = e }

pub run : (p : ℕ → Bool) (text : List ℕ) → IsRun p text (prefix_len p text)
run p [] = record { within = omega arith; all = refl; stops = refl }
run p (b ∷ bs) = run_more p b bs (p b) refl (run p bs)
