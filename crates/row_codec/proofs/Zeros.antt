-- Zeros behind zeros.
use Rattle.std.proofs.Common.{◌≡◌, ℕ, ◌+◌, List, ◌++◌, ◌≤◌, replicate, take, ap, ◌∙◌, append_assoc}
use Rattle.std.proofs.lemmas.List.{replicate-append-replicate, take-replicate}

pub zeros_more : (bytes : List ℕ) (m n k : ℕ) → m + n ≡ k → (bytes ++ replicate m 0) ++ replicate n 0 ≡ bytes ++ replicate k 0
zeros_more bytes m n k e = append_assoc bytes (replicate m 0) (replicate n 0) ∙ ap (λ (zs : List ℕ). bytes ++ zs) (replicate-append-replicate m n 0 ∙ ap (λ c. replicate c 0) e)

-- a part of some zeros
pub take_zeros : (n : ℕ) → n ≤ 64 → take {A = ℕ} n (replicate 64 0) ≡ replicate n 0
take_zeros n few = take-replicate n 64 0 few
