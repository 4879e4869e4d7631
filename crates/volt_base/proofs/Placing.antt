-- A reply that takes the place of an earlier one of its client.
use Rattle.std.proofs.Common.{◌≡◌, ℕ, zero, suc, ◌<◌, true, List, [], ◌∷◌, ◌++◌, length, take, drop, get_or, slice_set, refl, sym, ap, ◌∙◌, subst, arith}
use Rattle.std.specs.Prelude.{◌==◌, nat_lt}
use Rattle.volt_base.specs.declared.entry.LastReply.{LastReply}
use Rattle.volt_base.specs.Replies.{with_reply}

pub set_at : (xs : List LastReply) (n : ℕ) (r x y : LastReply) → n < length xs → x ≡ get_or xs n x → y ≡ get_or xs n y
    → (r.client == x.client) ≡ true → nat_lt y.call r.call ≡ true → slice_set xs n r ≡ take n xs ++ with_reply r (drop n xs)
set_at [] n r x y lt e f same less = absurd (omega (arith, lt))
set_at (z ∷ zs) zero r x y lt e f same less =
    let client : (r.client == z.client) ≡ true = ap (λ (w : LastReply). r.client == w.client) (sym e) ∙ same in
    let call : nat_lt z.call r.call ≡ true = ap (λ (w : LastReply). nat_lt w.call r.call) (sym f) ∙ less in
    rw (client, call) refl
set_at (z ∷ zs) (suc n) r x y lt e f same less = ap (λ (ws : List LastReply). z ∷ ws) (set_at zs n r x y (omega (arith, lt)) e f same less)
