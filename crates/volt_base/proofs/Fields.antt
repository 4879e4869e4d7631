-- A field that is read is the field that was written, and what was written is read again.
use Rattle.std.proofs.Common.{◌≡◌, ℕ, zero, suc, ◌+◌, ◌^◌, ◌<◌, ◌≤◌, Bool, true, false, cond, ltb, List, [], ◌∷◌, ◌++◌, length, get_or, take, drop, Option, Some, None, refl, sym, ap, subst, ◌∙◌, append_assoc, arith, inl, inr}
use Rattle.std.specs.Int.{Width, w16, w32, w64, byte_len, from_be_bytes, to_be_bytes}
use Rattle.std.proofs.lemmas.Bool.{cases_lt, ltb-false, le-ltb}
use Rattle.std.proofs.lemmas.List.{take_at, drop_at, take-append-drop, length-append, length-take, get_or-drop, get_or-take, get_or_past}
use Rattle.std.proofs.lemmas.Nat.{be_bytes_2, be_bytes_4, be_bytes_8, from_be_bytes-to_be_bytes_2, from_be_bytes-to_be_bytes_4, from_be_bytes-to_be_bytes_8}
use Rattle.volt_base.specs.Spelling.{body_bytes, mark_bytes, client_bytes, CallFits}
use Rattle.volt_base.specs.Reading.{◌>>=◌, number_at, body_at, mark_at, client_at, of_client_at}

abbrev pub IsBytes : List ℕ → Type 0
IsBytes bytes = (i : ℕ) → get_or bytes i 0 < 256

pub IsBytes-rest : (b : ℕ) (bytes : List ℕ) → IsBytes (b ∷ bytes) → IsBytes bytes
IsBytes-rest b bytes h i = h (suc i)

IsBytes-drop : (n : ℕ) (bytes : List ℕ) → IsBytes bytes → IsBytes (drop n bytes)
IsBytes-drop n bytes h i = rw get_or-drop (h (n + i))

IsBytes-take : (n : ℕ) (bytes : List ℕ) → IsBytes bytes → IsBytes (take n bytes)
IsBytes-take n bytes h i =
    elim (cases_lt i n) [
      | inl lt ↦ rw (get_or-take n bytes i 0 lt) (h i)
      | inr le ↦ rw (get_or_past (take n bytes) i 0 (omega (arith, length-take n bytes))) (omega arith)
    ]

-- the value of a step that did not fail
pub bind_some : {A B : Type 0} (r : Option A) (f : A → Option B) (y : B) → (r >>= f) ≡ Some y → (x : A) × (r ≡ Some x) × (f x ≡ Some y)
bind_some (Some x) f y e = (x, refl, e)
bind_some None f y e = absurd cc

-- a test that did not fail
guard_some : {A : Type 0} (b : Bool) (x y : A) → cond b None (Some x) ≡ Some y → (b ≡ false) × (x ≡ y)
guard_some true x y e = absurd cc
guard_some false x y e = (refl, cc)

abbrev just : {A : Type 0} → A → Option A
just x = Some x

pub some_is : {A : Type 0} (x y : A) → just x ≡ just y → x ≡ y
some_is x y e = cc

-- what a reader took from the beginning
pub record Takes (bytes text rest : List ℕ) : Type 0 where
  pub parts : bytes ≡ text ++ rest
  pub rest_fits : IsBytes rest

pub Takes-then : (a x b y c : List ℕ) → Takes a x b → Takes b y c → Takes a (x ++ y) c
Takes-then a x b y c p q = record { parts = p.parts ∙ ap (λ (t : List ℕ). x ++ t) q.parts ∙ sym (append_assoc x y c); rest_fits = q.rest_fits }

-- ---- numbers

pub record IsWide (w : Width) (limit : ℕ) : Type 0 where
  pub len : (n : ℕ) → length (to_be_bytes w n) ≡ byte_len w
  pub back : (bytes : List ℕ) → length bytes ≡ byte_len w → IsBytes bytes → to_be_bytes w (from_be_bytes w bytes) ≡ bytes
  pub again : (n : ℕ) → n < limit → from_be_bytes w (to_be_bytes w n) ≡ n
  pub below : (bytes : List ℕ) → IsBytes bytes → from_be_bytes w bytes < limit

pub wide16 : IsWide w16 (2 ^ 16)
wide16 = record {
  len = λ n. refl;
  back = λ bytes len fits. be_bytes_2 bytes _ len fits refl;
  again = λ n lt. from_be_bytes-to_be_bytes_2 n lt;
  below = λ bytes fits. omega (arith, fits 0, fits 1);
}

pub wide32 : IsWide w32 (2 ^ 32)
wide32 = record {
  len = λ n. refl;
  back = λ bytes len fits. be_bytes_4 bytes _ len fits refl;
  again = λ n lt. from_be_bytes-to_be_bytes_4 n lt;
  below = λ bytes fits. omega (arith, fits 0, fits 1, fits 2, fits 3);
}

pub wide64 : IsWide w64 (2 ^ 64)
wide64 = record {
  len = λ n. refl;
  back = λ bytes len fits. be_bytes_8 bytes _ len fits refl;
  again = λ n lt. from_be_bytes-to_be_bytes_8 n lt;
  below = λ bytes fits. omega (arith, fits 0, fits 1, fits 2, fits 3, fits 4, fits 5, fits 6, fits 7);
}

pub number_takes : (w : Width) (limit : ℕ) (wide : IsWide w limit) (bytes : List ℕ) (n : ℕ) (rest : List ℕ) → IsBytes bytes → number_at w bytes ≡ Some (n, rest) → Takes bytes (to_be_bytes w n) rest × (n < limit)
number_takes w limit wide bytes n rest fits e =
    let g = guard_some (ltb (length bytes) (byte_len w)) (from_be_bytes w (take (byte_len w) bytes), drop (byte_len w) bytes) (n, rest) e in
    let long : byte_len w ≤ length bytes = ltb-false _ _ g.0 in
    let n-is : from_be_bytes w (take (byte_len w) bytes) ≡ n = ap (λ (p : ℕ × List ℕ). p.0) g.1 in
    let rest-is : drop (byte_len w) bytes ≡ rest = ap (λ (p : ℕ × List ℕ). p.1) g.1 in
    let prefix : to_be_bytes w n ≡ take (byte_len w) bytes = rw (← n-is) (wide.back (take (byte_len w) bytes) (omega (arith, length-take (byte_len w) bytes)) (IsBytes-take (byte_len w) bytes fits)) in
    (record { parts = rw (prefix, ← rest-is) (sym (take-append-drop (byte_len w) bytes)); rest_fits = rw (← rest-is) (IsBytes-drop (byte_len w) bytes fits) }, rw (← n-is) (wide.below (take (byte_len w) bytes) (IsBytes-take (byte_len w) bytes fits)))

pub number_again : (w : Width) (limit : ℕ) (wide : IsWide w limit) (n : ℕ) (rest : List ℕ) → n < limit → number_at w (to_be_bytes w n ++ rest) ≡ Some (n, rest)
number_again w limit wide n rest lt =
    let len = wide.len n in
    let long : ltb (length (to_be_bytes w n ++ rest)) (byte_len w) ≡ false = le-ltb _ _ (omega (arith, length-append (to_be_bytes w n) rest)) in
    rw (long, take_at (to_be_bytes w n) rest (byte_len w) len, drop_at (to_be_bytes w n) rest (byte_len w) len, wide.again n lt) refl

-- ---- bodies

pub body_takes : (bytes body rest : List ℕ) → IsBytes bytes → body_at bytes ≡ Some (body, rest) → Takes bytes (body_bytes body) rest × (length body < 2 ^ 32)
unfolding body_at body_bytes
body_takes bytes body rest fits e =
    let b = bind_some (number_at w32 bytes) (λ n. cond (ltb (length n.1) n.0) None (Some (take n.0 n.1, drop n.0 n.1))) (body, rest) e in
    let n = b.0 in
    let t = number_takes w32 (2 ^ 32) wide32 bytes n.0 n.1 fits b.1 in
    let g = guard_some (ltb (length n.1) n.0) (take n.0 n.1, drop n.0 n.1) (body, rest) b.2 in
    let long : n.0 ≤ length n.1 = ltb-false _ _ g.0 in
    let len : length (take n.0 n.1) ≡ n.0 = omega (arith, length-take n.0 n.1) in
    let second : Takes n.1 (take n.0 n.1) (drop n.0 n.1) = record { parts = sym (take-append-drop n.0 n.1); rest_fits = IsBytes-drop n.0 n.1 t.0.rest_fits } in
    let both = Takes-then bytes (to_be_bytes w32 n.0) n.1 (take n.0 n.1) (drop n.0 n.1) t.0 second in
    let whole : Takes bytes (body_bytes (take n.0 n.1)) (drop n.0 n.1) = subst (λ (k : ℕ). Takes bytes (to_be_bytes w32 k ++ take n.0 n.1) (drop n.0 n.1)) (sym len) both in
    subst (λ (p : List ℕ × List ℕ). Takes bytes (body_bytes p.0) p.1 × (length p.0 < 2 ^ 32)) g.1 (whole, omega (arith, t.1))

pub body_again : (body rest : List ℕ) → length body < 2 ^ 32 → body_at (body_bytes body ++ rest) ≡ Some (body, rest)
unfolding body_at body_bytes
body_again body rest lt =
    let long : ltb (length (body ++ rest)) (length body) ≡ false = le-ltb _ _ (omega (arith, length-append body rest)) in
    rw (number_again w32 (2 ^ 32) wide32 (length body) (body ++ rest) lt, long, take_at body rest (length body) refl, drop_at body rest (length body) refl) refl

-- ---- calls and their points

-- the kind of what was taken stands before it
pub with_kind : (kind : ℕ) (bytes text rest : List ℕ) → Takes bytes text rest → Takes (kind ∷ bytes) (kind ∷ text) rest
with_kind kind bytes text rest t = record { parts = ap (λ (x : List ℕ). kind ∷ x) t.parts; rest_fits = t.rest_fits }

abbrev pub Mark : Type 0
Mark = ℕ × ℕ × List ℕ

pub mark_takes : (kind : ℕ) (bytes : List ℕ) (x : Mark) → IsBytes bytes → mark_at bytes ≡ Some x → Takes (kind ∷ bytes) (mark_bytes kind x.0 x.1) x.2 × (x.0 < 2 ^ 32) × (x.1 < 2 ^ 64)
unfolding mark_at mark_bytes
mark_takes kind bytes x fits e =
    let a = bind_some (number_at w32 bytes) (λ call. number_at w64 call.1 >>= λ point. Some (call.0, point.0, point.1)) x e in
    let b = bind_some (number_at w64 a.0.1) (λ point. Some (a.0.0, point.0, point.1)) x a.2 in
    let t0 = number_takes w32 (2 ^ 32) wide32 bytes a.0.0 a.0.1 fits a.1 in
    let t1 = number_takes w64 (2 ^ 64) wide64 a.0.1 b.0.0 b.0.1 t0.0.rest_fits b.1 in
    let both = Takes-then bytes (to_be_bytes w32 a.0.0) a.0.1 (to_be_bytes w64 b.0.0) b.0.1 t0.0 t1.0 in
    let made : Mark = (a.0.0, b.0.0, b.0.1) in
    subst (λ (y : Mark). Takes (kind ∷ bytes) (mark_bytes kind y.0 y.1) y.2 × (y.0 < 2 ^ 32) × (y.1 < 2 ^ 64)) {x = made} (some_is made x b.2)
    (with_kind kind bytes (to_be_bytes w32 a.0.0 ++ to_be_bytes w64 b.0.0) b.0.1 both, t0.1, t1.1)

pub mark_again : (call point : ℕ) (rest : List ℕ) → call < 2 ^ 32 → point < 2 ^ 64 → mark_at ((to_be_bytes w32 call ++ to_be_bytes w64 point) ++ rest) ≡ Some (call, point, rest)
unfolding mark_at
mark_again call point rest c p =
    ap mark_at (append_assoc (to_be_bytes w32 call) (to_be_bytes w64 point) rest)
    ∙ rw (number_again w32 (2 ^ 32) wide32 call (to_be_bytes w64 point ++ rest) c, number_again w64 (2 ^ 64) wide64 point rest p) refl

abbrev pub OfClient : Type 0
OfClient = ℕ × ℕ × ℕ × List ℕ × List ℕ

-- what was read of a client's call
pub record ClientTakes (kind : ℕ) (bytes : List ℕ) (x : OfClient) : Type 0 where
  pub takes : Takes (kind ∷ bytes) (client_bytes kind x.0 x.1 x.2 x.3) x.4
  pub call : CallFits x.0 x.1 x.2
  pub some : 0 < x.1
  pub short : length x.3 < 2 ^ 32

client_takes : (bytes : List ℕ) (client : ℕ) (rest : List ℕ) → IsBytes bytes → client_at bytes ≡ Some (client, rest) → Takes bytes (client ∷ []) rest × (client < 2 ^ 8) × (0 < client)
client_takes [] client rest fits e = absurd cc
client_takes (zero ∷ bytes) client rest fits e = absurd cc
client_takes (suc n ∷ bytes) client rest fits e =
    let is = some_is (suc n, bytes) (client, rest) e in
    subst (λ (y : ℕ × List ℕ). Takes (suc n ∷ bytes) (y.0 ∷ []) y.1 × (y.0 < 2 ^ 8) × (0 < y.0)) {x = (suc n, bytes)} is
    (record { parts = refl; rest_fits = IsBytes-rest (suc n) bytes fits }, omega (arith, fits 0), omega arith)

pub of_client_takes : (kind : ℕ) (bytes : List ℕ) (x : OfClient) → IsBytes bytes → of_client_at bytes ≡ Some x → ClientTakes kind bytes x
unfolding of_client_at client_bytes
of_client_takes kind bytes x fits e =
    let a = bind_some (number_at w32 bytes) (λ call. client_at call.1 >>= λ client. number_at w64 client.1 >>= λ point. body_at point.1 >>= λ body. Some (call.0, client.0, point.0, body.0, body.1)) x e in
    let b = bind_some (client_at a.0.1) (λ client. number_at w64 client.1 >>= λ point. body_at point.1 >>= λ body. Some (a.0.0, client.0, point.0, body.0, body.1)) x a.2 in
    let c = bind_some (number_at w64 b.0.1) (λ point. body_at point.1 >>= λ body. Some (a.0.0, b.0.0, point.0, body.0, body.1)) x b.2 in
    let d = bind_some (body_at c.0.1) (λ body. Some (a.0.0, b.0.0, c.0.0, body.0, body.1)) x c.2 in
    let t0 = number_takes w32 (2 ^ 32) wide32 bytes a.0.0 a.0.1 fits a.1 in
    let t1 = client_takes a.0.1 b.0.0 b.0.1 t0.0.rest_fits b.1 in
    let t2 = number_takes w64 (2 ^ 64) wide64 b.0.1 c.0.0 c.0.1 t1.0.rest_fits c.1 in
    let t3 = body_takes c.0.1 d.0.0 d.0.1 t2.0.rest_fits d.1 in
    let e23 = Takes-then b.0.1 (to_be_bytes w64 c.0.0) c.0.1 (body_bytes d.0.0) d.0.1 t2.0 t3.0 in
    let e13 = Takes-then a.0.1 (b.0.0 ∷ []) b.0.1 (to_be_bytes w64 c.0.0 ++ body_bytes d.0.0) d.0.1 t1.0 e23 in
    let e03 = Takes-then bytes (to_be_bytes w32 a.0.0) a.0.1 (b.0.0 ∷ (to_be_bytes w64 c.0.0 ++ body_bytes d.0.0)) d.0.1 t0.0 e13 in
    let made : OfClient = (a.0.0, b.0.0, c.0.0, d.0.0, d.0.1) in
    subst (λ (y : OfClient). ClientTakes kind bytes y) {x = made} (some_is made x d.2) (record {
      takes = with_kind kind bytes (to_be_bytes w32 a.0.0 ++ b.0.0 ∷ (to_be_bytes w64 c.0.0 ++ body_bytes d.0.0)) d.0.1 e03;
      call = (t0.1, t1.1, t2.1);
      some = t1.2;
      short = t3.1;
    })

-- behind its kind, what was written is read again
abbrev pub client_rest : ℕ → ℕ → ℕ → List ℕ → List ℕ
client_rest call client point bytes = to_be_bytes w32 call ++ client ∷ (to_be_bytes w64 point ++ body_bytes bytes)

client_again : (n : ℕ) (rest : List ℕ) → 0 < n → client_at (n ∷ rest) ≡ Some (n, rest)
client_again zero rest some = absurd (omega (arith, some))
client_again (suc n) rest some = refl

client_parts : (a : List ℕ) (client : ℕ) (b c rest : List ℕ) → (a ++ client ∷ (b ++ c)) ++ rest ≡ a ++ (client ∷ (b ++ (c ++ rest)))
client_parts a client b c rest = append_assoc a (client ∷ (b ++ c)) rest ∙ ap (λ (t : List ℕ). a ++ (client ∷ t)) (append_assoc b c rest)

pub of_client_again : (call client point : ℕ) (bytes rest : List ℕ) → CallFits call client point → 0 < client → length bytes < 2 ^ 32
    → of_client_at (client_rest call client point bytes ++ rest) ≡ Some (call, client, point, bytes, rest)
unfolding of_client_at
of_client_again call client point bytes rest fits some short =
    ap of_client_at (client_parts (to_be_bytes w32 call) client (to_be_bytes w64 point) (body_bytes bytes) rest)
    ∙ rw (
      number_again w32 (2 ^ 32) wide32 call (client ∷ (to_be_bytes w64 point ++ (body_bytes bytes ++ rest))) fits.0,
      client_again client (to_be_bytes w64 point ++ (body_bytes bytes ++ rest)) some,
      number_again w64 (2 ^ 64) wide64 point (body_bytes bytes ++ rest) fits.2,
      body_again bytes rest short,
    ) refl

-- what is written piece by piece
pub client_joined : (out : List ℕ) (kind : ℕ) (a : List ℕ) (client : ℕ) (b : List ℕ)
    → (out ++ kind ∷ (a ++ client ∷ [])) ++ b ≡ out ++ kind ∷ (a ++ client ∷ b)
client_joined out kind a client b = simp append_assoc
