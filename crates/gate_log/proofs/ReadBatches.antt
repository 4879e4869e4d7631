-- Batches that are read from the beginning of bytes.
use Rattle.std.proofs.Common.{◌≡◌, ℕ, ◌+◌, ◌-◌, ◌^◌, ◌<◌, eqb, List, [], ◌∷◌, ◌++◌, length, drop, Some, None, refl, sym, ap, ◌∙◌, append_assoc, append-nil, length-append, arith, eqb-true}
use Rattle.std.proofs.lemmas.List.{get_or-append-add, drop_at}
use Rattle.volt_base.specs.Reading.{body_at}
use Rattle.volt_base.proofs.Fields.{IsBytes, IsBytes-rest, body_takes}
use Rattle.gate_log.specs.Batches.{open_gate, batch_bytes, first_batch, batches, spelled, AllFit}
use Rattle.gate_log.proofs.Batches.{opened, batches-spelled, batches-none, spelled-append, AllFit-push}

pub IsBytes-behind : (prefix rest bytes : List ℕ) → bytes ≡ prefix ++ rest → IsBytes bytes → IsBytes rest
IsBytes-behind prefix rest bytes parts fits i =
    rw (← get_or-append-add prefix rest i 0) (rw parts at fits (length prefix + i))

pub first_batch-takes : (bytes body rest : List ℕ) → IsBytes bytes → first_batch bytes ≡ Some (body, rest) → (bytes ≡ batch_bytes body ++ rest) × (length body < 2 ^ 32)
first_batch-takes [] body rest fits e = absurd cc
first_batch-takes (gate ∷ bytes) body rest fits e =
    let is_open = opened (eqb gate open_gate) (body_at bytes) (body, rest) e in
    let takes = body_takes bytes body rest (IsBytes-rest gate bytes fits) is_open.1 in
    let same : gate ≡ open_gate = eqb-true gate open_gate is_open.0 in
    let parts = takes.0.parts in
    (rw (same, parts) refl, takes.1)

-- one more batch was read
abbrev pub IsRead : List ℕ → List ℕ → Type 0
IsRead bytes rest = (done : List (List ℕ)) × (bytes ≡ spelled done ++ rest) × AllFit done

pub IsRead-more : (bytes rest body behind : List ℕ) → IsBytes bytes → IsRead bytes rest → first_batch rest ≡ Some (body, behind) → IsRead bytes behind
IsRead-more bytes rest body behind fits read e =
    let takes = first_batch-takes rest body behind (IsBytes-behind (spelled read.0) rest bytes read.1 fits) e in
    let pushed : spelled (read.0 ++ body ∷ []) ≡ spelled read.0 ++ batch_bytes body =
    spelled-append read.0 (body ∷ []) ∙ ap (λ l. spelled read.0 ++ l) (append-nil (batch_bytes body)) in (
      read.0 ++ body ∷ [],
      read.1 ∙ (ap (λ l. spelled read.0 ++ l) takes.0 ∙ (sym (append_assoc (spelled read.0) (batch_bytes body) behind) ∙ ap (λ l. l ++ behind) (sym pushed))),
      AllFit-push read.0 body read.2 takes.1,
    )

-- no further batch was read
pub IsRead-all : (bytes rest : List ℕ) (read : IsRead bytes rest) → first_batch rest ≡ None → batches bytes ≡ read.0
IsRead-all bytes rest read e =
    ap batches read.1 ∙ (batches-spelled read.0 rest read.2 ∙ (ap (λ l. read.0 ++ l) (batches-none rest e) ∙ append-nil read.0))

pub IsRead-len : (bytes rest : List ℕ) (read : IsRead bytes rest) → first_batch rest ≡ None → length bytes - length rest ≡ length (spelled (batches bytes))
IsRead-len bytes rest read e =
    let len = ap length read.1 ∙ length-append (spelled read.0) rest in
    let all = ap (λ b. length (spelled b)) (IsRead-all bytes rest read e) in omega arith

pub IsRead-behind : (bytes rest : List ℕ) (read : IsRead bytes rest) → first_batch rest ≡ None → drop (length bytes - length rest) bytes ≡ rest
IsRead-behind bytes rest read e =
    let len = ap length read.1 ∙ length-append (spelled read.0) rest in
    let at : length (spelled read.0) ≡ length bytes - length rest = omega arith in
    ap (drop (length bytes - length rest)) read.1 ∙ drop_at (spelled read.0) rest (length bytes - length rest) at

pub IsRead-whole : (bytes rest : List ℕ) (read : IsRead bytes rest) → first_batch rest ≡ None → bytes ≡ spelled (batches bytes) ++ drop (length bytes - length rest) bytes
IsRead-whole bytes rest read e =
    let all = IsRead-all bytes rest read e in
    let behind = IsRead-behind bytes rest read e in
    read.1 ∙ (ap (λ b. spelled b ++ rest) (sym all) ∙ ap (λ l. spelled (batches bytes) ++ l) (sym behind))
