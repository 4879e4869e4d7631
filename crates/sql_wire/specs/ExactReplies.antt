-- The reader of replies is exact.
use Rattle.std.proofs.Common.{◌≡◌, ℕ, zero, suc, ◌==◌, ◌^◌, ◌<◌, lit<, Bool, true, false, cond, List, [], ◌∷◌, ◌++◌, find, Option, Some, None, refl, sym, ap, subst, ◌∙◌}
use Rattle.std.proofs.lemmas.Bool.{eqb-true}
use Rattle.std.proofs.lemmas.Option.{none-some}
use Rattle.volt_base.proofs.Fields.{some_is}
use Rattle.byte_codec.specs.Readers.{byte_at, as_at, list_at, list_bytes}
use Rattle.byte_codec.specs.Exactness.{AreBytes, Taken, Exact, FitsIn}
use Rattle.byte_codec.proofs.ExactReaders.{IsBelow, Stands, one_byte, byte_exact, as_exact, list_exact, kind_takes, of_kind, bare_kind, mapped_again}
use Rattle.volt_value.specs.declared.value.Value.{Value}
use Rattle.volt_value.specs.declared.value.Value.TheVariants.{Null, Int, Text}
use Rattle.volt_value.specs.Values.{IsValue}
use Rattle.volt_value.specs.Spelling.{value_bytes}
use Rattle.sql_meaning.specs.Replies.{row_bytes, reply_bytes}
use Rattle.sql_plan.specs.Faults.{all_faults, code_of, fault_of}
use Rattle.sql_plan.specs.Rows.{Cells}
use Rattle.sql_plan.specs.declared.fault.Fault.{Fault}
use Rattle.sql_plan.specs.declared.fault.Fault.TheVariants.{Overflow, DivideByZero, NullInColumn, OutOfRange, TooLong, WrongPartition, Duplicate, TooManyRows}
use Rattle.sql_plan.specs.declared.reply.Cause.{Cause}
use Rattle.sql_plan.specs.declared.reply.Cause.TheVariants as cause
use Rattle.sql_plan.specs.declared.reply.ProcReply.{ProcReply}
use Rattle.sql_plan.specs.declared.reply.ProcReply.TheVariants as reply
use Rattle.sql_wire.specs.Reading.{one_value_at, row_at, text_of, text_at, fault_at, returned, aborted_by_user, aborted_by_fault, reply_at}
use Rattle.sql_wire.specs.Spelled.{RowFits, ReplyFits}
use Rattle.sql_wire.specs.ExactValues.{value_exact, row_exact}

-- ---- texts and faults

abbrev IsTextValue : List ℕ → Type 0
IsTextValue t = IsValue (Text t)

abbrev text_bytes : List ℕ → List ℕ
text_bytes t = value_bytes (Text t)

text_signs : (a : Value) (t : List ℕ) → IsValue a → AreBytes (value_bytes a) → text_of a ≡ Some t → (a ≡ Text t) × IsTextValue t
text_signs Null t fits bytes e = absurd (none-some t e)
text_signs (Int z) t fits bytes e = absurd (none-some t e)
text_signs (Text u) t fits bytes e = let same = some_is u t e in (ap (λ (x : List ℕ). Text x) same, subst (λ (x : List ℕ). IsTextValue x) same fits)

text_exact : Exact text_at text_bytes IsTextValue
unfolding text_at
text_exact = as_exact text_of (λ t. Text t) one_value_at value_bytes IsValue IsTextValue value_exact (record { signs = text_signs; means = λ t fits. (refl, fits) })

abbrev pub IsFault : Fault → Type 0
IsFault fault = Unit {0}

-- what was found is what was looked for
found_if : (test : Bool) (x y : Fault) (others : Option Fault) (p : Fault → Bool) → p x ≡ test → cond test (Some x) others ≡ Some y → (others ≡ Some y → p y ≡ true) → p y ≡ true
found_if true x y others p is e more = subst (λ (z : Fault). p z ≡ true) (some_is x y e) is
found_if false x y others p is e more = more e

found_is : (p : Fault → Bool) (faults : List Fault) (y : Fault) → find p faults ≡ Some y → p y ≡ true
found_is p [] y e = absurd (none-some y e)
found_is p (x ∷ faults) y e = found_if (p x) x y (find p faults) p refl e (λ r. found_is p faults y r)

code_is : (n : ℕ) (f : Fault) → fault_of n ≡ Some f → n ≡ code_of f
code_is n f e = sym (eqb-true (code_of f) n (found_is (λ fault. code_of fault == n) all_faults f e))

fault_again : (f : Fault) → (fault_of (code_of f) ≡ Some f) × (code_of f < 2 ^ 8)
fault_again Overflow = (refl, lit< tt)
fault_again DivideByZero = (refl, lit< tt)
fault_again NullInColumn = (refl, lit< tt)
fault_again OutOfRange = (refl, lit< tt)
fault_again TooLong = (refl, lit< tt)
fault_again WrongPartition = (refl, lit< tt)
fault_again Duplicate = (refl, lit< tt)
fault_again TooManyRows = (refl, lit< tt)

pub fault_exact : Exact fault_at (λ fault. one_byte (code_of fault)) IsFault
unfolding fault_at
fault_exact =
    as_exact fault_of code_of byte_at one_byte (IsBelow (2 ^ 8)) IsFault byte_exact
    (record { signs = λ n f fits bytes e. (code_is n f e, tt); means = λ f fits. fault_again f })

-- ---- replies

abbrev RowsFit : List Cells → Type 0
RowsFit rows = FitsIn (2 ^ 32) RowFits rows

rows_exact : Exact (list_at row_at) (list_bytes row_bytes) RowsFit
rows_exact = list_exact row_at row_bytes RowFits row_exact

abbrev Takes : List ℕ → ProcReply × List ℕ → Type 0
Takes bytes x = Taken reply_bytes ReplyFits bytes x

reply_takes : (bytes : List ℕ) (x : ProcReply × List ℕ) → AreBytes bytes → reply_at bytes ≡ Some x → Takes bytes x
unfolding reply_at
reply_takes [] x fits e = absurd (none-some x e)
reply_takes (zero ∷ bytes) x fits e =
    of_kind (list_bytes row_bytes) RowsFit returned reply_bytes ReplyFits 0 bytes x (λ a. refl) (λ a f. f)
    (kind_takes (list_at row_at) (list_bytes row_bytes) RowsFit returned rows_exact 0 bytes x fits e)
reply_takes (suc zero ∷ bytes) x fits e =
    of_kind text_bytes IsTextValue aborted_by_user reply_bytes ReplyFits 1 bytes x (λ a. refl) (λ a f. f)
    (kind_takes text_at text_bytes IsTextValue aborted_by_user text_exact 1 bytes x fits e)
reply_takes (suc (suc zero) ∷ bytes) x fits e =
    of_kind (λ fault. one_byte (code_of fault)) IsFault aborted_by_fault reply_bytes ReplyFits 2 bytes x (λ a. refl) (λ a f. f)
    (kind_takes fault_at (λ fault. one_byte (code_of fault)) IsFault aborted_by_fault fault_exact 2 bytes x fits e)
reply_takes (suc (suc (suc zero)) ∷ bytes) x fits e = bare_kind reply_bytes ReplyFits (reply.Abort cause.Statements) 3 bytes x refl tt e
reply_takes (suc (suc (suc (suc zero))) ∷ bytes) x fits e = bare_kind reply_bytes ReplyFits (reply.Abort cause.Steps) 4 bytes x refl tt e
reply_takes (suc (suc (suc (suc (suc zero)))) ∷ bytes) x fits e = bare_kind reply_bytes ReplyFits (reply.Abort cause.Size) 5 bytes x refl tt e
reply_takes (suc (suc (suc (suc (suc (suc kind))))) ∷ bytes) x fits e = absurd (none-some x e)

reply_again : (r : ProcReply) (rest : List ℕ) → ReplyFits r → reply_at (reply_bytes r ++ rest) ≡ Some (r, rest)
unfolding reply_at
reply_again (reply.Ok rows) rest fits = mapped_again (list_at row_at) (list_bytes row_bytes) RowsFit returned rows_exact rows.rows rest fits
reply_again (reply.Abort (cause.User text)) rest fits = mapped_again text_at text_bytes IsTextValue aborted_by_user text_exact text rest fits
reply_again (reply.Abort (cause.Fault fault)) rest fits =
    mapped_again fault_at (λ fault. one_byte (code_of fault)) IsFault aborted_by_fault fault_exact fault rest tt
reply_again (reply.Abort cause.Statements) rest fits = refl
reply_again (reply.Abort cause.Steps) rest fits = refl
reply_again (reply.Abort cause.Size) rest fits = refl

pub reply_exact : Exact reply_at reply_bytes ReplyFits
reply_exact = record { takes = reply_takes; again = reply_again }
