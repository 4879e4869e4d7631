-- What the functions that look at the beginning of a text answer.
use Rattle.std.specs.Prelude.{◌≡◌, ◌<◌, ◌≤◌, ℕ, ◌==◌, ◌&&◌, Bool, false, if◌then◌else◌, List, [], ◌∷◌, length, take, drop, Result, Ok, Err}
use Rattle.std.specs.List.{list_all}
use Rattle.std.specs.Str.{byte}
use Rattle.volt_text.specs.declared.piece.FirstPiece.{FirstPiece}
use Rattle.volt_text.specs.declared.piece.Stop.{Stop}
use Rattle.volt_text.specs.declared.piece.Stop.TheVariants as stop
use Rattle.volt_text.specs.declared.quoted.Quoted.{Quoted}
use Rattle.volt_text.specs.declared.quoted.Quoted.TheVariants.{Closed, Open}
use Rattle.volt_text.specs.declared.token.LexFault.{LexFault}
use Rattle.volt_text.specs.declared.token.LexFault.TheVariants as fault
use Rattle.volt_text.specs.Tokens.{begins, is_quote, quoted, may_be_quoted, is_pair, is_single, Stands, HasNone, IsOpen}

-- at the beginning of the text stands a quoted text of so many bytes, and nothing of it is a control character
pub record IsClosed (text : List ℕ) (len : ℕ) (is_plain : Bool) : Type 0 where
  pub inner : List ℕ
  pub is_within : len ≤ length text
  pub is_quoted : take len text ≡ quoted inner
  pub is_ended : begins is_quote (drop len text) ≡ false
  pub says_plain : is_plain ≡ list_all may_be_quoted inner

abbrev pub IsQuoted : List ℕ → Quoted → Type 0
IsQuoted text (Closed len is_plain) = IsClosed text len is_plain
IsQuoted text Open = IsOpen text

-- the text begins with two hyphens
abbrev pub begins_comment : List ℕ → Bool
begins_comment (b ∷ c ∷ bs) = b == byte "-" && c == byte "-"
begins_comment _ = false

-- the length of the longest sign at the beginning of the text, and 0 where there is none
abbrev pub sign_len : List ℕ → ℕ
sign_len [] = 0
sign_len (b ∷ []) = if is_single b then 1 else 0
sign_len (b ∷ c ∷ bs) = if is_pair b c then 2 else (if is_single b then 1 else 0)

-- the piece at the beginning of the text, or why there is none
abbrev pub IsFirstPiece : List ℕ → Result FirstPiece Stop → Type 0
IsFirstPiece text (Ok piece) = (0 < piece.len) × (piece.len ≤ length text) × Stands piece.kind (take piece.len text) (drop piece.len text)
IsFirstPiece text (Err stop.BadChar) = HasNone text × ¬ IsOpen text
IsFirstPiece text (Err stop.OpenText) = IsOpen text

-- why lexing stops at this place
abbrev pub fault_of : Stop → ℕ → LexFault
fault_of stop.BadChar at = fault.BadChar at
fault_of stop.OpenText at = fault.OpenText at
