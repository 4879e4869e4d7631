use Rattle.std.proofs.Common.{sym, ◌∙◌}
use Rattle.volt_text.proofs.Pieces.{blank_prefix, word_prefix, number_prefix, comment_prefix, sign_prefix, sign_none}
use Rattle.volt_text.proofs.piece.first_piece.Goals as goal

pub returns-then-is_letter : goal.returns-then-is_letter
returns-then-is_letter c = rw (c.new.ensures, c.word_bytes.ensures) (word_prefix c.args.text.now c.requires (sym c.is_letter.ensures ∙ c.if-is_letter.true))

pub returns-then-is_blank : goal.returns-then-is_blank
returns-then-is_blank c = rw (c.new-then-is_blank.ensures, c.blanks.ensures) (blank_prefix c.args.text.now c.requires (sym c.is_blank.ensures ∙ c.if-is_blank.true))

pub returns-then-is_ascii_digit : goal.returns-then-is_ascii_digit
returns-then-is_ascii_digit c = rw (c.new-then-is_ascii_digit.ensures, c.digits.ensures) (number_prefix c.args.text.now c.requires (sym c.is_ascii_digit.ensures.value ∙ c.if-is_ascii_digit.true))

pub returns-then-begins_comment : goal.returns-then-begins_comment
returns-then-begins_comment c = rw (c.new-then-begins_comment.ensures, c.bytes_in_line.ensures) (comment_prefix c.args.text.now (sym c.begins_comment.ensures ∙ c.if-begins_comment.true))

pub returns : goal.returns
returns c = rw c.new-2.ensures (sign_prefix c.args.text.now c.sign_len-len.result c.sign_len-len.ensures c.if-len-eq0.false (sym c.begins_comment.ensures ∙ c.if-begins_comment.false))

pub returns-then-len-eq0 : goal.returns-then-len-eq0
returns-then-len-eq0 c = sign_none c.args.text.now (sym c.is_letter.ensures ∙ c.if-is_letter.false) (sym c.is_blank.ensures ∙ c.if-is_blank.false)
    (sym c.is_ascii_digit.ensures.value ∙ c.if-is_ascii_digit.false) c.if-first-eq39.false (sym c.begins_comment.ensures ∙ c.if-begins_comment.false) (sym c.sign_len-len.ensures ∙ c.if-len-eq0.true)
