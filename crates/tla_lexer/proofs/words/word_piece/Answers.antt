use Rattle.std.proofs.Common.{sym, ◌∙◌}
use Rattle.tla_lexer.proofs.WordLemmas.{digits_piece, name_piece, reserved_piece}
use Rattle.tla_lexer.proofs.words.word_piece.Goals as goal

pub returns-then-are_digits : goal.returns-then-are_digits
returns-then-are_digits c = c.number.ensures ∙ sym (digits_piece c.args.word.now (sym c.are_digits.ensures ∙ c.if-are_digits.true))

pub returns-then-is_name : goal.returns-then-is_name
returns-then-is_name c =
    name_piece c.args.word.now _ (sym c.are_digits.ensures ∙ c.if-are_digits.false) (sym c.has_letter.ensures ∙ c.if-not-has_letter.false)
    (sym c.is_name.ensures ∙ c.if-is_name.true) (c.from_vec-text.ensures ∙ c.in_ok-from_slice.ensures.items)

pub returns-else-is_name : goal.returns-else-is_name
returns-else-is_name c =
    reserved_piece c.args.word.now _ c.requires.bytes c.requires.cut (sym c.are_digits.ensures ∙ c.if-are_digits.false)
    (sym c.has_letter.ensures ∙ c.if-not-has_letter.false) (sym c.is_name.ensures ∙ c.if-is_name.false) (c.from_vec-text.ensures ∙ c.in_ok-from_slice.ensures.items)
