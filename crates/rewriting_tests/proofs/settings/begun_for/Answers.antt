use Rattle.std.proofs.Common.{◌∙◌, sym}
use Rattle.rewriting_tests.proofs.Operands.{with-empty}
use Rattle.rewriting_tests.proofs.settings.begun_for.Goals as goal

pub returns : goal.returns
returns c =
    with-empty _ _ _ _ (c.in_ok-b.ensures ∙ sym c.as_slice-words.ensures) (c.from_vec-empty.ensures ∙ c.new.ensures.items)
    (c.is_text_among.ensures c.if-not-is_text_among.false) (c.is_tree_among.ensures c.if-not-is_tree_among.false)
