use Rattle.std.proofs.Common.{◌∙◌, sym}
use Rattle.snowcat_rows.proofs.LastOf.{named_is, no_name, no_word}
use Rattle.snowcat_rows.proofs.literals.named_by.Goals as goal
use Rattle.snowcat_rows.proofs.literals.named_by.Goals.{else-is_word-via-then-is_word+else-is_type_name, else-is_word-via-else-is_word}

pub returns-then-is_type_name : goal.returns-then-is_type_name
returns-then-is_type_name c =
    named_is c.args.word.now c.args.name.now c.from_vec.result (c.from_vec.ensures ∙ c.in_ok-name.ensures.items) (sym c.is_word.ensures ∙ c.if-is_word.true)
    (sym c.is_type_name.ensures ∙ c.if-is_type_name.true)

pub returns : goal.returns
returns c = elim c.else-is_word.branch [
  | else-is_word-via-then-is_word+else-is_type_name w ↦ no_name c.args.word.now c.args.name.now (sym w.is_type_name.ensures ∙ w.if-is_type_name.false)
  | else-is_word-via-else-is_word w ↦ no_word c.args.word.now c.args.name.now (sym c.is_word.ensures ∙ w.if-is_word.false)
]
