use Rattle.std.proofs.Common.{sym, ◌∙◌}
use Rattle.tla_lexer.proofs.WordLemmas.{whole_run, cut_run}
use Rattle.tla_lexer.proofs.words.word_length.Goals as goal

pub returns-then-begins_fairness : goal.returns-then-begins_fairness
returns-then-begins_fairness c = cut_run c.args.bytes.now _ c.run_length-run.ensures (sym c.begins_fairness.ensures ∙ c.if-begins_fairness.true)

pub returns-else-begins_fairness : goal.returns-else-begins_fairness
returns-else-begins_fairness c =
    whole_run c.args.bytes.now _ c.requires c.run_length-run.ensures (sym c.begins_fairness.ensures ∙ c.if-begins_fairness.false)
