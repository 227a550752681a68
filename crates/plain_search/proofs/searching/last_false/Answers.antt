use Rattle.std.proofs.Common.{◌∙◌, arith, true}
use Rattle.std.proofs.lemmas.List.{get_or_default}
use Rattle.plain_search.proofs.Decided.{still_true}
use Rattle.plain_search.proofs.searching.last_false.Goals as goal

pub returns-then-not-values-at-clause-last : goal.returns-then-not-values-at-clause-last
returns-then-not-values-at-clause-last c = λ k above small. c.loop-at.invariant k (omega arith) small

pub loop-at-preserved : goal.loop-at-preserved
loop-at-preserved c = still_true c.args.values.now c.loop-at.at c.loop-at-test.true c.if-not-values-at.false c.loop-at.invariant

pub returns-clause-none : goal.returns-clause-none
returns-clause-none c = λ k d small. get_or_default c.args.values.now k d true small ∙ c.loop-at.invariant k (omega arith) small
