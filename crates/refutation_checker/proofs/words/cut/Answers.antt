use Rattle.std.proofs.Common.{arith}
use Rattle.std.proofs.lemmas.List.{take_rest}
use Rattle.refutation_checker.proofs.Splits.{Lacks_all, Lacks_take, cut_at}
use Rattle.refutation_checker.proofs.words.cut.Goals as goal

pub returns-then-text-i : goal.returns-then-text-i
returns-then-text-i c =
    (rw take_rest (cut_at c.args.text.now c.loop-i.i c.args.at c.loop-i-test.true c.if-text-i.true), Lacks_take c.args.at c.loop-i.i c.args.text.now c.loop-i.invariant)

pub returns : goal.returns
returns c = Lacks_all c.args.at c.args.text.now (λ k lt. c.loop-i.invariant k (omega arith))
