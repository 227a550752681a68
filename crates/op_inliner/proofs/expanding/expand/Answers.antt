use Rattle.std.proofs.Common.{subst, List, ℕ}
use Rattle.op_inliner.specs.Answers.{IsAnswered, expand_answer}
use Rattle.op_inliner.proofs.ExpandSteps.{tree_told}
use Rattle.op_inliner.proofs.expanding.expand.Goals as goal

pub returns : goal.returns
returns c =
    let h = subst (λ (x : List ℕ). IsAnswered (expand_answer c.args.flat.now x c.args.part) c.expanded.result) c.in_ok-name.ensures c.expanded.ensures in
    record { answer = h; means = tree_told c.args.flat.now c.args.name.now c.args.part c.expanded.result c.requires.known h }
