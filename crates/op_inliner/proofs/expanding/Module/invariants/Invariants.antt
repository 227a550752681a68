use Rattle.std.proofs.Common.{◌≡◌, ◌++◌, drop}
use Rattle.op_inliner.specs.Answers.{Gives, invs_answer, then_with}
use Rattle.op_inliner.proofs.expanding.Module.invariants.Given as goal

abbrev pub invariant-loop-name : goal.invariant-loop-name
invariant-loop-name l =
    invs_answer l.self.flat.now l.names ≡ then_with (invs_answer l.self.flat.now (drop l.name-index l.names)) (λ es. Gives (l.all.items ++ es))
