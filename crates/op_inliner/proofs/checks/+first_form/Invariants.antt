use Rattle.std.proofs.Common.{◌≡◌, map, drop}
use Rattle.op_inliner.specs.Answers.{first_form, forms}
use Rattle.op_inliner.specs.Places.{joined}
use Rattle.op_inliner.proofs.checks.+first_form.Given as goal

abbrev pub invariant-first_of-loop-e : goal.invariant-first_of-loop-e
invariant-first_of-loop-e l = first_form (joined (map forms (drop l.e-index l.trees))) ≡ first_form (joined (map forms l.trees))
