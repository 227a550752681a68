use Rattle.std.proofs.Common.{◌≡◌, map}
use Rattle.op_inliner.specs.Annotations.{parameters_noted}
use Rattle.op_inliner.proofs.bodies.+parameters_noted.Given as goal

abbrev pub invariant-all_noted-loop-e : goal.invariant-all_noted-loop-e
invariant-all_noted-loop-e l = l.all.items ≡ map (parameters_noted l.place l.params l.annotation) l.yielded
