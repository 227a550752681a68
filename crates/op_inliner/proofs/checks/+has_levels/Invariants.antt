use Rattle.std.proofs.Common.{◌≤◌, map, take}
use Rattle.op_inliner.specs.Answers.{depth, greatest}
use Rattle.op_inliner.proofs.checks.+has_levels.Given as goal

abbrev pub invariant-all_have_levels-loop-e : goal.invariant-all_have_levels-loop-e
invariant-all_have_levels-loop-e l = greatest (map depth (take l.e-index l.trees)) ≤ l.levels
