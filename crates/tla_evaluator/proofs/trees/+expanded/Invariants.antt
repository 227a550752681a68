use Rattle.std.proofs.Common.{◌≡◌, drop}
use Rattle.tla_evaluator.proofs.Words.{list_all}
use Rattle.tla_evaluator.specs.Trees.{is_expanded}
use Rattle.tla_evaluator.proofs.trees.+expanded.Given as goal

abbrev pub invariant-all_expanded-loop-e : goal.invariant-all_expanded-loop-e
invariant-all_expanded-loop-e l = list_all is_expanded l.trees ≡ list_all is_expanded (drop l.e-index l.trees)
