use Rattle.std.proofs.Common.{◌≡◌, fold}
use Rattle.tla_parser.specs.Trees.{localized, no_locals}
use Rattle.tla_parser.proofs.locals.let_tree.Given as goal

abbrev pub invariant-loop-item : goal.invariant-loop-item
invariant-loop-item l = l.found ≡ fold localized no_locals l.yielded
