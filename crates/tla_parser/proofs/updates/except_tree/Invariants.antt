use Rattle.std.proofs.Common.{◌≡◌, fold}
use Rattle.tla_parser.specs.Trees.{no_updates, updated}
use Rattle.tla_parser.proofs.updates.except_tree.Given as goal

abbrev pub invariant-loop-item : goal.invariant-loop-item
invariant-loop-item l = l.found ≡ fold updated no_updates l.yielded
