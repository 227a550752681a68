use Rattle.std.proofs.Common.{◌≡◌, fold}
use Rattle.tla_parser.specs.Modules.{no_units, unit_item}
use Rattle.tla_parser.proofs.units.module_tree.Given as goal

abbrev pub invariant-loop-item : goal.invariant-loop-item
invariant-loop-item l = l.read ≡ fold unit_item no_units l.yielded
