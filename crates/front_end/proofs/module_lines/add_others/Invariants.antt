use Rattle.std.proofs.Common.{◌≡◌, ◌++◌, take}
use Rattle.std.specs.Prelude.{flat_map}
use Rattle.front_end.specs.Lines.{behind_comma}
use Rattle.front_end.proofs.module_lines.add_others.Given as goal

abbrev pub invariant-loop-name : goal.invariant-loop-name
invariant-loop-name l = l.out.items ≡ l.fn.out.items ++ flat_map behind_comma (take l.name-index l.names)
