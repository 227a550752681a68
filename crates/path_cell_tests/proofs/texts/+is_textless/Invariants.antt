use Rattle.std.proofs.Common.{take}
use Rattle.path_cell_tests.proofs.Plain.{AreTextless}
use Rattle.path_cell_tests.proofs.texts.+is_textless.Given as goal

abbrev pub invariant-loop-i : goal.invariant-loop-i
invariant-loop-i l = AreTextless (take l.i l.args)
