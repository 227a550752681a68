use Rattle.std.proofs.Common.{take}
use Rattle.rewriting_tests.proofs.TreesAmong.{AreTreesAmong}
use Rattle.rewriting_tests.proofs.texts.+is_tree_among.Given as goal

abbrev pub invariant-loop-i : goal.invariant-loop-i
invariant-loop-i l = AreTreesAmong l.texts (take l.i l.args)
