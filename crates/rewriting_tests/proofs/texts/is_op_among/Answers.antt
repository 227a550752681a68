use Rattle.rewriting_tests.proofs.TreesAmong.{bool-among, int-among, text-among}
use Rattle.rewriting_tests.proofs.texts.is_op_among.Goals as goal
