use Rattle.std.proofs.lemmas.Int.{to_z-of_z}
use Rattle.front_tests.proofs.Widths.{small_fits}
use mir.Syntax.{w128}
use Rattle.front_tests.proofs.requests.is_small.Goals as goal

pub returns-then-n-geminus8 : goal.returns-then-n-geminus8
returns-then-n-geminus8 c = λ told w le. small_fits w c.args.n _ (to_z-of_z w128 c.args.n c.ranges.n) told c.if-n-geminus8.true le
