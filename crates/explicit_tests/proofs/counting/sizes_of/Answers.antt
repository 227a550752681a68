use Rattle.std.proofs.Common.{◌≡◌, ◌+◌, ◌<◌, ◌≤◌, length, ap, arith}
use Rattle.explicit_tests.proofs.Levels.{levels_more}
use Rattle.explicit_tests.proofs.counting.sizes_of.Goals as goal

pub loop-level-init : goal.loop-level-init
loop-level-init c = record {
  encoder = c.in_ok-encoder.ensures.encoder.0;
  count = ap length c.in_ok-encoder.ensures.begins.1;
}

pub add_level-requires-clause-next : goal.add_level-requires-clause-next
add_level-requires-clause-next c =
    let short : c.args.a.now.length ≤ 1000 = c.requires.short in
    let at : c.loop-level.level < c.args.a.now.length + 1 = c.loop-level-test.true in
    (c.loop-level.invariant.count, omega arith)

pub loop-level-preserved : goal.loop-level-preserved
loop-level-preserved c = record {
  encoder = c.in_ok-add_level.ensures.encodes;
  count = levels_more c.loop-level.encoder c.add_level.new.encoder c.loop-level.level c.loop-level.invariant.count c.in_ok-add_level.ensures;
}
