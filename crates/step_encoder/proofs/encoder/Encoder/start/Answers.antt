use Rattle.std.proofs.Common.{Bor, ap}
use Rattle.kernel_trees.specs.declared.system.System.{System}
use Rattle.step_encoder.proofs.Encoding.{adds_first, start_shapes_as}
use Rattle.step_encoder.proofs.encoder.Encoder.start.Goals as goal

pub returns-clause-adds : goal.returns-clause-adds
returns-clause-adds c =
    adds_first c.args.self.now c.add.new.self c.first_level.new.b c.in_ok-level.level c.in_ok-shapes.shapes (record {
      encoder = c.requires.encoder;
      empty = c.requires.empty;
      shapes = start_shapes_as c.args.self.now.system.now c.width-width.result c.args.self.now.build.arena.width
          c.in_ok-shapes.shapes c.width-width.ensures.same c.in_ok-shapes.ensures;
      made = c.in_ok-level.ensures.first;
      grows = c.in_ok-level.ensures.grows;
      levels = c.in_ok-add.ensures.levels;
      kept = c.in_ok-add.ensures.shapes;
      system = ap (λ (b : Bor System). b.now) c.in_ok-add.ensures.system;
      build = c.in_ok-add.ensures.build;
    })
