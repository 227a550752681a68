use Rattle.std.proofs.Common.{Bor, ap}
use Rattle.kernel_trees.specs.declared.system.System.{System}
use Rattle.step_encoder.proofs.Encoding.{adds_next, can_step_from, last_at, next_kept, next_shapes_as}
use Rattle.step_encoder.proofs.encoder.Encoder.advance.Goals as goal

pub next_level-requires-clause-can : goal.next_level-requires-clause-can
next_level-requires-clause-can c =
    can_step_from c.args.self.now c.index-levels-levels.result c.requires.encoder c.requires.some
    (last_at c.args.self.now.levels c.as_slice-levels.result.now c.index-levels-levels.result
    c.as_slice-levels.ensures c.requires.some c.index-levels-levels.is)

pub next_level-requires-clause-after : goal.next_level-requires-clause-after
next_level-requires-clause-after c =
    next_kept c.args.self.now c.width-width.result c.in_ok-shapes.shapes c.requires.encoder c.requires.some
    c.width-width.ensures.same c.in_ok-shapes.ensures

pub returns-clause-adds : goal.returns-clause-adds
returns-clause-adds c =
    adds_next c.args.self.now c.add.new.self c.next_level.new.b c.index-levels-levels.result c.in_ok-level.level
    c.in_ok-shapes.shapes (record {
      encoder = c.requires.encoder;
      some = c.requires.some;
      last = last_at c.args.self.now.levels c.as_slice-levels.result.now c.index-levels-levels.result
          c.as_slice-levels.ensures c.requires.some c.index-levels-levels.is;
      shapes = next_shapes_as c.args.self.now.system.now c.width-width.result c.args.self.now.build.arena.width
          c.args.self.now.shapes c.in_ok-shapes.shapes c.width-width.ensures.same
          c.in_ok-shapes.ensures;
      made = c.in_ok-level.ensures.next;
      grows = c.in_ok-level.ensures.grows;
      levels = c.in_ok-add.ensures.levels;
      kept = c.in_ok-add.ensures.shapes;
      system = ap (λ (b : Bor System). b.now) c.in_ok-add.ensures.system;
      build = c.in_ok-add.ensures.build;
    })
