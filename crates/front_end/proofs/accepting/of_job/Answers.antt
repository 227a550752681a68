use Rattle.std.proofs.Common.{refl}
use Rattle.front_end.proofs.accepting.of_job.Goals as goal

pub returns-in-Ok : goal.returns-in-Ok
returns-in-Ok c = record {
  same_job = refl;
  whole = record {
    placed = c.in-Ok.ensures.placed;
    typed = c.in-Ok.ensures.typed;
    reduced = c.in-Ok.ensures.by.reduced;
    paths = c.in-Ok.ensures.by.paths;
    shapes = c.in-Ok.ensures.by.bounded.shapes;
    typed_limits = c.in-Ok.ensures.by.bounded.typed_limits;
  };
  same_length = refl;
  same_width = refl;
  same_bounds = refl;
}

pub returns-in-Err : goal.returns-in-Err
returns-in-Err c = (refl, refl, c.in-Err.ensures)
