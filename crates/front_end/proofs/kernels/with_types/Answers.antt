use Rattle.front_end.proofs.Answering.{typed_refusal}
use Rattle.front_end.proofs.kernels.with_types.Goals as goal

pub returns-in-Ok : goal.returns-in-Ok
returns-in-Ok c = record {
  placed = c.requires.placed;
  typed = record { bound = c.requires.bound; types = c.requires.typed };
  by = c.in-Ok.ensures;
}

pub returns-in-Err : goal.returns-in-Err
returns-in-Err c =
    typed_refusal c.args.request.now c.args.job.now c.args.typed c.in-Err.fault (record { bound = c.requires.bound; types = c.requires.typed })
    c.in-Err.ensures
