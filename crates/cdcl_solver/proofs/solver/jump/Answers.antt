use Rattle.std.proofs.Common.{refl, sym}
use Rattle.cdcl_solver.proofs.SolvingLemmas.{jumped}
use Rattle.cdcl_solver.proofs.solver.jump.Goals as goal

pub returns : goal.returns
returns c =
    let jump = rw (sym c.from_vec.ensures) at (c.if-not-is_jump.ensures refl) in
    jumped c.args.solver.now c.propose.new.solver _ c.add_step.new.solver _ _ _ _ c.level_after-back.ensures c.requires c.in_ok-candidate.ensures refl c.follows.ensures.trail
    (c.follows.ensures.follows c.if-not-follows.false) jump c.in_ok-add_step.ensures
