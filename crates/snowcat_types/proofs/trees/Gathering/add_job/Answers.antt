use Rattle.std.proofs.Common.{List, ◌∷◌, [], map, subst}
use Rattle.tla_meaning.specs.declared.expr.Expr.{Expr}
use Rattle.tla_meaning.specs.declared.job.Job.{Job}
use Rattle.snowcat_types.specs.inner.Visiting.{AddsParts}
use Rattle.snowcat_types.proofs.PartSteps.{more_parts}
use Rattle.snowcat_types.proofs.trees.Gathering.add_job.Goals as goal

pub returns-clause-added : goal.returns-clause-added
returns-clause-added c =
    let job : Job = c.args.job.now in
    let invs : List Expr = map (λ v. v.1) job.invs in
    let last : AddsParts c.add_part-4.new.self c.add_invariants.new.self invs =
    subst (λ z. AddsParts c.add_part-4.new.self c.add_invariants.new.self (map (λ v. v.1) z)) c.as_slice.ensures c.in_ok-add_invariants.ensures.added in
    more_parts c.args.self.now c.add_part.new.self c.add_invariants.new.self (job.cinit ∷ []) (job.assume ∷ job.init ∷ job.next ∷ invs)
    c.in_ok-add_part.ensures.added
    (more_parts c.add_part.new.self c.add_part-2.new.self c.add_invariants.new.self (job.assume ∷ []) (job.init ∷ job.next ∷ invs)
    c.in_ok-add_part-2.ensures.added
    (more_parts c.add_part-2.new.self c.add_part-3.new.self c.add_invariants.new.self (job.init ∷ []) (job.next ∷ invs) c.in_ok-add_part-3.ensures.added
    (more_parts c.add_part-3.new.self c.add_part-4.new.self c.add_invariants.new.self (job.next ∷ []) invs c.in_ok-add_part-4.ensures.added last)))
