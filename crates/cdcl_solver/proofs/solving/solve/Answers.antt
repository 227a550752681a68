use Rattle.std.proofs.Common.{◌∙◌}
use Rattle.refutation_checker.proofs.Soundness.{Refutes-sound}
use Rattle.cdcl_solver.proofs.SatisfyLemmas.{model}
use Rattle.cdcl_solver.proofs.solving.solve.Goals as goal

pub returns-in_ok-assignment_of-in-Satisfied-clause-answer : goal.returns-in_ok-assignment_of-in-Satisfied-clause-answer
returns-in_ok-assignment_of-in-Satisfied-clause-answer c =
    let begun = c.in_ok-solver.ensures in
    let ended = rw c.in-Satisfied.is at c.in_ok-run.ensures.end in
    let told = c.in_ok-assignment_of-in-Satisfied.ensures in
    model c.args.formula.now c.args.assume c.in_ok-assignment_of-in-Satisfied.field-0 c.run.new.solver ended.1 ended.2 (ended.0.clauses ∙ begun.clauses) (ended.0.vars ∙ begun.vars) told.agrees told.length

pub returns-in-Refuted-clause-refuted : goal.returns-in-Refuted-clause-refuted
returns-in-Refuted-clause-refuted c = λ log same.
    let begun = c.in_ok-solver.ensures in
    let ended = rw c.in-Refuted.is at c.in_ok-run.ensures.end in
    let refutes = rw begun.clauses at ended.refutes in
    Refutes-sound _ _ refutes.0 refutes.1
