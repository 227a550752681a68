use Rattle.std.proofs.Common.{◌∙◌, ap}
use Rattle.sat_formula.specs.declared.cnf.Cnf.{Cnf}
use Rattle.refutation_checker.proofs.Soundness.{Refutes-sound}
use Rattle.watched_search.specs.Trail.{TrailView}
use Rattle.plain_solver.proofs.SatisfyLemmas.{model}
use Rattle.plain_solver.proofs.solving.solve.Goals as goal

pub returns-in_ok-assignment_of-in-Satisfied-clause-answer : goal.returns-in_ok-assignment_of-in-Satisfied-clause-answer
returns-in_ok-assignment_of-in-Satisfied-clause-answer c =
    let begun = c.in_ok-search.ensures in
    let ended = rw c.in-Satisfied.is at c.in_ok-run.ensures.end in
    let cnf = c.in_ok-cnf.ensures.same in
    model c.args.formula.now c.args.assume c.in_ok-assignment_of-in-Satisfied.field-0 c.run.new.search.steps c.run.new.search.trail
    (ended.0.room ∙ ap (λ (t : TrailView). t.room) begun.trail ∙ ap (λ (f : Cnf). f.vars) cnf)
    (rw cnf at c.in_ok-cnf.ensures.within)
    (rw (ended.0.clauses, begun.clauses, cnf) at ended.1)
    c.in_ok-assignment_of-in-Satisfied.ensures.agrees
    c.in_ok-assignment_of-in-Satisfied.ensures.length

pub returns-in-Refuted-clause-refuted : goal.returns-in-Refuted-clause-refuted
returns-in-Refuted-clause-refuted c = λ log same.
    let begun = c.in_ok-search.ensures in
    let ended = rw c.in-Refuted.is at c.in_ok-run.ensures.end in
    let refutes = rw (begun.clauses, c.in_ok-cnf.ensures.same) at ended.refutes in
    Refutes-sound _ _ refutes.0 refutes.1
