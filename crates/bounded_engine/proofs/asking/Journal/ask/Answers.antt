use Rattle.bounded_engine.proofs.Conflicts.{log_within, unsat_log}
use Rattle.bounded_engine.proofs.Journals.{names_below, section_added}
use Rattle.std.proofs.Common.{false, refl}
use Rattle.bounded_engine.proofs.asking.Journal.ask.Goals as goal

pub left_after-self-requires : goal.left_after-self-requires
left_after-self-requires c =
    let is = unsat_log _ _ _ _ c.in-Unsat.log c.in_ok-assignment.ensures.answer c.in-Unsat.is in
    log_within c.args.self.now.left c.in-Unsat.log is.within is.refutes.1

pub returns-in_ok-push-in-Unsat : goal.returns-in_ok-push-in-Unsat
returns-in_ok-push-in-Unsat c = record {
  log = c.in-Unsat.log;
  refutation = unsat_log _ _ _ _ c.in-Unsat.log c.in_ok-assignment.ensures.answer c.in-Unsat.is;
  unsatisfiable = c.in_ok-assignment.ensures.refuted c.in-Unsat.log c.in-Unsat.is;
  within = names_below c.args.formula.now c.in_ok-asked-in-Unsat.asked c.args.literal c.in_ok-asked-in-Unsat.ensures.same c.in_ok-asked-in-Unsat.ensures.within;
  sections =
      section_added c.args.self.now.sections.items c.push.new.self.items c.section.result c.args.formula.now c.in_ok-asked-in-Unsat.asked c.args.question c.args.literal
      c.in-Unsat.log false c.in_ok-push-in-Unsat.ensures.items c.section.ensures c.in_ok-asked-in-Unsat.ensures.same;
  left = c.left_after-self.ensures;
  budget = refl;
}
