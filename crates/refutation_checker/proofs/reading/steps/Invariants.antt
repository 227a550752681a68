use Rattle.std.proofs.Common.{All, length, map}
use Rattle.refutation_checker.specs.Certificate.{IsStep, step_text}
use Rattle.refutation_checker.specs.inner.Sections.{Takes}
use Rattle.refutation_checker.proofs.reading.steps.Given as goal

abbrev pub invariant-steps : goal.invariant-steps
invariant-steps l = record {
  fit : All (IsStep l.vars) l.steps.items;
  taken : Takes l.initial.lines l.lines (map step_text l.steps.items);
}

abbrev pub decreases-steps : goal.decreases-steps
decreases-steps l = length l.lines.rest
