use Rattle.std.proofs.Common.{◌≡◌, All, length, map}
use Rattle.sat_formula.specs.Lit.{IsBelow}
use Rattle.refutation_checker.specs.Certificate.{clause_text}
use Rattle.refutation_checker.specs.inner.Sections.{Takes}
use Rattle.refutation_checker.proofs.reading.clauses.Given as goal

abbrev pub invariant-loop : goal.invariant-loop
invariant-loop l = record {
  fit : All (All (IsBelow l.vars)) l.clauses;
  count : length l.clauses ≡ l.counter;
  taken : Takes l.initial.lines l.lines (map clause_text l.clauses);
}
