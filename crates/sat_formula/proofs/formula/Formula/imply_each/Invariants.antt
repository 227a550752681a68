use Rattle.std.proofs.Common.{◌≡◌, ◌++◌, take}
use Rattle.sat_formula.specs.Clause.{implications}
use Rattle.sat_formula.proofs.formula.Formula.imply_each.Given as goal

abbrev pub invariant-loop-l : goal.invariant-loop-l
invariant-loop-l l = record {
  vars : l.self.vars ≡ l.fn.self.vars;
  clauses : l.self.clauses ≡ l.fn.self.clauses ++ take l.l-index (implications l.out l.lits);
}
