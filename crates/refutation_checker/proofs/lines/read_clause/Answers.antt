use Rattle.refutation_checker.specs.inner.Reading.{Closes, ClosesNone}
use Rattle.std.specs.Prelude.{option_copied}
use Rattle.sat_formula.specs.Lit.{IsBelow}
use Rattle.std.proofs.Common.{None}
use Rattle.refutation_checker.specs.Certificate.{lit_text}
use Rattle.refutation_checker.proofs.LineTexts.{clause_unended}
use Rattle.refutation_checker.proofs.lines.read_clause.Goals as goal

pub returns-in_default : goal.returns-in_default
returns-in_default c =
    let none : ClosesNone lit_text (IsBelow c.args.vars) c.args.line.now = rw c.in_default.is at c.in_ok-lits.ensures in
    λ d below is. none d None below is

pub returns-in-Some-behind : goal.returns-in-Some-behind
returns-in-Some-behind c =
    let read : Closes lit_text (IsBelow c.args.vars) c.args.line.now c.in-Some.lits.items (option_copied c.in-Some.behind) = rw c.in-Some.is at c.in_ok-lits.ensures in
    clause_unended c.args.vars c.requires c.args.line.now c.in-Some.lits.items c.in-Some-behind.field-0.now (rw c.in-Some-behind.is at read)
