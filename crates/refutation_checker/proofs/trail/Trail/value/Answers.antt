use Rattle.std.proofs.Common.{◌∙◌, sym, Some, Bool, not, List, Option, subst}
use Rattle.std.specs.Bool.{beq}
use Rattle.sat_formula.specs.declared.lit.Lit.{Lit}
use Rattle.refutation_checker.specs.Marks.{TellsValue}
use Rattle.refutation_checker.proofs.TrailLemmas.{TellsValue-read, differs_told}
use Rattle.refutation_checker.proofs.trail.Trail.value.Goals as goal

pub returns-in-Some : goal.returns-in-Some
returns-in-Some c =
    subst (λ (t : List Lit). TellsValue t c.args.l (Some (not (beq c.in-Some.b c.args.l.neg)))) c.self.view_is
    (subst (λ (o : Option Bool). TellsValue c.self.inside.lits.items c.args.l o) (differs_told c.in-Some.b c.args.l.neg)
    (TellsValue-read c.self.inside.marks c.self.inside.lits.items c.args.l _ c.self.invariant (sym c.get.ensures ∙ c.in-Some.is)))
