use Rattle.std.proofs.Common.{not, ◌∙◌, ap}
use Rattle.std.specs.List.{list_all}
use Rattle.std.proofs.lemmas.List.Elements.{All-map}
use Rattle.sat_formula.specs.declared.lit.Lit.{Lit}
use Rattle.sat_formula.specs.Lit.{IsBelow, lit_value}
use Rattle.sat_formula.proofs.GateClauses.{lit_value-negation}
use Rattle.outcome_cells.proofs.Joins.{any-value}
use Rattle.outcome_cells.proofs.faults.any_of.Goals as goal

pub and_all-requires : goal.and_all-requires
and_all-requires c =
    rw (c.as_slice.ensures.value, c.in_ok-others.ensures)
    (All-map (IsBelow c.args.f.now.vars) (λ (l : Lit). record { var = l.var; neg = not l.neg }) c.args.lits.now c.requires)

pub returns-clause-value : goal.returns-clause-value
returns-clause-value c =
    let n = c.in_ok-none.ensures.value in
    record {
      below = rw c.negated.ensures n.below;
      value = λ a s.
          let others = c.as_slice.ensures.value ∙ c.in_ok-others.ensures in
          rw c.negated.ensures (lit_value-negation c.in_ok-none.none a)
          ∙ ap not (n.value a s ∙ ap (list_all (λ l. lit_value l a)) others) ∙ any-value a c.args.lits.now;
    }
