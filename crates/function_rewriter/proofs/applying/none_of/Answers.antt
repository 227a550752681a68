use Rattle.std.proofs.Common.{◌∙◌, ap}
use Rattle.std.specs.List.{list_all}
use Rattle.sat_formula.specs.Lit.{lit_value}
use Rattle.function_rewriter.proofs.Applies.{negations-named, none-value}
use Rattle.function_rewriter.proofs.applying.none_of.Goals as goal

pub and_all-requires : goal.and_all-requires
and_all-requires c = rw (c.as_slice.ensures.value, c.in_ok-others.ensures) (negations-named c.args.formula.now.vars c.args.lits.now c.requires.named)

pub returns-clause-value : goal.returns-clause-value
returns-clause-value c = record {
  below = c.in_ok-none.ensures.value.below;
  value = λ a s. c.in_ok-none.ensures.value.value a s ∙ ap (list_all (λ l. lit_value l a)) (c.as_slice.ensures.value ∙ c.in_ok-others.ensures) ∙ none-value a c.args.lits.now;
}
