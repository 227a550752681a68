use Rattle.std.proofs.Common.{◌∙◌}
use Rattle.sat_formula.proofs.Extension.{Satisfies-older}
use Rattle.cell_merge.proofs.Edges.{negated-value}
use Rattle.value_operators.proofs.NumberRows.{zero-word, not-above}
use Rattle.value_operators.proofs.words.at_most_zero.Goals as goal

pub returns-clause-value : goal.returns-clause-value
returns-clause-value c =
    let l = c.in_ok-above.ensures.value in
    record {
      below = rw c.negated.ensures l.below;
      value = λ a s.
          let s0 = Satisfies-older _ _ a c.in_ok-above.ensures.grows s in
          negated-value c.in_ok-above.above c.negated.result a c.negated.ensures
          ∙ not-above _ _ _ (l.value a s) (zero-word _ _ _ _ a c.requires.some c.in_ok-zero.ensures.exact s0);
    }
