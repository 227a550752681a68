use Rattle.std.proofs.Common.{◌∷◌, [], sym, ap, ◌∙◌}
use Rattle.tla_values.specs.Sets.{union_of}
use Rattle.tla_values.specs.declared.value.Value.{Value}
use Rattle.tla_values.specs.declared.value.Value.TheVariants as value
use Rattle.tla_meaning.specs.declared.op.Op.TheVariants as op
use Rattle.tla_meaning.specs.declared.outcome.Outcome.TheVariants.{Val}
use Rattle.cell_merge.specs.Sorts.{OfSort, set_of}
use Rattle.value_operators.proofs.NewCells.{row-by}
use Rattle.value_operators.proofs.Rows.{sets-row}
use Rattle.value_operators.proofs.SetRows.{both-of, set-cell}
use Rattle.value_operators.proofs.sets.union.Goals as goal

pub returns-clause-cells : goal.returns-clause-cells
returns-clause-cells c =
    let b = c.args.b.now in
    record {
      cells = λ s h.
          let k = both-of (OfSort b.arena.kinds (set_of s)) c.args.x c.args.y h in
          c.sure.ensures.cells (set_of s) (c.in_ok-id.ensures.made.sort s k.0 k.1);
    }

pub returns-clause-row : goal.returns-clause-row
returns-clause-row c =
    let b = c.args.b.now in
    let r = c.requires in
    row-by b _ op.Cup (c.args.x ∷ c.args.y ∷ []) _ _ c.in_ok-id.ensures.grows c.sure.ensures.shows
    (λ a s p. ap (λ (v : Value). Val v) (c.in_ok-id.ensures.made.value.value a s)
    ∙ sym (sets-row p (λ xs ys. Val (value.Set (union_of xs ys))) _ _ (set-cell b a r.sort c.args.x r.left)
    (set-cell b a r.sort c.args.y r.right)))
