use Rattle.std.proofs.Common.{◌∷◌, [], sym, ap, ◌∙◌, Some}
use Rattle.std.proofs.lemmas.List.Elements.{All-head}
use Rattle.tla_values.specs.declared.value.Value.{Value}
use Rattle.tla_meaning.specs.declared.op.Op.TheVariants as op
use Rattle.tla_meaning.specs.declared.outcome.Outcome.TheVariants.{Val}
use Rattle.cell_merge.specs.Sorts.{OfSort, set_of}
use Rattle.value_operators.proofs.NewCells.{row-by}
use Rattle.value_operators.proofs.Rows.{union-row}
use Rattle.value_operators.proofs.SetRows.{set-cell, members-are-sets}
use Rattle.value_operators.proofs.sets.flatten.Goals as goal

pub returns-clause-cells : goal.returns-clause-cells
returns-clause-cells c =
    let b = c.args.b.now in
    record {
      cells = λ s h.
          let k = All-head (OfSort b.arena.kinds (set_of (set_of s))) c.args.sets [] h in
          c.sure.ensures.cells (set_of s) (c.in_ok-id.ensures.made.sort s k);
    }

pub returns-clause-row : goal.returns-clause-row
returns-clause-row c =
    let b = c.args.b.now in
    let r = c.requires in
    row-by b _ op.BigUnion (c.args.sets ∷ []) _ _ c.in_ok-id.ensures.grows c.sure.ensures.shows
    (λ a s p. ap (λ (v : Value). Val v) (c.in_ok-id.ensures.made.value.value a s)
    ∙ sym (union-row (Some b.arena.width) p _ (set-cell b a (set_of r.sort) c.args.sets r.is)
    (members-are-sets b a r.sort c.args.sets r.is)))
