use Rattle.std.proofs.Common.{◌∷◌, [], List, map, sym, ap, ◌∙◌}
use Rattle.std.proofs.lemmas.List.Elements.{All-head}
use Rattle.tla_values.specs.Sets.{elements, set_of as set_of_items}
use Rattle.tla_values.specs.declared.value.Value.{Value}
use Rattle.tla_values.specs.declared.value.Value.TheVariants as value
use Rattle.tla_meaning.specs.declared.op.Op.TheVariants as op
use Rattle.tla_meaning.specs.declared.outcome.Outcome.TheVariants.{Val}
use Rattle.tla_meaning.specs.Shapes.{subsets}
use Rattle.cell_arena.specs.Decode.{decode}
use Rattle.cell_merge.specs.Sorts.{OfSort, set_of}
use Rattle.value_operators.proofs.NewCells.{row-by}
use Rattle.value_operators.proofs.OneText.{same-sublists}
use Rattle.value_operators.proofs.Rows.{set-row}
use Rattle.value_operators.proofs.SetRows.{set-cell}
use Rattle.value_operators.proofs.sets.subsets.Goals as goal

pub returns-clause-cells : goal.returns-clause-cells
returns-clause-cells c =
    let b = c.args.b.now in
    record {
      cells = λ s h.
          let k = All-head (OfSort b.arena.kinds (set_of s)) c.args.set [] h in
          c.sure.ensures.cells (set_of (set_of s)) (c.in_ok-id.ensures.powerset.sort s k);
    }

pub returns-clause-row : goal.returns-clause-row
returns-clause-row c =
    let b = c.args.b.now in
    let r = c.requires in
    row-by b _ op.Powerset (c.args.set ∷ []) _ _ c.in_ok-id.ensures.grows c.sure.ensures.shows
    (λ a s p.
    let sets : List (List Value) → Value = λ l. value.Set (set_of_items (map (λ ys. value.Set ys) l)) in
    ap (λ (v : Value). Val v) (c.in_ok-id.ensures.powerset.value.value a s)
    ∙ ap (λ (l : List (List Value)). Val (sets l)) (same-sublists (elements (decode b.arena a c.args.set)))
    ∙ sym (set-row p (λ xs. Val (subsets xs)) _ (set-cell b a r.sort c.args.set r.is)))
