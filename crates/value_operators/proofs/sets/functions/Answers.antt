use Rattle.std.proofs.Common.{◌∷◌, [], List, map, sym, ap, ◌∙◌}
use Rattle.std.specs.Prelude.{zip}
use Rattle.tla_values.specs.Sets.{elements, set_of as set_of_items}
use Rattle.tla_values.specs.declared.value.Value.{Value}
use Rattle.tla_values.specs.declared.value.Value.TheVariants as value
use Rattle.tla_meaning.specs.declared.op.Op.TheVariants as op
use Rattle.tla_meaning.specs.declared.outcome.Outcome.TheVariants.{Val}
use Rattle.tla_meaning.specs.Shapes.{functions}
use Rattle.cell_arena.specs.Decode.{decode}
use Rattle.cell_merge.specs.Sorts.{set_of, function_of}
use Rattle.value_operators.proofs.NewCells.{row-by}
use Rattle.value_operators.proofs.OneText.{same-each_to}
use Rattle.value_operators.proofs.Rows.{sets-row}
use Rattle.value_operators.proofs.SetRows.{set-cell}
use Rattle.value_operators.proofs.sets.functions.Goals as goal

pub returns-clause-cells : goal.returns-clause-cells
returns-clause-cells c =
    record {
      cells = λ s t h k. c.sure.ensures.cells (set_of (function_of s t)) (c.in_ok-id.ensures.set.sort s t h k);
    }

pub returns-clause-row : goal.returns-clause-row
returns-clause-row c =
    let b = c.args.b.now in
    let d = c.requires.domain in
    let r = c.requires.range in
    row-by b _ op.FunSet (c.args.from ∷ c.args.to ∷ []) _ _ c.in_ok-id.ensures.grows c.sure.ensures.shows
    (λ a s p.
    let xs = elements (decode b.arena a c.args.from) in
    let maps : List (List Value) → Value = λ l. value.Set (set_of_items (map (λ ys. value.Fun (zip xs ys)) l)) in
    ap (λ (v : Value). Val v) (c.in_ok-id.ensures.set.value.value a s)
    ∙ ap (λ (l : List (List Value)). Val (maps l)) (same-each_to xs (elements (decode b.arena a c.args.to)))
    ∙ sym (sets-row p (λ xs ys. Val (functions xs ys)) _ _ (set-cell b a d.sort c.args.from d.is)
    (set-cell b a r.sort c.args.to r.is)))
