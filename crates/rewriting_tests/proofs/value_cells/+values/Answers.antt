use Rattle.std.proofs.Common.{◌∙◌, ℕ, ◌<◌, ◌≤◌, map, subst, sym}
use Rattle.cell_arena.proofs.Growing.{Grows-refl, Grows-trans}
use Rattle.typed_cells.proofs.DefaultCells.{field-count, field-type}
use Rattle.rewriting_tests.proofs.TypedParts.{of-tup, types-all, types-none, types-there, types-turn}
use Rattle.rewriting_tests.proofs.ValueCells.{arrows-named, arrows-none, arrows-older, arrows-same, arrows-turn, edges-named, edges-none, edges-older, edges-same, edges-turn, function-type, items-none, items-there, items-turn, sequence-type, set-type}
use Rattle.rewriting_tests.proofs.value_cells.+values.Goals as goal

pub set_cell-loop-i-init : goal.set_cell-loop-i-init
set_cell-loop-i-init t c =
    record { grows = Grows-refl _; edges = edges-none c.args.b.now c.args.ty.now _ c.new-edges.ensures.items }

pub set_cell-loop-i-preserved : goal.set_cell-loop-i-preserved
set_cell-loop-i-preserved t c =
    let i = c.loop-i.invariant in
    record {
      grows = Grows-trans _ _ _ (Grows-trans _ _ _ i.grows c.in_ok-id.ensures.grows) c.in_ok-l.ensures.grows;
      edges = edges-turn _ _ _ c.args.ty.now _ _ _ _ i.edges c.in_ok-id.ensures.grows c.in_ok-l.ensures.grows
          c.in_ok-id.ensures.cell c.in_ok-l.ensures.below c.in_ok-push.ensures.items;
    }

pub set_cell-set-requires-clause-named : goal.set_cell-set-requires-clause-named
set_cell-set-requires-clause-named t c =
    edges-named c.loop-i.b _ _ (edges-same c.loop-i.b c.args.ty.now _ _ c.from_vec.ensures c.loop-i.invariant.edges)

pub set_cell-set-requires-clause-older : goal.set_cell-set-requires-clause-older
set_cell-set-requires-clause-older t c =
    edges-older c.loop-i.b _ _ (edges-same c.loop-i.b c.args.ty.now _ _ c.from_vec.ensures c.loop-i.invariant.edges)

pub set_cell-returns-clause-cell : goal.set_cell-returns-clause-cell
set_cell-returns-clause-cell t c =
    set-type _ _ c.args.ty.now _ _ c.in_ok-id-2.ensures.cell c.in_ok-id-2.ensures.grows
    (edges-same c.loop-i.b c.args.ty.now _ _ c.from_vec.ensures c.loop-i.invariant.edges)

pub function_cell-loop-i-init : goal.function_cell-loop-i-init
function_cell-loop-i-init t c =
    record {
      grows = Grows-refl _;
      arrows = arrows-none c.args.b.now c.args.from.now c.args.to.now _ c.new-arrows.ensures.items;
    }

pub function_cell-loop-i-preserved : goal.function_cell-loop-i-preserved
function_cell-loop-i-preserved t c =
    let i = c.loop-i.invariant in
    record {
      grows = Grows-trans _ _ _ (Grows-trans _ _ _
          (Grows-trans _ _ _ i.grows c.in_ok-argument.ensures.grows) c.in_ok-value.ensures.grows)
          c.in_ok-l.ensures.grows;
      arrows = arrows-turn _ _ _ _ c.args.from.now c.args.to.now _ _ _ _ _ i.arrows c.in_ok-argument.ensures.grows
          c.in_ok-value.ensures.grows c.in_ok-l.ensures.grows c.in_ok-argument.ensures.cell c.in_ok-value.ensures.cell
          c.in_ok-l.ensures.below c.in_ok-push.ensures.items;
    }

pub function_cell-fun-requires-clause-named : goal.function_cell-fun-requires-clause-named
function_cell-fun-requires-clause-named t c =
    arrows-named c.loop-i.b _ _ _
    (arrows-same c.loop-i.b c.args.from.now c.args.to.now _ _ c.from_vec.ensures c.loop-i.invariant.arrows)

pub function_cell-fun-requires-clause-older : goal.function_cell-fun-requires-clause-older
function_cell-fun-requires-clause-older t c =
    arrows-older c.loop-i.b _ _ _
    (arrows-same c.loop-i.b c.args.from.now c.args.to.now _ _ c.from_vec.ensures c.loop-i.invariant.arrows)

pub function_cell-returns-clause-cell : goal.function_cell-returns-clause-cell
function_cell-returns-clause-cell t c =
    function-type _ _ c.args.from.now c.args.to.now _ _ c.in_ok-id.ensures.cell c.in_ok-id.ensures.grows
    (arrows-same c.loop-i.b c.args.from.now c.args.to.now _ _ c.from_vec.ensures c.loop-i.invariant.arrows)

pub sequence_cell-loop-i-init : goal.sequence_cell-loop-i-init
sequence_cell-loop-i-init t c =
    record { grows = Grows-refl _; cells = items-none c.args.b.now.arena.kinds c.args.ty.now _ c.new-cells.ensures.items }

pub sequence_cell-loop-i-preserved : goal.sequence_cell-loop-i-preserved
sequence_cell-loop-i-preserved t c =
    let i = c.loop-i.invariant in
    record {
      grows = Grows-trans _ _ _ i.grows c.in_ok-id.ensures.grows;
      cells = items-turn _ _ c.args.ty.now _ _ _ i.cells c.in_ok-id.ensures.grows c.in_ok-id.ensures.cell
          c.in_ok-push.ensures.items;
    }

pub sequence_cell-sequence_of_cells-requires : goal.sequence_cell-sequence_of_cells-requires
sequence_cell-sequence_of_cells-requires t c = items-there _ _ _ c.loop-i.invariant.cells

pub sequence_cell-returns-clause-cell : goal.sequence_cell-returns-clause-cell
sequence_cell-returns-clause-cell t c =
    sequence-type _ _ c.args.ty.now _ _ c.in_ok-id-2.ensures.value.there c.in_ok-id-2.ensures.sort
    c.loop-i.invariant.cells

pub item_cells-loop-i-init : goal.item_cells-loop-i-init
item_cells-loop-i-init t c =
    record {
      grows = Grows-refl _;
      cells = types-none c.args.b.now.arena.kinds c.args.types.now _ c.new-cells.ensures.items;
    }

pub item_cells-loop-i-preserved : goal.item_cells-loop-i-preserved
item_cells-loop-i-preserved t c =
    let i = c.loop-i.invariant in
    record {
      grows = Grows-trans _ _ _ i.grows c.in_ok-id.ensures.grows;
      cells = types-turn _ _ c.args.types.now c.loop-i.i c.index-types-i.result _ _ _
          c.loop-i-test.true c.index-types-i.is i.cells c.in_ok-id.ensures.grows c.in_ok-id.ensures.cell
          c.in_ok-push.ensures.items;
    }

pub item_cells-returns-clause-cells : goal.item_cells-returns-clause-cells
item_cells-returns-clause-cells t c = types-all _ _ _ _ c.loop-i-test.false c.loop-i.invariant.cells

pub field_cells-loop-i-init : goal.field_cells-loop-i-init
field_cells-loop-i-init t c =
    record {
      grows = Grows-refl _;
      cells = types-none c.args.b.now.arena.kinds (map (λ f. f.1) c.args.fields.now) _ c.new-cells.ensures.items;
    }

pub field_cells-loop-i-preserved : goal.field_cells-loop-i-preserved
field_cells-loop-i-preserved t c =
    let i = c.loop-i.invariant in
    let fs = c.args.fields.now in
    record {
      grows = Grows-trans _ _ _ i.grows c.in_ok-id.ensures.grows;
      cells = types-turn _ _ (map (λ f. f.1) fs) c.loop-i.i _ _ _ _
          (subst (λ (n : ℕ). c.loop-i.i < n) (sym (field-count fs)) c.loop-i-test.true)
          (field-type fs c.loop-i.i _ c.loop-i-test.true c.index-fields-i.is)
          i.cells c.in_ok-id.ensures.grows c.in_ok-id.ensures.cell c.in_ok-push.ensures.items;
    }

pub field_cells-returns-clause-cells : goal.field_cells-returns-clause-cells
field_cells-returns-clause-cells t c =
    types-all _ _ _ _
    (subst (λ (n : ℕ). n ≤ c.loop-i.i)
    (sym (field-count c.args.fields.now)) c.loop-i-test.false) c.loop-i.invariant.cells

pub value_cell-tuple_of_cells-requires : goal.value_cell-tuple_of_cells-requires
value_cell-tuple_of_cells-requires t c = types-there _ _ _ c.in_ok-cells-in-Tup.ensures.cells

pub value_cell-returns-in_ok-id-in-Tup-clause-cell : goal.value_cell-returns-in_ok-id-in-Tup-clause-cell
value_cell-returns-in_ok-id-in-Tup-clause-cell t c =
    of-tup _ _ _ c.in-Tup.types _ _ _ c.in-Tup.is c.as_slice-in-Tup.ensures c.in_ok-cells-in-Tup.ensures.cells
    c.in_ok-id-in-Tup.ensures.value.there c.in_ok-id-in-Tup.ensures.sort
