use Rattle.std.proofs.Common.{◌∙◌, ℕ, ◌<◌, ◌≤◌, [], map, rules, subst, sym}
use Rattle.cell_arena.specs.Cells.{AllDiffer}
use Rattle.cell_arena.proofs.Growing.{Grows-refl, Grows-trans}
use Rattle.typed_cells.proofs.DefaultCells.{defaults-all, defaults-none, defaults-there, defaults-turn, field-count}
use Rattle.typed_cells.proofs.DefaultCells.{field-counts, field-type, of-rec, of-tup, record_type, text-later}
use Rattle.typed_cells.proofs.DefaultValues.{default-rec, default-tup}
use Rattle.typed_cells.proofs.defaults.+defaults.Goals as goal

pub item_cells-loop-i-init : goal.item_cells-loop-i-init
item_cells-loop-i-init t c =
    record {
      grows = Grows-refl _;
      text = c.requires;
      cells = defaults-none c.args.b.now c.args.types.now _ c.new-cells.ensures.items;
    }

pub item_cells-loop-i-preserved : goal.item_cells-loop-i-preserved
item_cells-loop-i-preserved t c =
    let i = c.loop-i.invariant in
    record {
      grows = Grows-trans _ _ _ i.grows c.in_ok-id.ensures.grows;
      text = text-later _ _ [] i.text c.in_ok-id.ensures.grows;
      cells = defaults-turn _ _ c.args.types.now c.loop-i.i c.index-types-i.result _ _ _
          c.loop-i-test.true c.index-types-i.is i.cells c.in_ok-id.ensures.grows
          (record { cell = c.in_ok-id.ensures.cell; value = c.in_ok-id.ensures.value })
          c.in_ok-push.ensures.items;
    }

pub item_cells-returns-clause-cells : goal.item_cells-returns-clause-cells
item_cells-returns-clause-cells t c = defaults-all _ _ _ _ c.loop-i-test.false c.loop-i.invariant.cells

pub field_cells-loop-i-init : goal.field_cells-loop-i-init
field_cells-loop-i-init t c =
    record {
      grows = Grows-refl _;
      text = c.requires;
      cells = defaults-none c.args.b.now (map (λ f. f.1) c.args.fields.now) _ c.new-cells.ensures.items;
    }

pub field_cells-loop-i-preserved : goal.field_cells-loop-i-preserved
field_cells-loop-i-preserved t c =
    let i = c.loop-i.invariant in
    let fs = c.args.fields.now in
    record {
      grows = Grows-trans _ _ _ i.grows c.in_ok-id.ensures.grows;
      text = text-later _ _ [] i.text c.in_ok-id.ensures.grows;
      cells = defaults-turn _ _ (map (λ f. f.1) fs) c.loop-i.i _ _ _ _
          (subst (λ (n : ℕ). c.loop-i.i < n) (sym (field-count fs)) c.loop-i-test.true)
          (field-type fs c.loop-i.i _ c.loop-i-test.true c.index-fields-i.is)
          i.cells c.in_ok-id.ensures.grows
          (record { cell = c.in_ok-id.ensures.cell; value = c.in_ok-id.ensures.value }) c.in_ok-push.ensures.items;
    }

pub field_cells-returns-clause-cells : goal.field_cells-returns-clause-cells
field_cells-returns-clause-cells t c =
    defaults-all _ _ _ _
    (subst (λ (n : ℕ). n ≤ c.loop-i.i)
    (sym (field-count c.args.fields.now)) c.loop-i-test.false) c.loop-i.invariant.cells

pub default_cell-tuple_of_cells-requires : goal.default_cell-tuple_of_cells-requires
default_cell-tuple_of_cells-requires t c = defaults-there _ _ _ c.in_ok-cells-in-Tup.ensures.cells

pub default_cell-returns-in_ok-id-in-Tup-clause-cell : goal.default_cell-returns-in_ok-id-in-Tup-clause-cell
default_cell-returns-in_ok-id-in-Tup-clause-cell t c =
    of-tup _ _ _ c.in-Tup.types _ _ _ c.in-Tup.is c.as_slice.ensures c.in_ok-cells-in-Tup.ensures.cells
    c.in_ok-id-in-Tup.ensures.value.there c.in_ok-id-in-Tup.ensures.sort

pub default_cell-record_of_fields-requires-clause-one_each : goal.default_cell-record_of_fields-requires-clause-one_each
default_cell-record_of_fields-requires-clause-one_each t c =
    rw (c.as_slice-parts.ensures.value, c.as_slice-texts.ensures.value)
    (field-counts _ _ _ _ c.in_ok-cells-in-None.ensures.cells c.in_ok-names-in-None.ensures)

pub default_cell-record_of_fields-requires-clause-there : goal.default_cell-record_of_fields-requires-clause-there
default_cell-record_of_fields-requires-clause-there t c =
    rw c.as_slice-parts.ensures.value (defaults-there _ _ _ c.in_ok-cells-in-None.ensures.cells)

pub default_cell-returns-in_ok-id-in-None-clause-cell : goal.default_cell-returns-in_ok-id-in-None-clause-cell
default_cell-returns-in_ok-id-in-None-clause-cell t c =
    of-rec _ _ _ c.in-Rec.fields _ _ _ _
    (record_type _ _ _ c.in-Rec.is c.in-None.is) c.as_slice-list.ensures c.in_ok-cells-in-None.ensures.cells
    (c.as_slice-texts.ensures.value ∙ c.in_ok-names-in-None.ensures) c.in_ok-id-in-None.ensures.value.there
    (rw c.as_slice-parts.ensures.value at c.in_ok-id-in-None.ensures.sort)

pub default_cell-returns-in_ok-id-in-Tup-clause-value : goal.default_cell-returns-in_ok-id-in-Tup-clause-value
default_cell-returns-in_ok-id-in-Tup-clause-value t c =
    default-tup _ _ _ c.in-Tup.types _ _ _ c.in-Tup.is c.as_slice.ensures c.in_ok-cells-in-Tup.ensures.cells
    c.in_ok-id-in-Tup.ensures.grows c.in_ok-id-in-Tup.ensures.value

pub default_cell-returns-in_ok-id-in-None-clause-value : goal.default_cell-returns-in_ok-id-in-None-clause-value
default_cell-returns-in_ok-id-in-None-clause-value t c =
    let differ : AllDiffer c.as_slice-texts.result.now = search (rules, c.all_differ.ensures) in
    default-rec _ _ _ c.in-Rec.fields _ _ _ _
    (record_type _ _ _ c.in-Rec.is c.in-None.is) c.as_slice-list.ensures c.in_ok-cells-in-None.ensures.cells
    (c.as_slice-texts.ensures.value ∙ c.in_ok-names-in-None.ensures) c.in_ok-id-in-None.ensures.grows
    (field-counts _ _ _ _ c.in_ok-cells-in-None.ensures.cells
    (c.as_slice-texts.ensures.value ∙ c.in_ok-names-in-None.ensures)) differ
    (rw c.as_slice-parts.ensures.value at c.in_ok-id-in-None.ensures.value)
