use Rattle.typed_cells.proofs.NewCells.{record-differs, record-sort, record-there, record-value}
use Rattle.typed_cells.proofs.composites.record_of_fields.Goals as goal

pub rec-requires-clause-differ : goal.rec-requires-clause-differ
rec-requires-clause-differ c =
    record-differs _ _ _ _ c.in_ok-fields.ensures c.from_vec.ensures c.requires.one_each c.requires.differ

pub rec-requires-clause-older : goal.rec-requires-clause-older
rec-requires-clause-older c = record-there _ _ _ _ c.in_ok-fields.ensures c.from_vec.ensures _ c.requires.there

pub returns-clause-value : goal.returns-clause-value
returns-clause-value c =
    record-value _ _ _ _ c.in_ok-fields.ensures c.from_vec.ensures c.args.b.now _ _
    c.requires.one_each c.requires.differ c.in_ok-id.ensures.value

pub returns-clause-sort : goal.returns-clause-sort
returns-clause-sort c =
    λ ss h. record-sort _ _ _ _ c.in_ok-fields.ensures c.from_vec.ensures c.args.b.now _ _ ss
    c.in_ok-id.ensures.cell c.in_ok-id.ensures.grows h
