use Rattle.std.proofs.Common.{◌∙◌, sym, ap}
use Rattle.snowcat_rows.specs.Codes.{has}
use Rattle.snowcat_rows.specs.inner.Rounds.{row_of}
use Rattle.snowcat_rows.specs.inner.Places.{entry}
use Rattle.snowcat_rows.proofs.Indexes.{reads, reads_none, row_read, other_row, row_at_type, row_past}
use Rattle.snowcat_rows.proofs.replacement.row_bound.Goals as goal

pub returns-then-q-r-clause-mean : goal.returns-then-q-r-clause-mean
returns-then-q-r-clause-mean c =
    let g = reads c.of.result c.args.bindings.now _ _ c.in-Some-Row.ensures.lookup.0 c.in-Some-Row.ensures.lookup.1 c.in-Some-Row.field-0-is in
    row_read (entry c.args.places.now) c.of.result c.args.r c.args.bindings.now c.requires _ _ _ g c.if-q-r.true ∙ ap (λ l. row_of (has l) c.in-Some-Row.tail) (sym c.as_slice.ensures)

pub returns-else-q-r-clause-mean : goal.returns-else-q-r-clause-mean
returns-else-q-r-clause-mean c =
    let g = reads c.of.result c.args.bindings.now _ _ c.in-Some-Row.ensures.lookup.0 c.in-Some-Row.ensures.lookup.1 c.in-Some-Row.field-0-is in
    other_row (entry c.args.places.now) c.of.result c.args.r c.args.bindings.now c.requires c.of.ensures _ _ _ g c.if-q-r.false

pub returns-in-Some-Type-clause-mean : goal.returns-in-Some-Type-clause-mean
returns-in-Some-Type-clause-mean c =
    let g = reads c.of.result c.args.bindings.now _ _ c.in-Some-Type.ensures.lookup.0 c.in-Some-Type.ensures.lookup.1 c.in-Some-Type.field-0-is in
    row_at_type (entry c.args.places.now) c.of.result c.args.r c.args.bindings.now c.requires c.of.ensures _ _ g

pub returns-in-None-clause-mean : goal.returns-in-None-clause-mean
returns-in-None-clause-mean c =
    row_past (entry c.args.places.now) c.of.result c.args.r c.args.bindings.now c.requires c.of.ensures (reads_none c.of.result c.args.bindings.now c.in-None.ensures.lookup.0)
