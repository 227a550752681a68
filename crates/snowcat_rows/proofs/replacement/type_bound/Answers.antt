use Rattle.snowcat_rows.specs.inner.Places.{entry}
use Rattle.snowcat_rows.proofs.Indexes.{reads, reads_none, type_read, other_type, type_at_row, type_past}
use Rattle.snowcat_rows.proofs.replacement.type_bound.Goals as goal

pub returns-then-w-v-clause-mean : goal.returns-then-w-v-clause-mean
returns-then-w-v-clause-mean c =
    let g = reads c.of.result c.args.bindings.now _ _ c.in-Some-Type.ensures.lookup.0 c.in-Some-Type.ensures.lookup.1 c.in-Some-Type.field-0-is in
    type_read (entry c.args.places.now) c.of.result c.args.v c.args.bindings.now c.requires _ _ g c.if-w-v.true

pub returns-else-w-v-clause-mean : goal.returns-else-w-v-clause-mean
returns-else-w-v-clause-mean c =
    let g = reads c.of.result c.args.bindings.now _ _ c.in-Some-Type.ensures.lookup.0 c.in-Some-Type.ensures.lookup.1 c.in-Some-Type.field-0-is in
    other_type (entry c.args.places.now) c.of.result c.args.v c.args.bindings.now c.requires c.of.ensures _ _ g c.if-w-v.false

pub returns-in-Some-Row-clause-mean : goal.returns-in-Some-Row-clause-mean
returns-in-Some-Row-clause-mean c =
    let g = reads c.of.result c.args.bindings.now _ _ c.in-Some-Row.ensures.lookup.0 c.in-Some-Row.ensures.lookup.1 c.in-Some-Row.field-0-is in
    type_at_row (entry c.args.places.now) c.of.result c.args.v c.args.bindings.now c.requires c.of.ensures _ _ _ g

pub returns-in-None-clause-mean : goal.returns-in-None-clause-mean
returns-in-None-clause-mean c =
    type_past (entry c.args.places.now) c.of.result c.args.v c.args.bindings.now c.requires c.of.ensures (reads_none c.of.result c.args.bindings.now c.in-None.ensures.lookup.0)
