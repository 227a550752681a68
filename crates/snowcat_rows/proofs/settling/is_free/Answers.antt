use Rattle.std.proofs.Common.{refl}
use Rattle.snowcat_rows.specs.Codes.{variable}
use Rattle.snowcat_rows.specs.inner.Places.{entry}
use Rattle.snowcat_rows.proofs.Indexes.{reads, reads_none}
use Rattle.snowcat_rows.proofs.Settles.{free_at, free_past}
use Rattle.snowcat_rows.proofs.settling.is_free.Goals as goal

pub returns-in-Some : goal.returns-in-Some
returns-in-Some c =
    let g = reads c.of.result c.args.bindings.now _ c.in-Some.b.now c.in-Some.ensures.lookup.0 c.in-Some.ensures.lookup.1 refl in
    free_at (entry c.args.places.now) c.of.result c.args.bindings.now (variable c.args.x) c.requires c.of.ensures c.in-Some.b.now c.args.x c.bound_by.result c.same_variable.result
    g refl c.bound_by.ensures c.same_variable.ensures

pub returns-in-None : goal.returns-in-None
returns-in-None c =
    free_past (entry c.args.places.now) c.of.result c.args.bindings.now (variable c.args.x) c.requires c.of.ensures (reads_none c.of.result c.args.bindings.now c.in-None.ensures.lookup.0)
