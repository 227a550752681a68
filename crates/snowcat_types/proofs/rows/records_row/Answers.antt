use Rattle.std.proofs.Common.{subst, sym}
use Rattle.snowcat_types.specs.inner.Gathered.{TypesNamed}
use Rattle.snowcat_types.proofs.RowsNamed.{sets_named, unknowns_named}
use Rattle.snowcat_types.proofs.rows.records_row.Goals as goal

pub returns-clause-named : goal.returns-clause-named
returns-clause-named c =
    c.gives.ensures.named
    (sets_named c.in_ok-items.items.items c.in_ok-types.types.items c.args.first 0 c.args.n c.in_ok-types.ensures c.in_ok-items.ensures)
    (c.in_ok-of.ensures.named
    (c.in_ok-record_of.ensures.named
    (subst TypesNamed (sym c.as_slice.ensures.value) (unknowns_named c.in_ok-items.items.items c.args.first 0 c.args.n c.in_ok-items.ensures))))
