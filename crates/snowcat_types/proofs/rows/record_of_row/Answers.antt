use Rattle.std.proofs.Common.{subst, sym}
use Rattle.snowcat_types.specs.inner.Gathered.{TypesNamed}
use Rattle.snowcat_types.proofs.RowsNamed.{unknowns_named}
use Rattle.snowcat_types.proofs.rows.record_of_row.Goals as goal

pub returns-clause-named : goal.returns-clause-named
returns-clause-named c =
    let ts = unknowns_named c.in_ok-types.types.items c.args.first 0 c.args.n c.in_ok-types.ensures in
    c.gives.ensures.named ts (c.in_ok-of.ensures.named (subst TypesNamed (sym c.as_slice.ensures.value) ts))
