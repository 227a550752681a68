use Rattle.snowcat_rows.specs.Codes.{bindings_of, named}
use Rattle.snowcat_rows.specs.inner.Lookups.{looked}
use Rattle.snowcat_rows.proofs.Settles.{row_under, type_under}
use Rattle.snowcat_rows.proofs.replacement.replace_bound.Goals as goal

pub returns-in_ok-whole-in-Type-clause-mean : goal.returns-in_ok-whole-in-Type-clause-mean
returns-in_ok-whole-in-Type-clause-mean c = type_under (looked (bindings_of c.args.bindings.now)) c.in-Type.v c.in-Type.t c.in_ok-whole-in-Type.whole c.args.b.now c.in-Type.is c.in_ok-whole-in-Type.ensures.mean

pub returns-then-are_small-clause-mean : goal.returns-then-are_small-clause-mean
returns-then-are_small-clause-mean c =
    row_under (looked (bindings_of c.args.bindings.now)) c.in-Row.r c.in-Row.fs c.as_slice.result.now c.in_ok-whole-in-Row.whole.0 c.in-Row.tail c.in_ok-whole-in-Row.whole.1
    (named c.in_ok-fields-in-Row.fields.items) c.args.b.now c.in-Row.is c.as_slice.ensures c.in_ok-fields-in-Row.ensures.mean c.in_ok-whole-in-Row.ensures.mean
