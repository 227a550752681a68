use Rattle.std.proofs.Common.{ap, ◌-◌, suc, arith}
use Rattle.std.proofs.lemmas.Int.{ints}
use Rattle.tla_values.specs.declared.value.Value.{Int}
use Rattle.trace_text.proofs.ValueForms.{fits_below}
use Rattle.trace_text.proofs.Decimals.{decimal_read, digits_are}
use Rattle.trace_text.proofs.numbers.negative.Goals as goal

pub value-n-requires : goal.value-n-requires
value-n-requires c = digits_are _ c.run.ensures.passes

pub returns-then-n-eq0-clause-reads : goal.returns-then-n-eq0-clause-reads
returns-then-n-eq0-clause-reads c = λ m r small ends e.
    let read = decimal_read c.args.bytes.now _ _ c.value-n.result (suc m) r c.run.ensures c.value-n.ensures (omega arith) ends e in
    omega (arith, read.0)

pub returns-clause-reads : goal.returns-clause-reads
returns-clause-reads c = λ m r small ends e.
    let read = decimal_read c.args.bytes.now _ _ c.value-n.result (suc m) r c.run.ensures c.value-n.ensures (omega arith) ends e in
    (ap Int (omega (arith, ints, read.0)), read.1)

pub returns-clause-fits : goal.returns-clause-fits
returns-clause-fits c = fits_below _ (c.value-n.result - 1) (omega (arith, ints)) (omega arith)
