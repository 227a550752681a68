use Rattle.std.proofs.Common.{ap, arith}
use Rattle.std.proofs.lemmas.Int.{ints}
use Rattle.tla_values.specs.declared.value.Value.{Int}
use Rattle.trace_text.proofs.ValueForms.{fits_count}
use Rattle.trace_text.proofs.Decimals.{decimal_read, digits_are}
use Rattle.trace_text.proofs.numbers.positive.Goals as goal

pub value-n-requires : goal.value-n-requires
value-n-requires c = digits_are _ c.run.ensures.passes

pub returns-then-n-lt-LIMIT-clause-reads : goal.returns-then-n-lt-LIMIT-clause-reads
returns-then-n-lt-LIMIT-clause-reads c = λ m r small ends e.
    let read = decimal_read c.args.bytes.now _ _ c.value-n.result m r c.run.ensures c.value-n.ensures (omega arith) ends e in
    (ap Int (omega (arith, ints, read.0)), read.1)

pub returns-else-n-lt-LIMIT-clause-reads : goal.returns-else-n-lt-LIMIT-clause-reads
returns-else-n-lt-LIMIT-clause-reads c = λ m r small ends e.
    let read = decimal_read c.args.bytes.now _ _ c.value-n.result m r c.run.ensures c.value-n.ensures (omega arith) ends e in
    omega (arith, read.0)

pub returns-then-n-lt-LIMIT-clause-fits : goal.returns-then-n-lt-LIMIT-clause-fits
returns-then-n-lt-LIMIT-clause-fits c = fits_count _ c.value-n.result (omega (arith, ints)) (omega arith)
