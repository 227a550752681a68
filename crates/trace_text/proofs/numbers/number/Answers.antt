use Rattle.tla_values.specs.declared.value.Value.{Int}
use Rattle.trace_text.proofs.Decimals.{behind_minus, without_minus}
use Rattle.trace_text.specs.inner.Reading.{Gives}
use Rattle.trace_text.proofs.numbers.number.Goals as goal

pub returns-in-Some-clause-reads : goal.returns-in-Some-clause-reads
returns-in-Some-clause-reads c =
    behind_minus c.args.bytes.now (λ z r. Gives c.negative.result (Int z) r) c.in-Some.digits.now c.in-Some.ensures c.negative.ensures.reads

pub returns-in-None-clause-reads : goal.returns-in-None-clause-reads
returns-in-None-clause-reads c =
    without_minus c.args.bytes.now (λ z r. Gives c.positive.result (Int z) r) c.in-None.ensures c.positive.ensures.reads
