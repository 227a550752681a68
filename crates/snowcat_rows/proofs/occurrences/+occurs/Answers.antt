use Rattle.std.proofs.Common.{rules}
use Rattle.snowcat_rows.specs.Codes.{variable}
use Rattle.snowcat_rows.proofs.Differing.{occurs_at}
use Rattle.snowcat_rows.proofs.occurrences.+occurs.Goals as goal

pub occurs_all-returns-then-occurs : goal.occurs_all-returns-then-occurs
occurs_all-returns-then-occurs t c = occurs_at (variable c.args.x) c.args.ts.now c.loop-i.i c.index-ts-i.result (search rules) c.index-ts-i.is c.if-occurs.ensures
