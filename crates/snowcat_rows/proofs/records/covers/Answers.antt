use Rattle.std.proofs.Common.{◌≡◌, ◌+◌, arith, rules}
use Rattle.snowcat_rows.specs.inner.Rounds.{Is}
use Rattle.snowcat_rows.specs.Types.{none}
use Rattle.snowcat_rows.specs.Codes.{has}
use Rattle.snowcat_rows.proofs.Fields.{left_next, uncovered, some_is, none_is}
use Rattle.snowcat_rows.proofs.records.covers.Goals as goal

pub returns-then-is_none : goal.returns-then-is_none
returns-then-is_none c =
    uncovered c.args.fs.now c.args.gs.now c.loop-g.g-index c.g-item.result (search rules) c.g-item.is
    (none_is c.args.fs.now c.g-item.result.0 c.find.result c.find.ensures c.if-is_none.ensures)

pub loop-g-preserved : goal.loop-g-preserved
loop-g-preserved c =
    left_next (λ n. Is (has c.args.gs.now n) × (has c.args.fs.now n ≡ none)) c.args.gs.now c.loop-g.g-index (c.loop-g.g-index + 1) c.g-item.result (search rules) c.g-item.is (omega arith)
    (λ p. some_is c.args.fs.now c.g-item.result.0 c.find.result c.find.ensures c.if-is_none.ensures p.1) c.loop-g.invariant
