use Rattle.std.proofs.Common.{◌≡◌, ap, arith, length, sym, take, ◌∙◌}
use Rattle.std.specs.List.{list_all}
use Rattle.trace_text.specs.inner.Reading.{is_in}
use Rattle.trace_text.proofs.Runs.{run_stops, run_ends}
use Rattle.trace_text.proofs.bytes.run.Goals as goal

pub returns-then-not-has : goal.returns-then-not-has
returns-then-not-has c =
    run_stops (is_in c.args.class) c.args.bytes.now _ _ c.loop-i.i c.loop-i.invariant c.split_at.ensures.by_index.0 c.split_at.ensures.front c.split_at.ensures.back
    c.loop-i-test.true (sym c.has.ensures ∙ c.if-not-has.true)

pub returns : goal.returns
returns c =
    let end : length c.args.bytes.now ≡ c.loop-i.i = omega arith in
    run_ends (is_in c.args.class) c.args.bytes.now _ _ (length c.args.bytes.now) (ap (λ i. list_all (is_in c.args.class) (take i c.args.bytes.now)) end ∙ c.loop-i.invariant)
    c.split_at-2.ensures.by_index.0 c.split_at-2.ensures.front c.split_at-2.ensures.back (omega arith)
