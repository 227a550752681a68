use Rattle.std.proofs.lemmas.Result.{err_from_is_err_and}
use Rattle.snowcat_rows.specs.Views.{issued_of}
use Rattle.snowcat_types.proofs.Asked.{all_met, built_failed, built_met, inside_at, named_at}
use Rattle.snowcat_types.proofs.Further.{further_then}
use Rattle.snowcat_types.proofs.asking.ask_each.Goals as goal

pub ask_one-requires-clause-within : goal.ask_one-requires-clause-within
ask_one-requires-clause-within c =
    inside_at (issued_of c.args.subst.now) (issued_of c.loop-next.subst) c.args.asked.now c.loop-next.next-index c.next-item.result c.loop-next.invariant.kept.more
    c.loop-next-test.true c.next-item.is c.requires.within

pub ask_one-requires-clause-named : goal.ask_one-requires-clause-named
ask_one-requires-clause-named c = named_at c.args.asked.now c.loop-next.next-index c.next-item.result c.loop-next-test.true c.next-item.is c.requires.named

pub returns-in_err-ask_one-clause-tried : goal.returns-in_err-ask_one-clause-tried
returns-in_err-ask_one-clause-tried c =
    let p = err_from_is_err_and c.from_residual.result c.from_residual.ensures.1 in
    rw (p.1, p.2)
    (built_failed c.args.asked.now c.loop-next.next-index c.next-item.result c.loop-next-test.true c.next-item.is c.args.subst.now c.loop-next.subst c.ask_one.new.subst c.ask_one.result
    c.loop-next.invariant.reached c.ask_one.ensures.tried c.in_err-ask_one.field-0.0 c.in_err-ask_one.was)

pub loop-next-preserved : goal.loop-next-preserved
loop-next-preserved c = record {
  kept = further_then _ c.loop-next.subst _ c.loop-next.invariant.kept c.ask_one.ensures.kept;
  reached =
      built_met c.args.asked.now c.loop-next.next-index c.next-item.result c.loop-next-test.true c.next-item.is c.args.subst.now c.loop-next.subst c.ask_one.new.subst c.ask_one.result
      c.loop-next.invariant.reached c.ask_one.ensures.tried c.in_ok-ask_one.field-0 c.in_ok-ask_one.was;
}

pub returns-clause-tried : goal.returns-clause-tried
returns-clause-tried c = all_met c.args.asked.now c.loop-next.next-index c.args.subst.now c.loop-next.subst tt c.loop-next-test.false c.loop-next.invariant.reached
