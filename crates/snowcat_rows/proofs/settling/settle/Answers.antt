use Rattle.std.proofs.Common.{◌∙◌, ◌+◌, sym, arith}
use Rattle.std.proofs.lemmas.List.{length-map}
use Rattle.snowcat_rows.specs.Types.{mean}
use Rattle.snowcat_rows.specs.Codes.{binding, bindings_of}
use Rattle.snowcat_rows.proofs.Lookups.{one_pass, cleared_is}
use Rattle.snowcat_rows.proofs.Settles.{free_solved}
use Rattle.snowcat_rows.proofs.settling.settle.Goals as goal

pub returns-then-is_settled-clause-mean : goal.returns-then-is_settled-clause-mean
returns-then-is_settled-clause-mean c =
    free_solved (bindings_of c.args.bindings.now) (mean c.loop-pass.current) (mean c.args.t.now) c.requires.chain c.if-is_settled.ensures c.loop-pass.invariant.0

pub loop-pass-preserved : goal.loop-pass-preserved
loop-pass-preserved c =
    let p = one_pass (bindings_of c.args.bindings.now) c.loop-pass.pass (c.loop-pass.pass + 1) (mean c.loop-pass.current) (mean c.in_ok-current-2.current) (mean c.args.t.now) c.requires.chain
    c.in_ok-current-2.ensures.mean (omega arith) c.loop-pass.invariant.0 c.loop-pass.invariant.1 in
    (p.0, p.1, λ a h. c.in_ok-current-2.ensures.named a (c.loop-pass.invariant.2 a h))

pub returns-clause-mean : goal.returns-clause-mean
returns-clause-mean c =
    sym (cleared_is (bindings_of c.args.bindings.now) (mean c.loop-pass.current) c.loop-pass.pass (omega (arith, length-map c.args.bindings.now binding)) c.loop-pass.invariant.1) ∙ c.loop-pass.invariant.0
