use Rattle.std.proofs.Common.{arith}
use Rattle.snowcat_types.proofs.NameSteps.{annotated_all, annotated_more, is_without}
use Rattle.snowcat_types.proofs.names.first_without.Goals as goal

pub returns-in-None : goal.returns-in-None
returns-in-None c =
    is_without c.args.decls.now c.loop-decl.decl-index c.decl-item.result c.bytes.result.now c.loop-decl-test.true c.decl-item.is
    c.loop-decl.invariant
    c.bytes.ensures c.in-None.ensures.none

pub loop-decl-preserved : goal.loop-decl-preserved
loop-decl-preserved c =
    annotated_more c.args.decls.now c.loop-decl.decl-index c.decl-item.result c.bytes.result.now _ c.loop-decl-test.true c.decl-item.is
    c.loop-decl.invariant
    c.bytes.ensures c.in-Some.ensures.some

pub returns : goal.returns
returns c = annotated_all c.args.decls.now c.loop-decl.decl-index (let h = c.loop-decl-test.false in omega (arith, h)) c.loop-decl.invariant
