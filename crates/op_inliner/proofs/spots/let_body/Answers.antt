use Rattle.std.proofs.Common.{refl, arith}
use Rattle.op_inliner.proofs.SpotLemmas.{let_leads}
use Rattle.op_inliner.proofs.spots.let_body.Goals as goal

pub returns : goal.returns
returns c =
    let_leads c.args.frames.now.items c.define_all.new.frames.items c.args.spot _ c.args.lets.now _ _ c.requires.definitions c.as_slice-args.ensures c.as_slice.ensures
    (let h = c.if-lets-args.false in omega (arith, h)) c.in_ok-scope.ensures c.index-args-lets.is refl refl
