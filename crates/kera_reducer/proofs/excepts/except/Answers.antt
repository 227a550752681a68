use Rattle.kera_reducer.proofs.ExceptSettings.{except_made}
use Rattle.kera_reducer.proofs.IfOks.{ok_by}
use Rattle.kera_reducer.proofs.excepts.except.Goals as goal

pub returns : goal.returns
returns c =
    ok_by _ _ c.except_of.result c.except_of.ensures
    (λ k h. except_made c.args.made.now.place c.args.made.now.ty.now c.args.counts.now c.args.made.now.depth
    c.args.made.now.bound c.args.kids.items k c.if-made-ne1.false h)
