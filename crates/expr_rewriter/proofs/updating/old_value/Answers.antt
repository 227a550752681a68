use Rattle.expr_rewriter.proofs.UpdateNodes.{index_indexed, is_old}
use Rattle.expr_rewriter.proofs.updating.old_value.Goals as goal

pub old_at-requires : goal.old_at-requires
old_at-requires c = index_indexed c.args.b.now c.args.f c.args.x c.args.index.now c.in_ok-place.place c.requires c.in_ok-place.ensures

pub returns-clause-old : goal.returns-clause-old
returns-clause-old c = is_old c.args.b.now c.old_at.new.b c.args.f c.args.x c.args.index.now c.in_ok-place.place _ c.in_ok-place.ensures c.in_ok-old.ensures.old
