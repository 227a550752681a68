use Rattle.expr_rewriter.proofs.FormSides.{two_behind}
use Rattle.expr_rewriter.proofs.relating.behind_two.Goals as goal

pub returns-clause-behind : goal.returns-clause-behind
returns-clause-behind c =
    two_behind c.join.new.f _ c.args.x c.args.y c.in_ok-faults.faults c.args.own c.in_ok-r.r c.in_ok-r.ensures.grows
    c.in_ok-faults.ensures.joins
    c.in_ok-r.ensures.behind
