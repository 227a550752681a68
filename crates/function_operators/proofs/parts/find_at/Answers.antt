use Rattle.std.proofs.Common.{sym, ◌∙◌}
use Rattle.cell_merge.proofs.Edges.{sort-there}
use Rattle.function_operators.proofs.Found.{finds_argument, finds_place, function_kind}
use Rattle.function_operators.proofs.parts.find_at.Goals as goal

pub returns-in_ok-found-in-Seq-clause-finds : goal.returns-in_ok-found-in-Seq-clause-finds
returns-in_ok-found-in-Seq-clause-finds c =
    finds_place c.args.b.now _ _ _ _ _ _ (sort-there _ _ _ c.requires.is) (sym c.kind.ensures.same ∙ c.in-Seq.is)
    c.in_ok-found-in-Seq.ensures.none.0 c.in_ok-found-in-Seq.ensures.applies

pub returns-in_ok-found-in_default : goal.returns-in_ok-found-in_default
returns-in_ok-found-in_default c =
    let k = function_kind c.args.b.now.arena.kinds c.args.f c.args.x _ _ c.requires.is c.requires.at
    (λ w ps e. c.in_default.not-Seq w ps (c.kind.ensures.same ∙ e)) in
    record {
      finds = finds_argument c.args.b.now _ _ _ k.0 _ (sort-there _ _ _ c.requires.is) k.1
          c.in_ok-found-in_default.ensures.none.0 c.in_ok-found-in_default.ensures.applies;
      grows = c.in_ok-found-in_default.ensures.grows;
    }
