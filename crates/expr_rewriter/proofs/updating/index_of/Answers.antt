use Rattle.std.proofs.Common.{refl, sym, ◌∙◌}
use Rattle.expr_rewriter.proofs.Updates.{cell_index, name_index, number_index}
use Rattle.expr_rewriter.proofs.updating.index_of.Goals as goal

pub returns-in-Some : goal.returns-in-Some
returns-in-Some c =
    number_index c.args.arena.now c.args.f c.args.x c.args.index.now c.in-Some.place _ (sym c.kind.ensures.same ∙ c.in-Tup.is) c.in-Some.ensures

pub returns-in-Some-name_of : goal.returns-in-Some-name_of
returns-in-Some-name_of c =
    name_index c.args.arena.now c.args.f c.args.x c.args.index.now _ _ _ (sym c.kind.ensures.same ∙ c.in-Rec.is) c.in-Some-name_of.ensures
    (λ part names s h. h) (λ a. refl)

pub returns-in_default : goal.returns-in_default
returns-in_default c =
    cell_index c.args.arena.now c.args.f c.args.x c.args.index.now (λ ps e. c.in_default.not-Tup _ (c.kind.ensures.same ∙ e))
    (λ fs e. c.in_default.not-Rec _ (c.kind.ensures.same ∙ e))
