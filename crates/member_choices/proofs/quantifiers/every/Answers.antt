use Rattle.std.proofs.Common.{refl}
use Rattle.cell_arena.proofs.Growing.{Grows-formula, Grows-trans}
use Rattle.member_choices.proofs.Joined.{negated-lit}
use Rattle.member_choices.proofs.Quantified.{quantifier-cells, every-binds}
use Rattle.member_choices.proofs.quantifiers.every.Goals as goal

pub returns-in_err-cell-clause-grows : goal.returns-in_err-cell-clause-grows
returns-in_err-cell-clause-grows c = Grows-trans _ _ _
    (Grows-formula _ _ c.in_ok-any.ensures.grows refl) c.in_err-cell.ensures.grows

pub returns-clause-grows : goal.returns-clause-grows
returns-clause-grows c = Grows-trans _ _ _ (Grows-formula _ _ c.in_ok-any.ensures.grows refl) c.in_ok-cell.ensures.grows

pub returns-clause-cells : goal.returns-clause-cells
returns-clause-cells c =
    quantifier-cells c.args.b.now _ _ c.args.cs.now c.args.bodies.now _ _ _ _ _ c.requires refl
    c.in_ok-any.ensures.finds c.in_ok-cell.ensures.grows
    c.in_ok-cell.ensures.cell c.in_ok-cell.ensures.value _ refl refl refl

pub returns-clause-binds : goal.returns-clause-binds
returns-clause-binds c =
    every-binds c.args.b.now _ _ c.args.cs.now c.args.bodies.now _ _ _ _ _ c.requires refl c.in_ok-any.ensures.finds
    c.in_ok-cell.ensures.grows
    c.in_ok-cell.ensures.cell c.in_ok-cell.ensures.value refl (λ a. negated-lit _ _ a c.negated.ensures)
