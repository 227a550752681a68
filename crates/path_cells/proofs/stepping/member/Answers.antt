use Rattle.std.proofs.Common.{refl, subst, sym, arith}
use Rattle.cell_arena.proofs.Growing.{Grows-trans, Satisfies-before}
use Rattle.kernel_trees.specs.declared.path.AssignedStep.TheVariants as mark
use Rattle.typed_cells.specs.KindSorts.{sort_of}
use Rattle.form_choices.proofs.TreeForms.{tree-finite}
use Rattle.expr_rewriter.proofs.Holding.{HoldsEnv-later}
use Rattle.path_cells.specs.inner.Steps.{IsStepCells}
use Rattle.path_cells.proofs.Chosen.{none_of}
use Rattle.path_cells.proofs.FormFacts.{among_cells, no_member_cells}
use Rattle.path_cells.proofs.StepFacts.{same_step}
use Rattle.path_cells.proofs.stepping.member.Goals as goal

pub pick_form-requires : goal.pick_form-requires
pick_form-requires c =
    let m = c.requires in
    record { sort = sort_of m.member; is = (c.in_ok-made.ensures.sort m.member m.is).form }

pub returns-in_default-clause-step : goal.returns-in_default-clause-step
returns-in_default-clause-step c =
    λ i.
    let o = c.in_ok-made.ensures in
    let h = c.requires.can in
    let gr = o.grows in
    let hi = c.in_ok-chosen.ensures.grows in
    let whole = Grows-trans c.args.b.now c.rewrite_form.new.b c.pick_form.new.b gr hi in
    let forced = rw c.top.ensures.same at c.top.ensures.forced in
    let some = rw c.top.ensures.same at c.top.ensures.below in
    subst (λ m. IsStepCells c.args.b.now c.pick_form.new.b c.args.env.now (mark.Among i c.args.e.now) m) (sym c.in_ok-none.ensures)
    (no_member_cells c.args.b.now c.rewrite_form.new.b c.args.env.now c.args.e.now c.in_ok-made.made gr c.requires o.sort o.rewrites h.holds.there
    (HoldsEnv-later c.args.b.now c.rewrite_form.new.b h.names h.context c.args.e.now c.args.env.now gr h.holds).there
    (λ w k sc s t f n e. tree-finite k w sc s t f n e) c.pick_form.new.b hi i
    (c.in_ok-chosen.ensures.none (none_of _ (λ x e. c.in_default.not-Some x e)))
    (λ a s. forced a (Satisfies-before c.args.b.now c.pick_form.new.b a whole s)) (let v = whole.formula.vars in omega arith))

pub returns-clause-step : goal.returns-clause-step
returns-clause-step c =
    λ i.
    let o = c.in_ok-made.ensures in
    let h = c.requires.can in
    let p = rw c.in-Some.is at c.in_ok-chosen.ensures.picks in
    same_step c.args.b.now c.pick_form.new.b c.args.env.now _ _ _ _ _ _ _ refl c.in_ok-choices.ensures c.in_ok-cells.ensures
    (among_cells c.args.b.now c.rewrite_form.new.b c.args.env.now c.args.e.now c.in_ok-made.made o.grows c.requires o.sort o.rewrites h.holds.there
    (HoldsEnv-later c.args.b.now c.rewrite_form.new.b h.names h.context c.args.e.now c.args.env.now o.grows h.holds).there
    (λ w k sc s t f n e. tree-finite k w sc s t f n e) c.pick_form.new.b c.in_ok-chosen.ensures.grows i _ p)
