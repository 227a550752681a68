use Rattle.std.proofs.Common.{refl, sym, ◌∙◌, ap, arith, subst}
use Rattle.std.specs.List.{list_any}
use Rattle.sat_formula.proofs.Extension.{Satisfies-older}
use Rattle.path_walks.specs.inner.Walks.{OneEach}
use Rattle.path_cells.specs.declared.walk.Walk.{Walk}
use Rattle.path_cells.specs.inner.Steps.{is_never}
use Rattle.path_cells.specs.inner.Walking.{IsPast, never}
use Rattle.path_cells.proofs.AddedLiterals.{bottom_added}
use Rattle.path_cells.proofs.Paths.{past_adds}
use Rattle.path_cells.proofs.rewriting.take.Goals as goal

pub returns-then-has_bottom-clause-takes : goal.returns-then-has_bottom-clause-takes
returns-then-has_bottom-clause-takes c =
    let o = c.in_ok-cells.ensures in
    let forced = rw c.top.ensures.same at c.top.ensures.forced in
    let some = rw c.top.ensures.same at c.top.ensures.below in
    let q = ap (list_any is_never) (sym c.as_slice-choices.ensures) ∙ sym c.has_bottom.ensures ∙ c.if-has_bottom.true in
    never q
    (bottom_added _ c.args.made.now c.args.walk.cells c.in_ok-cells.cells _ o.adds q (λ a s. forced a (Satisfies-older _ _ a o.grows s))
    (let v = o.grows.vars in omega arith) refl refl refl)
    refl o.next refl

pub past-requires : goal.past-requires
past-requires c =
    subst (OneEach c.args.step.now) (sym c.as_slice-ids.ensures)
    (c.requires.gives (ap (list_any is_never) (sym c.as_slice-choices.ensures) ∙ sym c.has_bottom.ensures ∙ c.if-has_bottom.false))

pub returns-clause-takes : goal.returns-clause-takes
returns-clause-takes c =
    let o = c.in_ok-cells.ensures in
    let w : Walk = record { env = c.args.walk.env; cells = c.in_ok-cells.cells } in
    past_adds c.add_literals.new.f c.args.step.now c.args.made.now c.args.walk w c.in_ok-behind.behind
    (ap (list_any is_never) (sym c.as_slice-choices.ensures) ∙ sym c.has_bottom.ensures ∙ c.if-has_bottom.false) o.adds o.next refl
    (subst (λ ids. IsPast c.args.step.now ids w c.in_ok-behind.behind) c.as_slice-ids.ensures c.in_ok-behind.ensures)
