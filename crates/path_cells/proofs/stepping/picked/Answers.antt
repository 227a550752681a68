use Rattle.std.proofs.Common.{refl, subst, sym, arith}
use Rattle.cell_arena.proofs.Growing.{Grows-trans, Satisfies-before}
use Rattle.kernel_trees.specs.Paths.{sets as sets_of}
use Rattle.kernel_trees.specs.declared.path.AssignedStep.TheVariants as mark
use Rattle.outcome_cells.proofs.Later.{AllCells-below, AllCells-later}
use Rattle.expr_rewriter.specs.inner.Parts.{AreTrees}
use Rattle.expr_rewriter.proofs.Steps.{trees_later}
use Rattle.path_cells.specs.inner.Steps.{IsStepCells}
use Rattle.path_cells.proofs.Chosen.{none_of}
use Rattle.path_cells.proofs.PickFacts.{are_sets, never_cells, pick_cells, set_cells, set_sorts}
use Rattle.path_cells.proofs.StepFacts.{same_step}
use Rattle.path_cells.proofs.stepping.picked.Goals as goal

pub joined-requires : goal.joined-requires
joined-requires c =
    let t = subst (AreTrees c.sets.new.b c.args.env.now (sets_of c.args.ps.now)) (sym c.as_slice-xs.ensures.value) c.in_ok-made.ensures.trees in
    AllCells-below c.sets.new.b (set_sorts c.requires.members) c.as_slice-xs.result.now
    (set_cells c.sets.new.b c.args.env.now c.args.ps.now c.as_slice-xs.result.now c.requires.members t c.requires.are)

pub pick_each-requires : goal.pick_each-requires
pick_each-requires c =
    let t = subst (AreTrees c.sets.new.b c.args.env.now (sets_of c.args.ps.now)) (sym c.as_slice-xs.ensures.value) c.in_ok-made.ensures.trees in
    are_sets c.joined.new.b c.requires.members c.as_slice-xs.result.now
    (AllCells-later c.sets.new.b c.joined.new.b (set_sorts c.requires.members) c.as_slice-xs.result.now c.in_ok-faults.ensures.grows
    (set_cells c.sets.new.b c.args.env.now c.args.ps.now c.as_slice-xs.result.now c.requires.members t c.requires.are))

pub returns-in_default-clause-step : goal.returns-in_default-clause-step
returns-in_default-clause-step c =
    let gr = Grows-trans c.args.b.now c.sets.new.b c.joined.new.b c.in_ok-made.ensures.grows c.in_ok-faults.ensures.grows in
    let t = trees_later c.args.b.now c.sets.new.b c.joined.new.b c.args.env.now (sets_of c.args.ps.now) c.as_slice-xs.result.now c.requires.can
    c.in_ok-made.ensures.grows c.in_ok-faults.ensures.grows
    (subst (AreTrees c.sets.new.b c.args.env.now (sets_of c.args.ps.now)) (sym c.as_slice-xs.ensures.value) c.in_ok-made.ensures.trees) in
    let hi = c.in_ok-chosen.ensures.grows in
    let whole = Grows-trans c.args.b.now c.joined.new.b c.pick_each.new.b gr hi in
    let forced = rw c.top.ensures.same at c.top.ensures.forced in
    let some = rw c.top.ensures.same at c.top.ensures.below in
    subst (λ m. IsStepCells c.args.b.now c.pick_each.new.b c.args.env.now (mark.Pick c.args.ps.now) m) (sym c.in_ok-none.ensures)
    (never_cells c.args.b.now c.joined.new.b c.args.env.now c.args.ps.now c.as_slice-xs.result.now c.in_ok-faults.faults gr c.requires t
    c.in_ok-faults.ensures.joins c.requires.there c.pick_each.new.b hi
    (c.in_ok-chosen.ensures.none (none_of _ (λ x e. c.in_default.not-Some x e)))
    (λ a s. forced a (Satisfies-before c.args.b.now c.pick_each.new.b a whole s)) (let v = whole.formula.vars in omega arith))

pub returns-clause-step : goal.returns-clause-step
returns-clause-step c =
    let gr = Grows-trans c.args.b.now c.sets.new.b c.joined.new.b c.in_ok-made.ensures.grows c.in_ok-faults.ensures.grows in
    let t = trees_later c.args.b.now c.sets.new.b c.joined.new.b c.args.env.now (sets_of c.args.ps.now) c.as_slice-xs.result.now c.requires.can
    c.in_ok-made.ensures.grows c.in_ok-faults.ensures.grows
    (subst (AreTrees c.sets.new.b c.args.env.now (sets_of c.args.ps.now)) (sym c.as_slice-xs.ensures.value) c.in_ok-made.ensures.trees) in
    let p = rw c.in-Some.is at c.in_ok-chosen.ensures.picks in
    same_step c.args.b.now c.pick_each.new.b c.args.env.now _ _ _ _ _ _ _ refl c.from_vec.ensures c.from_vec-2.ensures
    (pick_cells c.args.b.now c.joined.new.b c.args.env.now c.args.ps.now c.as_slice-xs.result.now c.in_ok-faults.faults gr c.requires t
    c.in_ok-faults.ensures.joins c.requires.there c.pick_each.new.b c.in_ok-chosen.ensures.grows _ _ p)
