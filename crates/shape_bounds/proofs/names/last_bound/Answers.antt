use Rattle.std.proofs.Common.{◌≡◌, ◌∙◌, ◌-◌, suc, sym, ap, map, take, arith}
use Rattle.std.proofs.Math.Seq.{take-length}
use Rattle.tla_meaning.specs.Scopes.{find_last}
use Rattle.kernel_trees.specs.Trees.{number_name}
use Rattle.kernel_shapes.specs.Sized.{found}
use Rattle.shape_bounds.specs.Sizes.{bound_name}
use Rattle.shape_bounds.proofs.Bounds.{bound_hit, bound_miss}
use Rattle.shape_bounds.proofs.Means.{mean-Empty}
use Rattle.shape_bounds.proofs.Rowed.{ok_copy}
use Rattle.shape_bounds.proofs.names.last_bound.Goals as goal

pub loop-i-init : goal.loop-i-init
loop-i-init c = ap (λ bs. find_last (number_name c.args.number) (map bound_name bs)) (sym (take-length c.args.bound.now))

pub returns-then-entry-number : goal.returns-then-entry-number
returns-then-entry-number c =
    let one : c.loop-i.i ≡ suc (c.loop-i.i - 1) = omega arith in
    ok_copy c.copy_shape.result c.index-bound-i.result.1 _
    (sym (ap found (c.loop-i.invariant
    ∙ ap (λ n. find_last (number_name c.args.number) (map bound_name (take n c.args.bound.now))) one
    ∙ bound_hit c.args.number c.args.bound.now (c.loop-i.i - 1) c.index-bound-i.result (omega arith) c.index-bound-i.is (sym c.if-entry-number.true))))
    c.copy_shape.ensures

pub loop-i-preserved : goal.loop-i-preserved
loop-i-preserved c =
    let one : c.loop-i.i ≡ suc (c.loop-i.i - 1) = omega arith in
    c.loop-i.invariant
    ∙ ap (λ n. find_last (number_name c.args.number) (map bound_name (take n c.args.bound.now))) one
    ∙ bound_miss c.args.number c.args.bound.now (c.loop-i.i - 1) c.index-bound-i.result (omega arith) c.index-bound-i.is (λ q. c.if-entry-number.false (sym q))

pub returns : goal.returns
returns c = let none : c.loop-i.i ≡ 0 = omega arith in mean-Empty ∙ sym (ap found (c.loop-i.invariant ∙ ap (λ n. find_last (number_name c.args.number) (map bound_name (take n c.args.bound.now))) none))
