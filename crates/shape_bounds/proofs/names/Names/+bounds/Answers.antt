use Rattle.std.proofs.Common.{◌∙◌, sym}
use Rattle.std.proofs.lemmas.Result.{IfOk-weaker}
use Rattle.shape_bounds.proofs.BoundTrees.{children_outside, children_under, first_next, tree_bounded}
use Rattle.shape_bounds.proofs.names.Names.+bounds.Goals as goal

pub bounded-returns : goal.bounded-returns
bounded-returns t c =
    IfOk-weaker c.node.result _ _
    (λ r e. tree_bounded c.args.self.now c.ends.new.self c.children.new.self c.args.k.now c.args.stacks.now c.in_ok-ends.ends c.in_ok-children.children.items
    c.in_ok-args.args.items r c.in_ok-ends.ensures c.in_ok-children.ensures c.in_ok-args.ensures e)
    c.node.ensures

pub bounded_each-loop-i-preserved : goal.bounded_each-loop-i-preserved
bounded_each-loop-i-preserved t c =
    first_next c.args.self.now c.loop-i.self c.bounded.new.self c.args.k.now c.index-args-i.result c.as_slice-args.result.now c.args.stacks.now c.args.under.now
    c.chosen-chosen.result.now c.loop-i.i c.len-numbers.result c.stands_under.result c.loop-i.bounded.items c.push.new.self.items c.in_ok-child.child
    c.loop-i.invariant c.as_slice-args.ensures c.loop-i-test.true c.index-args-i.is c.len-numbers.ensures c.stands_under.ensures c.chosen-chosen.ensures
    c.in_ok-child.ensures c.in_ok-push.ensures.items

pub children-returns-then-not-is_binding : goal.children-returns-then-not-is_binding
children-returns-then-not-is_binding t c =
    IfOk-weaker c.bounded_each.result _ _
    (λ rs e. children_outside c.args.self.now c.bounded_each.new.self c.args.k.now c.args.stacks.now rs.items (sym c.is_binding.ensures ∙ c.if-not-is_binding.true) e)
    c.bounded_each.ensures

pub children-returns : goal.children-returns
children-returns t c =
    IfOk-weaker c.bounded_each-2.result _ _
    (λ rs e. children_under c.args.self.now c.under_all.new.self c.bounded_each-2.new.self c.args.k.now c.args.stacks.now c.in_ok-under.under.items
    c.as_slice.result.now rs.items c.in_ok-under.ensures c.as_slice.ensures.value e)
    c.bounded_each-2.ensures
