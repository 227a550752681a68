use Rattle.std.proofs.Common.{arith, ◌∙◌, ◌-◌, ap, sym, Err, List}
use Rattle.std.proofs.lemmas.Result.{err_from_is_err_and}
use Rattle.tla_meaning.specs.declared.expr.Expr.{out-Expr}
use Rattle.op_inliner.specs.declared.frames.Frame.{Frame}
use Rattle.op_inliner.specs.inner.Building.{op_at}
use Rattle.op_inliner.specs.inner.Frames.{names_at}
use Rattle.op_inliner.proofs.BuildSteps.{angled_seen, boxed_seen, child_fails, children_fail, children_step, deep_any, first_fails, item_fails, items_step, moved_changed, moved_kept, moved_tree, next_fails, now_fails, kept_by_tuple, kept_equation, kept_lacking, node_made, node_seen, root_tree, same_built, same_tree, second_fails, single_fails, unchanged_seen}
use Rattle.op_inliner.proofs.SpotLemmas.{pair_is, single_is}
use Rattle.op_inliner.proofs.trees.Part.+tree.Goals as goal
use Rattle.op_inliner.proofs.trees.Part.+tree.Goals.{kept-in-Tuple+in_ok-tree-in-Tuple, kept-in-Noted+in_ok-tree-in-Noted, kept-in_default+in_ok-tree-in_default}

pub angled-returns-then-left-eq0-clause-built : goal.angled-returns-then-left-eq0-clause-built
angled-returns-then-left-eq0-clause-built t c = deep_any c.args.left _ c.if-left-eq0.true

pub boxed-returns-then-left-eq0-clause-built : goal.boxed-returns-then-left-eq0-clause-built
boxed-returns-then-left-eq0-clause-built t c = deep_any c.args.left _ c.if-left-eq0.true

pub changed-returns-then-left-eq0-clause-built : goal.changed-returns-then-left-eq0-clause-built
changed-returns-then-left-eq0-clause-built t c = deep_any c.args.left _ c.if-left-eq0.true

pub equation-returns-then-left-eq0-clause-built : goal.equation-returns-then-left-eq0-clause-built
equation-returns-then-left-eq0-clause-built t c = deep_any c.args.left _ c.if-left-eq0.true

pub kept_tuple-returns-then-left-eq0-clause-built : goal.kept_tuple-returns-then-left-eq0-clause-built
kept_tuple-returns-then-left-eq0-clause-built t c = deep_any c.args.left _ c.if-left-eq0.true

pub node-returns-then-left-eq0-clause-built : goal.node-returns-then-left-eq0-clause-built
node-returns-then-left-eq0-clause-built t c = deep_any c.args.left _ c.if-left-eq0.true

pub angled-returns-in_err-first-clause-built : goal.angled-returns-in_err-first-clause-built
angled-returns-in_err-first-clause-built t c =
    let p = err_from_is_err_and c.from_residual.result c.from_residual.ensures.1 in
    rw (p.1, p.2) (first_fails c.args.left _ _ _ _ _ (let h = c.if-left-eq0.false in omega (arith, h)) c.in_err-first.ensures.built)

pub boxed-returns-in_err-first-clause-built : goal.boxed-returns-in_err-first-clause-built
boxed-returns-in_err-first-clause-built t c =
    let p = err_from_is_err_and c.from_residual.result c.from_residual.ensures.1 in
    rw (p.1, p.2) (first_fails c.args.left _ _ _ _ _ (let h = c.if-left-eq0.false in omega (arith, h)) c.in_err-first.ensures.built)

pub angled-returns-in_err-second-clause-built : goal.angled-returns-in_err-second-clause-built
angled-returns-in_err-second-clause-built t c =
    let p = err_from_is_err_and c.from_residual-in_err-second.result c.from_residual-in_err-second.ensures.1 in
    rw (p.1, p.2) (second_fails c.args.left _ _ _ _ _ (let h = c.if-left-eq0.false in omega (arith, h))
    (moved_changed c.args.self c.args.frames.now.items c.tree.new.frames.items c.args.v c.args.place (c.args.left - 1) (Err c.in_err-second.field-0.0) c.in_ok-first.ensures.kept c.in_err-second.ensures.built))

pub boxed-returns-in_err-second-clause-built : goal.boxed-returns-in_err-second-clause-built
boxed-returns-in_err-second-clause-built t c =
    let p = err_from_is_err_and c.from_residual-in_err-second.result c.from_residual-in_err-second.ensures.1 in
    rw (p.1, p.2) (second_fails c.args.left _ _ _ _ _ (let h = c.if-left-eq0.false in omega (arith, h))
    (moved_kept c.args.self c.args.frames.now.items c.tree.new.frames.items c.args.v c.args.place (c.args.left - 1) (Err c.in_err-second.field-0.0) c.in_ok-first.ensures.kept c.in_err-second.ensures.built))

pub equation-returns-in_err-first-clause-built : goal.equation-returns-in_err-first-clause-built
equation-returns-in_err-first-clause-built t c =
    let p = err_from_is_err_and c.from_residual.result c.from_residual.ensures.1 in
    rw (p.1, p.2) (next_fails c.args.self c.args.frames.now.items c.args.v c.args.place c.in-Some.primes c.args.left _ (let h = c.if-left-eq0.false in omega (arith, h)) (let h = c.in-Some.ensures.1 in omega (arith, h)) c.in_err-first.ensures.built)

pub equation-returns-in_err-second-clause-built : goal.equation-returns-in_err-second-clause-built
equation-returns-in_err-second-clause-built t c =
    let p = err_from_is_err_and c.from_residual-in_err-second.result c.from_residual-in_err-second.ensures.1 in
    rw (p.1, p.2) (now_fails c.args.self c.args.frames.now.items c.args.v c.args.place c.args.left _ (let h = c.if-left-eq0.false in omega (arith, h))
    (moved_tree c.args.self c.args.frames.now.items c.tree.new.frames.items c.args.v (c.args.left - 1) (Err c.in_err-second.field-0.0) c.in_ok-first.ensures.kept c.in_err-second.ensures.built))

pub changed-returns-in_err-kept-clause-built : goal.changed-returns-in_err-kept-clause-built
changed-returns-in_err-kept-clause-built t c =
    let p = err_from_is_err_and c.from_residual.result c.from_residual.ensures.1 in
    rw (p.1, p.2) (single_fails c.args.left _ _ _ _ (let h = c.if-left-eq0.false in omega (arith, h)) c.in_err-kept.ensures.built)

pub kept_tuple-returns-in_err-args-clause-built : goal.kept_tuple-returns-in_err-args-clause-built
kept_tuple-returns-in_err-args-clause-built t c =
    let p = err_from_is_err_and c.from_residual.result c.from_residual.ensures.1 in
    rw (p.1, p.2) (children_fail c.args.left _ _ _ _ _ (let h = c.if-left-eq0.false in omega (arith, h)) c.in_err-args.ensures.built)

pub children-returns-in_err-tree-clause-built : goal.children-returns-in_err-tree-clause-built
children-returns-in_err-tree-clause-built t c =
    let p = err_from_is_err_and c.from_residual.result c.from_residual.ensures.1 in
    rw (p.1, p.2) (child_fails c.args.self c.args.frames.now.items c.loop-i.frames.items c.args.node.now c.child-spot.result c.index-args-i.result c.as_slice-args.result.now c.loop-i.i c.loop-i-test.true c.index-args-i.is
    c.as_slice-args.ensures c.loop-i.invariant.frames c.requires c.child-spot.ensures c.args.left _ c.in_err-tree.ensures.built)

pub children-loop-i-preserved : goal.children-loop-i-preserved
children-loop-i-preserved t c = record {
  frames = c.in_ok-tree.ensures.kept ∙ c.loop-i.invariant.frames;
  built = c.in_ok-push.ensures.items ∙ children_step c.args.self c.args.frames.now.items c.loop-i.frames.items c.args.node.now c.child-spot.result c.index-args-i.result c.as_slice-args.result.now c.loop-i.i c.loop-i-test.true c.index-args-i.is
      c.as_slice-args.ensures c.loop-i.invariant.frames c.requires c.child-spot.ensures c.loop-i.all.items c.in_ok-tree.field-0 c.loop-i.invariant.built c.in_ok-tree.ensures.built;
}

pub kept_items-returns-in_err-kept-clause-built : goal.kept_items-returns-in_err-kept-clause-built
kept_items-returns-in_err-kept-clause-built t c =
    let p = err_from_is_err_and c.from_residual.result c.from_residual.ensures.1 in
    rw (p.1, p.2) (item_fails c.args.self c.args.frames.now.items c.loop-item.frames.items c.args.tuple c.child-spot.result c.args.place c.item-item.result c.as_slice-item-items.result.now c.loop-item.item-index c.loop-item-test.true c.item-item.is
    c.as_slice-item-items.ensures c.loop-item.invariant.frames c.child-spot.ensures c.args.left _ c.in_err-kept.ensures.built)

pub kept_items-loop-item-preserved : goal.kept_items-loop-item-preserved
kept_items-loop-item-preserved t c = record {
  frames = c.in_ok-kept.ensures.kept ∙ c.loop-item.invariant.frames;
  built = c.in_ok-push.ensures.items ∙ items_step c.args.self c.args.frames.now.items c.loop-item.frames.items c.args.tuple c.child-spot.result c.args.place c.item-item.result c.as_slice-item-items.result.now c.loop-item.item-index c.loop-item-test.true c.item-item.is
      c.as_slice-item-items.ensures c.loop-item.invariant.frames c.child-spot.ensures c.loop-item.all.items c.in_ok-kept.field-0 c.loop-item.invariant.built c.in_ok-kept.ensures.built;
}

pub kept-returns-in_err-tree-in-Tuple-clause-built : goal.kept-returns-in_err-tree-in-Tuple-clause-built
kept-returns-in_err-tree-in-Tuple-clause-built t c =
    let p = err_from_is_err_and c.from_residual-in_err-tree-in-Tuple.result c.from_residual-in_err-tree-in-Tuple.ensures.1 in
    rw (p.1, p.2) (same_tree c.args.left _ _ _ (sym (kept_by_tuple c.args.self c.args.frames.now.items c.root.new.frames.items c.below_notes.new.frames.items c.args.spot c.in_ok-top.top c.in_ok-below.below c.args.place c.in_ok-top.ensures c.in_ok-below.ensures c.in-Tuple.is)) c.in_err-tree-in-Tuple.ensures.built)

pub kept-returns-in_err-tree-in-Noted-clause-built : goal.kept-returns-in_err-tree-in-Noted-clause-built
kept-returns-in_err-tree-in-Noted-clause-built t c =
    let p = err_from_is_err_and c.from_residual-in_err-tree-in-Noted.result c.from_residual-in_err-tree-in-Noted.ensures.1 in
    rw (p.1, p.2) (same_tree c.args.left _ _ _ (sym (kept_lacking c.args.self c.args.frames.now.items c.root.new.frames.items c.below_notes.new.frames.items c.args.spot c.in_ok-top.top c.in_ok-below.below c.args.place c.in_ok-top.ensures c.in_ok-below.ensures c.in-Noted.is)) c.in_err-tree-in-Noted.ensures)

pub kept-returns-in_err-tree-in_default : goal.kept-returns-in_err-tree-in_default
kept-returns-in_err-tree-in_default t c =
    let p = err_from_is_err_and c.from_residual-in_err-tree-in_default.result c.from_residual-in_err-tree-in_default.ensures.1 in
    rw (p.1, p.2) (record {
      built = same_tree c.args.left _ _ _ (sym (kept_equation c.args.self c.args.frames.now.items c.root.new.frames.items c.below_notes.new.frames.items c.args.spot c.in_ok-top.top c.in_ok-below.below c.args.place c.in_ok-top.ensures c.in_ok-below.ensures c.in_ok-top.ensures.leads.reaches.within c.in_default.not-Tuple c.in_default.not-Noted c.in_default.not-Prime)) c.in_err-tree-in_default.ensures.built;
      kept = tt;
    })

pub kept-returns-clause-built : goal.kept-returns-clause-built
kept-returns-clause-built t c =
    elim c.match-below.branch [
      | kept-in-Tuple+in_ok-tree-in-Tuple w ↦ w.tree-is ∙ w.in_ok-tree-in-Tuple.ensures.built ∙ sym (kept_by_tuple c.args.self c.args.frames.now.items c.root.new.frames.items c.below_notes.new.frames.items c.args.spot c.in_ok-top.top c.in_ok-below.below c.args.place c.in_ok-top.ensures c.in_ok-below.ensures w.in-Tuple.is)
      | kept-in-Noted+in_ok-tree-in-Noted w ↦ w.tree-is ∙ w.in_ok-tree-in-Noted.ensures ∙ sym (kept_lacking c.args.self c.args.frames.now.items c.root.new.frames.items c.below_notes.new.frames.items c.args.spot c.in_ok-top.top c.in_ok-below.below c.args.place c.in_ok-top.ensures c.in_ok-below.ensures w.in-Noted.is)
      | kept-in_default+in_ok-tree-in_default w ↦ w.tree-is ∙ w.in_ok-tree-in_default.ensures.built
          ∙ sym (kept_equation c.args.self c.args.frames.now.items c.root.new.frames.items c.below_notes.new.frames.items c.args.spot c.in_ok-top.top c.in_ok-below.below c.args.place c.in_ok-top.ensures c.in_ok-below.ensures c.in_ok-top.ensures.leads.reaches.within w.in_default.not-Tuple w.in_default.not-Noted w.in_default.not-Prime)
    ]

pub node-returns-in_err-args-clause-built : goal.node-returns-in_err-args-clause-built
node-returns-in_err-args-clause-built t c =
    let p = err_from_is_err_and c.from_residual-in_err-args.result c.from_residual-in_err-args.ensures.1 in
    rw (p.1, p.2) (same_tree c.args.left _ _ _ (sym (node_seen c.args.self c.args.frames.now.items c.opened.new.frames.items c.args.spot c.in_ok-node.node c.requires.scope c.requires.root c.requires.plain c.in_ok-node.ensures)) (children_fail c.args.left _ _ _ _ _ (let h = c.if-left-eq0.false in omega (arith, h)) c.in_err-args.ensures.built))

pub node-returns-clause-built : goal.node-returns-clause-built
node-returns-clause-built t c = node_made _ _ _ _ _ _ _ _ (c.in_ok-op.ensures ∙ ap (λ (fs : List Frame). op_at c.args.self (names_at fs c.args.spot.scope) c.args.spot.primes (out-Expr c.args.spot.e.now).op) c.as_slice.ensures.value) c.in_ok-args.ensures.built c.in_ok-binds.ensures (node_seen c.args.self c.args.frames.now.items c.opened.new.frames.items c.args.spot c.in_ok-node.node c.requires.scope c.requires.root c.requires.plain c.in_ok-node.ensures)

pub rooted-returns-in-Unchanged-len1-clause-built : goal.rooted-returns-in-Unchanged-len1-clause-built
rooted-returns-in-Unchanged-len1-clause-built t c =
    same_built c.args.left _ _ _ (sym (unchanged_seen c.args.self c.args.frames.now.items c.args.spot c.child-kept.result c.v-item.result c.as_slice.result.now c.in-Unchanged-len1.is-0 c.as_slice.ensures
    (single_is c.as_slice.result.now c.v-item.result c.in-Unchanged-len1.len_at_least c.in-Unchanged-len1.len_below c.v-item.is) c.child-kept.ensures)) c.kept.ensures.built

pub rooted-returns-in-Boxed-len2-clause-built : goal.rooted-returns-in-Boxed-len2-clause-built
rooted-returns-in-Boxed-len2-clause-built t c =
    same_built c.args.left _ _ _ (sym (boxed_seen c.args.self c.args.frames.now.items c.args.spot c.child-either.result c.child-or_kept.result c.action-item.result c.v-item-then-this-lt3.result c.as_slice.result.now c.in-Boxed-len2.is-0 c.as_slice.ensures
    (pair_is c.as_slice.result.now c.action-item.result c.v-item-then-this-lt3.result c.in-Boxed-len2.len_at_least c.in-Boxed-len2.len_below c.action-item.is c.v-item-then-this-lt3.is) c.child-either.ensures c.child-or_kept.ensures)) c.boxed.ensures.built

pub rooted-returns-in-Angled-len2-clause-built : goal.rooted-returns-in-Angled-len2-clause-built
rooted-returns-in-Angled-len2-clause-built t c =
    same_built c.args.left _ _ _ (sym (angled_seen c.args.self c.args.frames.now.items c.args.spot c.child-both.result c.child-and_changed.result c.action-item-then-this-lt3-2.result c.v-item-then-this-lt3-2.result c.as_slice.result.now c.in-Angled-len2.is-0 c.as_slice.ensures
    (pair_is c.as_slice.result.now c.action-item-then-this-lt3-2.result c.v-item-then-this-lt3-2.result c.in-Angled-len2.len_at_least c.in-Angled-len2.len_below c.action-item-then-this-lt3-2.is c.v-item-then-this-lt3-2.is) c.child-both.ensures c.child-and_changed.ensures)) c.angled.ensures.built

pub tree-returns-in_err-tree-clause-built : goal.tree-returns-in_err-tree-clause-built
tree-returns-in_err-tree-clause-built t c =
    let p = err_from_is_err_and c.from_residual-in_err-tree.result c.from_residual-in_err-tree.ensures.1 in
    rw (p.1, p.2) (same_tree c.args.left _ _ _ (root_tree c.args.self c.args.frames.now.items c.root.new.frames.items c.args.spot c.in_ok-spot.spot c.in_ok-spot.ensures) c.in_err-tree.ensures.built)

pub tree-returns-clause-built : goal.tree-returns-clause-built
tree-returns-clause-built t c = c.in_ok-tree.ensures.built ∙ root_tree c.args.self c.args.frames.now.items c.root.new.frames.items c.args.spot c.in_ok-spot.spot c.in_ok-spot.ensures
