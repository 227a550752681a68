use Rattle.std.proofs.Common.{◌≡◌, ◌∙◌, arith, refl, subst, sym}
use Rattle.std.proofs.lemmas.Grind.{common_steps}
use Rattle.cell_arena.proofs.Growing.{Grows-refl, Grows-trans}
use Rattle.kernel_trees.specs.declared.kernel.Ker.TheFolds.{the_lemmas}
use Rattle.member_choices.specs.Folds.{HoldsItems}
use Rattle.expr_rewriter.proofs.FoldNodes.{can_fold_node, can_step, fold_tree}
use Rattle.expr_rewriter.proofs.Folds.{all_steps, body_is, first_can, has_place, is_sequence, no_steps, parts_are, seq_can, step_below, step_can, step_count, step_types, steps_turn, three_args}
use Rattle.expr_rewriter.proofs.Opening.{binder_can, level_can}
use Rattle.expr_rewriter.proofs.Steps.{can_at, can_join, joined_tree, operands_are, operands_can, trees_turn}
use Rattle.expr_rewriter.proofs.Turns.{bodies_made, bodies_turn, body_count, body_made, body_within, bound_tree, can_at_choices, can_bind_node, can_body, choices_made, sets_are, sets_can, sets_made}
use Rattle.expr_rewriter.proofs.UpdateTurns.{body_is as update_body_is, can_change, can_right, can_update_node, index_can, one_number, parts_are as update_parts_are, three_args as update_args, tree_index, update_tree, whole_can}
use Rattle.expr_rewriter.proofs.FormTrees.{can_form, can_lower, can_relate, form_at, form_tree, forms_turn, left_can, parts_can_by, related_tree, rest_made, right_can, set_tree, sets_can_by, two_args}
use Rattle.expr_rewriter.proofs.FormTrees.{sets_made as form_sets_made}
use Rattle.expr_rewriter.proofs.rewriting.+tree.Goals as goal

-- ---- several trees

pub trees-tree-requires : goal.trees-tree-requires
trees-tree-requires t c = (
  grind (arith, the_lemmas, common_steps),
  can_at c.args.b.now c.loop-i.b c.args.names.now c.loop-i.names c.args.es.now c.args.count c.loop-i.i c.index-es-i.result
      c.loop-i-test.true c.requires.within c.index-es-i.is c.requires.can c.loop-i.invariant.grows c.loop-i.invariant.stays,
)

pub trees-loop-i-preserved : goal.trees-loop-i-preserved
trees-loop-i-preserved t c =
    let i = c.loop-i.invariant in
    let o = c.in_ok-part.ensures in
    rw c.in_ok-push.ensures.items
    (record {
      grows = Grows-trans c.args.b.now c.loop-i.b c.tree.new.b i.grows o.grows;
      stays = o.stays ∙ i.stays;
      made = trees_turn c.args.b.now c.loop-i.b c.tree.new.b c.args.names.now c.loop-i.names c.args.es.now c.loop-i.parts.items c.args.count
          c.loop-i.i c.index-es-i.result c.in_ok-part.part c.loop-i-test.true c.requires.within c.index-es-i.is c.requires.can i.grows o.grows
          i.stays i.made o.tree;
    })

-- ---- a node whose children stand in its setting

pub level-trees-requires : goal.level-trees-requires
level-trees-requires t c = (
  grind (arith, the_lemmas, common_steps),
  (
    rw c.as_slice-args.ensures c.operand_count-count.ensures.within,
    operands_can c.args.b.now c.args.e.now c.args.names.now c.operand_count-count.result c.as_slice-args.result.now c.as_slice-args.ensures
        c.operand_count-count.ensures.operands (level_can c.args.b.now c.args.e.now c.args.names.now c.requires.can c.requires.level),
  ),
)

pub level-join-requires : goal.level-join-requires
level-join-requires t c =
    can_join c.args.b.now c.trees.new.b c.args.e.now c.args.names.now c.as_slice-parts.result.now c.requires.can c.requires.level c.in_ok-made.ensures.grows
    (operands_are c.trees.new.b c.args.e.now c.args.names.now c.operand_count-count.result c.as_slice-args.result.now _ _ c.as_slice-args.ensures
    c.operand_count-count.ensures.operands c.as_slice-parts.ensures.value c.in_ok-made.ensures.trees)

pub level-returns-clause-tree : goal.level-returns-clause-tree
level-returns-clause-tree t c =
    joined_tree c.args.b.now c.trees.new.b c.join.new.b c.args.e.now c.args.names.now c.as_slice-parts.result.now c.in_ok-x.x c.requires.can
    c.in_ok-made.ensures.grows c.in_ok-x.ensures.grows
    (operands_are c.trees.new.b c.args.e.now c.args.names.now c.operand_count-count.result c.as_slice-args.result.now _ _ c.as_slice-args.ensures
    c.operand_count-count.ensures.operands c.as_slice-parts.ensures.value c.in_ok-made.ensures.trees)
    c.in_ok-x.ensures.sort c.in_ok-x.ensures.joins

-- ---- bodies

pub bodies-under-requires : goal.bodies-under-requires
bodies-under-requires t c =
    let ids = c.as_slice.ensures in (
      grind (arith, the_lemmas, common_steps),
      (
        body_count c.args.b.now c.loop-i.b c.args.names.now c.loop-i.names c.args.numbers.now c.args.e.now c.args.cs.now c.loop-i.i
            c.as_slice.result.now c.index-cs-i.result c.requires c.loop-i-test.true ids,
        can_body c.args.b.now c.loop-i.b c.args.names.now c.loop-i.names c.args.numbers.now c.args.e.now c.args.cs.now c.loop-i.i
            c.as_slice.result.now c.index-cs-i.result c.requires c.loop-i.invariant.grows c.loop-i-test.true ids c.loop-i.invariant.stays,
      ),
    )

pub bodies-loop-i-preserved : goal.bodies-loop-i-preserved
bodies-loop-i-preserved t c =
    let i = c.loop-i.invariant in
    let o = c.in_ok-part.ensures in
    let ids = c.as_slice.ensures in
    rw c.in_ok-push.ensures.items
    (record {
      grows = Grows-trans c.args.b.now c.loop-i.b c.under.new.b i.grows o.grows;
      stays = o.stays ∙ i.stays;
      made = bodies_turn c.args.b.now c.loop-i.b c.args.names.now c.loop-i.names c.args.numbers.now c.args.e.now c.args.cs.now c.loop-i.i
          c.as_slice.result.now c.index-cs-i.result c.under.new.b c.loop-i.parts.items c.in_ok-part.part c.requires i.grows o.grows
          c.loop-i-test.true ids i.stays i.made o.tree;
    })

-- ---- a binder

pub binder-trees-requires : goal.binder-trees-requires
binder-trees-requires t c =
    let lt = body_within c.args.b.now c.args.e.now c.args.names.now c.as_slice-numbers.result.now c.as_slice-args.result.now c.requires.can
    c.requires.binder c.as_slice-numbers.ensures c.as_slice-args.ensures in (
      grind (arith, the_lemmas, common_steps),
      (
        omega arith,
        sets_can c.args.b.now c.args.e.now c.args.names.now c.as_slice-numbers.result.now c.as_slice-args.result.now c.as_slice-numbers.ensures
            c.as_slice-args.ensures (binder_can c.args.b.now c.args.e.now c.args.names.now c.requires.can c.requires.binder),
      ),
    )

pub binder-choices_from-requires : goal.binder-choices_from-requires
binder-choices_from-requires t c =
    sets_are c.args.b.now c.trees.new.b c.args.e.now c.args.names.now c.as_slice-parts.result.now c.requires.can c.requires.binder c.in_ok-sets.ensures.grows
    (sets_made c.trees.new.b c.args.e.now c.args.names.now c.as_slice-numbers.result.now c.as_slice-args.result.now _ _ c.as_slice-numbers.ensures
    c.as_slice-args.ensures c.as_slice-parts.ensures.value c.in_ok-sets.ensures.trees)

pub binder-child-body-requires : goal.binder-child-body-requires
binder-child-body-requires t c =
    body_within c.args.b.now c.args.e.now c.args.names.now c.as_slice-numbers.result.now c.as_slice-args.result.now c.requires.can
    c.requires.binder c.as_slice-numbers.ensures c.as_slice-args.ensures

pub binder-bodies-requires : goal.binder-bodies-requires
binder-bodies-requires t c = (
  (let deep = c.child-body.ensures.deep in grind (arith, deep, the_lemmas, common_steps)),
  can_at_choices c.args.b.now c.trees.new.b c.args.e.now c.args.names.now c.as_slice-parts.result.now c.requires.can c.requires.binder
      c.in_ok-sets.ensures.grows
      (sets_made c.trees.new.b c.args.e.now c.args.names.now c.as_slice-numbers.result.now c.as_slice-args.result.now _ _ c.as_slice-numbers.ensures
      c.as_slice-args.ensures c.as_slice-parts.ensures.value c.in_ok-sets.ensures.trees)
      c.choices_from.new.b c.as_slice-list.result.now c.in_ok-cs.ensures.grows
      (choices_made c.choices_from.new.b _ _ _ _ c.as_slice-list.ensures.value refl c.in_ok-cs.ensures.lists) c.as_slice-numbers.result.now
      c.child-body.result.now c.trees.new.names c.as_slice-numbers.ensures
      (body_made c.args.e.now c.as_slice-numbers.result.now c.as_slice-args.result.now c.child-body.result.now c.as_slice-numbers.ensures
      c.as_slice-args.ensures c.child-body.ensures.child) c.in_ok-sets.ensures.stays,
)

pub binder-bind_node-requires : goal.binder-bind_node-requires
binder-bind_node-requires t c =
    can_bind_node c.args.b.now c.trees.new.b c.args.e.now c.args.names.now c.as_slice-parts.result.now c.requires.can c.requires.binder
    c.in_ok-sets.ensures.grows
    (sets_made c.trees.new.b c.args.e.now c.args.names.now c.as_slice-numbers.result.now c.as_slice-args.result.now _ _ c.as_slice-numbers.ensures
    c.as_slice-args.ensures c.as_slice-parts.ensures.value c.in_ok-sets.ensures.trees)
    c.choices_from.new.b c.as_slice-list.result.now c.in_ok-cs.ensures.grows
    (choices_made c.choices_from.new.b _ _ _ _ c.as_slice-list.ensures.value refl c.in_ok-cs.ensures.lists) c.bodies.new.b
    c.as_slice-numbers.result.now c.child-body.result.now c.trees.new.names c.as_slice-cells.result.now c.in_ok-made.ensures.grows
    c.as_slice-numbers.ensures
    (body_made c.args.e.now c.as_slice-numbers.result.now c.as_slice-args.result.now c.child-body.result.now c.as_slice-numbers.ensures
    c.as_slice-args.ensures c.child-body.ensures.child) c.in_ok-sets.ensures.stays
    (bodies_made c.bodies.new.b c.trees.new.names c.as_slice-numbers.result.now c.child-body.result.now c.as_slice-list.result.now _ _
    c.as_slice-cells.ensures.value c.in_ok-made.ensures.bodies)

pub binder-returns-clause-tree : goal.binder-returns-clause-tree
binder-returns-clause-tree t c =
    bound_tree c.args.b.now c.trees.new.b c.args.e.now c.args.names.now c.as_slice-parts.result.now c.requires.can c.requires.binder
    c.in_ok-sets.ensures.grows
    (sets_made c.trees.new.b c.args.e.now c.args.names.now c.as_slice-numbers.result.now c.as_slice-args.result.now _ _ c.as_slice-numbers.ensures
    c.as_slice-args.ensures c.as_slice-parts.ensures.value c.in_ok-sets.ensures.trees)
    c.choices_from.new.b c.as_slice-list.result.now c.in_ok-cs.ensures.grows
    (choices_made c.choices_from.new.b _ _ _ _ c.as_slice-list.ensures.value refl c.in_ok-cs.ensures.lists) c.bodies.new.b
    c.as_slice-numbers.result.now c.child-body.result.now c.trees.new.names c.as_slice-cells.result.now c.in_ok-made.ensures.grows
    c.as_slice-numbers.ensures
    (body_made c.args.e.now c.as_slice-numbers.result.now c.as_slice-args.result.now c.child-body.result.now c.as_slice-numbers.ensures
    c.as_slice-args.ensures c.child-body.ensures.child) c.in_ok-sets.ensures.stays
    (bodies_made c.bodies.new.b c.trees.new.names c.as_slice-numbers.result.now c.child-body.result.now c.as_slice-list.result.now _ _
    c.as_slice-cells.ensures.value c.in_ok-made.ensures.bodies)
    c.bind_node.new.b c.in_ok-x.x c.in_ok-x.ensures.grows c.in_ok-x.ensures.sort c.in_ok-x.ensures.binds

-- ---- a fold

pub steps-child-body-requires : goal.steps-child-body-requires
steps-child-body-requires t c =
    let n = three_args c.args.b.now c.args.e.now c.args.names.now c.requires.can c.requires.fold c.as_slice-args.result.now c.as_slice-args.ensures in
    omega arith

pub steps-place_count-count-requires : goal.steps-place_count-count-requires
steps-place_count-count-requires t c = is_sequence c.args.b.now c.args.names.now c.args.e.now c.args.first c.args.seq c.requires

pub steps-item_at-requires : goal.steps-item_at-requires
steps-item_at-requires t c =
    has_place c.args.b.now c.args.names.now c.args.e.now c.args.first c.args.seq c.requires c.loop-i.b _ c.loop-i.i c.loop-i.invariant.grows
    c.place_count-count.ensures c.loop-i-test.true

pub steps-under-requires : goal.steps-under-requires
steps-under-requires t c =
    let deep = c.child-body.ensures.deep in
    let i = c.loop-i.invariant in
    let body = body_is c.args.b.now c.args.e.now c.args.names.now c.requires.can c.requires.fold c.as_slice-args.result.now c.child-body.result.now
    c.as_slice-args.ensures c.child-body.ensures.child in (
      grind (arith, deep, the_lemmas, common_steps),
      (
        step_count c.args.b.now c.args.names.now c.args.e.now c.args.first c.args.seq c.requires c.loop-i.b c.item_at.new.b c.loop-i.i c.loop-i.so_far
            c.in_ok-part.part i.grows c.in_ok-part.ensures.grows i.made c.in_ok-part.ensures.item c.as_slice-numbers.result.now _
            c.as_slice-numbers.ensures refl,
        step_can c.args.b.now c.args.names.now c.args.e.now c.args.first c.args.seq c.requires c.loop-i.b c.item_at.new.b c.loop-i.i c.loop-i.so_far
            c.in_ok-part.part i.grows c.in_ok-part.ensures.grows i.made c.in_ok-part.ensures.item c.loop-i.names c.as_slice-numbers.result.now _
            c.child-body.result.now i.stays c.as_slice-numbers.ensures refl body,
      ),
    )

pub steps-step-requires-clause-below : goal.steps-step-requires-clause-below
steps-step-requires-clause-below t c =
    let i = c.loop-i.invariant in
    let body = body_is c.args.b.now c.args.e.now c.args.names.now c.requires.can c.requires.fold c.as_slice-args.result.now c.child-body.result.now
    c.as_slice-args.ensures c.child-body.ensures.child in
    step_below c.args.b.now c.args.names.now c.args.e.now c.args.first c.args.seq c.requires c.loop-i.b c.item_at.new.b c.loop-i.i c.loop-i.so_far
    c.in_ok-part.part i.grows c.in_ok-part.ensures.grows i.made c.in_ok-part.ensures.item c.under.new.b c.under.new.b c.loop-i.names
    c.as_slice-numbers.result.now _ c.child-body.result.now c.in_ok-next.next c.in_ok-next.next c.negated.result c.in_ok-next.ensures.grows
    (Grows-refl c.under.new.b) i.stays c.as_slice-numbers.ensures refl body c.in_ok-next.ensures.tree c.negated.ensures

pub steps-step-requires-clause-types : goal.steps-step-requires-clause-types
steps-step-requires-clause-types t c =
    let i = c.loop-i.invariant in
    let body = body_is c.args.b.now c.args.e.now c.args.names.now c.requires.can c.requires.fold c.as_slice-args.result.now c.child-body.result.now
    c.as_slice-args.ensures c.child-body.ensures.child in
    step_types c.args.b.now c.args.names.now c.args.e.now c.args.first c.args.seq c.requires c.loop-i.b c.item_at.new.b c.loop-i.i c.loop-i.so_far
    c.in_ok-part.part i.grows c.in_ok-part.ensures.grows i.made c.in_ok-part.ensures.item c.under.new.b c.under.new.b c.loop-i.names
    c.as_slice-numbers.result.now _ c.child-body.result.now c.in_ok-next.next c.in_ok-next.next c.negated.result c.in_ok-next.ensures.grows
    (Grows-refl c.under.new.b) i.stays c.as_slice-numbers.ensures refl body c.in_ok-next.ensures.tree c.negated.ensures

pub steps-loop-i-init : goal.steps-loop-i-init
steps-loop-i-init t c = record {
  grows = Grows-refl c.args.b.now;
  stays = refl;
  made = no_steps c.args.b.now c.args.names.now c.args.e.now c.args.first c.args.seq c.requires;
}

pub steps-loop-i-preserved : goal.steps-loop-i-preserved
steps-loop-i-preserved t c =
    let i = c.loop-i.invariant in
    let o = c.in_ok-next.ensures in
    let body = body_is c.args.b.now c.args.e.now c.args.names.now c.requires.can c.requires.fold c.as_slice-args.result.now c.child-body.result.now
    c.as_slice-args.ensures c.child-body.ensures.child in
    record {
      grows = Grows-trans c.args.b.now c.loop-i.b c.step.new.b i.grows
          (Grows-trans c.loop-i.b c.item_at.new.b c.step.new.b c.in_ok-part.ensures.grows
          (Grows-trans c.item_at.new.b c.under.new.b c.step.new.b o.grows c.in_ok-made.ensures.grows));
      stays = o.stays ∙ i.stays;
      made = steps_turn c.args.b.now c.args.names.now c.args.e.now c.args.first c.args.seq c.requires c.loop-i.b c.item_at.new.b c.loop-i.i
          c.loop-i.so_far c.in_ok-part.part i.grows c.in_ok-part.ensures.grows i.made c.in_ok-part.ensures.item c.under.new.b c.step.new.b c.loop-i.names
          c.as_slice-numbers.result.now _ c.child-body.result.now c.in_ok-next.next c.in_ok-made.made c.negated.result o.grows c.in_ok-made.ensures.grows
          i.stays c.as_slice-numbers.ensures refl body o.tree c.negated.ensures c.in_ok-made.ensures.step;
    }

pub steps-returns-clause-folds : goal.steps-returns-clause-folds
steps-returns-clause-folds t c =
    let i = c.loop-i.invariant in
    let whole : c.loop-i.i ≡ c.place_count-count.result = (let le = c.loop-i.auto.i-end in let ge = c.loop-i-test.false in omega arith) in
    all_steps c.args.b.now c.args.names.now c.args.e.now c.args.first c.args.seq c.requires c.loop-i.b c.loop-i.i c.loop-i.so_far i.grows
    (subst (HoldsItems c.args.b.now c.args.seq.cell) (sym whole) c.place_count-count.ensures) i.made

pub fold-child-start-requires : goal.fold-child-start-requires
fold-child-start-requires t c =
    let n = three_args c.args.b.now c.args.e.now c.args.names.now c.requires.can c.requires.fold c.as_slice-args.result.now c.as_slice-args.ensures in
    omega arith

pub fold-child-list-requires : goal.fold-child-list-requires
fold-child-list-requires t c =
    let n = three_args c.args.b.now c.args.e.now c.args.names.now c.requires.can c.requires.fold c.as_slice-args.result.now c.as_slice-args.ensures in
    omega arith

pub fold-tree-requires : goal.fold-tree-requires
fold-tree-requires t c =
    let deep = c.child-start.ensures.deep in (
      grind (arith, deep, the_lemmas, common_steps),
      first_can c.args.b.now c.args.e.now c.args.names.now c.requires.can c.requires.fold c.as_slice-args.result.now c.child-start.result.now
          c.as_slice-args.ensures c.child-start.ensures.child,
    )

pub fold-tree-requires-2 : goal.fold-tree-requires-2
fold-tree-requires-2 t c =
    let deep = c.child-list.ensures.deep in (
      grind (arith, deep, the_lemmas, common_steps),
      seq_can c.args.b.now c.args.e.now c.args.names.now c.requires.can c.requires.fold c.tree.new.b c.tree.new.names c.as_slice-args.result.now
          c.child-list.result.now c.in_ok-first.ensures.grows c.in_ok-first.ensures.stays c.as_slice-args.ensures c.child-list.ensures.child,
    )

pub fold-steps-requires : goal.fold-steps-requires
fold-steps-requires t c = (
  grind (arith, the_lemmas, common_steps),
  can_step c.args.b.now c.tree-2.new.b c.args.e.now c.args.names.now c.tree-2.new.names c.in_ok-first.first c.in_ok-seq.seq c.requires.can c.requires.fold
      (Grows-trans c.args.b.now c.tree.new.b c.tree-2.new.b c.in_ok-first.ensures.grows c.in_ok-seq.ensures.grows)
      (c.in_ok-seq.ensures.stays ∙ c.in_ok-first.ensures.stays)
      (parts_are c.args.b.now c.args.e.now c.args.names.now c.requires.can c.requires.fold c.tree.new.b c.tree-2.new.b c.args.names.now c.tree.new.names
      c.as_slice-args.result.now c.child-start.result.now c.child-list.result.now c.in_ok-first.first c.in_ok-seq.seq c.in_ok-seq.ensures.grows
      c.as_slice-args.ensures c.child-start.ensures.child c.child-list.ensures.child c.in_ok-first.ensures.tree c.in_ok-seq.ensures.tree),
)

pub fold-fold_node-requires : goal.fold-fold_node-requires
fold-fold_node-requires t c =
    can_fold_node c.args.b.now c.tree-2.new.b c.steps.new.b c.args.e.now c.args.names.now c.tree-2.new.names c.in_ok-first.first c.in_ok-seq.seq
    c.in_ok-own.own _ c.requires.can c.requires.fold c.in_ok-own.ensures.grows
    (parts_are c.args.b.now c.args.e.now c.args.names.now c.requires.can c.requires.fold c.tree.new.b c.tree-2.new.b c.args.names.now c.tree.new.names
    c.as_slice-args.result.now c.child-start.result.now c.child-list.result.now c.in_ok-first.first c.in_ok-seq.seq c.in_ok-seq.ensures.grows
    c.as_slice-args.ensures c.child-start.ensures.child c.child-list.ensures.child c.in_ok-first.ensures.tree c.in_ok-seq.ensures.tree)
    c.in_ok-own.ensures.folds

pub fold-returns-clause-tree : goal.fold-returns-clause-tree
fold-returns-clause-tree t c =
    fold_tree c.args.b.now c.tree.new.b c.tree-2.new.b c.steps.new.b c.args.e.now c.args.names.now c.tree.new.names c.tree-2.new.names c.requires.can
    c.requires.fold c.as_slice-args.result.now c.child-start.result.now c.child-list.result.now c.in_ok-first.first c.in_ok-seq.seq c.in_ok-own.own
    c.in_ok-first.ensures.grows c.in_ok-seq.ensures.grows c.in_ok-own.ensures.grows c.as_slice-args.ensures c.child-start.ensures.child
    c.child-list.ensures.child c.in_ok-first.ensures.stays (c.in_ok-seq.ensures.stays ∙ c.in_ok-first.ensures.stays) c.in_ok-first.ensures.tree
    c.in_ok-seq.ensures.tree c.in_ok-own.ensures.folds c.fold_node.new.b c.in_ok-x.x c.in_ok-x.ensures.grows c.in_ok-x.ensures.sort c.in_ok-x.ensures.folds

-- ---- an update

pub right_side-child-body-requires : goal.right_side-child-body-requires
right_side-child-body-requires t c =
    let n = update_args c.args.b.now c.args.e.now c.args.names.now c.requires.can c.requires.update c.as_slice-args.result.now c.as_slice-args.ensures in
    omega arith

pub right_side-under-requires : goal.right_side-under-requires
right_side-under-requires t c =
    let deep = c.child-body.ensures.deep in
    let body = update_body_is c.args.b.now c.args.e.now c.args.names.now c.requires.can c.requires.update c.as_slice-args.result.now
    c.child-body.result.now c.as_slice-args.ensures c.child-body.ensures.child in (
      grind (arith, deep, the_lemmas, common_steps),
      (
        one_number c.args.b.now c.args.e.now c.args.names.now c.requires.can c.requires.update c.as_slice-numbers.result.now c.as_slice-numbers.ensures,
        can_right c.args.b.now c.args.names.now c.args.e.now c.args.old c.requires c.in-Some.found.0 c.in-Some.found.1 c.as_slice-numbers.result.now
            c.child-body.result.now c.in-Some.is c.as_slice-numbers.ensures body,
      ),
    )

pub updated-child-start-requires : goal.updated-child-start-requires
updated-child-start-requires t c =
    let n = update_args c.args.b.now c.args.e.now c.args.names.now c.requires.can c.requires.update c.as_slice-args.result.now c.as_slice-args.ensures in
    omega arith

pub updated-child-index-requires : goal.updated-child-index-requires
updated-child-index-requires t c =
    let n = update_args c.args.b.now c.args.e.now c.args.names.now c.requires.can c.requires.update c.as_slice-args.result.now c.as_slice-args.ensures in
    omega arith

pub updated-tree-requires : goal.updated-tree-requires
updated-tree-requires t c =
    let deep = c.child-start.ensures.deep in (
      grind (arith, deep, the_lemmas, common_steps),
      whole_can c.args.b.now c.args.e.now c.args.names.now c.requires.can c.requires.update c.as_slice-args.result.now c.child-start.result.now c.as_slice-args.ensures c.child-start.ensures.child,
    )

pub updated-tree-requires-2 : goal.updated-tree-requires-2
updated-tree-requires-2 t c =
    let deep = c.child-index.ensures.deep in (
      grind (arith, deep, the_lemmas, common_steps),
      index_can c.args.b.now c.args.e.now c.args.names.now c.requires.can c.requires.update c.tree.new.b c.tree.new.names c.as_slice-args.result.now
          c.child-index.result.now c.in_ok-whole.ensures.grows c.in_ok-whole.ensures.stays c.as_slice-args.ensures c.child-index.ensures.child,
    )

pub updated-old_value-requires : goal.updated-old_value-requires
updated-old_value-requires t c =
    tree_index c.args.b.now c.args.e.now c.args.names.now c.requires.can c.requires.update c.tree-2.new.b c.in_ok-whole.whole c.in_ok-place.place
    (update_parts_are c.args.b.now c.args.e.now c.args.names.now c.requires.can c.requires.update c.tree.new.b c.tree-2.new.b c.args.names.now c.tree.new.names c.as_slice-args.result.now
    c.child-start.result.now c.child-index.result.now c.in_ok-whole.whole c.in_ok-place.place c.in_ok-place.ensures.grows c.as_slice-args.ensures
    c.child-start.ensures.child c.child-index.ensures.child c.in_ok-whole.ensures.tree c.in_ok-place.ensures.tree)
    c.as_slice-args.result.now c.child-index.result.now c.as_slice-args.ensures c.child-index.ensures.child

pub updated-right_side-requires : goal.updated-right_side-requires
updated-right_side-requires t c = (
  grind (arith, the_lemmas, common_steps),
  can_change c.args.b.now c.args.e.now c.args.names.now c.requires.can c.requires.update c.tree-2.new.b c.in_ok-whole.whole c.in_ok-place.place
      (update_parts_are c.args.b.now c.args.e.now c.args.names.now c.requires.can c.requires.update c.tree.new.b c.tree-2.new.b c.args.names.now c.tree.new.names c.as_slice-args.result.now
      c.child-start.result.now c.child-index.result.now c.in_ok-whole.whole c.in_ok-place.place c.in_ok-place.ensures.grows c.as_slice-args.ensures
      c.child-start.ensures.child c.child-index.ensures.child c.in_ok-whole.ensures.tree c.in_ok-place.ensures.tree)
      c.old_value.new.b c.tree-2.new.names c.as_slice-args.result.now c.child-index.result.now _ (Grows-trans c.args.b.now c.tree.new.b c.old_value.new.b c.in_ok-whole.ensures.grows
      (Grows-trans c.tree.new.b c.tree-2.new.b c.old_value.new.b c.in_ok-place.ensures.grows c.in_ok-old.ensures.grows))
      (c.in_ok-place.ensures.stays ∙ c.in_ok-whole.ensures.stays) c.as_slice-args.ensures c.child-index.ensures.child c.in_ok-old.ensures.old,
)

pub updated-update_node-requires : goal.updated-update_node-requires
updated-update_node-requires t c =
    can_update_node c.args.b.now c.args.e.now c.args.names.now c.requires.can c.requires.update c.tree-2.new.b c.in_ok-whole.whole c.in_ok-place.place
    (update_parts_are c.args.b.now c.args.e.now c.args.names.now c.requires.can c.requires.update c.tree.new.b c.tree-2.new.b c.args.names.now c.tree.new.names c.as_slice-args.result.now
    c.child-start.result.now c.child-index.result.now c.in_ok-whole.whole c.in_ok-place.place c.in_ok-place.ensures.grows c.as_slice-args.ensures
    c.child-start.ensures.child c.child-index.ensures.child c.in_ok-whole.ensures.tree c.in_ok-place.ensures.tree)
    c.old_value.new.b c.tree-2.new.names c.as_slice-args.result.now c.child-index.result.now _ (Grows-trans c.args.b.now c.tree.new.b c.old_value.new.b c.in_ok-whole.ensures.grows
    (Grows-trans c.tree.new.b c.tree-2.new.b c.old_value.new.b c.in_ok-place.ensures.grows c.in_ok-old.ensures.grows))
    (c.in_ok-place.ensures.stays ∙ c.in_ok-whole.ensures.stays) c.as_slice-args.ensures c.child-index.ensures.child c.in_ok-old.ensures.old c.right_side.new.b _ c.in_ok-change.ensures.grows
    c.in_ok-old.ensures.grows c.in_ok-change.ensures.right

pub updated-returns-clause-tree : goal.updated-returns-clause-tree
updated-returns-clause-tree t c =
    update_tree c.args.b.now c.args.e.now c.args.names.now c.requires.can c.requires.update c.tree-2.new.b c.in_ok-whole.whole c.in_ok-place.place
    (update_parts_are c.args.b.now c.args.e.now c.args.names.now c.requires.can c.requires.update c.tree.new.b c.tree-2.new.b c.args.names.now c.tree.new.names c.as_slice-args.result.now
    c.child-start.result.now c.child-index.result.now c.in_ok-whole.whole c.in_ok-place.place c.in_ok-place.ensures.grows c.as_slice-args.ensures
    c.child-start.ensures.child c.child-index.ensures.child c.in_ok-whole.ensures.tree c.in_ok-place.ensures.tree)
    c.old_value.new.b c.tree-2.new.names c.as_slice-args.result.now c.child-index.result.now _ (Grows-trans c.args.b.now c.tree.new.b c.old_value.new.b c.in_ok-whole.ensures.grows
    (Grows-trans c.tree.new.b c.tree-2.new.b c.old_value.new.b c.in_ok-place.ensures.grows c.in_ok-old.ensures.grows))
    (c.in_ok-place.ensures.stays ∙ c.in_ok-whole.ensures.stays) c.as_slice-args.ensures c.child-index.ensures.child c.in_ok-old.ensures.old c.right_side.new.b _ c.in_ok-change.ensures.grows
    c.in_ok-old.ensures.grows c.in_ok-change.ensures.right c.tree.new.b c.tree.new.names c.child-start.result.now c.in_ok-whole.ensures.grows
    c.in_ok-place.ensures.grows c.in_ok-whole.ensures.stays c.child-start.ensures.child c.in_ok-whole.ensures.tree c.in_ok-place.ensures.tree
    c.update_node.new.b c.in_ok-x.x c.in_ok-x.ensures.grows c.in_ok-x.ensures.sort c.in_ok-x.ensures.updates

pub updated-returns-clause-grows : goal.updated-returns-clause-grows
updated-returns-clause-grows t c =
    let old = Grows-trans c.args.b.now c.tree.new.b c.old_value.new.b c.in_ok-whole.ensures.grows
    (Grows-trans c.tree.new.b c.tree-2.new.b c.old_value.new.b c.in_ok-place.ensures.grows c.in_ok-old.ensures.grows) in
    Grows-trans c.args.b.now c.right_side.new.b c.update_node.new.b
    (Grows-trans c.args.b.now c.old_value.new.b c.right_side.new.b old c.in_ok-change.ensures.grows) c.in_ok-x.ensures.grows

pub updated-returns-in_err-x-clause-grows : goal.updated-returns-in_err-x-clause-grows
updated-returns-in_err-x-clause-grows t c =
    let old = Grows-trans c.args.b.now c.tree.new.b c.old_value.new.b c.in_ok-whole.ensures.grows
    (Grows-trans c.tree.new.b c.tree-2.new.b c.old_value.new.b c.in_ok-place.ensures.grows c.in_ok-old.ensures.grows) in
    Grows-trans c.args.b.now c.right_side.new.b c.update_node.new.b
    (Grows-trans c.args.b.now c.old_value.new.b c.right_side.new.b old c.in_ok-change.ensures.grows) c.in_err-x.ensures.grows

-- ---- a tree in a form position

pub form-tree-requires : goal.form-tree-requires
form-tree-requires t c = (
  grind (arith, the_lemmas, common_steps),
  can_lower c.args.b.now c.args.e.now c.args.names.now (sym c.is_form.ensures ∙ c.if-not-is_form.true) c.requires,
)

pub form-returns-then-not-is_form-clause-form : goal.form-returns-then-not-is_form-clause-form
form-returns-then-not-is_form-clause-form t c =
    set_tree c.tree.new.b c.args.e.now c.args.names.now c.in_ok-set.set c.of_set.result (sym c.is_form.ensures ∙ c.if-not-is_form.true)
    c.of_set.ensures.shows c.of_set.ensures.sort c.in_ok-set.ensures.tree

pub form-trees-requires : goal.form-trees-requires
form-trees-requires t c = (
  grind (arith, the_lemmas, common_steps),
  (
    rw c.as_slice-args.ensures c.sets_of_form-count.ensures.within,
    sets_can_by c.args.b.now c.args.e.now c.args.names.now c.sets_of_form-count.result c.as_slice-args.result.now c.as_slice-args.ensures
        c.sets_of_form-count.ensures.sets (sym c.is_form.ensures ∙ c.if-not-is_form.false) c.requires,
  ),
)

pub form-forms-requires : goal.form-forms-requires
form-forms-requires t c = (
  (let deep = c.behind-rest.ensures.deep in grind (arith, deep, the_lemmas, common_steps)),
  parts_can_by c.args.b.now c.trees.new.b c.args.e.now c.args.names.now c.trees.new.names c.behind-rest.result.now
      (rest_made c.args.e.now c.sets_of_form-count.result c.as_slice-args.result.now c.behind-rest.result.now c.as_slice-args.ensures
      c.sets_of_form-count.ensures.parts c.behind-rest.ensures.rest)
      (sym c.is_form.ensures ∙ c.if-not-is_form.false) c.in_ok-made.ensures.grows c.in_ok-made.ensures.stays c.requires,
)

pub form-form_node-requires : goal.form-form_node-requires
form-form_node-requires t c =
    can_form c.args.b.now c.trees.new.b c.forms.new.b c.args.e.now c.args.names.now (sym c.is_form.ensures ∙ c.if-not-is_form.false)
    c.requires c.in_ok-made.ensures.grows c.in_ok-parts.ensures.grows c.as_slice-sets.result.now
    (form_sets_made c.trees.new.b c.args.e.now c.args.names.now c.sets_of_form-count.result c.as_slice-args.result.now _ _ c.as_slice-args.ensures
    c.sets_of_form-count.ensures.sets c.as_slice-sets.ensures.value c.in_ok-made.ensures.trees)
    c.in_ok-parts.parts.items c.trees.new.names c.in_ok-made.ensures.stays c.behind-rest.result.now
    (rest_made c.args.e.now c.sets_of_form-count.result c.as_slice-args.result.now c.behind-rest.result.now c.as_slice-args.ensures
    c.sets_of_form-count.ensures.parts c.behind-rest.ensures.rest)
    c.in_ok-parts.ensures.forms

pub form-returns-clause-form : goal.form-returns-clause-form
form-returns-clause-form t c =
    form_tree c.args.b.now c.trees.new.b c.forms.new.b c.args.e.now c.args.names.now (sym c.is_form.ensures ∙ c.if-not-is_form.false)
    c.requires c.in_ok-made.ensures.grows c.in_ok-parts.ensures.grows c.as_slice-sets.result.now
    (form_sets_made c.trees.new.b c.args.e.now c.args.names.now c.sets_of_form-count.result c.as_slice-args.result.now _ _ c.as_slice-args.ensures
    c.sets_of_form-count.ensures.sets c.as_slice-sets.ensures.value c.in_ok-made.ensures.trees)
    c.in_ok-parts.parts.items c.trees.new.names c.in_ok-made.ensures.stays c.behind-rest.result.now
    (rest_made c.args.e.now c.sets_of_form-count.result c.as_slice-args.result.now c.behind-rest.result.now c.as_slice-args.ensures
    c.sets_of_form-count.ensures.parts c.behind-rest.ensures.rest)
    c.in_ok-parts.ensures.forms c.form_node.new.b c.in_ok-x.x c.in_ok-x.ensures.grows c.in_ok-x.ensures.sort c.in_ok-x.ensures.makes

-- ---- several of these

pub forms-form-requires : goal.forms-form-requires
forms-form-requires t c = (
  grind (arith, the_lemmas, common_steps),
  form_at c.args.b.now c.loop-i.b c.args.names.now c.loop-i.names c.args.es.now c.loop-i.i c.index-es-i.result c.loop-i-test.true c.index-es-i.is
      c.requires c.loop-i.invariant.grows c.loop-i.invariant.stays,
)

pub forms-loop-i-preserved : goal.forms-loop-i-preserved
forms-loop-i-preserved t c =
    let i = c.loop-i.invariant in
    let o = c.in_ok-part.ensures in
    rw c.in_ok-push.ensures.items
    (record {
      grows = Grows-trans c.args.b.now c.loop-i.b c.form.new.b i.grows o.grows;
      stays = o.stays ∙ i.stays;
      made = forms_turn c.args.b.now c.loop-i.b c.form.new.b c.args.names.now c.loop-i.names c.args.es.now c.loop-i.parts.items c.loop-i.i
          c.index-es-i.result c.in_ok-part.part c.loop-i-test.true c.index-es-i.is c.requires i.grows o.grows i.stays i.made o.form;
    })

-- ---- a membership or an inclusion

pub related-child-left-requires : goal.related-child-left-requires
related-child-left-requires t c =
    let two = two_args c.args.b.now c.args.e.now c.args.names.now c.requires.relation c.requires.can c.as_slice-args.result.now c.as_slice-args.ensures in
    omega arith

pub related-child-right-requires : goal.related-child-right-requires
related-child-right-requires t c =
    let two = two_args c.args.b.now c.args.e.now c.args.names.now c.requires.relation c.requires.can c.as_slice-args.result.now c.as_slice-args.ensures in
    omega arith

pub related-tree-requires : goal.related-tree-requires
related-tree-requires t c = (
  (let deep = c.child-left.ensures.deep in grind (arith, deep, the_lemmas, common_steps)),
  left_can c.args.b.now c.args.e.now c.args.names.now c.requires.relation c.requires.can c.as_slice-args.result.now c.as_slice-args.ensures
      c.child-left.result.now c.child-left.ensures.child,
)

pub related-form-requires : goal.related-form-requires
related-form-requires t c = (
  (let deep = c.child-right.ensures.deep in grind (arith, deep, the_lemmas, common_steps)),
  right_can c.args.b.now c.args.e.now c.args.names.now c.requires.relation c.requires.can c.as_slice-args.result.now c.as_slice-args.ensures
      c.tree.new.b c.tree.new.names c.child-right.result.now c.child-right.ensures.child c.in_ok-x.ensures.grows c.in_ok-x.ensures.stays,
)

pub related-relate-requires : goal.related-relate-requires
related-relate-requires t c =
    can_relate c.args.b.now c.args.e.now c.args.names.now c.requires.relation c.requires.can c.as_slice-args.result.now c.as_slice-args.ensures
    c.tree.new.b c.form.new.b c.child-left.result.now c.child-right.result.now c.child-left.ensures.child c.child-right.ensures.child
    c.in_ok-x.ensures.grows c.in_ok-y.ensures.grows c.in_ok-x.x c.in_ok-y.y c.tree.new.names c.in_ok-x.ensures.stays c.in_ok-x.ensures.tree
    c.in_ok-y.ensures.form

pub related-returns-clause-tree : goal.related-returns-clause-tree
related-returns-clause-tree t c =
    related_tree c.args.b.now c.args.e.now c.args.names.now c.requires.relation c.requires.can c.as_slice-args.result.now c.as_slice-args.ensures
    c.tree.new.b c.form.new.b c.child-left.result.now c.child-right.result.now c.child-left.ensures.child c.child-right.ensures.child
    c.in_ok-x.ensures.grows c.in_ok-y.ensures.grows c.in_ok-x.x c.in_ok-y.y c.tree.new.names c.in_ok-x.ensures.stays c.in_ok-x.ensures.tree
    c.in_ok-y.ensures.form c.relate.new.b c.in_ok-r.r c.in_ok-r.ensures.grows c.in_ok-r.ensures.sort c.in_ok-r.ensures.relates
