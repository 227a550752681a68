use Rattle.std.proofs.Common.{arith, ◌≡◌, ◌∙◌, ap, sym, ℕ, Some}
use Rattle.tla_meaning.specs.Scopes.{find_last}
use Rattle.op_inliner.specs.Inlining.{Names}
use Rattle.op_inliner.specs.inner.Frames.{closed, names_at}
use Rattle.op_inliner.proofs.FrameLemmas.{names_zero, tree_hit, tree_miss, tree_passed}
use Rattle.op_inliner.proofs.frames.find_tree.Goals as goal
use Rattle.op_inliner.proofs.frames.find_tree.Goals.{in-Tree+else-same_name, in_default}

pub returns-then-same_name-clause-some : goal.returns-then-same_name-clause-some
returns-then-same_name-clause-some c = record {
  within = let k = c.saturating_sub.ensures in let h = c.loop-scope.invariant.within in omega (arith, k, h);
  is = sym c.loop-scope.invariant.same ∙ tree_hit c.args.frames.now c.loop-scope.scope c.index-frames-i.result c.args.name.now c.loop-scope-test.true c.loop-scope.invariant.within c.index-frames-i.is c.in-Tree.params c.in-Tree.body c.in-Tree.deeper c.in-Tree.is (sym c.if-same_name.ensures)
      ∙ ap (λ (k : ℕ). Some (closed c.in-Tree.params.now c.in-Tree.body.now (names_at c.args.frames.now k))) (sym c.saturating_sub.ensures);
}

pub loop-scope-preserved : goal.loop-scope-preserved
loop-scope-preserved c = record {
  within = let k = c.saturating_sub-scope.ensures in let h = c.loop-scope.invariant.within in omega (arith, k, h);
  same =
      ap (λ (k : ℕ). find_last c.args.name.now (names_at c.args.frames.now k).named) c.saturating_sub-scope.ensures
      ∙ sym (elim c.match-frame.branch [
        | in-Tree+else-same_name w ↦ tree_miss c.args.frames.now c.loop-scope.scope c.index-frames-i.result c.args.name.now c.loop-scope-test.true c.loop-scope.invariant.within c.index-frames-i.is w.in-Tree.params w.in-Tree.body w.in-Tree.deeper w.in-Tree.is (sym w.if-same_name.ensures)
        | in_default w ↦ tree_passed c.args.frames.now c.loop-scope.scope c.index-frames-i.result c.args.name.now c.loop-scope-test.true c.loop-scope.invariant.within c.index-frames-i.is w.in_default.not-Tree
      ]) ∙ c.loop-scope.invariant.same;
}

pub returns-clause-none : goal.returns-clause-none
returns-clause-none c =
    let zero : c.loop-scope.scope ≡ 0 = let h = c.loop-scope-test.false in omega (arith, h) in
    sym c.loop-scope.invariant.same ∙ ap (λ (k : ℕ). find_last c.args.name.now (names_at c.args.frames.now k).named) zero
    ∙ ap (λ (ns : Names). find_last c.args.name.now ns.named) (names_zero c.args.frames.now)
