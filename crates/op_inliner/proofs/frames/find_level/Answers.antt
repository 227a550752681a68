use Rattle.std.proofs.Common.{arith, ◌≡◌, ◌∙◌, ap, sym, ℕ}
use Rattle.tla_meaning.specs.Scopes.{find_last}
use Rattle.op_inliner.specs.Inlining.{Names}
use Rattle.op_inliner.specs.inner.Frames.{names_at}
use Rattle.op_inliner.proofs.FrameLemmas.{names_zero, level_hit, level_miss, level_passed}
use Rattle.op_inliner.proofs.frames.find_level.Goals as goal
use Rattle.op_inliner.proofs.frames.find_level.Goals.{in-Bound+else-same_name, in_default}

pub returns-then-same_name : goal.returns-then-same_name
returns-then-same_name c = sym c.loop-scope.invariant.same ∙ level_hit c.args.frames.now c.loop-scope.scope c.index-frames-i.result c.args.name.now c.loop-scope-test.true c.loop-scope.invariant.within c.index-frames-i.is c.in-Bound.level c.in-Bound.is (sym c.if-same_name.ensures)

pub loop-scope-preserved : goal.loop-scope-preserved
loop-scope-preserved c = record {
  within = let k = c.saturating_sub-scope.ensures in let h = c.loop-scope.invariant.within in omega (arith, k, h);
  same =
      ap (λ (k : ℕ). find_last c.args.name.now (names_at c.args.frames.now k).bound) c.saturating_sub-scope.ensures
      ∙ sym (elim c.match-frame.branch [
        | in-Bound+else-same_name w ↦ level_miss c.args.frames.now c.loop-scope.scope c.index-frames-i.result c.args.name.now c.loop-scope-test.true c.loop-scope.invariant.within c.index-frames-i.is w.in-Bound.level w.in-Bound.is (sym w.if-same_name.ensures)
        | in_default w ↦ level_passed c.args.frames.now c.loop-scope.scope c.index-frames-i.result c.args.name.now c.loop-scope-test.true c.loop-scope.invariant.within c.index-frames-i.is w.in_default.not-Bound
      ]) ∙ c.loop-scope.invariant.same;
}

pub returns : goal.returns
returns c =
    let zero : c.loop-scope.scope ≡ 0 = let h = c.loop-scope-test.false in omega (arith, h) in
    sym c.loop-scope.invariant.same ∙ ap (λ (k : ℕ). find_last c.args.name.now (names_at c.args.frames.now k).bound) zero
    ∙ ap (λ (ns : Names). find_last c.args.name.now ns.bound) (names_zero c.args.frames.now)
