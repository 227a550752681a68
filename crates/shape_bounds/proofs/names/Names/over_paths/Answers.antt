use Rattle.std.proofs.Common.{◌≡◌, ◌<◌, ◌-◌, suc, ◌∙◌, ap, arith, length, map, sym}
use Rattle.kernel_shapes.specs.Codes.{mean}
use Rattle.kernel_shapes.specs.Levels.{join_each}
use Rattle.kernel_shapes.specs.Sized.{found}
use Rattle.shape_bounds.specs.inner.Walks.{assigns_in, some_shapes}
use Rattle.shape_bounds.proofs.OverPaths.{no_paths, paths_next, paths_none}
use Rattle.shape_bounds.proofs.names.Names.over_paths.Goals as goal

pub loop-i-init : goal.loop-i-init
loop-i-init c =
    paths_none c.args.self.now (assigns_in c.args.target) c.in_ok-shapes.shapes _ (no_paths c.args.self.now.width c.args.paths.now)
    (c.in_ok-shapes.ensures ∙ ap (λ os. map found (some_shapes os)) c.as_slice.ensures.value)

pub loop-i-preserved : goal.loop-i-preserved
loop-i-preserved c =
    let one : c.loop-i.i ≡ suc (c.loop-i.i - 1) = omega arith in
    let less : c.loop-i.i - 1 < length c.args.paths.now = omega arith in
    paths_next c.args.self.now c.in_ok-along.along c.path.new.self (assigns_in c.args.target) c.args.paths.now c.loop-i.i c.index-paths-i.result c.as_slice-in-loop-i.result.now c.loop-i.shapes
    c.as_slice-in-loop-i-3.result.now c.in_ok-shapes-2.shapes c.loop-i.first c.requires.unbound c.loop-i.invariant one less c.index-paths-i.is
    (c.as_slice-in-loop-i.ensures ∙ sym (ap (λ x. x.steps) c.index-paths-i.is)) c.in_ok-along.ensures
    c.in_ok-path.ensures c.as_slice-in-loop-i-3.ensures
    (c.in_ok-shapes-2.ensures ∙ ap (λ os. join_each (map found (some_shapes os)) (map mean c.as_slice-in-loop-i-3.result.now)) c.as_slice-in-loop-i-2.ensures.value)
