use Rattle.std.proofs.Common.{◌≡◌, ◌∙◌, ap, map, take, length, arith}
use Rattle.std.proofs.Math.Seq.{take-length}
use Rattle.kernel_shapes.specs.Codes.{mean}
use Rattle.kernel_shapes.specs.Shape.{inside}
use Rattle.shape_bounds.proofs.Fielded.{insides_are}
use Rattle.shape_bounds.proofs.records.insides.Goals as goal

pub returns : goal.returns
returns c =
    let all : c.loop-set.set-index ≡ length c.args.sets.now = omega arith in
    c.loop-set.invariant
    ∙ ap (λ n. map (λ s. inside (mean s)) (take n c.args.sets.now)) all
    ∙ ap (map (λ s. inside (mean s))) (take-length c.args.sets.now)
    ∙ insides_are c.args.sets.now
