use Rattle.std.proofs.Common.{ap₂, ◌∙◌, arith, rules}
use Rattle.std.proofs.lemmas.Int.{to_z-of_z, ints}
use Rattle.std.specs.Int.{int_max}
use mir.Syntax.{w128}
use mir.Val.{SFits}
use Rattle.shape_bounds.proofs.Ends.{quotient_of}
use Rattle.shape_bounds.proofs.intervals.quotient.Goals as goal

pub returns-in-Some : goal.returns-in-Some
returns-in-Some c =
    let f : SFits w128 c.in-Some.a = search rules in
    let g : SFits w128 c.in-Some.b = search rules in
    let a = to_z-of_z w128 c.saturating_abs.result (record { sfits = c.saturating_abs.type_inv }) ∙ (simp to_z-of_z at c.saturating_abs.ensures) in
    let b = to_z-of_z w128 c.saturating_abs-in-Some.result (record { sfits = c.saturating_abs-in-Some.type_inv }) ∙ (simp to_z-of_z at c.saturating_abs-in-Some.ensures) in
    let most = to_z-of_z w128 c.max-most.result (record { sfits = c.max-most.type_inv }) ∙ c.max-most.ensures.value ∙ ap₂ int_max a b in
    quotient_of c.args.width c.requires.sized.narrow c.in-Some.a c.in-Some.b _ _ _ _ c.in-Some.ensures most (omega (arith, ints)) c.interval.ensures
