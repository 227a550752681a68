use Rattle.std.proofs.Common.{rules, ap₂, ◌∙◌}
use Rattle.std.proofs.lemmas.Int.{to_z-of_z}
use Rattle.std.specs.Int.{int_min, int_max}
use mir.Syntax.{w128}
use mir.Val.{SFits}
use Rattle.shape_bounds.proofs.Ends.{hull_moved}
use Rattle.shape_bounds.proofs.Means.{mean-Num}
use Rattle.shape_bounds.proofs.intervals.hull.Goals as goal

pub returns : goal.returns
returns c =
    let f : SFits w128 c.args.x.0 = search rules in
    let g : SFits w128 c.args.x.1 = search rules in
    let h : SFits w128 c.args.y.0 = search rules in
    let k : SFits w128 c.args.y.1 = search rules in
    let a = to_z-of_z w128 c.end-a.result (record { sfits = c.end-a.type_inv }) ∙ (simp to_z-of_z at c.end-a.ensures) in
    let b = to_z-of_z w128 c.end-b.result (record { sfits = c.end-b.type_inv }) ∙ (simp to_z-of_z at c.end-b.ensures) in
    let x = to_z-of_z w128 c.end-c.result (record { sfits = c.end-c.type_inv }) ∙ (simp to_z-of_z at c.end-c.ensures) in
    let y = to_z-of_z w128 c.end-d.result (record { sfits = c.end-d.type_inv }) ∙ (simp to_z-of_z at c.end-d.ensures) in
    let low = to_z-of_z w128 c.min.result (record { sfits = c.min.type_inv }) ∙ c.min.ensures.value ∙ ap₂ int_min a b in
    let low2 = to_z-of_z w128 c.min-2.result (record { sfits = c.min-2.type_inv }) ∙ c.min-2.ensures.value ∙ ap₂ int_min x y in
    let high = to_z-of_z w128 c.max.result (record { sfits = c.max.type_inv }) ∙ c.max.ensures.value ∙ ap₂ int_max a b in
    let high2 = to_z-of_z w128 c.max-2.result (record { sfits = c.max-2.type_inv }) ∙ c.max-2.ensures.value ∙ ap₂ int_max x y in
    mean-Num _ _
    ∙ hull_moved c.args.width _ _ _ _ _ _
    (to_z-of_z w128 c.min-3.result (record { sfits = c.min-3.type_inv }) ∙ c.min-3.ensures.value ∙ ap₂ int_min low low2)
    (to_z-of_z w128 c.max-3.result (record { sfits = c.max-3.type_inv }) ∙ c.max-3.ensures.value ∙ ap₂ int_max high high2)
