use Rattle.std.proofs.Common.{[], ◌∷◌, ◌∙◌, ap, length, rules, sym}
use Rattle.std.proofs.lemmas.Int.{to_z-of_z}
use mir.Syntax.{w128}
use mir.Val.{SFits}
use Rattle.kernel_shapes.specs.Codes.{mean}
use Rattle.kernel_shapes.specs.Rows.{joined_at, number}
use Rattle.shape_bounds.specs.inner.Table.{literal}
use Rattle.shape_bounds.proofs.IndexJoins.{tuple_joined}
use Rattle.shape_bounds.proofs.updates.joined_at.Goals as goal

pub returns-in_ok-items-in-Number : goal.returns-in_ok-items-in-Number
returns-in_ok-items-in-Number c =
    let f : SFits w128 c.in-Number.n = search rules in
    tuple_joined c.args.whole.now c.in-Tup.items c.as_slice-in-Number.result.now c.in_ok-items-in-Number.items _ c.item_place-place.result (length c.as_slice.result.now) (mean c.args.new.now)
    c.in-Tup.is c.as_slice-in-Number.ensures (ap length (c.as_slice-in-Number.ensures ∙ sym c.as_slice.ensures)) c.item_place-place.ensures c.in_ok-items-in-Number.ensures
    ∙ ap (λ n. joined_at (number n ∷ []) (mean c.args.new.now) (mean c.args.whole.now)) (to_z-of_z w128 c.in-Number.n f)
    ∙ ap (λ l. joined_at (l ∷ []) (mean c.args.new.now) (mean c.args.whole.now)) (sym (ap literal c.in-Number.is))
