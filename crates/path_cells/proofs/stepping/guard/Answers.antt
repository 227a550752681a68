use Rattle.std.proofs.Common.{[], ◌∷◌, ap, arith, ◌∙◌}
use Rattle.kernel_trees.specs.TypeKinds.{Truth}
use Rattle.path_cells.proofs.StepFacts.{guard_cells, same_step}
use Rattle.path_cells.proofs.stepping.guard.Goals as goal

pub bit_of-bit-requires : goal.bit_of-bit-requires
bit_of-bit-requires c = (c.in_ok-x.ensures.sort Truth c.requires.kind).sort

pub returns-clause-step : goal.returns-clause-step
returns-clause-step c =
    let o = c.in_ok-x.ensures in
    same_step c.args.b.now c.rewrite.new.b c.args.env.now _ _ _ _ _ _ _ c.faults.ensures
    (c.in_ok-choices.ensures ∙ ap (λ l. l ∷ []) c.wanted_bit.ensures) c.new.ensures
    (guard_cells c.args.b.now c.rewrite.new.b c.args.env.now c.args.k.now c.in_ok-x.x o.grows (record { sort = o.sort; rewrites = o.rewrites })
    c.requires.can.holds.there Truth c.requires.kind c.args.wanted c.bit_of-bit.result
    (let f = c.rewrite.new.b.fits in let lt = c.bit_of-bit.ensures.below in omega arith) c.bit_of-bit.ensures.value)
