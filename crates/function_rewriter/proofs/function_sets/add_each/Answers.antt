use Rattle.std.proofs.Common.{false, arith}
use Rattle.sat_formula.specs.declared.lit.Lit.{Lit}
use Rattle.cell_arena.specs.declared.kinds.CellId.{CellId}
use Rattle.sat_formula.proofs.Extension.{Grows-refl, Grows-trans}
use Rattle.function_rewriter.proofs.FunctionListings.{each-none, each-more, each-all, choices-later}
use Rattle.function_rewriter.proofs.function_sets.add_each.Goals as goal

abbrev none-edge : Lit × CellId
none-edge = (record { var = 0; neg = false }, record { index = 0 })

pub loop-member-init : goal.loop-member-init
loop-member-init c = record { grows = Grows-refl _; adds = each-none _ _ c.args.members.now _ _ c.new-out.ensures.items }

pub add_member-requires : goal.add_member-requires
add_member-requires c =
    let i = c.loop-member.invariant in
    let g = i.grows.vars in
    let p = c.requires.members_named c.loop-member.member-index none-edge c.loop-member-test.true in
    let q = c.requires.edge_below in
    record { edge_below = omega arith; below = omega arith; named = choices-later _ _ c.args.choices.now c.requires.named g; out_named = i.adds.named }

pub loop-member-preserved : goal.loop-member-preserved
loop-member-preserved c =
    let i = c.loop-member.invariant in
    record {
      grows = Grows-trans _ _ _ i.grows c.in_ok-add_member.ensures.grows;
      adds = each-more _ _ _ c.args.members.now c.loop-member.member-index none-edge _ _ _ c.loop-member-test.true c.in_ok-add_member.ensures.grows i.adds c.in_ok-add_member.ensures.adds;
    }

pub returns-clause-adds : goal.returns-clause-adds
returns-clause-adds c = each-all _ _ c.args.members.now _ _ c.loop-member.member-index (omega arith) c.loop-member.invariant.adds
