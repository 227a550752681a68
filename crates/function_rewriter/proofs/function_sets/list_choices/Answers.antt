use Rattle.std.proofs.Common.{◌-◌, false, length, arith}
use Rattle.sat_formula.specs.declared.lit.Lit.{Lit}
use Rattle.sat_formula.proofs.Extension.{Grows-refl, Grows-trans}
use Rattle.cell_arena.specs.declared.kinds.CellId.{CellId}
use Rattle.cell_merge.proofs.Unions.{AreNamed-later}
use Rattle.function_rewriter.proofs.FunctionListings.{listing-start, listing-turn, listing-all}
use Rattle.function_rewriter.proofs.function_sets.list_choices.Goals as goal

abbrev none-edge : Lit × CellId
none-edge = (record { var = 0; neg = false }, record { index = 0 })

pub loop-i-init : goal.loop-i-init
loop-i-init c = record {
  grows = Grows-refl _;
  listing = listing-start _ _ c.args.edges.now _ _ _ _ c.new.ensures c.new-choices.ensures.items c.in_ok-push.ensures.items c.top.ensures.below c.top.ensures.forced;
}

pub extend-requires : goal.extend-requires
extend-requires c =
    let i = c.loop-i.invariant in
    let g = i.grows.vars in
    let p = c.requires.edges_named (length c.args.edges.now - 1 - c.loop-i.i) none-edge (omega arith) in
    record {
      edge_below = omega arith;
      members_named = AreNamed-later _ _ c.args.members.now c.requires.members_named g;
      named = rw c.as_slice.ensures.value i.listing.named;
    }

pub loop-i-preserved : goal.loop-i-preserved
loop-i-preserved c =
    let i = c.loop-i.invariant in
    record {
      grows = Grows-trans _ _ _ i.grows c.in_ok-choices.ensures.grows;
      listing = listing-turn _ _ c.args.edges.now _ c.loop-i.i none-edge _ _ c.loop-i-test.true c.in_ok-choices.ensures.grows i.listing (rw c.as_slice.ensures.value at c.in_ok-choices.ensures.extends);
    }

pub returns-clause-listing : goal.returns-clause-listing
returns-clause-listing c = listing-all _ c.args.edges.now _ c.loop-i.i _ (omega arith) c.loop-i.invariant.listing
