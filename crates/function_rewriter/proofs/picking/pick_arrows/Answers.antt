use Rattle.std.proofs.Common.{false, ap, arith}
use Rattle.sat_formula.specs.declared.lit.Lit.{Lit}
use Rattle.cell_arena.specs.declared.kinds.CellId.{CellId}
use Rattle.cell_arena.proofs.Growing.{Grows-refl, Grows-trans}
use Rattle.cell_merge.proofs.Edges.{negated-value}
use Rattle.function_rewriter.proofs.FunctionPicks.{arrows-none, arrows-absent, arrows-push, set-later, empty-set, none-of}
use Rattle.function_rewriter.proofs.picking.pick_arrows.Goals as goal

abbrev none-edge : Lit × CellId
none-edge = (record { var = 0; neg = false }, record { index = 0 })

pub loop-edge-init : goal.loop-edge-init
loop-edge-init c = record { grows = Grows-refl _; picks = arrows-none _ _ c.args.edges.now _ _ c.new-arrows.ensures.items c.new-tests.ensures.items }

pub pick_where-requires : goal.pick_where-requires
pick_where-requires c =
    let i = c.loop-edge.invariant in
    record {
      set = set-later _ _ _ c.requires.set i.grows;
      below = let p = c.requires.edges.named c.loop-edge.edge-index none-edge c.loop-edge-test.true in let q = i.grows.formula.vars in omega arith;
    }

pub loop-edge-preserved-in_default : goal.loop-edge-preserved-in_default
loop-edge-preserved-in_default c =
    let i = c.loop-edge.invariant in
    let g = c.in_ok-picked.ensures.grows in
    let below = c.requires.edges.named c.loop-edge.edge-index none-edge c.loop-edge-test.true in
    let v = ap (λ (l : Lit). l.var) c.negated.ensures in
    record {
      grows = Grows-trans _ _ _ i.grows g;
      picks = arrows-absent c.args.b.now _ _ c.args.edges.now c.loop-edge.edge-index none-edge c.args.set _ _ c.requires.edges c.requires.set c.loop-edge-test.true i.grows g i.picks
          c.negated.result _ c.in_ok-push.ensures.items (let p = i.grows.formula.vars in let q = g.formula.vars in omega arith) (λ a. negated-value _ _ a c.negated.ensures)
          (empty-set _ _ _ c.requires.set i.grows (c.in_ok-picked.ensures.none (none-of _ (λ x e. c.in_default.not-Some x e))));
    }

pub loop-edge-preserved : goal.loop-edge-preserved
loop-edge-preserved c =
    let i = c.loop-edge.invariant in
    let p = rw c.in-Some.is at c.in_ok-picked.ensures.picks in
    record {
      grows = Grows-trans _ _ _ i.grows c.in_ok-picked.ensures.grows;
      picks = arrows-push c.args.b.now _ _ c.args.edges.now c.loop-edge.edge-index none-edge c.args.set _ _ c.requires.edges c.requires.set c.loop-edge-test.true i.grows c.in_ok-picked.ensures.grows i.picks
          _ _ _ _ c.in_ok-push-2.ensures.items c.in_ok-push-3.ensures.items p;
    }
