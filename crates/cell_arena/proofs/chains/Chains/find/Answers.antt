use Rattle.std.proofs.Common.{◌≡◌, ◌<◌, ◌-◌, ◌%◌, ap, arith, suc}
use Rattle.cell_arena.proofs.PlaceLaws.{left_begins, left_goes, other_kind}
use Rattle.cell_arena.proofs.chains.Chains.find.Goals as goal

pub loop-place-init : goal.loop-place-init
loop-place-init c =
    left_begins c.args.kinds.now c.args.kind.now c.args.self.now _ c.index-place.result.now c.requires (ap (λ n. n % 65536) c.number_of.ensures) (omega arith) c.index-place.ensures

pub loop-place-smaller : goal.loop-place-smaller
loop-place-smaller c =
    (left_goes c.args.kinds.now c.args.kind.now c.args.self.now c.loop-place.place (c.loop-place.place - 1) c.index-older.result.now c.requires c.loop-place.invariant
    (let h = c.loop-place-test.true in omega arith) c.index-older.ensures
    (other_kind c.args.kinds.now c.args.kind.now c.index-kinds-index.result _ c.same_kind.result c.index-kinds-index.is c.same_kind.ensures c.if-same_kind.false)).1

pub loop-place-preserved : goal.loop-place-preserved
loop-place-preserved c =
    (left_goes c.args.kinds.now c.args.kind.now c.args.self.now c.loop-place.place (c.loop-place.place - 1) c.index-older.result.now c.requires c.loop-place.invariant
    (let h = c.loop-place-test.true in omega arith) c.index-older.ensures
    (other_kind c.args.kinds.now c.args.kind.now c.index-kinds-index.result _ c.same_kind.result c.index-kinds-index.is c.same_kind.ensures c.if-same_kind.false)).0
