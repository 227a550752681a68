use Rattle.std.proofs.Common.{◌-◌, arith}
use Rattle.flat_modules.proofs.Places.{read_as}
use Rattle.flat_modules.proofs.Scopes.{told_begins, told_ends, told_next}
use Rattle.flat_modules.proofs.scope.repeated.Goals as goal

pub loop-place-init : goal.loop-place-init
loop-place-init c = told_begins c.args.new.now c.args.entries.now c.last-place.ensures c.requires.key c.requires.keys c.new-told.ensures.items

pub loop-place-smaller : goal.loop-place-smaller
loop-place-smaller c =
    (told_next c.args.new.now c.args.entries.now c.loop-place.place c.before-place.result c.get.result.now c.loop-place-test.true c.loop-place.invariant
    (read_as c.args.entries.now (c.loop-place.place - 1) c.get.ensures c.index-entries-place.is) c.in_ok-add_repeated.ensures c.before-place.ensures c.requires.keys).1

pub loop-place-preserved : goal.loop-place-preserved
loop-place-preserved c =
    (told_next c.args.new.now c.args.entries.now c.loop-place.place c.before-place.result c.get.result.now c.loop-place-test.true c.loop-place.invariant
    (read_as c.args.entries.now (c.loop-place.place - 1) c.get.ensures c.index-entries-place.is) c.in_ok-add_repeated.ensures c.before-place.ensures c.requires.keys).0

pub returns : goal.returns
returns c = told_ends c.args.new.now c.args.entries.now c.loop-place.place (omega arith) c.loop-place.invariant
