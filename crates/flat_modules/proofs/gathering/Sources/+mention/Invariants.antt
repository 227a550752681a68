use Rattle.std.proofs.Common.{◌≡◌, ◌+◌, ◌*◌, drop}
use Rattle.tla_meaning.specs.ReadingOrder.{mention, one_by_one}
use Rattle.flat_modules.proofs.gathering.Sources.+mention.Given as goal

abbrev pub decreases-mention : goal.decreases-mention
decreases-mention l = 4 * l.depth

abbrev pub decreases-inside : goal.decreases-inside
decreases-inside l = 4 * l.depth + 2

abbrev pub decreases-one_by_one : goal.decreases-one_by_one
decreases-one_by_one l = 4 * l.depth + 1

abbrev pub invariant-one_by_one-loop-name : goal.invariant-one_by_one-loop-name
invariant-one_by_one-loop-name l =
    one_by_one (mention l.depth l.self.modules.now l.chain) l.names l.initial.read.items
    ≡ one_by_one (mention l.depth l.self.modules.now l.chain) (drop l.name-index l.names) l.read.items
