use Rattle.std.proofs.Common.{◌≡◌, ◌-◌, [], length}
use Rattle.tla_modules.specs.Sources.{AreRead}
use Rattle.tla_modules.proofs.reading.read_all.Given as goal

abbrev pub invariant-loop-name : goal.invariant-loop-name
invariant-loop-name g l =
    (g.F.Files.held l.files ≡ g.F.Files.held l.initial.files)
    × (g.F.Files.faults l.files ≡ g.F.Files.faults l.initial.files)
    × AreRead (g.F.Files.held l.initial.files) l.root [] l.modules.items

-- at most 64 are read
abbrev pub decreases-loop-name : goal.decreases-loop-name
decreases-loop-name g l = 65 - length l.modules.items
