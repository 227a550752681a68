use Rattle.std.proofs.Common.{refl, true, None}
use Rattle.plain_solver.proofs.SearchLemmas.{decided_next}
use Rattle.plain_solver.proofs.searching.decide.Goals as goal

pub returns : goal.returns
returns c = rw (c.push.ensures, c.entries.ensures.same)
    (decided_next c.args.search.now (record { lit = record { var = c.args.var; neg = true }; reason = None }) c.requires.searching refl c.requires.quiet c.requires.free (rw c.push.ensures at c.entries-2.ensures.sound.counted))
