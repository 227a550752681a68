use Rattle.cell_merge.proofs.Ends.{lengths-alike}
use Rattle.cell_merge.proofs.equality.same_lengths.Goals as goal

pub equal-requires-clause-words : goal.equal-requires-clause-words
equal-requires-clause-words c = lengths-alike c.args.arena.now c.args.formula.now _ _ _ _ _ _ _ _ c.requires.over.fits c.kind.ensures.held c.kind-2.ensures.held c.in-Seq.is c.in-Seq-kind.is
