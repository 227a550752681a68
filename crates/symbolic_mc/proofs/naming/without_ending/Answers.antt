use Rattle.tla_values.proofs.FileLemmas.{no_ending}
use Rattle.symbolic_mc.proofs.Names.{ending_left}
use Rattle.symbolic_mc.proofs.naming.without_ending.Goals as goal

pub returns-in-Some : goal.returns-in-Some
returns-in-Some c = let k = c.in-Some.ensures.cases in ending_left c.args.file.now c.in-Some.stem.now _ k.1.1 k.2

pub returns-in-None : goal.returns-in-None
returns-in-None c = no_ending c.args.file.now (c.in-None.ensures.cases)
