use Rattle.std.proofs.lemmas.List.{take_all}
use Rattle.std.proofs.lemmas.List.Elements.{All-more}
use Rattle.sat_formula.specs.Lit.{IsBelow}
use Rattle.watched_search.proofs.TrailLemmas.{no_entry}
use Rattle.cdcl_solver.proofs.acceptance.are_below.Goals as goal

pub loop-l-preserved : goal.loop-l-preserved
loop-l-preserved c = All-more (IsBelow c.args.vars) c.args.lits.now c.loop-l.l-index no_entry.lit c.loop-l-test.true c.loop-l.invariant c.if-l-vars.false

pub returns : goal.returns
returns c = λ yes'. rw (take_all c.loop-l.l-index c.args.lits.now c.loop-l-test.false) at c.loop-l.invariant
