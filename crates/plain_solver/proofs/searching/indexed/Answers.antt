use Rattle.std.proofs.Common.{ℕ, List, take, arith, sym, subst}
use Rattle.std.proofs.lemmas.List.{take_more, length-take-le}
use Rattle.sat_formula.specs.declared.lit.Lit.{Lit}
use Rattle.plain_solver.specs.inner.Occurrences.{Adds}
use Rattle.plain_solver.proofs.ReadyLemmas.{index_more}
use Rattle.plain_solver.proofs.searching.indexed.Goals as goal

pub loop-k-preserved : goal.loop-k-preserved
loop-k-preserved c =
    let D : List Lit = c.index-clauses-k.result in
    let size = length-take-le c.loop-k.k c.args.clauses.now (omega arith) in
    let adds = rw c.lits.ensures at c.in_ok-add.ensures in
    let all = index_more c.args.room c.loop-k.occurrences c.add.new.self (take c.loop-k.k c.args.clauses.now) D c.loop-k.invariant (subst (λ (n : ℕ). Adds c.loop-k.occurrences c.add.new.self D n) (sym size) adds) in
    rw (take_more c.args.clauses.now c.loop-k.k D c.loop-k-test.true, ← c.index-clauses-k.is) all
