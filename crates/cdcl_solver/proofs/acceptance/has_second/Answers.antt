use Rattle.std.proofs.Common.{◌≡◌, ◌+◌, ◌-◌, arith}
use Rattle.cdcl_solver.proofs.AcceptanceLemmas.{second_first, second_later}
use Rattle.cdcl_solver.proofs.acceptance.has_second.Goals as goal

pub returns-then-level-eq0 : goal.returns-then-level-eq0
returns-then-level-eq0 c = λ yes'. second_first c.args.lits.now c.args.u c.args.search.now.entries c.args.level (rw c.requires.levels at c.requires.level) c.if-level-eq0.true

pub returns : goal.returns
returns c = λ yes'.
    let apart = c.if-level-eq0.false in
    let next : c.args.level ≡ c.args.level - 1 + 1 = omega arith in
    second_later c.args.lits.now c.args.u c.args.search.now.entries c.args.level (c.args.level - 1) (rw c.requires.levels at c.requires.level) next
    (rw c.requires.levels at (c.has_other.ensures yes'))
