use Rattle.std.proofs.Common.{ℕ, ◌<◌, ◌≤◌, List, subst, length, get_or, arith}
use Rattle.sat_formula.specs.declared.lit.Lit.{Lit}
use Rattle.plain_search.proofs.Indexed.{greatest_is}
use Rattle.plain_search.proofs.index.greatest.Goals as goal

pub returns : goal.returns
returns c = λ v is.
    greatest_is c.args.clause.now c.loop-lit.greatest v
    (subst (λ (xs : List Lit). (k : ℕ) (d : Lit) → k < length xs → (get_or xs k d).var ≤ c.loop-lit.greatest) c.lits-lit-items.ensures
    (λ k d lt. c.loop-lit.invariant.seen k d (let end = c.loop-lit-test.false in omega arith)))
    c.loop-lit.invariant.bound is
