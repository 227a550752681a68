use Rattle.std.proofs.Common.{◌-◌, ◌+◌, ◌<◌, ◌≡◌, not, ℕ, length, ◌∙◌, ap, arith, lt_of_lt_of_le}
use Rattle.std.proofs.lemmas.List.{drop_all}
use Rattle.sat_formula.proofs.Extension.{Grows-refl, Grows-trans}
use Rattle.sat_formula.proofs.GateClauses.{lit_value-negation}
use Rattle.branch_cells.proofs.EndLiterals.{first_ends, judged_none, judged_step}
use Rattle.branch_cells.proofs.ends.judged.Goals as goal

pub loop-i-init : goal.loop-i-init
loop-i-init c =
    let xs = c.args.xs.now in
    let none = judged_none c.args.f.now c.negated-bottom.result (rw c.negated-bottom.ensures c.top.ensures.below)
    (λ a s. rw c.negated-bottom.ensures (lit_value-negation c.top.result a ∙ ap not (c.top.ensures.forced a s))) in
    record {
      grows = Grows-refl c.args.f.now;
      judged = rw (drop_all (length xs - 0) xs (omega arith)) none;
    }

pub loop-i-preserved : goal.loop-i-preserved
loop-i-preserved c =
    let i = c.loop-i.invariant in
    let r = c.in_ok-rest.ensures in
    let xs = c.args.xs.now in
    let k : ℕ = length xs - 1 - c.loop-i.i in
    let lt : k < length xs = let t = c.loop-i-test.true in omega arith in
    let now : length xs - (c.loop-i.i + 1) ≡ k = omega arith in
    let before : length xs - c.loop-i.i ≡ k + 1 = let t = c.loop-i-test.true in omega arith in
    record {
      grows = Grows-trans _ _ _ i.grows r.grows;
      judged = rw now (judged_step _ _ xs k _ c.loop-i.rest c.in_ok-rest.rest r.grows lt
          (rw before at i.judged) r.bad r.big);
    }

pub judged_first-requires-clause-ends : goal.judged_first-requires-clause-ends
judged_first-requires-clause-ends c =
    let k : ℕ = length c.args.xs.now - 1 - c.loop-i.i in
    let lt : k < length c.args.xs.now = let t = c.loop-i-test.true in omega arith in
    λ e. lt_of_lt_of_le (c.requires k first_ends lt e) c.loop-i.invariant.grows.vars
