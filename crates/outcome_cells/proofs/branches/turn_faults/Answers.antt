use Rattle.std.proofs.Common.{◌-◌, ◌+◌, ◌<◌, ◌≡◌, not, ℕ, length, ◌∙◌, ap, arith}
use Rattle.std.proofs.lemmas.List.{drop_all}
use Rattle.sat_formula.proofs.Extension.{Grows-refl, Grows-trans}
use Rattle.sat_formula.proofs.GateClauses.{lit_value-negation}
use Rattle.outcome_cells.proofs.Turning.{turns-none, turns-step}
use Rattle.outcome_cells.proofs.branches.turn_faults.Goals as goal

pub loop-i-init : goal.loop-i-init
loop-i-init c =
    let xs = c.args.xs.now in
    let bits = c.args.bits.now in
    let n : length bits ≡ length xs = c.requires.count in
    let none = turns-none c.args.f.now c.args.wanted c.negated-bottom.result (rw c.negated-bottom.ensures c.top.ensures.below)
    (λ a s. rw c.negated-bottom.ensures (lit_value-negation c.top.result a ∙ ap not (c.top.ensures.forced a s))) in
    record {
      grows = Grows-refl c.args.f.now;
      shows = rw (drop_all (length xs - 0) xs (omega arith), drop_all (length xs - 0) bits (omega arith)) none;
    }

pub loop-i-preserved : goal.loop-i-preserved
loop-i-preserved c =
    let i = c.loop-i.invariant in
    let r = c.in_ok-rest.ensures in
    let xs = c.args.xs.now in
    let bits = c.args.bits.now in
    let k : ℕ = length xs - 1 - c.loop-i.i in
    let lt : k < length xs = let t = c.loop-i-test.true in omega arith in
    let le : k < length bits = let n = c.requires.count in omega arith in
    let now : length xs - (c.loop-i.i + 1) ≡ k = omega arith in
    let before : length xs - c.loop-i.i ≡ k + 1 = let t = c.loop-i-test.true in omega arith in
    record {
      grows = Grows-trans _ _ _ i.grows r.grows;
      shows = rw now
          (turns-step _ _ c.args.wanted xs bits k _ _ c.loop-i.rest c.in_ok-rest.rest r.grows lt le (rw before at i.shows)
          (rw (c.faults.ensures, c.wanted_bit-on.ensures) at r.wrong) (rw (c.faults.ensures, c.wanted_bit-on.ensures) at r.big));
    }
