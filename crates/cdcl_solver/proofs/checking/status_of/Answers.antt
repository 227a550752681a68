use Rattle.std.proofs.Common.{map, sym, ◌∙◌}
use Rattle.std.specs.Prelude.{◌≤◌, length}
use Rattle.std.proofs.lemmas.Bool.{false≢true}
use Rattle.std.proofs.lemmas.List.{take_all, length-map}
use Rattle.sat_formula.specs.Lit.{IsBelow}
use Rattle.refutation_checker.specs.Follows.{IsUnit}
use Rattle.refutation_checker.proofs.StatusLemmas.{Found-false}
use Rattle.watched_search.specs.Codes.{literal}
use Rattle.watched_search.specs.Trail.{lits_of}
use Rattle.cdcl_solver.proofs.CheckingLemmas.{literal_same, literal_is, literals_more, literal_below, Found-alone}
use Rattle.cdcl_solver.proofs.checking.status_of.Goals as goal
use Rattle.cdcl_solver.proofs.checking.status_of.Goals.{then-not-is_false+else-is_true+else-not-is_alone, else-not-is_false}

pub is_false-requires : goal.is_false-requires
is_false-requires c = literal_below c.args.codes.now c.args.trail.now.room c.loop-code.code-index 0 c.requires c.loop-code-test.true

pub is_true-requires : goal.is_true-requires
is_true-requires c =
    literal_is (IsBelow c.args.trail.now.room) c.literal_of.result _ c.literal_of.ensures (literal_below c.args.codes.now c.args.trail.now.room c.loop-code.code-index 0 c.requires c.loop-code-test.true)

pub loop-code-preserved : goal.loop-code-preserved
loop-code-preserved c =
    let T = lits_of c.args.trail.now.entries in
    let more = literals_more c.args.codes.now c.loop-code.code-index 0 c.loop-code-test.true in
    elim c.if-not-is_false.branch [
      | then-not-is_false+else-is_true+else-not-is_alone w ↦
          (let same = literal_same w.literal_of.result _ w.literal_of.ensures in
          rw (w.found-is, more)
          (Found-alone _ _ c.loop-code.found _ c.loop-code.invariant (w.is_alone.ensures w.if-not-is_alone.false)
          (λ t. false≢true (sym w.if-is_true.false ∙ w.is_true.ensures.1 (rw same at t))) (λ f. false≢true (sym w.if-not-is_false.true ∙ c.is_false.ensures.1 f))))
      | else-not-is_false w ↦ rw (w.found-is, more) (Found-false _ _ _ _ c.loop-code.invariant (c.is_false.ensures.0 w.if-not-is_false.false))
    ]

pub returns-in-None : goal.returns-in-None
returns-in-None c =
    let h = rw c.in-None.is at c.loop-code.invariant in
    let past : length (map (λ n. literal n) c.args.codes.now) ≤ c.loop-code.code-index = rw (length-map c.args.codes.now (λ n. literal n)) c.loop-code-test.false in
    rw (take_all c.loop-code.code-index (map (λ n. literal n) c.args.codes.now) past) at h

pub returns-in-Some : goal.returns-in-Some
returns-in-Some c =
    let h = rw c.in-Some.is at c.loop-code.invariant in
    let past : length (map (λ n. literal n) c.args.codes.now) ≤ c.loop-code.code-index = rw (length-map c.args.codes.now (λ n. literal n)) c.loop-code-test.false in
    literal_is (λ u. IsUnit (lits_of c.args.trail.now.entries) (map (λ n. literal n) c.args.codes.now) u) c.literal_of-in-Some.result _ c.literal_of-in-Some.ensures
    (rw (take_all c.loop-code.code-index (map (λ n. literal n) c.args.codes.now) past) at h)
