use Rattle.std.proofs.Common.{◌≡◌, ◌∙◌, length, filter, arith}
use Rattle.std.proofs.lemmas.List.Elements.{All-filter}
use Rattle.sat_formula.proofs.Extension.{Satisfies-older}
use Rattle.outcome_cells.specs.declared.cells.Cells.{Cells}
use Rattle.outcome_cells.specs.inner.Fallible.{may_fail}
use Rattle.outcome_cells.specs.Shows.{FaultsBelow, faults_of}
use Rattle.outcome_cells.proofs.PassedOver.{one_joined, passed_over}
use Rattle.outcome_cells.proofs.faults.join_all.Goals as goal

pub join_several-requires : goal.join_several-requires
join_several-requires c =
    rw (c.as_slice-open.ensures.value, c.in_ok-some.ensures)
    (All-filter may_fail (λ (x : Cells). FaultsBelow c.args.f.now.vars (faults_of x)) c.args.xs.now c.requires)

pub returns-then-open-eq1-clause-joins : goal.returns-then-open-eq1-clause-joins
returns-then-open-eq1-clause-joins c =
    let open_ = c.as_slice-open.ensures.value ∙ c.in_ok-some.ensures in
    let all = All-filter may_fail (λ (x : Cells). FaultsBelow c.args.f.now.vars (faults_of x)) c.args.xs.now c.requires in
    let one : length (filter may_fail c.args.xs.now) ≡ 1 = rw open_ at c.if-open-eq1.true in
    passed_over c.args.f.now c.args.xs.now _ (rw c.top.ensures.same at c.top.ensures.forced)
    (rw (c.faults.ensures, open_) (one_joined c.args.f.now (filter may_fail c.args.xs.now) _ one (all 0 _ (omega arith))))

pub returns-clause-joins : goal.returns-clause-joins
returns-clause-joins c =
    let open_ = c.as_slice-open.ensures.value ∙ c.in_ok-some.ensures in
    passed_over _ c.args.xs.now _ (λ a s. (rw c.top.ensures.same at c.top.ensures.forced) a (Satisfies-older _ _ a c.in_ok-faults.ensures.grows s))
    (rw open_ at c.in_ok-faults.ensures.joins)
