use Rattle.std.proofs.Common.{◌≡◌, drop, false, map}
use Rattle.std.specs.List.{list_all}
use Rattle.snowcat_types.specs.Answers.{is_typable_tree}
use Rattle.snowcat_types.proofs.typable.parts_fit.Given as goal

abbrev pub invariant-loop-inv : goal.invariant-loop-inv
invariant-loop-inv l =
    list_all (λ e. is_typable_tree l.count e (λ x. false)) (map (λ v. v.1) (drop l.inv-index l.invs))
    ≡ list_all (λ e. is_typable_tree l.count e (λ x. false)) (map (λ v. v.1) l.invs)
