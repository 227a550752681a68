use Rattle.std.proofs.Common.{◌≡◌, ℕ, ◌++◌, ◌∷◌, [], ◌*◌, ◌≤◌, drop}
use Rattle.tla_evaluator.proofs.Words.{All, Expr, NoFault, Normal, folded, form_faults, join_faults, joined, most, results, updated, values}
use Rattle.tla_evaluator.specs.inner.Branches.{case_branch}
use Rattle.tla_evaluator.specs.inner.Nodes.{bodies_in, except_in, fold_in, index_trees, junction, paths_in, updates_in}
use Rattle.tla_evaluator.specs.inner.Readings.{first_in, forms_in, outcomes_in, with_names}
use Rattle.tla_evaluator.proofs.StopLemmas.{formed}
use Rattle.tla_evaluator.proofs.context.Context.+eval.Given as goal

abbrev pub invariant-joined-loop-e : goal.invariant-joined-loop-e
invariant-joined-loop-e l = record {
  fault : join_faults l.all.fault (joined (outcomes_in l.self (drop l.e-index l.trees))) ≡ joined (outcomes_in l.self l.trees);
  values : l.all.items.items ++ values (outcomes_in l.self (drop l.e-index l.trees)) ≡ values (outcomes_in l.self l.trees);
}

abbrev pub invariant-junction-loop-e : goal.invariant-junction-loop-e
invariant-junction-loop-e l =
    junction l.decides l.place (outcomes_in l.self (drop l.e-index l.trees)) ≡ junction l.decides l.place (outcomes_in l.self l.trees)

abbrev pub invariant-branch-loop-i : goal.invariant-branch-loop-i
invariant-branch-loop-i l = case_branch l.self l.place (drop (2 * l.i) l.trees) ≡ case_branch l.self l.place l.trees

abbrev pub invariant-bodies-loop-choice : goal.invariant-bodies-loop-choice
invariant-bodies-loop-choice l = record {
  fault : join_faults l.all.fault (joined (bodies_in l.self l.site.place l.site.names.now l.trees (drop l.choice-index l.choices)))
      ≡ joined (bodies_in l.self l.site.place l.site.names.now l.trees l.choices);
  values : l.all.items.items ++ values (bodies_in l.self l.site.place l.site.names.now l.trees (drop l.choice-index l.choices))
      ≡ values (bodies_in l.self l.site.place l.site.names.now l.trees l.choices);
}

abbrev pub invariant-indexes-loop-n : goal.invariant-indexes-loop-n
invariant-indexes-loop-n l = record {
  fault : join_faults l.fault (joined (outcomes_in l.self (index_trees (drop l.n-index l.counts) l.rest)))
      ≡ joined (outcomes_in l.self (index_trees l.counts l.trees));
  paths : l.items.items ++ paths_in l.self (drop l.n-index l.counts) l.rest ≡ paths_in l.self l.counts l.trees;
  small : (f : Expr → ℕ) → most f l.rest ≤ most f l.trees;
}

abbrev pub invariant-except-loop-n : goal.invariant-except-loop-n
invariant-except-loop-n l = record {
  same : updated l.site.place (updates_in l.self l.site.place l.site.names.now (drop l.n-index l.paths) l.rest) l.result
      ≡ except_in l.self l.site.place l.counts l.site.names.now l.args;
  normal : Normal l.result;
  small : (f : Expr → ℕ) → most f l.rest ≤ most f l.args;
}

abbrev pub invariant-fold-loop-item : goal.invariant-fold-loop-item
invariant-fold-loop-item l = record {
  same : folded (λ a b. first_in (with_names l.self l.site.names.now (a ∷ b ∷ [])) l.site.place l.args) (results (drop l.item-index l.pairs)) l.so_far
      ≡ fold_in l.self l.site.place l.site.names.now l.args;
  normal : Normal l.so_far;
  all : All Normal (results l.pairs);
}

abbrev pub invariant-forms-loop-e : goal.invariant-forms-loop-e
invariant-forms-loop-e l = record {
  fault : join_faults l.all.fault (form_faults (forms_in l.self (drop l.e-index l.trees))) ≡ form_faults (forms_in l.self l.trees);
  forms : l.all.fault ≡ NoFault → formed l.all.items.items ++ forms_in l.self (drop l.e-index l.trees) ≡ forms_in l.self l.trees;
}
