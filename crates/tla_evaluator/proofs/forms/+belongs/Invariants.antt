use Rattle.std.proofs.Common.{◌≡◌, ◌≤◌, drop, length}
use Rattle.tla_evaluator.proofs.Words.{all_belong, belongs, fields_at, list_all, results}
use Rattle.tla_evaluator.proofs.forms.+belongs.Given as goal

abbrev pub invariant-all_belong-loop-v : goal.invariant-all_belong-loop-v
invariant-all_belong-loop-v l = list_all (belongs l.form) l.values ≡ list_all (belongs l.form) (drop l.v-index l.values)

abbrev pub invariant-all_results_belong-loop-v : goal.invariant-all_results_belong-loop-v
invariant-all_results_belong-loop-v l =
    list_all (belongs l.form) (results l.pairs) ≡ list_all (belongs l.form) (results (drop l.v-index l.pairs))

abbrev pub invariant-fields_belong-loop-name : goal.invariant-fields_belong-loop-name
invariant-fields_belong-loop-name l = record {
  within : l.place ≤ length l.forms;
  same : all_belong l.forms (fields_at l.names l.pairs)
      ≡ all_belong (drop l.place l.forms) (fields_at (drop l.name-index l.names) l.pairs);
}

abbrev pub invariant-items_belong-loop-i : goal.invariant-items_belong-loop-i
invariant-items_belong-loop-i l =
    all_belong l.forms (results l.pairs)
    ≡ all_belong (drop l.i l.forms) (results (drop l.i l.pairs))
