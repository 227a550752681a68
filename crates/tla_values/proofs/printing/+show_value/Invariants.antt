use Rattle.std.proofs.Common.{◌≡◌, ◌++◌, map, take, codes}
use Rattle.std.specs.List.{join_by}
use Rattle.tla_values.specs.Show.{shown, pairs_shown, field_text, pair_text}
use Rattle.tla_values.proofs.printing.+show_value.Given as goal

abbrev pub invariant-show_set-loop-i : goal.invariant-show_set-loop-i
invariant-show_set-loop-i l =
    l.out.items ≡ l.initial.out.items ++ join_by (λ x. x.text) (codes ", ") (map shown (take l.i l.members))

abbrev pub invariant-show_tuple-loop-i : goal.invariant-show_tuple-loop-i
invariant-show_tuple-loop-i l =
    l.out.items ≡ l.initial.out.items ++ join_by (λ p. p.1.text) (codes ", ") (pairs_shown (take l.i l.pairs))

abbrev pub invariant-show_record-loop-i : goal.invariant-show_record-loop-i
invariant-show_record-loop-i l =
    l.out.items ≡ l.initial.out.items ++ join_by field_text (codes ", ") (pairs_shown (take l.i l.pairs))

abbrev pub invariant-show_pairs-loop-i : goal.invariant-show_pairs-loop-i
invariant-show_pairs-loop-i l =
    l.out.items ≡ l.initial.out.items ++ join_by pair_text (codes " @@ ") (pairs_shown (take l.i l.pairs))
