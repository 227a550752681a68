use Rattle.std.proofs.Common.{◌≡◌, ◌++◌, OnOk, rules, ap, arith, codes, map}
use Rattle.std.proofs.lemmas.Int.{to_z-of_z}
use Rattle.std.specs.Fmt.{signed_decimal}
use Rattle.tla_values.specs.Show.{shown, quoted, set_text, function_text, pairs_shown, field_text, pair_text}
use Rattle.tla_values.proofs.ShowLemmas.{shown-bool, shown-int, shown-text, shown-set, shown-fun, Begins-more, join_by_more, join_by_read, two_more, four_more, written_as}
use Rattle.tla_values.proofs.printing.+show_value.Goals as goal

pub show_value-returns-in-Bool-clause-text : goal.show_value-returns-in-Bool-clause-text
show_value-returns-in-Bool-clause-text t c =
    written_as _ _ _ _ _ (ap (λ s. s.text) (shown-bool c.args.v.now _ c.in-Bool.is)) c.show_bool.ensures.text

pub show_value-returns-in-Int-clause-text : goal.show_value-returns-in-Int-clause-text
show_value-returns-in-Int-clause-text t c =
    let h : OnOk c.show_number.result (c.show_number.new.out.items ≡ c.args.out.now.items ++ signed_decimal c.in-Int.n) = search (rules, to_z-of_z) in
    written_as _ _ _ _ _ (ap (λ s. s.text) (shown-int c.args.v.now _ c.in-Int.is)) h

pub show_value-returns-in-Text-clause-text : goal.show_value-returns-in-Text-clause-text
show_value-returns-in-Text-clause-text t c =
    let h : OnOk c.show_text.result (c.show_text.new.out.items ≡ c.args.out.now.items ++ quoted c.in-Text.t) = search rules in
    written_as _ _ _ _ _ (ap (λ s. s.text) (shown-text c.args.v.now _ c.in-Text.is)) h

pub show_value-returns-in-Set-clause-text : goal.show_value-returns-in-Set-clause-text
show_value-returns-in-Set-clause-text t c =
    let h : OnOk c.show_set.result (c.show_set.new.out.items ≡ c.args.out.now.items ++ set_text (map shown c.in-Set.members)) = search rules in
    written_as _ _ _ _ _ (ap (λ s. s.text) (shown-set c.args.v.now _ c.in-Set.is)) h

pub show_value-returns-in-Fun-clause-text : goal.show_value-returns-in-Fun-clause-text
show_value-returns-in-Fun-clause-text t c =
    let h : OnOk c.show_function.result (c.show_function.new.out.items ≡ c.args.out.now.items ++ function_text (pairs_shown c.in-Fun.pairs)) = search rules in
    written_as _ _ _ _ _ (ap (λ s. s.text) (shown-fun c.args.v.now _ c.in-Fun.is)) h

pub show_pairs-returns-in_err-show_value-2-clause-begins : goal.show_pairs-returns-in_err-show_value-2-clause-begins
show_pairs-returns-in_err-show_value-2-clause-begins t c =
    Begins-more _ _ _ _ c.in_ok-append.ensures.text
    (Begins-more _ _ _ _ c.loop-i.invariant
    (Begins-more _ _ _ _ c.in_ok-separate.ensures.text
    (Begins-more _ _ _ _ c.in_ok-show_value.ensures.text
    (Begins-more _ _ _ _ c.in_ok-append-2.ensures.text c.in_err-show_value-2.ensures.begins))))

pub show_pairs-loop-i-preserved : goal.show_pairs-loop-i-preserved
show_pairs-loop-i-preserved t c =
    four_more _ _ _ c.loop-i.invariant _ _ _ _ _ _ _ _ _
    c.in_ok-separate.ensures.text c.in_ok-show_value.ensures.text c.in_ok-append-2.ensures.text c.in_ok-show_value-2.ensures.text
    (join_by_read (λ p. (shown p.0, shown p.1)) pair_text (codes " @@ ") c.args.pairs.now c.loop-i.i _ (omega arith) c.index-pairs-i.is)

pub show_record-returns-in_err-show_value-clause-begins : goal.show_record-returns-in_err-show_value-clause-begins
show_record-returns-in_err-show_value-clause-begins t c =
    Begins-more _ _ _ _ c.in_ok-append.ensures.text
    (Begins-more _ _ _ _ c.loop-i.invariant
    (Begins-more _ _ _ _ c.in_ok-separate.ensures.text
    (Begins-more _ _ _ _ c.in_ok-show_name.ensures.text
    (Begins-more _ _ _ _ c.in_ok-append-2.ensures.text c.in_err-show_value.ensures.begins))))

pub show_record-loop-i-preserved : goal.show_record-loop-i-preserved
show_record-loop-i-preserved t c =
    four_more _ _ _ c.loop-i.invariant _ _ _ _ _ _ _ _ _
    c.in_ok-separate.ensures.text c.in_ok-show_name.ensures.text c.in_ok-append-2.ensures.text c.in_ok-show_value.ensures.text
    (join_by_read (λ p. (shown p.0, shown p.1)) field_text (codes ", ") c.args.pairs.now c.loop-i.i _ (omega arith) c.index-pairs-i.is)

pub show_set-loop-i-preserved : goal.show_set-loop-i-preserved
show_set-loop-i-preserved t c =
    two_more _ _ _ c.loop-i.invariant _ _ _ _ _
    c.in_ok-separate.ensures.text c.in_ok-show_value.ensures.text
    (join_by_read shown (λ x. x.text) (codes ", ") c.args.members.now c.loop-i.i _ (omega arith) c.index-members-i.is)

pub show_tuple-loop-i-preserved : goal.show_tuple-loop-i-preserved
show_tuple-loop-i-preserved t c =
    two_more _ _ _ c.loop-i.invariant _ _ _ _ _
    c.in_ok-separate.ensures.text c.in_ok-show_value.ensures.text
    (join_by_more (λ p. (shown p.0, shown p.1)) (λ p. p.1.text) (codes ", ") c.args.pairs.now c.loop-i.i _ (omega arith))
