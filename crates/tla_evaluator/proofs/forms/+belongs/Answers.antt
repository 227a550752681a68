use Rattle.std.proofs.Common.{◌∙◌, ◌&&◌, ap, sym}
use Rattle.tla_evaluator.proofs.Words.{arguments, belongs, items_of, list_all, member, passes, results, same_set}
use Rattle.tla_evaluator.proofs.FormLemmas.{at_plain, at_sequences, at_functions, at_subsets, at_records, at_tuples, set_in, set_out, fun_in, fields_done, items_differ}
use Rattle.tla_evaluator.proofs.forms.+belongs.Goals as goal

pub belongs-returns-in-Set : goal.belongs-returns-in-Set
belongs-returns-in-Set t c =
    c.is_among.ensures ∙ ap (member c.args.v.now) c.as_slice.ensures ∙ set_in _ _ _ c.in-Set.is ∙ sym (at_plain c.args.form.now c.args.v.now _ c.in-Plain.is)

pub belongs-returns-in_default : goal.belongs-returns-in_default
belongs-returns-in_default t c =
    set_out _ _ c.in_default.not-Set ∙ sym (at_plain c.args.form.now c.args.v.now _ c.in-Plain.is)

pub belongs-returns-in-Fun : goal.belongs-returns-in-Fun
belongs-returns-in-Fun t c = sym c.if-matches.true ∙ c.sequence_belongs.ensures ∙ ap (λ f. passes (list_all (belongs f)) (items_of c.in-Fun.pairs)) c.get.ensures ∙ fun_in _ _ _ c.in-Fun.is ∙ sym (at_sequences c.args.form.now c.args.v.now _ c.in-Sequences.is)

pub belongs-returns-in_default-matches-3 : goal.belongs-returns-in_default-matches-3
belongs-returns-in_default-matches-3 t c = sym c.if-matches.false ∙ c.sequence_belongs.ensures ∙ ap (λ f. passes (list_all (belongs f)) (items_of c.in-Fun.pairs)) c.get.ensures ∙ fun_in _ _ _ c.in-Fun.is ∙ sym (at_sequences c.args.form.now c.args.v.now _ c.in-Sequences.is)

pub belongs-returns-in-Fun-matches : goal.belongs-returns-in-Fun-matches
belongs-returns-in-Fun-matches t c = sym c.if-matches-2.true ∙ c.function_belongs.ensures
    ∙ ap (λ f. same_set c.in-Functions.arguments (arguments c.in-Fun-matches.pairs) && list_all (belongs f) (results c.in-Fun-matches.pairs)) c.get-in-Functions.ensures ∙ fun_in _ _ _ c.in-Fun-matches.is ∙ sym (at_functions c.args.form.now c.args.v.now _ _ c.in-Functions.is)

pub belongs-returns-in_default-matches-4 : goal.belongs-returns-in_default-matches-4
belongs-returns-in_default-matches-4 t c = sym c.if-matches-2.false ∙ c.function_belongs.ensures
    ∙ ap (λ f. same_set c.in-Functions.arguments (arguments c.in-Fun-matches.pairs) && list_all (belongs f) (results c.in-Fun-matches.pairs)) c.get-in-Functions.ensures ∙ fun_in _ _ _ c.in-Fun-matches.is ∙ sym (at_functions c.args.form.now c.args.v.now _ _ c.in-Functions.is)

pub belongs-returns-in-Set-matches : goal.belongs-returns-in-Set-matches
belongs-returns-in-Set-matches t c = sym c.if-matches-3.true ∙ c.all_belong.ensures ∙ ap (λ f. list_all (belongs f) c.as_slice-in-Subsets.result.now) c.get-in-Subsets.ensures ∙ ap (list_all (belongs c.in-Subsets.items)) c.as_slice-in-Subsets.ensures ∙ set_in _ _ _ c.in-Set-matches.is ∙ sym (at_subsets c.args.form.now c.args.v.now _ c.in-Subsets.is)

pub belongs-returns-in_default-matches-5 : goal.belongs-returns-in_default-matches-5
belongs-returns-in_default-matches-5 t c = sym c.if-matches-3.false ∙ c.all_belong.ensures ∙ ap (λ f. list_all (belongs f) c.as_slice-in-Subsets.result.now) c.get-in-Subsets.ensures ∙ ap (list_all (belongs c.in-Subsets.items)) c.as_slice-in-Subsets.ensures ∙ set_in _ _ _ c.in-Set-matches.is ∙ sym (at_subsets c.args.form.now c.args.v.now _ c.in-Subsets.is)

pub belongs-returns-in-Fun-matches-2 : goal.belongs-returns-in-Fun-matches-2
belongs-returns-in-Fun-matches-2 t c = sym c.if-matches-4.true ∙ c.record_belongs.ensures ∙ fun_in _ _ _ c.in-Fun-matches-2.is ∙ sym (at_records c.args.form.now c.args.v.now _ _ c.in-Records.is)

pub belongs-returns-in_default-matches-6 : goal.belongs-returns-in_default-matches-6
belongs-returns-in_default-matches-6 t c = sym c.if-matches-4.false ∙ c.record_belongs.ensures ∙ fun_in _ _ _ c.in-Fun-matches-2.is ∙ sym (at_records c.args.form.now c.args.v.now _ _ c.in-Records.is)

pub belongs-returns-in-Fun-matches-3 : goal.belongs-returns-in-Fun-matches-3
belongs-returns-in-Fun-matches-3 t c = sym c.if-matches-5.true ∙ c.tuple_belongs.ensures ∙ fun_in _ _ _ c.in-Fun-matches-3.is ∙ sym (at_tuples c.args.form.now c.args.v.now _ c.in-Tuples.is)

pub belongs-returns-in_default-matches-7 : goal.belongs-returns-in_default-matches-7
belongs-returns-in_default-matches-7 t c = sym c.if-matches-5.false ∙ c.tuple_belongs.ensures ∙ fun_in _ _ _ c.in-Fun-matches-3.is ∙ sym (at_tuples c.args.form.now c.args.v.now _ c.in-Tuples.is)

pub fields_belong-returns : goal.fields_belong-returns
fields_belong-returns t c =
    fields_done c.args.forms.now c.args.names.now c.args.pairs.now _ _ c.loop-name.invariant.within c.loop-name-test.false c.loop-name.invariant.same

pub items_belong-returns-then-forms-pairs : goal.items_belong-returns-then-forms-pairs
items_belong-returns-then-forms-pairs t c = items_differ c.args.forms.now c.args.pairs.now c.if-forms-pairs.true
