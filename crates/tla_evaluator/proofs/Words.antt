-- The words of the definitions, for proofs: what several of them name.
pub use denote.Param.Weighed.{most}
pub use Rattle.std.proofs.Math.ListN.{drop_of_length-le}
pub use Rattle.std.proofs.lemmas.Grind.{common_steps}
pub use Rattle.std.proofs.lemmas.List.{drop-map, get_or_default, length-map, map-append, take-map, take_more}
pub use Rattle.std.proofs.lemmas.List.Elements.{All-append, All-from_recursion, All-more, All-weaker, recursion_from_All}
pub use Rattle.std.proofs.lemmas.Result.{err_from_is_err_and}
pub use Rattle.std.specs.List.{All, AllByRecursion, list_all, list_any}
pub use Rattle.std.specs.declared.cmp.Ordering.TheVariants.{Equal, Greater, Less}
pub use Rattle.tla_values.specs.Order.{Layer, same_value, text_cmp, value_cmp}
pub use Rattle.tla_values.specs.Sets.{Normal, apply, arguments, by_order, function_of, increasing, insert_pair, member, set_of, union_of}
pub use Rattle.tla_values.specs.declared.value.Value.{Fun, Int, Set, Text, Value, out-Value, roll-Value, roll-out-Value}
pub use Rattle.tla_values.specs.declared.value.Value.TheVariants.{outs-Bool, outs-Fun, outs-Set, outs-Text, rolls-Fun, rolls-Set, rolls-Text}
pub use Rattle.tla_meaning.proofs.Joins.{both_assoc, both_unit, joined_append}
pub use Rattle.tla_meaning.proofs.Views.{AllAgree, false≢true}
pub use Rattle.tla_meaning.specs.Actions.{act, any_mentions, case_effect, denotation_of, effect_of, effects, effects_and, effects_or, exists_effect, fails_by, guard, guarded, if_effect, meaning, node, outcome_of, val}
pub use Rattle.tla_meaning.specs.Executions.{IsYes, constants, first_not_yes, in_cinit, in_init, is_yes, next, no_scope, scope_of, start}
unfoldable pub use Rattle.tla_meaning.specs.Forms.{belongs}
pub use Rattle.tla_meaning.specs.Forms.{Broken, Formed, Made, all_belong, all_set_forms, fault_or_form, fields_at, form_fault, form_faults, function_passes, has_fields, is_set_form, made, part_belongs, passes, results, same_set, set_passes}
pub use Rattle.tla_meaning.specs.Meaning.{At, Meaning, NoFunction, Outside, Reached, Update, all_indexes, argument, at_path, bound_table, by_truth, case_chosen, child, choose, conjoined, denotations, disjoined, except, except_marks, first_updated, fold_over, folded, form_of_all, form_of_one, forms, function_form, functions_from, if_chosen, implied, in_form, inner, kept, layer_of, on_all_truths, outcomes, outer, over_members, plain, read, role, set_path, truths, updated, updates, view}
pub use Rattle.tla_meaning.specs.Numbers.{Width, from_on, in_width, number, power_of, range}
pub use Rattle.tla_meaning.specs.Operators.{on_all_sets, on_items, part_of, table, yes_no}
pub use Rattle.tla_meaning.specs.Outcomes.{IsNormalOutcome, fault_of, fault_or, join_faults, joined, strict, values, with_value}
pub use Rattle.tla_meaning.specs.Scopes.{Denotation, Scope, absent, bind, bound_to, find_last, or_else, same_text, value_found}
pub use Rattle.tla_meaning.specs.Shapes.{all_set_items, choices, each_to, items_from, items_of, numbered, sequence, set_items, sublists, the_set, union_all, with_each}
pub use Rattle.tla_meaning.specs.declared.actions.Assignable.{Assignable}
pub use Rattle.tla_meaning.specs.declared.actions.Assignable.TheVariants.{Constants, Primed, PrimedVariables, Variables}
pub use Rattle.tla_meaning.specs.declared.actions.Effect.{Effect}
pub use Rattle.tla_meaning.specs.declared.expr.Decl.{Decl}
pub use Rattle.tla_meaning.specs.declared.expr.Expr.{Expr, out-Expr, roll-Expr}
pub use Rattle.tla_meaning.specs.declared.expr.Expr.TheFolds.{fold-roll-Expr, fold_out-Expr, ind-Expr, map-Expr}
pub use Rattle.tla_meaning.specs.declared.expr.Expr.TheOpen.{Expr-F}
pub use Rattle.tla_meaning.specs.declared.forms.SetForm.{SetForm, out-SetForm}
pub use Rattle.tla_meaning.specs.declared.forms.SetForm.TheVariants.{AllInts, AllNats, AllTexts, Functions, Plain, Records, Sequences, Subsets, Tuples, outs-Functions, outs-Plain, outs-Records, outs-Sequences, outs-Subsets, outs-Tuples}
pub use Rattle.tla_meaning.specs.declared.job.State.{State}
pub use Rattle.tla_meaning.specs.declared.op.Op.{Op}
pub use Rattle.tla_meaning.specs.declared.outcome.Fault.{Fault}
pub use Rattle.tla_meaning.specs.declared.outcome.Fault.TheVariants.{IsBig, IsWrong, NoFault}
pub use Rattle.tla_meaning.specs.declared.outcome.Outcome.{Outcome}
pub use Rattle.tla_meaning.specs.declared.outcome.Outcome.TheVariants.{Big, Val, Wrong}
pub use Rattle.tla_meaning.specs.declared.place.Place.{Place}
