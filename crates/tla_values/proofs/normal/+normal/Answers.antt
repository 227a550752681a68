use Rattle.std.proofs.Common.{sym, refl, ◌∙◌, true}
use Rattle.tla_values.proofs.NormalLemmas.{normal_bool, normal_int, normal_text, both_set, both_fun, no_set, no_fun}
use Rattle.tla_values.proofs.normal.+normal.Goals as goal

pub is_normal-returns-in-Bool : goal.is_normal-returns-in-Bool
is_normal-returns-in-Bool t c = (λ _. normal_bool _ _ c.in-Bool.is, λ _. refl)

pub is_normal-returns-in-Int : goal.is_normal-returns-in-Int
is_normal-returns-in-Int t c = (λ _. normal_int _ _ c.in-Int.is, λ _. refl)

pub is_normal-returns-in-Text : goal.is_normal-returns-in-Text
is_normal-returns-in-Text t c = (λ _. normal_text _ _ c.in-Text.is, λ _. refl)

pub is_normal_set-returns-then-are_increasing : goal.is_normal_set-returns-then-are_increasing
is_normal_set-returns-then-are_increasing t c =
    both_set c.args.members.now true c.are_normal.result (sym c.if-are_increasing.true ∙ c.are_increasing.ensures) c.are_normal.ensures

pub is_normal_set-returns-else-are_increasing : goal.is_normal_set-returns-else-are_increasing
is_normal_set-returns-else-are_increasing t c = no_set c.args.members.now _ c.if-are_increasing.false c.are_increasing.ensures

pub is_normal_function-returns-then-have_increasing_arguments : goal.is_normal_function-returns-then-have_increasing_arguments
is_normal_function-returns-then-have_increasing_arguments t c =
    both_fun c.args.pairs.now true c.are_normal_pairs.result (sym c.if-have_increasing_arguments.true ∙ c.have_increasing_arguments.ensures) c.are_normal_pairs.ensures

pub is_normal_function-returns-else-have_increasing_arguments : goal.is_normal_function-returns-else-have_increasing_arguments
is_normal_function-returns-else-have_increasing_arguments t c =
    no_fun c.args.pairs.now _ c.if-have_increasing_arguments.false c.have_increasing_arguments.ensures
