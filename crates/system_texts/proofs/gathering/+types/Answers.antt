use Rattle.std.proofs.Common.{◌≡◌, ◌∙◌, ◌++◌, ap, map, rules}
use Rattle.system_texts.specs.inner.Gathered.{field_names}
use Rattle.system_texts.proofs.FieldNames.{field-Bool, field-Fun, field-Int, field-Named, field-Oper, field-Str, field-Var, none_more, two_after}
use Rattle.system_texts.proofs.gathering.+types.Goals as goal

pub push_type-returns-in_ok-push_type-in-Fun-2 : goal.push_type-returns-in_ok-push_type-in-Fun-2
push_type-returns-in_ok-push_type-in-Fun-2 t c =
    let a = c.in-Fun.argument in
    let b = c.in-Fun.value in
    let first : map (λ t. t.now) c.push_type-in-Fun.new.out.items ≡ map (λ t. t.now) c.args.out.now.items ++ field_names a = search rules in
    let last : map (λ t. t.now) c.push_type-in-Fun-2.new.out.items ≡ map (λ t. t.now) c.push_type-in-Fun.new.out.items ++ field_names b = search rules in
    two_after _ _ _ (field_names a) (field_names b) _ first last (ap field_names c.in-Fun.is ∙ field-Fun a b)

pub push_type-returns-in-Bool : goal.push_type-returns-in-Bool
push_type-returns-in-Bool t c = none_more _ _ (ap field_names c.in-Bool.is ∙ field-Bool)

pub push_type-returns-in-Int : goal.push_type-returns-in-Int
push_type-returns-in-Int t c = none_more _ _ (ap field_names c.in-Int.is ∙ field-Int)

pub push_type-returns-in-Str : goal.push_type-returns-in-Str
push_type-returns-in-Str t c = none_more _ _ (ap field_names c.in-Str.is ∙ field-Str)

pub push_type-returns-in-Named : goal.push_type-returns-in-Named
push_type-returns-in-Named t c = none_more _ _ (ap field_names c.in-Named.is ∙ field-Named _)

pub push_type-returns-in-Var : goal.push_type-returns-in-Var
push_type-returns-in-Var t c = none_more _ _ (ap field_names c.in-Var.is ∙ field-Var _)

pub push_type-returns-in-Oper : goal.push_type-returns-in-Oper
push_type-returns-in-Oper t c = none_more _ _ (ap field_names c.in-Oper.is ∙ field-Oper _ _)
