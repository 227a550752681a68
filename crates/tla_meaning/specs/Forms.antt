-- Set forms: what may stand on the right of a membership or an inclusion.
use Rattle.std.specs.Prelude.{ℕ, Bool, true, false, ◌&&◌, List, [], ◌∷◌, map, Option, Some, None, pos}
use Rattle.std.specs.List.{list_all, filter_map}
use Rattle.tla_values.specs.Order.{Layer}
use Rattle.tla_values.specs.Sets.{member, arguments, apply}
use Rattle.tla_values.specs.declared.value.Value.{Value, out-Value}
use Rattle.tla_values.specs.declared.value.Value.TheVariants as value
use Rattle.tla_values.specs.declared.value.Value.TheOpen as layer
use Rattle.tla_meaning.specs.declared.forms.SetForm.{SetForm, out-SetForm}
use Rattle.tla_meaning.specs.declared.forms.SetForm.TheOpen as form
use Rattle.tla_meaning.specs.declared.forms.SetForm.TheFolds.{fold-SetForm}
use Rattle.tla_meaning.specs.declared.outcome.Fault.{Fault}
use Rattle.tla_meaning.specs.declared.outcome.Fault.TheVariants.{NoFault, IsWrong, IsBig}
use Rattle.tla_meaning.specs.Outcomes.{join_faults}
use Rattle.tla_meaning.specs.Shapes.{items_of}

-- the value of a plain form is to be a set
abbrev pub is_set : Layer Value → Bool
is_set (layer.Set xs) = true
is_set x = false

abbrev pub is_plain_set : {X : Type 0} → form.SetForm-F X → Bool
is_plain_set (form.Plain v) = is_set (out-Value v)
is_plain_set x = true

abbrev pub is_set_form : SetForm → Bool
is_set_form f = is_plain_set (out-SetForm f)

abbrev pub is_number : Layer Value → Bool
is_number (layer.Int n) = true
is_number x = false

abbrev pub is_natural : Layer Value → Bool
is_natural (layer.Int (pos n)) = true
is_natural x = false

abbrev pub is_text : Layer Value → Bool
is_text (layer.Text t) = true
is_text x = false

-- a set whose items pass
abbrev pub set_passes : (List Value → Bool) → Layer Value → Bool
set_passes test (layer.Set xs) = test xs
set_passes test x = false

abbrev pub function_passes : (List (Value × Value) → Bool) → Layer Value → Bool
function_passes test (layer.Fun ps) = test ps
function_passes test x = false

abbrev pub passes : (List Value → Bool) → Option (List Value) → Bool
passes test (Some xs) = test xs
passes test None = false

abbrev pub same_set : List Value → List Value → Bool
same_set xs ys = list_all (λ x. member x ys) xs && list_all (λ y. member y xs) ys

abbrev pub results : List (Value × Value) → List Value
results ps = map (λ p. p.1) ps

-- the values of the fields that the function has
abbrev pub fields_at : List (List ℕ) → List (Value × Value) → List Value
fields_at names ps = filter_map (λ n. apply ps (value.Text n)) names

abbrev pub has_fields : List (List ℕ) → List (Value × Value) → Bool
has_fields names ps = same_set (map (λ n. value.Text n) names) (arguments ps)

-- each of the values passes its test
abbrev pub each_passes : List (Value → Bool) → List Value → Bool
each_passes [] [] = true
each_passes [] (v ∷ vs) = false
each_passes (b ∷ bs) [] = false
each_passes (b ∷ bs) (v ∷ vs) = b v && each_passes bs vs

-- whether a value belongs to a form, by what belongs to its parts
abbrev pub part_belongs : form.SetForm-F (Value → Bool) → Value → Bool
part_belongs (form.Plain s) v = set_passes (member v) (out-Value s)
part_belongs form.AllInts v = is_number (out-Value v)
part_belongs form.AllNats v = is_natural (out-Value v)
part_belongs form.AllTexts v = is_text (out-Value v)
part_belongs (form.Sequences b) v = function_passes (λ ps. passes (list_all b) (items_of ps)) (out-Value v)
part_belongs (form.Functions xs b) v =
    function_passes (λ ps. same_set xs (arguments ps) && list_all b (results ps)) (out-Value v)
part_belongs (form.Subsets b) v = set_passes (list_all b) (out-Value v)
part_belongs (form.Records names bs) v =
    function_passes (λ ps. has_fields names ps && each_passes bs (fields_at names ps)) (out-Value v)
part_belongs (form.Tuples bs) v = function_passes (λ ps. passes (each_passes bs) (items_of ps)) (out-Value v)

unfoldable pub belongs : SetForm → Value → Bool
belongs = fold-SetForm (Value → Bool) part_belongs

-- each of the values to its form
abbrev pub all_belong : List SetForm → List Value → Bool
all_belong fs vs = each_passes (map belongs fs) vs

-- a form, or a fault on the way to it
pub data Formed : Type 0 where
  Made : SetForm → Formed
  Broken : Fault → Formed

abbrev pub form_fault : Formed → Fault
form_fault (Made f) = NoFault
form_fault (Broken g) = g

abbrev pub form_faults : List Formed → Fault
form_faults [] = NoFault
form_faults (f ∷ fs) = join_faults (form_fault f) (form_faults fs)

abbrev pub made : List Formed → List SetForm
made [] = []
made (Made f ∷ fs) = f ∷ made fs
made (Broken g ∷ fs) = made fs

abbrev pub all_set_forms : List SetForm → Bool
all_set_forms = list_all is_set_form

-- the fault, or else the form
abbrev pub fault_or_form : Fault → Formed → Formed
fault_or_form NoFault f = f
fault_or_form (IsWrong p) f = Broken (IsWrong p)
fault_or_form (IsBig p) f = Broken (IsBig p)
