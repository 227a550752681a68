-- What forms over cells are under an assignment, and what they show of a form that may have a fault. Source: Specifying
-- Systems, section 16.1, for forms of sets; Konnov, Kukovec and Tran, "TLA+ Model Checking Made Symbolic", OOPSLA 2019,
-- section 5, for cells in the place of expressions.
use Rattle.std.specs.Prelude.{◌≡◌, Bool, List, [], ◌∷◌}
use Rattle.sat_formula.specs.Lit.{lit_value}
use Rattle.tla_values.specs.Sets.{elements}
use Rattle.tla_meaning.specs.declared.forms.SetForm.{SetForm}
use Rattle.tla_meaning.specs.declared.forms.SetForm.TheVariants as set
use Rattle.tla_meaning.specs.Forms.{Formed, Made, form_fault}
use Rattle.cell_arena.specs.Cells.{Cells as Arena}
use Rattle.cell_arena.specs.Decode.{decode}
use Rattle.outcome_cells.specs.Shown.{wrong_fault, big_fault}
use Rattle.form_cells.specs.declared.form.Form.{Form}
use Rattle.form_cells.specs.declared.form.Form.TheOpen as form
use Rattle.form_cells.specs.declared.form.Form.TheFolds.{fold-Form}
use Rattle.form_cells.specs.declared.form.FormCells.{FormCells}

-- a cell stands for its value
abbrev pub form_layer : Arena → List Bool → form.Form-F SetForm → SetForm
form_layer c a (form.Plain x) = set.Plain (decode c a x)
form_layer c a form.Ints = set.AllInts
form_layer c a form.Nats = set.AllNats
form_layer c a form.Texts = set.AllTexts
form_layer c a (form.Sequences f) = set.Sequences f
form_layer c a (form.Subsets f) = set.Subsets f
form_layer c a (form.Functions x f) = set.Functions (elements (decode c a x)) f
form_layer c a (form.Records names fs) = set.Records names fs
form_layer c a (form.Tuples fs) = set.Tuples fs

-- the form of values that it is under an assignment
unfoldable pub form_value : Arena → List Bool → Form → SetForm
form_value c a = fold-Form SetForm (form_layer c a)

-- the first is whether it is Wrong, the second whether it is Big; else it is the form
pub record ShownForm (w b : Bool) (f : SetForm) (o : Formed) : Type 0 where
  pub wrong : w ≡ wrong_fault (form_fault o)
  pub big : b ≡ big_fault (form_fault o)
  pub form : (g : SetForm) → o ≡ Made g → f ≡ g

-- the literals are true exactly where there is a fault that is Wrong or Big, and else this is the form
pub record ShowsForm (c : Arena) (a : List Bool) (x : FormCells) (o : Formed) : Type 0 where
  pub shown : ShownForm (lit_value x.wrong a) (lit_value x.big a) (form_value c a x.form) o

-- one form, or a fault, for each of them
abbrev pub AllFormsShow : Arena → List Bool → List FormCells → List Formed → Type 0
AllFormsShow c a [] [] = Unit {0}
AllFormsShow c a [] (o ∷ os) = ⊥
AllFormsShow c a (x ∷ xs) [] = ⊥
AllFormsShow c a (x ∷ xs) (o ∷ os) = ShowsForm c a x o × AllFormsShow c a xs os
