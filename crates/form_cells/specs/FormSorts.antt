-- The sorts of the members of forms. Source: the Apalache manual, "Type System 1.2: Type annotations", for the types of
-- the operators that make sets; Konnov, Kukovec and Tran, "TLA+ Model Checking Made Symbolic", OOPSLA 2019, section 4,
-- for cells and their types.
use Rattle.std.specs.Prelude.{◌≡◌, ℕ, ◌<◌, List, [], ◌∷◌, length}
use Rattle.cell_arena.specs.declared.build.Build.{Build}
use Rattle.cell_arena.specs.declared.kinds.CellId.{CellId}
use Rattle.cell_arena.specs.declared.kinds.CellKind.{CellKind}
use Rattle.cell_merge.specs.Sorts.{Sort, OfSort, number, name, set_of, sequence_of, function_of}
use Rattle.typed_cells.specs.FieldOrder.{in_order}
use Rattle.typed_cells.specs.KindSorts.{record_sort, tuple_sort}
use Rattle.form_cells.specs.declared.form.Form.{Form, out-Form}
use Rattle.form_cells.specs.declared.form.Form.TheOpen as form
use Rattle.form_cells.specs.declared.form.FormCells.{FormCells}

mutual
  -- the form's members are of the sort, and its cells are sets of the sorts that this asks for
  pub data IsFormOf (ks : List CellKind) : Sort → Form → Type 0 where
    is : (s : Sort) (f : Form) → HasMembers ks s (out-Form f) → IsFormOf ks s f

  -- the same of a form that is opened
  pub data HasMembers (ks : List CellKind) : Sort → form.Form-F Form → Type 0 where
    plain : (s : Sort) (x : CellId) → OfSort ks (set_of s) x → HasMembers ks s (form.Plain x)
    ints : HasMembers ks number form.Ints
    nats : HasMembers ks number form.Nats
    texts : HasMembers ks name form.Texts
    sequences : (s : Sort) (f : Form) → IsFormOf ks s f → HasMembers ks (sequence_of s) (form.Sequences f)
    subsets : (s : Sort) (f : Form) → IsFormOf ks s f → HasMembers ks (set_of s) (form.Subsets f)
    functions : (s t : Sort) (x : CellId) (f : Form) → OfSort ks (set_of s) x → IsFormOf ks t f
        → HasMembers ks (function_of s t) (form.Functions x f)
    records : (names : List (List ℕ)) (ss : List Sort) (fs : List Form) → length names ≡ length fs
        → AreFormsOf ks ss fs → HasMembers ks (record_sort (in_order names ss)) (form.Records names fs)
    tuples : (ss : List Sort) (fs : List Form) → AreFormsOf ks ss fs → HasMembers ks (tuple_sort ss) (form.Tuples fs)

  -- a sort for each of the forms
  pub data AreFormsOf (ks : List CellKind) : List Sort → List Form → Type 0 where
    none : AreFormsOf ks [] []
    more : (s : Sort) (ss : List Sort) (f : Form) (fs : List Form) → IsFormOf ks s f → AreFormsOf ks ss fs
        → AreFormsOf ks (s ∷ ss) (f ∷ fs)

-- a cell of the sort of the form's members
pub record MemberAndForm (ks : List CellKind) (x : CellId) (f : Form) : Type 0 where
  pub sort : Sort
  pub cell : OfSort ks sort x
  pub form : IsFormOf ks sort f

-- a set whose members have the sort of the form's
pub record SetAndForm (ks : List CellKind) (x : CellId) (f : Form) : Type 0 where
  pub sort : Sort
  pub cell : OfSort ks (set_of sort) x
  pub form : IsFormOf ks sort f

-- the form has members of the sort, whatever its literals say, and these are the formula's
pub record AreForms (b : Build) (s : Sort) (x : FormCells) : Type 0 where
  pub form : IsFormOf b.arena.kinds s x.form
  pub wrong : x.wrong.var < b.formula.vars
  pub big : x.big.var < b.formula.vars

-- a sort of members for each of them
abbrev pub AllForms : Build → List Sort → List FormCells → Type 0
AllForms b [] [] = Unit {0}
AllForms b [] (x ∷ xs) = ⊥
AllForms b (s ∷ ss) [] = ⊥
AllForms b (s ∷ ss) (x ∷ xs) = AreForms b s x × AllForms b ss xs
