-- The parts of a tree in a form position, and what is made of them; a value beside a form.
use Rattle.std.specs.List.{list_all}
use Rattle.std.specs.Prelude.{◌≡◌, ℕ, Bool, true, false, IsTrue, List, [], ◌∷◌, drop, take, Option, Some, None}
use Rattle.sat_formula.specs.declared.cnf.Cnf.{Cnf}
use Rattle.sat_formula.specs.declared.lit.Lit.{Lit}
use Rattle.sat_formula.specs.Formula.{HasValue, Satisfies}
use Rattle.tla_values.specs.Sets.{elements}
use Rattle.tla_values.specs.declared.value.Value.{Value}
use Rattle.tla_meaning.specs.declared.job.State.{State}
use Rattle.tla_meaning.specs.declared.outcome.Fault.{Fault}
use Rattle.tla_meaning.specs.declared.outcome.Outcome.{Outcome}
use Rattle.tla_meaning.specs.declared.forms.SetForm.{SetForm}
use Rattle.tla_meaning.specs.Forms.{Formed, belongs, form_faults}
use Rattle.tla_meaning.specs.Operators.{yes_no}
use Rattle.tla_meaning.specs.Outcomes.{fault_or, join_faults, joined}
use Rattle.tla_meaning.specs.Scopes.{Scope}
use Rattle.cell_arena.specs.declared.build.Build.{Build}
use Rattle.cell_arena.specs.declared.kinds.CellId.{CellId}
use Rattle.cell_arena.specs.declared.kinds.CellKind.{CellKind}
use Rattle.cell_arena.specs.Cells.{Cells as Arena}
use Rattle.cell_arena.specs.Decode.{decode}
use Rattle.cell_merge.specs.Sorts.{truth}
use Rattle.kernel_trees.specs.declared.kernel.Ker.{Ker, out-Ker}
use Rattle.kernel_trees.specs.declared.kernel.KerOp.{KerOp}
use Rattle.kernel_trees.specs.declared.kernel.KerOp.TheVariants as ker
use Rattle.kernel_trees.specs.Sound.{Context, kind_at, sound}
use Rattle.kernel_trees.specs.Trees.{ker_form, ker_val}
use Rattle.kernel_trees.specs.TypeKinds.{Kind, Set}
use Rattle.kernel_ranges.specs.Ranges.{is_within}
use Rattle.outcome_cells.specs.declared.cells.Cells.{Cells}
use Rattle.outcome_cells.specs.declared.cells.Faults.{Faults}
use Rattle.outcome_cells.specs.Shows.{AllShow, AreCells, FaultsBelow, Shows, ShowsFault, faults_of}
use Rattle.form_cells.specs.declared.form.Form.{Form}
use Rattle.form_cells.specs.declared.form.Form.TheOpen as form
use Rattle.form_cells.specs.declared.form.FormCells.{FormCells}
use Rattle.form_cells.specs.FormSorts.{MemberAndForm, SetAndForm}
use Rattle.form_cells.specs.FormValues.{AllFormsShow, ShowsForm, form_value}
use Rattle.expr_rewriter.specs.declared.cell_env.CellEnv.{CellEnv}
use Rattle.expr_rewriter.specs.declared.settings.Setting.TheVariants as setting
use Rattle.expr_rewriter.specs.Forming.{CanRewriteForm, HasFormSort, RewritesForm}
use Rattle.expr_rewriter.specs.Operating.{AreParts}
use Rattle.expr_rewriter.specs.Rewriting.{HasTreeSort}
use Rattle.expr_rewriter.specs.inner.Parts.{PartsShow}
use Rattle.expr_rewriter.specs.inner.Settings.{setting_of}

-- ---- trees in form positions

pub record IsFormTree (b : Build) (k : Ker) (env : CellEnv) (x : FormCells) : Type 0 where
  pub sort : HasFormSort b k x
  pub rewrites : RewritesForm b k env x

abbrev pub AreFormTrees : Build → CellEnv → List Ker → List FormCells → Type 0
AreFormTrees b env [] [] = Unit {0}
AreFormTrees b env [] (x ∷ xs) = ⊥
AreFormTrees b env (k ∷ ks) [] = ⊥
AreFormTrees b env (k ∷ ks) (x ∷ xs) = IsFormTree b k env x × AreFormTrees b env ks xs

abbrev pub OfSets : Ker → Type 0
OfSets k = (m : Kind) × (kind_at k ≡ Some (Set m))

-- trees of sets that can be rewritten there
abbrev pub CanRewriteForms : Build → CellEnv → List Ker → Type 0
CanRewriteForms b env [] = Unit {0}
CanRewriteForms b env (k ∷ ks) = (OfSets k × CanRewriteForm b k env) × CanRewriteForms b env ks

-- ---- operators

-- the operators that are forms there; any other tree is a set
abbrev pub makes_form : KerOp → Bool
makes_form ker.IntForm = true
makes_form ker.NatForm = true
makes_form ker.TextForm = true
makes_form ker.SeqForm = true
makes_form ker.Subsets = true
makes_form ker.Functions = true
makes_form (ker.RecForm names) = true
makes_form ker.TupForm = true
makes_form o = false

-- how many of the children are sets; those behind them are forms
abbrev pub set_count : KerOp → ℕ
set_count ker.Functions = 1
set_count o = 0

abbrev pub form_sets : Ker → List Ker
form_sets k = take (set_count (out-Ker k).op) (out-Ker k).args

abbrev pub form_parts : Ker → List Ker
form_parts k = drop (set_count (out-Ker k).op) (out-Ker k).args

-- the form of these sets and forms
abbrev pub form_over : KerOp → List CellId → List Form → Option (form.Form-F Form)
form_over ker.IntForm xs fs = Some form.Ints
form_over ker.NatForm xs fs = Some form.Nats
form_over ker.TextForm xs fs = Some form.Texts
form_over ker.SeqForm xs (f ∷ []) = Some (form.Sequences f)
form_over ker.Subsets xs (f ∷ []) = Some (form.Subsets f)
form_over ker.Functions (x ∷ []) (f ∷ []) = Some (form.Functions x f)
form_over (ker.RecForm names) xs fs = Some (form.Records names fs)
form_over ker.TupForm xs fs = Some (form.Tuples fs)
form_over o xs fs = None

-- ---- faults

abbrev pub literals_of : FormCells → Faults
literals_of x = record { wrong = x.wrong; big = x.big }

-- the faults of sets and forms that are all evaluated
pub record JoinsForms (f : Cnf) (xs : List Cells) (ys : List FormCells) (r : Faults) : Type 0 where
  pub below : FaultsBelow f.vars r
  pub shows : (a : List Bool) → Satisfies a f → (c : Arena) (os : List Outcome) (fs : List Formed) → AllShow c a xs os →
      AllFormsShow c a ys fs → ShowsFault a r (join_faults (joined os) (form_faults fs))

-- ---- a form

abbrev pub AreFormParts : Build → List Ker → List FormCells → Type 0
AreFormParts b [] [] = Unit {0}
AreFormParts b [] (x ∷ xs) = ⊥
AreFormParts b (k ∷ ks) [] = ⊥
AreFormParts b (k ∷ ks) (x ∷ xs) = HasFormSort b k x × AreFormParts b ks xs

-- a sound form with cells of its sets and forms of its parts
pub record CanForm (b : Build) (k : Ker) (sets : List Cells) (parts : List FormCells) : Type 0 where
  pub names : List Kind
  pub context : Context
  pub sound : IsTrue (sound names k context true)
  pub makes : makes_form (out-Ker k).op ≡ true
  pub sets_are : AreParts b (form_sets k) sets
  pub parts_are : AreFormParts b (form_parts k) parts

abbrev pub FormsShow : Arena → List Bool → Scope → State → State → List Ker → List FormCells → Type 0
FormsShow c a sc s t [] [] = Unit {0}
FormsShow c a sc s t [] (x ∷ xs) = ⊥
FormsShow c a sc s t (k ∷ ks) [] = ⊥
FormsShow c a sc s t (k ∷ ks) (x ∷ xs) =
    (IsTrue (is_within (Some c.width) k sc s t) → ShowsForm c a x (ker_form (Some c.width) k sc s t))
    × FormsShow c a sc s t ks xs

-- under each satisfying assignment this shows the form, where the sets and the parts are shown
pub record MakesForm (old new : Build) (k : Ker) (sets : List Cells) (parts : List FormCells) (r : FormCells) : Type 0
  where
    pub shows : (a : List Bool) → Satisfies a new.formula → (sc : Scope) (s t : State) →
        IsTrue (is_within (Some old.arena.width) k sc s t) → PartsShow old.arena a sc s t (form_sets k) sets →
        FormsShow old.arena a sc s t (form_parts k) parts →
        ShowsForm new.arena a r (ker_form (Some old.arena.width) k sc s t)

-- ---- a value and a form

-- the test of the operator
abbrev pub related : KerOp → SetForm → Value → Bool
related ker.Member f v = belongs f v
related ker.Included f v = list_all (belongs f) (elements v)
related o f v = false

-- a cell and a form of which the operator can be asked
abbrev pub CanTest : List CellKind → KerOp → CellId → Form → Type 0
CanTest ks ker.Member x f = MemberAndForm ks x f
CanTest ks ker.Included x f = SetAndForm ks x f
CanTest ks o x f = ⊥

-- the literal is true exactly where the cell's value passes
abbrev pub Tests : Build → Cnf → KerOp → CellId → Form → Lit → Type 0
Tests b f o x y l = HasValue f l (λ a. related o (form_value b.arena a y) (decode b.arena a x))

-- the cells show whether it does
pub record ShowsTest (old new : Build) (o : KerOp) (x : CellId) (y : Form) (r : Cells) : Type 0 where
  pub cells : AreCells new truth r
  pub shows : (a : List Bool) → Satisfies a new.formula →
      Shows new.arena a r (yes_no (related o (form_value old.arena a y) (decode old.arena a x)))

-- the faults of two that are both evaluated, and where there is none the cells
pub record StandsBehindTwo (f : Cnf) (x y : Faults) (own r : Cells) : Type 0 where
  pub cell : r.cell ≡ own.cell
  pub below : FaultsBelow f.vars (faults_of r)
  pub shows : (a : List Bool) → Satisfies a f → (c : Arena) (g h : Fault) (o : Outcome) → ShowsFault a x g →
      ShowsFault a y h → Shows c a own o → Shows c a r (fault_or (join_faults g h) o)

-- a sound membership or inclusion, with cells of its left side and the form of its right side
pub record CanRelate (b : Build) (k : Ker) (x : Cells) (y : FormCells) : Type 0 where
  pub names : List Kind
  pub context : Context
  pub sound : IsTrue (sound names k context false)
  pub relation : setting_of (out-Ker k).op ≡ setting.Form
  pub left : Ker
  pub right : Ker
  pub sides : (out-Ker k).args ≡ left ∷ right ∷ []
  pub left_is : HasTreeSort b left x
  pub right_is : HasFormSort b right y

-- under each satisfying assignment the cells show what the node gives, where both sides are shown
pub record Relates (old new : Build) (k : Ker) (x : Cells) (y : FormCells) (r : Cells) : Type 0 where
  pub shows : (a : List Bool) → Satisfies a new.formula → (sc : Scope) (s t : State) → (left right : Ker) →
      (out-Ker k).args ≡ left ∷ right ∷ [] → Shows old.arena a x (ker_val (Some old.arena.width) left sc s t) →
      ShowsForm old.arena a y (ker_form (Some old.arena.width) right sc s t) →
      Shows new.arena a r (ker_val (Some old.arena.width) k sc s t)
