-- An update of a function, a sequence, a tuple or a record, over the cells of it and of its index.
use Rattle.std.specs.Prelude.{◌≡◌, ℕ, ◌<◌, Bool, false, IsTrue, List}
use Rattle.std.specs.Prelude.{[], ◌∷◌, Option, Some, None, IfSome, slice_get, take}
use Rattle.sat_formula.specs.declared.lit.Lit.{Lit}
use Rattle.sat_formula.specs.Formula.{Satisfies}
use Rattle.tla_values.specs.declared.value.Value.{Value, out-Value}
use Rattle.tla_meaning.specs.declared.job.State.{State}
use Rattle.tla_meaning.specs.declared.outcome.Outcome.TheVariants.{Val}
use Rattle.tla_meaning.specs.Meaning.{At, step_into}
use Rattle.tla_meaning.specs.Numbers.{Width}
use Rattle.tla_meaning.specs.Scopes.{Scope, bind}
use Rattle.cell_arena.specs.declared.build.Build.{Build}
use Rattle.cell_arena.specs.declared.kinds.CellId.{CellId}
use Rattle.cell_arena.specs.declared.kinds.CellKind.{CellKind}
use Rattle.cell_arena.specs.Cells.{Cells as Arena}
use Rattle.cell_arena.specs.Decode.{decode}
use Rattle.cell_merge.specs.Sorts.{OfSort}
use Rattle.kernel_trees.specs.declared.kernel.Ker.{Ker, out-Ker}
use Rattle.kernel_trees.specs.Sound.{Context, kind_at, literal_of, sound, updated_kind}
use Rattle.kernel_trees.specs.Trees.{ker_val, names_of}
use Rattle.kernel_trees.specs.TypeKinds.{Kind}
use Rattle.kernel_ranges.specs.Ranges.{is_within}
use Rattle.outcome_cells.specs.declared.cells.Cells.{Cells}
use Rattle.outcome_cells.specs.Shows.{Shows}
use Rattle.typed_cells.specs.KindSorts.{sort_of}
use Rattle.function_operators.specs.declared.index.Index.{Index}
use Rattle.function_operators.specs.Parts.{HasPart, index_value}
use Rattle.function_operators.specs.Updates.{outside_of, is_outside, reached}
use Rattle.expr_rewriter.specs.declared.cell_env.CellEnv.{CellEnv}
use Rattle.expr_rewriter.specs.declared.settings.Setting.TheVariants.{Update}
use Rattle.expr_rewriter.specs.Operating.{AreParts}
use Rattle.expr_rewriter.specs.Rewriting.{CanRewrite, HasTreeSort}
use Rattle.expr_rewriter.specs.inner.Parts.{IsTree, PartsShow}
use Rattle.expr_rewriter.specs.inner.Settings.{setting_of, with_bound}

-- the tree gives the value, which the cell has
pub record GivesIndex (c : Arena) (a : List Bool) (x : CellId) (index : Ker) (v : Value) : Type 0 where
  pub cell : decode c a x ≡ v
  pub width : Width
  pub scope : Scope
  pub now : State
  pub next : State
  pub gives : ker_val width index scope now next ≡ Val v

-- cells of a whole and of an index into it, of these kinds
pub record HasIndex (ks : List CellKind) (f x : CellId) (index : Ker) : Type 0 where
  pub whole : Kind
  pub place : Kind
  pub part : Kind
  pub whole_is : OfSort ks (sort_of whole) f
  pub place_is : OfSort ks (sort_of place) x
  pub found : updated_kind whole place (literal_of (out-Ker index).op) ≡ Some part

-- an index for the calls on cells: that of the tree
pub record IsIndex (c : Arena) (f x : CellId) (index : Ker) (i : Index) : Type 0 where
  pub at : (a j d : Kind) → OfSort c.kinds (sort_of a) f → OfSort c.kinds (sort_of j) x →
      updated_kind a j (literal_of (out-Ker index).op) ≡ Some d → HasPart c.kinds i (sort_of a) (sort_of d)
  pub value : (a : List Bool) (v : Value) → GivesIndex c a x index v → index_value c a i ≡ v

-- what stands at the index of an update: the cell has it, of the kind of the part, and the literal says that the index
-- is outside of the domain; without a cell it is outside everywhere
pub record IsOldOf (old new : Build) (f x : CellId) (index : Ker) (r : Option (CellId × Lit)) : Type 0 where
  pub below : IfSome r (λ o. o.1.var < new.formula.vars)
  pub sort : (a j d : Kind) → OfSort old.arena.kinds (sort_of a) f → OfSort old.arena.kinds (sort_of j) x →
      updated_kind a j (literal_of (out-Ker index).op) ≡ Some d → IfSome r (λ o. OfSort new.arena.kinds (sort_of d) o.0)
  pub reaches : (a : List Bool) → Satisfies a new.formula → (v : Value) → GivesIndex old.arena a x index v →
      step_into (out-Value (decode old.arena a f)) v ≡ reached new.arena a r

-- ---- the right side

abbrev pub update_parts : Ker → List Ker
update_parts k = take 2 (out-Ker k).args

abbrev pub update_index : Ker → Option Ker
update_index k = slice_get (out-Ker k).args 1

abbrev pub update_body : Ker → Option Ker
update_body k = slice_get (out-Ker k).args 2

-- an old value of the kind of the part
pub record CanChange (b : Build) (env : CellEnv) (k : Ker) (old : Option (CellId × Lit)) : Type 0 where
  pub can : CanRewrite b k env
  pub update : setting_of (out-Ker k).op ≡ Update
  pub below : IfSome old (λ o. o.1.var < b.formula.vars)
  pub sort : (body : Ker) (d : Kind) → update_body k ≡ Some body → kind_at body ≡ Some d →
      IfSome old (λ o. OfSort b.arena.kinds (sort_of d) o.0)

-- the right side where the number stands for the old value's cell, with the literal of the old value
abbrev pub IsRight : Build → CellEnv → List ℕ → Ker → Option (CellId × Lit) → Option (Lit × Cells) → Type 0
IsRight b env xs body None None = Unit {0}
IsRight b env xs body None (Some x) = ⊥
IsRight b env xs body (Some o) None = ⊥
IsRight b env xs body (Some o) (Some x) = (x.0 ≡ o.1) × IsTree b body (with_bound env xs (o.0 ∷ [])) x.1

abbrev pub MakesRight : Build → CellEnv → Ker → Option (CellId × Lit) → Option (Lit × Cells) → Type 0
MakesRight b env k old change =
    (body : Ker) → update_body k ≡ Some body → IsRight b env (out-Ker k).binds body old change

-- ---- the node

-- a sound update with cells of the function and the index, and of the right side
pub record CanUpdate (b : Build) (k : Ker) (whole place : Cells) (change : Option (Lit × Cells)) : Type 0 where
  pub names : List Kind
  pub context : Context
  pub sound : IsTrue (sound names k context false)
  pub update : setting_of (out-Ker k).op ≡ Update
  pub parts : AreParts b (update_parts k) (whole ∷ place ∷ [])
  pub below : IfSome change (λ x. x.0.var < b.formula.vars)
  pub sort : (body : Ker) → update_body k ≡ Some body → IfSome change (λ x. HasTreeSort b body x.1)

-- for the value v of the index: the literal says that v is outside of the domain, and where it is not the cells show
-- the right side at the old value
pub record ShowsRight (c : Arena) (a : List Bool) (k : Ker) (sc : Scope) (s t : State) (f : Cells)
    (change : Option (Lit × Cells)) (v : Value) : Type 0 where
  pub outside : outside_of a change ≡ is_outside (step_into (out-Value (decode c a f.cell)) v)
  pub shows : (body : Ker) → update_body k ≡ Some body → IfSome change (λ x. (u : Value) →
      step_into (out-Value (decode c a f.cell)) v ≡ At u →
      IsTrue (is_within (Some c.width) body (bind (names_of (out-Ker k).binds) (u ∷ []) sc) s t) →
      Shows c a x.1 (ker_val (Some c.width) body (bind (names_of (out-Ker k).binds) (u ∷ []) sc) s t))

-- under each satisfying assignment the cells show the update
pub record Updates (old new : Build) (k : Ker) (whole place : Cells) (change : Option (Lit × Cells))
    (r : Cells) : Type 0 where
  pub shows : (a : List Bool) → Satisfies a new.formula → (sc : Scope) (s t : State) →
      IsTrue (is_within (Some old.arena.width) k sc s t) →
      PartsShow old.arena a sc s t (update_parts k) (whole ∷ place ∷ []) →
      ((index : Ker) → update_index k ≡ Some index → (v : Value) → GivesIndex old.arena a place.cell index v →
      ShowsRight old.arena a k sc s t whole change v) → Shows new.arena a r (ker_val (Some old.arena.width) k sc s t)
