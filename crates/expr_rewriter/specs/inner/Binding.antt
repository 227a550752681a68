-- Bodies in which names are bound: to members of sets, to what an update replaces, to the value so far and an item.
use Rattle.std.specs.Prelude.{◌≡◌, ℕ, ◌<◌, Bool, true, false, IsTrue, List, []}
use Rattle.std.specs.Prelude.{◌∷◌, All, length, map, take, Option, Some, slice_get, slice_index_or}
use Rattle.sat_formula.specs.Formula.{Satisfies}
use Rattle.sat_formula.specs.Lit.{lit_value}
use Rattle.tla_meaning.specs.declared.job.State.{State}
use Rattle.tla_meaning.specs.Scopes.{Scope, bind}
use Rattle.tla_meaning.specs.Shapes.{choices}
use Rattle.tla_values.specs.Sets.{elements}
use Rattle.cell_arena.specs.declared.build.Build.{Build}
use Rattle.cell_arena.specs.declared.kinds.CellId.{CellId}
use Rattle.cell_arena.specs.Cells.{Cells as Arena}
use Rattle.cell_arena.specs.Decode.{decode}
use Rattle.kernel_trees.specs.declared.kernel.Ker.{Ker, out-Ker}
use Rattle.kernel_trees.specs.declared.kernel.KerOp.{KerOp}
use Rattle.kernel_trees.specs.Sound.{Context, binder_row, kind_at, sound}
use Rattle.kernel_trees.specs.Trees.{ker_val, names_of}
use Rattle.kernel_trees.specs.TypeKinds.{Kind, Set}
use Rattle.kernel_ranges.specs.Ranges.{is_within}
use Rattle.outcome_cells.specs.declared.cells.Cells.{Cells}
use Rattle.outcome_cells.specs.Shows.{AreCells, Shows}
use Rattle.typed_cells.specs.KindSorts.{sort_of}
use Rattle.member_choices.specs.declared.choice.Choice.{Choice}
use Rattle.member_choices.specs.Choices.{AreBodies, AreChoices, ChoicesBelow, ChoicesOf}
use Rattle.expr_rewriter.specs.declared.cell_env.CellEnv.{CellEnv}
use Rattle.expr_rewriter.specs.declared.settings.Setting.TheVariants.{Binder}
use Rattle.expr_rewriter.specs.Operating.{AreParts}
use Rattle.expr_rewriter.specs.Rewriting.{CanRewrite, HasTreeSort, Rewrites}
use Rattle.expr_rewriter.specs.inner.Parts.{PartsShow}
use Rattle.expr_rewriter.specs.inner.Settings.{setting_of, with_bound}

-- ---- a tree under bound numbers

-- what a tree gives where the numbers have these cells' values
abbrev pub under_cells : Arena → List Bool → List ℕ → List CellId → Scope → Scope
under_cells c a xs ids sc = bind (names_of xs) (map (decode c a) ids) sc

-- the cells show what the tree gives there, where its ranges lie within their bounds
abbrev pub ShowsUnder : Arena → List Bool → Ker → Scope → State → State → Cells → Type 0
ShowsUnder c a k sc s t x = IsTrue (is_within (Some c.width) k sc s t) → Shows c a x (ker_val (Some c.width) k sc s t)

-- ---- a body at each choice of members

-- the body can be rewritten where the numbers have the cells of each choice, of which there is one for each number
abbrev pub CanRewriteAt : Build → CellEnv → List ℕ → Ker → List Choice → Type 0
CanRewriteAt b env xs k cs = All (λ c. (length xs ≡ length c.cells) × CanRewrite b k (with_bound env xs c.cells)) cs

-- cells of the body at each choice
pub record AreBodiesAt (b : Build) (env : CellEnv) (xs : List ℕ) (k : Ker) (cs : List Choice)
    (bodies : List Cells) : Type 0 where
  pub count : length bodies ≡ length cs
  pub sorts : All (HasTreeSort b k) bodies
  pub rewrites : (i : ℕ) (d : Choice) (x : Cells) → i < length cs →
      Rewrites b k (with_bound env xs (slice_index_or cs i d).cells) (slice_index_or bodies i x)

-- ---- a binder

abbrev pub sets_of : Ker → List Ker
sets_of k = take (length (out-Ker k).binds) (out-Ker k).args

abbrev pub body_of : Ker → Option Ker
body_of k = slice_get (out-Ker k).args (length (out-Ker k).binds)

-- choices and bodies of the kinds of some row
pub record CanBind (b : Build) (o : KerOp) (cs : List Choice) (bodies : List Cells) : Type 0 where
  pub kind : Kind
  pub members : List Kind
  pub body : Kind
  pub row : binder_row o kind members body ≡ true
  pub choices : ChoicesOf b.arena.kinds (map sort_of members) cs
  pub bodies_are : AreBodies b (sort_of body) cs bodies

-- the cells are of the row's kind
pub record BindsSort (old new : Build) (o : KerOp) (cs : List Choice) (bodies : List Cells) (r : Cells) : Type 0 where
  pub cells : (a : Kind) (ms : List Kind) (e : Kind) → binder_row o a ms e ≡ true →
      ChoicesOf old.arena.kinds (map sort_of ms) cs →
      AreBodies old (sort_of e) cs bodies → AreCells new (sort_of a) r

-- sets of these kinds of members
abbrev pub SetKinds : List Ker → List Kind → Type 0
SetKinds [] [] = Unit {0}
SetKinds [] (m ∷ ms) = ⊥
SetKinds (k ∷ ks) [] = ⊥
SetKinds (k ∷ ks) (m ∷ ms) = (kind_at k ≡ Some (Set m)) × SetKinds ks ms

-- a sound binder with cells of its sets, the choices of their members and cells of its body at each
pub record CanBindNode (b : Build) (k : Ker) (sets : List Cells) (cs : List Choice) (bodies : List Cells) : Type 0 where
  pub names : List Kind
  pub context : Context
  pub sound : IsTrue (sound names k context false)
  pub binder : setting_of (out-Ker k).op ≡ Binder
  pub parts : AreParts b (sets_of k) sets
  pub below : ChoicesBelow b.formula.vars cs
  pub choices_are : (ms : List Kind) → SetKinds (sets_of k) ms → ChoicesOf b.arena.kinds (map sort_of ms) cs
  pub members : (a : List Bool) → Satisfies a b.formula →
      AreChoices a (decode b.arena a) cs (choices (map (λ id. elements (decode b.arena a id)) (map (λ x. x.cell) sets)))
  pub count : length bodies ≡ length cs
  pub sorts : (body : Ker) → body_of k ≡ Some body → All (HasTreeSort b body) bodies

-- at each choice that is there the body's cells show the body, where its ranges lie within their bounds
pub record BodiesGive (c : Arena) (a : List Bool) (k : Ker) (sc : Scope) (s t : State) (cs : List Choice)
    (bodies : List Cells) : Type 0 where
  pub at : (body : Ker) → body_of k ≡ Some body → (i : ℕ) (d : Choice) (x : Cells) → i < length cs →
      lit_value (slice_index_or cs i d).there a ≡ true →
      ShowsUnder c a body (under_cells c a (out-Ker k).binds (slice_index_or cs i d).cells sc) s t
      (slice_index_or bodies i x)

-- under each satisfying assignment the cells show the binder, where its sets and its bodies are shown
pub record Binds (old new : Build) (k : Ker) (sets : List Cells) (cs : List Choice) (bodies : List Cells)
    (r : Cells) : Type 0 where
  pub shows : (a : List Bool) → Satisfies a new.formula → (sc : Scope) (s t : State) →
      IsTrue (is_within (Some old.arena.width) k sc s t) → PartsShow old.arena a sc s t (sets_of k) sets →
      BodiesGive old.arena a k sc s t cs bodies → Shows new.arena a r (ker_val (Some old.arena.width) k sc s t)
