-- What holds of a tree whose ranges carry bounds. Source: Konnov, Kukovec and Tran, "TLA+ Model Checking Made Symbolic",
-- OOPSLA 2019, on the static bounds of cells and arenas.
use Rattle.std.specs.Prelude.{ℕ, ◌≤◌, ◌≡◌, Bool, ◌&&◌, IsTrue, List, [], ◌∷◌, Some, ℤ}
use Rattle.std.specs.List.{list_all}
use Rattle.tla_values.specs.declared.value.Value.TheVariants as value
use Rattle.tla_meaning.specs.declared.job.State.{State}
use Rattle.tla_meaning.specs.Numbers.{Width}
use Rattle.tla_meaning.specs.Scopes.{Scope}
use Rattle.snowcat_rows.specs.declared.types.Ty.{Ty, Int as int_ty}
use Rattle.kernel_trees.specs.declared.kernel.Ker.{Ker}
use Rattle.kernel_trees.specs.declared.kernel.Ker.TheFolds.{fold-Ker}
use Rattle.kernel_trees.specs.declared.kernel.KerOp.{KerOp}
use Rattle.kernel_trees.specs.declared.kernel.KerOp.TheVariants as ker
use Rattle.kernel_trees.specs.Paths.{Marks, mentions}
use Rattle.kernel_trees.specs.Sound.{Context, kind_at, sound}
use Rattle.kernel_trees.specs.Systems.{texts_within}
use Rattle.kernel_trees.specs.Trees.{ker_form, ker_val}
use Rattle.kernel_trees.specs.TypeKinds.{Kind}
use Rattle.kernel_ranges.specs.Ranges.{is_within}
use Rattle.kernel_shapes.specs.Laws.{Ready}
use Rattle.kernel_shapes.specs.Sized.{Extent}
use Rattle.tree_bounds.specs.Bounded.{with_bounds}
use Rattle.tree_bounds.specs.Laws.{Covers}

-- whether each node of a tree passes a test of its operator and its type
unfoldable pub each_node : (KerOp → Ty → Bool) → Ker → Bool
each_node test = fold-Ker Bool (λ x. test x.op x.ty && list_all (λ b. b) x.args)

-- the test passes integer constants
abbrev pub PassesNumbers : (KerOp → Ty → Bool) → Type 0
PassesNumbers test = (n : ℤ) → IsTrue (test (ker.Const (value.Int n)) int_ty)

-- the tree k with the bounds of its ranges where names have these shapes: changed in its ranges alone, of the same type,
-- outcomes and forms, with the same names and texts and no new node but integer constants, sound where k is; and in every
-- scope and states that fit the shapes each range that its evaluation comes to lies within its bounds
pub record HasBounds (w : ℕ) (k : Ker) (g : Extent) (r : Ker) : Type 0 where
  pub tree : r ≡ with_bounds w k (g ∷ [])
  pub outcomes : (v : Width) (sc : Scope) (s t : State) → ker_val v r sc s t ≡ ker_val v k sc s t
  pub forms : (v : Width) (sc : Scope) (s t : State) → ker_form v r sc s t ≡ ker_form v k sc s t
  pub kind : kind_at r ≡ kind_at k
  pub names : (m : Marks) → mentions m r ≡ mentions m k
  pub nodes : (test : KerOp → Ty → Bool) → PassesNumbers test → IsTrue (each_node test k) → IsTrue (each_node test r)
  pub texts : (xs : List (List ℕ)) → IsTrue (texts_within xs k) → IsTrue (texts_within xs r)
  pub stays_sound : (names : List Kind) (c : Context) (b : Bool) → IsTrue (sound names k c b) → IsTrue (sound names r c b)
  pub within : (names : List Kind) (c : Context) (b : Bool) (sc : Scope) (s t : State) → 2 ≤ w →
      IsTrue (sound names k c b) → Covers names c k g → Ready sc g s t → IsTrue (is_within (Some w) r sc s t)
