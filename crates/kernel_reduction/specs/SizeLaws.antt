-- What the reduction keeps of shapes and numbers.
use Rattle.std.specs.Prelude.{◌≡◌, ◌≤◌, ℕ, Bool, false, not, ◌&&◌, ◌||◌, IsTrue, List, [], ◌∷◌, map, drop, Option, Some, None}
use Rattle.std.specs.List.{list_all}
use Rattle.tla_meaning.specs.declared.actions.Assignable.{Assignable}
use Rattle.tla_meaning.specs.declared.expr.Expr.{Expr, out-Expr}
use Rattle.tla_meaning.specs.declared.expr.Expr.TheOpen.{Expr-F}
use Rattle.tla_meaning.specs.declared.op.Op.{Op}
use Rattle.tla_meaning.specs.declared.place.Place.{Place}
use Rattle.tla_meaning.specs.Symbols.{same_place}
use Rattle.tla_meaning.specs.Scopes.{find_last}
use Rattle.snowcat_rows.specs.Types.{mean}
use Rattle.snowcat_rows.specs.declared.types.Ty.{Ty}
use Rattle.snowcat_types.specs.Rows.{Context}
use Rattle.snowcat_types.specs.Judgement.{HasTypes}
use Rattle.kernel_trees.specs.declared.kernel.Ker.{Ker}
use Rattle.kernel_trees.specs.Trees.{number_name}
use Rattle.kernel_trees.specs.TypeKinds.{Kind}
use Rattle.kernel_shapes.specs.Counts.{first_rank}
use Rattle.kernel_shapes.specs.Kernel.{ker_sized}
use Rattle.kernel_shapes.specs.Shape.{Shape}
use Rattle.kernel_shapes.specs.Sized.{Extent, Position, Sized}
use Rattle.kernel_shapes.specs.Trees.{is_bound_name, is_except, recur, tree_sized}
use Rattle.kernel_reduction.specs.JobPaths.{below_notes}
use Rattle.kernel_reduction.specs.Laws.{IsSilent}
use Rattle.kernel_reduction.specs.Reduction.{Numbering}
use Rattle.kernel_reduction.specs.Builds.{Builds}
use Rattle.kernel_reduction.specs.BuildsTyped.{BuildsTyped}
use Rattle.kernel_reduction.specs.Fitting.{the_kind, Fitting}
use Rattle.kernel_reduction.specs.SoundLaws.{has_kind}

-- each name that has a number has its shape; other names may have any
abbrev pub TiedBound : Numbering → List (List ℕ × Shape) → List (List ℕ × Shape) → Type 0
TiedBound ρ as' bs = (x : List ℕ) (n : ℕ) → find_last x ρ ≡ Some n → find_last x as' ≡ find_last (number_name n) bs

-- and declared names have the same shapes
pub record TiedShapes (ρ : Numbering) (g h : Extent) : Type 0 where
  pub now : g.now ≡ h.now
  pub next : g.next ≡ h.next
  pub bound : TiedBound ρ g.bound h.bound

-- ---- EXCEPTs

abbrev pub begins_below : List ℕ → List Expr → Bool
begins_below x [] = false
begins_below x (e ∷ es) = is_bound_name x (out-Expr (below_notes e)).op

-- whether a tree is, below its annotations, an EXCEPT at this place, of the name
abbrev pub goes_on : Place → List (List ℕ) → Expr → Bool
goes_on p (x ∷ []) e =
    let y : Expr-F Expr = out-Expr (below_notes e) in
    is_except y.op && (same_place p y.place && begins_below x y.args)
goes_on p xs e = false

-- of a node, whose children are apart: an EXCEPT has no right side that is one at its place, of the name that it binds.
-- An EXCEPT of a module has none, as its right sides stand behind it and a foreign `@` has another name.
abbrev pub apart_at : Place → Op → List (List ℕ) → List (Expr × Bool) → Bool
apart_at p o xs ks = (not (is_except o) || list_all (λ k. not (goes_on p xs k.0)) (drop 1 ks)) && list_all (λ k. k.1) ks

-- so in a tree
abbrev pub is_apart : Expr → Bool
is_apart = recur (λ x. apart_at x.place x.op x.binds x.args)

-- ---- what is kept

-- the same shape, and the same refusal of what counts, in each position
pub record SameSize (a b : Sized) : Type 0 where
  pub shape : a.shape ≡ b.shape
  pub first : (q : Position) → first_rank (a.counts q) ≡ first_rank (b.counts q)

-- what is built has the shape of its expression and the first of its numbers that is refused: at extents in which names
-- have the shapes of their numbers, and in which the kernel tree is sound. The made nodes have the types that the table
-- reads, and in an action position the expression holds no name that may be assigned, since a CASE that holds one is
-- split there. (Where two branches of a CASE have shapes of different kinds, which no sound tree has, the nested IFs
-- count what the CASE does not.)
abbrev pub KeepsSizes : ℕ → Option Assignable → Numbering → Expr → Ker → List Kind → Extent → Extent → Type 0
KeepsSizes w i ρ e k ks g h =
    2 ≤ w → IsSilent i e → IsTrue (is_apart e) → (b : Builds i ρ e k) → Fitting b ks → TiedShapes ρ g h →
    IsTrue (ker_sized w k h).sound → SameSize ((tree_sized w e).sizing ks g) (ker_sized w k h)

-- so of a part of a job that is no action: the assumption or an invariant
abbrev pub KeepsPartSizes : ℕ → Expr → Ker → List Kind → Extent → Type 0
KeepsPartSizes w e k ks g =
    2 ≤ w → IsTrue (is_apart e) → (b : Builds None [] e k) → Fitting b ks → IsTrue (ker_sized w k g).sound →
    SameSize ((tree_sized w e).sizing ks g) (ker_sized w k g)

-- so of what is built with types, where those of the job's nodes have kinds and meet the rows of the type table
abbrev pub KeepsTypedSizes : ℕ → Option Assignable → Numbering → Expr → Ker → List Ty → Extent → Extent → Type 0
KeepsTypedSizes w i ρ e k ts g h =
    2 ≤ w → IsSilent i e → IsTrue (is_apart e) → BuildsTyped i ρ e ts k [] → IsTrue (list_all has_kind ts) →
    (c : Context) → HasTypes c e (map mean ts) → TiedShapes ρ g h → IsTrue (ker_sized w k h).sound →
    SameSize ((tree_sized w e).sizing (map the_kind ts) g) (ker_sized w k h)
