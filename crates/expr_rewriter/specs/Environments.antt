-- Cells in the place of names: what they say of scopes and states, and which sorts they have.
use Rattle.std.specs.Prelude.{◌≡◌, ℕ, ◌<◌, Bool, true, false, ◌&&◌, IsTrue, List, [], ◌∷◌, All, length, Option, Some, None, option_and_then, slice_get, nat_eq, if◌then◌else◌}
use Rattle.tla_meaning.specs.declared.job.State.{State}
use Rattle.tla_meaning.specs.Scopes.{Scope, find_last, or_else}
use Rattle.cell_arena.specs.declared.kinds.CellId.{CellId}
use Rattle.cell_arena.specs.declared.kinds.CellKind.{CellKind}
use Rattle.cell_arena.specs.Cells.{Cells as Arena}
use Rattle.cell_arena.specs.Decode.{decode}
use Rattle.kernel_trees.specs.declared.kernel.Ker.{Ker}
use Rattle.kernel_trees.specs.Paths.{Marks, mentions}
use Rattle.kernel_trees.specs.Sound.{Context, kind_in}
use Rattle.kernel_trees.specs.Trees.{number_name}
use Rattle.kernel_trees.specs.TypeKinds.{Kind}
use Rattle.typed_cells.specs.KindSorts.{HasSort, sort_of}
use Rattle.expr_rewriter.specs.declared.cell_env.CellEnv.{CellEnv}

-- ---- the cell of a name

abbrev pub next_cell : CellEnv → ℕ → Option CellId
next_cell env i = option_and_then (λ o. o) (slice_get env.next i)

-- a name without a cell in the state has that of the next one, which a path has assigned
abbrev pub name_cell : CellEnv → ℕ → Bool → Option CellId
name_cell env i true = next_cell env i
name_cell env i false = or_else (slice_get env.now i) (next_cell env i)

-- of several cells of a bound number the last
abbrev pub bound_cell : List (ℕ × CellId) → ℕ → Option CellId
bound_cell [] n = None
bound_cell (e ∷ es) n = or_else (bound_cell es n) (if nat_eq n e.0 then Some e.1 else None)

-- ---- what the cells say

-- in the scope and the two states names have the values of their cells; a name without a cell in the state has one
-- value in both
pub record Fits (c : Arena) (a : List Bool) (env : CellEnv) (sc : Scope) (s t : State) : Type 0 where
  pub current : (i : ℕ) (id : CellId) → slice_get env.now i ≡ Some id → slice_get s.vals i ≡ Some (decode c a id)
  pub following : (i : ℕ) (id : CellId) → next_cell env i ≡ Some id → slice_get t.vals i ≡ Some (decode c a id)
  pub rest : (i : ℕ) → slice_get env.now i ≡ None → slice_get s.vals i ≡ slice_get t.vals i
  pub bound : (n : ℕ) (id : CellId) → bound_cell env.bound n ≡ Some id →
      find_last (number_name n) sc.bound ≡ Some (decode c a id)

-- ---- which cells there are

abbrev pub IsThere : ℕ → Option CellId → Type 0
IsThere n None = Unit {0}
IsThere n (Some id) = id.index < n

-- the cells are among the first n
pub record AreThere (n : ℕ) (env : CellEnv) : Type 0 where
  pub current : All (λ id. id.index < n) env.now
  pub following : All (IsThere n) env.next
  pub bound : All (λ e. e.1.index < n) env.bound

-- one name, as it stands, alone
abbrev pub is_name : ℕ → Bool → Marks
is_name i true j primed = nat_eq i j && primed
is_name i false j true = false
is_name i false j false = nat_eq i j

-- there is a cell of its type for each name that the tree reads, and for each bound number of the context
pub record HoldsEnv (ks : List CellKind) (names : List Kind) (c : Context) (k : Ker) (env : CellEnv) : Type 0 where
  pub there : AreThere (length ks) env
  pub named : (i : ℕ) (primed : Bool) (a : Kind) → IsTrue (mentions (is_name i primed) k) → slice_get names i ≡ Some a →
      HasSort ks (sort_of a) (name_cell env i primed)
  pub numbered : (n : ℕ) (a : Kind) → kind_in c n ≡ Some a → HasSort ks (sort_of a) (bound_cell env.bound n)
