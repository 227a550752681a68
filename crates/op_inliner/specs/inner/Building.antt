-- Trees that are built level by level.
use Rattle.std.specs.Prelude.{◌≡◌, ◌<◌, ◌≤◌, ℕ, suc, Bool, true, false, List, [], ◌∷◌, length, map, nat_lt, get_or, Result, Ok, Err, if◌then◌else◌}
use Rattle.tla_meaning.specs.declared.expr.Expr.{Expr, out-Expr}
use Rattle.tla_meaning.specs.declared.op.Op.{Op}
use Rattle.tla_meaning.specs.declared.op.Op.TheVariants as op
use Rattle.tla_meaning.specs.declared.place.Place.{Place}
use Rattle.tla_meaning.specs.Meaning.{Plain_role, Role, role}
use Rattle.tla_meaning.specs.Scopes.{find_last}
use Rattle.op_inliner.specs.declared.frames.Frame.{Frame}
use Rattle.op_inliner.specs.declared.spots.Spot.{Spot}
use Rattle.op_inliner.specs.declared.trees.Node.{Node}
use Rattle.op_inliner.specs.declared.trees.Part.{Part}
use Rattle.op_inliner.specs.declared.trees.Stop.{Stop}
use Rattle.op_inliner.specs.declared.trees.Stop.TheVariants as stop
use Rattle.op_inliner.specs.Answers.{depth, greatest}
use Rattle.op_inliner.specs.Inlining.{Names, bind_names, children, level_names, new_name, written}
use Rattle.op_inliner.specs.Primes.{Turned, inner_node, kept_trees, name_at, turned, turned_trees}
use Rattle.op_inliner.specs.inner.Frames.{Grown, names_at}
use Rattle.op_inliner.specs.inner.Spots.{Sight, sight}

-- the tree, unless it has more levels or memory ran out
abbrev pub Builds : ℕ → Expr → Result Expr Stop → Type 0
Builds k t (Ok e) = e ≡ t
Builds k t (Err stop.Deep) = k < depth t
Builds k t (Err (stop.Memory e)) = Unit {0}

abbrev pub BuildsAll : ℕ → List Expr → Result (List Expr) Stop → Type 0
BuildsAll k ts (Ok es) = es ≡ ts
BuildsAll k ts (Err stop.Deep) = k < greatest (map depth ts)
BuildsAll k ts (Err (stop.Memory e)) = Unit {0}

-- constants stand first
abbrev pub first : ℕ → ℕ → Bool
first n i = nat_lt i n

-- what a spot becomes in a part
abbrev pub seen : Part → List Frame → Spot → Sight
seen p fs s = sight fs s p.kind (first p.constants)

-- an expression in the place of a spot's
pub record IsChild (s : Spot) (e : Expr) (r : Spot) : Type 0 where
  pub tree : r.e.now ≡ e
  pub scope : r.scope ≡ s.scope
  pub level : r.level ≡ s.level
  pub primes : r.primes ≡ s.primes

-- which children of a node stand under its bound names
abbrev pub marks_in : Role → List Bool
marks_in (Plain_role ms) = ms
marks_in q = []

-- what the children of a spot become
abbrev pub turned_at : Part → List Bool → List Expr → Names → Names → ℕ → List Turned
turned_at p ms es here under l = map (turned p.kind (first p.constants)) (children ms (map written es) here under l)

abbrev pub child_trees : Part → List Frame → Node → List Expr
child_trees p fs n =
    turned_trees (turned_at p n.marks.items (out-Expr n.outer.e.now).args (names_at fs n.outer.scope) (names_at fs n.inner.scope) n.outer.level) n.outer.primes

abbrev pub kept_children : Part → List Frame → Spot → Place → List Expr
kept_children p fs s q =
    kept_trees (turned_at p [] (out-Expr s.e.now).args (names_at fs s.scope) (names_at fs s.scope) s.level) q s.primes

-- a node whose scopes are there
pub record IsNode (fs : List Frame) (n : Node) : Type 0 where
  pub outer : n.outer.scope ≤ length fs
  pub inner : n.inner.scope ≤ length fs
  pub level : n.inner.level ≡ suc n.outer.level
  pub primes : n.inner.primes ≡ n.outer.primes

-- an operator at a spot
abbrev pub op_at : Part → Names → ℕ → Op → Op
op_at p ns n (op.Name i b) = name_at p.kind (first p.constants) i b n
op_at p ns n (op.Bound z) = op.Bound (new_name (find_last z ns.bound))
op_at p ns n o = o

-- the names that a node binds, below so many binders
abbrev pub binds_at : ℕ → Op → List (List ℕ) → List (List ℕ)
binds_at l (op.Bound z) xs = xs
binds_at l o xs = level_names l xs

-- a node that is no other tree's
abbrev pub is_plain : Op → List Expr → Bool
is_plain op.Unchanged (e ∷ []) = false
is_plain op.Boxed (a ∷ e ∷ []) = false
is_plain op.Angled (a ∷ e ∷ []) = false
is_plain o es = true

-- a spot's node with its bound names in scope
pub record IsOpened (old new : List Frame) (s : Spot) (n : Node) : Type 0 where
  pub grown : Grown old new
  pub node : IsNode new n
  pub outer : n.outer ≡ s
  pub marks : n.marks.items ≡ marks_in (role (out-Expr s.e.now).op (length (out-Expr s.e.now).binds))
  pub names : names_at new n.inner.scope ≡ bind_names s.level (out-Expr s.e.now).binds (names_at old s.scope)

-- the spot of the child of this number
abbrev pub spot_of : Node → ℕ → Spot
spot_of n i = if get_or n.marks.items i false then n.inner else n.outer

-- `v' = v`, at a place
abbrev pub equation_of : Part → List Frame → Spot → Place → Expr
equation_of p fs s q = inner_node q op.Eq ((seen p fs (record s { primes = suc s.primes })).tree ∷ (seen p fs s).tree ∷ [])
