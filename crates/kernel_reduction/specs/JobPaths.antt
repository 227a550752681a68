-- The paths of a job's own trees, and what is told of them and of a kernel tree's, which the reducer keeps. A path
-- takes one operand of each disjunction and one branch of each IF and CASE that holds a name which the action may
-- assign, and makes one choice for each `\E`; a conjunction goes on with each path of its next operand, unless a path
-- has ended. Source: Konnov, Kukovec and Tran, "TLA+ Model Checking Made Symbolic", OOPSLA 2019, on symbolic transitions
-- and assignments.
use Rattle.std.specs.Prelude.{◌≡◌, ℕ, zero, suc, Bool, true, false, not, ◌&&◌, sum, nat_eq, nat_lt, List, [], ◌∷◌, ◌++◌, map, zip, take, drop, length, flat_map, Option, Some, None, option_map, slice_get, if◌then◌else◌}
use Rattle.std.specs.List.{list_any}
use Rattle.std.specs.Ordering.{is_eq}
use Rattle.tla_meaning.specs.declared.expr.Expr.{Expr, roll-Expr, out-Expr}
use Rattle.tla_meaning.specs.declared.expr.Expr.TheOpen.{Expr-F}
use Rattle.tla_meaning.specs.declared.expr.Expr.TheFolds.{fold-Expr, map-Expr}
use Rattle.tla_meaning.specs.declared.op.Op.{Op}
use Rattle.tla_meaning.specs.declared.op.Op.TheVariants as op
use Rattle.tla_meaning.specs.declared.place.Place.{Place}
use Rattle.tla_meaning.specs.Outcomes.{place_cmp}
use Rattle.kernel_trees.specs.declared.kernel.Ker.{Ker}
use Rattle.kernel_trees.specs.declared.path.KerPath.{KerPath}
use Rattle.kernel_trees.specs.declared.path.AssignedStep.{AssignedStep}
use Rattle.kernel_trees.specs.declared.path.AssignedStep.TheVariants as mark
use Rattle.kernel_trees.specs.TypeKinds.{Kind}
use Rattle.kernel_trees.specs.Ways.{Way, has_ended, all_of, branch, any_of, alone}
use Rattle.kernel_trees.specs.Paths.{Marks, place_or, paths}
use Rattle.kernel_trees.specs.Sound.{infinite_places}
use Rattle.kernel_trees.specs.Assignments.{is_in, marked, path_ended, read_by, reads_at}
use Rattle.kernel_shapes.specs.Trees.{recur}

-- ---- names in a tree

abbrev pub has_name_at : (ℕ → Bool → Place → Bool) → Place → Op → List Bool → Bool
has_name_at test p (op.Name i primed) bs = test i primed p
has_name_at test p o bs = list_any (λ b. b) bs

-- whether a tree holds a declared name that passes: by its number, whether it is primed, and where it stands
unfoldable pub has_name : (ℕ → Bool → Place → Bool) → Expr → Bool
has_name test = fold-Expr Bool (λ x. has_name_at test x.place x.op x.args)

-- whether it holds a name that counts
abbrev pub tree_mentions : Marks → Expr → Bool
tree_mentions m e = has_name (λ i primed p. m i primed) e

-- whether it reads the name of this number there, if it counts
abbrev pub tree_reads : Marks → Expr → ℕ → Place → Bool
tree_reads m e i p = has_name (λ j primed q. (m j primed && nat_eq i j) && is_eq (place_cmp p q)) e

-- past the first n names
abbrev pub outside : ℕ → ℕ → Bool → Place → Bool
outside n i primed p = not (nat_lt i n)

-- whether each name of a tree is one of the first n
abbrev pub tree_names_below : ℕ → Expr → Bool
tree_names_below n e = not (has_name (outside n) e)

-- ---- infinite sets

-- where a form is an infinite set or has one as a part; a function set's domain is no part
abbrev pub infinite_form_at : Op → Place → List (List Place) → List Place
infinite_form_at op.IntSet p ks = p ∷ []
infinite_form_at op.NatSet p ks = p ∷ []
infinite_form_at op.StringSet p ks = p ∷ []
infinite_form_at op.SeqSet p ks = p ∷ flat_map (λ k. k) ks
infinite_form_at op.Powerset p ks = flat_map (λ k. k) ks
infinite_form_at op.FunSet p ks = flat_map (λ k. k) (drop 1 ks)
infinite_form_at (op.RecSet names) p ks = flat_map (λ k. k) ks
infinite_form_at op.Product p ks = flat_map (λ k. k) ks
infinite_form_at (op.Noted x) p ks = flat_map (λ k. k) ks
infinite_form_at o p ks = []

unfoldable pub infinite_form : Expr → List Place
infinite_form = fold-Expr (List Place) (λ x. infinite_form_at x.op x.place x.args)

-- ---- annotations

abbrev pub tree_of : {X : Type 0} → Expr-F (Expr × X) → Expr
tree_of {X = X} x = roll-Expr (map-Expr (Expr × X) Expr (λ y. y.0) x)

abbrev pub below_of : Op → Expr → List Expr → Expr
below_of (op.Noted x) self (e ∷ es) = e
below_of o self es = self

-- what stands below the annotations at a tree's root
unfoldable pub below_notes : Expr → Expr
below_notes = recur (λ x. below_of x.op (tree_of x) (map (λ k. k.1) x.args))

-- ---- trees with types

-- a tree with the types of its nodes in preorder, and the names that are bound around it, from the outermost: a text may
-- stand in them twice, and the last one is meant
pub record TypedTree : Type 0 where
  pub tree : Expr
  pub kinds : List Kind
  pub around : List (List ℕ)

-- how many nodes a tree has
unfoldable pub nodes : Expr → ℕ
nodes = fold-Expr ℕ (λ x. suc (sum x.args))

-- trees beside each other, from the types that stand behind their parent's own: around the first n stand the outer names,
-- and around those behind the inner ones
abbrev pub typed_trees : ℕ → List (List ℕ) → List (List ℕ) → List Expr → List Kind → List TypedTree
typed_trees n outer inner [] ks = []
typed_trees zero outer inner (e ∷ es) ks =
    record { tree = e; kinds = take (nodes e) ks; around = inner } ∷ typed_trees zero outer inner es (drop (nodes e) ks)
typed_trees (suc n) outer inner (e ∷ es) ks =
    record { tree = e; kinds = take (nodes e) ks; around = outer } ∷ typed_trees n outer inner es (drop (nodes e) ks)

-- of a tree that binds nothing
abbrev pub children : TypedTree → List TypedTree
children t = typed_trees 0 t.around t.around (out-Expr t.tree).args (drop 1 t.kinds)

-- ---- steps

pub data JobStep : Type 0 where
  -- an operand that is to be TRUE
  Operand : TypedTree → JobStep
  -- the guard of an IF or a CASE at this place, with the truth value that leads on
  Guarded : Place → TypedTree → Bool → JobStep
  -- the choice of an `\E` at this place: of one value for each name from its set
  Chosen : Place → List (List ℕ × TypedTree) → JobStep
  -- the CASE at this place, of which no guard is TRUE
  Unmatched : Place → JobStep

abbrev pub is_false_op : Op → Bool
is_false_op (op.Bool b) = not b
is_false_op o = false

-- a path ends at the literal FALSE, and in a CASE of which no guard is TRUE; an operand is no annotation
abbrev pub ends_there : JobStep → Bool
ends_there (Operand t) = is_false_op (out-Expr t.tree).op
ends_there (Guarded p t b) = false
ends_there (Chosen p ps) = false
ends_there (Unmatched p) = true

-- ---- paths

-- a tree with its paths
abbrev pub JobParted : Type 0
JobParted = TypedTree × List (Way JobStep)

-- below its annotations
abbrev pub root_place : Expr → Place
root_place e = (out-Expr (below_notes e)).place

abbrev pub any_holds : Marks → List JobParted → Bool
any_holds m ks = list_any (λ k. tree_mentions m k.0.tree) ks

abbrev pub job_if_ways : TypedTree → Place → List JobParted → List (Way JobStep)
job_if_ways self p (c ∷ a ∷ b ∷ []) =
    branch (Guarded p c.0 true ∷ []) (root_place a.0.tree) a.1
    ++ branch (Guarded p c.0 false ∷ []) (root_place b.0.tree) b.1
job_if_ways self p ks = alone (Operand self)

-- guards and branches in turn, behind the guards before them, which are FALSE; one more is that of OTHER, and without
-- it there is a path on which no guard is TRUE
abbrev pub job_case_ways : Place → List JobStep → List JobParted → List (Way JobStep)
job_case_ways p front [] = record { taken = Some p; steps = front ++ Unmatched p ∷ [] } ∷ []
job_case_ways p front (o ∷ []) = branch front (root_place o.0.tree) o.1
job_case_ways p front (g ∷ a ∷ ks) =
    branch (front ++ Guarded p g.0 true ∷ []) (root_place a.0.tree) a.1
    ++ job_case_ways p (front ++ Guarded p g.0 false ∷ []) ks

abbrev pub job_choice_ways : TypedTree → Place → List (List ℕ × TypedTree) → Option JobParted → List (Way JobStep)
job_choice_ways self p ps None = alone (Operand self)
job_choice_ways self p ps (Some k) = map (λ y. record { taken = y.taken; steps = Chosen p ps ∷ y.steps }) k.1

abbrev pub job_noted_ways : TypedTree → List JobParted → List (Way JobStep)
job_noted_ways self [] = alone (Operand self)
job_noted_ways self (k ∷ ks) = k.1

-- by the operator; an annotation is passed over, and everything else is one operand
abbrev pub job_ways_of : Marks → Op → TypedTree → Place → List (List ℕ) → List JobParted → List (Way JobStep)
job_ways_of m op.And self p xs ks = all_of ends_there (map (λ k. k.1) ks)
job_ways_of m op.Or self p xs ks =
    if any_holds m ks then any_of (map (λ k. (root_place k.0.tree, k.1)) ks) else alone (Operand self)
job_ways_of m op.If self p xs ks = if any_holds m ks then job_if_ways self p ks else alone (Operand self)
job_ways_of m (op.Case other) self p xs ks = if any_holds m ks then job_case_ways p [] ks else alone (Operand self)
job_ways_of m op.Exists self p xs ks =
    job_choice_ways self p (zip xs (map (λ k. k.0) (take (length xs) ks))) (slice_get ks (length xs))
job_ways_of m (op.Noted x) self p xs ks = job_noted_ways self ks
job_ways_of m o self p xs ks = alone (Operand self)

-- of the operators through which a path leads, `\E` alone binds names: around its body, behind a set for each
abbrev pub set_count : Op → List (List ℕ) → ℕ
set_count op.Exists xs = length xs
set_count o xs = 0

abbrev pub names_inside : Op → List (List ℕ) → List (List ℕ) → List (List ℕ)
names_inside op.Exists xs around = around ++ xs
names_inside o xs around = around

-- the paths of a tree, by the names around it and the types of its nodes
abbrev pub JobWays : Type 0
JobWays = List (List ℕ) → List Kind → List (Way JobStep)

-- children with their paths, as `typed_trees`
abbrev pub parted : ℕ → List (List ℕ) → List (List ℕ) → List (Expr × JobWays) → List Kind → List JobParted
parted n outer inner [] ks = []
parted zero outer inner (e ∷ es) ks =
    (record { tree = e.0; kinds = take (nodes e.0) ks; around = inner }, e.1 inner (take (nodes e.0) ks))
    ∷ parted zero outer inner es (drop (nodes e.0) ks)
parted (suc n) outer inner (e ∷ es) ks =
    (record { tree = e.0; kinds = take (nodes e.0) ks; around = outer }, e.1 outer (take (nodes e.0) ks))
    ∷ parted n outer inner es (drop (nodes e.0) ks)

abbrev pub job_ways_at : Marks → Expr-F (Expr × JobWays) → JobWays
job_ways_at m x around ks =
    job_ways_of m x.op (record { tree = tree_of x; kinds = ks; around = around }) x.place x.binds
    (parted (set_count x.op x.binds) around (names_inside x.op x.binds around) x.args (drop 1 ks))

-- the paths of an action, from left to right
abbrev pub job_ways : Marks → TypedTree → List (Way JobStep)
job_ways m t = recur (job_ways_at m) t.tree t.around t.kinds

-- a path with the place of the last branch that it takes, or of the part's root where it takes none
pub record JobPath : Type 0 where
  pub place : Place
  pub steps : List JobStep

abbrev pub job_path_of : Expr → Way JobStep → JobPath
job_path_of e y = record { place = place_or (root_place e) y.taken; steps = y.steps }

abbrev pub job_paths : Marks → TypedTree → List JobPath
job_paths m t = map (job_path_of t.tree) (job_ways m t)

-- ---- assignments

pub data JobAssigned : Type 0 where
  -- what is to have a truth value
  Asks : TypedTree → JobAssigned
  -- one value for each name, each from its set
  Picks : List (List ℕ × TypedTree) → JobAssigned
  -- the name's next value is this, or is in this set
  Sets : ℕ → TypedTree → JobAssigned
  SetsFrom : ℕ → TypedTree → JobAssigned
  -- no guard of a CASE is TRUE
  Stops : JobAssigned

-- the name that is assigned: one that counts, and is not assigned before
abbrev pub job_target : Marks → List ℕ → Op → Option ℕ
job_target m before (op.Name i primed) = if m i primed && not (is_in before i) then Some i else None
job_target m before o = None

-- of a left side, below its annotations
abbrev pub left_side : Marks → List ℕ → TypedTree → Option ℕ
left_side m before x = job_target m before (out-Expr (below_notes x.tree)).op

-- `x' = e`, `x' := e` and `x' \in S` of such a name
abbrev pub job_assignment_of : Marks → List ℕ → Op → List TypedTree → Option (ℕ × JobAssigned)
job_assignment_of m before op.Eq (x ∷ e ∷ []) = option_map (λ i. (i, Sets i e)) (left_side m before x)
job_assignment_of m before op.Assign (x ∷ e ∷ []) = option_map (λ i. (i, Sets i e)) (left_side m before x)
job_assignment_of m before op.In (x ∷ e ∷ []) = option_map (λ i. (i, SetsFrom i e)) (left_side m before x)
job_assignment_of m before o ks = None

abbrev pub job_assignment : Marks → List ℕ → TypedTree → Option (ℕ × JobAssigned)
job_assignment m before t = job_assignment_of m before (out-Expr t.tree).op (children t)

abbrev pub assigned_or : TypedTree → Option (ℕ × JobAssigned) → JobAssigned
assigned_or t None = Asks t
assigned_or t (Some a) = a.1

abbrev pub and_before : Option (ℕ × JobAssigned) → List ℕ → List ℕ
and_before None before = before
and_before (Some a) before = a.0 ∷ before

-- the first of each name is its assignment; a guard is none
abbrev pub job_marked : Marks → List ℕ → List JobStep → List JobAssigned
job_marked m before [] = []
job_marked m before (Operand t ∷ ys) =
    assigned_or t (job_assignment m before t) ∷ job_marked m (and_before (job_assignment m before t) before) ys
job_marked m before (Guarded p t b ∷ ys) = Asks t ∷ job_marked m before ys
job_marked m before (Chosen p ps ∷ ys) = Picks ps ∷ job_marked m before ys
job_marked m before (Unmatched p ∷ ys) = Stops ∷ job_marked m before ys

-- ---- what is told of a path

-- the name that a step assigns; where it takes a member of a form, at which places that is an infinite set or has one
-- as a part; and whether the step reads the name of this number there, for any names that count: the name that it
-- assigns is not read at its left side
pub record ToldStep : Type 0 where
  pub assigns : Option ℕ
  pub among : Option (List Place)
  pub reads : Marks → ℕ → Place → Bool

pub record Told : Type 0 where
  pub place : Place
  pub ended : Bool
  pub steps : List ToldStep

-- the names in the order in which they are assigned
abbrev pub named : Option ℕ → List ℕ
named None = []
named (Some i) = i ∷ []

abbrev pub assigned_names : Told → List ℕ
assigned_names x = flat_map (λ y. named y.assigns) x.steps

-- of the trees that a step evaluates
abbrev pub job_reads : List TypedTree → Marks → ℕ → Place → Bool
job_reads ts m i p = list_any (λ t. tree_reads m t.tree i p) ts

abbrev pub job_sets : List (List ℕ × TypedTree) → List TypedTree
job_sets ps = map (λ x. x.1) ps

abbrev pub told_step : JobAssigned → ToldStep
told_step (Asks t) = record { assigns = None; among = None; reads = job_reads (t ∷ []) }
told_step (Picks ps) = record { assigns = None; among = None; reads = job_reads (job_sets ps) }
told_step (Sets i t) = record { assigns = Some i; among = None; reads = job_reads (t ∷ []) }
told_step (SetsFrom i t) = record {
  assigns = Some i;
  among = Some (infinite_form t.tree);
  reads = job_reads (t ∷ []);
}
told_step Stops = record { assigns = None; among = None; reads = job_reads [] }

abbrev pub told_path : Marks → JobPath → Told
told_path m x = record {
  place = x.place;
  ended = has_ended ends_there x.steps;
  steps = map told_step (job_marked m [] x.steps);
}

-- of a kernel tree's path
abbrev pub kernel_reads : List Ker → Marks → ℕ → Place → Bool
kernel_reads ks m i p = list_any (λ k. reads_at m k i p) ks

abbrev pub assigned_by_step : AssignedStep → Option ℕ
assigned_by_step (mark.Guard k b) = None
assigned_by_step (mark.Pick ps) = None
assigned_by_step (mark.Equals i e) = Some i
assigned_by_step (mark.Among i e) = Some i

abbrev pub taken_by_step : AssignedStep → Option (List Place)
taken_by_step (mark.Guard k b) = None
taken_by_step (mark.Pick ps) = None
taken_by_step (mark.Equals i e) = None
taken_by_step (mark.Among i e) = Some (infinite_places e)

abbrev pub told_kernel_step : AssignedStep → ToldStep
told_kernel_step z = record {
  assigns = assigned_by_step z;
  among = taken_by_step z;
  reads = kernel_reads (read_by z);
}

abbrev pub told_kernel_path : Marks → KerPath → Told
told_kernel_path m x = record {
  place = x.place;
  ended = path_ended x.steps;
  steps = map told_kernel_step (marked m [] x.steps);
}

-- as many paths, in the same order, each of which has the same place, ends or does not, and step by step assigns the same
-- name, by a value or from a form with infinite parts at the same places, and reads the same names at the same places
abbrev pub SamePaths : Marks → TypedTree → Ker → Type 0
SamePaths m t k = map (told_path m) (job_paths m t) ≡ map (told_kernel_path m) (paths m k)
