-- Counts as sums of unknown numbers, each cut at the limit: three for each parameter, as a count has three.
use Rattle.std.specs.Prelude.{ℕ, zero, suc, ◌+◌, ◌*◌, List, [], ◌∷◌, ◌++◌, map, length, replicate, take, drop, Option, Some, None}
use Rattle.tla_meaning.specs.declared.expr.Def.{Def}
use Rattle.tla_meaning.specs.declared.expr.Expr.{Expr}
use Rattle.tla_meaning.specs.declared.expr.Expr.TheOpen.{Expr-F}
use Rattle.tla_meaning.specs.declared.expr.Expr.TheFolds.{fold-Expr}
use Rattle.tla_meaning.specs.declared.op.Op.{Op}
use Rattle.tla_meaning.specs.declared.op.Op.TheVariants as op
use Rattle.tla_meaning.specs.Meaning.{Role, Named, Held, Lets, Plain_role, role}
use Rattle.tla_meaning.specs.Scopes.{find_last}
use Rattle.op_inliner.specs.declared.sums.Sum.{Sum}
use Rattle.op_inliner.specs.declared.sums.Counted.{Counted}
use Rattle.op_inliner.specs.declared.scope.Entry.{Entry}
use Rattle.op_inliner.specs.declared.counts.Shape.{Shape}
use Rattle.op_inliner.specs.declared.counts.Shape.TheVariants as shape
use Rattle.op_inliner.specs.Annotations.{body_of}
use Rattle.op_inliner.specs.Answers.{up_to}
use Rattle.op_inliner.specs.inner.Counting.{Count}

-- ---- the number that a sum is

abbrev pub products : List ℕ → List ℕ → ℕ
products [] xs = 0
products (u ∷ us) [] = 0
products (u ∷ us) (x ∷ xs) = u * x + products us xs

-- where the unknowns are these
abbrev pub sum_at : List ℕ → Sum → ℕ
sum_at xs s = s.base + products s.factors xs

abbrev pub counted_at : List ℕ → Counted → Count
counted_at xs c = record { tree = sum_at xs c.tree; kept = sum_at xs c.kept; plain = sum_at xs c.plain }

-- ---- sums, cut at the limit

abbrev pub limit : ℕ
limit = 1000000000000

abbrev pub cut_sum_of : ℕ → ℕ → ℕ
cut_sum_of a b = up_to limit (a + b)

abbrev pub cut_product_of : ℕ → ℕ → ℕ
cut_product_of a b = up_to limit (a * b)

abbrev pub plain_number : ℕ → Sum
plain_number n = record { base = n; factors = [] }

abbrev pub add_factors : List ℕ → List ℕ → List ℕ
add_factors [] vs = vs
add_factors (u ∷ us) [] = u ∷ us
add_factors (u ∷ us) (v ∷ vs) = cut_sum_of u v ∷ add_factors us vs

abbrev pub add_sums : Sum → Sum → Sum
add_sums s t = record { base = cut_sum_of s.base t.base; factors = add_factors s.factors t.factors }

abbrev pub times : ℕ → Sum → Sum
times a s = record { base = cut_product_of a s.base; factors = map (cut_product_of a) s.factors }

abbrev pub one_more : Sum → Sum
one_more s = record s { base = cut_sum_of s.base 1 }

-- sums in the place of unknowns
abbrev pub combined : List ℕ → List Sum → Sum
combined [] ss = plain_number 0
combined (u ∷ us) [] = plain_number 0
combined (u ∷ us) (s ∷ ss) = add_sums (times u s) (combined us ss)

-- a sum whose unknowns from the m-th on are these sums
abbrev pub given : ℕ → List Sum → Sum → Sum
given m ss s = add_sums (record { base = s.base; factors = take m s.factors }) (combined (drop m s.factors) ss)

abbrev pub all_given : ℕ → List Sum → Counted → Counted
all_given m ss c = record { tree = given m ss c.tree; kept = given m ss c.kept; plain = given m ss c.plain }

abbrev pub flat_sums : List Counted → List Sum
flat_sums [] = []
flat_sums (c ∷ cs) = c.tree ∷ c.kept ∷ c.plain ∷ flat_sums cs

abbrev pub flat_counts : List Count → List ℕ
flat_counts [] = []
flat_counts (c ∷ cs) = c.tree ∷ c.kept ∷ c.plain ∷ flat_counts cs

-- ---- nodes

abbrev pub total_trees : List Counted → Sum
total_trees [] = plain_number 0
total_trees (c ∷ cs) = add_sums c.tree (total_trees cs)

abbrev pub total_kept : List Counted → Sum
total_kept [] = plain_number 0
total_kept (c ∷ cs) = add_sums c.kept (total_kept cs)

abbrev pub tree_sum : Op → List Counted → Sum
tree_sum op.Prime (c ∷ []) = c.tree
tree_sum op.Unchanged (c ∷ []) = c.kept
tree_sum op.Boxed (a ∷ c ∷ []) = one_more (add_sums a.tree c.kept)
tree_sum op.Angled (a ∷ c ∷ []) = one_more (add_sums a.tree (one_more c.kept))
tree_sum o cs = one_more (total_trees cs)

abbrev pub twice : Sum → Sum
twice s = add_sums s s

abbrev pub kept_sum : Op → List Counted → Sum
kept_sum op.Tuple cs = one_more (total_kept cs)
kept_sum (op.Noted x) (c ∷ []) = add_sums c.kept (twice c.plain)
kept_sum (op.Noted x) cs = plain_number 1
kept_sum op.Prime (c ∷ []) = c.kept
kept_sum op.Prime cs = plain_number 1
kept_sum o cs = one_more (twice (tree_sum o cs))

abbrev pub operand_sum : List Counted → Sum
operand_sum (c ∷ []) = c.plain
operand_sum cs = plain_number 0

abbrev pub plain_sum : Op → List Counted → Sum
plain_sum op.Tuple cs = plain_number 0
plain_sum (op.Noted x) cs = operand_sum cs
plain_sum op.Prime cs = operand_sum cs
plain_sum o cs = plain_number 1

abbrev pub node_sums : Op → List Counted → Counted
node_sums o cs = record { tree = tree_sum o cs; kept = kept_sum o cs; plain = plain_sum o cs }

-- ---- with definitions

-- what names count: so many unknown numbers stand before those of a name's own parameters, and the count
abbrev pub Scope : Type 0
Scope = List (List ℕ × (ℕ × Counted))

abbrev pub Summing : Type 0
Summing = ℕ → Scope → Counted

abbrev pub sums_at : List Summing → ℕ → Scope → List Counted
sums_at ks n sc = map (λ k. k n sc) ks

abbrev pub no_sums : Counted
no_sums = record { tree = plain_number 1; kept = plain_number 3; plain = plain_number 1 }

abbrev pub called_sums : Option (ℕ × Counted) → List Counted → Counted
called_sums None cs = no_sums
called_sums (Some e) cs = all_given e.0 (flat_sums cs) e.1

abbrev pub zeros : ℕ → List ℕ
zeros n = replicate n 0

-- the unknown of this number
abbrev pub unknown : ℕ → Sum
unknown i = record { base = 0; factors = zeros i ++ 1 ∷ [] }

abbrev pub unknown_count : ℕ → Counted
unknown_count i = record { tree = unknown i; kept = unknown (1 + i); plain = unknown (2 + i) }

-- parameters, whose unknowns have the numbers from n on
abbrev pub parameters : List (List ℕ) → ℕ → Scope
parameters [] n = []
parameters (x ∷ xs) n = (x, (3 + n, unknown_count n)) ∷ parameters xs (3 + n)

abbrev pub behind_all : List (List ℕ) → ℕ → ℕ
behind_all [] n = n
behind_all (x ∷ xs) n = behind_all xs (3 + n)

abbrev pub defined_sums : List ℕ → List (List ℕ) → Summing → ℕ → Scope → Scope
defined_sums x ps k n sc = sc ++ (x, (n, k (behind_all ps n) (sc ++ parameters ps n))) ∷ []

abbrev pub let_sums : List (List ℕ × ℕ) → List (List ℕ) → List Summing → ℕ → Scope → Scope
let_sums (d ∷ ds) xs (k ∷ ks) n sc = let_sums ds (drop d.1 xs) ks n (defined_sums d.0 (take d.1 xs) k n sc)
let_sums ds xs ks n sc = sc

abbrev pub sums_of_child : ℕ → List Summing → Summing
sums_of_child i [] n sc = no_sums
sums_of_child zero (k ∷ ks) n sc = k n sc
sums_of_child (suc i) (k ∷ ks) n sc = sums_of_child i ks n sc

abbrev pub sum_node : Expr-F Summing → Role → Summing
sum_node x (Named z) n sc = called_sums (find_last z sc) (sums_at x.args n sc)
sum_node x (Held z) n sc = node_sums x.op (sums_at x.args n sc)
sum_node x (Lets ds) n sc = sums_of_child (length ds) x.args n (let_sums ds x.binds x.args n sc)
sum_node x (Plain_role ms) n sc = node_sums x.op (sums_at x.args n sc)

-- what an expression counts, where names count this and so many numbers are unknown
unfoldable pub summed : Expr → Summing
summed = fold-Expr Summing (λ x. sum_node x (role x.op (length x.binds)))

abbrev pub definitions_sums : List Def → Scope → Scope
definitions_sums [] sc = sc
definitions_sums (d ∷ ds) sc = definitions_sums ds (defined_sums d.name d.params (summed (body_of d)) 0 sc)

-- the nodes of the tree of an operator without parameters
abbrev pub nodes_of : List ℕ → Scope → ℕ
nodes_of x sc = up_to limit (called_sums (find_last x sc) []).tree.base

-- ---- nodes, by what their operator is to a count

abbrev pub shape_of : Op → Shape
shape_of op.Prime = shape.Prime
shape_of op.Unchanged = shape.Unchanged
shape_of op.Boxed = shape.Boxed
shape_of op.Angled = shape.Angled
shape_of op.Tuple = shape.Tuple
shape_of (op.Noted x) = shape.Noted
shape_of o = shape.Other

abbrev pub tree_by : Shape → List Counted → Sum
tree_by shape.Prime (c ∷ []) = c.tree
tree_by shape.Unchanged (c ∷ []) = c.kept
tree_by shape.Boxed (a ∷ c ∷ []) = one_more (add_sums a.tree c.kept)
tree_by shape.Angled (a ∷ c ∷ []) = one_more (add_sums a.tree (one_more c.kept))
tree_by s cs = one_more (total_trees cs)

abbrev pub kept_by : Shape → List Counted → Sum → Sum
kept_by shape.Tuple cs tree = one_more (total_kept cs)
kept_by shape.Noted (c ∷ []) tree = add_sums c.kept (twice c.plain)
kept_by shape.Noted cs tree = plain_number 1
kept_by shape.Prime (c ∷ []) tree = c.kept
kept_by shape.Prime cs tree = plain_number 1
kept_by s cs tree = one_more (twice tree)

abbrev pub plain_by : Shape → List Counted → Sum
plain_by shape.Tuple cs = plain_number 0
plain_by shape.Noted cs = operand_sum cs
plain_by shape.Prime cs = operand_sum cs
plain_by s cs = plain_number 1

abbrev pub counted_by : Shape → List Counted → Counted
counted_by s cs = record { tree = tree_by s cs; kept = kept_by s cs (tree_by s cs); plain = plain_by s cs }

-- ---- what is kept of names

abbrev pub entry_of : Entry → List ℕ × (ℕ × Counted)
entry_of e = (e.name, (e.below, e.counted))

abbrev pub scope_of : List Entry → Scope
scope_of es = map entry_of es
