-- How many nodes an expanded tree has, without the tree.
use Rattle.std.specs.Prelude.{ℕ, zero, suc, ◌+◌, ◌*◌, List, [], ◌∷◌, ◌++◌, map, zip, length, take, drop, Option, Some, None}
use Rattle.tla_meaning.specs.declared.expr.Def.{Def}
use Rattle.tla_meaning.specs.declared.expr.Expr.{Expr}
use Rattle.tla_meaning.specs.declared.expr.Expr.TheOpen.{Expr-F}
use Rattle.tla_meaning.specs.declared.expr.Expr.TheFolds.{fold-Expr}
use Rattle.tla_meaning.specs.declared.modules.Flat.{Flat}
use Rattle.tla_meaning.specs.declared.op.Op.{Op}
use Rattle.tla_meaning.specs.declared.op.Op.TheVariants as op
use Rattle.tla_meaning.specs.Meaning.{Role, Named, Held, Lets, Plain_role, role}
use Rattle.tla_meaning.specs.Scopes.{find_last}
use Rattle.op_inliner.specs.Annotations.{body_of}
use Rattle.op_inliner.specs.Expansion.{assumed}

-- the nodes of what an expression becomes, those of UNCHANGED of it, and 1 where it is no tuple below its notes and primes
pub record Count : Type 0 where
  pub tree : ℕ
  pub kept : ℕ
  pub plain : ℕ

abbrev pub sum_trees : List Count → ℕ
sum_trees [] = 0
sum_trees (c ∷ cs) = c.tree + sum_trees cs

abbrev pub sum_kept : List Count → ℕ
sum_kept [] = 0
sum_kept (c ∷ cs) = c.kept + sum_kept cs

abbrev pub tree_count : Op → List Count → ℕ
tree_count op.Prime (c ∷ []) = c.tree
tree_count op.Unchanged (c ∷ []) = c.kept
tree_count op.Boxed (a ∷ c ∷ []) = suc (a.tree + c.kept)
tree_count op.Angled (a ∷ c ∷ []) = suc (a.tree + suc c.kept)
tree_count o cs = suc (sum_trees cs)

-- each note around what is no tuple comes twice more
abbrev pub kept_count : Op → List Count → ℕ
kept_count op.Tuple cs = suc (sum_kept cs)
kept_count (op.Noted x) (c ∷ []) = c.kept + 2 * c.plain
kept_count (op.Noted x) cs = 1
kept_count op.Prime (c ∷ []) = c.kept
kept_count op.Prime cs = 1
kept_count o cs = suc (2 * tree_count o cs)

abbrev pub operand_plain : List Count → ℕ
operand_plain (c ∷ []) = c.plain
operand_plain cs = 0

abbrev pub plain_count : Op → List Count → ℕ
plain_count op.Tuple cs = 0
plain_count (op.Noted x) cs = operand_plain cs
plain_count op.Prime cs = operand_plain cs
plain_count o cs = 1

abbrev pub node_count : Op → List Count → Count
node_count o cs = record { tree = tree_count o cs; kept = kept_count o cs; plain = plain_count o cs }

-- ---- with definitions

abbrev pub Counts : Type 0
Counts = List (List ℕ × (List Count → Count))

abbrev pub Counting : Type 0
Counting = Counts → Count

abbrev pub counts_at : List Counting → Counts → List Count
counts_at ks ns = map (λ k. k ns) ks

-- a name that stands for nothing is one node
abbrev pub no_count : Count
no_count = record { tree = 1; kept = 3; plain = 1 }

abbrev pub called_count : Option (List Count → Count) → List Count → Count
called_count None cs = no_count
called_count (Some d) cs = d cs

abbrev pub define_count : List ℕ → (List Count → Count) → Counts → Counts
define_count x d ns = ns ++ (x, d) ∷ []

abbrev pub pass_counts : List (List ℕ) → List Count → Counts → Counts
pass_counts xs cs ns = ns ++ zip xs (map (λ c. λ _. c) cs)

abbrev pub count_at : ℕ → List Count → Count
count_at i [] = no_count
count_at zero (c ∷ cs) = c
count_at (suc i) (c ∷ cs) = count_at i cs

abbrev pub let_counts : List (List ℕ × ℕ) → List (List ℕ) → List Counting → Counts → Counts
let_counts (d ∷ ds) xs (k ∷ ks) ns =
    let_counts ds (drop d.1 xs) ks (define_count d.0 (λ cs. k (pass_counts (take d.1 xs) cs ns)) ns)
let_counts ds xs ks ns = ns

abbrev pub count_node : Expr-F Counting → Role → Counting
count_node x (Named z) ns = called_count (find_last z ns) (counts_at x.args ns)
count_node x (Held z) ns = node_count x.op (counts_at x.args ns)
count_node x (Lets ds) ns = count_at (length ds) (counts_at x.args (let_counts ds x.binds x.args ns))
count_node x (Plain_role ms) ns = node_count x.op (counts_at x.args ns)

-- what an expression counts, where names count this
unfoldable pub counted : Expr → Counting
counted = fold-Expr Counting (λ x. count_node x (role x.op (length x.binds)))

abbrev pub definitions_count : List Def → Counts → Counts
definitions_count [] ns = ns
definitions_count (d ∷ ds) ns = definitions_count ds (define_count d.name (λ cs. counted (body_of d) (pass_counts d.params cs ns)) ns)

abbrev pub counts_of : Flat → Counts
counts_of flat = definitions_count flat.defs []

-- the nodes of a name's expanded tree, and of that of the assumptions
abbrev pub count_of : Flat → List ℕ → ℕ
count_of flat x = (called_count (find_last x (counts_of flat)) []).tree

abbrev pub assumed_count : Flat → ℕ
assumed_count flat = (counted (assumed flat) (counts_of flat)).tree
