-- Primes that stand at the variables, and UNCHANGED as equations.
use Rattle.std.specs.Prelude.{ℕ, zero, suc, Bool, true, false, List, [], ◌∷◌, map, if◌then◌else◌}
use Rattle.tla_meaning.specs.declared.expr.Expr.{Expr, roll-Expr}
use Rattle.tla_meaning.specs.declared.expr.Expr.TheOpen.{Expr-F}
use Rattle.tla_meaning.specs.declared.expr.Expr.TheFolds.{fold-Expr}
use Rattle.tla_meaning.specs.declared.op.Form.TheVariants as form
use Rattle.tla_meaning.specs.declared.op.Op.{Op}
use Rattle.tla_meaning.specs.declared.op.Op.TheVariants as op
use Rattle.tla_meaning.specs.declared.place.Place.{Place}
use Rattle.op_inliner.specs.declared.parts.PartKind.{PartKind}
use Rattle.op_inliner.specs.declared.parts.PartKind.TheVariants.{Constants, Step}

-- a variable under this many primes
abbrev pub variable_at : PartKind → ℕ → ℕ → Op
variable_at Constants i zero = op.Outside form.Variable
variable_at part i zero = op.Name i false
variable_at Step i (suc zero) = op.Name i true
variable_at Step i (suc (suc n)) = op.Outside form.DoublePrime
variable_at part i (suc n) = op.Outside form.Prime

-- a prime on a constant changes nothing
abbrev pub name_at : PartKind → (ℕ → Bool) → ℕ → Bool → ℕ → Op
name_at part constant i primed n =
    if constant i then op.Name i false else variable_at part i (if primed then suc n else n)

-- what an expression becomes: under a number of primes, and under UNCHANGED at a place and a number of primes
pub record Turned : Type 0 where
  pub tree : ℕ → Expr
  pub kept : Place → ℕ → Expr
  -- whether it is a tuple, below its notes and primes
  pub is_tuple : Bool

abbrev pub inner_node : Place → Op → List Expr → Expr
inner_node p o es = roll-Expr (record { place = p; op = o; args = es; binds = [] })

abbrev pub turned_trees : List Turned → ℕ → List Expr
turned_trees ks n = map (λ (k : Turned). k.tree n) ks

abbrev pub kept_trees : List Turned → Place → ℕ → List Expr
kept_trees ks q n = map (λ (k : Turned). k.kept q n) ks

abbrev pub tree_of : PartKind → (ℕ → Bool) → Place → Op → List (List ℕ) → List Turned → ℕ → Expr
tree_of part c p op.Prime xs (k ∷ []) n = k.tree (suc n)
tree_of part c p op.Unchanged xs (k ∷ []) n = k.kept p n
tree_of part c p op.Boxed xs (a ∷ k ∷ []) n = inner_node p op.Or (a.tree n ∷ k.kept p n ∷ [])
tree_of part c p op.Angled xs (a ∷ k ∷ []) n = inner_node p op.And (a.tree n ∷ inner_node p op.Not (k.kept p n ∷ []) ∷ [])
tree_of part c p (op.Name i b) xs ks n =
    roll-Expr (record { place = p; op = name_at part c i b n; args = turned_trees ks n; binds = xs })
tree_of part c p o xs ks n = roll-Expr (record { place = p; op = o; args = turned_trees ks n; binds = xs })

-- `v' = v` at the place of the UNCHANGED
abbrev pub equation : PartKind → (ℕ → Bool) → Place → Op → List (List ℕ) → List Turned → Place → ℕ → Expr
equation part c p o xs ks q n = inner_node q op.Eq (tree_of part c p o xs ks (suc n) ∷ tree_of part c p o xs ks n ∷ [])

-- an UNCHANGED without its operand stays
abbrev pub stays : Place → Expr
stays q = inner_node q op.Unchanged []

-- UNCHANGED of a tuple is the conjunction over its items, also below notes, and of anything else an equation
abbrev pub kept_of : PartKind → (ℕ → Bool) → Place → Op → List (List ℕ) → List Turned → Place → ℕ → Expr
kept_of part c p op.Tuple xs ks q n = inner_node q op.And (kept_trees ks q n)
kept_of part c p (op.Noted x) xs (k ∷ []) q n = if k.is_tuple then k.kept q n else equation part c p (op.Noted x) xs (k ∷ []) q n
kept_of part c p (op.Noted x) xs ks q n = stays q
kept_of part c p op.Prime xs (k ∷ []) q n = k.kept q (suc n)
kept_of part c p op.Prime xs ks q n = stays q
kept_of part c p o xs ks q n = equation part c p o xs ks q n

-- a note or a prime without its operand counts as one, so its UNCHANGED is no equation
abbrev pub operand_is_tuple : List Turned → Bool
operand_is_tuple (k ∷ []) = k.is_tuple
operand_is_tuple ks = true

abbrev pub tuple_of : Op → List Turned → Bool
tuple_of op.Tuple ks = true
tuple_of (op.Noted x) ks = operand_is_tuple ks
tuple_of op.Prime ks = operand_is_tuple ks
tuple_of o ks = false

abbrev pub turned_node : PartKind → (ℕ → Bool) → Expr-F Turned → Turned
turned_node part c x = record {
  tree = tree_of part c x.place x.op x.binds x.args;
  kept = kept_of part c x.place x.op x.binds x.args;
  is_tuple = tuple_of x.op x.args;
}

unfoldable pub turned : PartKind → (ℕ → Bool) → Expr → Turned
turned part c = fold-Expr Turned (turned_node part c)

-- the operators of an expanded tree without forms
abbrev pub done : Op → Bool
done (op.Use x) = false
done (op.Param x) = false
done (op.Let ds) = false
done op.Prime = false
done op.Unchanged = false
done op.Boxed = false
done op.Angled = false
done (op.Outside f) = false
done o = true

abbrev pub plain_op : Op → Bool
plain_op (op.Name i b) = false
plain_op o = done o
