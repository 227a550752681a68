-- Which names a tree reads.
use Rattle.std.specs.Prelude.{◌≡◌, ℕ, Bool, true, false, ◌&&◌, ◌||◌, IsTrue, List, [], ◌∷◌, length}
use Rattle.std.specs.List.{list_any}
use Rattle.tla_meaning.specs.declared.expr.Expr.{Expr}
use Rattle.tla_meaning.specs.declared.expr.Expr.TheOpen.{Expr-F}
use Rattle.tla_meaning.specs.declared.expr.Expr.TheFolds.{fold-Expr}
use Rattle.tla_meaning.specs.Scopes.{Scope, find_last, same_text}
use Rattle.tla_meaning.specs.Meaning.{Role, Named, Held, Lets, Plain_role, role}

-- scopes that agree on two sets of names: N of definitions and parameters, B of bound names
abbrev pub SameOn : (List ℕ → Bool) → (List ℕ → Bool) → Scope → Scope → Type 0
SameOn N B a b =
    ((x : List ℕ) → IsTrue (B x) → find_last x a.bound ≡ find_last x b.bound)
    × ((x : List ℕ) → IsTrue (N x) → find_last x a.named ≡ find_last x b.named)

-- the name that a node itself reads lies in its set
abbrev pub role_reads : (List ℕ → Bool) → (List ℕ → Bool) → Role → Bool
role_reads N B (Named x) = N x
role_reads N B (Held x) = B x
role_reads N B (Lets ds) = true
role_reads N B (Plain_role ms) = true

-- which children stand under the bound names of a node; past the end of the list none does
abbrev pub marks : Role → List Bool
marks (Named x) = []
marks (Held x) = []
marks (Lets ds) = []
marks (Plain_role ms) = ms

-- a set of names, and these too
abbrev pub with_names : List (List ℕ) → (List ℕ → Bool) → List ℕ → Bool
with_names xs B x = list_any (same_text x) xs || B x

-- each child keeps to the names, those under the bound names with these too
abbrev pub closed_all : List Bool → List (List ℕ) → List ((List ℕ → Bool) → Bool) → (List ℕ → Bool) → Bool
closed_all ms xs [] B = true
closed_all [] xs (k ∷ ks) B = k B && closed_all [] xs ks B
closed_all (true ∷ ms) xs (k ∷ ks) B = k (with_names xs B) && closed_all ms xs ks B
closed_all (false ∷ ms) xs (k ∷ ks) B = k B && closed_all ms xs ks B

abbrev pub closed_layer : (List ℕ → Bool) → Expr-F ((List ℕ → Bool) → Bool) → (List ℕ → Bool) → Bool
closed_layer N x B =
    role_reads N B (role x.op (length x.binds)) && closed_all (marks (role x.op (length x.binds))) x.binds x.args B

-- closed N e B: the free names of a tree lie in these sets, N of definitions and parameters, B of bound names; what a
-- LET defines and its parameters are no exception: where they are read, they lie in N
abbrev pub closed : (List ℕ → Bool) → Expr → (List ℕ → Bool) → Bool
closed N = fold-Expr ((List ℕ → Bool) → Bool) (closed_layer N)
