-- Bound numbers: each is bound before it is read, and none is bound again where it is bound (Specifying Systems, section
-- 17.1, on bound names).
use Rattle.std.specs.Prelude.{ℕ, Bool, true, not, ◌&&◌, List, [], ◌∷◌, length, nat_eq}
use Rattle.std.specs.List.{list_all, list_any}
use Rattle.tla_meaning.specs.Meaning.{role}
use Rattle.tla_meaning.specs.FreeNames.{marks, closed_all}
use Rattle.kernel_trees.specs.declared.kernel.Ker.{Ker}
use Rattle.kernel_trees.specs.declared.kernel.Ker.TheOpen.{Ker-F}
use Rattle.kernel_trees.specs.declared.kernel.Ker.TheFolds.{fold-Ker}
use Rattle.kernel_trees.specs.declared.kernel.KerOp.{KerOp}
use Rattle.kernel_trees.specs.declared.kernel.KerOp.TheVariants as ker
use Rattle.kernel_trees.specs.Trees.{number_name, names_of, op_of}

-- the names that are bound
abbrev pub Names : Type 0
Names = List ℕ → Bool

abbrev pub reads_in : Names → KerOp → Bool
reads_in B (ker.Bound n) = B (number_name n)
reads_in B o = true

-- none of the numbers is bound
abbrev pub outside : Names → List ℕ → Bool
outside B xs = list_all (λ n. not (B (number_name n))) xs

-- no number stands twice
abbrev pub differ : List ℕ → Bool
differ [] = true
differ (x ∷ xs) = not (list_any (nat_eq x) xs) && differ xs

abbrev pub scoped_at : Names → Ker-F (Names → Bool) → Bool
scoped_at B x =
    (reads_in B x.op && differ x.binds)
    && (outside B x.binds && closed_all (marks (role (op_of x.op) (length (names_of x.binds)))) (names_of x.binds) x.args B)

-- in a tree whose context binds these names
unfoldable pub scoped : Ker → Names → Bool
scoped = fold-Ker (Names → Bool) (λ x B. scoped_at B x)
