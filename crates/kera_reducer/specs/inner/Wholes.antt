-- What is asked of a node of a whole tree.
use Rattle.std.specs.Prelude.{ℕ, suc, ◌+◌, Bool, ◌&&◌, List, [], ◌∷◌, nat_eq, length}
use Rattle.tla_meaning.specs.declared.op.Op.{Op}
use Rattle.kernel_reduction.specs.Whole.{binds_enough, is_declared, names_enough, operand_count}

-- of each update its indexes, so many, and its right side
abbrev pub updates_count : List ℕ → ℕ
updates_count [] = 0
updates_count (n ∷ ns) = n + suc (updates_count ns)

-- with the function
abbrev pub update_count : List ℕ → ℕ
update_count ns = suc (updates_count ns)

-- as `whole_node`, but for the children
abbrev pub is_node_whole : ℕ → Op → List (List ℕ) → ℕ → Bool
is_node_whole m o names n =
    ((nat_eq (operand_count o names n) n && binds_enough o (length names)) && (is_declared m o && names_enough o n))
