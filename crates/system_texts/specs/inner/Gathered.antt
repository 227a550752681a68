-- The texts of a system as they are gathered, with those that stand several times.
use Rattle.std.specs.Prelude.{ℕ, Bool, List, [], ◌∷◌, ◌++◌, flat_map}
use Rattle.std.specs.List.{list_all, list_any}
use Rattle.tla_meaning.specs.Scopes.{same_text}
use Rattle.snowcat_rows.specs.declared.types.Ty.{Ty}
use Rattle.snowcat_rows.specs.declared.types.Ty.TheFolds.{fold-Ty}
use Rattle.snowcat_rows.specs.declared.types.Ty.TheOpen as ty
use Rattle.kernel_trees.specs.declared.kernel.Ker.{Ker}
use Rattle.kernel_trees.specs.declared.kernel.Ker.TheFolds.{fold-Ker}
use Rattle.kernel_trees.specs.declared.path.Assigned.{Assigned}
use Rattle.kernel_trees.specs.declared.path.AssignedStep.{AssignedStep}
use Rattle.kernel_trees.specs.declared.system.System.{System}
use Rattle.kernel_trees.specs.Assignments.{read_by}
use Rattle.expr_rewriter.specs.Rewriting.{own_texts}

-- the names of fields in a type; no value has an operator's type
abbrev pub field_layer : ty.Ty-F (List (List ℕ)) → List (List ℕ)
field_layer (ty.Set a) = a
field_layer (ty.Seq a) = a
field_layer (ty.Fun a b) = a ++ b
field_layer (ty.Tup as') = flat_map (λ xs. xs) as'
field_layer (ty.Rec fs r) = flat_map (λ f. f.0 ∷ f.1) fs
field_layer t = []

unfoldable pub field_names : Ty → List (List ℕ)
field_names = fold-Ty (List (List ℕ)) field_layer

-- the text constants of a tree, and the names of fields in its types
unfoldable pub tree_texts : Ker → List (List ℕ)
tree_texts = fold-Ker (List (List ℕ)) (λ x. own_texts x.op ++ (field_names x.ty ++ flat_map (λ xs. xs) x.args))

abbrev pub step_texts : AssignedStep → List (List ℕ)
step_texts z = flat_map tree_texts (read_by z)

abbrev pub path_texts : Assigned → List (List ℕ)
path_texts x = flat_map step_texts x.steps

abbrev pub all_texts : System → List (List ℕ)
all_texts s =
    flat_map tree_texts (s.ker.assume ∷ s.ker.invs) ++ flat_map path_texts (s.constants ++ (s.start ++ s.next))

-- each text of the second list is one of the first
abbrev pub are_among : List (List ℕ) → List (List ℕ) → Bool
are_among texts xs = list_all (λ x. list_any (same_text x) texts) xs
