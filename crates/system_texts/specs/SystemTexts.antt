-- The texts that cells of a system may stand for. Source: Konnov, Kukovec and Tran, "TLA+ Model Checking Made Symbolic",
-- OOPSLA 2019, on cells of uninterpreted constants; the Apalache manual, "Type System 1.2", for the texts of fields.
use Rattle.std.specs.Prelude.{ℕ, Bool, IsTrue, List, [], ◌∷◌, ◌++◌, map}
use Rattle.std.specs.List.{list_all}
use Rattle.tla_values.specs.Sets.{member}
use Rattle.tla_values.specs.declared.value.Value.TheVariants as value
use Rattle.snowcat_rows.specs.declared.types.Ty.{Ty}
use Rattle.kernel_trees.specs.declared.kernel.KerOp.{KerOp}
use Rattle.kernel_trees.specs.declared.path.AssignedStep.{AssignedStep}
use Rattle.kernel_trees.specs.declared.system.System.{System}
use Rattle.kernel_trees.specs.declared.kernel.Ker.{Ker}
use Rattle.kernel_trees.specs.TypeKinds.{kind_of}
use Rattle.shape_bounds.specs.BoundedTrees.{each_node}
use Rattle.path_bounds.specs.BoundedPaths.{nodes_on}
use Rattle.typed_cells.specs.Known.{IsTextAmong}
use Rattle.expr_rewriter.specs.Rewriting.{own_texts, type_texts}

-- each text of a node, a constant or the name of a field of its type, is one of these
abbrev pub is_textual : List (List ℕ) → KerOp → Ty → Bool
is_textual texts o t =
    list_all (λ x. member (value.Text x) (map (λ y. value.Text y) texts)) (own_texts o ++ type_texts (kind_of t))

-- the empty text, and each text of a tree, is one of these
pub record HasTreeTexts (texts : List (List ℕ)) (k : Ker) : Type 0 where
  pub empty : IsTextAmong texts []
  pub nodes : IsTrue (each_node (is_textual texts) k)

-- likewise of the trees of a path
pub record HasPathTexts (texts : List (List ℕ)) (zs : List AssignedStep) : Type 0 where
  pub empty : IsTextAmong texts []
  pub nodes : IsTrue (nodes_on (is_textual texts) zs)

-- likewise of the assumption, the invariants and the paths of a system
pub record HasSystemTexts (texts : List (List ℕ)) (s : System) : Type 0 where
  pub empty : IsTextAmong texts []
  pub trees : IsTrue (list_all (each_node (is_textual texts)) (s.ker.assume ∷ s.ker.invs))
  pub paths : IsTrue (list_all (λ x. nodes_on (is_textual texts) x.steps) (s.constants ++ (s.start ++ s.next)))
