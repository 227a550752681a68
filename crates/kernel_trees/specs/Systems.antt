-- Sound jobs and systems: besides sound trees and paths, constants stand before variables, the texts differ, and each text
-- that stands in a tree is one of them. Source: Specifying Systems, section 16.1.10, for texts; the Apalache manual, "Type
-- System 1.2: Type annotations".
use Rattle.std.specs.Prelude.{ℕ, Bool, true, false, not, ◌&&◌, ◌==◌, List, [], ◌∷◌, map, flat_map, length, Option}
use Rattle.std.specs.List.{list_all, list_any}
use Rattle.tla_values.specs.Order.{Layer}
use Rattle.tla_values.specs.declared.value.Value.{Value}
use Rattle.tla_values.specs.declared.value.Value.TheOpen as layer
use Rattle.tla_meaning.specs.Scopes.{same_text}
use Rattle.kernel_trees.specs.declared.kernel.Ker.{Ker}
use Rattle.kernel_trees.specs.declared.kernel.Ker.TheFolds.{fold-Ker}
use Rattle.kernel_trees.specs.declared.path.AssignedStep.{AssignedStep}
use Rattle.kernel_trees.specs.declared.path.Assigned.{Assigned}
use Rattle.kernel_trees.specs.declared.system.KerJob.{KerJob}
use Rattle.kernel_trees.specs.declared.system.System.{System}
use Rattle.snowcat_rows.specs.TypeTexts.{are_distinct}
use Rattle.kernel_trees.specs.TypeKinds.{Kind, Truth, is_kind, all_there, kind_of}
use Rattle.kernel_trees.specs.Assignments.{assigned_by, read_by}
use Rattle.kernel_trees.specs.Scoped.{differ}
use Rattle.kernel_trees.specs.Sound.{kind_at, passes, literal_of, sound_tree, sound_assigned}

-- the kinds of the names, where each type has one
abbrev pub kinds_of_names : KerJob → Option (List Kind)
kinds_of_names k = all_there (map kind_of k.names)

-- ---- texts

abbrev pub one_of : List (List ℕ) → Layer Value → Bool
one_of texts (layer.Text x) = list_any (same_text x) texts
one_of texts l = true

-- whether each text constant of a tree is one of these
unfoldable pub texts_within : List (List ℕ) → Ker → Bool
texts_within texts = fold-Ker Bool (λ x. one_of texts (literal_of x.op) && list_all (λ b. b) x.args)

-- ---- jobs

-- no constant behind a variable
abbrev pub constants_first : List Bool → Bool
constants_first [] = true
constants_first (true ∷ bs) = constants_first bs
constants_first (false ∷ bs) = list_all not bs

abbrev pub parts : KerJob → List Ker
parts k = k.cinit ∷ k.assume ∷ k.init ∷ k.next ∷ k.invs

-- a part is a truth value, and binds no number again where it is bound
abbrev pub sound_part : List Kind → List (List ℕ) → Ker → Bool
sound_part names texts p = (is_kind Truth (kind_at p) && sound_tree names p [] false) && texts_within texts p

abbrev pub sound_job : KerJob → Bool
sound_job k =
    ((length k.names == length k.fixed && constants_first k.fixed) && are_distinct k.texts)
    && passes (λ names. list_all (sound_part names k.texts) (parts k)) (kinds_of_names k)

-- ---- systems

abbrev pub texts_on : List (List ℕ) → List AssignedStep → Bool
texts_on texts = list_all (λ z. list_all (texts_within texts) (read_by z))

-- a path assigns no name twice
abbrev pub assigns_once : List AssignedStep → Bool
assigns_once zs = differ (flat_map assigned_by zs)

abbrev pub sound_paths : List Kind → List (List ℕ) → List Assigned → Bool
sound_paths names texts =
    list_all (λ x. (sound_assigned names [] x.steps && assigns_once x.steps) && texts_on texts x.steps)

abbrev pub sound_system : System → Bool
sound_system s =
    sound_job s.ker
    && passes (λ names.
    sound_paths names s.ker.texts s.constants && (sound_paths names s.ker.texts s.start && sound_paths names s.ker.texts s.next))
    (kinds_of_names s.ker)
