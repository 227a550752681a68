-- The texts of a tree are those of its children.
use Rattle.std.proofs.Common.{◌≡◌, ℕ, Bool, ◌&&◌, IsTrue, List, [], ◌∷◌, map, refl, sym, ◌∙◌}
use Rattle.std.specs.List.{list_all}
use Rattle.tla_meaning.proofs.Views.{and_both, and_left, and_right}
use Rattle.kernel_trees.specs.declared.kernel.Ker.{Ker, roll-Ker}
use Rattle.kernel_trees.specs.declared.kernel.Ker.TheOpen.{Ker-F}
use Rattle.kernel_trees.specs.declared.kernel.Ker.TheFolds.{fold-roll-Ker}
use Rattle.kernel_trees.specs.declared.path.AssignedStep.{AssignedStep}
use Rattle.kernel_trees.specs.Assignments.{read_by}
use Rattle.kernel_trees.specs.Sound.{literal_of}
use Rattle.kernel_trees.specs.Systems.{one_of, texts_on, texts_within}
use Rattle.kernel_trees.proofs.Trees.{Each}
use Rattle.accepted_systems.proofs.AlongPaths.{GoesDown, MarkHas}

module _ (texts : List (List ℕ)) where
  abbrev pub HasTexts : Ker → Type 0
  HasTexts k = IsTrue (texts_within texts k)

  texts-roll : (x : Ker-F Ker) → texts_within texts (roll-Ker x) ≡
      (one_of texts (literal_of x.op) && list_all (λ b. b) (map (texts_within texts) x.args))
  unfolding texts_within
  texts-roll x = fold-roll-Ker Bool (λ x. one_of texts (literal_of x.op) && list_all (λ b. b) x.args) x

  each_within : (ks : List Ker) → IsTrue (list_all (λ b. b) (map (texts_within texts) ks)) → Each HasTexts ks
  each_within [] h = tt
  each_within (k ∷ ks) h =
      let rest : Bool = list_all (λ b. b) (map (texts_within texts) ks) in
      (and_left (texts_within texts k) rest h, each_within ks (and_right (texts_within texts k) rest h))

  pub texts_down : GoesDown HasTexts
  texts_down x e h =
      each_within x.args (and_right (one_of texts (literal_of x.op))
      (list_all (λ b. b) (map (texts_within texts) x.args)) (sym (texts-roll x) ∙ h))

  all_within : (ks : List Ker) → Each HasTexts ks → IsTrue (list_all (texts_within texts) ks)
  all_within [] h = refl
  all_within (k ∷ ks) h = and_both (texts_within texts k) (list_all (texts_within texts) ks) h.0 (all_within ks h.1)

  pub steps_within : (zs : List AssignedStep) → Each (MarkHas HasTexts) zs → IsTrue (texts_on texts zs)
  steps_within [] h = refl
  steps_within (z ∷ zs) h = and_both (list_all (texts_within texts) (read_by z)) (texts_on texts zs)
      (all_within (read_by z) h.0) (steps_within zs h.1)
