-- What is computed has bounds along the path.
use Rattle.std.proofs.Common.{◌≡◌, ℕ, List, refl, sym, subst}
use Rattle.tla_meaning.specs.declared.place.Place.{Place}
use Rattle.kernel_trees.specs.declared.path.Assigned.{Assigned}
use Rattle.kernel_trees.specs.declared.path.AssignedStep.{AssignedStep}
use Rattle.kernel_shapes.specs.Levels.{Assigns}
use Rattle.kernel_shapes.specs.Sized.{Extent}
use Rattle.path_bounds.specs.BoundedPaths.{HasPathBounds, bounded_steps}
use Rattle.path_bounds.proofs.AlongPaths.{within_from}
use Rattle.path_bounds.proofs.SameEffects.{same_holds, same_meets, same_sets}
use Rattle.path_bounds.proofs.SameSteps.{nodes_stay, same_assigned, same_late, texts_stay}
use Rattle.path_bounds.proofs.StaysSound.{stays_sound}

abbrev path : Place → List AssignedStep → Assigned
path p zs = record { place = p; steps = zs }

made : (p : Place) (zs : List AssignedStep) (r : Assigned) → r.place ≡ p → r.steps ≡ zs → path p zs ≡ r
made p zs r e f = λ i. record { place = sym e i; steps = sym f i }

pub has_path_bounds : (w : ℕ) (a : Assigns) (x : Assigned) (g : Extent) (r : Assigned) → r.place ≡ x.place → r.steps ≡ bounded_steps w a x.steps g → HasPathBounds w a x g r
has_path_bounds w a x g r e f =
    subst (λ (y : Assigned). HasPathBounds w a x g y) (made x.place (bounded_steps w a x.steps g) r e f)
    (record {
      place = refl;
      steps = refl;
      holds = λ v s t vss sc. same_holds w a v s t x.steps g vss sc;
      meets = λ v s t vss sc q. same_meets w a v s t x.steps g vss sc q;
      has_sets = λ v s t sc. same_sets w a v s t x.steps g sc;
      assigned = same_assigned w a x.steps g;
      late = λ m before. same_late w a m before x.steps g;
      nodes = λ test n. nodes_stay w a test n x.steps g;
      texts = λ xs. texts_stay w a xs x.steps g;
      stays_sound = λ names c. stays_sound w a names c x.steps g;
      within = λ names m s t wide h l b k. within_from a w names m s t x.steps g wide h l b k;
    })

-- for each extent that the shapes stand for
pub each_has_path_bounds : (w : ℕ) (a : Assigns) (x r : Assigned) (P : Extent → Type 0) → r.place ≡ x.place →
    ((g : Extent) → P g → r.steps ≡ bounded_steps w a x.steps g) → (g : Extent) → P g → HasPathBounds w a x g r
each_has_path_bounds w a x r P e f g h = has_path_bounds w a x g r e (f g h)
