use Rattle.std.proofs.Common.{ℕ, List, ◌++◌, ◌∙◌, ap, refl, subst}
use Rattle.kernel_trees.specs.declared.kernel.Ker.{Ker}
use Rattle.kernel_shapes.specs.declared.bounds.Shape.{Shape as Code}
use Rattle.path_bounds.specs.inner.Walking.{AreMembers}
use Rattle.path_bounds.proofs.Passing.{picked}
use Rattle.path_bounds.proofs.walk.Walk.pick.Goals as goal

pub returns : goal.returns
returns c =
    picked c.args.self.now _ c.args.sets.now c.in_ok-members.members.items
    (subst (λ (ps : List (ℕ × Ker)). AreMembers c.args.self.now ps c.in_ok-members.members.items) c.as_slice.ensures c.in_ok-members.ensures) refl refl refl refl
    (c.from_vec.ensures ∙ c.in_ok-append.ensures.items
    ∙ ap (λ (bs : List (ℕ × Code)). bs ++ c.in_ok-members.members.items) (c.into_vec-bound.ensures ∙ c.replace.ensures.value))
