-- What is built on the paths of an action binds the numbers of names around: as many as are bound there, and before.
use Rattle.std.proofs.Common.{◌≡◌, ℕ, suc, List, [], ◌∷◌, ◌++◌, length, Option, Some, refl, sym, ◌∙◌, ap}
use Rattle.tla_meaning.specs.declared.actions.Assignable.{Assignable}
use Rattle.tla_meaning.specs.declared.expr.Expr.{Expr}
use Rattle.tla_meaning.specs.declared.op.Op.{Op}
use Rattle.tla_meaning.specs.declared.place.Place.{Place}
use Rattle.kernel_trees.specs.declared.kernel.Ker.{Ker}
use Rattle.kernel_reduction.specs.Reduction.{Numbering, numbered, upward}
use Rattle.kernel_reduction.specs.Builds as rows
use Rattle.kernel_reduction.specs.Builds.{Builds, BuildsEach, BuildsArms, BuildsNode}
use Rattle.kernel_reduction.proofs.Counting.{long_snoc}

abbrev mutual
  pub Levelled : {i : Option Assignable} {ρ : Numbering} {e : Expr} {k : Ker} → Builds i ρ e k → Type 0
  Levelled (rows.at_node i ρ e k b) = LevelledNode b

  pub LevelledEach : {i : Option Assignable} {ρ : Numbering} {es : List Expr} {ks : List Ker} → BuildsEach i ρ es ks → Type 0
  LevelledEach (rows.none_left i ρ) = Unit {0}
  LevelledEach (rows.one_more i ρ e k es ks b bs) = Levelled b × LevelledEach bs

  pub LevelledArms : {m : Assignable} {ρ : Numbering} {es : List Expr} {ys : List (Ker × Ker)} {o : Option Ker} → BuildsArms m ρ es ys o → Type 0
  LevelledArms (rows.no_arms m ρ) = Unit {0}
  LevelledArms (rows.other_arm m ρ e k b) = Levelled b
  LevelledArms (rows.one_arm m ρ c e g k es xs o a b d) = Levelled b × LevelledArms d

  pub LevelledNode : {i : Option Assignable} {ρ : Numbering} {p : Place} {o : Op} {es : List Expr} {xs : List (List ℕ)} {k : Ker} → BuildsNode i ρ p o es xs k → Type 0
  LevelledNode (rows.noted i ρ p x es xs k b) = LevelledEach b
  LevelledNode (rows.conjunction m ρ p es xs a ks b) = LevelledEach b
  LevelledNode (rows.disjunction m ρ p es xs a ks b) = LevelledEach b
  LevelledNode (rows.choice m ρ p es xs a ks bs ns h b c) = (ns ≡ upward (length ρ) (length xs)) × LevelledEach c
  LevelledNode (rows.branches m ρ p c es xs a d g k l f b e) = LevelledEach e
  LevelledNode (rows.split_cases m ρ p other es xs a ys o f b) = LevelledArms b
  LevelledNode b = Unit {0}

-- numberings of one length stay so
pub numbered_long : (xs : List (List ℕ)) (ns : List ℕ) (τ ρ : Numbering) → length τ ≡ length ρ → length (numbered xs ns τ) ≡ length (numbered xs ns ρ)
numbered_long [] ns τ ρ h = h
numbered_long (x ∷ xs) [] τ ρ h = h
numbered_long (x ∷ xs) (n ∷ ns) τ ρ h =
    numbered_long xs ns (τ ++ (x, n) ∷ []) (ρ ++ (x, n) ∷ []) (long_snoc τ (x, n) ∙ ap suc h ∙ sym (long_snoc ρ (x, n)))
