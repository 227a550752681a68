-- Whether a tree holds a name that may be assigned, by its node.
use Rattle.std.proofs.Common.{◌≡◌, ℕ, Bool, ◌||◌, List, [], ◌∷◌, map, refl, sym, ◌∙◌, ap, subst}
use Rattle.std.specs.List.{list_any}
use Rattle.tla_meaning.specs.declared.actions.Assignable.{Assignable}
use Rattle.tla_meaning.specs.declared.expr.Expr.{Expr, out-Expr, roll-out-Expr}
use Rattle.tla_meaning.specs.declared.op.Op.{Op}
use Rattle.tla_meaning.specs.declared.op.Op.TheVariants as op
use Rattle.tla_meaning.specs.Actions.{counts}
use Rattle.kernel_reduction.specs.Reduction.{any_mentioned, mentioned, mentioned_at}
use Rattle.kernel_reduction.proofs.Mentioned.{mentioned-roll}

mentioned_out : (m : Assignable) (e : Expr) →
    mentioned m e ≡ mentioned_at m (out-Expr e).op (map (mentioned m) (out-Expr e).args)
mentioned_out m e =
    subst (λ (t : Expr). mentioned m t ≡ mentioned_at m (out-Expr e).op (map (mentioned m) (out-Expr e).args))
    (roll-out-Expr e)
    (mentioned-roll m (out-Expr e))

any_map : (f : Expr → Bool) (es : List Expr) → list_any (λ b. b) (map f es) ≡ list_any f es
any_map f [] = refl
any_map f (e ∷ es) = ap (λ b. f e || b) (any_map f es)

pub mentioned_name : (m : Assignable) (e : Expr) (i : ℕ) (primed : Bool) → (out-Expr e).op ≡ op.Name i primed →
    mentioned m e ≡ counts m i primed
mentioned_name m e i primed h =
    mentioned_out m e ∙ ap (λ (o : Op). mentioned_at m o (map (mentioned m) (out-Expr e).args)) h

pub mentioned_below : (m : Assignable) (e : Expr) → ((i : ℕ) (primed : Bool) → (out-Expr e).op ≡ op.Name i primed → ⊥) →
    any_mentioned m (out-Expr e).args ≡ mentioned m e
mentioned_below m e h =
    sym (any_map (mentioned m) (out-Expr e).args) ∙ sym (at_node (out-Expr e).op h) ∙ sym (mentioned_out m e)
  where
    at_node : (o : Op) → ((i : ℕ) (primed : Bool) → o ≡ op.Name i primed → ⊥) →
        mentioned_at m o (map (mentioned m) (out-Expr e).args) ≡ list_any (λ b. b) (map (mentioned m) (out-Expr e).args)
    at_node (op.Name i primed) h = absurd (h i primed refl)
    at_node o h = refl
