-- Whether a tree holds a name that counts, by its node.
use Rattle.std.proofs.Common.{◌≡◌, ℕ, Bool, true, ◌&&◌, ◌||◌, List, [], ◌∷◌, map, refl, ap, ◌∙◌, sym}
use Rattle.tla_evaluator.proofs.Words.{Assignable, Expr, Op, fold_out-Expr, list_any, out-Expr}
use Rattle.tla_meaning.specs.declared.op.Op.TheVariants as op
use Rattle.tla_evaluator.specs.Trees.{is_expanded_op}
use Rattle.tla_evaluator.specs.inner.Mentions.{mentioned_at, mentions}

any_same : (m : Assignable) (es : List Expr) → list_any (λ k. k) (map (mentions m) es) ≡ list_any (mentions m) es
any_same m [] = refl
any_same m (e ∷ es) = ap (λ b. mentions m e || b) (any_same m es)

inner_at : (m : Assignable) (o : Op) (ks : List Bool) → ((i : ℕ) (primed : Bool) → o ≡ op.Name i primed → ⊥) → is_expanded_op o ≡ true →
    mentioned_at m o ks ≡ list_any (λ k. k) ks
inner_at m (op.Name i primed) ks h k = absurd (h i primed refl)
inner_at m o ks h k = ap (λ b. b && list_any (λ k. k) ks) k

-- a node that is_expanded_op and is no name holds one where a child does
pub mentions_inner : (m : Assignable) (e : Expr) (es : List Expr) → es ≡ (out-Expr e).args → ((i : ℕ) (primed : Bool) → (out-Expr e).op ≡ op.Name i primed → ⊥) →
    is_expanded_op (out-Expr e).op ≡ true → list_any (mentions m) es ≡ mentions m e
mentions_inner m e es same h k =
    ap (list_any (mentions m)) same
    ∙ sym (fold_out-Expr Bool (λ x. mentioned_at m x.op x.args) e
    ∙ inner_at m (out-Expr e).op (map (mentions m) (out-Expr e).args) h k ∙ any_same m (out-Expr e).args)
