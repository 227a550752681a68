-- Where the way from a type to its root ends.
use Rattle.std.proofs.Common.{◌≡◌, ℕ, List, ap, ◌∙◌, sym, length}
use Rattle.snowcat_rows.specs.declared.types.Ty.{Ty, Var}
use Rattle.snowcat_rows.specs.Types.{Term, var, mean}
use Rattle.snowcat_rows.specs.Chains.{Binding, Chain, Occurs, solved, sub_of}
use Rattle.snowcat_rows.specs.Roots.{IsRoot}
use Rattle.snowcat_rows.specs.inner.Lookups.{type_at}
use Rattle.snowcat_rows.proofs.Lookups.{ClearTo, cleared_is, settled_is}
use Rattle.snowcat_rows.proofs.RowTheory.{solved_is}
use Rattle.snowcat_rows.proofs.Means.{mean-Var}
use Rattle.snowcat_rows.proofs.Roots.{var_of}

rooted : (bs : List Binding) (t r : Term) → solved bs r ≡ solved bs t → ((v : ℕ) → r ≡ var v → solved bs (var v) ≡ var v) → IsRoot (sub_of bs) t r
rooted bs t r e f = record {
  equal = sym (solved_is bs r) ∙ e ∙ solved_is bs t;
  last = λ v k. sym (solved_is bs (var v)) ∙ f v k;
}

same_var : (v w : ℕ) → var v ≡ var w → v ≡ w
same_var v w e = cc

-- at a variable that is bound to nothing
pub at_unbound : (bs : List Binding) (t r : Term) (v : ℕ) → Chain bs → r ≡ var v → type_at bs v ≡ var v → solved bs r ≡ solved bs t →
    IsRoot (sub_of bs) t r
at_unbound bs t r v c e h k =
    rooted bs t r k (λ w q. ap (λ x. solved bs (var x)) (same_var w v (sym q ∙ e)) ∙ settled_is bs (var v) c h ∙ ap var (same_var v w (sym e ∙ q)))

-- at what is no variable
pub at_form : (bs : List Binding) (t : Term) (r : Ty) → ((v : ℕ) → r ≡ Var v → ⊥) → solved bs (mean r) ≡ solved bs t → IsRoot (sub_of bs) t (mean r)
at_form bs t r n k = rooted bs t (mean r) k (λ v e. let w = var_of r v e in absurd (n w.0 w.1))

-- behind as many steps as there are bindings
pub at_last : (bs : List Binding) (t r : Term) (n : ℕ) → n ≡ length bs → ClearTo n bs (λ w. Occurs w r) → solved bs r ≡ solved bs t → IsRoot (sub_of bs) t r
at_last bs t r n e c k = rooted bs t r k (λ v q. ap (solved bs) (sym q) ∙ cleared_is bs r n e c ∙ q)

pub is_variable : (t : Ty) (v : ℕ) → t ≡ Var v → mean t ≡ var v
is_variable t v e = ap mean e ∙ mean-Var v
