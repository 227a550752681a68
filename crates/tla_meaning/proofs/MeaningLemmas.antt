-- The equations of the meaning.
use Rattle.std.proofs.Common.{◌≡◌, Bool, map, length, ap}
use Rattle.tla_values.specs.declared.value.Value.{Value}
use Rattle.tla_meaning.specs.declared.expr.Expr.{Expr, out-Expr, roll-Expr}
use Rattle.tla_meaning.specs.declared.expr.Expr.TheOpen.{Expr-F}
use Rattle.tla_meaning.specs.declared.expr.Expr.TheFolds.{fold-roll-Expr, fold_out-Expr, map-Expr}
use Rattle.tla_meaning.specs.declared.forms.SetForm.{SetForm, out-SetForm}
use Rattle.tla_meaning.specs.declared.forms.SetForm.TheFolds.{fold_out-SetForm, map-SetForm}
use Rattle.tla_meaning.specs.declared.job.State.{State}
use Rattle.tla_meaning.specs.Folds.{lambda_at, with_lambdas}
use Rattle.tla_meaning.specs.Forms.{belongs, part_belongs}
use Rattle.tla_meaning.specs.Numbers.{Width}
use Rattle.tla_meaning.specs.Scopes.{Scope}
use Rattle.tla_meaning.specs.Meaning.{Meaning, role, view}
use Rattle.tla_meaning.specs.Actions.{meaning, node, val, denotation_of}

-- the meaning of an expression, by its node and the meanings of its children
pub meaning-out : (w : Width) (e : Expr) → meaning w e ≡ node w (map-Expr Expr Meaning (meaning w) (out-Expr e))
unfolding meaning
meaning-out w e = fold_out-Expr Meaning (node w) e

pub meaning-roll : (w : Width) (x : Expr-F Expr) → meaning w (roll-Expr x) ≡ node w (map-Expr Expr Meaning (meaning w) x)
unfolding meaning
meaning-roll w x = fold-roll-Expr Meaning (node w) x

pub val-roll : (w : Width) (x : Expr-F Expr) (sc : Scope) (s t : State) →
    val w (roll-Expr x) sc s t ≡ (denotation_of w x.place x.op (length x.binds) (view x.place (role x.op (length x.binds)) x.binds (map (meaning w) x.args) sc)).value s t
val-roll w x sc s t = ap (λ (m : Meaning). (m sc).value s t) (meaning-roll w x)

pub denotation-roll : (w : Width) (x : Expr-F Expr) (sc : Scope) → meaning w (roll-Expr x) sc ≡ denotation_of w x.place x.op (length x.binds) (view x.place (role x.op (length x.binds)) x.binds (map (meaning w) x.args) sc)
denotation-roll w x sc = ap (λ m. m sc) (meaning-roll w x)

-- what belongs to a form, by what belongs to its parts
pub belongs-out : (f : SetForm) (v : Value) → belongs f v ≡ part_belongs (map-SetForm SetForm (Value → Bool) belongs (out-SetForm f)) v
unfolding belongs
belongs-out f v = ap (λ (b : Value → Bool). b v) (fold_out-SetForm (Value → Bool) part_belongs f)

pub with_lambdas-roll : (x : Expr-F Expr) → with_lambdas (roll-Expr x) ≡ lambda_at x.place x.op x.binds (map with_lambdas x.args)
unfolding with_lambdas
with_lambdas-roll x = fold-roll-Expr Expr (λ y. lambda_at y.place y.op y.binds y.args) x
