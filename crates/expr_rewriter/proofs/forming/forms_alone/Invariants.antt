use Rattle.std.proofs.Common.{◌≡◌, map}
use Rattle.expr_rewriter.proofs.forming.forms_alone.Given as goal

abbrev pub invariant-loop-part : goal.invariant-loop-part
invariant-loop-part l = l.forms.items ≡ map (λ x. x.form) l.yielded
