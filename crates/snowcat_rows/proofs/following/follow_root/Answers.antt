use Rattle.std.proofs.Common.{◌∙◌, ◌+◌, sym, ap, arith}
use Rattle.std.proofs.lemmas.List.{length-map}
use Rattle.snowcat_rows.specs.Types.{mean}
use Rattle.snowcat_rows.specs.Substitutions.{apply}
use Rattle.snowcat_rows.specs.inner.Lookups.{looked}
use Rattle.snowcat_rows.specs.Codes.{binding, bindings_of}
use Rattle.snowcat_rows.proofs.Lookups.{one_pass}
use Rattle.snowcat_rows.proofs.Rooted.{at_form, at_last, at_unbound, is_variable}
use Rattle.snowcat_rows.proofs.following.follow_root.Goals as goal

pub returns-in-None : goal.returns-in-None
returns-in-None c =
    at_unbound (bindings_of c.args.bindings.now) (mean c.args.t.now) (mean c.loop-step.current.now) c.in-Var.v c.requires.chain (is_variable c.loop-step.current.now c.in-Var.v c.in-Var.is)
    c.in-None.ensures.mean c.loop-step.invariant.0

pub returns-in_default : goal.returns-in_default
returns-in_default c = at_form (bindings_of c.args.bindings.now) (mean c.args.t.now) c.loop-step.current.now c.in_default.not-Var c.loop-step.invariant.0

pub loop-step-preserved : goal.loop-step-preserved
loop-step-preserved c =
    one_pass (bindings_of c.args.bindings.now) c.loop-step.step (c.loop-step.step + 1) (mean c.loop-step.current.now) _ (mean c.args.t.now) c.requires.chain
    (sym c.in-Some.ensures.mean ∙ ap (apply (looked (bindings_of c.args.bindings.now))) (sym (is_variable c.loop-step.current.now c.in-Var.v c.in-Var.is))) (omega arith)
    c.loop-step.invariant.0 c.loop-step.invariant.1

pub returns : goal.returns
returns c =
    at_last (bindings_of c.args.bindings.now) (mean c.args.t.now) (mean c.loop-step.current.now) c.loop-step.step (omega (arith, length-map c.args.bindings.now binding)) c.loop-step.invariant.1 c.loop-step.invariant.0
