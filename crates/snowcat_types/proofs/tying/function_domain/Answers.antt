use Rattle.std.proofs.Common.{◌∷◌, [], ◌∙◌, ap}
use Rattle.snowcat_rows.specs.declared.types.Ty.{Var}
use Rattle.snowcat_rows.specs.Types.{var}
use Rattle.snowcat_rows.proofs.Means.{mean-Var}
use Rattle.snowcat_types.specs.Requirements.{Equal}
use Rattle.snowcat_types.specs.TypeForms.{fun_type, set_type}
use Rattle.snowcat_types.proofs.Tied.{more_equal}
use Rattle.snowcat_types.proofs.tying.function_domain.Goals as goal

pub returns : goal.returns
returns c =
    more_equal c.in_ok-asked.asked.items c.push.new.self.items (Equal (var c.args.whole) (fun_type (var c.args.argument) (var c.args.value)) ∷ []) c.in_ok-arguments.arguments (Var c.args.domain)
    (set_type (var c.args.argument)) (var c.args.domain) c.in_ok-push.ensures.items (c.in_ok-arguments.ensures.mean ∙ ap set_type (mean-Var c.args.argument)) (mean-Var c.args.domain) c.in_ok-asked.ensures
