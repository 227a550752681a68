use Rattle.snowcat_rows.specs.Types.{mean}
use Rattle.snowcat_rows.specs.Views.{stands_for}
use Rattle.snowcat_types.proofs.RootKinds.{formed_at, leads_to}
use Rattle.snowcat_types.proofs.deciding.lead.Goals as goal

pub returns-in-Var : goal.returns-in-Var
returns-in-Var c = leads_to (stands_for c.args.subst.now) (mean c.args.t.now) c.root.result.now c.root.ensures c.in-Var.variable c.in-Var.is

pub returns-in_default : goal.returns-in_default
returns-in_default c = formed_at (stands_for c.args.subst.now) (mean c.args.t.now) c.root.result.now c.root.ensures c.in_default.not-Var
