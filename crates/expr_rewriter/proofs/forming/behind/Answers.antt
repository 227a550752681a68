use Rattle.std.proofs.Common.{◌-◌, length}
use Rattle.expr_rewriter.proofs.FormFaults.{most-part}
use Rattle.expr_rewriter.proofs.forming.behind.Goals as goal

pub returns-clause-deep : goal.returns-clause-deep
returns-clause-deep c = λ f. most-part f (length c.args.es.now - c.args.place) c.args.place c.args.es.now
