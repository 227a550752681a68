use Rattle.snowcat_rows.specs.declared.types.Ty.{Var}
use Rattle.snowcat_rows.specs.Types.{var}
use Rattle.snowcat_rows.proofs.Means.{mean-Var}
use Rattle.snowcat_types.specs.Requirements.{Equal}
use Rattle.snowcat_types.specs.TypeForms.{seq_type}
use Rattle.snowcat_types.proofs.Tied.{next_equal}
use Rattle.snowcat_types.proofs.tying.sequence_tied.Goals as goal

pub loop-i-preserved : goal.loop-i-preserved
loop-i-preserved c =
    next_equal c.args.first c.loop-i.i (var c.args.item) c.loop-i.asked.items c.push.new.self.items (Equal (var c.args.whole) (seq_type (var c.args.item))) (Var c.args.item) c.in_ok-part.part
    c.in_ok-push.ensures.items (mean-Var c.args.item) c.in_ok-part.ensures c.loop-i.invariant
