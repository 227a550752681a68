use Rattle.std.proofs.Common.{◌∷◌, [], ◌∙◌, ap}
use Rattle.snowcat_rows.specs.declared.types.Ty.{Int, Var}
use Rattle.snowcat_rows.specs.Types.{mean, var}
use Rattle.snowcat_rows.proofs.Means.{mean-Int, mean-Var}
use Rattle.snowcat_types.specs.Requirements.{Equal}
use Rattle.snowcat_types.specs.TypeForms.{int_type, seq_type}
use Rattle.snowcat_types.proofs.Tied.{equal_both, more_equal}
use Rattle.snowcat_types.proofs.tying.sequence_applied.Goals as goal

pub returns : goal.returns
returns c =
    more_equal c.in_ok-asked.asked.items c.push.new.self.items (Equal (var c.args.whole) (seq_type (var c.args.part)) ∷ []) Int (Var c.args.index) int_type (var c.args.index)
    c.in_ok-push.ensures.items mean-Int (mean-Var c.args.index)
    (c.in_ok-asked.ensures ∙ equal_both (mean (Var c.args.whole)) (mean c.in_ok-of.of) (var c.args.whole) (seq_type (var c.args.part)) (mean-Var c.args.whole) (c.in_ok-of.ensures ∙ ap seq_type (mean-Var c.args.part)))
