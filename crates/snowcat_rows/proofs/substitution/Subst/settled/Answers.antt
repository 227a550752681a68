use Rattle.std.proofs.Common.{ap, ◌∙◌}
use Rattle.snowcat_rows.specs.Chains.{sub_of}
use Rattle.snowcat_rows.specs.Codes.{bindings_of}
use Rattle.snowcat_rows.proofs.substitution.Subst.settled.Goals as goal

pub returns : goal.returns
returns c = c.in_ok-settled.ensures ∙ ap (λ l. sub_of (bindings_of l)) c.as_slice.ensures.value
