use Rattle.std.proofs.Common.{◌∙◌}
use Rattle.fault_places.proofs.PlacingLemmas.{below_then}
use Rattle.fault_places.proofs.placing.+is_below.Goals as goal

pub is_below-returns-then-e-files : goal.is_below-returns-then-e-files
is_below-returns-then-e-files t c =
    c.are_below.ensures ∙ below_then c.args.files c.args.e.now _ c.as_slice.ensures c.if-e-files.true
