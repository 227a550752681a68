use Rattle.std.proofs.Common.{◌≡◌, ◌∷◌}
use Rattle.snowcat_rows.specs.Types.{var}
use Rattle.snowcat_types.specs.Requirements.{Equal}
use Rattle.snowcat_types.specs.TypeForms.{seq_type}
use Rattle.snowcat_types.specs.Waiting.{all_equal, items_from}
use Rattle.snowcat_types.specs.inner.Gathered.{requirements_of}
use Rattle.snowcat_types.proofs.tying.sequence_tied.Given as goal

abbrev pub invariant-loop-i : goal.invariant-loop-i
invariant-loop-i l = requirements_of l.asked.items ≡ Equal (var l.whole) (seq_type (var l.item)) ∷ all_equal (var l.item) (items_from l.first l.i)
