use Rattle.std.proofs.Common.{◌≡◌, drop}
use Rattle.tla_evaluator.proofs.Words.{Text, apply}
use Rattle.tla_evaluator.proofs.forms.field_of.Given as goal

abbrev pub invariant-loop-argument : goal.invariant-loop-argument
invariant-loop-argument l =
    apply l.pairs (Text l.name) ≡ apply (drop l.argument-index l.pairs) (Text l.name)
