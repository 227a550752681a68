use Rattle.flat_modules.proofs.LearningLemmas.{definition_told}
use Rattle.flat_modules.proofs.resolving.Resolving.tell_definition.Goals as goal

pub returns : goal.returns
returns c =
    definition_told c.body.new.self c.args.entry.now c.args.d.now c.body.result c.as_slice.ensures c.as_slice-2.ensures c.own-own.ensures
    c.in_ok-tell_repeated.ensures c.in_ok-tell_parameters.ensures c.body.ensures
