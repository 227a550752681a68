use Rattle.step_encoder.specs.inner.Asked.{names_of}
use Rattle.step_encoder.proofs.starting.first_level.Given as goal

abbrev pub ghost-constants_part : goal.ghost-constants_part
ghost-constants_part a = names_of a.system.now

abbrev pub ghost-start_part : goal.ghost-start_part
ghost-start_part a = names_of a.system.now
