use Rattle.step_encoder.specs.inner.Asked.{names_of}
use Rattle.step_encoder.proofs.stepping.next_level.Given as goal

abbrev pub ghost-step_part : goal.ghost-step_part
ghost-step_part a = names_of a.system.now
