use Rattle.kernel_reduction.proofs.SoundJobs.{parts_are_sound}
use Rattle.kernel_reduction.proofs.SoundTexts.{texts_are_within}
use Rattle.kernel_reduction.proofs.TypedBuilt.{built_beside}
use Rattle.kernel_reduction.proofs.sound_theorems.built_jobs_are_sound.Goals as goal

pub returns-clause-sound : goal.returns-clause-sound
returns-clause-sound c = parts_are_sound

pub returns-clause-texts : goal.returns-clause-texts
returns-clause-texts c = texts_are_within

pub returns-clause-built : goal.returns-clause-built
returns-clause-built c = built_beside
