use Rattle.std.proofs.Common.{rules, None}
use Rattle.kernel_reduction.specs.Infinite.{IsLeastIfAny}
use Rattle.kera_reducer.proofs.PartsMade.{kernel_built}
use Rattle.kera_reducer.proofs.SoundKernels.{kernel_is_sound}
use Rattle.kera_reducer.proofs.reducing.reduce.Goals as goal

pub returns-clause-built : goal.returns-clause-built
returns-clause-built c = kernel_built c.args.job.now c.args.typed.now c.in_ok-kernel.kernel c.in_ok-kernel.ensures

pub returns-clause-sound : goal.returns-clause-sound
returns-clause-sound c =
    let finite : IsLeastIfAny c.args.job.now None = search rules in
    kernel_is_sound c.args.job.now c.args.typed.now c.in_ok-kernel.kernel c.in_ok-kernel.ensures finite
