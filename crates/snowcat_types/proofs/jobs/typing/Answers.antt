use Rattle.std.proofs.Common.{subst, sym}
use Rattle.snowcat_types.specs.Systems.{System}
use Rattle.snowcat_types.specs.inner.Gathered.{annotations_of}
use Rattle.snowcat_types.specs.inner.Runs.{IsFitting}
use Rattle.snowcat_types.proofs.Fitted.{fitting}
use Rattle.snowcat_types.proofs.jobs.typing.Goals as goal

pub types_of-requires-clause-fitting : goal.types_of-requires-clause-fitting
types_of-requires-clause-fitting c =
    let P : System → Type 0 = λ z. IsFitting z in
    subst P (sym c.in_ok-system.ensures.system)
    (fitting c.args.job.now (annotations_of c.in_ok-told.told) c.in_ok-told.ensures.told c.requires.typable)
