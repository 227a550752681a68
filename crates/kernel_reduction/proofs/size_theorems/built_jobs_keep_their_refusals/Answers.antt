use Rattle.kernel_reduction.proofs.SizedJobs.{keeps_job_refusals, keeps_job_shapes, keeps_typed_refusals}
use Rattle.kernel_reduction.proofs.size_theorems.built_jobs_keep_their_refusals.Goals as goal

pub returns-clause-shapes : goal.returns-clause-shapes
returns-clause-shapes c = keeps_job_shapes

pub returns-clause-refusals : goal.returns-clause-refusals
returns-clause-refusals c = keeps_job_refusals

pub returns-clause-typed : goal.returns-clause-typed
returns-clause-typed c = keeps_typed_refusals
