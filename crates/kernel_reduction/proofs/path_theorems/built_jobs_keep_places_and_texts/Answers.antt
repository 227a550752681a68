use Rattle.kernel_reduction.proofs.BuiltJobs.{keeps_job_places, keeps_job_texts}
use Rattle.kernel_reduction.proofs.path_theorems.built_jobs_keep_places_and_texts.Goals as goal

pub returns-clause-places : goal.returns-clause-places
returns-clause-places c = keeps_job_places

pub returns-clause-texts : goal.returns-clause-texts
returns-clause-texts c = keeps_job_texts
