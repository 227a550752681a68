use Rattle.kernel_reduction.proofs.BuiltJobs.{keeps_job_paths, keeps_job_reads, keeps_outcomes}
use Rattle.kernel_reduction.proofs.path_theorems.built_jobs_keep_outcomes_and_paths.Goals as goal

pub returns-clause-outcomes : goal.returns-clause-outcomes
returns-clause-outcomes c = keeps_outcomes

pub returns-clause-paths : goal.returns-clause-paths
returns-clause-paths c = keeps_job_paths

pub returns-clause-reads : goal.returns-clause-reads
returns-clause-reads c = keeps_job_reads
