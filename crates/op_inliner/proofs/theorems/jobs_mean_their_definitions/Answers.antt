use Rattle.op_inliner.proofs.Answered.{job_told}
use Rattle.op_inliner.proofs.theorems.jobs_mean_their_definitions.Goals as goal

pub returns : goal.returns
returns c = λ flat init next cinit invs job known h. job_told flat known init next cinit invs job h
