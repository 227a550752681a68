use Rattle.std.proofs.Common.{subst}
use Rattle.tla_meaning.specs.declared.job.Job.{Job}
use Rattle.op_inliner.specs.Answers.{Answer, IsAnswered, job_answer}
use Rattle.op_inliner.specs.inner.Sums.{scope_of}
use Rattle.op_inliner.proofs.ExpandSteps.{assumed_count_is, job_means}
use Rattle.op_inliner.proofs.expanding.job_of.Goals as goal

pub job-requires-clause-nodes : goal.job-requires-clause-nodes
job-requires-clause-nodes c =
    assumed_count_is c.args.flat.now c.in_ok-assumptions.assumptions (scope_of c.in_ok-counts.counts.items) c.as_slice-defs.result.now c.in_ok-nodes.nodes c.requires.known c.as_slice-defs.ensures
    c.in_ok-assumptions.ensures c.in_ok-counts.ensures c.in_ok-nodes.ensures.counted

pub returns-clause-means : goal.returns-clause-means
returns-clause-means c =
    job_means c.args.flat.now c.args.init.now c.args.next.now _ c.args.invs.now c.job.result c.requires.known
    (subst (λ (a : Answer Job). IsAnswered a c.job.result)
    (λ i. job_answer c.args.flat.now (c.in_ok-init.ensures i) (c.in_ok-next.ensures i) (c.in_ok-cinit.ensures i) (c.as_slice-invariants.ensures i)) c.job.ensures)
