-- A kernel that is built of a job has the outcomes of the job's parts.
use Rattle.std.proofs.Common.{ℕ, ◌≤◌, IsTrue, nat_le, Some, sym, ◌∙◌, arith}
use Rattle.std.proofs.lemmas.List.Elements.{recursion_from_All}
use Rattle.tla_values.specs.Sets.{Normal}
use Rattle.tla_meaning.specs.declared.job.Job.{Job}
use Rattle.tla_meaning.specs.declared.job.State.{State}
use Rattle.tla_meaning.specs.Actions.{val}
use Rattle.tla_meaning.specs.Executions.{IsState, no_scope}
use Rattle.tla_meaning.specs.Numbers.{Width}
use Rattle.kernel_trees.specs.declared.system.KerJob.{KerJob}
use Rattle.kernel_reduction.specs.BuiltJobs.{IsBuilt, SameOutcomes}
use Rattle.kernel_reduction.proofs.Basics.{map_map}
use Rattle.kernel_reduction.proofs.BuiltJobs.{keeps_outcomes}
use Rattle.step_laws.specs.Systems.{GivesTheSame}

same_given : (w : Width) (job : Job) (k : KerJob) (s t : State) → SameOutcomes w job k s t → GivesTheSame w job k s t
same_given w job k s t h = record {
  cinit = h.cinit;
  assume = h.assume;
  init = h.init;
  next = h.next;
  invs = sym (map_map (λ e. val w e no_scope s t) (λ e. e.1) job.invs) ∙ h.invs;
}

wide : (n : ℕ) → 4 ≤ n → IsTrue (nat_le 4 n)
wide n h = grind (arith, h)

pub built_gives_the_same : (n : ℕ) (job : Job) (k : KerJob) → 4 ≤ n → IsBuilt job k → (s t : State) → IsState job s →
    IsState job t →
    GivesTheSame (Some n) job k s t
built_gives_the_same n job k h b s t f g =
    same_given (Some n) job k s t
    (keeps_outcomes job k (Some n) s t b (wide n h) (recursion_from_All Normal s.vals f.normal)
    (recursion_from_All Normal t.vals g.normal))
