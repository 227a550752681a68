use Rattle.front_end.proofs.Apart.{not_refused, one_accepted_job}
use Rattle.front_end.proofs.OneKernel.{same_numbers}
use Rattle.front_end.proofs.theorems.accepted_requests_are_not_refused.Goals as goal

pub returns-clause-refused : goal.returns-clause-refused
returns-clause-refused c = λ held before now r a files names f wide told accepted refused.
    not_refused same_numbers held r wide a accepted before now files names f told refused

pub returns-clause-one_job : goal.returns-clause-one_job
returns-clause-one_job c = one_accepted_job
