use Rattle.std.proofs.Common.{◌++◌, [], false}
use Rattle.kernel_reduction.specs.Infinite.{infinite_in}
use Rattle.kernel_reduction.proofs.Places.{none_in, of_job}
use Rattle.kera_reducer.proofs.finite.least_infinite.Goals as goal

pub returns : goal.returns
returns c =
    let j = c.args.job.now in
    let a = infinite_in j.cinit false in
    let b = infinite_in j.assume false in
    let d = infinite_in j.init false in
    let e = infinite_in j.next false in
    of_job j c.as_slice.result.now c.least_in_all.result c.as_slice.ensures
    (c.least_in_all.ensures (((([] ++ a) ++ b) ++ d) ++ e) (c.least_in-steps.ensures ((([] ++ a) ++ b) ++ d)
    (c.least_in-start.ensures (([] ++ a) ++ b) (c.least_in-assumed.ensures ([] ++ a) (c.least_in-constants.ensures [] none_in)))))
