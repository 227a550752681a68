use Rattle.snowcat_rows.specs.Views.{known_by}
use Rattle.snowcat_types.proofs.ToldSteps.{all_named, all_told, bad_told}
use Rattle.snowcat_types.proofs.annotations.told_by_all.Goals as goal

pub returns-in-Some-clause-told : goal.returns-in-Some-clause-told
returns-in-Some-clause-told c =
    bad_told c.args.job.now c.as_slice.result.now c.as_slice.ensures (known_by c.in_ok-aliases.aliases) c.in_ok-aliases.ensures
    c.in_ok-names.names c.in_ok-heard.heard
    c.in_ok-names.ensures c.in_ok-heard.ensures c.in-Some.place c.requires.annotated c.in-Some.is

pub returns-clause-told : goal.returns-clause-told
returns-clause-told c =
    all_told c.args.job.now c.as_slice.result.now c.as_slice.ensures (known_by c.in_ok-aliases.aliases) c.in_ok-aliases.ensures
    c.in_ok-names.names c.in_ok-heard.heard
    c.in_ok-names.ensures c.in_ok-heard.ensures c.from_vec.result c.from_vec-in-None.result c.from_vec.ensures c.from_vec-in-None.ensures c.in-None.is

pub returns-clause-named : goal.returns-clause-named
returns-clause-named c =
    all_named c.args.job.now c.as_slice.result.now c.as_slice.ensures (known_by c.in_ok-aliases.aliases) c.in_ok-aliases.ensures
    c.in_ok-names.names c.in_ok-heard.heard
    c.in_ok-names.ensures c.in_ok-heard.ensures c.from_vec.result c.from_vec-in-None.result c.from_vec.ensures c.from_vec-in-None.ensures c.in-None.is
