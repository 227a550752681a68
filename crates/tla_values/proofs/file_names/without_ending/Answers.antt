use Rattle.std.proofs.Common.{◌∙◌, ap, sym}
use Rattle.std.proofs.lemmas.Bool.Decides.{Decides-eqb}
use Rattle.std.proofs.lemmas.Slice.Eq.{strip_suffix_is}
use Rattle.tla_values.specs.FileNames.{without_ending}
use Rattle.tla_values.proofs.FileLemmas.{ending_there, no_ending, none_case, some_case}
use Rattle.tla_values.proofs.file_names.without_ending.Goals as goal

pub returns-in-Some : goal.returns-in-Some
returns-in-Some c =
    let cases = strip_suffix_is Decides-eqb c.args.name.now _ c.strip_suffix.result c.strip_suffix.ensures.cases in
    sym (ap without_ending (some_case c.strip_suffix.result _ _ _ cases c.in-Some.is) ∙ ending_there c.in-Some.stem.now)

pub returns-in-None : goal.returns-in-None
returns-in-None c =
    let cases = strip_suffix_is Decides-eqb c.args.name.now _ c.strip_suffix.result c.strip_suffix.ensures.cases in
    no_ending c.args.name.now (none_case c.strip_suffix.result _ _ cases c.in-None.is)
