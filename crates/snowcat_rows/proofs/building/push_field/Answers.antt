use Rattle.std.proofs.Common.{rules, ◌∙◌}
use Rattle.snowcat_rows.proofs.Moves.{zipped_push, zipped_full}
use Rattle.snowcat_rows.proofs.building.push_field.Goals as goal

pub returns-in_ok-push-clause-mean : goal.returns-in_ok-push-clause-mean
returns-in_ok-push-clause-mean c = λ ts e.
    zipped_push c.args.names.now c.args.fields.now.items c.push.new.self.items ts c.args.t c.in_ok-name.name c.len-place.result c.index-names-place.result e
    (search rules) (search rules) (c.in_ok-name.ensures ∙ c.index-names-place.is) (search rules)

pub returns-else-place-names-clause-mean : goal.returns-else-place-names-clause-mean
returns-else-place-names-clause-mean c = λ ts e. zipped_full c.args.names.now c.args.fields.now.items ts c.args.t e (search rules)
