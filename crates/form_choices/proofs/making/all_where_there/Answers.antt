use Rattle.form_choices.proofs.Makings.{told-all}
use Rattle.form_choices.proofs.making.all_where_there.Goals as goal

pub returns-clause-holds : goal.returns-clause-holds
returns-clause-holds c =
    told-all _ _ c.args.edges.now c.args.lits.now _ _ _ c.in_ok-tests.ensures.tell c.as_slice.ensures.value c.in_ok-all.ensures.grows c.in_ok-all.ensures.value
