use Rattle.form_choices.proofs.Makings.{no-edges}
use Rattle.form_choices.proofs.making.empty_set.Goals as goal

pub set_of_edges-requires : goal.set_of_edges-requires
set_of_edges-requires c = no-edges c.args.b.now _ c.new.ensures.items

pub returns-clause-set : goal.returns-clause-set
returns-clause-set c = rw c.new.ensures.items at c.in_ok-id.ensures.set
