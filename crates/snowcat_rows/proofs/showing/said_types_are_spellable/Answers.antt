use Rattle.snowcat_rows.proofs.Rereading.{read_said, said_spellable, spellable_said}
use Rattle.snowcat_rows.proofs.showing.said_types_are_spellable.Goals as goal

pub returns-clause-read : goal.returns-clause-read
returns-clause-read c = read_said

pub returns-clause-said : goal.returns-clause-said
returns-clause-said c = said_spellable

pub returns-clause-spellable : goal.returns-clause-spellable
returns-clause-spellable c = spellable_said
