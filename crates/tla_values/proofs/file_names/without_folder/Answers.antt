use Rattle.tla_values.proofs.FileLemmas.{behind_slash, no_slash}
use Rattle.tla_values.proofs.file_names.without_folder.Goals as goal

pub returns-then-file-at-eq47 : goal.returns-then-file-at-eq47
returns-then-file-at-eq47 c = behind_slash c.args.file.now c.loop-at.at c.loop-at-test.true c.loop-at.auto.at c.if-file-at-eq47.true c.loop-at.invariant

pub returns : goal.returns
returns c = no_slash c.args.file.now c.loop-at.at c.loop-at-test.false c.loop-at.invariant
