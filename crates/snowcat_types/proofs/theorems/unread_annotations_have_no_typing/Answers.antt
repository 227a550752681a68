use Rattle.snowcat_types.proofs.Unread.{bad_excludes, missing_excludes}
use Rattle.snowcat_types.proofs.theorems.unread_annotations_have_no_typing.Goals as goal

pub returns-clause-missing : goal.returns-clause-missing
returns-clause-missing c = missing_excludes

pub returns-clause-bad : goal.returns-clause-bad
returns-clause-bad c = bad_excludes
