use Rattle.std.specs.Prelude.{[]}
use Rattle.snowcat_rows.proofs.ReadingLaws.{fault_of_none, read_once, same_known}
use Rattle.snowcat_rows.proofs.reading.types_are_read_in_one_way.Goals as goal

pub returns-clause-known : goal.returns-clause-known
returns-clause-known c = λ aliases j k g h. same_known aliases [] j k g h

pub returns-clause-once : goal.returns-clause-once
returns-clause-once c = read_once

pub returns-clause-fault : goal.returns-clause-fault
returns-clause-fault c = fault_of_none
