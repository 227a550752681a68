use Rattle.tla_meaning.proofs.Joins.{both_comm, both_assoc, both_same, both_unit, joined_append}
use Rattle.tla_meaning.proofs.theorems.faults_join.Goals as goal

pub returns : goal.returns
returns c = record { commutative = both_comm; associative = both_assoc; idempotent = both_same; unit = both_unit; lists = joined_append }
