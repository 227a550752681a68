use Rattle.std.proofs.Common.{refl}
use Rattle.row_tests.proofs.Shaped.{has-first, has-second}
use Rattle.row_tests.proofs.sorts.has_field.Goals as goal

pub returns-then-is_name : goal.returns-then-is_name
returns-then-is_name c = λ t. has-first _ _ _ (c.if-not-is_record.ensures refl) (c.if-is_name.ensures refl)

pub returns : goal.returns
returns c = λ t. has-second _ _ _ (c.if-not-is_record.ensures refl) (c.is_name-2.ensures t)
