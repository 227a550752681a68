-- What is left open once nothing more is asked: a type is `Int`, a record has no further fields.
use Rattle.std.specs.Prelude.{None}
use Rattle.snowcat_rows.specs.Types.{con, none, IntHead}
use Rattle.snowcat_rows.specs.Substitutions.{Sub}

abbrev pub closing : Sub
closing = record { type_of = λ v. con IntHead; row_of = λ r. record { at = λ n. none; tail = None } }
