-- The operators that join their operands and then apply the table.
use Rattle.std.specs.Prelude.{Bool, true, false}
use Rattle.tla_meaning.specs.declared.op.Op.{Op}
use Rattle.tla_meaning.specs.declared.op.Op.TheVariants as op

abbrev pub is_strict : Op → Bool
is_strict (op.Bool b) = false
is_strict (op.Int n) = false
is_strict (op.Str a) = false
is_strict op.And = false
is_strict op.Or = false
is_strict op.Implies = false
is_strict op.If = false
is_strict (op.Case b) = false
is_strict op.In = false
is_strict op.NotIn = false
is_strict op.SubsetEq = false
is_strict op.Exists = false
is_strict op.Forall = false
is_strict op.Filter = false
is_strict op.MapTo = false
is_strict op.Lambda = false
is_strict (op.Except ns) = false
is_strict op.Fold = false
is_strict (op.Use x) = false
is_strict (op.Param x) = false
is_strict (op.Let ds) = false
is_strict op.Prime = false
is_strict op.Unchanged = false
is_strict op.Boxed = false
is_strict op.Angled = false
is_strict (op.Noted x) = false
is_strict (op.Name i primed) = false
is_strict (op.Bound x) = false
is_strict o = true
