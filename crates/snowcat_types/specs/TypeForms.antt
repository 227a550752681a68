-- The forms of types, as they are written in the table of operators. Source: the Apalache manual, "Type System 1.2".
use Rattle.std.specs.Prelude.{ℕ, List, None}
use Rattle.snowcat_rows.specs.Types.{Term, con, app, fields, row, lookup, BoolHead, IntHead, StrHead, SetHead, SeqHead, FunHead, TupHead}

abbrev pub bool_type : Term
bool_type = con BoolHead

abbrev pub int_type : Term
int_type = con IntHead

abbrev pub str_type : Term
str_type = con StrHead

abbrev pub set_type : Term → Term
set_type a = app (con SetHead) a

abbrev pub seq_type : Term → Term
seq_type a = app (con SeqHead) a

abbrev pub fun_type : Term → Term → Term
fun_type a b = app (con FunHead) (app a b)

abbrev pub tuple_type : List Term → Term
tuple_type ts = app (con TupHead) (row ts)

-- the record of these fields and no others
abbrev pub record_type : List (List ℕ × Term) → Term
record_type fs = fields (lookup fs) None
