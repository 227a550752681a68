-- Whether a record names a field twice, told of what is read, each construct behind its parts.
use Rattle.tla_lexer.specs.declared.token.Token.{Token}
use Rattle.std.specs.Prelude.{ℕ, Bool, true, false, cond, List, Option, None, reverse, take, drop, ◌+◌, ◌∷◌, ◌++◌, ◌&&◌, ◌||◌, ◌==◌, ◌≡◌, []}
use Rattle.tla_parser.specs.Fields.{as_list, distinct, has_fields}
use Rattle.tla_parser.specs.Forms.{is_bare}
use Rattle.tla_parser.specs.Trees.{name_of}
use Rattle.tla_parser.specs.Written.{class_of}
use Rattle.tla_parser.specs.declared.fields.Entry.{Entry}
use Rattle.tla_parser.specs.declared.fields.Fields.{Fields}
use Rattle.tla_parser.specs.declared.moves.Construct.{Construct}
use Rattle.tla_parser.specs.declared.open.Code.{Code}
use Rattle.tla_parser.specs.declared.open.Code.TheVariants.{Close, Infix, Part, Prefix}
use Rattle.tla_parser.specs.inner.Recognition.{Status, code_read}
use Rattle.tla_parser.specs.inner.Standings.{standing_of}

abbrev pub token_entry : Token → Entry
token_entry t = record { is_token = true; name = name_of t.kind }

abbrev pub operand_entry : Option (List ℕ) → Entry
operand_entry x = record { is_token = false; name = x }

-- the fields that an entry of this index names, where it is a record's
abbrev pub named_at : ℕ → Entry → List (List ℕ)
named_at i e = cond (e.is_token || (i == 1)) (as_list e.name) []

abbrev pub named_from : ℕ → List Entry → List (List ℕ)
named_from i [] = []
named_from i (e ∷ es) = named_at i e ++ named_from (i + 1) es

abbrev pub shut_once : Construct → List Entry → Bool
shut_once c es = cond (has_fields c) (distinct (named_from 0 es)) true

-- the name that they end in, given from the last on
abbrev pub end_name : List Entry → Option (List ℕ)
end_name [] = None
end_name (e ∷ s) = cond e.is_token e.name None

abbrev pub shut_name : Construct → List Entry → Option (List ℕ)
shut_name c s = cond (is_bare (class_of c)) (end_name s) None

-- whether no field was named twice, and what stands open, from the last on
abbrev pub Walk : Type 0
Walk = Bool × List Entry

abbrev pub walked_one : Code → Walk → Walk
walked_one (Part t) w = (w.0, token_entry t ∷ w.1)
walked_one (Prefix t) w = (w.0, operand_entry None ∷ drop 1 w.1)
walked_one (Infix t j) w = (w.0, operand_entry None ∷ drop 2 w.1)
walked_one (Close c n) w = (w.0 && shut_once c (reverse (take n w.1)), operand_entry (shut_name c (take n w.1)) ∷ drop n w.1)

abbrev pub walked : List Code → Walk → Walk
walked [] w = w
walked (x ∷ xs) w = walked xs (walked_one x w)

abbrev pub walk_start : Walk
walk_start = (true, [])

abbrev pub walk_of : Fields → Walk
walk_of f = (f.once, reverse f.open.items)

abbrev pub once_codes : List Code → Bool
once_codes cs = (walked cs walk_start).0

-- the fields of what was read, unless reading sticks
abbrev pub AreFields : Status → Fields → Type 0
AreFields st f = (standing_of st).stuck ≡ false → walk_of f ≡ walked (code_read st) walk_start
