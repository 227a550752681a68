-- The reading of tokens with a stack, which gives what was read, each construct behind its parts.
use Rattle.std.specs.Prelude.{nat_lt, nat_le}
use Rattle.tla_lexer.specs.declared.token.Token.{Token as Tok}
use Rattle.tla_parser.specs.declared.recognizer.Recognizer.{Recognizer}
use Rattle.std.specs.Prelude.{ℕ, Bool, true, false, cond, not, max, min, List, Option, Some, None, length, reverse, ◌≡◌, ◌+◌, ◌<◌, ◌∷◌, ◌++◌, ◌&&◌, ◌||◌, []}
use Rattle.tla_parser.specs.Operators.{after, hi, is_prefix, lo, prefix_hi, prefix_lo, same}
use Rattle.tla_parser.specs.Signs.{column, sign}
use Rattle.tla_parser.specs.declared.moves.Class.{Class}
use Rattle.tla_parser.specs.declared.moves.Class.TheVariants.{Other}
use Rattle.tla_parser.specs.declared.moves.Construct.{Construct}
use Rattle.tla_parser.specs.declared.moves.Construct.TheVariants.{Instanced, Parenthesis}
use Rattle.tla_parser.specs.declared.moves.Mark.TheVariants.{AtTop}
use Rattle.tla_parser.specs.declared.moves.Next.{Next}
use Rattle.tla_parser.specs.declared.moves.Next.TheVariants.{Fail, Last, Reads, Shut, Wants}
use Rattle.tla_parser.specs.declared.open.Code.{Code}
use Rattle.tla_parser.specs.declared.open.Code.TheVariants.{Close, Infix, Part, Prefix}
use Rattle.tla_parser.specs.declared.open.Form.{Form}
use Rattle.tla_parser.specs.declared.open.Mode.{Mode}
use Rattle.tla_parser.specs.declared.open.Mode.TheVariants.{Have, Read, Stuck, Want}
use Rattle.tla_parser.specs.declared.open.Open.{Open}
use Rattle.tla_parser.specs.declared.open.Open.TheVariants.{Before, Between, Within}
use Rattle.tla_parser.specs.declared.open.Operand.{Operand}
use Rattle.tla_parser.specs.declared.signs.Role.{Role}
use Rattle.tla_parser.specs.declared.signs.Role.TheVariants.{InfixRole, NoRole, PostfixRole}
use Rattle.tla_parser.specs.Written.{class_infix, class_of, continues}
use Rattle.tla_parser.specs.inner.Derivations.{delta, form_of, given, idle, is_last, mark_column}
use Rattle.tla_parser.specs.inner.Moves.{Point, begin, behind_op, is_finished, off, reading}

pub data Status : Type 0 where
  lost : Status
  -- the mode, what is open with the innermost first, what was read, and the least column
  running : Mode → List Open → List Code → ℕ → Status

abbrev pub status : Mode → List Open → List Code → ℕ → Status
status Want s c m = running Want s c m
status (Have w) s c m = running (Have w) s c m
status Read s c m = running Read s c m
status Stuck s c m = lost

abbrev pub stood : Mode → Recognizer → Status
stood mode r = status mode (reverse r.stack.items) r.code.items r.margin

abbrev pub is_fail : Next → Bool
is_fail Fail = true
is_fail (Reads m) = false
is_fail (Wants m) = false
is_fail (Last m) = false
is_fail (Shut f) = false

-- a token behind an operand is an operator
abbrev pub op : Role → Bool
op InfixRole = true
op PostfixRole = true
op NoRole = false

-- levels count up to 401
abbrev pub deeper : ℕ → ℕ
deeper n = min (n + 1) 401

abbrev pub form_deeper : Construct → ℕ → ℕ
form_deeper Parenthesis n = n
form_deeper Instanced n = n
form_deeper f n = deeper n

abbrev pub form : Next → ℕ → ℕ → ℕ → Open
form n count lv m = Within (record { next = n; count = count; levels = lv; outer = m })

abbrev pub operand : Class → ℕ → Operand
operand c lv = record { class = c; levels = lv }

-- behind a token of a form, by what comes next
abbrev pub entered : Next → ℕ → ℕ → List Open → List Code → ℕ → Status
entered (Reads k) count lv s c m = running Read (form (Reads k) count lv m ∷ s) c m
entered (Wants k) count lv s c m = running Want (form (Wants k) count lv m ∷ s) c (max (mark_column k) m)
entered (Last k) count lv s c m = running Want (form (Last k) count lv m ∷ s) c (max (mark_column k) m)
entered (Shut f) count lv s c m = running (Have (operand (class_of f) (form_deeper f lv))) s (c ++ (Close f count ∷ [])) m
entered Fail count lv s c m = lost

-- a token that begins an operand
abbrev pub freshly : Tok → List Open → List Code → ℕ → Status
freshly t s c m =
    cond (nat_lt (column t) m) lost
    (cond (is_prefix (sign t)) (running Want (Before t ∷ s) c m) (entered (delta begin t) 1 0 s (c ++ (Part t ∷ [])) m))

abbrev pub taken : Form → Tok → Bool
taken f t = nat_le f.outer (column t) && not (is_fail (delta (idle f.next) t))

-- where an operand is to come
abbrev pub wanting : Tok → List Open → List Code → ℕ → Status
wanting t [] c m = freshly t [] c m
wanting t (Before p ∷ s) c m = freshly t (Before p ∷ s) c m
wanting t (Between a o ∷ s) c m = freshly t (Between a o ∷ s) c m
wanting t (Within f ∷ s) c m =
    cond (taken f t) (entered (delta (idle f.next) t) (f.count + 1) f.levels s (c ++ (Part t ∷ [])) f.outer)
    (freshly t (Within f ∷ s) c m)

abbrev pub read_at : Next → Point
read_at (Reads m) = reading m
read_at (Wants m) = off
read_at (Last m) = off
read_at (Shut f) = off
read_at Fail = off

-- where a token of a form is to come
abbrev pub heads_on : Tok → List Open → List Code → ℕ → Status
heads_on t [] c m = lost
heads_on t (Before p ∷ s) c m = lost
heads_on t (Between a o ∷ s) c m = lost
heads_on t (Within f ∷ s) c m =
    cond (nat_lt (column t) f.outer) lost
    (entered (delta (read_at f.next) t) (f.count + 1) f.levels s (c ++ (Part t ∷ [])) f.outer)

-- the least range of what may stand behind the innermost operator
abbrev pub least : List Open → ℕ
least [] = 0
least (Before p ∷ s) = prefix_hi (sign p) + 1
least (Between a o ∷ s) = hi (sign o) + 1
least (Within f ∷ s) = 0

abbrev pub least_of : Option Open → ℕ
least_of None = 0
least_of (Some f) = least (f ∷ [])

abbrev pub acted : Tok → Role → Operand → List Open → List Code → ℕ → Status
acted t InfixRole w s c m = cond (nat_le (least s) (lo (sign t))) (running Want (Between w t ∷ s) c m) lost
acted t PostfixRole w s c m = entered (delta (behind_op w.class) t) 2 w.levels s (c ++ (Part t ∷ [])) m
acted t NoRole w s c m = lost

abbrev pub placing : Tok → Operand → List Open → List Code → ℕ → Status
placing t w s c m = cond (nat_lt (column t) m) lost (acted t (after (sign t)) w s c m)

abbrev pub accepting : Form → Operand → Tok → Bool
accepting f w t = nat_le f.outer (column t) && not (is_fail (delta (given f.next w.class) t))

-- t stands left of what is open, or is no operator, or takes the operator on top
abbrev pub passes_by : Tok → ℕ → Bool → Bool
passes_by t m b = nat_lt (column t) m || (not (op (after (sign t))) || b)

-- t ends what is innermost behind w
abbrev pub folds : Tok → Operand → Open → ℕ → Bool
folds t w (Before p) m = passes_by t m (nat_lt (hi (sign t)) (prefix_lo (sign p)))
folds t w (Between a o) m = passes_by t m (nat_lt (hi (sign t)) (lo (sign o)) || same (sign o) (sign t))
folds t w (Within f) m = not (accepting f w t) && (is_last f.next && passes_by t m false)

abbrev pub joined_levels : Bool → ℕ → ℕ → ℕ
joined_levels b x y = cond b (max x (deeper y)) (deeper (max x y))

-- what the innermost makes of w
abbrev pub folded : Open → Operand → Operand
folded (Before p) w = operand Other (deeper w.levels)
folded (Between a o) w =
    operand (class_infix a.class (sign o)) (joined_levels (continues a.class (sign o)) a.levels w.levels)
folded (Within f) w = operand Other (deeper (max f.levels w.levels))

abbrev pub folded_code : Open → Code
folded_code (Before p) = Prefix p
folded_code (Between a o) = Infix o (continues a.class (sign o))
folded_code (Within f) = Close (form_of f.next) (f.count + 1)

abbrev pub folded_margin : Open → ℕ → ℕ
folded_margin (Before p) m = m
folded_margin (Between a o) m = m
folded_margin (Within f) m = f.outer

-- what is innermost stays open behind w
abbrev pub landed : Tok → Operand → List Open → List Code → ℕ → Status
landed t w [] c m = placing t w [] c m
landed t w (Before p ∷ s) c m = placing t w (Before p ∷ s) c m
landed t w (Between a o ∷ s) c m = placing t w (Between a o ∷ s) c m
landed t w (Within f ∷ s) c m =
    cond (accepting f w t)
    (entered (delta (given f.next w.class) t) (f.count + 2) (max f.levels w.levels) s (c ++ (Part t ∷ [])) f.outer)
    (placing t w (Within f ∷ s) c m)

abbrev pub following : Tok → Operand → List Open → List Code → ℕ → Status
following t w [] c m = landed t w [] c m
following t w (f ∷ s) c m =
    cond (folds t w f m) (following t (folded f w) s (c ++ (folded_code f ∷ [])) (folded_margin f m))
    (landed t w (f ∷ s) c m)

abbrev pub advanced : Tok → Mode → List Open → List Code → ℕ → Status
advanced t Want s c m = wanting t s c m
advanced t (Have w) s c m = following t w s c m
advanced t Read s c m = heads_on t s c m
advanced t Stuck s c m = lost

abbrev pub advance : Tok → Status → Status
advance t lost = lost
advance t (running mode s c m) = advanced t mode s c m

abbrev pub advances : Status → List Tok → Status
advances st [] = st
advances st (t ∷ ts) = advances (advance t st) ts

abbrev pub followed : Tok → Operand → Recognizer → Status
followed t w r = following t w (reverse r.stack.items) r.code.items r.margin

-- What is innermost was folded, or nothing there is ended by t.
abbrev pub IsFolded : Option Operand → Tok → Operand → Recognizer → Recognizer → Type 0
IsFolded None t w old new = followed t w old ≡ landed t w (reverse new.stack.items) new.code.items new.margin
IsFolded (Some v) t w old new = (followed t w old ≡ followed t v new) × (length new.stack.items < length old.stack.items)

-- ---- the whole

-- where a module begins
abbrev pub module_start : Status
module_start = running Read (form (Reads AtTop) 0 0 0 ∷ []) [] 0

abbrev pub ended_module : Next → Bool
ended_module (Reads m) = is_finished m
ended_module (Wants m) = false
ended_module (Last m) = false
ended_module (Shut f) = false
ended_module Fail = false

abbrev pub ended_form : Open → Bool
ended_form (Within f) = ended_module f.next
ended_form (Before p) = false
ended_form (Between a o) = false

abbrev pub ended_stack : List Open → Bool
ended_stack [] = false
ended_stack (f ∷ []) = ended_form f
ended_stack (f ∷ g ∷ s) = false

-- a whole module was read
abbrev pub finished : Status → Bool
finished lost = false
finished (running Read s c m) = ended_stack s
finished (running Want s c m) = false
finished (running (Have w) s c m) = false
finished (running Stuck s c m) = false

abbrev pub code_read : Status → List Code
code_read lost = []
code_read (running mode s c m) = c

abbrev pub form_levels_read : List Open → ℕ
form_levels_read [] = 0
form_levels_read (Within f ∷ s) = f.levels
form_levels_read (Before p ∷ s) = 0
form_levels_read (Between a o ∷ s) = 0

abbrev pub levels_read : Status → ℕ
levels_read lost = 0
levels_read (running mode s c m) = form_levels_read s

-- the levels of a whole module that was read
abbrev pub outcome_form : Open → Option ℕ
outcome_form (Within f) = cond (ended_module f.next) (Some f.levels) None
outcome_form (Before p) = None
outcome_form (Between a o) = None

abbrev pub outcome_stack : List Open → Option ℕ
outcome_stack [] = None
outcome_stack (f ∷ []) = outcome_form f
outcome_stack (f ∷ g ∷ s) = None

abbrev pub outcome_mode : Mode → List Open → Option ℕ
outcome_mode Read s = outcome_stack s
outcome_mode Want s = None
outcome_mode (Have w) s = None
outcome_mode Stuck s = None
