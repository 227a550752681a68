-- How a type's text is read, piece by piece and byte by byte, with a stack of what is open.
use Rattle.std.specs.Prelude.{ℕ, ◌==◌, ◌&&◌, ◌||◌, Bool, true, false, not, List, [], ◌∷◌, ◌++◌, Option, Some, None, codes, bytes_eq, if◌then◌else◌}
use Rattle.std.specs.List.{list_all, list_any}
use Rattle.std.specs.Option.{is_some}
use Rattle.snowcat_rows.specs.declared.marks.Mark.{Mark}
use Rattle.snowcat_rows.specs.declared.marks.Mark.TheVariants as mark
use Rattle.snowcat_rows.specs.declared.marks.Frame.{Frame}
use Rattle.snowcat_rows.specs.declared.marks.Frame.TheVariants as frame
use Rattle.snowcat_rows.specs.declared.marks.Mode.{Mode}
use Rattle.snowcat_rows.specs.declared.marks.Mode.TheVariants as mode
use Rattle.snowcat_rows.specs.declared.marks.Sign.{Sign}
use Rattle.snowcat_rows.specs.declared.marks.Sign.TheVariants as sign
use Rattle.snowcat_rows.specs.LiteralTypes.{in_word, is_type_name}
use Rattle.snowcat_rows.specs.TypeTexts.{is_variable, is_name, is_among, is_blank}

-- row variables, each with the names after which it stands
abbrev pub Rows : Type 0
Rows = List (List ℕ × List (List ℕ))

-- what is open, the innermost first, and what was read
pub record State : Type 0 where
  pub mode : Mode
  pub frames : List Frame
  pub rows : Rows
  pub marks : List Mark

-- ---- pieces

-- a symbol by its bytes
abbrev pub symbol_of : List ℕ → Sign
symbol_of p =
    if bytes_eq p (codes "->") then sign.Arrow else
    if bytes_eq p (codes "=>") then sign.Result else
    if bytes_eq p (codes ",") then sign.Comma else
    if bytes_eq p (codes ":") then sign.Colon else
    if bytes_eq p (codes "(") then sign.Open else
    if bytes_eq p (codes ")") then sign.Close else
    if bytes_eq p (codes "<<") then sign.Left else
    if bytes_eq p (codes ">>") then sign.Right else
    if bytes_eq p (codes "{") then sign.Begin else
    if bytes_eq p (codes "}") then sign.Finish else sign.Bad

-- a piece by its bytes
abbrev pub sign_at : ℕ → List ℕ → Sign
sign_at c cs = if in_word c then sign.Word else if c == 36 then sign.Alias else symbol_of (c ∷ cs)

abbrev pub sign_of : List ℕ → Sign
sign_of [] = sign.Bad
sign_of (c ∷ cs) = sign_at c cs

abbrev pub behind_first : List ℕ → List ℕ
behind_first [] = []
behind_first (c ∷ cs) = cs

-- ---- names and row variables

abbrev pub covers : List (List ℕ) → List (List ℕ) → Bool
covers xs ys = list_all (λ x. is_among x ys) xs

abbrev pub same_names : List (List ℕ) → List (List ℕ) → Bool
same_names xs ys = covers xs ys && covers ys xs

-- the row variable stands after the same names before
abbrev pub row_fits : Rows → List ℕ → List (List ℕ) → Bool
row_fits rs r ns = list_all (λ q. not (bytes_eq q.0 r) || same_names q.1 ns) rs

-- the word may name a field behind these
abbrev pub can_name : List (List ℕ) → List ℕ → Bool
can_name ns w = is_name w && not (is_among w ns)

abbrev pub some_names : List (List ℕ) → Bool
some_names [] = false
some_names (n ∷ ns) = true

-- the word may be the row variable behind these
abbrev pub can_end : Rows → List (List ℕ) → List ℕ → Bool
can_end rs ns w = some_names ns && is_variable w && row_fits rs w ns

-- ---- one piece

-- what stands right of arrows is whole
abbrev pub unwind : List Frame → List Mark → List Frame × List Mark
unwind [] o = ([], o)
unwind (frame.Function ∷ fs) o = unwind fs (o ++ mark.Function ∷ [])
unwind (frame.Operator ∷ fs) o = unwind fs (o ++ mark.Operator ∷ [])
unwind (f ∷ fs) o = (f ∷ fs, o)

abbrev pub gather : Bool → Mark
gather false = mark.One
gather true = mark.Join

-- a type of one word
abbrev pub word_mark : List ℕ → Option Mark
word_mark w =
    if bytes_eq w (codes "Bool") then Some mark.Bool else
    if bytes_eq w (codes "Int") then Some mark.Int else
    if bytes_eq w (codes "Str") then Some mark.Str else
    if is_type_name w then Some (mark.Named w) else
    if is_variable w then Some (mark.Var w) else None

abbrev pub ended_word : Option Mark → List Frame → Rows → List Mark → Option State
ended_word None fs rs o = None
ended_word (Some m) fs rs o = Some (record { mode = mode.Ended false; frames = fs; rows = rs; marks = o ++ m ∷ [] })

abbrev pub begin_word : List ℕ → List Frame → Rows → List Mark → Option State
begin_word w fs rs o =
    if bytes_eq w (codes "Set") then Some (record { mode = mode.Headed; frames = frame.Set ∷ fs; rows = rs; marks = o }) else
    if bytes_eq w (codes "Seq") then Some (record { mode = mode.Headed; frames = frame.Seq ∷ fs; rows = rs; marks = o }) else
    ended_word (word_mark w) fs rs o

abbrev pub begin_alias : List ℕ → List Frame → Rows → List Mark → Option State
begin_alias x fs rs o =
    if is_name x then Some (record { mode = mode.Ended false; frames = fs; rows = rs; marks = o ++ mark.Alias x ∷ [] }) else None

-- `)` right behind `(`
abbrev pub begin_close : List Frame → Rows → List Mark → Option State
begin_close (frame.Paren false ∷ fs) rs o = Some (record { mode = mode.Closed; frames = fs; rows = rs; marks = o ++ mark.Nothing ∷ [] })
begin_close fs rs o = None

abbrev pub at_begin : Sign → List ℕ → List Frame → Rows → List Mark → Option State
at_begin sign.Word w fs rs o = begin_word w fs rs o
at_begin sign.Alias w fs rs o = begin_alias (behind_first w) fs rs o
at_begin sign.Open w fs rs o = Some (record { mode = mode.Begins; frames = frame.Paren false ∷ fs; rows = rs; marks = o })
at_begin sign.Left w fs rs o = Some (record { mode = mode.Begins; frames = frame.Tuple false ∷ fs; rows = rs; marks = o })
at_begin sign.Begin w fs rs o = Some (record { mode = mode.Name; frames = frame.Fields [] ∷ fs; rows = rs; marks = o })
at_begin sign.Close w fs rs o = begin_close fs rs o
at_begin s w fs rs o = None

abbrev pub at_head : Sign → List Frame → Rows → List Mark → Option State
at_head sign.Open fs rs o = Some (record { mode = mode.Begins; frames = fs; rows = rs; marks = o })
at_head s fs rs o = None

abbrev pub name_word : List ℕ → List Frame → Rows → List Mark → Option State
name_word w (frame.Fields ns ∷ fs) rs o =
    if can_name ns w || can_end rs ns w then Some (record { mode = mode.Called w; frames = frame.Fields ns ∷ fs; rows = rs; marks = o }) else None
name_word w fs rs o = None

abbrev pub at_name : Sign → List ℕ → List Frame → Rows → List Mark → Option State
at_name sign.Word w fs rs o = name_word w fs rs o
at_name s w fs rs o = None

abbrev pub called_colon : List ℕ → List Frame → Rows → List Mark → Option State
called_colon n (frame.Fields ns ∷ fs) rs o =
    if can_name ns n then Some (record { mode = mode.Begins; frames = frame.Field ns n ∷ fs; rows = rs; marks = o }) else None
called_colon n fs rs o = None

abbrev pub called_end : List ℕ → List Frame → Rows → List Mark → Option State
called_end n (frame.Fields ns ∷ fs) rs o =
    if can_end rs ns n then Some (record { mode = mode.Ended false; frames = fs; rows = rs ++ (n, ns) ∷ []; marks = o ++ mark.Record ns (Some n) ∷ [] }) else None
called_end n fs rs o = None

abbrev pub at_called : Sign → List ℕ → List Frame → Rows → List Mark → Option State
at_called sign.Colon n fs rs o = called_colon n fs rs o
at_called sign.Finish n fs rs o = called_end n fs rs o
at_called s n fs rs o = None

abbrev pub result_of : List Frame → Rows → List Mark → Option State
result_of fs rs o = Some (record { mode = mode.Begins; frames = frame.Operator ∷ fs; rows = rs; marks = o })

abbrev pub at_closed : Sign → List Frame → Rows → List Mark → Option State
at_closed sign.Result fs rs o = result_of fs rs o
at_closed s fs rs o = None

abbrev pub on_comma : List Frame → Rows → List Mark → Option State
on_comma (frame.Tuple b ∷ fs) rs o = Some (record { mode = mode.Begins; frames = frame.Tuple true ∷ fs; rows = rs; marks = o ++ gather b ∷ [] })
on_comma (frame.Paren b ∷ fs) rs o = Some (record { mode = mode.Begins; frames = frame.Paren true ∷ fs; rows = rs; marks = o ++ gather b ∷ [] })
on_comma (frame.Field ns n ∷ fs) rs o =
    Some (record { mode = mode.Name; frames = frame.Fields (ns ++ n ∷ []) ∷ fs; rows = rs; marks = o ++ gather (some_names ns) ∷ [] })
on_comma fs rs o = None

abbrev pub on_close : List Frame → Rows → List Mark → Option State
on_close (frame.Set ∷ fs) rs o = Some (record { mode = mode.Ended false; frames = fs; rows = rs; marks = o ++ mark.Set ∷ [] })
on_close (frame.Seq ∷ fs) rs o = Some (record { mode = mode.Ended false; frames = fs; rows = rs; marks = o ++ mark.Seq ∷ [] })
on_close (frame.Paren false ∷ fs) rs o = Some (record { mode = mode.Ended true; frames = fs; rows = rs; marks = o })
on_close (frame.Paren true ∷ fs) rs o = Some (record { mode = mode.Closed; frames = fs; rows = rs; marks = o ++ mark.Join ∷ [] })
on_close fs rs o = None

abbrev pub on_right : List Frame → Rows → List Mark → Option State
on_right (frame.Tuple b ∷ fs) rs o = Some (record { mode = mode.Ended false; frames = fs; rows = rs; marks = (o ++ gather b ∷ []) ++ mark.Tuple ∷ [] })
on_right fs rs o = None

abbrev pub on_finish : List Frame → Rows → List Mark → Option State
on_finish (frame.Field ns n ∷ fs) rs o =
    Some (record { mode = mode.Ended false; frames = fs; rows = rs; marks = (o ++ gather (some_names ns) ∷ []) ++ mark.Record (ns ++ n ∷ []) None ∷ [] })
on_finish fs rs o = None

abbrev pub at_end : Bool → Sign → List Frame → Rows → List Mark → Option State
at_end b sign.Arrow fs rs o = Some (record { mode = mode.Begins; frames = frame.Function ∷ fs; rows = rs; marks = o })
at_end false sign.Result fs rs o = None
at_end true sign.Result fs rs o = result_of fs rs (o ++ mark.One ∷ [])
at_end b sign.Comma fs rs o = let u = unwind fs o in on_comma u.0 rs u.1
at_end b sign.Close fs rs o = let u = unwind fs o in on_close u.0 rs u.1
at_end b sign.Right fs rs o = let u = unwind fs o in on_right u.0 rs u.1
at_end b sign.Finish fs rs o = let u = unwind fs o in on_finish u.0 rs u.1
at_end b s fs rs o = None

abbrev pub at_mode : Mode → Sign → List ℕ → List Frame → Rows → List Mark → Option State
at_mode mode.Begins s w fs rs o = at_begin s w fs rs o
at_mode mode.Headed s w fs rs o = at_head s fs rs o
at_mode mode.Name s w fs rs o = at_name s w fs rs o
at_mode (mode.Called n) s w fs rs o = at_called s n fs rs o
at_mode (mode.Ended b) s w fs rs o = at_end b s fs rs o
at_mode mode.Closed s w fs rs o = at_closed s fs rs o

-- the state behind a piece
abbrev pub behind : State → List ℕ → Option State
behind s w = at_mode s.mode (sign_of w) w s.frames s.rows s.marks

abbrev pub begun : State
begun = record { mode = mode.Begins; frames = []; rows = []; marks = [] }

abbrev pub whole : List Frame × List Mark → Option (List Mark)
whole ([], o) = Some o
whole (f ∷ fs, o) = None

-- what was read, where the text is a type's
abbrev pub ended : State → Option (List Mark)
ended s = elim (s.mode) [ mode.Ended b ↦ whole (unwind s.frames s.marks) | _ ↦ None ]

-- the state behind several pieces
abbrev pub bind : Option State → List ℕ → Option State
bind None w = None
bind (Some s) w = behind s w

abbrev pub onward : Option State → List (List ℕ) → Option State
onward s [] = s
onward s (w ∷ ws) = onward (bind s w) ws

-- ---- one byte

abbrev pub is_front : List ℕ → List ℕ → Bool
is_front [] ys = true
is_front (x ∷ xs) [] = false
is_front (x ∷ xs) (y ∷ ys) = x == y && is_front xs ys

abbrev pub accepts : State → List ℕ → Bool
accepts x w = is_some (behind x w)

abbrev pub symbols : List (List ℕ)
symbols = codes "->" ∷ codes "=>" ∷ codes "," ∷ codes ":" ∷ codes "(" ∷ codes ")" ∷ codes "<<" ∷ codes ">>" ∷ codes "{" ∷ codes "}" ∷ []

abbrev pub keywords : List (List ℕ)
keywords = codes "Bool" ∷ codes "Int" ∷ codes "Str" ∷ codes "Set" ∷ codes "Seq" ∷ []

-- a type of one word may begin so
abbrev pub word_front : List ℕ → Bool
word_front w = list_any (λ k. is_front w k) keywords || is_type_name w || is_variable w

abbrev pub alias_front : List ℕ → Bool
alias_front [] = false
alias_front (c ∷ cs) = c == 36 && list_all in_word cs

abbrev pub word_goes : Mode → List ℕ → Bool
word_goes mode.Begins w = word_front w || alias_front w
word_goes mode.Name w = list_all in_word w
word_goes m w = false

-- a piece that may come begins so
abbrev pub viable : State → List ℕ → Bool
viable x w = list_any (λ p. is_front w p && accepts x p) symbols || word_goes x.mode w

-- the state behind whole pieces, and the piece that has begun
pub record Scan : Type 0 where
  pub state : State
  pub piece : List ℕ

abbrev pub scanned : State → List ℕ → Scan
scanned x w = record { state = x; piece = w }

abbrev pub started : Option Scan
started = Some (scanned begun [])

abbrev pub begin_piece : State → ℕ → Option Scan
begin_piece x b = if is_blank b then Some (scanned x []) else if viable x (b ∷ []) then Some (scanned x (b ∷ [])) else None

abbrev pub begin_behind : Option State → ℕ → Option Scan
begin_behind None b = None
begin_behind (Some x) b = begin_piece x b

abbrev pub followed : State → List ℕ → ℕ → Option Scan
followed x w b = if viable x (w ++ b ∷ []) then Some (scanned x (w ++ b ∷ [])) else begin_behind (behind x w) b

abbrev pub next_at : State → List ℕ → ℕ → Option Scan
next_at x [] b = begin_piece x b
next_at x (c ∷ cs) b = followed x (c ∷ cs) b

abbrev pub next : Option Scan → ℕ → Option Scan
next None b = None
next (Some s) b = next_at s.state s.piece b

abbrev pub scan : Option Scan → List ℕ → Option Scan
scan s [] = s
scan s (b ∷ bs) = scan (next s b) bs

abbrev pub ended_behind : Option State → Option (List Mark)
ended_behind None = None
ended_behind (Some x) = ended x

abbrev pub finished_at : State → List ℕ → Option (List Mark)
finished_at x [] = ended x
finished_at x (c ∷ cs) = ended_behind (behind x (c ∷ cs))

-- what was read, where the text is a type's
abbrev pub finished : Scan → Option (List Mark)
finished s = finished_at s.state s.piece
