-- What the text of a type says: its aliases replaced, its variables numbered in the order in which they occur first.
-- Source: the Apalache manual, "Type System 1.2" and "Type aliases".
use Rattle.std.specs.Prelude.{ℕ, zero, suc, ◌+◌, ◌≡◌, ◌==◌, ◌&&◌, ◌⊎◌, Bool, false, not, List, [], ◌∷◌, ◌++◌, length, take, MatchResult, Option, Some, None, is_some, option_map, Result, bytes_eq, if◌then◌else◌}
use Rattle.snowcat_rows.specs.LiteralTypes.{in_word}
use Rattle.snowcat_rows.specs.declared.marks.Seen.{Seen}
use Rattle.snowcat_rows.specs.declared.marks.Seen.TheVariants as seen
use Rattle.snowcat_rows.specs.declared.faults.TypeTextFault.{TypeTextFault}
use Rattle.snowcat_rows.specs.declared.faults.TypeTextFault.TheVariants as fault
use Rattle.snowcat_rows.specs.declared.types.Ty.{Ty}
use Rattle.snowcat_rows.specs.Types.{mean, Term, Slot, var, con, app, fields, none, some, row, lookup, BoolHead, IntHead, StrHead, NamedHead, SetHead, SeqHead, FunHead, TupHead, OperHead}
use Rattle.snowcat_rows.specs.TypeTexts.{Syntax, Syntaxes, Fields, bool, int, str, named, variable, alias, set, seq, function, tuple, record_of, constant, operator, parens, end, more, last, also, names_of, is_name, IsBadAt, IsTypeText}

-- ---- numbers of variables

abbrev pub same_seen : Seen → Seen → Bool
same_seen (seen.Type x) (seen.Type y) = bytes_eq x y
same_seen (seen.Row x) (seen.Row y) = bytes_eq x y
same_seen x y = false

-- the number of what has one already, or else the next number
abbrev pub number : Seen → List Seen → ℕ
number v [] = 0
number v (w ∷ ws) = if same_seen w v then 0 else suc (number v ws)

-- it has a number from now on
abbrev pub noted : Seen → List Seen → List Seen
noted v [] = v ∷ []
noted v (w ∷ ws) = if same_seen w v then w ∷ ws else w ∷ noted v ws

abbrev pub own : ℕ → List Seen
own zero = []
own (suc n) = seen.Own ∷ own n

-- ---- aliases

-- the aliases that count: each with its type, and with the number of its variables
abbrev pub Known : Type 0
Known = List (List ℕ × Term × ℕ)

-- the first of that name
abbrev pub find : Known → List ℕ → Option (Term × ℕ)
find [] x = None
find (a ∷ k) x = if bytes_eq a.0 x then Some (a.1, a.2) else find k x

-- the type with greater numbers
abbrev mutual
  pub moved : ℕ → Term → Term
  moved n (var v) = var (n + v)
  moved n (con h) = con h
  moved n (app a b) = app (moved n a) (moved n b)
  moved n (fields f k) = fields (λ x. moved_slot n (f x)) (option_map (λ r. n + r) k)

  pub moved_slot : ℕ → Slot → Slot
  moved_slot n none = none
  moved_slot n (some t) = some (moved n t)

-- ---- what a type says, where some have numbers already; and what has a number behind it

abbrev pub zipped : List (List ℕ) → List Term → List (List ℕ × Term)
zipped (n ∷ ns) (t ∷ ts) = (n, t) ∷ zipped ns ts
zipped ns ts = []

abbrev pub read_alias : Option (Term × ℕ) → List Seen → Term × List Seen
read_alias None ns = (con BoolHead, ns)
read_alias (Some a) ns = (moved (length ns) a.0, ns ++ own a.1)

abbrev pub read_row : Option (List ℕ) → List Seen → Option ℕ × List Seen
read_row None ns = (None, ns)
read_row (Some r) ns = (Some (number (seen.Row r) ns), noted (seen.Row r) ns)

abbrev mutual
  pub read : Known → Syntax → List Seen → Term × List Seen
  read k bool ns = (con BoolHead, ns)
  read k int ns = (con IntHead, ns)
  read k str ns = (con StrHead, ns)
  read k (named x) ns = (con (NamedHead x), ns)
  read k (variable x) ns = (var (number (seen.Type x) ns), noted (seen.Type x) ns)
  read k (alias x) ns = read_alias (find k x) ns
  read k (set s) ns = let r = read k s ns in (app (con SetHead) r.0, r.1)
  read k (seq s) ns = let r = read k s ns in (app (con SeqHead) r.0, r.1)
  read k (function s t) ns = let r = read k s ns in let q = read k t r.1 in (app (con FunHead) (app r.0 q.0), q.1)
  read k (tuple s ss) ns = let r = read k s ns in let q = read_all k ss r.1 in (app (con TupHead) (row (r.0 ∷ q.0)), q.1)
  read k (record_of n s fs t) ns =
      let r = read k s ns in
      let q = read_fields k fs r.1 in
      let j = read_row t q.1 in
      (fields (lookup (zipped (n ∷ names_of fs) (r.0 ∷ q.0))) j.0, j.1)
  read k (constant t) ns = let r = read k t ns in (app (con OperHead) (app (row []) r.0), r.1)
  read k (operator s ss t) ns =
      let r = read k s ns in
      let q = read_all k ss r.1 in
      let p = read k t q.1 in
      (app (con OperHead) (app (row (r.0 ∷ q.0)) p.0), p.1)
  read k (parens s) ns = read k s ns

  pub read_all : Known → Syntaxes → List Seen → List Term × List Seen
  read_all k end ns = ([], ns)
  read_all k (more s ss) ns = let r = read k s ns in let q = read_all k ss r.1 in (r.0 ∷ q.0, q.1)

  pub read_fields : Known → Fields → List Seen → List Term × List Seen
  read_fields k last ns = ([], ns)
  read_fields k (also n s fs) ns = let r = read k s ns in let q = read_fields k fs r.1 in (r.0 ∷ q.0, q.1)

-- ---- which aliases are unknown

abbrev pub or_first : Option (List ℕ) → Option (List ℕ) → Option (List ℕ)
or_first (Some x) y = Some x
or_first None y = y

abbrev pub unless_found : List ℕ → Option (Term × ℕ) → Option (List ℕ)
unless_found x None = Some x
unless_found x (Some a) = None

-- the first alias of the type that is unknown
abbrev mutual
  pub unknown : Known → Syntax → Option (List ℕ)
  unknown k (alias x) = unless_found x (find k x)
  unknown k (set s) = unknown k s
  unknown k (seq s) = unknown k s
  unknown k (function s t) = or_first (unknown k s) (unknown k t)
  unknown k (tuple s ss) = or_first (unknown k s) (unknown_all k ss)
  unknown k (record_of n s fs t) = or_first (unknown k s) (unknown_fields k fs)
  unknown k (constant t) = unknown k t
  unknown k (operator s ss t) = or_first (or_first (unknown k s) (unknown_all k ss)) (unknown k t)
  unknown k (parens s) = unknown k s
  unknown k s = None

  pub unknown_all : Known → Syntaxes → Option (List ℕ)
  unknown_all k end = None
  unknown_all k (more s ss) = or_first (unknown k s) (unknown_all k ss)

  pub unknown_fields : Known → Fields → Option (List ℕ)
  unknown_fields k last = None
  unknown_fields k (also n s fs) = or_first (unknown k s) (unknown_fields k fs)

-- ---- which aliases count

-- an alias counts where its text is a type's whose aliases are known; then it stands behind those before it
abbrev pub Counts : Known → List ℕ × List ℕ → Known → Type 0
Counts k a j =
    ((s : Syntax) × IsTypeText a.1 s × (unknown k s ≡ None) × (j ≡ k ++ (a.0, (read k s []).0, length (read k s []).1) ∷ []))
    ⊎ (((s : Syntax) → IsTypeText a.1 s → unknown k s ≡ None → ⊥) × (j ≡ k))

-- behind known aliases these come, and then so many are known
abbrev pub Knows : Known → List (List ℕ × List ℕ) → Known → Type 0
Knows k [] j = j ≡ k
Knows k (a ∷ rest) j = (i : Known) × Counts k a i × Knows i rest j

-- by the aliases that are known the text says this type, with so many variables
abbrev pub IsReadBy : Known → List ℕ → Term → ℕ → Type 0
IsReadBy k text t n =
    (s : Syntax) × IsTypeText text s × (unknown k s ≡ None) × (t ≡ (read k s []).0) × (n ≡ length (read k s []).1)

-- the text is that of a type whose aliases are known, and this is what it says
pub record IsReadAs (aliases : List (List ℕ × List ℕ)) (text : List ℕ) (t : Term) : Type 0 where
  pub known : Known
  pub syntax_of : Syntax
  pub knows : Knows [] aliases known
  pub is_text : IsTypeText text syntax_of
  pub all_known : unknown known syntax_of ≡ None
  pub says : t ≡ (read known syntax_of []).0

-- ---- unknown aliases of a text that is no type's

-- the letters, digits and _ that the bytes begin with
abbrev pub first_word : List ℕ → List ℕ
first_word [] = []
first_word (b ∷ bs) = if in_word b then b ∷ first_word bs else []

abbrev pub is_unknown : Known → List ℕ → Bool
is_unknown k x = is_name x && not (is_some (find k x))

-- the bytes begin with `$` and the name of an alias that is unknown
abbrev pub begins_unknown : Known → List ℕ → Bool
begins_unknown k [] = false
begins_unknown k (b ∷ bs) = b == 36 && is_unknown k (first_word bs)

-- the first alias in the bytes that is unknown
abbrev pub unknown_within : Known → List ℕ → Option (List ℕ)
unknown_within k [] = None
unknown_within k (b ∷ bs) = if begins_unknown k (b ∷ bs) then Some (first_word bs) else unknown_within k bs

-- ---- the answers

-- why a text is not read: the first unknown alias, of the type or before the bad byte; or the place of this byte
abbrev pub IsFaultOf : Known → List ℕ → TypeTextFault → Type 0
IsFaultOf k text (fault.BadType n) = IsBadAt text n × (unknown_within k (take n text) ≡ None)
IsFaultOf k text (fault.UnknownAlias x) =
    ((s : Syntax) × IsTypeText text s × (unknown k s ≡ Some x))
    ⊎ ((n : ℕ) × IsBadAt text n × (unknown_within k (take n text) ≡ Some x))
IsFaultOf k text (fault.Memory e) = Unit {0}

abbrev pub IsTextFault : List (List ℕ × List ℕ) → List ℕ → TypeTextFault → Type 0
IsTextFault aliases text (fault.Memory e) = Unit {0}
IsTextFault aliases text f = (k : Known) × Knows [] aliases k × IsFaultOf k text f

abbrev pub WantsMemory : TypeTextFault → Type 0
WantsMemory (fault.Memory e) = Unit {0}
WantsMemory e = ⊥

-- where the text says a type, this is the answer, unless memory is wanted
abbrev pub IsOnly : List (List ℕ × List ℕ) → List ℕ → Result Ty TypeTextFault → Type 0
IsOnly aliases text r = (t : Term) → IsReadAs aliases text t → MatchResult r (λ u. mean u ≡ t) WantsMemory
