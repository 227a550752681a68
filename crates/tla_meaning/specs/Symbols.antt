-- The names in scope, and which of them are declared twice (Specifying Systems, sections 17.1 and 17.3).
use Rattle.std.specs.Int.{to_be_bytes, w32}
use Rattle.std.specs.Prelude.{ℕ, Bool, true, false, not, ◌==◌, ◌&&◌, ◌||◌, List, [], ◌∷◌, ◌++◌, map, filter, codes, nat_lt, Option, Some, None, if◌then◌else◌}
use Rattle.std.specs.List.{list_any}
use Rattle.tla_meaning.specs.declared.op.Op.{Op}
use Rattle.tla_meaning.specs.declared.op.Op.TheVariants as op
use Rattle.tla_meaning.specs.declared.place.Place.{Place}
use Rattle.tla_meaning.specs.declared.symbols.Entry.{Entry}
use Rattle.tla_meaning.specs.declared.symbols.Kind.{Kind}
use Rattle.tla_meaning.specs.declared.symbols.Kind.TheVariants.{Declaration, Announcement, InstanceName, Member, Inner}
use Rattle.tla_meaning.specs.declared.symbols.Misuse.{Misuse}
use Rattle.tla_meaning.specs.declared.symbols.Misuse.TheVariants.{Arity, Twice, Unknown}
use Rattle.tla_meaning.specs.Outcomes.{before, least}
use Rattle.tla_meaning.specs.Scopes.{find_last, same_text}

-- where what is in no file stands
abbrev pub outside : Place
outside = record { file = 0; line = 1; col = 1 }

abbrev pub same_place : Place → Place → Bool
same_place p q = p.file == q.file && p.line == q.line && p.col == q.col

-- ---- origins

-- Where a symbol comes from, as bytes that tell it from every other symbol: the name of an operator of a standard
-- module, or the place where it stands. What stands at a place of a module is one symbol for each choice of what the
-- module's declared names stand for, so it comes from there over the origins of these.
abbrev pub standard_origin : List ℕ → List ℕ
standard_origin x = x ++ codes ";"

-- the parts of a place have 32 bits
unfoldable pub number_bytes : ℕ → List ℕ
number_bytes n = to_be_bytes w32 n

abbrev pub place_bytes : Place → List ℕ
place_bytes p = number_bytes p.file ++ number_bytes p.line ++ number_bytes p.col

abbrev pub origin_over : Place → List ℕ → List ℕ
origin_over p origins = codes "(" ++ place_bytes p ++ origins ++ codes ")"

-- ---- names in scope

abbrev pub is_declaration : Kind → Bool
is_declaration Declaration = true
is_declaration k = false

abbrev pub is_announcement : Kind → Bool
is_announcement Announcement = true
is_announcement k = false

abbrev pub is_instance_name : Kind → Bool
is_instance_name InstanceName = true
is_instance_name k = false

abbrev pub is_member : Kind → Bool
is_member Member = true
is_member k = false

abbrev pub is_inner : Kind → Bool
is_inner Inner = true
is_inner k = false

-- the last entry of a name
abbrev pub entry_of : List ℕ → List Entry → Option Entry
entry_of x es = find_last x (map (λ (e : Entry). (e.name, e)) es)

abbrev pub is_announced : Option Entry → Bool
is_announced None = false
is_announced (Some e) = is_announcement e.kind

-- ---- names inside an expression

abbrev pub inner_name : Place → List ℕ → ℕ → Op → Entry
inner_name p x n o = record { name = x; kind = Inner; place = p; origin = origin_over p []; stands = o; arity = n; exported = false }

abbrev pub bound : Place → List ℕ → Entry
bound p x = inner_name p x 0 (op.Bound x)

abbrev pub parameter : Place → List ℕ → Entry
parameter p x = inner_name p x 0 (op.Param x)

-- ---- names that are declared twice

-- A new name repeats one in scope: not one that is announced alone, nor the same symbol that came on another way. Where
-- the name of an INSTANCE is repeated, its members are not told besides.
abbrev pub repeats : Entry → Entry → Bool
repeats f e =
    same_text f.name e.name && not (is_member f.kind) && not (is_announcement e.kind) && (is_inner f.kind || not (same_text f.origin e.origin))

abbrev pub later : Place → Place → Place
later p q = if before p q then q else p

abbrev pub repeated : List Entry → Entry → List Misuse
repeated es f = map (λ (e : Entry). Twice f.name (least e.place f.place) (later e.place f.place)) (filter (repeats f) es)

-- new names, each beside those in scope and the new ones before it
abbrev pub all_repeated : List Entry → List Entry → List Misuse
all_repeated es [] = []
all_repeated es (f ∷ fs) = repeated es f ++ all_repeated (es ++ f ∷ []) fs

-- a name that is there serves for a new one: the same symbol on another way, declared or defined as that is
abbrev pub serves : Entry → Entry → Bool
serves f e =
    same_text e.name f.name && same_text e.origin f.origin && (e.exported || not f.exported)
    && (if is_declaration e.kind then is_declaration f.kind else not (is_declaration f.kind))

-- new names but for those that are there
abbrev pub is_there : List Entry → Entry → Bool
is_there es f = list_any (serves f) es

abbrev pub with_new : List Entry → List Entry → List Entry
with_new es [] = es
with_new es (f ∷ fs) = with_new (if is_there es f then es else es ++ f ∷ []) fs

-- ---- which misuse is told

-- for a name that is declared twice the later place counts
abbrev pub misuse_place : Misuse → Place
misuse_place (Unknown x p) = p
misuse_place (Twice x p q) = q
misuse_place (Arity p m n) = p

abbrev pub misuse_rank : Misuse → ℕ
misuse_rank (Unknown x p) = 0
misuse_rank (Twice x p q) = 1
misuse_rank (Arity p m n) = 2

abbrev pub misuse_name : Misuse → List ℕ
misuse_name (Unknown x p) = x
misuse_name (Twice x p q) = x
misuse_name (Arity p m n) = []

-- the place that decides between two of one name, place and kind
abbrev pub other_place : Misuse → Place
other_place (Twice x p q) = p
other_place m = misuse_place m

-- of one kind at one place: of one name the first in the text, and of two names the one that is told first
abbrev pub first_in_text : Misuse → Misuse → Bool
first_in_text a b = same_text (misuse_name a) (misuse_name b) && before (other_place a) (other_place b)

-- by place, at one place by kind
abbrev pub comes_before : Misuse → Misuse → Bool
comes_before a b =
    before (misuse_place a) (misuse_place b)
    || same_place (misuse_place a) (misuse_place b)
    && (nat_lt (misuse_rank a) (misuse_rank b) || misuse_rank a == misuse_rank b && first_in_text a b)

abbrev pub first_of : Option Misuse → Misuse → Option Misuse
first_of None b = Some b
first_of (Some a) b = if comes_before b a then Some b else Some a

-- the first of the least, where this one was told before
abbrev pub least_from : Option Misuse → List Misuse → Option Misuse
least_from o [] = o
least_from o (a ∷ as') = least_from (first_of o a) as'
