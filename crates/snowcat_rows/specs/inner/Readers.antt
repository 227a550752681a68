-- What the code's state stands for.
use Rattle.std.specs.Prelude.{ℕ, ◌≡◌, ◌&&◌, ◌||◌, codes, Bool, true, false, List, [], ◌∷◌, length, map, reverse, Option, Some, None, if◌then◌else◌}
use Rattle.snowcat_rows.specs.declared.marks.Frame.{Frame}
use Rattle.snowcat_rows.specs.declared.marks.Frame.TheVariants as frame
use Rattle.snowcat_rows.specs.declared.marks.Mark.{Mark}
use Rattle.snowcat_rows.specs.declared.marks.Sign.{Sign}
use Rattle.snowcat_rows.specs.declared.marks.Sign.TheVariants as sign
use Rattle.snowcat_rows.specs.declared.marks.Mode.{Mode}
use Rattle.snowcat_rows.specs.declared.marks.Mode.TheVariants as mode
use Rattle.snowcat_rows.specs.declared.reader.Reader.{Reader}
use Rattle.snowcat_rows.specs.declared.building.Built.{Built}
use Rattle.snowcat_rows.specs.declared.building.Built.TheVariants as built
use Rattle.snowcat_rows.specs.declared.building.Builder.{Builder}
use Rattle.snowcat_rows.specs.declared.building.Alias.{Alias}
use Rattle.snowcat_rows.specs.declared.types.Ty.{Ty}
use Rattle.snowcat_rows.specs.Types.{Term, mean}
use Rattle.snowcat_rows.specs.Readings.{Known, moved, read_row}
use Rattle.snowcat_rows.specs.declared.marks.Seen.{Seen}
use Rattle.snowcat_rows.specs.inner.Building.{Item, one, several, Site, site, built as built_mark, built_all, unknown_mark, unknown_in, record_all}
use Rattle.snowcat_rows.specs.declared.faults.TypeTextFault.{TypeTextFault}
use Rattle.snowcat_rows.specs.declared.faults.TypeTextFault.TheVariants as fault
use Rattle.snowcat_rows.specs.declared.scanning.Scanner.{Scanner}
use Rattle.snowcat_rows.specs.TypeTexts.{Syntax, IsTypeText}
use Rattle.snowcat_rows.specs.inner.Marks.{marked}
use Rattle.snowcat_rows.specs.inner.Machine.{State, Rows, Scan, scanned, unwind, can_name, can_end, is_front}

abbrev pub state_at : Mode → List Frame → Rows → List Mark → State
state_at m fs rs o = record { mode = m; frames = fs; rows = rs; marks = o }

abbrev pub state_of : Reader → State
state_of r = state_at r.mode (reverse r.frames.items) r.rows.items r.marks.items

-- the state that is left, where the piece was one that may come
abbrev pub left : Bool → Reader → Option State
left ok r = if ok then Some (state_of r) else None

abbrev pub unwound : Reader → List Frame × List Mark
unwound r = unwind (reverse r.frames.items) r.marks.items

-- a piece that closes a frame, or goes on in it
abbrev pub closes : Sign → Frame → Bool
closes sign.Comma (frame.Tuple b) = true
closes sign.Comma (frame.Paren b) = true
closes sign.Comma (frame.Field ns n) = true
closes sign.Close frame.Set = true
closes sign.Close frame.Seq = true
closes sign.Close (frame.Paren b) = true
closes sign.Right (frame.Tuple b) = true
closes sign.Finish (frame.Field ns n) = true
closes s f = false

abbrev pub is_arrow : Frame → Bool
is_arrow frame.Function = true
is_arrow frame.Operator = true
is_arrow f = false

-- the innermost frame that is no arrow's
abbrev pub closes_inner : Sign → List Frame → Bool
closes_inner s [] = false
closes_inner s (f ∷ fs) = if is_arrow f then closes_inner s fs else closes s f

-- ---- which symbols may come, by the innermost frame

abbrev pub top_of : List Frame → Option Frame
top_of [] = None
top_of (f ∷ fs) = Some f

abbrev pub opens_parenthesis : Option Frame → Bool
opens_parenthesis (Some (frame.Paren false)) = true
opens_parenthesis f = false

abbrev pub begin_takes : Option Frame → Sign → Bool
begin_takes f sign.Open = true
begin_takes f sign.Left = true
begin_takes f sign.Begin = true
begin_takes f sign.Close = opens_parenthesis f
begin_takes f s = false

abbrev pub fields_take : List (List ℕ) → Rows → Sign → List ℕ → Bool
fields_take ns rs sign.Colon w = can_name ns w
fields_take ns rs sign.Finish w = can_end rs ns w
fields_take ns rs s w = false

abbrev pub called_takes : Option Frame → Rows → Sign → List ℕ → Bool
called_takes (Some (frame.Fields ns)) rs s w = fields_take ns rs s w
called_takes f rs s w = false

abbrev pub end_takes : List Frame → Bool → Sign → Bool
end_takes fs b sign.Arrow = true
end_takes fs b sign.Result = b
end_takes fs b s = closes_inner s fs

abbrev pub is_open : Sign → Bool
is_open sign.Open = true
is_open s = false

abbrev pub is_result : Sign → Bool
is_result sign.Result = true
is_result s = false

abbrev pub mode_takes : Mode → List Frame → Rows → Sign → Bool
mode_takes mode.Begins fs rs s = begin_takes (top_of fs) s
mode_takes mode.Headed fs rs s = is_open s
mode_takes mode.Name fs rs s = false
mode_takes (mode.Called w) fs rs s = called_takes (top_of fs) rs s w
mode_takes (mode.Ended b) fs rs s = end_takes fs b s
mode_takes mode.Closed fs rs s = is_result s

abbrev pub takes : Reader → Sign → Bool
takes r s = mode_takes r.mode (reverse r.frames.items) r.rows.items s

abbrev pub symbol_goes : Reader → List ℕ → Bool
symbol_goes r p =
    (is_front p (codes "->") && takes r sign.Arrow) || ((is_front p (codes "=>") && takes r sign.Result) || ((is_front p (codes ",") && takes r sign.Comma)
    || ((is_front p (codes ":") && takes r sign.Colon) || ((is_front p (codes "(") && takes r sign.Open) || ((is_front p (codes ")") && takes r sign.Close)
    || ((is_front p (codes "<<") && takes r sign.Left) || ((is_front p (codes ">>") && takes r sign.Right) || ((is_front p (codes "{") && takes r sign.Begin)
    || ((is_front p (codes "}") && takes r sign.Finish) || false)))))))))

-- the state with the piece that has begun
abbrev pub scan_of : Scanner → Scan
scan_of s = scanned (state_of s.reader) s.piece.items

abbrev pub scan_left : Bool → Scanner → Option Scan
scan_left ok s = if ok then Some (scan_of s) else None

-- the marks of a type whose text this is
abbrev pub AreMarks : List ℕ → List Mark → Type 0
AreMarks text ms = (s : Syntax) × IsTypeText text s × (ms ≡ marked s [])

-- ---- what was built

abbrev pub item_of : Built → Item
item_of (built.Type t d) = one (mean t)
item_of (built.Types ts d) = several (map mean ts)

abbrev pub site_of : Builder → Site
site_of b = site (map item_of (reverse b.items.items)) b.seen.items

-- the aliases that count, as the code keeps them
abbrev pub known_of : List Alias → Known
known_of ks = map (λ k. (k.name, mean k.of, k.count)) ks

-- the fields with greater numbers
abbrev pub moved_fields : ℕ → List (List ℕ × Ty) → List (List ℕ × Term)
moved_fields n fs = map (λ f. (f.0, moved n (mean f.1))) fs

-- ---- aliases

abbrev pub found_of : Option Alias → Option (Term × ℕ)
found_of None = None
found_of (Some a) = Some (mean a.of, a.count)

-- the alias that is unknown, where the fault tells one
abbrev pub Tells : Option (List ℕ) → TypeTextFault → Type 0
Tells x (fault.UnknownAlias y) = x ≡ Some y
Tells x (fault.BadType n) = ⊥
Tells x (fault.Memory e) = Unit {0}

-- the mark was built, and is no alias that is unknown
abbrev pub IsBuilt : Known → Mark → Site → Site → Type 0
IsBuilt k m s t = (t ≡ built_mark k m s) × (unknown_mark k m ≡ None)

abbrev pub IsRow : Option ℕ → Option (List ℕ) → Site → Site → Type 0
IsRow k r s t = (k ≡ (read_row r s.seen).0) × (t ≡ site s.items (read_row r s.seen).1)

abbrev pub recorded : List (List ℕ) → Option ℕ × List Seen → Site → Site
recorded xs j s = site (record_all xs j s.items) j.1

-- the marks were built, and no alias among them is unknown
abbrev pub AreBuilt : Known → List Mark → Site → Type 0
AreBuilt k ms s = (s ≡ built_all k ms (site [] [])) × (unknown_in k ms ≡ None)

-- the last that was built is this type, and so many have a number
abbrev pub Leaves : Site → Term → ℕ → Type 0
Leaves s t n = ((is : List Item) × (s.items ≡ one t ∷ is)) × (n ≡ length s.seen)
