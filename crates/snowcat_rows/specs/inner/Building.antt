-- The type that marks leave.
use Rattle.std.specs.Prelude.{ℕ, List, [], ◌∷◌, ◌++◌, Option, None}
use Rattle.snowcat_rows.specs.declared.marks.Mark.{Mark}
use Rattle.snowcat_rows.specs.declared.marks.Mark.TheVariants as mark
use Rattle.snowcat_rows.specs.declared.marks.Seen.{Seen}
use Rattle.snowcat_rows.specs.declared.marks.Seen.TheVariants as seen
use Rattle.snowcat_rows.specs.Types.{Term, var, con, app, fields, row, lookup, BoolHead, IntHead, StrHead, NamedHead, SetHead, SeqHead, FunHead, TupHead, OperHead}
use Rattle.snowcat_rows.specs.Readings.{Known, find, number, noted, read_alias, read_row, zipped, or_first, unless_found}

-- a type, or several
pub data Item : Type 0 where
  one : Term → Item
  several : List Term → Item

-- what was built, the last first, and what has a number
pub record Site : Type 0 where
  pub items : List Item
  pub seen : List Seen

abbrev pub site : List Item → List Seen → Site
site is ns = record { items = is; seen = ns }

abbrev pub push : Term × List Seen → List Item → Site
push r is = site (one r.0 ∷ is) r.1

abbrev pub wrap : Term → List Item → List Item
wrap h (one a ∷ is) = one (app h a) ∷ is
wrap h is = is

abbrev pub arrow : List Item → List Item
arrow (one b ∷ one a ∷ is) = one (app (con FunHead) (app a b)) ∷ is
arrow is = is

abbrev pub gather_one : List Item → List Item
gather_one (one a ∷ is) = several (a ∷ []) ∷ is
gather_one is = is

abbrev pub gather_more : List Item → List Item
gather_more (one a ∷ several ts ∷ is) = several (ts ++ a ∷ []) ∷ is
gather_more is = is

abbrev pub tuple_all : List Item → List Item
tuple_all (several ts ∷ is) = one (app (con TupHead) (row ts)) ∷ is
tuple_all is = is

abbrev pub record_all : List (List ℕ) → Option ℕ × List Seen → List Item → List Item
record_all xs j (several ts ∷ is) = one (fields (lookup (zipped xs ts)) j.0) ∷ is
record_all xs j is = is

abbrev pub operator_all : List Item → List Item
operator_all (one b ∷ several ts ∷ is) = one (app (con OperHead) (app (row ts) b)) ∷ is
operator_all is = is

-- what one mark makes of it
abbrev pub built : Known → Mark → Site → Site
built k mark.Bool s = site (one (con BoolHead) ∷ s.items) s.seen
built k mark.Int s = site (one (con IntHead) ∷ s.items) s.seen
built k mark.Str s = site (one (con StrHead) ∷ s.items) s.seen
built k (mark.Named x) s = site (one (con (NamedHead x)) ∷ s.items) s.seen
built k (mark.Var x) s = site (one (var (number (seen.Type x) s.seen)) ∷ s.items) (noted (seen.Type x) s.seen)
built k (mark.Alias x) s = push (read_alias (find k x) s.seen) s.items
built k mark.Set s = site (wrap (con SetHead) s.items) s.seen
built k mark.Seq s = site (wrap (con SeqHead) s.items) s.seen
built k mark.Function s = site (arrow s.items) s.seen
built k mark.Nothing s = site (several [] ∷ s.items) s.seen
built k mark.One s = site (gather_one s.items) s.seen
built k mark.Join s = site (gather_more s.items) s.seen
built k mark.Tuple s = site (tuple_all s.items) s.seen
built k (mark.Record xs r) s = let j = read_row r s.seen in site (record_all xs j s.items) j.1
built k mark.Operator s = site (operator_all s.items) s.seen

abbrev pub built_all : Known → List Mark → Site → Site
built_all k [] s = s
built_all k (m ∷ ms) s = built_all k ms (built k m s)

abbrev pub unknown_mark : Known → Mark → Option (List ℕ)
unknown_mark k (mark.Alias x) = unless_found x (find k x)
unknown_mark k m = None

-- the first alias that is unknown
abbrev pub unknown_in : Known → List Mark → Option (List ℕ)
unknown_in k [] = None
unknown_in k (m ∷ ms) = or_first (unknown_mark k m) (unknown_in k ms)
