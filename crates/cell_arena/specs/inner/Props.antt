-- What is said of an arena has one proof.
use Rattle.std.specs.Prelude.{ℕ, List, Bool}
use Rattle.std.specs.Coded.{le_prop, Coded-set, coded_ℕ, coded_bool}
use Rattle.sat_formula.specs.declared.lit.Lit.{Lit}
use Rattle.sat_formula.specs.declared.cnf.Cnf.{Cnf}
use Rattle.word_blaster.specs.Word.{WordBelow}
use Rattle.cell_arena.specs.declared.kinds.CellKind.{CellKind}
use Rattle.cell_arena.specs.declared.kinds.CellKind.TheVariants.{Bit, Word, Text, Set, Fun, Rec, Tup, Seq}
use Rattle.cell_arena.specs.Cells.{Cells, WellBuilt, IsHeld, RefersBelow, NamesBelow, IsFormed, InRange}

WordBelow-prop : (n : ℕ) (w : List Lit) → IsProp (WordBelow n w)
unfolding WordBelow
WordBelow-prop n w = hlevel (le_prop)

RefersBelow-prop : (n : ℕ) (k : CellKind) → IsProp (RefersBelow n k)
RefersBelow-prop n (Bit l) = hlevel (le_prop)
RefersBelow-prop n (Word w) = hlevel (le_prop)
RefersBelow-prop n (Text w) = hlevel (le_prop)
RefersBelow-prop n (Set es) = hlevel (le_prop)
RefersBelow-prop n (Fun es) = hlevel (le_prop)
RefersBelow-prop n (Rec fs) = hlevel (le_prop)
RefersBelow-prop n (Tup ps) = hlevel (le_prop)
RefersBelow-prop n (Seq w ps) = hlevel (le_prop)

NamesBelow-prop : (n : ℕ) (k : CellKind) → IsProp (NamesBelow n k)
NamesBelow-prop n (Bit l) = hlevel (le_prop)
NamesBelow-prop n (Word w) = WordBelow-prop n w
NamesBelow-prop n (Text w) = WordBelow-prop n w
NamesBelow-prop n (Set es) = hlevel (le_prop)
NamesBelow-prop n (Fun es) = hlevel (le_prop)
NamesBelow-prop n (Rec fs) = hlevel (le_prop)
NamesBelow-prop n (Tup ps) = hlevel (le_prop)
NamesBelow-prop n (Seq w ps) = WordBelow-prop n w

ℕ-set : IsSet ℕ
ℕ-set = Coded-set coded_ℕ

Bool-set : IsSet Bool
Bool-set = Coded-set coded_bool

IsFormed-prop : (width : ℕ) (k : CellKind) → IsProp (IsFormed width k)
IsFormed-prop width (Bit l) = hlevel (ℕ-set, Bool-set)
IsFormed-prop width (Word w) = hlevel (ℕ-set, Bool-set)
IsFormed-prop width (Text w) = hlevel (ℕ-set, Bool-set)
IsFormed-prop width (Set es) = hlevel (ℕ-set, Bool-set)
IsFormed-prop width (Fun es) = hlevel (ℕ-set, Bool-set)
IsFormed-prop width (Rec fs) = hlevel (ℕ-set, Bool-set)
IsFormed-prop width (Tup ps) = hlevel (ℕ-set, Bool-set)
IsFormed-prop width (Seq w ps) = hlevel (le_prop, ℕ-set)

IsHeld-prop : (n vars width : ℕ) (k : CellKind) → IsProp (IsHeld n vars width k)
IsHeld-prop n vars width k = hlevel (RefersBelow-prop, NamesBelow-prop, IsFormed-prop)

pub WellBuilt-prop : (c : Cells) → IsProp (WellBuilt c)
WellBuilt-prop c = hlevel (IsHeld-prop, le_prop, Bool-set, ℕ-set)

pub InRange-prop : (c : Cells) (f : Cnf) → IsProp (InRange c f)
unfolding InRange
InRange-prop c f = hlevel (Bool-set)
