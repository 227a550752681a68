-- What an arena holds, and what its cells refer to (Konnov, Kukovec and Tran, "TLA+ Model Checking
-- Made Symbolic", OOPSLA 2019, section 4).
use Rattle.std.specs.Prelude.{◌≡◌, ℕ, ◌^◌, ◌+◌, ◌<◌, ◌≤◌, Bool, true, false, List, All, map, slice_index_or, length, IsTrue, ℤ, pos, negsuc, nat_lt}
use Rattle.std.specs.List.{list_all}
use Rattle.sat_formula.specs.declared.cnf.Cnf.{Cnf}
use Rattle.sat_formula.specs.Lit.{IsBelow}
use Rattle.sat_formula.specs.Formula.{Satisfies}
use Rattle.word_blaster.specs.Word.{word_value, WordBelow}
use Rattle.tla_values.specs.Sets.{distinct}
use Rattle.tla_values.specs.declared.value.Value.TheVariants as value
use Rattle.cell_arena.specs.declared.kinds.CellId.{CellId}
use Rattle.cell_arena.specs.declared.kinds.CellKind.{CellKind}
use Rattle.cell_arena.specs.declared.kinds.CellKind.TheVariants.{Bit, Word, Text, Set, Fun, Rec, Tup, Seq}

-- the texts that codes stand for, the width of numbers, the kinds of the cells with the oldest first,
-- and a number above all variables that they name
pub record Cells : Type 0 where
  pub texts : List (List ℕ)
  pub width : ℕ
  pub kinds : List CellKind
  pub vars : ℕ

-- no two of the texts are equal
abbrev pub AllDiffer : List (List ℕ) → Type 0
AllDiffer ts = IsTrue (distinct (map (λ t. value.Text t) ts))

-- each cell that the kind refers to is one of the first n
abbrev pub RefersBelow : ℕ → CellKind → Type 0
RefersBelow n (Bit l) = Unit {0}
RefersBelow n (Word w) = Unit {0}
RefersBelow n (Text w) = Unit {0}
RefersBelow n (Set es) = All (λ e. e.1.index < n) es
RefersBelow n (Fun es) = All (λ e. (e.1.index < n) × (e.2.index < n)) es
RefersBelow n (Rec fs) = All (λ f. f.1.index < n) fs
RefersBelow n (Tup ps) = All (λ p. p.index < n) ps
RefersBelow n (Seq w ps) = All (λ p. p.index < n) ps

-- each variable that the kind names is one of the first n
abbrev pub NamesBelow : ℕ → CellKind → Type 0
NamesBelow n (Bit l) = IsBelow n l
NamesBelow n (Word w) = WordBelow n w
NamesBelow n (Text w) = WordBelow n w
NamesBelow n (Set es) = All (λ e. IsBelow n e.0) es
NamesBelow n (Fun es) = All (λ e. IsBelow n e.0) es
NamesBelow n (Rec fs) = Unit {0}
NamesBelow n (Tup ps) = Unit {0}
NamesBelow n (Seq w ps) = WordBelow n w

-- words have the width, codes and lengths have 32 bits, and the fields of a record differ
abbrev pub IsFormed : ℕ → CellKind → Type 0
IsFormed width (Bit l) = Unit {0}
IsFormed width (Word w) = length w ≡ width
IsFormed width (Text w) = length w ≡ 32
IsFormed width (Set es) = Unit {0}
IsFormed width (Fun es) = Unit {0}
IsFormed width (Rec fs) = AllDiffer (map (λ f. f.0) fs)
IsFormed width (Tup ps) = Unit {0}
IsFormed width (Seq w ps) = (length w ≡ 32) × (length ps < 2 ^ 31)

-- from 0 to n - 1
abbrev pub is_index : ℕ → ℤ → Bool
is_index n (pos k) = nat_lt k n
is_index n (negsuc k) = false

-- the code is an index into n texts, and the length is at most the number of places
abbrev pub in_range : ℕ → List Bool → CellKind → Bool
in_range n a (Bit l) = true
in_range n a (Word w) = true
in_range n a (Text w) = is_index n (word_value w a)
in_range n a (Set es) = true
in_range n a (Fun es) = true
in_range n a (Rec fs) = true
in_range n a (Tup ps) = true
in_range n a (Seq w ps) = is_index (length ps + 1) (word_value w a)

abbrev pub kind_at : List CellKind → CellId → CellKind
kind_at ks id = slice_index_or ks id.index (Bit (record { var = 0; neg = false }))

-- a kind that a cell may have in front of which n cells stand, over the first `vars` variables
pub record IsHeld (n vars width : ℕ) (k : CellKind) : Type 0 where
  pub older : RefersBelow n k
  pub named : NamesBelow vars k
  pub formed : IsFormed width k

-- no two cells have one kind
abbrev pub AllApart : List CellKind → Type 0
AllApart ks = (x y : CellId) → x.index < length ks → y.index < length ks → kind_at ks x ≡ kind_at ks y → x.index ≡ y.index

-- few and different texts, and cells of different kinds that refer to older ones only
pub record WellBuilt (c : Cells) : Type 0 where
  pub differ : AllDiffer c.texts
  pub few : length c.texts < 2 ^ 31
  pub narrow : (4 ≤ c.width) × (c.width ≤ 64)
  pub held : (id : CellId) → id.index < length c.kinds → IsHeld id.index c.vars c.width (kind_at c.kinds id)
  pub apart : AllApart c.kinds

-- under each satisfying assignment each code and each length is in its range
unfoldable pub InRange : Cells → Cnf → Type 0
InRange c f = (a : List Bool) → Satisfies a f → IsTrue (list_all (in_range (length c.texts) a) c.kinds)
