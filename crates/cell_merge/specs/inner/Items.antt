-- Two sets, or two functions, an item of the one with one of the other.
use Rattle.std.specs.Prelude.{◌≡◌, ℕ, ◌<◌, Bool, true, false, not, ◌&&◌, List, [], ◌∷◌, All, map, take, length, slice_index_or, Option, Some, None, if◌then◌else◌}
use Rattle.sat_formula.specs.declared.lit.Lit.{Lit}
use Rattle.sat_formula.specs.declared.cnf.Cnf.{Cnf}
use Rattle.sat_formula.specs.Lit.{lit_value, values, IsBelow}
use Rattle.sat_formula.specs.Formula.{Satisfies}
use Rattle.tla_values.specs.Order.{same_value}
use Rattle.tla_values.specs.Sets.{apply, member}
use Rattle.tla_values.specs.Sequences.{sequence}
use Rattle.tla_values.specs.declared.value.Value.{Value}
use Rattle.cell_arena.specs.declared.kinds.CellId.{CellId}
use Rattle.cell_arena.specs.declared.kinds.CellKind.{CellKind}
use Rattle.cell_arena.specs.declared.kinds.CellKind.TheVariants.{Set, Fun}
use Rattle.cell_arena.specs.Cells.{Cells, kind_at}
use Rattle.cell_arena.specs.Decode.{decode, present_pairs}
use Rattle.cell_merge.specs.Sorts.{OneType}
use Rattle.cell_merge.specs.Arrows.{argument_edges}
use Rattle.cell_merge.specs.Edges.{any_edge}

-- a set or a function
abbrev pub HasItems : CellKind → Type 0
HasItems (Set es) = Unit {0}
HasItems (Fun es) = Unit {0}
HasItems k = ⊥

-- two sets, or two functions, of one sort
pub record ItemsOfOneType (ks : List CellKind) (x y : CellId) : Type 0 where
  pub types : OneType ks x y
  pub items : HasItems (kind_at ks x)

-- an edge to each member of a set, or to each argument of a function
abbrev pub heads_of : CellKind → List (Lit × CellId)
heads_of (Set es) = es
heads_of (Fun es) = argument_edges es
heads_of k = []

abbrev pub head_of : CellKind → ℕ → Lit × CellId
head_of k i = slice_index_or (heads_of k) i (record { var = 0; neg = false }, record { index = 0 })

-- the result of an arrow; an edge of a set has none
abbrev pub tail_of : CellKind → ℕ → Option CellId
tail_of (Fun es) i = Some (slice_index_or (map (λ e. e.2) es) i (record { index = 0 }))
tail_of k i = None

-- an argument with its result, as a tuple
abbrev pub pair_value : Value → Value → Value
pair_value u w = sequence (u ∷ w ∷ [])

-- the value of a member, or of an argument with its result
abbrev pub item_value : (CellId → Value) → CellId → Option CellId → Value
item_value of head None = of head
item_value of head (Some tail) = pair_value (of head) (of tail)

abbrev pub item_at : (CellId → Value) → CellKind → ℕ → Value
item_at of k i = item_value of (head_of k i).1 (tail_of k i)

abbrev pub items : (CellId → Value) → CellKind → List Value
items of (Set es) = map (λ e. of e.1) es
items of (Fun es) = map (λ e. pair_value (of e.1) (of e.2)) es
items of k = []

-- an item of the one cell
pub record ItemAndCell (ks : List CellKind) (x : CellId) (i : ℕ) (y : CellId) : Type 0 where
  pub types : ItemsOfOneType ks x y
  pub within : i < length (heads_of (kind_at ks x))

-- an item of the one and an item of the other
pub record ItemsAlike (ks : List CellKind) (x y : CellId) (i j : ℕ) : Type 0 where
  pub types : ItemsOfOneType ks x y
  pub left : i < length (heads_of (kind_at ks x))
  pub right : j < length (heads_of (kind_at ks y))

-- whether an item stands: a member that is there, or an arrow that is there and no earlier one that is
-- there has its argument
abbrev pub stands_at : List Bool → (CellId → Value) → CellKind → ℕ → Bool
stands_at a of (Fun es) n = let h = slice_index_or (argument_edges es) n (record { var = 0; neg = false }, record { index = 0 }) in
    lit_value h.0 a && not (any_edge a of (same_value (of h.1)) (take n (argument_edges es)))
stands_at a of k n = lit_value (head_of k n).0 a

-- the values whose flag is set
abbrev pub kept : List Bool → List Value → List Value
kept [] vs = []
kept (b ∷ bs) [] = []
kept (b ∷ bs) (v ∷ vs) = if b then v ∷ kept bs vs else kept bs vs

-- the option is this value
abbrev pub gives : Option Value → Value → Bool
gives None w = false
gives (Some z) w = same_value w z

-- the pairs that are kept are those of the function
abbrev pub IsGraph : List Bool → List Value → List (Value × Value) → Type 0
IsGraph bs vs ps = (u w : Value) → member (pair_value u w) (kept bs vs) ≡ gives (apply ps u) w

-- of the first n items these stand
abbrev pub AreStanding : List Bool → (CellId → Value) → CellKind → ℕ → List Bool → Type 0
AreStanding a of (Set es) n bs = bs ≡ map (λ e. lit_value e.0 a) (take n es)
AreStanding a of (Fun es) n bs = IsGraph bs (take n (items of (Fun es))) (present_pairs a of (take n es))
AreStanding a of k n bs = Unit {0}

pub record TellStanding (c : Cells) (f : Cnf) (k : CellKind) (n : ℕ) (ls : List Lit) : Type 0 where
  pub named : All (IsBelow f.vars) ls
  pub count : length ls ≡ n
  pub flags : (a : List Bool) → Satisfies a f → AreStanding a (decode c a) k n (values ls a)

-- a literal for each item
pub record AreFor (f : Cnf) (k : CellKind) (ls : List Lit) : Type 0 where
  pub named : All (IsBelow f.vars) ls
  pub count : length ls ≡ length (heads_of k)

-- which items of each of the two stand
pub record AreSides (c : Cells) (f : Cnf) (x y : CellId) (left right : List Lit) : Type 0 where
  pub ours : TellStanding c f (kind_at c.kinds x) (length (heads_of (kind_at c.kinds x))) left
  pub theirs : TellStanding c f (kind_at c.kinds y) (length (heads_of (kind_at c.kinds y))) right

-- two lists have one length as the flags, and are equal where the flag is set
abbrev pub Agree : List Bool → List Bool → List Bool → Type 0
Agree [] [] [] = Unit {0}
Agree [] [] (q ∷ qs) = ⊥
Agree [] (p ∷ ps) qs = ⊥
Agree (b ∷ bs) [] qs = ⊥
Agree (b ∷ bs) (p ∷ ps) [] = ⊥
Agree (b ∷ bs) (p ∷ ps) (q ∷ qs) = (b ≡ true → p ≡ q) × Agree bs ps qs

-- for each of the first n items of the other that stands, whether it has the value of this one
pub record IsRow (c : Cells) (f : Cnf) (v : List Bool → Value) (k : CellKind) (theirs : List Lit) (n : ℕ) (row : List Lit) : Type 0 where
  pub named : All (IsBelow f.vars) row
  pub count : length row ≡ n
  pub flags : (a : List Bool) → Satisfies a f → Agree (values (take n theirs) a) (values row a) (map (same_value (v a)) (take n (items (decode c a) k)))

-- for each of the first n items of the one that stands whether it is among the other's, and for each of
-- the other's whether it is among those first ones
pub record ComparesItems (c : Cells) (f : Cnf) (k m : CellKind) (ours theirs : List Lit) (n : ℕ) (found covered : List Lit) : Type 0 where
  pub found_named : All (IsBelow f.vars) found
  pub found_count : length found ≡ n
  pub covered_named : All (IsBelow f.vars) covered
  pub covered_count : length covered ≡ length theirs
  pub each_found : (a : List Bool) → Satisfies a f → let of = decode c a in
      Agree (values (take n ours) a) (values found a) (map (λ v. member v (kept (values theirs a) (items of m))) (take n (items of k)))
  pub each_covered : (a : List Bool) → Satisfies a f → let of = decode c a in
      Agree (values theirs a) (values covered a) (map (λ v. member v (kept (values (take n ours) a) (take n (items of k)))) (items of m))
