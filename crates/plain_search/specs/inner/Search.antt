-- What a partial assignment decides: the values of the first variables, in order.
use Rattle.std.specs.Prelude.{◌≡◌, ◌++◌, Bool, true, false, not, ◌&&◌, List, [], ◌∷◌, length, All, nat_lt}
use Rattle.std.specs.List.{list_all, list_any}
use Rattle.sat_formula.specs.declared.lit.Lit.{Lit}
use Rattle.sat_formula.specs.Lit.{lit_value}

-- each literal has a value, and is false
abbrev pub is_false : List Bool → List Lit → Bool
is_false values clause = list_all (λ l. nat_lt l.var (length values) && not (lit_value l values)) clause

-- some clause is false
abbrev pub has_false : List Bool → List (List Lit) → Bool
has_false values clauses = list_any (is_false values) clauses

-- no clause was false before the last of the values
abbrev pub WasCalm : List Bool → List (List Lit) → Type 0
WasCalm values clauses = (before : List Bool) (last : Bool) → values ≡ before ++ last ∷ [] → has_false before clauses ≡ false

-- the assignment comes before all those that begin with these values: it is false where they first differ
abbrev pub is_before : List Bool → List Bool → Bool
is_before [] a = false
is_before (v ∷ vs) [] = false
is_before (true ∷ vs) (true ∷ as') = is_before vs as'
is_before (true ∷ vs) (false ∷ as') = true
is_before (false ∷ vs) (true ∷ as') = false
is_before (false ∷ vs) (false ∷ as') = is_before vs as'

-- the next values in order after those that begin with these: the last that is false becomes true, and all behind it
-- are taken back
pub record IsTurn (old new : List Bool) : Type 0 where
  pub kept : List Bool
  pub tried : List Bool
  pub were : old ≡ kept ++ false ∷ tried
  pub are : new ≡ kept ++ true ∷ []
  pub all_tried : All (λ b. b ≡ true) tried
