-- The fields of records in the order of their names' bytes, so that cells of one type have one sort. Source: Konnov,
-- Kukovec and Tran, "TLA+ Model Checking Made Symbolic", OOPSLA 2019, section 4, on records; their order is free in
-- the language (Specifying Systems, section 16.1.9).
use Rattle.std.specs.Prelude.{ℕ, List, [], ◌∷◌, if◌then◌else◌}
use Rattle.std.specs.Ordering.{is_lt}
use Rattle.tla_values.specs.Order.{text_cmp}

-- one more field, before the first whose name is greater
abbrev pub put_field : {X : Type 0} → List ℕ → X → List (List ℕ × X) → List (List ℕ × X)
put_field x c [] = (x, c) ∷ []
put_field x c (f ∷ fs) = if is_lt (text_cmp x f.0) then (x, c) ∷ f ∷ fs else f ∷ put_field x c fs

-- the names with what each has, in whatever order they are given
abbrev pub in_order : {X : Type 0} → List (List ℕ) → List X → List (List ℕ × X)
in_order (x ∷ xs) (c ∷ cs) = put_field x c (in_order xs cs)
in_order xs cs = []
