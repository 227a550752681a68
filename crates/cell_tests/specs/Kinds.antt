-- The kinds of members that the tests make.
use Rattle.std.specs.Prelude.{ℕ, zero, suc}
use Rattle.cell_merge.specs.Sorts.{Sort, truth, number, name}

-- truth values, texts, or else numbers
abbrev pub sort_of : ℕ → Sort
sort_of zero = truth
sort_of (suc zero) = name
sort_of (suc (suc n)) = number
