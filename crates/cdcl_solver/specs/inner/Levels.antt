-- Where the decisions of a trail stand.
use Rattle.std.specs.Prelude.{ℕ, ◌+◌, ◌++◌, List, [], ◌∷◌, Option, Some, None}
use Rattle.watched_search.specs.declared.entry.Entry.{Entry}

abbrev pub decided_at : ℕ → Option ℕ → List ℕ
decided_at k None = k ∷ []
decided_at k (Some c) = []

-- the places of the decisions in their order, where the first entry stands at k
abbrev pub levels_from : ℕ → List Entry → List ℕ
levels_from k [] = []
levels_from k (e ∷ es) = decided_at k e.reason ++ levels_from (k + 1) es
