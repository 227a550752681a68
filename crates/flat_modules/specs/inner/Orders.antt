-- The modules behind those that they mention, by their names.
use Rattle.std.specs.Prelude.{◌≡◌, ℕ, zero, suc, Bool, true, List, [], ◌∷◌, ◌++◌, flat_map, Some, None, if◌then◌else◌}
use Rattle.std.specs.List.{list_all}
use Rattle.tla_meaning.specs.Flattening.{Modules, mentioned_files}
use Rattle.tla_meaning.specs.ReadingOrder.{is_among}
use Rattle.tla_meaning.specs.Scopes.{find_last}
use Rattle.flat_modules.specs.declared.aliases.Behind.{Behind}

abbrev pub names_behind : ℕ → Modules → List ℕ → List (List ℕ)
names_behind zero ms x = []
names_behind (suc n) ms x =
    elim (find_last x ms) [ None ↦ [] | Some m ↦ flat_map (names_behind n ms) (mentioned_files m) ++ x ∷ [] ]

-- more names, but for those that are there
abbrev pub with_names : List (List ℕ) → List (List ℕ) → List (List ℕ)
with_names seen [] = seen
with_names seen (x ∷ xs) = with_names (if is_among x seen then seen else seen ++ x ∷ []) xs

abbrev pub all_among : List (List ℕ) → List (List ℕ) → Bool
all_among seen xs = list_all (λ x. is_among x seen) xs

-- of each module that was walked, those that it mentions so deep are there
abbrev pub AreBehind : Modules → Behind → Type 0
AreBehind ms b = (x : List ℕ) (d : ℕ) → find_last x b.walked.items ≡ Some d → all_among b.names.items (names_behind d ms x) ≡ true

-- a module that was walked so deep is there besides
pub record AddsBehind (old new : Behind) (x : List ℕ) (d : ℕ) : Type 0 where
  pub names : new.names.items ≡ (if is_among x old.names.items then old.names.items else old.names.items ++ x ∷ [])
  pub walked : new.walked.items ≡ old.walked.items ++ (x, d) ∷ []

-- the aliases of the module of a name
abbrev pub aliases_at : Modules → List ℕ → List (List ℕ × List ℕ)
aliases_at ms x = elim (find_last x ms) [ None ↦ [] | Some m ↦ m.aliases ]
