-- What the readers of words, lines and sections tell each other.
use Rattle.std.specs.Prelude.{◌≡◌, ℕ, List, [], ◌∷◌, ◌++◌, flat_map, All, Option, Some, None}

-- the byte does not stand in the text
abbrev pub Lacks : ℕ → List ℕ → Type 0
Lacks b [] = Unit {0}
Lacks b (x ∷ xs) = (x ≡ b → ⊥) × Lacks b xs

-- what stands behind a list's closing 0: nothing, or a blank and some text
abbrev pub behind_text : Option (List ℕ) → List ℕ
behind_text None = []
behind_text (Some text) = 32 ∷ text

-- words, each with a blank after it, then a 0, and what is behind it
abbrev pub closed_text : {X : Type 0} → (X → List ℕ) → List X → Option (List ℕ) → List ℕ
closed_text f xs behind = flat_map (λ x. f x ++ 32 ∷ []) xs ++ 48 ∷ behind_text behind

-- the text spells this value, which fits
abbrev pub Spells : {X : Type 0} → (X → List ℕ) → (X → Type 0) → List ℕ → X → Type 0
Spells spelling fits text x = fits x × (text ≡ spelling x)

-- it spells no value that fits
abbrev pub SpellsNone : {X : Type 0} → (X → List ℕ) → (X → Type 0) → List ℕ → Type 0
SpellsNone {X = X} spelling fits text = (x : X) → fits x → text ≡ spelling x → ⊥

-- the text is these words, each of which fits, closed by a 0, with this behind it
abbrev pub Closes : {X : Type 0} → (X → List ℕ) → (X → Type 0) → List ℕ → List X → Option (List ℕ) → Type 0
Closes spelling fits text xs behind = All fits xs × (text ≡ closed_text spelling xs behind)

-- it is no such list
abbrev pub ClosesNone : {X : Type 0} → (X → List ℕ) → (X → Type 0) → List ℕ → Type 0
ClosesNone {X = X} spelling fits text = (xs : List X) (behind : Option (List ℕ)) → All fits xs → text ≡ closed_text spelling xs behind → ⊥
