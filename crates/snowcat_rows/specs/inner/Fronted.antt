-- Which names stand before the variables of a text, in the order of their numbers.
use Rattle.std.specs.Prelude.{ℕ, zero, suc, ◌<◌, ◌≡◌, Bool, false, List, [], ◌∷◌, length, Some}
use Rattle.snowcat_rows.specs.declared.marks.Seen.{Seen}
use Rattle.snowcat_rows.specs.declared.marks.Seen.TheVariants as seen
use Rattle.snowcat_rows.specs.Types.{Term, Slot, var, con, app, fields, none, some}
use Rattle.snowcat_rows.specs.Substitutions.{Present}
use Rattle.snowcat_rows.specs.TypeTexts.{Fronts}

-- the names that stand before a variable
abbrev pub Front : Type 0
Front = List ℕ → Bool

abbrev pub at : List Front → ℕ → Front
at [] r = λ n. false
at (p ∷ ps) zero = p
at (p ∷ ps) (suc r) = at ps r

-- each variable of the type has a number among these, and each row variable stands after its names
abbrev mutual
  pub Fronted : List Front → Term → Type 0
  Fronted ps (var v) = v < length ps
  Fronted ps (con h) = Unit {0}
  Fronted ps (app a b) = Fronted ps a × Fronted ps b
  Fronted ps (fields f k) =
      ((n : List ℕ) → FrontedSlot ps (f n)) × ((r : ℕ) → k ≡ Some r → (r < length ps) × ((n : List ℕ) → Present (f n) (at ps r n)))

  pub FrontedSlot : List Front → Slot → Type 0
  FrontedSlot ps none = Unit {0}
  FrontedSlot ps (some t) = Fronted ps t

abbrev pub AllFronted : List Front → List Term → Type 0
AllFronted ps [] = Unit {0}
AllFronted ps (t ∷ ts) = Fronted ps t × AllFronted ps ts

-- these are the names before what was seen
abbrev pub IsFrontOf : Fronts → Seen → Front → Type 0
IsFrontOf l (seen.Row x) p = (n : List ℕ) → p n ≡ l x n
IsFrontOf l v p = Unit {0}

abbrev pub AreFronts : Fronts → List Seen → List Front → Type 0
AreFronts l [] [] = Unit {0}
AreFronts l (v ∷ vs) (p ∷ ps) = IsFrontOf l v p × AreFronts l vs ps
AreFronts l vs ps = ⊥
