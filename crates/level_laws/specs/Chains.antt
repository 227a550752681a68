-- Parts of a conjunction that are encoded one behind the other, of which each is known only where those before it
-- hold. Source: Specifying Systems, section 16.1.1, for conjunctions that are evaluated from the left.
use Rattle.std.specs.Prelude.{◌⊎◌, Bool, true, false, if◌then◌else◌}
use Rattle.level_laws.specs.Branches.{Ending, Held, MetWrong, MetBig, Transition}

-- how one part ends, and behind it another
abbrev pub then_ends : (Ending → Type 0) → (Ending → Type 0) → Ending → Type 0
then_ends M N Held = M Held × N Held
then_ends M N MetWrong = M MetWrong ⊎ (M Held × N MetWrong)
then_ends M N MetBig = M MetBig ⊎ (M Held × N MetBig)

-- the same of literals
abbrev pub then_literals : (Ending → Bool) → (Ending → Bool) → Ending → Bool
then_literals l m Held = if l Held then m Held else false
then_literals l m MetWrong = if l MetWrong then true else (if l Held then m MetWrong else false)
then_literals l m MetBig = if l MetBig then true else (if l Held then m MetBig else false)

-- the first part leads to some s, and the second from there to t; where the first has a fault, t is any state over s
abbrev pub then_goes : {E S T : Type 0} → Transition E S → Transition S T → (S → T → Type 0) → Transition E T
then_goes {S = S} P Q Over Held e t = (s : S) × (P Held e s × Q Held s t)
then_goes {S = S} P Q Over MetWrong e t =
    ((s : S) × (P MetWrong e s × Over s t)) ⊎ ((s : S) × (P Held e s × Q MetWrong s t))
then_goes {S = S} P Q Over MetBig e t =
    ((s : S) × (P MetBig e s × Over s t)) ⊎ ((s : S) × (P Held e s × Q MetBig s t))
