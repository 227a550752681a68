-- What is known of a module with all that it mentions, at each depth at which that is the same.
use Rattle.std.specs.Prelude.{◌≡◌, ◌+◌, ◌≤◌, ℕ, Bool, true, false, List, Option, None, Some}
use Rattle.tla_meaning.specs.declared.modules.Unit as modules
use Rattle.tla_meaning.specs.declared.modules.Unit.TheVariants as unit
use Rattle.tla_meaning.specs.declared.symbols.Misuse.{Misuse}
use Rattle.tla_meaning.specs.Flattening.{Known, Modules, extended, known_within}
use Rattle.tla_meaning.specs.Flattening as flat
use Rattle.tla_meaning.specs.Scopes.{find_last}
use Rattle.flat_modules.specs.declared.gathering.Reached.{Reached}
use Rattle.flat_modules.specs.declared.instances.Instance.{Instance}
use Rattle.flat_modules.specs.declared.knowing.Knowing.{Knowing}
use Rattle.flat_modules.specs.declared.memo.Extended.{Extended}
use Rattle.flat_modules.specs.declared.memo.Kept.{Kept}
use Rattle.flat_modules.specs.declared.memo.Memo.{Memo}
use Rattle.flat_modules.specs.inner.Learning.{IsKnown}

-- whatever was known by the definition, this is known now
abbrev pub Advances : Knowing → Knowing → (Known → Known) → Type 0
Advances old new f = (o : Option Misuse) (s : Known) → IsKnown o old s → IsKnown o new (f s)

abbrev pub unit_of : Instance → modules.Unit
unit_of u = unit.Instance u.name.now u.module.now u.with.now u.local u.place

abbrev pub is_instance : modules.Unit → Bool
is_instance (unit.Instance i m cs local p) = true
is_instance u = false

-- ---- depths

-- the depths that do as well as this one, where so many levels fewer would do; without that, this one alone
abbrev pub Fits : Option ℕ → ℕ → ℕ → Type 0
Fits None d n = n ≡ d
Fits (Some spare) d n = d ≤ n + spare

abbrev pub Reaches : Option ℕ → ℕ → (ℕ → Type 0) → Type 0
Reaches spare d P = (n : ℕ) → Fits spare d n → P n

-- whatever was known by the definition at depths that fit, this is known now
abbrev pub Follows : Reached → Reached → ℕ → (ℕ → Known → Known) → Type 0
Follows old new d f =
    (o : Option Misuse) (s : ℕ → Known) → Reaches old.spare d (λ n. IsKnown o old.knowing (s n)) → Reaches new.spare d (λ n. IsKnown o new.knowing (f n (s n)))

-- ---- modules that are extended

-- what is known of one
abbrev pub IsExtended : Extended → Modules → flat.Copy → List ℕ → ℕ → Type 0
IsExtended e ms k x d = Reaches e.spare d (λ n. IsKnown None e.knowing (known_within n ms (extended k x)))

-- what is kept, at a depth that is enough
abbrev pub IsKept : Kept → ℕ → Extended → Type 0
IsKept k d e = (e.knowing ≡ k.knowing) × ((n : ℕ) → Fits e.spare d n → k.levels ≤ n)

-- what is kept is known at all depths that are enough for it
abbrev pub Remembers : Modules → flat.Copy → Memo → Type 0
Remembers ms k memo =
    (x : List ℕ) (e : Kept) → find_last x memo.kept.items ≡ Some e → (n : ℕ) → e.levels ≤ n → IsKnown None e.knowing (known_within n ms (extended k x))
