-- The items of a flat module, each kind in its order.
use Rattle.std.specs.Prelude.{◌≡◌, ◌++◌, ℕ, List, [], ◌∷◌, flat_map}
use Rattle.tla_meaning.specs.declared.modules.Module.{Module}
use Rattle.tla_meaning.specs.declared.symbols.Misuse.{Misuse}
use Rattle.tla_meaning.specs.Flattening.{Modules, assumptions, declarations, declared_names, definitions, known, root_copy}
use Rattle.tla_meaning.specs.Flattening as flat
use Rattle.flat_modules.specs.declared.flattening.FlatItems.{FlatItems}

pub record IsSplit (f : FlatItems) (is : List flat.Item) : Type 0 where
  pub decls : f.decls.items ≡ declarations is
  pub defs : f.defs.items ≡ definitions is
  pub assumes : f.assumes.items ≡ assumptions is

-- one item more
pub record Adds (old new : FlatItems) (i : flat.Item) : Type 0 where
  pub decls : new.decls.items ≡ old.decls.items ++ declarations (i ∷ [])
  pub defs : new.defs.items ≡ old.defs.items ++ definitions (i ∷ [])
  pub assumes : new.assumes.items ≡ old.assumes.items ++ assumptions (i ∷ [])

abbrev pub IsFlatItems : FlatItems → Modules → List ℕ → Type 0
IsFlatItems f ms m = IsSplit f (known ms (root_copy m (declared_names ms m))).items

-- what is wrong with the names of these among the modules
abbrev pub misuses_among : Modules → Modules → List Misuse
misuses_among ms xs = flat_map (λ (x : List ℕ × Module). (known ms (root_copy x.0 [])).misuses) xs
