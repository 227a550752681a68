-- What becomes known of a module, unit by unit.
use Rattle.std.specs.Prelude.{◌≡◌, ◌&&◌, not, ◌++◌, ℕ, List, [], ◌∷◌, map, Option, Result, Ok, Err, Vec, ⊤, if◌then◌else◌}
use Rattle.std.specs.List.{list_any}
use Rattle.std.specs.Global.{Global}
use Rattle.std.specs.declared.alloc.AllocError.{AllocError}
use Rattle.tla_meaning.specs.declared.expr.Def.{Def}
use Rattle.tla_meaning.specs.declared.expr.Expr.{Expr}
use Rattle.tla_meaning.specs.declared.place.Place.{Place}
use Rattle.tla_meaning.specs.declared.symbols.Entry.{Entry}
use Rattle.tla_meaning.specs.declared.symbols.Misuse.{Misuse}
use Rattle.tla_meaning.specs.declared.symbols.Misuse.TheVariants.{Twice, Unknown}
use Rattle.tla_meaning.specs.Flattening.{Known, resolved_body, with_items}
use Rattle.tla_meaning.specs.Flattening as flat
use Rattle.tla_meaning.specs.Resolving.{Resolved, definition_repeats, misused, resolved_in}
use Rattle.tla_meaning.specs.Scopes.{same_text}
use Rattle.tla_meaning.specs.Symbols.{entry_of, is_declaration, least_from, with_new}
use Rattle.flat_modules.specs.declared.items.Item.{Item}
use Rattle.flat_modules.specs.declared.knowing.Knowing.{Knowing}
use Rattle.flat_modules.specs.declared.resolving.Resolving.{Resolving}
use Rattle.flat_modules.specs.inner.Items.{item_of}
use Rattle.flat_modules.specs.inner.Telling.{Told}

-- the names in scope are as before, and of these misuses those are still to be told
pub record Remains (old new : Resolving) (whole rest : List Misuse) : Type 0 where
  pub scope : new.scope ≡ old.scope
  pub told : least_from new.told rest ≡ least_from old.told whole

-- the body of a definition in scope of these names, and what is wrong with the names of the definition
abbrev pub told_body : List Entry → Entry → Def → Resolved
told_body es e d = record {
  tree = (resolved_body es d).tree;
  misuses = definition_repeats es e d.place d.params ++ (resolved_body es d).misuses;
}

-- ---- WITH

-- one name of WITH with its expression, before these
abbrev pub with_resolved : Place → List Entry → List Entry → List ℕ × Expr → List (List ℕ × Expr) → Resolved
with_resolved p es inside c cs = record {
  tree = (resolved_in es c.1).tree;
  misuses =
      (if list_any (λ (e : Entry). is_declaration e.kind && same_text c.0 e.name) inside then [] else Unknown c.0 p ∷ [])
      ++ (if list_any (λ (d : List ℕ × Expr). same_text c.0 d.0) cs then Twice c.0 p p ∷ [] else [])
      ++ (resolved_in es c.1).misuses;
}

-- one name of an instance that WITH may replace
abbrev pub one_symbol : Place → List Entry → List (List ℕ × Expr) → Entry → List Misuse
one_symbol p es cs d =
    if is_declaration d.kind && not (list_any (λ (c : List ℕ × Expr). same_text d.name c.0) cs)
    then misused p d.name 0 (entry_of d.name es) else []

abbrev pub TellsItems : Resolving → Resolving → List Misuse → List flat.Item → Result (Vec Item Global) AllocError → Type 0
TellsItems old new ms is (Ok v) = Told old new ms × (map item_of v.items ≡ is)
TellsItems old new ms is (Err e) = ⊤

-- ---- units

-- these names and items are known besides, and these misuses are told
pub record Learns (old new : Knowing) (es : List Entry) (is : List flat.Item) (ms : List Misuse) : Type 0 where
  pub scope : new.resolving.scope ≡ with_new old.resolving.scope es
  pub items : map item_of new.items ≡ with_items (map item_of old.items) is
  pub told : new.resolving.told ≡ least_from old.resolving.told ms

-- what the code knows is what is known by the definition, where this misuse was told before
pub record IsKnown (o : Option Misuse) (k : Knowing) (s : Known) : Type 0 where
  pub scope : k.resolving.scope ≡ s.names
  pub items : map item_of k.items ≡ s.items
  pub told : k.resolving.told ≡ least_from o s.misuses
