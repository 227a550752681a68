-- Where the nodes of a tree come from.
use Rattle.std.specs.Prelude.{Bool, IsTrue, List, [], ◌∷◌, ◌++◌}
use Rattle.std.specs.List.{list_all, list_any}
use Rattle.std.specs.Ordering.{is_eq}
use Rattle.tla_meaning.specs.declared.expr.Def.{Def}
use Rattle.tla_meaning.specs.declared.expr.Expr.{Expr}
use Rattle.tla_meaning.specs.declared.expr.Expr.TheFolds.{fold-Expr}
use Rattle.tla_meaning.specs.declared.modules.Flat.{Flat}
use Rattle.tla_meaning.specs.declared.place.Place.{Place}
use Rattle.tla_meaning.specs.Outcomes.{place_cmp}
use Rattle.op_inliner.specs.Expansion.{first_place}

abbrev pub joined : {X : Type 0} → List (List X) → List X
joined [] = []
joined (xs ∷ xss) = xs ++ joined xss

-- the places of a tree's nodes, a node before its children
unfoldable pub places : Expr → List Place
places = fold-Expr (List Place) (λ x. x.place ∷ joined x.args)

abbrev pub definition_places : List Def → List Place
definition_places [] = []
definition_places (d ∷ ds) = d.place ∷ (places d.body ++ definition_places ds)

abbrev pub tree_places : List Expr → List Place
tree_places [] = []
tree_places (e ∷ es) = places e ++ tree_places es

-- the places of a flat module's definitions and assumptions
abbrev pub places_of : Flat → List Place
places_of flat = definition_places flat.defs ++ tree_places flat.assumes

abbrev pub is_place_of : List Place → Place → Bool
is_place_of ps p = list_any (λ q. is_eq (place_cmp p q)) ps

-- each place in the tree is one of the module, or the first place, where what no module wrote stands
abbrev pub PlacesOf : Flat → Expr → Type 0
PlacesOf flat e = IsTrue (list_all (is_place_of (first_place ∷ places_of flat)) (places e))
