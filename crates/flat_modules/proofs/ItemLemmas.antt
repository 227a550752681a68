-- Items that are there, and others.
use Rattle.std.proofs.Common.{◌≡◌, ◌∙◌, Bool, true, false, cond, List, [], ◌∷◌, ◌++◌, map, refl, ap, sym, ◌||◌}
use Rattle.std.proofs.lemmas.List.{map-append}
use Rattle.std.specs.List.{list_any}
use Rattle.tla_meaning.specs.Flattening as flat
use Rattle.flat_modules.specs.declared.items.Item.{Item}
use Rattle.flat_modules.specs.inner.Items.{item_of}

pub any_map : {X Y : Type 0} (p : Y → Bool) (f : X → Y) (xs : List X) → list_any p (map f xs) ≡ list_any (λ x. p (f x)) xs
any_map p f [] = refl
any_map p f (x ∷ xs) = ap (λ b. p (f x) || b) (any_map p f xs)

-- it is there
pub item_there : (is : List Item) (i : Item) → list_any (λ other. flat.same_item (item_of i) (item_of other)) is ≡ true →
    map item_of is ≡ flat.with_items (map item_of is) (item_of i ∷ [])
item_there is i h = ap (λ b. cond b (map item_of is) (map item_of is ++ item_of i ∷ [])) (sym (any_map (flat.same_item (item_of i)) item_of is ∙ h))

pub item_new : (is : List Item) (i : Item) → list_any (λ other. flat.same_item (item_of i) (item_of other)) is ≡ false →
    map item_of (is ++ i ∷ []) ≡ flat.with_items (map item_of is) (item_of i ∷ [])
item_new is i h =
    map-append item_of is (i ∷ [])
    ∙ ap (λ b. cond b (map item_of is) (map item_of is ++ item_of i ∷ [])) (sym (any_map (flat.same_item (item_of i)) item_of is ∙ h))
