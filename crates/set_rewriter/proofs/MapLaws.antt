-- Images of the members of a set.
use Rattle.std.proofs.Common.{◌≡◌, suc, Bool, true, false, cond, ◌||◌, List, [], ◌∷◌, map, length, refl, ap, ◌∙◌, sym, arith}
use Rattle.std.specs.Prelude.{filter}
use Rattle.std.specs.List.{list_any}
use Rattle.sat_formula.specs.declared.lit.Lit.{Lit}
use Rattle.sat_formula.specs.Lit.{lit_value}
use Rattle.tla_values.specs.Order.{same_value}
use Rattle.tla_values.specs.Sets.{set_of}
use Rattle.tla_values.specs.declared.value.Value.{Value}
use Rattle.tla_values.proofs.Members.{list_any-set_of}
use Rattle.cell_arena.specs.declared.kinds.CellId.{CellId}
use Rattle.cell_arena.specs.Decode.{present}
use Rattle.cell_merge.proofs.Chosen.{set_of-same}
use Rattle.set_rewriter.specs.Edges.{image_edges}
use Rattle.cell_merge.specs.Edges.{MapsBy}

abbrev Edge : Type 0
Edge = Lit × CellId

any-map : (p : Value → Bool) (g : Value → Value) (xs : List Value) → list_any p (map g xs) ≡ list_any (λ x. p (g x)) xs
any-map p g [] = refl
any-map p g (x ∷ xs) = ap (λ t. p (g x) || t) (any-map p g xs)

map-set : (g : Value → Value) (xs : List Value) → set_of (map g xs) ≡ set_of (map g (set_of xs))
map-set g xs = set_of-same (map g xs) (map g (set_of xs)) (λ v. any-map (same_value v) g xs ∙ sym (any-map (same_value v) g (set_of xs) ∙ list_any-set_of (λ x. same_value v (g x)) xs))

images-there : (a : List Bool) (of : CellId → Value) (es : List Edge) (xs : List CellId) (g : Value → Value) → length xs ≡ length es → MapsBy a of es xs g → present a of (image_edges es xs) ≡ map g (present a of es)
unfolding MapsBy
images-there a of [] xs g n h = refl
images-there a of (e ∷ es) [] g n h = absurd (omega arith)
images-there a of (e ∷ es) (x ∷ xs) g n h =
    split (lit_value e.0 a) (images-there a of es xs g (omega arith) (λ i d y lt on. h (suc i) d y (omega arith) on)) (λ on. h 0 e x (omega arith) on) refl
  where
    split : (t : Bool) → present a of (image_edges es xs) ≡ map g (present a of es) → (lit_value e.0 a ≡ true → of x ≡ g (of e.1)) → lit_value e.0 a ≡ t
        → map (λ (d : Edge). of d.1) (cond t ((e.0, x) ∷ filter (λ (d : Edge). lit_value d.0 a) (image_edges es xs)) (filter (λ (d : Edge). lit_value d.0 a) (image_edges es xs)))
        ≡ map g (map (λ (d : Edge). of d.1) (cond t (e ∷ filter (λ (d : Edge). lit_value d.0 a) es) (filter (λ (d : Edge). lit_value d.0 a) es)))
    split true f w is = ap (λ (v : Value). v ∷ present a of (image_edges es xs)) (w is) ∙ ap (λ (l : List Value). g (of e.1) ∷ l) f
    split false f w is = f

pub mapped-set : (a : List Bool) (of : CellId → Value) (es : List Edge) (xs : List CellId) (g : Value → Value) → length xs ≡ length es → MapsBy a of es xs g
    → set_of (present a of (image_edges es xs)) ≡ set_of (map g (set_of (present a of es)))
mapped-set a of es xs g n h = ap set_of (images-there a of es xs g n h) ∙ map-set g (present a of es)
