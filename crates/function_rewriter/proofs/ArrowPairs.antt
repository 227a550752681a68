-- The pairs of the arrows that are there.
use Rattle.std.proofs.Common.{◌≡◌, ℕ, ◌+◌, ◌<◌, ◌≤◌, Bool, true, false, cond, ◌&&◌, List, [], ◌∷◌, ◌++◌, map, length, take, get_or, All, Some, refl, ap, ◌∙◌, sym, subst, arith}
use Rattle.std.specs.Prelude.{filter, if◌then◌else◌}
use Rattle.std.proofs.lemmas.List.{take_more, map-append}
use Rattle.std.proofs.lemmas.List.Elements.{All-head, All-tail, All-weaker, filter-append}
use Rattle.sat_formula.specs.declared.lit.Lit.{Lit}
use Rattle.sat_formula.specs.Lit.{lit_value, IsBelow}
use Rattle.sat_formula.proofs.Extension.{lit_value-append}
use Rattle.tla_values.specs.Order.{same_value}
use Rattle.tla_values.specs.Sets.{apply, arguments, function_of}
use Rattle.tla_values.specs.declared.value.Value.{Value}
use Rattle.cell_arena.specs.declared.build.Build.{Build}
use Rattle.cell_arena.specs.declared.kinds.CellId.{CellId}
use Rattle.cell_arena.specs.declared.kinds.CellKind.{CellKind}
use Rattle.cell_arena.specs.declared.kinds.CellKind.TheVariants.{Fun}
use Rattle.cell_arena.specs.Cells.{Cells, IsHeld, NamesBelow, kind_at}
use Rattle.cell_arena.specs.Decode.{decode, kind_value, present, present_pairs}
use Rattle.cell_arena.specs.Growth.{Grows}
use Rattle.cell_arena.proofs.Growing.{decode-before, decode-assigned}
use Rattle.cell_merge.specs.Sorts.{Sort, OfSort, function_of as function_sort}
use Rattle.cell_merge.specs.Arrows.{arrows_of, argument_edges, LeadFrom, ArrowsNamed}
use Rattle.cell_merge.proofs.Edges.{sort-there, is-function, arrows-sort}
use Rattle.cell_merge.proofs.SortLaws.{OfSort-later}
use Rattle.function_rewriter.specs.Functions.{pairs_of}
use Rattle.function_rewriter.proofs.Composites.{pairs-fun}

abbrev pub Arrow : Type 0
Arrow = Lit × CellId × CellId

abbrev Pair : Type 0
Pair = Value × Value

-- the pair, where it is there
abbrev pub one_pair : Bool → Pair → List Pair
one_pair t p = if t then p ∷ [] else []

module _ (a : List Bool) (of : CellId → Value) where
  abbrev pub pair_at : Arrow → Pair
  pair_at e = (of e.1, of e.2)

  pub pairs-append : (es fs : List Arrow) → present_pairs a of (es ++ fs) ≡ present_pairs a of es ++ present_pairs a of fs
  pairs-append es fs =
      ap (map pair_at) (filter-append (λ e. lit_value e.0 a) es fs)
      ∙ map-append pair_at (filter (λ e. lit_value e.0 a) es) (filter (λ e. lit_value e.0 a) fs)

  pub pairs-one : (e : Arrow) → present_pairs a of (e ∷ []) ≡ one_pair (lit_value e.0 a) (of e.1, of e.2)
  pairs-one e = split (lit_value e.0 a)
    where
      split : (t : Bool) → map pair_at (cond t (e ∷ []) []) ≡ one_pair t (pair_at e)
      split true = refl
      split false = refl

  pub pairs-push : (es : List Arrow) (e : Arrow) → present_pairs a of (es ++ e ∷ []) ≡ present_pairs a of es ++ one_pair (lit_value e.0 a) (of e.1, of e.2)
  pairs-push es e = pairs-append es (e ∷ []) ∙ ap (λ (ps : List Pair). present_pairs a of es ++ ps) (pairs-one e)

  pub pairs-more : (es : List Arrow) (i : ℕ) (d : Arrow) → i < length es
      → present_pairs a of (take (i + 1) es) ≡ present_pairs a of (take i es) ++ one_pair (lit_value (get_or es i d).0 a) (of (get_or es i d).1, of (get_or es i d).2)
  pairs-more es i d lt = ap (present_pairs a of) (take_more es i d lt) ∙ pairs-push (take i es) (get_or es i d)

  -- what is given at an argument, by the first arrow
  pub apply-arrow : (e : Arrow) (es : List Arrow) (v : Value) → apply (present_pairs a of (e ∷ es)) v ≡ (if lit_value e.0 a && same_value v (of e.1) then Some (of e.2) else apply (present_pairs a of es) v)
  apply-arrow e es v = split (lit_value e.0 a)
    where
      split : (t : Bool) → apply (map pair_at (cond t (e ∷ filter (λ e. lit_value e.0 a) es) (filter (λ e. lit_value e.0 a) es))) v
          ≡ (if t && same_value v (of e.1) then Some (of e.2) else apply (present_pairs a of es) v)
      split true = refl
      split false = refl

  -- the arguments are the values of the edges to them
  pub arguments-pairs : (es : List Arrow) → arguments (present_pairs a of es) ≡ present a of (argument_edges es)
  arguments-pairs [] = refl
  arguments-pairs (e ∷ es) = split (lit_value e.0 a) (arguments-pairs es)
    where
      split : (t : Bool) → arguments (present_pairs a of es) ≡ present a of (argument_edges es)
          → arguments (map pair_at (cond t (e ∷ filter (λ e. lit_value e.0 a) es) (filter (λ e. lit_value e.0 a) es)))
          ≡ map (λ (d : Lit × CellId). of d.1) (cond t ((e.0, e.1) ∷ filter (λ d. lit_value d.0 a) (argument_edges es)) (filter (λ d. lit_value d.0 a) (argument_edges es)))
      split true h = ap (λ (l : List Value). of e.1 ∷ l) h
      split false h = h

-- arrows with the same literals and values have the same pairs
pub pairs-agree : (a b : List Bool) (of by : CellId → Value) (es : List Arrow) → All (λ e. (lit_value e.0 a ≡ lit_value e.0 b) × ((of e.1 ≡ by e.1) × (of e.2 ≡ by e.2))) es
    → present_pairs a of es ≡ present_pairs b by es
pairs-agree a b of by [] h = refl
pairs-agree a b of by (e ∷ es) h =
    let P : Arrow → Type 0 = λ e. (lit_value e.0 a ≡ lit_value e.0 b) × ((of e.1 ≡ by e.1) × (of e.2 ≡ by e.2)) in
    let here = All-head P e es h in
    split (lit_value e.0 a) (lit_value e.0 b) here.0 here.1.0 here.1.1 (pairs-agree a b of by es (All-tail P e es h))
  where
    split : (s t : Bool) → s ≡ t → of e.1 ≡ by e.1 → of e.2 ≡ by e.2 → present_pairs a of es ≡ present_pairs b by es
        → map (pair_at a of) (cond s (e ∷ filter (λ e. lit_value e.0 a) es) (filter (λ e. lit_value e.0 a) es)) ≡ map (pair_at b by) (cond t (e ∷ filter (λ e. lit_value e.0 b) es) (filter (λ e. lit_value e.0 b) es))
    split true true f p q h = ap (λ (v : Value). (v, of e.2) ∷ present_pairs a of es) p ∙ ap (λ (v : Value). (by e.1, v) ∷ present_pairs a of es) q ∙ ap (λ (l : List Pair). (by e.1, by e.2) ∷ l) h
    split true false f p q h = absurd (cc)
    split false true f p q h = absurd (cc)
    split false false f p q h = h

-- older arrows have the pairs that they had
pub pairs-before : (b c : Build) (a : List Bool) (s t : Sort) (es : List Arrow) → Grows b c → LeadFrom b.arena.kinds s t es → present_pairs a (decode c.arena a) es ≡ present_pairs a (decode b.arena a) es
pairs-before b c a s t es g h = pairs-agree a a (decode c.arena a) (decode b.arena a) es
    (λ i d lt. (refl, (decode-before b c a (get_or es i d).1 g (sort-there b.arena.kinds s _ (h i d lt).0), decode-before b c a (get_or es i d).2 g (sort-there b.arena.kinds t _ (h i d lt).1))))

-- and under a longer assignment too
pub pairs-longer : (b : Build) (a more : List Bool) (es : List Arrow) → length a ≡ b.formula.vars → ArrowsNamed b.formula.vars es
    → present_pairs (a ++ more) (decode b.arena (a ++ more)) es ≡ present_pairs a (decode b.arena a) es
pairs-longer b a more es n h = pairs-agree (a ++ more) a (decode b.arena (a ++ more)) (decode b.arena a) es
    (λ i d lt. (lit_value-append (get_or es i d).0 a more (let p = h i d lt in omega arith), (decode-assigned b (get_or es i d).1 a more n, decode-assigned b (get_or es i d).2 a more n)))

pub LeadFrom-later : (b c : Build) (s t : Sort) (es : List Arrow) → LeadFrom b.arena.kinds s t es → Grows b c → LeadFrom c.arena.kinds s t es
LeadFrom-later b c s t es h g =
    All-weaker (λ (e : Arrow). OfSort b.arena.kinds s e.1 × OfSort b.arena.kinds t e.2) (λ (e : Arrow). OfSort c.arena.kinds s e.1 × OfSort c.arena.kinds t e.2)
    (λ e p. (OfSort-later b c s e.1 p.0 g, OfSort-later b c t e.2 p.1 g)) es h

pub ArrowsNamed-later : (m n : ℕ) (es : List Arrow) → ArrowsNamed m es → m ≤ n → ArrowsNamed n es
ArrowsNamed-later m n es h le = All-weaker (λ (e : Arrow). IsBelow m e.0) (λ (e : Arrow). IsBelow n e.0) (λ e b. omega arith) es h

-- arrows of a sort lead between cells that are there
pub arrows-there : (ks : List CellKind) (s t : Sort) (es : List Arrow) → LeadFrom ks s t es → All (λ e. (e.1.index < length ks) × (e.2.index < length ks)) es
arrows-there ks s t es h = λ i d lt. (sort-there ks s (get_or es i d).1 (h i d lt).0, sort-there ks t (get_or es i d).2 (h i d lt).1)

-- the arrows of a function cell name older variables
pub arrows-named : (c : Cells) (m n : ℕ) (k : CellKind) (es : List Arrow) → IsHeld m c.vars c.width k → k ≡ Fun es → c.vars ≤ n → ArrowsNamed n es
arrows-named c m n k es held is le = let P : CellKind → Type 0 = NamesBelow c.vars in ArrowsNamed-later c.vars n es (subst P is held.named) le

-- the pairs of a function cell
pub function-pairs : (c : Cells) (a : List Bool) (k : CellKind) (id : CellId) (es : List Arrow) → decode c a id ≡ kind_value c.texts a (decode c a) k → k ≡ Fun es
    → pairs_of (decode c a id) ≡ function_of (present_pairs a (decode c a) es)
function-pairs c a k id es h is = ap pairs_of (h ∙ ap (kind_value c.texts a (decode c a)) is) ∙ pairs-fun _

-- the sorts of the arrows of a function cell
pub function-arrows : (ks : List CellKind) (f : CellId) (s t : Sort) → OfSort ks (function_sort s t) f → LeadFrom ks s t (arrows_of (kind_at ks f))
function-arrows ks f s t h =
    let b = is-function (OfSort ks s) (OfSort ks t) (kind_at ks f) h.1 in
    let P : CellKind → Type 0 = λ k. LeadFrom ks s t (arrows_of k) in
    subst P (sym b.1) (arrows-sort ks s t f b.0 h b.1)
