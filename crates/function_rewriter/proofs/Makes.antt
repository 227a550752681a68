-- Functions made of arrows.
use Rattle.std.proofs.Common.{◌≡◌, ℕ, suc, ◌+◌, ◌<◌, Bool, true, false, cond, List, [], ◌∷◌, ◌++◌, map, length, take, get_or, All, refl, ap, ◌∙◌, sym, subst, arith}
use Rattle.std.specs.Prelude.{filter}
use Rattle.std.proofs.lemmas.List.{take_more, length-take-le}
use Rattle.std.proofs.lemmas.List.Elements.{All-nil, All-cons, All-head, All-tail}
use Rattle.sat_formula.specs.declared.lit.Lit.{Lit}
use Rattle.sat_formula.specs.Lit.{lit_value, IsBelow}
use Rattle.sat_formula.specs.Formula.{Satisfies}
use Rattle.tla_values.specs.Sets.{function_of, set_of}
use Rattle.tla_values.specs.declared.value.Value.{Value}
use Rattle.tla_values.specs.declared.value.Value.TheVariants as value
use Rattle.cell_arena.specs.declared.build.Build.{Build}
use Rattle.cell_arena.specs.declared.kinds.CellId.{CellId}
use Rattle.cell_arena.specs.declared.kinds.CellKind.{CellKind}
use Rattle.cell_arena.specs.declared.kinds.CellKind.TheVariants.{Set, Fun}
use Rattle.cell_arena.specs.Cells.{Cells, IsHeld, kind_at}
use Rattle.cell_arena.specs.Decode.{decode, present, present_pairs}
use Rattle.cell_arena.specs.Growth.{Grows, Decodes, Adds}
use Rattle.cell_arena.proofs.Growing.{Decodes-same, Satisfies-before}
use Rattle.cell_merge.specs.Sorts.{Sort, OfSort, set_of as set_sort}
use Rattle.cell_merge.specs.Edges.{LeadTo, AreNamed, AreImages, MapsBy, edges_of}
use Rattle.cell_merge.specs.Picks.{IsSetCell}
use Rattle.cell_merge.specs.Arrows.{LeadFrom, ArrowsNamed}
use Rattle.cell_merge.proofs.Edges.{edges-sort}
use Rattle.cell_merge.proofs.SortLaws.{sort-function}
use Rattle.cell_merge.proofs.Unions.{edges-named}
use Rattle.function_rewriter.specs.Arrows.{with_results, MakesFunction}
use Rattle.function_rewriter.proofs.PairLists.{graph, function_graph}
use Rattle.function_rewriter.proofs.ArrowPairs.{arrows-there}

abbrev Edge : Type 0
Edge = Lit × CellId

abbrev Arrow : Type 0
Arrow = Lit × CellId × CellId

abbrev Pair : Type 0
Pair = Value × Value

-- a new function cell
pub makes : (old mid new : Build) (id : CellId) (out : List Arrow) (pairs : List Bool → List Pair) (given : Sort → Sort → Type 0) → mid.arena ≡ old.arena → Grows mid new → Adds mid new (Fun out) id
    → Decodes new id (λ a. value.Fun (function_of (present_pairs a (decode mid.arena a) out)))
    → ((a : List Bool) → Satisfies a mid.formula → function_of (present_pairs a (decode old.arena a) out) ≡ pairs a)
    → ((s t : Sort) → given s t → LeadFrom old.arena.kinds s t out) → MakesFunction new id pairs given
makes old mid new id out pairs given same grows adds decodes is sorts = record {
  value = Decodes-same new id _ _ decodes
      (λ a s. ap (λ (c : Cells). value.Fun (function_of (present_pairs a (decode c a) out))) same ∙ ap (λ ps. value.Fun ps) (is a (Satisfies-before mid new a grows s)));
  sort = λ s t h. sort-function mid new out s t id adds grows (subst (λ (c : Cells). LeadFrom c.kinds s t out) (sym same) (sorts s t h));
}

-- ---- a result for each edge

results-push : (es : List Edge) (rs : List CellId) (e : Edge) (r : CellId) → length rs ≡ length es → with_results (es ++ e ∷ []) (rs ++ r ∷ []) ≡ with_results es rs ++ (e.0, e.1, r) ∷ []
results-push [] [] e r n = refl
results-push [] (y ∷ ys) e r n = absurd (omega arith)
results-push (d ∷ es) [] e r n = absurd (omega arith)
results-push (d ∷ es) (y ∷ ys) e r n = ap (λ (l : List Arrow). (d.0, d.1, y) ∷ l) (results-push es ys e r (omega arith))

results-more : (es : List Edge) (rs : List CellId) (i : ℕ) (d : Edge) (r : CellId) → i < length es → i < length rs
    → with_results (take (i + 1) es) (take (i + 1) rs) ≡ with_results (take i es) (take i rs) ++ ((get_or es i d).0, (get_or es i d).1, get_or rs i r) ∷ []
results-more es rs i d r lt le =
    ap (λ (l : List Edge). with_results l (take (i + 1) rs)) (take_more es i d lt) ∙ ap (with_results (take i es ++ get_or es i d ∷ [])) (take_more rs i r le)
    ∙ results-push (take i es) (take i rs) (get_or es i d) (get_or rs i r) (length-take-le i rs (omega arith) ∙ sym (length-take-le i es (omega arith)))

pub results-pushed : (es : List Edge) (rs : List CellId) (i : ℕ) (d : Edge) (r : CellId) (out after : List Arrow) → i < length es → i < length rs → out ≡ with_results (take i es) (take i rs)
    → after ≡ out ++ ((get_or es i d).0, (get_or es i d).1, get_or rs i r) ∷ [] → after ≡ with_results (take (i + 1) es) (take (i + 1) rs)
results-pushed es rs i d r out after lt le h pushed =
    pushed ∙ ap (λ (l : List Arrow). l ++ ((get_or es i d).0, (get_or es i d).1, get_or rs i r) ∷ []) h ∙ sym (results-more es rs i d r lt le)

pub results-sort : (ks : List CellKind) (s t : Sort) (es : List Edge) (rs : List CellId) → LeadTo ks s es → All (OfSort ks t) rs → LeadFrom ks s t (with_results es rs)
results-sort ks s t [] rs h k = All-nil (λ (e : Arrow). OfSort ks s e.1 × OfSort ks t e.2)
results-sort ks s t (e ∷ es) [] h k = All-nil (λ (e : Arrow). OfSort ks s e.1 × OfSort ks t e.2)
results-sort ks s t (e ∷ es) (r ∷ rs) h k =
    let P : Edge → Type 0 = λ e. OfSort ks s e.1 in
    All-cons (λ (e : Arrow). OfSort ks s e.1 × OfSort ks t e.2) (e.0, e.1, r) (with_results es rs) (All-head P e es h, All-head (OfSort ks t) r rs k)
    (results-sort ks s t es rs (All-tail P e es h) (All-tail (OfSort ks t) r rs k))

pub results-named : (n : ℕ) (es : List Edge) (rs : List CellId) → AreNamed n es → ArrowsNamed n (with_results es rs)
results-named n [] rs h = All-nil (λ (e : Arrow). IsBelow n e.0)
results-named n (e ∷ es) [] h = All-nil (λ (e : Arrow). IsBelow n e.0)
results-named n (e ∷ es) (r ∷ rs) h =
    let P : Edge → Type 0 = λ e. IsBelow n e.0 in
    All-cons (λ (e : Arrow). IsBelow n e.0) (e.0, e.1, r) (with_results es rs) (All-head P e es h) (results-named n es rs (All-tail P e es h))

-- ---- results by a rule

results-there : (a : List Bool) (of : CellId → Value) (es : List Edge) (rs : List CellId) (g : Value → Value) → length rs ≡ length es → MapsBy a of es rs g
    → present_pairs a of (with_results es rs) ≡ graph (present a of es) g
unfolding MapsBy
results-there a of [] rs g n h = refl
results-there a of (e ∷ es) [] g n h = absurd (omega arith)
results-there a of (e ∷ es) (r ∷ rs) g n h =
    split (lit_value e.0 a) (results-there a of es rs g (omega arith) (λ i d y lt on. h (suc i) d y (omega arith) on)) (λ on. h 0 e r (omega arith) on) refl
  where
    split : (t : Bool) → present_pairs a of (with_results es rs) ≡ graph (present a of es) g → (lit_value e.0 a ≡ true → of r ≡ g (of e.1)) → lit_value e.0 a ≡ t
        → map (λ (d : Arrow). (of d.1, of d.2)) (cond t ((e.0, e.1, r) ∷ filter (λ (d : Arrow). lit_value d.0 a) (with_results es rs)) (filter (λ (d : Arrow). lit_value d.0 a) (with_results es rs)))
        ≡ graph (map (λ (d : Edge). of d.1) (cond t (e ∷ filter (λ (d : Edge). lit_value d.0 a) es) (filter (λ (d : Edge). lit_value d.0 a) es))) g
    split true f w is = ap (λ (v : Value). (of e.1, v) ∷ present_pairs a of (with_results es rs)) (w is) ∙ ap (λ (l : List Pair). (of e.1, g (of e.1)) ∷ l) f
    split false f w is = f

-- what is made by a rule of the members is the function that has at each what the rule gives
pub made-by : (a : List Bool) (of : CellId → Value) (es : List Edge) (rs : List CellId) (g : Value → Value) → length rs ≡ length es → MapsBy a of es rs g
    → function_of (present_pairs a of (with_results es rs)) ≡ map (λ v. (v, g v)) (set_of (present a of es))
made-by a of es rs g n h = ap function_of (results-there a of es rs g n h) ∙ function_graph (present a of es) g

-- ---- a result for each edge of a set cell

module _ (b : Build) (set : CellId) (k : CellKind) (es items : List Edge) (rs : List CellId) (raw out : List Arrow) (same : k ≡ kind_at b.arena.kinds set) (is : k ≡ Set es) (list : items ≡ es)
    (pairs : raw ≡ with_results items rs) (given : out ≡ raw) where
  arrows-are : out ≡ with_results es rs
  arrows-are = given ∙ pairs ∙ ap (λ (l : List Edge). with_results l rs) list

  pub made-named : (m : ℕ) → IsHeld m b.arena.vars b.arena.width k → ArrowsNamed b.formula.vars out
  made-named m held = subst (ArrowsNamed b.formula.vars) (sym arrows-are) (results-named b.formula.vars es rs (edges-named b.arena m b.formula.vars k es held is b.fits))

  leads : (s t : Sort) → OfSort b.arena.kinds (set_sort s) set → All (OfSort b.arena.kinds t) rs → LeadFrom b.arena.kinds s t out
  leads s t h r = subst (LeadFrom b.arena.kinds s t) (sym arrows-are) (results-sort b.arena.kinds s t es rs (edges-sort b.arena.kinds s set es h (sym same ∙ is)) r)

  pub made-older : IsSetCell b set → AreImages b.arena.kinds (edges_of (kind_at b.arena.kinds set)) rs → All (λ e. (e.1.index < length b.arena.kinds) × (e.2.index < length b.arena.kinds)) out
  made-older h r = arrows-there b.arena.kinds h.sort r.sort out (leads h.sort r.sort h.is r.cells)

  pub made : (new : Build) (id : CellId) → Grows b new → Adds b new (Fun out) id → Decodes new id (λ a. value.Fun (function_of (present_pairs a (decode b.arena a) out)))
      → MakesFunction new id (λ a. function_of (present_pairs a (decode b.arena a) (with_results (edges_of (kind_at b.arena.kinds set)) rs))) (λ s t. OfSort b.arena.kinds (set_sort s) set × All (OfSort b.arena.kinds t) rs)
  made new id grows adds decodes =
      makes b b new id out _ _ refl grows adds decodes
      (λ a s. ap (λ (l : List Arrow). function_of (present_pairs a (decode b.arena a) l)) arrows-are
      ∙ ap (λ (k : CellKind). function_of (present_pairs a (decode b.arena a) (with_results (edges_of k) rs))) (sym (sym same ∙ is)))
      (λ s t h. leads s t h.0 h.1)
