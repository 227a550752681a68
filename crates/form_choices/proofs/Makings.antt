-- What is made of members that were picked.
use Rattle.std.proofs.Common.{◌≡◌, ℕ, ◌+◌, ◌<◌, ◌≤◌, Bool, true, false, not, ◌&&◌, ◌||◌, List, [], ◌∷◌, ◌++◌, All, map, length, take, get_or, refl, sym, ◌∙◌, ap, ap₂, subst, arith}
use Rattle.std.specs.List.{list_all}
use Rattle.std.proofs.lemmas.List.{length-take, take_all, take_more}
use Rattle.std.proofs.lemmas.List.Folds.{list_all-append}
use Rattle.std.proofs.lemmas.List.Elements.{All-cons, All-head, All-nil, All-tail, All-weaker}
use Rattle.sat_formula.specs.declared.lit.Lit.{Lit}
use Rattle.sat_formula.specs.declared.cnf.Cnf.{Cnf}
use Rattle.sat_formula.specs.Lit.{IsBelow, lit_value}
use Rattle.sat_formula.specs.Formula.{Grows as FormulaGrows, HasValue, Satisfies}
use Rattle.sat_formula.proofs.Extension.{HasValue-later, Satisfies-older}
use Rattle.tla_values.specs.Sequences.{sequence}
use Rattle.tla_values.specs.Sets.{elements, function_of, set_of}
use Rattle.tla_values.specs.declared.value.Value.TheVariants as value
use Rattle.tla_meaning.specs.Shapes.{record_of}
use Rattle.cell_arena.specs.declared.build.Build.{Build}
use Rattle.cell_arena.specs.declared.kinds.CellId.{CellId}
use Rattle.cell_arena.specs.declared.kinds.CellKind.{CellKind}
use Rattle.cell_arena.specs.declared.kinds.CellKind.TheVariants.{Fun}
use Rattle.cell_arena.specs.Cells.{AllDiffer, Cells, kind_at}
use Rattle.cell_arena.specs.Decode.{decode, present, present_pairs}
use Rattle.cell_arena.specs.Growth.{Adds, Decodes, Grows}
use Rattle.cell_merge.specs.Arrows.{ArrowsNamed, LeadFrom}
use Rattle.cell_merge.specs.Edges.{AreNamed, JoinsAll, LeadTo, OneSort, edges_of}
use Rattle.cell_merge.specs.Picks.{IsSetCell}
use Rattle.cell_merge.specs.Sorts.{OfSort, Sort, number, set_of as set_sort}
use Rattle.cell_merge.proofs.Tested.{named-push}
use Rattle.cell_merge.proofs.SortLaws.{sort-function}
use Rattle.function_rewriter.proofs.ArrowPairs.{Arrow, arrows-there}
use Rattle.function_rewriter.proofs.FunctionPicks.{joined-leads, joined-members}
use Rattle.typed_cells.specs.FieldOrder.{in_order}
use Rattle.typed_cells.specs.KindSorts.{OfSorts, record_sort, tuple_sort}
use Rattle.form_choices.specs.inner.Parts.{AllHold, HaveArrows, ListsArguments, MakesFunction, MakesRecord, MakesTuple, TellWhereThere, arrows, hold_where_there}

abbrev Edge : Type 0
Edge = Lit × CellId

-- what stands for an item that is not there
abbrev pub no_lit : Lit
no_lit = record { var = 0; neg = false }

abbrev pub no_cell : CellId
no_cell = record { index = 0 }

abbrev pub no_edge : Edge
no_edge = (no_lit, no_cell)

-- ---- the arguments

pub arguments-listed : (old new : Build) (g : Cnf) (s : CellId) (es : List Edge) → IsSetCell old s
    → JoinsAll old.arena g (edges_of (kind_at old.arena.kinds s)) (edges_of (kind_at old.arena.kinds s)) es → new.arena ≡ old.arena → new.formula ≡ g → ListsArguments new s es
arguments-listed old new g s es set joins same over = record {
  named = subst (λ (h : Cnf). AreNamed h.vars es) (sym over) joins.named;
  sorts = λ t o.
      subst (λ (c : Cells). LeadTo c.kinds t es) (sym same) (joined-leads old g s es es set joins refl t (subst (λ (c : Cells). OfSort c.kinds (set_sort t) s) same o));
  members = λ a sat.
      ap (λ (c : Cells). set_of (present a (decode c a) es)) same
      ∙ joined-members old g s es es set joins refl a (subst (λ (h : Cnf). Satisfies a h) over sat) ∙ ap (λ (c : Cells). elements (decode c a s)) (sym same);
}

-- the edges of the set without members
pub no-edges : (b : Build) (es : List Edge) → es ≡ [] → OneSort b.arena.kinds b.formula.vars es
no-edges b es e = rw e (record {
  sort = number;
  cells = All-nil (λ (x : Edge). OfSort b.arena.kinds number x.1);
  named = All-nil (λ (x : Edge). IsBelow b.formula.vars x.0);
})

-- ---- records and tuples

pub record-made : (old mid new : Build) (names : List (List ℕ)) (ids : List CellId) (ls : List Lit) (all : Lit) (id : CellId) → AllDiffer names → mid.arena ≡ old.arena
    → AllHold mid.formula ls all → Grows mid new → Decodes new id (λ a. record_of names (map (decode mid.arena a) ids))
    → ((ss : List Sort) → OfSorts mid.arena.kinds ss ids → OfSort new.arena.kinds (record_sort (in_order names ss)) id) → MakesRecord old new names ids ls (id, all)
record-made old mid new names ids ls all id differ same holds grows decodes sort = record {
  differ = differ;
  sort = λ ss h. sort ss (subst (λ (c : Cells). OfSorts c.kinds ss ids) (sym same) h);
  value = λ a s. decodes.value a s ∙ ap (λ (c : Cells). record_of names (map (decode c a) ids)) same;
  literal = HasValue-later mid.formula new.formula all _ holds grows.formula;
}

pub tuple-made : (old mid new : Build) (ids : List CellId) (ls : List Lit) (all : Lit) (id : CellId) → mid.arena ≡ old.arena
    → AllHold mid.formula ls all → Grows mid new → Decodes new id (λ a. sequence (map (decode mid.arena a) ids))
    → ((ss : List Sort) → OfSorts mid.arena.kinds ss ids → OfSort new.arena.kinds (tuple_sort ss) id) → MakesTuple old new ids ls (id, all)
tuple-made old mid new ids ls all id same holds grows decodes sort = record {
  sort = λ ss h. sort ss (subst (λ (c : Cells). OfSorts c.kinds ss ids) (sym same) h);
  value = λ a s. decodes.value a s ∙ ap (λ (c : Cells). sequence (map (decode c a) ids)) same;
  literal = HasValue-later mid.formula new.formula all _ holds grows.formula;
}

-- ---- arrows

arrows-push : (es : List Edge) (xs : List CellId) (e : Edge) (x : CellId) → length xs ≡ length es → arrows (es ++ e ∷ []) (xs ++ x ∷ []) ≡ arrows es xs ++ (e.0, e.1, x) ∷ []
arrows-push [] [] e x n = refl
arrows-push [] (y ∷ xs) e x n = absurd (omega arith)
arrows-push (f ∷ es) [] e x n = absurd (omega arith)
arrows-push (f ∷ es) (y ∷ xs) e x n = ap (λ (l : List Arrow). (f.0, f.1, y) ∷ l) (arrows-push es xs e x (omega arith))

pub arrows-none : (es : List Edge) (xs : List CellId) (out : List Arrow) → out ≡ [] → out ≡ arrows (take 0 es) (take 0 xs)
arrows-none [] xs out e = e
arrows-none (f ∷ es) xs out e = e

pub arrows-more : (es : List Edge) (xs : List CellId) (i : ℕ) (e : Edge) (x : CellId) (out after : List Arrow) → i < length es → length xs ≡ length es → e ≡ get_or es i e → x ≡ get_or xs i x
    → out ≡ arrows (take i es) (take i xs) → after ≡ out ++ (e.0, e.1, x) ∷ [] → after ≡ arrows (take (i + 1) es) (take (i + 1) xs)
arrows-more es xs i e x out after lt n is here so pushed =
    pushed ∙ ap (λ (l : List Arrow). l ++ (e.0, e.1, x) ∷ []) so ∙ sym (arrows-push (take i es) (take i xs) e x (omega (arith, length-take i es, length-take i xs)))
    ∙ sym (ap₂ arrows (take_more es i e lt ∙ ap (λ f. take i es ++ f ∷ []) (sym is)) (take_more xs i x (omega arith) ∙ ap (λ y. take i xs ++ y ∷ []) (sym here)))

pub arrows-all : (es : List Edge) (xs : List CellId) (i : ℕ) (out : List Arrow) → length es ≤ i → length xs ≡ length es → out ≡ arrows (take i es) (take i xs) → out ≡ arrows es xs
arrows-all es xs i out le n so = so ∙ ap₂ arrows (take_all i es le) (take_all i xs (omega arith))

arrows-lead : (ks : List CellKind) (s t : Sort) (es : List Edge) (xs : List CellId) → LeadTo ks s es → All (OfSort ks t) xs → LeadFrom ks s t (arrows es xs)
arrows-lead ks s t [] xs h k = All-nil (λ (e : Arrow). OfSort ks s e.1 × OfSort ks t e.2)
arrows-lead ks s t (e ∷ es) [] h k = All-nil (λ (e : Arrow). OfSort ks s e.1 × OfSort ks t e.2)
arrows-lead ks s t (e ∷ es) (x ∷ xs) h k =
    All-cons (λ (e : Arrow). OfSort ks s e.1 × OfSort ks t e.2) (e.0, e.1, x) (arrows es xs)
    (All-head (λ (e : Edge). OfSort ks s e.1) e es h, All-head (OfSort ks t) x xs k)
    (arrows-lead ks s t es xs (All-tail (λ (e : Edge). OfSort ks s e.1) e es h) (All-tail (OfSort ks t) x xs k))

arrows-named : (n : ℕ) (es : List Edge) (xs : List CellId) → AreNamed n es → ArrowsNamed n (arrows es xs)
arrows-named n [] xs h = All-nil (λ (e : Arrow). IsBelow n e.0)
arrows-named n (e ∷ es) [] h = All-nil (λ (e : Arrow). IsBelow n e.0)
arrows-named n (e ∷ es) (x ∷ xs) h =
    All-cons (λ (e : Arrow). IsBelow n e.0) (e.0, e.1, x) (arrows es xs) (All-head (λ (e : Edge). IsBelow n e.0) e es h) (arrows-named n es xs (All-tail (λ (e : Edge). IsBelow n e.0) e es h))

-- ---- literals at edges

holds-push : (a : List Bool) (es : List Edge) (ls : List Lit) (e : Edge) (l : Lit) → length ls ≡ length es →
    hold_where_there a (es ++ e ∷ []) (ls ++ l ∷ []) ≡ (hold_where_there a es ls && (not (lit_value e.0 a) || lit_value l a))
holds-push a [] [] e l n = alone (not (lit_value e.0 a) || lit_value l a)
  where
    alone : (b : Bool) → (b && true) ≡ b
    alone true = refl
    alone false = refl
holds-push a [] (m ∷ ls) e l n = absurd (omega arith)
holds-push a (f ∷ es) [] e l n = absurd (omega arith)
holds-push a (f ∷ es) (m ∷ ls) e l n =
    ap (λ t. (not (lit_value f.0 a) || lit_value m a) && t) (holds-push a es ls e l (omega arith))
    ∙ assoc (not (lit_value f.0 a) || lit_value m a) (hold_where_there a es ls) (not (lit_value e.0 a) || lit_value l a)
  where
    assoc : (p q r : Bool) → (p && (q && r)) ≡ ((p && q) && r)
    assoc true q r = refl
    assoc false q r = refl

all-push : (a : List Bool) (ls : List Lit) (l : Lit) → list_all (λ x. lit_value x a) (ls ++ l ∷ []) ≡ (list_all (λ x. lit_value x a) ls && lit_value l a)
all-push a ls l = list_all-append (λ x. lit_value x a) ls (l ∷ []) ∙ ap (λ t. list_all (λ x. lit_value x a) ls && t) (alone (lit_value l a))
  where
    alone : (b : Bool) → (b && true) ≡ b
    alone true = refl
    alone false = refl

pub tell-none : (f : Cnf) (es : List Edge) (ls out : List Lit) → out ≡ [] → TellWhereThere f (take 0 es) (take 0 ls) out
tell-none f [] ls out e = rw e (record { below = All-nil (IsBelow f.vars); value = λ a s. refl })
tell-none f (x ∷ es) ls out e = rw e (record { below = All-nil (IsBelow f.vars); value = λ a s. refl })

pub tell-more : (f g : Cnf) (es : List Edge) (ls out after : List Lit) (i : ℕ) (e : Edge) (l m one : Lit) → i < length es → length ls ≡ length es → TellWhereThere f (take i es) (take i ls) out → FormulaGrows f g
    → e ≡ get_or es i e → l ≡ get_or ls i l → ((a : List Bool) → lit_value m a ≡ not (lit_value e.0 a)) → HasValue g one (λ a. lit_value m a || lit_value l a) → after ≡ out ++ one ∷ []
    → TellWhereThere g (take (i + 1) es) (take (i + 1) ls) after
tell-more f g es ls out after i e l m one lt n told grows is here turned v pushed = record {
  below = named-push f.vars g.vars out after one told.below grows.vars v.below pushed;
  value = λ a s.
      ap (list_all (λ x. lit_value x a)) pushed ∙ all-push a out one
      ∙ ap₂ (λ p q. p && q) (told.value a (Satisfies-older f g a grows s)) (v.value a s ∙ ap (λ b. b || lit_value l a) (turned a))
      ∙ sym (holds-push a (take i es) (take i ls) e l (omega (arith, length-take i es, length-take i ls)))
      ∙ sym (ap₂ (hold_where_there a) (take_more es i e lt ∙ ap (λ f. take i es ++ f ∷ []) (sym is)) (take_more ls i l (omega arith) ∙ ap (λ y. take i ls ++ y ∷ []) (sym here)));
}

pub tell-all : (f : Cnf) (es : List Edge) (ls out : List Lit) (i : ℕ) → length es ≤ i → length ls ≡ length es → TellWhereThere f (take i es) (take i ls) out → TellWhereThere f es ls out
tell-all f es ls out i le n h = rw (take_all i es le, take_all i ls (omega arith)) at h

pub told-all : (f g : Cnf) (es : List Edge) (ls out given : List Lit) (l : Lit) → TellWhereThere f es ls out → given ≡ out → FormulaGrows f g → HasValue g l (λ a. list_all (λ x. lit_value x a) given)
    → HasValue g l (λ a. hold_where_there a es ls)
told-all f g es ls out given l told is grows v = record {
  below = v.below;
  value = λ a s. v.value a s ∙ ap (list_all (λ x. lit_value x a)) is ∙ told.value a (Satisfies-older f g a grows s);
}

module _ (old : Build) (es : List Edge) (xs : List CellId) (ls : List Lit) (h : HaveArrows old es xs ls) where
  module _ (g : Cnf) (grows : FormulaGrows old.formula g) (out : List Arrow) (is : out ≡ arrows es xs) where
    pub made-named : ArrowsNamed g.vars out
    made-named = rw is (arrows-named g.vars es xs (All-weaker (λ (e : Edge). IsBelow old.formula.vars e.0) (λ (e : Edge). IsBelow g.vars e.0)
        (λ e p. let q = grows.vars in omega arith) es h.named))

    pub made-older : All (λ (e : Arrow). (e.1.index < length old.arena.kinds) × (e.2.index < length old.arena.kinds)) out
    made-older = rw is (arrows-there old.arena.kinds h.from h.to (arrows es xs) (arrows-lead old.arena.kinds h.from h.to es xs h.edges h.cells))

  module _ (g : Cnf) (mid : Build) (same : mid.arena ≡ old.arena) (over : mid.formula ≡ g) (out : List Arrow) (is : out ≡ arrows es xs) where
    made-leads : (s t : Sort) → LeadTo old.arena.kinds s es → All (OfSort old.arena.kinds t) xs → LeadFrom mid.arena.kinds s t out
    made-leads s t p q = rw is (subst (λ (c : Cells). LeadFrom c.kinds s t (arrows es xs)) (sym same) (arrows-lead old.arena.kinds s t es xs p q))

    pub function-made : (new : Build) (all : Lit) (id : CellId) → Grows mid new → HasValue g all (λ a. hold_where_there a es ls) → Adds mid new (Fun out) id
        → Decodes new id (λ a. value.Fun (function_of (present_pairs a (decode mid.arena a) out))) → MakesFunction old new es xs ls (id, all)
    function-made new all id later holds adds decodes = record {
      sort = λ s t p q. sort-function mid new out s t id adds later (made-leads s t p q);
      value = λ a s.
          decodes.value a s ∙ ap (λ (c : Cells). value.Fun (function_of (present_pairs a (decode c a) out))) same
          ∙ ap (λ (l : List Arrow). value.Fun (function_of (present_pairs a (decode old.arena a) l))) is;
      literal = HasValue-later mid.formula new.formula all _ (subst (λ (f : Cnf). HasValue f all (λ a. hold_where_there a es ls)) (sym over) holds) later.formula;
    }
