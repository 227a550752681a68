-- A literal for each edge of a set, which tells whether its member passes a test.
use Rattle.std.proofs.Common.{◌≡◌, ℕ, zero, suc, ◌+◌, ◌<◌, ◌≤◌, Bool, true, false, not, ◌&&◌, ◌||◌, List, [], ◌∷◌, ◌++◌, map, length, get_or, All, refl, ap, ◌∙◌, sym, subst, arith, below_more}
use Rattle.std.specs.List.{list_all}
use Rattle.std.proofs.lemmas.List.{get_or_append_left, get_or_push, get_or_default, length_push, length-map}
use Rattle.std.proofs.lemmas.List.Elements.{All-push, All-weaker, All-map}
use Rattle.sat_formula.specs.declared.lit.Lit.{Lit}
use Rattle.sat_formula.specs.declared.cnf.Cnf.{Cnf}
use Rattle.sat_formula.specs.Lit.{lit_value, values, IsBelow}
use Rattle.sat_formula.specs.Formula.{Satisfies, Grows as FormulaGrows}
use Rattle.sat_formula.proofs.Extension.{Satisfies-older, Grows-refl}
use Rattle.tla_values.specs.Sets.{member, subset, elements}
use Rattle.tla_values.specs.declared.value.Value.{Value}
use Rattle.cell_arena.specs.declared.kinds.CellId.{CellId}
use Rattle.cell_arena.specs.declared.kinds.CellKind.{CellKind}
use Rattle.cell_arena.specs.declared.kinds.CellKind.TheVariants.{Set}
use Rattle.cell_arena.specs.Cells.{Cells, WellBuilt, kind_at}
use Rattle.cell_arena.specs.Decode.{decode, kind_value}
use Rattle.cell_arena.proofs.Decoding.{decode-kind}
use Rattle.cell_merge.specs.Sorts.{Sort, OfSort, IsOver, SetsOfOneType, set_of as set_sort}
use Rattle.cell_merge.specs.Edges.{AreNamed, edges_of, TestsEach}
use Rattle.cell_merge.specs.inner.Crosses.{AreAlong, each_holds}
use Rattle.cell_merge.proofs.Edges.{all-cell, is-set}
use Rattle.cell_merge.proofs.Unions.{edges-named}

abbrev Edge : Type 0
Edge = Lit × CellId

-- ---- a literal for each edge

pub named-later : (m n : ℕ) (ls : List Lit) → All (IsBelow m) ls → m ≤ n → All (IsBelow n) ls
named-later m n ls h le = All-weaker (IsBelow m) (IsBelow n) (λ x b. omega arith) ls h

pub named-push : (m n : ℕ) (ls after : List Lit) (l : Lit) → All (IsBelow m) ls → m ≤ n → l.var < n → after ≡ ls ++ l ∷ [] → All (IsBelow n) after
named-push m n ls after l h le below pushed = rw pushed (All-push (IsBelow n) ls l (All-weaker (IsBelow m) (IsBelow n) (λ x b. omega arith) ls h) below)

-- one literal more
module _ (c : Cells) (f g : Cnf) (es : List Edge) (i : ℕ) (d : Edge) (test : List Bool → Value → Bool) (m : Lit) (before after : List Lit) (lt : i < length es)
    (tests : TestsEach c f es i test before) (grows : FormulaGrows f g) (below : m.var < g.vars)
    (is : (a : List Bool) → Satisfies a g → lit_value (get_or es i d).0 a ≡ true → lit_value m a ≡ test a (decode c a (get_or es i d).1)) (pushed : after ≡ before ++ m ∷ []) where
  pub tests-more : TestsEach c g es (i + 1) test after
  tests-more = record {
    named = named-push f.vars g.vars before after m tests.named grows.vars below pushed;
    count = ap length pushed ∙ length_push before m ∙ ap (λ (n : ℕ). n + 1) tests.count;
    values = λ a s.
        let F : ℕ → Type 0 = λ j. (e : Edge) (l : Lit) → lit_value (get_or es j e).0 a ≡ true → lit_value (get_or (before ++ m ∷ []) j l) a ≡ test a (decode c a (get_or es j e).1) in
        rw pushed (below_more F i
        (λ j h e l on.
        let k : j < length before = rw tests.count h in
        ap (λ x. lit_value x a) (get_or_append_left before (m ∷ []) l j k) ∙ tests.values a (Satisfies-older f g a grows s) j h e l on)
        (λ e l on. ap (λ x. lit_value x a) (get_or_push before m l i tests.count)
        ∙ is a s (ap (λ (x : Edge). lit_value x.0 a) (get_or_default es i d e lt) ∙ on)
        ∙ ap (λ (x : Edge). test a (decode c a x.1)) (get_or_default es i d e lt)));
  }

-- one for an edge that is never there
pub tests-off : (c : Cells) (f : Cnf) (es : List Edge) (i : ℕ) (d : Edge) (test : List Bool → Value → Bool) (m : Lit) (before after : List Lit) → i < length es → TestsEach c f es i test before
    → m.var < f.vars → ((a : List Bool) → Satisfies a f → lit_value (get_or es i d).0 a ≡ false) → after ≡ before ++ m ∷ [] → TestsEach c f es (i + 1) test after
tests-off c f es i d test m before after lt tests below off pushed =
    tests-more c f f es i d test m before after lt tests (Grows-refl f) below (λ a s on. let clash : false ≡ true = sym (off a s) ∙ on in absurd (cc)) pushed

-- ---- literals for all edges

first-test : (t p q : Bool) → (t ≡ true → p ≡ q) → (not t || p) ≡ (not t || q)
first-test true p q h = h refl
first-test false p q h = refl

pub each-tests : (a : List Bool) (of : CellId → Value) (test : Value → Bool) (es : List Edge) (ls : List Lit) → length ls ≡ length es
    → ((i : ℕ) → i < length es → (e : Edge) (l : Lit) → lit_value (get_or es i e).0 a ≡ true → lit_value (get_or ls i l) a ≡ test (of (get_or es i e).1))
    → each_holds (values (map (λ (e : Edge). e.0) es) a) (values ls a) ≡ list_all (λ e. not (lit_value e.0 a) || test (of e.1)) es
each-tests a of test [] ls n h = refl
each-tests a of test (e ∷ es) [] n h = absurd (omega arith)
each-tests a of test (e ∷ es) (l ∷ ls) n h =
    ap (λ t. t && each_holds (values (map (λ (e : Edge). e.0) es) a) (values ls a)) (first-test (lit_value e.0 a) (lit_value l a) (test (of e.1)) (h zero (omega arith) e l))
    ∙ ap (λ t. (not (lit_value e.0 a) || test (of e.1)) && t) (each-tests a of test es ls (omega arith) (λ i lt d m on. h (suc i) (omega arith) d m on))

-- literals that say which members of a set are members of another
pub subset-tests : (c : Cells) (f : Cnf) (a : List Bool) (x y : CellId) (es : List Edge) (test : List Bool → Value → Bool) (ls : List Lit) → TestsEach c f es (length es) test ls → Satisfies a f
    → decode c a x ≡ kind_value c.texts a (decode c a) (Set es) → ((v : Value) → test a v ≡ member v (elements (decode c a y)))
    → each_holds (values (map (λ (e : Edge). e.0) es) a) (values ls a) ≡ subset (elements (decode c a x)) (elements (decode c a y))
subset-tests c f a x y es test ls h s is says =
    each-tests a (decode c a) (test a) es ls h.count (h.values a s)
    ∙ all-same (λ e. says (decode c a e.1)) es
    ∙ sym (all-cell (λ v. member v (elements (decode c a y))) c a x es is)
  where
    all-same : ((e : Edge) → test a (decode c a e.1) ≡ member (decode c a e.1) (elements (decode c a y))) → (es : List Edge)
        → list_all (λ e. not (lit_value e.0 a) || test a (decode c a e.1)) es ≡ list_all (λ e. not (lit_value e.0 a) || member (decode c a e.1) (elements (decode c a y))) es
    all-same g [] = refl
    all-same g (e ∷ es) =
        ap (λ t. (not (lit_value e.0 a) || t) && list_all (λ e. not (lit_value e.0 a) || test a (decode c a e.1)) es) (g e)
        ∙ ap (λ t. (not (lit_value e.0 a) || member (decode c a e.1) (elements (decode c a y))) && t) (all-same g es)

-- the edges of a set of a type
set-kind : (c : Cells) (a : List Bool) (x : CellId) (s : Sort) → WellBuilt c → OfSort c.kinds (set_sort s) x → decode c a x ≡ kind_value c.texts a (decode c a) (Set (edges_of (kind_at c.kinds x)))
set-kind c a x s built h =
    let k : CellKind = kind_at c.kinds x in
    let es = is-set (OfSort c.kinds s) k h.1 in
    decode-kind c a x built h.0 ∙ ap (kind_value c.texts a (decode c a)) (es.1 ∙ ap (λ (u : CellKind). Set (edges_of u)) (sym es.1))

pub subset-typed : (c : Cells) (f : Cnf) (a : List Bool) (x y : CellId) (ls : List Lit) → WellBuilt c → SetsOfOneType c.kinds x y → Satisfies a f
    → TestsEach c f (edges_of (kind_at c.kinds x)) (length (edges_of (kind_at c.kinds x))) (λ a v. member v (elements (decode c a y))) ls
    → each_holds (values (map (λ (e : Edge). e.0) (edges_of (kind_at c.kinds x))) a) (values ls a) ≡ subset (elements (decode c a x)) (elements (decode c a y))
subset-typed c f a x y ls built t s h = subset-tests c f a x y (edges_of (kind_at c.kinds x)) _ ls h s (set-kind c a x t.sort built t.left) (λ v. refl)

-- the literals of a set's edges beside those
pub tests-along : (c : Cells) (f : Cnf) (x y : CellId) (test : List Bool → Value → Bool) (ls : List Lit) → IsOver c f → SetsOfOneType c.kinds x y → TestsEach c f (edges_of (kind_at c.kinds x)) (length (edges_of (kind_at c.kinds x))) test ls
    → AreAlong f.vars (map (λ (e : Edge). e.0) (edges_of (kind_at c.kinds x))) ls
tests-along c f x y test ls over t h =
    let k : CellKind = kind_at c.kinds x in
    let es = is-set (OfSort c.kinds t.sort) k t.left.1 in
    let named : AreNamed f.vars (edges_of k) = subst (AreNamed f.vars) (sym (ap edges_of es.1)) (edges-named c x.index f.vars k es.0 (over.built.held x t.left.0) es.1 over.fits) in
    record {
      left = All-map (IsBelow f.vars) (λ (e : Edge). e.0) (edges_of k) named;
      right = h.named;
      same = length-map (edges_of k) (λ (e : Edge). e.0) ∙ sym h.count;
    }
