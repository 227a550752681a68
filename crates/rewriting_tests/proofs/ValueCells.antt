-- Cells of values, by the forms of their types.
use Rattle.std.proofs.Common.{◌≡◌, ℕ, zero, suc, ◌+◌, ◌<◌, ◌≤◌, List, [], ◌∷◌, ◌++◌, All, map, length, take, get_or, Option, Some, None, option_map, option_and_then, refl, sym, ◌∙◌, ap, subst, arith}
use Rattle.std.proofs.lemmas.List.Elements.{All-nil, All-cons}
use Rattle.sat_formula.specs.declared.lit.Lit.{Lit}
use Rattle.sat_formula.specs.Lit.{IsBelow}
use Rattle.snowcat_rows.specs.declared.types.Ty.{Ty, Set as set_ty, Seq as seq_ty, Fun as fun_ty}
use Rattle.kernel_trees.specs.TypeKinds.{Kind, Set, Seq, Fun, all_there, kind_of}
use Rattle.kernel_trees.proofs.TypeLaws.{kind-Fun, kind-Seq, kind-Set}
use Rattle.cell_arena.specs.declared.build.Build.{Build}
use Rattle.cell_arena.specs.declared.kinds.CellId.{CellId}
use Rattle.cell_arena.specs.declared.kinds.CellKind.{CellKind}
use Rattle.cell_arena.specs.declared.kinds.CellKind.TheVariants.{Fun as fun_cell, Set as set_cell}
use Rattle.cell_arena.specs.Growth.{Adds, Grows}
use Rattle.cell_merge.specs.Choices.{Chooses}
use Rattle.cell_merge.specs.Sorts.{OfSort, OneType, Sort, sequence_of}
use Rattle.cell_merge.proofs.SortLaws.{OfSort-later, added-there, sort-function, sort-set}
use Rattle.typed_cells.specs.KindSorts.{OfType, sort_of}
use Rattle.rewriting_tests.specs.Cases.{HasKind, HaveKinds}

same_some : {X : Type 0} (x y : X) → Some x ≡ Some y → x ≡ y
same_some x y e = cc

none_some : {X : Type 0} (x : X) → None ≡ Some x → ⊥
none_some x e = absurd (cc)

abbrev Edge : Type 0
Edge = Lit × CellId

abbrev Arrow : Type 0
Arrow = Lit × CellId × CellId

pub type-later : (b c : Build) (t : Ty) (x : CellId) → OfType b.arena.kinds t x → Grows b c → OfType c.arena.kinds t x
type-later b c t x h g =
    record {
      there = let p = h.there in let q = g.longer in omega arith;
      sort = λ k e. OfSort-later b c (sort_of k) x (h.sort k e) g;
    }

below-later : (b c : Build) (l : Lit) → l.var < b.formula.vars → Grows b c → l.var < c.formula.vars
below-later b c l h g = let q = g.formula.vars in omega (arith, h)

-- ---- sets

abbrev pub AreEdges : Build → Ty → List Edge → Type 0
AreEdges b t [] = Unit {0}
AreEdges b t (e ∷ es) = (e.0.var < b.formula.vars × OfType b.arena.kinds t e.1) × AreEdges b t es

edges-later : (b c : Build) (t : Ty) (es : List Edge) → AreEdges b t es → Grows b c → AreEdges c t es
edges-later b c t [] h g = tt
edges-later b c t (e ∷ es) h g =
    ((below-later b c e.0 h.0.0 g, type-later b c t e.1 h.0.1 g), edges-later b c t es h.1 g)

push_edge : (b : Build) (t : Ty) (es : List Edge) (e : Edge) → AreEdges b t es → e.0.var < b.formula.vars →
    OfType b.arena.kinds t e.1 → AreEdges b t (es ++ e ∷ [])
push_edge b t [] e h p q = ((p, q), tt)
push_edge b t (f ∷ es) e h p q = (h.0, push_edge b t es e h.1 p q)

-- one edge more, whose cell stands since c
pub edges-turn : (b c d : Build) (t : Ty) (es after : List Edge) (l : Lit) (x : CellId) → AreEdges b t es → Grows b c →
    Grows c d → OfType c.arena.kinds t x → l.var < d.formula.vars → after ≡ es ++ (l, x) ∷ [] → AreEdges d t after
edges-turn b c d t es after l x h g1 g2 one below pushed =
    subst (AreEdges d t) (sym pushed)
    (push_edge d t es (l, x) (edges-later c d t es (edges-later b c t es h g1) g2) below (type-later c d t x one g2))

pub edges-none : (b : Build) (t : Ty) (es : List Edge) → es ≡ [] → AreEdges b t es
edges-none b t es e = subst (AreEdges b t) (sym e) tt

pub edges-same : (b : Build) (t : Ty) (es fs : List Edge) → fs ≡ es → AreEdges b t es → AreEdges b t fs
edges-same b t es fs e h = subst (AreEdges b t) (sym e) h

pub edges-named : (b : Build) (t : Ty) (es : List Edge) → AreEdges b t es → All (λ (e : Edge). IsBelow b.formula.vars e.0) es
edges-named b t [] h = All-nil (λ (e : Edge). IsBelow b.formula.vars e.0)
edges-named b t (e ∷ es) h =
    All-cons (λ (f : Edge). IsBelow b.formula.vars f.0) e es h.0.0 (edges-named b t es h.1)

pub edges-older : (b : Build) (t : Ty) (es : List Edge) → AreEdges b t es → All (λ (e : Edge). e.1.index < length b.arena.kinds) es
edges-older b t [] h = All-nil (λ (e : Edge). e.1.index < length b.arena.kinds)
edges-older b t (e ∷ es) h =
    All-cons (λ (f : Edge). f.1.index < length b.arena.kinds) e es h.0.1.there (edges-older b t es h.1)

edge-sorts : (b : Build) (t : Ty) (k : Kind) (es : List Edge) → kind_of t ≡ Some k → AreEdges b t es →
    All (λ (e : Edge). OfSort b.arena.kinds (sort_of k) e.1) es
edge-sorts b t k [] f h = All-nil (λ (e : Edge). OfSort b.arena.kinds (sort_of k) e.1)
edge-sorts b t k (e ∷ es) f h =
    All-cons (λ (g : Edge). OfSort b.arena.kinds (sort_of k) g.1) e es (h.0.1.sort k f) (edge-sorts b t k es f h.1)

pub set-type : (b c : Build) (t : Ty) (es : List Edge) (id : CellId) → Adds b c (set_cell es) id → Grows b c →
    AreEdges b t es → OfType c.arena.kinds (set_ty t) id
set-type b c t es id adds grows h =
    record { there = added-there b c (set_cell es) id adds; sort = λ k e. by (kind_of t) refl k (sym (kind-Set t) ∙ e) }
  where
    by : (o : Option Kind) → kind_of t ≡ o → (k : Kind) → option_map Set o ≡ Some k → OfSort c.arena.kinds (sort_of k) id
    by None f k e = absurd (none_some k e)
    by (Some j) f k e =
        subst (λ (i : Kind). OfSort c.arena.kinds (sort_of i) id) (same_some (Set j) k e)
        (sort-set b c es (sort_of j) id adds grows (edge-sorts b t j es f h))

-- ---- functions

abbrev pub AreArrows : Build → Ty → Ty → List Arrow → Type 0
AreArrows b t r [] = Unit {0}
AreArrows b t r (e ∷ es) =
    (e.0.var < b.formula.vars × (OfType b.arena.kinds t e.1 × OfType b.arena.kinds r e.2)) × AreArrows b t r es

arrows-later : (b c : Build) (t r : Ty) (es : List Arrow) → AreArrows b t r es → Grows b c → AreArrows c t r es
arrows-later b c t r [] h g = tt
arrows-later b c t r (e ∷ es) h g = (
  (below-later b c e.0 h.0.0 g, (type-later b c t e.1 h.0.1.0 g, type-later b c r e.2 h.0.1.1 g)),
  arrows-later b c t r es h.1 g,
)

push_arrow : (b : Build) (t r : Ty) (es : List Arrow) (e : Arrow) → AreArrows b t r es → e.0.var < b.formula.vars →
    OfType b.arena.kinds t e.1 → OfType b.arena.kinds r e.2 → AreArrows b t r (es ++ e ∷ [])
push_arrow b t r [] e h p q s = ((p, (q, s)), tt)
push_arrow b t r (f ∷ es) e h p q s = (h.0, push_arrow b t r es e h.1 p q s)

-- one arrow more, whose argument stands since c and whose result since d
pub arrows-turn : (b c d f : Build) (t r : Ty) (es after : List Arrow) (l : Lit) (x y : CellId) → AreArrows b t r es →
    Grows b c → Grows c d → Grows d f → OfType c.arena.kinds t x → OfType d.arena.kinds r y → l.var < f.formula.vars →
    after ≡ es ++ (l, x, y) ∷ [] → AreArrows f t r after
arrows-turn b c d f t r es after l x y h g1 g2 g3 from to below pushed =
    subst (AreArrows f t r) (sym pushed)
    (push_arrow f t r es (l, x, y)
    (arrows-later d f t r es (arrows-later c d t r es (arrows-later b c t r es h g1) g2) g3) below
    (type-later d f t x (type-later c d t x from g2) g3) (type-later d f r y to g3))

pub arrows-none : (b : Build) (t r : Ty) (es : List Arrow) → es ≡ [] → AreArrows b t r es
arrows-none b t r es e = subst (AreArrows b t r) (sym e) tt

pub arrows-same : (b : Build) (t r : Ty) (es fs : List Arrow) → fs ≡ es → AreArrows b t r es → AreArrows b t r fs
arrows-same b t r es fs e h = subst (AreArrows b t r) (sym e) h

pub arrows-named : (b : Build) (t r : Ty) (es : List Arrow) → AreArrows b t r es →
    All (λ (e : Arrow). IsBelow b.formula.vars e.0) es
arrows-named b t r [] h = All-nil (λ (e : Arrow). IsBelow b.formula.vars e.0)
arrows-named b t r (e ∷ es) h =
    All-cons (λ (f : Arrow). IsBelow b.formula.vars f.0) e es h.0.0 (arrows-named b t r es h.1)

pub arrows-older : (b : Build) (t r : Ty) (es : List Arrow) → AreArrows b t r es →
    All (λ (e : Arrow). (e.1.index < length b.arena.kinds) × (e.2.index < length b.arena.kinds)) es
arrows-older b t r [] h = All-nil (λ (e : Arrow). (e.1.index < length b.arena.kinds) × (e.2.index < length b.arena.kinds))
arrows-older b t r (e ∷ es) h =
    All-cons (λ (f : Arrow). (f.1.index < length b.arena.kinds) × (f.2.index < length b.arena.kinds)) e es
    (h.0.1.0.there, h.0.1.1.there) (arrows-older b t r es h.1)

arrow-sorts : (b : Build) (t r : Ty) (j k : Kind) (es : List Arrow) → kind_of t ≡ Some j → kind_of r ≡ Some k →
    AreArrows b t r es →
    All (λ (e : Arrow). OfSort b.arena.kinds (sort_of j) e.1 × OfSort b.arena.kinds (sort_of k) e.2) es
arrow-sorts b t r j k [] f g h =
    All-nil (λ (e : Arrow). OfSort b.arena.kinds (sort_of j) e.1 × OfSort b.arena.kinds (sort_of k) e.2)
arrow-sorts b t r j k (e ∷ es) f g h =
    All-cons (λ (a : Arrow). OfSort b.arena.kinds (sort_of j) a.1 × OfSort b.arena.kinds (sort_of k) a.2) e es
    (h.0.1.0.sort j f, h.0.1.1.sort k g) (arrow-sorts b t r j k es f g h.1)

pub function-type : (b c : Build) (t r : Ty) (es : List Arrow) (id : CellId) → Adds b c (fun_cell es) id → Grows b c →
    AreArrows b t r es → OfType c.arena.kinds (fun_ty t r) id
function-type b c t r es id adds grows h =
    record {
      there = added-there b c (fun_cell es) id adds;
      sort = λ k e. by (kind_of t) (kind_of r) refl refl k (sym (kind-Fun t r) ∙ e);
    }
  where
    by : (o p : Option Kind) → kind_of t ≡ o → kind_of r ≡ p → (k : Kind) →
        option_and_then (λ x. option_map (λ y. Fun x y) p) o ≡ Some k → OfSort c.arena.kinds (sort_of k) id
    by None p f g k e = absurd (none_some k e)
    by (Some i) None f g k e = absurd (none_some k e)
    by (Some i) (Some j) f g k e =
        subst (λ (q : Kind). OfSort c.arena.kinds (sort_of q) id) (same_some (Fun i j) k e)
        (sort-function b c es (sort_of i) (sort_of j) id adds grows (arrow-sorts b t r i j es f g h))

-- ---- sequences

abbrev pub AreItems : List CellKind → Ty → List CellId → Type 0
AreItems ks t [] = Unit {0}
AreItems ks t (x ∷ xs) = OfType ks t x × AreItems ks t xs

items-later : (b c : Build) (t : Ty) (xs : List CellId) → AreItems b.arena.kinds t xs → Grows b c →
    AreItems c.arena.kinds t xs
items-later b c t [] h g = tt
items-later b c t (x ∷ xs) h g = (type-later b c t x h.0 g, items-later b c t xs h.1 g)

push_item : (ks : List CellKind) (t : Ty) (xs : List CellId) (x : CellId) → AreItems ks t xs → OfType ks t x →
    AreItems ks t (xs ++ x ∷ [])
push_item ks t [] x h one = (one, tt)
push_item ks t (y ∷ xs) x h one = (h.0, push_item ks t xs x h.1 one)

pub items-turn : (b c : Build) (t : Ty) (xs after : List CellId) (x : CellId) → AreItems b.arena.kinds t xs → Grows b c →
    OfType c.arena.kinds t x → after ≡ xs ++ x ∷ [] → AreItems c.arena.kinds t after
items-turn b c t xs after x h g one pushed =
    subst (AreItems c.arena.kinds t) (sym pushed) (push_item c.arena.kinds t xs x (items-later b c t xs h g) one)

pub items-none : (ks : List CellKind) (t : Ty) (xs : List CellId) → xs ≡ [] → AreItems ks t xs
items-none ks t xs e = subst (AreItems ks t) (sym e) tt

pub items-there : (ks : List CellKind) (t : Ty) (xs : List CellId) → AreItems ks t xs →
    All (λ (x : CellId). x.index < length ks) xs
items-there ks t [] h = All-nil (λ (x : CellId). x.index < length ks)
items-there ks t (x ∷ xs) h =
    All-cons (λ (y : CellId). y.index < length ks) x xs h.0.there (items-there ks t xs h.1)

item-sorts : (ks : List CellKind) (t : Ty) (k : Kind) (xs : List CellId) → kind_of t ≡ Some k → AreItems ks t xs →
    All (OfSort ks (sort_of k)) xs
item-sorts ks t k [] f h = All-nil (OfSort ks (sort_of k))
item-sorts ks t k (x ∷ xs) f h = All-cons (OfSort ks (sort_of k)) x xs (h.0.sort k f) (item-sorts ks t k xs f h.1)

pub sequence-type : (ks ms : List CellKind) (t : Ty) (xs : List CellId) (id : CellId) → id.index < length ms →
    ((s : Sort) → All (OfSort ks s) xs → OfSort ms (sequence_of s) id) → AreItems ks t xs → OfType ms (seq_ty t) id
sequence-type ks ms t xs id there made h =
    record { there = there; sort = λ k e. by (kind_of t) refl k (sym (kind-Seq t) ∙ e) }
  where
    by : (o : Option Kind) → kind_of t ≡ o → (k : Kind) → option_map Seq o ≡ Some k → OfSort ms (sort_of k) id
    by None f k e = absurd (none_some k e)
    by (Some j) f k e =
        subst (λ (i : Kind). OfSort ms (sort_of i) id) (same_some (Seq j) k e)
        (made (sort_of j) (item-sorts ks t j xs f h))

-- ---- choices

pub one-type : (ks : List CellKind) (t : Ty) (x y : CellId) → HasKind t → OfType ks t x → OfType ks t y → OneType ks x y
one-type ks t x y k h g = record { sort = sort_of k.kind; left = h.sort k.kind k.is; right = g.sort k.kind k.is }

pub chosen-type : (b c : Build) (t : Ty) (l : Lit) (x y id : CellId) → OfType b.arena.kinds t x → OfType b.arena.kinds t y →
    Chooses b c l x y id → OfType c.arena.kinds t id
chosen-type b c t l x y id h g made =
    record { there = made.value.there; sort = λ k e. made.sort (sort_of k) (h.sort k e) (g.sort k e) }

pub kind-of-name : (ts : List Ty) (i : ℕ) (t : Ty) → HaveKinds ts → i < length ts → t ≡ get_or ts i t → HasKind t
kind-of-name ts i t h lt e = walk ts h.names i t h.kinds lt e
  where
    step : (us : List Ty) (u : Ty) (names : List Kind) (o : Option Kind) (p : Option (List Kind)) → kind_of u ≡ o →
        option_and_then (λ k. option_map (λ js. k ∷ js) p) o ≡ Some names →
        HasKind u × ((js : List Kind) × (p ≡ Some js))
    step us u names None p f q = absurd (none_some names q)
    step us u names (Some k) None f q = absurd (none_some names q)
    step us u names (Some k) (Some js) f q = (record { kind = k; is = f }, (js, refl))

    walk : (us : List Ty) (names : List Kind) (j : ℕ) (u : Ty) → all_there (map kind_of us) ≡ Some names → j < length us →
        u ≡ get_or us j u → HasKind u
    walk [] names j u q below f = absurd (omega (arith, below))
    walk (v ∷ us) names zero u q below f =
        subst HasKind (sym f) (step us v names (kind_of v) (all_there (map kind_of us)) refl q).0
    walk (v ∷ us) names (suc j) u q below f =
        let r = (step us v names (kind_of v) (all_there (map kind_of us)) refl q).1 in
        walk us r.0 j u r.1 (omega (arith, below)) f
