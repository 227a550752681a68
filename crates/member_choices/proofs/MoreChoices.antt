-- The choices of members of several sets, one set more in front at a time; a choice that is there is one of the
-- language's.
use Rattle.std.proofs.Common.{◌≡◌, ℕ, ◌+◌, ◌-◌, ◌<◌, ◌≤◌, Bool, true, false, not, ◌&&◌, ◌||◌, List, [], ◌∷◌, ◌++◌, map}
use Rattle.std.proofs.Common.{length, take, drop, get_or, refl, sym, ◌∙◌, ap, subst, arith}
use Rattle.std.specs.List.{list_any, list_all}
use Rattle.std.proofs.lemmas.List.{drop_all, drop_more}
use Rattle.std.proofs.lemmas.List.Folds.{list_any-append, list_any_more}
use Rattle.std.proofs.lemmas.List.Elements.{All-cons, All-nil, All-push}
use Rattle.sat_formula.specs.declared.lit.Lit.{Lit}
use Rattle.sat_formula.specs.declared.cnf.Cnf.{Cnf}
use Rattle.sat_formula.specs.Lit.{lit_value, IsBelow}
use Rattle.sat_formula.specs.Formula.{Satisfies, HasValue, Grows as FormulaGrows}
use Rattle.sat_formula.proofs.Extension.{Satisfies-older}
use Rattle.tla_values.specs.Sets.{elements}
use Rattle.tla_values.specs.declared.value.Value.{Value}
use Rattle.tla_meaning.specs.Shapes.{choices, with_each}
use Rattle.cell_arena.specs.declared.kinds.CellId.{CellId}
use Rattle.cell_arena.specs.declared.kinds.CellKind.{CellKind}
use Rattle.cell_arena.specs.declared.kinds.CellKind.TheVariants.{Set}
use Rattle.cell_arena.specs.Cells.{Cells as Arena, kind_at}
use Rattle.cell_arena.specs.Decode.{decode, kind_value}
use Rattle.cell_merge.specs.Edges.{LeadTo, any_edge}
use Rattle.cell_merge.specs.Sorts.{Sort, set_of as set_sort}
use Rattle.cell_merge.proofs.Edges.{any-cell, edges-sort}
use Rattle.outcome_cells.proofs.Joining.{any_map}
use Rattle.typed_cells.specs.KindSorts.{OfSorts}
use Rattle.member_choices.specs.declared.choice.Choice.{Choice}
use Rattle.member_choices.specs.Choices.{AreChoices, ChoicesOf, ListsChoices, any_choice}
use Rattle.member_choices.specs.inner.Listings.{AddsEdges, AddsFront, AddsSet}
use Rattle.member_choices.proofs.Testing.{any-more, any-push, choices-later}

any_same : {X : Type 0} (p q : X → Bool) → ((x : X) → p x ≡ q x) → (xs : List X) → list_any p xs ≡ list_any q xs
any_same p q h [] = refl
any_same p q h (x ∷ xs) = ap (λ t. t || list_any p xs) (h x) ∙ ap (λ t. q x || t) (any_same p q h xs)

any_with : (p : List Value → Bool) (xs : List Value) (yss : List (List Value)) →
    list_any p (with_each xs yss) ≡ list_any (λ x. list_any (λ ys. p (x ∷ ys)) yss) xs
any_with p [] yss = refl
any_with p (x ∷ xs) yss =
    list_any-append p (map (λ ys. x ∷ ys) yss) (with_each xs yss)
    ∙ ap (λ t. t || list_any p (with_each xs yss)) (any_map p (λ ys. x ∷ ys) yss)
    ∙ ap (λ t. list_any (λ ys. p (x ∷ ys)) yss || t) (any_with p xs yss)

-- ---- the cell of an edge in front of each choice

module _ (f g : Cnf) (edge : Lit × CellId) (cs : List Choice) (i : ℕ) (d : Choice) (at : d ≡ get_or cs i d) (both : Lit)
    (start old : List Choice) (lt : i < length cs) (grows : FormulaGrows f g)
    (adds : AddsFront f edge (take i cs) cs start old)
    (gate_d : HasValue g both (λ a. lit_value d.there a && lit_value edge.0 a)) where
  gate : HasValue g both (λ a. lit_value (get_or cs i d).there a && lit_value edge.0 a)
  gate = subst (λ (y : Choice). HasValue g both (λ a. lit_value y.there a && lit_value edge.0 a)) at gate_d

  or-step : (o l x m q : Bool) → ((o || (l && x)) || ((m && l) && q)) ≡ (o || (l && (x || (m && q))))
  or-step o l x m q = grind arith

  front-any : (a : List Bool) → Satisfies a g → (of : CellId → Value) (p : List Value → Bool) →
      (any_choice a of p old || (lit_value both a && p (of edge.1 ∷ map of (get_or cs i d).cells))) ≡
      (any_choice a of p start || (lit_value edge.0 a && any_choice a of (λ vs. p (of edge.1 ∷ vs)) (take (i + 1) cs)))
  front-any a s of p =
      let q : List Value → Bool = λ vs. p (of edge.1 ∷ vs) in
      let here : List Value = map of (get_or cs i d).cells in
      ap (λ t. t || (lit_value both a && q here)) (adds.any a (Satisfies-older f g a grows s) of p)
      ∙ ap (λ t. (any_choice a of p start || (lit_value edge.0 a && any_choice a of q (take i cs))) || (t && q here))
      (gate.value a s)
      ∙ or-step (any_choice a of p start) (lit_value edge.0 a) (any_choice a of q (take i cs))
      (lit_value (get_or cs i d).there a) (q here)
      ∙ ap (λ t. any_choice a of p start || (lit_value edge.0 a && t)) (sym (any-more a of q cs i d lt))

  -- one that is then never there
  pub front-passed : ((a : List Bool) → Satisfies a g → lit_value both a ≡ false) →
      AddsFront g edge (take (i + 1) cs) cs start old
  front-passed off = record {
    below = choices-later f.vars g.vars old adds.below grows.vars;
    sorts = adds.sorts;
    any = λ a s of p.
        none (any_choice a of p old) (lit_value both a) (p (of edge.1 ∷ map of (get_or cs i d).cells)) (off a s)
        ∙ front-any a s of p;
  }
    where
      none : (t q r : Bool) → q ≡ false → t ≡ (t || (q && r))
      none t q r e = grind arith

  pub front-push : (cells : List CellId) (after : List Choice) → cells ≡ edge.1 ∷ d.cells →
      after ≡ old ++ (record { there = both; cells = cells }) ∷ [] → AddsFront g edge (take (i + 1) cs) cs start after
  front-push cells after is_d pushed =
      let is : cells ≡ edge.1 ∷ (get_or cs i d).cells = is_d ∙ ap (λ (y : Choice). edge.1 ∷ y.cells) at in
      let c : Choice = record { there = both; cells = cells } in
      record {
        below = rw pushed (All-push (λ (c : Choice). IsBelow g.vars c.there) old c
            (choices-later f.vars g.vars old adds.below grows.vars) gate.below);
        sorts = λ ks s ss h k o. rw pushed (All-push (λ (c : Choice). OfSorts ks (s ∷ ss) c.cells) old c
            (adds.sorts ks s ss h k o)
            (subst (OfSorts ks (s ∷ ss)) (sym is) (h, k i d lt)));
        any = λ a s of p.
            ap (any_choice a of p) pushed ∙ any-push a of p old c
            ∙ ap (λ (xs : List CellId). any_choice a of p old || (lit_value both a && p (map of xs))) is
            ∙ front-any a s of p;
      }

-- ---- each edge

pub edges-more : (f g : Cnf) (edges : List (Lit × CellId)) (i : ℕ) (d : Lit × CellId) (cs old new : List Choice) →
    i < length edges →
    FormulaGrows f g → AddsEdges f edges (take i edges) cs old → AddsFront g (get_or edges i d) cs cs old new →
    AddsEdges g edges (take (i + 1) edges) cs new
edges-more f g edges i d cs old new lt grows each adds = record {
  below = adds.below;
  sorts = λ ks s ss h k. adds.sorts ks s ss (h i d lt) k (each.sorts ks s ss h k);
  any = λ a s of p.
      let test : Lit × CellId → Bool = λ e. lit_value e.0 a && any_choice a of (λ vs. p (of e.1 ∷ vs)) cs in
      adds.any a s of p ∙ ap (λ t. t || test (get_or edges i d)) (each.any a (Satisfies-older f g a grows s) of p)
      ∙ sym (list_any_more test edges i d lt);
}

-- ---- a set

pub set-adds : (c : Arena) (f : Cnf) (set : CellId) (k : CellKind) (es items : List (Lit × CellId))
    (cs out : List Choice) →
    k ≡ kind_at c.kinds set → k ≡ Set es → ((a : List Bool) → decode c a set ≡ kind_value c.texts a (decode c a) k) →
    items ≡ es →
    AddsEdges f items items cs out → AddsSet c f set cs out
set-adds c f set k es items cs out same is decodes list adds = record {
  below = adds.below;
  sorts = λ s ss h p. adds.sorts c.kinds s ss
      (subst (LeadTo c.kinds s) (sym list) (edges-sort c.kinds s set es h (sym same ∙ is))) p;
  any = λ a s p.
      let q : Value → Bool = λ v. any_choice a (decode c a) (λ vs. p (v ∷ vs)) cs in
      adds.any a s (decode c a) p ∙ ap (any_edge a (decode c a) q) list
      ∙ sym (any-cell q c a set es (decodes a ∙ ap (kind_value c.texts a (decode c a)) is));
}

-- ---- all sets, from the last on

pub lists-none : (c : Arena) (f : Cnf) (top : Lit) (cs : List Choice) → cs ≡ record { there = top; cells = [] } ∷ [] →
    IsBelow f.vars top → ((a : List Bool) → Satisfies a f → lit_value top a ≡ true) → ListsChoices c f [] cs
lists-none c f top cs is below on =
    let one : Choice = record { there = top; cells = [] } in
    rw is (record {
      below = All-cons (λ (c : Choice). IsBelow f.vars c.there) one [] below
          (All-nil (λ (c : Choice). IsBelow f.vars c.there));
      sorts = λ ss h. none ss h one;
      members = λ a s p. ap (λ (t : Bool). (t && p []) || false) (on a s);
    })
  where
    none : (ss : List Sort) → OfSorts c.kinds (map set_sort ss) [] → (one : Choice) →
        ChoicesOf c.kinds ss (record { there = one.there; cells = [] } ∷ [])
    none [] h one = All-cons (λ (x : Choice). OfSorts c.kinds [] x.cells)
        (record { there = one.there; cells = [] }) [] tt (All-nil (λ (x : Choice). OfSorts c.kinds [] x.cells))
    none (s ∷ ss) h one = absurd h

pub lists-start : (c : Arena) (f : Cnf) (sets : List CellId) (cs : List Choice) → ListsChoices c f [] cs →
    ListsChoices c f (drop (length sets - 0) sets) cs
lists-start c f sets cs h =
    subst (λ (xs : List CellId). ListsChoices c f xs cs) (sym (drop_all (length sets - 0) sets (omega arith))) h

pub lists-more : (c : Arena) (f g : Cnf) (set : CellId) (sets : List CellId) (old new : List Choice) →
    FormulaGrows f g →
    ListsChoices c f sets old → AddsSet c g set old new → ListsChoices c g (set ∷ sets) new
lists-more c f g set sets old new grows lists adds = record {
  below = adds.below;
  sorts = λ ss h. both ss h;
  members = λ a s p.
      let yss : List (List Value) = choices (map (λ x. elements (decode c a x)) sets) in
      adds.any a s p
      ∙ any_same _ _ (λ v. lists.members a (Satisfies-older f g a grows s) (λ vs. p (v ∷ vs)))
      (elements (decode c a set))
      ∙ sym (any_with p (elements (decode c a set)) yss);
}
  where
    both : (ss : List Sort) → OfSorts c.kinds (map set_sort ss) (set ∷ sets) → ChoicesOf c.kinds ss new
    both [] h = absurd h
    both (s ∷ ss) h = adds.sorts s ss h.0 (lists.sorts ss h.1)

pub lists-turn : (c : Arena) (f g : Cnf) (sets : List CellId) (i : ℕ) (d : CellId) (old new : List Choice) →
    i < length sets →
    FormulaGrows f g → ListsChoices c f (drop (length sets - i) sets) old →
    AddsSet c g (get_or sets (length sets - 1 - i) d) old new → ListsChoices c g (drop (length sets - (i + 1)) sets) new
lists-turn c f g sets i d old new lt grows lists adds =
    let n : length sets - (i + 1) ≡ length sets - 1 - i = omega arith in
    let m : length sets - i ≡ length sets - 1 - i + 1 = omega arith in
    let e : drop (length sets - 1 - i) sets ≡ get_or sets (length sets - 1 - i) d ∷ drop (length sets - i) sets =
    drop_more sets (length sets - 1 - i) d (omega arith)
    ∙ ap (λ (k : ℕ). get_or sets (length sets - 1 - i) d ∷ drop k sets) (sym m) in
    subst (λ (xs : List CellId). ListsChoices c g xs new) (sym (ap (λ (k : ℕ). drop k sets) n ∙ e))
    (lists-more c f g _ _ old new grows lists adds)

pub lists-all : (c : Arena) (f : Cnf) (sets : List CellId) (i : ℕ) (cs : List Choice) → length sets ≤ i →
    ListsChoices c f (drop (length sets - i) sets) cs → ListsChoices c f sets cs
lists-all c f sets i cs le h =
    let n : length sets - i ≡ 0 = omega arith in
    subst (λ (k : ℕ). ListsChoices c f (drop k sets) cs) n h

-- what holds of all choices of the language holds of each choice that is there
all_by_any : {X : Type 0} (p : X → Bool) (xs : List X) → list_all p xs ≡ true → list_any (λ x. not (p x)) xs ≡ false
all_by_any p [] e = refl
all_by_any p (x ∷ xs) e = by (p x) e (all_by_any p xs)
  where
    by : (t : Bool) → (t && list_all p xs) ≡ true → (list_all p xs ≡ true → list_any (λ x. not (p x)) xs ≡ false) →
        (not t || list_any (λ x. not (p x)) xs) ≡ false
    by true e h = h e
    by false e h = absurd (cc)

pub none_other : (a : List Bool) (of : CellId → Value) (cs : List Choice) (vss : List (List Value))
    (p : List Value → Bool) →
    AreChoices a of cs vss → list_all p vss ≡ true → any_choice a of (λ vs. not (p vs)) cs ≡ false
none_other a of cs vss p h e = h (λ vs. not (p vs)) ∙ all_by_any p vss e
