-- What a function gives at a cell, arrow by arrow.
use Rattle.std.proofs.Common.{◌≡◌, ℕ, suc, ◌+◌, ◌-◌, ◌<◌, ◌≤◌, Bool, true, false, not, ◌&&◌, ◌||◌, List, [], ◌∷◌, ◌++◌, map, length, drop, get_or, All, Option, Some, None, is_some, refl, ap, ◌∙◌, sym, subst, arith, below_more}
use Rattle.std.specs.Prelude.{if◌then◌else◌}
use Rattle.std.specs.List.{list_any, list_all}
use Rattle.std.proofs.lemmas.List.{length_push, get_or_push, get_or_append_left, get_or_default, drop_more, drop_all}
use Rattle.std.proofs.lemmas.List.Elements.{All-push, All-weaker, All-map, All-nil}
use Rattle.sat_formula.specs.declared.lit.Lit.{Lit}
use Rattle.sat_formula.specs.declared.cnf.Cnf.{Cnf}
use Rattle.sat_formula.specs.Lit.{lit_value, IsBelow}
use Rattle.sat_formula.specs.Formula.{Satisfies, Grows as FormulaGrows, HasValue}
use Rattle.sat_formula.proofs.Extension.{Satisfies-older}
use Rattle.sat_formula.proofs.GateClauses.{lit_value-negation}
use Rattle.tla_values.specs.Order.{same_value}
use Rattle.tla_values.specs.Sets.{apply, function_of}
use Rattle.tla_values.specs.declared.value.Value.{Value}
use Rattle.cell_arena.specs.declared.build.Build.{Build}
use Rattle.cell_arena.specs.declared.kinds.CellId.{CellId}
use Rattle.cell_arena.specs.declared.kinds.CellKind.{CellKind}
use Rattle.cell_arena.specs.declared.kinds.CellKind.TheVariants.{Fun}
use Rattle.cell_arena.specs.Cells.{Cells, IsHeld, kind_at}
use Rattle.cell_arena.specs.Decode.{decode, present_pairs}
use Rattle.cell_arena.specs.Growth.{Grows}
use Rattle.cell_arena.proofs.Growing.{Satisfies-before, decode-before, kind-before}
use Rattle.cell_merge.specs.Sorts.{Sort, OfSort, OneType, function_of as function_sort}
use Rattle.cell_merge.specs.Arrows.{arrows_of}
use Rattle.cell_merge.specs.Choices.{Chooses}
use Rattle.cell_merge.proofs.Edges.{sort-there, arrows-sort}
use Rattle.cell_merge.proofs.SortLaws.{OfSort-later}
use Rattle.function_rewriter.specs.Functions.{pairs_of}
use Rattle.function_rewriter.specs.Arrows.{TakesArgument, Tells, Applies}
use Rattle.function_rewriter.specs.inner.Arrows.{ArrowsAndArgument, IsMatch, Matches, AndsEach, Hits, IsFunctionIn, first_hit, ChoosesFirst}
use Rattle.function_rewriter.proofs.ArrowPairs.{Arrow, apply-arrow, function-arrows, arrows-named}
use Rattle.cell_merge.proofs.FunctionValues.{apply_function}

-- ---- a literal for each arrow

-- literals stay below as the formula grows
lits-later : (m n : ℕ) (ls : List Lit) → All (IsBelow m) ls → m ≤ n → All (IsBelow n) ls
lits-later m n ls h le = All-weaker (IsBelow m) (IsBelow n) (λ l b. omega arith) ls h

-- what holds at each place, with one more
at-places : (P : ℕ → Lit → Type 0) (ls after : List Lit) (l : Lit) (i : ℕ) → length ls ≡ i → after ≡ ls ++ l ∷ [] → ((j : ℕ) (d : Lit) → j < i → P j (get_or ls j d)) → P i l
    → (j : ℕ) (d : Lit) → j < i + 1 → P j (get_or after j d)
at-places P ls after l i n pushed h one j d lt =
    below_more (λ k. P k (get_or after k d)) i
    (λ k le. let m : k < length ls = omega arith in subst (P k) (sym (ap (λ xs. get_or xs k d) pushed ∙ get_or_append_left ls (l ∷ []) d k m)) (h k d le))
    (subst (P i) (sym (ap (λ xs. get_or xs i d) pushed ∙ get_or_push ls l d i n)) one) j lt

module _ (c : Cells) (f g : Cnf) (es : List Arrow) (x : CellId) (i : ℕ) (d : Arrow) (l : Lit) (before after : List Lit) (lt : i < length es) (grows : FormulaGrows f g) (pushed : after ≡ before ++ l ∷ []) where
  -- one more arrow, where its literal says what it should
  pub matches-push : Matches c f es x i before → IsMatch c g (get_or es i d) x l → Matches c g es x (i + 1) after
  matches-push m is = record {
    named = rw pushed (All-push (IsBelow g.vars) before l (lits-later f.vars g.vars before m.named grows.vars) is.below);
    count = ap length pushed ∙ length_push before l ∙ ap (λ (n : ℕ). n + 1) m.count;
    values = λ a s j le e k on.
        at-places (λ j k. (e : Arrow) → lit_value (get_or es j e).0 a ≡ true → lit_value k a ≡ same_value (decode c a x) (decode c a (get_or es j e).1)) before after l i m.count pushed
        (λ j k le e on. m.values a (Satisfies-older f g a grows s) j le e k on)
        (λ e on.
        let same : get_or es i d ≡ get_or es i e = get_or_default es i d e lt in
        is.value a s (ap (λ (y : Arrow). lit_value y.0 a) same ∙ on) ∙ ap (λ (y : Arrow). same_value (decode c a x) (decode c a y.1)) same) j k le e on;
  }

module _ (f g : Cnf) (es : List Arrow) (i : ℕ) (d : Arrow) (l : Lit) (before after : List Lit) (lt : i < length es) (grows : FormulaGrows f g) (pushed : after ≡ before ++ l ∷ []) where
  pub ands-push : (tests : List Lit) (t : Lit) → i < length tests → AndsEach f es tests i before → HasValue g l (λ a. lit_value (get_or es i d).0 a && lit_value (get_or tests i t) a) → AndsEach g es tests (i + 1) after
  ands-push tests t le m gate = record {
    named = rw pushed (All-push (IsBelow g.vars) before l (lits-later f.vars g.vars before m.named grows.vars) gate.below);
    count = ap length pushed ∙ length_push before l ∙ ap (λ (n : ℕ). n + 1) m.count;
    values = λ a s j lj e k u.
        at-places (λ j k. (e : Arrow) (u : Lit) → lit_value k a ≡ (lit_value (get_or es j e).0 a && lit_value (get_or tests j u) a)) before after l i m.count pushed
        (λ j k lj e u. m.values a (Satisfies-older f g a grows s) j lj e k u)
        (λ e u. gate.value a s ∙ ap (λ (y : Arrow). lit_value y.0 a && lit_value (get_or tests i t) a) (get_or_default es i d e lt)
        ∙ ap (λ (y : Lit). lit_value (get_or es i e).0 a && lit_value y a) (get_or_default tests i t u le)) j k lj e u;
  }

-- where the literals match, so that an arrow is hit
pub hits-are : (c : Cells) (f g : Cnf) (es : List Arrow) (x : CellId) (tests hits : List Lit) → Matches c f es x (length es) tests → FormulaGrows f g → AndsEach g es tests (length es) hits → Hits c g es x (length es) hits
hits-are c f g es x tests hits m grows h = record {
  named = h.named;
  count = h.count;
  values = λ a s i lt e l. h.values a s i lt e l l ∙ both (lit_value (get_or es i e).0 a) _ _ (m.values a (Satisfies-older f g a grows s) i lt e l);
}
  where
    both : (t u v : Bool) → (t ≡ true → u ≡ v) → (t && u) ≡ (t && v)
    both true u v h = h refl
    both false u v h = refl

-- ---- what hits say of the function

module _ (a : List Bool) (of : CellId → Value) (v : Value) where
  abbrev AreHits : List Arrow → List Lit → Type 0
  AreHits es ls = (i : ℕ) → i < length es → (e : Arrow) (l : Lit) → lit_value (get_or ls i l) a ≡ (lit_value (get_or es i e).0 a && same_value v (of (get_or es i e).1))

  pub hit-apply : (es : List Arrow) (ls : List Lit) → length ls ≡ length es → AreHits es ls → first_hit a of es ls ≡ apply (present_pairs a of es) v
  hit-apply [] ls n h = refl
  hit-apply (e ∷ es) [] n h = absurd (omega arith)
  hit-apply (e ∷ es) (l ∷ ls) n h =
      ap (λ (t : Bool). if t then Some (of e.2) else first_hit a of es ls) (h 0 (omega arith) e l)
      ∙ ap (λ o. if lit_value e.0 a && same_value v (of e.1) then Some (of e.2) else o) (hit-apply es ls (omega arith) (λ i lt d k. h (suc i) (omega arith) d k))
      ∙ sym (apply-arrow a of e es v)

  pub hit-some : (es : List Arrow) (ls : List Lit) → length ls ≡ length es → list_any (λ l. lit_value l a) ls ≡ is_some (first_hit a of es ls)
  hit-some [] [] n = refl
  hit-some [] (l ∷ ls) n = absurd (omega arith)
  hit-some (e ∷ es) [] n = absurd (omega arith)
  hit-some (e ∷ es) (l ∷ ls) n = split (lit_value l a) (hit-some es ls (omega arith))
    where
      split : (t : Bool) → list_any (λ l. lit_value l a) ls ≡ is_some (first_hit a of es ls) → (t || list_any (λ l. lit_value l a) ls) ≡ is_some (if t then Some (of e.2) else first_hit a of es ls)
      split true h = refl
      split false h = h

-- there is none exactly where the function gives nothing
pub outside-value : (c : Cells) (f g : Cnf) (es : List Arrow) (x : CellId) (hits : List Lit) (none : Lit) → Hits c f es x (length es) hits → FormulaGrows f g
    → HasValue g none (λ a. not (list_any (λ l. lit_value l a) hits)) → HasValue g none (λ a. not (is_some (apply (present_pairs a (decode c a) es) (decode c a x))))
outside-value c f g es x hits none h grows gate = record {
  below = gate.below;
  value = λ a s. gate.value a s ∙ ap not (hit-some a (decode c a) (decode c a x) es hits h.count
      ∙ ap is_some (hit-apply a (decode c a) (decode c a x) es hits h.count (λ i lt e l. h.values a (Satisfies-older f g a grows s) i lt e l)));
}

-- none of the literals is true where all their negations are
pub none-value : (a : List Bool) (ls : List Lit) → list_all (λ l. lit_value l a) (map (λ (l : Lit). record { var = l.var; neg = not l.neg }) ls) ≡ not (list_any (λ l. lit_value l a) ls)
none-value a [] = refl
none-value a (l ∷ ls) = ap (λ t. t && list_all (λ l. lit_value l a) (map (λ (l : Lit). record { var = l.var; neg = not l.neg }) ls)) (lit_value-negation l a) ∙ split (lit_value l a) (none-value a ls)
  where
    split : (t : Bool) → list_all (λ l. lit_value l a) (map (λ (l : Lit). record { var = l.var; neg = not l.neg }) ls) ≡ not (list_any (λ l. lit_value l a) ls)
        → (not t && list_all (λ l. lit_value l a) (map (λ (l : Lit). record { var = l.var; neg = not l.neg }) ls)) ≡ not (t || list_any (λ l. lit_value l a) ls)
    split true h = refl
    split false h = h

pub negations-named : (n : ℕ) (ls : List Lit) → All (IsBelow n) ls → All (IsBelow n) (map (λ (l : Lit). record { var = l.var; neg = not l.neg }) ls)
negations-named n ls h = All-map (IsBelow n) (λ (l : Lit). record { var = l.var; neg = not l.neg }) ls h

-- ---- the result of the first hit, from the last arrow on

pub first-last : (b : Build) (f : CellId) (hits : List Lit) (count : ℕ) (last : Arrow) → count ≡ length hits → 0 < count → length hits ≡ length (arrows_of (kind_at b.arena.kinds f))
    → last ≡ get_or (arrows_of (kind_at b.arena.kinds f)) (count - 1) last → ChoosesFirst b b f hits (count - 1) last.2
first-last b f hits count last whole some n is =
    let ks : List CellKind = b.arena.kinds in
    let es : List Arrow = arrows_of (kind_at ks f) in
    let i : ℕ = count - 1 in
    let lt : i < length es = omega arith in
    record {
      sort = λ s t h. subst (λ (e : Arrow). OfSort ks t e.2) (sym is) (function-arrows ks f s t h i last lt).1;
      gives = λ a s w e.
          let none : drop (i + 1) es ≡ [] = drop_all (i + 1) es (omega arith) in
          let here : drop i es ≡ last ∷ [] = drop_more es i last lt ∙ ap (λ (y : Arrow). y ∷ drop (i + 1) es) (sym is) ∙ ap (λ (l : List Arrow). last ∷ l) none in
          one a (decode b.arena a) (drop i hits) w (ap (λ (l : List Arrow). first_hit a (decode b.arena a) l (drop i hits)) (sym here) ∙ e);
    }
  where
    one : (a : List Bool) (of : CellId → Value) (ls : List Lit) (w : Value) → first_hit a of (last ∷ []) ls ≡ Some w → of last.2 ≡ w
    one a of [] w e = absurd (cc)
    one a of (l ∷ ls) w e = at (lit_value l a) e
      where
        at : (t : Bool) → (if t then Some (of last.2) else None) ≡ Some w → of last.2 ≡ w
        at true f = cc
        at false f = absurd (cc)

pub first-more : (old mid new : Build) (f : CellId) (hits : List Lit) (place : ℕ) (l : Lit) (arrow : Arrow) (cell id : CellId) → IsFunctionIn old.arena.kinds f → place < length hits → length hits ≡ length (arrows_of (kind_at old.arena.kinds f))
    → Grows old mid → Grows mid new → l ≡ get_or hits place l → arrow ≡ get_or (arrows_of (kind_at old.arena.kinds f)) place arrow
    → ChoosesFirst old mid f hits (place + 1) cell → Chooses mid new l arrow.2 cell id → ChoosesFirst old new f hits place id
first-more old mid new f hits place l arrow cell id fun lt n before grows at is first chosen =
    let ks : List CellKind = old.arena.kinds in
    let es : List Arrow = arrows_of (kind_at ks f) in
    let le : place < length es = omega arith in
    let there : arrow.2.index < length ks = subst (λ (e : Arrow). e.2.index < length ks) (sym is) (sort-there ks fun.to _ (function-arrows ks f fun.from fun.to fun.is place arrow le).1) in
    record {
      sort = λ s t h.
          let here : OfSort ks t arrow.2 = subst (λ (e : Arrow). OfSort ks t e.2) (sym is) (function-arrows ks f s t h place arrow le).1 in
          chosen.sort t (OfSort-later old mid t arrow.2 here before) (first.sort s t h);
      gives = λ a s w e.
          let s0 = Satisfies-before mid new a grows s in
          let of : CellId → Value = decode old.arena a in
          let arrows : drop place es ≡ arrow ∷ drop (place + 1) es = drop_more es place arrow le ∙ ap (λ (y : Arrow). y ∷ drop (place + 1) es) (sym is) in
          let lits : drop place hits ≡ l ∷ drop (place + 1) hits = drop_more hits place l lt ∙ ap (λ (y : Lit). y ∷ drop (place + 1) hits) (sym at) in
          let first_is : (if lit_value l a then Some (of arrow.2) else first_hit a of (drop (place + 1) es) (drop (place + 1) hits)) ≡ Some w =
          sym (ap (λ (k : List Arrow). first_hit a of k (drop place hits)) arrows ∙ ap (first_hit a of (arrow ∷ drop (place + 1) es)) lits) ∙ e in
          chosen.value.value a s ∙ split (lit_value l a) w _ _ _ _ first_is (first.gives a s0 w) (decode-before old mid a arrow.2 before there);
    }
  where
    split : (t : Bool) (w u : Value) (o : Option Value) (x y : Value) → (if t then Some u else o) ≡ Some w → (o ≡ Some w → y ≡ w) → x ≡ u → (if t then x else y) ≡ w
    split true w u o x y e f g = cc
    split false w u o x y e f g = f e

-- ---- what is given at the argument

pub applied : (old mid new : Build) (f x id : CellId) (es : List Arrow) (hits : List Lit) (outside : Lit) → kind_at old.arena.kinds f ≡ Fun es → mid.arena ≡ old.arena → Grows mid new
    → ((a : List Bool) → pairs_of (decode old.arena a f) ≡ function_of (present_pairs a (decode old.arena a) es))
    → Hits old.arena mid.formula es x (length es) hits → HasValue mid.formula outside (λ a. not (is_some (apply (present_pairs a (decode old.arena a) es) (decode old.arena a x))))
    → IsFunctionIn old.arena.kinds f → ChoosesFirst mid new f hits 0 id → Applies old new f x (id, outside)
applied old mid new f x id es hits outside is same grows pairs hit out fun first =
    let sort : (s t : Sort) → OfSort old.arena.kinds (function_sort s t) f → OfSort new.arena.kinds t id =
    λ s t h. first.sort s t (subst (λ (c : Cells). OfSort c.kinds (function_sort s t) f) (sym same) h) in
    record {
      yields = record {
        there = sort-there new.arena.kinds fun.to id (sort fun.from fun.to fun.is);
        below = let p = out.below in let q = grows.formula.vars in omega arith;
        tells = λ a s.
            let s0 = Satisfies-before mid new a grows s in
            let of : CellId → Value = decode old.arena a in
            let given : Option Value = apply (present_pairs a of es) (of x) in
            let hits_are : first_hit a of es hits ≡ given = hit-apply a of (of x) es hits hit.count (λ i lt e l. hit.values a s0 i lt e l) in
            let gives : (w : Value) → given ≡ Some w → decode new.arena a id ≡ w =
            λ w e. first.gives a s w (ap (λ (c : Cells). first_hit a (decode c a) (arrows_of (kind_at c.kinds f)) hits) same ∙ ap (λ (k : CellKind). first_hit a of (arrows_of k) hits) is ∙ hits_are ∙ e) in
            subst (Tells (lit_value outside a) (decode new.arena a id)) (sym (ap (λ l. apply l (of x)) (pairs a) ∙ apply_function (present_pairs a of es) (of x)))
            (told given (lit_value outside a) (decode new.arena a id) (out.value a s0) gives);
      };
      sort = sort;
    }
  where
    told : (o : Option Value) (t : Bool) (v : Value) → t ≡ not (is_some o) → ((w : Value) → o ≡ Some w → v ≡ w) → Tells t v o
    told None t v e g = e
    told (Some w) t v e g = (e, g w refl)

-- ---- what the calls ask for, and where the loops begin

pub matches-none : (c : Cells) (f : Cnf) (es : List Arrow) (x : CellId) (ls : List Lit) → ls ≡ [] → Matches c f es x 0 ls
matches-none c f es x ls is = rw is (record { named = All-nil (IsBelow f.vars); count = refl; values = λ a s i lt. absurd (omega arith) })

pub ands-none : (f : Cnf) (es : List Arrow) (tests ls : List Lit) → ls ≡ [] → AndsEach f es tests 0 ls
ands-none f es tests ls is = rw is (record { named = All-nil (IsBelow f.vars); count = refl; values = λ a s i lt. absurd (omega arith) })

pub argument-type : (ks : List CellKind) (n : ℕ) (es : List Arrow) (x : CellId) (i : ℕ) (d : Arrow) → ArrowsAndArgument ks n es x → i < length es → OneType ks x (get_or es i d).1
argument-type ks n es x i d h lt = record { sort = h.from; left = h.argument; right = (h.arrows i d lt).0 }

pub result-type : (old mid : Build) (f : CellId) (s t : Sort) (i : ℕ) (arrow : Arrow) (cell : CellId) → OfSort old.arena.kinds (function_sort s t) f → i < length (arrows_of (kind_at old.arena.kinds f))
    → arrow ≡ get_or (arrows_of (kind_at old.arena.kinds f)) i arrow → Grows old mid → OfSort mid.arena.kinds t cell → OneType mid.arena.kinds arrow.2 cell
result-type old mid f s t i arrow cell h lt is grows other =
    let here : OfSort old.arena.kinds t arrow.2 = subst (λ (e : Arrow). OfSort old.arena.kinds t e.2) (sym is) (function-arrows old.arena.kinds f s t h i arrow lt).1 in
    record { sort = t; left = OfSort-later old mid t arrow.2 here grows; right = other }

-- an arrow that is never there
pub match-off : (c : Cells) (f : Cnf) (e : Arrow) (x : CellId) → e.0.var < f.vars → ((a : List Bool) → Satisfies a f → lit_value e.0 a ≡ false) → IsMatch c f e x e.0
match-off c f e x below off = record { below = below; value = λ a s on. absurd (let p = off a s in cc) }

pub hits-later : (c : Cells) (f g : Cnf) (es : List Arrow) (x : CellId) (n : ℕ) (ls : List Lit) → Hits c f es x n ls → FormulaGrows f g → Hits c g es x n ls
hits-later c f g es x n ls h grows = record {
  named = lits-later f.vars g.vars ls h.named grows.vars;
  count = h.count;
  values = λ a s. h.values a (Satisfies-older f g a grows s);
}

-- ---- a function cell in a larger build

module _ (old mid : Build) (f : CellId) (fun : IsFunctionIn old.arena.kinds f) (before : Grows old mid) where
  pub arrows-before : arrows_of (kind_at mid.arena.kinds f) ≡ arrows_of (kind_at old.arena.kinds f)
  arrows-before = ap arrows_of (kind-before old mid f before fun.is.0)

  pub function-there : f.index < length mid.arena.kinds
  function-there = let p = fun.is.0 in let q = before.longer in omega arith

  pub arrow-before : (place : ℕ) (arrow : Arrow) → arrow ≡ get_or (arrows_of (kind_at mid.arena.kinds f)) place arrow → arrow ≡ get_or (arrows_of (kind_at old.arena.kinds f)) place arrow
  arrow-before place arrow is = is ∙ ap (λ (es : List Arrow). get_or es place arrow) arrows-before

  pub place-there : (place n : ℕ) → place < n → n ≡ length (arrows_of (kind_at old.arena.kinds f)) → place < length (arrows_of (kind_at mid.arena.kinds f))
  place-there place n lt e = let q = ap (λ (es : List Arrow). length es) arrows-before in omega arith

-- one turn of the loop, which goes down from the last place
module _ (old mid : Build) (f : CellId) (hits : List Lit) (i : ℕ) (fun : IsFunctionIn old.arena.kinds f) (before : Grows old mid) (from : 1 ≤ i) (to : i < length hits) (n : length hits ≡ length (arrows_of (kind_at old.arena.kinds f)))
    (arrow : Arrow) (is : arrow ≡ get_or (arrows_of (kind_at mid.arena.kinds f)) (length hits - 1 - i) arrow) (cell : CellId) (first : ChoosesFirst old mid f hits (length hits - i) cell) where
  pub first-type : OneType mid.arena.kinds arrow.2 cell
  first-type =
      result-type old mid f fun.from fun.to (length hits - 1 - i) arrow cell fun.is (omega arith) (arrow-before old mid f fun before (length hits - 1 - i) arrow is) before (first.sort fun.from fun.to fun.is)

  pub first-turn : (new : Build) (d : Lit) (id : CellId) → Grows mid new → Chooses mid new (get_or hits (length hits - 1 - i) d) arrow.2 cell id → ChoosesFirst old new f hits (length hits - (i + 1)) id
  first-turn new d id grows chosen =
      let l : Lit = get_or hits (length hits - 1 - i) d in
      let down : length hits - i ≡ (length hits - 1 - i) + 1 = omega arith in
      let here : length hits - 1 - i ≡ length hits - (i + 1) = omega arith in
      subst (λ (k : ℕ). ChoosesFirst old new f hits k id) here
      (first-more old mid new f hits (length hits - 1 - i) l arrow cell id fun (omega arith) n before grows (get_or_default hits (length hits - 1 - i) d l (omega arith)) (arrow-before old mid f fun before (length hits - 1 - i) arrow is)
      (subst (λ (k : ℕ). ChoosesFirst old mid f hits k cell) down first) chosen)

-- the arrows of a function and a cell of the sort of their arguments
pub arrows-and-argument : (b : Build) (f x : CellId) (m : ℕ) (k : CellKind) (es items : List Arrow) → TakesArgument b.arena.kinds f x → k ≡ kind_at b.arena.kinds f → k ≡ Fun es → items ≡ es → IsHeld m b.arena.vars b.arena.width k
    → ArrowsAndArgument b.arena.kinds b.formula.vars items x
arrows-and-argument b f x m k es items t same is list held = rw list (record {
  from = t.from;
  to = t.to;
  arrows = arrows-sort b.arena.kinds t.from t.to f es t.function (sym same ∙ is);
  named = arrows-named b.arena m b.formula.vars k es held is b.fits;
  argument = t.argument;
})

pub arrows-count : (ks : List CellKind) (f : CellId) (k : CellKind) (es items : List Arrow) → k ≡ kind_at ks f → k ≡ Fun es → items ≡ es → length items ≡ length (arrows_of (kind_at ks f))
arrows-count ks f k es items same is list = ap (λ (l : List Arrow). length l) list ∙ ap (λ (k : CellKind). length (arrows_of k)) (sym (sym same ∙ is))
