-- All functions from the members of some edges to those of others.
use Rattle.std.proofs.Common.{◌≡◌, ℕ, suc, ◌+◌, ◌-◌, ◌<◌, ◌≤◌, Bool, true, false, cond, not, ◌&&◌, ◌||◌, List, [], ◌∷◌, ◌++◌, map, length, take, drop, get_or, All, refl, ap, ◌∙◌, sym, subst, arith, ◌⊎◌, inl, inr}
use Rattle.std.specs.Prelude.{filter, if◌then◌else◌}
use Rattle.std.specs.List.{list_any, zip}
use Rattle.std.proofs.lemmas.Bool.{or_cases}
use Rattle.std.proofs.lemmas.List.{take_all, drop_all, drop_more}
use Rattle.std.proofs.lemmas.List.Folds.{list_any-append, list_any_more}
use Rattle.std.proofs.lemmas.List.Elements.{All-push, All-nil, All-cons, All-append, All-weaker}
use Rattle.std.proofs.lemmas.Slice.Zip.{firsts-zip, seconds-zip}
use Rattle.sat_formula.specs.declared.lit.Lit.{Lit}
use Rattle.sat_formula.specs.declared.cnf.Cnf.{Cnf}
use Rattle.sat_formula.specs.Lit.{lit_value, IsBelow}
use Rattle.sat_formula.specs.Formula.{Satisfies, HasValue, Grows as FormulaGrows}
use Rattle.sat_formula.proofs.Extension.{Satisfies-older}
use Rattle.tla_values.specs.Order.{same_value}
use Rattle.tla_values.specs.Sets.{elements, function_of, member, set_of}
use Rattle.tla_values.specs.declared.value.Value.{Value}
use Rattle.tla_values.specs.declared.value.Value.TheVariants as value
use Rattle.tla_values.proofs.Members.{elements-set}
use Rattle.tla_values.proofs.Extensional.{same_equal, same_itself, member-set_of, true_test}
use Rattle.cell_arena.specs.declared.build.Build.{Build}
use Rattle.cell_arena.specs.declared.kinds.CellId.{CellId}
use Rattle.cell_arena.specs.declared.kinds.CellKind.TheVariants.{Set, Fun}
use Rattle.cell_arena.specs.Cells.{Cells, WellBuilt, kind_at}
use Rattle.cell_arena.specs.Decode.{decode, present, present_pairs}
use Rattle.cell_arena.specs.Growth.{Grows, Decodes, Adds}
use Rattle.cell_arena.proofs.Growing.{Decodes-same, Satisfies-before}
use Rattle.cell_merge.specs.Sorts.{Sort, OfSort, set_of as set_sort, function_of as function_sort}
use Rattle.cell_merge.specs.Arrows.{LeadFrom, ArrowsNamed}
use Rattle.cell_merge.specs.Edges.{LeadTo, AreNamed, JoinsAll, any_edge, edges_of}
use Rattle.cell_merge.proofs.Chosen.{set_of-same, lead-there}
use Rattle.cell_merge.proofs.Edges.{any-present}
use Rattle.cell_merge.proofs.Layering.{LeadTo-later, any-before}
use Rattle.cell_merge.proofs.SortLaws.{sort-set, sort-function}
use Rattle.cell_merge.proofs.Unions.{AreNamed-later, any-push}
use Rattle.function_rewriter.specs.FunctionSets.{each_to, all_functions, AreSetCells, IsFunctionSet}
use Rattle.function_rewriter.specs.inner.Arrows.{IsSetIn}
use Rattle.function_rewriter.specs.inner.Listings.{any_choice, AreChoices, ChoicesLead, AddsFront, AddsMember, AddsEach, Extends, IsListing, ListsFunctions, ChoicesFit, FunctionEdges}
use Rattle.function_rewriter.proofs.PairLists.{function_graph, set-distinct}
use Rattle.function_rewriter.proofs.Graphs.{any-with, any-rule, member-any, zip-graph, function-choice}
use Rattle.function_rewriter.proofs.ArrowPairs.{Arrow, ArrowsNamed-later, LeadFrom-later, arrows-there, pairs-before}
use Rattle.function_rewriter.proofs.FunctionPicks.{pairs-function, leads-in, members-in}

abbrev Edge : Type 0
Edge = Lit × CellId

abbrev Choice : Type 0
Choice = Lit × List Arrow

abbrev Pair : Type 0
Pair = Value × Value

pub choices-later : (m n : ℕ) (cs : List Choice) → AreChoices m cs → m ≤ n → AreChoices n cs
choices-later m n cs h le =
    All-weaker (λ (c : Choice). IsBelow m c.0 × ArrowsNamed m c.1) (λ (c : Choice). IsBelow n c.0 × ArrowsNamed n c.1) (λ c p. (let q = p.0 in omega arith, ArrowsNamed-later m n c.1 p.1 le)) cs h

any-agree : {X : Type 0} (p q : X → Bool) (xs : List X) → ((x : X) → p x ≡ q x) → list_any p xs ≡ list_any q xs
any-agree p q [] h = refl
any-agree p q (x ∷ xs) h = ap (λ t. t || list_any p xs) (h x) ∙ ap (λ t. q x || t) (any-agree p q xs h)

or-last : (t : Bool) → (t || false) ≡ t
or-last true = refl
or-last false = refl

choice-push : (a : List Bool) (p : List Arrow → Bool) (cs : List Choice) (c : Choice) → any_choice a p (cs ++ c ∷ []) ≡ (any_choice a p cs || (lit_value c.0 a && p c.1))
choice-push a p cs c = list_any-append (λ (c : Choice). lit_value c.0 a && p c.1) cs (c ∷ []) ∙ ap (λ t. any_choice a p cs || t) (or-last (lit_value c.0 a && p c.1))

choice-more : (a : List Bool) (p : List Arrow → Bool) (cs : List Choice) (i : ℕ) (d : Choice) → i < length cs → any_choice a p (take (i + 1) cs) ≡ (any_choice a p (take i cs) || (lit_value (get_or cs i d).0 a && p (get_or cs i d).1))
choice-more a p cs i d lt = list_any_more (λ (c : Choice). lit_value c.0 a && p c.1) cs i d lt

-- ---- arrows in front of each choice

pub front-none : (f : Cnf) (there : Lit) (front : List Arrow) (choices old : List Choice) → AreChoices f.vars old → AddsFront f there front (take 0 choices) choices old old
front-none f there front choices old named = record {
  named = named;
  sorts = λ ks s t p q r. r;
  any = λ a s p. none (any_choice a p old) (lit_value there a);
}
  where
    none : (x y : Bool) → x ≡ (x || (y && false))
    none true y = refl
    none false true = refl
    none false false = refl

module _ (f g : Cnf) (there : Lit) (front : List Arrow) (choices : List Choice) (i : ℕ) (d : Choice) (at : d ≡ get_or choices i d) (both : Lit) (start old : List Choice) (lt : i < length choices) (grows : FormulaGrows f g)
    (adds : AddsFront f there front (take i choices) choices start old) (gate_d : HasValue g both (λ a. lit_value d.0 a && lit_value there a)) where
  gate : HasValue g both (λ a. lit_value (get_or choices i d).0 a && lit_value there a)
  gate = subst (λ (y : Choice). HasValue g both (λ a. lit_value y.0 a && lit_value there a)) at gate_d

  or-step : (o l x m q : Bool) → ((o || (l && x)) || ((m && l) && q)) ≡ (o || (l && (x || (m && q))))
  or-step o l x m q = grind arith

  front-any : (a : List Bool) → Satisfies a g → (p : List Arrow → Bool)
      → (any_choice a p old || (lit_value both a && p (front ++ (get_or choices i d).1))) ≡ (any_choice a p start || (lit_value there a && any_choice a (λ es. p (front ++ es)) (take (i + 1) choices)))
  front-any a s p =
      ap (λ t. t || (lit_value both a && p (front ++ (get_or choices i d).1))) (adds.any a (Satisfies-older f g a grows s) p)
      ∙ ap (λ t. (any_choice a p start || (lit_value there a && any_choice a (λ es. p (front ++ es)) (take i choices))) || (t && p (front ++ (get_or choices i d).1))) (gate.value a s)
      ∙ or-step (any_choice a p start) (lit_value there a) (any_choice a (λ es. p (front ++ es)) (take i choices)) (lit_value (get_or choices i d).0 a) (p (front ++ (get_or choices i d).1))
      ∙ ap (λ t. any_choice a p start || (lit_value there a && t)) (sym (choice-more a (λ es. p (front ++ es)) choices i d lt))

  -- a choice that is then never there
  pub front-passed : ((a : List Bool) → Satisfies a g → lit_value both a ≡ false) → AddsFront g there front (take (i + 1) choices) choices start old
  front-passed off = record {
    named = choices-later f.vars g.vars old adds.named grows.vars;
    sorts = adds.sorts;
    any = λ a s p. none (any_choice a p old) (lit_value both a) (p (front ++ (get_or choices i d).1)) (off a s) ∙ front-any a s p;
  }
    where
      none : (t q r : Bool) → q ≡ false → t ≡ (t || (q && r))
      none t q r e = grind arith

  pub front-push : (arrows : List Arrow) (after : List Choice) → AreChoices g.vars choices → ArrowsNamed g.vars front → arrows ≡ front ++ d.1 → after ≡ old ++ (both, arrows) ∷ [] → AddsFront g there front (take (i + 1) choices) choices start after
  front-push arrows after named front_named is_d pushed =
      let is : arrows ≡ front ++ (get_or choices i d).1 = is_d ∙ ap (λ (y : Choice). front ++ y.1) at in
      record {
        named = rw pushed (All-push (λ (c : Choice). IsBelow g.vars c.0 × ArrowsNamed g.vars c.1) old (both, arrows) (choices-later f.vars g.vars old adds.named grows.vars)
            (gate.below, rw is (All-append (λ (e : Arrow). IsBelow g.vars e.0) front (get_or choices i d).1 front_named (named i d lt).1)));
        sorts = λ ks s t p q r. rw pushed (All-push (λ (c : Choice). LeadFrom ks s t c.1) old (both, arrows) (adds.sorts ks s t p q r)
            (rw is (All-append (λ (e : Arrow). OfSort ks s e.1 × OfSort ks t e.2) front (get_or choices i d).1 p (q i d lt))));
        any = λ a s p. ap (any_choice a p) pushed ∙ choice-push a p old (both, arrows) ∙ ap (λ es. any_choice a p old || (lit_value both a && p es)) is ∙ front-any a s p;
      }

-- the whole of the choices
pub front-all : (f : Cnf) (there : Lit) (front items : List Arrow) (choices old new : List Choice) (i : ℕ) → length choices ≤ i → items ≡ front → AddsFront f there items (take i choices) choices old new → AddsFront f there front choices choices old new
front-all f there front items choices old new i le is h =
    subst (λ (fs : List Arrow). AddsFront f there fs choices choices old new) is (subst (λ (cs : List Choice). AddsFront f there items cs choices old new) (take_all i choices le) h)

-- ---- an arrow to a member in front

pub member-adds : (f g : Cnf) (edge m : Edge) (nl there : Lit) (front : List Arrow) (choices old new : List Choice) → front ≡ (edge.0, edge.1, m.1) ∷ [] → FormulaGrows f g → ((a : List Bool) → lit_value nl a ≡ not (lit_value edge.0 a))
    → HasValue f there (λ a. lit_value nl a || lit_value m.0 a) → AddsFront g there front choices choices old new → AddsMember g edge m choices old new
member-adds f g edge m nl there front choices old new is grows negated gate adds = record {
  named = adds.named;
  sorts = λ ks s t p q r u. adds.sorts ks s t (rw is (All-cons (λ (e : Arrow). OfSort ks s e.1 × OfSort ks t e.2) (edge.0, edge.1, m.1) [] (p, q) (All-nil (λ (e : Arrow). OfSort ks s e.1 × OfSort ks t e.2)))) r u;
  any = λ a s p.
      adds.any a s p ∙ ap (λ t. any_choice a p old || (t && any_choice a (λ es. p (front ++ es)) choices)) (gate.value a (Satisfies-older f g a grows s) ∙ ap (λ t. t || lit_value m.0 a) (negated a))
      ∙ ap (λ (fs : List Arrow). any_choice a p old || ((not (lit_value edge.0 a) || lit_value m.0 a) && any_choice a (λ es. p (fs ++ es)) choices)) is;
}

pub each-none : (f : Cnf) (edge : Edge) (members : List Edge) (choices out : List Choice) → out ≡ [] → AddsEach f edge (take 0 members) members choices out
each-none f edge members choices out is = rw is (record {
  named = All-nil (λ (c : Choice). IsBelow f.vars c.0 × ArrowsNamed f.vars c.1);
  sorts = λ ks s t p q r. All-nil (λ (c : Choice). LeadFrom ks s t c.1);
  any = λ a s p. refl;
})

pub each-more : (f g : Cnf) (edge : Edge) (members : List Edge) (i : ℕ) (d : Edge) (choices old new : List Choice) → i < length members → FormulaGrows f g → AddsEach f edge (take i members) members choices old → AddsMember g edge (get_or members i d) choices old new
    → AddsEach g edge (take (i + 1) members) members choices new
each-more f g edge members i d choices old new lt grows each adds = record {
  named = adds.named;
  sorts = λ ks s t p q r. adds.sorts ks s t p (q i d lt) r (each.sorts ks s t p q r);
  any = λ a s p.
      let test : Edge → Bool = λ m. (not (lit_value edge.0 a) || lit_value m.0 a) && any_choice a (λ es. p ((edge.0, edge.1, m.1) ∷ es)) choices in
      adds.any a s p ∙ ap (λ t. t || test (get_or members i d)) (each.any a (Satisfies-older f g a grows s) p) ∙ sym (list_any_more test members i d lt);
}

pub each-all : (f : Cnf) (edge : Edge) (members : List Edge) (choices out : List Choice) (i : ℕ) → length members ≤ i → AddsEach f edge (take i members) members choices out → AddsEach f edge members members choices out
each-all f edge members choices out i le h = subst (λ (ms : List Edge). AddsEach f edge ms members choices out) (take_all i members le) h

-- ---- one argument more

arrow-pairs : (a : List Bool) (of : CellId → Value) (e : Arrow) (es : List Arrow) → present_pairs a of (e ∷ es) ≡ (if lit_value e.0 a then (of e.1, of e.2) ∷ present_pairs a of es else present_pairs a of es)
arrow-pairs a of e es = split (lit_value e.0 a)
  where
    split : (t : Bool) → map (λ (e : Arrow). (of e.1, of e.2)) (cond t (e ∷ filter (λ e. lit_value e.0 a) es) (filter (λ e. lit_value e.0 a) es)) ≡ (if t then (of e.1, of e.2) ∷ present_pairs a of es else present_pairs a of es)
    split true = refl
    split false = refl

-- where there are members
pub extends-each : (f : Cnf) (edge : Edge) (members : List Edge) (choices out : List Choice) → 0 < length members → AddsEach f edge members members choices out → Extends f edge members choices out
extends-each f edge members choices out lt adds = record {
  named = adds.named;
  sorts = adds.sorts;
  any = λ a s of q. adds.any a s (λ es. q (present_pairs a of es)) ∙ split a of q (lit_value edge.0 a) refl;
}
  where
    all-so : (t : Bool) (ms : List Edge) → 0 < length ms → list_any (λ (m : Edge). t) ms ≡ t
    all-so t [] le = absurd (omega arith)
    all-so true (m ∷ ms) le = refl
    all-so false (m ∷ ms) le = never ms
      where
        never : (ms : List Edge) → list_any (λ (m : Edge). false) ms ≡ false
        never [] = refl
        never (m ∷ ms) = never ms

    split : (a : List Bool) (of : CellId → Value) (q : List Pair → Bool) (t : Bool) → lit_value edge.0 a ≡ t
        → list_any (λ (m : Edge). (not (lit_value edge.0 a) || lit_value m.0 a) && any_choice a (λ es. q (present_pairs a of ((edge.0, edge.1, m.1) ∷ es))) choices) members
        ≡ (if lit_value edge.0 a then list_any (λ v. any_choice a (λ es. q ((of edge.1, v) ∷ present_pairs a of es)) choices) (present a of members) else any_choice a (λ es. q (present_pairs a of es)) choices)
    split a of q true e =
        any-agree _ (λ (m : Edge). lit_value m.0 a && any_choice a (λ es. q ((of edge.1, of m.1) ∷ present_pairs a of es)) choices) members
        (λ m. ap (λ t. (not t || lit_value m.0 a) && any_choice a (λ es. q (present_pairs a of ((edge.0, edge.1, m.1) ∷ es))) choices) e
        ∙ ap (λ t. lit_value m.0 a && t) (any-agree _ _ choices (λ c. ap (λ ps. lit_value c.0 a && q ps) (arrow-pairs a of (edge.0, edge.1, m.1) c.1 ∙ ap (λ t. if t then (of edge.1, of m.1) ∷ present_pairs a of c.1 else present_pairs a of c.1) e))))
        ∙ sym (any-present (λ v. any_choice a (λ es. q ((of edge.1, v) ∷ present_pairs a of es)) choices) a of members)
        ∙ ap (λ t. if t then list_any (λ v. any_choice a (λ es. q ((of edge.1, v) ∷ present_pairs a of es)) choices) (present a of members) else any_choice a (λ es. q (present_pairs a of es)) choices) (sym e)
    split a of q false e =
        any-agree _ (λ (m : Edge). any_choice a (λ es. q (present_pairs a of es)) choices) members
        (λ m. ap (λ t. (not t || lit_value m.0 a) && any_choice a (λ es. q (present_pairs a of ((edge.0, edge.1, m.1) ∷ es))) choices) e
        ∙ any-agree _ _ choices (λ c. ap (λ ps. lit_value c.0 a && q ps) (arrow-pairs a of (edge.0, edge.1, m.1) c.1 ∙ ap (λ t. if t then (of edge.1, of m.1) ∷ present_pairs a of c.1 else present_pairs a of c.1) e)))
        ∙ all-so (any_choice a (λ es. q (present_pairs a of es)) choices) members lt
        ∙ ap (λ t. if t then list_any (λ v. any_choice a (λ es. q ((of edge.1, v) ∷ present_pairs a of es)) choices) (present a of members) else any_choice a (λ es. q (present_pairs a of es)) choices) (sym e)

-- and where there is none
pub extends-none : (f : Cnf) (edge : Edge) (nl : Lit) (front : List Arrow) (choices old out : List Choice) → front ≡ [] → old ≡ [] → ((a : List Bool) → lit_value nl a ≡ not (lit_value edge.0 a))
    → AddsFront f nl front choices choices old out → Extends f edge [] choices out
extends-none f edge nl front choices old out none empty negated adds = record {
  named = adds.named;
  sorts = λ ks s t p q r. adds.sorts ks s t (rw none (All-nil (λ (e : Arrow). OfSort ks s e.1 × OfSort ks t e.2))) r (rw empty (All-nil (λ (c : Choice). LeadFrom ks s t c.1)));
  any = λ a s of q.
      adds.any a s (λ es. q (present_pairs a of es)) ∙ ap (λ (cs : List Choice). any_choice a (λ es. q (present_pairs a of es)) cs || (lit_value nl a && any_choice a (λ es. q (present_pairs a of (front ++ es))) choices)) empty
      ∙ ap (λ t. t && any_choice a (λ es. q (present_pairs a of (front ++ es))) choices) (negated a) ∙ ap (λ (fs : List Arrow). not (lit_value edge.0 a) && any_choice a (λ es. q (present_pairs a of (fs ++ es))) choices) none
      ∙ split (lit_value edge.0 a) (any_choice a (λ es. q (present_pairs a of es)) choices);
}
  where
    split : (t u : Bool) → (not t && u) ≡ (if t then false else u)
    split true u = refl
    split false u = refl

-- ---- all arguments, from the last on

pub listing-none : (f : Cnf) (top : Lit) (whole members : List Edge) (cs : List Choice) (n : ℕ) (one : Choice) → one ≡ (top, []) → cs ≡ one ∷ [] → top.var < f.vars → ((a : List Bool) → Satisfies a f → lit_value top a ≡ true) → length whole ≤ n
    → IsListing f (drop n whole) whole members cs
listing-none f top whole members cs n one is given below on le = rw (given, is) (record {
  named = All-cons (λ (c : Choice). IsBelow f.vars c.0 × ArrowsNamed f.vars c.1) (top, []) [] (below, All-nil (λ (e : Arrow). IsBelow f.vars e.0)) (All-nil (λ (c : Choice). IsBelow f.vars c.0 × ArrowsNamed f.vars c.1));
  sorts = λ ks s t p q. All-cons (λ (c : Choice). LeadFrom ks s t c.1) (top, []) [] (All-nil (λ (e : Arrow). OfSort ks s e.1 × OfSort ks t e.2)) (All-nil (λ (c : Choice). LeadFrom ks s t c.1));
  each = λ a s of q.
      ap (λ t. (t && q []) || false) (on a s)
      ∙ ap (λ (es : List Edge). list_any (λ ys. q (zip (present a of es) ys)) (each_to (present a of es) (present a of members))) (sym (drop_all n whole le));
})

pub listing-more : (f g : Cnf) (whole members : List Edge) (i : ℕ) (d : Edge) (old new : List Choice) → i < length whole → FormulaGrows f g → IsListing f (drop (i + 1) whole) whole members old → Extends g (get_or whole i d) members old new
    → IsListing g (drop i whole) whole members new
listing-more f g whole members i d old new lt grows listing extends = record {
  named = extends.named;
  sorts = λ ks s t p q. extends.sorts ks s t (p i d lt) q (listing.sorts ks s t p q);
  each = λ a s of q.
      let s0 = Satisfies-older f g a grows s in
      let edge : Edge = get_or whole i d in
      let rest : List Edge = drop (i + 1) whole in
      let xs : List Value = present a of rest in
      let ts : List Value = present a of members in
      extends.any a s of q ∙ split a of q edge xs ts (lit_value edge.0 a) (λ r. listing.each a s0 of r)
      ∙ ap (λ (l : List Value). list_any (λ ys. q (zip l ys)) (each_to l ts)) (sym (ap (present a of) (drop_more whole i d lt) ∙ front a of edge rest));
}
  where
    front : (a : List Bool) (of : CellId → Value) (e : Edge) (es : List Edge) → present a of (e ∷ es) ≡ (if lit_value e.0 a then of e.1 ∷ present a of es else present a of es)
    front a of e es = go (lit_value e.0 a)
      where
        go : (t : Bool) → map (λ (e : Edge). of e.1) (cond t (e ∷ filter (λ e. lit_value e.0 a) es) (filter (λ e. lit_value e.0 a) es)) ≡ (if t then of e.1 ∷ present a of es else present a of es)
        go true = refl
        go false = refl

    split : (a : List Bool) (of : CellId → Value) (q : List Pair → Bool) (edge : Edge) (xs ts : List Value) (t : Bool)
        → ((r : List Pair → Bool) → any_choice a (λ arrows. r (present_pairs a of arrows)) old ≡ list_any (λ ys. r (zip xs ys)) (each_to xs ts))
        → (if t then list_any (λ v. any_choice a (λ es. q ((of edge.1, v) ∷ present_pairs a of es)) old) ts else any_choice a (λ es. q (present_pairs a of es)) old)
        ≡ list_any (λ ys. q (zip (if t then of edge.1 ∷ xs else xs) ys)) (each_to (if t then of edge.1 ∷ xs else xs) ts)
    split a of q edge xs ts true h =
        any-agree _ _ ts (λ v. h (λ ps. q ((of edge.1, v) ∷ ps))) ∙ sym (any-with (λ ys. q (zip (of edge.1 ∷ xs) ys)) ts (each_to xs ts))
    split a of q edge xs ts false h = h q

-- ---- the functions of all ways

pub record IsEach (xs ts ys : List Value) : Type 0 where
  pub long : length ys ≡ length xs
  pub within : (v : Value) → member v ys ≡ true → member v ts ≡ true

-- what passes a test is one of the lists
each-any : (q : List Value → Bool) (xs ts : List Value) → list_any q (each_to xs ts) ≡ true → (ys : List Value) × (IsEach xs ts ys × (q ys ≡ true))
each-any q [] ts e = ([], (record { long = refl; within = λ v m. absurd (cc) }, sym (or-last (q [])) ∙ e))
each-any q (x ∷ xs) ts e =
    let r = member-any (λ t. list_any (λ ys. q (t ∷ ys)) (each_to xs ts)) ts (sym (any-with q ts (each_to xs ts)) ∙ e) in
    let s = each-any (λ ys. q (r.0 ∷ ys)) xs ts r.1.1 in
    (r.0 ∷ s.0, (record { long = ap (λ (n : ℕ). suc n) s.1.0.long; within = λ v m. go v r.0 s.0 s.1.0 (or_cases _ _ m) r.1.0 }, s.1.1))
  where
    go : (v t : Value) (ys : List Value) → IsEach xs ts ys → (same_value v t ≡ true) ⊎ (member v ys ≡ true) → member t ts ≡ true → member v ts ≡ true
    go v t ys h (inl f) m = ap (λ u. member u ts) (same_equal v t f) ∙ m
    go v t ys h (inr f) m = h.within v f

pub functions-of : (xs ts : List Value) (w : Value) → list_any (λ ys. same_value w (value.Fun (function_of (zip xs ys)))) (each_to xs ts) ≡ member w (elements (all_functions (set_of xs) (set_of ts)))
functions-of xs ts w = true_test _ _
    (λ e.
    let r = each-any (λ ys. same_value w (value.Fun (function_of (zip xs ys)))) xs ts e in
    let ys : List Value = r.0 in
    pairs-function w (zip xs ys) xs (set_of ts) (firsts-zip xs ys r.1.0.long)
    (λ v m. member-set_of v ts ∙ r.1.0.within v (ap (member v) (sym (seconds-zip xs ys r.1.0.long)) ∙ m)) (same_equal _ _ r.1.1))
    (λ e.
    let r = function-choice w (set_of xs) (set_of ts) (set-distinct xs) e in
    any-rule (λ ys. same_value w (value.Fun (function_of (zip xs ys)))) xs ts r.rule (λ x m. sym (member-set_of (r.rule x) ts) ∙ r.within x (member-set_of x xs ∙ m))
    (ap (λ ps. same_value w (value.Fun (function_of ps))) (zip-graph xs r.rule) ∙ ap (λ ps. same_value w (value.Fun ps)) (function_graph xs r.rule) ∙ ap (same_value w) (sym r.is) ∙ same_itself w))

pub lists-functions : (c : Cells) (f : Cnf) (from to : CellId) (es ms : List Edge) (cs : List Choice) → IsListing f es es ms cs → ((s : Sort) → OfSort c.kinds (set_sort s) from → LeadTo c.kinds s es) → ((s : Sort) → OfSort c.kinds (set_sort s) to → LeadTo c.kinds s ms)
    → ((a : List Bool) → Satisfies a f → set_of (present a (decode c a) es) ≡ elements (decode c a from)) → ((a : List Bool) → Satisfies a f → set_of (present a (decode c a) ms) ≡ elements (decode c a to)) → ListsFunctions c f from to cs
lists-functions c f from to es ms cs listing left right from_is to_is = record {
  named = listing.named;
  sorts = λ s t p q. listing.sorts c.kinds s t (left s p) (right t q);
  each = λ a s w.
      let of : CellId → Value = decode c a in
      listing.each a s of (λ ps. same_value w (value.Fun (function_of ps))) ∙ functions-of (present a of es) (present a of ms) w
      ∙ ap (λ xs. member w (elements (all_functions xs (set_of (present a of ms))))) (from_is a s) ∙ ap (λ ts. member w (elements (all_functions (elements (of from)) ts))) (to_is a s);
}

-- ---- cells for the choices

pub edges-none : (b : Build) (cs : List Choice) (edges : List Edge) → edges ≡ [] → FunctionEdges b b cs 0 edges
edges-none b cs edges is = rw is (record { named = All-nil (λ (e : Edge). IsBelow b.formula.vars e.0); sorts = λ s t h. All-nil (λ (e : Edge). OfSort b.arena.kinds (function_sort s t) e.1); members = λ a s p. refl })

module _ (old mid new : Build) (cs : List Choice) (i : ℕ) (d : Choice) (at : d ≡ get_or cs i d) (arrows raw : List Arrow) (id : CellId) (edges after : List Edge) (fits : ChoicesFit old cs) (lt : i < length cs) (before : Grows old mid) (grows : Grows mid new)
    (made : FunctionEdges old mid cs i edges) (is_d : raw ≡ d.1) (given : arrows ≡ raw) (adds : Adds mid new (Fun arrows) id) (decodes : Decodes new id (λ a. value.Fun (function_of (present_pairs a (decode mid.arena a) arrows))))
    (pushed_d : after ≡ edges ++ (d.0, id) ∷ []) where
  arrows-are : arrows ≡ (get_or cs i d).1
  arrows-are = given ∙ is_d ∙ ap (λ (y : Choice). y.1) at

  pushed : after ≡ edges ++ ((get_or cs i d).0, id) ∷ []
  pushed = pushed_d ∙ ap (λ (y : Choice). edges ++ (y.0, id) ∷ []) at

  lead : LeadFrom old.arena.kinds fits.from fits.to arrows
  lead = rw arrows-are (fits.lead i d lt)

  sort-then : (s t : Sort) → ChoicesLead old.arena.kinds s t cs → OfSort new.arena.kinds (function_sort s t) id
  sort-then s t h = sort-function mid new arrows s t id adds grows (LeadFrom-later old mid s t arrows (rw arrows-are (h i d lt)) before)

  pub edges-more : FunctionEdges old new cs (i + 1) after
  edges-more = record {
    named = rw pushed (All-push (λ (e : Edge). IsBelow new.formula.vars e.0) edges ((get_or cs i d).0, id) (AreNamed-later mid.formula.vars new.formula.vars edges made.named grows.formula.vars)
        (let p = (fits.named i d lt).0 in let q = before.formula.vars in let r = grows.formula.vars in omega arith));
    sorts = λ s t h. rw pushed (All-push (λ (e : Edge). OfSort new.arena.kinds (function_sort s t) e.1) edges ((get_or cs i d).0, id) (LeadTo-later mid new (function_sort s t) edges (made.sorts s t h) grows) (sort-then s t h));
    members = λ a s p.
        let s0 = Satisfies-before mid new a grows s in
        let test : List Arrow → Bool = λ es. p (value.Fun (function_of (present_pairs a (decode old.arena a) es))) in
        ap (any_edge a (decode new.arena a) p) pushed ∙ any-push a (decode new.arena a) p edges ((get_or cs i d).0, id)
        ∙ ap (λ t. t || (lit_value (get_or cs i d).0 a && p (decode new.arena a id))) (any-before mid new a p (function_sort fits.from fits.to) edges grows (made.sorts fits.from fits.to fits.lead) ∙ made.members a s0 p)
        ∙ ap (λ v. any_choice a test (take i cs) || (lit_value (get_or cs i d).0 a && p v))
        (decodes.value a s ∙ ap (λ ps. value.Fun (function_of ps)) (pairs-before old mid a fits.from fits.to arrows before lead) ∙ ap (λ es. value.Fun (function_of (present_pairs a (decode old.arena a) es))) arrows-are)
        ∙ sym (choice-more a test cs i d lt);
  }

-- the arrows of a choice are those of the older build
pub choice-older : (old mid : Build) (cs : List Choice) (i : ℕ) (d : Choice) (raw arrows : List Arrow) → ChoicesFit old cs → i < length cs → Grows old mid → d ≡ get_or cs i d → raw ≡ d.1 → arrows ≡ raw
    → All (λ e. (e.1.index < length mid.arena.kinds) × (e.2.index < length mid.arena.kinds)) arrows
choice-older old mid cs i d raw arrows fits lt g at is_d given = let is : raw ≡ (get_or cs i d).1 = is_d ∙ ap (λ (y : Choice). y.1) at in rw (given, is) (arrows-there mid.arena.kinds fits.from fits.to (get_or cs i d).1 (LeadFrom-later old mid fits.from fits.to (get_or cs i d).1 (fits.lead i d lt) g))

pub choice-named : (old mid : Build) (cs : List Choice) (i : ℕ) (d : Choice) (raw arrows : List Arrow) → ChoicesFit old cs → i < length cs → Grows old mid → d ≡ get_or cs i d → raw ≡ d.1 → arrows ≡ raw → ArrowsNamed mid.formula.vars arrows
choice-named old mid cs i d raw arrows fits lt g at is_d given = let is : raw ≡ (get_or cs i d).1 = is_d ∙ ap (λ (y : Choice). y.1) at in rw (given, is) (ArrowsNamed-later old.formula.vars mid.formula.vars (get_or cs i d).1 (fits.named i d lt).1 g.formula.vars)

pub edges-all : (old new : Build) (cs : List Choice) (i : ℕ) (edges : List Edge) → i ≡ length cs → FunctionEdges old new cs i edges → FunctionEdges old new cs (length cs) edges
edges-all old new cs i edges e h = subst (λ (n : ℕ). FunctionEdges old new cs n edges) e h

-- ---- the set of them

pub choices-fit : (old mid : Build) (from to : CellId) (cs items : List Choice) → AreSetCells old from to → mid.arena ≡ old.arena → ListsFunctions old.arena mid.formula from to cs → items ≡ cs → ChoicesFit mid items
choices-fit old mid from to cs items sets same lists is = rw is (record {
  named = lists.named;
  from = sets.domain.sort;
  to = sets.range.sort;
  lead = subst (λ (c : Cells). ChoicesLead c.kinds sets.domain.sort sets.range.sort cs) (sym same) (lists.sorts sets.domain.sort sets.range.sort sets.domain.is sets.range.is);
})

module _ (old mid far : Build) (from to : CellId) (cs items : List Choice) (raw out : List Edge) (sets : AreSetCells old from to) (same : mid.arena ≡ old.arena) (lists : ListsFunctions old.arena mid.formula from to cs) (is : items ≡ cs) (grows : Grows mid far)
    (edges : FunctionEdges mid far items (length items) raw) (given : out ≡ raw) where
  leads : (s t : Sort) → OfSort old.arena.kinds (set_sort s) from → OfSort old.arena.kinds (set_sort t) to → LeadTo far.arena.kinds (function_sort s t) out
  leads s t p q = rw given (edges.sorts s t (rw is (subst (λ (c : Cells). ChoicesLead c.kinds s t cs) (sym same) (lists.sorts s t p q))))

  pub set-named : AreNamed far.formula.vars out
  set-named = rw given edges.named

  pub set-older : All (λ e. e.1.index < length far.arena.kinds) out
  set-older = lead-there far.arena.kinds (function_sort sets.domain.sort sets.range.sort) out (leads sets.domain.sort sets.range.sort sets.domain.is sets.range.is)

  pub is-function-set : (new : Build) (id : CellId) → Grows far new → Adds far new (Set out) id → Decodes new id (λ a. value.Set (set_of (present a (decode far.arena a) out))) → IsFunctionSet old new from to id
  is-function-set new id last adds decodes = record {
    value = Decodes-same new id _ _ decodes
        (λ a s.
        let s1 = Satisfies-before far new a last s in
        let s0 = Satisfies-before mid far a grows s1 in
        let all : List Value = map (λ ys. value.Fun (zip (elements (decode old.arena a from)) ys)) (each_to (elements (decode old.arena a from)) (elements (decode old.arena a to))) in
        ap (λ vs. value.Set vs) (set_of-same (present a (decode far.arena a) out) all
        (λ w.
        any-present (same_value w) a (decode far.arena a) out ∙ ap (any_edge a (decode far.arena a) (same_value w)) given ∙ edges.members a s1 (same_value w)
        ∙ ap (any_choice a (λ es. same_value w (value.Fun (function_of (present_pairs a (decode mid.arena a) es))))) (take_all (length items) items (omega arith) ∙ is)
        ∙ ap (λ (c : Cells). any_choice a (λ es. same_value w (value.Fun (function_of (present_pairs a (decode c a) es)))) cs) same
        ∙ lists.each a s0 w ∙ ap (member w) (elements-set (set_of all)) ∙ member-set_of w all)));
    sort = λ s t p q. sort-set far new out (function_sort s t) id adds last (leads s t p q);
  }

pub one-named : (n : ℕ) (e : Arrow) (es : List Arrow) → es ≡ e ∷ [] → e.0.var < n → ArrowsNamed n es
one-named n e es is lt = rw is (All-cons (λ (e : Arrow). IsBelow n e.0) e [] lt (All-nil (λ (e : Arrow). IsBelow n e.0)))

-- a choice names variables of the formula
pub choice-below : (n : ℕ) (cs : List Choice) (i : ℕ) (d : Choice) → AreChoices n cs → i < length cs → d ≡ get_or cs i d → d.0.var < n
choice-below n cs i d h lt at = subst (λ (y : Choice). y.0.var < n) (sym at) (h i d lt).0

-- the beginning of the list of all ways
pub listing-start : (f : Cnf) (top : Lit) (whole members : List Edge) (start after : List Choice) (none : List Arrow) → none ≡ [] → start ≡ [] → after ≡ start ++ (top, none) ∷ [] → top.var < f.vars → ((a : List Bool) → Satisfies a f → lit_value top a ≡ true)
    → IsListing f (drop (length whole - 0) whole) whole members after
listing-start f top whole members start after none empty begin pushed below on =
    listing-none f top whole members after (length whole - 0) (top, none) (ap (λ (es : List Arrow). (top, es)) empty) (pushed ∙ ap (λ (cs : List Choice). cs ++ (top, none) ∷ []) begin) below on (omega arith)

-- one turn of the loop, which goes down from the last edge
pub listing-turn : (f g : Cnf) (whole members : List Edge) (i : ℕ) (d : Edge) (old new : List Choice) → i < length whole → FormulaGrows f g → IsListing f (drop (length whole - i) whole) whole members old
    → Extends g (get_or whole (length whole - 1 - i) d) members old new → IsListing g (drop (length whole - (i + 1)) whole) whole members new
listing-turn f g whole members i d old new lt grows listing extends =
    let down : length whole - i ≡ (length whole - 1 - i) + 1 = omega arith in
    let here : length whole - 1 - i ≡ length whole - (i + 1) = omega arith in
    subst (λ (k : ℕ). IsListing g (drop k whole) whole members new) here
    (listing-more f g whole members (length whole - 1 - i) d old new (omega arith) grows (subst (λ (k : ℕ). IsListing f (drop k whole) whole members old) down listing) extends)

pub listing-all : (f : Cnf) (whole members : List Edge) (i : ℕ) (cs : List Choice) → i ≡ length whole → IsListing f (drop (length whole - i) whole) whole members cs → IsListing f whole whole members cs
listing-all f whole members i cs e h = let n : length whole - i ≡ 0 = omega arith in subst (λ (k : ℕ). IsListing f (drop k whole) whole members cs) n h

pub no-members : (f : Cnf) (edge : Edge) (members : List Edge) (choices out : List Choice) → length members ≡ 0 → Extends f edge [] choices out → Extends f edge members choices out
no-members f edge [] choices out n h = h
no-members f edge (m ∷ members) choices out n h = absurd (omega arith)

-- the functions from the one set to the other, whose alike members are joined
pub listed : (c : Cells) (f g h : Cnf) (from to : CellId) (raw rest es ms : List Edge) (cs : List Choice) → WellBuilt c → IsSetIn c.kinds from → IsSetIn c.kinds to
    → JoinsAll c f (edges_of (kind_at c.kinds from)) (edges_of (kind_at c.kinds from)) raw → JoinsAll c g (edges_of (kind_at c.kinds to)) (edges_of (kind_at c.kinds to)) rest → es ≡ raw → ms ≡ rest
    → FormulaGrows f g → FormulaGrows g h → IsListing h es es ms cs → ListsFunctions c h from to cs
listed c f g h from to raw rest es ms cs built left right one two p q first second listing =
    lists-functions c h from to es ms cs listing (leads-in c built f from raw es left.sort left.is one p) (leads-in c built g to rest ms right.sort right.is two q)
    (λ a s. members-in c built f from raw es left.sort left.is one p a (Satisfies-older f g a first (Satisfies-older g h a second s)))
    (λ a s. members-in c built g to rest ms right.sort right.is two q a (Satisfies-older g h a second s))
