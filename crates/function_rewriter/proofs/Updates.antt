-- The arrows of a function with another result at an argument.
use Rattle.std.proofs.Common.{◌≡◌, ℕ, suc, ◌+◌, ◌<◌, Bool, true, false, cond, List, [], ◌∷◌, ◌++◌, map, length, take, get_or, All, refl, ap, ◌∙◌, sym, subst, arith, append_assoc}
use Rattle.std.specs.Prelude.{filter, if◌then◌else◌}
use Rattle.std.proofs.lemmas.List.{append-nil, take_all, take_more, length-take-le, get_or_default}
use Rattle.std.proofs.lemmas.List.Elements.{All-push, All-nil}
use Rattle.sat_formula.specs.declared.lit.Lit.{Lit}
use Rattle.sat_formula.specs.Lit.{lit_value, IsBelow}
use Rattle.sat_formula.specs.declared.cnf.Cnf.{Cnf}
use Rattle.tla_values.specs.Order.{same_value}
use Rattle.tla_values.specs.Sets.{function_of, override_at}
use Rattle.tla_values.specs.declared.value.Value.{Value}
use Rattle.tla_values.specs.declared.value.Value.TheVariants as value
use Rattle.cell_arena.specs.declared.build.Build.{Build}
use Rattle.cell_arena.specs.declared.kinds.CellId.{CellId}
use Rattle.cell_arena.specs.declared.kinds.CellKind.{CellKind}
use Rattle.cell_arena.specs.declared.kinds.CellKind.TheVariants.{Fun}
use Rattle.cell_arena.specs.Cells.{Cells, IsHeld, kind_at}
use Rattle.cell_arena.specs.Decode.{decode, present_pairs}
use Rattle.cell_arena.specs.Growth.{Grows, Decodes, Adds}
use Rattle.cell_arena.proofs.Decoding.{decode-kind}
use Rattle.cell_arena.proofs.Growing.{Satisfies-before, decode-before}
use Rattle.cell_merge.specs.Sorts.{Sort, OfSort, OneType, IsOver, function_of as function_sort}
use Rattle.cell_merge.specs.Arrows.{arrows_of, LeadFrom, ArrowsNamed}
use Rattle.cell_merge.specs.Choices.{Chooses}
use Rattle.cell_merge.proofs.Edges.{sort-there, is-function, arrows-sort}
use Rattle.cell_merge.proofs.SortLaws.{OfSort-later}
use Rattle.function_rewriter.specs.Functions.{pairs_of}
use Rattle.function_rewriter.specs.Arrows.{MakesFunction, TakesArgument, TakesPair}
use Rattle.function_rewriter.specs.inner.Arrows.{ArrowsAndArgument, FunctionAndResult, IsFunctionIn, Matches, Updates, tested_pairs}
use Rattle.function_rewriter.proofs.Overrides.{override_function}
use Rattle.function_rewriter.proofs.ArrowPairs.{Arrow, one_pair, pairs-push, pairs-before, LeadFrom-later, ArrowsNamed-later, function-arrows, function-pairs, arrows-there, arrows-named}
use Rattle.function_rewriter.proofs.Makes.{makes}
use Rattle.function_rewriter.proofs.Applies.{arrow-before, function-there, place-there, result-type}

abbrev Pair : Type 0
Pair = Value × Value

-- ---- tested pairs, one more

tested-push : (a : List Bool) (of : CellId → Value) (w : Value) (es : List Arrow) (ls : List Lit) (e : Arrow) (l : Lit) → length ls ≡ length es
    → tested_pairs a of (es ++ e ∷ []) (ls ++ l ∷ []) w ≡ tested_pairs a of es ls w ++ one_pair (lit_value e.0 a) (of e.1, if lit_value l a then w else of e.2)
tested-push a of w [] [] e l n = append-nil _
tested-push a of w [] (m ∷ ls) e l n = absurd (omega arith)
tested-push a of w (d ∷ es) [] e l n = absurd (omega arith)
tested-push a of w (d ∷ es) (m ∷ ls) e l n =
    let one : List Pair = one_pair (lit_value d.0 a) (of d.1, if lit_value m a then w else of d.2) in
    ap (λ (ps : List Pair). one ++ ps) (tested-push a of w es ls e l (omega arith)) ∙ sym (append_assoc one (tested_pairs a of es ls w) _)

tested-more : (a : List Bool) (of : CellId → Value) (w : Value) (es : List Arrow) (ls : List Lit) (i : ℕ) (d : Arrow) (k : Lit) → i < length es → i < length ls
    → tested_pairs a of (take (i + 1) es) (take (i + 1) ls) w
    ≡ tested_pairs a of (take i es) (take i ls) w ++ one_pair (lit_value (get_or es i d).0 a) (of (get_or es i d).1, if lit_value (get_or ls i k) a then w else of (get_or es i d).2)
tested-more a of w es ls i d k lt le =
    ap (λ (l : List Arrow). tested_pairs a of l (take (i + 1) ls) w) (take_more es i d lt) ∙ ap (λ (l : List Lit). tested_pairs a of (take i es ++ get_or es i d ∷ []) l w) (take_more ls i k le)
    ∙ tested-push a of w (take i es) (take i ls) (get_or es i d) (get_or ls i k) (length-take-le i ls (omega arith) ∙ sym (length-take-le i es (omega arith)))

pub updates-none : (b : Build) (f v : CellId) (tests : List Lit) (out : List Arrow) → out ≡ [] → Updates b b f tests v 0 out
updates-none b f v tests out is = rw is (record {
  named = All-nil (λ (e : Arrow). IsBelow b.formula.vars e.0);
  sorts = λ s t p q. All-nil (λ (e : Arrow). OfSort b.arena.kinds s e.1 × OfSort b.arena.kinds t e.2);
  pairs = λ a s. refl;
})

module _ (old mid new : Build) (f v : CellId) (tests : List Lit) (i : ℕ) (l : Lit) (arrow : Arrow) (chosen : CellId) (out after : List Arrow) (types : FunctionAndResult old.arena.kinds f v) (lt : i < length tests)
    (n : length tests ≡ length (arrows_of (kind_at old.arena.kinds f))) (before : Grows old mid) (grows : Grows mid new) (at : l ≡ get_or tests i l)
    (is : arrow ≡ get_or (arrows_of (kind_at old.arena.kinds f)) i arrow) (below : ArrowsNamed old.formula.vars (arrows_of (kind_at old.arena.kinds f)))
    (updates : Updates old mid f tests v i out) (chooses : Chooses mid new l v arrow.2 chosen) (pushed : after ≡ out ++ (arrow.0, arrow.1, chosen) ∷ []) where
  ks : List CellKind
  ks = old.arena.kinds

  es : List Arrow
  es = arrows_of (kind_at ks f)

  arrow-sort : (s t : Sort) → OfSort ks (function_sort s t) f → OfSort ks s arrow.1 × OfSort ks t arrow.2
  unfolding ks es
  arrow-sort s t h =
      let lead = function-arrows ks f s t h i arrow (omega arith) in
      (subst (λ (e : Arrow). OfSort ks s e.1) (sym is) lead.0, subst (λ (e : Arrow). OfSort ks t e.2) (sym is) lead.1)

  pub updates-more : Updates old new f tests v (i + 1) after
  unfolding ks es
  updates-more = record {
    named = rw pushed (All-push (λ (e : Arrow). IsBelow new.formula.vars e.0) out (arrow.0, arrow.1, chosen) (ArrowsNamed-later mid.formula.vars new.formula.vars out updates.named grows.formula.vars)
        (let p : arrow.0.var < old.formula.vars = subst (λ (e : Arrow). e.0.var < old.formula.vars) (sym is) (below i arrow (omega arith)) in let q = before.formula.vars in let r = grows.formula.vars in omega arith));
    sorts = λ s t p q.
        let here = arrow-sort s t p in
        rw pushed (All-push (λ (e : Arrow). OfSort new.arena.kinds s e.1 × OfSort new.arena.kinds t e.2) out (arrow.0, arrow.1, chosen) (LeadFrom-later mid new s t out (updates.sorts s t p q) grows)
        (OfSort-later mid new s arrow.1 (OfSort-later old mid s arrow.1 here.0 before) grows, chooses.sort t (OfSort-later old mid t v q before) (OfSort-later old mid t arrow.2 here.1 before)));
    pairs = λ a sat.
        let s0 = Satisfies-before mid new a grows sat in
        let of : CellId → Value = decode old.arena a in
        let here = arrow-sort types.from types.to types.function in
        let there : arrow.1.index < length ks = sort-there ks types.from _ here.0 in
        let gone : arrow.1.index < length mid.arena.kinds = let q = before.longer in omega arith in
        let argument : decode new.arena a arrow.1 ≡ of arrow.1 = decode-before mid new a arrow.1 grows gone ∙ decode-before old mid a arrow.1 before there in
        let value_v = decode-before old mid a v before (sort-there ks types.to v types.result) in
        let value_r = decode-before old mid a arrow.2 before (sort-there ks types.to _ here.1) in
        let result : decode new.arena a chosen ≡ (if lit_value l a then of v else of arrow.2) = chooses.value.value a sat ∙ either (lit_value l a) _ _ _ _ value_v value_r in
        ap (present_pairs a (decode new.arena a)) pushed ∙ pairs-push a (decode new.arena a) out (arrow.0, arrow.1, chosen)
        ∙ ap (λ (ps : List Pair). ps ++ one_pair (lit_value arrow.0 a) (decode new.arena a arrow.1, decode new.arena a chosen))
        (pairs-before mid new a types.from types.to out grows (updates.sorts types.from types.to types.function types.result) ∙ updates.pairs a s0)
        ∙ ap (λ (x : Value). tested_pairs a of (take i es) (take i tests) (of v) ++ one_pair (lit_value arrow.0 a) (x, decode new.arena a chosen)) argument
        ∙ ap (λ (x : Value). tested_pairs a of (take i es) (take i tests) (of v) ++ one_pair (lit_value arrow.0 a) (of arrow.1, x)) result
        ∙ ap (λ (e : Arrow). tested_pairs a of (take i es) (take i tests) (of v) ++ one_pair (lit_value e.0 a) (of e.1, if lit_value l a then of v else of e.2)) is
        ∙ ap (λ (m : Lit). tested_pairs a of (take i es) (take i tests) (of v) ++ one_pair (lit_value (get_or es i arrow).0 a) (of (get_or es i arrow).1, if lit_value m a then of v else of (get_or es i arrow).2)) at
        ∙ sym (tested-more a of (of v) es tests i arrow l (omega arith) lt);
  }
    where
      either : (t : Bool) (x y u w : Value) → x ≡ u → y ≡ w → (if t then x else y) ≡ (if t then u else w)
      either true x y u w p q = p
      either false x y u w p q = q

-- ---- where the literals match an argument

tested-override : (a : List Bool) (of : CellId → Value) (x w : Value) (es : List Arrow) (ls : List Lit) → length ls ≡ length es
    → ((i : ℕ) → i < length es → (e : Arrow) (l : Lit) → lit_value (get_or es i e).0 a ≡ true → lit_value (get_or ls i l) a ≡ same_value x (of (get_or es i e).1))
    → tested_pairs a of es ls w ≡ override_at (present_pairs a of es) x w
tested-override a of x w [] ls n h = refl
tested-override a of x w (e ∷ es) [] n h = absurd (omega arith)
tested-override a of x w (e ∷ es) (l ∷ ls) n h =
    split (lit_value e.0 a) (λ on. h 0 (omega arith) e l on) refl (tested-override a of x w es ls (omega arith) (λ i lt d k on. h (suc i) (omega arith) d k on))
  where
    inner : (s t : Bool) → s ≡ t → ◌≡◌ {A = Pair} (of e.1, if s then w else of e.2) (if t then (of e.1, w) else (of e.1, of e.2))
    inner true true f = refl
    inner true false f = absurd (cc)
    inner false true f = absurd (cc)
    inner false false f = refl

    split : (t : Bool) → (lit_value e.0 a ≡ true → lit_value l a ≡ same_value x (of e.1)) → lit_value e.0 a ≡ t → tested_pairs a of es ls w ≡ override_at (present_pairs a of es) x w
        → one_pair t (of e.1, if lit_value l a then w else of e.2) ++ tested_pairs a of es ls w
        ≡ override_at (map (λ (e : Arrow). (of e.1, of e.2)) (cond t (e ∷ filter (λ e. lit_value e.0 a) es) (filter (λ e. lit_value e.0 a) es))) x w
    split true g is f = ap (λ (p : Pair). p ∷ tested_pairs a of es ls w) (inner (lit_value l a) (same_value x (of e.1)) (g is)) ∙ ap (λ (ps : List Pair). (if same_value x (of e.1) then (of e.1, w) else (of e.1, of e.2)) ∷ ps) f
    split false g is f = f

-- the function with another result
pub updated-function : (a : List Bool) (of : CellId → Value) (x w : Value) (es : List Arrow) (ls : List Lit) (ps : List Pair) → length ls ≡ length es
    → ((i : ℕ) → i < length es → (e : Arrow) (l : Lit) → lit_value (get_or es i e).0 a ≡ true → lit_value (get_or ls i l) a ≡ same_value x (of (get_or es i e).1))
    → ps ≡ function_of (present_pairs a of es) → function_of (tested_pairs a of es ls w) ≡ override_at ps x w
updated-function a of x w es ls ps n h is =
    ap function_of (tested-override a of x w es ls n h) ∙ sym (override_function (present_pairs a of es) x w) ∙ ap (λ (l : List Pair). override_at l x w) (sym is)

-- ---- what the calls ask for

-- the arrows of a function cell over a formula, and a cell of the sort of their arguments
pub arrows-to-match : (c : Cells) (f : Cnf) (g x : CellId) (m : ℕ) (k : CellKind) (es items : List Arrow) → IsOver c f → TakesArgument c.kinds g x → k ≡ kind_at c.kinds g → k ≡ Fun es → items ≡ es → IsHeld m c.vars c.width k
    → ArrowsAndArgument c.kinds f.vars items x
arrows-to-match c f g x m k es items over t same is list held = rw list (record {
  from = t.from;
  to = t.to;
  arrows = arrows-sort c.kinds t.from t.to g es t.function (sym same ∙ is);
  named = arrows-named c m f.vars k es held is over.fits;
  argument = t.argument;
})

pub tests-are : (c : Cells) (f : Cnf) (g x : CellId) (k : CellKind) (es items : List Arrow) (ls : List Lit) → k ≡ kind_at c.kinds g → k ≡ Fun es → items ≡ es → Matches c f items x (length items) ls
    → Matches c f (arrows_of (kind_at c.kinds g)) x (length (arrows_of (kind_at c.kinds g))) ls
tests-are c f g x k es items ls same is list m =
    subst (λ (l : List Arrow). Matches c f l x (length l) ls) (list ∙ ap arrows_of (sym (sym same ∙ is))) m

module _ (old mid : Build) (f v : CellId) (tests : List Lit) (i : ℕ) (types : FunctionAndResult old.arena.kinds f v) (before : Grows old mid) (lt : i < length tests) (n : length tests ≡ length (arrows_of (kind_at old.arena.kinds f))) where
  fun : IsFunctionIn old.arena.kinds f
  fun = record { from = types.from; to = types.to; is = types.function }

  pub arrow-there : (f.index < length mid.arena.kinds) × (i < length (arrows_of (kind_at mid.arena.kinds f)))
  arrow-there = (function-there old mid f fun before, place-there old mid f fun before i (length tests) lt n)

pub updates-type : (old mid : Build) (f v : CellId) (tests : List Lit) (i : ℕ) → FunctionAndResult old.arena.kinds f v → i < length tests → length tests ≡ length (arrows_of (kind_at old.arena.kinds f)) → Grows old mid
    → (arrow : Arrow) → arrow ≡ get_or (arrows_of (kind_at mid.arena.kinds f)) i arrow → OneType mid.arena.kinds v arrow.2
updates-type old mid f v tests i types lt n before arrow is =
    let fun : IsFunctionIn old.arena.kinds f = record { from = types.from; to = types.to; is = types.function } in
    let t = result-type old mid f types.from types.to i arrow v types.function (omega arith) (arrow-before old mid f fun before i arrow is) before (OfSort-later old mid types.to v types.result before) in
    record { sort = t.sort; left = t.right; right = t.left }

-- the arrows of a function cell name the formula's variables
named-in : (b : Build) (f : CellId) → IsFunctionIn b.arena.kinds f → ArrowsNamed b.formula.vars (arrows_of (kind_at b.arena.kinds f))
named-in b f fun =
    let e = is-function (OfSort b.arena.kinds fun.from) (OfSort b.arena.kinds fun.to) (kind_at b.arena.kinds f) fun.is.1 in
    subst (λ (k : CellKind). ArrowsNamed b.formula.vars (arrows_of k)) (sym e.1) (arrows-named b.arena f.index b.formula.vars (kind_at b.arena.kinds f) e.0 (b.built.held f fun.is.0) e.1 b.fits)

-- one turn of the loop
pub updates-turn : (old mid new : Build) (f v : CellId) (tests : List Lit) (i : ℕ) (d : Lit) (arrow : Arrow) (chosen : CellId) (out after : List Arrow) → FunctionAndResult old.arena.kinds f v → i < length tests
    → length tests ≡ length (arrows_of (kind_at old.arena.kinds f)) → Grows old mid → Grows mid new → arrow ≡ get_or (arrows_of (kind_at mid.arena.kinds f)) i arrow → Updates old mid f tests v i out
    → Chooses mid new (get_or tests i d) v arrow.2 chosen → after ≡ out ++ (arrow.0, arrow.1, chosen) ∷ [] → Updates old new f tests v (i + 1) after
updates-turn old mid new f v tests i d arrow chosen out after types lt n before grows is updates chooses pushed =
    let fun : IsFunctionIn old.arena.kinds f = record { from = types.from; to = types.to; is = types.function } in
    updates-more old mid new f v tests i (get_or tests i d) arrow chosen out after types lt n before grows (get_or_default tests i d _ lt) (arrow-before old mid f fun before i arrow is) (named-in old f fun) updates chooses pushed

-- ---- the whole

module _ (old mid new : Build) (f x v id : CellId) (tests : List Lit) (raw out : List Arrow) (types : TakesPair old.arena.kinds f x v) (same : mid.arena ≡ old.arena) (grows : Grows mid new) (given : out ≡ raw)
    (matches : Matches old.arena mid.formula (arrows_of (kind_at old.arena.kinds f)) x (length (arrows_of (kind_at old.arena.kinds f))) tests) (updates : Updates mid new f tests v (length tests) raw) where
  sorted : (s t : Sort) → OfSort old.arena.kinds (function_sort s t) f → OfSort old.arena.kinds t v → LeadFrom new.arena.kinds s t out
  sorted s t p q = rw given (updates.sorts s t (subst (λ (c : Cells). OfSort c.kinds (function_sort s t) f) (sym same) p) (subst (λ (c : Cells). OfSort c.kinds t v) (sym same) q))

  pub updated-named : ArrowsNamed new.formula.vars out
  updated-named = rw given updates.named

  pub updated-older : All (λ e. (e.1.index < length new.arena.kinds) × (e.2.index < length new.arena.kinds)) out
  updated-older = arrows-there new.arena.kinds types.from types.to out (sorted types.from types.to types.function types.result)

  pub updated : (last : Build) → Grows new last → Adds new last (Fun out) id → Decodes last id (λ a. value.Fun (function_of (present_pairs a (decode new.arena a) out)))
      → MakesFunction last id (λ a. override_at (pairs_of (decode old.arena a f)) (decode old.arena a x) (decode old.arena a v)) (λ s t. OfSort old.arena.kinds (function_sort s t) f × OfSort old.arena.kinds t v)
  updated last more adds decodes =
      let es : List Arrow = arrows_of (kind_at old.arena.kinds f) in
      let b = is-function (OfSort old.arena.kinds types.from) (OfSort old.arena.kinds types.to) (kind_at old.arena.kinds f) types.function.1 in
      makes new new last id out _ _ refl more adds decodes
      (λ a s.
      let of : CellId → Value = decode old.arena a in
      let s0 = Satisfies-before mid new a grows s in
      let pairs : pairs_of (of f) ≡ function_of (present_pairs a of es) =
      function-pairs old.arena a (kind_at old.arena.kinds f) f b.0 (decode-kind old.arena a f old.built types.function.0) b.1 ∙ ap (λ (k : CellKind). function_of (present_pairs a of (arrows_of k))) (sym b.1) in
      let whole : present_pairs a (decode new.arena a) out ≡ tested_pairs a of es tests (of v) =
      ap (present_pairs a (decode new.arena a)) given ∙ updates.pairs a s
      ∙ ap (λ (c : Cells). tested_pairs a (decode c a) (take (length tests) (arrows_of (kind_at c.kinds f))) (take (length tests) tests) (decode c a v)) same
      ∙ ap (λ (l : List Arrow). tested_pairs a of l (take (length tests) tests) (of v)) (take_all (length tests) es (let m = matches.count in omega arith))
      ∙ ap (λ (l : List Lit). tested_pairs a of es l (of v)) (take_all (length tests) tests (omega arith)) in
      ap function_of whole ∙ updated-function a of (of x) (of v) es tests (pairs_of (of f)) matches.count (λ i lt e l on. matches.values a s0 i lt e l on) pairs)
      (λ s t h. sorted s t h.0 h.1)
