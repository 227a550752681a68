-- One function of two, and one sequence of two.
use Rattle.std.proofs.Common.{◌≡◌, ℕ, zero, suc, ◌+◌, ◌<◌, ◌≤◌, Bool, true, false, cond, not, ◌&&◌, List, [], ◌∷◌, ◌++◌, map, length, take, drop, get_or, refl, ap, ◌∙◌, sym, subst, arith, below_more, append_assoc}
use Rattle.std.specs.Prelude.{filter, if◌then◌else◌}
use Rattle.std.proofs.lemmas.List.{append-nil, take_more, map-append, length_push, length-take-le, get_or-take, get_or_default, get_or_push, get_or_append_left, take-append-drop}
use Rattle.std.proofs.lemmas.List.Elements.{filter-append, All-weaker, All-push, All-drop}
use Rattle.sat_formula.specs.declared.lit.Lit.{Lit}
use Rattle.sat_formula.specs.declared.cnf.Cnf.{Cnf}
use Rattle.sat_formula.specs.Lit.{lit_value, IsBelow}
use Rattle.sat_formula.specs.Formula.{Satisfies, HasValue, Grows as FormulaGrows}
use Rattle.sat_formula.proofs.Extension.{Satisfies-older}
use Rattle.tla_values.specs.declared.value.Value.{Value}
use Rattle.tla_values.specs.declared.value.Value.TheVariants as value
use Rattle.tla_values.specs.Sets.{function_of}
use Rattle.cell_arena.specs.declared.build.Build.{Build}
use Rattle.cell_arena.specs.declared.kinds.CellId.{CellId}
use Rattle.cell_arena.specs.declared.kinds.CellKind.{CellKind}
use Rattle.cell_arena.specs.declared.kinds.CellKind.TheVariants.{Fun, Seq}
use Rattle.cell_arena.specs.Cells.{Cells, WellBuilt, kind_at}
use Rattle.cell_arena.specs.Decode.{decode, kind_value, present_pairs}
use Rattle.cell_arena.specs.Growth.{Grows}
use Rattle.cell_arena.proofs.Decoding.{decode-kind}
use Rattle.cell_arena.proofs.Growing.{Grows-trans, kind-before, decode-before, Satisfies-before}
use Rattle.cell_merge.specs.Sorts.{Sort, truth, number, name, set_of as set_sort, function_of as function_sort, sequence_of as sequence_sort, record_of, tuple_of, OfSort, IsBit, IsWord, IsText, IsSet, IsFunction, IsSequence, IsRecord, IsTuple, OneType}
use Rattle.cell_merge.specs.Arrows.{arrows_of, LeadFrom, ArrowsNamed}
use Rattle.cell_merge.specs.Choices.{Chooses}
use Rattle.cell_merge.specs.inner.Fronts.{FrontOfOneType, ChoosesArrow, ChoosesArrowAt, ChoosesArrows, GuardsArrows, GuardsBoth, BeginsBoth, EndsChoice}
use Rattle.cell_merge.proofs.Edges.{is-function, sort-there}
use Rattle.cell_merge.proofs.SortLaws.{OfSort-later}
use Rattle.cell_merge.proofs.Layering.{Chooses-later}
use Rattle.cell_merge.proofs.Shapes.{Chooses-from}

abbrev pub Arrow : Type 0
Arrow = Lit × CellId × CellId

-- ---- the pairs of arrows that are there, an arrow at a time

abbrev pub one_pair : Bool → Value × Value → List (Value × Value)
one_pair t p = if t then p ∷ [] else []

module _ (a : List Bool) (of : CellId → Value) where
  pub pairs-append : (es fs : List Arrow) → present_pairs a of (es ++ fs) ≡ present_pairs a of es ++ present_pairs a of fs
  pairs-append es fs =
      ap (map (λ (e : Arrow). (of e.1, of e.2))) (filter-append (λ e. lit_value e.0 a) es fs)
      ∙ map-append (λ e. (of e.1, of e.2)) (filter (λ e. lit_value e.0 a) es) (filter (λ e. lit_value e.0 a) fs)

  pub pairs-one : (e : Arrow) → present_pairs a of (e ∷ []) ≡ one_pair (lit_value e.0 a) (of e.1, of e.2)
  pairs-one e = split (lit_value e.0 a)
    where
      split : (t : Bool) → map (λ (e : Arrow). (of e.1, of e.2)) (cond t (e ∷ []) []) ≡ one_pair t (of e.1, of e.2)
      split true = refl
      split false = refl

  pub pairs-push : (es : List Arrow) (e : Arrow) → present_pairs a of (es ++ e ∷ []) ≡ present_pairs a of es ++ one_pair (lit_value e.0 a) (of e.1, of e.2)
  pairs-push es e = pairs-append es (e ∷ []) ∙ ap (λ (ps : List (Value × Value)). present_pairs a of es ++ ps) (pairs-one e)

  pub pairs-more : (es : List Arrow) (i : ℕ) (d : Arrow) → i < length es
      → present_pairs a of (take (i + 1) es) ≡ present_pairs a of (take i es) ++ one_pair (lit_value (get_or es i d).0 a) (of (get_or es i d).1, of (get_or es i d).2)
  pairs-more es i d lt = ap (present_pairs a of) (take_more es i d lt) ∙ pairs-push (take i es) (get_or es i d)

-- arrows with the same literals and values
pub pairs-alike : (a : List Bool) (f g : CellId → Value) (xs ys : List Arrow) → length xs ≡ length ys
    → ((i : ℕ) (d : Arrow) → i < length xs → lit_value (get_or xs i d).0 a ≡ lit_value (get_or ys i d).0 a)
    → ((i : ℕ) (d : Arrow) → i < length xs → f (get_or xs i d).1 ≡ g (get_or ys i d).1)
    → ((i : ℕ) (d : Arrow) → i < length xs → f (get_or xs i d).2 ≡ g (get_or ys i d).2)
    → present_pairs a f xs ≡ present_pairs a g ys
pairs-alike a f g [] [] n l p q = refl
pairs-alike a f g [] (y ∷ ys) n l p q = absurd (omega arith)
pairs-alike a f g (x ∷ xs) [] n l p q = absurd (omega arith)
pairs-alike a f g (x ∷ xs) (y ∷ ys) n l p q =
    let rest : present_pairs a f xs ≡ present_pairs a g ys = pairs-alike a f g xs ys (omega arith) (λ i d lt. l (suc i) d (omega arith)) (λ i d lt. p (suc i) d (omega arith)) (λ i d lt. q (suc i) d (omega arith)) in
    pairs-append a f (x ∷ []) xs ∙ ap (λ (ps : List (Value × Value)). ps ++ present_pairs a f xs) (pairs-one a f x)
    ∙ ap (λ t. one_pair t (f x.1, f x.2) ++ present_pairs a f xs) (l zero x (omega arith))
    ∙ ap (λ v. one_pair (lit_value y.0 a) (v, f x.2) ++ present_pairs a f xs) (p zero x (omega arith))
    ∙ ap (λ v. one_pair (lit_value y.0 a) (g y.1, v) ++ present_pairs a f xs) (q zero x (omega arith))
    ∙ ap (λ (ps : List (Value × Value)). one_pair (lit_value y.0 a) (g y.1, g y.2) ++ ps) rest
    ∙ sym (pairs-append a g (y ∷ []) ys ∙ ap (λ (ps : List (Value × Value)). ps ++ present_pairs a g ys) (pairs-one a g y))

-- ---- arrows that are guarded

pub guards-none : (f : Cnf) (l : Lit) (es old : List Arrow) → ArrowsNamed f.vars old → GuardsArrows f l es [] old old
guards-none f l es old named = record {
  named = named;
  sorts = λ ks s t o e. o;
  pairs = λ a s of. none (lit_value l a) (present_pairs a of old);
}
  where
    none : (t : Bool) (ps : List (Value × Value)) → ps ≡ ps ++ (if t then [] else [])
    none true ps = sym (append-nil ps)
    none false ps = sym (append-nil ps)

pub guards-push : (f g : Cnf) (l : Lit) (es : List Arrow) (i : ℕ) (d : Arrow) (both : Lit) (old out after : List Arrow) → i < length es → GuardsArrows f l es (take i es) old out → FormulaGrows f g
    → HasValue g both (λ a. lit_value l a && lit_value (get_or es i d).0 a) → after ≡ out ++ (both, (get_or es i d).1, (get_or es i d).2) ∷ [] → GuardsArrows g l es (take (i + 1) es) old after
guards-push f g l es i d both old out after lt guards grows gate pushed =
    let e : Arrow = (both, (get_or es i d).1, (get_or es i d).2) in record {
      named = rw pushed (All-push (λ (e : Arrow). IsBelow g.vars e.0) out e (All-weaker (λ (e : Arrow). IsBelow f.vars e.0) (λ (e : Arrow). IsBelow g.vars e.0) (λ e b. let v = grows.vars in omega arith) out guards.named) gate.below);
      sorts = λ ks s t o h. rw pushed (All-push (λ (e : Arrow). OfSort ks s e.1 × OfSort ks t e.2) out e (guards.sorts ks s t o h) (h i d lt));
      pairs = λ a s of.
          let p : Value × Value = (of (get_or es i d).1, of (get_or es i d).2) in
          let os = present_pairs a of old in
          let fs = present_pairs a of (take i es) in
          ap (present_pairs a of) pushed ∙ pairs-push a of out e
          ∙ ap (λ (ps : List (Value × Value)). ps ++ one_pair (lit_value both a) p) (guards.pairs a (Satisfies-older f g a grows s) of)
          ∙ ap (λ t. (os ++ (if lit_value l a then fs else [])) ++ one_pair t p) (gate.value a s)
          ∙ split (lit_value l a) (lit_value (get_or es i d).0 a) os fs p
          ∙ ap (λ (ps : List (Value × Value)). os ++ (if lit_value l a then ps else [])) (sym (pairs-more a of es i d lt));
    }
  where
    split : (t q : Bool) (os fs : List (Value × Value)) (p : Value × Value) → (os ++ (if t then fs else [])) ++ one_pair (t && q) p ≡ os ++ (if t then fs ++ one_pair q p else [])
    split true q os fs p = append_assoc os fs (one_pair q p)
    split false q os fs p = append-nil (os ++ [])

pub guards-both : (f g : Cnf) (l m : Lit) (es fs old mid new : List Arrow) → GuardsArrows f l es es old mid → GuardsArrows g m fs fs mid new → FormulaGrows f g
    → ((a : List Bool) → lit_value m a ≡ not (lit_value l a)) → GuardsBoth g l es fs old new
guards-both f g l m es fs old mid new first second grows negated = record {
  named = second.named;
  sorts = λ ks s t o e h. second.sorts ks s t (first.sorts ks s t o e) h;
  pairs = λ a s of.
      let os = present_pairs a of old in
      let ps = present_pairs a of es in
      let qs = present_pairs a of fs in
      second.pairs a s of ∙ ap (λ (rs : List (Value × Value)). rs ++ (if lit_value m a then qs else [])) (first.pairs a (Satisfies-older f g a grows s) of)
      ∙ ap (λ t. (os ++ (if lit_value l a then ps else [])) ++ (if t then qs else [])) (negated a) ∙ either (lit_value l a) os ps qs;
}
  where
    either : (t : Bool) (os ps qs : List (Value × Value)) → (os ++ (if t then ps else [])) ++ (if not t then qs else []) ≡ os ++ (if t then ps else qs)
    either true os ps qs = append-nil (os ++ ps)
    either false os ps qs = ap (λ (rs : List (Value × Value)). rs ++ qs) (append-nil os)

-- ---- the arrows of a function of a sort

pub arrow-sorts : (ks : List CellKind) (s t : Sort) (id : CellId) → OfSort ks (function_sort s t) id → LeadFrom ks s t (arrows_of (kind_at ks id))
arrow-sorts ks s t id h =
    let P : CellKind → Type 0 = IsFunction (OfSort ks s) (OfSort ks t) in
    let b = is-function (OfSort ks s) (OfSort ks t) (kind_at ks id) h.1 in
    let Q : CellKind → Type 0 = λ k. LeadFrom ks s t (arrows_of k) in
    subst Q (sym b.1) (subst P b.1 h.1)

-- the sort of a cell that is a function
pub function-else : (ks : List CellKind) (r : Sort) (id : CellId) (es : List Arrow) (M : Sort → Type 0) → kind_at ks id ≡ Fun es → ((s t : Sort) → OfSort ks (function_sort s t) id → M (function_sort s t)) → OfSort ks r id → M r
function-else ks truth id es M e f h = let P : CellKind → Type 0 = IsBit in absurd (subst P e h.1)
function-else ks number id es M e f h = let P : CellKind → Type 0 = IsWord in absurd (subst P e h.1)
function-else ks name id es M e f h = let P : CellKind → Type 0 = IsText in absurd (subst P e h.1)
function-else ks (set_sort s) id es M e f h = let P : CellKind → Type 0 = IsSet (OfSort ks s) in absurd (subst P e h.1)
function-else ks (function_sort s t) id es M e f h = f s t h
function-else ks (sequence_sort s) id es M e f h = let P : CellKind → Type 0 = IsSequence (OfSort ks s) in absurd (subst P e h.1)
function-else ks (record_of names s) id es M e f h = let P : CellKind → Type 0 = IsRecord names (λ i. OfSort ks (s i)) in absurd (subst P e h.1)
function-else ks (tuple_of n s) id es M e f h = let P : CellKind → Type 0 = IsTuple n (λ i. OfSort ks (s i)) in absurd (subst P e h.1)

pub sequence-else : (ks : List CellKind) (r : Sort) (id : CellId) (w : List Lit) (ps : List CellId) (M : Sort → Type 0) → kind_at ks id ≡ Seq w ps → ((s : Sort) → OfSort ks (sequence_sort s) id → M (sequence_sort s)) → OfSort ks r id → M r
sequence-else ks truth id w ps M e f h = let P : CellKind → Type 0 = IsBit in absurd (subst P e h.1)
sequence-else ks number id w ps M e f h = let P : CellKind → Type 0 = IsWord in absurd (subst P e h.1)
sequence-else ks name id w ps M e f h = let P : CellKind → Type 0 = IsText in absurd (subst P e h.1)
sequence-else ks (set_sort s) id w ps M e f h = let P : CellKind → Type 0 = IsSet (OfSort ks s) in absurd (subst P e h.1)
sequence-else ks (function_sort s t) id w ps M e f h = let P : CellKind → Type 0 = IsFunction (OfSort ks s) (OfSort ks t) in absurd (subst P e h.1)
sequence-else ks (sequence_sort s) id w ps M e f h = f s h
sequence-else ks (record_of names s) id w ps M e f h = let P : CellKind → Type 0 = IsRecord names (λ i. OfSort ks (s i)) in absurd (subst P e h.1)
sequence-else ks (tuple_of n s) id w ps M e f h = let P : CellKind → Type 0 = IsTuple n (λ i. OfSort ks (s i)) in absurd (subst P e h.1)

-- ---- one chosen arrow more

-- fewer arrows, and fronts stay
pub front-fewer : (b c : Build) (x y : CellId) (n m : ℕ) → FrontOfOneType b.arena x y n → m ≤ n → Grows b c → FrontOfOneType c.arena x y m
front-fewer b c x y n m t fewer g =
    let ks : List CellKind = b.arena.kinds in
    let p = sort-there ks (function_sort t.types.from t.types.to) x t.types.left in
    let q = sort-there ks (function_sort t.types.from t.types.to) y t.types.right in
    let left : kind_at c.arena.kinds x ≡ kind_at ks x = kind-before b c x g p in
    let right : kind_at c.arena.kinds y ≡ kind_at ks y = kind-before b c y g q in
    let es : List Arrow = arrows_of (kind_at ks x) in
    let fs : List Arrow = arrows_of (kind_at ks y) in
    record {
      types = record { from = t.types.from; to = t.types.to; left = OfSort-later b c (function_sort t.types.from t.types.to) x t.types.left g; right = OfSort-later b c (function_sort t.types.from t.types.to) y t.types.right g };
      front = record {
        left = let h = t.front.left in let e = ap (λ (k : CellKind). length (arrows_of k)) left in omega arith;
        right = let h = t.front.right in let e = ap (λ (k : CellKind). length (arrows_of k)) right in omega arith;
        alike = λ a i d lt.
            let le : i < length es = let h = t.front.left in omega arith in
            let re : i < length fs = let h = t.front.right in omega arith in
            let there : (get_or es i d).1.index < length ks = sort-there ks t.types.from _ (arrow-sorts ks t.types.from t.types.to x t.types.left i d le).0 in
            let there2 : (get_or fs i d).1.index < length ks = sort-there ks t.types.from _ (arrow-sorts ks t.types.from t.types.to y t.types.right i d re).0 in
            ap (λ (k : CellKind). decode c.arena a (get_or (arrows_of k) i d).1) left ∙ decode-before b c a _ g there ∙ t.front.alike a i d (omega arith)
            ∙ sym (ap (λ (k : CellKind). decode c.arena a (get_or (arrows_of k) i d).1) right ∙ decode-before b c a _ g there2);
      };
    }

-- the arrows at a place of two such functions
module _ (c : Cells) (x y : CellId) (i : ℕ) (left right : Arrow) (t : FrontOfOneType c x y (i + 1))
    (p : left ≡ get_or (arrows_of (kind_at c.kinds x)) i left) (q : right ≡ get_or (arrows_of (kind_at c.kinds y)) i right) where
  at-left : (d : Arrow) → get_or (arrows_of (kind_at c.kinds x)) i d ≡ left
  at-left d = get_or_default (arrows_of (kind_at c.kinds x)) i d left (let m = t.front.left in omega arith) ∙ sym p

  at-right : (d : Arrow) → get_or (arrows_of (kind_at c.kinds y)) i d ≡ right
  at-right d = get_or_default (arrows_of (kind_at c.kinds y)) i d right (let m = t.front.right in omega arith) ∙ sym q

  left-sorts : OfSort c.kinds t.types.from left.1 × OfSort c.kinds t.types.to left.2
  left-sorts =
      let P : Arrow → Type 0 = λ e. OfSort c.kinds t.types.from e.1 × OfSort c.kinds t.types.to e.2 in
      subst P (at-left left) (arrow-sorts c.kinds t.types.from t.types.to x t.types.left i left (let m = t.front.left in omega arith))

  right-sorts : OfSort c.kinds t.types.from right.1 × OfSort c.kinds t.types.to right.2
  right-sorts =
      let P : Arrow → Type 0 = λ e. OfSort c.kinds t.types.from e.1 × OfSort c.kinds t.types.to e.2 in
      subst P (at-right right) (arrow-sorts c.kinds t.types.from t.types.to y t.types.right i right (let m = t.front.right in omega arith))

  pub result-types : OneType c.kinds left.2 right.2
  result-types = record { sort = t.types.to; left = left-sorts.1; right = right-sorts.1 }

  arguments-alike : (a : List Bool) → decode c a left.1 ≡ decode c a right.1
  arguments-alike a = sym (ap (λ (e : Arrow). decode c a e.1) (at-left left)) ∙ t.front.alike a i left (omega arith) ∙ ap (λ (e : Arrow). decode c a e.1) (at-right left)

pub arrow-chosen : (old mid new : Build) (l : Lit) (x y : CellId) (i : ℕ) (left right : Arrow) (id : CellId) (there : Lit) (t : FrontOfOneType old.arena x y (i + 1))
    → left ≡ get_or (arrows_of (kind_at old.arena.kinds x)) i left → right ≡ get_or (arrows_of (kind_at old.arena.kinds y)) i right → Grows old mid → Grows mid new
    → Chooses old mid l left.2 right.2 id → HasValue new.formula there (λ a. if lit_value l a then lit_value left.0 a else lit_value right.0 a)
    → ChoosesArrowAt old new l (arrows_of (kind_at old.arena.kinds x)) (arrows_of (kind_at old.arena.kinds y)) i (there, left.1, id)
arrow-chosen old mid new l x y i left right id there t p q before grows chosen gate = λ d.
    let whole = Grows-trans old mid new before grows in
    let here = sort-there old.arena.kinds t.types.from left.1 (left-sorts old.arena x y i left right t p q).0 in
    rw (at-left old.arena x y i left right t p q d, at-right old.arena x y i left right t p q d) (record {
      below = gate.below;
      argument = record {
        value = record {
          there = let n = whole.longer in omega arith;
          value = λ a s. decode-before old new a left.1 whole here ∙ either (lit_value l a) (arguments-alike old.arena x y i left right t p q a);
        };
        sort = λ s u w. OfSort-later old new s left.1 u whole;
      };
      result = Chooses-later old mid new l left.2 right.2 id chosen grows;
      literal = gate.value;
    })
  where
    either : {v : Value} {w : Value} (b : Bool) → v ≡ w → v ≡ (if b then v else w)
    either true e = refl
    either false e = e

pub arrows-chosen-none : (b : Build) (l : Lit) (es fs out : List Arrow) → out ≡ [] → ChoosesArrows b b l es fs 0 out
arrows-chosen-none b l es fs out is = rw is (record { count = refl; each = λ i d lt. absurd (omega arith) })

arrow-later : (old mid new : Build) (l : Lit) (x y r : Arrow) → ChoosesArrow old mid l x y r → Grows mid new → ChoosesArrow old new l x y r
arrow-later old mid new l x y r h g = record {
  below = let b = h.below in let v = g.formula.vars in omega arith;
  argument = Chooses-later old mid new l x.1 y.1 r.1 h.argument g;
  result = Chooses-later old mid new l x.2 y.2 r.2 h.result g;
  literal = λ a s. h.literal a (Satisfies-before mid new a g s);
}

pub arrows-chosen-more : (old mid new : Build) (l : Lit) (x y : CellId) (n i : ℕ) (r : Arrow) (out after : List Arrow) → FrontOfOneType old.arena x y n → i < n
    → ChoosesArrows old mid l (arrows_of (kind_at old.arena.kinds x)) (arrows_of (kind_at old.arena.kinds y)) i out → Grows old mid → Grows mid new
    → ChoosesArrowAt mid new l (arrows_of (kind_at mid.arena.kinds x)) (arrows_of (kind_at mid.arena.kinds y)) i r → after ≡ out ++ r ∷ []
    → ChoosesArrows old new l (arrows_of (kind_at old.arena.kinds x)) (arrows_of (kind_at old.arena.kinds y)) (i + 1) after
arrows-chosen-more old mid new l x y n i r out after t lt chosen before grows one pushed =
    let ks : List CellKind = old.arena.kinds in
    let es : List Arrow = arrows_of (kind_at ks x) in
    let fs : List Arrow = arrows_of (kind_at ks y) in
    let p = sort-there ks (function_sort t.types.from t.types.to) x t.types.left in
    let q = sort-there ks (function_sort t.types.from t.types.to) y t.types.right in
    let left : arrows_of (kind_at mid.arena.kinds x) ≡ es = ap arrows_of (kind-before old mid x before p) in
    let right : arrows_of (kind_at mid.arena.kinds y) ≡ fs = ap arrows_of (kind-before old mid y before q) in
    record {
      count = ap length pushed ∙ length_push out r ∙ ap (λ (n : ℕ). n + 1) chosen.count;
      each = λ j d.
          let F : ℕ → Type 0 = λ j. ChoosesArrow old new l (get_or es j d) (get_or fs j d) (get_or (out ++ r ∷ []) j d) in
          rw pushed (below_more F i
          (λ k le.
          let n : k < length out = let m = chosen.count in omega arith in
          subst (λ (c : Arrow). ChoosesArrow old new l (get_or es k d) (get_or fs k d) c) (sym (get_or_append_left out (r ∷ []) d k n)) (arrow-later old mid new l _ _ _ (chosen.each k d le) grows))
          (let u = arrow-sorts ks t.types.from t.types.to x t.types.left i d (let h = t.front.left in omega arith) in
          let w = arrow-sorts ks t.types.from t.types.to y t.types.right i d (let h = t.front.right in omega arith) in
          let h : ChoosesArrow mid new l (get_or es i d) (get_or fs i d) r = subst (λ (us : List Arrow). ChoosesArrow mid new l (get_or es i d) (get_or us i d) r) right
          (subst (λ (us : List Arrow). ChoosesArrow mid new l (get_or us i d) (get_or (arrows_of (kind_at mid.arena.kinds y)) i d) r) left (one d)) in
          subst (λ (c : Arrow). ChoosesArrow old new l (get_or es i d) (get_or fs i d) c) (sym (get_or_push out r d i chosen.count))
          (record {
            below = h.below;
            argument = Chooses-from old mid new l _ _ r.1 (sort-there ks _ _ u.0) (sort-there ks _ _ w.0) before h.argument;
            result = Chooses-from old mid new l _ _ r.2 (sort-there ks _ _ u.1) (sort-there ks _ _ w.1) before h.result;
            literal = h.literal;
          })) j);
    }

-- ---- a function of chosen arrows

if-alike : {X : Type 0} (t b : Bool) (x y : X) → t ≡ b → (if t then x else y) ≡ (if b then x else y)
if-alike t b x y e = ap (λ c. if c then x else y) e

module _ (old new : Build) (l : Lit) (es fs out : List Arrow) (n : ℕ) (chosen : ChoosesArrows old new l es fs n out) (le : n ≤ length es) (re : n ≤ length fs) where
  pub front-pairs : (a : List Bool) → Satisfies a new.formula → present_pairs a (decode new.arena a) out
      ≡ (if lit_value l a then present_pairs a (decode old.arena a) (take n es) else present_pairs a (decode old.arena a) (take n fs))
  front-pairs a s = go (lit_value l a) refl
    where
      of : CellId → Value
      of = decode old.arena a

      go : (b : Bool) → lit_value l a ≡ b → present_pairs a (decode new.arena a) out ≡ (if b then present_pairs a of (take n es) else present_pairs a of (take n fs))
      go true e = pairs-alike a (decode new.arena a) of out (take n es) (chosen.count ∙ sym (length-take-le n es le))
          (λ i d lt. let m : i < n = let c = chosen.count in omega arith in let h = chosen.each i d m in
          h.literal a s ∙ if-alike _ _ _ _ e ∙ ap (λ (x : Arrow). lit_value x.0 a) (sym (get_or-take n es i d m)))
          (λ i d lt. let m : i < n = let c = chosen.count in omega arith in let h = chosen.each i d m in
          h.argument.value.value a s ∙ if-alike _ _ _ _ e ∙ ap (λ (x : Arrow). of x.1) (sym (get_or-take n es i d m)))
          (λ i d lt. let m : i < n = let c = chosen.count in omega arith in let h = chosen.each i d m in
          h.result.value.value a s ∙ if-alike _ _ _ _ e ∙ ap (λ (x : Arrow). of x.2) (sym (get_or-take n es i d m)))
      go false e = pairs-alike a (decode new.arena a) of out (take n fs) (chosen.count ∙ sym (length-take-le n fs re))
          (λ i d lt. let m : i < n = let c = chosen.count in omega arith in let h = chosen.each i d m in
          h.literal a s ∙ if-alike _ _ _ _ e ∙ ap (λ (x : Arrow). lit_value x.0 a) (sym (get_or-take n fs i d m)))
          (λ i d lt. let m : i < n = let c = chosen.count in omega arith in let h = chosen.each i d m in
          h.argument.value.value a s ∙ if-alike _ _ _ _ e ∙ ap (λ (x : Arrow). of x.1) (sym (get_or-take n fs i d m)))
          (λ i d lt. let m : i < n = let c = chosen.count in omega arith in let h = chosen.each i d m in
          h.result.value.value a s ∙ if-alike _ _ _ _ e ∙ ap (λ (x : Arrow). of x.2) (sym (get_or-take n fs i d m)))

  pub front-sorts : (s t : Sort) → LeadFrom old.arena.kinds s t es → LeadFrom old.arena.kinds s t fs → LeadFrom new.arena.kinds s t out
  front-sorts s t p q = λ i d lt.
      let m : i < n = let c = chosen.count in omega arith in
      let h = chosen.each i d m in
      (h.argument.sort s (p i d (omega arith)).0 (q i d (omega arith)).0, h.result.sort t (p i d (omega arith)).1 (q i d (omega arith)).1)

  pub front-named : ArrowsNamed new.formula.vars out
  front-named = λ i d lt. (chosen.each i d (let c = chosen.count in omega arith)).below

-- arrows to older cells have the pairs that they had
pub pairs-before : (b c : Build) (a : List Bool) (s t : Sort) (es : List Arrow) → Grows b c → LeadFrom b.arena.kinds s t es → present_pairs a (decode c.arena a) es ≡ present_pairs a (decode b.arena a) es
pairs-before b c a s t es g h = pairs-alike a (decode c.arena a) (decode b.arena a) es es refl (λ i d lt. refl)
    (λ i d lt. decode-before b c a _ g (sort-there b.arena.kinds s _ (h i d lt).0)) (λ i d lt. decode-before b c a _ g (sort-there b.arena.kinds t _ (h i d lt).1))

-- the value of a function of a sort, by its arrows
pub function-value : (c : Cells) (a : List Bool) (s t : Sort) (id : CellId) → WellBuilt c → OfSort c.kinds (function_sort s t) id → decode c a id ≡ value.Fun (function_of (present_pairs a (decode c a) (arrows_of (kind_at c.kinds id))))
function-value c a s t id built h =
    let b = is-function (OfSort c.kinds s) (OfSort c.kinds t) (kind_at c.kinds id) h.1 in
    let P : CellKind → Type 0 = λ k. kind_value c.texts a (decode c a) k ≡ value.Fun (function_of (present_pairs a (decode c a) (arrows_of k))) in
    decode-kind c a id built h.0 ∙ subst P (sym b.1) refl

-- the arrows that were chosen stand in front of the rests
pub begins-both : (old mid : Build) (l : Lit) (x y : CellId) (n : ℕ) (front : List Arrow) → FrontOfOneType old.arena x y n → Grows old mid
    → ChoosesArrows old mid l (arrows_of (kind_at old.arena.kinds x)) (arrows_of (kind_at old.arena.kinds y)) n front → BeginsBoth mid x y front
begins-both old mid l x y n front t before chosen =
    let ks : List CellKind = old.arena.kinds in
    let r : Sort = function_sort t.types.from t.types.to in
    record {
      types = record { from = t.types.from; to = t.types.to; left = OfSort-later old mid r x t.types.left before; right = OfSort-later old mid r y t.types.right before };
      named = front-named old mid l _ _ front n chosen t.front.left t.front.right;
      cells = front-sorts old mid l _ _ front n chosen t.front.left t.front.right t.types.from t.types.to
          (arrow-sorts ks t.types.from t.types.to x t.types.left) (arrow-sorts ks t.types.from t.types.to y t.types.right);
    }

pub chosen-function : (old mid new : Build) (l : Lit) (x y id : CellId) (n : ℕ) (front : List Arrow) → FrontOfOneType old.arena x y n → Grows old mid → Grows mid new
    → ChoosesArrows old mid l (arrows_of (kind_at old.arena.kinds x)) (arrows_of (kind_at old.arena.kinds y)) n front → EndsChoice mid new l x y front id → Chooses old new l x y id
chosen-function old mid new l x y id n front t before grows chosen ends = record {
  value = record {
    there = ends.value.there;
    value = λ a s.
        let of : CellId → Value = decode old.arena a in
        let s1 = Satisfies-before mid new a grows s in
        ends.value.value a s
        ∙ ap (λ (ps : List (Value × Value)). value.Fun (function_of (present_pairs a (decode mid.arena a) front ++ (if lit_value l a then ps else present_pairs a (decode mid.arena a) (drop (length front) (arrows_of (kind_at mid.arena.kinds y))))))) (behind a x t.types.left)
        ∙ ap (λ (ps : List (Value × Value)). value.Fun (function_of (present_pairs a (decode mid.arena a) front ++ (if lit_value l a then present_pairs a of (drop n es) else ps)))) (behind a y t.types.right)
        ∙ ap (λ (ps : List (Value × Value)). value.Fun (function_of (ps ++ (if lit_value l a then present_pairs a of (drop n es) else present_pairs a of (drop n fs))))) (front-pairs old mid l es fs front n chosen t.front.left t.front.right a s1)
        ∙ either (lit_value l a) a
        ∙ ap (λ v. if lit_value l a then v else value.Fun (function_of (present_pairs a of fs))) (sym (function-value old.arena a t.types.from t.types.to x old.built t.types.left))
        ∙ ap (λ v. if lit_value l a then of x else v) (sym (function-value old.arena a t.types.from t.types.to y old.built t.types.right));
  };
  sort = λ r p q.
      let b = is-function (OfSort ks t.types.from) (OfSort ks t.types.to) (kind_at ks x) t.types.left.1 in
      function-else ks r x b.0 (λ r. OfSort ks r y → OfSort new.arena.kinds r id) b.1 (λ s u p q. ends.sort s u (OfSort-later old mid (function_sort s u) x p before) (OfSort-later old mid (function_sort s u) y q before)
      (front-sorts old mid l es fs front n chosen t.front.left t.front.right s u (arrow-sorts ks s u x p) (arrow-sorts ks s u y q))) p q;
}
  where
    ks : List CellKind
    ks = old.arena.kinds

    es : List Arrow
    es = arrows_of (kind_at ks x)

    fs : List Arrow
    fs = arrows_of (kind_at ks y)

    behind : (a : List Bool) (z : CellId) → OfSort ks (function_sort t.types.from t.types.to) z
        → present_pairs a (decode mid.arena a) (drop (length front) (arrows_of (kind_at mid.arena.kinds z))) ≡ present_pairs a (decode old.arena a) (drop n (arrows_of (kind_at ks z)))
    behind a z h =
        ap (λ (k : CellKind). present_pairs a (decode mid.arena a) (drop (length front) (arrows_of k))) (kind-before old mid z before (sort-there ks (function_sort t.types.from t.types.to) z h))
        ∙ ap (λ (m : ℕ). present_pairs a (decode mid.arena a) (drop m (arrows_of (kind_at ks z)))) chosen.count
        ∙ pairs-before old mid a t.types.from t.types.to (drop n (arrows_of (kind_at ks z))) before
        (All-drop (λ (e : Arrow). OfSort ks t.types.from e.1 × OfSort ks t.types.to e.2) n (arrows_of (kind_at ks z)) (arrow-sorts ks t.types.from t.types.to z h))

    whole : (a : List Bool) (us : List Arrow) → present_pairs a (decode old.arena a) (take n us) ++ present_pairs a (decode old.arena a) (drop n us) ≡ present_pairs a (decode old.arena a) us
    whole a us = sym (pairs-append a (decode old.arena a) (take n us) (drop n us)) ∙ ap (present_pairs a (decode old.arena a)) (take-append-drop n us)

    either : (b : Bool) (a : List Bool) → value.Fun (function_of ((if b then present_pairs a (decode old.arena a) (take n es) else present_pairs a (decode old.arena a) (take n fs))
        ++ (if b then present_pairs a (decode old.arena a) (drop n es) else present_pairs a (decode old.arena a) (drop n fs))))
        ≡ (if b then value.Fun (function_of (present_pairs a (decode old.arena a) es)) else value.Fun (function_of (present_pairs a (decode old.arena a) fs)))
    either true a = ap (λ (ps : List (Value × Value)). value.Fun (function_of ps)) (whole a es)
    either false a = ap (λ (ps : List (Value × Value)). value.Fun (function_of ps)) (whole a fs)
