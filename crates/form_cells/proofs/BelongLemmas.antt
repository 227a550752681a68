-- What belongs to forms, edge by edge and part by part.
use Rattle.std.proofs.Common.{◌≡◌, ℕ, zero, suc, ◌+◌, ◌<◌, ◌≤◌, Bool, true, false, not, ◌&&◌, ◌||◌, List, [], ◌∷◌, ◌++◌, map, length, take, get_or, refl, sym, ◌∙◌, ap, ap₂, subst, arith, IfSome, Option, Some}
use Rattle.std.specs.List.{list_all}
use Rattle.std.proofs.lemmas.List.{get_or_default, length-map, length-take, map_push, take_all, take_more}
use Rattle.std.proofs.lemmas.List.Elements.{All-get_or, All-nil, All-push}
use Rattle.std.proofs.lemmas.List.Folds.{list_all-append}
use Rattle.sat_formula.specs.declared.lit.Lit.{Lit}
use Rattle.sat_formula.specs.declared.cnf.Cnf.{Cnf}
use Rattle.sat_formula.specs.Lit.{IsBelow, lit_value}
use Rattle.sat_formula.specs.Formula.{Grows as FormulaGrows, HasValue, Satisfies}
use Rattle.sat_formula.proofs.Extension.{Grows-refl as formula-refl, Grows-trans as formula-trans, Satisfies-older}
use Rattle.tla_values.specs.declared.value.Value.{Value}
use Rattle.tla_meaning.specs.Forms.{all_belong, belongs, each_passes}
use Rattle.cell_arena.specs.declared.build.Build.{Build}
use Rattle.cell_arena.specs.declared.kinds.CellId.{CellId}
use Rattle.cell_arena.specs.declared.kinds.CellKind.{CellKind}
use Rattle.cell_arena.specs.Decode.{decode, present}
use Rattle.cell_arena.specs.Growth.{Grows}
use Rattle.cell_arena.proofs.Growing.{Satisfies-before, decode-before}
use Rattle.cell_merge.specs.Sorts.{OfSort, Sort}
use Rattle.cell_merge.proofs.Edges.{sort-there}
use Rattle.cell_merge.proofs.Present.{one, present-append, present-one}
use Rattle.cell_merge.proofs.SortLaws.{OfSort-later}
use Rattle.cell_merge.proofs.Tested.{named-later}
use Rattle.typed_cells.specs.KindSorts.{OfSorts}
use Rattle.form_cells.specs.declared.form.Form.{Form}
use Rattle.form_cells.specs.FormSorts.{AreFormsOf, MemberAndForm, more, none}
use Rattle.form_cells.specs.FormValues.{form_value}
use Rattle.form_cells.specs.inner.Listed.{AllTell, EdgesAndForm, PartsAndForms}
use Rattle.form_cells.proofs.FormsLater.{IsFormOf-later, value-later}

abbrev pub Edge : Type 0
Edge = Lit × CellId

pub some_of : {X : Type 0} (P : X → Type 0) (o : Option X) (x : X) → IfSome o P → o ≡ Some x → P x
some_of {X = X} P o x h e = subst (λ (p : Option X). IfSome p P) e h

-- an edge at an index
abbrev pub edge_at : List Edge → ℕ → Edge
edge_at es i = get_or es i (record { var = 0; neg = false }, record { index = 0 })

pub edge-is : (es : List Edge) (i : ℕ) → i < length es → edge_at es i ≡ get_or es i (edge_at es i)
edge-is es i lt = get_or_default es i _ _ lt

-- ---- literals that tell together

pub tell-none : (f : Cnf) (so : List Bool → Bool) (ls : List Lit) → ls ≡ [] → ((a : List Bool) → so a ≡ true) → AllTell f so ls
tell-none f so ls e h = rw e (record { named = All-nil (IsBelow f.vars); value = λ a s. sym (h a) })

pub tell-push : (f g : Cnf) (p q : List Bool → Bool) (ls after : List Lit) (l : Lit) → AllTell f p ls → FormulaGrows f g → l.var < g.vars → after ≡ ls ++ l ∷ []
    → ((a : List Bool) → Satisfies a g → (p a && lit_value l a) ≡ q a) → AllTell g q after
tell-push f g p q ls after l h grows below pushed same = rw pushed (record {
  named = All-push (IsBelow g.vars) ls l (named-later f.vars g.vars ls h.named grows.vars) below;
  value = λ a s.
      list_all-append (λ x. lit_value x a) ls (l ∷ []) ∙ ap₂ (λ x y. x && y) (h.value a (Satisfies-older f g a grows s)) (alone (lit_value l a))
      ∙ same a s;
})
  where
    alone : (b : Bool) → (b && true) ≡ b
    alone true = refl
    alone false = refl

pub tell-same : (f g : Cnf) (p q : List Bool → Bool) (ls : List Lit) → AllTell f p ls → FormulaGrows f g → ((a : List Bool) → Satisfies a g → p a ≡ q a) → AllTell g q ls
tell-same f g p q ls h grows same = record {
  named = named-later f.vars g.vars ls h.named grows.vars;
  value = λ a s. h.value a (Satisfies-older f g a grows s) ∙ same a s;
}

pub told : (f g : Cnf) (so : List Bool → Bool) (ls given : List Lit) (l : Lit) → AllTell f so ls → FormulaGrows f g → given ≡ ls → HasValue g l (λ a. list_all (λ x. lit_value x a) given) → HasValue g l so
told f g so ls given l h grows is v = record {
  below = v.below;
  value = λ a s. v.value a s ∙ ap (list_all (λ x. lit_value x a)) is ∙ h.value a (Satisfies-older f g a grows s);
}

-- ---- edges

all-one : (p : Value → Bool) (b : Bool) (v : Value) → list_all p (one b v) ≡ (not b || p v)
all-one p true v = alone (p v)
  where
    alone : (b : Bool) → (b && true) ≡ b
    alone true = refl
    alone false = refl
all-one p false v = refl

pub present-push : (a : List Bool) (of : CellId → Value) (p : Value → Bool) (es : List Edge) (e : Edge) →
    list_all p (present a of (es ++ e ∷ [])) ≡ (list_all p (present a of es) && (not (lit_value e.0 a) || p (of e.1)))
present-push a of p es e =
    ap (list_all p) (present-append a of es (e ∷ []) ∙ ap (λ vs. present a of es ++ vs) (present-one a of e))
    ∙ list_all-append p (present a of es) (one (lit_value e.0 a) (of e.1)) ∙ ap (λ b. list_all p (present a of es) && b) (all-one p (lit_value e.0 a) (of e.1))

pub present-turn : (a : List Bool) (of : CellId → Value) (p : Value → Bool) (es : List Edge) (i : ℕ) (e : Edge) → i < length es → e ≡ get_or es i e →
    list_all p (present a of (take (i + 1) es)) ≡ (list_all p (present a of (take i es)) && (not (lit_value e.0 a) || p (of e.1)))
present-turn a of p es i e lt is =
    ap (λ l. list_all p (present a of l)) (take_more es i e lt ∙ ap (λ x. take i es ++ x ∷ []) (sym is)) ∙ present-push a of p (take i es) e

pub present-skip : (a : List Bool) (of : CellId → Value) (p : Value → Bool) (es : List Edge) (i : ℕ) (e : Edge) → i < length es → e ≡ get_or es i e →
    lit_value e.0 a ≡ false → list_all p (present a of (take (i + 1) es)) ≡ list_all p (present a of (take i es))
present-skip a of p es i e lt is off =
    present-turn a of p es i e lt is ∙ ap (λ b. list_all p (present a of (take i es)) && (not b || p (of e.1))) off ∙ alone (list_all p (present a of (take i es)))
  where
    alone : (b : Bool) → (b && true) ≡ b
    alone true = refl
    alone false = refl

-- an edge more that is asked, once the form is asked of its cell
module _ (b : Build) (es : List Edge) (form : Form) (h : EdgesAndForm b es form) where
  abbrev so : ℕ → List Bool → Bool
  so i a = list_all (belongs (form_value b.arena a form)) (present a (decode b.arena a) (take i es))

  pub edge-asked : (c : Build) (i : ℕ) (e : Edge) → Grows b c → i < length es → e ≡ get_or es i e → MemberAndForm c.arena.kinds e.1 form
  edge-asked c i e g lt is = record {
    sort = h.sort;
    cell = OfSort-later b c h.sort e.1 (subst (λ (x : Edge). OfSort b.arena.kinds h.sort x.1) (sym is) (All-get_or (λ (x : Edge). OfSort b.arena.kinds h.sort x.1) es i e lt h.cells)) g;
    form = IsFormOf-later b c g h.sort form h.form;
  }

  pub edge-named : (c : Build) (i : ℕ) (e : Edge) → Grows b c → i < length es → e ≡ get_or es i e → e.0.var < c.formula.vars
  edge-named c i e g lt is =
      let n = g.formula.vars in
      let k : e.0.var < b.formula.vars = subst (λ (x : Edge). x.0.var < b.formula.vars) (sym is) (All-get_or (λ (x : Edge). IsBelow b.formula.vars x.0) es i e lt h.named) in
      omega arith

  pub edge-turn : (c d k : Build) (i : ℕ) (e : Edge) (l m : Lit) (ls after : List Lit) → Grows b c → Grows c d → Grows d k → i < length es → e ≡ get_or es i e
      → AllTell c.formula (so i) ls → HasValue d.formula l (λ a. belongs (form_value c.arena a form) (decode c.arena a e.1))
      → HasValue k.formula m (λ a. not (lit_value e.0 a) || lit_value l a) → after ≡ ls ++ m ∷ [] → AllTell k.formula (so (i + 1)) after
  edge-turn c d k i e l m ls after bc cd dk lt is tells asked test pushed =
      tell-push c.formula k.formula (so i) (so (i + 1)) ls after m tells (formula-trans c.formula d.formula k.formula cd.formula dk.formula) test.below pushed
      (λ a s.
      let old : OfSort b.arena.kinds h.sort e.1 = subst (λ (x : Edge). OfSort b.arena.kinds h.sort x.1) (sym is) (All-get_or (λ (x : Edge). OfSort b.arena.kinds h.sort x.1) es i e lt h.cells) in
      ap (λ t. so i a && t) (test.value a s ∙ ap (λ t. not (lit_value e.0 a) || t) (asked.value a (Satisfies-before d k a dk s)
      ∙ ap₂ belongs (value-later b c bc a h.sort form h.form) (decode-before b c a e.1 bc (sort-there b.arena.kinds h.sort e.1 old))))
      ∙ sym (present-turn a (decode b.arena a) (belongs (form_value b.arena a form)) es i e lt is))

  pub edge-skip : (c : Build) (i : ℕ) (e : Edge) (ls : List Lit) → i < length es → e ≡ get_or es i e → AllTell c.formula (so i) ls
      → ((a : List Bool) → Satisfies a c.formula → lit_value e.0 a ≡ false) → AllTell c.formula (so (i + 1)) ls
  edge-skip c i e ls lt is tells off =
      tell-same c.formula c.formula (so i) (so (i + 1)) ls tells (formula-refl c.formula)
      (λ a s. sym (present-skip a (decode b.arena a) (belongs (form_value b.arena a form)) es i e lt is (off a s)))

  pub edges-none : (ls : List Lit) → ls ≡ [] → AllTell b.formula (so 0) ls
  edges-none ls e = tell-none b.formula (so 0) ls e (λ a. none_first a es)
    where
      none_first : (a : List Bool) (es : List Edge) → list_all (belongs (form_value b.arena a form)) (present a (decode b.arena a) (take 0 es)) ≡ true
      none_first a [] = refl
      none_first a (e ∷ es) = refl

  pub edges-all : (c d : Build) (i : ℕ) (ls given : List Lit) (l : Lit) → length es ≤ i → AllTell c.formula (so i) ls → Grows c d → given ≡ ls
      → HasValue d.formula l (λ a. list_all (λ x. lit_value x a) given)
      → HasValue d.formula l (λ a. list_all (belongs (form_value b.arena a form)) (present a (decode b.arena a) es))
  edges-all c d i ls given l le tells g is v =
      told c.formula d.formula (λ a. list_all (belongs (form_value b.arena a form)) (present a (decode b.arena a) es)) ls given l
      (tell-same c.formula c.formula (so i) _ ls tells (formula-refl c.formula) (λ a s. ap (λ l. list_all (belongs (form_value b.arena a form)) (present a (decode b.arena a) l)) (take_all i es le)))
      g.formula is v

-- ---- parts

pub parts-count : (ks : List CellKind) (ss : List Sort) (xs : List CellId) (fs : List Form) → OfSorts ks ss xs → AreFormsOf ks ss fs → length xs ≡ length fs
parts-count ks ss [] fs h none = refl
parts-count ks ss (x ∷ xs) fs h none = absurd h
parts-count ks ss [] fs h (more s rs f gs o k) = absurd h
parts-count ks ss (x ∷ xs) fs h (more s rs f gs o k) = ap suc (parts-count ks rs xs gs h.1 k)

part-at : (ks : List CellKind) (ss : List Sort) (xs : List CellId) (fs : List Form) (i : ℕ) (d : CellId) (e : Form) → OfSorts ks ss xs → AreFormsOf ks ss fs → i < length fs →
    MemberAndForm ks (get_or xs i d) (get_or fs i e)
part-at ks ss xs fs i d e h none lt = absurd (omega arith)
part-at ks ss [] fs i d e h (more s rs f gs o k) lt = absurd h
part-at ks ss (x ∷ xs) fs zero d e h (more s rs f gs o k) lt = record { sort = s; cell = h.0; form = o }
part-at ks ss (x ∷ xs) fs (suc i) d e h (more s rs f gs o k) lt = part-at ks rs xs gs i d e h.1 k (omega arith)

each-push : (bs : List (Value → Bool)) (vs : List Value) (p : Value → Bool) (v : Value) → length bs ≡ length vs → each_passes (bs ++ p ∷ []) (vs ++ v ∷ []) ≡ (each_passes bs vs && p v)
each-push [] [] p v e = alone (p v)
  where
    alone : (b : Bool) → (b && true) ≡ b
    alone true = refl
    alone false = refl
each-push [] (w ∷ vs) p v e = absurd (omega arith)
each-push (q ∷ bs) [] p v e = absurd (omega arith)
each-push (q ∷ bs) (w ∷ vs) p v e = ap (λ t. q w && t) (each-push bs vs p v (omega arith)) ∙ assoc (q w) (each_passes bs vs) (p v)
  where
    assoc : (x y z : Bool) → (x && (y && z)) ≡ ((x && y) && z)
    assoc true y z = refl
    assoc false y z = refl

module _ (b : Build) (xs : List CellId) (fs : List Form) (h : PartsAndForms b.arena.kinds xs fs) where
  abbrev each : ℕ → List Bool → Bool
  each i a = all_belong (map (form_value b.arena a) (take i fs)) (map (decode b.arena a) (take i xs))

  count : length xs ≡ length fs
  count = parts-count b.arena.kinds h.sorts xs fs h.cells h.forms

  pub part-bound : (i : ℕ) → i < length fs → i < length xs
  part-bound i lt = let e = count in omega arith

  part-old : (i : ℕ) (x : CellId) (f : Form) → i < length fs → x ≡ get_or xs i x → f ≡ get_or fs i f → MemberAndForm b.arena.kinds x f
  part-old i x f lt is form =
      subst (λ (y : CellId). MemberAndForm b.arena.kinds y f) (sym is) (subst (λ (g : Form). MemberAndForm b.arena.kinds (get_or xs i x) g) (sym form)
      (part-at b.arena.kinds h.sorts xs fs i x f h.cells h.forms lt))

  pub part-asked : (c : Build) (i : ℕ) (x : CellId) (f : Form) → Grows b c → i < length fs → x ≡ get_or xs i x → f ≡ get_or fs i f → MemberAndForm c.arena.kinds x f
  part-asked c i x f g lt is form =
      let p = part-old i x f lt is form in
      record { sort = p.sort; cell = OfSort-later b c p.sort x p.cell g; form = IsFormOf-later b c g p.sort f p.form }

  pub part-turn : (c d : Build) (i : ℕ) (x : CellId) (f : Form) (l : Lit) (ls after : List Lit) → Grows b c → Grows c d → i < length fs → x ≡ get_or xs i x → f ≡ get_or fs i f
      → AllTell c.formula (each i) ls → HasValue d.formula l (λ a. belongs (form_value c.arena a f) (decode c.arena a x)) → after ≡ ls ++ l ∷ [] → AllTell d.formula (each (i + 1)) after
  part-turn c d i x f l ls after bc cd lt is form tells asked pushed =
      let p = part-old i x f lt is form in
      tell-push c.formula d.formula (each i) (each (i + 1)) ls after l tells cd.formula asked.below pushed
      (λ a s.
      let of : CellId → Value = decode b.arena a in
      let val : Form → _ = form_value b.arena a in
      ap (λ t. each i a && t) (asked.value a s ∙ ap₂ belongs (value-later b c bc a p.sort f p.form) (decode-before b c a x bc (sort-there b.arena.kinds p.sort x p.cell)))
      ∙ sym (each-push (map belongs (map val (take i fs))) (map of (take i xs)) (belongs (val f)) (of x) (lengths i lt a))
      ∙ sym (ap₂ each_passes
      (ap (λ l. map belongs (map val l)) (take_more fs i f lt ∙ ap (λ g. take i fs ++ g ∷ []) (sym form)) ∙ ap (map belongs) (map_push val (take i fs) f) ∙ map_push belongs (map val (take i fs)) (val f))
      (ap (map of) (take_more xs i x (part-bound i lt) ∙ ap (λ y. take i xs ++ y ∷ []) (sym is)) ∙ map_push of (take i xs) x)))
    where
      lengths : (i : ℕ) → i < length fs → (a : List Bool) → length (map belongs (map (form_value b.arena a) (take i fs))) ≡ length (map (decode b.arena a) (take i xs))
      lengths i lt a =
          let e = count in
          omega (arith, length-map (map (form_value b.arena a) (take i fs)) belongs, length-map (take i fs) (form_value b.arena a), length-map (take i xs) (decode b.arena a), length-take i fs, length-take i xs)

  pub parts-none : (ls : List Lit) → ls ≡ [] → AllTell b.formula (each 0) ls
  parts-none ls e = tell-none b.formula (each 0) ls e (λ a. none_first a fs xs)
    where
      none_first : (a : List Bool) (fs : List Form) (xs : List CellId) → all_belong (map (form_value b.arena a) (take 0 fs)) (map (decode b.arena a) (take 0 xs)) ≡ true
      none_first a [] [] = refl
      none_first a [] (x ∷ xs) = refl
      none_first a (f ∷ fs) [] = refl
      none_first a (f ∷ fs) (x ∷ xs) = refl

  pub parts-all : (c d : Build) (i : ℕ) (ls given : List Lit) (l : Lit) → length fs ≤ i → AllTell c.formula (each i) ls → Grows c d → given ≡ ls
      → HasValue d.formula l (λ a. list_all (λ x. lit_value x a) given)
      → HasValue d.formula l (λ a. all_belong (map (form_value b.arena a) fs) (map (decode b.arena a) xs))
  parts-all c d i ls given l le tells g is v =
      told c.formula d.formula (λ a. all_belong (map (form_value b.arena a) fs) (map (decode b.arena a) xs)) ls given l
      (tell-same c.formula c.formula (each i) _ ls tells (formula-refl c.formula)
      (λ a s. let e = count in ap₂ (λ l m. all_belong (map (form_value b.arena a) l) (map (decode b.arena a) m)) (take_all i fs le) (take_all i xs (omega arith))))
      g.formula is v
