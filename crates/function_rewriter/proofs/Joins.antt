-- The arrows of two functions.
use Rattle.std.proofs.Common.{◌≡◌, ℕ, zero, suc, ◌+◌, ◌<◌, Bool, true, false, cond, ◌||◌, List, [], ◌∷◌, ◌++◌, map, length, take, get_or, All, refl, ap, ◌∙◌, sym, subst, arith, append_assoc}
use Rattle.std.specs.Prelude.{filter}
use Rattle.std.proofs.lemmas.List.{append-nil}
use Rattle.std.proofs.lemmas.List.Folds.{list_any-append}
use Rattle.std.proofs.lemmas.List.Elements.{All-push}
use Rattle.sat_formula.specs.declared.cnf.Cnf.{Cnf}
use Rattle.sat_formula.specs.Lit.{lit_value, IsBelow}
use Rattle.sat_formula.specs.Formula.{Satisfies}
use Rattle.tla_values.specs.Order.{same_value}
use Rattle.tla_values.specs.Sets.{apply, arguments, function_of, member}
use Rattle.tla_values.specs.declared.value.Value.{Value}
use Rattle.tla_values.specs.declared.value.Value.TheVariants as value
use Rattle.tla_values.proofs.Extensional.{same_itself}
use Rattle.tla_values.proofs.FunLaws.{arguments_append}
use Rattle.cell_arena.specs.declared.kinds.CellId.{CellId}
use Rattle.cell_arena.specs.declared.kinds.CellKind.{CellKind}
use Rattle.cell_arena.specs.declared.build.Build.{Build}
use Rattle.cell_arena.specs.declared.kinds.CellKind.TheVariants.{Fun}
use Rattle.cell_arena.specs.Cells.{IsHeld, kind_at}
use Rattle.cell_arena.specs.Decode.{decode, kind_value, present_pairs}
use Rattle.cell_arena.specs.Growth.{Grows, Decodes, Adds}
use Rattle.cell_merge.specs.Sorts.{Sort, OfSort, FunctionsOfOneType, function_of as function_sort}
use Rattle.cell_merge.specs.Arrows.{LeadFrom, ArrowsNamed}
use Rattle.cell_merge.proofs.Edges.{arrows-sort}
use Rattle.function_rewriter.specs.Functions.{pairs_of}
use Rattle.function_rewriter.specs.Arrows.{MakesFunction}
use Rattle.function_rewriter.specs.inner.Arrows.{Hides, JoinsArrows}
use Rattle.function_rewriter.proofs.PairLists.{or_else, apply_append, hidden_last, function_same, join_function}
use Rattle.function_rewriter.proofs.ArrowPairs.{Arrow, one_pair, pairs-push, pairs-more, arrows-there, arrows-named, function-pairs}
use Rattle.function_rewriter.proofs.Makes.{makes}

abbrev Pair : Type 0
Pair = Value × Value

-- an arrow that is there has its argument among the arguments
argument-there : (a : List Bool) (of : CellId → Value) (es : List Arrow) (i : ℕ) (d : Arrow) → i < length es → lit_value (get_or es i d).0 a ≡ true → member (of (get_or es i d).1) (arguments (present_pairs a of es)) ≡ true
argument-there a of [] i d lt on = absurd (omega arith)
argument-there a of (e ∷ es) zero d lt on = split (lit_value e.0 a) on
  where
    split : (t : Bool) → t ≡ true
        → member (of e.1) (arguments (map (λ (e : Arrow). (of e.1, of e.2)) (cond t (e ∷ filter (λ e. lit_value e.0 a) es) (filter (λ e. lit_value e.0 a) es)))) ≡ true
    split true f = ap (λ b. b || member (of e.1) (arguments (present_pairs a of es))) (same_itself (of e.1))
    split false f = absurd (cc)
argument-there a of (e ∷ es) (suc i) d lt on = split (lit_value e.0 a) (argument-there a of es i d (omega arith) on)
  where
    later : (p q : Bool) → q ≡ true → (p || q) ≡ true
    later true q f = refl
    later false q f = f

    split : (t : Bool) → member (of (get_or es i d).1) (arguments (present_pairs a of es)) ≡ true
        → member (of (get_or es i d).1) (arguments (map (λ (e : Arrow). (of e.1, of e.2)) (cond t (e ∷ filter (λ e. lit_value e.0 a) es) (filter (λ e. lit_value e.0 a) es)))) ≡ true
    split true f = later (same_value (of (get_or es i d).1) (of e.1)) _ f
    split false f = f

pub hides : (f : Cnf) (es : List Arrow) (i : ℕ) (d : Arrow) (cell : CellId) → i < length es → ((a : List Bool) → Satisfies a f → lit_value (get_or es i d).0 a ≡ true) → (get_or es i d).1 ≡ cell → Hides f es cell
unfolding Hides
hides f es i d cell lt on is = λ a s of. ap (λ (x : CellId). member (of x) (arguments (present_pairs a of es))) (sym is) ∙ argument-there a of es i d lt (on a s)

pub joins-none : (f : Cnf) (es fs out : List Arrow) → out ≡ es → JoinsArrows f es [] fs out
joins-none f es fs out is = rw is (record {
  named = λ n p q. p;
  sorts = λ ks s t p q. p;
  gives = λ a s of v. ap (λ (l : List Pair). apply l v) (sym (append-nil (present_pairs a of es)));
})

module _ (f : Cnf) (es fs out : List Arrow) (i : ℕ) (d : Arrow) (lt : i < length fs) (joins : JoinsArrows f es (take i fs) fs out) where
  more : (a : List Bool) (of : CellId → Value)
      → present_pairs a of es ++ present_pairs a of (take (i + 1) fs) ≡ (present_pairs a of es ++ present_pairs a of (take i fs)) ++ one_pair (lit_value (get_or fs i d).0 a) (of (get_or fs i d).1, of (get_or fs i d).2)
  more a of = ap (λ (l : List Pair). present_pairs a of es ++ l) (pairs-more a of fs i d lt) ∙ sym (append_assoc (present_pairs a of es) (present_pairs a of (take i fs)) _)

  -- one more arrow
  pub joins-push : (after : List Arrow) → after ≡ out ++ get_or fs i d ∷ [] → JoinsArrows f es (take (i + 1) fs) fs after
  joins-push after pushed = record {
    named = λ n p q. rw pushed (All-push (λ (e : Arrow). IsBelow n e.0) out (get_or fs i d) (joins.named n p q) (q i d lt));
    sorts = λ ks s t p q. rw pushed (All-push (λ (e : Arrow). OfSort ks s e.1 × OfSort ks t e.2) out (get_or fs i d) (joins.sorts ks s t p q) (q i d lt));
    gives = λ a s of v.
        let e : Arrow = get_or fs i d in
        let one : List Pair = one_pair (lit_value e.0 a) (of e.1, of e.2) in
        ap (λ (l : List Arrow). apply (present_pairs a of l) v) pushed ∙ ap (λ (l : List Pair). apply l v) (pairs-push a of out e) ∙ apply_append (present_pairs a of out) one v
        ∙ ap (λ o. or_else o (apply one v)) (joins.gives a s of v) ∙ sym (ap (λ (l : List Pair). apply l v) (more a of) ∙ apply_append (present_pairs a of es ++ present_pairs a of (take i fs)) one v);
  }

  -- one more arrow whose argument is there already
  pub joins-hidden : (cell : CellId) → Hides f es cell → (get_or fs i d).1 ≡ cell → JoinsArrows f es (take (i + 1) fs) fs out
  unfolding Hides
  joins-hidden cell hidden is = record {
    named = joins.named;
    sorts = joins.sorts;
    gives = λ a s of v.
        let e : Arrow = get_or fs i d in
        let ps : List Pair = present_pairs a of es in
        let qs : List Pair = present_pairs a of (take i fs) in
        let there : member (of e.1) (arguments (ps ++ qs)) ≡ true =
        ap (member (of e.1)) (arguments_append ps qs) ∙ list_any-append (same_value (of e.1)) (arguments ps) (arguments qs)
        ∙ ap (λ b. b || member (of e.1) (arguments qs)) (ap (λ (x : CellId). member (of x) (arguments ps)) is ∙ hidden a s of) in
        joins.gives a s of v ∙ sym (ap (λ (l : List Pair). apply l v) (more a of) ∙ split (lit_value e.0 a) (ps ++ qs) (of e.1, of e.2) there v);
  }
    where
      split : (t : Bool) (ps : List Pair) (q : Pair) → member q.0 (arguments ps) ≡ true → (v : Value) → apply (ps ++ one_pair t q) v ≡ apply ps v
      split true ps q h v = hidden_last ps q h v
      split false ps q h v = ap (λ (l : List Pair). apply l v) (append-nil ps)

-- the function of both
pub joined-function : (f : Cnf) (a : List Bool) (of : CellId → Value) (es fs out : List Arrow) (left right : List Pair) → JoinsArrows f es fs fs out → Satisfies a f
    → left ≡ function_of (present_pairs a of es) → right ≡ function_of (present_pairs a of fs) → function_of (present_pairs a of out) ≡ function_of (left ++ right)
joined-function f a of es fs out left right joins s p q =
    function_same (present_pairs a of out) (present_pairs a of es ++ present_pairs a of fs) (joins.gives a s of)
    ∙ sym (ap (λ (l : List Pair). function_of (l ++ right)) p ∙ ap (λ (l : List Pair). function_of (function_of (present_pairs a of es) ++ l)) q ∙ join_function (present_pairs a of es) (present_pairs a of fs))

-- ---- the arrows of two function cells

module _ (b : Build) (f g : CellId) (j k : CellKind) (es fs left right raw out : List Arrow) (fj : j ≡ kind_at b.arena.kinds f) (gk : k ≡ kind_at b.arena.kinds g) (is : j ≡ Fun es) (as_ : k ≡ Fun fs)
    (one : left ≡ es) (two : right ≡ fs) (joins : JoinsArrows b.formula left right right raw) (given : out ≡ raw) where
  joined : JoinsArrows b.formula es fs fs out
  joined = rw given (subst (λ (l : List Arrow). JoinsArrows b.formula es l l raw) two (subst (λ (l : List Arrow). JoinsArrows b.formula l right right raw) one joins))

  pub joined-named : (m n : ℕ) → IsHeld m b.arena.vars b.arena.width j → IsHeld n b.arena.vars b.arena.width k → ArrowsNamed b.formula.vars out
  joined-named m n p q = joined.named b.formula.vars (arrows-named b.arena m b.formula.vars j es p is b.fits) (arrows-named b.arena n b.formula.vars k fs q as_ b.fits)

  leads : (s t : Sort) → OfSort b.arena.kinds (function_sort s t) f → OfSort b.arena.kinds (function_sort s t) g → LeadFrom b.arena.kinds s t out
  leads s t p q = joined.sorts b.arena.kinds s t (arrows-sort b.arena.kinds s t f es p (sym fj ∙ is)) (arrows-sort b.arena.kinds s t g fs q (sym gk ∙ as_))

  pub joined-older : FunctionsOfOneType b.arena.kinds f g → All (λ e. (e.1.index < length b.arena.kinds) × (e.2.index < length b.arena.kinds)) out
  joined-older t = arrows-there b.arena.kinds t.from t.to out (leads t.from t.to t.left t.right)

  pub joined-made : (mid new : Build) (id : CellId) → ((a : List Bool) → decode b.arena a f ≡ kind_value b.arena.texts a (decode b.arena a) j) → ((a : List Bool) → decode b.arena a g ≡ kind_value b.arena.texts a (decode b.arena a) k)
      → mid.arena ≡ b.arena → mid.formula ≡ b.formula → Grows mid new → Adds mid new (Fun out) id → Decodes new id (λ a. value.Fun (function_of (present_pairs a (decode mid.arena a) out)))
      → MakesFunction new id (λ a. function_of (pairs_of (decode b.arena a f) ++ pairs_of (decode b.arena a g))) (λ s t. OfSort b.arena.kinds (function_sort s t) f × OfSort b.arena.kinds (function_sort s t) g)
  joined-made mid new id p q same over grows adds decodes =
      makes b mid new id out _ _ same grows adds decodes
      (λ a s. joined-function b.formula a (decode b.arena a) es fs out _ _ joined (subst (λ (h : Cnf). Satisfies a h) over s) (function-pairs b.arena a j f es (p a) is) (function-pairs b.arena a k g fs (q a) as_))
      (λ s t h. leads s t h.0 h.1)

-- a cell is told by its index
pub cell_one : (x y : CellId) → x.index ≡ y.index → x ≡ y
cell_one x y e = ap (λ (n : ℕ). record { index = n }) e
