-- What the cells of trees show, and what follows of their values.
use Rattle.std.proofs.Common.{◌≡◌, ◌⊎◌, inl, inr, ℕ, Bool, true, false, not, ◌&&◌, ◌||◌, IsTrue, List, [], ◌∷◌, map, refl, sym, ◌∙◌, ap, ap₂, subst}
use Rattle.std.specs.Prelude.{Option, Some, nat_eq, option_and_then, option_map, if◌then◌else◌}
use Rattle.std.specs.List.{list_all, list_any}
use Rattle.std.proofs.lemmas.Bool.{eqb-true}
use Rattle.sat_formula.specs.declared.lit.Lit.{Lit}
use Rattle.sat_formula.specs.Formula.{Satisfies}
use Rattle.sat_formula.specs.Lit.{lit_value}
use Rattle.sat_formula.proofs.GateClauses.{lit_value-negation}
use Rattle.tla_values.specs.Order.{Layer, same_value}
use Rattle.tla_values.specs.Sets.{elements, elements_here, member}
use Rattle.tla_values.specs.declared.value.Value.{Value, out-Value}
use Rattle.tla_values.specs.declared.value.Value.TheVariants as value
use Rattle.tla_values.specs.declared.value.Value.TheOpen as layer
use Rattle.tla_values.proofs.Extensional.{same_equal, same_itself}
use Rattle.tla_meaning.specs.declared.job.State.{State}
use Rattle.tla_meaning.specs.declared.outcome.Fault.{Fault}
use Rattle.tla_meaning.specs.declared.outcome.Fault.TheVariants.{NoFault, IsWrong, IsBig}
use Rattle.tla_meaning.specs.declared.outcome.Outcome.{Outcome}
use Rattle.tla_meaning.specs.declared.outcome.Outcome.TheVariants.{Val, Wrong, Big}
use Rattle.tla_meaning.specs.Outcomes.{fault_of}
use Rattle.tla_meaning.specs.Scopes.{Scope}
use Rattle.tla_meaning.specs.Shapes.{all_set_items, set_items}
use Rattle.cell_arena.specs.declared.build.Build.{Build}
use Rattle.cell_arena.specs.declared.kinds.CellId.{CellId}
use Rattle.cell_arena.specs.Decode.{decode, kind_value}
use Rattle.cell_arena.specs.Growth.{Grows}
use Rattle.cell_arena.proofs.Decoding.{decode-kind}
use Rattle.cell_merge.specs.Sorts.{OfSort, Sort, set_of}
use Rattle.cell_merge.proofs.Edges.{is-set}
use Rattle.kernel_trees.specs.declared.kernel.Ker.{Ker}
use Rattle.kernel_trees.specs.Assignments.{IsTruth, is_truth}
use Rattle.kernel_trees.specs.Picks.{IsOneOf}
use Rattle.kernel_trees.specs.Trees.{ker_val}
use Rattle.kernel_ranges.specs.Ranges.{is_within}
use Rattle.outcome_cells.specs.declared.cells.Cells.{Cells}
use Rattle.outcome_cells.specs.Shows.{AllShow, Shows}
use Rattle.outcome_cells.specs.Shown.{Shown, ShownFault, big_fault, is_big, is_wrong, wrong_fault}
use Rattle.outcome_cells.proofs.Later.{width-later}
use Rattle.typed_cells.specs.KindSorts.{OfSorts}
use Rattle.expr_rewriter.specs.declared.cell_env.CellEnv.{CellEnv}
use Rattle.expr_rewriter.specs.Environments.{Fits}
use Rattle.expr_rewriter.specs.inner.Parts.{AreTrees, IsTree}
use Rattle.path_walks.specs.inner.Walks.{all_true}
use Rattle.path_cells.specs.inner.Steps.{is_never, negation}
use Rattle.path_cells.proofs.Wider.{and_first, and_second}

pub true_false : true ≡ false → ⊥
true_false e = cc

-- ---- outcomes

pub wrong_same : (o : Outcome) → is_wrong o ≡ wrong_fault (fault_of o)
wrong_same (Val v) = refl
wrong_same (Wrong p) = refl
wrong_same (Big p) = refl

pub big_same : (o : Outcome) → is_big o ≡ big_fault (fault_of o)
big_same (Val v) = refl
big_same (Wrong p) = refl
big_same (Big p) = refl

pub fault_shown : (w b : Bool) (v : Value) (o : Outcome) → Shown w b v o → ShownFault w b (fault_of o)
fault_shown w b v o h = record { wrong = h.wrong ∙ wrong_same o; big = h.big ∙ big_same o }

pub value_is : (w b : Bool) (v : Value) (o : Outcome) → Shown w b v o → w ≡ false → b ≡ false → o ≡ Val v
value_is w b v (Val x) h e f = ap Val (sym (h.value x refl))
value_is w b v (Wrong p) h e f = absurd (true_false (sym h.wrong ∙ e))
value_is w b v (Big p) h e f = absurd (true_false (sym h.big ∙ f))

pub no_fault : (w b : Bool) (f : Fault) → ShownFault w b f → w ≡ false → b ≡ false → f ≡ NoFault
no_fault w b NoFault h e f = refl
no_fault w b (IsWrong p) h e f = absurd (true_false (sym h.wrong ∙ e))
no_fault w b (IsBig p) h e f = absurd (true_false (sym h.big ∙ f))

-- ---- truth values

truth_one : (p q : Bool) → ◌≡◌ {A = Layer Value} (layer.Bool p) (layer.Bool q) → p ≡ q
truth_one p q e = cc

pub bool_one : (p q : Bool) → value.Bool p ≡ value.Bool q → p ≡ q
bool_one p q e = truth_one p q (sym (value.outs-Bool p) ∙ (ap out-Value e ∙ value.outs-Bool q))

pub truth_is : (o : Outcome) (c : Bool) → ((x : Value) → o ≡ Val x → value.Bool c ≡ x) → IsTruth o
truth_is (Val v) c h = subst (λ v. IsTruth (Val v)) (h v refl) (ap is_truth (value.outs-Bool c))
truth_is (Wrong p) c h = tt
truth_is (Big p) c h = tt

-- ---- literals

pub negated : (l : Lit) (a : List Bool) → lit_value (negation l) a ≡ not (lit_value l a)
negated l a = lit_value-negation l a

pub wanted_true : (c : Bool) (l : Lit) (a : List Bool) → lit_value (if c then l else negation l) a ≡ true → lit_value l a ≡ c
wanted_true true l a e = e
wanted_true false l a e = by (lit_value l a) (sym (negated l a) ∙ e)
  where
    by : (p : Bool) → not p ≡ true → p ≡ false
    by true e = absurd (true_false (sym e))
    by false e = refl

pub true_wanted : (c : Bool) (l : Lit) (a : List Bool) → lit_value l a ≡ c → lit_value (if c then l else negation l) a ≡ true
true_wanted true l a e = e
true_wanted false l a e = negated l a ∙ ap not e

-- one that is never true
pub never_true : (l : Lit) (a : List Bool) → is_never l ≡ true → lit_value (record { var = 0; neg = false }) a ≡ true → lit_value l a ≡ false
never_true l a e t =
    let v : l.var ≡ 0 = eqb-true l.var 0 (and_first (nat_eq l.var 0) l.neg e) in
    let n : l.neg ≡ true = and_second (nat_eq l.var 0) l.neg e in
    let s : l ≡ record { var = 0; neg = true } = lit_same l 0 true v n in
    subst (λ k. lit_value k a ≡ false) (sym s) (ap not t)
  where
    lit_same : (l : Lit) (v : ℕ) (n : Bool) → l.var ≡ v → l.neg ≡ n → l ≡ record { var = v; neg = n }
    lit_same l v n e f = ap₂ (λ (v : ℕ) (n : Bool). record { var = v; neg = n }) e f

pub never_all : (ls : List Lit) (a : List Bool) → list_any is_never ls ≡ true → lit_value (record { var = 0; neg = false }) a ≡ true → all_true ls a ≡ false
never_all [] a e t = absurd (true_false (sym e))
never_all (l ∷ ls) a e t = by (is_never l) refl e (λ q. never_all ls a q t)
  where
    and_false : (p q : Bool) → (p ≡ false) ⊎ (q ≡ false) → (p && q) ≡ false
    and_false true q (inl e) = absurd (true_false e)
    and_false true q (inr e) = e
    and_false false q e = refl

    by : (b : Bool) → is_never l ≡ b → (b || list_any is_never ls) ≡ true → (list_any is_never ls ≡ true → all_true ls a ≡ false) →
        (lit_value l a && all_true ls a) ≡ false
    by true q e r = and_false (lit_value l a) (all_true ls a) (inl (never_true l a q t))
    by false q e r = and_false (lit_value l a) (all_true ls a) (inr (r e))

-- ---- a tree, of the width of an older build

pub tree_shown : (g h : Build) (env : CellEnv) (k : Ker) (x : Cells) → Grows g h → IsTree h k env x → (a : List Bool) → Satisfies a h.formula →
    (sc : Scope) (s t : State) → Fits h.arena a env sc s t → IsTrue (is_within (Some g.arena.width) k sc s t) →
    Shows h.arena a x (ker_val (Some g.arena.width) k sc s t)
tree_shown g h env k x gr tree a p sc s t f =
    subst (λ n. IsTrue (is_within (Some n) k sc s t) → Shows h.arena a x (ker_val (Some n) k sc s t)) (width-later g h gr) (tree.rewrites.shows a p sc s t f)

pub trees_shown : (g h : Build) (env : CellEnv) (ks : List Ker) (xs : List Cells) → Grows g h → AreTrees h env ks xs → (a : List Bool) → Satisfies a h.formula →
    (sc : Scope) (s t : State) → Fits h.arena a env sc s t → IsTrue (list_all (λ k. is_within (Some g.arena.width) k sc s t) ks) →
    AllShow h.arena a xs (map (λ k. ker_val (Some g.arena.width) k sc s t) ks)
trees_shown g h env [] [] gr trees a p sc s t f w = tt
trees_shown g h env [] (x ∷ xs) gr trees a p sc s t f w = absurd trees
trees_shown g h env (k ∷ ks) [] gr trees a p sc s t f w = absurd trees
trees_shown g h env (k ∷ ks) (x ∷ xs) gr trees a p sc s t f w =
    let within : Ker → Bool = λ k. is_within (Some g.arena.width) k sc s t in (
      tree_shown g h env k x gr trees.0 a p sc s t f (and_first (within k) (list_all within ks) w),
      trees_shown g h env ks xs gr trees.1 a p sc s t f (and_second (within k) (list_all within ks) w),
    )

-- ---- sets

set_value : (l : Layer Value) (xs : List Value) → l ≡ layer.Set xs → set_items l ≡ Some (elements_here l)
set_value l xs e = ap set_items e ∙ ap Some (sym (ap elements_here e))

set_decoded : (b : Build) (a : List Bool) (s : Sort) (id : CellId) → OfSort b.arena.kinds (set_of s) id →
    set_items (out-Value (decode b.arena a id)) ≡ Some (elements (decode b.arena a id))
unfolding elements
set_decoded b a s id h =
    let k = is-set (OfSort b.arena.kinds s) _ h.1 in
    set_value (out-Value (decode b.arena a id)) _
    (ap out-Value (decode-kind b.arena a id b.built h.0 ∙ ap (kind_value b.arena.texts a (decode b.arena a)) k.1) ∙ value.outs-Set _)

pub sets_decoded : (b : Build) (a : List Bool) (ss : List Sort) (xs : List CellId) → OfSorts b.arena.kinds (map set_of ss) xs →
    all_set_items (map (decode b.arena a) xs) ≡ Some (map (λ id. elements (decode b.arena a id)) xs)
sets_decoded b a [] [] h = refl
sets_decoded b a [] (x ∷ xs) h = absurd h
sets_decoded b a (s ∷ ss) [] h = absurd h
sets_decoded b a (s ∷ ss) (x ∷ xs) h =
    ap (λ (o : Option (List Value)). option_and_then (λ ys. option_map (λ xss. ys ∷ xss) (all_set_items (map (decode b.arena a) xs))) o)
    (set_decoded b a s x h.0)
    ∙ ap (λ (o : Option (List (List Value))). option_map (λ xss. elements (decode b.arena a x) ∷ xss) o) (sets_decoded b a ss xs h.1)

-- ---- members

pub member_one : (v : Value) (xs : List Value) → member v xs ≡ true → IsOneOf v xs
member_one v [] e = absurd (true_false (sym e))
member_one v (x ∷ xs) e = by (same_value v x) refl e (member_one v xs)
  where
    by : (b : Bool) → same_value v x ≡ b → (b || member v xs) ≡ true → (member v xs ≡ true → IsOneOf v xs) → IsOneOf v (x ∷ xs)
    by true q e r = inl (same_equal v x q)
    by false q e r = inr (r e)

pub one_member : (v : Value) (xs : List Value) → IsOneOf v xs → member v xs ≡ true
one_member v [] h = absurd h
one_member v (x ∷ xs) (inl e) =
    ap (λ (b : Bool). b || member v xs) (subst (λ y. same_value v y ≡ true) e (same_itself v))
one_member v (x ∷ xs) (inr h) = by (same_value v x) (one_member v xs h)
  where
    by : (b : Bool) → member v xs ≡ true → (b || member v xs) ≡ true
    by true e = refl
    by false e = e
