-- The items of names behind one step more, and the values that they give.
use Rattle.std.proofs.Common.{◌≡◌, ℕ, zero, suc, ◌<◌, Bool, true, false, ◌||◌, List, [], ◌∷◌, set, length, length-set, All, refl, sym, ◌∙◌, ap, subst, arith}
use Rattle.std.specs.Prelude.{Some, option_and_then, slice_get, nat_eq}
use Rattle.std.proofs.lemmas.Bool.{eq-eqb, eqb-true}
use Rattle.std.proofs.lemmas.List.Elements.{All-cons, All-head, All-nil}
use Rattle.sat_formula.specs.declared.lit.Lit.{Lit}
use Rattle.tla_meaning.specs.declared.job.State.{State}
use Rattle.cell_arena.specs.declared.kinds.CellId.{CellId}
use Rattle.cell_arena.specs.Cells.{Cells as Arena}
use Rattle.cell_arena.specs.Decode.{decode}
use Rattle.kernel_trees.specs.declared.path.AssignedStep.{AssignedStep}
use Rattle.kernel_trees.specs.declared.path.AssignedStep.TheVariants as mark
use Rattle.kernel_trees.specs.Assignments.{Has, assigned_by, is_in}
use Rattle.path_walks.specs.Paths.{Items, item_at}
use Rattle.path_walks.specs.inner.Walks.{Gives, OneEach, items_past, put_item}

-- ---- lists

module _ {X : Type 0} where
  pub get_set_same : (xs : List X) (i : ℕ) (x : X) → i < length xs → slice_get (set xs i x) i ≡ Some x
  get_set_same [] i x h = absurd (omega arith)
  get_set_same (y ∷ ys) zero x h = refl
  get_set_same (y ∷ ys) (suc i) x h = get_set_same ys i x (omega arith)

  pub get_set_other : (xs : List X) (i j : ℕ) (x : X) → (j ≡ i → ⊥) → slice_get (set xs i x) j ≡ slice_get xs j
  get_set_other [] i j x h = refl
  get_set_other (y ∷ ys) zero zero x h = absurd (h refl)
  get_set_other (y ∷ ys) zero (suc j) x h = refl
  get_set_other (y ∷ ys) (suc i) zero x h = refl
  get_set_other (y ∷ ys) (suc i) (suc j) x h = get_set_other ys i j x (λ e. h (ap suc e))

-- ---- names

or_false : (p : Bool) → (p || false) ≡ p
or_false true = refl
or_false false = refl

same_number : (i j : ℕ) → nat_eq i j ≡ true → i ≡ j
same_number i j e = eqb-true i j e

is_same : (j : ℕ) → nat_eq j j ≡ true
is_same j = eq-eqb j j refl

-- the one name that a step assigns
pub the_name : (i j : ℕ) → is_in (i ∷ []) j ≡ true → j ≡ i
the_name i j e = same_number j i (sym (or_false (nat_eq j i)) ∙ e)

pub other_name : (i j : ℕ) → is_in (i ∷ []) j ≡ false → j ≡ i → ⊥
other_name i j e q = absurd (true_false (sym (subst (λ k. is_in (i ∷ []) k ≡ true) (sym q) (or_false (nat_eq i i) ∙ is_same i)) ∙ e))
  where
    true_false : true ≡ false → ⊥
    true_false e = cc

pub is_named : (i : ℕ) → is_in (i ∷ []) i ≡ true
is_named i = or_false (nat_eq i i) ∙ is_same i

-- ---- items

module _ (l : Lit) (items : Items) where
  at_set : (i : ℕ) (id : CellId) → i < length items → item_at (set items i (Some (id, l))) i ≡ Some (id, l)
  at_set i id lt = ap (option_and_then (λ o. o)) (get_set_same items i (Some (id, l)) lt)

  at_other : (i j : ℕ) (ids : List CellId) → (j ≡ i → ⊥) → item_at (put_item i ids l items) j ≡ item_at items j
  at_other i j [] n = refl
  at_other i j (id ∷ ids) n = ap (option_and_then (λ o. o)) (get_set_other items i j (Some (id, l)) n)

  -- other names keep theirs
  pub item_other : (z : AssignedStep) (ids : List CellId) (j : ℕ) → is_in (assigned_by z) j ≡ false →
      item_at (items_past z ids l items) j ≡ item_at items j
  item_other (mark.Guard k b) ids j e = refl
  item_other (mark.Pick ps) ids j e = refl
  item_other (mark.Equals i k) ids j e = at_other i j ids (other_name i j e)
  item_other (mark.Among i k) ids j e = at_other i j ids (other_name i j e)

  pub count_past : (z : AssignedStep) (ids : List CellId) → length (items_past z ids l items) ≡ length items
  count_past (mark.Guard k b) ids = refl
  count_past (mark.Pick ps) ids = refl
  count_past (mark.Equals i k) [] = refl
  count_past (mark.Equals i k) (id ∷ ids) = length-set items i (Some (id, l))
  count_past (mark.Among i k) [] = refl
  count_past (mark.Among i k) (id ∷ ids) = length-set items i (Some (id, l))

  -- a name that the step assigns has its cell
  pub record Named (c : Arena) (z : AssignedStep) (ids : List CellId) (j : ℕ) : Type 0 where
    pub cell : CellId
    pub is : item_at (items_past z ids l items) j ≡ Some (cell, l)
    pub among : ids ≡ cell ∷ []
    pub value : (a : List Bool) (t : State) → Gives c a z ids t → Has t j (decode c a cell)
    pub gives : (a : List Bool) (t : State) → Has t j (decode c a cell) → Gives c a z ids t

  module _ (c : Arena) where
    put_named : (i : ℕ) (z : AssignedStep) (ids : List CellId) (j : ℕ) → length ids ≡ 1 → i < length items → is_in (i ∷ []) j ≡ true →
        ((qs : List CellId) → items_past z qs l items ≡ put_item i qs l items) →
        ((a : List Bool) (t : State) → Gives c a z ids t ≡ All (λ id. Has t i (decode c a id)) ids) → Named c z ids j
    put_named i z [] j n lt e q g = absurd (omega arith)
    put_named i z (id ∷ []) j n lt e q g = record {
      cell = id;
      is = ap (λ (xs : Items). item_at xs j) (q (id ∷ [])) ∙ subst (λ k. item_at (set items i (Some (id, l))) k ≡ Some (id, l)) (sym (the_name i j e)) (at_set i id lt);
      among = refl;
      value = λ a t h. subst (λ k. Has t k (decode c a id)) (sym (the_name i j e))
          (All-head (λ id. Has t i (decode c a id)) id [] (subst (λ (T : Type 0). T) (g a t) h));
      gives = λ a t h. subst (λ (T : Type 0). T) (sym (g a t))
          (All-cons (λ id. Has t i (decode c a id)) id [] (subst (λ k. Has t k (decode c a id)) (the_name i j e) h)
          (All-nil (λ id. Has t i (decode c a id))));
    }
    put_named i z (id ∷ other ∷ ids) j n lt e q g = absurd (omega arith)

    pub named_past : (z : AssignedStep) (ids : List CellId) (j : ℕ) → OneEach z ids → is_in (assigned_by z) j ≡ true → j < length items →
        Named c z ids j
    named_past (mark.Guard k b) ids j n e lt = absurd (cc)
    named_past (mark.Pick ps) ids j n e lt = absurd (cc)
    named_past (mark.Equals i k) ids j n e lt =
        put_named i (mark.Equals i k) ids j n (subst (λ k. k < length items) (the_name i j e) lt) e (λ qs. refl) (λ a t. refl)
    named_past (mark.Among i k) ids j n e lt =
        put_named i (mark.Among i k) ids j n (subst (λ k. k < length items) (the_name i j e) lt) e (λ qs. refl) (λ a t. refl)
