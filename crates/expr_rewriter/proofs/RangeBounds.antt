-- Ranges: where the numbers from one end to the other lie within the node's bounds, they lie between the numbers that
-- these are, and so the cells of a range between those show it.
use Rattle.std.proofs.Common.{◌≡◌, ℕ, ◌<◌, ◌≤◌, arith, Bool, true, ◌&&◌, List, [], ◌∷◌, map, drop, length}
use Rattle.std.proofs.Common.{get_or, refl, sym, ◌∙◌, ap, ap₂, subst, Some, ℤ}
use Rattle.std.specs.List.{list_all}
use Rattle.std.specs.Prelude.{int_le}
use Rattle.tla_values.specs.Order.{Layer}
use Rattle.tla_values.specs.declared.value.Value.{Value, out-Value}
use Rattle.tla_values.specs.declared.value.Value.TheOpen as layer
use Rattle.tla_meaning.specs.declared.job.State.{State}
use Rattle.tla_meaning.specs.declared.op.Op.TheVariants as op
use Rattle.tla_meaning.specs.declared.outcome.Fault.TheVariants.{NoFault}
use Rattle.tla_meaning.specs.declared.outcome.Outcome.{Outcome}
use Rattle.tla_meaning.specs.declared.outcome.Outcome.TheVariants.{Val, Wrong, Big}
use Rattle.tla_meaning.specs.Numbers.{Width}
use Rattle.tla_meaning.specs.Operators.{table}
use Rattle.tla_meaning.specs.Outcomes.{joined}
use Rattle.tla_meaning.specs.Scopes.{Scope}
use Rattle.tla_meaning.proofs.Views.{and_left, and_right, false≢true}
use Rattle.cell_arena.specs.declared.build.Build.{Build}
use Rattle.cell_arena.specs.Cells.{Cells as Arena}
use Rattle.cell_arena.specs.Decode.{decode}
use Rattle.cell_arena.specs.Growth.{Grows}
use Rattle.cell_merge.specs.Sorts.{number, set_of}
use Rattle.kernel_trees.specs.declared.kernel.Ker.{Ker, out-Ker}
use Rattle.kernel_trees.specs.declared.kernel.KerOp.TheVariants as ker
use Rattle.kernel_trees.specs.Sound.{literal_of}
use Rattle.kernel_trees.specs.Trees.{ker_val}
use Rattle.kernel_ranges.specs.Ranges.{in_bounds, lies_between, numbers_from, within_at}
use Rattle.kernel_ranges.proofs.Opened.{range_numbers, with_within, within-out}
use Rattle.outcome_cells.specs.declared.cells.Cells.{Cells}
use Rattle.outcome_cells.specs.Shows.{AllShow, AreCells, Shows, cell_values}
use Rattle.outcome_cells.proofs.Later.{width-later}
use Rattle.value_operators.specs.Ranges.{ShowsRange, is_between, lie_between}
use Rattle.expr_rewriter.specs.Operating.{CanOperate, operands_at}
use Rattle.expr_rewriter.specs.inner.Owning.{MakesOwn, own_outcome}
use Rattle.expr_rewriter.proofs.Operated.{HasEnds, opened}
use Rattle.expr_rewriter.proofs.OwnRows.{made_sort}
use Rattle.expr_rewriter.proofs.OwnSorts.{range_makes}

-- ---- the numbers that bound a range

between : (p q z : Layer Value) (i j : ℤ) → ((n : ℤ) → p ≡ layer.Int n → i ≡ n) → ((n : ℤ) → q ≡ layer.Int n → j ≡ n) →
    lies_between p q z ≡ true → is_between i j z ≡ true
between (layer.Int m) (layer.Int n) (layer.Int k) i j f g h =
    ap₂ (λ x y. int_le x k && int_le k y) (f m refl) (g n refl) ∙ h
between p q z i j f g h = absurd (false≢true h)

pub bounds_hold : (args : List Ker) (low high d e : Ker) (i j : ℤ) → 4 ≤ length args → length args < 5 →
    low ≡ get_or args 2 d → high ≡ get_or args 3 e →
    ((n : ℤ) → literal_of (out-Ker low).op ≡ layer.Int n → i ≡ n) →
    ((n : ℤ) → literal_of (out-Ker high).op ≡ layer.Int n → j ≡ n) →
    (v : Value) → in_bounds (drop 2 args) v ≡ true → is_between i j (out-Value v) ≡ true
bounds_hold [] low high d e i j a b x y f g v h = absurd (omega arith)
bounds_hold (k ∷ []) low high d e i j a b x y f g v h = absurd (omega arith)
bounds_hold (k ∷ l ∷ []) low high d e i j a b x y f g v h = absurd (omega arith)
bounds_hold (k ∷ l ∷ m ∷ []) low high d e i j a b x y f g v h = absurd (omega arith)
bounds_hold (k ∷ l ∷ m ∷ n ∷ []) low high d e i j a b x y f g v h =
    between (literal_of (out-Ker m).op) (literal_of (out-Ker n).op) (out-Value v) i j
    (λ z q. f z (ap (λ (t : Ker). literal_of (out-Ker t).op) x ∙ q))
    (λ z q. g z (ap (λ (t : Ker). literal_of (out-Ker t).op) y ∙ q)) h
bounds_hold (k ∷ l ∷ m ∷ n ∷ o ∷ ks) low high d e i j a b x y f g v h = absurd (omega arith)

-- ---- numbers that lie within the bounds

all_more : (p q : Value → Bool) (xs : List Value) → ((v : Value) → p v ≡ true → q v ≡ true) → list_all p xs ≡ true →
    list_all q xs ≡ true
all_more p q [] f h = refl
all_more p q (x ∷ xs) f h =
    ap₂ (λ s t. s && t) (f x (and_left (p x) (list_all p xs) h)) (all_more p q xs f (and_right (p x) (list_all p xs) h))

all_between : (bounds : List Ker) (low high : ℤ) (x y : Layer Value) →
    ((v : Value) → in_bounds bounds v ≡ true → is_between low high (out-Value v) ≡ true) →
    list_all (in_bounds bounds) (numbers_from x y) ≡ true → lie_between low high x y ≡ true
all_between bounds low high (layer.Int m) (layer.Int n) f h =
    all_more (in_bounds bounds) (λ v. is_between low high (out-Value v)) (numbers_from (layer.Int m) (layer.Int n)) f h
all_between bounds low high x y f h = refl

-- the ends have no fault, so the cells have their values
ends_lie : (c : Arena) (a : List Bool) (x y : Cells) (o q : Outcome) (bounds : List Ker) (low high : ℤ) →
    Shows c a x o → Shows c a y q →
    joined (o ∷ q ∷ []) ≡ NoFault →
    ((v u : Value) → o ≡ Val v → q ≡ Val u →
    list_all (in_bounds bounds) (numbers_from (out-Value v) (out-Value u)) ≡ true) →
    ((v : Value) → in_bounds bounds v ≡ true → is_between low high (out-Value v) ≡ true) →
    lie_between low high (out-Value (decode c a x.cell)) (out-Value (decode c a y.cell)) ≡ true
ends_lie c a x y (Val v) (Val u) bounds low high hx hy n f g =
    ap₂ (λ (s t : Value). lie_between low high (out-Value s) (out-Value t)) (hx.shown.value v refl)
    (hy.shown.value u refl)
    ∙ all_between bounds low high (out-Value v) (out-Value u) g (f v u refl refl)
ends_lie c a x y (Val v) (Wrong p) bounds low high hx hy n f g = absurd (cc)
ends_lie c a x y (Val v) (Big p) bounds low high hx hy n f g = absurd (cc)
ends_lie c a x y (Wrong p) (Val u) bounds low high hx hy n f g = absurd (cc)
ends_lie c a x y (Wrong p) (Wrong r) bounds low high hx hy n f g = absurd (cc)
ends_lie c a x y (Wrong p) (Big r) bounds low high hx hy n f g = absurd (cc)
ends_lie c a x y (Big p) (Val u) bounds low high hx hy n f g = absurd (cc)
ends_lie c a x y (Big p) (Wrong r) bounds low high hx hy n f g = absurd (cc)
ends_lie c a x y (Big p) (Big r) bounds low high hx hy n f g = absurd (cc)

module _ (c : Arena) (a : List Bool) (w : Width) (x y : Cells) (low high : ℤ) (sc : Scope) (s t : State) where
  abbrev outs : List Ker → List Outcome
  outs ks = map (λ j. ker_val w j sc s t) ks

  numbers_lie : (bs : List ℕ) (ks : List Ker) → HasEnds ker.Range ks →
      within_at w ker.Range bs (with_within w ks) sc s t ≡ true →
      AllShow c a (x ∷ y ∷ []) (outs (operands_at ker.Range ks)) → joined (outs (operands_at ker.Range ks)) ≡ NoFault →
      ((v : Value) → in_bounds (drop 2 ks) v ≡ true → is_between low high (out-Value v) ≡ true) →
      lie_between low high (out-Value (decode c a x.cell)) (out-Value (decode c a y.cell)) ≡ true
  numbers_lie bs [] e h all calm g = absurd e
  numbers_lie bs (k ∷ []) e h all calm g = absurd e
  numbers_lie bs (k ∷ l ∷ ks) e h all calm g =
      ends_lie c a x y (ker_val w k sc s t) (ker_val w l sc s t) ks low high all.0 all.1.0 calm
      ((range_numbers w s t bs k l ks sc h).2) g

pub makes_range : (old new : Build) (k : Ker) (xs : List Cells) (x y r : Cells) (low high : ℤ) → CanOperate old k xs →
    (out-Ker k).op ≡ ker.Range →
    xs ≡ x ∷ y ∷ [] → Grows old new → AreCells new (set_of number) r → ShowsRange old new x.cell y.cell low high r →
    ((v : Value) → in_bounds (drop 2 (out-Ker k).args) v ≡ true → is_between low high (out-Value v) ≡ true) →
    MakesOwn old new k xs r
makes_range old new k xs x y r low high can e q g sort row f = record {
  sort = made_sort old new k xs (x ∷ y ∷ []) r ker.Range can e q (λ a ks _ n _. range_makes new r sort a ks n);
  shows = λ a s sc now next within all free.
      let n = out-Ker k in
      let w : Width = Some old.arena.width in
      let z = opened old k xs can in
      let ends = subst (λ o. HasEnds o n.args) e z.open_.ends in
      let lies = subst (λ o. within_at w o n.binds (with_within w n.args) sc now next ≡ true) e
      (sym (within-out w k sc now next) ∙ within) in
      let shown = subst (λ o. AllShow old.arena a xs
      (map (λ j. ker_val w j sc now next) (operands_at o n.args))) e all in
      let both = subst (λ zs. AllShow old.arena a zs
      (map (λ j. ker_val w j sc now next) (operands_at ker.Range n.args))) q shown in
      let calm = subst (λ o. joined (map (λ j. ker_val w j sc now next) (operands_at o n.args)) ≡ NoFault) e free in
      let fits = numbers_lie old.arena a w x y low high sc now next n.binds n.args ends lies both calm f in
      subst (λ o. Shows new.arena a r (own_outcome w n.place o (cell_values old.arena a xs))) (sym e)
      (subst (λ zs. Shows new.arena a r (own_outcome w n.place ker.Range (cell_values old.arena a zs))) (sym q)
      (subst (λ m. Shows new.arena a r
      (table (Some m) n.place op.Range (decode old.arena a x.cell ∷ decode old.arena a y.cell ∷ [])))
      (width-later old new g) (row.shows a s fits n.place)));
}

-- what is said of the bounds as they are computed, and of the list as it is read
pub bounds_are : (args given : List Ker) (low high i j : ℤ) → given ≡ args → low ≡ i → high ≡ j →
    ((v : Value) → in_bounds (drop 2 given) v ≡ true → is_between i j (out-Value v) ≡ true) →
    (v : Value) → in_bounds (drop 2 args) v ≡ true → is_between low high (out-Value v) ≡ true
bounds_are args given low high i j e p q f v h =
    ap₂ (λ m n. is_between m n (out-Value v)) p q ∙ f v (ap (λ ks. in_bounds (drop 2 ks) v) e ∙ h)
