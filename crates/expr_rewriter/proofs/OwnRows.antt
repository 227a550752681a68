-- From an operator's own cells to what its node gives: the faults of the operands in front, and the row of the table.
use Rattle.std.proofs.Common.{◌≡◌, ℕ, Bool, true, false, List, [], ◌∷◌, ◌++◌, map, flat_map, refl, sym, ◌∙◌, ap}
use Rattle.std.proofs.Common.{subst, Some, pos, All}
use Rattle.std.specs.Prelude.{if◌then◌else◌}
use Rattle.sat_formula.specs.Formula.{Grows as FormulaGrows}
use Rattle.sat_formula.proofs.Extension.{Satisfies-older}
use Rattle.tla_values.specs.declared.value.Value.{Value}
use Rattle.tla_values.specs.declared.value.Value.TheVariants as value
use Rattle.tla_meaning.specs.declared.job.State.{State}
use Rattle.tla_meaning.specs.declared.op.Op.TheVariants as op
use Rattle.tla_meaning.specs.declared.outcome.Outcome.{Outcome}
use Rattle.tla_meaning.specs.declared.outcome.Outcome.TheVariants.{Val, Wrong, Big}
use Rattle.tla_meaning.specs.declared.place.Place.{Place}
use Rattle.tla_meaning.specs.Numbers.{Width, in_width}
use Rattle.tla_meaning.specs.Operators.{table}
use Rattle.tla_meaning.specs.Outcomes.{strict, with_value}
use Rattle.tla_meaning.specs.Scopes.{Scope}
use Rattle.tla_meaning.proofs.Views.{false≢true}
use Rattle.cell_arena.specs.declared.build.Build.{Build}
use Rattle.cell_arena.specs.declared.kinds.CellId.{CellId}
use Rattle.cell_arena.specs.Cells.{Cells as Arena}
use Rattle.cell_arena.specs.Decode.{decode}
use Rattle.cell_arena.specs.Growth.{Grows}
use Rattle.snowcat_rows.specs.declared.types.Ty.{Ty}
use Rattle.kernel_trees.specs.declared.kernel.Ker.{Ker, out-Ker, roll-out-Ker}
use Rattle.kernel_trees.specs.declared.kernel.KerOp.{KerOp}
use Rattle.kernel_trees.specs.declared.kernel.KerOp.TheVariants as ker
use Rattle.kernel_trees.specs.TypeKinds.{Kind}
use Rattle.kernel_trees.specs.Sound.{kind_at}
use Rattle.kernel_trees.specs.Trees.{ker_val, op_of}
use Rattle.kernel_trees.proofs.Operators.{tree, val_strict, val_range, val_item}
use Rattle.kernel_trees.proofs.SoundRows.{Row}
use Rattle.outcome_cells.specs.declared.cells.Cells.{Cells}
use Rattle.outcome_cells.specs.Joins.{IsStrict}
use Rattle.outcome_cells.specs.Rows.{IsRow}
use Rattle.outcome_cells.specs.Shown.{Shown}
use Rattle.outcome_cells.specs.Shows.{AllCells, AreCells, FaultsBelow, Shows, cell_values, faults_of}
use Rattle.outcome_cells.proofs.Later.{AllCells-below, AllCells-later, AllShow-later, AreCells-behind, AreCells-below}
use Rattle.outcome_cells.proofs.Later.{cell_values-later, width-later}
use Rattle.typed_cells.specs.KindSorts.{names_within, sort_of}
use Rattle.typed_cells.specs.Known.{IsTextAmong}
use Rattle.function_operators.specs.Operands.{HasItemRow}
use Rattle.expr_rewriter.specs.Operating.{CanOperate, Operates, is_operated, operands_at}
use Rattle.expr_rewriter.specs.Rewriting.{HasTreeSort}
use Rattle.expr_rewriter.specs.inner.Owning.{MakesOwn, gives, is_arithmetic, is_of_sets, own_outcome}
use Rattle.expr_rewriter.proofs.Operated.{HasEnds, opened}

-- ---- a node is its own row behind its operands

-- an item of a number, whether this fits the width or not
item_fits : (w b : Bool) (v n : Value) (o : Outcome) (row : List Value → Outcome) →
    Shown w b v (strict (o ∷ []) (λ vs. with_value (Val n) (λ i. row (vs ++ i ∷ [])))) →
    Shown w b v (strict (o ∷ Val n ∷ []) row)
item_fits w b v n (Val x) row h = h
item_fits w b v n (Wrong p) row h = h
item_fits w b v n (Big p) row h = h

item_big : (w b : Bool) (v : Value) (p : Place) (o : Outcome) (row : List Value → Outcome) →
    Shown w b v (strict (o ∷ []) (λ vs. with_value (Big p) (λ i. row (vs ++ i ∷ [])))) →
    Shown w b v (strict (o ∷ Big p ∷ []) row)
item_big w b v p (Val x) row h = h
item_big w b v p (Wrong q) row h = h
item_big w b v p (Big q) row h = record { wrong = h.wrong; big = h.big; value = λ x e. absurd (cc) }

item_number : (w b : Bool) (v n : Value) (p : Place) (fits : Bool) (o : Outcome) (row : List Value → Outcome) →
    Shown w b v (strict (o ∷ []) (λ vs. with_value (if fits then Val n else Big p) (λ i. row (vs ++ i ∷ [])))) →
    Shown w b v (strict (o ∷ (if fits then Val n else Big p) ∷ []) row)
item_number w b v n p true o row h = item_fits w b v n o row h
item_number w b v n p false o row h = item_big w b v p o row h

module _ (w : Width) (s t : State) (c : Arena) (a : List Bool) (r : Cells) where
  abbrev vals : List Ker → Scope → List Outcome
  vals ks sc = map (λ k. ker_val w k sc s t) ks

  abbrev Own : Place → KerOp → List Ker → Scope → Type 0
  Own p o ks sc = Shows c a r (strict (vals (operands_at o ks) sc) (own_outcome w p o))

  abbrev Gives : Place → Ty → KerOp → List Ker → List ℕ → Scope → Type 0
  Gives p ty o ks xs sc = Shows c a r (ker_val w (tree p ty o ks xs) sc s t)

  item_shown : (p : Place) (ty : Ty) (i : ℕ) (x : Ker) (xs : List ℕ) (sc : Scope) → Own p (ker.Item i) (x ∷ []) sc →
      Gives p ty (ker.Item i) (x ∷ []) xs sc
  item_shown p ty i x xs sc h =
      subst (Shows c a r) (sym (val_item w s t p ty i x xs sc))
      (record {
        shown = item_number _ _ _ (value.Int (pos i)) p (in_width w (pos i)) (ker_val w x sc s t)
            (table w p op.Apply) h.shown;
      })

  node_shown : (p : Place) (ty : Ty) (o : KerOp) (ks : List Ker) (xs : List ℕ) (sc : Scope) → is_operated o ≡ true →
      HasEnds o ks → Own p o ks sc → Gives p ty o ks xs sc
  node_shown p ty (ker.Const v) ks xs sc e n h = absurd (false≢true e)
  node_shown p ty (ker.Name i primed) ks xs sc e n h = absurd (false≢true e)
  node_shown p ty (ker.Bound m) ks xs sc e n h = absurd (false≢true e)
  node_shown p ty ker.And ks xs sc e n h = absurd (false≢true e)
  node_shown p ty ker.Or ks xs sc e n h = absurd (false≢true e)
  node_shown p ty ker.If ks xs sc e n h = absurd (false≢true e)
  node_shown p ty ker.Member ks xs sc e n h = absurd (false≢true e)
  node_shown p ty ker.Included ks xs sc e n h = absurd (false≢true e)
  node_shown p ty ker.Filter ks xs sc e n h = absurd (false≢true e)
  node_shown p ty ker.MapOver ks xs sc e n h = absurd (false≢true e)
  node_shown p ty ker.FunOf ks xs sc e n h = absurd (false≢true e)
  node_shown p ty ker.Update ks xs sc e n h = absurd (false≢true e)
  node_shown p ty ker.FoldLeft ks xs sc e n h = absurd (false≢true e)
  node_shown p ty ker.Some ks xs sc e n h = absurd (false≢true e)
  node_shown p ty ker.Every ks xs sc e n h = absurd (false≢true e)
  node_shown p ty ker.NoCase ks xs sc e n h = absurd (false≢true e)
  node_shown p ty ker.Range [] xs sc e n h = absurd n
  node_shown p ty ker.Range (x ∷ []) xs sc e n h = absurd n
  node_shown p ty ker.Range (x ∷ y ∷ ks) xs sc e n h = subst (Shows c a r) (sym (val_range w s t p ty x y ks xs sc)) h
  node_shown p ty (ker.Item i) [] xs sc e n h = absurd n
  node_shown p ty (ker.Item i) (x ∷ y ∷ ks) xs sc e n h = absurd n
  node_shown p ty (ker.Item i) (x ∷ []) xs sc e n h = item_shown p ty i x xs sc h
  node_shown p ty o ks xs sc e n h = subst (Shows c a r) (sym (val_strict w s t p ty o ks xs sc refl)) h

-- ---- the operator behind its operands

pub operates : (old mid new : Build) (k : Ker) (xs : List Cells) (own r : Cells) → CanOperate old k xs → Grows old mid →
    MakesOwn old mid k xs own → FormulaGrows mid.formula new.formula → new.arena ≡ mid.arena →
    IsStrict new.formula xs own r → Operates old new k xs r
operates old mid new k xs own r can g makes f e st = record {
  shows = λ a s sc now next within all.
      let w : Width = Some old.arena.width in
      let x = out-Ker k in
      let o = opened old k xs can in
      let ss : List _ = map sort_of o.open_.kinds in
      let row : List Value → Outcome = own_outcome w x.place x.op in
      let os : List Outcome = gives w k sc now next in
      let first = st.shows a s mid.arena os row (AllShow-later old mid a ss xs os g o.open_.cells all)
      (λ q. subst (λ vs. Shows mid.arena a own (row vs)) (sym (cell_values-later old mid a ss xs g o.open_.cells))
      (makes.shows a (Satisfies-older mid.formula new.formula a f s) sc now next within all q)) in
      subst (λ c. Shows c a r (ker_val w k sc now next)) (sym e)
      (subst (λ j. Shows mid.arena a r (ker_val w j sc now next)) (roll-out-Ker k)
      (node_shown w now next mid.arena a r x.place x.ty x.op x.args x.binds sc can.operated o.open_.ends first));
}

pub operated_sort : (mid new : Build) (k : Ker) (own r : Cells) → HasTreeSort mid k own → Grows mid new →
    r.cell ≡ own.cell →
    FaultsBelow new.formula.vars (faults_of r) → HasTreeSort new k r
operated_sort mid new k own r h g e below = λ a q. AreCells-behind mid new (sort_of a) own r g (h a q) e below

pub operands_below : (old mid : Build) (k : Ker) (xs : List Cells) → CanOperate old k xs → Grows old mid →
    All (λ x. FaultsBelow mid.formula.vars (faults_of x)) xs
operands_below old mid k xs can g =
    let o = opened old k xs can in
    AllCells-below mid (map sort_of o.open_.kinds) xs
    (AllCells-later old mid (map sort_of o.open_.kinds) xs g o.open_.cells)

pub own_below : (old mid : Build) (k : Ker) (xs : List Cells) (own : Cells) → CanOperate old k xs →
    HasTreeSort mid k own →
    FaultsBelow mid.formula.vars (faults_of own)
own_below old mid k xs own can h =
    let o = opened old k xs can in AreCells-below mid (sort_of o.kind) own (h o.kind o.is)

-- ---- own cells by a row of the table

some_one : {X : Type 0} (x y : X) → Some x ≡ Some y → x ≡ y
some_one x y e = cc

-- what an operator needs of its operands, by its row
pub needs : {P : Type 0} (b : Build) (k : Ker) (xs ys : List Cells) (o : KerOp) → CanOperate b k xs →
    (out-Ker k).op ≡ o → xs ≡ ys →
    ((a : Kind) (ks : List Kind) → Row o a ks → AllCells b (map sort_of ks) ys → P) → P
needs {P = P} b k xs ys o can e q f =
    let z = opened b k xs can in
    f z.kind z.open_.kinds (subst (λ x. Row x z.kind z.open_.kinds) e z.open_.row)
    (subst (λ zs. AllCells b (map sort_of z.open_.kinds) zs) q z.open_.cells)

-- and of the names in their types
pub needs_named : {P : Type 0} (b : Build) (k : Ker) (xs ys : List Cells) (o : KerOp) → CanOperate b k xs →
    (out-Ker k).op ≡ o → xs ≡ ys →
    ((a : Kind) (ks : List Kind) → Row o a ks → AllCells b (map sort_of ks) ys →
    All (IsTextAmong b.arena.texts) (flat_map names_within ks) → P) → P
needs_named {P = P} b k xs ys o can e q f =
    let z = opened b k xs can in
    f z.kind z.open_.kinds (subst (λ x. Row x z.kind z.open_.kinds) e z.open_.row)
    (subst (λ zs. AllCells b (map sort_of z.open_.kinds) zs) q z.open_.cells) z.open_.names

-- and the sort of what it makes
pub made_sort : (old new : Build) (k : Ker) (xs ys : List Cells) (r : Cells) (o : KerOp) → CanOperate old k xs →
    (out-Ker k).op ≡ o → xs ≡ ys →
    ((a : Kind) (ks : List Kind) → kind_at k ≡ Some a → Row o a ks → AllCells old (map sort_of ks) ys →
    AreCells new (sort_of a) r) →
    HasTreeSort new k r
made_sort old new k xs ys r o can e q f = λ a is.
    let z = opened old k xs can in
    subst (λ x. AreCells new (sort_of x) r) (some_one z.kind a (sym z.is ∙ is))
    (f z.kind z.open_.kinds z.is (subst (λ x. Row x z.kind z.open_.kinds) e z.open_.row)
    (subst (λ zs. AllCells old (map sort_of z.open_.kinds) zs) q z.open_.cells))

-- the operators but `Item`
abbrev pub is_by_row : KerOp → Bool
is_by_row (ker.Item i) = false
is_by_row o = true

by_row : (w : Width) (p : Place) (o : KerOp) (vs : List Value) → is_by_row o ≡ true →
    table w p (op_of o) vs ≡ own_outcome w p o vs
by_row w p (ker.Item i) vs e = absurd (false≢true e)
by_row w p o vs e = refl

ids_values : (c : Arena) (a : List Bool) (xs : List Cells) →
    map (decode c a) (map (λ x. x.cell) xs) ≡ cell_values c a xs
ids_values c a [] = refl
ids_values c a (x ∷ xs) = ap (λ (vs : List Value). decode c a x.cell ∷ vs) (ids_values c a xs)

pub makes : (old new : Build) (k : Ker) (xs ys : List Cells) (ids : List CellId) (r : Cells) (o : KerOp) →
    CanOperate old k xs →
    (out-Ker k).op ≡ o → xs ≡ ys → ids ≡ map (λ x. x.cell) ys → is_by_row o ≡ true → Grows old new →
    IsRow new (op_of o) (λ a. map (decode old.arena a) ids) r →
    ((a : Kind) (ks : List Kind) → kind_at k ≡ Some a → Row o a ks → AllCells old (map sort_of ks) ys →
    AreCells new (sort_of a) r) →
    MakesOwn old new k xs r
makes old new k xs ys ids r o can e q is by g row f = record {
  sort = made_sort old new k xs ys r o can e q f;
  shows = λ a s sc now next within all free.
      let p = (out-Ker k).place in
      let w : Width = Some old.arena.width in
      subst (λ x. Shows new.arena a r (own_outcome w p x (cell_values old.arena a xs))) (sym e)
      (subst (λ zs. Shows new.arena a r (own_outcome w p o (cell_values old.arena a zs))) (sym q)
      (subst (Shows new.arena a r) (by_row w p o (cell_values old.arena a ys) by)
      (subst (λ vs. Shows new.arena a r (table w p (op_of o) vs))
      (ap (map (decode old.arena a)) is ∙ ids_values old.arena a ys)
      (subst (λ n. Shows new.arena a r (table (Some n) p (op_of o) (map (decode old.arena a) ids)))
      (width-later old new g) (row.shows a s p)))));
}

pub by_numbers : (o : KerOp) → is_arithmetic o ≡ true → is_by_row o ≡ true
by_numbers (ker.Item i) e = absurd (false≢true e)
by_numbers o e = refl

pub by_sets : (o : KerOp) → is_of_sets o ≡ true → is_by_row o ≡ true
by_sets (ker.Item i) e = absurd (false≢true e)
by_sets o e = refl

-- an item, whose number is an operand too
pub makes_item : (b : Build) (k : Ker) (xs : List Cells) (x r : Cells) (i : ℕ) → CanOperate b k xs →
    (out-Ker k).op ≡ ker.Item i → xs ≡ x ∷ [] →
    HasItemRow b x.cell i r →
    ((a : Kind) (ks : List Kind) → kind_at k ≡ Some a → Row (ker.Item i) a ks → AllCells b (map sort_of ks) (x ∷ []) →
    AreCells b (sort_of a) r) →
    MakesOwn b b k xs r
makes_item b k xs x r i can e q row f = record {
  sort = made_sort b b k xs (x ∷ []) r (ker.Item i) can e q f;
  shows = λ a s sc now next within all free.
      let p = (out-Ker k).place in
      let w : Width = Some b.arena.width in
      subst (λ o. Shows b.arena a r (own_outcome w p o (cell_values b.arena a xs))) (sym e)
      (subst (λ zs. Shows b.arena a r (own_outcome w p (ker.Item i) (cell_values b.arena a zs))) (sym q)
      (row.shows a s p));
}
