-- Trees that are made of the operands are those of the rows, with the types of the made nodes.
use Rattle.std.proofs.Common.{◌≡◌, ℕ, zero, suc, ◌-◌, ◌≤◌, Bool, true, false, not, List, [], ◌∷◌, length, refl, sym, ◌∙◌, ap, ap₂, subst, Option, None, if◌then◌else◌, ℤ, pos, arith}
use Rattle.std.specs.Prelude.{nat_eq, nat_le}
use Rattle.tla_values.specs.declared.value.Value.TheVariants as value
use Rattle.tla_meaning.specs.declared.actions.Assignable.{Assignable}
use Rattle.tla_meaning.specs.declared.place.Place.{Place}
use Rattle.tla_meaning.specs.declared.expr.Expr.{Expr}
use Rattle.tla_meaning.specs.declared.op.Op.{Op}
use Rattle.tla_meaning.specs.declared.op.Op.TheVariants as op
use Rattle.tla_meaning.proofs.Views.{false≢true}
use Rattle.snowcat_rows.specs.declared.types.Ty.{Ty, out-Ty}
use Rattle.snowcat_rows.specs.declared.types.Ty.TheVariants as ty
use Rattle.kernel_trees.specs.declared.kernel.Ker.{Ker, out-roll-Ker}
use Rattle.kernel_trees.specs.declared.kernel.Ker.TheOpen.{Ker-F}
use Rattle.kernel_trees.specs.declared.kernel.KerOp.{KerOp}
use Rattle.kernel_trees.specs.declared.kernel.KerOp.TheVariants as ker
use Rattle.kera_reducer.specs.declared.making.Made.{Made}
use Rattle.kera_reducer.specs.declared.naming.NamedPair.{NamedPair}
use Rattle.kernel_reduction.specs.Reduction.{Numbering}
use Rattle.kernel_reduction.specs.Builds.{has_arm}
use Rattle.kernel_reduction.specs.BuildsTyped as typed
use Rattle.kernel_reduction.specs.BuildsTyped.{BuildsTyped, EachTyped, TypedNode, none_left, one_more, is_record, is_tuple}
use Rattle.kernel_reduction.specs.Making.{let_of}
use Rattle.kernel_reduction.specs.Rows.{tree, node, negation, bound, implication, equivalence, item, item_by_let, pair, place_of, single, let_in, number, op_at, power_body, product, truth, nested_ifs, type_of}
use Rattle.kernel_reduction.specs.inner.Settings.{counted}
use Rattle.kera_reducer.specs.inner.Standing.{IsField, IsItem, IsNamedPair, IsSame, MakesOf, function_of, is_negated, large_power_of, let_at, pairs_of, read_of, same_truth_of, small_power_of}
use Rattle.kernel_reduction.proofs.Counting.{after_next_apart, new_number, next_apart, three_new, two_new}

-- no tree is built of no expression
none_each : {i : Option Assignable} {ρ : Numbering} {es : List Expr} {ts us : List Ty} → EachTyped i ρ es ts [] us →
    (es ≡ []) × (ts ≡ us)
none_each (none_left i ρ ts) = (refl, refl)

not_equal : (b : Bool) → b ≡ false → not b ≡ true
not_equal b h = ap not h

pub more_than_once : (p : Place) (a b : Ty) (y : Ker) (n : ℕ) → 2 ≤ n → product p a y (n - 1) ≡ power_body p a b y n
more_than_once p a b y zero h = absurd (omega (arith, h))
more_than_once p a b y (suc zero) h = absurd (omega (arith, h))
more_than_once p a b y (suc (suc n)) h =
    let e : suc (suc n) - 1 ≡ suc n = omega arith in ap (product p a y) e

module _ (m : Made) where
  abbrev Row : List (List ℕ) → Op → List Expr → List (List ℕ) → List Ty → Ker → List Ty → Type 0
  Row names o es xs ts k us = TypedNode None (counted names) m.place m.ty.now o es xs ts k us

  -- what is made, where it is made of these operands
  of_row : (o : Op) (ks js : List Ker) (k r : Ker) → ks ≡ js → k ≡ r → MakesOf m o js r → MakesOf m o ks k
  of_row o ks js k r p q h = subst (λ z. MakesOf m o z k) (sym p) (subst (λ z. MakesOf m o js z) (sym q) h)

  pub same_makes : (o : Op) (ks : List Ker) (ko : KerOp) (k : Ker) → IsSame m o ks ko →
      k ≡ node m.place m.ty.now ko ks → MakesOf m o ks k
  same_makes o ks ko k i e = of_row o ks ks k (node m.place m.ty.now ko ks) refl e
      (λ names es xs ts us l d.
      typed.same (counted names) m.place m.ty.now o ko es xs ks ts us i.stands i.same i.chosen d)

  -- ---- literals and names

  pub boolean_makes : (b : Bool) (ks : List Ker) (k : Ker) → ks ≡ [] →
      k ≡ node m.place m.ty.now (ker.Const (value.Bool b)) [] → MakesOf m (op.Bool b) ks k
  boolean_makes b ks k p e = of_row (op.Bool b) ks [] k _ p e
      (λ names es xs ts us l d. let n = none_each d in
      subst (λ z. Row names (op.Bool b) z xs ts (node m.place m.ty.now (ker.Const (value.Bool b)) []) us) (sym n.0)
      (subst (λ z. Row names (op.Bool b) [] xs ts (node m.place m.ty.now (ker.Const (value.Bool b)) []) z) n.1
      (typed.boolean (counted names) m.place m.ty.now b xs ts)))

  pub integer_makes : (i : ℤ) (ks : List Ker) (k : Ker) → ks ≡ [] →
      k ≡ node m.place m.ty.now (ker.Const (value.Int i)) [] → MakesOf m (op.Int i) ks k
  integer_makes i ks k p e = of_row (op.Int i) ks [] k _ p e
      (λ names es xs ts us l d. let n = none_each d in
      subst (λ z. Row names (op.Int i) z xs ts (node m.place m.ty.now (ker.Const (value.Int i)) []) us) (sym n.0)
      (subst (λ z. Row names (op.Int i) [] xs ts (node m.place m.ty.now (ker.Const (value.Int i)) []) z) n.1
      (typed.integer (counted names) m.place m.ty.now i xs ts)))

  pub text_makes : (s : List ℕ) (ks : List Ker) (k : Ker) → ks ≡ [] →
      k ≡ node m.place m.ty.now (ker.Const (value.Text s)) [] → MakesOf m (op.Str s) ks k
  text_makes s ks k p e = of_row (op.Str s) ks [] k _ p e
      (λ names es xs ts us l d. let n = none_each d in
      subst (λ z. Row names (op.Str s) z xs ts (node m.place m.ty.now (ker.Const (value.Text s)) []) us) (sym n.0)
      (subst (λ z. Row names (op.Str s) [] xs ts (node m.place m.ty.now (ker.Const (value.Text s)) []) z) n.1
      (typed.text (counted names) m.place m.ty.now s xs ts)))

  pub name_makes : (i : ℕ) (primed : Bool) (ks : List Ker) (k : Ker) → ks ≡ [] →
      k ≡ node m.place m.ty.now (ker.Name i primed) [] → MakesOf m (op.Name i primed) ks k
  name_makes i primed ks k p e = of_row (op.Name i primed) ks [] k _ p e
      (λ names es xs ts us l d. let n = none_each d in
      subst (λ z. Row names (op.Name i primed) z xs ts (node m.place m.ty.now (ker.Name i primed) []) us) (sym n.0)
      (subst (λ z. Row names (op.Name i primed) [] xs ts (node m.place m.ty.now (ker.Name i primed) []) z) n.1
      (typed.declared (counted names) m.place m.ty.now i primed xs ts)))

  -- ---- operators by others

  pub assign_makes : (ks : List Ker) (k : Ker) → k ≡ node m.place ty.Bool ker.Equal ks → MakesOf m op.Assign ks k
  assign_makes ks k e = of_row op.Assign ks ks k _ refl e
      (λ names es xs ts us l d. typed.assign (counted names) m.place m.ty.now es xs ks ts us d)

  pub implies_makes : (a b : Ker) (ks : List Ker) (k : Ker) → ks ≡ a ∷ b ∷ [] → k ≡ implication m.place ty.Bool a b →
      MakesOf m op.Implies ks k
  implies_makes a b ks k p e = of_row op.Implies ks (a ∷ b ∷ []) k _ p e
      (λ names es xs ts us l d. typed.implies (counted names) m.place m.ty.now es xs a b ts us d)

  pub negated_makes : (o : Op) (ko : KerOp) (ks : List Ker) (k : Ker) → is_negated o ko ≡ true →
      k ≡ negation m.place ty.Bool (node m.place ty.Bool ko ks) → MakesOf m o ks k
  negated_makes op.Ne ker.Equal ks k h e = of_row op.Ne ks ks k _ refl e
      (λ names es xs ts us l d. typed.unequal (counted names) m.place m.ty.now es xs ks ts us d)
  negated_makes op.NotIn ker.Member ks k h e = of_row op.NotIn ks ks k _ refl e
      (λ names es xs ts us l d. typed.no_member (counted names) m.place m.ty.now es xs ks ts us d)
  negated_makes op.Ge ker.Less ks k h e = of_row op.Ge ks ks k _ refl e
      (λ names es xs ts us l d. typed.at_least (counted names) m.place m.ty.now es xs ks ts us d)
  negated_makes o ko ks k h e = absurd (false≢true h)

  pub greater_makes : (a b : Ker) (ks : List Ker) (k : Ker) → ks ≡ a ∷ b ∷ [] →
      k ≡ node m.place ty.Bool ker.Less (b ∷ a ∷ []) → MakesOf m op.Gt ks k
  greater_makes a b ks k p e = of_row op.Gt ks (a ∷ b ∷ []) k _ p e
      (λ names es xs ts us l d. typed.greater (counted names) m.place m.ty.now es xs a b ts us d)

  pub at_most_makes : (a b : Ker) (ks : List Ker) (k : Ker) → ks ≡ a ∷ b ∷ [] →
      k ≡ negation m.place ty.Bool (node m.place ty.Bool ker.Less (b ∷ a ∷ [])) → MakesOf m op.Le ks k
  at_most_makes a b ks k p e = of_row op.Le ks (a ∷ b ∷ []) k _ p e
      (λ names es xs ts us l d. typed.at_most (counted names) m.place m.ty.now es xs a b ts us d)

  pub negative_makes : (a : Ker) (ks : List Ker) (k : Ker) → ks ≡ a ∷ [] →
      k ≡ node m.place ty.Int ker.Minus (number m.place ty.Int 0 ∷ a ∷ []) → MakesOf m op.Neg ks k
  negative_makes a ks k p e = of_row op.Neg ks (a ∷ []) k _ p e
      (λ names es xs ts us l d. typed.negative (counted names) m.place m.ty.now es xs a ts us d)

  pub finite_makes : (a : Ker) (ks : List Ker) (k : Ker) → ks ≡ a ∷ [] →
      k ≡ tree m.place ty.Bool ker.Every (a ∷ truth m.place ty.Bool true ∷ []) (m.depth ∷ []) → MakesOf m op.IsFinite ks k
  finite_makes a ks k p e = of_row op.IsFinite ks (a ∷ []) k _ p e
      (λ names es xs ts us l d.
      let le : length names ≤ m.depth = omega (arith, l) in
      typed.finite (counted names) m.place m.ty.now es xs a m.depth ts us (new_number names m.depth le) d)

  pub truth_values_make : (ks : List Ker) (k : Ker) → ks ≡ [] →
      k ≡ node m.place m.ty.now ker.SetOf (truth m.place ty.Bool false ∷ truth m.place ty.Bool true ∷ []) →
      MakesOf m op.BooleanSet ks k
  truth_values_make ks k p e = of_row op.BooleanSet ks [] k _ p e
      (λ names es xs ts us l d. let n = none_each d in
      subst (λ z. Row names op.BooleanSet z xs ts (node m.place m.ty.now ker.SetOf (truth m.place ty.Bool false ∷ truth m.place ty.Bool true ∷ [])) us) (sym n.0)
      (subst (λ z. Row names op.BooleanSet [] xs ts (node m.place m.ty.now ker.SetOf (truth m.place ty.Bool false ∷ truth m.place ty.Bool true ∷ [])) z) n.1
      (typed.truth_values (counted names) m.place m.ty.now xs ts)))

  pub range_makes : (a b : Ker) (ks : List Ker) (k : Ker) → ks ≡ a ∷ b ∷ [] →
      k ≡ node m.place m.ty.now ker.Range (a ∷ b ∷ []) → MakesOf m op.Range ks k
  range_makes a b ks k p e = of_row op.Range ks (a ∷ b ∷ []) k _ p e
      (λ names es xs ts us l d. typed.range (counted names) m.place m.ty.now es xs a b ts us d)

  pub noted_makes : (x : List ℕ) (ks : List Ker) (k : Ker) → ks ≡ k ∷ [] → MakesOf m (op.Noted x) ks k
  noted_makes x ks k p = of_row (op.Noted x) ks (k ∷ []) k k p refl
      (λ names es xs ts us l d. typed.noted None (counted names) m.place m.ty.now x es xs k ts us d)

  pub cases_make : (other : Bool) (ks : List Ker) (k : Ker) → has_arm ks ≡ true → k ≡ nested_ifs m.place m.ty.now ks →
      MakesOf m (op.Case other) ks k
  cases_make other ks k h e = of_row (op.Case other) ks ks k _ refl e
      (λ names es xs ts us l d. typed.cases (counted names) m.place m.ty.now other es xs ks ts us h d)

  -- ---- named operands

  pub equivalence_makes : (a b : Ker) (n : NamedPair) (ks : List Ker) (k : Ker) → ks ≡ a ∷ b ∷ [] →
      IsNamedPair m a b n →
      k ≡ let_in m.place (let_of ty.Bool n.pairs m.depth (suc m.depth)) n.operands (same_truth_of m n.first n.second) →
      MakesOf m op.Iff ks k
  equivalence_makes a b n ks k p i e =
      let whole = λ (t : Ty) (o f s : Ker). let_in m.place (let_of ty.Bool t m.depth (suc m.depth)) o (same_truth_of m f s) in
      of_row op.Iff ks (a ∷ b ∷ []) k
      (equivalence m.place (let_of ty.Bool (pairs_of a b) m.depth (suc m.depth)) (pairs_of a b) a b) p
      (e
      ∙ ap₂ (λ t o. whole t o n.first n.second) i.pairs i.operands
      ∙ ap₂ (λ f s. whole (pairs_of a b) (pair m.place (pairs_of a b) a b) f s) i.first i.second)
      (λ names es xs ts us l d.
      typed.equivalent (counted names) m.place m.ty.now es xs m.depth (suc m.depth) a b ts us
      (not_equal (nat_eq m.depth (suc m.depth)) (next_apart m.depth)) (two_new names m.depth l) d)

  -- the type of what is read is that of the operand
  read_type : (t : Ty) (a : Ker) → type_of (read_of m 1 t a) ≡ type_of a
  read_type t a =
      ap (λ (x : Ker-F Ker). x.ty)
      (out-roll-Ker (record {
        place = place_of a;
        ty = type_of a;
        op = ker.Item 1;
        args = bound (place_of a) t (suc m.depth) ∷ [];
        binds = [];
      }))

  pub single_makes : (a b : Ker) (n : NamedPair) (ks : List Ker) (k : Ker) → ks ≡ a ∷ b ∷ [] →
      IsNamedPair m a b n →
      k ≡ let_in m.place (let_of m.ty.now n.pairs m.depth (suc m.depth)) n.operands (function_of m n.first n.second) →
      MakesOf m op.Single ks k
  single_makes a b n ks k p i e =
      let whole = λ (t : Ty) (o f s : Ker). let_in m.place (let_of m.ty.now t m.depth (suc m.depth)) o (function_of m f s) in
      let first = read_of m 1 (pairs_of a b) a in
      let second = read_of m 2 (pairs_of a b) b in
      of_row op.Single ks (a ∷ b ∷ []) k
      (single m.place (let_of m.ty.now (pairs_of a b) m.depth (suc m.depth)) (pairs_of a b) (ty.Set (type_of a))
      (suc (suc m.depth)) a b) p
      (e
      ∙ ap₂ (λ t o. whole t o n.first n.second) i.pairs i.operands
      ∙ ap₂ (λ f s. whole (pairs_of a b) (pair m.place (pairs_of a b) a b) f s) i.first i.second
      ∙ ap (λ z. let_in m.place (let_of m.ty.now (pairs_of a b) m.depth (suc m.depth)) (pair m.place (pairs_of a b) a b)
      (tree m.place m.ty.now ker.FunOf (node m.place (ty.Set z) ker.SetOf (first ∷ []) ∷ second ∷ [])
      (suc (suc m.depth) ∷ []))) (read_type (pairs_of a b) a))
      (λ names es xs ts us l d.
      typed.one_pair (counted names) m.place m.ty.now es xs m.depth (suc m.depth) (suc (suc m.depth)) a b ts us
      (not_equal (nat_eq m.depth (suc m.depth)) (next_apart m.depth)) (three_new names m.depth l)
      (after_next_apart m.depth, next_apart (suc m.depth)) d)

  pub small_power_makes : (a b : Ker) (j : ℕ) (ks : List Ker) (k : Ker) → ks ≡ a ∷ b ∷ [] →
      (op_at b ≡ ker.Const (value.Int (pos j))) → nat_le j 7 ≡ true → k ≡ small_power_of m a j → MakesOf m op.Pow ks k
  small_power_makes a b j ks k p q le e = of_row op.Pow ks (a ∷ b ∷ []) k _ p e
      (λ names es xs ts us l d.
      typed.power (counted names) m.place m.ty.now es xs m.depth (suc m.depth) a b j ts us
      (not_equal (nat_eq m.depth (suc m.depth)) (next_apart m.depth)) (two_new names m.depth l) q le d)

  pub large_power_makes : (a b : Ker) (j : ℕ) (ks : List Ker) (k : Ker) → ks ≡ a ∷ b ∷ [] →
      (op_at b ≡ ker.Const (value.Int (pos j))) → nat_le j 7 ≡ false → k ≡ large_power_of m a b j → MakesOf m op.Pow ks k
  large_power_makes a b j ks k p q le e = of_row op.Pow ks (a ∷ b ∷ []) k _ p e
      (λ names es xs ts us l d.
      typed.high_power (counted names) m.place m.ty.now es xs m.depth (suc m.depth) a b j ts us
      (not_equal (nat_eq m.depth (suc m.depth)) (next_apart m.depth)) (two_new names m.depth l) q le d)

  pub field_makes : (a b : Ker) (ks : List Ker) (k : Ker) → ks ≡ a ∷ b ∷ [] → is_record (out-Ty (type_of a)) ≡ true →
      IsField m a b k → MakesOf m op.Apply ks k
  field_makes a b ks k p r f = of_row op.Apply ks (a ∷ b ∷ []) k _ p f.2
      (λ names es xs ts us l d. typed.field (counted names) m.place m.ty.now es xs a b f.0 ts us r f.1 d)

  pub item_makes : (a b : Ker) (ks : List Ker) (k : Ker) → ks ≡ a ∷ b ∷ [] → is_tuple (out-Ty (type_of a)) ≡ true →
      IsItem m a b k → MakesOf m op.Apply ks k
  item_makes a b ks k p r i = by (nat_le i.0 7) refl
    where
      by : (c : Bool) → nat_le i.0 7 ≡ c → MakesOf m op.Apply ks k
      by true h = of_row op.Apply ks (a ∷ b ∷ []) k (item m.place m.ty.now i.0 a) p
          (i.2 ∙ ap (λ z. if z then item m.place m.ty.now i.0 a else item_by_let m.place (let_at m (pairs_of a b)) (pairs_of a b) i.0 a b) h)
          (λ names es xs ts us l d. typed.low_item (counted names) m.place m.ty.now es xs a b i.0 ts us r i.1 h d)
      by false h = of_row op.Apply ks (a ∷ b ∷ []) k (item_by_let m.place (let_at m (pairs_of a b)) (pairs_of a b) i.0 a b) p
          (i.2 ∙ ap (λ z. if z then item m.place m.ty.now i.0 a else item_by_let m.place (let_at m (pairs_of a b)) (pairs_of a b) i.0 a b) h)
          (λ names es xs ts us l d.
          typed.high_item (counted names) m.place m.ty.now es xs m.depth (suc m.depth) a b i.0 ts us
          (not_equal (nat_eq m.depth (suc m.depth)) (next_apart m.depth)) (two_new names m.depth l) r i.1 h d)
