-- What is read of a function, sequence, tuple or record fits.
use Rattle.std.proofs.Common.{◌≡◌, ℕ, zero, suc, ◌+◌, Bool, true, false, ◌||◌, IsTrue, List, [], ◌∷◌, Option, Some, None, option_map, ℤ, pos, arith, refl, sym, ◌∙◌, ap, subst, if◌then◌else◌}
use Rattle.std.proofs.lemmas.Int.{ints}
use Rattle.std.specs.Ordering.{is_eq, int_cmp}
use Rattle.std.specs.List.{list_any}
use Rattle.tla_values.specs.Order.{Layer, same_value}
use Rattle.tla_values.specs.Sets.{apply}
use Rattle.tla_values.specs.declared.value.Value.{Value, out-Value}
use Rattle.tla_values.specs.declared.value.Value.TheVariants as value
use Rattle.tla_values.specs.declared.value.Value.TheOpen as layer
use Rattle.tla_values.proofs.OrderLemmas.{by_kinds}
use Rattle.tla_meaning.specs.declared.place.Place.{Place}
use Rattle.tla_meaning.specs.Shapes.{items_from, is_int}
use Rattle.tla_meaning.specs.Scopes.{same_text}
use Rattle.tla_meaning.specs.Operators.{applied}
use Rattle.tla_meaning.proofs.NormalShapes.{IfSomes}
use Rattle.tla_meaning.proofs.Views.{false≢true}
use Rattle.kernel_shapes.specs.Shape.{Shape, Atom, Num, Set, Fun, Rec, Tup, Seq, Empty, Shapes, no_shapes, more_shapes, item, field}
use Rattle.kernel_shapes.specs.Rows.{Literal, no_literal, number, text, applied_at}
use Rattle.kernel_shapes.specs.Sized.{readable}
use Rattle.kernel_shapes.specs.Fits.{OfSome, FitsLayer, Fits, FieldsFit, ItemsFit}
use Rattle.kernel_shapes.proofs.FitLemmas.{IfVal}
use Rattle.kernel_shapes.proofs.JoinRight.{text_is}
use Rattle.kernel_shapes.proofs.Operators.{apply_all, results_fit, or_wrong_fits}

-- the value that a literal stands for
abbrev pub IsLiteral : Literal → Value → Type 0
IsLiteral no_literal v = Unit {0}
IsLiteral (number n) v = v ≡ value.Int n
IsLiteral (text x) v = v ≡ value.Text x

-- an argument that is the number n
same_number : (m : ℤ) (v : Value) (x : ℤ) → out-Value v ≡ layer.Int x → same_value (value.Int m) v ≡ is_eq (int_cmp m x)
same_number m v x e = ap is_eq (by_kinds (value.Int m) v (layer.Int m) (layer.Int x) (value.outs-Int m) e)

pub number_at : (n m : ℕ) (v : Value) → IsTrue (is_int n (out-Value v)) → same_value (value.Int (pos m)) v ≡ is_eq (int_cmp (pos m) (pos n))
number_at n m v e = by (out-Value v) refl e
  where
    by : (x : Layer Value) → out-Value v ≡ x → IsTrue (is_int n x) → same_value (value.Int (pos m)) v ≡ is_eq (int_cmp (pos m) (pos n))
    by (layer.Int x) o t = let s : x ≡ pos n = grind (arith, ints) in same_number (pos m) v (pos n) (o ∙ ap layer.Int s)
    by (layer.Bool b) o t = absurd (false≢true t)
    by (layer.Text b) o t = absurd (false≢true t)
    by (layer.Set b) o t = absurd (false≢true t)
    by (layer.Fun b) o t = absurd (false≢true t)

pub number_there : (n : ℕ) (v : Value) (k : ℕ) → IsTrue (is_int n (out-Value v)) → same_value (value.Int (pos (n + k))) v ≡ is_eq (int_cmp (pos (n + k)) (pos n))
number_there n v k e = number_at n (n + k) v e

same_first : (n : ℕ) → is_eq (int_cmp (pos (n + 0)) (pos n)) ≡ true
same_first n = grind (arith, ints)

same_later : (n k : ℕ) → is_eq (int_cmp (pos (n + suc k)) (pos n)) ≡ false
same_later n k = grind (arith, ints)

tuple_applied : (as' : Shapes) (n k : ℕ) (ps : List (Value × Value)) → OfSome (ItemsFit as') (items_from n ps) →
    IfSomes (Fits (item (suc k) as')) (apply ps (value.Int (pos (n + k))))
tuple_applied as' n k [] h = tt
tuple_applied as' n k (p ∷ ps) h = by (λ bs j. tuple_applied bs (n + 1) j ps) (is_int n (out-Value p.0)) refl h
  where
    read : (as' : Shapes) (o : Option (List Value)) → ((bs : Shapes) (j : ℕ) → OfSome (ItemsFit bs) o → IfSomes (Fits (item (suc j) bs)) (apply ps (value.Int (pos (n + 1 + j))))) →
        (k : ℕ) → same_value (value.Int (pos (n + k))) p.0 ≡ is_eq (int_cmp (pos (n + k)) (pos n)) → OfSome (ItemsFit as') (option_map (λ xs. p.1 ∷ xs) o) →
        IfSomes (Fits (item (suc k) as')) (apply (p ∷ ps) (value.Int (pos (n + k))))
    read (more_shapes a as') (Some xs) f zero e g =
        let s : same_value (value.Int (pos (n + 0))) p.0 ≡ true = e ∙ same_first n in
        subst (λ (b : Bool). IfSomes (Fits a) (if b then Some p.1 else apply ps (value.Int (pos (n + 0))))) (sym s) g.0
    read (more_shapes a as') (Some xs) f (suc k) e g =
        let s : same_value (value.Int (pos (n + suc k))) p.0 ≡ false = e ∙ same_later n k in
        let m : n + 1 + k ≡ n + suc k = omega arith in
        subst (λ (b : Bool). IfSomes (Fits (item (suc (suc k)) (more_shapes a as'))) (if b then Some p.1 else apply ps (value.Int (pos (n + suc k))))) (sym s)
        (subst (λ (j : ℕ). IfSomes (Fits (item (suc k) as')) (apply ps (value.Int (pos j)))) m (f as' k g.1))
    read no_shapes (Some xs) f k e g = absurd g
    read as' None f k e g = absurd g

    by : ((bs : Shapes) (j : ℕ) → OfSome (ItemsFit bs) (items_from (n + 1) ps) → IfSomes (Fits (item (suc j) bs)) (apply ps (value.Int (pos (n + 1 + j))))) →
        (b : Bool) → is_int n (out-Value p.0) ≡ b → OfSome (ItemsFit as') (if b then option_map (λ xs. p.1 ∷ xs) (items_from (n + 1) ps) else None) →
        IfSomes (Fits (item (suc k) as')) (apply (p ∷ ps) (value.Int (pos (n + k))))
    by f true e g = read as' (items_from (n + 1) ps) f k (number_there n p.0 k e) g
    by f false e g = absurd g

record_applied : (x : List ℕ) (xs : List (List ℕ)) (as' : Shapes) (ps : List (Value × Value)) → IsTrue (list_any (same_text x) xs) → FieldsFit xs as' ps →
    IfSomes (Fits (field x xs as')) (apply ps (value.Text x))
record_applied x [] as' ps e h = absurd (false≢true e)
record_applied x (y ∷ ys) no_shapes ps e h = absurd h
record_applied x (y ∷ ys) (more_shapes a as') ps e h = by (λ t. record_applied x ys as' ps t h.1) (same_text x y) refl e
  where
    there : (o : Option Value) → OfSome (Fits a) o → IfSomes (Fits a) o
    there (Some v) g = g
    there None g = tt

    by : (IsTrue (list_any (same_text x) ys) → IfSomes (Fits (field x ys as')) (apply ps (value.Text x))) → (b : Bool) → same_text x y ≡ b → IsTrue (b || list_any (same_text x) ys) → IfSomes (Fits (if b then a else field x ys as')) (apply ps (value.Text x))
    by f true s t = subst (λ (z : List ℕ). IfSomes (Fits a) (apply ps (value.Text z))) (sym (text_is x y s)) (there (apply ps (value.Text y)) h.0)
    by f false s t = f t

one_more : (n : ℕ) → 1 + n ≡ suc n
one_more n = omega arith

-- what is read at an index, by the literal that the index is
pub applied_some : (a : Shape) (l : Literal) (ps : List (Value × Value)) (i : Value) → IsTrue (readable a l) → IsLiteral l i → FitsLayer a (layer.Fun ps) →
    IfSomes (Fits (applied_at a l)) (apply ps i)
applied_some (Tup as') (number (pos zero)) ps i e s h = absurd (false≢true e)
applied_some (Tup as') (number (pos (suc n))) ps i e s h =
    subst (λ (j : Value). IfSomes (Fits (item (suc n) as')) (apply ps j)) (sym s)
    (subst (λ (m : ℕ). IfSomes (Fits (item (suc n) as')) (apply ps (value.Int (pos m)))) (one_more n) (tuple_applied as' 1 n ps h))
applied_some (Rec xs as') (text x) ps i e s h =
    subst (λ (j : Value). IfSomes (Fits (field x xs as')) (apply ps j)) (sym s) (record_applied x xs as' ps e h.2)
applied_some (Fun n a r) l ps i e s h = apply_all _ ps i (results_fit (Fun n a r) ps refl h)
applied_some (Seq n a) l ps i e s h = apply_all _ ps i (results_fit (Seq n a) ps refl h)
applied_some (Tup as') l ps i e s h = absurd (false≢true e)
applied_some (Rec xs as') l ps i e s h = absurd (false≢true e)
applied_some Atom l ps i e s h = absurd h
applied_some (Num a b) l ps i e s h = absurd h
applied_some (Set n a) l ps i e s h = absurd h
applied_some Empty l ps i e s h = absurd h

pub applied_fits : (p : Place) (a : Shape) (l : Literal) (x : Layer Value) (i : Value) → IsTrue (readable a l) → IsLiteral l i → FitsLayer a x →
    IfVal (Fits (applied_at a l)) (applied p x i)
applied_fits p a l (layer.Fun ps) i e s h = or_wrong_fits _ p (apply ps i) (applied_some a l ps i e s h)
applied_fits p a l x i e s h = tt
