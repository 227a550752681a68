-- Rows of the table by lists of operands.
use Rattle.std.proofs.Common.{◌≡◌, ◌⊎◌, inl, inr, ◌++◌, ℕ, ◌*◌, ◌^◌, ◌<◌, ◌≤◌, max, List, [], ◌∷◌, map, length, get_or, IfOk, Ok, Err, Result, refl, sym, ◌∙◌, ap, ap₂, arith}
use Rattle.std.specs.declared.alloc.AllocError.{AllocError}
use Rattle.kernel_trees.specs.declared.kernel.KerOp.{KerOp}
use Rattle.kernel_shapes.specs.declared.bounds.Shape.{Shape as Code}
use Rattle.kernel_shapes.specs.Codes.{mean}
use Rattle.kernel_shapes.specs.Rows.{Row, Literal, no_literal, the_subsets, the_functions, a_big_union, branches_of, a_map, a_function, but_last, last_of, product_of, argument_of, insides}
use Rattle.kernel_shapes.specs.Shape.{Shape, Set, Fun, Tup, Empty, shapes, count, inside, join, join_all}
use Rattle.shape_bounds.specs.Kept.{kept}
use Rattle.shape_bounds.specs.inner.Nodes.{binder_row}
use Rattle.shape_bounds.specs.inner.Plain.{row_of}
use Rattle.shape_bounds.specs.inner.Table.{row_kept}
use Rattle.shape_bounds.proofs.Sums.{kept_exponent, kept_power, kept_product}

-- a row that does not ask for the width
pub row_at : (w : ℕ) (o : KerOp) (r : Row) (l : Literal) (as' : List Shape) (res : Result Code AllocError) → row_of o ≡ r →
    IfOk res (λ s. (v : ℕ) → mean s ≡ row_kept v r l as') → IfOk res (λ s. mean s ≡ row_kept w (row_of o) l as')
row_at w o r l as' (Ok s) e h = h w ∙ ap (λ (q : Row). row_kept w q l as') (sym e)
row_at w o r l as' (Err s) e h = tt

pub by_row : (o : KerOp) (r : Row) (l : Literal) (as' bs : List Shape) (res : Result Code AllocError) → row_of o ≡ r → bs ≡ as' →
    IfOk res (λ s. (v : ℕ) → mean s ≡ row_kept v r l as') → IfOk res (λ s. (v : ℕ) → mean s ≡ row_kept v (row_of o) l bs)
by_row o r l as' bs (Ok s) e f h = λ v. h v ∙ ap₂ (λ (q : Row) (cs : List Shape). row_kept v q l cs) (sym e) (sym f)
by_row o r l as' bs (Err s) e f h = tt

-- ---- lists of one, two and three

pub one_is : (xs : List Code) (a : Code) → 1 ≤ length xs → length xs < 2 → a ≡ get_or xs 0 a → map mean xs ≡ mean a ∷ []
one_is [] a h l e = absurd (omega (arith, h))
one_is (x ∷ []) a h l e = ap (λ (y : Code). mean y ∷ []) (sym e)
one_is (x ∷ y ∷ xs) a h l e = absurd (omega (arith, l))

pub two_are : (xs : List Code) (a b : Code) → 2 ≤ length xs → length xs < 3 → a ≡ get_or xs 0 a → b ≡ get_or xs 1 b → map mean xs ≡ mean a ∷ mean b ∷ []
two_are [] a b h l e f = absurd (omega (arith, h))
two_are (x ∷ []) a b h l e f = absurd (omega (arith, h))
two_are (x ∷ y ∷ []) a b h l e f = ap₂ (λ (z u : Code). mean z ∷ mean u ∷ []) (sym e) (sym f)
two_are (x ∷ y ∷ z ∷ xs) a b h l e f = absurd (omega (arith, l))

pub none_is : (xs : List Code) → length xs < 1 → map mean xs ≡ []
none_is [] l = refl
none_is (x ∷ xs) l = absurd (omega (arith, l))

pub join_none : (a : Shape) → join a Empty ≡ a
join_none Empty = refl
join_none a = refl

-- IF gives the join of its branches
pub branches_join : (xs : List Code) (a b : Code) → 3 ≤ length xs → length xs < 4 → a ≡ get_or xs 1 a → b ≡ get_or xs 2 b →
    join (mean a) (mean b) ≡ join_all (branches_of (map mean xs))
branches_join [] a b h l e f = absurd (omega (arith, h))
branches_join (x ∷ []) a b h l e f = absurd (omega (arith, h))
branches_join (x ∷ y ∷ []) a b h l e f = absurd (omega (arith, h))
branches_join (x ∷ y ∷ z ∷ []) a b h l e f =
    ap₂ (λ (u v : Code). join (mean u) (mean v)) e f ∙ ap (join (mean y)) (sym (join_none (mean z)))
branches_join (x ∷ y ∷ z ∷ u ∷ xs) a b h l e f = absurd (omega (arith, l))

-- all subsets, and all functions
pub subsets_kept : (w n m : ℕ) (a i : Shape) → n ≡ kept (2 ^ m) → m ≡ kept (count a) → i ≡ inside a →
    Set n (Set m i) ≡ row_kept w the_subsets no_literal (a ∷ [])
subsets_kept w n m a i e f g =
    ap₂ (λ (x y : ℕ). Set x (Set y i)) (e ∙ ap (λ k. kept (2 ^ k)) f ∙ kept_exponent 2 (count a)) f
    ∙ ap (λ (s : Shape). Set (kept (2 ^ count a)) (Set (kept (count a)) s)) g

pub functions_kept : (w n m k : ℕ) (a b i j : Shape) → n ≡ max 1 (kept (m ^ k)) → m ≡ kept (count b) → k ≡ kept (count a) → i ≡ inside a → j ≡ inside b →
    Set n (Fun k i j) ≡ row_kept w the_functions no_literal (a ∷ b ∷ [])
functions_kept w n m k a b i j e f g p q =
    let s : kept (m ^ k) ≡ kept (count b ^ count a) = ap₂ (λ x y. kept (x ^ y)) f g ∙ kept_power (count b) (count a) in
    let t : n ≡ kept (max 1 (count b ^ count a)) = omega (arith, e, s) in
    ap₂ (λ (x y : ℕ). Set x (Fun y i j)) t g
    ∙ ap₂ (λ (x y : Shape). Set (kept (max 1 (count b ^ count a))) (Fun (kept (count a)) x y)) p q

pub flatten_kept : (w n m k : ℕ) (a b i : Shape) → n ≡ kept (m * k) → m ≡ kept (count a) → k ≡ kept (count b) → b ≡ inside a → i ≡ inside b →
    Set n i ≡ row_kept w a_big_union no_literal (a ∷ [])
flatten_kept w n m k a b i e f g p q =
    ap₂ Set (e ∙ ap₂ (λ x y. kept (x * y)) f g ∙ sym (kept_product (count a) (count b)) ∙ ap (λ (s : Shape). kept (count a * count s)) p)
    (q ∙ ap inside p)

-- ---- results

pub ok_each : (res : Result Code AllocError) (x : Shape) (y : ℕ → Shape) → ((v : ℕ) → x ≡ y v) → IfOk res (λ s. mean s ≡ x) → IfOk res (λ s. (v : ℕ) → mean s ≡ y v)
ok_each (Ok s) x y f h = λ v. h ∙ f v
ok_each (Err e) x y f h = tt

pub ok_same : (res : Result Code AllocError) (x y : Shape) → x ≡ y → IfOk res (λ s. mean s ≡ x) → IfOk res (λ s. mean s ≡ y)
ok_same (Ok s) x y f h = h ∙ f
ok_same (Err e) x y f h = tt

-- ---- binders

but_last_of : (as' : List Shape) (b : Shape) → but_last (as' ++ b ∷ []) ≡ as'
but_last_of [] b = refl
but_last_of (a ∷ []) b = refl
but_last_of (a ∷ c ∷ as') b = ap (λ (bs : List Shape). a ∷ bs) (but_last_of (c ∷ as') b)

pub last_is : (as' : List Shape) (b : Shape) → last_of (as' ++ b ∷ []) ≡ b
last_is [] b = refl
last_is (a ∷ []) b = refl
last_is (a ∷ c ∷ as') b = last_is (c ∷ as') b

pub map_kept : (w m n : ℕ) (as' : List Shape) (b : Shape) → n ≡ kept (product_of as') → Set n b ≡ row_kept w (a_map m) no_literal (as' ++ b ∷ [])
map_kept w m n as' b e =
    ap₂ Set (e ∙ ap (λ (cs : List Shape). kept (product_of cs)) (sym (but_last_of as' b))) (sym (last_is as' b))

pub function_kept : (w m n : ℕ) (as' : List Shape) (a b : Shape) → n ≡ kept (product_of as') → a ≡ argument_of as' →
    Fun n a b ≡ row_kept w (a_function m) no_literal (as' ++ b ∷ [])
function_kept w m n as' a b e f =
    ap₂ (λ (k : ℕ) (c : Shape). Fun k c b) (e ∙ ap (λ (cs : List Shape). kept (product_of cs)) (sym (but_last_of as' b))) (f ∙ ap argument_of (sym (but_last_of as' b)))
    ∙ ap (λ (c : Shape). Fun (kept (product_of (but_last (as' ++ b ∷ [])))) (argument_of (but_last (as' ++ b ∷ []))) c) (sym (last_is as' b))

pub many_arguments : (xs : List Code) → (length xs < 1) ⊎ (2 ≤ length xs) → Tup (shapes (insides (map mean xs))) ≡ argument_of (map mean xs)
many_arguments [] h = refl
many_arguments (x ∷ []) (inl h) = absurd (omega (arith, h))
many_arguments (x ∷ []) (inr h) = absurd (omega (arith, h))
many_arguments (x ∷ y ∷ xs) h = refl

pub binder_at : (o : KerOp) (n : ℕ) (r : Row) (as' : List Shape) (b : Shape) (res : Result Code AllocError) → binder_row o n ≡ r →
    IfOk res (λ s. (v : ℕ) (x : Shape) → mean s ≡ row_kept v r no_literal (as' ++ x ∷ [])) → IfOk res (λ s. (v : ℕ) → mean s ≡ row_kept v (binder_row o n) no_literal (as' ++ b ∷ []))
binder_at o n r as' b (Ok s) e h = λ v. h v b ∙ ap (λ (q : Row). row_kept v q no_literal (as' ++ b ∷ [])) (sym e)
binder_at o n r as' b (Err s) e h = tt

pub ok_copy : (res : Result Code AllocError) (a : Code) (y : Shape) → mean a ≡ y → IfOk res (λ s. s ≡ a) → IfOk res (λ s. mean s ≡ y)
ok_copy (Ok s) a y f h = ap mean h ∙ f
ok_copy (Err e) a y f h = tt
