-- A row of the table gives a shape whose numbers are kept, if the row is read where those of the operands are kept.
use Rattle.std.proofs.Common.{◌≡◌, ℕ, suc, ◌+◌, ◌-◌, ◌*◌, ◌^◌, ◌≤◌, max, Bool, true, false, List, [], ◌∷◌, map, length, ℤ, pos, negsuc, ◌+ℤ◌, ◌-ℤ◌, ◌*ℤ◌, refl, sym, ◌∙◌, ap, ap₂, if◌then◌else◌, arith}
use Rattle.std.proofs.lemmas.Int.{ints, clamps}
use Rattle.std.proofs.Math.Pow.{pow_mono}
use Rattle.std.specs.Ordering.{is_lt}
use Rattle.tla_values.specs.Order.{text_cmp}
use Rattle.tla_meaning.proofs.Views.{false≢true}
use Rattle.kernel_shapes.specs.Shape.{Shape, Atom, Num, Set, Fun, Rec, Tup, Seq, Empty, Shapes, more_shapes, shapes, count, inside, result, join, join_all, moved, over_both}
use Rattle.kernel_shapes.specs.Rows.{Literal, no_literal, number, text, Row, row_shape, product_of, insides, put_field, in_order, record_shape, but_last, last_of, branches_of, argument_of, applied_at, quotient_shape, remainder_shape, set_of_interval, a_truth, a_number, a_sum, a_difference, a_product, a_negation, a_power, a_quotient, a_remainder, a_size, a_length, an_enumeration, a_range, a_union, a_part, a_shorter, a_big_union, the_subsets, the_functions, the_records, the_tuples, the_truths, a_map, a_function, a_choice, an_application, a_field, a_head, the_arguments, the_places, the_names, a_merge, a_single, a_record, a_tuple, a_sequence, an_append, a_concatenation}
use Rattle.shape_bounds.specs.Kept.{kept, capped, capped_items, kept_top}
use Rattle.shape_bounds.specs.Sizes.{kept_name}
use Rattle.shape_bounds.specs.inner.Table.{row_kept}
use Rattle.shape_bounds.proofs.Keeping.{capped_join, capped_join_all, capped_shapes, capped_inside, capped_result, kept_count, capped_item, capped_field, capped_insides, kept_products}
use Rattle.shape_bounds.proofs.Sums.{kept_sum, kept_product, kept_max, kept_power}

-- ---- numbers of operands

same_sum : (a b c d : ℕ) → kept a ≡ kept b → kept c ≡ kept d → kept (a + c) ≡ kept (b + d)
same_sum a b c d e f = kept_sum a c ∙ ap₂ (λ (m n : ℕ). kept (m + n)) e f ∙ sym (kept_sum b d)

same_product : (a b c d : ℕ) → kept a ≡ kept b → kept c ≡ kept d → kept (a * c) ≡ kept (b * d)
same_product a b c d e f = kept_product a c ∙ ap₂ (λ (m n : ℕ). kept (m * n)) e f ∙ sym (kept_product b d)

same_power : (a b c d : ℕ) → kept a ≡ kept b → kept c ≡ kept d → kept (a ^ c) ≡ kept (b ^ d)
same_power a b c d e f = sym (kept_power a c) ∙ ap₂ (λ (m n : ℕ). kept (m ^ n)) e f ∙ kept_power b d

same_length : (as' : List Shape) → length (map capped as') ≡ length as'
same_length [] = refl
same_length (a ∷ as') = ap suc (same_length as')

count_is : (a : Shape) → kept (count a) ≡ kept (count (capped a))
count_is a = sym (kept_count a)

-- ---- an end of a width of 64 bits does not tell numbers that are past the greatest that is kept

module _ (w : ℕ) (le : w ≤ 64) where
  near : 2 ^ (w - 1) ≤ 9223372036854775808
  near = let k : 2 ^ (w - 1) ≤ 2 ^ 63 = pow_mono {i = w - 1} {j = 63} (omega arith) in omega (arith, k)

  pub moved_kept : (n : ℕ) → moved w (pos (kept n)) ≡ moved w (pos n)
  moved_kept n = let k = near in omega (arith, ints, clamps, k)

  pub moved_count : (a : Shape) → moved w (pos (count a)) ≡ moved w (pos (count (capped a)))
  moved_count a = sym (moved_kept (count a)) ∙ ap (λ (n : ℕ). moved w (pos n)) (count_is a) ∙ moved_kept (count (capped a))

-- ---- intervals

capped_both : (w : ℕ) (f : ℤ → ℤ → ℤ) (a b : Shape) → capped (over_both w f a b) ≡ over_both w f (capped a) (capped b)
capped_both w f (Num a b) (Num c d) = refl
capped_both w f (Num a b) c = refl
capped_both w f a b = refl

capped_quotient : (w : ℕ) (a : Shape) → capped (quotient_shape w a) ≡ quotient_shape w (capped a)
capped_quotient w (Num a b) = refl
capped_quotient w a = refl

capped_remainder : (w : ℕ) (a : Shape) → capped (remainder_shape w a) ≡ remainder_shape w (capped a)
capped_remainder w (Num a b) = refl
capped_remainder w a = refl

kept_range : (w : ℕ) (a b : Shape) → capped (set_of_interval w a b) ≡ kept_top (set_of_interval w (capped a) (capped b))
kept_range w (Num a b) (Num c d) = refl
kept_range w (Num a b) c = refl
kept_range w a b = refl

-- ---- records

pub put_kept : (x : List ℕ) (a : Shape) (fs : List (List ℕ × Shape)) → put_field x (capped a) (map kept_name fs) ≡ map kept_name (put_field x a fs)
put_kept x a [] = refl
put_kept x a (f ∷ fs) = by (is_lt (text_cmp x f.0)) (put_kept x a fs)
  where
    by : (b : Bool) → put_field x (capped a) (map kept_name fs) ≡ map kept_name (put_field x a fs) →
        (if b then (x, capped a) ∷ kept_name f ∷ map kept_name fs else kept_name f ∷ put_field x (capped a) (map kept_name fs))
        ≡ map kept_name (if b then (x, a) ∷ f ∷ fs else f ∷ put_field x a fs)
    by true h = refl
    by false h = ap (λ (gs : List (List ℕ × Shape)). kept_name f ∷ gs) h

order_kept : (xs : List (List ℕ)) (as' : List Shape) → in_order xs (map capped as') ≡ map kept_name (in_order xs as')
order_kept [] as' = refl
order_kept (x ∷ xs) [] = refl
order_kept (x ∷ xs) (a ∷ as') = ap (put_field x (capped a)) (order_kept xs as') ∙ put_kept x a (in_order xs as')

same_names : (fs : List (List ℕ × Shape)) → map (λ (y : List ℕ × Shape). y.0) (map kept_name fs) ≡ map (λ (y : List ℕ × Shape). y.0) fs
same_names [] = refl
same_names (f ∷ fs) = ap (λ (xs : List (List ℕ)). f.0 ∷ xs) (same_names fs)

same_shapes : (fs : List (List ℕ × Shape)) → capped_items (shapes (map (λ (y : List ℕ × Shape). y.1) fs)) ≡ shapes (map (λ (y : List ℕ × Shape). y.1) (map kept_name fs))
same_shapes [] = refl
same_shapes (f ∷ fs) = ap (λ (as' : Shapes). more_shapes (capped f.1) as') (same_shapes fs)

capped_record : (xs : List (List ℕ)) (as' : List Shape) → capped (record_shape xs as') ≡ record_shape xs (map capped as')
capped_record xs as' =
    ap₂ Rec (sym (same_names (in_order xs as'))) (same_shapes (in_order xs as'))
    ∙ ap (λ (fs : List (List ℕ × Shape)). Rec (map (λ (y : List ℕ × Shape). y.0) fs) (shapes (map (λ (y : List ℕ × Shape). y.1) fs))) (sym (order_kept xs as'))

-- ---- parts of lists

capped_front : (as' : List Shape) → map capped (but_last as') ≡ but_last (map capped as')
capped_front [] = refl
capped_front (a ∷ []) = refl
capped_front (a ∷ b ∷ as') = ap (λ (bs : List Shape). capped a ∷ bs) (capped_front (b ∷ as'))

capped_last : (as' : List Shape) → capped (last_of as') ≡ last_of (map capped as')
capped_last [] = refl
capped_last (a ∷ []) = refl
capped_last (a ∷ b ∷ as') = capped_last (b ∷ as')

capped_branches : (as' : List Shape) → map capped (branches_of as') ≡ branches_of (map capped as')
capped_branches [] = refl
capped_branches (a ∷ []) = refl
capped_branches (a ∷ b ∷ as') = ap (λ (bs : List Shape). capped b ∷ bs) (capped_branches as')

capped_argument : (as' : List Shape) → capped (argument_of as') ≡ argument_of (map capped as')
capped_argument [] = refl
capped_argument (a ∷ []) = capped_inside a
capped_argument (a ∷ b ∷ as') = ap Tup (capped_shapes (insides (a ∷ b ∷ as')) ∙ ap shapes (capped_insides (a ∷ b ∷ as')))

pub capped_applied : (a : Shape) (l : Literal) → capped (applied_at a l) ≡ applied_at (capped a) l
capped_applied (Tup as') (number (pos n)) = capped_item n as'
capped_applied (Tup as') (number (negsuc n)) = refl
capped_applied (Tup as') no_literal = refl
capped_applied (Tup as') (text x) = refl
capped_applied (Rec xs as') (text x) = capped_field x xs as'
capped_applied (Rec xs as') (number n) = refl
capped_applied (Rec xs as') no_literal = refl
capped_applied (Fun n a r) l = refl
capped_applied (Seq n a) l = refl
capped_applied (Set n a) l = refl
capped_applied (Num a b) l = refl
capped_applied Atom l = refl
capped_applied Empty l = refl

joined : (a b c d : Shape) → capped a ≡ c → capped b ≡ d → capped (join a b) ≡ join c d
joined a b c d e f = capped_join a b ∙ ap₂ join e f

one_argument : (n m : ℕ) (a b r s : Shape) → kept n ≡ kept m → capped a ≡ b → capped r ≡ s → capped (Fun n a r) ≡ kept_top (Fun m b s)
one_argument n m a b r s e f g = ap₂ (λ (i : ℕ) (x : Shape). Fun i x (capped r)) e f ∙ ap (λ (x : Shape). Fun (kept m) b x) g

-- ---- the rows of kernel nodes

abbrev pub is_kernel_row : Row → Bool
is_kernel_row (a_power n) = false
is_kernel_row (a_number n) = false
is_kernel_row a_negation = false
is_kernel_row the_truths = false
is_kernel_row a_single = false
is_kernel_row r = true

module _ (w : ℕ) (le : w ≤ 64) where
  pub row_capped : (r : Row) → is_kernel_row r ≡ true → (l : Literal) (as' : List Shape) → capped (row_shape w r l as') ≡ row_kept w r l (map capped as')
  row_capped a_truth h l as' = refl
  row_capped a_sum h l [] = refl
  row_capped a_sum h l (a ∷ []) = refl
  row_capped a_sum h l (a ∷ b ∷ as') = capped_both w (λ x y. x +ℤ y) a b
  row_capped a_difference h l [] = refl
  row_capped a_difference h l (a ∷ []) = refl
  row_capped a_difference h l (a ∷ b ∷ as') = capped_both w (λ x y. x -ℤ y) a b
  row_capped a_product h l [] = refl
  row_capped a_product h l (a ∷ []) = refl
  row_capped a_product h l (a ∷ b ∷ as') = capped_both w (λ x y. x *ℤ y) a b
  row_capped a_quotient h l [] = refl
  row_capped a_quotient h l (a ∷ as') = capped_quotient w a
  row_capped a_remainder h l [] = refl
  row_capped a_remainder h l (a ∷ []) = refl
  row_capped a_remainder h l (a ∷ b ∷ as') = capped_remainder w b
  row_capped a_size h l [] = refl
  row_capped a_size h l (a ∷ as') = ap (Num (moved w (pos 0))) (moved_count w le a)
  row_capped a_length h l [] = refl
  row_capped a_length h l (a ∷ as') = ap (Num (moved w (pos 0))) (moved_count w le a)
  row_capped an_enumeration h l as' = ap₂ Set (ap kept (sym (same_length as'))) (capped_join_all as')
  row_capped a_range h l [] = refl
  row_capped a_range h l (a ∷ []) = refl
  row_capped a_range h l (a ∷ b ∷ as') = kept_range w a b
  row_capped a_union h l [] = refl
  row_capped a_union h l (a ∷ []) = refl
  row_capped a_union h l (a ∷ b ∷ as') =
      ap₂ Set (same_sum (count a) (count (capped a)) (count b) (count (capped b)) (count_is a) (count_is b)) (joined (inside a) (inside b) _ _ (capped_inside a) (capped_inside b))
  row_capped a_part h l [] = refl
  row_capped a_part h l (a ∷ as') = ap₂ Set (count_is a) (capped_inside a)
  row_capped a_shorter h l [] = refl
  row_capped a_shorter h l (a ∷ as') = ap₂ Seq (count_is a) (capped_inside a)
  row_capped a_big_union h l [] = refl
  row_capped a_big_union h l (a ∷ as') =
      ap₂ Set (same_product (count a) (count (capped a)) (count (inside a)) (count (inside (capped a))) (count_is a) (count_is (inside a) ∙ ap (λ (b : Shape). kept (count b)) (capped_inside a)))
      (capped_inside (inside a) ∙ ap inside (capped_inside a))
  row_capped the_subsets h l [] = refl
  row_capped the_subsets h l (a ∷ as') =
      ap₂ (λ (m n : ℕ). Set m (Set n (capped (inside a)))) (same_power 2 2 (count a) (count (capped a)) refl (count_is a)) (count_is a)
      ∙ ap (λ (b : Shape). Set (kept (2 ^ count (capped a))) (Set (kept (count (capped a))) b)) (capped_inside a)
  row_capped the_functions h l [] = refl
  row_capped the_functions h l (a ∷ []) = refl
  row_capped the_functions h l (a ∷ b ∷ as') =
      let e : kept (max 1 (count b ^ count a)) ≡ kept (max 1 (count (capped b) ^ count (capped a))) =
      kept_max 1 (count b ^ count a) ∙ ap (max (kept 1)) (same_power (count b) (count (capped b)) (count a) (count (capped a)) (count_is b) (count_is a)) ∙ sym (kept_max 1 (count (capped b) ^ count (capped a))) in
      ap₂ (λ (m n : ℕ). Set m (Fun n (capped (inside a)) (capped (inside b)))) e (count_is a)
      ∙ ap₂ (λ (x y : Shape). Set (kept (max 1 (count (capped b) ^ count (capped a)))) (Fun (kept (count (capped a))) x y)) (capped_inside a) (capped_inside b)
  row_capped (the_records xs) h l as' =
      ap₂ Set (sym (kept_products as')) (capped_record xs (insides as') ∙ ap (record_shape xs) (capped_insides as'))
  row_capped the_tuples h l as' =
      ap₂ Set (sym (kept_products as')) (ap Tup (capped_shapes (insides as') ∙ ap shapes (capped_insides as')))
  row_capped (a_map n) h l as' =
      ap₂ Set (sym (kept_products (but_last as')) ∙ ap (λ (bs : List Shape). kept (product_of bs)) (capped_front as')) (capped_last as')
  row_capped (a_function n) h l as' =
      one_argument _ _ _ _ _ _ (sym (kept_products (but_last as')) ∙ ap (λ (bs : List Shape). kept (product_of bs)) (capped_front as'))
      (capped_argument (but_last as') ∙ ap argument_of (capped_front as')) (capped_last as')
  row_capped a_choice h l as' = capped_join_all (branches_of as') ∙ ap join_all (capped_branches as')
  row_capped an_application h l [] = refl
  row_capped an_application h l (a ∷ as') = capped_applied a l
  row_capped (a_field x) h l [] = refl
  row_capped (a_field x) h l (a ∷ as') = capped_applied a (text x)
  row_capped a_head h l [] = refl
  row_capped a_head h l (a ∷ as') = capped_result a
  row_capped the_arguments h l [] = refl
  row_capped the_arguments h l (a ∷ as') = ap₂ Set (count_is a) (capped_inside a)
  row_capped the_places h l [] = refl
  row_capped the_places h l (a ∷ as') = ap₂ Set (count_is a) (ap (Num (moved w (pos 1))) (moved_count w le a))
  row_capped the_names h l [] = refl
  row_capped the_names h l (a ∷ as') = ap (λ (n : ℕ). Set n Atom) (count_is a)
  row_capped a_merge h l [] = refl
  row_capped a_merge h l (a ∷ []) = refl
  row_capped a_merge h l (a ∷ b ∷ as') =
      one_argument _ _ _ _ _ _ (same_sum (count a) (count (capped a)) (count b) (count (capped b)) (count_is a) (count_is b))
      (joined (inside a) (inside b) _ _ (capped_inside a) (capped_inside b)) (joined (result a) (result b) _ _ (capped_result a) (capped_result b))
  row_capped (a_record xs) h l as' = capped_record xs as'
  row_capped a_tuple h l as' = ap Tup (capped_shapes as')
  row_capped a_sequence h l as' = ap₂ Seq (ap kept (sym (same_length as'))) (capped_join_all as')
  row_capped an_append h l [] = refl
  row_capped an_append h l (a ∷ []) = refl
  row_capped an_append h l (a ∷ b ∷ as') =
      ap₂ Seq (same_sum (count a) (count (capped a)) 1 1 (count_is a) refl) (joined (inside a) b _ _ (capped_inside a) refl)
  row_capped a_concatenation h l [] = refl
  row_capped a_concatenation h l (a ∷ []) = refl
  row_capped a_concatenation h l (a ∷ b ∷ as') =
      ap₂ Seq (same_sum (count a) (count (capped a)) (count b) (count (capped b)) (count_is a) (count_is b)) (joined (inside a) (inside b) _ _ (capped_inside a) (capped_inside b))
  row_capped r h l as' = absurd (false≢true h)
