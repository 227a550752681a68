-- Powers by products of a number that is named: the smaller ones fit where the power does.
use Rattle.std.proofs.Common.{◌≡◌, ℕ, zero, suc, ◌+◌, ◌-◌, ◌*◌, ◌^◌, ◌≤◌, arith, Bool, true, false, true≢false, List, [], ◌∷◌, refl, sym, ◌∙◌, ap, subst, Some, None, ℤ, pos, negsuc, ◌*ℤ◌, int_lt, if◌then◌else◌}
use Rattle.std.specs.Prelude.{nat_le}
use Rattle.std.proofs.lemmas.Bool.{le-ltb, lt-ltb, ltb-false, leb-true, leb-false}
use Rattle.std.proofs.lemmas.Int.{unsigned_abs-mul}
use Rattle.std.proofs.Math.IntN.{*ℤ_comm, *ℤ-one, one}
use Rattle.std.proofs.Math.Nat.{one-le-pow}
use Rattle.std.specs.Int.RustNames.{unsigned_abs}
use Rattle.tla_values.specs.Order.{Layer}
use Rattle.tla_values.specs.declared.value.Value.{Value, out-Value, roll-Value, roll-out-Value}
use Rattle.tla_values.specs.declared.value.Value.TheVariants as value
use Rattle.tla_values.specs.declared.value.Value.TheOpen as layer
use Rattle.tla_meaning.specs.declared.expr.Expr.{Expr}
use Rattle.tla_meaning.specs.declared.op.Op.TheVariants as op
use Rattle.tla_meaning.specs.declared.place.Place.{Place}
use Rattle.tla_meaning.specs.declared.job.State.{State}
use Rattle.tla_meaning.specs.declared.outcome.Outcome.{Outcome}
use Rattle.tla_meaning.specs.declared.outcome.Outcome.TheVariants.{Val, Wrong, Big}
use Rattle.tla_meaning.specs.Outcomes.{strict, with_value}
use Rattle.tla_meaning.specs.Operators.{table, yes_no, on_numbers}
use Rattle.tla_meaning.specs.Numbers.{Width, number, in_width, power, power_of}
use Rattle.tla_meaning.specs.Scopes.{Scope, value_found}
use Rattle.tla_meaning.specs.Meaning.{by_truth, choose}
use Rattle.snowcat_rows.specs.declared.types.Ty.{Ty}
use Rattle.kernel_trees.specs.declared.kernel.Ker.{Ker}
use Rattle.kernel_trees.specs.declared.kernel.KerOp.TheVariants as ker
use Rattle.kernel_trees.specs.Trees.{ker_val}
use Rattle.kernel_trees.proofs.Operators.{val_bound, val_less, val_times, val_if}
use Rattle.kernel_reduction.specs.Reduction.{Numbering, is_wide}
use Rattle.kernel_reduction.specs.Rows.{Let, node, number as number_at, op_at, place_of, type_of, named_one, named_first, product, tested, power_body, small_power, large_power}
use Rattle.kernel_reduction.specs.Builds.{is_let}
use Rattle.kernel_reduction.proofs.Widths.{fits_all, number_there}
use Rattle.kernel_reduction.proofs.Lets.{let_scope, val_let, read_named, both_of}
use Rattle.kernel_reduction.proofs.Negations.{val_number}
use Rattle.kernel_reduction.proofs.Pairs.{literal_number, big≢value, few_fit, first_read, let_pair}
use Rattle.kernel_reduction.proofs.Frame.{KeepsNode, KeepsEach, operands_kept, plain_row}

times_one : (m : ℤ) → m *ℤ pos 1 ≡ m
unfolding one
times_one m = *ℤ-one m

-- ---- sizes

positive : (k : ℕ) → 1 ≤ 2 ^ k
positive k = one-le-pow k 2 (omega arith)

size_outside : (w : ℕ) (x : ℤ) → in_width (Some w) x ≡ false → 2 ^ (w - 1) ≤ unsigned_abs x
size_outside w (pos m) h = ltb-false m (2 ^ (w - 1)) h
size_outside w (negsuc m) h = let k = ltb-false m (2 ^ (w - 1)) h in omega (arith, k)

outside_size : (w : ℕ) (x : ℤ) → 2 ^ (w - 1) + 1 ≤ unsigned_abs x → in_width (Some w) x ≡ false
outside_size w (pos m) h = le-ltb m (2 ^ (w - 1)) (omega arith)
outside_size w (negsuc m) h = le-ltb m (2 ^ (w - 1)) (omega arith)

twice : (a b c : ℕ) → 2 ≤ a → 1 ≤ b → b ≤ c → b + 1 ≤ a * c
twice a b c h k l = grind arith

outside_more : (w : ℕ) (a x : ℤ) → 2 ≤ unsigned_abs a → in_width (Some w) x ≡ false → in_width (Some w) (a *ℤ x) ≡ false
outside_more w a x h o =
    outside_size w (a *ℤ x)
    (subst (λ n. 2 ^ (w - 1) + 1 ≤ n) (sym (unsigned_abs-mul a x))
    (twice (unsigned_abs a) (2 ^ (w - 1)) (unsigned_abs x) h (positive (w - 1)) (size_outside w x o)))

-- powers of 0, 1 and -1 are these
at_most_one : (a : ℤ) (n : ℕ) → unsigned_abs a ≤ 1 → unsigned_abs (power_of a n) ≤ 1
at_most_one a zero h = omega arith
at_most_one a (suc n) h =
    let k : unsigned_abs (power_of a n) ≤ 1 = at_most_one a n h in
    subst (λ m. m ≤ 1) (sym (unsigned_abs-mul a (power_of a n)))
    (small (unsigned_abs a) (unsigned_abs (power_of a n)) h k)
  where
    small : (a b : ℕ) → a ≤ 1 → b ≤ 1 → a * b ≤ 1
    small zero b h k = omega arith
    small (suc zero) b h k = grind (arith, k)
    small (suc (suc a)) b h k = absurd (omega (arith, h))

small_inside : (w : Width) → is_wide w ≡ true → (x : ℤ) → unsigned_abs x ≤ 1 → in_width w x ≡ true
small_inside w wide (pos m) h = fits_all w wide (pos m) (lt-ltb m 8 (omega (arith, h)))
small_inside w wide (negsuc m) h = fits_all w wide (negsuc m) (lt-ltb m 8 (omega (arith, h)))

-- a power that is outside has greater ones outside
greater_outside : (w : Width) → is_wide w ≡ true → (a : ℤ) (n : ℕ) → in_width w (power_of a n) ≡ false →
    in_width w (power_of a (suc n)) ≡ false
greater_outside None wide a n h = absurd (true≢false h)
greater_outside (Some w) wide a n h = by (nat_le (unsigned_abs a) 1) refl
  where
    by : (c : Bool) → nat_le (unsigned_abs a) 1 ≡ c → in_width (Some w) (power_of a (suc n)) ≡ false
    by true e = absurd
        (true≢false
        (sym (small_inside (Some w) wide (power_of a n) (at_most_one a n (leb-true (unsigned_abs a) 1 e))) ∙ h))
    by false e = outside_more w a (power_of a n) (leb-false (unsigned_abs a) 1 e) h

-- ---- products

int_of : (v : Value) (i : ℤ) → out-Value v ≡ layer.Int i → v ≡ value.Int i
int_of v i e = sym (roll-out-Value v) ∙ ap roll-Value e ∙ value.rolls-Int i

abbrev is_int : Layer Value → Bool
is_int (layer.Int i) = true
is_int l = false

second_wrong : (p : Place) (f : ℤ → ℤ → Outcome) (k l : Layer Value) → is_int l ≡ false →
    on_numbers p f (k ∷ l ∷ []) ≡ Wrong p
second_wrong p f (layer.Int i) (layer.Int j) h = absurd (true≢false h)
second_wrong p f (layer.Int i) l h = refl
second_wrong p f k l h = refl

first_wrong : (p : Place) (f : ℤ → ℤ → Outcome) (k l : Layer Value) → is_int k ≡ false →
    on_numbers p f (k ∷ l ∷ []) ≡ Wrong p
first_wrong p f (layer.Int i) l h = absurd (true≢false h)
first_wrong p f k l h = refl

both_numbers : (p : Place) (f : ℤ → ℤ → Outcome) (i j : ℤ) →
    on_numbers p f (out-Value (value.Int i) ∷ out-Value (value.Int j) ∷ []) ≡ f i j
both_numbers p f i j = λ k. on_numbers p f (value.outs-Int i k ∷ value.outs-Int j k ∷ [])

-- a test that leads to one tree both ways
same_way : (p : Place) (x : Bool) (o : Outcome) → choose p (yes_no x) o o ≡ o
same_way p x o = ap (λ (l : Layer Value). by_truth p l o o) (value.outs-Bool x) ∙ by x
  where
    by : (x : Bool) → by_truth p (layer.Bool x) o o ≡ o
    by true = refl
    by false = refl

module _ (w : Width) (wide : is_wide w ≡ true) (s t : State) (p : Place) (a b : Ty) (y : Ker) (c : Scope) where
  less_val : (k l : Ker) (x z : Outcome) → ker_val w k c s t ≡ x → ker_val w l c s t ≡ z →
      ker_val w (node p b ker.Less (k ∷ l ∷ [])) c s t ≡ strict (x ∷ z ∷ []) (table w p op.Lt)
  less_val k l x z e f = val_less w s t p b (k ∷ l ∷ []) [] c ∙ (λ i. strict (e i ∷ f i ∷ []) (table w p op.Lt))

  times_val : (k l : Ker) (x z : Outcome) → ker_val w k c s t ≡ x → ker_val w l c s t ≡ z →
      ker_val w (node p a ker.Times (k ∷ l ∷ [])) c s t ≡ strict (x ∷ z ∷ []) (table w p op.Mul)
  times_val k l x z e f = val_times w s t p a (k ∷ l ∷ []) [] c ∙ (λ i. strict (e i ∷ f i ∷ []) (table w p op.Mul))

  tested_val : (k z : Ker) (o u : Outcome) → ker_val w (node p b ker.Less (k ∷ y ∷ [])) c s t ≡ o →
      ker_val w z c s t ≡ u →
      ker_val w (tested p a b k y z) c s t ≡ choose p o u u
  tested_val k z o u e f = val_if w s t p a _ z z [] c ∙ (λ i. choose p (e i) (f i) (f i))

  -- of a number
  module _ (i : ℤ) (e : ker_val w y c s t ≡ Val (value.Int i)) where
    product_val : (n : ℕ) → ker_val w (product p a y (suc n)) c s t ≡ number w p (power_of i (suc (suc n)))
    product_val zero =
        times_val y y _ _ e e
        ∙ both_numbers p (λ m n. number w p (m *ℤ n)) i i
        ∙ ap (λ m. number w p (i *ℤ m)) (sym (times_one i))
    product_val (suc n) = times_val (product p a y (suc n)) y _ _ (product_val n) e
        ∙ by (in_width w (power_of i (suc (suc n)))) refl
      where
        by : (x : Bool) → in_width w (power_of i (suc (suc n))) ≡ x →
            strict (number w p (power_of i (suc (suc n))) ∷ Val (value.Int i) ∷ []) (table w p op.Mul)
            ≡ number w p (power_of i (suc (suc (suc n))))
        by true h =
            ap (λ (o : Outcome). strict (o ∷ Val (value.Int i) ∷ []) (table w p op.Mul))
            (number_there w p (power_of i (suc (suc n))) h)
            ∙ both_numbers p (λ m n. number w p (m *ℤ n)) (power_of i (suc (suc n))) i
            ∙ ap (number w p) (*ℤ_comm (power_of i (suc (suc n))) i)
        by false h =
            ap (λ (x : Bool).
            strict ((if x then Val (value.Int (power_of i (suc (suc n)))) else Big p) ∷ Val (value.Int i) ∷ [])
            (table w p op.Mul)) h
            ∙ sym (ap (λ (x : Bool). if x then Val (value.Int (power_of i (suc (suc (suc n))))) else Big p)
            (greater_outside w wide i (suc (suc n)) h))

    one_val : ker_val w (power_body p a b y 1) c s t ≡ number w p (i *ℤ pos 1)
    one_val =
        tested_val (node p a ker.Times (number_at p a 1 ∷ y ∷ [])) y _ _
        (less_val (node p a ker.Times (number_at p a 1 ∷ y ∷ [])) y _ _
        (times_val (number_at p a 1) y _ _
        (val_number w s t p a c 1 ∙ number_there w p (pos 1) (fits_all w wide (pos 1) refl)) e
        ∙ both_numbers p (λ m n. number w p (m *ℤ n)) (pos 1) i
        ∙ ap (number w p) (*ℤ_comm (pos 1) i ∙ times_one i)) e) e
        ∙ by (in_width w i) refl
      where
        by : (x : Bool) → in_width w i ≡ x →
            choose p (strict (number w p i ∷ Val (value.Int i) ∷ []) (table w p op.Lt)) (Val (value.Int i))
            (Val (value.Int i)) ≡ number w p (i *ℤ pos 1)
        by true h =
            ap (λ (o : Outcome).
            choose p (strict (o ∷ Val (value.Int i) ∷ []) (table w p op.Lt)) (Val (value.Int i)) (Val (value.Int i)))
            (number_there w p i h)
            ∙ ap (λ (o : Outcome). choose p o (Val (value.Int i)) (Val (value.Int i)))
            (both_numbers p (λ m n. yes_no (int_lt m n)) i i)
            ∙ same_way p (int_lt i i) (Val (value.Int i))
            ∙ sym (ap (number w p) (times_one i) ∙ number_there w p i h)
        by false h =
            ap (λ (x : Bool).
            choose p (strict ((if x then Val (value.Int i) else Big p) ∷ Val (value.Int i) ∷ []) (table w p op.Lt))
            (Val (value.Int i)) (Val (value.Int i))) h
            ∙ sym (ap (number w p) (times_one i) ∙ ap (λ (x : Bool). if x then Val (value.Int i) else Big p) h)

    none_val : ker_val w (power_body p a b y 0) c s t ≡ number w p (pos 1)
    none_val =
        tested_val y (number_at p a 1) _ _ (less_val y y _ _ e e ∙ both_numbers p (λ m n. yes_no (int_lt m n)) i i)
        (val_number w s t p a c 1)
        ∙ same_way p (int_lt i i) (number w p (pos 1))

    number_power : (n : ℕ) → ker_val w (power_body p a b y n) c s t ≡ number w p (power_of i n)
    number_power zero = none_val
    number_power (suc zero) = one_val
    number_power (suc (suc n)) = product_val n

  -- of anything else
  module _ (v : Value) (e : ker_val w y c s t ≡ Val v) (h : is_int (out-Value v) ≡ false) where
    product_wrong : (n : ℕ) → ker_val w (product p a y (suc n)) c s t ≡ Wrong p
    product_wrong zero = times_val y y _ _ e e ∙ second_wrong p _ (out-Value v) (out-Value v) h
    product_wrong (suc n) = times_val (product p a y (suc n)) y _ _ (product_wrong n) e

    wrong_power : (n : ℕ) → ker_val w (power_body p a b y n) c s t ≡ Wrong p
    wrong_power zero =
        tested_val y (number_at p a 1) _ _ (less_val y y _ _ e e ∙ second_wrong p _ (out-Value v) (out-Value v) h) refl
    wrong_power (suc zero) =
        tested_val (node p a ker.Times (number_at p a 1 ∷ y ∷ [])) y _ _
        (less_val (node p a ker.Times (number_at p a 1 ∷ y ∷ [])) y _ _
        (times_val (number_at p a 1) y _ _
        (val_number w s t p a c 1 ∙ number_there w p (pos 1) (fits_all w wide (pos 1) refl)) e
        ∙ second_wrong p _ (out-Value (value.Int (pos 1))) (out-Value v) h) e) refl
    wrong_power (suc (suc n)) = product_wrong n

  -- what is named to the power n
  pub power_val : (v : Value) (n : ℕ) → ker_val w y c s t ≡ Val v →
      ker_val w (power_body p a b y n) c s t ≡ table w p op.Pow (v ∷ value.Int (pos n) ∷ [])
  power_val v n e = by (out-Value v) refl
    where
      by : (l : Layer Value) → out-Value v ≡ l →
          ker_val w (power_body p a b y n) c s t ≡ table w p op.Pow (v ∷ value.Int (pos n) ∷ [])
      by (layer.Int i) q =
          number_power i (e ∙ ap Val (int_of v i q)) n
          ∙ sym (λ k. on_numbers p (power w p) (q k ∷ value.outs-Int (pos n) k ∷ []))
      by (layer.Bool x) q = wrong_power v e (ap is_int q) n
          ∙ sym (first_wrong p (power w p) (out-Value v) (out-Value (value.Int (pos n))) (ap is_int q))
      by (layer.Text x) q = wrong_power v e (ap is_int q) n
          ∙ sym (first_wrong p (power w p) (out-Value v) (out-Value (value.Int (pos n))) (ap is_int q))
      by (layer.Set x) q = wrong_power v e (ap is_int q) n
          ∙ sym (first_wrong p (power w p) (out-Value v) (out-Value (value.Int (pos n))) (ap is_int q))
      by (layer.Fun x) q = wrong_power v e (ap is_int q) n
          ∙ sym (first_wrong p (power w p) (out-Value v) (out-Value (value.Int (pos n))) (ap is_int q))

-- ---- the rows

module _ (w : Width) (wide : is_wide w ≡ true) (ρ : Numbering) (p : Place) (es : List Expr) (xs : List (List ℕ))
    (k m : Ker) (h : KeepsEach w ρ es (k ∷ m ∷ [])) where
  module _ (l : Let) (d : is_let l ≡ true) (n : ℕ) (q : op_at m ≡ ker.Const (value.Int (pos n))) where
    pub keeps_power : (b : Ty) → nat_le n 7 ≡ true → KeepsNode w ρ p op.Pow es xs (small_power p l b k n)
    keeps_power b f = plain_row w ρ p p op.Pow es xs l.type ker.First _ [] (λ a s t. refl) (λ s t. refl)
        (λ a c s t r.
        ap (λ (os : List Outcome). strict os (table w p op.Pow)) (operands_kept w ρ s t p es (k ∷ m ∷ []) a c h r)
        ∙ ap (λ (o : Outcome). strict (ker_val w k c s t ∷ o ∷ []) (table w p op.Pow))
        (literal_number w s t c m (pos n) q
        ∙ number_there w (place_of m) (pos n) (fits_all w wide (pos n) (few_fit n f)))
        ∙ sym (val_let w s t p l k (power_body p l.type b (named_one l k) n) c d ∙ by c s t (ker_val w k c s t)))
      where
        by : (c : Scope) (s t : State) (o : Outcome) →
            with_value o (λ v. ker_val w (power_body p l.type b (named_one l k) n) (let_scope l v c) s t)
            ≡ strict (o ∷ Val (value.Int (pos n)) ∷ []) (table w p op.Pow)
        by c s t (Val v) =
            power_val w wide s t p l.type b (named_one l k) (let_scope l v c) v n
            (val_bound w s t (place_of k) (type_of k) l.named [] [] (let_scope l v c)
            ∙ ap (value_found (place_of k)) (read_named l v c))
        by c s t (Wrong q) = refl
        by c s t (Big q) = refl

    pub keeps_high_power : (ty b : Ty) → KeepsNode w ρ p op.Pow es xs (large_power p l ty b k m n)
    keeps_high_power ty b = plain_row w ρ p p op.Pow es xs l.type ker.First _ [] (λ a s t. refl) (λ s t. refl)
        (λ a c s t r.
        ap (λ (os : List Outcome). strict os (table w p op.Pow)) (operands_kept w ρ s t p es (k ∷ m ∷ []) a c h r)
        ∙ sym (let_pair w s t p l ty k m _ c (table w p op.Pow) d (λ u v e f.
        power_val w wide s t p l.type b (named_first l ty k) (let_scope l (both_of u v) c) u n
        (first_read w wide s t l p ty (let_scope l (both_of u v) c) u v (read_named l (both_of u v) c) k)
        ∙ ap (λ z. table w p op.Pow (u ∷ z ∷ []))
        (same_number (place_of m) n v (sym (literal_number w s t c m (pos n) q) ∙ f)))))
      where
        same_number : (q : Place) (n : ℕ) (v : Value) → number w q (pos n) ≡ Val v → value.Int (pos n) ≡ v
        same_number q n v e = by (in_width w (pos n)) e
          where
            by : (x : Bool) → (if x then Val (value.Int (pos n)) else Big q) ≡ Val v → value.Int (pos n) ≡ v
            by true e = cc
            by false e = absurd (big≢value e)
