-- What the rows of sets, ranges and sequences make.
use Rattle.std.proofs.Common.{◌≡◌, ℕ, zero, suc, ◌+◌, ◌≤◌, List, [], ◌∷◌, ◌++◌, length, refl, ap, ◌∙◌, sym, subst, ℤ, pos, ◌+ℤ◌, arith, ◌<ℤ◌, add-one, Option, Some, None, option_map, Result, Ok, Err}
use Rattle.std.specs.Prelude.{IfOk}
use Rattle.tla_evaluator.proofs.Words.{All, Int, IsNormalOutcome, Normal, Op, Outcome, Place, Set, Value, Width, Wrong, all_set_items, from_on, items_of, numbered, on_all_sets, on_items, range, recursion_from_All, results, set_of, table, union_all, union_of}
use Rattle.std.proofs.lemmas.Int.{ints}
use Rattle.tla_values.proofs.SetLaws.{set_of-append}
use Rattle.tla_meaning.proofs.NormalTable.{table_normal}
use Rattle.tla_evaluator.proofs.NumberLemmas.{size, out_size}
use Rattle.std.specs.Option.{ok_or}
use Rattle.tla_evaluator.specs.declared.answers.Stop.{Stop}
use Rattle.tla_evaluator.specs.declared.answers.Stop.TheVariants as stop
use Rattle.tla_evaluator.specs.inner.Gives.{Gives}
use Rattle.tla_evaluator.specs.inner.Results.{all_of}
use Rattle.std.proofs.lemmas.Option.{same_Some}

abbrev Pair : Type 0
Pair = Value × Value

-- the row of normal operands is normal
pub row_normal : {E : Type 0} (r : Result Outcome E) (w : Width) (p : Place) (o : Op) (vs : List Value) → All Normal vs →
    IfOk r (λ q. q ≡ table w p o vs) → IfOk r IsNormalOutcome
row_normal (Err x) w p o vs h is = tt
row_normal (Ok q) w p o vs h is = subst IsNormalOutcome (sym is) (table_normal w p o vs (recursion_from_All Normal vs h))

-- what is given of the results of a sequence
pub items_give : (r : Result Value Stop) (p : Place) (f : List Value → Outcome) (ps qs rs : List Pair) → qs ≡ ps → rs ≡ ps →
    items_of qs ≡ Some (results qs) → Gives (f (results rs)) r → Gives (on_items p f (items_of ps)) r
items_give r p f ps qs rs same also is h =
    let to : f (results rs) ≡ on_items p f (items_of ps) =
    ap (λ l. f (results l)) (also ∙ sym same) ∙ ap (on_items p f) (sym is) ∙ ap (λ l. on_items p f (items_of l)) same in
    subst (λ o. Gives o r) to h

-- ---- unions of sets

pub union_all_is : (xss : List (List Value)) → union_all xss ≡ set_of (all_of xss)
union_all_is [] = refl
union_all_is (xs ∷ xss) = ap (union_of xs) (union_all_is xss) ∙ sym (set_of-append xs (all_of xss))

-- what is made of the items of all sets, where there are such, and what stops it else
module _ {X Y : Type 0} (h : List (List Value) → X) (g : Y → X) (p : Place) (f : List (List Value) → Outcome) (vs : List Value) (o : Option Y) where
  pub sets_give : (y : Y) (q : Outcome) → option_map h (all_set_items vs) ≡ option_map g o → o ≡ Some y →
      ((xss : List (List Value)) → h xss ≡ g y → f xss ≡ q) → on_all_sets p f vs ≡ q
  sets_give y q e is go = found (all_set_items vs) (e ∙ ap (option_map g) is)
    where
      found : (l : Option (List (List Value))) → option_map h l ≡ Some (g y) → elim l [ None ↦ Wrong p | Some xss ↦ f xss ] ≡ q
      found None k = absurd (cc)
      found (Some xss) k = go xss (same_Some (h xss) (g y) k)

  pub sets_stop : (s : Stop) → option_map h (all_set_items vs) ≡ option_map g o → Err s ≡ ok_or o (stop.Wrong p) → Gives (on_all_sets p f vs) (Err s)
  sets_stop s e is = lost o (all_set_items vs) e is
    where
      lost : (o : Option Y) (l : Option (List (List Value))) → option_map h l ≡ option_map g o → Err s ≡ ok_or o (stop.Wrong p) →
          Gives (elim l [ None ↦ Wrong p | Some xss ↦ f xss ]) (Err s)
      lost None None k is = let q : s ≡ stop.Wrong p = cc in subst (λ s. Gives (Wrong p) (Err s)) (sym q) refl
      lost None (Some xss) k is = absurd (cc)
      lost (Some y) l k is = absurd (cc)

-- ---- numbers in order

pub from_on-more : (a : ℤ) (n : ℕ) → from_on a (n + 1) ≡ from_on a n ++ Int (a +ℤ pos n) ∷ []
from_on-more a n = ap (from_on a) (add-one n) ∙ go a n
  where
    go : (a : ℤ) (n : ℕ) → from_on a (suc n) ≡ from_on a n ++ Int (a +ℤ pos n) ∷ []
    go a zero = let e : a ≡ a +ℤ pos 0 = omega (arith, ints) in ap (λ m. Int m ∷ []) e
    go a (suc n) = let e : (a +ℤ pos 1) +ℤ pos n ≡ a +ℤ pos (suc n) = omega (arith, ints) in
        ap (λ l. Int a ∷ l) (go (a +ℤ pos 1) n ∙ ap (λ m. from_on (a +ℤ pos 1) n ++ Int m ∷ []) e)

pub range_push : (a : ℤ) (n : Value) (old new : List Value) (k k' len : ℕ) → old ≡ from_on a k → n ≡ Int (a +ℤ pos len) → len ≡ k →
    new ≡ old ++ n ∷ [] → k' ≡ k + 1 → new ≡ from_on a k'
range_push a n old new k k' len eo en el ew ek =
    ew ∙ ap (λ l. l ++ n ∷ []) eo ∙ ap (λ m. from_on a k ++ m ∷ []) (en ∙ ap (λ j. Int (a +ℤ pos j)) el)
    ∙ sym (from_on-more a k) ∙ ap (from_on a) (sym ek)

pub range_whole : (a b a' b' : ℤ) (items xs : List Value) (k len : ℕ) → a' ≡ a → b' ≡ b → items ≡ from_on a' k → k ≤ size a' b' → len ≡ k →
    b' <ℤ (a' +ℤ pos len) → xs ≡ items → Set xs ≡ Set (range a b)
range_whole a b a' b' items xs k len ea eb e le el h ex =
    let lt : b' <ℤ (a' +ℤ pos k) = subst (λ j. b' <ℤ (a' +ℤ pos j)) el h in
    ap Set (ex ∙ e ∙ ap (from_on a') (out_size a' b' k le lt) ∙ ap (λ x. from_on x (size x b')) ea ∙ ap (λ y. from_on a (size a y)) eb)

-- ---- sequences

numbered-length : (n : ℕ) (xs : List Value) → length (numbered n xs) ≡ length xs
numbered-length n [] = refl
numbered-length n (x ∷ xs) = ap suc (numbered-length (n + 1) xs)

pub numbered-more : (n : ℕ) (xs : List Value) (x : Value) → numbered n (xs ++ x ∷ []) ≡ numbered n xs ++ (Int (pos (n + length xs)), x) ∷ []
numbered-more n [] x = let e : n ≡ n + 0 = omega arith in ap (λ k. (Int (pos k), x) ∷ []) e
numbered-more n (y ∷ xs) x =
    let e : (n + 1) + length xs ≡ n + suc (length xs) = omega arith in
    ap (λ l. (Int (pos n), y) ∷ l) (numbered-more (n + 1) xs x ∙ ap (λ k. numbered (n + 1) xs ++ (Int (pos k), x) ∷ []) e)

pub numbered-next : (xs : List Value) (x n : Value) (old new : List Pair) → old ≡ numbered 1 xs → n ≡ Int (pos (1 + length old)) →
    new ≡ old ++ (n, x) ∷ [] → new ≡ numbered 1 (xs ++ x ∷ [])
numbered-next xs x n old new e f g =
    g ∙ ap (λ k. old ++ (k, x) ∷ []) (f ∙ ap (λ l. Int (pos (1 + length l))) e ∙ ap (λ k. Int (pos (1 + k))) (numbered-length 1 xs))
    ∙ ap (λ l. l ++ (Int (pos (1 + length xs)), x) ∷ []) e ∙ sym (numbered-more 1 xs x)
