-- Functions made from the last pair on, so that the first of those with one argument stays.
use Rattle.std.proofs.Common.{◌≡◌, ℕ, zero, suc, ◌<◌, ◌≤◌, IsTrue, List, [], ◌∷◌, ◌++◌, length, take, drop, refl, sym, ◌∙◌, ap, arith, append_assoc, slice_set}
use Rattle.std.specs.declared.cmp.Ordering.TheVariants.{Less}
use Rattle.tla_values.specs.Order.{value_cmp}
use Rattle.tla_values.specs.Sets.{arguments, by_order, function_of, increasing, insert_pair}
use Rattle.tla_values.specs.declared.value.Value.{Value}
use Rattle.tla_values.proofs.FunLaws.{FoundAt, SplitAt, pair_split, rising_function}
use Rattle.tla_values.proofs.SetLaws.{Above, Rising, equal_back, greater_back, rising_to}
use Rattle.tla_values.proofs.TotalLemmas.{value_equal}

abbrev Pair : Type 0
Pair = Value × Value

pub rising_done : (function s done : List Pair) → s ≡ function → function ≡ function_of done → IsTrue (increasing (arguments s))
rising_done function s done e f = rw (e ∙ f) (rising_to (arguments (function_of done)) (rising_function done))

-- a pair in the place of that with its argument
pub pair_found : (q : Pair) (ps : List Pair) (i : ℕ) → Rising (arguments ps) → i < length ps → FoundAt q.0 ps i → insert_pair q ps ≡ slice_set ps i q
pair_found q [] i r lt f = absurd (omega arith)
pair_found q (p ∷ ps) zero r lt f =
    ap (λ o. by_order o (q ∷ p ∷ ps) (q ∷ ps) (p ∷ insert_pair q ps)) (equal_back p.0 q.0 (f q))
pair_found q (p ∷ ps) (suc i) r lt f =
    let below = before q.0 p ps i r.0 (omega arith) (λ d. f d) in
    ap (λ o. by_order o (q ∷ p ∷ ps) (q ∷ ps) (p ∷ insert_pair q ps)) (greater_back p.0 q.0 below)
    ∙ ap (λ l. p ∷ l) (pair_found q ps i r.1 (omega arith) (λ d. f d))
  where
    before : (a : Value) (p : Pair) (ps : List Pair) (i : ℕ) → Above p.0 (arguments ps) → i < length ps → FoundAt a ps i → value_cmp p.0 a ≡ Less
    before a p [] i h lt f = absurd (omega arith)
    before a p (q ∷ ps) zero h lt f = ap (value_cmp p.0) (sym (value_equal q.0 a (f q))) ∙ h.0
    before a p (q ∷ ps) (suc i) h lt f = before a p ps i h.1 (omega arith) f

-- one more pair
module _ (all rest left done function s : List Pair) (q : Pair) (i : ℕ)
    (whole : all ≡ rest ++ done) (popped : rest ≡ left ++ q ∷ []) (made : function ≡ function_of done) (read : s ≡ function) where
  abbrev Done : List Pair → Type 0
  Done new = (more : List Pair) × (all ≡ left ++ more) × (new ≡ function_of more)

  regrouped : all ≡ left ++ q ∷ done
  regrouped = whole ∙ ap (λ l. l ++ done) popped ∙ append_assoc left (q ∷ []) done

  pub one_found : (new : List Pair) → i < length s → FoundAt q.0 s i → new ≡ slice_set function i q → Done new
  one_found new lt f e = (
    q ∷ done,
    regrouped,
    e ∙ ap (λ l. slice_set l i q) (sym read) ∙ sym (pair_found q s i (rw (read ∙ made) (rising_function done)) lt f) ∙ ap (insert_pair q) (read ∙ made),
  )

  pub one_new : (new : List Pair) → i ≤ length s → SplitAt q.0 s i → new ≡ take i function ++ q ∷ drop i function → Done new
  one_new new le p e = (
    q ∷ done,
    regrouped,
    e ∙ ap (λ l. take i l ++ q ∷ drop i l) (sym read) ∙ sym (pair_split q s i le p) ∙ ap (insert_pair q) (read ∙ made),
  )
