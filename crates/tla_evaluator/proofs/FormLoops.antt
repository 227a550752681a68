-- Steps of the loops over forms, and the first of several trees.
use Rattle.std.proofs.Common.{append_assoc, ◌≡◌, ℕ, ◌+◌, ◌<◌, ◌≤◌, List, [], ◌∷◌, ◌++◌, map, drop, get_or, length, refl, ap, ◌∙◌, sym, arith}
use Rattle.tla_evaluator.proofs.Words.{Expr, Formed, Place, State, Value, function_form}
use Rattle.tla_evaluator.specs.Trees.{form_at, forms_at, outcomes_at, value_at}
use Rattle.tla_evaluator.proofs.EvalSteps.{map_next}

module _ {X : Type 0} (f : X → Formed) (xs : List X) (i : ℕ) where
  -- the forms so far with those of the rest
  pub forms_next : (x : X) (ds es : List Formed) → i < length xs → x ≡ get_or xs i x → es ≡ ds ++ f x ∷ [] →
      ds ++ map f (drop i xs) ≡ map f xs → es ++ map f (drop (i + 1) xs) ≡ map f xs
  forms_next x ds es lt is e k =
      ap (λ l. l ++ map f (drop (i + 1) xs)) e ∙ append_assoc ds (f x ∷ []) (map f (drop (i + 1) xs))
      ∙ ap (λ l. ds ++ l) (sym (map_next f xs i x (f x) lt is refl)) ∙ k

-- the first tree and those behind it
pub function_parts : (w : ℕ) (vars : List (List ℕ × Value)) (s t : State) (p : Place) (es rest : List Expr) (x : Expr) → 1 ≤ length es → x ≡ get_or es 0 x → rest ≡ drop 1 es →
    function_form p (value_at w x vars s t ∷ outcomes_at w rest vars s t) (form_at w x vars s t ∷ forms_at w rest vars s t)
    ≡ function_form p (outcomes_at w es vars s t) (forms_at w es vars s t)
function_parts w vars s t p es rest x le is back =
    ap (λ z. function_form p (outcomes_at w (x ∷ z) vars s t) (forms_at w (x ∷ z) vars s t)) back
    ∙ ap (λ z. function_form p (outcomes_at w z vars s t) (forms_at w z vars s t)) (split es x le is)
  where
    split : (es : List Expr) (x : Expr) → 1 ≤ length es → x ≡ get_or es 0 x → x ∷ drop 1 es ≡ es
    split [] x le is = absurd (omega (arith, le))
    split (e ∷ es) x le is = ap (λ z. z ∷ es) is
