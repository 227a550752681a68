-- Bound names have normal values, where the domains are normal.
use Rattle.std.proofs.Common.{◌≡◌, ℕ, false, List, [], ◌∷◌, ◌++◌, Option, Some, None, option_map, subst, sym}
use Rattle.tla_evaluator.proofs.Words.{All, All-append, All-from_recursion, All-weaker, AllByRecursion, Normal, State, Value, all_set_items, bound_to, choices, recursion_from_All}
use Rattle.tla_meaning.proofs.NormalShapes.{Normals, NormalSet, NormalLists, IfSomes, truth_normal, all_items_normal, choices_normal, lists_of}
use Rattle.tla_evaluator.specs.Trees.{AreNormal}

-- all lists of normal values
normal_lists : (xss : List (List Value)) → NormalLists xss → All (λ xs. All Normal xs) xss
normal_lists xss h =
    All-weaker Normals (λ xs. All Normal xs) (λ xs r. All-from_recursion Normal xs r) xss (All-from_recursion Normals xss h)

-- one item of each of these sets, in every way
pub choices_are_normal : (vs : List Value) (cs : List (List Value)) → All Normal vs → option_map choices (all_set_items vs) ≡ Some cs →
    All (λ c. All Normal c) cs
choices_are_normal vs cs h e = go (all_set_items vs) (all_items_normal vs (recursion_from_All Normal vs h)) e
  where
    go : (o : Option (List (List Value))) → IfSomes (λ xss. AllByRecursion NormalSet xss) o → option_map choices o ≡ Some cs → All (λ c. All Normal c) cs
    go None k is = absurd (cc)
    go (Some xss) k is =
        let same : choices xss ≡ cs = cc in
        subst (λ css. All (λ c. All Normal c) css) same (normal_lists (choices xss) (choices_normal xss (lists_of xss k)))

entries : (names : List (List ℕ)) (c : List Value) → Normals c → AllByRecursion (λ b. Normal b.1) (bound_to names c)
entries [] c h = tt
entries (x ∷ xs) [] h = (truth_normal false, entries xs [] h)
entries (x ∷ xs) (v ∷ vs) h = (h.0, entries xs vs h.1)

-- names bound to normal values beside
pub bound_are_normal : (vars : List (List ℕ × Value)) (names : List (List ℕ)) (c : List Value) (s t : State) →
    AreNormal vars s t → All Normal c → AreNormal (vars ++ bound_to names c) s t
bound_are_normal vars names c s t h k = record {
  bound =
      All-append (λ b. Normal b.1) vars (bound_to names c) h.bound
      (All-from_recursion (λ b. Normal b.1) (bound_to names c) (entries names c (recursion_from_All Normal c k)));
  now = h.now;
  next = h.next;
}

pub longer_normal : (vars long : List (List ℕ × Value)) (names : List (List ℕ)) (c : List Value) (s t : State) → long ≡ vars ++ bound_to names c →
    AreNormal vars s t → All Normal c → AreNormal long s t
longer_normal vars long names c s t same h k = subst (λ v. AreNormal v s t) (sym same) (bound_are_normal vars names c s t h k)
