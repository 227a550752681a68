-- The search for names in lists.
use Rattle.std.proofs.Common.{◌≡◌, ◌∙◌, ◌+◌, ◌<◌, ℕ, true, false, List, [], ◌∷◌, map, take, length, get_or, refl, ap, sym, Some}
use Rattle.tla_meaning.specs.Scopes.{find_last, same_text}
use Rattle.tla_meaning.proofs.NameSearch.{find_last-hit, find_last-miss}

same_items : {X : Type 0} (xs : List X) → map (λ x. x) xs ≡ xs
same_items [] = refl
same_items (x ∷ xs) = ap (λ l. x ∷ l) (same_items xs)

module _ {X : Type 0} (x : List ℕ) (es : List (List ℕ × X)) (i j : ℕ) (e : List ℕ × X) (up : j ≡ i + 1) (lt : i < length es) (is : e ≡ get_or es i e) where
  pub last_hit : same_text x e.0 ≡ true → find_last x (take j es) ≡ Some e.1
  last_hit h = ap (find_last x) (sym (same_items (take j es))) ∙ find_last-hit x (λ d. d) es i j e up lt is h

  pub last_miss : same_text x e.0 ≡ false → find_last x (take j es) ≡ find_last x (take i es)
  last_miss h =
      ap (find_last x) (sym (same_items (take j es))) ∙ find_last-miss x (λ d. d) es i j e up lt is h ∙ ap (find_last x) (same_items (take i es))
