-- The search for a name from the end.
use Rattle.std.proofs.Common.{◌≡◌, ℕ, ◌+◌, ◌<◌, true, false, cond, List, [], ◌∷◌, ◌++◌, length, take, get_or, map, Option, Some, None, refl, ap, ◌∙◌, sym, if◌then◌else◌}
use Rattle.std.proofs.lemmas.List.{take_more}
use Rattle.tla_meaning.specs.Scopes.{find_last, or_else, same_text}

module _ {X : Type 0} (x : List ℕ) where
  abbrev here : List ℕ × X → Option X
  here e = if same_text x e.0 then Some e.1 else None

  or_none : (o : Option X) → or_else o None ≡ o
  or_none None = refl
  or_none (Some v) = refl

  or_assoc : (a b c : Option X) → or_else (or_else a b) c ≡ or_else a (or_else b c)
  or_assoc None b c = refl
  or_assoc (Some v) b c = refl

  find_last-snoc : (es : List (List ℕ × X)) (e : List ℕ × X) →
      find_last x (es ++ e ∷ []) ≡ or_else (here e) (find_last x es)
  find_last-snoc [] e = sym (or_none (here e))
  find_last-snoc (d ∷ es) e =
      ap (λ o. or_else o (here d)) (find_last-snoc es e) ∙ or_assoc (here e) (find_last x es) (here d)

module _ {X Y : Type 0} (x : List ℕ) (f : Y → List ℕ × X) (ys : List Y) (i : ℕ) where
  mapped : (ys : List Y) (y : Y) → map f (ys ++ y ∷ []) ≡ map f ys ++ f y ∷ []
  mapped [] y = refl
  mapped (z ∷ ys) y = ap (λ l. f z ∷ l) (mapped ys y)

  last_of : (j : ℕ) (y : Y) → j ≡ i + 1 → i < length ys → y ≡ get_or ys i y →
      find_last x (map f (take j ys)) ≡ or_else (if same_text x (f y).0 then Some (f y).1 else None) (find_last x (map f (take i ys)))
  last_of j y ji lt is =
      ap (λ n. find_last x (map f (take n ys))) ji ∙ ap (λ l. find_last x (map f l)) (take_more ys i y lt)
      ∙ ap (find_last x) (mapped (take i ys) (get_or ys i y)) ∙ find_last-snoc x (map f (take i ys)) (f (get_or ys i y))
      ∙ ap (λ d. or_else (if same_text x (f d).0 then Some (f d).1 else None) (find_last x (map f (take i ys)))) (sym is)

  pub find_last-hit : (j : ℕ) (y : Y) → j ≡ i + 1 → i < length ys → y ≡ get_or ys i y → same_text x (f y).0 ≡ true →
      find_last x (map f (take j ys)) ≡ Some (f y).1
  find_last-hit j y ji lt is h =
      last_of j y ji lt is ∙ ap (λ b. or_else (cond b (Some (f y).1) None) (find_last x (map f (take i ys)))) h

  pub find_last-miss : (j : ℕ) (y : Y) → j ≡ i + 1 → i < length ys → y ≡ get_or ys i y → same_text x (f y).0 ≡ false →
      find_last x (map f (take j ys)) ≡ find_last x (map f (take i ys))
  find_last-miss j y ji lt is h =
      last_of j y ji lt is ∙ ap (λ b. or_else (cond b (Some (f y).1) None) (find_last x (map f (take i ys)))) h
