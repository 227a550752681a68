use Rattle.std.proofs.Common.{◌≡◌, ℕ, List, [], ◌∷◌, ◌++◌, map, flat_map, refl, ◌∙◌, ap, append_assoc}
use Rattle.std.proofs.lemmas.Grind.{flat_map-append}
use Rattle.std.proofs.lemmas.List.{append-nil}
use Rattle.refutation_checker.specs.Certificate.{text_of_lines}

-- the lines that items are printed as
pub lines_of_items : {X : Type 0} (f : X → List ℕ) (xs : List X) → text_of_lines (map f xs) ≡ flat_map (λ x. f x ++ 10 ∷ []) xs
lines_of_items f [] = refl
lines_of_items f (x ∷ xs) = ap (λ t. (f x ++ 10 ∷ []) ++ t) (lines_of_items f xs)

-- a section's parts, printed one after another
pub text_of_parts : {X Y : Type 0} (f : X → List ℕ) (g : Y → List ℕ) (query header log last : List ℕ) (cs : List X) (ss : List Y)
    → text_of_lines (query ∷ header ∷ map f cs ++ log ∷ map g ss ++ last ∷ [])
    ≡ [] ++ query ++ 10 ∷ [] ++ header ++ 10 ∷ [] ++ flat_map (λ c. f c ++ 10 ∷ []) cs ++ (log ++ 10 ∷ []) ++ flat_map (λ s. g s ++ 10 ∷ []) ss ++ last ++ 10 ∷ []
text_of_parts {X} {Y} f g query header log last cs ss =
    let E : List ℕ → List ℕ = λ l. l ++ 10 ∷ [] in
    let body = flat_map-append E (map f cs) (log ∷ map g ss) in
    let all : flat_map E (map f cs ++ log ∷ map g ss ++ last ∷ []) ≡ flat_map E (map f cs) ++ (E log ++ flat_map E (map g ss)) ++ (E last ++ []) =
    flat_map-append E (map f cs ++ log ∷ map g ss) (last ∷ []) ∙ ap (λ t. t ++ (E last ++ [])) body in
    ap (λ t. E query ++ (E header ++ t)) all
    ∙ ap (λ t. E query ++ (E header ++ (t ++ (E log ++ flat_map E (map g ss)) ++ (E last ++ [])))) (lines_of_items f cs)
    ∙ ap (λ t. E query ++ (E header ++ (flat_map (λ c. f c ++ 10 ∷ []) cs ++ (E log ++ t) ++ (E last ++ [])))) (lines_of_items g ss)
    ∙ simp (append_assoc, append-nil) refl
