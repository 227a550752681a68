-- Notes with line feeds between them.
use Rattle.std.proofs.Common.{◌≡◌, ℕ, ◌+◌, ◌<◌, ◌≤◌, List, [], ◌∷◌, ◌++◌, map, length, take, get_or, sym, ◌∙◌, ap, arith}
use Rattle.std.specs.List.{join_with_byte}
use Rattle.std.proofs.lemmas.List.{append_assoc, map-append, take_more, length-map, length-take-le}

-- one more note
join_more : (c : ℕ) (notes : List (List ℕ)) (note : List ℕ) → 0 < length notes → join_with_byte c (notes ++ note ∷ []) ≡ (join_with_byte c notes ++ c ∷ []) ++ note
join_more c [] note some = absurd (omega arith)
join_more c (x ∷ []) note some = sym (append_assoc x (c ∷ []) note)
join_more c (x ∷ y ∷ notes) note some =
    ap (λ t. x ++ (c ∷ t)) (join_more c (y ∷ notes) note (omega arith))
    ∙ ap (λ t. x ++ t) (sym (append_assoc (c ∷ []) (join_with_byte c (y ∷ notes) ++ c ∷ []) note) ∙ ap (λ t. t ++ note) (sym (append_assoc (c ∷ []) (join_with_byte c (y ∷ notes)) (c ∷ []))))
    ∙ sym (append_assoc x _ note) ∙ ap (λ t. t ++ note) (sym (append_assoc x (c ∷ join_with_byte c (y ∷ notes)) (c ∷ [])))

one_more : {X : Type 0} (f : X → List ℕ) (xs : List X) (i : ℕ) (d : X) → i < length xs → map f (take (i + 1) xs) ≡ map f (take i xs) ++ f (get_or xs i d) ∷ []
one_more f xs i d lt = ap (map f) (take_more xs i d lt) ∙ map-append f (take i xs) (get_or xs i d ∷ [])

pub join_first : {X : Type 0} (f : X → List ℕ) (xs : List X) (i : ℕ) (d : X) (text : List ℕ) → i < length xs → i ≤ 0
    → text ≡ join_with_byte 10 (map f (take i xs)) → text ++ f (get_or xs i d) ≡ join_with_byte 10 (map f (take (i + 1) xs))
join_first f xs i d text lt first so_far =
    let none : i ≡ 0 = omega arith in
    let nothing : map f (take i xs) ≡ [] = ap (λ n. map f (take n xs)) none in
    ap (λ t. t ++ f (get_or xs i d)) (so_far ∙ ap (join_with_byte 10) nothing)
    ∙ sym (ap (join_with_byte 10) (one_more f xs i d lt ∙ ap (λ t. t ++ f (get_or xs i d) ∷ []) nothing))

pub join_next : {X : Type 0} (f : X → List ℕ) (xs : List X) (i : ℕ) (d : X) (text mid : List ℕ) → i < length xs → 0 < i
    → text ≡ join_with_byte 10 (map f (take i xs)) → mid ≡ text ++ 10 ∷ [] → mid ++ f (get_or xs i d) ≡ join_with_byte 10 (map f (take (i + 1) xs))
join_next f xs i d text mid lt some so_far feed =
    let size : length (map f (take i xs)) ≡ i = length-map (take i xs) f ∙ length-take-le i xs (omega arith) in
    ap (λ t. t ++ f (get_or xs i d)) (feed ∙ ap (λ t. t ++ 10 ∷ []) so_far)
    ∙ sym (ap (join_with_byte 10) (one_more f xs i d lt) ∙ join_more 10 (map f (take i xs)) (f (get_or xs i d)) (omega arith))
