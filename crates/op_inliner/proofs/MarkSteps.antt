-- Marks of the children of an EXCEPT.
use Rattle.std.proofs.Common.{◌≡◌, ◌<◌, ℕ, ◌+◌, Bool, true, false, List, [], ◌∷◌, ◌++◌, get_or, length, replicate, take, refl, ap, ◌∙◌, sym}
use Rattle.std.proofs.lemmas.List.{append_assoc, take_more}
use Rattle.tla_meaning.specs.Meaning.{except_marks}

except_more : (ns : List ℕ) (n : ℕ) → except_marks (ns ++ n ∷ []) ≡ except_marks ns ++ (replicate n false ++ true ∷ [])
except_more [] n = refl
except_more (m ∷ ns) n =
    ap (λ (bs : List Bool). replicate m false ++ true ∷ bs) (except_more ns n)
    ∙ sym (append_assoc (replicate m false) (true ∷ except_marks ns) (replicate n false ++ true ∷ []))

pub marks_step : (ns : List ℕ) (i n : ℕ) (old new : List Bool) → i < length ns → n ≡ get_or ns i 0 → old ≡ false ∷ except_marks (take i ns) →
    new ≡ old ++ (replicate n false ++ true ∷ []) → new ≡ false ∷ except_marks (take (i + 1) ns)
marks_step ns i n old new h e a b =
    b ∙ ap (λ (bs : List Bool). bs ++ (replicate n false ++ true ∷ [])) a
    ∙ ap (λ (bs : List Bool). false ∷ bs) (sym (except_more (take i ns) n))
    ∙ ap (λ (ms : List ℕ). false ∷ except_marks ms) (ap (λ (m : ℕ). take i ns ++ m ∷ []) e ∙ sym (take_more ns i 0 h))
