-- Modules that are there with all that they mention.
use Rattle.std.proofs.Common.{◌≡◌, ◌∙◌, ◌≤◌, ℕ, zero, suc, Bool, true, false, cond, List, [], ◌∷◌, ◌++◌, ◌&&◌, ◌||◌, Option, Some, None, OnOk, Result, Ok, Err, refl, ap, sym, arith}
use Rattle.std.proofs.lemmas.Bool.{and_parts, false≢true}
use Rattle.std.proofs.lemmas.List.Folds.{list_all-append, list_any-append}
use Rattle.std.specs.List.{flat_map}
use Rattle.tla_meaning.specs.declared.modules.Module.{Module}
use Rattle.tla_meaning.specs.Flattening.{Modules, mentioned_files}
use Rattle.tla_meaning.specs.ReadingOrder.{is_among}
use Rattle.tla_meaning.specs.Scopes.{find_last, same_text}
use Rattle.flat_modules.proofs.Names.{same_self}
use Rattle.flat_modules.specs.declared.aliases.Behind.{Behind}
use Rattle.flat_modules.proofs.Depths.{either}
use Rattle.flat_modules.specs.inner.Orders.{AddsBehind, AreBehind, all_among, names_behind, with_names}

abbrev one_more : List (List ℕ) → List ℕ → List (List ℕ)
one_more seen x = cond (is_among x seen) seen (seen ++ x ∷ [])

-- what is there stays, and what is added is there
stays : (seen : List (List ℕ)) (x y : List ℕ) → is_among y seen ≡ true → is_among y (one_more seen x) ≡ true
stays seen x y h = step (is_among x seen)
  where
    step : (b : Bool) → is_among y (cond b seen (seen ++ x ∷ [])) ≡ true
    step true = h
    step false = list_any-append (same_text y) seen (x ∷ []) ∙ ap (λ b. b || (same_text y x || false)) h

there : (seen : List (List ℕ)) (x : List ℕ) → is_among x (one_more seen x) ≡ true
there seen x = step (is_among x seen) refl
  where
    or_true : (b : Bool) → (b || true) ≡ true
    or_true true = refl
    or_true false = refl

    step : (b : Bool) → is_among x seen ≡ b → is_among x (cond b seen (seen ++ x ∷ [])) ≡ true
    step true e = e
    step false e = list_any-append (same_text x) seen (x ∷ []) ∙ ap (λ b. is_among x seen || (b || false)) (same_self x) ∙ or_true (is_among x seen)

one_stays : (seen xs : List (List ℕ)) (y : List ℕ) → is_among y seen ≡ true → is_among y (with_names seen xs) ≡ true
one_stays seen [] y h = h
one_stays seen (x ∷ xs) y h = one_stays (one_more seen x) xs y (stays seen x y h)

pub all_stay : (seen xs ys : List (List ℕ)) → all_among seen ys ≡ true → all_among (with_names seen xs) ys ≡ true
all_stay seen xs [] h = refl
all_stay seen xs (y ∷ ys) h =
    let parts = and_parts (is_among y seen) (all_among seen ys) h in
    ap (λ b. b && all_among (with_names seen xs) ys) (one_stays seen xs y parts.0) ∙ all_stay seen xs ys parts.1

pub all_there : (seen xs : List (List ℕ)) → all_among (with_names seen xs) xs ≡ true
all_there seen [] = refl
all_there seen (x ∷ xs) =
    ap (λ b. b && all_among (with_names (one_more seen x) xs) xs) (one_stays (one_more seen x) xs x (there seen x)) ∙ all_there (one_more seen x) xs

-- nothing is added where all are there
pub none_new : (seen xs : List (List ℕ)) → all_among seen xs ≡ true → with_names seen xs ≡ seen
none_new seen [] h = refl
none_new seen (x ∷ xs) h =
    let parts = and_parts (is_among x seen) (all_among seen xs) h in
    ap (λ b. with_names (cond b seen (seen ++ x ∷ [])) xs) parts.0 ∙ none_new seen xs parts.1

-- less deep there are no others
abbrev Within : List (List ℕ) → (List ℕ → List (List ℕ)) → (List ℕ → List (List ℕ)) → Type 0
Within seen f g = (x : List ℕ) → all_among seen (f x) ≡ true → all_among seen (g x) ≡ true

both : (a b : Bool) → a ≡ true → b ≡ true → (a && b) ≡ true
both true b e h = h
both false b e h = absurd (false≢true e)

map_within : (seen : List (List ℕ)) (f g : List ℕ → List (List ℕ)) → Within seen f g → (xs : List (List ℕ)) → all_among seen (flat_map f xs) ≡ true → all_among seen (flat_map g xs) ≡ true
map_within seen f g h [] e = refl
map_within seen f g h (x ∷ xs) e =
    let parts = and_parts (all_among seen (f x)) (all_among seen (flat_map f xs)) (sym (list_all-append (λ x. is_among x seen) (f x) (flat_map f xs)) ∙ e) in
    list_all-append (λ x. is_among x seen) (g x) (flat_map g xs) ∙ both (all_among seen (g x)) (all_among seen (flat_map g xs)) (h x parts.0) (map_within seen f g h xs parts.1)

pub less_deep : (n d : ℕ) (ms : Modules) (seen : List (List ℕ)) → d ≤ n → Within seen (names_behind n ms) (names_behind d ms)
less_deep n zero ms seen le x e = refl
less_deep zero (suc d) ms seen le x e = absurd (omega arith)
less_deep (suc n) (suc d) ms seen le x e = step (find_last x ms) (λ y. less_deep n d ms seen (omega arith) y) e
  where
    step : (o : Option Module) → Within seen (names_behind n ms) (names_behind d ms) →
        all_among seen (elim o [ None ↦ [] | Some m ↦ flat_map (names_behind n ms) (mentioned_files m) ++ x ∷ [] ]) ≡ true →
        all_among seen (elim o [ None ↦ [] | Some m ↦ flat_map (names_behind d ms) (mentioned_files m) ++ x ∷ [] ]) ≡ true
    step None h e = refl
    step (Some m) h e =
        let fs = mentioned_files m in
        let parts = and_parts (all_among seen (flat_map (names_behind n ms) fs)) (all_among seen (x ∷ []))
        (sym (list_all-append (λ x. is_among x seen) (flat_map (names_behind n ms) fs) (x ∷ [])) ∙ e) in
        list_all-append (λ x. is_among x seen) (flat_map (names_behind d ms) fs) (x ∷ [])
        ∙ both (all_among seen (flat_map (names_behind d ms) fs)) (all_among seen (x ∷ [])) (map_within seen (names_behind n ms) (names_behind d ms) h fs parts.0) parts.1

-- ---- the walk

pub walked_before : (ms : Modules) (b : Behind) (x : List ℕ) (d n : ℕ) → AreBehind ms b → Some n ≡ find_last x b.walked.items → d ≤ n → all_among b.names.items (names_behind d ms x) ≡ true
walked_before ms b x d n behind found le = less_deep n d ms b.names.items le x (behind x n (sym found))

pub walked_more : (ms : Modules) (start : List (List ℕ)) (old new : Behind) (x : List ℕ) (d : ℕ) → AreBehind ms old → AddsBehind old new x d →
    new.names.items ≡ with_names start (names_behind d ms x) → AreBehind ms new
walked_more ms start old new x d behind adds whole y e h =
    either (λ y e. all_among new.names.items (names_behind e ms y) ≡ true) x d old.walked.items
    (ap (λ l. all_among l (names_behind d ms x)) whole ∙ all_there start (names_behind d ms x))
    (λ z f g. ap (λ l. all_among l (names_behind f ms z)) adds.names ∙ all_stay old.names.items (x ∷ []) (names_behind f ms z) (behind z f g))
    y e (ap (find_last y) (sym adds.walked) ∙ h)

pub both_ok : {X E A B C : Type 0} (r : Result X E) → (A → B → C) → OnOk r A → OnOk r B → OnOk r C
both_ok (Ok x) f a b = f a b
both_ok (Err e) f a b = tt
