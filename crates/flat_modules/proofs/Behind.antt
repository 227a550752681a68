-- The modules behind those that they mention, by their names.
use Rattle.std.proofs.Common.{◌≡◌, ◌∙◌, ◌+◌, ◌<◌, ◌≤◌, Bool, true, false, cond, ℕ, zero, suc, List, [], ◌∷◌, ◌++◌, ◌&&◌, ◌||◌, map, filter, take, length, get_or, Option, Some, None, Result, Ok, Err, OnOk, refl, ap, sym, append_assoc, append-nil}
use Rattle.std.proofs.lemmas.Grind.{flat_map-append}
use Rattle.std.proofs.lemmas.List.{map-append, take_all, take_more}
use Rattle.std.proofs.lemmas.List.Elements.{filter_agree}
use Rattle.std.specs.List.{flat_map}
use Rattle.std.specs.Prelude.{not}
use Rattle.tla_meaning.specs.declared.modules.Module.{Module}
use Rattle.tla_meaning.specs.Flattening.{Modules, aliases_of, behind_mentioned, mentioned_files, once}
use Rattle.tla_meaning.specs.ReadingOrder.{is_among}
use Rattle.tla_meaning.specs.Scopes.{find_last, same_text}
use Rattle.flat_modules.specs.inner.Orders.{aliases_at, names_behind, with_names}
use Rattle.flat_modules.proofs.Names.{among_more, among_same, same_turned}

-- ---- lists

flat_map_agree : {X Y : Type 0} (f g : X → List Y) → ((x : X) → f x ≡ g x) → (xs : List X) → flat_map f xs ≡ flat_map g xs
flat_map_agree f g h [] = refl
flat_map_agree f g h (x ∷ xs) = ap (λ l. l ++ flat_map f xs) (h x) ∙ ap (λ l. g x ++ l) (flat_map_agree f g h xs)

map_flat_map : {X Y Z : Type 0} (f : Y → Z) (g : X → List Y) (xs : List X) → map f (flat_map g xs) ≡ flat_map (λ x. map f (g x)) xs
map_flat_map f g [] = refl
map_flat_map f g (x ∷ xs) = map-append f (g x) (flat_map g xs) ∙ ap (λ l. map f (g x) ++ l) (map_flat_map f g xs)

filter_filter : {X : Type 0} (p q : X → Bool) (xs : List X) → filter p (filter q xs) ≡ filter (λ x. q x && p x) xs
filter_filter {X} p q [] = refl
filter_filter {X} p q (x ∷ xs) = step (q x) (filter_filter p q xs)
  where
    step : (b : Bool) → filter p (filter q xs) ≡ filter (λ x. q x && p x) xs →
        filter p (cond b (x ∷ filter q xs) (filter q xs)) ≡ cond (b && p x) (x ∷ filter (λ x. q x && p x) xs) (filter (λ x. q x && p x) xs)
    step true h = ap (λ l. cond (p x) (x ∷ l) l) h
    step false h = h

-- ---- names, each where it comes first

abbrev first_names : List (List ℕ) → List (List ℕ)
first_names [] = []
first_names (x ∷ xs) = x ∷ filter (λ y. not (same_text x y)) (first_names xs)

abbrev apart : List (List ℕ) → List ℕ → Bool
apart seen y = not (is_among y seen)

apart_there : (seen : List (List ℕ)) (x y : List ℕ) → is_among x seen ≡ true → (not (same_text x y) && apart seen y) ≡ apart seen y
apart_there seen x y m = step (same_text x y) (λ h. among_same x y seen h m)
  where
    step : (b : Bool) → (b ≡ true → is_among y seen ≡ true) → (not b && apart seen y) ≡ apart seen y
    step true f = ap not (sym (f refl))
    step false f = refl

apart_more : (seen : List (List ℕ)) (x y : List ℕ) → (not (same_text x y) && apart seen y) ≡ apart (seen ++ x ∷ []) y
apart_more seen x y = step (same_text x y) (is_among y seen) (is_among y (seen ++ x ∷ [])) (among_more y seen (x ∷ []) ∙ ap (λ b. is_among y seen || (b || false)) (same_turned y x))
  where
    step : (b c d : Bool) → d ≡ (c || (b || false)) → (not b && not c) ≡ not d
    step true true d e = ap not (sym e)
    step true false d e = ap not (sym e)
    step false true d e = ap not (sym e)
    step false false d e = ap not (sym e)

with_names_step : (b : Bool) (seen xs os : List (List ℕ)) (x : List ℕ) → is_among x seen ≡ b →
    os ≡ filter (λ y. not (same_text x y)) (first_names xs) →
    with_names seen xs ≡ seen ++ filter (apart seen) (first_names xs) →
    with_names (seen ++ x ∷ []) xs ≡ (seen ++ x ∷ []) ++ filter (apart (seen ++ x ∷ [])) (first_names xs) →
    with_names (cond b seen (seen ++ x ∷ [])) xs ≡ seen ++ cond (not b) (x ∷ filter (apart seen) os) (filter (apart seen) os)
with_names_step true seen xs os x m o h k =
    h ∙ ap (λ l. seen ++ l)
    (sym (ap (filter (apart seen)) o ∙ filter_filter (apart seen) (λ y. not (same_text x y)) (first_names xs)
    ∙ filter_agree (λ y. not (same_text x y) && apart seen y) (apart seen) (λ y. apart_there seen x y m) (first_names xs)))
with_names_step false seen xs os x m o h k =
    k ∙ append_assoc seen (x ∷ []) (filter (apart (seen ++ x ∷ [])) (first_names xs))
    ∙ ap (λ l. seen ++ x ∷ l)
    (sym (ap (filter (apart seen)) o ∙ filter_filter (apart seen) (λ y. not (same_text x y)) (first_names xs)
    ∙ filter_agree (λ y. not (same_text x y) && apart seen y) (apart (seen ++ x ∷ [])) (λ y. apart_more seen x y) (first_names xs)))

with_names_first : (seen xs : List (List ℕ)) → with_names seen xs ≡ seen ++ filter (apart seen) (first_names xs)
with_names_first seen [] = sym (append-nil seen)
with_names_first seen (x ∷ xs) =
    with_names_step (is_among x seen) seen xs (filter (λ y. not (same_text x y)) (first_names xs)) x refl refl
    (with_names_first seen xs) (with_names_first (seen ++ x ∷ []) xs)

filter_all : {X : Type 0} (xs : List X) → filter (λ x. true) xs ≡ xs
filter_all [] = refl
filter_all (x ∷ xs) = ap (λ l. x ∷ l) (filter_all xs)

firsts : (xs : List (List ℕ)) → with_names [] xs ≡ first_names xs
firsts xs = with_names_first [] xs ∙ filter_all (first_names xs)

-- ---- modules by their names

abbrev names : Modules → List (List ℕ)
names xs = map (λ (x : List ℕ × Module). x.0) xs

names_filter : (x : List ℕ) (xs : Modules) → names (filter (λ (y : List ℕ × Module). not (same_text x y.0)) xs) ≡ filter (λ y. not (same_text x y)) (names xs)
names_filter x [] = refl
names_filter x (y ∷ ys) = step (not (same_text x y.0)) (names_filter x ys)
  where
    step : (b : Bool) → names (filter (λ (z : List ℕ × Module). not (same_text x z.0)) ys) ≡ filter (λ z. not (same_text x z)) (names ys) →
        names (cond b (y ∷ filter (λ (z : List ℕ × Module). not (same_text x z.0)) ys) (filter (λ (z : List ℕ × Module). not (same_text x z.0)) ys))
        ≡ cond b (y.0 ∷ filter (λ z. not (same_text x z)) (names ys)) (filter (λ z. not (same_text x z)) (names ys))
    step true h = ap (λ l. y.0 ∷ l) h
    step false h = h

names_once : (xs : Modules) → names (once xs) ≡ first_names (names xs)
names_once [] = refl
names_once (x ∷ xs) = ap (λ l. x.0 ∷ l) (names_filter x.0 (once xs) ∙ ap (filter (λ y. not (same_text x.0 y))) (names_once xs))

-- each is the module of its name
abbrev Found : Modules → Modules → Type 0
Found ms [] = Unit {0}
Found ms (x ∷ xs) = (find_last x.0 ms ≡ Some x.1) × Found ms xs

found_append : (ms xs ys : Modules) → Found ms xs → Found ms ys → Found ms (xs ++ ys)
found_append ms [] ys f g = g
found_append ms (x ∷ xs) ys f g = (f.0, found_append ms xs ys f.1 g)

found_flat_map : (ms : Modules) (g : List ℕ → Modules) → ((x : List ℕ) → Found ms (g x)) → (xs : List (List ℕ)) → Found ms (flat_map g xs)
found_flat_map ms g h [] = tt
found_flat_map ms g h (x ∷ xs) = found_append ms (g x) (flat_map g xs) (h x) (found_flat_map ms g h xs)

found_filter : (ms : Modules) (p : List ℕ × Module → Bool) (xs : Modules) → Found ms xs → Found ms (filter p xs)
found_filter ms p [] f = tt
found_filter ms p (x ∷ xs) f = step (p x) (found_filter ms p xs f.1)
  where
    step : (b : Bool) → Found ms (filter p xs) → Found ms (cond b (x ∷ filter p xs) (filter p xs))
    step true h = (f.0, h)
    step false h = h

found_once : (ms xs : Modules) → Found ms xs → Found ms (once xs)
found_once ms [] f = tt
found_once ms (x ∷ xs) f = (f.0, found_filter ms (λ y. not (same_text x.0 y.0)) (once xs) (found_once ms xs f.1))

at_found : (ms : Modules) (x : List ℕ) (o : Option Module) (m : Module) → o ≡ Some m → elim o [ None ↦ [] | Some m ↦ m.aliases ] ≡ m.aliases
at_found ms x o m e = ap (λ (o : Option Module). elim o [ None ↦ [] | Some m ↦ m.aliases ]) e

found_aliases : (ms xs : Modules) → Found ms xs → flat_map (λ (x : List ℕ × Module). (x.1).aliases) xs ≡ flat_map (aliases_at ms) (names xs)
found_aliases ms [] f = refl
found_aliases ms (x ∷ xs) f =
    ap (λ l. l ++ flat_map (λ (x : List ℕ × Module). (x.1).aliases) xs) (sym (at_found ms x.0 (find_last x.0 ms) x.1 f.0))
    ∙ ap (λ l. aliases_at ms x.0 ++ l) (found_aliases ms xs f.1)

behind_found : (n : ℕ) (ms : Modules) (x : List ℕ) → Found ms (behind_mentioned n ms x)
behind_found zero ms x = tt
behind_found (suc n) ms x = step (find_last x ms) refl (λ y. behind_found n ms y)
  where
    step : (o : Option Module) → find_last x ms ≡ o → ((y : List ℕ) → Found ms (behind_mentioned n ms y)) →
        Found ms (elim o [ None ↦ [] | Some m ↦ flat_map (behind_mentioned n ms) (mentioned_files m) ++ (x, m) ∷ [] ])
    step None e h = tt
    step (Some m) e h = found_append ms (flat_map (behind_mentioned n ms) (mentioned_files m)) ((x, m) ∷ []) (found_flat_map ms (behind_mentioned n ms) h (mentioned_files m)) (e, tt)

behind_names : (n : ℕ) (ms : Modules) (x : List ℕ) → names (behind_mentioned n ms x) ≡ names_behind n ms x
behind_names zero ms x = refl
behind_names (suc n) ms x = step (find_last x ms) (λ y. behind_names n ms y)
  where
    step : (o : Option Module) → ((y : List ℕ) → names (behind_mentioned n ms y) ≡ names_behind n ms y) →
        names (elim o [ None ↦ [] | Some m ↦ flat_map (behind_mentioned n ms) (mentioned_files m) ++ (x, m) ∷ [] ])
        ≡ elim o [ None ↦ [] | Some m ↦ flat_map (names_behind n ms) (mentioned_files m) ++ x ∷ [] ]
    step None h = refl
    step (Some m) h =
        map-append (λ (x : List ℕ × Module). x.0) (flat_map (behind_mentioned n ms) (mentioned_files m)) ((x, m) ∷ [])
        ∙ ap (λ l. l ++ x ∷ [])
        (map_flat_map (λ (x : List ℕ × Module). x.0) (behind_mentioned n ms) (mentioned_files m)
        ∙ flat_map_agree (λ y. names (behind_mentioned n ms y)) (names_behind n ms) h (mentioned_files m))

pub aliases_are : (ms : Modules) (x : List ℕ) → flat_map (aliases_at ms) (with_names [] (names_behind (length ms) ms x)) ≡ aliases_of ms x
aliases_are ms x =
    let behind = behind_mentioned (length ms) ms x in
    ap (flat_map (aliases_at ms)) (firsts (names_behind (length ms) ms x) ∙ sym (names_once behind ∙ ap first_names (behind_names (length ms) ms x)))
    ∙ sym (found_aliases ms (once behind) (found_once ms behind (behind_found (length ms) ms x)))

-- ---- the walk

pub names_more : (seen xs ys : List (List ℕ)) → with_names seen (xs ++ ys) ≡ with_names (with_names seen xs) ys
names_more seen [] ys = refl
names_more seen (x ∷ xs) ys = names_more (cond (is_among x seen) seen (seen ++ x ∷ [])) xs ys

pub behind_next : (n : ℕ) (ms : Modules) (start : List (List ℕ)) (xs : List (List ℕ)) (i : ℕ) (x : List ℕ) {mid new : List (List ℕ)} → i < length xs → x ≡ get_or xs i x →
    mid ≡ with_names start (flat_map (names_behind n ms) (take i xs)) → new ≡ with_names mid (names_behind n ms x) →
    new ≡ with_names start (flat_map (names_behind n ms) (take (i + 1) xs))
behind_next n ms start xs i x lt is m e =
    e ∙ ap (λ l. with_names l (names_behind n ms x)) m ∙ sym (names_more start (flat_map (names_behind n ms) (take i xs)) (names_behind n ms x))
    ∙ ap (with_names start)
    (sym (ap (flat_map (names_behind n ms)) (take_more xs i x lt ∙ ap (λ y. take i xs ++ y ∷ []) (sym is))
    ∙ flat_map-append (names_behind n ms) (take i xs) (x ∷ []) ∙ ap (λ l. flat_map (names_behind n ms) (take i xs) ++ l) (append-nil (names_behind n ms x))))

pub behind_some : (d n : ℕ) (ms : Modules) (start : List (List ℕ)) (x : List ℕ) (m : Module) {E : Type 0} (r : Result (Unit {0}) E) (mid new : List (List ℕ)) →
    d ≡ suc n → Some m ≡ find_last x ms → (i : ℕ) (ys : List (List ℕ)) → length ys ≤ i → ys ≡ mentioned_files m →
    mid ≡ with_names start (flat_map (names_behind n ms) (take i ys)) → OnOk r (new ≡ cond (is_among x mid) mid (mid ++ x ∷ [])) →
    OnOk r (new ≡ with_names start (names_behind d ms x))
behind_some d n ms start x m (Err e) mid new up f i ys le is h k = tt
behind_some d n ms start x m (Ok u) mid new up f i ys le is h k =
    k ∙ ap (λ l. with_names l (x ∷ []))
    (h ∙ ap (λ l. with_names start (flat_map (names_behind n ms) l)) (take_all i ys le ∙ is))
    ∙ sym (names_more start (flat_map (names_behind n ms) (mentioned_files m)) (x ∷ []))
    ∙ ap (λ (o : Option Module). with_names start (elim o [ None ↦ [] | Some m ↦ flat_map (names_behind n ms) (mentioned_files m) ++ x ∷ [] ])) f
    ∙ ap (λ k. with_names start (names_behind k ms x)) (sym up)

pub aliases_all : (ms : Modules) (x : List ℕ) (i : ℕ) (ys : List (List ℕ)) {none seen : List (List ℕ)} {made : List (List ℕ × List ℕ)} → length ys ≤ i →
    none ≡ [] → seen ≡ with_names none (names_behind (length ms) ms x) → ys ≡ seen → made ≡ flat_map (aliases_at ms) (take i ys) → made ≡ aliases_of ms x
aliases_all ms x i ys le n s is h =
    h ∙ ap (flat_map (aliases_at ms)) (take_all i ys le ∙ is ∙ s ∙ ap (λ l. with_names l (names_behind (length ms) ms x)) n) ∙ aliases_are ms x
