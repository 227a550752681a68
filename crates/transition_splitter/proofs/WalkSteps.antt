-- One operand more of a conjunction or a disjunction.
use Rattle.std.proofs.Common.{◌≡◌, ◌&&◌, Bool, ℕ, ◌+◌, ◌<◌, true, List, [], ◌∷◌, ◌++◌, map, take, drop, length}
use Rattle.std.proofs.Common.{get_or, refl, sym}
use Rattle.std.proofs.Common.{◌∙◌, ap, ap₂, Some}
use Rattle.std.specs.List.{list_all}
use Rattle.std.proofs.lemmas.List.{append-nil, map-append, take_more, take-append-drop}
use Rattle.kernel_trees.specs.declared.kernel.Ker.{Ker, out-Ker}
use Rattle.kernel_trees.specs.Paths.{Marks, Step, ends_at, ways}
use Rattle.kernel_trees.specs.Ways.{Way, after_each, after, all_of, any_of, branch, has_ended, one_after}
use Rattle.transition_splitter.specs.declared.counts.Tally.{Tally}
use Rattle.transition_splitter.specs.inner.Counts.{behind, both, tally}
use Rattle.transition_splitter.specs.declared.routes.LentStep.{LentStep}
use Rattle.transition_splitter.specs.declared.routes.Route.{Route}
use Rattle.transition_splitter.specs.inner.Routes.{has_way_ended, rooted, step_lent, way, ways_by}
use Rattle.transition_splitter.proofs.Following.{last_ends, all_more, all_stops, any_more, each_append}
use Rattle.transition_splitter.proofs.Tallying.{tally_append, tally_behind, tally_each}

abbrev Ways : Type 0
Ways = List (Way Step)

-- ---- lists

pub map_more : {X Y : Type 0} (f : X → Y) (xs : List X) (i : ℕ) (x : X) → i < length xs → x ≡ get_or xs i x →
    map f (take (i + 1) xs) ≡ map f (take i xs) ++ f x ∷ []
map_more f xs i x h e =
    ap (map f) (take_more xs i x h)
    ∙ map-append f (take i xs) (get_or xs i x ∷ [])
    ∙ sym (ap (λ y. map f (take i xs) ++ f y ∷ []) e)

-- ---- conjunctions

pub all_of_more : (m : Marks) (ks : List Ker) (i : ℕ) (k : Ker) (ys zs new : Ways) → i < length ks → k ≡ get_or ks i k →
    ys ≡ all_of ends_at (map (ways m) (take i ks)) → zs ≡ ways m k → new ≡ after_each ends_at ys zs →
    new ≡ all_of ends_at (map (ways m) (take (i + 1) ks))
all_of_more m ks i k ys zs new h e a b c =
    c
    ∙ ap₂ (after_each ends_at) a b
    ∙ sym (all_more (map (ways m) (take i ks)) (ways m k))
    ∙ sym (ap (all_of ends_at) (map_more (ways m) ks i k h e))

pub all_of_stops : (m : Marks) (ks : List Ker) (i : ℕ) (ys : Ways) → ys ≡ all_of ends_at (map (ways m) (take i ks)) →
    list_all has_way_ended ys ≡ true → ys ≡ all_of ends_at (map (ways m) ks)
all_of_stops m ks i ys a h =
    a
    ∙ sym (all_stops (map (ways m) (take i ks)) (map (ways m) (drop i ks)) (ap (list_all has_way_ended) (sym a) ∙ h))
    ∙ sym (ap (all_of ends_at) (map-append (ways m) (take i ks) (drop i ks)))
    ∙ ap (λ (ks : List Ker). all_of ends_at (map (ways m) ks)) (take-append-drop i ks)

pub all_tally_more : (m : Marks) (ks : List Ker) (i : ℕ) (k : Ker) (whole one new : Tally) → i < length ks →
    k ≡ get_or ks i k →
    whole ≡ tally (all_of ends_at (map (ways m) (take i ks))) → one ≡ tally (ways m k) → new ≡ behind whole one →
    new ≡ tally (all_of ends_at (map (ways m) (take (i + 1) ks)))
all_tally_more m ks i k whole one new h e a b c =
    c
    ∙ ap₂ behind a b
    ∙ sym (tally_each (all_of ends_at (map (ways m) (take i ks))) (ways m k))
    ∙ ap tally (all_of_more m ks i k (all_of ends_at (map (ways m) (take i ks))) (ways m k)
    (after_each ends_at (all_of ends_at (map (ways m) (take i ks))) (ways m k)) h e refl refl refl)

-- ---- disjunctions

any_parts : (m : Marks) (ks : List Ker) (i : ℕ) (k : Ker) → i < length ks → k ≡ get_or ks i k →
    any_of (map (rooted m) (take (i + 1) ks))
    ≡ any_of (map (rooted m) (take i ks)) ++ branch [] (out-Ker k).place (ways m k)
any_parts m ks i k h e =
    ap any_of (map_more (rooted m) ks i k h e)
    ∙ any_more (map (rooted m) (take i ks)) (rooted m k)

pub any_of_more : (m : Marks) (ks : List Ker) (i : ℕ) (k : Ker) (ys zs new : Ways) → i < length ks → k ≡ get_or ks i k →
    ys ≡ any_of (map (rooted m) (take i ks)) → zs ≡ ways m k →
    new ≡ ys ++ map (one_after (record { taken = Some (out-Ker k).place; steps = [] })) zs →
    new ≡ any_of (map (rooted m) (take (i + 1) ks))
any_of_more m ks i k ys zs new h e a b c =
    c
    ∙ ap₂ (λ (ys zs : Ways). ys ++ branch [] (out-Ker k).place zs) a b
    ∙ sym (any_parts m ks i k h e)

pub any_tally_more : (m : Marks) (ks : List Ker) (i : ℕ) (k : Ker) (whole one new : Tally) → i < length ks →
    k ≡ get_or ks i k →
    whole ≡ tally (any_of (map (rooted m) (take i ks))) → one ≡ tally (ways m k) → new ≡ both whole one →
    new ≡ tally (any_of (map (rooted m) (take (i + 1) ks)))
any_tally_more m ks i k whole one new h e a b c =
    c
    ∙ ap₂ both a (b ∙ sym (tally_behind (record { taken = Some (out-Ker k).place; steps = [] }) (ways m k) refl))
    ∙ sym (tally_append (any_of (map (rooted m) (take i ks))) (branch [] (out-Ker k).place (ways m k)))
    ∙ sym (ap tally (any_parts m ks i k h e))

-- ---- paths behind paths

each_more : (as' bs : Ways) (a : Way Step) →
    after_each ends_at (as' ++ a ∷ []) bs ≡ after_each ends_at as' bs ++ after ends_at a bs
each_more as' bs a =
    each_append as' (a ∷ []) bs
    ∙ ap (λ (ys : Ways). after_each ends_at as' bs ++ ys) (append-nil (after ends_at a bs))

pub each_after_more : (done : List Route) (first : Route) (bs ys new : Ways) →
    ys ≡ after_each ends_at (ways_by done) bs → new ≡ ys ++ after ends_at (way first) bs →
    new ≡ after_each ends_at (ways_by (done ++ first ∷ [])) bs
each_after_more done first bs ys new a c =
    c
    ∙ ap (λ (ys : Ways). ys ++ after ends_at (way first) bs) a
    ∙ sym (each_more (ways_by done) bs (way first))
    ∙ sym (ap (λ (as' : Ways). after_each ends_at as' bs) (map-append way done (first ∷ [])))

-- ---- routes

all_lent : (rs : List Route) → list_all has_way_ended (ways_by rs) ≡ list_all (λ r. has_way_ended (way r)) rs
all_lent [] = refl
all_lent (r ∷ rs) = ap (λ b. has_way_ended (way r) && b) (all_lent rs)

-- where all routes of this list have ended
pub all_have_ended : (xs as' : List Route) (b : Bool) → as' ≡ xs → b ≡ list_all (λ r. has_way_ended (way r)) as' →
    b ≡ true →
    list_all has_way_ended (ways_by xs) ≡ true
all_have_ended xs as' b e h t =
    all_lent xs ∙ sym (ap (λ (rs : List Route). list_all (λ r. has_way_ended (way r)) rs) e) ∙ sym h ∙ t

pub last_lent : (xs as' front : List LentStep) (x : LentStep) → as' ≡ xs → as' ≡ front ++ x ∷ [] →
    ends_at (step_lent x) ≡ has_ended ends_at (map step_lent xs)
last_lent xs as' front x e h =
    sym (last_ends (map step_lent front) (step_lent x))
    ∙ sym (ap (has_ended ends_at) (map-append step_lent front (x ∷ [])))
    ∙ ap (λ (xs : List LentStep). has_ended ends_at (map step_lent xs)) (sym h ∙ e)

-- one list of paths behind the other
pub made_of_one : (f g : Way Step) (none ys zs one : Ways) → none ≡ [] → f ≡ g → ys ≡ zs →
    one ≡ none ++ map (one_after f) ys →
    one ≡ map (one_after g) zs
made_of_one f g none ys zs one n h e c =
    c
    ∙ ap (λ (xs : Ways). xs ++ map (one_after f) ys) n
    ∙ ap₂ (λ (x : Way Step) (xs : Ways). map (one_after x) xs) h e

pub made_of_two : (f g : Way Step) (ys zs one two rest : Ways) → one ≡ rest → f ≡ g → ys ≡ zs →
    two ≡ one ++ map (one_after f) ys →
    two ≡ rest ++ map (one_after g) zs
made_of_two f g ys zs one two rest n h e c =
    c
    ∙ ap (λ (xs : Ways). xs ++ map (one_after f) ys) n
    ∙ ap₂ (λ (x : Way Step) (xs : Ways). rest ++ map (one_after x) xs) h e
