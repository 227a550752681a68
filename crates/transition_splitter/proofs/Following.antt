-- Paths behind paths: a conjunction may be put together from the left, and stops where all its paths have ended.
use Rattle.std.proofs.Common.{◌≡◌, Bool, true, false, ◌&&◌, List, [], ◌∷◌, ◌++◌, map, refl, sym, ◌∙◌, ap, ap₂}
use Rattle.std.proofs.Common.{append_assoc, Option, Some, None, if◌then◌else◌}
use Rattle.std.specs.List.{list_all}
use Rattle.std.proofs.lemmas.List.{append-nil, map-append}
use Rattle.tla_meaning.specs.declared.place.Place.{Place}
use Rattle.tla_meaning.specs.Scopes.{or_else}
use Rattle.kernel_trees.specs.Paths.{Step, ends_at}
use Rattle.kernel_trees.specs.Ways.{Way, after, after_each, all_of, any_of, branch, has_ended, one_after}
use Rattle.transition_splitter.specs.inner.Routes.{has_way_ended}

abbrev Ways : Type 0
Ways = List (Way Step)

-- the one path of a conjunction of nothing
abbrev pub unit : Ways
unit = record { taken = None; steps = [] } ∷ []

-- ---- endings

pub running_append : (xs ys : List Step) → has_ended ends_at xs ≡ false →
    has_ended ends_at (xs ++ ys) ≡ has_ended ends_at ys
running_append [] ys h = refl
running_append (x ∷ []) [] h = h
running_append (x ∷ []) (y ∷ ys) h = refl
running_append (x ∷ z ∷ xs) ys h = running_append (z ∷ xs) ys h

pub last_ends : (xs : List Step) (x : Step) → has_ended ends_at (xs ++ x ∷ []) ≡ ends_at x
last_ends [] x = refl
last_ends (y ∷ []) x = refl
last_ends (y ∷ z ∷ xs) x = last_ends (z ∷ xs) x

pub ended_after : (a : Way Step) (bs : Ways) → has_way_ended a ≡ true → after ends_at a bs ≡ a ∷ []
ended_after a bs h = ap (λ c. if c then a ∷ [] else map (one_after a) bs) h

pub running_after : (a : Way Step) (bs : Ways) → has_way_ended a ≡ false → after ends_at a bs ≡ map (one_after a) bs
running_after a bs h = ap (λ c. if c then a ∷ [] else map (one_after a) bs) h

-- ---- one behind another

else_grouped : (a b c : Option Place) → or_else c (or_else b a) ≡ or_else (or_else c b) a
else_grouped a b None = refl
else_grouped a b (Some p) = refl

else_none : (a : Option Place) → or_else a None ≡ a
else_none None = refl
else_none (Some p) = refl

one_grouped : (a b c : Way Step) → one_after (one_after a b) c ≡ one_after a (one_after b c)
one_grouped a b c =
    ap₂ (λ (t : Option Place) (s : List Step). record { taken = t; steps = s })
    (else_grouped a.taken b.taken c.taken)
    (append_assoc a.steps b.steps c.steps)

ones_grouped : (a b : Way Step) (cs : Ways) →
    map (one_after (one_after a b)) cs ≡ map (one_after a) (map (one_after b) cs)
ones_grouped a b [] = refl
ones_grouped a b (c ∷ cs) = ap₂ (λ (x : Way Step) (xs : Ways). x ∷ xs) (one_grouped a b c) (ones_grouped a b cs)

grouped_at : (a b : Way Step) (cs : Ways) (c : Bool) → has_way_ended b ≡ c → has_way_ended a ≡ false →
    after ends_at (one_after a b) cs ≡ map (one_after a) (after ends_at b cs)
grouped_at a b cs true e h =
    ended_after (one_after a b) cs (running_append a.steps b.steps h ∙ e)
    ∙ sym (ap (map (one_after a)) (ended_after b cs e))
grouped_at a b cs false e h =
    running_after (one_after a b) cs (running_append a.steps b.steps h ∙ e)
    ∙ ones_grouped a b cs
    ∙ sym (ap (map (one_after a)) (running_after b cs e))

pub each_append : (as' bs cs : Ways) →
    after_each ends_at (as' ++ bs) cs ≡ after_each ends_at as' cs ++ after_each ends_at bs cs
each_append [] bs cs = refl
each_append (a ∷ as') bs cs =
    ap (λ (ys : Ways). after ends_at a cs ++ ys) (each_append as' bs cs)
    ∙ sym (append_assoc (after ends_at a cs) (after_each ends_at as' cs) (after_each ends_at bs cs))

each_behind : (a : Way Step) (bs cs : Ways) → has_way_ended a ≡ false →
    after_each ends_at (map (one_after a) bs) cs ≡ map (one_after a) (after_each ends_at bs cs)
each_behind a [] cs h = refl
each_behind a (b ∷ bs) cs h =
    ap₂ (λ (xs ys : Ways). xs ++ ys) (grouped_at a b cs (has_way_ended b) refl h) (each_behind a bs cs h)
    ∙ sym (map-append (one_after a) (after ends_at b cs) (after_each ends_at bs cs))

after_grouped : (a : Way Step) (bs cs : Ways) (c : Bool) → has_way_ended a ≡ c →
    after_each ends_at (after ends_at a bs) cs ≡ after ends_at a (after_each ends_at bs cs)
after_grouped a bs cs true e =
    ap (λ (ys : Ways). after_each ends_at ys cs) (ended_after a bs e)
    ∙ append-nil (after ends_at a cs)
    ∙ ended_after a cs e
    ∙ sym (ended_after a (after_each ends_at bs cs) e)
after_grouped a bs cs false e =
    ap (λ (ys : Ways). after_each ends_at ys cs) (running_after a bs e)
    ∙ each_behind a bs cs e
    ∙ sym (running_after a (after_each ends_at bs cs) e)

pub each_grouped : (as' bs cs : Ways) →
    after_each ends_at (after_each ends_at as' bs) cs ≡ after_each ends_at as' (after_each ends_at bs cs)
each_grouped [] bs cs = refl
each_grouped (a ∷ as') bs cs =
    each_append (after ends_at a bs) (after_each ends_at as' bs) cs
    ∙ ap₂ (λ (xs ys : Ways). xs ++ ys) (after_grouped a bs cs (has_way_ended a) refl) (each_grouped as' bs cs)

-- ---- nothing behind, nothing before

one_unit : (a : Way Step) → one_after a (record { taken = None; steps = [] }) ≡ a
one_unit a = ap (λ (s : List Step). record { taken = a.taken; steps = s }) (append-nil a.steps)

unit_at : (a : Way Step) (c : Bool) → has_way_ended a ≡ c → after ends_at a unit ≡ a ∷ []
unit_at a true e = ended_after a unit e
unit_at a false e = running_after a unit e ∙ ap (λ (x : Way Step). x ∷ []) (one_unit a)

pub each_unit : (as' : Ways) → after_each ends_at as' unit ≡ as'
each_unit [] = refl
each_unit (a ∷ as') = ap₂ (λ (xs ys : Ways). xs ++ ys) (unit_at a (has_way_ended a) refl) (each_unit as')

unit_one : (b : Way Step) → one_after (record { taken = None; steps = [] }) b ≡ b
unit_one b = ap (λ (t : Option Place). record { taken = t; steps = b.steps }) (else_none b.taken)

unit_ones : (bs : Ways) → map (one_after (record { taken = None; steps = [] })) bs ≡ bs
unit_ones [] = refl
unit_ones (b ∷ bs) = ap₂ (λ (x : Way Step) (xs : Ways). x ∷ xs) (unit_one b) (unit_ones bs)

unit_each : (bs : Ways) → after_each ends_at unit bs ≡ bs
unit_each bs = append-nil (map (one_after (record { taken = None; steps = [] })) bs) ∙ unit_ones bs

-- ---- conjunctions

pub all_append : (xss yss : List Ways) →
    all_of ends_at (xss ++ yss) ≡ after_each ends_at (all_of ends_at xss) (all_of ends_at yss)
all_append [] yss = sym (unit_each (all_of ends_at yss))
all_append (xs ∷ xss) yss =
    ap (after_each ends_at xs) (all_append xss yss)
    ∙ sym (each_grouped xs (all_of ends_at xss) (all_of ends_at yss))

-- one operand more, at the end
pub all_more : (xss : List Ways) (ys : Ways) →
    all_of ends_at (xss ++ ys ∷ []) ≡ after_each ends_at (all_of ends_at xss) ys
all_more xss ys = all_append xss (ys ∷ []) ∙ ap (after_each ends_at (all_of ends_at xss)) (each_unit ys)

all_left : (b c : Bool) → (b && c) ≡ true → b ≡ true
all_left true c h = refl
all_left false c h = h

all_right : (b c : Bool) → (b && c) ≡ true → c ≡ true
all_right true c h = h
all_right false true h = refl
all_right false false h = h

pub each_stops : (as' bs : Ways) → list_all has_way_ended as' ≡ true → after_each ends_at as' bs ≡ as'
each_stops [] bs h = refl
each_stops (a ∷ as') bs h =
    ap₂ (λ (xs ys : Ways). xs ++ ys)
    (ended_after a bs (all_left (has_way_ended a) (list_all has_way_ended as') h))
    (each_stops as' bs (all_right (has_way_ended a) (list_all has_way_ended as') h))

-- where all have ended, nothing follows
pub all_stops : (xss yss : List Ways) → list_all has_way_ended (all_of ends_at xss) ≡ true →
    all_of ends_at (xss ++ yss) ≡ all_of ends_at xss
all_stops xss yss h = all_append xss yss ∙ each_stops (all_of ends_at xss) (all_of ends_at yss) h

-- ---- alternatives

pub any_more : (xs : List (Place × Ways)) (x : Place × Ways) → any_of (xs ++ x ∷ []) ≡ any_of xs ++ branch [] x.0 x.1
any_more [] x = append-nil (branch [] x.0 x.1)
any_more (y ∷ xs) x =
    ap (λ (ys : Ways). branch [] y.0 y.1 ++ ys) (any_more xs x)
    ∙ sym (append_assoc (branch [] y.0 y.1) (any_of xs) (branch [] x.0 x.1))
