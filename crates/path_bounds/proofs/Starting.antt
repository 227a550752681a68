-- Where paths begin: those of Next from a state that fits the shapes of a level, those of Init from constants that fit
-- theirs, and those of CInit from nothing.
use Rattle.std.proofs.Common.{◌≡◌, ℕ, zero, suc, Bool, true, false, List, [], ◌∷◌, map, length, Option, Some, None, option_map, refl, sym, ◌∙◌, ap, ap₂, subst, arith}
use Rattle.std.specs.Prelude.{nat_lt}
use Rattle.std.specs.List.{AllByRecursion}
use Rattle.tla_values.specs.Sets.{Normal}
use Rattle.tla_values.specs.declared.value.Value.{Value}
use Rattle.tla_meaning.specs.declared.job.State.{State}
use Rattle.kernel_trees.specs.Paths.{Marks}
use Rattle.kernel_trees.specs.TypeKinds.{Kind}
use Rattle.kernel_shapes.specs.declared.bounds.Shape.{Shape as Code}
use Rattle.kernel_shapes.specs.Codes.{mean}
use Rattle.kernel_shapes.specs.Fits.{Fits, FitAll, StateFits}
use Rattle.kernel_shapes.specs.Laws.{FitsTyped}
use Rattle.kernel_shapes.specs.Levels.{at_names, from_state, in_next, in_state, kept_constants}
use Rattle.kernel_shapes.specs.Shape.{Shape, Empty}
use Rattle.kernel_shapes.specs.Systems.{ConstantsKept, MarksInInit, MarksVariables, every_name}
use Rattle.kernel_shapes.specs.TypedExtents.{NamesOfKinds}
use Rattle.kernel_shapes.specs.TypedStates.{EachOfKind}
use Rattle.kernel_shapes.proofs.LevelLaw.{has_none, kept_kinds, kept_none}
use Rattle.shape_bounds.specs.Extents.{given_shape, given_shapes}
use Rattle.shape_bounds.specs.Kept.{capped}
use Rattle.path_bounds.specs.BoundedPaths.{Begins, StartsAt}

-- ---- lists

no_first : (n : ℕ) → 0 ≡ suc n → ⊥
no_first n q = omega (arith, q)

no_last : (n : ℕ) → suc n ≡ 0 → ⊥
no_last n q = omega (arith, q)

less : (m n : ℕ) → suc m ≡ suc n → m ≡ n
less m n q = omega (arith, q)

lower : (j n : ℕ) → nat_lt (suc j) (suc n) ≡ true → nat_lt j n ≡ true
lower j n q = grind (arith, q)

none_below : (i : ℕ) → nat_lt i 0 ≡ true → ⊥
none_below i q = grind (arith, q)

-- ---- each name has a shape

all_kinds : (ks : List Kind) (as' : List Shape) → EachOfKind ks as' → NamesOfKinds ks (map (λ a. Some a) as')
all_kinds [] [] h = tt
all_kinds [] (a ∷ as') h = absurd h
all_kinds (k ∷ ks) [] h = absurd h
all_kinds (k ∷ ks) (a ∷ as') h = (h.0, all_kinds ks as' h.1)

all_fit : (as' : List Shape) (vs : List Value) → FitAll as' vs → StateFits (map (λ a. Some a) as') vs
all_fit [] [] h = tt
all_fit (a ∷ as') (v ∷ vs) h = (h.0, all_fit as' vs h.1)
all_fit [] (v ∷ vs) h = absurd h
all_fit (a ∷ as') [] h = absurd h

all_there : (ks : List Kind) (as' : List Shape) (i : ℕ) → EachOfKind ks as' → nat_lt i (length ks) ≡ true → has_none (map (λ a. Some a) as') i ≡ false
all_there [] as' i h l = absurd (none_below i l)
all_there (k ∷ ks) [] i h l = absurd h
all_there (k ∷ ks) (a ∷ as') zero h l = refl
all_there (k ∷ ks) (a ∷ as') (suc i) h l = all_there ks as' i h.1 (lower i (length ks) l)

constants_fit : (bs : List Bool) (ks : List Kind) (as' : List Shape) (us vs : List Value) → length bs ≡ length ks → EachOfKind ks as' → FitAll as' us →
    ConstantsKept bs us vs → StateFits (kept_constants bs as') vs
constants_fit [] [] [] [] [] e h f k = tt
constants_fit [] [] [] [] (v ∷ vs) e h f k = absurd (no_first (length vs) k)
constants_fit [] [] [] (u ∷ us) vs e h f k = absurd f
constants_fit [] [] (a ∷ as') us vs e h f k = absurd h
constants_fit [] (j ∷ js) as' us vs e h f k = absurd (no_first (length js) e)
constants_fit (b ∷ bs) [] as' us vs e h f k = absurd (no_last (length bs) e)
constants_fit (b ∷ bs) (j ∷ js) [] us vs e h f k = absurd h
constants_fit (b ∷ bs) (j ∷ js) (a ∷ as') [] vs e h f k = absurd f
constants_fit (b ∷ bs) (j ∷ js) (a ∷ as') (u ∷ us) [] e h f k = absurd k
constants_fit (true ∷ bs) (j ∷ js) (a ∷ as') (u ∷ us) (v ∷ vs) e h f k =
    (subst (Fits a) k.0 f.0, constants_fit bs js as' us vs (less (length bs) (length js) e) h.1 f.1 k.1)
constants_fit (false ∷ bs) (j ∷ js) (a ∷ as') (u ∷ us) (v ∷ vs) e h f k =
    (tt, constants_fit bs js as' us vs (less (length bs) (length js) e) h.1 f.1 k)

-- ---- a path of Next

pub next_begins : (names : List Kind) (m : Marks) (fixed : List Bool) (as' : List Shape) → length fixed ≡ length names → MarksVariables m fixed → EachOfKind names as' →
    Begins in_next names m (from_state fixed as')
next_begins names m fixed as' many marks h = record {
  types = record { now = all_kinds names as' h; next = kept_kinds fixed names as' many h; bound = tt };
  now = λ i l. all_there names as' i h l;
  next = λ i l e. marks i (kept_none fixed names as' i many h l e);
}

pub next_starts : (names : List Kind) (fixed : List Bool) (as' : List Shape) (s t : State) → length fixed ≡ length names → FitsTyped names as' s →
    ConstantsKept fixed s.vals t.vals → AllByRecursion Normal s.vals → AllByRecursion Normal t.vals → StartsAt in_next (from_state fixed as') s t
next_starts names fixed as' s t many h k ns nt = record {
  ready = record { bound = tt; now = all_fit as' s.vals h.0; next = constants_fit fixed names as' s.vals t.vals many h.1 h.0 k };
  normal = record { bound = tt; named = refl; now = ns; next = nt };
  own = tt;
}

-- ---- paths of Init and of CInit

pub start_begins : (names : List Kind) (m : Marks) (fixed : List Bool) (as' : List Shape) → length fixed ≡ length names → MarksInInit m fixed → EachOfKind names as' →
    Begins in_state names m (at_names (kept_constants fixed as'))
start_begins names m fixed as' many marks h =
    let types : NamesOfKinds names (kept_constants fixed as') = kept_kinds fixed names as' many h in
    record {
      types = record { now = types; next = types; bound = tt };
      now = λ i l e. marks i false (kept_none fixed names as' i many h l e);
      next = λ i l e. marks i true (kept_none fixed names as' i many h l e);
    }

abbrev no_shapes : List Bool → List (Option Shape)
no_shapes bs = map (λ b. None) bs

none_kinds : (bs : List Bool) (ks : List Kind) → length bs ≡ length ks → NamesOfKinds ks (no_shapes bs)
none_kinds [] [] e = tt
none_kinds [] (k ∷ ks) e = absurd (no_first (length ks) e)
none_kinds (b ∷ bs) [] e = absurd (no_last (length bs) e)
none_kinds (b ∷ bs) (k ∷ ks) e = none_kinds bs ks (less (length bs) (length ks) e)

pub constants_begin : (names : List Kind) (fixed : List Bool) → length fixed ≡ length names → Begins in_state names every_name (at_names (no_shapes fixed))
constants_begin names fixed many = record {
  types = record { now = none_kinds fixed names many; next = none_kinds fixed names many; bound = tt };
  now = λ i l e. refl;
  next = λ i l e. refl;
}

none_fit : (bs : List Bool) (vs : List Value) → length bs ≡ length vs → StateFits (no_shapes bs) vs
none_fit [] [] e = tt
none_fit [] (v ∷ vs) e = absurd (no_first (length vs) e)
none_fit (b ∷ bs) [] e = absurd (no_last (length bs) e)
none_fit (b ∷ bs) (v ∷ vs) e = (tt, none_fit bs vs (less (length bs) (length vs) e))

-- the constants fit their shapes (`constants_fit` of `kernel_shapes`), the variables have none
pub state_starts : (os : List (Option Shape)) (s : State) → StateFits os s.vals → AllByRecursion Normal s.vals → StartsAt in_state (at_names os) s s
state_starts os s h n = record {
  ready = record { bound = tt; now = h; next = h };
  normal = record { bound = tt; named = refl; now = n; next = n };
  own = refl;
}

pub constants_start : (fixed : List Bool) (s : State) → length fixed ≡ length s.vals → AllByRecursion Normal s.vals → StartsAt in_state (at_names (no_shapes fixed)) s s
constants_start fixed s e n = state_starts (no_shapes fixed) s (none_fit fixed s.vals e) n

-- ---- shapes as they are handed in

not_empty : (a : Shape) (v : Value) → Fits a v → given_shape (capped a) ≡ Some (capped a)
not_empty Empty v h = absurd h
not_empty a v h = refl

-- where values fit the shapes, none of them is Empty
pub all_given : (as' : List Shape) (vs : List Value) (ss : List Code) → FitAll as' vs → map capped as' ≡ map mean ss →
    map (option_map capped) (map (λ a. Some a) as') ≡ given_shapes ss
all_given as' vs ss h e = by as' vs h ∙ ap (map given_shape) e
  where
    by : (as' : List Shape) (vs : List Value) → FitAll as' vs → map (option_map capped) (map (λ a. Some a) as') ≡ map given_shape (map capped as')
    by [] vs h = refl
    by (a ∷ as') [] h = absurd h
    by (a ∷ as') (v ∷ vs) h = ap₂ (λ (o : Option Shape) (os : List (Option Shape)). o ∷ os) (sym (not_empty a v h.0)) (by as' vs h.1)

-- the shapes of constants, and Empty for each variable
abbrev pub of_constants : List Bool → List Shape → List Shape
of_constants [] as' = []
of_constants (b ∷ bs) [] = []
of_constants (true ∷ bs) (a ∷ as') = a ∷ of_constants bs as'
of_constants (false ∷ bs) (a ∷ as') = Empty ∷ of_constants bs as'

pub constants_given : (bs : List Bool) (as' : List Shape) (vs : List Value) (ss ts : List Code) → StateFits (kept_constants bs as') vs → map capped as' ≡ map mean ss →
    map mean ts ≡ of_constants bs (map mean ss) → map (option_map capped) (kept_constants bs as') ≡ given_shapes ts
constants_given bs as' vs ss ts h e f = by bs as' vs h ∙ ap (λ (cs : List Shape). map given_shape (of_constants bs cs)) e ∙ sym (ap (map given_shape) f)
  where
    by : (bs : List Bool) (as' : List Shape) (vs : List Value) → StateFits (kept_constants bs as') vs →
        map (option_map capped) (kept_constants bs as') ≡ map given_shape (of_constants bs (map capped as'))
    by [] as' vs h = refl
    by (b ∷ bs) [] vs h = refl
    by (true ∷ bs) (a ∷ as') [] h = absurd h
    by (false ∷ bs) (a ∷ as') [] h = absurd h
    by (true ∷ bs) (a ∷ as') (v ∷ vs) h = ap₂ (λ (o : Option Shape) (os : List (Option Shape)). o ∷ os) (sym (not_empty a v h.0)) (by bs as' vs h.1)
    by (false ∷ bs) (a ∷ as') (v ∷ vs) h = ap (λ (os : List (Option Shape)). None ∷ os) (by bs as' vs h.1)
