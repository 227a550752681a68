-- The law of shapes from level to level.
use Rattle.std.proofs.Common.{◌≡◌, ℕ, zero, suc, ◌≤◌, inl, inr, Bool, true, false, not, IsTrue, List, [], ◌∷◌, map, length, Option, Some, None, refl, sym, ◌∙◌, ap, subst, arith}
use Rattle.std.specs.Prelude.{slice_get, option_and_then, is_some, nat_lt}
use Rattle.std.specs.List.{AllByRecursion, list_all}
use Rattle.tla_values.specs.Sets.{Normal}
use Rattle.tla_values.specs.declared.value.Value.{Value, out-Value}
use Rattle.tla_meaning.specs.declared.job.State.{State}
use Rattle.tla_meaning.proofs.Views.{and_left, and_right, and_both, false≢true}
use Rattle.kernel_trees.specs.declared.path.Assigned.{Assigned}
use Rattle.kernel_trees.specs.declared.system.System.{System}
use Rattle.kernel_trees.specs.Assignments.{AssignedHolds, is_in, lacks, reads_late}
use Rattle.kernel_trees.specs.Paths.{Marks}
use Rattle.kernel_trees.specs.Picks.{IsOneOf}
use Rattle.kernel_trees.specs.Sound.{sound_assigned}
use Rattle.kernel_trees.specs.TypeKinds.{Kind}
use Rattle.kernel_shapes.specs.Shape.{Shape}
use Rattle.kernel_shapes.specs.Fits.{Fits, FitAll, StateFits}
use Rattle.kernel_shapes.specs.Laws.{LevelsFit}
use Rattle.kernel_shapes.specs.Levels.{in_next, after_path, after_paths, kept_constants, from_state, join_each, shapes_at}
use Rattle.kernel_shapes.specs.Sized.{Extent, found}
use Rattle.kernel_shapes.specs.Systems.{ConstantsKept, Follows, MarksVariables, assigns, no_scope, sized_path, sized_paths, system_parts}
use Rattle.kernel_shapes.specs.TypedExtents.{NamesOfKinds}
use Rattle.kernel_shapes.specs.TypedStates.{EachOfKind}
use Rattle.kernel_shapes.proofs.FitLemmas.{join_left}
use Rattle.kernel_shapes.proofs.JoinRight.{join_right}
use Rattle.kernel_shapes.proofs.KindLaw.{join_kind, kinds_alike, empty_kind}
use Rattle.kernel_shapes.proofs.Ended.{not_lacking}
use Rattle.kernel_shapes.proofs.PathLaw.{Along, Standing, AtEnd, given, path_law, kinds_law}

-- ---- joins over paths

pub joined_kinds : (ks : List Kind) (as' bs : List Shape) → EachOfKind ks as' → EachOfKind ks bs → EachOfKind ks (join_each as' bs)
joined_kinds [] [] [] h k = tt
joined_kinds [] [] (b ∷ bs) h k = absurd k
joined_kinds [] (a ∷ as') bs h k = absurd h
joined_kinds (j ∷ js) [] bs h k = absurd h
joined_kinds (j ∷ js) (a ∷ as') [] h k = absurd k
joined_kinds (j ∷ js) (a ∷ as') (b ∷ bs) h k = (join_kind j a b h.0 k.0, joined_kinds js as' bs h.1 k.1)

pub joined_left : (ks : List Kind) (as' bs : List Shape) (vs : List Value) → EachOfKind ks as' → EachOfKind ks bs → FitAll as' vs → FitAll (join_each as' bs) vs
joined_left [] [] [] vs h k f = f
joined_left [] [] (b ∷ bs) vs h k f = absurd k
joined_left [] (a ∷ as') bs vs h k f = absurd h
joined_left (j ∷ js) [] bs vs h k f = absurd h
joined_left (j ∷ js) (a ∷ as') [] vs h k f = absurd k
joined_left (j ∷ js) (a ∷ as') (b ∷ bs) [] h k f = absurd f
joined_left (j ∷ js) (a ∷ as') (b ∷ bs) (v ∷ vs) h k f = (join_left a b (out-Value v) f.0, joined_left js as' bs vs h.1 k.1 f.1)

pub joined_right : (ks : List Kind) (as' bs : List Shape) (vs : List Value) → EachOfKind ks as' → EachOfKind ks bs → FitAll bs vs → FitAll (join_each as' bs) vs
joined_right [] [] bs vs h k f = f
joined_right [] (a ∷ as') bs vs h k f = absurd h
joined_right (j ∷ js) [] bs vs h k f = absurd h
joined_right (j ∷ js) (a ∷ as') [] vs h k f = absurd k
joined_right (j ∷ js) (a ∷ as') (b ∷ bs) [] h k f = absurd f
joined_right (j ∷ js) (a ∷ as') (b ∷ bs) (v ∷ vs) h k f =
    (join_right a b (out-Value v) (kinds_alike j a b h.0 k.0) f.0, joined_right js as' bs vs h.1 k.1 f.1)

pub found_kinds : (ks : List Kind) (os : List (Option Shape)) → NamesOfKinds ks os → EachOfKind ks (map found os)
found_kinds [] [] h = tt
found_kinds [] (o ∷ os) h = absurd h
found_kinds (k ∷ ks) [] h = absurd h
found_kinds (k ∷ ks) (None ∷ os) h = (empty_kind k, found_kinds ks os h)
found_kinds (k ∷ ks) (Some a ∷ os) h = (h.0, found_kinds ks os h.1)

-- where each name has a shape
abbrev pub has_none : List (Option Shape) → ℕ → Bool
has_none os i = not (is_some (option_and_then (λ o. o) (slice_get os i)))

pub found_fits : (ks : List Kind) (os : List (Option Shape)) (vs : List Value) → NamesOfKinds ks os → StateFits os vs → ((i : ℕ) → nat_lt i (length ks) ≡ true → has_none os i ≡ true → ⊥) →
    FitAll (map found os) vs
found_fits [] [] [] h f n = tt
found_fits [] [] (v ∷ vs) h f n = absurd f
found_fits [] (o ∷ os) vs h f n = absurd h
found_fits (k ∷ ks) [] vs h f n = absurd h
found_fits (k ∷ ks) (o ∷ os) [] h f n = absurd f
found_fits (k ∷ ks) (None ∷ os) (v ∷ vs) h f n = absurd (n 0 (first (length ks)) refl)
  where
    first : (n : ℕ) → nat_lt 0 (suc n) ≡ true
    first n = grind arith
found_fits (k ∷ ks) (Some a ∷ os) (v ∷ vs) h f n = (f.0, found_fits ks os vs h.1 f.1 (λ i l e. n (suc i) (more i (length ks) l) e))
  where
    more : (i n : ℕ) → nat_lt i n ≡ true → nat_lt (suc i) (suc n) ≡ true
    more i n q = grind (arith, q)

-- ---- the start of a step

now_kinds : (ks : List Kind) (as' : List Shape) → EachOfKind ks as' → NamesOfKinds ks (map (λ a. Some a) as')
now_kinds [] [] h = tt
now_kinds [] (a ∷ as') h = absurd h
now_kinds (k ∷ ks) [] h = absurd h
now_kinds (k ∷ ks) (a ∷ as') h = (h.0, now_kinds ks as' h.1)

now_fits : (as' : List Shape) (vs : List Value) → FitAll as' vs → StateFits (map (λ a. Some a) as') vs
now_fits [] [] h = tt
now_fits (a ∷ as') (v ∷ vs) h = (h.0, now_fits as' vs h.1)
now_fits [] (v ∷ vs) h = absurd h
now_fits (a ∷ as') [] h = absurd h

now_there : (ks : List Kind) (as' : List Shape) (i : ℕ) → EachOfKind ks as' → nat_lt i (length ks) ≡ true → has_none (map (λ a. Some a) as') i ≡ false
now_there [] as' i h l = absurd (none i l)
  where
    none : (i : ℕ) → nat_lt i 0 ≡ true → ⊥
    none i q = grind (arith, q)
now_there (k ∷ ks) [] i h l = absurd h
now_there (k ∷ ks) (a ∷ as') zero h l = refl
now_there (k ∷ ks) (a ∷ as') (suc i) h l = now_there ks as' i h.1 (less i (length ks) l)
  where
    less : (j n : ℕ) → nat_lt (suc j) (suc n) ≡ true → nat_lt j n ≡ true
    less j n q = grind (arith, q)

pub kept_kinds : (bs : List Bool) (ks : List Kind) (as' : List Shape) → length bs ≡ length ks → EachOfKind ks as' → NamesOfKinds ks (kept_constants bs as')
kept_kinds [] [] as' e h = tt
kept_kinds [] (k ∷ ks) as' e h = absurd (none (length ks) e)
  where
    none : (n : ℕ) → 0 ≡ suc n → ⊥
    none n q = omega (arith, q)
kept_kinds (b ∷ bs) [] as' e h = absurd (none (length bs) e)
  where
    none : (n : ℕ) → suc n ≡ 0 → ⊥
    none n q = omega (arith, q)
kept_kinds (b ∷ bs) (k ∷ ks) [] e h = absurd h
kept_kinds (true ∷ bs) (k ∷ ks) (a ∷ as') e h = (h.0, kept_kinds bs ks as' (less (length bs) (length ks) e) h.1)
  where
    less : (m n : ℕ) → suc m ≡ suc n → m ≡ n
    less m n q = omega (arith, q)
kept_kinds (false ∷ bs) (k ∷ ks) (a ∷ as') e h = kept_kinds bs ks as' (less (length bs) (length ks) e) h.1
  where
    less : (m n : ℕ) → suc m ≡ suc n → m ≡ n
    less m n q = omega (arith, q)

kept_fits : (bs : List Bool) (ks : List Kind) (as' : List Shape) (us vs : List Value) → length bs ≡ length ks → EachOfKind ks as' → FitAll as' us → ConstantsKept bs us vs → StateFits (kept_constants bs as') vs
kept_fits [] [] [] [] [] e h f k = tt
kept_fits [] [] [] [] (v ∷ vs) e h f k = absurd (none (length vs) k)
  where
    none : (n : ℕ) → 0 ≡ suc n → ⊥
    none n q = omega (arith, q)
kept_fits [] [] [] (u ∷ us) vs e h f k = absurd f
kept_fits [] [] (a ∷ as') us vs e h f k = absurd h
kept_fits [] (j ∷ js) as' us vs e h f k = absurd (none (length js) e)
  where
    none : (n : ℕ) → 0 ≡ suc n → ⊥
    none n q = omega (arith, q)
kept_fits (b ∷ bs) [] as' us vs e h f k = absurd (none (length bs) e)
  where
    none : (n : ℕ) → suc n ≡ 0 → ⊥
    none n q = omega (arith, q)
kept_fits (b ∷ bs) (j ∷ js) [] us vs e h f k = absurd h
kept_fits (b ∷ bs) (j ∷ js) (a ∷ as') [] vs e h f k = absurd f
kept_fits (b ∷ bs) (j ∷ js) (a ∷ as') (u ∷ us) [] e h f k = absurd k
kept_fits (true ∷ bs) (j ∷ js) (a ∷ as') (u ∷ us) (v ∷ vs) e h f k = (subst (Fits a) k.0 f.0, kept_fits bs js as' us vs (less (length bs) (length js) e) h.1 f.1 k.1)
  where
    less : (m n : ℕ) → suc m ≡ suc n → m ≡ n
    less m n q = omega (arith, q)
kept_fits (false ∷ bs) (j ∷ js) (a ∷ as') (u ∷ us) (v ∷ vs) e h f k = (tt, kept_fits bs js as' us vs (less (length bs) (length js) e) h.1 f.1 k)
  where
    less : (m n : ℕ) → suc m ≡ suc n → m ≡ n
    less m n q = omega (arith, q)

-- a name without a shape is a variable
pub kept_none : (bs : List Bool) (ks : List Kind) (as' : List Shape) (i : ℕ) → length bs ≡ length ks → EachOfKind ks as' → nat_lt i (length ks) ≡ true → has_none (kept_constants bs as') i ≡ true →
    slice_get bs i ≡ Some false
kept_none bs [] as' i e h l f = absurd (none i l)
  where
    none : (i : ℕ) → nat_lt i 0 ≡ true → ⊥
    none i q = grind (arith, q)
kept_none [] (k ∷ ks) as' i e h l f = absurd (none (length ks) e)
  where
    none : (n : ℕ) → 0 ≡ suc n → ⊥
    none n q = omega (arith, q)
kept_none (b ∷ bs) (k ∷ ks) [] i e h l f = absurd h
kept_none (true ∷ bs) (k ∷ ks) (a ∷ as') zero e h l f = absurd (false≢true f)
kept_none (false ∷ bs) (k ∷ ks) (a ∷ as') zero e h l f = refl
kept_none (true ∷ bs) (k ∷ ks) (a ∷ as') (suc i) e h l f = kept_none bs ks as' i (less (length bs) (length ks) e) h.1 (lower i (length ks) l) f
  where
    less : (m n : ℕ) → suc m ≡ suc n → m ≡ n
    less m n q = omega (arith, q)

    lower : (j n : ℕ) → nat_lt (suc j) (suc n) ≡ true → nat_lt j n ≡ true
    lower j n q = grind (arith, q)
kept_none (false ∷ bs) (k ∷ ks) (a ∷ as') (suc i) e h l f = kept_none bs ks as' i (less (length bs) (length ks) e) h.1 (lower i (length ks) l) f
  where
    less : (m n : ℕ) → suc m ≡ suc n → m ≡ n
    less m n q = omega (arith, q)

    lower : (j n : ℕ) → nat_lt (suc j) (suc n) ≡ true → nat_lt j n ≡ true
    lower j n q = grind (arith, q)

module _ (w : ℕ) (wide : 2 ≤ w) (names : List Kind) (m : Marks) (fixed : List Bool) (many : length fixed ≡ length names) (marks : MarksVariables m fixed) where
  stands_at : (as' : List Shape) → EachOfKind names as' → Standing in_next names m [] [] (from_state fixed as')
  stands_at as' h = record {
    types = record { now = now_kinds names as' h; next = kept_kinds fixed names as' many h; bound = tt };
    now = λ i l. now_there names as' i h l;
    next = λ i l e. (marks i (kept_none fixed names as' i many h l e), refl);
  }

  -- the paths' ends are of the types
  ends_of_kinds : (as' : List Shape) (xs : List Assigned) → EachOfKind names as' → IsTrue (list_all (λ x. sound_assigned names [] x.steps) xs) → IsTrue (list_all (λ x. reads_late m [] x.steps) xs) →
      EachOfKind names (after_paths in_next (sized_paths w xs) (from_state fixed as'))
  ends_of_kinds as' [] h e l = found_kinds names (kept_constants fixed as') (kept_kinds fixed names as' many h)
  ends_of_kinds as' (x ∷ xs) h e l =
      let g : Extent = from_state fixed as' in
      joined_kinds names (map found (after_path in_next (sized_path w x.steps) g).next) (after_paths in_next (sized_paths w xs) g)
      (found_kinds names (after_path in_next (sized_path w x.steps) g).next
      (kinds_law in_next w wide names m x.steps [] [] g (stands_at as' h) (and_left (sound_assigned names [] x.steps) _ e) (and_left (reads_late m [] x.steps) _ l)))
      (ends_of_kinds as' xs h (and_right (sound_assigned names [] x.steps) _ e) (and_right (reads_late m [] x.steps) _ l))

  -- the state behind one path
  path_fits : (as' : List Shape) (x : Assigned) (s t : State) (vss : List (List Value)) → EachOfKind names as' → FitAll as' s.vals → ConstantsKept fixed s.vals t.vals → AllByRecursion Normal s.vals → AllByRecursion Normal t.vals →
      IsTrue (sound_assigned names [] x.steps) → IsTrue (reads_late m [] x.steps) → ((i : ℕ) → lacks m x.steps i ≡ false) → AssignedHolds (Some w) s t x.steps vss no_scope →
      FitAll (map found (after_path in_next (sized_path w x.steps) (from_state fixed as')).next) t.vals
  path_fits as' x s t vss h f k ns nt e l n holds =
      let g : Extent = from_state fixed as' in
      let start : Along in_next names m [] [] no_scope g s t = record {
        stands = stands_at as' h;
        ready = record { bound = tt; now = now_fits as' s.vals f; next = kept_fits fixed names as' s.vals t.vals many h f k };
        normal = record { bound = tt; named = refl; now = ns; next = nt };
        one = tt;
      } in
      let z : AtEnd names m [] x.steps (after_path in_next (sized_path w x.steps) g) t = path_law in_next w wide names m x.steps vss [] [] no_scope g s t start e l holds in
      found_fits names (after_path in_next (sized_path w x.steps) g).next t.vals z.kinds z.fits (λ i q r.
      let y = z.left i q r in
      false≢true (sym (n i) ∙ and_both (m i true) (not (is_in (given x.steps) i)) y.0 (ap not y.2)))

  -- and behind some path
  step_fits : (as' : List Shape) (xs : List Assigned) (s t : State) → EachOfKind names as' → FitAll as' s.vals → ConstantsKept fixed s.vals t.vals → AllByRecursion Normal s.vals → AllByRecursion Normal t.vals →
      IsTrue (list_all (λ x. sound_assigned names [] x.steps) xs) → IsTrue (list_all (λ x. reads_late m [] x.steps) xs) → ((i : ℕ) → IsTrue (list_all (λ x. assigns m x.steps i) xs)) →
      Follows w xs s t → FitAll (after_paths in_next (sized_paths w xs) (from_state fixed as')) t.vals
  step_fits as' [] s t h f k ns nt e l n r = absurd r.1
  step_fits as' (x ∷ xs) s t h f k ns nt e l n r =
      let g : Extent = from_state fixed as' in
      let end : List Shape = map found (after_path in_next (sized_path w x.steps) g).next in
      let e0 = and_left (sound_assigned names [] x.steps) (list_all (λ (y : Assigned). sound_assigned names [] y.steps) xs) e in
      let e1 = and_right (sound_assigned names [] x.steps) (list_all (λ (y : Assigned). sound_assigned names [] y.steps) xs) e in
      let l0 = and_left (reads_late m [] x.steps) (list_all (λ (y : Assigned). reads_late m [] y.steps) xs) l in
      let l1 = and_right (reads_late m [] x.steps) (list_all (λ (y : Assigned). reads_late m [] y.steps) xs) l in
      let one : EachOfKind names end = found_kinds names (after_path in_next (sized_path w x.steps) g).next (kinds_law in_next w wide names m x.steps [] [] g (stands_at as' h) e0 l0) in
      let rest : EachOfKind names (after_paths in_next (sized_paths w xs) g) = ends_of_kinds as' xs h e1 l1 in
      by r.1 one rest e0 l0
      (λ q. step_fits as' xs s t h f k ns nt e1 l1 (λ i. and_right (assigns m x.steps i) (list_all (λ (y : Assigned). assigns m y.steps i) xs) (n i)) (r.0, q, r.2))
    where
      abbrev_g : Extent
      abbrev_g = from_state fixed as'

      by : IsOneOf r.0 (x ∷ xs) → EachOfKind names (map found (after_path in_next (sized_path w x.steps) abbrev_g).next) → EachOfKind names (after_paths in_next (sized_paths w xs) abbrev_g) →
          IsTrue (sound_assigned names [] x.steps) → IsTrue (reads_late m [] x.steps) → (IsOneOf r.0 xs → FitAll (after_paths in_next (sized_paths w xs) abbrev_g) t.vals) →
          FitAll (join_each (map found (after_path in_next (sized_path w x.steps) abbrev_g).next) (after_paths in_next (sized_paths w xs) abbrev_g)) t.vals
      by (inl q) one rest e0 l0 go =
          joined_left names (map found (after_path in_next (sized_path w x.steps) abbrev_g).next) (after_paths in_next (sized_paths w xs) abbrev_g) t.vals one rest
          (path_fits as' x s t r.2.0 h f k ns nt e0 l0 (λ i. not_lacking (Some w) s t x.steps r.2.0 no_scope m i (and_left (assigns m x.steps i) (list_all (λ (y : Assigned). assigns m y.steps i) xs) (n i)) holds) holds)
        where
          holds : AssignedHolds (Some w) s t x.steps r.2.0 no_scope
          holds = subst (λ (y : Assigned). AssignedHolds (Some w) s t y.steps r.2.0 no_scope) q r.2.1
      by (inr q) one rest e0 l0 go =
          joined_right names (map found (after_path in_next (sized_path w x.steps) abbrev_g).next) (after_paths in_next (sized_paths w xs) abbrev_g) t.vals one rest (go q)

-- the state at each level fits the shapes of the level, and these are of the types
pub each_level_fits : (w : ℕ) (sys : System) (names : List Kind) (m : Marks) (first : List Shape) (run : ℕ → State) (n : ℕ) → LevelsFit w sys names m first run n
each_level_fits w sys names m first run zero wide many marks ps f norm r = f
each_level_fits w sys names m first run (suc n) wide many marks ps f norm r =
    let before = each_level_fits w sys names m first run n wide many marks ps f norm (λ i l. r i (omega (arith, l))) in
    let one = r n (omega arith) in (
      step_fits w wide names m sys.ker.fixed many marks (shapes_at (system_parts w sys) first n) sys.next (run n) (run (suc n)) before.1 before.0 one.0 (norm n) (norm (suc n)) ps.sound ps.late ps.assign one.1,
      ends_of_kinds w wide names m sys.ker.fixed many marks (shapes_at (system_parts w sys) first n) sys.next before.1 ps.sound ps.late,
    )
