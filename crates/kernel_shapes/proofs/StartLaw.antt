-- The law of shapes at the start: a state with which paths of CInit and Init hold fits the shapes of level 0.
use Rattle.std.proofs.Common.{◌≡◌, ℕ, suc, ◌≤◌, inl, inr, Bool, true, false, not, IsTrue, List, [], ◌∷◌, map, length, Option, Some, None, refl, sym, ◌∙◌, ap, subst, arith}
use Rattle.std.specs.Prelude.{get_or, nat_lt}
use Rattle.std.specs.List.{AllByRecursion, list_all}
use Rattle.tla_values.specs.Sets.{Normal}
use Rattle.tla_values.specs.declared.value.Value.{Value, out-Value}
use Rattle.tla_meaning.specs.declared.job.State.{State}
use Rattle.tla_meaning.proofs.Views.{and_left, and_right, and_both, false≢true}
use Rattle.kernel_trees.specs.declared.path.Assigned.{Assigned}
use Rattle.kernel_trees.specs.declared.system.System.{System}
use Rattle.kernel_trees.specs.Assignments.{AssignedHolds, is_in, lacks, reads_late}
use Rattle.kernel_trees.specs.Paths.{Marks}
use Rattle.kernel_trees.specs.Picks.{IsOneOf}
use Rattle.kernel_trees.specs.Sound.{sound_assigned}
use Rattle.kernel_trees.specs.TypeKinds.{Kind}
use Rattle.kernel_shapes.specs.Shape.{Shape}
use Rattle.kernel_shapes.specs.Fits.{FitAll, StateFits}
use Rattle.kernel_shapes.specs.Laws.{ConstantPathsAre, StartFits}
use Rattle.kernel_shapes.specs.Levels.{in_state, after_path, after_paths, at_names, constant_shapes, join_each, kept_constants}
use Rattle.kernel_shapes.specs.Sized.{Extent, found}
use Rattle.kernel_shapes.specs.Systems.{Follows, assigns, every_name, no_scope, sized_path, sized_paths, system_parts, the_constants_of}
use Rattle.kernel_shapes.specs.TypedExtents.{NamesOfKinds}
use Rattle.kernel_shapes.specs.TypedStates.{EachOfKind}
use Rattle.kernel_shapes.proofs.Ended.{not_lacking}
use Rattle.kernel_shapes.proofs.FitLemmas.{join_left}
use Rattle.kernel_shapes.proofs.JoinRight.{join_right}
use Rattle.kernel_shapes.proofs.KindLaw.{kinds_alike}
use Rattle.kernel_shapes.proofs.LevelLaw.{found_fits, found_kinds, has_none, joined_kinds, joined_left, joined_right, kept_kinds, kept_none}
use Rattle.kernel_shapes.proofs.PathLaw.{Along, AtEnd, Standing, given, kinds_law, path_law}

less : (m n : ℕ) → suc m ≡ suc n → m ≡ n
less m n q = omega (arith, q)

no_first : (n : ℕ) → 0 ≡ suc n → ⊥
no_first n q = omega (arith, q)

no_last : (n : ℕ) → suc n ≡ 0 → ⊥
no_last n q = omega (arith, q)

-- ---- constants

-- the constants of joined shapes
kept_left : (bs : List Bool) (ks : List Kind) (as' ds : List Shape) (vs : List Value) → EachOfKind ks as' → EachOfKind ks ds → StateFits (kept_constants bs as') vs → StateFits (kept_constants bs (join_each as' ds)) vs
kept_left [] ks as' ds vs h k f = f
kept_left (b ∷ bs) [] [] [] vs h k f = f
kept_left (b ∷ bs) [] [] (d ∷ ds) vs h k f = absurd k
kept_left (b ∷ bs) [] (a ∷ as') ds vs h k f = absurd h
kept_left (b ∷ bs) (j ∷ js) [] ds vs h k f = absurd h
kept_left (b ∷ bs) (j ∷ js) (a ∷ as') [] vs h k f = absurd k
kept_left (true ∷ bs) (j ∷ js) (a ∷ as') (d ∷ ds) [] h k f = absurd f
kept_left (false ∷ bs) (j ∷ js) (a ∷ as') (d ∷ ds) [] h k f = absurd f
kept_left (true ∷ bs) (j ∷ js) (a ∷ as') (d ∷ ds) (v ∷ vs) h k f = (join_left a d (out-Value v) f.0, kept_left bs js as' ds vs h.1 k.1 f.1)
kept_left (false ∷ bs) (j ∷ js) (a ∷ as') (d ∷ ds) (v ∷ vs) h k f = (tt, kept_left bs js as' ds vs h.1 k.1 f.1)

kept_right : (bs : List Bool) (ks : List Kind) (as' ds : List Shape) (vs : List Value) → EachOfKind ks as' → EachOfKind ks ds → StateFits (kept_constants bs ds) vs → StateFits (kept_constants bs (join_each as' ds)) vs
kept_right [] ks as' ds vs h k f = f
kept_right (b ∷ bs) [] [] ds vs h k f = f
kept_right (b ∷ bs) [] (a ∷ as') ds vs h k f = absurd h
kept_right (b ∷ bs) (j ∷ js) [] ds vs h k f = absurd h
kept_right (b ∷ bs) (j ∷ js) (a ∷ as') [] vs h k f = absurd k
kept_right (true ∷ bs) (j ∷ js) (a ∷ as') (d ∷ ds) [] h k f = absurd f
kept_right (false ∷ bs) (j ∷ js) (a ∷ as') (d ∷ ds) [] h k f = absurd f
kept_right (true ∷ bs) (j ∷ js) (a ∷ as') (d ∷ ds) (v ∷ vs) h k f = (join_right a d (out-Value v) (kinds_alike j a d h.0 k.0) f.0, kept_right bs js as' ds vs h.1 k.1 f.1)
kept_right (false ∷ bs) (j ∷ js) (a ∷ as') (d ∷ ds) (v ∷ vs) h k f = (tt, kept_right bs js as' ds vs h.1 k.1 f.1)

-- where each constant has a shape
kept_found : (bs : List Bool) (ks : List Kind) (os : List (Option Shape)) (vs : List Value) → length bs ≡ length ks → NamesOfKinds ks os → StateFits os vs →
    ((i : ℕ) → nat_lt i (length ks) ≡ true → get_or bs i false ≡ true → has_none os i ≡ true → ⊥) → StateFits (kept_constants bs (map found os)) vs
kept_found [] [] [] [] e h f n = tt
kept_found [] [] [] (v ∷ vs) e h f n = absurd f
kept_found [] [] (o ∷ os) vs e h f n = absurd h
kept_found [] (k ∷ ks) os vs e h f n = absurd (no_first (length ks) e)
kept_found (b ∷ bs) [] os vs e h f n = absurd (no_last (length bs) e)
kept_found (b ∷ bs) (k ∷ ks) [] vs e h f n = absurd h
kept_found (b ∷ bs) (k ∷ ks) (o ∷ os) [] e h f n = absurd f
kept_found (true ∷ bs) (k ∷ ks) (None ∷ os) (v ∷ vs) e h f n = absurd (n 0 (first (length ks)) refl refl)
  where
    first : (n : ℕ) → nat_lt 0 (suc n) ≡ true
    first n = grind arith
kept_found (true ∷ bs) (k ∷ ks) (Some a ∷ os) (v ∷ vs) e h f n = (f.0, kept_found bs ks os vs (less (length bs) (length ks) e) h.1 f.1 (λ i l q r. n (suc i) (more i (length ks) l) q r))
  where
    more : (i n : ℕ) → nat_lt i n ≡ true → nat_lt (suc i) (suc n) ≡ true
    more i n q = grind (arith, q)
kept_found (false ∷ bs) (k ∷ ks) (None ∷ os) (v ∷ vs) e h f n = (tt, kept_found bs ks os vs (less (length bs) (length ks) e) h f.1 (λ i l q r. n (suc i) (more i (length ks) l) q r))
  where
    more : (i n : ℕ) → nat_lt i n ≡ true → nat_lt (suc i) (suc n) ≡ true
    more i n q = grind (arith, q)
kept_found (false ∷ bs) (k ∷ ks) (Some a ∷ os) (v ∷ vs) e h f n = (tt, kept_found bs ks os vs (less (length bs) (length ks) e) h.1 f.1 (λ i l q r. n (suc i) (more i (length ks) l) q r))
  where
    more : (i n : ℕ) → nat_lt i n ≡ true → nat_lt (suc i) (suc n) ≡ true
    more i n q = grind (arith, q)

-- ---- no name has a shape

abbrev nones : List Bool → List (Option Shape)
nones bs = map (λ _. None) bs

nones_kinds : (bs : List Bool) (ks : List Kind) → length bs ≡ length ks → NamesOfKinds ks (nones bs)
nones_kinds [] [] e = tt
nones_kinds [] (k ∷ ks) e = absurd (no_first (length ks) e)
nones_kinds (b ∷ bs) [] e = absurd (no_last (length bs) e)
nones_kinds (b ∷ bs) (k ∷ ks) e = nones_kinds bs ks (less (length bs) (length ks) e)

nones_fit : (bs : List Bool) (vs : List Value) → length bs ≡ length vs → StateFits (nones bs) vs
nones_fit [] [] e = tt
nones_fit [] (v ∷ vs) e = absurd (no_first (length vs) e)
nones_fit (b ∷ bs) [] e = absurd (no_last (length bs) e)
nones_fit (b ∷ bs) (v ∷ vs) e = (tt, nones_fit bs vs (less (length bs) (length vs) e))

-- ---- paths from one start

module _ (w : ℕ) (wide : 2 ≤ w) (names : List Kind) (m : Marks) (g : Extent) (st : Standing in_state names m [] [] g) where
  ends_of_kinds : (xs : List Assigned) → IsTrue (list_all (λ x. sound_assigned names [] x.steps) xs) → IsTrue (list_all (λ x. reads_late m [] x.steps) xs) →
      EachOfKind names (after_paths in_state (sized_paths w xs) g)
  ends_of_kinds [] e l = found_kinds names g.next st.types.next
  ends_of_kinds (x ∷ xs) e l =
      joined_kinds names (map found (after_path in_state (sized_path w x.steps) g).next) (after_paths in_state (sized_paths w xs) g)
      (found_kinds names (after_path in_state (sized_path w x.steps) g).next
      (kinds_law in_state w wide names m x.steps [] [] g st (and_left (sound_assigned names [] x.steps) _ e) (and_left (reads_late m [] x.steps) _ l)))
      (ends_of_kinds xs (and_right (sound_assigned names [] x.steps) _ e) (and_right (reads_late m [] x.steps) _ l))

  module _ (s : State) (a : Along in_state names m [] [] no_scope g s s) where
    -- what is said of the end of a path that holds is kept by joins
    some_path : (P : List Shape → Type 0) → ((as' ds : List Shape) → EachOfKind names as' → EachOfKind names ds → P as' → P (join_each as' ds)) →
        ((as' ds : List Shape) → EachOfKind names as' → EachOfKind names ds → P ds → P (join_each as' ds)) → (q : Marks) →
        ((x : Assigned) → AtEnd names m [] x.steps (after_path in_state (sized_path w x.steps) g) s → ((i : ℕ) → lacks q x.steps i ≡ false) → P (map found (after_path in_state (sized_path w x.steps) g).next)) →
        (xs : List Assigned) → IsTrue (list_all (λ x. sound_assigned names [] x.steps) xs) → IsTrue (list_all (λ x. reads_late m [] x.steps) xs) → ((i : ℕ) → IsTrue (list_all (λ x. assigns q x.steps i) xs)) →
        Follows w xs s s → P (after_paths in_state (sized_paths w xs) g)
    some_path P to_left to_right q one [] e l n r = absurd r.1
    some_path P to_left to_right q one (x ∷ xs) e l n r =
        let end : List Shape = map found (after_path in_state (sized_path w x.steps) g).next in
        let rest : List Shape = after_paths in_state (sized_paths w xs) g in
        let e0 = and_left (sound_assigned names [] x.steps) (list_all (λ (y : Assigned). sound_assigned names [] y.steps) xs) e in
        let e1 = and_right (sound_assigned names [] x.steps) (list_all (λ (y : Assigned). sound_assigned names [] y.steps) xs) e in
        let l0 = and_left (reads_late m [] x.steps) (list_all (λ (y : Assigned). reads_late m [] y.steps) xs) l in
        let l1 = and_right (reads_late m [] x.steps) (list_all (λ (y : Assigned). reads_late m [] y.steps) xs) l in
        let end_kinds : EachOfKind names end = found_kinds names (after_path in_state (sized_path w x.steps) g).next (kinds_law in_state w wide names m x.steps [] [] g st e0 l0) in
        by r.1 end rest (to_left end rest end_kinds (ends_of_kinds xs e1 l1)) (to_right end rest end_kinds (ends_of_kinds xs e1 l1))
        (λ k.
        let holds : AssignedHolds (Some w) s s x.steps r.2.0 no_scope = subst (λ (y : Assigned). AssignedHolds (Some w) s s y.steps r.2.0 no_scope) k r.2.1 in
        one x (path_law in_state w wide names m x.steps r.2.0 [] [] no_scope g s s a e0 l0 holds)
        (λ i. not_lacking (Some w) s s x.steps r.2.0 no_scope q i (and_left (assigns q x.steps i) (list_all (λ (y : Assigned). assigns q y.steps i) xs) (n i)) holds))
        (λ k. some_path P to_left to_right q one xs e1 l1 (λ i. and_right (assigns q x.steps i) (list_all (λ (y : Assigned). assigns q y.steps i) xs) (n i)) (r.0, k, r.2))
      where
        by : IsOneOf r.0 (x ∷ xs) → (end rest : List Shape) → (P end → P (join_each end rest)) → (P rest → P (join_each end rest)) → (r.0 ≡ x → P end) → (IsOneOf r.0 xs → P rest) → P (join_each end rest)
        by (inl k) end rest f h go more = f (go k)
        by (inr k) end rest f h go more = h (more k)

-- ---- the start

-- the constants of a state with which a path of CInit holds fit their shapes, which are of the types
pub constants_fit : (w : ℕ) (sys : System) (names : List Kind) (s : State) → 2 ≤ w → length sys.ker.fixed ≡ length names → length s.vals ≡ length names →
    ConstantPathsAre names sys.ker.fixed sys.constants → AllByRecursion Normal s.vals → Follows w sys.constants s s →
    StateFits (kept_constants sys.ker.fixed (constant_shapes (system_parts w sys))) s.vals × EachOfKind names (constant_shapes (system_parts w sys))
constants_fit w sys names s wide many filled cs norm rc =
    let fixed : List Bool = sys.ker.fixed in
    let g1 : Extent = at_names (nones fixed) in
    let st1 : Standing in_state names every_name [] [] g1 = record {
      types = record { now = nones_kinds fixed names many; next = nones_kinds fixed names many; bound = tt };
      now = λ i l e. (refl, refl);
      next = λ i l e. (refl, refl);
    } in
    let fit1 : StateFits (nones fixed) s.vals = nones_fit fixed s.vals (many ∙ sym filled) in
    let a1 : Along in_state names every_name [] [] no_scope g1 s s = record {
      stands = st1;
      ready = record { bound = tt; now = fit1; next = fit1 };
      normal = record { bound = tt; named = refl; now = norm; next = norm };
      one = refl;
    } in
    let consts : List Shape = constant_shapes (system_parts w sys) in
    let const_kinds : EachOfKind names consts = ends_of_kinds w wide names every_name g1 st1 sys.constants cs.sound cs.late in (
      some_path w wide names every_name g1 st1 s a1 (λ as'. StateFits (kept_constants fixed as') s.vals) (λ as' ds h k f. kept_left fixed names as' ds s.vals h k f) (λ as' ds h k f. kept_right fixed names as' ds s.vals h k f)
          (the_constants_of fixed) (λ x z n. kept_found fixed names (after_path in_state (sized_path w x.steps) g1).next s.vals many z.kinds z.fits (λ i l q r.
          let y = z.left i l r in
          false≢true (sym (n i) ∙ and_both (get_or fixed i false) (not (is_in (given x.steps) i)) q (ap not y.2))))
          sys.constants cs.sound cs.late cs.assign rc,
      const_kinds,
    )

pub each_start_fits : (w : ℕ) (sys : System) (names : List Kind) (m : Marks) (s : State) → StartFits w sys names m s
each_start_fits w sys names m s wide many filled marks cs ps norm rc ri =
    let fixed : List Bool = sys.ker.fixed in
    let consts : List Shape = constant_shapes (system_parts w sys) in
    let both = constants_fit w sys names s wide many filled cs norm rc in
    let kept : StateFits (kept_constants fixed consts) s.vals = both.0 in
    let const_kinds : EachOfKind names consts = both.1 in
    let g2 : Extent = at_names (kept_constants fixed consts) in
    let types2 = kept_kinds fixed names consts many const_kinds in
    let st2 : Standing in_state names m [] [] g2 = record {
      types = record { now = types2; next = types2; bound = tt };
      now = λ i l e. (marks i false (kept_none fixed names consts i many const_kinds l e), refl);
      next = λ i l e. (marks i true (kept_none fixed names consts i many const_kinds l e), refl);
    } in
    let a2 : Along in_state names m [] [] no_scope g2 s s = record {
      stands = st2;
      ready = record { bound = tt; now = kept; next = kept };
      normal = record { bound = tt; named = refl; now = norm; next = norm };
      one = refl;
    } in (
      some_path w wide names m g2 st2 s a2 (λ as'. FitAll as' s.vals) (λ as' ds h k f. joined_left names as' ds s.vals h k f) (λ as' ds h k f. joined_right names as' ds s.vals h k f)
          m (λ x z n. found_fits names (after_path in_state (sized_path w x.steps) g2).next s.vals z.kinds z.fits (λ i l r.
          let y = z.left i l r in
          false≢true (sym (n i) ∙ and_both (m i true) (not (is_in (given x.steps) i)) y.0 (ap not y.2))))
          sys.start ps.sound ps.late ps.assign ri,
      ends_of_kinds w wide names m g2 st2 sys.start ps.sound ps.late,
    )
