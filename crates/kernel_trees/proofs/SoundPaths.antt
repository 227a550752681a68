-- The paths of a sound tree are sound.
use Rattle.std.proofs.Common.{◌≡◌, ℕ, zero, suc, Bool, true, false, not, ◌&&◌, ◌||◌, IsTrue, List, [], ◌∷◌, ◌++◌, map, zip, take, replicate, length, refl, sym, ◌∙◌, ap, ap₂, subst, Option, Some, None, option_map, option_and_then, arith, if◌then◌else◌}
use Rattle.std.specs.Prelude.{nat_eq, slice_get}
use Rattle.std.specs.List.{list_all, list_any}
use Rattle.tla_meaning.specs.declared.place.Place.{Place}
use Rattle.tla_meaning.specs.Scopes.{or_else, same_text}
use Rattle.tla_meaning.specs.FreeNames.{with_names, marks, closed_all}
use Rattle.tla_meaning.specs.Meaning.{role}
use Rattle.std.proofs.lemmas.Option.{slice_get-map}
use Rattle.tla_meaning.proofs.Laws.{none≢some}
use Rattle.tla_meaning.proofs.Views.{and_left, and_right, and_both, false≢true}
use Rattle.kernel_trees.specs.declared.kernel.Ker.{Ker, roll-Ker, out-Ker, out-roll-Ker}
use Rattle.kernel_trees.specs.declared.kernel.Ker.TheOpen.{Ker-F}
use Rattle.kernel_trees.specs.declared.kernel.KerOp.{KerOp}
use Rattle.kernel_trees.specs.declared.path.KerPath.{KerPath}
use Rattle.kernel_trees.specs.declared.path.PathStep.{PathStep}
use Rattle.kernel_trees.specs.declared.path.PathStep.TheVariants as path
use Rattle.kernel_trees.specs.Trees.{number_name, names_of, op_of}
use Rattle.kernel_trees.specs.Ways.{Way, has_ended, one_after, after, after_each, all_of, branch, any_of, alone}
use Rattle.kernel_trees.specs.Paths.{Marks, Step, Holds, Branch, Choice, numbers, ends_at, step_of, place_of, any_mentions, if_ways, choice_ways, ways_of, ways, path_of, paths}
use Rattle.kernel_trees.specs.Scoped.{Names, outside, scoped}
use Rattle.kernel_trees.specs.declared.kernel.KerOp.TheVariants as ker
use Rattle.kernel_trees.specs.TypeKinds.{Kind, Truth, Set, is_kind, all_there, members}
use Rattle.kernel_trees.proofs.SoundRows.{AreAll, Row, row_and, row_or, row_if, BinderRow, row_some, found}
use Rattle.kernel_trees.proofs.SoundTrees.{Children, Sets, Node, node_plain, node_binder, sound_step}
use Rattle.kernel_trees.specs.Sound.{kind_at, Context, kind_in, bound_in, passes, sound, sound_tree, sound_guard, sound_pick, picked_kinds, sound_path}
use Rattle.kernel_trees.specs.inner.Separate.{chosen}
use Rattle.kernel_trees.proofs.Trees.{Each, by_nodes}
use Rattle.kernel_trees.proofs.LawOfPaths.{ways-roll}
use Rattle.kernel_trees.proofs.Scopes.{chooses_new, plain_scoped, body_scoped, children_part}
use Rattle.kernel_trees.proofs.Steps.{all_front, all_back, same_text_same}
use Rattle.kernel_trees.proofs.SoundWider.{Agree, kind_append, agree_more, and_mono, passes_mono, sound_wider}

-- ---- contexts in which more is picked

or_right : (a b : Bool) → b ≡ true → (a || b) ≡ true
or_right true b h = refl
or_right false b h = h

nat_same : (m n : ℕ) → nat_eq m n ≡ true → m ≡ n
nat_same m n h = grind (arith, h)

bound_of_kind : (c : Context) (n : ℕ) (a : Kind) → kind_in c n ≡ Some a → bound_in c (number_name n) ≡ true
bound_of_kind [] n a h = absurd (none≢some h)
bound_of_kind (e ∷ c) n a h = by (kind_in c n) refl (nat_eq n e.0) refl h (bound_of_kind c n)
  where
    by : (o : Option Kind) → kind_in c n ≡ o → (t : Bool) → nat_eq n e.0 ≡ t → or_else o (if t then Some e.1 else None) ≡ Some a →
        ((b : Kind) → kind_in c n ≡ Some b → bound_in c (number_name n) ≡ true) → (same_text (number_name n) (number_name e.0) || bound_in c (number_name n)) ≡ true
    by (Some b) q t r g f = or_right (same_text (number_name n) (number_name e.0)) (bound_in c (number_name n)) (f b q)
    by None q true r g f =
        ap (λ b. b || bound_in c (number_name n)) (ap (λ k. same_text (number_name n) (number_name k)) (sym (nat_same n e.0 r)) ∙ same_text_same (number_name n))
    by None q false r g f = absurd (none≢some g)

-- a number that is bound is none of new ones
not_among : (B : Names) (ns : List ℕ) (ms : List Kind) (n : ℕ) → B (number_name n) ≡ true → IsTrue (outside B ns) → kind_in (zip ns ms) n ≡ None
not_among B [] ms n b h = refl
not_among B (x ∷ ns) [] n b h = refl
not_among B (x ∷ ns) (a ∷ ms) n b h =
    ap (λ o. or_else o (if nat_eq n x then Some a else None)) (not_among B ns ms n b (and_right (not (B (number_name x))) (outside B ns) h))
    ∙ by (nat_eq n x) refl
  where
    not_true : (t : Bool) → t ≡ true → IsTrue (not t) → ⊥
    not_true true e k = false≢true k
    not_true false e k = false≢true e

    by : (t : Bool) → nat_eq n x ≡ t → (if t then Some a else None) ≡ None
    by true r = absurd (not_true (B (number_name x)) (ap (λ k. B (number_name k)) (sym (nat_same n x r)) ∙ b) (and_left (not (B (number_name x))) (outside B ns) h))
    by false r = refl

agree_pick : (c d : Context) (ns : List ℕ) (ms : List Kind) → Agree c d → IsTrue (outside (bound_in c) ns) → Agree c (d ++ zip ns ms)
agree_pick c d ns ms g h n a e =
    kind_append d (zip ns ms) n ∙ ap (λ o. or_else o (kind_in d n)) (not_among (bound_in c) ns ms n (bound_of_kind c n a e) h) ∙ g n a e

agree_same : (c : Context) → Agree c c
agree_same c n a e = e

module _ (names : List Kind) where
  guard_wider : (k : Ker) (c d : Context) → Agree c d → sound_guard names c k ≡ true → sound_guard names d k ≡ true
  guard_wider k c d g h =
      let e : Bool = is_kind Truth (kind_at k) in and_mono e (sound names k c false) e (sound names k d false) (λ x. x) (sound_wider names k c d false g) h

  pick_wider : (ps : List (ℕ × Ker)) (c d : Context) → Agree c d → sound_pick names c ps ≡ true → sound_pick names d ps ≡ true
  pick_wider [] c d g h = refl
  pick_wider (p ∷ ps) c d g h =
      and_mono (sound names p.1 c false) (sound_pick names c ps) (sound names p.1 d false) (sound_pick names d ps) (sound_wider names p.1 c d false g) (pick_wider ps c d g) h

  pub path_wider : (zs : List PathStep) (c d : Context) → Agree c d → sound_path names c zs ≡ true → sound_path names d zs ≡ true
  path_wider [] c d g h = refl
  path_wider (path.Guard k b ∷ zs) c d g h =
      and_mono (sound_guard names c k) (sound_path names c zs) (sound_guard names d k) (sound_path names d zs) (guard_wider k c d g) (path_wider zs c d g) h
  path_wider (path.Pick ps ∷ zs) c d g h =
      let after : Context → List Kind → Bool = λ e ms. sound_path names (e ++ zip (numbers ps) ms) zs in
      and_mono (sound_pick names c ps) (passes (after c) (picked_kinds ps)) (sound_pick names d ps) (passes (after d) (picked_kinds ps)) (pick_wider ps c d g)
      (passes_mono (after c) (after d) (picked_kinds ps) (λ ms. path_wider zs (c ++ zip (numbers ps) ms) (d ++ zip (numbers ps) ms) (agree_more c d (zip (numbers ps) ms) g))) h

  abbrev pub Sound : Context → Way Step → Type 0
  Sound c y = sound_path names c (map step_of y.steps) ≡ true

  -- a path behind one that picks new numbers
  behind_sound : (c d : Context) (xs ys : List Step) → Agree c d → IsTrue (outside (bound_in c) (chosen xs)) → sound_path names d (map step_of xs) ≡ true →
      ((e : Context) → Agree c e → sound_path names e (map step_of ys) ≡ true) → sound_path names d (map step_of (xs ++ ys)) ≡ true
  behind_sound c d [] ys g n h f = f d g
  behind_sound c d (Holds k ∷ xs) ys g n h f =
      let a : Bool = sound_guard names d k in
      let b : Bool = sound_path names d (map step_of xs) in
      and_both a (sound_path names d (map step_of (xs ++ ys))) (and_left a b h) (behind_sound c d xs ys g n (and_right a b h) f)
  behind_sound c d (Branch p k w ∷ xs) ys g n h f =
      let a : Bool = sound_guard names d k in
      let b : Bool = sound_path names d (map step_of xs) in
      and_both a (sound_path names d (map step_of (xs ++ ys))) (and_left a b h) (behind_sound c d xs ys g n (and_right a b h) f)
  behind_sound c d (Choice p ps ∷ xs) ys g n h f =
      let old : List Kind → Bool = λ ms. sound_path names (d ++ zip (numbers ps) ms) (map step_of xs) in
      let new : List Kind → Bool = λ ms. sound_path names (d ++ zip (numbers ps) ms) (map step_of (xs ++ ys)) in
      let out : ℕ → Bool = λ n. not (bound_in c (number_name n)) in
      and_mono (sound_pick names d ps) (passes old (picked_kinds ps)) (sound_pick names d ps) (passes new (picked_kinds ps)) (λ x. x)
      (passes_mono old new (picked_kinds ps) (λ ms k.
      behind_sound c (d ++ zip (numbers ps) ms) xs ys (agree_pick c d (numbers ps) ms g (all_front out (numbers ps) (chosen xs) n)) (all_back out (numbers ps) (chosen xs) n) k f)) h

  -- ---- conjunctions

  abbrev New : Context → Way Step → Type 0
  New c y = IsTrue (outside (bound_in c) (chosen y.steps))

  joined_sound : (c : Context) (a : Way Step) (bs : List (Way Step)) → Sound c a → New c a → Each (Sound c) bs → Each (Sound c) (map (one_after a) bs)
  joined_sound c a [] h n g = tt
  joined_sound c a (b ∷ bs) h n g =
      (behind_sound c c a.steps b.steps (agree_same c) n h (λ d k. path_wider (map step_of b.steps) c d k g.0), joined_sound c a bs h n g.1)

  after_sound : (c : Context) (a : Way Step) (bs : List (Way Step)) (e : Bool) → Sound c a → New c a → Each (Sound c) bs →
      Each (Sound c) (if e then a ∷ [] else map (one_after a) bs)
  after_sound c a bs true h n g = (h, tt)
  after_sound c a bs false h n g = joined_sound c a bs h n g

  both_each : {X : Type 0} (P : X → Type 0) (xs ys : List X) → Each P xs → Each P ys → Each P (xs ++ ys)
  both_each P [] ys h g = g
  both_each P (x ∷ xs) ys h g = (h.0, both_each P xs ys h.1 g)

  each_after_sound : (c : Context) (as' bs : List (Way Step)) → Each (Sound c) as' → Each (New c) as' → Each (Sound c) bs →
      Each (Sound c) (after_each ends_at as' bs)
  each_after_sound c [] bs h n g = tt
  each_after_sound c (a ∷ as') bs h n g =
      both_each (Sound c) (after ends_at a bs) (after_each ends_at as' bs) (after_sound c a bs (has_ended ends_at a.steps) h.0 n.0 g)
      (each_after_sound c as' bs h.1 n.1 g)

  pub all_sound : (c : Context) (yss : List (List (Way Step))) → Each (Each (Sound c)) yss → Each (Each (New c)) yss → Each (Sound c) (all_of ends_at yss)
  all_sound c [] h n = (refl, tt)
  all_sound c (ys ∷ yss) h n = each_after_sound c ys (all_of ends_at yss) h.0 n.0 (all_sound c yss h.1 n.1)

-- ---- what a binder binds

or_swap : (a b : Bool) → (a || b) ≡ (b || a)
or_swap true true = refl
or_swap true false = refl
or_swap false true = refl
or_swap false false = refl

or_group : (a b c : Bool) → ((a || b) || c) ≡ (a || (b || c))
or_group true b c = refl
or_group false b c = refl

bound_append : (c d : Context) (z : List ℕ) → bound_in (c ++ d) z ≡ (bound_in c z || bound_in d z)
bound_append [] d z = refl
bound_append (e ∷ c) d z =
    ap (λ b. same_text z (number_name e.0) || b) (bound_append c d z) ∙ sym (or_group (same_text z (number_name e.0)) (bound_in c z) (bound_in d z))

bound_zip : (xs : List ℕ) (ms : List Kind) (z : List ℕ) → length xs ≡ length ms → bound_in (zip xs ms) z ≡ list_any (same_text z) (names_of xs)
bound_zip [] [] z e = refl
bound_zip [] (a ∷ ms) z e = absurd (omega (arith, e))
bound_zip (x ∷ xs) [] z e = absurd (omega (arith, e))
bound_zip (x ∷ xs) (a ∷ ms) z e = ap (λ b. same_text z (number_name x) || b) (bound_zip xs ms z (omega (arith, e)))

bound_more : (c : Context) (xs : List ℕ) (ms : List Kind) (z : List ℕ) → length xs ≡ length ms → with_names (names_of xs) (bound_in c) z ≡ bound_in (c ++ zip xs ms) z
bound_more c xs ms z e =
    or_swap (list_any (same_text z) (names_of xs)) (bound_in c z)
    ∙ sym (bound_append c (zip xs ms) z ∙ ap (λ b. bound_in c z || b) (bound_zip xs ms z e))

scoped_more : (k : Ker) (c : Context) (xs : List ℕ) (ms : List Kind) → length xs ≡ length ms → IsTrue (scoped k (with_names (names_of xs) (bound_in c))) →
    IsTrue (scoped k (bound_in (c ++ zip xs ms)))
scoped_more k c xs ms e h = subst (λ (B : Names). IsTrue (scoped k B)) (λ i. λ z. bound_more c xs ms z e i) h

-- ---- lists

front : (ks : List Ker) (k : Ker) → take (length ks) (ks ++ k ∷ []) ≡ ks
front [] k = refl
front (x ∷ ks) k = ap (λ l. x ∷ l) (front ks k)

behind_front : (ks : List Ker) (k : Ker) → slice_get (ks ++ k ∷ []) (length ks) ≡ Some k
behind_front [] k = refl
behind_front (x ∷ ks) k = behind_front ks k

zip_firsts : (xs : List ℕ) (ks : List Ker) → length ks ≡ length xs → numbers (zip xs ks) ≡ xs
zip_firsts [] ks e = refl
zip_firsts (x ∷ xs) [] e = absurd (omega (arith, e))
zip_firsts (x ∷ xs) (k ∷ ks) e = ap (λ l. x ∷ l) (zip_firsts xs ks (omega (arith, e)))

members_sets : (ms : List Kind) → members (map Set ms) ≡ Some ms
members_sets [] = refl
members_sets (m ∷ ms) = ap (option_map (λ bs. m ∷ bs)) (members_sets ms)

first_trees : (m : Marks) (n : ℕ) (ks : List Ker) → map (λ (y : Ker × List (Way Step)). y.0) (take n (map (λ k. (k, ways m k)) ks)) ≡ take n ks
first_trees m zero ks = refl
first_trees m (suc n) [] = refl
first_trees m (suc n) (k ∷ ks) = ap (λ l. k ∷ l) (first_trees m n ks)

module _ (names : List Kind) where
  set_lengths : (c : Context) (ks : List Ker) (ms : List Kind) → Sets names c ks ms → length ks ≡ length ms
  set_lengths c [] [] h = refl
  set_lengths c [] (m ∷ ms) h = absurd h
  set_lengths c (k ∷ ks) [] h = absurd h
  set_lengths c (k ∷ ks) (m ∷ ms) h = ap suc (set_lengths c ks ms h.1)

  picks_sound : (c : Context) (xs : List ℕ) (ks : List Ker) (ms : List Kind) → Sets names c ks ms → sound_pick names c (zip xs ks) ≡ true
  picks_sound c [] ks ms h = refl
  picks_sound c (x ∷ xs) [] ms h = refl
  picks_sound c (x ∷ xs) (k ∷ ks) [] h = absurd h
  picks_sound c (x ∷ xs) (k ∷ ks) (m ∷ ms) h = and_both (sound names k c false) (sound_pick names c (zip xs ks)) h.0.1 (picks_sound c xs ks ms h.1)

  sets_there : (c : Context) (xs : List ℕ) (ks : List Ker) (ms : List Kind) → length ks ≡ length xs → Sets names c ks ms →
      all_there (map (λ (p : ℕ × Ker). kind_at p.1) (zip xs ks)) ≡ Some (map Set ms)
  sets_there c [] [] [] e h = refl
  sets_there c [] [] (m ∷ ms) e h = absurd h
  sets_there c [] (k ∷ ks) ms e h = absurd (omega (arith, e))
  sets_there c (x ∷ xs) [] ms e h = absurd (omega (arith, e))
  sets_there c (x ∷ xs) (k ∷ ks) [] e h = absurd h
  sets_there c (x ∷ xs) (k ∷ ks) (m ∷ ms) e h =
      ap₂ (λ (o : Option Kind) (r : Option (List Kind)). option_and_then (λ x. option_map (λ xs. x ∷ xs) r) o) h.0.0 (sets_there c xs ks ms (omega (arith, e)) h.1)

  picked_there : (c : Context) (xs : List ℕ) (ks : List Ker) (ms : List Kind) → length ks ≡ length xs → Sets names c ks ms → picked_kinds (zip xs ks) ≡ Some ms
  picked_there c xs ks ms e h = ap (option_and_then members) (sets_there c xs ks ms e h) ∙ members_sets ms

  -- ---- children of nodes of truth values

  abbrev True_child : Context → Ker → Type 0
  True_child c k = (kind_at k ≡ Some Truth) × (sound names k c false ≡ true)

  and_all : (c : Context) (n : ℕ) (ks : List Ker) (as' : List Kind) → AreAll Truth as' → Children names ker.And n c false ks as' → Each (True_child c) ks
  and_all c n [] [] t h = tt
  and_all c n [] (a ∷ as') t h = tt
  and_all c n (k ∷ ks) [] t h = absurd h
  and_all c n (k ∷ ks) (a ∷ as') t h = ((h.0.0 ∙ ap Some t.0, h.0.1), and_all c (suc n) ks as' t.1 h.1)

  or_all : (c : Context) (n : ℕ) (ks : List Ker) (as' : List Kind) → AreAll Truth as' → Children names ker.Or n c false ks as' → Each (True_child c) ks
  or_all c n [] [] t h = tt
  or_all c n [] (a ∷ as') t h = tt
  or_all c n (k ∷ ks) [] t h = absurd h
  or_all c n (k ∷ ks) (a ∷ as') t h = ((h.0.0 ∙ ap Some t.0, h.0.1), or_all c (suc n) ks as' t.1 h.1)

  and_row : (c : Context) (ks : List Ker) {a : Kind} {as' : List Kind} → Row ker.And a as' → Children names ker.And 0 c false ks as' → Each (True_child c) ks
  and_row c ks (row_and as' t) h = and_all c 0 ks as' t h

  or_row : (c : Context) (ks : List Ker) {a : Kind} {as' : List Kind} → Row ker.Or a as' → Children names ker.Or 0 c false ks as' → Each (True_child c) ks
  or_row c ks (row_or as' t) h = or_all c 0 ks as' t h

  if_row : (c : Context) (g a b : Ker) {as' : List Kind} → Row ker.If Truth as' → Children names ker.If 0 c false (g ∷ a ∷ b ∷ []) as' →
      Each (True_child c) (g ∷ a ∷ b ∷ [])
  if_row c g a b (row_if d) h = (h.0, (h.1.0, (h.1.1.0, tt)))

  no_and : {a d : Kind} {ms : List Kind} → BinderRow ker.And a ms d → ⊥
  no_and r = elim r [ ]

  no_or : {a d : Kind} {ms : List Kind} → BinderRow ker.Or a ms d → ⊥
  no_or r = elim r [ ]

  no_if : {a d : Kind} {ms : List Kind} → BinderRow ker.If a ms d → ⊥
  no_if r = elim r [ ]

  no_some : {a : Kind} {as' : List Kind} → Row ker.Some a as' → ⊥
  no_some r = elim r [ ]

  and_children : (c : Context) {a : Kind} {xs : List ℕ} {ks : List Ker} → Node names c false ker.And a xs ks → Each (True_child c) ks
  and_children c (node_plain o a xs ks as' r g i) = and_row c ks r g
  and_children c (node_binder o a xs ks sets body ms e q n r g h) = absurd (no_and r)

  or_children : (c : Context) {a : Kind} {xs : List ℕ} {ks : List Ker} → Node names c false ker.Or a xs ks → Each (True_child c) ks
  or_children c (node_plain o a xs ks as' r g i) = or_row c ks r g
  or_children c (node_binder o a xs ks sets body ms e q n r g h) = absurd (no_or r)

  if_children : (c : Context) (g a b : Ker) (xs : List ℕ) → Node names c false ker.If Truth xs (g ∷ a ∷ b ∷ []) → Each (True_child c) (g ∷ a ∷ b ∷ [])
  if_children c g a b xs (node_plain o d ys ks as' r h i) = if_row c g a b r h
  if_children c g a b xs (node_binder o d ys ks sets body ms e q n r h f) = absurd (no_if r)

-- ---- the induction

module _ (names : List Kind) (m : Marks) where
  abbrev Parts : List Ker → List (Ker × List (Way Step))
  Parts ks = map (λ k. (k, ways m k)) ks

  abbrev Fine : Ker → Type 0
  Fine k = (c : Context) → True_child names c k → IsTrue (scoped k (bound_in c)) → Each (Sound names c) (ways m k)

  alone_sound : (c : Context) (k : Ker) → True_child names c k → Each (Sound names c) (alone (Holds k))
  alone_sound c k h = (guard_true c k h, tt)
    where
      guard_true : (c : Context) (k : Ker) → True_child names c k → (sound_guard names c k && true) ≡ true
      guard_true c k h = and_both (sound_guard names c k) true (and_both (is_kind Truth (kind_at k)) (sound names k c false) (ap (is_kind Truth) h.0) h.1) refl

  ways_sound : (c : Context) (ks : List Ker) → Each Fine ks → Each (True_child names c) ks → Each (λ k. IsTrue (scoped k (bound_in c))) ks →
      Each (Each (Sound names c)) (map (λ (y : Ker × List (Way Step)). y.1) (Parts ks))
  ways_sound c [] f t g = tt
  ways_sound c (k ∷ ks) f t g = (f.0 c t.0 g.0, ways_sound c ks f.1 t.1 g.1)

  ways_new : (c : Context) (ks : List Ker) → Each (λ k. IsTrue (scoped k (bound_in c))) ks →
      Each (Each (New names c)) (map (λ (y : Ker × List (Way Step)). y.1) (Parts ks))
  ways_new c [] g = tt
  ways_new c (k ∷ ks) g = (chooses_new m k (bound_in c) g.0, ways_new c ks g.1)

  roots_sound : (c : Context) (p : Place) (ys : List (Way Step)) → Each (Sound names c) ys → Each (Sound names c) (branch [] p ys)
  roots_sound c p [] h = tt
  roots_sound c p (y ∷ ys) h = (h.0, roots_sound c p ys h.1)

  any_sound : (c : Context) (ks : List Ker) → Each Fine ks → Each (True_child names c) ks → Each (λ k. IsTrue (scoped k (bound_in c))) ks →
      Each (Sound names c) (any_of (map (λ (k : Ker × List (Way Step)). (place_of k, k.1)) (Parts ks)))
  any_sound c [] f t g = tt
  any_sound c (k ∷ ks) f t g =
      both_each names (Sound names c) (branch [] (out-Ker k).place (ways m k)) (any_of (map (λ (k : Ker × List (Way Step)). (place_of k, k.1)) (Parts ks)))
      (roots_sound c (out-Ker k).place (ways m k) (f.0 c t.0 g.0)) (any_sound c ks f.1 t.1 g.1)

  led_sound : (c : Context) (p q : Place) (k : Ker) (b : Bool) (ys : List (Way Step)) → True_child names c k → Each (Sound names c) ys →
      Each (Sound names c) (branch (Branch p k b ∷ []) q ys)
  led_sound c p q k b [] t h = tt
  led_sound c p q k b (y ∷ ys) t h = (
    and_both (sound_guard names c k) (sound_path names c (map step_of y.steps)) (and_both (is_kind Truth (kind_at k)) (sound names k c false) (ap (is_kind Truth) t.0) t.1) h.0,
    led_sound c p q k b ys t h.1,
  )

  either_sound : (c : Context) (b : Bool) (self : Ker) (ys : List (Way Step)) → True_child names c self → Each (Sound names c) ys →
      Each (Sound names c) (if b then ys else alone (Holds self))
  either_sound c true self ys t h = h
  either_sound c false self ys t h = alone_sound c self t

  picked_sound : (c : Context) (p : Place) (ps : List (ℕ × Ker)) (ms : List Kind) (ys : List (Way Step)) → sound_pick names c ps ≡ true → picked_kinds ps ≡ Some ms →
      Each (Sound names (c ++ zip (numbers ps) ms)) ys → Each (Sound names c) (map (λ (y : Way Step). record { taken = y.taken; steps = Choice p ps ∷ y.steps }) ys)
  picked_sound c p ps ms [] h q f = tt
  picked_sound c p ps ms (y ∷ ys) h q f =
      let after : List Kind → Bool = λ ms. sound_path names (c ++ zip (numbers ps) ms) (map step_of y.steps) in
      (and_both (sound_pick names c ps) (passes after (picked_kinds ps)) h (ap (passes after) q ∙ f.0), picked_sound c p ps ms ys h q f.1)

  if_sound : (c : Context) (self : Ker) (p : Place) (xs : List ℕ) (ks : List Ker) → Each Fine ks → True_child names c self → Node names c false ker.If Truth xs ks →
      Each (λ k. IsTrue (scoped k (bound_in c))) ks → Each (Sound names c) (if_ways self p (Parts ks))
  if_sound c self p xs [] f t n g = alone_sound c self t
  if_sound c self p xs (a ∷ []) f t n g = alone_sound c self t
  if_sound c self p xs (a ∷ b ∷ []) f t n g = alone_sound c self t
  if_sound c self p xs (k ∷ a ∷ b ∷ []) f t n g =
      let h = if_children names c k a b xs n in
      both_each names (Sound names c) (branch (Branch p k true ∷ []) (out-Ker a).place (ways m a)) (branch (Branch p k false ∷ []) (out-Ker b).place (ways m b))
      (led_sound c p (out-Ker a).place k true (ways m a) h.0 (f.1.0 c h.1.0 g.1.0))
      (led_sound c p (out-Ker b).place k false (ways m b) h.0 (f.1.1.0 c h.1.1.0 g.1.1.0))
  if_sound c self p xs (k ∷ a ∷ b ∷ d ∷ ks) f t n g = alone_sound c self t

  fine_at : (ks : List Ker) (n : ℕ) (k : Ker) → Each Fine ks → slice_get ks n ≡ Some k → Fine k
  fine_at [] n k f q = absurd (none≢some q)
  fine_at (x ∷ ks) zero k f q = subst Fine (some_same q) f.0
    where
      some_same : {X : Type 0} {x y : X} → Some x ≡ Some y → x ≡ y
      some_same e = cc
  fine_at (x ∷ ks) (suc n) k f q = fine_at ks n k f.1 q

  some_sound : (c : Context) (self : Ker) (p : Place) (xs : List ℕ) (ks sets : List Ker) (body : Ker) (ms : List Kind) → ks ≡ sets ++ body ∷ [] → length sets ≡ length xs →
      Sets names c sets ms → True_child names (c ++ zip xs ms) body → Fine body → IsTrue (scoped body (with_names (names_of xs) (bound_in c))) →
      Each (Sound names c) (choice_ways self p (zip xs sets) (Some (body, ways m body)))
  some_sound c self p xs ks sets body ms q n h t f g =
      let ps : List (ℕ × Ker) = zip xs sets in
      let e : length xs ≡ length ms = sym n ∙ set_lengths names c sets ms h in
      picked_sound c p ps ms (ways m body) (picks_sound names c xs sets ms h) (picked_there names c xs sets ms n h)
      (subst (λ (l : List ℕ). Each (Sound names (c ++ zip l ms)) (ways m body)) (sym (zip_firsts xs sets n)) (f (c ++ zip xs ms) t (scoped_more body c xs ms e g)))

  some_row : {a d : Kind} {ms : List Kind} → BinderRow ker.Some a ms d → d ≡ Truth
  some_row (row_some ms) = refl

  choice_sound : (c : Context) (self : Ker) (p : Place) (xs : List ℕ) (ks : List Ker) → Each Fine ks → Node names c false ker.Some Truth xs ks →
      IsTrue (closed_all (replicate (length xs) false ++ true ∷ []) (names_of xs) (map scoped ks) (bound_in c)) →
      Each (Sound names c) (choice_ways self p (zip xs (take (length xs) ks)) (option_map (λ k. (k, ways m k)) (slice_get ks (length xs))))
  choice_sound c self p xs ks f (node_plain o a ys js as' r g i) z = absurd (no_some names r)
  choice_sound c self p xs ks f (node_binder o a ys js sets body ms e q n r h t) z =
      let at : slice_get ks (length xs) ≡ Some body = ap₂ slice_get q (sym n) ∙ behind_front sets body in
      let first : take (length xs) ks ≡ sets = ap₂ (λ (i : ℕ) (l : List Ker). take i l) (sym n) q ∙ front sets body in
      subst (λ o. Each (Sound names c) (choice_ways self p (zip xs (take (length xs) ks)) (option_map (λ k. (k, ways m k)) o))) (sym at)
      (subst (λ l. Each (Sound names c) (choice_ways self p (zip xs l) (Some (body, ways m body)))) (sym first)
      (some_sound c self p xs ks sets body ms q n h (t.0 ∙ ap Some (some_row r), t.1) (fine_at ks (length xs) body f at)
      (body_scoped (length xs) (names_of xs) ks body (bound_in c) z at)))

  node_sound : (c : Context) (self : Ker) (p : Place) (o : KerOp) (xs : List ℕ) (ks : List Ker) → Each Fine ks → True_child names c self →
      Node names c false o Truth xs ks → IsTrue (closed_all (marks (role (op_of o) (length xs))) (names_of xs) (map scoped ks) (bound_in c)) →
      Each (Sound names c) (ways_of m o self p xs (Parts ks))
  node_sound c self p ker.And xs ks f t n z =
      let g = plain_scoped (names_of xs) ks (bound_in c) z in
      all_sound names c (map (λ y. y.1) (Parts ks)) (ways_sound c ks f (and_children names c n) g) (ways_new c ks g)
  node_sound c self p ker.Or xs ks f t n z =
      either_sound c (any_mentions m (Parts ks)) self _ t (any_sound c ks f (or_children names c n) (plain_scoped (names_of xs) ks (bound_in c) z))
  node_sound c self p ker.If xs ks f t n z =
      either_sound c (any_mentions m (Parts ks)) self _ t (if_sound c self p xs ks f t n (plain_scoped (names_of xs) ks (bound_in c) z))
  node_sound c self p ker.Some xs ks f t n z =
      subst (λ l. Each (Sound names c) (choice_ways self p (zip xs l) (slice_get (Parts ks) (length xs)))) (sym (first_trees m (length xs) ks))
      (subst (λ o. Each (Sound names c) (choice_ways self p (zip xs (take (length xs) ks)) o)) (sym (slice_get-map (λ k. (k, ways m k)) ks (length xs)))
      (choice_sound c self p xs ks f n z))
  node_sound c self p o xs ks f t n z = alone_sound c self t

  fine : (k : Ker) → Fine k
  fine = by_nodes Fine (λ x f c t g.
      let u = sound_step names (roll-Ker x) c false t.1 in
      subst (Each (Sound names c)) (sym (ways-roll m x))
      (node_sound c (roll-Ker x) x.place x.op x.binds x.args f t
      (subst (λ a. Node names c false x.op a x.binds x.args) (some_same (sym u.1 ∙ t.0))
      (subst (λ (y : Ker-F Ker). Node names c false y.op u.0 y.binds y.args) (out-roll-Ker x) u.2))
      (children_part x (bound_in c) g)))
    where
      some_same : {X : Type 0} {x y : X} → Some x ≡ Some y → x ≡ y
      some_same e = cc

  -- of a truth value that is sound in a context
  pub ways_are_sound : (k : Ker) (c : Context) → kind_at k ≡ Some Truth → IsTrue (sound_tree names k c false) → Each (Sound names c) (ways m k)
  ways_are_sound k c e h =
      fine k c (e, and_left (sound names k c false) (scoped k (bound_in c)) h) (and_right (sound names k c false) (scoped k (bound_in c)) h)

  all_paths : (k : Ker) (c : Context) (ys : List (Way Step)) → Each (Sound names c) ys →
      list_all (λ (x : KerPath). sound_path names c x.steps) (map (path_of k) ys) ≡ true
  all_paths k c [] h = refl
  all_paths k c (y ∷ ys) h =
      and_both (sound_path names c (map step_of y.steps)) (list_all (λ (x : KerPath). sound_path names c x.steps) (map (path_of k) ys)) h.0 (all_paths k c ys h.1)

  pub paths_are_sound : (k : Ker) (c : Context) → IsTrue (is_kind Truth (kind_at k) && sound_tree names k c false) →
      IsTrue (list_all (λ (x : KerPath). sound_path names c x.steps) (paths m k))
  paths_are_sound k c h =
      let a : Bool = is_kind Truth (kind_at k) in
      let b : Bool = sound_tree names k c false in
      all_paths k c (ways m k) (ways_are_sound k c (found Truth (kind_at k) (and_left a b h)) (and_right a b h))
