-- Walks along steps, one behind another.
use Rattle.std.proofs.Common.{◌≡◌, ℕ, zero, suc, ◌+◌, ◌<◌, ◌≤◌, Bool, List, [], ◌∷◌, ◌++◌, map, take, length, get_or, Option, Some, option_map, slice_set, refl, sym, ◌∙◌, ap, ap₂, subst, arith}
use Rattle.kernel_trees.specs.declared.kernel.Ker.{Ker}
use Rattle.kernel_trees.specs.declared.path.AssignedStep.{AssignedStep}
use Rattle.kernel_trees.specs.declared.path.AssignedStep.TheVariants as mark
use Rattle.kernel_trees.specs.Trees.{names_of, number_name}
use Rattle.kernel_shapes.specs.declared.bounds.Shape.{Shape as Code}
use Rattle.kernel_shapes.specs.Codes.{mean}
use Rattle.kernel_shapes.specs.Counts.{Count}
use Rattle.kernel_shapes.specs.Kernel.{ker_sized}
use Rattle.kernel_shapes.specs.Levels.{Assigns, Path, Step, Pick, in_next, in_state, after_path, after_step, path_numbers, picked_counts, picked_names, picked_shapes, put, step_numbers}
use Rattle.kernel_shapes.specs.Shape.{Shape, inside}
use Rattle.kernel_shapes.specs.Sized.{Extent, Sizing, assigned_from, bind_shapes, picked_from, walked}
use Rattle.kernel_shapes.specs.Systems.{sized_path, sized_step}
use Rattle.shape_bounds.specs.declared.names.Names.{Names}
use Rattle.shape_bounds.specs.inner.Walks.{IsAssigned, SizesPicked, Walks, sized_sets, some_shapes}
use Rattle.shape_bounds.specs.Kept.{capped}
use Rattle.shape_bounds.specs.Sizes.{Finds, IsBound, Reads, Sizes, bound_name}
use Rattle.shape_bounds.proofs.Composing.{finds_more, finds_none, finds_same, reads_same, same_more, same_self}
use Rattle.shape_bounds.proofs.Ending.{all_taken, grouped, mapped_end, mapped_next, nothing_more}
use Rattle.shape_bounds.proofs.Families.{at_width, reads_bound, under_finds}
use Rattle.shape_bounds.proofs.Keeping.{capped_inside}

-- ---- a name is given a shape

pub set_some : (os : List (Option Code)) (i : ℕ) (s : Code) → some_shapes (slice_set os i (Some s)) ≡ put i (mean s) (some_shapes os)
set_some [] i s = refl
set_some (o ∷ os) zero s = refl
set_some (o ∷ os) (suc i) s = ap (λ (as' : List (Option Shape)). option_map mean o ∷ as') (set_some os i s)

pub put_past : (os : List (Option Code)) (i : ℕ) (a : Shape) → length os ≤ i → some_shapes os ≡ put i a (some_shapes os)
put_past [] i a h = refl
put_past (o ∷ os) zero a h = absurd (omega (arith, h))
put_past (o ∷ os) (suc i) a h = ap (λ (as' : List (Option Shape)). option_map mean o ∷ as') (put_past os i a (omega (arith, h)))

put_capped : (i : ℕ) (b : Shape) (gs : List (Option Shape)) → map (option_map capped) (put i b gs) ≡ put i (capped b) (map (option_map capped) gs)
put_capped i b [] = refl
put_capped zero b (g ∷ gs) = refl
put_capped (suc i) b (g ∷ gs) = ap (λ (as' : List (Option Shape)). option_map capped g ∷ as') (put_capped i b gs)

put_kept : (i : ℕ) (b a : Shape) (gs : List (Option Shape)) (os ps : List (Option Code)) → capped b ≡ a → map (option_map capped) gs ≡ some_shapes os →
    some_shapes ps ≡ put i a (some_shapes os) → map (option_map capped) (put i b gs) ≡ some_shapes ps
put_kept i b a gs os ps e f h = put_capped i b gs ∙ ap₂ (put i) e f ∙ sym h

pub assigned_next : (old new : Names) (i : ℕ) (a : Shape) → new.width ≡ old.width → new.first ≡ old.first → new.state ≡ old.state → new.bound ≡ old.bound →
    some_shapes new.next.items ≡ put i a (some_shapes old.next.items) → IsAssigned old new in_next i a
assigned_next old new i a ew ef es eb en = record {
  width = ew;
  first = ef;
  reads = λ g b l e. record {
    now = l.now ∙ sym (ap (λ v. map (option_map mean) v.items) es);
    next = put_kept i b a g.next old.next.items new.next.items e l.next en;
    bound = l.bound ∙ sym (ap (λ v. map bound_name v.items) eb);
  };
}

pub assigned_state : (old new : Names) (i : ℕ) (a : Shape) → new.width ≡ old.width → new.first ≡ old.first → new.bound ≡ old.bound →
    some_shapes new.state.items ≡ put i a (some_shapes old.state.items) → some_shapes new.next.items ≡ put i a (some_shapes old.next.items) → IsAssigned old new in_state i a
assigned_state old new i a ew ef eb es en = record {
  width = ew;
  first = ef;
  reads = λ g b l e. record {
    now = put_kept i b a g.now old.state.items new.state.items e l.now es;
    next = put_kept i b a g.next old.next.items new.next.items e l.next en;
    bound = l.bound ∙ sym (ap (λ v. map bound_name v.items) eb);
  };
}

-- ---- members that are picked

pub picked_none : (s : Names) → SizesPicked s s [] []
picked_none s = record { same = same_self s; shapes = λ g l. refl; finds = λ g l. finds_none s }

shapes_end : (xs : List (List ℕ × Sizing)) (x : List ℕ × Sizing) (g : Extent) → picked_shapes (xs ++ x ∷ []) g ≡ picked_shapes xs g ++ inside (x.1 g).shape ∷ []
shapes_end [] x g = refl
shapes_end (y ∷ xs) x g = ap (λ (as' : List Shape). inside (y.1 g).shape ∷ as') (shapes_end xs x g)

counts_end : (xs : List (List ℕ × Sizing)) (x : List ℕ × Sizing) (g : Extent) → picked_counts (xs ++ x ∷ []) g ≡ picked_counts xs g ++ (x.1 g).counts picked_from
counts_end [] x g = nothing_more ((x.1 g).counts picked_from)
counts_end (y ∷ xs) x g =
    ap (λ (cs : List Count). (y.1 g).counts picked_from ++ cs) (counts_end xs x g) ∙ grouped ((y.1 g).counts picked_from) (picked_counts xs g) ((x.1 g).counts picked_from)

picked_more : (a b c : Names) (xs : List (List ℕ × Sizing)) (x : List ℕ × Sizing) (rs new : List Code) (s r : Code) → SizesPicked a b xs rs → Sizes b c x.1 picked_from s →
    mean r ≡ inside (mean s) → new ≡ rs ++ r ∷ [] → SizesPicked a c (xs ++ x ∷ []) new
picked_more a b c xs x rs new s r h k m e = record {
  same = same_more a b c h.same k.same;
  shapes = λ g l.
      ap (map capped) (shapes_end xs x g) ∙ mapped_end capped (picked_shapes xs g) (inside (x.1 g).shape)
      ∙ ap₂ (λ (as' : List Shape) (y : Shape). as' ++ y ∷ []) (h.shapes g l)
      (capped_inside (x.1 g).shape ∙ ap inside (k.shape g (reads_same a b g h.same l)) ∙ sym m)
      ∙ sym (ap (map mean) e ∙ mapped_end mean rs r);
  finds = λ g l.
      finds_same a c _ _ (sym (counts_end xs x g))
      (finds_more a b c (picked_counts xs g) ((x.1 g).counts picked_from) (h.finds g l) (k.finds g (reads_same a b g h.same l)));
}

pub picked_next : (a b c : Names) (ps : List (ℕ × Ker)) (n : ℕ) (p : ℕ × Ker) (rs new : List Code) (s r : Code) → SizesPicked a b (sized_sets a.width (take n ps)) rs →
    n < length ps → p ≡ get_or ps n p → Sizes b c (ker_sized b.width p.1) picked_from s → mean r ≡ inside (mean s) → new ≡ rs ++ r ∷ [] →
    SizesPicked a c (sized_sets a.width (take (n + 1) ps)) new
picked_next a b c ps n p rs new s r h l e k m f =
    let one : suc n ≡ n + 1 = omega arith in
    subst (λ (xs : List (List ℕ × Sizing)). SizesPicked a c xs new) (mapped_next (λ (q : ℕ × Ker). (number_name q.0, ker_sized a.width q.1)) ps n p l e ∙ ap (λ (i : ℕ). sized_sets a.width (take i ps)) one)
    (picked_more a b c (sized_sets a.width (take n ps)) (number_name p.0, ker_sized a.width p.1) rs new s r h (at_width a b c p.1 picked_from s h.same k) m f)

pub picked_whole : (a b : Names) (ps : List (ℕ × Ker)) (n : ℕ) (rs : List Code) → SizesPicked a b (sized_sets a.width (take n ps)) rs → length ps ≤ n →
    SizesPicked a b (sized_sets a.width ps) rs
picked_whole a b ps n rs h l = subst (λ (qs : List (ℕ × Ker)). SizesPicked a b (sized_sets a.width qs) rs) (all_taken ps n l) h

names_picked : (w : ℕ) (ps : List (ℕ × Ker)) → names_of (map (λ (p : ℕ × Ker). p.0) ps) ≡ picked_names (sized_sets w ps)
names_picked w [] = refl
names_picked w (p ∷ ps) = ap (λ (xs : List (List ℕ)). number_name p.0 ∷ xs) (names_picked w ps)

pub pick_walks : (old mid new : Names) (k : Assigns) (ps : List (ℕ × Ker)) (xs ns : List ℕ) (rs ss : List Code) → SizesPicked old mid (sized_sets old.width ps) rs →
    xs ≡ map (λ (p : ℕ × Ker). p.0) ps → ns ≡ xs → ss ≡ rs → IsBound mid new ns (map mean ss) →
    Walks old new (after_step k (Pick (sized_sets old.width ps))) (step_numbers (Pick (sized_sets old.width ps)))
pick_walks old mid new k ps xs ns rs ss h e f c b =
    let w : ℕ = old.width in
    let d : IsBound mid new (map (λ (p : ℕ × Ker). p.0) ps) (map mean rs) =
    subst (λ (us : List Code). IsBound mid new (map (λ (p : ℕ × Ker). p.0) ps) (map mean us)) c (subst (λ (ys : List ℕ). IsBound mid new ys (map mean ss)) (f ∙ e) b) in
    record {
      width = d.width ∙ h.same.width;
      reads = λ g l.
          subst (λ (ys : List (List ℕ)). Reads new (bind_shapes ys (picked_shapes (sized_sets w ps) g) g)) (names_picked w ps)
          (reads_bound mid new (map (λ (p : ℕ × Ker). p.0) ps) (map mean rs) (picked_shapes (sized_sets w ps) g) g d (reads_same old mid g h.same l) (h.shapes g l));
      finds = λ g l. under_finds old old mid new (picked_counts (sized_sets w ps) g) refl d.first (h.finds g l);
    }

-- ---- steps

pub guard_walks : (old new : Names) (k : Assigns) (e : Ker) (b : Bool) (step : AssignedStep) (r : Code) → step ≡ mark.Guard e b →
    Sizes old new (ker_sized old.width e) walked r → Walks old new (after_step k (sized_step old.width step)) (step_numbers (sized_step old.width step))
guard_walks old new k e b step r is s =
    subst (λ (z : AssignedStep). Walks old new (after_step k (sized_step old.width z)) (step_numbers (sized_step old.width z))) (sym is)
    (record { width = s.same.width; reads = λ g l. reads_same old new g s.same l; finds = s.finds })

assigned_finds : (old mid new : Names) (cs : List Count) → new.first ≡ mid.first → Finds old mid cs → Finds old new cs
assigned_finds old mid new cs e h = under_finds old old mid new cs refl e h

pub equals_walks : (old mid new : Names) (k : Assigns) (i : ℕ) (e : Ker) (step : AssignedStep) (r : Code) → step ≡ mark.Equals i e →
    Sizes old mid (ker_sized old.width e) walked r → IsAssigned mid new k i (mean r) → Walks old new (after_step k (sized_step old.width step)) (step_numbers (sized_step old.width step))
equals_walks old mid new k i e step r is s a =
    subst (λ (z : AssignedStep). Walks old new (after_step k (sized_step old.width z)) (step_numbers (sized_step old.width z))) (sym is)
    (record {
      width = a.width ∙ s.same.width;
      reads = λ g l. a.reads g (ker_sized old.width e g).shape (reads_same old mid g s.same l) (s.shape g l);
      finds = λ g l. assigned_finds old mid new ((ker_sized old.width e g).counts walked) a.first (s.finds g l);
    })

pub among_walks : (old mid new : Names) (k : Assigns) (i : ℕ) (e : Ker) (step : AssignedStep) (s r : Code) → step ≡ mark.Among i e →
    Sizes old mid (ker_sized old.width e) assigned_from s → mean r ≡ inside (mean s) → IsAssigned mid new k i (mean r) →
    Walks old new (after_step k (sized_step old.width step)) (step_numbers (sized_step old.width step))
among_walks old mid new k i e step c r is s m a =
    subst (λ (z : AssignedStep). Walks old new (after_step k (sized_step old.width z)) (step_numbers (sized_step old.width z))) (sym is)
    (record {
      width = a.width ∙ s.same.width;
      reads = λ g l.
          a.reads g (inside (ker_sized old.width e g).shape) (reads_same old mid g s.same l)
          (capped_inside (ker_sized old.width e g).shape ∙ ap inside (s.shape g l) ∙ sym m);
      finds = λ g l. assigned_finds old mid new ((ker_sized old.width e g).counts assigned_from) a.first (s.finds g l);
    })

pub picks_walk : (old new : Names) (k : Assigns) (ps qs : List (ℕ × Ker)) (step : AssignedStep) → step ≡ mark.Pick ps → qs ≡ ps →
    Walks old new (after_step k (Pick (sized_sets old.width qs))) (step_numbers (Pick (sized_sets old.width qs))) →
    Walks old new (after_step k (sized_step old.width step)) (step_numbers (sized_step old.width step))
picks_walk old new k ps qs step is e h =
    subst (λ (z : AssignedStep). Walks old new (after_step k (sized_step old.width z)) (step_numbers (sized_step old.width z))) (sym is)
    (subst (λ (us : List (ℕ × Ker)). Walks old new (after_step k (Pick (sized_sets old.width us))) (step_numbers (Pick (sized_sets old.width us)))) e h)

-- ---- paths

pub path_none : (s : Names) (k : Assigns) → Walks s s (after_path k []) (path_numbers k [])
path_none s k = record { width = refl; reads = λ g l. l; finds = λ g l. finds_none s }

after_end : (k : Assigns) (ss : Path) (s : Step) (g : Extent) → after_step k s (after_path k ss g) ≡ after_path k (ss ++ s ∷ []) g
after_end k [] s g = refl
after_end k (t ∷ ss) s g = after_end k ss s (after_step k t g)

numbers_end : (k : Assigns) (ss : Path) (s : Step) (g : Extent) → path_numbers k ss g ++ step_numbers s (after_path k ss g) ≡ path_numbers k (ss ++ s ∷ []) g
numbers_end k [] s g = sym (nothing_more (step_numbers s g))
numbers_end k (t ∷ ss) s g =
    sym (grouped (step_numbers t g) (path_numbers k ss (after_step k t g)) (step_numbers s (after_path k ss (after_step k t g))))
    ∙ ap (λ (cs : List Count). step_numbers t g ++ cs) (numbers_end k ss s (after_step k t g))

path_more : (a b c : Names) (k : Assigns) (ss : Path) (s : Step) → Walks a b (after_path k ss) (path_numbers k ss) → Walks b c (after_step k s) (step_numbers s) →
    Walks a c (after_path k (ss ++ s ∷ [])) (path_numbers k (ss ++ s ∷ []))
path_more a b c k ss s h t = record {
  width = t.width ∙ h.width;
  reads = λ g l. subst (Reads c) (after_end k ss s g) (t.reads (after_path k ss g) (h.reads g l));
  finds = λ g l.
      finds_same a c _ _ (numbers_end k ss s g)
      (finds_more a b c (path_numbers k ss g) (step_numbers s (after_path k ss g)) (h.finds g l) (t.finds (after_path k ss g) (h.reads g l)));
}

pub path_next : (a b c : Names) (k : Assigns) (zs : List AssignedStep) (n : ℕ) (z : AssignedStep) →
    Walks a b (after_path k (sized_path a.width (take n zs))) (path_numbers k (sized_path a.width (take n zs))) → n < length zs → z ≡ get_or zs n z →
    Walks b c (after_step k (sized_step b.width z)) (step_numbers (sized_step b.width z)) →
    Walks a c (after_path k (sized_path a.width (take (n + 1) zs))) (path_numbers k (sized_path a.width (take (n + 1) zs)))
path_next a b c k zs n z h l e t =
    let one : suc n ≡ n + 1 = omega arith in
    let s : Walks b c (after_step k (sized_step a.width z)) (step_numbers (sized_step a.width z)) =
    subst (λ (w : ℕ). Walks b c (after_step k (sized_step w z)) (step_numbers (sized_step w z))) h.width t in
    subst (λ (ss : Path). Walks a c (after_path k ss) (path_numbers k ss)) (mapped_next (sized_step a.width) zs n z l e ∙ ap (λ (i : ℕ). sized_path a.width (take i zs)) one)
    (path_more a b c k (sized_path a.width (take n zs)) (sized_step a.width z) h s)

pub path_whole : (a b : Names) (k : Assigns) (zs : List AssignedStep) (n : ℕ) →
    Walks a b (after_path k (sized_path a.width (take n zs))) (path_numbers k (sized_path a.width (take n zs))) → length zs ≤ n →
    Walks a b (after_path k (sized_path a.width zs)) (path_numbers k (sized_path a.width zs))
path_whole a b k zs n h l =
    subst (λ (ys : List AssignedStep). Walks a b (after_path k (sized_path a.width ys)) (path_numbers k (sized_path a.width ys))) (all_taken zs n l) h
