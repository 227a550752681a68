-- Nodes with bound names, and folds, keep shape, literal and refusal.
use Rattle.std.proofs.Common.{◌≡◌, ℕ, zero, suc, Bool, true, false, ◌&&◌, List, [], ◌∷◌, ◌++◌, map, take, drop, length, replicate, Option, None, refl, sym, ◌∙◌, ap, ap₂, subst}
use Rattle.tla_meaning.specs.declared.op.Op.TheVariants as op
use Rattle.tla_meaning.specs.declared.place.Place.{Place}
use Rattle.tla_meaning.proofs.Views.{and_left, and_right, false≢true}
use Rattle.snowcat_rows.specs.declared.types.Ty.{Ty}
use Rattle.kernel_trees.specs.declared.kernel.Ker.{Ker}
use Rattle.kernel_trees.specs.declared.kernel.Ker.TheOpen.{Ker-F}
use Rattle.kernel_trees.specs.declared.kernel.KerOp.{KerOp}
use Rattle.kernel_trees.specs.declared.kernel.KerOp.TheVariants as ker
use Rattle.kernel_trees.specs.Trees.{op_of, names_of}
use Rattle.kernel_trees.specs.TypeKinds.{Kind}
use Rattle.kernel_shapes.specs.Shape.{Shape, count, inside, join, alike}
use Rattle.kernel_shapes.specs.Rows.{no_literal, Row, row_shape, a_truth, a_part, a_map, a_function, insides, reached_by}
use Rattle.kernel_shapes.specs.Counts.{Rank, either_rank}
use Rattle.kernel_shapes.specs.Sized.{Extent, Sized, Sizing, Seen, walked, binder, folds, seen, outside, underneath, shapes_of, child_at, body, all_sound, has_one_name, is_sequence, step, steps_sound, bind_shapes, family_sound}
use Rattle.kernel_shapes.specs.Kernel.{ker_sized}
use Rattle.kernel_shapes.proofs.KernelNodes.{ker_parts, first_kinds, node_sizing, ker_sized-roll}
use Rattle.kernel_reduction.specs.Reduction.{Numbering, all_fresh, numbered}
use Rattle.kernel_reduction.specs.SizeLaws.{TiedShapes}
use Rattle.kernel_reduction.specs.Builds.{is_binder}
use Rattle.kernel_reduction.specs.Fitting.{the_kind}
use Rattle.kernel_reduction.specs.Rows.{tree}
use Rattle.kernel_reduction.proofs.Gists.{Gist, gist, bares, bare, bare_shapes, gist_at, no_gist, ranks, own, View, node_gist, step_of, steps_rank}
use Rattle.kernel_reduction.proofs.GistNodes.{Gists, gist_outside, gist_under, view_at, node_at, operand_gists, ker_gist, ker_gists, ker_node, whole, Whole}
use Rattle.kernel_reduction.proofs.ShapeTies.{tied_under}
use Rattle.kernel_reduction.proofs.SizeFrame.{KeepsGist, KeepsGists, IsSound, AllSound, all_here, kers_here, same_here, outside_sound}

abbrev pub binding : Place → Ty → KerOp → List Ker → List ℕ → Ker-F Ker
binding p a ko ks ns = record { place = p; ty = a; op = ko; args = ks; binds = ns }

abbrev pub gist_shapes : List Gist → List Shape
gist_shapes l = map (λ a. a.shape) l

take_bares : (n : ℕ) (l : List Gist) → take n (bares l) ≡ bares (take n l)
take_bares zero l = refl
take_bares (suc n) [] = refl
take_bares (suc n) (a ∷ l) = ap (λ (x : List Sized). bare a ∷ x) (take_bares n l)

child_bare : (n : ℕ) (l : List Gist) → child_at n (bares l) ≡ bare (gist_at n l)
child_bare n [] = refl
child_bare zero (a ∷ l) = refl
child_bare (suc n) (a ∷ l) = child_bare n l

-- ---- binders

-- of the sets and the body
abbrev pub of_binder : ℕ → Place → Row → List Gist → Gist → Gist
of_binder w p r front b =
    let a : Shape = row_shape w r no_literal (gist_shapes front ++ b.shape ∷ []) in
    record { shape = a; literal = no_literal; rank = λ q. either_rank (own p a) (either_rank (ranks walked front) (b.rank walked)) }

abbrev pub members : List Gist → List Shape
members l = insides (gist_shapes l)

binder_is : (w : ℕ) (p : Place) (n : ℕ) (r : Row) (v : View) → node_gist w p (binder n r) v ≡ of_binder w p r (take n v.here) (gist_at n (v.under (members (take n v.here))))
binder_is w p n r v =
    ap₂ (λ (as' : List Shape) (b : Shape). by_shape (row_shape w r no_literal (as' ++ b ∷ []))) shapes (ap (λ (as' : List Shape). (child_at n (bares (v.under (insides as')))).shape) shapes ∙ ap (λ (b : Sized). b.shape) (child_bare n (v.under (members (take n v.here)))))
  where
    by_shape : Shape → Gist
    by_shape a = record { shape = a; literal = no_literal; rank = λ q. either_rank (own p a) (either_rank (ranks walked (take n v.here)) ((gist_at n (v.under (members (take n v.here)))).rank walked)) }

    shapes : shapes_of (take n (bares v.here)) ≡ gist_shapes (take n v.here)
    shapes = ap shapes_of (take_bares n v.here) ∙ bare_shapes (take n v.here)

abbrev pub marks_behind : ℕ → List Bool
marks_behind n = replicate n false ++ true ∷ []

front_here : (n : ℕ) (zs : Gists) (g : Extent) → take n (gist_outside (marks_behind n) zs g) ≡ all_here (take n zs) g
front_here zero zs g = refl
front_here (suc n) [] g = refl
front_here (suc n) (z ∷ zs) g = ap (λ (l : List Gist). z g ∷ l) (front_here n zs g)

-- the body is the first behind the sets
abbrev pub first_gist : Gists → Extent → Gist
first_gist [] g = no_gist
first_gist (z ∷ zs) g = z g

body_under : (n : ℕ) (zs : Gists) (g : Extent) → gist_at n (gist_under (marks_behind n) zs g) ≡ first_gist (drop n zs) g
body_under zero [] g = refl
body_under zero (z ∷ zs) g = refl
body_under (suc n) [] g = refl
body_under (suc n) (z ∷ zs) g = body_under n zs g

-- a node over n sets
abbrev pub binder_gist : ℕ → Place → ℕ → Row → List (List ℕ) → Gists → Extent → Gist
binder_gist w p n r xs zs g =
    of_binder w p r (all_here (take n zs) g) (first_gist (drop n zs) (bind_shapes xs (members (all_here (take n zs) g)) g))

abbrev pub binder_view : ℕ → List (List ℕ) → Gists → Extent → View
binder_view n xs zs g = view_at (λ g. None) (marks_behind n) xs zs g

pub binder_here : (w : ℕ) (p : Place) (n : ℕ) (r : Row) (xs : List (List ℕ)) (zs : Gists) (g : Extent) →
    node_gist w p (binder n r) (binder_view n xs zs g) ≡ binder_gist w p n r xs zs g
binder_here w p n r xs zs g =
    binder_is w p n r (binder_view n xs zs g)
    ∙ ap (λ (l : List Gist). of_binder w p r l (gist_at n (gist_under (marks_behind n) zs (bind_shapes xs (members l) g)))) (front_here n zs g)
    ∙ ap (of_binder w p r (all_here (take n zs) g)) (body_under n zs (bind_shapes xs (members (all_here (take n zs) g)) g))

-- ---- sets and body apart

-- as many
abbrev pub AsMany : {X Y : Type 0} → List X → List Y → Type 0
AsMany [] [] = Unit {0}
AsMany (x ∷ xs) (y ∷ ys) = AsMany xs ys
AsMany [] (y ∷ ys) = ⊥
AsMany (x ∷ xs) [] = ⊥

pub as_many : (w : ℕ) (ρ : Numbering) (zs : Gists) (ks : List Ker) → KeepsGists w ρ zs ks → AsMany zs ks
as_many w ρ [] [] b = tt
as_many w ρ (z ∷ zs) (k ∷ ks) b = as_many w ρ zs ks b.1
as_many w ρ [] (k ∷ ks) b = absurd b
as_many w ρ (z ∷ zs) [] b = absurd b

pub front_of : {X Y : Type 0} (n : ℕ) (zs : List X) (ks bs : List Y) → AsMany (take n zs) ks → AsMany (drop n zs) bs → (take n (ks ++ bs) ≡ ks) × (drop n (ks ++ bs) ≡ bs)
front_of zero zs [] bs b c = (refl, refl)
front_of zero zs (k ∷ ks) bs b c = absurd b
front_of (suc n) [] [] [] b c = (refl, refl)
front_of (suc n) [] [] (k ∷ bs) b c = absurd c
front_of (suc n) [] (k ∷ ks) bs b c = absurd b
front_of (suc n) (z ∷ zs) [] bs b c = absurd b
front_of {Y = Y} (suc n) (z ∷ zs) (k ∷ ks) bs b c = let r = front_of n zs ks bs b c in (ap (λ (l : List Y). k ∷ l) r.0, r.1)

take_gists : (w n : ℕ) (ks : List Ker) → take n (ker_gists w ks) ≡ ker_gists w (take n ks)
take_gists w zero ks = refl
take_gists w (suc n) [] = refl
take_gists w (suc n) (k ∷ ks) = ap (λ (l : Gists). ker_gist w k ∷ l) (take_gists w n ks)

drop_gists : (w n : ℕ) (ks : List Ker) → drop n (ker_gists w ks) ≡ ker_gists w (drop n ks)
drop_gists w zero ks = refl
drop_gists w (suc n) [] = refl
drop_gists w (suc n) (k ∷ ks) = drop_gists w n ks

pub ker_binder : (w : ℕ) (p : Place) (n : ℕ) (r : Row) (xs : List (List ℕ)) (ks bs : List Ker) (h : Extent) → (take n (ks ++ bs) ≡ ks) × (drop n (ks ++ bs) ≡ bs) →
    binder_gist w p n r xs (ker_gists w (ks ++ bs)) h
    ≡ of_binder w p r (kers_here w ks h) (first_gist (ker_gists w bs) (bind_shapes xs (members (kers_here w ks h)) h))
ker_binder w p n r xs ks bs h e =
    ap₂ (λ (ys zs : Gists). of_binder w p r (all_here ys h) (first_gist zs (bind_shapes xs (members (all_here ys h)) h)))
    (take_gists w n (ks ++ bs) ∙ ap (ker_gists w) e.0) (drop_gists w n (ks ++ bs) ∙ ap (ker_gists w) e.1)

-- ---- soundness

abbrev pub FirstSound : ℕ → List Ker → Extent → Type 0
FirstSound w [] h = Unit {0}
FirstSound w (k ∷ ks) h = IsSound w k h

front_sound : (w n : ℕ) (ks : List Ker) (h : Extent) → all_sound (take n (outside (marks_behind n) (map (ker_sized w) ks) h)) ≡ true → AllSound w (take n ks) h
front_sound w zero ks h s = tt
front_sound w (suc n) [] h s = tt
front_sound w (suc n) (k ∷ ks) h s =
    let rest : Bool = all_sound (take n (outside (marks_behind n) (map (ker_sized w) ks) h)) in
    (and_left (ker_sized w k h).sound rest s, front_sound w n ks h (and_right (ker_sized w k h).sound rest s))

body_sound : (w n : ℕ) (ks : List Ker) (h : Extent) → (child_at n (underneath (marks_behind n) (map (ker_sized w) ks) h)).sound ≡ true → FirstSound w (drop n ks) h
body_sound w zero [] h s = tt
body_sound w zero (k ∷ ks) h s = s
body_sound w (suc n) [] h s = tt
body_sound w (suc n) (k ∷ ks) h s = body_sound w n ks h s

front_shapes : (w n : ℕ) (ks : List Ker) (h : Extent) → shapes_of (take n (outside (marks_behind n) (map (ker_sized w) ks) h)) ≡ gist_shapes (kers_here w (take n ks) h)
front_shapes w zero ks h = refl
front_shapes w (suc n) [] h = refl
front_shapes w (suc n) (k ∷ ks) h = ap (λ (l : List Shape). (ker_gist w k h).shape ∷ l) (front_shapes w n ks h)

binder_sound : (w n : ℕ) (r : Row) (xs : List (List ℕ)) (ks bs : List Ker) (h : Extent) → (take n (ks ++ bs) ≡ ks) × (drop n (ks ++ bs) ≡ bs) →
    family_sound (binder n r) (seen (λ g. None) (marks_behind n) xs (map (ker_sized w) (ks ++ bs)) h) ≡ true →
    AllSound w ks h × FirstSound w bs (bind_shapes xs (members (kers_here w ks h)) h)
binder_sound w n r xs ks bs h e s =
    let v : Seen = seen (λ g. None) (marks_behind n) xs (map (ker_sized w) (ks ++ bs)) h in
    let both : Bool = all_sound (take n v.here) && (body n v).sound in
    let t = and_right (has_one_name r n (length v.here)) both s in
    let front = front_sound w n (ks ++ bs) h (and_left (all_sound (take n v.here)) (body n v).sound t) in
    let shapes : shapes_of (take n v.here) ≡ gist_shapes (kers_here w ks h) = front_shapes w n (ks ++ bs) h ∙ ap (λ (l : List Ker). gist_shapes (kers_here w l h)) e.0 in
    let inner = body_sound w n (ks ++ bs) (bind_shapes xs (insides (shapes_of (take n v.here))) h) (and_right (all_sound (take n v.here)) (body n v).sound t) in (
      subst (λ (l : List Ker). AllSound w l h) e.0 front,
      subst (λ (as' : List Shape). FirstSound w bs (bind_shapes xs (insides as') h)) shapes (subst (λ (l : List Ker). FirstSound w l (bind_shapes xs (insides (shapes_of (take n v.here))) h)) e.1 inner),
    )

pub same_first : (w : ℕ) (ρ : Numbering) (zs : Gists) (ks : List Ker) → KeepsGists w ρ zs ks → (g h : Extent) → TiedShapes ρ g h → FirstSound w ks h →
    first_gist zs g ≡ first_gist (ker_gists w ks) h
same_first w ρ [] [] b g h t s = refl
same_first w ρ (z ∷ zs) (k ∷ ks) b g h t s = b.0 g h t s
same_first w ρ [] (k ∷ ks) b g h t s = absurd b
same_first w ρ (z ∷ zs) [] b g h t s = absurd b

-- ---- the row

pub names_length : (xs : List (List ℕ)) (ns : List ℕ) (ρ : Numbering) → all_fresh xs ns ρ ≡ true → length (names_of ns) ≡ length xs
names_length [] [] ρ h = refl
names_length [] (n ∷ ns) ρ h = absurd (false≢true h)
names_length (x ∷ xs) [] ρ h = absurd (false≢true h)
names_length (x ∷ xs) (n ∷ ns) ρ h = ap suc (names_length xs ns (ρ ++ (x, n) ∷ []) (and_right _ _ h))

module _ (w : ℕ) (ρ : Numbering) (p : Place) (xs : List (List ℕ)) (zs : Gists) (ks bs : List Ker) (ns : List ℕ) (f : all_fresh xs ns ρ ≡ true)
    (b : KeepsGists w ρ (take (length xs) zs) ks) (c : KeepsGists w (numbered xs ns ρ) (drop (length xs) zs) bs) where
  apart : (take (length xs) (ks ++ bs) ≡ ks) × (drop (length xs) (ks ++ bs) ≡ bs)
  apart = front_of (length xs) zs ks bs (as_many w ρ (take (length xs) zs) ks b) (as_many w (numbered xs ns ρ) (drop (length xs) zs) bs c)

  -- by what the kernel's node is sound for, and is
  by_row : (r : Row) (g h : Extent) → TiedShapes ρ g h →
      family_sound (binder (length xs) r) (seen (λ g. None) (marks_behind (length xs)) (names_of ns) (map (ker_sized w) (ks ++ bs)) h) ≡ true →
      node_gist w p (binder (length xs) r) (binder_view (length xs) xs zs g) ≡ node_gist w p (binder (length xs) r) (binder_view (length xs) (names_of ns) (ker_gists w (ks ++ bs)) h)
  by_row r g h t s =
      let sound = binder_sound w (length xs) r (names_of ns) ks bs h apart s in
      let sets : all_here (take (length xs) zs) g ≡ kers_here w ks h = same_here w ρ (take (length xs) zs) ks b g h t sound.0 in
      let as' : List Shape = members (kers_here w ks h) in
      binder_here w p (length xs) r xs zs g
      ∙ ap (λ (l : List Gist). of_binder w p r l (first_gist (drop (length xs) zs) (bind_shapes xs (members l) g))) sets
      ∙ ap (of_binder w p r (kers_here w ks h)) (same_first w (numbered xs ns ρ) (drop (length xs) zs) bs c (bind_shapes xs as' g) (bind_shapes (names_of ns) as' h) (tied_under xs ns as' ρ g h f t) sound.1)
      ∙ sym (ker_binder w p (length xs) r (names_of ns) ks bs h apart)
      ∙ sym (binder_here w p (length xs) r (names_of ns) (ker_gists w (ks ++ bs)) h)

  abbrev bound_kers : Gists
  bound_kers = ker_gists w (ks ++ bs)

  -- by the kernel's names
  by_names : (r : ℕ → Row) (g h : Extent) → TiedShapes ρ g h →
      family_sound (binder (length (names_of ns)) (r (length (names_of ns)))) (seen (λ g. None) (marks_behind (length (names_of ns))) (names_of ns) (map (ker_sized w) (ks ++ bs)) h) ≡ true →
      node_gist w p (binder (length xs) (r (length xs))) (binder_view (length xs) xs zs g)
      ≡ node_gist w p (binder (length (names_of ns)) (r (length (names_of ns)))) (binder_view (length (names_of ns)) (names_of ns) bound_kers h)
  by_names r g h t s =
      by_row (r (length xs)) g h t
      (subst (λ (n : ℕ). family_sound (binder n (r n)) (seen (λ g. None) (marks_behind n) (names_of ns) (map (ker_sized w) (ks ++ bs)) h) ≡ true) (names_length xs ns ρ f) s)
      ∙ ap (λ (n : ℕ). node_gist w p (binder n (r n)) (binder_view n (names_of ns) bound_kers h)) (sym (names_length xs ns ρ f))

  module _ (ps : List Bool) (k : Kind) (js : List Kind) (a : Ty) where
    abbrev made_of : KerOp → Ker-F Ker
    made_of ko = binding p a ko (ks ++ bs) ns

    tree_is : (ko : KerOp) (h : Extent) → Whole (op_of ko) (ker_parts (made_of ko)) → (z : Gist) →
        node_at w p (op_of ko) (names_of ns) (ker_parts (made_of ko)) (the_kind a) (first_kinds (made_of ko)) (operand_gists w ko bound_kers) h ≡ z →
        z ≡ ker_gist w (tree p a ko (ks ++ bs) ns) h
    tree_is ko h q z e = sym (ker_node w (made_of ko) h q ∙ e)

    opened_sound : (ko : KerOp) (h : Extent) → IsSound w (tree p a ko (ks ++ bs) ns) h → (node_sizing w (made_of ko) h).sound ≡ true
    opened_sound ko h s = sym (ap (λ (z : Sizing). (z h).sound) (ker_sized-roll w (made_of ko))) ∙ s

    pub sizes_binder : (ko : KerOp) → is_binder ko ≡ true → KeepsGist w ρ (node_at w p (op_of ko) xs ps k js zs) (tree p a ko (ks ++ bs) ns)
    sizes_binder ker.Filter q g h t s = by_names (λ n. a_part) g h t (opened_sound ker.Filter h s) ∙ tree_is ker.Filter h (whole op.Filter (ker_parts (made_of ker.Filter)) refl) _ refl
    sizes_binder ker.MapOver q g h t s = by_names a_map g h t (opened_sound ker.MapOver h s) ∙ tree_is ker.MapOver h (whole op.MapTo (ker_parts (made_of ker.MapOver)) refl) _ refl
    sizes_binder ker.FunOf q g h t s = by_names a_function g h t (opened_sound ker.FunOf h s) ∙ tree_is ker.FunOf h (whole op.Lambda (ker_parts (made_of ker.FunOf)) refl) _ refl
    sizes_binder ker.Some q g h t s = by_names (λ n. a_truth) g h t (opened_sound ker.Some h s) ∙ tree_is ker.Some h (whole op.Exists (ker_parts (made_of ker.Some)) refl) _ refl
    sizes_binder ker.Every q g h t s = by_names (λ n. a_truth) g h t (opened_sound ker.Every h s) ∙ tree_is ker.Every h (whole op.Forall (ker_parts (made_of ker.Every)) refl) _ refl
    sizes_binder (ker.Const v) q g h t s = absurd (false≢true q)
    sizes_binder ko q g h t s = absurd (false≢true q)

-- ---- folds

-- of the start and the sequence, and the body
abbrev pub fold_steps : ℕ → (Shape → Gist) → Shape → Option Rank
fold_steps zero f a = None
fold_steps (suc n) f a = either_rank ((f a).rank walked) (fold_steps n f (f a).shape)

abbrev pub of_fold : ℕ → Place → Gist → Gist → Option Rank → (Shape → Gist) → Gist
of_fold w p start over r f =
    let a : Shape = reached_by (count over.shape) (λ b. (f b).shape) start.shape in
    record { shape = a; literal = no_literal; rank = λ q. either_rank (own p a) (either_rank r (fold_steps (count over.shape) f start.shape)) }

steps_are : (n : ℕ) (v : View) (a : Shape) → steps_rank n v a ≡ fold_steps n (step_of v) a
steps_are zero v a = refl
steps_are (suc n) v a = ap (either_rank ((step_of v a).rank walked)) (steps_are n v (step_of v a).shape)

-- of a node whose first child is the body, and which has others
abbrev pub fold_view : List (List ℕ) → Gists → Extent → View
fold_view xs zs g = view_at (λ g. None) (true ∷ []) xs zs g

step_is : (xs : List (List ℕ)) (z : Extent → Gist) (zs : Gists) (g : Extent) (a : Shape) →
    (child_at 0 (bares ((fold_view xs (z ∷ zs) g).under (a ∷ inside (child_at 2 (bares (fold_view xs (z ∷ zs) g).here)).shape ∷ [])))).shape
    ≡ (z (bind_shapes xs (a ∷ inside (gist_at 1 (all_here zs g)).shape ∷ []) g)).shape
step_is xs z zs g a = ap (λ (b : Sized). (z (bind_shapes xs (a ∷ inside b.shape ∷ []) g)).shape) (child_bare 1 (all_here zs g))

pub fold_is : (w : ℕ) (p : Place) (xs : List (List ℕ)) (z : Extent → Gist) (zs : Gists) (g : Extent) →
    node_gist w p folds (fold_view xs (z ∷ zs) g)
    ≡ of_fold w p (gist_at 0 (all_here zs g)) (gist_at 1 (all_here zs g)) (ranks walked (all_here zs g))
    (λ a. z (bind_shapes xs (a ∷ inside (gist_at 1 (all_here zs g)).shape ∷ []) g))
fold_is w p xs z zs g =
    let v : View = fold_view xs (z ∷ zs) g in
    let f : Shape → Gist = λ a. z (bind_shapes xs (a ∷ inside (gist_at 1 (all_here zs g)).shape ∷ []) g) in
    ap₂ (λ (a : Shape) (r : Option Rank). with_rank a r)
    ((λ i. reached_by (count (child_bare 1 (all_here zs g) i).shape) (λ a. step_is xs z zs g a i) (child_bare 0 (all_here zs g) i).shape))
    (steps_are (count (gist_at 1 (all_here zs g)).shape) v (gist_at 0 (all_here zs g)).shape)
  where
    with_rank : Shape → Option Rank → Gist
    with_rank a r = record { shape = a; literal = no_literal; rank = λ q. either_rank (own p a) (either_rank (ranks walked (all_here zs g)) r) }

nth_here : (w n : ℕ) (ks : List Ker) (h : Extent) → gist (child_at n (outside [] (map (ker_sized w) ks) h)) ≡ gist_at n (kers_here w ks h)
nth_here w n [] h = refl
nth_here w zero (k ∷ ks) h = refl
nth_here w (suc n) (k ∷ ks) h = nth_here w n ks h

module _ (w : ℕ) (ρ : Numbering) (p : Place) (xs : List (List ℕ)) (ns : List ℕ) (f : all_fresh xs ns ρ ≡ true) (z : Extent → Gist) (b : Ker)
    (c : KeepsGist w (numbered xs ns ρ) z b) (ks : List Ker) (g h : Extent) (t : TiedShapes ρ g h) where
  abbrev over : Shape
  over = inside (gist_at 1 (kers_here w ks h)).shape

  abbrev job_step : Shape → Gist
  job_step a = z (bind_shapes xs (a ∷ over ∷ []) g)

  abbrev ker_step : Shape → Gist
  ker_step a = ker_gist w b (bind_shapes (names_of ns) (a ∷ over ∷ []) h)

  abbrev fold_seen : Seen
  fold_seen = seen (λ g. None) (true ∷ []) (names_of ns) (map (ker_sized w) (b ∷ ks)) h

  over_is : inside (child_at 2 fold_seen.here).shape ≡ over
  over_is = ap (λ (a : Gist). inside a.shape) (nth_here w 1 ks h)

  one_step : (a : Shape) → (step fold_seen a).sound ≡ true → job_step a ≡ ker_step a
  one_step a s = c _ _ (tied_under xs ns (a ∷ over ∷ []) ρ g h f t) (subst (λ (o : Shape). IsSound w b (bind_shapes (names_of ns) (a ∷ o ∷ []) h)) over_is s)

  step_shape : (a : Shape) → (step fold_seen a).shape ≡ (ker_step a).shape
  step_shape a = ap (λ (o : Shape). (ker_gist w b (bind_shapes (names_of ns) (a ∷ o ∷ []) h)).shape) over_is

  same_steps : (n : ℕ) (a : Shape) → steps_sound n fold_seen a ≡ true →
      (reached_by n (λ b. (job_step b).shape) a ≡ reached_by n (λ b. (ker_step b).shape) a) × (fold_steps n job_step a ≡ fold_steps n ker_step a)
  same_steps zero a s = (refl, refl)
  same_steps (suc n) a s =
      let here = and_left (step fold_seen a).sound _ s in
      let rest : Bool = steps_sound n fold_seen (step fold_seen a).shape in
      let later = and_right (alike a (reached_by n (λ b. (step fold_seen b).shape) (step fold_seen a).shape)) rest (and_right (step fold_seen a).sound _ s) in
      let e : job_step a ≡ ker_step a = one_step a here in
      let r = same_steps n (ker_step a).shape (subst (λ (b : Shape). steps_sound n fold_seen b ≡ true) (step_shape a) later) in (
        ap (λ (b : Gist). join a (reached_by n (λ b. (job_step b).shape) b.shape)) e ∙ ap (join a) r.0,
        ap (λ (b : Gist). either_rank (b.rank walked) (fold_steps n job_step b.shape)) e ∙ ap (either_rank ((ker_step a).rank walked)) r.1,
      )

-- of its own number and those within
abbrev pub shaped : Place → Shape → Option Rank → Gist
shaped p a r = record { shape = a; literal = no_literal; rank = λ q. either_rank (own p a) r }

pub sizes_fold : (w : ℕ) (ρ : Numbering) (p : Place) (xs : List (List ℕ)) (ps : List Bool) (k : Kind) (js : List Kind) (zs : Gists) (ks bs : List Ker) (ns : List ℕ) (a : Ty) →
    all_fresh xs ns ρ ≡ true → KeepsGists w (numbered xs ns ρ) (take 1 zs) bs → KeepsGists w ρ (drop 1 zs) ks →
    KeepsGist w ρ (node_at w p op.Fold xs ps k js zs) (tree p a ker.FoldLeft (bs ++ ks) ns)
sizes_fold w ρ p xs ps k js [] [] [] ns a f b c g h t s = sym (ker_node w (binding p a ker.FoldLeft [] ns) h (whole op.Fold (ker_parts (binding p a ker.FoldLeft [] ns)) refl))
sizes_fold w ρ p xs ps k js [] (l ∷ ks) bs ns a f b c g h t s = absurd c
sizes_fold w ρ p xs ps k js [] [] (l ∷ bs) ns a f b c g h t s = absurd b
sizes_fold w ρ p xs ps k js (z ∷ zs) ks [] ns a f b c g h t s = absurd b
sizes_fold w ρ p xs ps k js (z ∷ zs) ks (l ∷ m ∷ bs) ns a f b c g h t s = absurd b.1
sizes_fold w ρ p xs ps k js (z ∷ zs) ks (l ∷ []) ns a f b c g h t s =
    let x : Ker-F Ker = binding p a ker.FoldLeft (l ∷ ks) ns in
    let v : Seen = seen (λ g. None) (true ∷ []) (names_of ns) (map (ker_sized w) (l ∷ ks)) h in
    let q : family_sound folds v ≡ true = sym (ap (λ (z : Sizing). (z h).sound) (ker_sized-roll w x)) ∙ s in
    let seq : Bool = is_sequence (child_at 2 v.here).shape in
    let rest : Bool = steps_sound (count (child_at 2 v.here).shape) v (child_at 1 v.here).shape in
    let all : AllSound w ks h = outside_sound w ks h (and_left (all_sound (drop 1 v.here)) (seq && rest) q) in
    let here : all_here zs g ≡ kers_here w ks h = same_here w ρ zs ks c g h t all in
    let steps : steps_sound (count (gist_at 1 (kers_here w ks h)).shape) v (gist_at 0 (kers_here w ks h)).shape ≡ true =
    subst (λ (o : Gist). steps_sound (count o.shape) v (gist_at 0 (kers_here w ks h)).shape ≡ true) (nth_here w 1 ks h)
    (subst (λ (o : Gist). steps_sound (count (child_at 2 v.here).shape) v o.shape ≡ true) (nth_here w 0 ks h) (and_right seq rest (and_right (all_sound (drop 1 v.here)) (seq && rest) q))) in
    let e = same_steps w ρ p xs ns f z l b.0 ks g h t (count (gist_at 1 (kers_here w ks h)).shape) (gist_at 0 (kers_here w ks h)).shape steps in
    fold_is w p xs z zs g
    ∙ ap (λ (as' : List Gist). of_fold w p (gist_at 0 as') (gist_at 1 as') (ranks walked as') (λ a. z (bind_shapes xs (a ∷ inside (gist_at 1 as').shape ∷ []) g))) here
    ∙ ap₂ (λ (a : Shape) (r : Option Rank). shaped p a (either_rank (ranks walked (kers_here w ks h)) r)) e.0 e.1
    ∙ sym (ker_node w x h (whole op.Fold (ker_parts x) refl) ∙ fold_is w p (names_of ns) (ker_gist w l) (ker_gists w ks) h)
