-- The gist of an EXCEPT, by its updates, and of an update along a path of the kernel.
use Rattle.std.proofs.Common.{◌≡◌, ℕ, zero, suc, Bool, true, false, ◌&&◌, List, [], ◌∷◌, ◌++◌, map, take, drop, replicate, Option, None, refl, sym, ◌∙◌, ap, ap₂, if◌then◌else◌}
use Rattle.tla_meaning.specs.declared.op.Op.TheVariants as op
use Rattle.tla_meaning.specs.declared.place.Place.{Place}
use Rattle.tla_meaning.specs.Meaning.{except_marks}
use Rattle.tla_meaning.proofs.Views.{and_left, and_right}
use Rattle.snowcat_rows.specs.declared.types.Ty.{Ty}
use Rattle.kernel_trees.specs.declared.kernel.Ker.{Ker}
use Rattle.kernel_trees.specs.declared.kernel.Ker.TheOpen.{Ker-F}
use Rattle.kernel_trees.specs.declared.kernel.KerOp.TheVariants as ker
use Rattle.kernel_trees.specs.Trees.{as_expr, names_of, number_name}
use Rattle.kernel_trees.specs.TypeKinds.{Kind}
use Rattle.kernel_shapes.specs.Shape.{Shape}
use Rattle.kernel_shapes.specs.Rows.{Literal, no_literal, applied_at, joined_at, shape_at}
use Rattle.kernel_shapes.specs.Counts.{Count, Rank, either_rank, first_rank}
use Rattle.kernel_shapes.specs.Sized.{Extent, Sized, Sizing, walked, bind_shapes, excepted, literals_of, child_at, right_counts, own_count}
use Rattle.kernel_shapes.specs.Trees.{is_part}
use Rattle.kernel_shapes.specs.Kernel.{ker_sized}
use Rattle.kernel_shapes.proofs.KernelNodes.{ker_sized-roll}
use Rattle.kernel_shapes.proofs.Refusals.{rank_append}
use Rattle.kernel_reduction.specs.Rows.{tree}
use Rattle.kernel_reduction.proofs.Ranks.{either_none}
use Rattle.kernel_reduction.proofs.Gists.{Gist, gist, bare, bares, gist_at, ranks, own, except_rank}
use Rattle.kernel_reduction.proofs.GistNodes.{Gists, gist_outside, gist_under, node_at, ker_gist}
use Rattle.kernel_reduction.proofs.SizeFrame.{IsSound, all_here}
use Rattle.kernel_reduction.proofs.SizeLeaves.{walked_rank}
use Rattle.kernel_reduction.proofs.SizeBinders.{binding, first_gist, shaped}

-- ---- the updates of an EXCEPT that binds x

abbrev pub literals : List Gist → List Literal
literals l = map (λ a. a.literal) l

abbrev pub path_at : ℕ → Gists → Extent → List Literal
path_at n zs g = literals (all_here (take n zs) g)

-- the right side behind n indexes, where x has this shape
abbrev pub right_at : List ℕ → ℕ → Gists → Extent → Shape → Gist
right_at x n zs g a = first_gist (drop n zs) (bind_shapes (x ∷ []) (a ∷ []) g)

abbrev pub updated_shape : List ℕ → List ℕ → Gists → Extent → Shape → Shape
updated_shape x [] zs g a = a
updated_shape x (n ∷ ns) zs g a =
    updated_shape x ns (drop (suc n) zs) g (joined_at (path_at n zs g) (right_at x n zs g (shape_at a (path_at n zs g))).shape a)

abbrev pub updates_rank : List ℕ → List ℕ → Gists → Extent → Shape → Option Rank
updates_rank x [] zs g a = None
updates_rank x (n ∷ ns) zs g a =
    either_rank (ranks walked (all_here (take n zs) g)) (either_rank ((right_at x n zs g (shape_at a (path_at n zs g))).rank walked)
    (updates_rank x ns (drop (suc n) zs) g (joined_at (path_at n zs g) (right_at x n zs g (shape_at a (path_at n zs g))).shape a)))

-- ---- by the marks of an EXCEPT

front : (n : ℕ) (ms : List Bool) (zs : Gists) (g : Extent) → take n (gist_outside (replicate n false ++ true ∷ ms) zs g) ≡ all_here (take n zs) g
front zero ms zs g = refl
front (suc n) ms [] g = refl
front (suc n) ms (z ∷ zs) g = ap (λ (l : List Gist). z g ∷ l) (front n ms zs g)

rest : (n : ℕ) (ms : List Bool) (zs : Gists) (g : Extent) → drop (suc n) (gist_outside (replicate n false ++ true ∷ ms) zs g) ≡ gist_outside ms (drop (suc n) zs) g
rest zero ms [] g = refl
rest zero ms (z ∷ zs) g = refl
rest (suc n) ms [] g = refl
rest (suc n) ms (z ∷ zs) g = rest n ms zs g

right : (n : ℕ) (ms : List Bool) (zs : Gists) (g : Extent) → gist_at n (gist_under (replicate n false ++ true ∷ ms) zs g) ≡ first_gist (drop n zs) g
right zero ms [] g = refl
right zero ms (z ∷ zs) g = refl
right (suc n) ms [] g = refl
right (suc n) ms (z ∷ zs) g = right n ms zs g

rest_under : (n : ℕ) (ms : List Bool) (zs : Gists) (g : Extent) → drop (suc n) (gist_under (replicate n false ++ true ∷ ms) zs g) ≡ gist_under ms (drop (suc n) zs) g
rest_under zero ms [] g = refl
rest_under zero ms (z ∷ zs) g = refl
rest_under (suc n) ms [] g = refl
rest_under (suc n) ms (z ∷ zs) g = rest_under n ms zs g

bare_literals : (l : List Gist) → literals_of (bares l) ≡ literals l
bare_literals [] = refl
bare_literals (a ∷ l) = ap (λ (x : List Literal). a.literal ∷ x) (bare_literals l)

take_bares : (n : ℕ) (l : List Gist) → take n (bares l) ≡ bares (take n l)
take_bares zero l = refl
take_bares (suc n) [] = refl
take_bares (suc n) (a ∷ l) = ap (λ (x : List Sized). bare a ∷ x) (take_bares n l)

drop_bares : (n : ℕ) (l : List Gist) → drop n (bares l) ≡ bares (drop n l)
drop_bares zero l = refl
drop_bares (suc n) [] = refl
drop_bares (suc n) (a ∷ l) = drop_bares n l

child_bare : (n : ℕ) (l : List Gist) → child_at n (bares l) ≡ bare (gist_at n l)
child_bare n [] = refl
child_bare zero (a ∷ l) = refl
child_bare (suc n) (a ∷ l) = child_bare n l

module _ (x : List ℕ) (g : Extent) where
  excepted_is : (ns : List ℕ) (zs : Gists) (a : Shape) →
      excepted ns (bares (gist_outside (except_marks ns) zs g)) (λ bs. bares (gist_under (except_marks ns) zs (bind_shapes (x ∷ []) bs g))) a ≡ updated_shape x ns zs g a
  excepted_is [] zs a = refl
  excepted_is (n ∷ ns) zs a =
      let ms : List Bool = except_marks (n ∷ ns) in
      let ks : List Gist = gist_outside ms zs g in
      let under : List Shape → List Gist = λ bs. gist_under ms zs (bind_shapes (x ∷ []) bs g) in
      let lits : literals_of (take n (bares ks)) ≡ path_at n zs g = ap literals_of (take_bares n ks) ∙ bare_literals (take n ks) ∙ ap literals (front n (except_marks ns) zs g) in
      let path : List Literal = path_at n zs g in
      let r : child_at n (bares (under (shape_at a path ∷ []))) ≡ bare (right_at x n zs g (shape_at a path)) = child_bare n (under (shape_at a path ∷ [])) ∙ ap bare (right n (except_marks ns) zs (bind_shapes (x ∷ []) (shape_at a path ∷ []) g)) in
      ap (λ (l : List Literal). excepted ns (drop (suc n) (bares ks)) (λ bs. drop (suc n) (bares (under bs))) (joined_at l (child_at n (bares (under (shape_at a l ∷ [])))).shape a)) lits
      ∙ ap (λ (b : Sized). excepted ns (drop (suc n) (bares ks)) (λ bs. drop (suc n) (bares (under bs))) (joined_at path b.shape a)) r
      ∙ (λ i. excepted ns ((drop_bares (suc n) ks ∙ ap bares (rest n (except_marks ns) zs g)) i)
      (λ bs. (drop_bares (suc n) (under bs) ∙ ap bares (rest_under n (except_marks ns) zs (bind_shapes (x ∷ []) bs g))) i) (joined_at path (right_at x n zs g (shape_at a path)).shape a))
      ∙ excepted_is ns (drop (suc n) zs) (joined_at path (right_at x n zs g (shape_at a path)).shape a)

  ranks_are : (ns : List ℕ) (zs : Gists) (a : Shape) →
      except_rank ns (gist_outside (except_marks ns) zs g) (λ bs. gist_under (except_marks ns) zs (bind_shapes (x ∷ []) bs g)) a ≡ updates_rank x ns zs g a
  ranks_are [] zs a = refl
  ranks_are (n ∷ ns) zs a =
      let ms : List Bool = except_marks (n ∷ ns) in
      let ks : List Gist = gist_outside ms zs g in
      let under : List Shape → List Gist = λ bs. gist_under ms zs (bind_shapes (x ∷ []) bs g) in
      let path : List Literal = path_at n zs g in
      let f : List Gist → Gist → Option Rank = λ l b.
      either_rank (ranks walked l) (either_rank (b.rank walked) (except_rank ns (drop (suc n) ks) (λ bs. drop (suc n) (under bs)) (joined_at (literals l) b.shape a))) in
      ap (λ (l : List Gist). f l (gist_at n (under (shape_at a (literals l) ∷ [])))) (front n (except_marks ns) zs g)
      ∙ ap (f (all_here (take n zs) g)) (right n (except_marks ns) zs (bind_shapes (x ∷ []) (shape_at a path ∷ []) g))
      ∙ (λ i. either_rank (ranks walked (all_here (take n zs) g)) (either_rank ((right_at x n zs g (shape_at a path)).rank walked)
      (except_rank ns (rest n (except_marks ns) zs g i) (λ bs. rest_under n (except_marks ns) zs (bind_shapes (x ∷ []) bs g) i) (joined_at path (right_at x n zs g (shape_at a path)).shape a))))
      ∙ ap (λ (o : Option Rank). either_rank (ranks walked (all_here (take n zs) g)) (either_rank ((right_at x n zs g (shape_at a path)).rank walked) o))
      (ranks_are ns (drop (suc n) zs) (joined_at path (right_at x n zs g (shape_at a path)).shape a))

pub except_is : (w : ℕ) (p : Place) (cs : List ℕ) (x : List ℕ) (ps : List Bool) (kd : Kind) (js : List Kind) (z : Extent → Gist) (zs : Gists) (g : Extent) →
    node_at w p (op.Except cs) (x ∷ []) ps kd js (z ∷ zs) g ≡ shaped p (updated_shape x cs zs g (z g).shape) (either_rank ((z g).rank walked) (updates_rank x cs zs g (z g).shape))
except_is w p cs x ps kd js z zs g = ap₂ (λ (a : Shape) (r : Option Rank). shaped p a (either_rank ((z g).rank walked) r)) (excepted_is x g cs zs (z g).shape) (ranks_are x g cs zs (z g).shape)

-- ---- an update of the kernel

-- what is refused first of the indexes and right sides of an EXCEPT
abbrev pub beyond_rank : ℕ → Ker → Extent → Option Rank
beyond_rank w k h = first_rank (ker_sized w k h).beyond

module _ (w : ℕ) (p : Place) (a : Ty) (f i e : Ker) (n : ℕ) (h : Extent) where
  abbrev update : Ker-F Ker
  update = binding p a ker.Update (f ∷ i ∷ e ∷ []) (n ∷ [])

  abbrev pub update_inner : Extent
  update_inner = bind_shapes (names_of (n ∷ [])) (applied_at (ker_gist w f h).shape (ker_gist w i h).literal ∷ []) h

  abbrev pub right_rank : Bool → Option Rank
  right_rank b = if b then beyond_rank w e update_inner else walked_rank w e update_inner

  rights : (b : Bool) → first_rank (right_counts b (ker_sized w e update_inner)) ≡ right_rank b
  rights true = refl
  rights false = refl

  abbrev goes : Bool
  goes = is_part p (number_name n ∷ []) (as_expr e)

  abbrev inner_counts : List Count
  inner_counts = ((ker_sized w i h).counts walked ++ []) ++ right_counts goes (ker_sized w e update_inner) ++ []

  counted : first_rank inner_counts ≡ either_rank (walked_rank w i h) (right_rank goes)
  counted =
      rank_append (((ker_sized w i h).counts walked ++ []) ++ right_counts goes (ker_sized w e update_inner)) []
      ∙ either_none (first_rank (((ker_sized w i h).counts walked ++ []) ++ right_counts goes (ker_sized w e update_inner)))
      ∙ rank_append ((ker_sized w i h).counts walked ++ []) (right_counts goes (ker_sized w e update_inner))
      ∙ ap₂ either_rank (rank_append ((ker_sized w i h).counts walked) [] ∙ either_none (walked_rank w i h)) (rights goes)

  pub update_gist : (b : Bool) → is_part p (number_name n ∷ []) (as_expr e) ≡ b →
      ker_gist w (tree p a ker.Update (f ∷ i ∷ e ∷ []) (n ∷ [])) h
      ≡ shaped p (joined_at ((ker_gist w i h).literal ∷ []) (ker_gist w e update_inner).shape (ker_gist w f h).shape) (either_rank (walked_rank w f h) (either_rank (walked_rank w i h) (right_rank b)))
  update_gist b q =
      let S : Shape = joined_at ((ker_gist w i h).literal ∷ []) (ker_gist w e update_inner).shape (ker_gist w f h).shape in
      ap (λ (z : Sizing). gist (z h)) (ker_sized-roll w update)
      ∙ (λ j. record {
        shape = S;
        literal = no_literal;
        rank = λ q. (rank_append (own_count true p S) ((ker_sized w f h).counts walked ++ inner_counts)
            ∙ ap (either_rank (own p S)) (rank_append ((ker_sized w f h).counts walked) inner_counts ∙ ap (either_rank (walked_rank w f h)) counted)) j;
      })
      ∙ ap (λ (c : Bool). shaped p S (either_rank (walked_rank w f h) (either_rank (walked_rank w i h) (right_rank c)))) q

  pub update_beyond : (b : Bool) → is_part p (number_name n ∷ []) (as_expr e) ≡ b →
      beyond_rank w (tree p a ker.Update (f ∷ i ∷ e ∷ []) (n ∷ [])) h ≡ either_rank (walked_rank w i h) (right_rank b)
  update_beyond b q =
      ap (λ (z : Sizing). first_rank (z h).beyond) (ker_sized-roll w update)
      ∙ counted
      ∙ ap (λ (c : Bool). either_rank (walked_rank w i h) (right_rank c)) q

  pub update_sound : IsSound w (tree p a ker.Update (f ∷ i ∷ e ∷ []) (n ∷ [])) h → IsSound w f h × (IsSound w i h × IsSound w e update_inner)
  update_sound s =
      let r = sym (ap (λ (z : Sizing). (z h).sound) (ker_sized-roll w update)) ∙ s in
      let s1 = and_right (ker_sized w f h).sound _ r in (
        and_left (ker_sized w f h).sound _ r,
        (
          and_left (ker_sized w i h).sound true (and_left ((ker_sized w i h).sound && true) _ s1),
          and_left (ker_sized w e update_inner).sound _ (and_right _ _ (and_right ((ker_sized w i h).sound && true) _ s1)),
        ),
      )
