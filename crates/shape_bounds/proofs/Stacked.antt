-- Stacks of bound numbers, and the extents for which they stand.
use Rattle.std.proofs.Common.{◌≡◌, ◌<◌, ◌≤◌, ℕ, suc, List, [], ◌∷◌, ◌++◌, map, take, length, get_or, Option, option_map, refl, sym, ◌∙◌, ap, ap₂, subst, arith, ◌+◌}
use Rattle.kernel_trees.specs.declared.kernel.Ker.{Ker}
use Rattle.kernel_trees.specs.Trees.{names_of}
use Rattle.kernel_shapes.specs.declared.bounds.Shape.{Shape as Code}
use Rattle.kernel_shapes.specs.Codes.{mean}
use Rattle.kernel_shapes.specs.Kernel.{ker_shape, ker_sized}
use Rattle.kernel_shapes.specs.Shape.{Shape}
use Rattle.kernel_shapes.specs.Sized.{Extent, bind_shapes, bound_shapes, walked}
use Rattle.shape_bounds.specs.declared.names.Names.{Names}
use Rattle.shape_bounds.specs.Extents.{extent_of, given_shapes, kept_extent}
use Rattle.shape_bounds.specs.Kept.{IsWidth, capped}
use Rattle.shape_bounds.specs.Sizes.{IsBound, Reads, SameNames, Sizes, bound_name}
use Rattle.shape_bounds.specs.inner.Stage.{IsNamed}
use Rattle.shape_bounds.specs.inner.Stacks.{AreShapes, IsExtended, IsLeft, IsShape, Stack, Stand, Stays, stacked}
use Rattle.shape_bounds.proofs.Ending.{all_taken, mapped_end, mapped_next}
use Rattle.shape_bounds.proofs.Families.{bound_kept, more_kept}

-- ---- what is declared stays

pub stays_self : (s : Names) → Stays s s
stays_self s = record { width = refl; state = refl; next = refl }

pub stays_more : (a b c : Names) → Stays a b → Stays b c → Stays a c
stays_more a b c h k = record { width = k.width ∙ h.width; state = k.state ∙ h.state; next = k.next ∙ h.next }

pub same_stays : (a b : Names) → SameNames a b → Stays a b
same_stays a b h = record { width = h.width; state = h.state; next = h.next }

pub stays_width : (a b : Names) → Stays a b → IsWidth a.width → IsWidth b.width
stays_width a b h i = record {
  some = subst (λ (n : ℕ). 1 ≤ n) (sym h.width) i.some;
  narrow = subst (λ (n : ℕ). n ≤ 64) (sym h.width) i.narrow;
}

-- ---- extents

abbrev with_names : List (Option Shape) → List (Option Shape) → Stack → Extent
with_names ns ts b = record { now = ns; next = ts; bound = map bound_name b }

pub stacked_same : (a b : Names) → Stays a b → stacked b ≡ stacked a
stacked_same a b h =
    ap₂ (λ (ns ts : List (Option Shape)). with_names ns ts)
    (ap (λ v. map (option_map mean) v.items) h.state) (ap (λ v. map (option_map mean) v.items) h.next)

pub stand_same : (a b : Names) → Stays a b → (bs : List Stack) (gs : List Extent) → Stand a bs gs → Stand b bs gs
stand_same a b h bs gs e = e ∙ sym (ap (λ (f : Stack → Extent). map f bs) (stacked_same a b h))

pub stand_back : (a b : Names) → Stays a b → (bs : List Stack) (gs : List Extent) → Stand b bs gs → Stand a bs gs
stand_back a b h bs gs e = e ∙ ap (λ (f : Stack → Extent). map f bs) (stacked_same a b h)

abbrev extent : List (Option Shape) → List (Option Shape) → List (List ℕ × Shape) → Extent
extent now next bound = record { now = now; next = next; bound = bound }

same_extent : (now next : List (Option Shape)) (bound : List (List ℕ × Shape)) (h : Extent) → now ≡ h.now → next ≡ h.next → bound ≡ h.bound → extent now next bound ≡ h
same_extent now next bound h e f k = λ i. record { now = e i; next = f i; bound = k i }

-- names that are bound as in a stack are read as in its extent
pub reads_stacked : (old mid : Names) (b : Stack) (g : Extent) → Stays old mid → mid.bound.items ≡ b → kept_extent g ≡ stacked old b → Reads mid g
reads_stacked old mid b g h f e =
    let here : kept_extent g ≡ stacked mid b = e ∙ sym (ap (λ (s : Stack → Extent). s b) (stacked_same old mid h)) in
    record {
      now = ap (λ (x : Extent). x.now) here;
      next = ap (λ (x : Extent). x.next) here;
      bound = ap (λ (x : Extent). x.bound) here ∙ sym (ap (map bound_name) f);
    }

-- further numbers with shapes
pub under_stands : (s : Names) (b r : Stack) (xs : List ℕ) (as' bs : List Shape) (g : Extent) → kept_extent g ≡ stacked s b → map capped bs ≡ as' →
    map bound_name r ≡ map bound_name b ++ bound_shapes (names_of xs) as' → kept_extent (bind_shapes (names_of xs) bs g) ≡ stacked s r
under_stands s b r xs as' bs g e f h =
    same_extent _ _ _ (stacked s r) (ap (λ (x : Extent). x.now) e) (ap (λ (x : Extent). x.next) e)
    (more_kept g.bound (bound_shapes (names_of xs) bs)
    ∙ ap₂ (λ (us vs : List (List ℕ × Shape)). us ++ vs) (ap (λ (x : Extent). x.bound) e) (bound_kept (names_of xs) bs ∙ ap (bound_shapes (names_of xs)) f)
    ∙ sym h)

pub extended_is : (old one two new : Names) (b r : Stack) (xs : List ℕ) (as' : List Shape) → Stays old one → one.bound.items ≡ b → IsBound one two xs as' →
    IsLeft two new r → IsExtended old new b xs as' r
extended_is old one two new b r xs as' h e k l = record {
  stays = stays_more old one new h (stays_more one two new (record { width = k.width; state = k.state; next = k.next }) l.stays);
  bound = ap (map bound_name) l.bound ∙ k.bound ∙ ap (λ (c : Stack). map bound_name c ++ bound_shapes (names_of xs) as') e;
}

-- the declared names have these shapes
pub given_stands : (s : Names) (w : ℕ) (now next : List Code) (b : Stack) (g : Extent) → IsNamed s w (given_shapes now) (given_shapes next) → kept_extent g ≡ extent_of now next b → kept_extent g ≡ stacked s b
given_stands s w now next b g h e = e ∙ sym (same_extent _ _ _ (extent_of now next b) h.state h.after refl)

-- ---- the shape of a tree at a stack, and at each

pub shape_found : (old mid new : Names) (k : Ker) (b : Stack) (r : Code) → Stays old mid → mid.bound.items ≡ b → Sizes mid new (ker_sized mid.width k) walked r → IsShape old new k b r
shape_found old mid new k b r h f s = record {
  stays = stays_more old mid new h (same_stays mid new s.same);
  shape = λ g e.
      ap (λ (w : ℕ). capped (ker_shape w k g)) (sym h.width)
      ∙ s.shape g (reads_stacked old mid b g h f e);
}

-- a list whose images end with one more
pub data EndsWith {X : Type 0} {Z : Type 0} (f : X → Z) (zs : List Z) (z : Z) (xs : List X) : Type 0 where
  ends_with : (ys : List X) (y : X) → xs ≡ ys ++ y ∷ [] → map f ys ≡ zs → f y ≡ z → EndsWith f zs z xs

module _ {X : Type 0} {Z : Type 0} (f : X → Z) where
  head_is : (x : X) (xs : List X) (z : Z) (zs : List Z) → map f (x ∷ xs) ≡ z ∷ zs → f x ≡ z
  head_is x xs z zs e = cc

  tail_is : (x : X) (xs : List X) (z : Z) (zs : List Z) → map f (x ∷ xs) ≡ z ∷ zs → map f xs ≡ zs
  tail_is x xs z zs e = cc

  no_more : (xs : List X) → map f xs ≡ [] → xs ≡ []
  no_more [] e = refl
  no_more (x ∷ xs) e = absurd (cc)

  pub image_ends : (zs : List Z) (z : Z) (xs : List X) → map f xs ≡ zs ++ z ∷ [] → EndsWith f zs z xs
  image_ends [] z [] e = absurd (cc)
  image_ends [] z (x ∷ xs) e = ends_with [] x (ap (λ (us : List X). x ∷ us) (no_more xs (tail_is x xs z [] e))) refl (head_is x xs z [] e)
  image_ends (u ∷ zs) z [] e = absurd (cc)
  image_ends (u ∷ zs) z (x ∷ xs) e = more (image_ends zs z xs (tail_is x xs u (zs ++ z ∷ []) e))
    where
      more : EndsWith f zs z xs → EndsWith f (u ∷ zs) z (x ∷ xs)
      more (ends_with ys y h k l) =
          ends_with (x ∷ ys) y (ap (λ (us : List X). x ∷ us) h) (ap₂ (λ (v : Z) (us : List Z). v ∷ us) (head_is x xs u (zs ++ z ∷ []) e) k) l

-- extents of one stack more
pub stand_ends : (s : Names) (bs : List Stack) (n : ℕ) (b : Stack) (gs : List Extent) → n < length bs → b ≡ get_or bs n b → Stand s (take (n + 1) bs) gs →
    EndsWith kept_extent (map (stacked s) (take n bs)) (stacked s b) gs
stand_ends s bs n b gs h e k =
    let one : suc n ≡ n + 1 = omega arith in
    image_ends kept_extent (map (stacked s) (take n bs)) (stacked s b) gs
    (k ∙ ap (λ (m : ℕ). map (stacked s) (take m bs)) (sym one) ∙ sym (mapped_next (stacked s) bs n b h e))

abbrev pub capped_at : ℕ → Ker → Extent → Shape
capped_at w k g = capped (ker_shape w k g)

pub shapes_none : (s : Names) (k : Ker) (bs : List Stack) (rs : List Code) → rs ≡ [] → AreShapes s s k (take 0 bs) rs
shapes_none s k bs rs h = record { stays = stays_self s; shapes = λ gs e. none gs e ∙ sym (ap (map mean) h) }
  where
    none : (gs : List Extent) → Stand s (take 0 bs) gs → map (capped_at s.width k) gs ≡ map mean []
    none [] e = refl
    none (g ∷ gs) e = absurd (cc)

pub shapes_next : (old mid new : Names) (k : Ker) (bs : List Stack) (n : ℕ) (b : Stack) (rs us : List Code) (r : Code) → AreShapes old mid k (take n bs) rs →
    n < length bs → b ≡ get_or bs n b → IsShape mid new k b r → us ≡ rs ++ r ∷ [] → AreShapes old new k (take (n + 1) bs) us
shapes_next old mid new k bs n b rs us r h l i s e = record {
  stays = stays_more old mid new h.stays s.stays;
  shapes = λ gs t. by gs (stand_ends old bs n b gs l i t);
}
  where
    by : (gs : List Extent) → EndsWith kept_extent (map (stacked old) (take n bs)) (stacked old b) gs → map (capped_at old.width k) gs ≡ map mean us
    by gs (ends_with hs g p q f) =
        ap (map (capped_at old.width k)) p ∙ mapped_end (capped_at old.width k) hs g
        ∙ ap₂ (λ (as' : List Shape) (a : Shape). as' ++ a ∷ []) (h.shapes hs q)
        (ap (λ (w : ℕ). capped (ker_shape w k g)) (sym h.stays.width) ∙ s.shape g (f ∙ sym (ap (λ (c : Stack → Extent). c b) (stacked_same old mid h.stays))))
        ∙ sym (ap (map mean) e ∙ mapped_end mean rs r)

pub shapes_whole : (old new : Names) (k : Ker) (bs : List Stack) (n : ℕ) (rs : List Code) → AreShapes old new k (take n bs) rs → length bs ≤ n → AreShapes old new k bs rs
shapes_whole old new k bs n rs h l = subst (λ (cs : List Stack). AreShapes old new k cs rs) (all_taken bs n l) h
