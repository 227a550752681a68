-- The extents of what stands under bound numbers.
use Rattle.std.proofs.Common.{◌≡◌, ◌<◌, ◌≤◌, ℕ, zero, suc, ◌+◌, ◌-◌, true, List, [], ◌∷◌, ◌++◌, map, take, flat_map, length, get_or, refl, sym, ◌∙◌, ap, ap₂, subst, arith}
use Rattle.std.proofs.lemmas.List.{map-append}
use Rattle.tla_meaning.proofs.Views.{false≢true}
use Rattle.kernel_trees.specs.declared.kernel.Ker.{Ker, out-Ker}
use Rattle.kernel_trees.specs.declared.kernel.KerOp.{KerOp}
use Rattle.kernel_trees.specs.declared.kernel.KerOp.TheVariants as ker
use Rattle.kernel_trees.specs.Trees.{names_of}
use Rattle.kernel_shapes.specs.declared.bounds.Shape.{Shape as Code}
use Rattle.kernel_shapes.specs.Codes.{mean}
use Rattle.kernel_shapes.specs.Kernel.{ker_shape, ker_sized}
use Rattle.kernel_shapes.specs.Rows.{Literal, applied_at, insides}
use Rattle.kernel_shapes.specs.Shape.{Shape, count, inside}
use Rattle.kernel_shapes.specs.Sized.{Extent, Sized, bind_shapes, bound_shapes, shapes_of, walked}
use Rattle.tree_bounds.specs.Bounded.{extents_under, step_extents}
use Rattle.shape_bounds.specs.declared.names.Names.{Names}
use Rattle.shape_bounds.specs.Extents.{kept_extent}
use Rattle.shape_bounds.specs.Kept.{capped}
use Rattle.shape_bounds.specs.Sizes.{SameNames, Sizes, SizesEach, all_at, bound_name}
use Rattle.shape_bounds.specs.inner.Nodes.{is_binder, is_literal}
use Rattle.shape_bounds.specs.inner.Stacks.{AreAlong, AreUnder, AreUnderAll, IsExtended, IsShape, Stack, Stand, Stays, bound_at, extents_in, stacked}
use Rattle.shape_bounds.specs.inner.Steps.{SizesSteps, body_at, values_along}
use Rattle.shape_bounds.proofs.Composing.{reads_same, same_more}
use Rattle.shape_bounds.proofs.Ending.{all_taken, mapped_end, mapped_next}
use Rattle.shape_bounds.proofs.Keeping.{capped_inside, capped_insides}
use Rattle.shape_bounds.proofs.NamesRead.{rebuilt}
use Rattle.shape_bounds.proofs.NodeShapes.{literal_is_of}
use Rattle.shape_bounds.proofs.RowsKept.{capped_applied}
use Rattle.shape_bounds.proofs.Stacked.{EndsWith, ends_with, reads_stacked, same_stays, stacked_same, stand_back, stand_ends, stays_more, stays_self, under_stands}

-- ---- one extent for each stack

pub under_from : (old mid new : Names) (k : Ker) (b : Stack) (rs : List Stack) → Stays old mid → AreUnder mid new k b rs → AreUnder old new k b rs
under_from old mid new k b rs h u = record {
  stays = stays_more old mid new h u.stays;
  under = λ g e.
      stand_back old mid h rs (extents_in old.width k g)
      (subst (λ (w : ℕ). Stand mid rs (extents_in w k g)) h.width (u.under g (e ∙ sym (ap (λ (c : Stack → Extent). c b) (stacked_same old mid h)))));
}

pub under_none : (s : Names) (k : Ker) (bs : List Stack) → AreUnderAll s s k (take 0 bs) []
under_none s k bs = record { stays = stays_self s; under = none }
  where
    none : (gs : List Extent) → Stand s (take 0 bs) gs → Stand s [] (flat_map (extents_in s.width k) gs)
    none [] e = refl
    none (g ∷ gs) e = absurd (cc)

flat_end : {X : Type 0} {Y : Type 0} (f : X → List Y) (xs : List X) (x : X) → flat_map f (xs ++ x ∷ []) ≡ flat_map f xs ++ f x
flat_end f [] x = none (f x)
  where
    none : {Y : Type 0} (ys : List Y) → ys ++ [] ≡ ys
    none [] = refl
    none {Y = Y} (y ∷ ys) = ap (λ (us : List Y). y ∷ us) (none ys)
flat_end {Y = Y} f (y ∷ xs) x = ap (λ (us : List Y). f y ++ us) (flat_end f xs x) ∙ sym (grouped (f y) (flat_map f xs) (f x))
  where
    grouped : {Y : Type 0} (xs ys zs : List Y) → (xs ++ ys) ++ zs ≡ xs ++ (ys ++ zs)
    grouped [] ys zs = refl
    grouped {Y = Y} (x ∷ xs) ys zs = ap (λ (us : List Y). x ∷ us) (grouped xs ys zs)

pub under_next : (old mid new : Names) (k : Ker) (bs : List Stack) (n : ℕ) (b : Stack) (rs us vs : List Stack) → AreUnderAll old mid k (take n bs) rs →
    n < length bs → b ≡ get_or bs n b → AreUnder mid new k b us → vs ≡ rs ++ us → AreUnderAll old new k (take (n + 1) bs) vs
under_next old mid new k bs n b rs us vs h l i u e = record {
  stays = stays_more old mid new h.stays u.stays;
  under = λ gs t. by gs (stand_ends old bs n b gs l i t);
}
  where
    by : (gs : List Extent) → EndsWith kept_extent (map (stacked old) (take n bs)) (stacked old b) gs → Stand old vs (flat_map (extents_in old.width k) gs)
    by gs (ends_with hs g p q f) =
        ap (λ (xs : List Extent). map kept_extent (flat_map (extents_in old.width k) xs)) p
        ∙ ap (map kept_extent) (flat_end (extents_in old.width k) hs g)
        ∙ map-append kept_extent (flat_map (extents_in old.width k) hs) (extents_in old.width k g)
        ∙ ap₂ (λ (xs ys : List Extent). xs ++ ys) (h.under hs q) ((under_from old mid new k b us h.stays u).under g f)
        ∙ sym (map-append (stacked old) rs us)
        ∙ ap (map (stacked old)) (sym e)

pub under_whole : (old new : Names) (k : Ker) (bs : List Stack) (n : ℕ) (rs : List Stack) → AreUnderAll old new k (take n bs) rs → length bs ≤ n → AreUnderAll old new k bs rs
under_whole old new k bs n rs h l = subst (λ (cs : List Stack). AreUnderAll old new k cs rs) (all_taken bs n l) h

-- ---- under the members of sets

sets_extents : (w : ℕ) (o : KerOp) (xs : List ℕ) (ks : List Ker) (g : Extent) → is_binder o ≡ true →
    extents_under w o xs ks g ≡ bind_shapes (names_of xs) (insides (map (λ k. ker_shape w k g) (take (length xs) ks))) g ∷ []
sets_extents w ker.Filter xs ks g h = refl
sets_extents w ker.MapOver xs ks g h = refl
sets_extents w ker.FunOf xs ks g h = refl
sets_extents w ker.Some xs ks g h = refl
sets_extents w ker.Every xs ks g h = refl
sets_extents w o xs ks g h = absurd (false≢true h)

shapes_there : (w : ℕ) (ks : List Ker) (g : Extent) → shapes_of (all_at (map (ker_sized w) ks) g) ≡ map (λ k. ker_shape w k g) ks
shapes_there w [] g = refl
shapes_there w (k ∷ ks) g = ap (λ (as' : List Shape). ker_shape w k g ∷ as') (shapes_there w ks g)

pub sets_under : (old one two new : Names) (k : Ker) (b r : Stack) (ks : List Ker) (xs : List ℕ) (sets ss members ms : List Code) (rs : List Stack) → is_binder (out-Ker k).op ≡ true →
    ks ≡ (out-Ker k).args → xs ≡ (out-Ker k).binds → Stays old one → one.bound.items ≡ b →
    SizesEach one two (map (ker_sized one.width) (take (length xs) ks)) walked sets → ss ≡ sets → map mean members ≡ insides (map mean ss) →
    ms ≡ members → IsExtended two new b xs (map mean ms) r → rs ≡ r ∷ [] → AreUnder old new k b rs
sets_under old one two new k b r ks xs sets ss members ms rs o e f h i s t m n x c =
    let both : Stays old two = stays_more old one two h (same_stays one two s.same) in
    let w : ℕ = old.width in
    record {
      stays = stays_more old two new both x.stays;
      under = λ g l.
          let there : map capped (map (λ j. ker_shape w j g) (take (length xs) ks)) ≡ map mean sets =
          ap (map capped) (sym (shapes_there w (take (length xs) ks) g))
          ∙ ap (λ (v : ℕ). map capped (shapes_of (all_at (map (ker_sized v) (take (length xs) ks)) g))) (sym h.width)
          ∙ s.shapes g (reads_stacked old one b g h i l) in
          ap (map kept_extent)
          (sets_extents w (out-Ker k).op (out-Ker k).binds (out-Ker k).args g o
          ∙ ap₂ (λ (ys : List ℕ) (js : List Ker). bind_shapes (names_of ys) (insides (map (λ j. ker_shape w j g) (take (length ys) js))) g ∷ []) (sym f) (sym e))
          ∙ ap (λ (y : Extent). y ∷ [])
          (under_stands old b r xs (map mean ms) (insides (map (λ j. ker_shape w j g) (take (length xs) ks))) g l
          (capped_insides (map (λ j. ker_shape w j g) (take (length xs) ks)) ∙ ap insides there
          ∙ sym (ap (map mean) n ∙ m ∙ ap (λ (us : List Code). insides (map mean us)) t)) x.bound)
          ∙ ap (map (stacked old)) (sym c);
    }

-- ---- under what an update has at its index

literal_there : (w : ℕ) (i : Ker) (g : Extent) → (ker_sized w i g).literal ≡ is_literal i
literal_there w i g = ap (λ (j : Ker). (ker_sized w j g).literal) (rebuilt i _ _ refl refl) ∙ literal_is_of w _ _ _ g (out-Ker i).op (out-Ker i).args

update_extents : (w : ℕ) (k f i : Ker) (ks : List Ker) (g : Extent) → (out-Ker k).op ≡ ker.Update → (out-Ker k).args ≡ f ∷ i ∷ ks →
    extents_in w k g ≡ bind_shapes (names_of (out-Ker k).binds) (applied_at (ker_shape w f g) (is_literal i) ∷ []) g ∷ []
update_extents w k f i ks g o e =
    ap₂ (λ (p : KerOp) (js : List Ker). extents_under w p (out-Ker k).binds js g) o e
    ∙ ap (λ (l : Literal). bind_shapes (names_of (out-Ker k).binds) (applied_at (ker_shape w f g) l ∷ []) g ∷ []) (literal_there w i g)

pub update_under : (old one new : Names) (k f i : Ker) (ks : List Ker) (b r : Stack) (xs : List ℕ) (whole part : Code) (as' : List Code) (rs : List Stack) →
    (out-Ker k).op ≡ ker.Update → (out-Ker k).args ≡ f ∷ i ∷ ks → xs ≡ (out-Ker k).binds → IsShape old one f b whole →
    mean part ≡ applied_at (mean whole) (is_literal i) → as' ≡ part ∷ [] → IsExtended one new b xs (map mean as') r → rs ≡ r ∷ [] → AreUnder old new k b rs
update_under old one new k f i ks b r xs whole part as' rs o e u s m p x c =
    let w : ℕ = old.width in
    record {
      stays = stays_more old one new s.stays x.stays;
      under = λ g l.
          ap (map kept_extent)
          (update_extents w k f i ks g o e
          ∙ ap (λ (ys : List ℕ). bind_shapes (names_of ys) (applied_at (ker_shape w f g) (is_literal i) ∷ []) g ∷ []) (sym u))
          ∙ ap (λ (y : Extent). y ∷ [])
          (under_stands old b r xs (map mean as') (applied_at (ker_shape w f g) (is_literal i) ∷ []) g l
          (ap (λ (a : Shape). a ∷ []) (capped_applied (ker_shape w f g) (is_literal i) ∙ ap (λ (a : Shape). applied_at a (is_literal i)) (s.shape g l) ∙ sym m)
          ∙ ap (map mean) (sym p)) x.bound)
          ∙ ap (map (stacked old)) (sym c);
    }

-- ---- along the steps of a fold

step_is : (w : ℕ) (xs : List ℕ) (e : Ker) (b : Shape) (n : ℕ) (a : Shape) (g : Extent) →
    step_extents w xs e b n a g ≡ map (λ c. bind_shapes (names_of xs) (c ∷ b ∷ []) g) (take n (values_along (body_at (ker_sized w e) xs b g) n a))
step_is w xs e b zero a g = refl
step_is w xs e b (suc n) a g =
    ap (λ (hs : List Extent). bind_shapes (names_of xs) (a ∷ b ∷ []) g ∷ hs)
    (step_is w xs e b n (ker_shape w e (bind_shapes (names_of xs) (a ∷ b ∷ []) g)) g)

many_values : (f : Shape → Sized) (n : ℕ) (a : Shape) → length (values_along f n a) ≡ suc n
many_values f zero a = refl
many_values f (suc n) a = ap suc (many_values f n (f a).shape)

map_take : {X : Type 0} {Y : Type 0} (f : X → Y) (n : ℕ) (xs : List X) → map f (take n xs) ≡ take n (map f xs)
map_take f zero xs = refl
map_take f (suc n) [] = refl
map_take {Y = Y} f (suc n) (x ∷ xs) = ap (λ (ys : List Y). f x ∷ ys) (map_take f n xs)

map_length : {X : Type 0} {Y : Type 0} (f : X → Y) (xs : List X) → length (map f xs) ≡ length xs
map_length f [] = refl
map_length f (x ∷ xs) = ap suc (map_length f xs)

-- the values before the last
before_last : (f : Shape → Sized) (n : ℕ) (a : Shape) (vs ss : List Code) → map capped (values_along f n a) ≡ map mean vs → ss ≡ take (length vs - 1) vs →
    map mean ss ≡ map capped (take n (values_along f n a))
before_last f n a vs ss e h =
    let m : length vs ≡ suc n = sym (map_length mean vs) ∙ sym (ap length e) ∙ map_length capped (values_along f n a) ∙ many_values f n a in
    let d : length vs - 1 ≡ n = omega (arith, m) in
    ap (map mean) h ∙ map_take mean (length vs - 1) vs ∙ ap (λ (i : ℕ). take i (map mean vs)) d ∙ sym (map_take capped n (values_along f n a) ∙ ap (take n) e)

module _ (s : Names) (b : Stack) (xs : List ℕ) (x item : Shape) (g : Extent) (e : kept_extent g ≡ stacked s b) (h : capped x ≡ item) where
  first_is : (r : Stack) (rs : List Stack) (a : Shape) (as' : List Shape) → map (map bound_name) (r ∷ rs) ≡ map (bound_at b xs item) (a ∷ as') → map bound_name r ≡ bound_at b xs item a
  first_is r rs a as' k = cc

  others_are : (r : Stack) (rs : List Stack) (a : Shape) (as' : List Shape) → map (map bound_name) (r ∷ rs) ≡ map (bound_at b xs item) (a ∷ as') → map (map bound_name) rs ≡ map (bound_at b xs item) as'
  others_are r rs a as' k = cc

  along_stand : (cs : List Shape) (rs : List Stack) → map (map bound_name) rs ≡ map (bound_at b xs item) (map capped cs) → Stand s rs (map (λ c. bind_shapes (names_of xs) (c ∷ x ∷ []) g) cs)
  along_stand [] [] k = refl
  along_stand [] (r ∷ rs) k = absurd (cc)
  along_stand (c ∷ cs) [] k = absurd (cc)
  along_stand (c ∷ cs) (r ∷ rs) k =
      ap₂ (λ (y : Extent) (ys : List Extent). y ∷ ys)
      (under_stands s b r xs (capped c ∷ item ∷ []) (c ∷ x ∷ []) g e (ap (λ (a : Shape). capped c ∷ a ∷ []) h) (first_is r rs (capped c) (map capped cs) k))
      (along_stand cs rs (others_are r rs (capped c) (map capped cs) k))

pub along_none : (s : Names) (b : Stack) (xs : List ℕ) (vs : List Code) (item : Shape) → AreAlong s s b xs (map mean (take 0 vs)) item []
along_none s b xs vs item = record { stays = stays_self s; bound = refl }

pub along_next : (old mid new : Names) (b : Stack) (xs : List ℕ) (vs ss : List Code) (n : ℕ) (v : Code) (item : Shape) (rs us : List Stack) (r : Stack) →
    AreAlong old mid b xs (map mean (take n vs)) item rs → n < length vs → v ≡ get_or vs n v → map mean ss ≡ mean v ∷ item ∷ [] →
    IsExtended mid new b xs (map mean ss) r → us ≡ rs ++ r ∷ [] → AreAlong old new b xs (map mean (take (n + 1) vs)) item us
along_next old mid new b xs vs ss n v item rs us r h l i m x e = record {
  stays = stays_more old mid new h.stays x.stays;
  bound =
      let one : suc n ≡ n + 1 = omega arith in
      ap (map (map bound_name)) e ∙ mapped_end (map bound_name) rs r
      ∙ ap₂ (λ (as' : List (List (List ℕ × Shape))) (a : List (List ℕ × Shape)). as' ++ a ∷ []) h.bound
      (x.bound ∙ ap (λ (as' : List Shape). map bound_name b ++ bound_shapes (names_of xs) as') m)
      ∙ sym (mapped_end (bound_at b xs item) (map mean (take n vs)) (mean v))
      ∙ ap (map (bound_at b xs item)) (mapped_next mean vs n v l i ∙ ap (λ (d : ℕ). map mean (take d vs)) one);
}

pub along_whole : (old new : Names) (b : Stack) (xs : List ℕ) (vs : List Code) (n : ℕ) (item : Shape) (rs : List Stack) → AreAlong old new b xs (map mean (take n vs)) item rs →
    length vs ≤ n → AreAlong old new b xs (map mean vs) item rs
along_whole old new b xs vs n item rs h l = subst (λ (us : List Code). AreAlong old new b xs (map mean us) item rs) (all_taken vs n l) h

fold_extents : (w : ℕ) (k e f q : Ker) (g : Extent) → (out-Ker k).op ≡ ker.FoldLeft → (out-Ker k).args ≡ e ∷ f ∷ q ∷ [] →
    extents_in w k g ≡ step_extents w (out-Ker k).binds e (inside (ker_shape w q g)) (count (ker_shape w q g)) (ker_shape w f g) g
fold_extents w k e f q g o h = ap₂ (λ (p : KerOp) (js : List Ker). extents_under w p (out-Ker k).binds js g) o h

pub fold_under : (old one two mid last new : Names) (k e f q : Ker) (b : Stack) (xs : List ℕ) (x y : Code) (vs ss : List Code) (m : ℕ) (rs : List Stack) →
    (out-Ker k).op ≡ ker.FoldLeft → (out-Ker k).args ≡ e ∷ f ∷ q ∷ [] → xs ≡ (out-Ker k).binds → Stays old one → one.bound.items ≡ b →
    Sizes one two (ker_sized one.width f) walked x → Sizes two mid (ker_sized two.width q) walked y →
    SizesSteps mid last (ker_sized mid.width e) xs (mean x) (mean y) vs → m ≡ length vs → ss ≡ take (m - 1) vs →
    AreAlong last new b xs (map mean ss) (inside (mean y)) rs → AreUnder old new k b rs
fold_under old one two mid last new k e f q b xs x y vs ss m rs o c u h i s t v z d l =
    let w : ℕ = old.width in
    let one_two : SameNames one two = s.same in
    let one_mid : SameNames one mid = same_more one two mid one_two t.same in
    let to_mid : mid.width ≡ w = one_mid.width ∙ h.width in
    let all : Stays old last = stays_more old one last h (same_stays one last (same_more one mid last one_mid v.same)) in
    record {
      stays = stays_more old last new all l.stays;
      under = λ g a.
          let reads : _ = reads_stacked old one b g h i a in
          let first : capped (ker_shape w f g) ≡ mean x = ap (λ (n : ℕ). capped (ker_shape n f g)) (sym h.width) ∙ s.shape g reads in
          let items : capped (ker_shape w q g) ≡ mean y = ap (λ (n : ℕ). capped (ker_shape n q g)) (sym (one_two.width ∙ h.width)) ∙ t.shape g (reads_same one two g one_two reads) in
          let at : Shape → Sized = body_at (ker_sized w e) xs (inside (ker_shape w q g)) g in
          let n : ℕ = count (ker_shape w q g) in
          let along : map capped (values_along at n (ker_shape w f g)) ≡ map mean vs =
          ap (λ (j : ℕ). map capped (values_along (body_at (ker_sized j e) xs (inside (ker_shape w q g)) g) n (ker_shape w f g))) (sym to_mid)
          ∙ v.values g (ker_shape w f g) (ker_shape w q g) (reads_same one mid g one_mid reads) first items in
          ap (map kept_extent)
          (fold_extents w k e f q g o c
          ∙ ap (λ (ys : List ℕ). step_extents w ys e (inside (ker_shape w q g)) n (ker_shape w f g) g) (sym u)
          ∙ step_is w xs e (inside (ker_shape w q g)) n (ker_shape w f g) g)
          ∙ along_stand old b xs (inside (ker_shape w q g)) (inside (mean y)) g a (capped_inside (ker_shape w q g) ∙ ap inside items)
          (take n (values_along at n (ker_shape w f g))) rs
          (l.bound ∙ ap (map (λ z. map bound_name b ++ bound_shapes (names_of xs) (z ∷ inside (mean y) ∷ []))) (before_last at n (ker_shape w f g) vs ss along (d ∙ ap (λ (j : ℕ). take (j - 1) vs) z)));
    }
