-- What of a sized tree a refusal depends on: its shape, the literal that it is, and which of its numbers is refused first.
use Rattle.std.proofs.Common.{◌≡◌, ℕ, zero, suc, Bool, true, false, List, [], ◌∷◌, ◌++◌, map, take, drop, Option, None, refl, sym, ◌∙◌, ap, ap₂, if◌then◌else◌}
use Rattle.tla_meaning.specs.declared.place.Place.{Place}
use Rattle.kernel_shapes.specs.Shape.{Shape, count, inside}
use Rattle.kernel_shapes.specs.Rows.{Literal, no_literal, row_shape, nth, insides, shape_at, joined_at, reached_by, the_subsets, the_functions}
use Rattle.kernel_shapes.specs.Counts.{Count, Rank, count_at, either_rank, first_rank}
use Rattle.kernel_shapes.specs.Sized.{Sized, Seen, Position, walked, as_form, assigned_from, picked_from, no_size, shapes_of, literals_of, counts_of, child_at, body, excepted, excepted_counts, right_counts, step, step_counts, Family, reads, plain, binder, membership, subset_set, function_set, product_set, infinite, noted, excepts, folds, family_shape, family_literal, within, has_number, own_count, operand, sized}
use Rattle.kernel_shapes.proofs.Refusals.{rank_append}

pub record Gist : Type 0 where
  pub shape : Shape
  pub literal : Literal
  pub rank : Position → Option Rank

abbrev pub gist : Sized → Gist
gist a = record { shape = a.shape; literal = a.literal; rank = λ q. first_rank (a.counts q) }

abbrev pub gists : List Sized → List Gist
gists as' = map gist as'

-- a node of its shape and literal that has no number
abbrev pub bare : Gist → Sized
bare a = record { shape = a.shape; counts = λ q. []; beyond = []; literal = a.literal; sound = true }

abbrev pub bares : List Gist → List Sized
bares as' = map bare as'

-- what a node reads
pub record View : Type 0 where
  pub here : List Gist
  pub under : List Shape → List Gist
  pub name : Option Shape

abbrev pub view_of : Seen → View
view_of v = record { here = gists v.here; under = λ as'. gists (v.under as'); name = v.name }

abbrev pub bare_of : View → Seen
bare_of v = record { here = bares v.here; under = λ as'. bares (v.under as'); name = v.name }

-- ---- the shape of a node

pub bare_shapes : (as' : List Gist) → shapes_of (bares as') ≡ map (λ (a : Gist). a.shape) as'
bare_shapes [] = refl
bare_shapes (a ∷ as') = ap (λ (l : List Shape). a.shape ∷ l) (bare_shapes as')

abbrev strips : List Sized → List Sized
strips as' = bares (gists as')

strip_shapes : (as' : List Sized) → shapes_of (strips as') ≡ shapes_of as'
strip_shapes [] = refl
strip_shapes (a ∷ as') = ap (λ (l : List Shape). a.shape ∷ l) (strip_shapes as')

strip_literals : (as' : List Sized) → literals_of (strips as') ≡ literals_of as'
strip_literals [] = refl
strip_literals (a ∷ as') = ap (λ (l : List Literal). a.literal ∷ l) (strip_literals as')

strip_shape : (n : ℕ) (as' : List Sized) → (child_at n (strips as')).shape ≡ (child_at n as').shape
strip_shape n [] = refl
strip_shape zero (a ∷ as') = refl
strip_shape (suc n) (a ∷ as') = strip_shape n as'

strip_literal : (n : ℕ) (as' : List Sized) → (child_at n (strips as')).literal ≡ (child_at n as').literal
strip_literal n [] = refl
strip_literal zero (a ∷ as') = refl
strip_literal (suc n) (a ∷ as') = strip_literal n as'

strip_take : (n : ℕ) (as' : List Sized) → take n (strips as') ≡ strips (take n as')
strip_take zero as' = refl
strip_take (suc n) [] = refl
strip_take (suc n) (a ∷ as') = ap (λ (l : List Sized). bare (gist a) ∷ l) (strip_take n as')

strip_drop : (n : ℕ) (as' : List Sized) → drop n (strips as') ≡ strips (drop n as')
strip_drop zero as' = refl
strip_drop (suc n) [] = refl
strip_drop (suc n) (a ∷ as') = strip_drop n as'

strip_body : (n : ℕ) (v : Seen) → (body n (bare_of (view_of v))).shape ≡ (body n v).shape
strip_body n v =
    ap (λ (as' : List Shape). (child_at n (strips (v.under (insides as')))).shape) (ap shapes_of (strip_take n v.here) ∙ strip_shapes (take n v.here))
    ∙ strip_shape n (v.under (insides (shapes_of (take n v.here))))

strip_step : (v : Seen) (a : Shape) → (step (bare_of (view_of v)) a).shape ≡ (step v a).shape
strip_step v a =
    ap (λ (b : Shape). (child_at 0 (strips (v.under (a ∷ inside b ∷ [])))).shape) (strip_shape 2 v.here)
    ∙ strip_shape 0 (v.under (a ∷ inside (child_at 2 v.here).shape ∷ []))

strip_excepted : (ns : List ℕ) (ks : List Sized) (under : List Shape → List Sized) (a : Shape) →
    excepted ns (strips ks) (λ bs. strips (under bs)) a ≡ excepted ns ks under a
strip_excepted [] ks under a = refl
strip_excepted (n ∷ ns) ks under a =
    let path : List Literal = literals_of (take n ks) in
    ap (λ (l : List Literal). excepted ns (drop (suc n) (strips ks)) (λ bs. drop (suc n) (strips (under bs))) (joined_at l (child_at n (strips (under (shape_at a l ∷ [])))).shape a))
    (ap literals_of (strip_take n ks) ∙ strip_literals (take n ks))
    ∙ ap (λ (b : Shape). excepted ns (drop (suc n) (strips ks)) (λ bs. drop (suc n) (strips (under bs))) (joined_at path b a)) (strip_shape n (under (shape_at a path ∷ [])))
    ∙ (λ i. excepted ns (strip_drop (suc n) ks i) (λ bs. strip_drop (suc n) (under bs) i) (joined_at path (child_at n (under (shape_at a path ∷ []))).shape a))
    ∙ strip_excepted ns (drop (suc n) ks) (λ bs. drop (suc n) (under bs)) (joined_at path (child_at n (under (shape_at a path ∷ []))).shape a)

pub bare_shape : (w : ℕ) (f : Family) (v : Seen) → family_shape w f (bare_of (view_of v)) ≡ family_shape w f v
bare_shape w reads v = refl
bare_shape w (plain r l) v = ap₂ (λ (x : Literal) (as' : List Shape). row_shape w r x as') (strip_literal 1 v.here) (strip_shapes v.here)
bare_shape w (binder n r) v =
    ap₂ (λ (as' : List Shape) (b : Shape). row_shape w r no_literal (as' ++ b ∷ [])) (ap shapes_of (strip_take n v.here) ∙ strip_shapes (take n v.here)) (strip_body n v)
bare_shape w membership v = refl
bare_shape w subset_set v = ap (row_shape w the_subsets no_literal) (strip_shapes v.here)
bare_shape w function_set v = ap (row_shape w the_functions no_literal) (strip_shapes v.here)
bare_shape w (product_set r) v = ap (row_shape w r no_literal) (strip_shapes v.here)
bare_shape w infinite v = refl
bare_shape w noted v = strip_shape 0 v.here
bare_shape w (excepts ns ps) v =
    (λ i. excepted ns (strip_drop 1 v.here i) (λ bs. strip_drop 1 (v.under bs) i) (strip_shape 0 v.here i))
    ∙ strip_excepted ns (drop 1 v.here) (λ bs. drop 1 (v.under bs)) (child_at 0 v.here).shape
bare_shape w folds v =
    (λ i. reached_by (count (strip_shape 2 v.here i)) (λ a. strip_step v a i) (strip_shape 1 v.here i))

pub bare_literal : (f : Family) (v : Seen) → family_literal f (bare_of (view_of v)) ≡ family_literal f v
bare_literal reads v = refl
bare_literal (plain r l) v = refl
bare_literal noted v = strip_literal 0 v.here
bare_literal (binder n r) v = refl
bare_literal membership v = refl
bare_literal subset_set v = refl
bare_literal function_set v = refl
bare_literal (product_set r) v = refl
bare_literal infinite v = refl
bare_literal (excepts ns ps) v = refl
bare_literal folds v = refl

-- ---- the numbers of a node

abbrev pub no_gist : Gist
no_gist = gist no_size

abbrev pub gist_at : ℕ → List Gist → Gist
gist_at n as' = nth no_gist n as'

abbrev pub ranks : Position → List Gist → Option Rank
ranks q [] = None
ranks q (a ∷ as') = either_rank (a.rank q) (ranks q as')

-- of a node's own number
abbrev pub own : Place → Shape → Option Rank
own p a = first_rank (count_at p a)

abbrev pub own_rank : Bool → Place → Shape → Option Rank
own_rank b p a = if b then own p a else None

abbrev pub body_of : ℕ → View → Gist
body_of n v = gist_at n (v.under (insides (map (λ a. a.shape) (take n v.here))))

abbrev pub step_of : View → Shape → Gist
step_of v a = gist_at 0 (v.under (a ∷ inside (gist_at 2 v.here).shape ∷ []))

abbrev pub steps_rank : ℕ → View → Shape → Option Rank
steps_rank zero v a = None
steps_rank (suc n) v a = either_rank ((step_of v a).rank walked) (steps_rank n v (step_of v a).shape)

-- of an EXCEPT none of whose right sides is a part of its path
abbrev pub except_rank : List ℕ → List Gist → (List Shape → List Gist) → Shape → Option Rank
except_rank [] ks under a = None
except_rank (n ∷ ns) ks under a =
    let path : List Literal = map (λ b. b.literal) (take n ks) in
    let right : Gist = gist_at n (under (shape_at a path ∷ [])) in
    either_rank (ranks walked (take n ks)) (either_rank (right.rank walked)
    (except_rank ns (drop (suc n) ks) (λ bs. drop (suc n) (under bs)) (joined_at path right.shape a)))

-- the position of the operand of a set of subsets
abbrev pub subsets_of : Position → Position
subsets_of as_form = as_form
subsets_of q = walked

abbrev pub within_rank : Family → View → Position → Option Rank
within_rank reads v q = None
within_rank (plain r l) v q = ranks walked v.here
within_rank (binder n r) v q = either_rank (ranks walked (take n v.here)) ((body_of n v).rank walked)
within_rank membership v q = either_rank ((gist_at 0 v.here).rank walked) ((gist_at 1 v.here).rank as_form)
within_rank subset_set v q = (gist_at 0 v.here).rank (subsets_of q)
within_rank function_set v q = either_rank ((gist_at 0 v.here).rank walked) ((gist_at 1 v.here).rank (operand q))
within_rank (product_set r) v q = ranks (operand q) v.here
within_rank infinite v q = ranks as_form v.here
within_rank noted v q = (gist_at 0 v.here).rank q
within_rank (excepts ns ps) v q =
    either_rank ((gist_at 0 v.here).rank walked) (except_rank ns (drop 1 v.here) (λ bs. drop 1 (v.under bs)) (gist_at 0 v.here).shape)
within_rank folds v q =
    either_rank (ranks walked (drop 1 v.here)) (steps_rank (count (gist_at 2 v.here).shape) v (gist_at 1 v.here).shape)

abbrev pub node_gist : ℕ → Place → Family → View → Gist
node_gist w p f v = record {
  shape = family_shape w f (bare_of v);
  literal = family_literal f (bare_of v);
  rank = λ q. either_rank (own_rank (has_number f q) p (family_shape w f (bare_of v))) (within_rank f v q);
}

pub gist_child : (n : ℕ) (as' : List Sized) → gist_at n (gists as') ≡ gist (child_at n as')
gist_child n [] = refl
gist_child zero (a ∷ as') = refl
gist_child (suc n) (a ∷ as') = gist_child n as'

counts_rank : (q : Position) (as' : List Sized) → ranks q (gists as') ≡ first_rank (counts_of q as')
counts_rank q [] = refl
counts_rank q (a ∷ as') = ap (either_rank (first_rank (a.counts q))) (counts_rank q as') ∙ sym (rank_append (a.counts q) (counts_of q as'))

take_gists : (n : ℕ) (as' : List Sized) → take n (gists as') ≡ gists (take n as')
take_gists zero as' = refl
take_gists (suc n) [] = refl
take_gists (suc n) (a ∷ as') = ap (λ (l : List Gist). gist a ∷ l) (take_gists n as')

drop_gists : (n : ℕ) (as' : List Sized) → drop n (gists as') ≡ gists (drop n as')
drop_gists zero as' = refl
drop_gists (suc n) [] = refl
drop_gists (suc n) (a ∷ as') = drop_gists n as'

gist_shapes : (as' : List Sized) → map (λ (a : Gist). a.shape) (gists as') ≡ shapes_of as'
gist_shapes [] = refl
gist_shapes (a ∷ as') = ap (λ (l : List Shape). a.shape ∷ l) (gist_shapes as')

gist_literals : (as' : List Sized) → map (λ (a : Gist). a.literal) (gists as') ≡ literals_of as'
gist_literals [] = refl
gist_literals (a ∷ as') = ap (λ (l : List Literal). a.literal ∷ l) (gist_literals as')

body_gist : (n : ℕ) (v : Seen) → body_of n (view_of v) ≡ gist (body n v)
body_gist n v =
    ap (λ (as' : List Shape). gist_at n (gists (v.under (insides as')))) (ap (λ (l : List Gist). map (λ (a : Gist). a.shape) l) (take_gists n v.here) ∙ gist_shapes (take n v.here))
    ∙ gist_child n (v.under (insides (shapes_of (take n v.here))))

step_gist : (v : Seen) (a : Shape) → step_of (view_of v) a ≡ gist (step v a)
step_gist v a =
    ap (λ (b : Gist). gist_at 0 (gists (v.under (a ∷ inside b.shape ∷ [])))) (gist_child 2 v.here)
    ∙ gist_child 0 (v.under (a ∷ inside (child_at 2 v.here).shape ∷ []))

steps_gist : (n : ℕ) (v : Seen) (a : Shape) → steps_rank n (view_of v) a ≡ first_rank (step_counts n v a)
steps_gist zero v a = refl
steps_gist (suc n) v a =
    ap (λ (b : Gist). either_rank (b.rank walked) (steps_rank n (view_of v) b.shape)) (step_gist v a)
    ∙ ap (either_rank (first_rank ((step v a).counts walked))) (steps_gist n v (step v a).shape)
    ∙ sym (rank_append ((step v a).counts walked) (step_counts n v (step v a).shape))

-- no right side is a part
abbrev pub NoParts : List Bool → Type 0
NoParts [] = Unit {0}
NoParts (b ∷ bs) = (b ≡ false) × NoParts bs

nth_part : (n : ℕ) (ps : List Bool) → NoParts ps → nth false n ps ≡ false
nth_part n [] h = refl
nth_part zero (b ∷ bs) h = h.0
nth_part (suc n) (b ∷ bs) h = nth_part n bs h.1

drop_parts : (n : ℕ) (ps : List Bool) → NoParts ps → NoParts (drop n ps)
drop_parts zero ps h = h
drop_parts (suc n) [] h = tt
drop_parts (suc n) (b ∷ bs) h = drop_parts n bs h.1

except_gist : (ns : List ℕ) (ps : List Bool) (ks : List Sized) (under : List Shape → List Sized) (a : Shape) → NoParts ps →
    except_rank ns (gists ks) (λ bs. gists (under bs)) a ≡ first_rank (excepted_counts ns ps ks under a)
except_gist [] ps ks under a h = refl
except_gist (n ∷ ns) ps ks under a h =
    let path : List Literal = literals_of (take n ks) in
    let right : Sized = child_at n (under (shape_at a path ∷ [])) in
    let rest : List Count = excepted_counts ns (drop (suc n) ps) (drop (suc n) ks) (λ bs. drop (suc n) (under bs)) (joined_at path right.shape a) in
    let r : List Gist → List Literal → Gist → Option Rank = λ front l b.
    either_rank (ranks walked front) (either_rank (b.rank walked) (except_rank ns (drop (suc n) (gists ks)) (λ bs. drop (suc n) (gists (under bs))) (joined_at l b.shape a))) in
    (λ i. r (take_gists n ks i) (map (λ (b : Gist). b.literal) (take_gists n ks i)) (gist_at n (gists (under (shape_at a (map (λ (b : Gist). b.literal) (take_gists n ks i)) ∷ [])))))
    ∙ (λ i. r (gists (take n ks)) (gist_literals (take n ks) i) (gist_at n (gists (under (shape_at a (gist_literals (take n ks) i) ∷ [])))))
    ∙ (λ i. r (gists (take n ks)) path (gist_child n (under (shape_at a path ∷ [])) i))
    ∙ (λ i. either_rank (counts_rank walked (take n ks) i) (either_rank (first_rank (right.counts walked)) (except_rank ns (drop_gists (suc n) ks i) (λ bs. drop_gists (suc n) (under bs) i) (joined_at path right.shape a))))
    ∙ ap (λ (o : Option Rank). either_rank (first_rank (counts_of walked (take n ks))) (either_rank (first_rank (right.counts walked)) o))
    (except_gist ns (drop (suc n) ps) (drop (suc n) ks) (λ bs. drop (suc n) (under bs)) (joined_at path right.shape a) (drop_parts (suc n) ps h))
    ∙ ap (either_rank (first_rank (counts_of walked (take n ks)))) (sym (rank_append (right.counts walked) rest))
    ∙ sym (rank_append (counts_of walked (take n ks)) (right.counts walked ++ rest))
    ∙ ap (λ (b : Bool). first_rank (counts_of walked (take n ks) ++ (right_counts b right ++ rest))) (sym (nth_part n ps h))
    ∙ ap first_rank (sym (assoc (counts_of walked (take n ks)) (right_counts (nth false n ps) right) rest))
  where
    assoc : (as' bs cs : List Count) → as' ++ bs ++ cs ≡ as' ++ (bs ++ cs)
    assoc [] bs cs = refl
    assoc (x ∷ as') bs cs = ap (λ (l : List Count). x ∷ l) (assoc as' bs cs)

-- of an EXCEPT none of whose right sides is a part
abbrev pub IsWhole : Family → Type 0
IsWhole (excepts ns ps) = NoParts ps
IsWhole f = Unit {0}

within_gist : (f : Family) (v : Seen) (q : Position) → IsWhole f → within_rank f (view_of v) q ≡ first_rank (within f v q)
within_gist reads v q h = refl
within_gist (plain r l) v q h = counts_rank walked v.here
within_gist (binder n r) v q h =
    ap₂ either_rank (ap (ranks walked) (take_gists n v.here) ∙ counts_rank walked (take n v.here)) (ap (λ (b : Gist). b.rank walked) (body_gist n v))
    ∙ sym (rank_append (counts_of walked (take n v.here)) ((body n v).counts walked))
within_gist membership v q h =
    (λ i. either_rank ((gist_child 0 v.here i).rank walked) ((gist_child 1 v.here i).rank as_form))
    ∙ sym (rank_append ((child_at 0 v.here).counts walked) ((child_at 1 v.here).counts as_form))
within_gist subset_set v as_form h = λ i. (gist_child 0 v.here i).rank as_form
within_gist subset_set v walked h = λ i. (gist_child 0 v.here i).rank walked
within_gist subset_set v assigned_from h = λ i. (gist_child 0 v.here i).rank walked
within_gist subset_set v picked_from h = λ i. (gist_child 0 v.here i).rank walked
within_gist function_set v q h =
    (λ i. either_rank ((gist_child 0 v.here i).rank walked) ((gist_child 1 v.here i).rank (operand q)))
    ∙ sym (rank_append ((child_at 0 v.here).counts walked) ((child_at 1 v.here).counts (operand q)))
within_gist (product_set r) v q h = counts_rank (operand q) v.here
within_gist infinite v q h = counts_rank as_form v.here
within_gist noted v q h = λ i. (gist_child 0 v.here i).rank q
within_gist (excepts ns ps) v q h =
    (λ i. either_rank ((gist_child 0 v.here i).rank walked) (except_rank ns (drop_gists 1 v.here i) (λ bs. drop_gists 1 (v.under bs) i) (gist_child 0 v.here i).shape))
    ∙ ap (either_rank (first_rank ((child_at 0 v.here).counts walked))) (by ps h)
    ∙ sym (rank_append ((child_at 0 v.here).counts walked) (excepted_counts ns ps (drop 1 v.here) (λ bs. drop 1 (v.under bs)) (child_at 0 v.here).shape))
  where
    by : (ps : List Bool) → NoParts ps → except_rank ns (gists (drop 1 v.here)) (λ bs. gists (drop 1 (v.under bs))) (child_at 0 v.here).shape
        ≡ first_rank (excepted_counts ns ps (drop 1 v.here) (λ bs. drop 1 (v.under bs)) (child_at 0 v.here).shape)
    by ps h = except_gist ns ps (drop 1 v.here) (λ bs. drop 1 (v.under bs)) (child_at 0 v.here).shape h
within_gist folds v q h =
    ap (λ (o : Option Rank). either_rank o (steps_rank (count (gist_at 2 (gists v.here)).shape) (view_of v) (gist_at 1 (gists v.here)).shape)) (ap (ranks walked) (drop_gists 1 v.here) ∙ counts_rank walked (drop 1 v.here))
    ∙ ap (either_rank (first_rank (counts_of walked (drop 1 v.here))))
    ((λ i. steps_rank (count (gist_child 2 v.here i).shape) (view_of v) (gist_child 1 v.here i).shape) ∙ steps_gist (count (child_at 2 v.here).shape) v (child_at 1 v.here).shape)
    ∙ sym (rank_append (counts_of walked (drop 1 v.here)) (step_counts (count (child_at 2 v.here).shape) v (child_at 1 v.here).shape))

own_gist : (b : Bool) (p : Place) (a : Shape) → own_rank b p a ≡ first_rank (own_count b p a)
own_gist true p a = refl
own_gist false p a = refl

pub sized_gist : (w : ℕ) (p : Place) (f : Family) (v : Seen) → IsWhole f → gist (sized w p f v) ≡ node_gist w p f (view_of v)
sized_gist w p f v h = λ i. record {
  shape = sym (bare_shape w f v) i;
  literal = sym (bare_literal f v) i;
  rank = λ q. by q i;
}
  where
    by : (q : Position) → first_rank (own_count (has_number f q) p (family_shape w f v) ++ within f v q)
        ≡ either_rank (own_rank (has_number f q) p (family_shape w f (bare_of (view_of v)))) (within_rank f (view_of v) q)
    by q =
        rank_append (own_count (has_number f q) p (family_shape w f v)) (within f v q)
        ∙ ap₂ either_rank (sym (own_gist (has_number f q) p (family_shape w f v)) ∙ ap (own_rank (has_number f q) p) (sym (bare_shape w f v))) (sym (within_gist f v q h))
