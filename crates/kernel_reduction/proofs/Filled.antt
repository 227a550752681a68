-- Extents in which every name has a shape: a tree that is kept where names have the shapes of their numbers is kept where
-- some of them have no shape yet.
use Rattle.std.proofs.Common.{◌≡◌, ℕ, zero, suc, Bool, true, false, not, ◌||◌, IsTrue, List, [], ◌∷◌, ◌++◌, map, length, Option, Some, None, option_map, refl, sym, ◌∙◌, ap, ap₂, subst, arith, if◌then◌else◌}
use Rattle.std.specs.Prelude.{slice_get, option_and_then, is_some, nat_lt, take}
use Rattle.std.specs.List.{list_any}
use Rattle.tla_meaning.specs.Scopes.{find_last, or_else, same_text}
use Rattle.tla_meaning.proofs.Laws.{find-append, none≢some}
use Rattle.tla_meaning.proofs.Views.{false≢true}
use Rattle.kernel_trees.specs.declared.kernel.Ker.{Ker}
use Rattle.kernel_trees.specs.declared.kernel.KerOp.{KerOp}
use Rattle.kernel_trees.specs.declared.kernel.KerOp.TheVariants as ker
use Rattle.kernel_trees.specs.Paths.{Marks, mentions, mentions_at, names_below}
use Rattle.kernel_trees.specs.Sound.{Context, kind_at, kind_in, sound}
use Rattle.kernel_trees.specs.Trees.{as_expr, number_name}
use Rattle.kernel_trees.specs.TypeKinds.{Kind, Truth}
use Rattle.kernel_trees.proofs.SoundNames.{sound_below}
use Rattle.kernel_trees.proofs.SoundWider.{Agree, kind_append, sound_wider}
use Rattle.kernel_trees.proofs.Steps.{same_text_same}
use Rattle.kernel_trees.proofs.Trees.{Each, by_nodes, mentions-roll}
use Rattle.kernel_shapes.specs.Kernel.{ker_shape, ker_sized, kinds_in}
use Rattle.kernel_shapes.specs.Shape.{Shape, Empty}
use Rattle.kernel_shapes.specs.Sized.{Extent, Sized, found}
use Rattle.kernel_shapes.specs.TypedExtents.{BoundOfKinds, NamesOfKinds, OfTypes, without_shape}
use Rattle.kernel_shapes.specs.TypedStates.{OfKind}
use Rattle.kernel_shapes.proofs.KindLaw.{empty_kind}
use Rattle.kernel_shapes.proofs.PathLaw.{Within, quiet}
use Rattle.kernel_shapes.proofs.SoundShapes.{sound_shapes}
use Rattle.kernel_reduction.specs.JobParts.{by_names, shapes_from, typed_sized}
use Rattle.kernel_reduction.specs.JobPaths.{TypedTree}
use Rattle.kernel_reduction.specs.SizeLaws.{TiedBound, TiedShapes}
use Rattle.kernel_reduction.specs.inner.Settings.{counted, counted_from}
use Rattle.kernel_reduction.proofs.Gists.{Gist, gist}
use Rattle.kernel_reduction.proofs.GistNodes.{job_gist, ker_gist}
use Rattle.kernel_reduction.proofs.SizeFrame.{IsSound}
use Rattle.kernel_reduction.proofs.Unshaped.{SameReads, same_reads, sure}

abbrev Bound : Type 0
Bound = List (List ℕ × Shape)

-- so many numbers, from n on, that have the shape of no value
abbrev unknown : ℕ → ℕ → Bound
unknown n zero = []
unknown n (suc k) = (number_name n, Empty) ∷ unknown (suc n) k

abbrev shaped : List (Option Shape) → List (Option Shape)
shaped os = map (λ o. Some (found o)) os

abbrev pub filled : ℕ → Extent → Extent
filled n g = record { now = shaped g.now; next = shaped g.next; bound = unknown 0 n ++ g.bound }

-- ---- the same is read

got_same : (os : List (Option Shape)) (i : ℕ) → found (option_and_then (λ o. o) (slice_get os i)) ≡ found (option_and_then (λ o. o) (slice_get (shaped os) i))
got_same [] i = refl
got_same (o ∷ os) zero = refl
got_same (o ∷ os) (suc i) = got_same os i

nothing_known : (x : List ℕ) (n k : ℕ) → found (find_last x (unknown n k)) ≡ Empty
nothing_known x n zero = refl
nothing_known x n (suc k) = by (find_last x (unknown (suc n) k)) (same_text x (number_name n)) (nothing_known x (suc n) k)
  where
    by : (o : Option Shape) (b : Bool) → found o ≡ Empty → found (or_else o (if b then Some Empty else None)) ≡ Empty
    by None true e = refl
    by None false e = refl
    by (Some a) b e = e

behind_unknown : (o q : Option Shape) → found q ≡ Empty → found o ≡ found (or_else o q)
behind_unknown None q e = sym e
behind_unknown (Some a) q e = refl

bound_same : (n : ℕ) (bs : Bound) (x : List ℕ) → found (find_last x bs) ≡ found (find_last x (unknown 0 n ++ bs))
bound_same n bs x = behind_unknown (find_last x bs) (find_last x (unknown 0 n)) (nothing_known x 0 n) ∙ sym (ap found (find-append x (unknown 0 n) bs))

pub filled_reads : (n : ℕ) (g : Extent) → SameReads g (filled n g)
filled_reads n g = record { declared = λ i primed. by i primed; bound = bound_same n g.bound }
  where
    by : (i : ℕ) (primed : Bool) → found (option_and_then (λ o. o) (slice_get (if primed then g.next else g.now) i))
        ≡ found (option_and_then (λ o. o) (slice_get (if primed then shaped g.next else shaped g.now) i))
    by i true = got_same g.next i
    by i false = got_same g.now i

shapes_same : (k : ℕ) (xs : List (List ℕ)) (as' bs : Bound) → ((x : List ℕ) → found (find_last x as') ≡ found (find_last x bs)) → shapes_from k xs as' ≡ shapes_from k xs bs
shapes_same k [] as' bs h = refl
shapes_same k (x ∷ xs) as' bs h = ap₂ (λ (a : Shape) (l : Bound). (x, a) ∷ l) (h (number_name k)) (shapes_same (suc k) xs as' bs h)

names_read : (n : ℕ) (around : List (List ℕ)) (g : Extent) → SameReads (by_names around g) (by_names around (filled n g))
names_read n around g = record {
  declared = (filled_reads n g).declared;
  bound = λ x. ap (λ (bs : Bound). found (find_last x bs)) (shapes_same 0 around g.bound (unknown 0 n ++ g.bound) (bound_same n g.bound));
}

-- ---- numbers and names are tied

-- what a name has is what its number has
looked : (x : List ℕ) (k : ℕ) (xs : List (List ℕ)) (bs : Bound) →
    find_last x (shapes_from k xs bs) ≡ option_map (λ n. found (find_last (number_name n) bs)) (find_last x (counted_from k xs))
looked x k [] bs = refl
looked x k (y ∷ ys) bs =
    ap (λ o. or_else o (if same_text x y then Some (found (find_last (number_name k) bs)) else None)) (looked x (suc k) ys bs)
    ∙ by (find_last x (counted_from (suc k) ys)) (same_text x y)
  where
    by : (o : Option ℕ) (b : Bool) →
        or_else (option_map (λ n. found (find_last (number_name n) bs)) o) (if b then Some (found (find_last (number_name k) bs)) else None)
        ≡ option_map (λ n. found (find_last (number_name n) bs)) (or_else o (if b then Some k else None))
    by None true = refl
    by None false = refl
    by (Some j) b = refl

-- so many numbers from n on are bound
abbrev IsBound : Bound → ℕ → Type 0
IsBound bs n = Some (found (find_last (number_name n) bs)) ≡ find_last (number_name n) bs

abbrev AreBound : ℕ → ℕ → Bound → Type 0
AreBound n zero bs = Unit {0}
AreBound n (suc k) bs = IsBound bs n × AreBound (suc n) k bs

counted_bound : (x : List ℕ) (n k : ℕ) (xs : List (List ℕ)) (bs : Bound) → AreBound k (length xs) bs → find_last x (counted_from k xs) ≡ Some n → IsBound bs n
counted_bound x n k [] bs a q = absurd (none≢some q)
counted_bound x n k (y ∷ ys) bs a q = by (find_last x (counted_from (suc k) ys)) (same_text x y) q (counted_bound x n (suc k) ys bs a.1)
  where
    same : {m j : ℕ} → Some m ≡ Some j → m ≡ j
    same e = cc

    by : (o : Option ℕ) (b : Bool) → or_else o (if b then Some k else None) ≡ Some n → (o ≡ Some n → IsBound bs n) → IsBound bs n
    by (Some j) b e rest = rest e
    by None true e rest = subst (IsBound bs) (same e) a.0
    by None false e rest = absurd (none≢some e)

names_tied : (xs : List (List ℕ)) (bs : Bound) → AreBound 0 (length xs) bs → TiedBound (counted xs) (shapes_from 0 xs bs) bs
names_tied xs bs a x n q =
    looked x 0 xs bs ∙ ap (option_map (λ n. found (find_last (number_name n) bs))) q ∙ counted_bound x n 0 xs bs a q

abbrev AreEmpty : ℕ → ℕ → Bound → Type 0
AreEmpty n zero bs = Unit {0}
AreEmpty n (suc k) bs = (find_last (number_name n) bs ≡ Some Empty) × AreEmpty (suc n) k bs

one_more_empty : (m n k : ℕ) (bs : Bound) → AreEmpty n k bs → AreEmpty n k ((number_name m, Empty) ∷ bs)
one_more_empty m n zero bs h = tt
one_more_empty m n (suc k) bs h = (
  ap (λ o. or_else o (if same_text (number_name n) (number_name m) then Some Empty else None)) h.0,
  one_more_empty m (suc n) k bs h.1,
)

all_empty : (n k : ℕ) → AreEmpty n k (unknown n k)
all_empty n zero = tt
all_empty n (suc k) = (
  ap (λ b. or_else (find_last (number_name n) (unknown (suc n) k)) (if b then Some Empty else None)) (same_text_same (number_name n))
      ∙ by (find_last (number_name n) (unknown (suc n) k)) (nothing_known (number_name n) (suc n) k),
  one_more_empty n (suc n) k (unknown (suc n) k) (all_empty (suc n) k),
)
  where
    by : (o : Option Shape) → found o ≡ Empty → or_else o (Some Empty) ≡ Some Empty
    by None e = refl
    by (Some a) e = ap Some e

empty_bound : (n k : ℕ) (as' bs : Bound) → AreEmpty n k as' → AreBound n k (as' ++ bs)
empty_bound n zero as' bs h = tt
empty_bound n (suc k) as' bs h = (
  subst (λ o. Some (found o) ≡ o) (sym (find-append (number_name n) as' bs ∙ ap (or_else (find_last (number_name n) bs)) h.0)) (by (find_last (number_name n) bs)),
  empty_bound (suc n) k as' bs h.1,
)
  where
    by : (o : Option Shape) → Some (found (or_else o (Some Empty))) ≡ or_else o (Some Empty)
    by None = refl
    by (Some a) = refl

filled_tied : (xs : List (List ℕ)) (g : Extent) → let h : Extent = filled (length xs) g in TiedShapes (counted xs) (by_names xs h) h
filled_tied xs g = record {
  now = refl;
  next = refl;
  bound = names_tied xs (unknown 0 (length xs) ++ g.bound) (empty_bound 0 (length xs) (unknown 0 (length xs)) g.bound (all_empty 0 (length xs)));
}

-- ---- the types of names

abbrev some_kinds : ℕ → ℕ → Context
some_kinds n zero = []
some_kinds n (suc k) = (n, Truth) ∷ some_kinds (suc n) k

kinds_shaped : (ks : List Kind) (os : List (Option Shape)) → NamesOfKinds ks os → NamesOfKinds ks (shaped os)
kinds_shaped [] [] h = tt
kinds_shaped [] (o ∷ os) h = absurd h
kinds_shaped (k ∷ ks) [] h = absurd h
kinds_shaped (k ∷ ks) (None ∷ os) h = (empty_kind k, kinds_shaped ks os h)
kinds_shaped (k ∷ ks) (Some a ∷ os) h = (h.0, kinds_shaped ks os h.1)

bound_kinds : (n k : ℕ) (c : Context) (bs : Bound) → BoundOfKinds c bs → BoundOfKinds (some_kinds n k ++ c) (unknown n k ++ bs)
bound_kinds n zero c bs h = h
bound_kinds n (suc k) c bs h = (refl, empty_kind Truth, bound_kinds (suc n) k c bs h)

filled_types : (names : List Kind) (c : Context) (n : ℕ) (g : Extent) → OfTypes names c g → OfTypes names (some_kinds 0 n ++ c) (filled n g)
filled_types names c n g r = record {
  now = kinds_shaped names g.now r.now;
  next = kinds_shaped names g.next r.next;
  bound = bound_kinds 0 n c g.bound r.bound;
}

agree_behind : (d c : Context) → Agree c (d ++ c)
agree_behind d c n a e = kind_append d c n ∙ ap (λ o. or_else o (kind_in d n)) e

-- ---- names that are read have shapes

abbrev AllFalse : List Bool → Type 0
AllFalse [] = Unit {0}
AllFalse (b ∷ bs) = (b ≡ false) × AllFalse bs

any_false : (bs : List Bool) → AllFalse bs → list_any (λ b. b) bs ≡ false
any_false [] h = refl
any_false (b ∷ bs) h = ap₂ (λ (x y : Bool). x || y) h.0 (any_false bs h.1)

take_false : (n : ℕ) (bs : List Bool) → AllFalse bs → AllFalse (take n bs)
take_false zero bs h = tt
take_false (suc n) [] h = tt
take_false (suc n) (b ∷ bs) h = (h.0, take_false n bs h.1)

abbrev pub no_marks : Marks
no_marks i primed = false

none_at : (o : KerOp) (bs : List Bool) → AllFalse bs → mentions_at no_marks o bs ≡ false
none_at (ker.Name i primed) bs h = refl
none_at (ker.Const v) bs h = refl
none_at ker.NoCase bs h = refl
none_at ker.Range bs h = any_false (take 2 bs) (take_false 2 bs h)
none_at o bs h = any_false bs h

all_none : (ks : List Ker) → Each (λ k. mentions no_marks k ≡ false) ks → AllFalse (map (mentions no_marks) ks)
all_none [] h = tt
all_none (k ∷ ks) h = (h.0, all_none ks h.1)

pub none_mentioned : (k : Ker) → mentions no_marks k ≡ false
none_mentioned = by_nodes (λ k. mentions no_marks k ≡ false) (λ x h. mentions-roll no_marks x ∙ none_at x.op (map (mentions no_marks) x.args) (all_none x.args h))

is_there : (ks : List Kind) (os : List (Option Shape)) (i : ℕ) → NamesOfKinds ks os → nat_lt i (length ks) ≡ true →
    not (is_some (option_and_then (λ o. o) (slice_get (shaped os) i))) ≡ false
is_there [] os i h l = absurd (none i l)
  where
    none : (i : ℕ) → nat_lt i 0 ≡ true → ⊥
    none i q = grind (arith, q)
is_there (k ∷ ks) [] i h l = absurd h
is_there (k ∷ ks) (o ∷ os) zero h l = refl
is_there (k ∷ ks) (None ∷ os) (suc i) h l = is_there ks os i h (less i (length ks) l)
  where
    less : (j n : ℕ) → nat_lt (suc j) (suc n) ≡ true → nat_lt j n ≡ true
    less j n q = grind (arith, q)
is_there (k ∷ ks) (Some a ∷ os) (suc i) h l = is_there ks os i h.1 (less i (length ks) l)
  where
    less : (j n : ℕ) → nat_lt (suc j) (suc n) ≡ true → nat_lt j n ≡ true
    less j n q = grind (arith, q)

all_there : (names : List Kind) (c : Context) (n : ℕ) (g : Extent) → OfTypes names c g → Within (length names) (without_shape (filled n g)) no_marks
all_there names c n g r i true l q = absurd (false≢true (sym (is_there names g.next i r.next l) ∙ q))
all_there names c n g r i false l q = absurd (false≢true (sym (is_there names g.now i r.now l) ∙ q))

-- ---- sound trees

-- this of a tree is kept where each name around it has the shape of its number
abbrev pub KeepsOf : {X : Type 0} → ℕ → (Gist → X) → TypedTree → Ker → Type 0
KeepsOf w f t k = (g h : Extent) → TiedShapes (counted t.around) g h → IsSound w k h → f (job_gist w t.tree t.kinds g) ≡ f (ker_gist w k h)

same_gist : (w : ℕ) (k : Ker) (n : ℕ) (g : Extent) → sure (ker_sized w k g) ≡ sure (ker_sized w k (filled n g))
same_gist w k n g = same_reads w (as_expr k) (kinds_in k) g (filled n g) (filled_reads n g)

module _ (w : ℕ) (names : List Kind) (c : Context) (g : Extent) (r : OfTypes names c g) where
  -- a sound tree is sized soundly where every name has a shape, and has a shape of its kind
  filled_sound : (n : ℕ) (k : Ker) (b : Bool) (a : Kind) → sound names k c b ≡ true → kind_at k ≡ Some a →
      OfKind a (ker_shape w k (filled n g)) × IsTrue (ker_sized w k (filled n g)).sound
  filled_sound n k b a s e =
      sound_shapes w k names (some_kinds 0 n ++ c) b (filled n g) a (sound_wider names k c (some_kinds 0 n ++ c) b (agree_behind (some_kinds 0 n) c) s)
      (filled_types names c n g r)
      (quiet (length names) (without_shape (filled n g)) no_marks (all_there names c n g r) k (sound_below names k c b s) (none_mentioned k)) e

  pub shape_kind : (k : Ker) (b : Bool) (a : Kind) → sound names k c b ≡ true → kind_at k ≡ Some a → OfKind a (ker_shape w k g)
  shape_kind k b a s e = subst (OfKind a) (sym (ap (λ (x : Sized). x.shape) (same_gist w k 0 g))) (filled_sound 0 k b a s e).0

  -- what is kept where every name has a shape
  pub kept_there : {X : Type 0} (f : Gist → X) (t : TypedTree) (k : Ker) (b : Bool) (a : Kind) → KeepsOf w f t k → sound names k c b ≡ true →
      kind_at k ≡ Some a → f (gist (typed_sized w t g)) ≡ f (ker_gist w k g)
  kept_there f t k b a h s e =
      let n : ℕ = length t.around in
      ap (λ (x : Sized). f (gist x)) (same_reads w t.tree t.kinds (by_names t.around g) (by_names t.around (filled n g)) (names_read n t.around g))
      ∙ h (by_names t.around (filled n g)) (filled n g) (filled_tied t.around g) (filled_sound n k b a s e).1
      ∙ ap (λ (x : Sized). f (gist x)) (sym (same_gist w k n g))
