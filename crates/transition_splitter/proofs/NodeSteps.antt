-- What is counted and made at a node, from its operands.
use Rattle.std.proofs.Common.{◌≡◌, ℕ, zero, suc, ◌≤◌, ◌<◌, ◌||◌, Bool, true, false, List, [], ◌∷◌, ◌++◌, map, zip}
use Rattle.std.proofs.Common.{take, length, get_or, refl, sym, ◌∙◌, ap, ap₂, arith, Option, Some, None, option_map}
use Rattle.std.specs.List.{slice_get}
use Rattle.std.proofs.lemmas.Option.{slice_get-map}
use Rattle.tla_meaning.specs.declared.place.Place.{Place}
use Rattle.tla_meaning.specs.Scopes.{or_else}
use Rattle.tla_meaning.proofs.Views.{false≢true}
use Rattle.kernel_trees.specs.declared.kernel.Ker.{Ker, out-Ker}
use Rattle.kernel_trees.specs.declared.kernel.KerOp.TheVariants as ker
use Rattle.kernel_trees.specs.Paths.{Marks, Parted, Step, Holds, Branch, Choice, choice_ways, if_ways, mentions}
use Rattle.kernel_trees.specs.Paths.{mentions_at, ways}
use Rattle.kernel_trees.specs.Ways.{Way, alone, one_after}
use Rattle.transition_splitter.specs.inner.Counts.{both, tally}
use Rattle.transition_splitter.specs.inner.Routes.{some_ways, with_ways}
use Rattle.transition_splitter.proofs.NodeWays.{mentions_by}
use Rattle.transition_splitter.proofs.Tallying.{tally_append, tally_behind}

abbrev Ways : Type 0
Ways = List (Way Step)

or_none : (b : Bool) → b ≡ (b || false)
or_none true = refl
or_none false = refl

-- ---- the operands of a range

range_at : (m : Marks) (k : Ker) (ks : List Ker) → (out-Ker k).op ≡ ker.Range → ks ≡ (out-Ker k).args →
    mentions_at m ker.Range (map (mentions m) ks) ≡ mentions m k
range_at m k ks h e = ap (λ (ks : List Ker). mentions_at m ker.Range (map (mentions m) ks)) e
    ∙ sym (mentions_by m k ker.Range h)

pub range_of_none : (m : Marks) (k : Ker) (ks : List Ker) → (out-Ker k).op ≡ ker.Range → ks ≡ (out-Ker k).args →
    length ks < 1 → false ≡ mentions m k
range_of_none m k [] h e l = range_at m k [] h e
range_of_none m k (x ∷ ks) h e l = absurd (omega (arith, l))

pub range_of_one : (m : Marks) (k : Ker) (ks : List Ker) (a : Ker) → (out-Ker k).op ≡ ker.Range →
    ks ≡ (out-Ker k).args → 1 ≤ length ks → length ks < 2 →
    a ≡ get_or ks 0 a → mentions m a ≡ mentions m k
range_of_one m k [] a h e j l i = absurd (omega (arith, j))
range_of_one m k (x ∷ []) a h e j l i = ap (mentions m) i ∙ or_none (mentions m x) ∙ range_at m k (x ∷ []) h e
range_of_one m k (x ∷ y ∷ ks) a h e j l i = absurd (omega (arith, l))

pub range_of_two : (m : Marks) (k : Ker) (ks : List Ker) (a b : Ker) → (out-Ker k).op ≡ ker.Range →
    ks ≡ (out-Ker k).args → 2 ≤ length ks →
    a ≡ get_or ks 0 a → b ≡ get_or ks 1 b → (mentions m a || mentions m b) ≡ mentions m k
range_of_two m k [] a b h e j i l = absurd (omega (arith, j))
range_of_two m k (x ∷ []) a b h e j i l = absurd (omega (arith, j))
range_of_two m k (x ∷ y ∷ ks) a b h e j i l =
    ap₂ (λ (a b : Ker). mentions m a || mentions m b) i l
    ∙ ap (λ c. mentions m x || c) (or_none (mentions m y))
    ∙ range_at m k (x ∷ y ∷ ks) h e

-- the second is asked where the first holds none
pub or_first : (a b r : Bool) → r ≡ a → r ≡ true → r ≡ (a || b)
or_first true b r h k = h
or_first false b r h k = absurd (false≢true (sym h ∙ k))

pub or_second : (a b r q : Bool) → r ≡ a → r ≡ false → q ≡ b → q ≡ (a || b)
or_second true b r q h k e = absurd (false≢true (sym k ∙ h))
or_second false b r q h k e = e

-- ---- the operands of an IF

three : (ks : List Ker) (a b : Ker) → 3 ≤ length ks → length ks < 4 → a ≡ get_or ks 1 a → b ≡ get_or ks 2 b →
    (g : Ker) × (ks ≡ g ∷ a ∷ b ∷ [])
three [] a b j l h i = absurd (omega (arith, j))
three (x ∷ []) a b j l h i = absurd (omega (arith, j))
three (x ∷ y ∷ []) a b j l h i = absurd (omega (arith, j))
three (x ∷ y ∷ z ∷ []) a b j l h i = (x, ap₂ (λ (a b : Ker). x ∷ a ∷ b ∷ []) (sym h) (sym i))
three (x ∷ y ∷ z ∷ w ∷ ks) a b j l h i = absurd (omega (arith, l))

pub not_three : (m : Marks) (k : Ker) (p : Place) (ks : List Ker) → (length ks ≡ 3 → ⊥) →
    if_ways k p (with_ways m ks) ≡ alone (Holds k)
not_three m k p [] h = refl
not_three m k p (x ∷ []) h = refl
not_three m k p (x ∷ y ∷ []) h = refl
not_three m k p (x ∷ y ∷ z ∷ []) h = absurd (h refl)
not_three m k p (x ∷ y ∷ z ∷ w ∷ ks) h = refl

-- ---- the body of an `\E`

else_none : (t : Option Place) → t ≡ or_else t None
else_none None = refl
else_none (Some p) = refl

behind_choice : (x : Step) (ys : Ways) →
    map (λ y. record { taken = y.taken; steps = x ∷ y.steps }) ys
    ≡ map (one_after (record { taken = None; steps = x ∷ [] })) ys
behind_choice x [] = refl
behind_choice x (y ∷ ys) =
    ap₂ (λ (t : Option Place) (zs : Ways). record { taken = t; steps = x ∷ y.steps } ∷ zs) (else_none y.taken)
    (behind_choice x ys)

zip_front : {X Y : Type 0} (xs : List X) (ys : List Y) → zip xs (take (length xs) ys) ≡ zip xs ys
zip_front [] ys = refl
zip_front (x ∷ xs) [] = refl
zip_front {X = X} {Y = Y} (x ∷ xs) (y ∷ ys) = ap (λ (ps : List (X × Y)). (x, y) ∷ ps) (zip_front xs ys)

front_of : (m : Marks) (n : ℕ) (ks : List Ker) → map (λ (k : Parted). k.0) (take n (with_ways m ks)) ≡ take n ks
front_of m zero ks = refl
front_of m (suc n) [] = refl
front_of m (suc n) (k ∷ ks) = ap (λ (ks : List Ker). k ∷ ks) (front_of m n ks)

choice_at : (m : Marks) (k : Ker) (o : Option Ker) → slice_get (out-Ker k).args (length (out-Ker k).binds) ≡ o →
    some_ways m k ≡ choice_ways k (out-Ker k).place (zip (out-Ker k).binds (out-Ker k).args)
    (option_map (λ (k : Ker). (k, ways m k)) o)
choice_at m k o h =
    ap₂ (λ (ps : List (ℕ × Ker)) (o : Option Parted). choice_ways k (out-Ker k).place ps o)
    (ap (zip (out-Ker k).binds) (front_of m (length (out-Ker k).binds) (out-Ker k).args)
    ∙ zip_front (out-Ker k).binds (out-Ker k).args)
    (slice_get-map (λ (k : Ker). (k, ways m k)) (out-Ker k).args (length (out-Ker k).binds)
    ∙ ap (option_map (λ (k : Ker). (k, ways m k))) h)

abbrev pub chosen : Ker → Way Step
chosen k = record { taken = None; steps = Choice (out-Ker k).place (zip (out-Ker k).binds (out-Ker k).args) ∷ [] }

pub with_body : (m : Marks) (k b : Ker) → slice_get (out-Ker k).args (length (out-Ker k).binds) ≡ Some b →
    some_ways m k ≡ map (one_after (chosen k)) (ways m b)
with_body m k b h =
    choice_at m k (Some b) h
    ∙ behind_choice (Choice (out-Ker k).place (zip (out-Ker k).binds (out-Ker k).args)) (ways m b)

-- ---- tallies

-- the branch with this root, behind the guard with this truth value
abbrev pub guarded : Place → Ker → Ker → Bool → Way Step
guarded p g k b = record { taken = Some (out-Ker k).place; steps = Branch p g b ∷ [] }

tally_three : (m : Marks) (k : Ker) (p : Place) (g a b : Ker) →
    both (tally (ways m a)) (tally (ways m b)) ≡ tally (if_ways k p (with_ways m (g ∷ a ∷ b ∷ [])))
tally_three m k p g a b =
    sym (
    tally_append (map (one_after (guarded p g a true)) (ways m a)) (map (one_after (guarded p g b false)) (ways m b))
    ∙ ap₂ both (tally_behind (guarded p g a true) (ways m a) refl) (tally_behind (guarded p g b false) (ways m b) refl)
    )

pub tally_branches : (m : Marks) (k : Ker) (p : Place) (ks : List Ker) (a b : Ker) → 3 ≤ length ks → length ks < 4 →
    a ≡ get_or ks 1 a → b ≡ get_or ks 2 b →
    both (tally (ways m a)) (tally (ways m b)) ≡ tally (if_ways k p (with_ways m ks))
tally_branches m k p ks a b j l h i =
    let t = three ks a b j l h i in
    tally_three m k p t.0 a b ∙ sym (ap (λ (ks : List Ker). tally (if_ways k p (with_ways m ks))) t.1)

pub tally_choice : (m : Marks) (k b : Ker) → slice_get (out-Ker k).args (length (out-Ker k).binds) ≡ Some b →
    tally (ways m b) ≡ tally (some_ways m k)
tally_choice m k b h = sym (tally_behind (chosen k) (ways m b) refl) ∙ sym (ap tally (with_body m k b h))

-- ---- the branches of an IF

pub if_parts : (m : Marks) (k : Ker) (p : Place) (ks : List Ker) (g a b : Ker) → 3 ≤ length ks → length ks < 4 →
    g ≡ get_or ks 0 g → a ≡ get_or ks 1 a → b ≡ get_or ks 2 b →
    map (one_after (guarded p g a true)) (ways m a) ++ map (one_after (guarded p g b false)) (ways m b)
    ≡ if_ways k p (with_ways m ks)
if_parts m k p [] g a b j l o h i = absurd (omega (arith, j))
if_parts m k p (x ∷ []) g a b j l o h i = absurd (omega (arith, j))
if_parts m k p (x ∷ y ∷ []) g a b j l o h i = absurd (omega (arith, j))
if_parts m k p (x ∷ y ∷ z ∷ []) g a b j l o h i =
    ap₂ (λ (xs ys : Ways). xs ++ ys)
    (ap (λ (a : Ker). map (one_after (guarded p g a true)) (ways m a)) h)
    (ap (λ (b : Ker). map (one_after (guarded p g b false)) (ways m b)) i)
    ∙ ap (λ (g : Ker). if_ways k p (with_ways m (g ∷ y ∷ z ∷ []))) o
if_parts m k p (x ∷ y ∷ z ∷ w ∷ ks) g a b j l o h i = absurd (omega (arith, l))
