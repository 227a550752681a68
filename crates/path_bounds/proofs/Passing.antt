-- A walk passes steps.
use Rattle.std.proofs.Common.{◌≡◌, ℕ, zero, suc, ◌+◌, ◌<◌, ◌≤◌, Bool, List, [], ◌∷◌, ◌++◌, map, take, length, get_or, Option, option_map, refl, sym, ◌∙◌, ap, ap₂, subst, arith}
use Rattle.std.specs.Prelude.{slice_set}
use Rattle.kernel_trees.specs.declared.kernel.Ker.{Ker}
use Rattle.kernel_trees.specs.declared.path.AssignedStep.{AssignedStep}
use Rattle.kernel_trees.specs.declared.path.AssignedStep.TheVariants as mark
use Rattle.kernel_trees.specs.Paths.{numbers, sets}
use Rattle.kernel_trees.specs.Trees.{names_of, number_name}
use Rattle.kernel_shapes.specs.declared.bounds.Shape.{Shape as Code}
use Rattle.kernel_shapes.specs.Codes.{mean}
use Rattle.kernel_shapes.specs.Kernel.{ker_shape}
use Rattle.kernel_shapes.specs.Levels.{Assigns}
use Rattle.kernel_shapes.specs.Shape.{Shape, Empty, inside}
use Rattle.kernel_shapes.specs.Sized.{Extent, bound_shapes}
use Rattle.tree_bounds.specs.Bounded.{with_bounds}
use Rattle.shape_bounds.specs.declared.paths.Target.{Target}
use Rattle.shape_bounds.specs.declared.paths.Target.TheVariants as target
use Rattle.shape_bounds.specs.Extents.{assigns_in, extent_of, given_shape, given_shapes, kept_extent}
use Rattle.shape_bounds.specs.Kept.{IsWidth, capped}
use Rattle.shape_bounds.specs.Sizes.{bound_name, kept_name}
use Rattle.shape_bounds.proofs.Ending.{all_taken, mapped_end, mapped_next}
use Rattle.path_bounds.specs.declared.walk.Walk.{Walk}
use Rattle.path_bounds.specs.BoundedPaths.{assign_shape, bounded_step, bounded_steps, past, put_shape}
use Rattle.path_bounds.specs.inner.Walking.{AreMembers, ArePassed, GoesOn, IsAssigned, IsAt, IsStart, member_of, past_all, with_set}

-- ---- extents

abbrev extent : List (Option Shape) → List (Option Shape) → List (List ℕ × Shape) → Extent
extent now next bound = record { now = now; next = next; bound = bound }

same_extent : {now next : List (Option Shape)} {bound : List (List ℕ × Shape)} (h : Extent) → now ≡ h.now → next ≡ h.next → bound ≡ h.bound →
    extent now next bound ≡ h
same_extent h e f k = λ i. record { now = e i; next = f i; bound = k i }

pub stays_sized : (v w : ℕ) → w ≡ v → IsWidth v → IsWidth w
stays_sized v w e h = subst IsWidth (sym e) h

-- ---- a name is given a shape

given_kept : (a : Shape) → option_map capped (given_shape a) ≡ given_shape (capped a)
given_kept Empty = refl
given_kept a = refl

put_kept : (i : ℕ) (a : Shape) (os : List (Option Shape)) →
    map (option_map capped) (put_shape i (given_shape a) os) ≡ put_shape i (given_shape (capped a)) (map (option_map capped) os)
put_kept i a [] = refl
put_kept zero a (o ∷ os) = ap (λ (q : Option Shape). q ∷ map (option_map capped) os) (given_kept a)
put_kept (suc i) a (o ∷ os) = ap (λ (qs : List (Option Shape)). option_map capped o ∷ qs) (put_kept i a os)

given_at : Code → Option Shape
given_at s = given_shape (mean s)

pub set_given : (ss : List Code) (i : ℕ) (s : Code) → given_shapes (slice_set ss i s) ≡ put_shape i (given_shape (mean s)) (given_shapes ss)
set_given [] i s = refl
set_given (x ∷ ss) zero s = refl
set_given (x ∷ ss) (suc i) s = ap (λ (qs : List (Option Shape)). given_shape (mean x) ∷ qs) (set_given ss i s)

pub put_past : (ss : List Code) (i : ℕ) (o : Option Shape) → length ss ≤ i → given_shapes ss ≡ put_shape i o (given_shapes ss)
put_past [] i o h = refl
put_past (x ∷ ss) zero o h = absurd (omega (arith, h))
put_past (x ∷ ss) (suc i) o h = ap (λ (qs : List (Option Shape)). given_shape (mean x) ∷ qs) (put_past ss i o (omega (arith, h)))

-- the shapes of a list of names, kept, are those of codes
put_same : (i : ℕ) (b a : Shape) (os : List (Option Shape)) (ss ts : List Code) → capped b ≡ a → map (option_map capped) os ≡ given_shapes ss →
    given_shapes ts ≡ put_shape i (given_shape a) (given_shapes ss) → map (option_map capped) (put_shape i (given_shape b) os) ≡ given_shapes ts
put_same i b a os ss ts e f h =
    put_kept i b os ∙ ap₂ (λ (c : Shape) (qs : List (Option Shape)). put_shape i (given_shape c) qs) e f ∙ sym h

pub assigned_next : (old new : Walk) (i : ℕ) (a : Shape) → old.target ≡ target.Next → new.width ≡ old.width → new.target ≡ old.target →
    new.state ≡ old.state → new.bound ≡ old.bound → given_shapes new.next ≡ put_shape i (given_shape a) (given_shapes old.next) → IsAssigned old new i a
assigned_next old new i a t ew et es eb en = record {
  width = ew;
  target = et;
  at = λ g b h e.
      subst (λ (u : Target). IsAt new (assign_shape (assigns_in u) i b g)) (sym t)
      (same_extent (extent_of new.state new.next new.bound) (ap (λ (x : Extent). x.now) h ∙ ap given_shapes (sym es))
      (put_same i b a g.next old.next new.next e (ap (λ (x : Extent). x.next) h) en)
      (ap (λ (x : Extent). x.bound) h ∙ ap (map bound_name) (sym eb)));
}

pub assigned_state : (old new : Walk) (i : ℕ) (a : Shape) → old.target ≡ target.State → new.width ≡ old.width → new.target ≡ old.target →
    new.bound ≡ old.bound → given_shapes new.state ≡ put_shape i (given_shape a) (given_shapes old.state) →
    given_shapes new.next ≡ put_shape i (given_shape a) (given_shapes old.next) → IsAssigned old new i a
assigned_state old new i a t ew et eb es en = record {
  width = ew;
  target = et;
  at = λ g b h e.
      subst (λ (u : Target). IsAt new (assign_shape (assigns_in u) i b g)) (sym t)
      (same_extent (extent_of new.state new.next new.bound) (put_same i b a g.now old.state new.state e (ap (λ (x : Extent). x.now) h) es)
      (put_same i b a g.next old.next new.next e (ap (λ (x : Extent). x.next) h) en)
      (ap (λ (x : Extent). x.bound) h ∙ ap (map bound_name) (sym eb)));
}

-- ---- picks

pub no_members : (k : Walk) (rs : List (ℕ × Code)) → rs ≡ [] → AreMembers k [] rs
no_members k rs e = λ g h. ap (map bound_name) e

pub more_members : (k : Walk) (ps : List (ℕ × Ker)) (n : ℕ) (p : ℕ × Ker) (rs us : List (ℕ × Code)) (r : Code) → AreMembers k (take n ps) rs →
    n < length ps → p ≡ get_or ps n p → ((g : Extent) → IsAt k g → mean r ≡ capped (inside (ker_shape k.width p.1 g))) →
    us ≡ rs ++ (p.0, r) ∷ [] → AreMembers k (take (n + 1) ps) us
more_members k ps n p rs us r h l i s e = λ g x.
    let one : suc n ≡ n + 1 = omega arith in
    ap (map bound_name) e ∙ mapped_end bound_name rs (p.0, r)
    ∙ ap₂ (λ (vs : List (List ℕ × Shape)) (a : Shape). vs ++ (number_name p.0, a) ∷ []) (h g x ∙ twice g (take n ps)) (s g x)
    ∙ mapped_next (kept_member g) ps n p l i
    ∙ ap (λ (m : ℕ). map (kept_member g) (take m ps)) one
    ∙ sym (twice g (take (n + 1) ps))
  where
    kept_member : Extent → ℕ × Ker → List ℕ × Shape
    kept_member g q = kept_name (member_of k.width g q)

    twice : (g : Extent) (qs : List (ℕ × Ker)) → map kept_name (map (member_of k.width g) qs) ≡ map (kept_member g) qs
    twice g [] = refl
    twice g (q ∷ qs) = ap (λ (vs : List (List ℕ × Shape)). kept_member g q ∷ vs) (twice g qs)

pub all_members : (k : Walk) (ps : List (ℕ × Ker)) (n : ℕ) (rs : List (ℕ × Code)) → AreMembers k (take n ps) rs → length ps ≤ n → AreMembers k ps rs
all_members k ps n rs h l = subst (λ (qs : List (ℕ × Ker)). AreMembers k qs rs) (all_taken ps n l) h

members_bound : (w : ℕ) (g : Extent) (ps : List (ℕ × Ker)) →
    bound_shapes (names_of (numbers ps)) (map (λ k. inside (ker_shape w k g)) (sets ps)) ≡ map (member_of w g) ps
members_bound w g [] = refl
members_bound w g (p ∷ ps) = ap (λ (vs : List (List ℕ × Shape)). member_of w g p ∷ vs) (members_bound w g ps)

mapped_both : {X : Type 0} {Y : Type 0} (f : X → Y) (xs ys : List X) → map f (xs ++ ys) ≡ map f xs ++ map f ys
mapped_both f [] ys = refl
mapped_both {Y = Y} f (x ∷ xs) ys = ap (λ (zs : List Y). f x ∷ zs) (mapped_both f xs ys)

pub picked : (old new : Walk) (ps : List (ℕ × Ker)) (rs : List (ℕ × Code)) → AreMembers old ps rs → new.width ≡ old.width → new.target ≡ old.target →
    new.state ≡ old.state → new.next ≡ old.next → new.bound ≡ old.bound ++ rs → GoesOn old new (past old.width (assigns_in old.target) (mark.Pick ps))
picked old new ps rs h ew et es en eb = record {
  width = ew;
  target = et;
  at = λ g e.
      same_extent (extent_of new.state new.next new.bound) (ap (λ (x : Extent). x.now) e ∙ ap given_shapes (sym es))
      (ap (λ (x : Extent). x.next) e ∙ ap given_shapes (sym en))
      (mapped_both kept_name g.bound _
      ∙ ap₂ (λ (us vs : List (List ℕ × Shape)). us ++ vs) (ap (λ (x : Extent). x.bound) e) (ap (map kept_name) (members_bound old.width g ps) ∙ sym (h g e))
      ∙ sym (mapped_both bound_name old.bound rs)
      ∙ ap (map bound_name) (sym eb));
}

-- ---- a step

pub passed_guard : (k : Walk) (z : Ker) (b : Bool) → GoesOn k k (past k.width (assigns_in k.target) (mark.Guard z b))
passed_guard k z b = record { width = refl; target = refl; at = λ g e. e }

pub passed_value : (old new : Walk) (i : ℕ) (z : Ker) (r : Code) → ((g : Extent) → IsAt old g → mean r ≡ capped (ker_shape old.width z g)) →
    IsAssigned old new i (mean r) → GoesOn old new (past old.width (assigns_in old.target) (mark.Equals i z))
passed_value old new i z r s h = record {
  width = h.width;
  target = h.target;
  at = λ g e. h.at g (ker_shape old.width z g) e (sym (s g e));
}

pub passed_member : (old new : Walk) (i : ℕ) (z : Ker) (r : Code) → ((g : Extent) → IsAt old g → mean r ≡ capped (inside (ker_shape old.width z g))) →
    IsAssigned old new i (mean r) → GoesOn old new (past old.width (assigns_in old.target) (mark.Among i z))
passed_member old new i z r s h = record {
  width = h.width;
  target = h.target;
  at = λ g e. h.at g (inside (ker_shape old.width z g)) e (sym (s g e));
}

-- ---- the sets of a pick

pub more_sets : (k : Walk) (ps : List (ℕ × Ker)) (n : ℕ) (p : ℕ × Ker) (rs us : List (ℕ × Ker)) (r : Ker) →
    ((g : Extent) → IsAt k g → rs ≡ map (with_set k.width g) (take n ps)) → n < length ps → p ≡ get_or ps n p →
    ((g : Extent) → IsAt k g → r ≡ with_bounds k.width p.1 (g ∷ [])) → us ≡ rs ++ (p.0, r) ∷ [] →
    (g : Extent) → IsAt k g → us ≡ map (with_set k.width g) (take (n + 1) ps)
more_sets k ps n p rs us r h l i s e g x =
    let one : suc n ≡ n + 1 = omega arith in
    e
    ∙ ap₂ (λ (vs : List (ℕ × Ker)) (j : Ker). vs ++ (p.0, j) ∷ []) (h g x) (s g x)
    ∙ mapped_next (with_set k.width g) ps n p l i
    ∙ ap (λ (m : ℕ). map (with_set k.width g) (take m ps)) one

pub all_sets : (k : Walk) (ps : List (ℕ × Ker)) (n : ℕ) (rs : List (ℕ × Ker)) → ((g : Extent) → IsAt k g → rs ≡ map (with_set k.width g) (take n ps)) →
    length ps ≤ n → (g : Extent) → IsAt k g → rs ≡ map (with_set k.width g) ps
all_sets k ps n rs h l g x = h g x ∙ ap (map (with_set k.width g)) (all_taken ps n l)

-- ---- steps

past_end : (w : ℕ) (a : Assigns) (zs : List AssignedStep) (z : AssignedStep) (g : Extent) → past_all w a (zs ++ z ∷ []) g ≡ past w a z (past_all w a zs g)
past_end w a [] z g = refl
past_end w a (y ∷ zs) z g = past_end w a zs z (past w a y g)

bounded_end : (w : ℕ) (a : Assigns) (zs : List AssignedStep) (z : AssignedStep) (g : Extent) →
    bounded_steps w a (zs ++ z ∷ []) g ≡ bounded_steps w a zs g ++ bounded_step w (past_all w a zs g) z ∷ []
bounded_end w a [] z g = refl
bounded_end w a (y ∷ zs) z g = ap (λ (us : List AssignedStep). bounded_step w g y ∷ us) (bounded_end w a zs z (past w a y g))

one_more : (zs : List AssignedStep) (n : ℕ) (z : AssignedStep) → n < length zs → z ≡ get_or zs n z → take n zs ++ z ∷ [] ≡ take (n + 1) zs
one_more zs n z l i =
    let one : suc n ≡ n + 1 = omega arith in
    by zs n z l i ∙ ap (λ (m : ℕ). take m zs) one
  where
    by : (zs : List AssignedStep) (n : ℕ) (z : AssignedStep) → n < length zs → z ≡ get_or zs n z → take n zs ++ z ∷ [] ≡ take (suc n) zs
    by [] n z l i = absurd (omega (arith, l))
    by (y ∷ zs) zero z l i = ap (λ (u : AssignedStep). u ∷ []) i
    by (y ∷ zs) (suc n) z l i = ap (λ (us : List AssignedStep). y ∷ us) (by zs n z (omega (arith, l)) i)

pub none_passed : (k : Walk) (rs : List AssignedStep) → rs ≡ [] → ArePassed k k [] rs
none_passed k rs e = record { walk = record { width = refl; target = refl; at = λ g h. h }; steps = λ g h. e }

pub more_passed : (old mid new : Walk) (zs : List AssignedStep) (n : ℕ) (z : AssignedStep) (rs us : List AssignedStep) (r : AssignedStep) → ArePassed old mid (take n zs) rs →
    n < length zs → z ≡ get_or zs n z → ((g : Extent) → IsAt mid g → r ≡ bounded_step mid.width g z) → GoesOn mid new (past mid.width (assigns_in mid.target) z) →
    us ≡ rs ++ r ∷ [] → ArePassed old new (take (n + 1) zs) us
more_passed old mid new zs n z rs us r h l i s c e =
    let w : ℕ = old.width in
    let a : Assigns = assigns_in old.target in
    subst (λ (ys : List AssignedStep). ArePassed old new ys us) (one_more zs n z l i)
    (record {
      walk = record {
        width = c.width ∙ h.walk.width;
        target = c.target ∙ h.walk.target;
        at = λ g x.
            subst (IsAt new) (sym (past_end w a (take n zs) z g))
            (subst (λ (f : Extent). IsAt new f)
            (ap₂ (λ (v : ℕ) (t : Target). past v (assigns_in t) z (past_all w a (take n zs) g)) h.walk.width h.walk.target)
            (c.at (past_all w a (take n zs) g) (h.walk.at g x)));
      };
      steps = λ g x.
          e
          ∙ ap₂ (λ (vs : List AssignedStep) (u : AssignedStep). vs ++ u ∷ []) (h.steps g x)
          (s (past_all w a (take n zs) g) (h.walk.at g x) ∙ ap (λ (v : ℕ). bounded_step v (past_all w a (take n zs) g) z) h.walk.width)
          ∙ sym (bounded_end w a (take n zs) z g);
    })

pub all_passed : (old new : Walk) (zs : List AssignedStep) (n : ℕ) (rs : List AssignedStep) → ArePassed old new (take n zs) rs → length zs ≤ n →
    (g : Extent) → IsAt old g → rs ≡ bounded_steps old.width (assigns_in old.target) zs g
all_passed old new zs n rs h l g x = h.steps g x ∙ ap (λ (ys : List AssignedStep). bounded_steps old.width (assigns_in old.target) ys g) (all_taken zs n l)

pub passed_sized : (old mid : Walk) (zs rs : List AssignedStep) → ArePassed old mid zs rs → IsWidth old.width → IsWidth mid.width
passed_sized old mid zs rs h s = subst IsWidth (sym h.walk.width) s

-- ---- the start

pub starts : (k : Walk) (w : ℕ) (t : Target) (now next : List Code) (g : Extent) → IsStart k w t now next → kept_extent g ≡ extent_of now next [] → IsAt k g
starts k w t now next g h e =
    e ∙ sym (same_extent (extent_of now next []) (ap given_shapes h.state) (ap given_shapes h.after) (ap (map bound_name) h.bound))

pub from_start : (k : Walk) (w : ℕ) (t : Target) (now next : List Code) (zs rs : List AssignedStep) → IsStart k w t now next →
    ((g : Extent) → IsAt k g → rs ≡ bounded_steps k.width (assigns_in k.target) zs g) →
    (g : Extent) → kept_extent g ≡ extent_of now next [] → rs ≡ bounded_steps w (assigns_in t) zs g
from_start k w t now next zs rs h f g e =
    f g (starts k w t now next g h e) ∙ ap₂ (λ (v : ℕ) (u : Target). bounded_steps v (assigns_in u) zs g) h.width h.target

pub start_sized : (k : Walk) (w : ℕ) (t : Target) (now next : List Code) → IsStart k w t now next → IsWidth w → IsWidth k.width
start_sized k w t now next h s = subst IsWidth (sym h.width) s
