-- The marks of a job's names are those of its system, whose constants stand first.
use Rattle.std.proofs.Common.{◌≡◌, ℕ, zero, suc, ◌<◌, Bool, true, false, not, cond, ◌&&◌, ◌||◌, IsTrue, List, [], ◌∷◌, map, flat_map, filter, length, get_or, nat_lt, refl, sym, ◌∙◌, ap, ap₂, arith}
use Rattle.std.specs.List.{list_all}
use Rattle.tla_meaning.specs.declared.actions.Assignable.{Assignable}
use Rattle.tla_meaning.specs.declared.actions.Assignable.TheVariants as names
use Rattle.tla_meaning.specs.declared.expr.Decl.{Decl}
use Rattle.tla_meaning.proofs.Views.{and_both, false≢true}
use Rattle.kernel_trees.specs.declared.action_kind.ActionKind.TheVariants.{Constants}
use Rattle.kernel_trees.specs.declared.path.AssignedStep.{AssignedStep}
use Rattle.kernel_trees.specs.ActionNames.{constants, marks_of}
use Rattle.kernel_trees.specs.Assignments.{assigned_by, is_in}
use Rattle.kernel_trees.specs.Paths.{Marks, marks_below}
use Rattle.kernel_trees.specs.Systems.{constants_first}
use Rattle.kernel_shapes.specs.Systems.{assigned_ended, assigns, the_constants_of}

abbrev pub is_fixed : List Decl → List Bool
is_fixed ds = map (λ (d : Decl). d.constant) ds

pub as_many : (ds : List Decl) → length (is_fixed ds) ≡ length ds
as_many [] = refl
as_many (d ∷ ds) = ap suc (as_many ds)

pub as_many_constants : (ds : List Decl) → length (filter (λ (b : Bool). b) (is_fixed ds)) ≡ constants ds
as_many_constants [] = refl
as_many_constants (d ∷ ds) = by d.constant (as_many_constants ds)
  where
    by : (b : Bool) → length (filter (λ (b : Bool). b) (is_fixed ds)) ≡ constants ds →
        length (cond b (b ∷ filter (λ (b : Bool). b) (is_fixed ds)) (filter (λ (b : Bool). b) (is_fixed ds)))
        ≡ length (cond b (d ∷ filter (λ (d : Decl). d.constant) ds) (filter (λ (d : Decl). d.constant) ds))
    by true h = ap suc h
    by false h = h

-- by the number of names and of constants
pub same_marks : (f : ℕ → Assignable) (ds : List Decl) (fixed : List Bool) → fixed ≡ is_fixed ds →
    marks_below (length fixed) (f (length (filter (λ (b : Bool). b) fixed))) ≡ marks_below (length ds)
    (f (constants ds))
same_marks f ds fixed e =
    ap (λ (bs : List Bool). marks_below (length bs) (f (length (filter (λ (b : Bool). b) bs)))) e
    ∙ ap₂ (λ (n k : ℕ). marks_below n (f k)) (as_many ds) (as_many_constants ds)

-- ---- the constants

abbrev Below : ℕ → List Bool → Type 0
Below i bs = (i < length bs) × (i < length (filter (λ (b : Bool). b) bs))

none_there : (bs : List Bool) (i : ℕ) → IsTrue (list_all not bs) → get_or bs i false ≡ true → ⊥
none_there [] i h g = false≢true g
none_there (true ∷ bs) i h g = false≢true h
none_there (false ∷ bs) zero h g = false≢true g
none_there (false ∷ bs) (suc i) h g = none_there bs i h g

constant_below : (bs : List Bool) (i : ℕ) → IsTrue (constants_first bs) → get_or bs i false ≡ true → Below i bs
constant_below [] i h g = absurd (false≢true g)
constant_below (true ∷ bs) zero h g = (omega (arith), omega (arith))
constant_below (true ∷ bs) (suc i) h g =
    let z = constant_below bs i h g in (up (length bs) z.0, up (length (filter (λ (b : Bool). b) bs)) z.1)
  where
    up : (n : ℕ) → i < n → suc i < suc n
    up n lt = omega (arith, lt)
constant_below (false ∷ bs) zero h g = absurd (false≢true g)
constant_below (false ∷ bs) (suc i) h g = absurd (none_there bs i h g)

is_less : (i n : ℕ) → i < n → nat_lt i n ≡ true
is_less i n lt = grind (arith, lt)

pub constant_marked : (ds : List Decl) (fixed : List Bool) → fixed ≡ is_fixed ds → IsTrue (constants_first fixed) →
    (i : ℕ) →
    the_constants_of fixed i true ≡ true → marks_of Constants ds i true ≡ true
constant_marked ds fixed e h i g =
    let n : ℕ = length (filter (λ (b : Bool). b) fixed) in
    let z = constant_below fixed i h g in
    ap (λ (m : Marks). m i true) (sym (same_marks (λ n. names.Constants n) ds fixed e))
    ∙ and_both (nat_lt i (length fixed)) (nat_lt i n) (is_less i (length fixed) z.0) (is_less i n z.1)

-- what assigns each name that is marked assigns each of fewer
pub assigns_fewer : (m c : Marks) (zs : List AssignedStep) (i : ℕ) → (c i true ≡ true → m i true ≡ true) →
    IsTrue (assigns m zs i) →
    IsTrue (assigns c zs i)
assigns_fewer m c zs i f h = by (assigned_ended zs) (is_in (flat_map assigned_by zs) i) (c i true) (m i true) f h
  where
    by : (ended given a b : Bool) → (a ≡ true → b ≡ true) → IsTrue (ended || not (b && not given)) →
        IsTrue (ended || not (a && not given))
    by true given a b f h = refl
    by false given false b f h = refl
    by false given true b f h = ap (λ (x : Bool). not (x && not given)) (sym (f refl)) ∙ h
