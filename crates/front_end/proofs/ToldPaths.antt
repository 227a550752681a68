-- What is told of a path decides whether it has assignments: two paths of which the same is told both have them or both have
-- none.
use Rattle.std.proofs.Common.{◌≡◌, ◌<◌, arith, ℕ, Bool, true, false, not, ◌&&◌, ◌⊎◌, inl, inr, List, [], ◌∷◌, ◌++◌, map, flat_map, refl, ap, sym, ◌∙◌, subst, Option, Some, None}
use Rattle.std.specs.Prelude.{Contains, Ok, Err}
use Rattle.std.proofs.lemmas.Bool.{true≢false}
use Rattle.tla_meaning.specs.declared.place.Place.{Place}
use Rattle.kernel_trees.specs.declared.path.Assigned.{Assigned}
use Rattle.kernel_trees.specs.declared.path.AssignedStep.{AssignedStep}
use Rattle.kernel_trees.specs.declared.path.AssignedStep.TheVariants as mark
use Rattle.kernel_trees.specs.declared.path.KerPath.{KerPath}
use Rattle.kernel_trees.specs.Assignments.{assigned_by, is_in, lacks, marked, open_names, path_ended}
use Rattle.kernel_trees.specs.Paths.{Marks}
use Rattle.assignment_finder.specs.Finding.{AreFine, IsAssigned, IsFirstFault, IsFine, IsPathFault, IsStepFault, endless}
use Rattle.assignment_finder.specs.declared.assign_fault.AssignFault.{AssignFault}
use Rattle.assignment_finder.specs.declared.assign_fault.AssignFault.TheVariants.{Unassigned, ReadEarly, Infinite, Memory}
use Rattle.kernel_reduction.specs.JobPaths.{Told, ToldStep, named, told_kernel_path, told_kernel_step}

-- ---- a path that is fine has no fault

none_in : (p : Place) → Contains [] p → ⊥
none_in p h = let lt : h.0 < 0 = h.1 in absurd (omega (arith, lt))

fine_step : (m : Marks) (before : List ℕ) (z : AssignedStep) (f : AssignFault) → IsFine m before z → IsStepFault m before z f → ⊥
fine_step m before z (ReadEarly i p) h g = true≢false (sym g.0.read ∙ h.0 i p)
fine_step m before z (Infinite p) h g = none_there (endless z) p h.1 g.0.there
  where
    none_there : (ps : List Place) (p : Place) → ps ≡ [] → Contains ps p → ⊥
    none_there ps p e c = let P : List Place → Type 0 = λ z. Contains z p in none_in p (subst P e c)
fine_step m before z (Unassigned i p) h g = g
fine_step m before z (Memory e) h g = g

fine_steps : (m : Marks) (before : List ℕ) (zs : List AssignedStep) (f : AssignFault) → AreFine m before zs → IsFirstFault m before zs f → ⊥
fine_steps m before [] f h g = g
fine_steps m before (z ∷ zs) f h (inl g) = fine_step m before z f h.0 g
fine_steps m before (z ∷ zs) f h (inr g) = fine_steps m (assigned_by z ++ before) zs f h.1 g.1

-- ---- what is told of steps

abbrev told_endless : Option (List Place) → List Place
told_endless None = []
told_endless (Some ps) = ps

abbrev IsToldFine : Marks → List ℕ → ToldStep → Type 0
IsToldFine m before t = ((i : ℕ) (p : Place) → t.reads (open_names m before) i p ≡ false) × (told_endless t.among ≡ [])

abbrev AreToldFine : Marks → List ℕ → List ToldStep → Type 0
AreToldFine m before [] = Unit {0}
AreToldFine m before (t ∷ ts) = IsToldFine m before t × AreToldFine m (named t.assigns ++ before) ts

same_endless : (z : AssignedStep) → told_endless (told_kernel_step z).among ≡ endless z
same_endless (mark.Guard k b) = refl
same_endless (mark.Pick ps) = refl
same_endless (mark.Equals i e) = refl
same_endless (mark.Among i e) = refl

same_named : (z : AssignedStep) → named (told_kernel_step z).assigns ≡ assigned_by z
same_named (mark.Guard k b) = refl
same_named (mark.Pick ps) = refl
same_named (mark.Equals i e) = refl
same_named (mark.Among i e) = refl

told_of_fine : (m : Marks) (before : List ℕ) (zs : List AssignedStep) → AreFine m before zs → AreToldFine m before (map told_kernel_step zs)
told_of_fine m before [] h = tt
told_of_fine m before (z ∷ zs) h =
    let P : List ℕ → Type 0 = λ names. AreToldFine m (names ++ before) (map told_kernel_step zs) in
    ((h.0.0, same_endless z ∙ h.0.1), subst P (sym (same_named z)) (told_of_fine m (assigned_by z ++ before) zs h.1))

fine_of_told : (m : Marks) (before : List ℕ) (zs : List AssignedStep) → AreToldFine m before (map told_kernel_step zs) → AreFine m before zs
fine_of_told m before [] h = tt
fine_of_told m before (z ∷ zs) h =
    let P : List ℕ → Type 0 = λ names. AreToldFine m (names ++ before) (map told_kernel_step zs) in
    ((h.0.0, sym (same_endless z) ∙ h.0.1), fine_of_told m (assigned_by z ++ before) zs (subst P (same_named z) h.1))

abbrev told_names : List ToldStep → List ℕ
told_names ts = flat_map (λ t. named t.assigns) ts

same_names : (zs : List AssignedStep) → told_names (map told_kernel_step zs) ≡ flat_map assigned_by zs
same_names [] = refl
same_names (z ∷ zs) = λ i. same_named z i ++ same_names zs i

abbrev told_lacks : Marks → List ToldStep → ℕ → Bool
told_lacks m ts i = m i true && not (is_in (told_names ts) i)

same_lacks : (m : Marks) (zs : List AssignedStep) (i : ℕ) → told_lacks m (map told_kernel_step zs) i ≡ lacks m zs i
same_lacks m zs i = ap (λ names. m i true && not (is_in names i)) (same_names zs)

-- ---- of paths

-- a path with its assignments, whether these are there or not
abbrev pub marked_path : Marks → KerPath → Assigned
marked_path m p = record { place = p.place; steps = marked m [] p.steps }

-- what is told of it says that they are there
record IsToldWhole (m : Marks) (t : Told) : Type 0 where
  fine : AreToldFine m [] t.steps
  whole : (t.ended ≡ true) ⊎ ((i : ℕ) → told_lacks m t.steps i ≡ false)

own_fine : (m : Marks) (p : KerPath) (a : Assigned) → IsAssigned m p a → AreFine m [] (marked m [] p.steps)
own_fine m p a h =
    let P : List AssignedStep → Type 0 = λ ys. AreFine m [] ys in
    let e : a.steps ≡ marked m [] p.steps = ap (λ x. x.steps) h.is in
    subst P e h.fine

told_whole : (m : Marks) (p : KerPath) (a : Assigned) → IsAssigned m p a → IsToldWhole m (told_kernel_path m p)
told_whole m p a h =
    let zs = marked m [] p.steps in
    let e : a.steps ≡ zs = ap (λ x. x.steps) h.is in
    let P : List AssignedStep → Type 0 = λ ys. AreFine m [] ys in
    let Q : List AssignedStep → Type 0 = λ ys. (path_ended p.steps ≡ true) ⊎ ((i : ℕ) → lacks m ys i ≡ false) in
    record { fine = told_of_fine m [] zs (subst P e h.fine); whole = by_end (subst Q e h.whole) }
  where
    by_end : (path_ended p.steps ≡ true) ⊎ ((i : ℕ) → lacks m (marked m [] p.steps) i ≡ false) →
        (path_ended p.steps ≡ true) ⊎ ((i : ℕ) → told_lacks m (map told_kernel_step (marked m [] p.steps)) i ≡ false)
    by_end (inl e) = inl e
    by_end (inr f) = inr (λ i. same_lacks m (marked m [] p.steps) i ∙ f i)

whole_told : (m : Marks) (p : KerPath) → IsToldWhole m (told_kernel_path m p) → IsAssigned m p (marked_path m p)
whole_told m p h = record { is = refl; fine = fine_of_told m [] (marked m [] p.steps) h.fine; whole = by_end h.whole }
  where
    by_end : (path_ended p.steps ≡ true) ⊎ ((i : ℕ) → told_lacks m (map told_kernel_step (marked m [] p.steps)) i ≡ false) →
        (path_ended p.steps ≡ true) ⊎ ((i : ℕ) → lacks m (marked m [] p.steps) i ≡ false)
    by_end (inl e) = inl e
    by_end (inr f) = inr (λ i. sym (same_lacks m (marked m [] p.steps) i) ∙ f i)

-- a path of which the same is told as of one with assignments has its own
pub same_assigned : (m : Marks) (p q : KerPath) (a : Assigned) → told_kernel_path m p ≡ told_kernel_path m q → IsAssigned m p a →
    IsAssigned m q (marked_path m q)
same_assigned m p q a e h =
    let P : Told → Type 0 = λ t. IsToldWhole m t in
    whole_told m q (subst P e (told_whole m p a h))

-- a path has assignments or a fault, not both
pub assigned_or_fault : (m : Marks) (p : KerPath) (a : Assigned) (f : AssignFault) → IsAssigned m p a → IsPathFault m p (marked m [] p.steps) f →
    ((e : _) → f ≡ Memory e → ⊥) → ⊥
assigned_or_fault m p a (ReadEarly i q) h g n = fine_steps m [] (marked m [] p.steps) (ReadEarly i q) (own_fine m p a h) g
assigned_or_fault m p a (Infinite q) h g n = fine_steps m [] (marked m [] p.steps) (Infinite q) (own_fine m p a h) g
assigned_or_fault m p a (Memory e) h g n = n e refl
assigned_or_fault m p a (Unassigned i q) h g n = by_end (subst Q e h.whole)
  where
    e : a.steps ≡ marked m [] p.steps
    e = ap (λ x. x.steps) h.is

    Q : List AssignedStep → Type 0
    Q ys = (path_ended p.steps ≡ true) ⊎ ((i : ℕ) → lacks m ys i ≡ false)

    by_end : (path_ended p.steps ≡ true) ⊎ ((i : ℕ) → lacks m (marked m [] p.steps) i ≡ false) → ⊥
    by_end (inl r) = true≢false (sym r ∙ g.running)
    by_end (inr r) = true≢false (sym g.missing.0 ∙ r i)
