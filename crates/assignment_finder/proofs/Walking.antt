-- A walk along the steps of a path.
use Rattle.std.proofs.Common.{◌≡◌, ◌⊎◌, inl, inr, ℕ, Bool, true, false, not, ◌&&◌, ◌||◌, IsTrue, List, [], ◌∷◌, ◌++◌, length, ◌-◌, flat_map, Some, None, refl, sym, ◌∙◌, ap, subst, append_assoc, arith}
use Rattle.std.proofs.lemmas.List.{append-nil}
use Rattle.std.specs.Prelude.{nat_eq, slice_get}
use Rattle.std.specs.List.{list_all, list_any}
use Rattle.tla_meaning.specs.declared.place.Place.{Place}
use Rattle.tla_meaning.proofs.Views.{and_both, false≢true}
use Rattle.kernel_trees.specs.declared.kernel.Ker.{Ker}
use Rattle.kernel_trees.specs.declared.path.AssignedStep.{AssignedStep}
use Rattle.kernel_trees.specs.declared.path.AssignedStep.TheVariants as mark
use Rattle.kernel_trees.specs.declared.path.KerPath.{KerPath}
use Rattle.kernel_trees.specs.declared.path.PathStep.{PathStep}
use Rattle.kernel_trees.specs.Paths.{Marks, mentions, sets}
use Rattle.kernel_trees.specs.Assignments.{assigned_by, is_ended, is_in, lacks, marked, open_names, path_ended, reads_at, reads_late}
use Rattle.kernel_trees.proofs.ReadPlaces.{read_places}
use Rattle.assignment_finder.specs.declared.assign_fault.AssignFault.{AssignFault}
use Rattle.assignment_finder.specs.declared.assign_fault.AssignFault.TheVariants.{Unassigned, ReadEarly, Infinite, Memory}
use Rattle.assignment_finder.specs.declared.open_names.OpenNames.{OpenNames}
use Rattle.assignment_finder.specs.Finding.{AreFine, IsAssigned, IsFirstFault, IsPathFault}
use Rattle.assignment_finder.specs.inner.Open.{IsFirstOpen, IsOpen, open_by}
use Rattle.assignment_finder.specs.inner.Steps.{Becomes, IsFirstRefusal, IsRefusal, IsTaken, IsWalked}

-- ---- whether a path has ended

some_last : (y : PathStep) (ys : List PathStep) → slice_get (y ∷ ys) (length ys) ≡ None → ⊥
some_last y [] e = absurd (cc)
some_last y (z ∷ ys) e = some_last z ys e

is_last : (y : PathStep) (ys : List PathStep) (x : PathStep) → slice_get (y ∷ ys) (length ys) ≡ Some x → path_ended (y ∷ ys) ≡ is_ended x
is_last y [] x e = let same : y ≡ x = cc in ap is_ended same
is_last y (z ∷ ys) x e = is_last z ys x e

one_less : (y : PathStep) (ys : List PathStep) → length (y ∷ ys) - 1 ≡ length ys
one_less y ys = omega arith

pub ended_none : (ys : List PathStep) → slice_get ys (length ys - 1) ≡ None → path_ended ys ≡ false
ended_none [] e = refl
ended_none (y ∷ ys) e = absurd (some_last y ys (sym (ap (slice_get (y ∷ ys)) (one_less y ys)) ∙ e))

pub ended_last : (ys : List PathStep) (x : PathStep) → slice_get ys (length ys - 1) ≡ Some x → path_ended ys ≡ is_ended x
ended_last [] x e = absurd (cc)
ended_last (y ∷ ys) x e = is_last y ys x (sym (ap (slice_get (y ∷ ys)) (one_less y ys)) ∙ e)

-- ---- lists

or_false : (b : Bool) → (b || false) ≡ b
or_false true = refl
or_false false = refl

or_comm : (a b : Bool) → (a || b) ≡ (b || a)
or_comm true true = refl
or_comm true false = refl
or_comm false true = refl
or_comm false false = refl

or_assoc : (a b c : Bool) → ((a || b) || c) ≡ (a || (b || c))
or_assoc true b c = refl
or_assoc false b c = refl

in_append : (xs ys : List ℕ) (i : ℕ) → is_in (xs ++ ys) i ≡ (is_in xs i || is_in ys i)
in_append [] ys i = refl
in_append (x ∷ xs) ys i = ap (λ b. nat_eq i x || b) (in_append xs ys i) ∙ sym (or_assoc (nat_eq i x) (is_in xs i) (is_in ys i))

flat_append : (zs : List AssignedStep) (z : AssignedStep) → flat_map assigned_by (zs ++ z ∷ []) ≡ flat_map assigned_by zs ++ assigned_by z
flat_append [] z = append-nil (assigned_by z)
flat_append (x ∷ zs) z =
    ap (λ (xs : List ℕ). assigned_by x ++ xs) (flat_append zs z)
    ∙ sym (append_assoc (assigned_by x) (flat_map assigned_by zs) (assigned_by z))

-- ---- steps in turn

pub at_start : (m : Marks) (o : OpenNames) → IsOpen m [] o → IsWalked m [] [] o
at_start m o h = record {
  before = [];
  goes_on = λ rest. refl;
  fine = λ more f. f;
  faulty = λ more f k. k;
  names = λ i. refl;
  left = h;
}

module _ (m : Marks) (ys : List PathStep) (zs : List AssignedStep) (o : OpenNames) (h : IsWalked m ys zs o) (y : PathStep)
    (z : AssignedStep) (becomes : Becomes m h.before y z) where
  pub next_is : (rest : List PathStep) → marked m [] (ys ++ y ∷ rest) ≡ zs ++ z ∷ marked m (assigned_by z ++ h.before) rest
  next_is rest = h.goes_on (y ∷ rest) ∙ ap (λ (more : List AssignedStep). zs ++ more) (becomes rest)

  pub next : (o' : OpenNames) → IsTaken m h.before z o' → IsWalked m (ys ++ y ∷ []) (zs ++ z ∷ []) o'
  next o' t = record {
    before = assigned_by z ++ h.before;
    goes_on = λ rest.
        ap (marked m []) (append_assoc ys (y ∷ []) rest) ∙ next_is rest
        ∙ sym (append_assoc zs (z ∷ []) (marked m (assigned_by z ++ h.before) rest));
    fine = λ more f. subst (λ (xs : List AssignedStep). AreFine m [] xs) (sym (append_assoc zs (z ∷ []) more)) (h.fine (z ∷ more) (t.fine, f));
    faulty = λ more f k. subst (λ (xs : List AssignedStep). IsFirstFault m [] xs f) (sym (append_assoc zs (z ∷ []) more))
        (h.faulty (z ∷ more) f (inr (t.fine, k)));
    names = λ i.
        ap (λ (xs : List ℕ). is_in xs i) (flat_append zs z)
        ∙ in_append (flat_map assigned_by zs) (assigned_by z) i
        ∙ ap (λ b. b || is_in (assigned_by z) i) (h.names i)
        ∙ or_comm (is_in h.before i) (is_in (assigned_by z) i)
        ∙ sym (in_append (assigned_by z) h.before i);
    left = t.left;
  }

  pub refused : (rest : List PathStep) (f : AssignFault) → IsRefusal m h.before z f → IsFirstRefusal m [] (marked m [] (ys ++ y ∷ rest)) f
  refused rest (ReadEarly i p) r =
      subst (λ (xs : List AssignedStep). IsFirstFault m [] xs (ReadEarly i p)) (sym (next_is rest))
      (h.faulty (z ∷ marked m (assigned_by z ++ h.before) rest) (ReadEarly i p) (inl r))
  refused rest (Infinite p) r =
      subst (λ (xs : List AssignedStep). IsFirstFault m [] xs (Infinite p)) (sym (next_is rest))
      (h.faulty (z ∷ marked m (assigned_by z ++ h.before) rest) (Infinite p) (inl r))
  refused rest (Unassigned i p) r = absurd r
  refused rest (Memory e) r = tt

-- ---- what is fine reads nothing late

none_read : (m : Marks) (k : Ker) → ((i : ℕ) (p : Place) → reads_at m k i p ≡ false) → not (mentions m k) ≡ true
none_read m k h = by (mentions m k) refl
  where
    by : (b : Bool) → mentions m k ≡ b → not (mentions m k) ≡ true
    by true e = let s = (read_places m k).0 e in absurd (false≢true (sym (h s.0 s.1) ∙ s.2))
    by false e = ap not e

left_false : (a b : Bool) → (a || b) ≡ false → a ≡ false
left_false true b e = e
left_false false b e = refl

right_false : (a b : Bool) → (a || b) ≡ false → b ≡ false
right_false true b e = absurd (false≢true (sym e))
right_false false b e = e

none_reads : (m : Marks) (ks : List Ker) → ((i : ℕ) (p : Place) → list_any (λ k. reads_at m k i p) ks ≡ false) →
    list_all (λ k. not (mentions m k)) ks ≡ true
none_reads m [] h = refl
none_reads m (k ∷ ks) h =
    and_both (not (mentions m k)) (list_all (λ k. not (mentions m k)) ks)
    (none_read m k (λ i p. left_false (reads_at m k i p) (list_any (λ k. reads_at m k i p) ks) (h i p)))
    (none_reads m ks (λ i p. right_false (reads_at m k i p) (list_any (λ k. reads_at m k i p) ks) (h i p)))

pub fine_reads : (m : Marks) (before : List ℕ) (zs : List AssignedStep) → AreFine m before zs → IsTrue (reads_late m before zs)
fine_reads m before [] h = refl
fine_reads m before (mark.Guard k b ∷ zs) h =
    and_both (not (mentions (open_names m before) k)) (reads_late m before zs)
    (none_read (open_names m before) k (λ i p. left_false (reads_at (open_names m before) k i p) false (h.0.0 i p)))
    (fine_reads m before zs h.1)
fine_reads m before (mark.Pick ps ∷ zs) h =
    and_both (list_all (λ k. not (mentions (open_names m before) k)) (sets ps)) (reads_late m before zs)
    (none_reads (open_names m before) (sets ps) (λ i p. h.0.0 i p))
    (fine_reads m before zs h.1)
fine_reads m before (mark.Equals i e ∷ zs) h =
    and_both (not (mentions (open_names m before) e)) (reads_late m (i ∷ before) zs)
    (none_read (open_names m before) e (λ j p. left_false (reads_at (open_names m before) e j p) false (h.0.0 j p)))
    (fine_reads m (i ∷ before) zs h.1)
fine_reads m before (mark.Among i e ∷ zs) h =
    and_both (not (mentions (open_names m before) e)) (reads_late m (i ∷ before) zs)
    (none_read (open_names m before) e (λ j p. left_false (reads_at (open_names m before) e j p) false (h.0.0 j p)))
    (fine_reads m (i ∷ before) zs h.1)

-- ---- the end

module _ (m : Marks) (path : KerPath) (zs : List AssignedStep) (o : OpenNames) (h : IsWalked m path.steps zs o) where
  pub whole : marked m [] path.steps ≡ zs
  whole = ap (marked m []) (sym (append-nil path.steps)) ∙ h.goes_on [] ∙ append-nil zs

  all_fine : AreFine m [] zs
  all_fine = subst (λ (xs : List AssignedStep). AreFine m [] xs) (append-nil zs) (h.fine [] tt)

  lacks_open : (i : ℕ) → lacks m zs i ≡ open_by o i true
  lacks_open i = ap (λ b. m i true && not b) (h.names i) ∙ sym (ap (λ (f : Marks). f i true) h.left.are)

  pub assigned : (path_ended path.steps ≡ true) ⊎ IsFirstOpen (open_by o) None → IsAssigned m path (record { place = path.place; steps = zs })
  assigned e = record {
    is = ap (λ (xs : List AssignedStep). record { place = path.place; steps = xs }) (sym whole);
    fine = all_fine;
    whole = elim e [
      | inl ended ↦ inl ended
      | inr none ↦ inr (λ i. lacks_open i ∙ none i)
    ];
  }

  pub lacking : (i : ℕ) → path_ended path.steps ≡ false → IsFirstOpen (open_by o) (Some i) →
      IsPathFault m path (marked m [] path.steps) (Unassigned i path.place)
  lacking i e f =
      subst (λ (xs : List AssignedStep). IsPathFault m path xs (Unassigned i path.place)) (sym whole) (record {
        fine = all_fine;
        running = e;
        missing = (lacks_open i ∙ f.0, λ j lt. lacks_open j ∙ f.1 j lt);
        place = refl;
      })

-- ---- a step that is refused

pub path_fault : (m : Marks) (path : KerPath) (zs : List AssignedStep) (f : AssignFault) → IsFirstRefusal m [] zs f → IsPathFault m path zs f
path_fault m path zs (ReadEarly i p) h = h
path_fault m path zs (Infinite p) h = h
path_fault m path zs (Unassigned i p) h = absurd h
path_fault m path zs (Memory e) h = tt
