-- Which names are open, at the start and behind one more assignment.
use Rattle.std.proofs.Common.{◌≡◌, ℕ, zero, suc, ◌<◌, Bool, true, false, not, ◌&&◌, ◌||◌, List, [], ◌∷◌, length, get_or, replicate, refl, sym, ◌∙◌, ap, ap₂, subst, ◌+◌, arith, IsTrue}
use Rattle.std.specs.Prelude.{nat_eq, nat_lt, slice_set}
use Rattle.std.proofs.lemmas.List.{length-set}
use Rattle.tla_meaning.proofs.Views.{and_left}
use Rattle.tla_meaning.specs.declared.expr.Decl.{Decl}
use Rattle.tla_meaning.specs.Actions.{counts}
use Rattle.kernel_trees.specs.declared.action_kind.AssignableNames.{AssignableNames}
use Rattle.kernel_trees.specs.declared.action_kind.ActionKind.{ActionKind}
use Rattle.kernel_trees.specs.ActionNames.{assignable_in, constants, marks, marks_of}
use Rattle.kernel_trees.specs.Paths.{Marks, marks_below}
use Rattle.kernel_trees.specs.Assignments.{is_in, open_names}
use Rattle.assignment_finder.specs.declared.open_names.OpenNames.{OpenNames}
use Rattle.assignment_finder.specs.inner.Open.{IsOpen, MayAssign, open_by}

-- ---- flags

pub blank : (n i : ℕ) → get_or (replicate n false) i false ≡ false
blank zero i = refl
blank (suc n) zero = refl
blank (suc n) (suc i) = blank n i

or_none : (b : Bool) → b ≡ (b || false)
or_none true = refl
or_none false = refl

pub flag_set : (bs : List Bool) (name i : ℕ) → name < length bs →
    get_or (slice_set bs name true) i false ≡ (nat_eq i name || get_or bs i false)
flag_set [] name i lt = absurd (omega (arith, lt))
flag_set (b ∷ bs) zero zero lt = refl
flag_set (b ∷ bs) zero (suc i) lt = let e : nat_eq (suc i) zero ≡ false = grind (arith) in sym (ap (λ c. c || get_or bs i false) e)
flag_set (b ∷ bs) (suc n) zero lt = let e : nat_eq zero (suc n) ≡ false = grind (arith) in sym (ap (λ c. c || b) e)
flag_set (b ∷ bs) (suc n) (suc i) lt =
    let e : nat_eq (suc i) (suc n) ≡ nat_eq i n = grind (arith) in
    flag_set bs n i (omega (arith, lt)) ∙ sym (ap (λ c. c || get_or bs i false) e)

-- ---- marks

-- `marks` are those of an action, `bs` flags of names, and `before` the names that are flagged
still : (c e a b : Bool) → (c && not a) ≡ (c && not b) → (c && not (e || a)) ≡ (c && not (e || b))
still true true a b h = refl
still true false a b h = h
still false e a b h = refl

pub closed : (m : Marks) (bs : List Bool) (before : List ℕ) (name : ℕ) → name < length bs →
    ((i : ℕ) (primed : Bool) → (m i primed && not (get_or bs i false)) ≡ open_names m before i primed) →
    (i : ℕ) (primed : Bool) → (m i primed && not (get_or (slice_set bs name true) i false)) ≡ open_names m (name ∷ before) i primed
closed m bs before name lt h i primed =
    ap (λ b. m i primed && not b) (flag_set bs name i lt)
    ∙ still (m i primed) (nat_eq i name) (get_or bs i false) (is_in before i) (h i primed)

-- a name that may be assigned is declared
pub declared : (a : AssignableNames) (i : ℕ) (primed : Bool) → marks a i primed ≡ true → i < a.declared
declared a i primed h = let e = and_left (nat_lt i a.declared) (counts a.assignable i primed) h in grind (arith)

pub undeclared : (a : AssignableNames) (i : ℕ) (primed b : Bool) → (i < a.declared → ⊥) → (marks a i primed && b) ≡ false
undeclared a i primed b h = by (marks a i primed) refl
  where
    by : (c : Bool) → marks a i primed ≡ c → (c && b) ≡ false
    by true e = absurd (h (declared a i primed e))
    by false e = refl

-- ---- behind one more assignment

at : {f g : Marks} → f ≡ g → (i : ℕ) (primed : Bool) → f i primed ≡ g i primed
at e i primed = ap (λ (f : Marks). f i primed) e

pub closes : (o o' : OpenNames) (m : Marks) (before : List ℕ) (name : ℕ) → o'.marked ≡ o.marked →
    o'.assigned.items ≡ slice_set o.assigned.items name true → MayAssign m name → IsOpen m before o →
    IsOpen m (name ∷ before) o'
closes o o' m before name e f may h = record {
  marked = ap marks e ∙ h.marked;
  room = ap length f ∙ length-set o.assigned.items name true ∙ h.room ∙ sym (ap (λ (a : AssignableNames). a.declared) e);
  are = λ t i primed. pointwise i primed t;
}
  where
    there : name < length o.assigned.items
    there = let lt = declared o.marked name may.0 (at h.marked name may.0 ∙ may.1) in let r = h.room in omega (arith, lt, r)

    pointwise : (i : ℕ) (primed : Bool) → open_by o' i primed ≡ open_names m (name ∷ before) i primed
    pointwise i primed =
        ap (λ (a : AssignableNames). marks a i primed && not (get_or o'.assigned.items i false)) e
        ∙ ap (λ b. b && not (get_or o'.assigned.items i false)) (at h.marked i primed)
        ∙ ap (λ (bs : List Bool). m i primed && not (get_or bs i false)) f
        ∙ closed m o.assigned.items before name there (λ i primed.
        sym (ap (λ b. b && not (get_or o.assigned.items i false)) (at h.marked i primed)) ∙ at h.are i primed) i primed

-- ---- the first open name

pub none_open : (o : OpenNames) → ((i : ℕ) → IsTrue (nat_lt i o.marked.declared) → open_by o i true ≡ false) →
    (i : ℕ) → open_by o i true ≡ false
none_open o h i = by (nat_lt i o.marked.declared) refl
  where
    by : (b : Bool) → nat_lt i o.marked.declared ≡ b → open_by o i true ≡ false
    by true e = h i e
    by false e = undeclared o.marked i true (not (get_or o.assigned.items i false)) (λ lt. grind (arith))

pub one_more : (P : ℕ → Type 0) (n : ℕ) → ((j : ℕ) → IsTrue (nat_lt j n) → P j) → P n → (j : ℕ) → IsTrue (nat_lt j (n + 1)) → P j
one_more P n h p j lt = by (nat_lt j n) refl
  where
    by : (b : Bool) → nat_lt j n ≡ b → P j
    by true e = h j e
    by false e = let same : n ≡ j = grind (arith) in subst P same p

-- the marks of an action
pub same_marks : (a : AssignableNames) (kind : ActionKind) (ds names : List Decl) → ds ≡ names → a.declared ≡ length ds →
    a.assignable ≡ assignable_in kind (constants ds) → marks a ≡ marks_of kind names
same_marks a kind ds names e h i = ap₂ marks_below h i ∙ ap (λ (names : List Decl). marks_of kind names) e
