-- Names behind an assignment: their shapes are of their types, and states fit them.
use Rattle.std.proofs.Common.{◌≡◌, ℕ, zero, suc, Bool, true, false, not, ◌||◌, nat_eq, IsTrue, List, [], ◌∷◌, length, Option, Some, None, refl, sym, ap, subst, arith}
use Rattle.std.specs.Prelude.{slice_get, option_and_then, is_some, nat_lt}
use Rattle.tla_values.specs.declared.value.Value.{Value}
use Rattle.tla_meaning.specs.declared.job.State.{State}
use Rattle.tla_meaning.specs.Scopes.{Scope}
use Rattle.tla_meaning.proofs.Views.{false≢true}
use Rattle.kernel_trees.specs.Assignments.{Has, is_in}
use Rattle.kernel_trees.specs.Paths.{Marks}
use Rattle.kernel_trees.specs.Sound.{Context}
use Rattle.kernel_trees.specs.TypeKinds.{Kind}
use Rattle.kernel_shapes.specs.Fits.{Fits, StateFits}
use Rattle.kernel_shapes.specs.Levels.{Assigns, in_next, in_state}
use Rattle.kernel_shapes.specs.Shape.{Shape, Empty}
use Rattle.kernel_shapes.specs.Sized.{Extent}
use Rattle.kernel_shapes.specs.TypedExtents.{NamesOfKinds}
use Rattle.kernel_shapes.specs.TypedStates.{OfKind}
use Rattle.kernel_shapes.proofs.PathLaw.{Along as Fitting, IsOpen, Standing}
use Rattle.shape_bounds.specs.Extents.{given_shape}
use Rattle.path_bounds.specs.BoundedPaths.{assign_shape, put_shape}

-- ---- no value fits Empty

pub is_given : (a : Shape) (v : Value) → Fits a v → given_shape a ≡ Some a
is_given Empty v h = absurd h
is_given a v h = refl

-- ---- one name

some_same : {X : Type 0} {x y : X} → Some x ≡ Some y → x ≡ y
some_same e = cc

put_kinds : (ks : List Kind) (os : List (Option Shape)) (i : ℕ) (a : Kind) (b : Shape) → NamesOfKinds ks os → slice_get ks i ≡ Some a → OfKind a b →
    NamesOfKinds ks (put_shape i (Some b) os)
put_kinds [] [] i a b h e k = tt
put_kinds [] (o ∷ os) i a b h e k = absurd h
put_kinds (j ∷ js) [] i a b h e k = absurd h
put_kinds (j ∷ js) (None ∷ os) zero a b h e k = (subst (λ (l : Kind). OfKind l b) (sym (some_same e)) k, h)
put_kinds (j ∷ js) (Some d ∷ os) zero a b h e k = (subst (λ (l : Kind). OfKind l b) (sym (some_same e)) k, h.1)
put_kinds (j ∷ js) (None ∷ os) (suc i) a b h e k = put_kinds js os i a b h e k
put_kinds (j ∷ js) (Some d ∷ os) (suc i) a b h e k = (h.0, put_kinds js os i a b h.1 e k)

put_fits : (os : List (Option Shape)) (vs : List Value) (i : ℕ) (a : Shape) (v : Value) → StateFits os vs → slice_get vs i ≡ Some v → Fits a v →
    StateFits (put_shape i (Some a) os) vs
put_fits [] [] i a v h e k = tt
put_fits [] (u ∷ vs) i a v h e k = absurd h
put_fits (o ∷ os) [] i a v h e k = absurd h
put_fits (o ∷ os) (u ∷ vs) zero a v h e k = (subst (Fits a) (sym (some_same e)) k, h.1)
put_fits (o ∷ os) (u ∷ vs) (suc i) a v h e k = (h.0, put_fits os vs i a v h.1 e k)

abbrev has_none : List (Option Shape) → ℕ → Bool
has_none os i = not (is_some (option_and_then (λ o. o) (slice_get os i)))

none_or : (a b : Bool) → a ≡ false → b ≡ false → (a || b) ≡ false
none_or true b e f = absurd (false≢true (sym e))
none_or false b e f = f

-- behind the assignment a name has no shape only if it had none, and is another
put_open : (ks : List Kind) (os : List (Option Shape)) (i j : ℕ) (a : Shape) → NamesOfKinds ks os → IsTrue (nat_lt j (length ks)) →
    has_none (put_shape i (Some a) os) j ≡ true → (has_none os j ≡ true) × (nat_eq j i ≡ false)
put_open [] [] i j a h l e = absurd (nothing j l)
  where
    nothing : (j : ℕ) → nat_lt j 0 ≡ true → ⊥
    nothing j q = grind (arith, q)
put_open [] (o ∷ os) i j a h l e = absurd h
put_open (k ∷ ks) [] i j a h l e = absurd h
put_open (k ∷ ks) (o ∷ os) zero zero a h l e = absurd (false≢true e)
put_open (k ∷ ks) (o ∷ os) zero (suc j) a h l e = (e, other j)
  where
    other : (j : ℕ) → nat_eq (suc j) 0 ≡ false
    other j = grind arith
put_open (k ∷ ks) (o ∷ os) (suc i) zero a h l e = (e, other i)
  where
    other : (i : ℕ) → nat_eq 0 (suc i) ≡ false
    other i = grind arith
put_open (k ∷ ks) (o ∷ os) (suc i) (suc j) a h l e =
    let z = put_open ks os i j a (rest o h) (less j (length ks) l) e in (z.0, other j i z.1)
  where
    less : (j n : ℕ) → nat_lt (suc j) (suc n) ≡ true → nat_lt j n ≡ true
    less j n q = grind (arith, q)

    other : (j i : ℕ) → nat_eq j i ≡ false → nat_eq (suc j) (suc i) ≡ false
    other j i q = grind (arith, q)

    rest : (o : Option Shape) → NamesOfKinds (k ∷ ks) (o ∷ os) → NamesOfKinds ks os
    rest None h = h
    rest (Some d) h = h.1

still_open : (names : List Kind) (m : Marks) (before : List ℕ) (os : List (Option Shape)) (i j : ℕ) (b : Shape) (primed : Bool) → NamesOfKinds names os →
    IsTrue (nat_lt j (length names)) → (has_none os j ≡ true → IsOpen m before j primed) → has_none (put_shape i (Some b) os) j ≡ true →
    IsOpen m (i ∷ before) j primed
still_open names m before os i j b primed h l k f =
    let z = put_open names os i j b h l f in
    let y = k z.0 in
    (y.0, none_or (nat_eq j i) (is_in before j) z.1 y.1)

-- ---- all names

abbrev putting : Assigns → ℕ → Option Shape → Extent → Extent
putting in_next i o g = record g { next = put_shape i o g.next }
putting in_state i o g = record g { now = put_shape i o g.now; next = put_shape i o g.next }

is_putting : (how : Assigns) (i : ℕ) (b : Shape) (g : Extent) → given_shape b ≡ Some b → putting how i (Some b) g ≡ assign_shape how i b g
is_putting in_next i b g e = ap (λ (o : Option Shape). putting in_next i o g) (sym e)
is_putting in_state i b g e = ap (λ (o : Option Shape). putting in_state i o g) (sym e)

stands_behind : (how : Assigns) (names : List Kind) (m : Marks) (before : List ℕ) (c : Context) (g : Extent) (i : ℕ) (d : Kind) (b : Shape) →
    Standing how names m before c g → slice_get names i ≡ Some d → OfKind d b → Standing how names m (i ∷ before) c (putting how i (Some b) g)
stands_behind in_next names m before c g i d b a e k = record {
  types = record { now = a.types.now; next = put_kinds names g.next i d b a.types.next e k; bound = a.types.bound };
  now = a.now;
  next = λ j l f. still_open names m before g.next i j b true a.types.next l (a.next j l) f;
}
stands_behind in_state names m before c g i d b a e k = record {
  types = record {
    now = put_kinds names g.now i d b a.types.now e k;
    next = put_kinds names g.next i d b a.types.next e k;
    bound = a.types.bound;
  };
  now = λ j l f. still_open names m before g.now i j b false a.types.now l (a.now j l) f;
  next = λ j l f. still_open names m before g.next i j b true a.types.next l (a.next j l) f;
}

fits_behind : (how : Assigns) (names : List Kind) (m : Marks) (before : List ℕ) (c : Context) (sc : Scope) (g : Extent) (s t : State) (i : ℕ) (d : Kind) (b : Shape) (v : Value) →
    Fitting how names m before c sc g s t → slice_get names i ≡ Some d → OfKind d b → Has t i v → Fits b v →
    Fitting how names m (i ∷ before) c sc (putting how i (Some b) g) s t
fits_behind in_next names m before c sc g s t i d b v a e k has fits = record {
  stands = stands_behind in_next names m before c g i d b a.stands e k;
  ready = record { bound = a.ready.bound; now = a.ready.now; next = put_fits g.next t.vals i b v a.ready.next has fits };
  normal = a.normal;
  one = a.one;
}
fits_behind in_state names m before c sc g s t i d b v a e k has fits = record {
  stands = stands_behind in_state names m before c g i d b a.stands e k;
  ready = record {
    bound = a.ready.bound;
    now = put_fits g.now s.vals i b v a.ready.now (subst (λ (x : State). slice_get x.vals i ≡ Some v) (sym a.one) has) fits;
    next = put_fits g.next t.vals i b v a.ready.next has fits;
  };
  normal = a.normal;
  one = a.one;
}

-- the name has the value in the next state
pub assigned_fits : (how : Assigns) (names : List Kind) (m : Marks) (before : List ℕ) (c : Context) (sc : Scope) (g : Extent) (s t : State) (i : ℕ) (d : Kind) (b : Shape) (v : Value) →
    Fitting how names m before c sc g s t → slice_get names i ≡ Some d → OfKind d b → Has t i v → Fits b v →
    Fitting how names m (i ∷ before) c sc (assign_shape how i b g) s t
assigned_fits how names m before c sc g s t i d b v a e k has fits =
    subst (λ (f : Extent). Fitting how names m (i ∷ before) c sc f s t) (is_putting how i b g (is_given b v fits))
    (fits_behind how names m before c sc g s t i d b v a e k has fits)
