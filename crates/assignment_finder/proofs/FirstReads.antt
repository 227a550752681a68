-- The first open name that a tree reads, by its operator.
use Rattle.std.proofs.Common.{◌≡◌, ◌⊎◌, inl, inr, ℕ, ◌≤◌, ◌<◌, Bool, true, false, ◌&&◌, ◌||◌, List, [], ◌∷◌, ◌++◌, map}
use Rattle.std.proofs.Common.{refl, sym, ◌∙◌, ap, ap₂, subst, arith, length, take, get_or, Option, Some, None}
use Rattle.std.specs.Ordering.{is_eq}
use Rattle.std.specs.Prelude.{nat_eq}
use Rattle.std.specs.List.{list_any}
use Rattle.tla_values.specs.declared.value.Value.{Value}
use Rattle.tla_meaning.specs.declared.place.Place.{Place}
use Rattle.tla_meaning.specs.Outcomes.{before, place_cmp, place_parts}
use Rattle.tla_meaning.proofs.Views.{and_right, and_both, false≢true}
use Rattle.kernel_trees.specs.declared.kernel.Ker.{Ker, out-Ker, roll-out-Ker}
use Rattle.kernel_trees.specs.declared.kernel.KerOp.{KerOp}
use Rattle.kernel_trees.specs.declared.kernel.KerOp.TheVariants as ker
use Rattle.kernel_trees.specs.Paths.{Marks}
use Rattle.kernel_trees.specs.Assignments.{reads_at, reads_here}
use Rattle.kernel_trees.proofs.Reading.{nat_same, reads-roll}
use Rattle.kernel_trees.proofs.Steps.{same_text_same}
use Rattle.assignment_finder.specs.declared.reading.Read.{Read}
use Rattle.assignment_finder.specs.inner.Reads.{IsFirst, Reads, either, own_reads, reads_any, sets_read}
use Rattle.assignment_finder.proofs.PlaceOrder.{asymmetric, equal_not_before, not_before}

or_false : (a b : Bool) → a ≡ false → b ≡ false → (a || b) ≡ false
or_false true b e f = e
or_false false b e f = f

or_left : (a b : Bool) → a ≡ true → (a || b) ≡ true
or_left true b e = refl
or_left false b e = absurd (false≢true e)

or_right : (a b : Bool) → b ≡ true → (a || b) ≡ true
or_right true b e = refl
or_right false b e = e

or_cases : (a b : Bool) → (a || b) ≡ true → (a ≡ true) ⊎ (b ≡ true)
or_cases true b e = inl refl
or_cases false b e = inr e

or_none : (b : Bool) → b ≡ (b || false)
or_none true = refl
or_none false = refl

or_assoc : (a b c : Bool) → ((a || b) || c) ≡ (a || (b || c))
or_assoc true b c = refl
or_assoc false b c = refl

none_true : {b : Bool} → b ≡ false → b ≡ true → ⊥
none_true e f = false≢true (sym e ∙ f)

-- ---- reads that are the same, and those of two

pub same_first : (r s : Reads) (x : Option Read) → ((i : ℕ) (p : Place) → r i p ≡ s i p) → IsFirst r x → IsFirst s x
same_first r s None e f = λ i p. sym (e i p) ∙ f i p
same_first r s (Some x) e f = record {
  read = sym (e x.name x.place) ∙ f.read;
  first = λ j q h. f.first j q (e j q ∙ h);
}

pub none_of : IsFirst (λ i p. false) None
none_of = λ i p. refl

pub first_alone : (r s : Reads) (b : Option Read) → IsFirst r None → IsFirst s b → IsFirst (either r s) b
first_alone r s b f g = same_first s (either r s) b (λ i p. sym (ap (λ c. c || s i p) (f i p))) g

pub second_none : (r s : Reads) (x : Read) → IsFirst r (Some x) → IsFirst s None → IsFirst (either r s) (Some x)
second_none r s x f g = record {
  read = or_left (r x.name x.place) (s x.name x.place) f.read;
  first = λ j q h. elim (or_cases (r j q) (s j q) h) [
    | inl a ↦ f.first j q a
    | inr a ↦ absurd (none_true (g j q) a)
  ];
}

pub second_first : (r s : Reads) (x y : Read) → IsFirst r (Some x) → IsFirst s (Some y) → before y.place x.place ≡ true →
    IsFirst (either r s) (Some y)
second_first r s x y f g b = record {
  read = or_right (r y.name y.place) (s y.name y.place) g.read;
  first = λ j q h. elim (or_cases (r j q) (s j q) h) [
    | inl a ↦ not_before y.place x.place q (asymmetric x.place y.place b) (f.first j q a)
    | inr a ↦ g.first j q a
  ];
}

pub first_first : (r s : Reads) (x y : Read) → IsFirst r (Some x) → IsFirst s (Some y) → before y.place x.place ≡ false →
    IsFirst (either r s) (Some x)
first_first r s x y f g b = record {
  read = or_left (r x.name x.place) (s x.name x.place) f.read;
  first = λ j q h. elim (or_cases (r j q) (s j q) h) [
    | inl a ↦ f.first j q a
    | inr a ↦ not_before x.place y.place q b (g.first j q a)
  ];
}

-- ---- a name

pub own_first : (b : Bool) (i : ℕ) (p : Place) → b ≡ true → IsFirst (own_reads b i p) (Some (record { name = i; place = p }))
own_first b i p h = record {
  read = and_both (b && nat_eq i i) (is_eq (place_cmp p p)) (and_both b (nat_eq i i) h (nat_same i)) (same_text_same (place_parts p));
  first = λ j q e. equal_not_before p q (and_right (b && nat_eq j i) (is_eq (place_cmp q p)) e);
}

pub own_none : (b : Bool) (i : ℕ) (p : Place) → b ≡ false → IsFirst (own_reads b i p) None
own_none b i p h = λ j q. ap (λ b. (b && nat_eq j i) && is_eq (place_cmp q p)) h

-- ---- a node

reads_out : (m : Marks) (k : Ker) (i : ℕ) (p : Place) →
    reads_at m k i p ≡ reads_here m i p (out-Ker k).place (out-Ker k).op (map (λ k. reads_at m k i p) (out-Ker k).args)
reads_out m k i p =
    subst (λ (t : Ker). reads_at m t i p ≡ reads_here m i p (out-Ker k).place (out-Ker k).op (map (λ k. reads_at m k i p) (out-Ker k).args))
    (roll-out-Ker k)
    (reads-roll m (out-Ker k) i p)

reads_by : (m : Marks) (k : Ker) (o : KerOp) → (out-Ker k).op ≡ o → (i : ℕ) (p : Place) →
    reads_here m i p (out-Ker k).place o (map (λ k. reads_at m k i p) (out-Ker k).args) ≡ reads_at m k i p
reads_by m k o h i p =
    sym (reads_out m k i p ∙ ap (λ (o : KerOp). reads_here m i p (out-Ker k).place o (map (λ k. reads_at m k i p) (out-Ker k).args)) h)

module _ (m : Marks) (k : Ker) where
  pub reads_name : (j : ℕ) (primed : Bool) (b : Bool) (x : Option Read) → (out-Ker k).op ≡ ker.Name j primed → b ≡ m j primed →
      IsFirst (own_reads b j (out-Ker k).place) x → IsFirst (reads_at m k) x
  reads_name j primed b x h e f =
      same_first (own_reads b j (out-Ker k).place) (reads_at m k) x
      (λ i p. ap (λ b. (b && nat_eq i j) && is_eq (place_cmp p (out-Ker k).place)) e ∙ reads_by m k (ker.Name j primed) h i p) f

  pub reads_const : (v : Value) → (out-Ker k).op ≡ ker.Const v → IsFirst (reads_at m k) None
  reads_const v h = λ i p. sym (reads_by m k (ker.Const v) h i p)

  pub reads_no_case : (out-Ker k).op ≡ ker.NoCase → IsFirst (reads_at m k) None
  reads_no_case h = λ i p. sym (reads_by m k ker.NoCase h i p)

  -- `ks` are the operands
  module _ (ks : List Ker) (e : ks ≡ (out-Ker k).args) where
    range : (out-Ker k).op ≡ ker.Range → (i : ℕ) (p : Place) →
        list_any (λ b. b) (take 2 (map (λ k. reads_at m k i p) ks)) ≡ reads_at m k i p
    range h i p =
        ap (λ (ks : List Ker). list_any (λ b. b) (take 2 (map (λ k. reads_at m k i p) ks))) e ∙ reads_by m k ker.Range h i p

  pub range_of_none : (ks : List Ker) → (out-Ker k).op ≡ ker.Range → ks ≡ (out-Ker k).args → length ks < 1 →
      IsFirst (reads_at m k) None
  range_of_none [] h e l = λ i p. sym (range [] e h i p)
  range_of_none (a ∷ ks) h e l = absurd (omega (arith, l))

  pub range_of_one : (ks : List Ker) (a : Ker) (x : Option Read) → (out-Ker k).op ≡ ker.Range → ks ≡ (out-Ker k).args →
      1 ≤ length ks → length ks < 2 → a ≡ get_or ks 0 a → IsFirst (reads_at m a) x → IsFirst (reads_at m k) x
  range_of_one [] a x h e j l g f = absurd (omega (arith, j))
  range_of_one (b ∷ []) a x h e j l g f =
      same_first (reads_at m a) (reads_at m k) x
      (λ i p. ap (λ a. reads_at m a i p) g ∙ or_none (reads_at m b i p) ∙ range (b ∷ []) e h i p) f
  range_of_one (b ∷ c ∷ ks) a x h e j l g f = absurd (omega (arith, l))

  pub range_of_two : (ks : List Ker) (a b : Ker) (x : Option Read) → (out-Ker k).op ≡ ker.Range → ks ≡ (out-Ker k).args →
      2 ≤ length ks → a ≡ get_or ks 0 a → b ≡ get_or ks 1 b →
      IsFirst (either (reads_at m a) (reads_at m b)) x → IsFirst (reads_at m k) x
  range_of_two [] a b x h e j g l f = absurd (omega (arith, j))
  range_of_two (c ∷ []) a b x h e j g l f = absurd (omega (arith, j))
  range_of_two (c ∷ d ∷ ks) a b x h e j g l f =
      same_first (either (reads_at m a) (reads_at m b)) (reads_at m k) x
      (λ i p. ap₂ (λ a b. reads_at m a i p || reads_at m b i p) g l ∙ ap (λ z. reads_at m c i p || z) (or_none (reads_at m d i p)) ∙ range (c ∷ d ∷ ks) e h i p) f

-- no name, and no operator of which some operands are not read
pub record IsRead (o : KerOp) : Type 0 where
  pub no_name : (i : ℕ) (primed : Bool) → o ≡ ker.Name i primed → ⊥
  pub no_const : (v : Value) → o ≡ ker.Const v → ⊥
  pub no_case : o ≡ ker.NoCase → ⊥
  pub no_range : o ≡ ker.Range → ⊥

read_at : (m : Marks) (i : ℕ) (p q : Place) (o : KerOp) (bs : List Bool) → IsRead o →
    reads_here m i p q o bs ≡ list_any (λ b. b) bs
read_at m i p q (ker.Name j primed) bs h = absurd (h.no_name j primed refl)
read_at m i p q (ker.Const v) bs h = absurd (h.no_const v refl)
read_at m i p q ker.NoCase bs h = absurd (h.no_case refl)
read_at m i p q ker.Range bs h = absurd (h.no_range refl)
read_at m i p q o bs h = refl

pub reads_read : (m : Marks) (k : Ker) (ks : List Ker) (x : Option Read) → IsRead (out-Ker k).op → ks ≡ (out-Ker k).args →
    IsFirst (reads_any m ks) x → IsFirst (reads_at m k) x
reads_read m k ks x h e =
    same_first (reads_any m ks) (reads_at m k) x
    (λ i p.
    ap (λ (ks : List Ker). list_any (λ b. b) (map (λ k. reads_at m k i p) ks)) e
    ∙ sym (read_at m i p (out-Ker k).place (out-Ker k).op (map (λ k. reads_at m k i p) (out-Ker k).args) h)
    ∙ sym (reads_out m k i p))

-- ---- operands in turn

pub reads_end : (m : Marks) (ks : List Ker) (k : Ker) (x : Option Read) →
    IsFirst (either (reads_any m ks) (reads_at m k)) x → IsFirst (reads_any m (ks ++ k ∷ [])) x
reads_end m ks k x =
    same_first (either (reads_any m ks) (reads_at m k)) (reads_any m (ks ++ k ∷ [])) x (λ i p. at_end i p ks)
  where
    at_end : (i : ℕ) (p : Place) (ks : List Ker) → (reads_any m ks i p || reads_at m k i p) ≡ reads_any m (ks ++ k ∷ []) i p
    at_end i p [] = or_none (reads_at m k i p)
    at_end i p (a ∷ ks) = or_assoc (reads_at m a i p) (reads_any m ks i p) (reads_at m k i p) ∙ ap (λ b. reads_at m a i p || b) (at_end i p ks)

pub sets_end : (m : Marks) (ps : List (ℕ × Ker)) (x : ℕ × Ker) (r : Option Read) →
    IsFirst (either (sets_read m ps) (reads_at m x.1)) r → IsFirst (sets_read m (ps ++ x ∷ [])) r
sets_end m ps x r =
    same_first (either (sets_read m ps) (reads_at m x.1)) (sets_read m (ps ++ x ∷ [])) r (λ i p. at_end i p ps)
  where
    at_end : (i : ℕ) (p : Place) (ps : List (ℕ × Ker)) → (sets_read m ps i p || reads_at m x.1 i p) ≡ sets_read m (ps ++ x ∷ []) i p
    at_end i p [] = or_none (reads_at m x.1 i p)
    at_end i p (y ∷ ps) = or_assoc (reads_at m y.1 i p) (sets_read m ps i p) (reads_at m x.1 i p) ∙ ap (λ b. reads_at m y.1 i p || b) (at_end i p ps)
