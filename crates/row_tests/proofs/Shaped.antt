-- The sorts of the cells that the tests make.
use Rattle.std.proofs.Common.{◌≡◌, ℕ, ◌-◌, ◌^◌, ◌<◌, ◌≤◌, List, [], ◌∷◌, IsTrue, nat_eq, nat_le, nat_lt, pos, sym, ◌∙◌, subst, arith}
use Rattle.std.proofs.Math.Pow.{pow_mono}
use Rattle.std.proofs.lemmas.Bool.{eqb-true, leb-true, lt-ltb, ltb-true}
use Rattle.tla_values.specs.Integers.{fits_width}
use Rattle.cell_arena.specs.declared.build.Build.{Build}
use Rattle.cell_arena.specs.declared.kinds.CellId.{CellId}
use Rattle.cell_arena.specs.declared.kinds.CellKind.{CellKind}
use Rattle.cell_merge.specs.Sorts.{OfSort, OneType, number}
use Rattle.function_rewriter.specs.Arrows.{HasDomain}
use Rattle.function_rewriter.specs.Functions.{HasField, HasItem}
use Rattle.row_tests.specs.Shapes.{names, record_sort, tuple_sort, width_of}

-- a tuple of numbers
abbrev pub IsTuple : List CellKind → CellId → Type 0
IsTuple ks t = OfSort ks (tuple_sort (width_of ks t)) t

-- two tuples of as many numbers
pub tuples-of-one-type : (ks : List CellKind) (x y : CellId) (m n : ℕ) → IsTuple ks x → IsTuple ks y
    → m ≡ width_of ks x → n ≡ width_of ks y → IsTrue (nat_eq m n) → OneType ks x y
tuples-of-one-type ks x y m n p q e f t =
    let same : width_of ks y ≡ width_of ks x = sym f ∙ sym (eqb-true m n t) ∙ e in
    let right = subst (λ k. OfSort ks (tuple_sort k) y) same q in
    record { sort = tuple_sort (width_of ks x); left = p; right = right }

-- the field n of a record, and the field p
pub has-first : (ks : List CellKind) (r : CellId) (t : List ℕ) → OfSort ks record_sort r → t ≡ 110 ∷ [] → HasField ks r t
has-first ks r t h e = record {
  names = names;
  sorts = λ i. number;
  is = h;
  place = 0;
  within = omega arith;
  named = sym e;
}

pub has-second : (ks : List CellKind) (r : CellId) (t : List ℕ) → OfSort ks record_sort r → t ≡ 112 ∷ [] → HasField ks r t
has-second ks r t h e = record {
  names = names;
  sorts = λ i. number;
  is = h;
  place = 1;
  within = omega arith;
  named = sym e;
}

pub has-item : (ks : List CellKind) (t : CellId) (i n : ℕ) → IsTuple ks t → n ≡ width_of ks t → 1 ≤ i
    → IsTrue (nat_le i n) → HasItem ks t i
has-item ks t i n h e from to = record {
  count = width_of ks t;
  sorts = λ i. number;
  is = h;
  from = from;
  to = subst (λ k. i ≤ k) e (leb-true i n to);
}

-- fewer than 8 numbers have a domain
pub short-domain : (b : Build) (t : CellId) (w n : ℕ) → IsTuple b.arena.kinds t → w ≡ b.arena.width → 4 ≤ w
    → n ≡ width_of b.arena.kinds t → IsTrue (nat_lt n 8) → HasDomain b t
short-domain b t w n h wide from e few =
    let k = width_of b.arena.kinds t in
    let less : n < 8 = ltb-true n 8 few in
    let more : 2 ^ 3 ≤ 2 ^ (w - 1) = pow_mono {i = 3} {j = w - 1} (omega arith) in
    let fits : IsTrue (fits_width w (pos n)) = lt-ltb n (2 ^ (w - 1)) (omega arith) in
    let all : IsTrue (fits_width w (pos k)) = subst (λ j. IsTrue (fits_width w (pos j))) e fits in
    HasDomain.of_tuple k (λ i. number) h (subst (λ v. IsTrue (fits_width v (pos k))) wide all)
