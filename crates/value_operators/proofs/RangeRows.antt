-- The row of a range, where it lies between bounds.
use Rattle.std.proofs.Common.{◌≡◌, ℕ, zero, suc, ◌+◌, ◌<◌, Bool, true, false, ◌&&◌, IsTrue, List, length, refl, sym, ◌∙◌, ap, ap₂, subst, arith}
use Rattle.std.proofs.Common.{ℤ, pos, ◌+ℤ◌, ◌≤ℤ◌}
use Rattle.std.specs.Prelude.{filter, int_le}
use Rattle.std.specs.List.{list_all}
use Rattle.std.proofs.lemmas.Int.{ints, by_lt_z}
use Rattle.std.proofs.lemmas.Bool.Decides.{nat_tests}
use Rattle.tla_values.specs.Integers.{fits_width}
use Rattle.tla_values.specs.declared.value.Value.{Value, out-Value}
use Rattle.tla_values.specs.declared.value.Value.TheVariants as value
use Rattle.tla_values.specs.declared.value.Value.TheVariants.{outs-Int}
use Rattle.sat_formula.specs.Lit.{values}
use Rattle.word_blaster.specs.Word.{word_value}
use Rattle.word_blaster.proofs.Signs.{fits_own}
use Rattle.word_blaster.proofs.Words.{values-length}
use Rattle.cell_arena.specs.declared.build.Build.{Build}
use Rattle.cell_arena.specs.declared.kinds.CellId.{CellId}
use Rattle.cell_arena.specs.declared.kinds.CellKind.{CellKind}
use Rattle.cell_arena.specs.Cells.{IsFormed}
use Rattle.cell_arena.specs.Decode.{decode, kind_value}
use Rattle.cell_arena.specs.Growth.{Decodes}
use Rattle.cell_arena.proofs.Decoding.{decode-kind}
use Rattle.cell_merge.specs.Sorts.{OfSort, number}
use Rattle.cell_merge.proofs.Edges.{is-word}
use Rattle.outcome_cells.specs.declared.cells.Cells.{Cells}
use Rattle.outcome_cells.specs.Rows.{ShowsAt}
use Rattle.outcome_cells.specs.Shows.{Shows}
use Rattle.set_rewriter.specs.Ranges.{AreNumbers, from_on, range, lies}
use Rattle.tla_meaning.specs.declared.outcome.Outcome.{Outcome}
use Rattle.tla_meaning.specs.declared.outcome.Outcome.TheVariants.{Val}
use Rattle.tla_meaning.specs.Numbers.{range as range_of}
use Rattle.value_operators.specs.Ranges.{ShowsRange, is_between, lie_between}
use Rattle.value_operators.specs.inner.Nearest.{IsNearest}
use Rattle.value_operators.proofs.OneText.{same-range}
use Rattle.value_operators.proofs.Parts.{steps-to, count-at, part-none, part-some}
use Rattle.value_operators.proofs.Rows.{number-out, numbers-row}

-- a cell of the sort of a number has a number that fits the width
pub record IsNumberValue (width : ℕ) (v : Value) : Type 0 where
  pub number : ℤ
  pub is : v ≡ value.Int number
  pub fits : IsTrue (fits_width width number)

pub number-cell : (b : Build) (a : List Bool) (id : CellId) → OfSort b.arena.kinds number id →
    IsNumberValue b.arena.width (decode b.arena a id)
number-cell b a id h =
    let k = is-word _ h.1 in
    let some : 0 < b.arena.width = (let e = b.built.narrow.0 in omega arith) in
    let P : CellKind → Type 0 = IsFormed b.arena.width in
    let wide : length k.0 ≡ b.arena.width = subst P k.1 (b.built.held id h.0).formed in
    record {
      number = word_value k.0 a;
      is = decode-kind b.arena a id b.built h.0 ∙ ap (kind_value b.arena.texts a (decode b.arena a)) k.1;
      fits = fits_own b.arena.width (values k.0 a) some (values-length k.0 a ∙ wide);
    }

-- ---- where all of a range lies between two bounds, so do its ends

le-so : (a b : ℤ) → int_le a b ≡ true → a ≤ℤ b
le-so a b e = grind (arith, ints, nat_tests)

and-both : (p q : Bool) → (p && q) ≡ true → (p ≡ true) × (q ≡ true)
and-both true q e = (refl, e)
and-both false q e = absurd (cc)

between-int : (low high k : ℤ) → is_between low high (out-Value (value.Int k)) ≡ true → (low ≤ℤ k) × (k ≤ℤ high)
between-int low high k e =
    let h : (int_le low k && int_le k high) ≡ true = sym (ap (is_between low high) (outs-Int k)) ∙ e in
    let p = and-both (int_le low k) (int_le k high) h in
    (le-so low k p.0, le-so k high p.1)

ends-of : (P : Value → Bool) (a : ℤ) (n : ℕ) → list_all P (from_on a (n + 1)) ≡ true →
    (P (value.Int a) ≡ true) × (P (value.Int (a +ℤ pos n)) ≡ true)
ends-of P a zero e =
    let p = and-both (P (value.Int a)) true e in
    let z : a ≡ a +ℤ pos 0 = omega (arith, ints) in
    (p.0, sym (ap (λ (k : ℤ). P (value.Int k)) z) ∙ p.0)
ends-of P a (suc n) e =
    let k : suc n + 1 ≡ suc (n + 1) = omega arith in
    let whole = sym (ap (λ (i : ℕ). list_all P (from_on a i)) k) ∙ e in
    let p = and-both (P (value.Int a)) (list_all P (from_on (a +ℤ pos 1) (n + 1))) whole in
    let z : (a +ℤ pos 1) +ℤ pos n ≡ a +ℤ pos (suc n) = omega (arith, ints) in
    (p.0, sym (ap (λ (i : ℤ). P (value.Int i)) z) ∙ (ends-of P (a +ℤ pos 1) n p.1).1)

-- the whole range, between bounds that were moved into a width which its ends fit
module _ (w : ℕ) (m n low high least greatest : ℤ) (m_fits : IsTrue (fits_width w m)) (n_fits : IsTrue (fits_width w n))
    (from : IsNearest w low least) (to : IsNearest w high greatest) where
  pub range-whole : list_all (λ v. is_between low high (out-Value v)) (range_of m n) ≡ true →
      filter (lies (value.Int m) (value.Int n)) (range least greatest) ≡ range_of m n
  range-whole e = by_lt_z n m (λ lt. part-none m n least greatest lt ∙ same-range m n) some
    where
      some : m ≤ℤ n → filter (lies (value.Int m) (value.Int n)) (range least greatest) ≡ range_of m n
      some le =
          let steps = steps-to m n le in
          let P : Value → Bool = λ v. is_between low high (out-Value v) in
          let row : from_on m (steps.0 + 1) ≡ range_of m n =
          sym (ap (from_on m) (count-at m n steps.0 steps.1)) ∙ same-range m n in
          let ends = ends-of P m steps.0 (ap (list_all P) row ∙ e) in
          let first = between-int low high m ends.0 in
          let last = between-int low high n (sym (ap (λ (i : ℤ). P (value.Int i)) steps.1) ∙ ends.1) in
          part-some m n least greatest le (from.above m m_fits first.0) (to.below n n_fits last.1) ∙ same-range m n

-- so the set of the numbers that lie there shows the row
pub range-shows : (old new : Build) (x y id : CellId) (low high least greatest : ℤ) (r : Cells) →
    AreNumbers old.arena.kinds x y → IsNearest old.arena.width low least → IsNearest old.arena.width high greatest →
    Decodes new id
    (λ a. value.Set (filter (lies (decode old.arena a x) (decode old.arena a y)) (range least greatest))) →
    ShowsAt new r (λ a _. Val (decode new.arena a id)) → ShowsRange old new x y low high r
range-shows old new x y id low high least greatest r numbers h k d shown = record {
  shows = λ a s lie p.
      let v : Value = decode old.arena a x in
      let w : Value = decode old.arena a y in
      let m = number-cell old a x numbers.left in
      let n = number-cell old a y numbers.right in
      let inside = sym (ap₂ (lie_between low high) (number-out v m.number m.is) (number-out w n.number n.is)) ∙ lie in
      let whole = range-whole old.arena.width m.number n.number low high least greatest m.fits n.fits h k inside in
      let is =
      ap (λ (u : Value). Val u) (d.value a s)
      ∙ ap₂ (λ (i j : Value). Val (value.Set (filter (lies i j) (range least greatest)))) m.is n.is
      ∙ ap (λ (l : List Value). Val (value.Set l)) whole
      ∙ sym (numbers-row p (λ i j. Val (value.Set (range_of i j))) v w m.number n.number m.is n.is) in
      subst (λ (o : Outcome). Shows new.arena a r o) is (shown.shows a s p);
}
