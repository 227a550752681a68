-- The bits of a cut of a sequence.
use Rattle.std.proofs.Common.{◌≡◌, ℕ, ◌+◌, ◌-◌, ◌*◌, ◌^◌, ◌<◌, ◌≤◌, Bool, true, false, not, ◌&&◌, List, [], ◌∷◌, ◌++◌, length, take, get_or, ℤ, refl, ap, ◌∙◌, sym, subst, arith}
use Rattle.std.specs.Prelude.{◌==◌, nat_lt, int_lt, if◌then◌else◌}
use Rattle.std.proofs.lemmas.List.{length_push, length-take-le}
use Rattle.sat_formula.specs.declared.lit.Lit.{Lit}
use Rattle.sat_formula.specs.declared.cnf.Cnf.{Cnf}
use Rattle.sat_formula.specs.Lit.{lit_value}
use Rattle.sat_formula.specs.Formula.{Satisfies, HasValue, Grows as FormulaGrows}
use Rattle.sat_formula.proofs.Extension.{Satisfies-older}
use Rattle.word_blaster.specs.Word.{AreWords, WordBelow, bit, number, values, word_value}
use Rattle.word_blaster.proofs.Words.{WordBelow-later, WordBelow-push, number-nil, number-values-push, number-values-more}
use Rattle.tla_values.specs.declared.value.Value.TheVariants.{outs-Int}
use Rattle.cell_arena.specs.declared.kinds.CellId.{CellId}
use Rattle.cell_arena.specs.declared.kinds.CellKind.{CellKind}
use Rattle.cell_arena.specs.declared.kinds.CellKind.TheVariants.{Word}
use Rattle.cell_arena.specs.Cells.{Cells, IsFormed, IsHeld, NamesBelow, kind_at}
use Rattle.cell_arena.specs.Decode.{decode, kind_value}
use Rattle.cell_arena.proofs.Decoding.{decode-kind}
use Rattle.cell_merge.specs.Sorts.{OfSort, IsOver, number as number_sort}
use Rattle.sequence_rewriter.specs.declared.slicing.Cut.{Cut}
use Rattle.sequence_rewriter.specs.declared.slicing.Ends.{Ends}
use Rattle.sequence_rewriter.specs.Sequences.{int_here, int_of}
use Rattle.sequence_rewriter.specs.inner.Lengths.{IsLess}
use Rattle.sequence_rewriter.specs.inner.Cuts.{AreBelow, AreEnds, CutsAt, IsMasked, IsLonger, IsSpan, IsStart, ends_fit}

none-below : (n : ℕ) → WordBelow n []
unfolding WordBelow
none-below n = λ i d lt. absurd (omega arith)

pub masked-none : (f : Cnf) (l : Lit) (bits out : List Lit) → out ≡ [] → IsMasked f l (take 0 bits) out
masked-none f l bits out is = rw is (record { below = none-below f.vars; long = refl; value = λ a s. either (lit_value l a) })
  where
    either : (b : Bool) → number [] ≡ (if b then number [] else 0)
    either true = refl
    either false = number-nil

masked-bit : (b d both : Bool) (n m before k : ℕ) → both ≡ (b && d) → n ≡ (if b then before else 0) + bit both * k → m ≡ before + bit d * k → n ≡ (if b then m else 0)
masked-bit true d both n m before k e h g = h ∙ ap (λ c. before + bit c * k) e ∙ sym g
masked-bit false d both n m before k e h g =
    let z : bit both * k ≡ 0 = ap (λ c. bit c * k) e ∙ omega arith in
    h ∙ ap (λ (j : ℕ). 0 + j) z

pub masked-more : (f g : Cnf) (l : Lit) (bits : List Lit) (i : ℕ) (d both : Lit) (out after : List Lit) → i < length bits → IsMasked f l (take i bits) out → FormulaGrows f g → HasValue g both (λ a. lit_value l a && lit_value (get_or bits i d) a)
    → after ≡ out ++ both ∷ [] → IsMasked g l (take (i + 1) bits) after
masked-more f g l bits i d both out after lt h grows gate pushed = record {
  below = rw pushed (WordBelow-push g.vars out both (WordBelow-later f.vars g.vars out h.below grows.vars) gate.below);
  long = ap length pushed ∙ length_push out both ∙ ap (λ (k : ℕ). k + 1) (h.long ∙ length-take-le i bits (omega arith)) ∙ sym (length-take-le (i + 1) bits (omega arith));
  value = λ a s.
      let front : length out ≡ i = h.long ∙ length-take-le i bits (omega arith) in
      masked-bit (lit_value l a) (lit_value (get_or bits i d) a) (lit_value both a) (number (values after a)) (number (values (take (i + 1) bits) a)) (number (values (take i bits) a)) (2 ^ i)
      (gate.value a s)
      (ap (λ (w : List Lit). number (values w a)) pushed ∙ number-values-push out both a i front ∙ ap (λ (k : ℕ). k + bit (lit_value both a) * 2 ^ i) (h.value a (Satisfies-older f g a grows s)))
      (number-values-more bits d a i lt);
}

pub longer-none : (f : Cnf) (bits out : List Lit) → WordBelow f.vars bits → out ≡ bits → IsLonger f bits (length bits) out
longer-none f bits out below is = rw is (record { below = below; long = refl; value = λ a s. refl })

pub longer-more : (f : Cnf) (bits out after : List Lit) (none : Lit) (i : ℕ) → none.var < f.vars → ((a : List Bool) → Satisfies a f → lit_value none a ≡ false) → IsLonger f bits i out → after ≡ out ++ none ∷ [] → IsLonger f bits (i + 1) after
longer-more f bits out after none i lt off h pushed = record {
  below = rw pushed (WordBelow-push f.vars out none h.below lt);
  long = ap length pushed ∙ length_push out none ∙ ap (λ (k : ℕ). k + 1) h.long;
  value = λ a s.
      let e : bit (lit_value none a) ≡ 0 = ap bit (off a s) in
      let z : bit (lit_value none a) * 2 ^ i ≡ 0 = ap (λ (b : ℕ). b * 2 ^ i) e ∙ omega arith in
      ap (λ (w : List Lit). number (values w a)) pushed ∙ number-values-push out none a i h.long ∙ ap (λ (k : ℕ). number (values out a) + k) z ∙ omega arith ∙ h.value a s;
}

-- ---- the ends of a part

number-word : (c : Cells) (f : Cnf) (i : CellId) (k : CellKind) (n : ℕ) (word : List Lit) → IsOver c f → k ≡ kind_at c.kinds i → k ≡ Word word → IsHeld n c.vars c.width k → WordBelow f.vars word × (length word ≡ c.width)
number-word c f i k n word over same is held = (
  let N : CellKind → Type 0 = NamesBelow c.vars in WordBelow-later c.vars f.vars word (subst N is held.named) over.fits,
  let F : CellKind → Type 0 = IsFormed c.width in subst F is held.formed,
)

pub number-words : (c : Cells) (f : Cnf) (i j : CellId) (k l : CellKind) (m n : ℕ) (left right : List Lit) → IsOver c f → k ≡ kind_at c.kinds i → k ≡ Word left → IsHeld m c.vars c.width k → l ≡ kind_at c.kinds j → l ≡ Word right → IsHeld n c.vars c.width l → AreWords f.vars left right
number-words c f i j k l m n left right over same is held same' is' held' =
    let p = number-word c f i k m left over same is held in
    let q = number-word c f j l n right over same' is' held' in
    record { left = p.0; right = q.0; same = p.1 ∙ sym q.1 }

word-number : (c : Cells) (f : Cnf) (i : CellId) (k : CellKind) (word : List Lit) → IsOver c f → i.index < length c.kinds → k ≡ kind_at c.kinds i → k ≡ Word word → (a : List Bool) → int_of (decode c a i) ≡ word_value word a
word-number c f i k word over lt same is a = ap int_of (decode-kind c a i over.built lt ∙ ap (kind_value c.texts a (decode c a)) (sym same ∙ is)) ∙ ap int_here (outs-Int (word_value word a))

pub numbers-less : (c : Cells) (f : Cnf) (i j : CellId) (k l : CellKind) (left right : List Lit) → IsOver c f → OfSort c.kinds number_sort i → OfSort c.kinds number_sort j → k ≡ kind_at c.kinds i → k ≡ Word left → l ≡ kind_at c.kinds j → l ≡ Word right
    → (g : Cnf) (below : Lit) → HasValue g below (λ a. int_lt (word_value left a) (word_value right a)) → HasValue g below (λ a. int_lt (int_of (decode c a i)) (int_of (decode c a j)))
numbers-less c f i j k l left right over p q same is same' is' g below gate = record {
  below = gate.below;
  value = λ a s.
      gate.value a s ∙ ap (λ (z : ℤ). int_lt z (word_value right a)) (sym (word-number c f i k left over p.0 same is a)) ∙ ap (int_lt (int_of (decode c a i))) (sym (word-number c f j l right over q.0 same' is' a));
}

pub ends-below : (c : Cells) (f : Cnf) (s m n : CellId) (ends : Ends) → AreEnds c f s m n ends → AreBelow f.vars ends
ends-below c f s m n ends h = record { first = h.first.bits; starts = h.first.valid; last = h.last.bits; reaches = h.last.valid; empty = h.empty.below }

pub is-start : (f1 f2 f3 f4 f5 f6 : Cnf) (ends : Ends) (bits : List Lit) (none past reaches some starts fine off_past off_zero off_empty : Lit) (shift : List Lit)
    → FormulaGrows f1 f2 → FormulaGrows f2 f3 → FormulaGrows f3 f4 → FormulaGrows f4 f5 → FormulaGrows f5 f6
    → IsLess f1 ends.first.bits.items (none, shift) → HasValue f2 past (λ a. nat_lt (number (values bits a)) (number (values ends.last.bits.items a)))
    → HasValue f3 reaches (λ a. lit_value ends.last.valid a && lit_value off_past a) → HasValue f4 some (λ a. lit_value off_zero a && lit_value reaches a)
    → HasValue f5 starts (λ a. lit_value ends.first.valid a && lit_value some a) → HasValue f6 fine (λ a. lit_value off_empty a && lit_value starts a)
    → ((a : List Bool) → lit_value off_past a ≡ not (lit_value past a)) → ((a : List Bool) → lit_value off_zero a ≡ not (lit_value none a)) → ((a : List Bool) → lit_value off_empty a ≡ not (lit_value ends.empty a))
    → IsStart f6 ends bits (shift, fine)
is-start f1 f2 f3 f4 f5 f6 ends bits none past reaches some starts fine off_past off_zero off_empty shift g2 g3 g4 g5 g6 less gate_past gate_reaches gate_some gate_starts gate_fine not_past not_zero not_empty = record {
  below = WordBelow-later f1.vars f6.vars shift less.below (let a = g2.vars in let b = g3.vars in let c = g4.vars in let d = g5.vars in let e = g6.vars in omega arith);
  value = λ a s. less.value a (back a s);
  fine = record {
    below = gate_fine.below;
    value = λ a s.
        let s5 = Satisfies-older f5 f6 a g6 s in
        let s4 = Satisfies-older f4 f5 a g5 s5 in
        let s3 = Satisfies-older f3 f4 a g4 s4 in
        let s2 = Satisfies-older f2 f3 a g3 s3 in
        let s1 = Satisfies-older f1 f2 a g2 s2 in
        gate_fine.value a s ∙ ap (λ b. b && lit_value starts a) (not_empty a)
        ∙ ap (λ b. not (lit_value ends.empty a) && b) (gate_starts.value a s5 ∙ ap (λ b. lit_value ends.first.valid a && b) (gate_some.value a s4
        ∙ ap (λ b. b && lit_value reaches a) (not_zero a ∙ ap not (less.empty.value a s1))
        ∙ ap (λ b. not (number (values ends.first.bits.items a) == 0) && b) (gate_reaches.value a s3 ∙ ap (λ b. lit_value ends.last.valid a && b) (not_past a ∙ ap not (gate_past.value a s2)))));
  };
}
  where
    back : (a : List Bool) → Satisfies a f6 → Satisfies a f1
    back a s = Satisfies-older f1 f2 a g2 (Satisfies-older f2 f3 a g3 (Satisfies-older f3 f4 a g4 (Satisfies-older f4 f5 a g5 (Satisfies-older f5 f6 a g6 s))))

pub is-cut : (f1 f2 f3 : Cnf) (ends : Ends) (bits : List Lit) (cut : Cut) (off_empty off_fine fine : Lit) (shift : List Lit) → FormulaGrows f1 f2 → FormulaGrows f2 f3
    → IsStart f1 ends bits (shift, fine) → IsSpan f2 fine ends.last.bits.items shift cut.count.items → HasValue f3 cut.wrong (λ a. lit_value off_empty a && lit_value off_fine a)
    → ((a : List Bool) → lit_value off_empty a ≡ not (lit_value ends.empty a)) → ((a : List Bool) → lit_value off_fine a ≡ not (lit_value fine a)) → cut.shift.items ≡ shift → CutsAt f3 ends bits cut
is-cut f1 f2 f3 ends bits cut off_empty off_fine fine shift g2 g3 start span gate not_empty not_fine is = record {
  shift = rw is (WordBelow-later f1.vars f3.vars shift start.below (let a = g2.vars in let b = g3.vars in omega arith));
  count = WordBelow-later f2.vars f3.vars cut.count.items span.below g3.vars;
  wrong = record {
    below = gate.below;
    value = λ a s.
        gate.value a s ∙ ap (λ b. b && lit_value off_fine a) (not_empty a) ∙ ap (λ b. not (lit_value ends.empty a) && b) (not_fine a ∙ ap not (start.fine.value a (first a s)));
  };
  start = λ a s. ap (λ (w : List Lit). number (values w a)) is ∙ start.value a (first a s);
  span = λ a s fits.
      let e = start.fine.value a (first a s) in
      let t = start.value a (first a s) in
      let F : ℕ → Type 0 = λ k. k ≤ number (values ends.last.bits.items a) in
      span.value a (Satisfies-older f2 f3 a g3 s) (λ on. subst F (sym t) (fits (sym e ∙ on)))
      ∙ ap (λ b. if b then number (values ends.last.bits.items a) - number (values shift a) else 0) e
      ∙ ap (λ (k : ℕ). if ends_fit ends bits a then number (values ends.last.bits.items a) - k else 0) t;
}
  where
    first : (a : List Bool) → Satisfies a f3 → Satisfies a f1
    first a s = Satisfies-older f1 f2 a g2 (Satisfies-older f2 f3 a g3 s)
