-- Numbers in a row, and the literals that say which of them lie between two others.
use Rattle.std.proofs.Common.{◌≡◌, ℕ, zero, suc, ◌+◌, ◌^◌, ◌-◌, ◌<◌, ◌≤◌, Bool, true, false, cond, not, ◌&&◌, ◌||◌, IsTrue, List, [], ◌∷◌, ◌++◌, refl, ap, ◌∙◌, sym, subst, arith, ℤ, pos, negsuc, ◌+ℤ◌, ◌-ℤ◌, ◌≤ℤ◌, int_lt, nat_abs}
use Rattle.std.specs.Prelude.{filter, int_le, nat_lt, if◌then◌else◌}
use Rattle.std.specs.List.{list_any}
use Rattle.std.specs.declared.cmp.Ordering.TheVariants.{Less}
use Rattle.std.proofs.lemmas.List.Elements.{filter-append, All-push, All-nil}
use Rattle.std.proofs.lemmas.List.Folds.{list_any-append}
use Rattle.tla_values.specs.Order.{value_cmp}
use Rattle.tla_values.specs.Sets.{set_of}
use Rattle.tla_values.proofs.Extensional.{Above, Rising, filter-set_of, set_of_rising, same_members, members_of, member-set_of}
use Rattle.tla_values.proofs.OrderLemmas.{by_kinds}
use Rattle.tla_values.specs.declared.value.Value.TheOpen as layer
use Rattle.std.proofs.lemmas.Int.{ints}
use Rattle.std.specs.Cmp.{int_cmp_is}
use Rattle.std.proofs.lemmas.Bool.Decides.{nat_tests}
use Rattle.tla_values.specs.Integers.{fits_width}
use Rattle.tla_values.specs.declared.value.Value.{Value}
use Rattle.tla_values.specs.declared.value.Value.TheVariants as value
use Rattle.tla_values.specs.declared.value.Value.TheVariants.{outs-Int}
use Rattle.sat_formula.specs.declared.lit.Lit.{Lit}
use Rattle.sat_formula.specs.declared.cnf.Cnf.{Cnf}
use Rattle.sat_formula.specs.Lit.{lit_value, IsBelow}
use Rattle.sat_formula.specs.Formula.{Satisfies, HasValue, Grows as FormulaGrows}
use Rattle.sat_formula.proofs.Extension.{Satisfies-older, HasValue-later, HasValue-same}
use Rattle.word_blaster.specs.Word.{word_value, IsWord, AreWords, IsExact}
use Rattle.word_blaster.proofs.Words.{WordBelow-later}
use Rattle.cell_arena.specs.declared.kinds.CellId.{CellId}
use Rattle.cell_arena.specs.declared.kinds.CellKind.{CellKind}
use Rattle.cell_arena.specs.declared.kinds.CellKind.TheVariants.{Word}
use Rattle.cell_arena.specs.Cells.{Cells, IsHeld, NamesBelow, IsFormed}
use Rattle.cell_arena.specs.Decode.{decode, kind_value, present}
use Rattle.cell_arena.specs.declared.build.Build.{Build}
use Rattle.cell_arena.specs.Growth.{Grows, Decodes, Adds, Keeps}
use Rattle.cell_arena.proofs.Growing.{Decodes-same, Satisfies-before, decode-before}
use Rattle.cell_merge.specs.Sorts.{OfSort, number}
use Rattle.cell_merge.specs.Edges.{any_edge}
use Rattle.cell_merge.proofs.Edges.{sort-there}
use Rattle.cell_merge.proofs.SortLaws.{sort-word, OfSort-later}
use Rattle.cell_merge.proofs.Unions.{AreNamed-later, any-push}
use Rattle.cell_merge.proofs.Layering.{LeadTo-later, any-before}
use Rattle.set_rewriter.proofs.Made.{set-found}
use Rattle.set_rewriter.specs.inner.Steps.{IsCandidate, Candidates}
use Rattle.set_rewriter.specs.Ranges.{from_on, count_of, range, int_here, int_of, lies, AreNumbers}

pub int_of-int : (n : ℤ) → int_of (value.Int n) ≡ n
unfolding int_of
int_of-int n = ap int_here (outs-Int n)

at_most : (m n : ℤ) → not (int_lt n m) ≡ int_le m n
at_most m n = grind (arith, ints, nat_tests)

below-so : (m n : ℕ) → IsTrue (nat_lt m n) → m < n
below-so m n h = grind (arith, nat_tests)

below-to : (m n : ℕ) → m < n → IsTrue (nat_lt m n)
below-to m n h = grind (arith, nat_tests)

pub fits-between : (w : ℕ) (low n high : ℤ) → IsTrue (fits_width w low) → IsTrue (fits_width w high) → low ≤ℤ n → n ≤ℤ high → IsTrue (fits_width w n)
fits-between w low (pos n) (pos c) p q h k = let f = below-so c (2 ^ (w - 1)) q in below-to n (2 ^ (w - 1)) (omega (arith, ints))
fits-between w low (pos n) (negsuc c) p q h k = absurd (omega (arith, ints))
fits-between w (pos b) (negsuc n) high p q h k = absurd (omega (arith, ints))
fits-between w (negsuc b) (negsuc n) high p q h k = let f = below-so b (2 ^ (w - 1)) p in below-to n (2 ^ (w - 1)) (omega (arith, ints))

-- one more number
from_on-more : (a : ℤ) (n : ℕ) → from_on a (n + 1) ≡ from_on a n ++ value.Int (a +ℤ pos n) ∷ []
from_on-more a zero = let e : a ≡ a +ℤ pos 0 = omega (arith, ints) in ap (λ (m : ℤ). value.Int m ∷ []) e
from_on-more a (suc n) =
    let k : suc n + 1 ≡ suc (n + 1) = omega arith in
    let e : (a +ℤ pos 1) +ℤ pos n ≡ a +ℤ pos (suc n) = omega (arith, ints) in
    ap (from_on a) k ∙ ap (λ (l : List Value). value.Int a ∷ l) (from_on-more (a +ℤ pos 1) n ∙ ap (λ (m : ℤ). from_on (a +ℤ pos 1) n ++ value.Int m ∷ []) e)

filter-last : (p q : Value → Bool) (v : Value) → list_any p (filter q (v ∷ [])) ≡ (q v && p v)
filter-last p q v = split (q v)
  where
    last : (t : Bool) → (t || false) ≡ t
    last true = refl
    last false = refl

    split : (t : Bool) → list_any p (cond t (v ∷ []) []) ≡ (t && p v)
    split true = last (p v)
    split false = refl

pub filter-more : (p q : Value → Bool) (a : ℤ) (n : ℕ) → list_any p (filter q (from_on a (n + 1))) ≡ (list_any p (filter q (from_on a n)) || (q (value.Int (a +ℤ pos n)) && p (value.Int (a +ℤ pos n))))
filter-more p q a n =
    let v : Value = value.Int (a +ℤ pos n) in
    ap (λ (l : List Value). list_any p (filter q l)) (from_on-more a n) ∙ ap (list_any p) (filter-append q (from_on a n) (v ∷ []))
    ∙ list_any-append p (filter q (from_on a n)) (filter q (v ∷ [])) ∙ ap (λ t. list_any p (filter q (from_on a n)) || t) (filter-last p q v)

-- ---- a row is increasing

next_above : (a : ℤ) → value_cmp (value.Int a) (value.Int (a +ℤ pos 1)) ≡ Less
next_above a =
    by_kinds (value.Int a) (value.Int (a +ℤ pos 1)) (layer.Int a) (layer.Int (a +ℤ pos 1)) (outs-Int a) (outs-Int (a +ℤ pos 1)) ∙ sym (int_cmp_is a (a +ℤ pos 1) Less (omega (arith, ints)))

above_from : (a : ℤ) (n : ℕ) → Above (value.Int a) (from_on (a +ℤ pos 1) n)
above_from a zero = tt
above_from a (suc n) = (next_above a, above_from (a +ℤ pos 1) n)

rising_from_on : (a : ℤ) (n : ℕ) → Rising (from_on a n)
rising_from_on a zero = tt
rising_from_on a (suc n) = above_from a n

rising-same : (xs : List Value) → Rising xs → set_of xs ≡ xs
rising-same xs r = same_members (set_of xs) xs (set_of_rising xs) r (members_of xs (set_of xs) (λ v e. sym (member-set_of v xs) ∙ e)) (members_of (set_of xs) xs (λ v e. member-set_of v xs ∙ e))

pub filter-range : (q : Value → Bool) (a : ℤ) (n : ℕ) → set_of (filter q (from_on a n)) ≡ filter q (from_on a n)
filter-range q a n = filter-set_of q (from_on a n) ∙ ap (filter q) (rising-same (from_on a n) (rising_from_on a n))

-- ---- the words of two cells

-- the word of a cell, in a larger formula
pub cell-word : (c : Cells) (f : Cnf) (n : ℕ) (k : CellKind) (v : List Lit) → c.vars ≤ f.vars → IsHeld n c.vars c.width k → k ≡ Word v → IsWord f.vars c.width v
cell-word c f n k v le held e =
    let P : CellKind → Type 0 = NamesBelow c.vars in
    let Q : CellKind → Type 0 = IsFormed c.width in
    record { below = WordBelow-later c.vars f.vars v (subst P e held.named) le; width = subst Q e held.formed }

pub two-words : (n m : ℕ) (v w : List Lit) → IsWord n m v → IsWord n m w → AreWords n v w
two-words n m v w p q = record { left = p.below; right = q.below; same = p.width ∙ sym q.width }

pub word-later : (m n k : ℕ) (v : List Lit) → IsWord m k v → m ≤ n → IsWord n k v
word-later m n k v h le = record { below = WordBelow-later m n v h.below le; width = h.width }

-- the literal says that the number lies between
pub lies-value : (c : Cells) (a : List Bool) (x y : CellId) (j k : CellKind) (v w u : List Lit) (p q p' q' r : Bool)
    → decode c a x ≡ kind_value c.texts a (decode c a) j → decode c a y ≡ kind_value c.texts a (decode c a) k → j ≡ Word v → k ≡ Word w
    → r ≡ (p' && q') → p' ≡ not p → q' ≡ not q → p ≡ int_lt (word_value u a) (word_value v a) → q ≡ int_lt (word_value w a) (word_value u a)
    → r ≡ lies (decode c a x) (decode c a y) (value.Int (word_value u a))
lies-value c a x y j k v w u p q p' q' r left right js ks er ep eq hp hq =
    let of : CellId → Value = decode c a in
    let n : ℤ = word_value u a in
    let vx : int_of (of x) ≡ word_value v a = ap int_of (left ∙ ap (kind_value c.texts a of) js) ∙ int_of-int (word_value v a) in
    let vy : int_of (of y) ≡ word_value w a = ap int_of (right ∙ ap (kind_value c.texts a of) ks) ∙ int_of-int (word_value w a) in
    er ∙ ap (λ t. t && q') (ep ∙ ap not hp ∙ at_most (word_value v a) n) ∙ ap (λ t. int_le (word_value v a) n && t) (eq ∙ ap not hq ∙ at_most n (word_value w a))
    ∙ sym (ap (λ (m : ℤ). int_le m (int_of (value.Int n)) && int_le (int_of (value.Int n)) (int_of (of y))) vx
    ∙ ap (λ (m : ℤ). int_le (word_value v a) m && int_le m (int_of (of y))) (int_of-int n)
    ∙ ap (λ (m : ℤ). int_le (word_value v a) n && int_le n m) vy)

-- ---- candidates

pub is-candidate : (old mid new : Build) (f : Cnf) (x y id : CellId) (m n : ℤ) (width : ℕ) (word : List Lit) (out inside : Lit) → m ≡ n → FormulaGrows f mid.formula → Grows mid new
    → IsExact f width word out (λ a. m) → IsTrue (fits_width width n) → HasValue mid.formula inside (λ a. lies (decode old.arena a x) (decode old.arena a y) (value.Int (word_value word a)))
    → Adds mid new (Word word) id → Decodes new id (λ a. value.Int (word_value word a)) → IsCandidate old new x y n (inside, id)
is-candidate old mid new f x y id m n width word out inside same first grows exact fits gate adds decodes =
    let known : (a : List Bool) → Satisfies a new.formula → word_value word a ≡ n = λ a s.
    let s0 = Satisfies-older f mid.formula a first (Satisfies-before mid new a grows s) in
    exact.value a s0 (exact.outside.value a s0 ∙ ap (λ (k : ℤ). not (fits_width width k)) same ∙ ap not fits) ∙ same in
    record {
      sort = sort-word mid new word id adds;
      cell = Decodes-same new id _ _ decodes (λ a s. ap (λ (m : ℤ). value.Int m) (known a s));
      literal = HasValue-same new.formula inside _ _ (HasValue-later mid.formula new.formula inside _ gate grows.formula)
          (λ a s. ap (λ (m : ℤ). lies (decode old.arena a x) (decode old.arena a y) (value.Int m)) (known a s));
    }

-- one more candidate
pub candidates-more : (old mid new : Build) (x y : CellId) (low m : ℤ) (n : ℕ) (edges after : List (Lit × CellId)) (e : Lit × CellId) → AreNumbers old.arena.kinds x y → Grows old mid → Grows mid new
    → m ≡ low +ℤ pos n → Candidates old mid x y low n edges → IsCandidate mid new x y m e → after ≡ edges ++ e ∷ [] → Candidates old new x y low (n + 1) after
candidates-more old mid new x y low m n edges after e numbers before grows is h k pushed = record {
  cells = rw pushed (All-push (λ (d : Lit × CellId). OfSort new.arena.kinds number d.1) edges e (LeadTo-later mid new number edges h.cells grows) k.sort);
  named = rw pushed (All-push (λ (d : Lit × CellId). IsBelow new.formula.vars d.0) edges e (AreNamed-later mid.formula.vars new.formula.vars edges h.named grows.formula.vars) k.literal.below);
  members = λ a s p.
      let q : Value → Bool = lies (decode old.arena a x) (decode old.arena a y) in
      let s0 = Satisfies-before mid new a grows s in
      let olds : lies (decode mid.arena a x) (decode mid.arena a y) (value.Int m) ≡ q (value.Int m) =
      ap (λ (v : Value). lies v (decode mid.arena a y) (value.Int m)) (decode-before old mid a x before (sort-there old.arena.kinds number x numbers.left))
      ∙ ap (λ (v : Value). lies (decode old.arena a x) v (value.Int m)) (decode-before old mid a y before (sort-there old.arena.kinds number y numbers.right)) in
      ap (any_edge a (decode new.arena a) p) pushed ∙ any-push a (decode new.arena a) p edges e
      ∙ ap (λ t. t || (lit_value e.0 a && p (decode new.arena a e.1))) (any-before mid new a p number edges grows h.cells ∙ h.members a s0 p)
      ∙ ap (λ t. list_any p (filter q (from_on low n)) || (t && p (decode new.arena a e.1))) (k.literal.value a s ∙ olds)
      ∙ ap (λ (v : Value). list_any p (filter q (from_on low n)) || (q (value.Int m) && p v)) (k.cell.value a s)
      ∙ ap (λ (i : ℤ). list_any p (filter q (from_on low n)) || (q (value.Int i) && p (value.Int i))) is
      ∙ sym (filter-more p q low n);
}

-- one that is never there
pub candidates-passed : (old mid new : Build) (x y : CellId) (low m : ℤ) (n : ℕ) (edges : List (Lit × CellId)) (e : Lit × CellId) → AreNumbers old.arena.kinds x y → Grows old mid → Grows mid new
    → m ≡ low +ℤ pos n → Candidates old mid x y low n edges → IsCandidate mid new x y m e → ((a : List Bool) → Satisfies a new.formula → lit_value e.0 a ≡ false) → Candidates old new x y low (n + 1) edges
candidates-passed old mid new x y low m n edges e numbers before grows is h k off =
    let whole = candidates-more old mid new x y low m n edges (edges ++ e ∷ []) e numbers before grows is h k refl in
    record {
      cells = LeadTo-later mid new number edges h.cells grows;
      named = AreNamed-later mid.formula.vars new.formula.vars edges h.named grows.formula.vars;
      members = λ a s p.
          none (any_edge a (decode new.arena a) p edges) (lit_value e.0 a) (p (decode new.arena a e.1)) (off a s) ∙ sym (any-push a (decode new.arena a) p edges e) ∙ whole.members a s p;
    }
  where
    none : (t q r : Bool) → q ≡ false → t ≡ (t || (q && r))
    none t q r e = grind arith

pub candidates-none : (b : Build) (x y : CellId) (low : ℤ) → Candidates b b x y low 0 []
candidates-none b x y low = record { cells = All-nil (λ (e : Lit × CellId). OfSort b.arena.kinds number e.1); named = All-nil (λ (e : Lit × CellId). IsBelow b.formula.vars e.0); members = λ a s p. refl }

-- what is found of the candidates
pub candidates-set : (old new : Build) (a : List Bool) (x y : CellId) (low high : ℤ) (edges : List (Lit × CellId)) → Candidates old new x y low (count_of low high) edges → Satisfies a new.formula
    → set_of (present a (decode new.arena a) edges) ≡ filter (lies (decode old.arena a x) (decode old.arena a y)) (range low high)
candidates-set old new a x y low high edges h s =
    let q : Value → Bool = lies (decode old.arena a x) (decode old.arena a y) in
    set-found a (decode new.arena a) edges (filter q (range low high)) (h.members a s) ∙ filter-range q low (count_of low high)

-- ---- what the loop asks for

pub width-before : (b c : Build) → Grows b c → c.arena.width ≡ b.arena.width
unfolding Keeps
width-before b c g = g.keeps.width

pub numbers-later : (b c : Build) (x y : CellId) → AreNumbers b.arena.kinds x y → Grows b c → AreNumbers c.arena.kinds x y
numbers-later b c x y h g = record { left = OfSort-later b c number x h.left g; right = OfSort-later b c number y h.right g }

le-so : (m n : ℤ) → int_le m n ≡ true → m ≤ℤ n
le-so m n e = grind (arith, ints, nat_tests)

abs-same : (z : ℤ) → pos 0 ≤ℤ z → pos (nat_abs z) ≡ z
abs-same (pos n) h = refl
abs-same (negsuc n) h = absurd (omega (arith, ints))

row-end : (low high d : ℤ) (n i : ℕ) → d ≡ high -ℤ low → pos n ≡ d → i < n + 1 → (low +ℤ pos i) ≤ℤ high
row-end low high d n i e f lt = omega (arith, ints)

in-row : (low high : ℤ) (i : ℕ) → i < count_of low high → (low +ℤ pos i) ≤ℤ high
in-row low high i lt = go (int_le low high) refl lt
  where
    go : (t : Bool) → int_le low high ≡ t → i < (if t then nat_abs (high -ℤ low) + 1 else 0) → (low +ℤ pos i) ≤ℤ high
    go true e l =
        let h : low ≤ℤ high = le-so low high e in
        let k : pos 0 ≤ℤ (high -ℤ low) = omega (arith, ints) in
        row-end low high (high -ℤ low) (nat_abs (high -ℤ low)) i refl (abs-same (high -ℤ low) k) l
    go false e l = absurd (omega arith)

-- each candidate fits the width
pub row-fits : (b c : Build) (low high n m : ℤ) (i count : ℕ) → Grows b c → IsTrue (fits_width b.arena.width low) → IsTrue (fits_width b.arena.width high) → count ≡ count_of low high → i < count
    → n ≡ low +ℤ pos i → m ≡ n → IsTrue (fits_width c.arena.width m)
row-fits b c low high n m i count g p q e lt is same =
    let le : (low +ℤ pos i) ≤ℤ high = in-row low high i (rw (← e) lt) in
    let from : low ≤ℤ (low +ℤ pos i) = omega (arith, ints) in
    rw (width-before b c g, same, is) (fits-between b.arena.width low (low +ℤ pos i) high p q from le)

pub count-same : (count : ℕ) (low high low' high' : ℤ) → count ≡ count_of low' high' → low' ≡ low → high' ≡ high → count ≡ count_of low high
count-same count low high low' high' e f g = e ∙ ap (λ (z : ℤ). count_of z high') f ∙ ap (count_of low) g

-- the set of the candidates
pub range-value : (old mid new : Build) (x y id : CellId) (low high low' high' : ℤ) (i count : ℕ) (edges out : List (Lit × CellId)) → out ≡ edges → i ≡ count → count ≡ count_of low' high' → low' ≡ low → high' ≡ high
    → Candidates old mid x y low' i edges → Grows mid new → Decodes new id (λ a. value.Set (set_of (present a (decode mid.arena a) out)))
    → Decodes new id (λ a. value.Set (filter (lies (decode old.arena a x) (decode old.arena a y)) (range low high)))
range-value old mid new x y id low high low' high' i count edges out same all e f g h grows decodes =
    let whole : Candidates old mid x y low (count_of low high) edges =
    subst (λ (z : ℤ). Candidates old mid x y z (count_of low high) edges) f (subst (λ (n : ℕ). Candidates old mid x y low' n edges) (all ∙ count-same count low high low' high' e f g) h) in
    Decodes-same new id _ _ decodes
    (λ a s. ap (λ (l : List (Lit × CellId)). value.Set (set_of (present a (decode mid.arena a) l))) same
    ∙ ap (λ vs. value.Set vs) (candidates-set old mid a x y low high edges whole (Satisfies-before mid new a grows s)))
