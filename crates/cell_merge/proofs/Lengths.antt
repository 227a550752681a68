-- Sequences are equal where their lengths are, and the places within them.
use Rattle.std.proofs.Common.{◌≡◌, ℕ, zero, suc, ◌+◌, ◌<◌, ◌≤◌, Bool, true, false, not, ◌&&◌, ◌||◌, IsTrue, List, [], ◌∷◌, ◌++◌, map, length, take, get_or, refl, ap, ◌∙◌, sym, subst, arith, below_more, nat_lt, inl, inr, ℤ, pos, negsuc}
use Rattle.std.specs.List.{list_all}
use Rattle.std.specs.Ordering.{int_eq}
use Rattle.std.proofs.lemmas.Bool.Decides.{Decides-int_eq, Decides-ltb}
use Rattle.std.proofs.lemmas.List.{length-map, get_or-map, get_or-take, length-take-le}
use Rattle.std.proofs.lemmas.List.Elements.{All-nil}
use Rattle.std.proofs.lemmas.List.Folds.{list_all-append}
use Rattle.sat_formula.specs.declared.lit.Lit.{Lit}
use Rattle.sat_formula.specs.declared.cnf.Cnf.{Cnf}
use Rattle.sat_formula.specs.Lit.{lit_value, values, IsBelow}
use Rattle.sat_formula.specs.Formula.{Satisfies, HasValue, Grows as FormulaGrows}
use Rattle.sat_formula.proofs.Extension.{Satisfies-older}
use Rattle.word_blaster.specs.Word.{word_value, WordBelow, number}
use Rattle.word_blaster.proofs.Words.{WordBelow-later}
use Rattle.tla_values.specs.Order.{same_value}
use Rattle.tla_values.specs.Sequences.{sequence}
use Rattle.tla_values.specs.declared.value.Value.{Value}
use Rattle.tla_values.specs.declared.value.Value.TheVariants as value
use Rattle.tla_values.proofs.Extensional.{same_equal, same_itself, true_test}
use Rattle.cell_arena.specs.declared.kinds.CellId.{CellId}
use Rattle.cell_arena.specs.declared.kinds.CellKind.{CellKind}
use Rattle.cell_arena.specs.declared.kinds.CellKind.TheVariants.{Seq}
use Rattle.cell_arena.specs.Cells.{Cells, IsHeld, NamesBelow, is_index, kind_at}
use Rattle.cell_arena.specs.Decode.{decode, first_places}
use Rattle.cell_merge.specs.Sorts.{IsOver, SequencesOfOneType, OneType}
use Rattle.cell_merge.specs.Arrows.{length_word}
use Rattle.cell_merge.specs.Composites.{parts_of}
use Rattle.cell_merge.specs.inner.Composites.{each_same, IsCommon}
use Rattle.cell_merge.specs.inner.Places.{all_below, reaches, part_value, TestsPlaces}
use Rattle.cell_merge.proofs.Ends.{length-in, sequence-parts, sequence-range, sequence-value}
use Rattle.cell_merge.proofs.Shapes.{part-types-of}
use Rattle.cell_merge.proofs.FunctionValues.{tuple_one, same_made, each_equal, each_itself, lists_one, rest_so}
use Rattle.cell_merge.proofs.Names.{below}
use Rattle.cell_merge.proofs.Tested.{named-push, named-later}

last : (p : Bool) → (p && true) ≡ p
last true = refl
last false = refl

first-so : (p q : Bool) → (p && q) ≡ true → p ≡ true
first-so true q e = refl
first-so false q e = absurd (cc)

-- ---- numbers below another

below-next : (n : ℕ) (p : ℕ → Bool) → all_below (n + 1) p ≡ (all_below n p && p n)
below-next n p = let e : n + 1 ≡ suc n = omega arith in ap (λ m. all_below m p) e

below-at : (n : ℕ) (p : ℕ → Bool) → all_below n p ≡ true → (i : ℕ) → i < n → p i ≡ true
below-at zero p h i lt = absurd (omega arith)
below-at (suc n) p h i lt =
    let F : ℕ → Type 0 = λ j. p j ≡ true in
    below_more F n (λ j le. below-at n p (first-so _ _ h) j le) (rest_so _ _ h) i (omega arith)

below-all : (n : ℕ) (p : ℕ → Bool) → ((i : ℕ) → i < n → p i ≡ true) → all_below n p ≡ true
below-all zero p h = refl
below-all (suc n) p h = ap (λ t. t && p n) (below-all n p (λ i lt. h i (omega arith))) ∙ h n (omega arith)

-- ---- values

where-reached : (b s : Bool) → (not b || s) ≡ true → b ≡ true → s ≡ true
where-reached true s e h = e
where-reached false s e h = absurd (cc)

abbrev tests : List Value → List Value → ℕ → ℕ → Bool
tests vs ws n i = not (nat_lt i n) || same_value (get_or vs i (value.Bool false)) (get_or ws i (value.Bool false))

at-front : (vs ws : List Value) (n m : ℕ) (d : Value) → n ≡ m → take n vs ≡ take m ws → (i : ℕ) → i < n → get_or vs i d ≡ get_or ws i d
at-front vs ws n m d e q i lt = sym (get_or-take n vs i d lt) ∙ ap (λ l. get_or l i d) q ∙ get_or-take m ws i d (omega arith)

pub fronts-same : (vs ws : List Value) (n m count : ℕ) → n ≤ length vs → m ≤ length ws → (n ≡ m → n ≤ count) → (int_eq (pos n) (pos m) && all_below count (tests vs ws n)) ≡ each_same (take n vs) (take m ws)
fronts-same vs ws n m count p q few = true_test _ _
    (λ e.
    let d : Value = value.Bool false in
    let same : n ≡ m = number-one n m ((Decides-int_eq (pos n) (pos m)).0 (first-so _ _ e)) in
    let le : n ≤ count = few same in
    let long : length (take n vs) ≡ length (take m ws) = length-take-le n vs p ∙ same ∙ sym (length-take-le m ws q) in
    let one : take n vs ≡ take m ws = lists_one (take n vs) (take m ws) d long (λ i lt.
    let li : i < n = let k = length-take-le n vs p in omega arith in
    get_or-take n vs i d li ∙ same_equal _ _ (where-reached _ _ (below-at count (tests vs ws n) (rest_so _ _ e) i (omega arith)) ((Decides-ltb i n).1 li)) ∙ sym (get_or-take m ws i d (omega arith))) in
    subst (λ l. each_same (take n vs) l ≡ true) one (each_itself (take n vs)))
    (λ e.
    let one : take n vs ≡ take m ws = each_equal (take n vs) (take m ws) e in
    let same : n ≡ m = sym (length-take-le n vs p) ∙ ap length one ∙ length-take-le m ws q in
    ap (λ t. t && all_below count (tests vs ws n)) ((Decides-int_eq (pos n) (pos m)).1 (ap pos same))
    ∙ below-all count (tests vs ws n) (λ i lt. at i (nat_lt i n) refl (at-front vs ws n m (value.Bool false) same one)))
  where
    number-one : (i j : ℕ) → pos i ≡ pos j → i ≡ j
    number-one i j e = cc

    at : (i : ℕ) (b : Bool) → nat_lt i n ≡ b → ((i : ℕ) → i < n → get_or vs i (value.Bool false) ≡ get_or ws i (value.Bool false)) → (not b || same_value (get_or vs i (value.Bool false)) (get_or ws i (value.Bool false))) ≡ true
    at i true e h = subst (λ v. same_value (get_or vs i (value.Bool false)) v ≡ true) (h i (below i n e)) (same_itself (get_or vs i (value.Bool false)))
    at i false e h = refl

-- ---- the length of a sequence is a number of its places

abbrev IsLength : ℕ → ℤ → Type 0
IsLength count z = (n : ℕ) × (z ≡ pos n) × (n ≤ count)

length-of : (count : ℕ) (z : ℤ) → IsTrue (is_index (count + 1) z) → IsLength count z
length-of count (pos n) i = (n, refl, let k = below n (count + 1) i in omega arith)
length-of count (negsuc n) i = absurd (cc)

-- ---- sequences of one sort

pub places-typed : (ks : List CellKind) (x y : CellId) → SequencesOfOneType ks x y → (i : ℕ) (left right : CellId) → i < length (parts_of (kind_at ks x)) → i < length (parts_of (kind_at ks y))
    → left ≡ get_or (parts_of (kind_at ks x)) i left → right ≡ get_or (parts_of (kind_at ks y)) i right → OneType ks left right
places-typed ks x y t i left right p q l r = part-types-of ks x y i left right (sequence-parts ks x y (i + 1) t (omega arith) (omega arith)) l r

common-all : (ks : List CellKind) (x y : CellId) (count n : ℕ) → IsCommon ks x y count → n ≤ length (parts_of (kind_at ks x)) → n ≤ length (parts_of (kind_at ks y)) → n ≤ count
common-all ks x y count n h p q = elim h.all [ inl a ↦ omega arith | inr b ↦ omega arith ]

pub common-at : (ks : List CellKind) (x y : CellId) (count i : ℕ) → IsCommon ks x y count → i ≡ count → IsCommon ks x y i
common-at ks x y count i h e = subst (IsCommon ks x y) (sym e) h

-- all places that both have
pub places-all : (c : Cells) (f : Cnf) (a : List Bool) (x y : CellId) (count : ℕ) (ls : List Lit) → IsOver c f → SequencesOfOneType c.kinds x y → Satisfies a f → IsCommon c.kinds x y count
    → TestsPlaces c f (kind_at c.kinds x) (kind_at c.kinds y) count ls → list_all (λ l. lit_value l a) ls ≡ same_value (decode c a x) (decode c a y)
places-all c f a x y count ls over t s common h =
    let of : CellId → Value = decode c a in
    let k : CellKind = kind_at c.kinds x in
    let m : CellKind = kind_at c.kinds y in
    let u : ℤ = word_value (length_word k) a in
    let w : ℤ = word_value (length_word m) a in
    let vs : List Value = map of (parts_of k) in
    let ws : List Value = map of (parts_of m) in
    let i = length-of (length (parts_of k)) u (sequence-range c f a t.sort x over.ranges s t.left) in
    let j = length-of (length (parts_of m)) w (sequence-range c f a t.sort y over.ranges s t.right) in
    let lv : length vs ≡ length (parts_of k) = length-map (parts_of k) of in
    let lw : length ws ≡ length (parts_of m) = length-map (parts_of m) of in
    let G : ℤ → ℤ → Bool = λ u w. int_eq u w && all_below count (λ i. not (reaches u i) || same_value (part_value of k i) (part_value of m i)) in
    h.values a s ∙ ap (λ z. G z w) i.1 ∙ ap (G (pos i.0)) j.1
    ∙ fronts-same vs ws i.0 j.0 count (let n = i.2 in omega arith) (let n = j.2 in omega arith) (λ e. common-all c.kinds x y count i.0 common i.2 (let n = j.2 in omega arith))
    ∙ sym (ap (λ v. same_value v (of y)) (sequence-value c a t.sort x over.built t.left ∙ ap (λ z. sequence (first_places z vs)) i.1)
    ∙ ap (same_value (sequence (take i.0 vs))) (sequence-value c a t.sort y over.built t.right ∙ ap (λ z. sequence (first_places z ws)) j.1)
    ∙ same_made sequence (take i.0 vs) (take j.0 ws) (tuple_one (take i.0 vs) (take j.0 ws)))

-- ---- one place more

pub places-none : (c : Cells) (f : Cnf) (k m : CellKind) (l : Lit) (ls after : List Lit) → HasValue f l (λ a. int_eq (word_value (length_word k) a) (word_value (length_word m) a)) → ls ≡ [] → after ≡ ls ++ l ∷ [] → TestsPlaces c f k m 0 after
places-none c f k m l ls after gate is pushed = record {
  named = named-push f.vars f.vars ls after l (rw is (All-nil (IsBelow f.vars))) (omega arith) gate.below pushed;
  values = λ a s. ap (list_all (λ x. lit_value x a)) (pushed ∙ ap (λ us. us ++ l ∷ []) is) ∙ ap (λ t. t && true) (gate.value a s);
}

pub places-off : (c : Cells) (f g : Cnf) (k m : CellKind) (i : ℕ) (l : Lit) (ls : List Lit) → TestsPlaces c f k m i ls → FormulaGrows f g → HasValue g l (λ a. reaches (word_value (length_word k) a) i)
    → ((a : List Bool) → Satisfies a g → lit_value l a ≡ false) → TestsPlaces c g k m (i + 1) ls
places-off c f g k m i l ls h grows gate off = record {
  named = named-later f.vars g.vars ls h.named grows.vars;
  values = λ a s.
      let of : CellId → Value = decode c a in
      let long : ℤ = word_value (length_word k) a in
      let p : ℕ → Bool = λ i. not (reaches long i) || same_value (part_value of k i) (part_value of m i) in
      let here : p i ≡ true = ap (λ t. not t || same_value (part_value of k i) (part_value of m i)) (sym (gate.value a s) ∙ off a s) in
      h.values a (Satisfies-older f g a grows s) ∙ ap (λ t. int_eq long (word_value (length_word m) a) && t) (sym (below-next i p ∙ ap (λ t. all_below i p && t) here ∙ last (all_below i p)));
}

part-at : (of : CellId → Value) (k : CellKind) (i : ℕ) (part : CellId) → i < length (parts_of k) → part ≡ get_or (parts_of k) i part → of part ≡ part_value of k i
part-at of k i part lt is = ap of is ∙ sym (get_or-map of (parts_of k) i part (value.Bool false) lt)

pub places-more : (c : Cells) (f g h j : Cnf) (k m : CellKind) (i : ℕ) (here turned one holds : Lit) (left right : CellId) (ls after : List Lit) → TestsPlaces c f k m i ls → FormulaGrows f g → FormulaGrows g h → FormulaGrows h j
    → i < length (parts_of k) → i < length (parts_of m) → left ≡ get_or (parts_of k) i left → right ≡ get_or (parts_of m) i right → HasValue g here (λ a. reaches (word_value (length_word k) a) i)
    → ((a : List Bool) → lit_value turned a ≡ not (lit_value here a)) → HasValue h one (λ a. same_value (decode c a left) (decode c a right)) → HasValue j holds (λ a. lit_value turned a || lit_value one a) → after ≡ ls ++ holds ∷ []
    → TestsPlaces c j k m (i + 1) after
places-more c f g h j k m i here turned one holds left right ls after old fg gh hj p q l r reach turns same gate pushed = record {
  named = named-push f.vars j.vars ls after holds old.named (let u = fg.vars in let v = gh.vars in let w = hj.vars in omega arith) gate.below pushed;
  values = λ a s3.
      let s2 = Satisfies-older h j a hj s3 in
      let s1 = Satisfies-older g h a gh s2 in
      let s0 = Satisfies-older f g a fg s1 in
      let of : CellId → Value = decode c a in
      let long : ℤ = word_value (length_word k) a in
      let pass : ℕ → Bool = λ i. not (reaches long i) || same_value (part_value of k i) (part_value of m i) in
      let new : lit_value holds a ≡ pass i =
      gate.value a s3 ∙ ap (λ t. t || lit_value one a) (turns a ∙ ap not (reach.value a s1)) ∙ ap (λ t. not (reaches long i) || t) (same.value a s2 ∙ ap (λ v. same_value v (of right)) (part-at of k i left p l) ∙ ap (same_value (part_value of k i)) (part-at of m i right q r)) in
      ap (list_all (λ x. lit_value x a)) pushed ∙ list_all-append (λ x. lit_value x a) ls (holds ∷ []) ∙ ap (λ t. list_all (λ x. lit_value x a) ls && t) (last (lit_value holds a) ∙ new)
      ∙ ap (λ t. t && pass i) (old.values a s0)
      ∙ assoc (int_eq long (word_value (length_word m) a)) (all_below i pass) (pass i)
      ∙ ap (λ t. int_eq long (word_value (length_word m) a) && t) (sym (below-next i pass));
}
  where
    assoc : (p q r : Bool) → ((p && q) && r) ≡ (p && (q && r))
    assoc true q r = refl
    assoc false q r = refl

-- ---- lengths as words

pub length-named : (c : Cells) (f : Cnf) (n : ℕ) (k : CellKind) (w : List Lit) (ps : List CellId) → IsOver c f → IsHeld n c.vars c.width k → k ≡ Seq w ps → WordBelow f.vars w
length-named c f n k w ps over held e =
    let P : CellKind → Type 0 = NamesBelow c.vars in
    WordBelow-later c.vars f.vars w (subst P e held.named) over.fits

-- the bits of a length tell which places there are
pub place-reached : (c : Cells) (f : Cnf) (a : List Bool) (x : CellId) (w : List Lit) (ps : List CellId) (bits : List Lit) (place : ℕ) → IsOver c f → Satisfies a f → x.index < length c.kinds → kind_at c.kinds x ≡ Seq w ps
    → ((n : ℕ) → word_value w a ≡ pos n → n ≤ length ps → number (values bits a) ≡ n) → nat_lt place (number (values bits a)) ≡ reaches (word_value (length_word (kind_at c.kinds x)) a) place
place-reached c f a x w ps bits place over s lt is low =
    let n = length-of (length ps) (word_value w a) (length-in c f a x w ps over.ranges s lt is) in
    ap (nat_lt place) (low n.0 n.1 n.2) ∙ sym (ap (λ k. reaches (word_value (length_word k) a) place) is ∙ ap (λ z. reaches z place) n.1)
