-- Texts are equal where their codes are.
use Rattle.std.proofs.Common.{◌≡◌, ℕ, zero, suc, ◌<◌, Bool, true, false, ◌&&◌, ◌||◌, not, List, [], ◌∷◌, map, get_or, length, refl, sym, ◌∙◌, ap, subst, IsTrue, arith, ℤ, pos, negsuc, nat_lt}
use Rattle.std.specs.Ordering.{int_eq}
use Rattle.std.specs.List.{list_all}
use Rattle.std.proofs.lemmas.Bool.Decides.{Decides-int_eq}
use Rattle.std.proofs.Math.Facts.{ltb_yes}
use Rattle.sat_formula.specs.declared.lit.Lit.{Lit}
use Rattle.sat_formula.specs.declared.cnf.Cnf.{Cnf}
use Rattle.sat_formula.specs.Formula.{Satisfies, Grows}
use Rattle.word_blaster.specs.Word.{word_value, WordBelow, AreWords}
use Rattle.word_blaster.proofs.Words.{WordBelow-later}
use Rattle.tla_values.specs.Order.{same_value}
use Rattle.tla_values.specs.Sets.{member, distinct}
use Rattle.tla_values.specs.declared.value.Value.{Value}
use Rattle.tla_values.specs.declared.value.Value.TheVariants as value
use Rattle.tla_values.proofs.Extensional.{same_equal, same_itself, true_test}
use Rattle.cell_arena.proofs.Differing.{text_one}
use Rattle.cell_arena.proofs.Decoding.{decode-kind}
use Rattle.cell_arena.proofs.Growing.{InRange-later}
use Rattle.cell_merge.specs.Sorts.{IsOver}
use Rattle.cell_arena.specs.declared.kinds.CellId.{CellId}
use Rattle.cell_arena.specs.declared.kinds.CellKind.{CellKind}
use Rattle.cell_arena.specs.declared.kinds.CellKind.TheVariants.{Bit, Word, Text}
use Rattle.cell_arena.specs.Cells.{Cells, IsHeld, NamesBelow, is_index, in_range, InRange, kind_at, IsFormed}
use Rattle.cell_arena.specs.Decode.{text_at, kind_value, decode}

abbrev values_of : List (List ℕ) → List Value
values_of ts = map (λ t. value.Text t) ts

stands : (t : List ℕ) (ts : List (List ℕ)) (i : ℕ) → i < length ts → t ≡ get_or ts i [] → member (value.Text t) (values_of ts) ≡ true
stands t [] i lt e = absurd (omega arith)
stands t (u ∷ ts) zero lt e = ap (λ b. b || member (value.Text t) (values_of ts)) (ap (λ x. same_value (value.Text t) (value.Text x)) (sym e) ∙ same_itself (value.Text t))
stands t (u ∷ ts) (suc i) lt e = later (same_value (value.Text t) (value.Text u)) (stands t ts i (omega arith) e)
  where
    later : (b : Bool) → member (value.Text t) (values_of ts) ≡ true → (b || member (value.Text t) (values_of ts)) ≡ true
    later true h = refl
    later false h = h

first-alone : (p q : Bool) → IsTrue (not p && q) → p ≡ true → ⊥
first-alone true q h e = cc
first-alone false q h e = cc

rest-so : (p q : Bool) → IsTrue (not p && q) → IsTrue q
rest-so true q h = absurd (cc)
rest-so false q h = h

-- different texts stand at different places
pub place-one : (ts : List (List ℕ)) → IsTrue (distinct (values_of ts)) → (i j : ℕ) → i < length ts → j < length ts → get_or ts i [] ≡ get_or ts j [] → i ≡ j
place-one [] d i j p q e = absurd (omega arith)
place-one (t ∷ ts) d zero zero p q e = refl
place-one (t ∷ ts) d zero (suc j) p q e = absurd (first-alone _ _ d (stands t ts j (omega arith) e))
place-one (t ∷ ts) d (suc i) zero p q e = absurd (first-alone _ _ d (stands t ts i (omega arith) (sym e)))
place-one (t ∷ ts) d (suc i) (suc j) p q e = ap (λ (n : ℕ). suc n) (place-one ts (rest-so _ _ d) i j (omega arith) (omega arith) e)

pub below : (m n : ℕ) → IsTrue (nat_lt m n) → m < n
below m n h = grind (arith, ltb_yes)

codes : (ts : List (List ℕ)) (m n : ℤ) → IsTrue (distinct (values_of ts)) → IsTrue (is_index (length ts) m) → IsTrue (is_index (length ts) n) → text_at ts m ≡ text_at ts n → m ≡ n
codes ts (pos i) (pos j) d p q e = ap pos (place-one ts d i j (below i (length ts) p) (below j (length ts) q) e)
codes ts (pos i) (negsuc j) d p q e = absurd (cc)
codes ts (negsuc i) n d p q e = absurd (cc)

pub same-codes : (ts : List (List ℕ)) (m n : ℤ) → IsTrue (distinct (values_of ts)) → IsTrue (is_index (length ts) m) → IsTrue (is_index (length ts) n)
    → int_eq m n ≡ same_value (value.Text (text_at ts m)) (value.Text (text_at ts n))
same-codes ts m n d p q = true_test _ _
    (λ e. subst (λ k. same_value (value.Text (text_at ts m)) (value.Text (text_at ts k)) ≡ true) ((Decides-int_eq m n).0 e) (same_itself (value.Text (text_at ts m))))
    (λ e. (Decides-int_eq m n).1 (codes ts m n d p q (text_one (text_at ts m) (text_at ts n) (same_equal _ _ e))))

pub all-at : (p : CellKind → Bool) (ks : List CellKind) (i : ℕ) (d : CellKind) → i < length ks → IsTrue (list_all p ks) → IsTrue (p (get_or ks i d))
all-at p [] i d lt h = absurd (omega arith)
all-at p (k ∷ ks) zero d lt h = first (p k) h
  where
    first : (b : Bool) → IsTrue (b && list_all p ks) → IsTrue b
    first true e = refl
    first false e = e
all-at p (k ∷ ks) (suc i) d lt h = all-at p ks i d (omega arith) (rest (p k) h)
  where
    rest : (b : Bool) → IsTrue (b && list_all p ks) → IsTrue (list_all p ks)
    rest true e = e
    rest false e = absurd (cc)

-- the code of a text is an index
pub code-in : (c : Cells) (f : Cnf) (a : List Bool) (id : CellId) (w : List Lit) → InRange c f → Satisfies a f → id.index < length c.kinds → kind_at c.kinds id ≡ Text w
    → IsTrue (is_index (length c.texts) (word_value w a))
unfolding InRange
code-in c f a id w h s lt e =
    let P : CellKind → Type 0 = λ k. IsTrue (in_range (length c.texts) a k) in
    subst P e (all-at (in_range (length c.texts) a) c.kinds id.index (Bit (record { var = 0; neg = false })) lt (h a s))

pub same-names : (c : Cells) (f : Cnf) (a : List Bool) (x y : CellId) (v w : List Lit) → IsOver c f → Satisfies a f → x.index < length c.kinds → y.index < length c.kinds
    → kind_at c.kinds x ≡ Text v → kind_at c.kinds y ≡ Text w → int_eq (word_value v a) (word_value w a) ≡ same_value (decode c a x) (decode c a y)
same-names c f a x y v w over s p q e g =
    let of : CellId → Value = decode c a in
    let left : of x ≡ value.Text (text_at c.texts (word_value v a)) = decode-kind c a x over.built p ∙ ap (kind_value c.texts a of) e in
    let right : of y ≡ value.Text (text_at c.texts (word_value w a)) = decode-kind c a y over.built q ∙ ap (kind_value c.texts a of) g in
    same-codes c.texts (word_value v a) (word_value w a) over.built.differ (code-in c f a x v over.ranges s p e) (code-in c f a y w over.ranges s q g)
    ∙ sym (ap (λ u. same_value u (of y)) left ∙ ap (λ u. same_value (value.Text (text_at c.texts (word_value v a))) u) right)

pub IsOver-later : (c : Cells) (f g : Cnf) → IsOver c f → Grows f g → IsOver c g
IsOver-later c f g over h = record { fits = let p = over.fits in let q = h.vars in omega arith; built = over.built; ranges = InRange-later c f g over.ranges h }

pub ruleset over = (IsOver-later)

-- a word that a cell names, in a larger formula
word-named : (c : Cells) (f : Cnf) (n : ℕ) (k : CellKind) (v : List Lit) → IsOver c f → IsHeld n c.vars c.width k → k ≡ Word v → WordBelow f.vars v
word-named c f n k v over held e =
    let P : CellKind → Type 0 = NamesBelow c.vars in
    WordBelow-later c.vars f.vars v (subst P e held.named) over.fits

text-named : (c : Cells) (f : Cnf) (n : ℕ) (k : CellKind) (v : List Lit) → IsOver c f → IsHeld n c.vars c.width k → k ≡ Text v → WordBelow f.vars v
text-named c f n k v over held e =
    let P : CellKind → Type 0 = NamesBelow c.vars in
    WordBelow-later c.vars f.vars v (subst P e held.named) over.fits

-- two words, and two codes, are of one width
pub words-alike : (c : Cells) (f : Cnf) (m n : ℕ) (k l : CellKind) (v w : List Lit) → IsOver c f
    → IsHeld m c.vars c.width k → IsHeld n c.vars c.width l → k ≡ Word v → l ≡ Word w → AreWords f.vars v w
words-alike c f m n k l v w over one two e d =
    let P : CellKind → Type 0 = IsFormed c.width in
    record {
      left = word-named c f m k v over one e;
      right = word-named c f n l w over two d;
      same = subst P e one.formed ∙ sym (subst P d two.formed);
    }

pub texts-alike : (c : Cells) (f : Cnf) (m n : ℕ) (k l : CellKind) (v w : List Lit) → IsOver c f
    → IsHeld m c.vars c.width k → IsHeld n c.vars c.width l → k ≡ Text v → l ≡ Text w → AreWords f.vars v w
texts-alike c f m n k l v w over one two e d =
    let P : CellKind → Type 0 = IsFormed c.width in
    record {
      left = text-named c f m k v over one e;
      right = text-named c f n l w over two d;
      same = subst P e one.formed ∙ sym (subst P d two.formed);
    }
