-- The cells that the tests make are of their sorts.
use Rattle.std.proofs.Common.{◌≡◌, ℕ, zero, suc, ◌+◌, ◌^◌, ◌<◌, ◌≤◌, Bool, true, false, not, ◌||◌, ◌&&◌, IsTrue, List, [], ◌∷◌, ◌++◌, All, length, get_or, refl, sym, ◌∙◌, ap, subst, arith, nat_lt, ℤ, pos}
use Rattle.std.proofs.lemmas.Bool.Decides.{Decides-ltb}
use Rattle.std.proofs.lemmas.Bool.{lt-ltb}
use Rattle.std.proofs.lemmas.List.Elements.{All-nil, All-cons, All-push, All-weaker}
use Rattle.sat_formula.specs.declared.lit.Lit.{Lit}
use Rattle.cell_arena.specs.declared.build.Build.{Build}
use Rattle.cell_arena.specs.declared.kinds.CellId.{CellId}
use Rattle.cell_arena.specs.declared.kinds.CellKind.{CellKind}
use Rattle.sat_formula.specs.declared.cnf.Cnf.{Cnf}
use Rattle.sat_formula.specs.Lit.{IsBelow}
use Rattle.sat_formula.specs.Formula.{Satisfies}
use Rattle.word_blaster.specs.Word.{IsExact, fits_width, word_value}
use Rattle.cell_arena.specs.Growth.{Grows}
use Rattle.cell_merge.specs.Arrows.{LeadFrom, ArrowsNamed}
use Rattle.cell_merge.proofs.SortLaws.{OfSort-later}
use Rattle.cell_arena.specs.Cells.{AllDiffer, is_index}
use Rattle.cell_arena.proofs.Differing.{same-texts}
use Rattle.cell_merge.specs.Sorts.{Sort, OfSort, ArePlaced, OneType, number, truth}
use Rattle.function_rewriter.specs.Functions.{HasField, IsField, IsItem}
use Rattle.function_tests.specs.Shapes.{IsArrow, either_sort, names, pair_sort, entry_sort}

pub placed-two : (ks : List CellKind) (s t : Sort) (x y : CellId) → OfSort ks s x → OfSort ks t y → ArePlaced 2 (λ i. OfSort ks (either_sort s t i)) (x ∷ y ∷ [])
placed-two ks s t x y p q = (refl, places)
  where
    places : (i : ℕ) (d : CellId) → i < 2 → OfSort ks (either_sort s t i) (get_or (x ∷ y ∷ []) i d)
    places zero d lt = p
    places (suc zero) d lt = q
    places (suc (suc i)) d lt = absurd (omega arith)

pub both-edges : (ks : List CellKind) (s : Sort) (x y : Lit × CellId) → OfSort ks s x.1 → OfSort ks s y.1 → All (λ (e : Lit × CellId). OfSort ks s e.1) (x ∷ y ∷ [])
both-edges ks s x y p q = let P : Lit × CellId → Type 0 = λ e. OfSort ks s e.1 in All-cons P x (y ∷ []) p (All-cons P y [] q (All-nil P))

pub has-number : (ks : List CellKind) (r : CellId) (t : List ℕ) → OfSort ks entry_sort r → t ≡ 110 ∷ [] → HasField ks r t
has-number ks r t h e = record { names = names; sorts = either_sort number pair_sort; is = h; place = 0; within = omega arith; named = sym e }

pub has-pair : (ks : List CellKind) (r : CellId) (t : List ℕ) → OfSort ks entry_sort r → t ≡ 112 ∷ [] → HasField ks r t
has-pair ks r t h e = record { names = names; sorts = either_sort number pair_sort; is = h; place = 1; within = omega arith; named = sym e }

pub number-there : (b : Build) (r : CellId) (t : List ℕ) (id : CellId) → OfSort b.arena.kinds entry_sort r → t ≡ 110 ∷ [] → IsField b r t id → id.index < length b.arena.kinds
number-there b r t id h e is = (is.sort names (either_sort number pair_sort) 0 h (omega arith) (sym e)).0

pub pair-there : (b : Build) (r : CellId) (t : List ℕ) (id : CellId) → OfSort b.arena.kinds entry_sort r → t ≡ 112 ∷ [] → IsField b r t id → id.index < length b.arena.kinds
pair-there b r t id h e is = (is.sort names (either_sort number pair_sort) 1 h (omega arith) (sym e)).0

pub first-there : (b : Build) (t id : CellId) → OfSort b.arena.kinds pair_sort t → IsItem b t 1 id → id.index < length b.arena.kinds
first-there b t id h is = (is.sort 2 (either_sort number truth) h).0

pub second-there : (b : Build) (t id : CellId) → OfSort b.arena.kinds pair_sort t → IsItem b t 2 id → id.index < length b.arena.kinds
second-there b t id h is = (is.sort 2 (either_sort number truth) h).0

pub one-type : (ks : List CellKind) (s : Sort) (x y : CellId) → OfSort ks s x → OfSort ks s y → OneType ks x y
one-type ks s x y p q = record { sort = s; left = p; right = q }

numbers-apart : (m n : ℕ) → m ≡ n → m < n → ⊥
numbers-apart m n e lt = omega arith

abbrev first-name : List ℕ
first-name = 110 ∷ []

abbrev second-name : List ℕ
second-name = 112 ∷ []

pub names-differ : AllDiffer names
names-differ = ap (λ t. not (t || false) && (not false && true)) (same-texts first-name second-name false (never, apart))
  where
    never : IsTrue false → first-name ≡ second-name
    never h = absurd (cc)

    apart : first-name ≡ second-name → IsTrue false
    apart e = absurd (numbers-apart 110 112 (ap (λ (l : List ℕ). get_or l 0 0) e) (omega arith))

-- ---- functions and sequences

abbrev Arrow : Type 0
Arrow = Lit × CellId × CellId

pub arrows-more : (b c : Build) (es after : List Arrow) (e : Arrow) → LeadFrom b.arena.kinds number truth es → Grows b c → IsArrow c e → after ≡ es ++ e ∷ [] → LeadFrom c.arena.kinds number truth after
arrows-more b c es after e h g one pushed =
    rw pushed (All-push (λ (e : Arrow). OfSort c.arena.kinds number e.1 × OfSort c.arena.kinds truth e.2) es e
    (All-weaker (λ (e : Arrow). OfSort b.arena.kinds number e.1 × OfSort b.arena.kinds truth e.2) (λ (e : Arrow). OfSort c.arena.kinds number e.1 × OfSort c.arena.kinds truth e.2)
    (λ e p. (OfSort-later b c number e.1 p.0 g, OfSort-later b c truth e.2 p.1 g)) es h) (one.argument, one.result))

pub arrow-names-more : (b c : Build) (es after : List Arrow) (e : Arrow) → ArrowsNamed b.formula.vars es → Grows b c → IsArrow c e → after ≡ es ++ e ∷ [] → ArrowsNamed c.formula.vars after
arrow-names-more b c es after e h g one pushed =
    rw pushed (All-push (λ (e : Arrow). IsBelow c.formula.vars e.0) es e
    (All-weaker (λ (e : Arrow). IsBelow b.formula.vars e.0) (λ (e : Arrow). IsBelow c.formula.vars e.0) (λ e p. let v = g.formula.vars in omega arith) es h) one.below)

pub places-more : (s : Sort) (b c : Build) (ps after : List CellId) (p : CellId) → All (OfSort b.arena.kinds s) ps → Grows b c → OfSort c.arena.kinds s p → after ≡ ps ++ p ∷ [] → All (OfSort c.arena.kinds s) after
places-more s b c ps after p h g one pushed =
    rw pushed (All-push (OfSort c.arena.kinds s) ps p (All-weaker (OfSort b.arena.kinds s) (OfSort c.arena.kinds s) (λ e q. OfSort-later b c s e q g) ps h) one)

pub numbers-there : (ks : List CellKind) (ps : List CellId) → All (OfSort ks number) ps → All (λ p. p.index < length ks) ps
numbers-there ks ps h = All-weaker (OfSort ks number) (λ p. p.index < length ks) (λ p q. q.0) ps h

-- a length is within its places
pub length-within : (z : ℤ) (n m : ℕ) → z ≡ pos n → n ≤ m → IsTrue (is_index (m + 1) z)
length-within z n m e le = subst (λ z. IsTrue (is_index (m + 1) z)) (sym e) (lt-ltb n (m + 1) (omega arith))

-- a small number fits a word of 32 bits
pub exact-count : (f : Cnf) (word : List Lit) (out : Lit) (z : ℤ) (n : ℕ) → IsExact f 32 word out (λ a. z) → z ≡ pos n → n ≤ 100 → (a : List Bool) → Satisfies a f → word_value word a ≡ pos n
exact-count f word out z n h e le a s =
    let fits : nat_lt n (2 ^ 31) ≡ true = (Decides-ltb n (2 ^ 31)).1 (omega arith) in
    h.value a s (h.outside.value a s ∙ ap (λ z. not (fits_width 32 z)) e ∙ ap not fits) ∙ e
