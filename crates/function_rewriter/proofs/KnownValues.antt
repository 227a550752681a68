-- Cells of known values, and the domains of records and tuples.
use Rattle.std.proofs.Common.{◌≡◌, ℕ, zero, suc, ◌+◌, ◌<◌, ◌≤◌, Bool, true, false, cond, ◌||◌, IsTrue, List, [], ◌∷◌, ◌++◌, map, length, take, get_or, All, Option, Some, None, is_some, pos, refl, ap, ◌∙◌, sym, subst, arith}
use Rattle.std.specs.Cmp.{int_cmp_is}
use Rattle.std.specs.declared.cmp.Ordering.TheVariants.{Less}
use Rattle.std.proofs.lemmas.Int.{ints}
use Rattle.std.proofs.lemmas.Bool.Decides.{nat_tests}
use Rattle.std.proofs.lemmas.List.{map-append, length-map, get_or-map, take_more, take_all}
use Rattle.std.proofs.lemmas.List.Elements.{All-push, All-nil}
use Rattle.sat_formula.specs.declared.lit.Lit.{Lit}
use Rattle.sat_formula.specs.Lit.{lit_value, IsBelow}
use Rattle.sat_formula.specs.Formula.{Satisfies}
use Rattle.tla_values.specs.Integers.{fits_width}
use Rattle.tla_values.specs.Order.{same_value, value_cmp}
use Rattle.tla_values.specs.Sequences.{numbered}
use Rattle.tla_values.specs.Sets.{arguments, by_order, insert, member, set_of}
use Rattle.tla_values.specs.declared.value.Value.{Value}
use Rattle.tla_values.specs.declared.value.Value.TheVariants as value
use Rattle.tla_values.specs.declared.value.Value.TheOpen as layer
use Rattle.tla_values.proofs.Extensional.{same_itself, same_equal}
use Rattle.tla_values.proofs.OrderLemmas.{by_kinds}
use Rattle.cell_arena.specs.declared.build.Build.{Build}
use Rattle.cell_arena.specs.declared.kinds.CellId.{CellId}
use Rattle.cell_arena.specs.declared.kinds.CellKind.{CellKind}
use Rattle.cell_arena.specs.declared.kinds.CellKind.TheVariants.{Bit, Word, Text, Set, Fun, Rec, Tup, Seq}
use Rattle.cell_arena.specs.Cells.{Cells, kind_at}
use Rattle.cell_arena.specs.Decode.{decode, kind_value, present, field_pairs}
use Rattle.cell_arena.specs.Growth.{Grows, Decodes, Adds, Keeps}
use Rattle.cell_arena.proofs.Decoding.{map-agree}
use Rattle.cell_arena.proofs.Differing.{text_one}
use Rattle.cell_arena.proofs.Growing.{Decodes-same, Satisfies-before, decode-before}
use Rattle.cell_merge.specs.Sorts.{Sort, OfSort, truth, number, name, set_of as set_sort, function_of as function_sort, sequence_of, record_of, tuple_of, IsBit, IsWord, IsText, IsSet, IsFunction, IsSequence, IsRecord, IsTuple}
use Rattle.cell_merge.specs.Composites.{parts_of}
use Rattle.cell_merge.specs.Edges.{LeadTo}
use Rattle.cell_merge.proofs.Chosen.{lead-there}
use Rattle.cell_merge.proofs.Edges.{sort-there, is-function, is-record, is-tuple}
use Rattle.cell_merge.proofs.Layering.{LeadTo-later}
use Rattle.cell_merge.proofs.Present.{present-append, present-one}
use Rattle.cell_merge.proofs.SortLaws.{sort-set}
use Rattle.cell_merge.proofs.Unions.{AreNamed-later}
use Rattle.function_rewriter.specs.Functions.{pairs_of}
use Rattle.function_rewriter.specs.Arrows.{HasDomain, of_function, of_record, of_tuple, IsDomain, domain_sort}
use Rattle.function_rewriter.specs.inner.Arrows.{IsArguments, IsFunctionIn}
use Rattle.function_rewriter.specs.inner.Constants.{names_of, HasNames, IsNameIndex, AreIndexes, IsConstant, ConstantEdges, IsConstantSet, numbers_from}
use Rattle.function_rewriter.proofs.Composites.{pairs-fun}
use Rattle.function_rewriter.proofs.PairLists.{arguments_function}

abbrev Edge : Type 0
Edge = Lit × CellId

-- ---- texts among texts

pub text-stands : (t : List ℕ) (ts : List (List ℕ)) (i : ℕ) → i < length ts → get_or ts i [] ≡ t → member (value.Text t) (map (λ t. value.Text t) ts) ≡ true
text-stands t [] i lt e = absurd (omega arith)
text-stands t (u ∷ ts) zero lt e = ap (λ b. b || member (value.Text t) (map (λ t. value.Text t) ts)) (ap (λ x. same_value (value.Text t) (value.Text x)) e ∙ same_itself (value.Text t))
text-stands t (u ∷ ts) (suc i) lt e = later (same_value (value.Text t) (value.Text u)) (text-stands t ts i (omega arith) e)
  where
    later : (b : Bool) → member (value.Text t) (map (λ t. value.Text t) ts) ≡ true → (b || member (value.Text t) (map (λ t. value.Text t) ts)) ≡ true
    later true h = refl
    later false h = h

pub text-stands-not : (t : List ℕ) (ts : List (List ℕ)) → ((i : ℕ) → i < length ts → get_or ts i [] ≡ t → ⊥) → member (value.Text t) (map (λ t. value.Text t) ts) ≡ false
text-stands-not t [] h = refl
text-stands-not t (u ∷ ts) h = apart (same_value (value.Text t) (value.Text u)) refl ∙ text-stands-not t ts (λ i lt e. h (suc i) (omega arith) e)
  where
    apart : (b : Bool) → same_value (value.Text t) (value.Text u) ≡ b → (same_value (value.Text t) (value.Text u) || member (value.Text t) (map (λ t. value.Text t) ts)) ≡ member (value.Text t) (map (λ t. value.Text t) ts)
    apart true e = absurd (h 0 (omega arith) (sym (text_one t u (same_equal _ _ e))))
    apart false e = ap (λ b. b || member (value.Text t) (map (λ t. value.Text t) ts)) e

-- ---- edges to cells of known values

pub texts-later : (b c : Build) → Grows b c → c.arena.texts ≡ b.arena.texts
unfolding Keeps
texts-later b c g = g.keeps.texts

pub width-later : (b c : Build) → Grows b c → c.arena.width ≡ b.arena.width
unfolding Keeps
width-later b c g = g.keeps.width

present-before : (b c : Build) (a : List Bool) (s : Sort) (es : List Edge) → Grows b c → LeadTo b.arena.kinds s es → present a (decode c.arena a) es ≡ present a (decode b.arena a) es
present-before b c a s es g h =
    map-agree (λ (e : Edge). lit_value e.0 a) (λ (e : Edge). decode c.arena a e.1) (λ (e : Edge). decode b.arena a e.1) es (λ i d lt. decode-before b c a (get_or es i d).1 g (sort-there b.arena.kinds s _ (h i d lt)))

pub constants-none : (b : Build) (s : Sort) (es : List Edge) → es ≡ [] → ConstantEdges b s [] es
constants-none b s es is = rw is (record { cells = All-nil (λ (e : Edge). OfSort b.arena.kinds s e.1); named = All-nil (λ (e : Edge). IsBelow b.formula.vars e.0); there = λ a sat. refl })

pub constants-push : (b c : Build) (s : Sort) (vs : List Value) (v : Value) (es after : List Edge) (top : Lit) (id : CellId) → ConstantEdges b s vs es → Grows b c → IsConstant c s v id → top.var < b.formula.vars
    → ((a : List Bool) → Satisfies a b.formula → lit_value top a ≡ true) → after ≡ es ++ (top, id) ∷ [] → ConstantEdges c s (vs ++ v ∷ []) after
constants-push b c s vs v es after top id h g one below on pushed = record {
  cells = rw pushed (All-push (λ (e : Edge). OfSort c.arena.kinds s e.1) es (top, id) (LeadTo-later b c s es h.cells g) one.sort);
  named = rw pushed (All-push (λ (e : Edge). IsBelow c.formula.vars e.0) es (top, id) (AreNamed-later b.formula.vars c.formula.vars es h.named g.formula.vars) (let q = g.formula.vars in omega arith));
  there = λ a sat.
      let s0 = Satisfies-before b c a g sat in
      let of : CellId → Value = decode c.arena a in
      ap (present a of) pushed ∙ present-append a of es ((top, id) ∷ []) ∙ ap (λ (l : List Value). l ++ present a of ((top, id) ∷ [])) (present-before b c a s es g h.cells ∙ h.there a s0)
      ∙ ap (λ (l : List Value). vs ++ l) (present-one a of (top, id) ∙ ap (λ (t : Bool). cond t (of id ∷ []) []) (on a s0) ∙ ap (λ (u : Value). u ∷ []) (one.cell.value a sat));
}

-- one more number
pub numbers-more : (k n : ℕ) → numbers_from k (n + 1) ≡ numbers_from k n ++ value.Int (pos (k + n)) ∷ []
numbers-more k zero = ap (λ (m : ℕ). value.Int (pos m) ∷ []) (omega arith)
numbers-more k (suc n) =
    let e : suc n + 1 ≡ suc (n + 1) = omega arith in
    let f : (k + 1) + n ≡ k + suc n = omega arith in
    ap (numbers_from k) e ∙ ap (λ (l : List Value). value.Int (pos k) ∷ l) (numbers-more (k + 1) n ∙ ap (λ (m : ℕ). numbers_from (k + 1) n ++ value.Int (pos m) ∷ []) f)

-- a number below one that fits
pub fits-below : (w m n : ℕ) → m < n + 1 → IsTrue (fits_width w (pos n)) → IsTrue (fits_width w (pos m))
fits-below w m n lt h = grind (arith, nat_tests)

-- the set that is made of them
pub constant-set : (b c : Build) (s : Sort) (vs : List Value) (es out : List Edge) (id : CellId) → ConstantEdges b s vs es → out ≡ es → Grows b c → Adds b c (Set out) id
    → Decodes c id (λ a. value.Set (set_of (present a (decode b.arena a) out))) → IsConstantSet c s vs id
constant-set b c s vs es out id h given g adds decodes = record {
  value = Decodes-same c id _ _ decodes (λ a sat. ap (λ (l : List Edge). value.Set (set_of (present a (decode b.arena a) l))) given ∙ ap (λ (l : List Value). value.Set (set_of l)) (h.there a (Satisfies-before b c a g sat)));
  sort = sort-set b c out s id adds g (rw given h.cells);
}

pub constants-older : (b : Build) (s : Sort) (vs : List Value) (es out : List Edge) → ConstantEdges b s vs es → out ≡ es → All (λ e. e.1.index < length b.arena.kinds) out
constants-older b s vs es out h given = rw given (lead-there b.arena.kinds s es h.cells)

-- ---- the arguments of records and tuples

field-arguments : (of : CellId → Value) (fs : List (List ℕ × CellId)) → arguments (field_pairs of fs) ≡ map (λ n. value.Text n) (names_of (Rec fs))
field-arguments of [] = refl
field-arguments of (f ∷ fs) = ap (λ (l : List Value). value.Text f.0 ∷ l) (field-arguments of fs)

number-arguments : (k : ℕ) (vs : List Value) → arguments (numbered k vs) ≡ numbers_from k (length vs)
number-arguments k [] = refl
number-arguments k (v ∷ vs) = ap (λ (l : List Value). value.Int (pos k) ∷ l) (number-arguments (k + 1) vs)

pub record-arguments : (c : Cells) (a : List Bool) (k : CellKind) (id : CellId) (fs : List (List ℕ × CellId)) → decode c a id ≡ kind_value c.texts a (decode c a) k → k ≡ Rec fs
    → arguments (pairs_of (decode c a id)) ≡ set_of (map (λ n. value.Text n) (names_of k))
record-arguments c a k id fs h is =
    ap arguments (ap pairs_of (h ∙ ap (kind_value c.texts a (decode c a)) is) ∙ pairs-fun _) ∙ arguments_function (field_pairs (decode c a) fs) ∙ ap set_of (field-arguments (decode c a) fs)
    ∙ ap (λ (k : CellKind). set_of (map (λ n. value.Text n) (names_of k))) (sym is)

next_number : (n : ℕ) → value_cmp (value.Int (pos n)) (value.Int (pos (n + 1))) ≡ Less
next_number n =
    by_kinds (value.Int (pos n)) (value.Int (pos (n + 1))) (layer.Int (pos n)) (layer.Int (pos (n + 1))) (value.outs-Int (pos n)) (value.outs-Int (pos (n + 1)))
    ∙ sym (int_cmp_is (pos n) (pos (n + 1)) Less (omega (arith, ints)))

-- numbers in a row are a set
numbers-set : (k n : ℕ) → set_of (numbers_from k n) ≡ numbers_from k n
numbers-set k zero = refl
numbers-set k (suc n) = ap (insert (value.Int (pos k))) (numbers-set (k + 1) n) ∙ front k n
  where
    front : (k n : ℕ) → insert (value.Int (pos k)) (numbers_from (k + 1) n) ≡ value.Int (pos k) ∷ numbers_from (k + 1) n
    front k zero = refl
    front k (suc n) = ap (λ o. by_order o (value.Int (pos k) ∷ numbers_from (k + 1) (suc n)) (numbers_from (k + 1) (suc n)) (value.Int (pos (k + 1)) ∷ insert (value.Int (pos k)) (numbers_from (k + 1 + 1) n))) (next_number k)

pub tuple-arguments : (c : Cells) (a : List Bool) (k : CellKind) (id : CellId) (ps : List CellId) → decode c a id ≡ kind_value c.texts a (decode c a) k → k ≡ Tup ps
    → arguments (pairs_of (decode c a id)) ≡ set_of (numbers_from 1 (length (parts_of k)))
tuple-arguments c a k id ps h is =
    ap arguments (ap pairs_of (h ∙ ap (kind_value c.texts a (decode c a)) is) ∙ pairs-fun _) ∙ number-arguments 1 (map (decode c a) ps) ∙ ap (numbers_from 1) (length-map ps (decode c a))
    ∙ sym (numbers-set 1 (length ps)) ∙ ap (λ (k : CellKind). set_of (numbers_from 1 (length (parts_of k)))) (sym is)

-- ---- what the condition of a domain says of each kind

module _ (b : Build) (f : CellId) (k : CellKind) (same : k ≡ kind_at b.arena.kinds f) where
  pub domain-function : HasDomain b f → (es : List (Lit × CellId × CellId)) → k ≡ Fun es → IsFunctionIn b.arena.kinds f
  domain-function (of_function s t h) es is = record { from = s; to = t; is = h }
  domain-function (of_record names s h n) es is = let P : CellKind → Type 0 = IsRecord names (λ i. OfSort b.arena.kinds (s i)) in absurd (subst P (sym same ∙ is) h.1)
  domain-function (of_tuple n s h w) es is = let P : CellKind → Type 0 = IsTuple n (λ i. OfSort b.arena.kinds (s i)) in absurd (subst P (sym same ∙ is) h.1)

  pub domain-names : HasDomain b f → (fs : List (List ℕ × CellId)) → k ≡ Rec fs → HasNames b.arena f
  domain-names (of_function s t h) fs is = let P : CellKind → Type 0 = IsFunction (OfSort b.arena.kinds s) (OfSort b.arena.kinds t) in absurd (subst P (sym same ∙ is) h.1)
  domain-names (of_record names s h n) fs is =
      let P : CellKind → Type 0 = IsRecord names (λ i. OfSort b.arena.kinds (s i)) in
      let e : names_of (kind_at b.arena.kinds f) ≡ names = ap names_of (sym same ∙ is) ∙ (subst P (sym same ∙ is) h.1).0 in
      record { there = h.0; names = rw e n }
  domain-names (of_tuple n s h w) fs is = let P : CellKind → Type 0 = IsTuple n (λ i. OfSort b.arena.kinds (s i)) in absurd (subst P (sym same ∙ is) h.1)

  pub domain-fits : HasDomain b f → (ps : List CellId) → k ≡ Tup ps → IsTrue (fits_width b.arena.width (pos (length (parts_of (kind_at b.arena.kinds f)))))
  domain-fits (of_function s t h) ps is = let P : CellKind → Type 0 = IsFunction (OfSort b.arena.kinds s) (OfSort b.arena.kinds t) in absurd (subst P (sym same ∙ is) h.1)
  domain-fits (of_record names s h n) ps is = let P : CellKind → Type 0 = IsRecord names (λ i. OfSort b.arena.kinds (s i)) in absurd (subst P (sym same ∙ is) h.1)
  domain-fits (of_tuple n s h w) ps is =
      let P : CellKind → Type 0 = IsTuple n (λ i. OfSort b.arena.kinds (s i)) in
      let e : length (parts_of (kind_at b.arena.kinds f)) ≡ n = ap (λ (k : CellKind). length (parts_of k)) (sym same ∙ is) ∙ (subst P (sym same ∙ is) h.1).0 in
      rw e w

  pub domain-there : HasDomain b f → f.index < length b.arena.kinds
  domain-there (of_function s t h) = h.0
  domain-there (of_record names s h n) = h.0
  domain-there (of_tuple n s h w) = h.0

-- ---- the sorts of domains

module _ (ks ms : List CellKind) (f id : CellId) where
  pub function-domain-sort : (es : List (Lit × CellId × CellId)) → kind_at ks f ≡ Fun es → ((s t : Sort) → OfSort ks (function_sort s t) f → OfSort ms (set_sort s) id) → (s : Sort) → OfSort ks s f → OfSort ms (domain_sort s) id
  function-domain-sort es is h truth p = let P : CellKind → Type 0 = IsBit in absurd (subst P is p.1)
  function-domain-sort es is h number p = let P : CellKind → Type 0 = IsWord in absurd (subst P is p.1)
  function-domain-sort es is h name p = let P : CellKind → Type 0 = IsText in absurd (subst P is p.1)
  function-domain-sort es is h (set_sort s) p = let P : CellKind → Type 0 = IsSet (OfSort ks s) in absurd (subst P is p.1)
  function-domain-sort es is h (function_sort s t) p = h s t p
  function-domain-sort es is h (sequence_of s) p = let P : CellKind → Type 0 = IsSequence (OfSort ks s) in absurd (subst P is p.1)
  function-domain-sort es is h (record_of names s) p = let P : CellKind → Type 0 = IsRecord names (λ i. OfSort ks (s i)) in absurd (subst P is p.1)
  function-domain-sort es is h (tuple_of n s) p = let P : CellKind → Type 0 = IsTuple n (λ i. OfSort ks (s i)) in absurd (subst P is p.1)

  pub record-domain-sort : (fs : List (List ℕ × CellId)) → kind_at ks f ≡ Rec fs → OfSort ms (set_sort name) id → (s : Sort) → OfSort ks s f → OfSort ms (domain_sort s) id
  record-domain-sort fs is h truth p = let P : CellKind → Type 0 = IsBit in absurd (subst P is p.1)
  record-domain-sort fs is h number p = let P : CellKind → Type 0 = IsWord in absurd (subst P is p.1)
  record-domain-sort fs is h name p = let P : CellKind → Type 0 = IsText in absurd (subst P is p.1)
  record-domain-sort fs is h (set_sort s) p = let P : CellKind → Type 0 = IsSet (OfSort ks s) in absurd (subst P is p.1)
  record-domain-sort fs is h (function_sort s t) p = let P : CellKind → Type 0 = IsFunction (OfSort ks s) (OfSort ks t) in absurd (subst P is p.1)
  record-domain-sort fs is h (sequence_of s) p = let P : CellKind → Type 0 = IsSequence (OfSort ks s) in absurd (subst P is p.1)
  record-domain-sort fs is h (record_of names s) p = h
  record-domain-sort fs is h (tuple_of n s) p = let P : CellKind → Type 0 = IsTuple n (λ i. OfSort ks (s i)) in absurd (subst P is p.1)

  pub tuple-domain-sort : (ps : List CellId) → kind_at ks f ≡ Tup ps → OfSort ms (set_sort number) id → (s : Sort) → OfSort ks s f → OfSort ms (domain_sort s) id
  tuple-domain-sort ps is h truth p = let P : CellKind → Type 0 = IsBit in absurd (subst P is p.1)
  tuple-domain-sort ps is h number p = let P : CellKind → Type 0 = IsWord in absurd (subst P is p.1)
  tuple-domain-sort ps is h name p = let P : CellKind → Type 0 = IsText in absurd (subst P is p.1)
  tuple-domain-sort ps is h (set_sort s) p = let P : CellKind → Type 0 = IsSet (OfSort ks s) in absurd (subst P is p.1)
  tuple-domain-sort ps is h (function_sort s t) p = let P : CellKind → Type 0 = IsFunction (OfSort ks s) (OfSort ks t) in absurd (subst P is p.1)
  tuple-domain-sort ps is h (sequence_of s) p = let P : CellKind → Type 0 = IsSequence (OfSort ks s) in absurd (subst P is p.1)
  tuple-domain-sort ps is h (record_of names s) p = let P : CellKind → Type 0 = IsRecord names (λ i. OfSort ks (s i)) in absurd (subst P is p.1)
  tuple-domain-sort ps is h (tuple_of n s) p = h

pub both-false : (t : Bool) → t ≡ false → (IsTrue false → IsTrue t) × (IsTrue t → IsTrue false)
both-false true e = absurd (cc)
both-false false e = (λ h. h, λ h. h)

-- one more turn of the loops that make edges
module _ (old mid new : Build) (es after : List Edge) (top : Lit) (id : CellId) (before : Grows old mid) (grows : Grows mid new) (below : top.var < old.formula.vars)
    (on : (a : List Bool) → Satisfies a old.formula → lit_value top a ≡ true) (pushed : after ≡ es ++ (top, id) ∷ []) where
  below-now : top.var < mid.formula.vars
  below-now = let q = before.formula.vars in omega arith

  pub numbers-turn : (i : ℕ) → ConstantEdges mid number (numbers_from 1 i) es → IsConstant new number (value.Int (pos (i + 1))) id → ConstantEdges new number (numbers_from 1 (i + 1)) after
  numbers-turn i h one =
      let e : value.Int (pos (i + 1)) ≡ value.Int (pos (1 + i)) = ap (λ (n : ℕ). value.Int (pos n)) (omega arith) in
      subst (λ (vs : List Value). ConstantEdges new number vs after) (sym (numbers-more 1 i))
      (constants-push mid new number (numbers_from 1 i) (value.Int (pos (1 + i))) es after top id h grows (subst (λ (v : Value). IsConstant new number v id) e one) below-now (λ a s. on a (Satisfies-before old mid a before s)) pushed)

  pub texts-turn : (indexes : List ℕ) (i d : ℕ) → i < length indexes → ConstantEdges mid name (map (λ (j : ℕ). value.Text (get_or old.arena.texts j [])) (take i indexes)) es
      → IsConstant new name (value.Text (get_or mid.arena.texts (get_or indexes i d) [])) id → ConstantEdges new name (map (λ (j : ℕ). value.Text (get_or old.arena.texts j [])) (take (i + 1) indexes)) after
  texts-turn indexes i d lt h one =
      let text : ℕ → Value = λ (j : ℕ). value.Text (get_or old.arena.texts j []) in
      let same : value.Text (get_or mid.arena.texts (get_or indexes i d) []) ≡ text (get_or indexes i d) = ap (λ (ts : List (List ℕ)). value.Text (get_or ts (get_or indexes i d) [])) (texts-later old mid before) in
      subst (λ (vs : List Value). ConstantEdges new name vs after) (sym (ap (map text) (take_more indexes i d lt) ∙ map-append text (take i indexes) (get_or indexes i d ∷ [])))
      (constants-push mid new name (map text (take i indexes)) (text (get_or indexes i d)) es after top id h grows (subst (λ (v : Value). IsConstant new name v id) same one) below-now (λ a s. on a (Satisfies-before old mid a before s)) pushed)

pub texts-all : (b : Build) (texts : List (List ℕ)) (indexes : List ℕ) (i : ℕ) (es : List Edge) → length indexes ≤ i → ConstantEdges b name (map (λ (j : ℕ). value.Text (get_or texts j [])) (take i indexes)) es
    → ConstantEdges b name (map (λ (j : ℕ). value.Text (get_or texts j [])) indexes) es
texts-all b texts indexes i es le h = subst (λ (l : List ℕ). ConstantEdges b name (map (λ (j : ℕ). value.Text (get_or texts j [])) l) es) (take_all i indexes le) h

-- ---- the domains of the three kinds

pub domain-other : (b : Build) (f : CellId) (k : CellKind) → k ≡ kind_at b.arena.kinds f → HasDomain b f → ((es : List (Lit × CellId × CellId)) → k ≡ Fun es → ⊥) → ((fs : List (List ℕ × CellId)) → k ≡ Rec fs → ⊥)
    → ((ps : List CellId) → k ≡ Tup ps → ⊥) → ⊥
domain-other b f k same (of_function s t h) no-function no-record no-tuple = let e = is-function (OfSort b.arena.kinds s) (OfSort b.arena.kinds t) (kind_at b.arena.kinds f) h.1 in no-function e.0 (same ∙ e.1)
domain-other b f k same (of_record names s h n) no-function no-record no-tuple = let e = is-record names (λ i. OfSort b.arena.kinds (s i)) (kind_at b.arena.kinds f) h.1 in no-record e.0 (same ∙ e.1)
domain-other b f k same (of_tuple n s h w) no-function no-record no-tuple = let e = is-tuple n (λ i. OfSort b.arena.kinds (s i)) (kind_at b.arena.kinds f) h.1 in no-tuple e.0 (same ∙ e.1)

pub is-function-domain : (old new : Build) (f id : CellId) (k : CellKind) (es : List (Lit × CellId × CellId)) → k ≡ kind_at old.arena.kinds f → k ≡ Fun es → IsArguments old new f id → IsDomain old new f id
is-function-domain old new f id k es same is h = record { value = h.value; sort = function-domain-sort old.arena.kinds new.arena.kinds f id es (sym same ∙ is) h.sort }

pub is-record-domain : (old new : Build) (f id : CellId) (k : CellKind) (fs : List (List ℕ × CellId)) → k ≡ kind_at old.arena.kinds f → k ≡ Rec fs → ((a : List Bool) → decode old.arena a f ≡ kind_value old.arena.texts a (decode old.arena a) k)
    → IsConstantSet new name (map (λ n. value.Text n) (names_of (kind_at old.arena.kinds f))) id → IsDomain old new f id
is-record-domain old new f id k fs same is decodes h = record {
  value = Decodes-same new id _ _ h.value
      (λ a s. ap (λ vs. value.Set vs) (ap (λ (k : CellKind). set_of (map (λ n. value.Text n) (names_of k))) (sym same) ∙ sym (record-arguments old.arena a k f fs (decodes a) is)));
  sort = record-domain-sort old.arena.kinds new.arena.kinds f id fs (sym same ∙ is) h.sort;
}

pub is-tuple-domain : (old new : Build) (f id : CellId) (k : CellKind) (ps : List CellId) → k ≡ kind_at old.arena.kinds f → k ≡ Tup ps → ((a : List Bool) → decode old.arena a f ≡ kind_value old.arena.texts a (decode old.arena a) k)
    → IsConstantSet new number (numbers_from 1 (length (parts_of (kind_at old.arena.kinds f)))) id → IsDomain old new f id
is-tuple-domain old new f id k ps same is decodes h = record {
  value = Decodes-same new id _ _ h.value
      (λ a s. ap (λ vs. value.Set vs) (ap (λ (k : CellKind). set_of (numbers_from 1 (length (parts_of k)))) (sym same) ∙ sym (tuple-arguments old.arena a k f ps (decodes a) is)));
  sort = tuple-domain-sort old.arena.kinds new.arena.kinds f id ps (sym same ∙ is) h.sort;
}

-- ---- the indexes of names

pub names-set : (b : Build) (texts names : List (List ℕ)) (indexes : List ℕ) (id : CellId) → AreIndexes texts names indexes → IsConstantSet b name (map (λ (i : ℕ). value.Text (get_or texts i [])) indexes) id
    → IsConstantSet b name (map (λ n. value.Text n) names) id
names-set b texts names indexes id are h =
    subst (λ (vs : List Value). IsConstantSet b name vs id)
    (sym (map-map' indexes) ∙ ap (map (λ (n : List ℕ). value.Text n)) are.named) h
  where
    map-map' : (is : List ℕ) → map (λ (n : List ℕ). value.Text n) (map (λ (i : ℕ). get_or texts i []) is) ≡ map (λ (i : ℕ). value.Text (get_or texts i [])) is
    map-map' [] = refl
    map-map' (i ∷ is) = ap (λ (l : List Value). value.Text (get_or texts i []) ∷ l) (map-map' is)

pub indexes-none : (texts names : List (List ℕ)) (indexes : List ℕ) → indexes ≡ [] → AreIndexes texts (take 0 names) indexes
indexes-none texts names indexes is = rw is (record { within = All-nil (λ i. i < length texts); named = refl })

pub indexes-push : (c : Cells) (r : CellId) (place index : ℕ) (before after : List ℕ) → place < length (names_of (kind_at c.kinds r)) → AreIndexes c.texts (take place (names_of (kind_at c.kinds r))) before
    → IsNameIndex c r place index → after ≡ before ++ index ∷ [] → AreIndexes c.texts (take (place + 1) (names_of (kind_at c.kinds r))) after
indexes-push c r place index before after lt h one pushed =
    let names : List (List ℕ) = names_of (kind_at c.kinds r) in
    let text : ℕ → List ℕ = λ (i : ℕ). get_or c.texts i [] in
    record {
      within = rw pushed (All-push (λ (i : ℕ). i < length c.texts) before index h.within one.within);
      named = ap (map text) pushed ∙ map-append text before (index ∷ []) ∙ ap (λ (l : List (List ℕ)). l ++ text index ∷ []) h.named
          ∙ ap (λ (n : List ℕ). take place names ++ n ∷ []) one.named ∙ sym (take_more names place [] lt);
    }

-- a place of a kind without names
pub no-names : (k : CellKind) → ((fs : List (List ℕ × CellId)) → k ≡ Rec fs → ⊥) → (place : ℕ) → place < length (names_of k) → ⊥
no-names (Bit l) h place lt = omega arith
no-names (Word w) h place lt = omega arith
no-names (Text w) h place lt = omega arith
no-names (Set es) h place lt = omega arith
no-names (Fun es) h place lt = omega arith
no-names (Rec fs) h place lt = h fs refl
no-names (Tup ps) h place lt = omega arith
no-names (Seq w ps) h place lt = omega arith

-- a name of a record among the texts
module _ (c : Cells) (r : CellId) (place : ℕ) (k : CellKind) (fs items : List (List ℕ × CellId)) (texts : List (List ℕ)) (same : k ≡ kind_at c.kinds r) (is : k ≡ Rec fs) (list : items ≡ fs) (all : texts ≡ c.texts)
    (lt : place < length (names_of (kind_at c.kinds r))) where
  names-are : names_of (kind_at c.kinds r) ≡ map (λ (f : List ℕ × CellId). f.0) items
  names-are = ap names_of (sym same ∙ is) ∙ ap (map (λ (f : List ℕ × CellId). f.0)) (sym list)

  pub place-in : place < length items
  place-in = let n = ap length names-are in let m = length-map items (λ (f : List ℕ × CellId). f.0) in omega arith

  module _ (d : List ℕ × CellId) where
    name-is : (get_or items place d).0 ≡ get_or (names_of (kind_at c.kinds r)) place []
    name-is = sym (get_or-map (λ (f : List ℕ × CellId). f.0) items place d [] place-in) ∙ ap (λ (ns : List (List ℕ)). get_or ns place []) (sym names-are)

    pub name-found : (index : ℕ) → index < length texts → get_or texts index [] ≡ (get_or items place d).0 → IsNameIndex c r place index
    name-found index le e = record {
      within = let n = ap length all in omega arith;
      named = ap (λ (ts : List (List ℕ)). get_or ts index []) (sym all) ∙ e ∙ name-is;
    }

    pub name-among : HasNames c r → IsTrue (member (value.Text (get_or items place d).0) (map (λ t. value.Text t) texts))
    name-among h =
        subst (λ (n : List ℕ). IsTrue (member (value.Text n) (map (λ t. value.Text t) texts))) (sym name-is)
        (subst (λ (ts : List (List ℕ)). IsTrue (member (value.Text (get_or (names_of (kind_at c.kinds r)) place [])) (map (λ t. value.Text t) ts))) (sym all) (h.names place [] lt))

-- there is an index where the text is among the texts
pub index-there : (o : Option ℕ) (t : Bool) → ((i : ℕ) → o ≡ Some i → ⊥) → (IsTrue (is_some o) → IsTrue t) × (IsTrue t → IsTrue (is_some o)) → IsTrue t → ⊥
index-there None t h both is = let k = both.1 is in cc
index-there (Some i) t h both is = h i refl
