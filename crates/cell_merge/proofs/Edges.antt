-- The members of a set cell, by its edges; and the sorts of its edges.
use Rattle.std.proofs.Common.{◌≡◌, ℕ, ◌<◌, Bool, true, false, cond, not, ◌&&◌, ◌||◌, List, [], ◌∷◌, map, length, take, ◌≤◌, All, refl, ap, ◌∙◌, sym, subst}
use Rattle.std.specs.Prelude.{filter}
use Rattle.std.specs.List.{list_all, list_any}
use Rattle.std.proofs.lemmas.List.{take_all}
use Rattle.sat_formula.specs.declared.lit.Lit.{Lit}
use Rattle.sat_formula.specs.Lit.{lit_value, differ}
use Rattle.word_blaster.specs.Word.{word_value}
use Rattle.std.specs.Ordering.{is_eq, bool_cmp, int_eq}
use Rattle.tla_values.specs.declared.value.Value.{Value}
use Rattle.tla_values.specs.declared.value.Value.TheVariants as value
use Rattle.tla_values.proofs.Extensional.{same_value-sets}
use Rattle.tla_values.proofs.SameKind.{same_value-truths, same_value-ints}
use Rattle.sat_formula.proofs.GateClauses.{lit_value-negation}
use Rattle.cell_arena.proofs.Decoding.{decode-kind}
use Rattle.tla_values.specs.Order.{same_value}
use Rattle.tla_values.specs.Sets.{set_of, elements, member, subset}
use Rattle.tla_values.proofs.Members.{elements-set, list_any-set_of, list_all-set_of}
use Rattle.cell_arena.specs.declared.kinds.CellId.{CellId}
use Rattle.cell_arena.specs.declared.kinds.CellKind.{CellKind}
use Rattle.cell_arena.specs.declared.kinds.CellKind.TheVariants.{Bit, Word, Text, Set, Fun, Rec, Tup, Seq}
use Rattle.cell_arena.specs.Cells.{Cells, WellBuilt, kind_at}
use Rattle.cell_arena.specs.Decode.{decode, present, kind_value}
use Rattle.cell_merge.specs.Sorts.{Sort, truth, number, name, set_of as set_sort, function_of, sequence_of, record_of, tuple_of, OfSort, IsSet, IsBit, IsWord, IsText, IsFunction, IsSequence, IsRecord, IsTuple, OneType, SetsOfOneType, FunctionsOfOneType, SequencesOfOneType}

pub any-present : (p : Value → Bool) (a : List Bool) (of : CellId → Value) (es : List (Lit × CellId)) → list_any p (present a of es) ≡ list_any (λ e. lit_value e.0 a && p (of e.1)) es
any-present p a of [] = refl
any-present p a of (e ∷ es) = split (lit_value e.0 a) (any-present p a of es)
  where
    split : (b : Bool) → list_any p (present a of es) ≡ list_any (λ e. lit_value e.0 a && p (of e.1)) es →
        list_any p (map (λ e. of e.1) (cond b (e ∷ filter (λ e. lit_value e.0 a) es) (filter (λ e. lit_value e.0 a) es))) ≡ ((b && p (of e.1)) || list_any (λ e. lit_value e.0 a && p (of e.1)) es)
    split true q = ap (λ t. p (of e.1) || t) q
    split false q = q

pub all-present : (p : Value → Bool) (a : List Bool) (of : CellId → Value) (es : List (Lit × CellId)) → list_all p (present a of es) ≡ list_all (λ e. not (lit_value e.0 a) || p (of e.1)) es
all-present p a of [] = refl
all-present p a of (e ∷ es) = split (lit_value e.0 a) (all-present p a of es)
  where
    split : (b : Bool) → list_all p (present a of es) ≡ list_all (λ e. not (lit_value e.0 a) || p (of e.1)) es →
        list_all p (map (λ e. of e.1) (cond b (e ∷ filter (λ e. lit_value e.0 a) es) (filter (λ e. lit_value e.0 a) es))) ≡ ((not b || p (of e.1)) && list_all (λ e. not (lit_value e.0 a) || p (of e.1)) es)
    split true q = ap (λ t. p (of e.1) && t) q
    split false q = q

-- the members of a set cell
pub elements-cell : (c : Cells) (a : List Bool) (id : CellId) (es : List (Lit × CellId)) → decode c a id ≡ kind_value c.texts a (decode c a) (Set es) → elements (decode c a id) ≡ set_of (present a (decode c a) es)
elements-cell c a id es h = ap elements h ∙ elements-set _

pub any-cell : (p : Value → Bool) (c : Cells) (a : List Bool) (id : CellId) (es : List (Lit × CellId)) → decode c a id ≡ kind_value c.texts a (decode c a) (Set es)
    → list_any p (elements (decode c a id)) ≡ list_any (λ e. lit_value e.0 a && p (decode c a e.1)) es
any-cell p c a id es h = ap (list_any p) (elements-cell c a id es h) ∙ list_any-set_of p _ ∙ any-present p a (decode c a) es

pub all-cell : (p : Value → Bool) (c : Cells) (a : List Bool) (id : CellId) (es : List (Lit × CellId)) → decode c a id ≡ kind_value c.texts a (decode c a) (Set es)
    → list_all p (elements (decode c a id)) ≡ list_all (λ e. not (lit_value e.0 a) || p (decode c a e.1)) es
all-cell p c a id es h = ap (list_all p) (elements-cell c a id es h) ∙ list_all-set_of p _ ∙ all-present p a (decode c a) es

pub sort-there : (ks : List CellKind) (s : Sort) (id : CellId) → OfSort ks s id → id.index < length ks
sort-there ks truth id h = h.0
sort-there ks number id h = h.0
sort-there ks name id h = h.0
sort-there ks (set_sort s) id h = h.0
sort-there ks (function_of s t) id h = h.0
sort-there ks (sequence_of s) id h = h.0
sort-there ks (record_of names s) id h = h.0
sort-there ks (tuple_of n s) id h = h.0

-- the sorts of the edges of a set
pub edges-sort : (ks : List CellKind) (s : Sort) (id : CellId) (es : List (Lit × CellId)) → OfSort ks (set_sort s) id → kind_at ks id ≡ Set es → All (λ e. OfSort ks s e.1) es
edges-sort ks s id es h e = let P : CellKind → Type 0 = IsSet (OfSort ks s) in subst P e h.1

-- the sorts of the arrows of a function, and of the places of a sequence
pub arrows-sort : (ks : List CellKind) (s t : Sort) (id : CellId) (es : List (Lit × CellId × CellId)) → OfSort ks (function_of s t) id → kind_at ks id ≡ Fun es → All (λ e. OfSort ks s e.1 × OfSort ks t e.2) es
arrows-sort ks s t id es h e = let P : CellKind → Type 0 = IsFunction (OfSort ks s) (OfSort ks t) in subst P e h.1

pub places-sort : (ks : List CellKind) (s : Sort) (id : CellId) (w : List Lit) (ps : List CellId) → OfSort ks (sequence_of s) id → kind_at ks id ≡ Seq w ps → All (OfSort ks s) ps
places-sort ks s id w ps h e = let P : CellKind → Type 0 = IsSequence (OfSort ks s) in subst P e h.1

pub is-set : (P : CellId → Type 0) (k : CellKind) → IsSet P k → (es : List (Lit × CellId)) × (k ≡ Set es)
is-set P (Bit l) h = absurd h
is-set P (Word w) h = absurd h
is-set P (Text w) h = absurd h
is-set P (Set es) h = (es, refl)
is-set P (Fun es) h = absurd h
is-set P (Rec fs) h = absurd h
is-set P (Tup ps) h = absurd h
is-set P (Seq w ps) h = absurd h

pub is-function : (P Q : CellId → Type 0) (k : CellKind) → IsFunction P Q k → (es : List (Lit × CellId × CellId)) × (k ≡ Fun es)
is-function P Q (Bit l) h = absurd h
is-function P Q (Word w) h = absurd h
is-function P Q (Text w) h = absurd h
is-function P Q (Set es) h = absurd h
is-function P Q (Fun es) h = (es, refl)
is-function P Q (Rec fs) h = absurd h
is-function P Q (Tup ps) h = absurd h
is-function P Q (Seq w ps) h = absurd h

pub is-sequence : (P : CellId → Type 0) (k : CellKind) → IsSequence P k → (w : List Lit) × (ps : List CellId) × (k ≡ Seq w ps)
is-sequence P (Bit l) h = absurd h
is-sequence P (Word w) h = absurd h
is-sequence P (Text w) h = absurd h
is-sequence P (Set es) h = absurd h
is-sequence P (Fun es) h = absurd h
is-sequence P (Rec fs) h = absurd h
is-sequence P (Tup ps) h = absurd h
is-sequence P (Seq w ps) h = (w, ps, refl)

pub is-bit : (k : CellKind) → IsBit k → (l : Lit) × (k ≡ Bit l)
is-bit (Bit l) h = (l, refl)
is-bit (Word w) h = absurd h
is-bit (Text w) h = absurd h
is-bit (Set es) h = absurd h
is-bit (Fun es) h = absurd h
is-bit (Rec fs) h = absurd h
is-bit (Tup ps) h = absurd h
is-bit (Seq w ps) h = absurd h

pub is-word : (k : CellKind) → IsWord k → (w : List Lit) × (k ≡ Word w)
is-word (Bit l) h = absurd h
is-word (Word w) h = (w, refl)
is-word (Text w) h = absurd h
is-word (Set es) h = absurd h
is-word (Fun es) h = absurd h
is-word (Rec fs) h = absurd h
is-word (Tup ps) h = absurd h
is-word (Seq w ps) h = absurd h

pub is-text : (k : CellKind) → IsText k → (w : List Lit) × (k ≡ Text w)
is-text (Bit l) h = absurd h
is-text (Word w) h = absurd h
is-text (Text w) h = (w, refl)
is-text (Set es) h = absurd h
is-text (Fun es) h = absurd h
is-text (Rec fs) h = absurd h
is-text (Tup ps) h = absurd h
is-text (Seq w ps) h = absurd h

pub is-record : (names : List (List ℕ)) (P : ℕ → CellId → Type 0) (k : CellKind) → IsRecord names P k → (fs : List (List ℕ × CellId)) × (k ≡ Rec fs)
is-record names P (Bit l) h = absurd h
is-record names P (Word w) h = absurd h
is-record names P (Text w) h = absurd h
is-record names P (Set es) h = absurd h
is-record names P (Fun es) h = absurd h
is-record names P (Rec fs) h = (fs, refl)
is-record names P (Tup ps) h = absurd h
is-record names P (Seq w ps) h = absurd h

pub is-tuple : (n : ℕ) (P : ℕ → CellId → Type 0) (k : CellKind) → IsTuple n P k → (ps : List CellId) × (k ≡ Tup ps)
is-tuple n P (Bit l) h = absurd h
is-tuple n P (Word w) h = absurd h
is-tuple n P (Text w) h = absurd h
is-tuple n P (Set es) h = absurd h
is-tuple n P (Fun es) h = absurd h
is-tuple n P (Rec fs) h = absurd h
is-tuple n P (Tup ps) h = (ps, refl)
is-tuple n P (Seq w ps) h = absurd h

-- ---- what one type says of the kinds

module _ (ks : List CellKind) (x y : CellId) (t : OneType ks x y) where
  pub left-there : x.index < length ks
  left-there = sort-there ks t.sort x t.left

  pub right-there : y.index < length ks
  right-there = sort-there ks t.sort y t.right

  pub one-bit : (l : Lit) → kind_at ks x ≡ Bit l → ((m : Lit) → kind_at ks y ≡ Bit m → ⊥) → ⊥
  one-bit l e n = go t.sort t.left t.right
    where
      go : (s : Sort) → OfSort ks s x → OfSort ks s y → ⊥
      go truth p q = let b = is-bit (kind_at ks y) q.1 in n b.0 b.1
      go number p q = let P : CellKind → Type 0 = IsWord in subst P e p.1
      go name p q = let P : CellKind → Type 0 = IsText in subst P e p.1
      go (set_sort s) p q = let P : CellKind → Type 0 = IsSet (OfSort ks s) in subst P e p.1
      go (function_of s t) p q = let P : CellKind → Type 0 = IsFunction (OfSort ks s) (OfSort ks t) in subst P e p.1
      go (sequence_of s) p q = let P : CellKind → Type 0 = IsSequence (OfSort ks s) in subst P e p.1
      go (record_of names s) p q = let P : CellKind → Type 0 = IsRecord names (λ i. OfSort ks (s i)) in subst P e p.1
      go (tuple_of count s) p q = let P : CellKind → Type 0 = IsTuple count (λ i. OfSort ks (s i)) in subst P e p.1

  pub one-word : (v : List Lit) → kind_at ks x ≡ Word v → ((w : List Lit) → kind_at ks y ≡ Word w → ⊥) → ⊥
  one-word v e n = go t.sort t.left t.right
    where
      go : (s : Sort) → OfSort ks s x → OfSort ks s y → ⊥
      go truth p q = let P : CellKind → Type 0 = IsBit in subst P e p.1
      go number p q = let b = is-word (kind_at ks y) q.1 in n b.0 b.1
      go name p q = let P : CellKind → Type 0 = IsText in subst P e p.1
      go (set_sort s) p q = let P : CellKind → Type 0 = IsSet (OfSort ks s) in subst P e p.1
      go (function_of s t) p q = let P : CellKind → Type 0 = IsFunction (OfSort ks s) (OfSort ks t) in subst P e p.1
      go (sequence_of s) p q = let P : CellKind → Type 0 = IsSequence (OfSort ks s) in subst P e p.1
      go (record_of names s) p q = let P : CellKind → Type 0 = IsRecord names (λ i. OfSort ks (s i)) in subst P e p.1
      go (tuple_of count s) p q = let P : CellKind → Type 0 = IsTuple count (λ i. OfSort ks (s i)) in subst P e p.1

  pub one-text : (v : List Lit) → kind_at ks x ≡ Text v → ((w : List Lit) → kind_at ks y ≡ Text w → ⊥) → ⊥
  one-text v e n = go t.sort t.left t.right
    where
      go : (s : Sort) → OfSort ks s x → OfSort ks s y → ⊥
      go truth p q = let P : CellKind → Type 0 = IsBit in subst P e p.1
      go number p q = let P : CellKind → Type 0 = IsWord in subst P e p.1
      go name p q = let b = is-text (kind_at ks y) q.1 in n b.0 b.1
      go (set_sort s) p q = let P : CellKind → Type 0 = IsSet (OfSort ks s) in subst P e p.1
      go (function_of s t) p q = let P : CellKind → Type 0 = IsFunction (OfSort ks s) (OfSort ks t) in subst P e p.1
      go (sequence_of s) p q = let P : CellKind → Type 0 = IsSequence (OfSort ks s) in subst P e p.1
      go (record_of names s) p q = let P : CellKind → Type 0 = IsRecord names (λ i. OfSort ks (s i)) in subst P e p.1
      go (tuple_of count s) p q = let P : CellKind → Type 0 = IsTuple count (λ i. OfSort ks (s i)) in subst P e p.1

  pub one-set : (es : List (Lit × CellId)) → kind_at ks x ≡ Set es → SetsOfOneType ks x y
  one-set es e = go t.sort t.left t.right
    where
      go : (s : Sort) → OfSort ks s x → OfSort ks s y → SetsOfOneType ks x y
      go truth p q = absurd (let P : CellKind → Type 0 = IsBit in subst P e p.1)
      go number p q = absurd (let P : CellKind → Type 0 = IsWord in subst P e p.1)
      go name p q = absurd (let P : CellKind → Type 0 = IsText in subst P e p.1)
      go (set_sort s) p q = record { sort = s; left = p; right = q }
      go (function_of s t) p q = absurd (let P : CellKind → Type 0 = IsFunction (OfSort ks s) (OfSort ks t) in subst P e p.1)
      go (sequence_of s) p q = absurd (let P : CellKind → Type 0 = IsSequence (OfSort ks s) in subst P e p.1)
      go (record_of names s) p q = absurd (let P : CellKind → Type 0 = IsRecord names (λ i. OfSort ks (s i)) in subst P e p.1)
      go (tuple_of n s) p q = absurd (let P : CellKind → Type 0 = IsTuple n (λ i. OfSort ks (s i)) in subst P e p.1)

  pub one-function : (es : List (Lit × CellId × CellId)) → kind_at ks x ≡ Fun es → FunctionsOfOneType ks x y
  one-function es e = go t.sort t.left t.right
    where
      go : (s : Sort) → OfSort ks s x → OfSort ks s y → FunctionsOfOneType ks x y
      go truth p q = absurd (let P : CellKind → Type 0 = IsBit in subst P e p.1)
      go number p q = absurd (let P : CellKind → Type 0 = IsWord in subst P e p.1)
      go name p q = absurd (let P : CellKind → Type 0 = IsText in subst P e p.1)
      go (set_sort s) p q = absurd (let P : CellKind → Type 0 = IsSet (OfSort ks s) in subst P e p.1)
      go (function_of s t) p q = record { from = s; to = t; left = p; right = q }
      go (sequence_of s) p q = absurd (let P : CellKind → Type 0 = IsSequence (OfSort ks s) in subst P e p.1)
      go (record_of names s) p q = absurd (let P : CellKind → Type 0 = IsRecord names (λ i. OfSort ks (s i)) in subst P e p.1)
      go (tuple_of n s) p q = absurd (let P : CellKind → Type 0 = IsTuple n (λ i. OfSort ks (s i)) in subst P e p.1)

  pub one-sequence : (w : List Lit) (ps : List CellId) → kind_at ks x ≡ Seq w ps → SequencesOfOneType ks x y
  one-sequence w ps e = go t.sort t.left t.right
    where
      go : (s : Sort) → OfSort ks s x → OfSort ks s y → SequencesOfOneType ks x y
      go truth p q = absurd (let P : CellKind → Type 0 = IsBit in subst P e p.1)
      go number p q = absurd (let P : CellKind → Type 0 = IsWord in subst P e p.1)
      go name p q = absurd (let P : CellKind → Type 0 = IsText in subst P e p.1)
      go (set_sort s) p q = absurd (let P : CellKind → Type 0 = IsSet (OfSort ks s) in subst P e p.1)
      go (function_of s t) p q = absurd (let P : CellKind → Type 0 = IsFunction (OfSort ks s) (OfSort ks t) in subst P e p.1)
      go (sequence_of s) p q = record { sort = s; left = p; right = q }
      go (record_of names s) p q = absurd (let P : CellKind → Type 0 = IsRecord names (λ i. OfSort ks (s i)) in subst P e p.1)
      go (tuple_of n s) p q = absurd (let P : CellKind → Type 0 = IsTuple n (λ i. OfSort ks (s i)) in subst P e p.1)

pub sets-back : (ks : List CellKind) (x y : CellId) → SetsOfOneType ks x y → SetsOfOneType ks y x
sets-back ks x y t = record { sort = t.sort; left = t.right; right = t.left }

-- the values of two sets of one type are equal where each is within the other
pub same-sets : (c : Cells) (a : List Bool) (x y : CellId) (es fs : List (Lit × CellId))
    → decode c a x ≡ kind_value c.texts a (decode c a) (Set es) → decode c a y ≡ kind_value c.texts a (decode c a) (Set fs)
    → same_value (decode c a x) (decode c a y) ≡ (subset (elements (decode c a x)) (elements (decode c a y)) && subset (elements (decode c a y)) (elements (decode c a x)))
same-sets c a x y es fs p q =
    let of : CellId → Value = decode c a in
    ap (λ v. same_value v (of y)) p ∙ ap (λ v. same_value (value.Set (set_of (present a of es))) v) q
    ∙ same_value-sets (present a of es) (present a of fs)
    ∙ sym (ap (λ xs. subset xs (elements (of y)) && subset (elements (of y)) xs) (elements-cell c a x es p)
    ∙ ap (λ ys. subset (set_of (present a of es)) ys && subset ys (set_of (present a of es))) (elements-cell c a y fs q))

pub same-sets-typed : (c : Cells) (a : List Bool) (x y : CellId) (es : List (Lit × CellId))
    → WellBuilt c → kind_at c.kinds x ≡ Set es → SetsOfOneType c.kinds x y
    → same_value (decode c a x) (decode c a y) ≡ (subset (elements (decode c a x)) (elements (decode c a y)) && subset (elements (decode c a y)) (elements (decode c a x)))
same-sets-typed c a x y es built e t =
    let f = is-set (OfSort c.kinds t.sort) (kind_at c.kinds y) t.right.1 in
    let p : decode c a x ≡ kind_value c.texts a (decode c a) (Set es) = decode-kind c a x built t.left.0 ∙ ap (kind_value c.texts a (decode c a)) e in
    let q : decode c a y ≡ kind_value c.texts a (decode c a) (Set f.0) = decode-kind c a y built t.right.0 ∙ ap (kind_value c.texts a (decode c a)) f.1 in
    same-sets c a x y es f.0 p q

pub same-bits : (c : Cells) (a : List Bool) (x y : CellId) (l m : Lit) (j k : CellKind)
    → decode c a x ≡ kind_value c.texts a (decode c a) j → decode c a y ≡ kind_value c.texts a (decode c a) k → j ≡ Bit l → k ≡ Bit m
    → not (differ (lit_value l a) (lit_value m a)) ≡ same_value (decode c a x) (decode c a y)
same-bits c a x y l m j k p q e f =
    let of : CellId → Value = decode c a in
    sym (agree (lit_value l a) (lit_value m a)) ∙ sym (same_value-truths (lit_value l a) (lit_value m a))
    ∙ sym (ap (λ v. same_value v (of y)) (p ∙ ap (kind_value c.texts a of) e) ∙ ap (λ v. same_value (value.Bool (lit_value l a)) v) (q ∙ ap (kind_value c.texts a of) f))
  where
    agree : (p q : Bool) → is_eq (bool_cmp p q) ≡ not (differ p q)
    agree true true = refl
    agree true false = refl
    agree false true = refl
    agree false false = refl

pub same-words : (c : Cells) (a : List Bool) (x y : CellId) (v w : List Lit) (j k : CellKind)
    → decode c a x ≡ kind_value c.texts a (decode c a) j → decode c a y ≡ kind_value c.texts a (decode c a) k → j ≡ Word v → k ≡ Word w
    → int_eq (word_value v a) (word_value w a) ≡ same_value (decode c a x) (decode c a y)
same-words c a x y v w j k p q e f =
    let of : CellId → Value = decode c a in
    sym (same_value-ints (word_value v a) (word_value w a))
    ∙ sym (ap (λ u. same_value u (of y)) (p ∙ ap (kind_value c.texts a of) e) ∙ ap (λ u. same_value (value.Int (word_value v a)) u) (q ∙ ap (kind_value c.texts a of) f))

pub negated-value : (l m : Lit) (a : List Bool) → m ≡ record { var = l.var; neg = not l.neg } → lit_value m a ≡ not (lit_value l a)
negated-value l m a e = ap (λ x. lit_value x a) e ∙ lit_value-negation l a

pub negated-parts : (v : ℕ) (n : Bool) (a : List Bool) → lit_value (record { var = v; neg = not n }) a ≡ not (lit_value (record { var = v; neg = n }) a)
negated-parts v n a = lit_value-negation (record { var = v; neg = n }) a

-- ---- what the loops over all edges have

pub member-all : (c : Cells) (a : List Bool) (x set : CellId) (k : CellKind) (es items : List (Lit × CellId)) (i : ℕ)
    → decode c a set ≡ kind_value c.texts a (decode c a) k → k ≡ Set es → items ≡ es → length items ≤ i
    → list_any (λ e. lit_value e.0 a && same_value (decode c a x) (decode c a e.1)) (take i items) ≡ member (decode c a x) (elements (decode c a set))
member-all c a x set k es items i h e same le =
    let p : Lit × CellId → Bool = λ e. lit_value e.0 a && same_value (decode c a x) (decode c a e.1) in
    ap (list_any p) (take_all i items le ∙ same) ∙ sym (any-cell (same_value (decode c a x)) c a set es (h ∙ ap (kind_value c.texts a (decode c a)) e))

pub subset-all : (c : Cells) (a : List Bool) (x y : CellId) (k : CellKind) (es items : List (Lit × CellId)) (i : ℕ)
    → decode c a x ≡ kind_value c.texts a (decode c a) k → k ≡ Set es → items ≡ es → length items ≤ i
    → list_all (λ e. not (lit_value e.0 a) || member (decode c a e.1) (elements (decode c a y))) (take i items) ≡ subset (elements (decode c a x)) (elements (decode c a y))
subset-all c a x y k es items i h e same le =
    let p : Lit × CellId → Bool = λ e. not (lit_value e.0 a) || member (decode c a e.1) (elements (decode c a y)) in
    ap (list_all p) (take_all i items le ∙ same) ∙ sym (all-cell (λ v. member v (elements (decode c a y))) c a x es (h ∙ ap (kind_value c.texts a (decode c a)) e))
