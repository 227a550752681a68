-- What stands behind the parts that two cells have in common.
use Rattle.std.proofs.Common.{◌≡◌, ℕ, ◌+◌, ◌<◌, ◌≤◌, Bool, true, false, IsTrue, List, ◌++◌, map, length, take, drop, get_or, All, ℤ, pos, negsuc, refl, ap, ◌∙◌, sym, subst, arith, ◌⊎◌, inl, inr}
use Rattle.std.specs.Prelude.{if◌then◌else◌}
use Rattle.std.proofs.lemmas.List.{append-nil, map-append, drop-map, take-map, get_or-take, take_all, drop_all, length-take-le, length-append, length-drop, length-map, take-append-le, take-append-drop}
use Rattle.std.proofs.lemmas.Bool.{lt-ltb}
use Rattle.std.proofs.lemmas.List.Elements.{All-weaker, All-append, All-drop}
use Rattle.sat_formula.specs.declared.lit.Lit.{Lit}
use Rattle.sat_formula.specs.declared.cnf.Cnf.{Cnf}
use Rattle.sat_formula.specs.Lit.{lit_value, IsBelow}
use Rattle.sat_formula.specs.Formula.{Satisfies, Grows as FormulaGrows}
use Rattle.sat_formula.proofs.Extension.{Satisfies-older}
use Rattle.word_blaster.specs.Word.{word_value, AreWords}
use Rattle.tla_values.specs.declared.value.Value.{Value}
use Rattle.tla_values.specs.declared.value.Value.TheVariants as value
use Rattle.tla_values.specs.Sets.{function_of}
use Rattle.tla_values.specs.Sequences.{sequence}
use Rattle.cell_arena.specs.declared.build.Build.{Build}
use Rattle.cell_arena.specs.declared.kinds.CellId.{CellId}
use Rattle.cell_arena.specs.declared.kinds.CellKind.{CellKind}
use Rattle.cell_arena.specs.declared.kinds.CellKind.TheVariants.{Bit, Fun, Seq}
use Rattle.cell_arena.specs.Cells.{Cells, WellBuilt, InRange, IsHeld, NamesBelow, IsFormed, kind_at, in_range, is_index}
use Rattle.cell_arena.specs.Decode.{decode, kind_value, present_pairs, first_places}
use Rattle.cell_arena.specs.Growth.{Grows, Adds, Decodes}
use Rattle.cell_arena.proofs.Decoding.{decode-kind}
use Rattle.cell_arena.proofs.Growing.{kind-before, decode-before, Satisfies-before}
use Rattle.cell_merge.specs.Sorts.{Sort, function_of as function_sort, sequence_of as sequence_sort, OfSort, IsSequence, SequencesOfOneType, IsOver}
use Rattle.cell_merge.specs.Arrows.{arrows_of, LeadFrom, ArrowsNamed, length_word}
use Rattle.cell_merge.specs.Composites.{parts_of}
use Rattle.cell_merge.specs.Choices.{Chooses}
use Rattle.cell_merge.specs.inner.Composites.{ChoosesParts, PartsOfOneType}
use Rattle.cell_merge.specs.inner.Fronts.{GuardsBoth, BeginsBoth, EndsChoice, BeginsPlaces, all_places, EndsSequence}
use Rattle.cell_merge.proofs.Edges.{is-sequence, sort-there}
use Rattle.cell_merge.proofs.SortLaws.{OfSort-later, sort-function, sort-sequence}
use Rattle.cell_merge.proofs.Shapes.{maps-one}
use Rattle.cell_merge.proofs.Names.{all-at, below}
use Rattle.word_blaster.proofs.Words.{WordBelow-later}
use Rattle.cell_merge.proofs.Fronts.{Arrow, arrow-sorts, sequence-else}

-- ---- the rests of two functions

pub rest-named : (c : Cells) (f : Cnf) (n m : ℕ) (k : CellKind) (es items : List Arrow) → c.vars ≤ f.vars → IsHeld n c.vars c.width k → k ≡ Fun es → items ≡ es → ArrowsNamed f.vars (drop m items)
rest-named c f n m k es items fits held e same =
    let N : CellKind → Type 0 = NamesBelow c.vars in
    All-drop (λ (e : Arrow). IsBelow f.vars e.0) m items (rw same (All-weaker (λ (e : Arrow). IsBelow c.vars e.0) (λ (e : Arrow). IsBelow f.vars e.0) (λ e b. omega arith) es (subst N e held.named)))

pub arrows-there : (ks : List CellKind) (s t : Sort) (es : List Arrow) → LeadFrom ks s t es → All (λ e. (e.1.index < length ks) × (e.2.index < length ks)) es
arrows-there ks s t es h = All-weaker (λ (e : Arrow). OfSort ks s e.1 × OfSort ks t e.2) (λ (e : Arrow). (e.1.index < length ks) × (e.2.index < length ks)) (λ e p. (sort-there ks s e.1 p.0, sort-there ks t e.2 p.1)) es h

module _ (old : Build) (f : Cnf) (l : Lit) (x y : CellId) (front es fs all : List Arrow) (begins : BeginsBoth old x y front)
    (left : kind_at old.arena.kinds x ≡ Fun es) (right : kind_at old.arena.kinds y ≡ Fun fs) (guards : GuardsBoth f l (drop (length front) es) (drop (length front) fs) front all) where
  behind-sorts : (s t : Sort) (z : CellId) (us : List Arrow) → kind_at old.arena.kinds z ≡ Fun us → OfSort old.arena.kinds (function_sort s t) z → LeadFrom old.arena.kinds s t (drop (length front) us)
  behind-sorts s t z us e h = All-drop (λ (e : Arrow). OfSort old.arena.kinds s e.1 × OfSort old.arena.kinds t e.2) (length front) us
      (let P : CellKind → Type 0 = λ k. LeadFrom old.arena.kinds s t (arrows_of k) in subst P e (arrow-sorts old.arena.kinds s t z h))

  all-sorts : (s t : Sort) → OfSort old.arena.kinds (function_sort s t) x → OfSort old.arena.kinds (function_sort s t) y → LeadFrom old.arena.kinds s t front → LeadFrom old.arena.kinds s t all
  all-sorts s t p q h = guards.sorts old.arena.kinds s t h (behind-sorts s t x es left p) (behind-sorts s t y fs right q)

  pub all-there : All (λ e. (e.1.index < length old.arena.kinds) × (e.2.index < length old.arena.kinds)) all
  all-there = arrows-there old.arena.kinds begins.types.from begins.types.to all (all-sorts begins.types.from begins.types.to begins.types.left begins.types.right begins.cells)

  pub ends-choice : (mid new : Build) (id : CellId) → mid.arena ≡ old.arena → f ≡ mid.formula → Adds mid new (Fun all) id → Grows mid new
      → Decodes new id (λ a. value.Fun (function_of (present_pairs a (decode mid.arena a) all))) → EndsChoice old new l x y front id
  ends-choice mid new id same over adds grows decodes = record {
    value = record {
      there = decodes.there;
      value = λ a s.
          let of : CellId → Value = decode old.arena a in
          decodes.value a s ∙ ap (λ (c : Cells). value.Fun (function_of (present_pairs a (decode c a) all))) same
          ∙ ap (λ (ps : List (Value × Value)). value.Fun (function_of ps)) (guards.pairs a (subst (λ (g : Cnf). Satisfies a g) (sym over) (Satisfies-before mid new a grows s)) of
          ∙ sym (ap (λ (k : CellKind). present_pairs a of front ++ (if lit_value l a then present_pairs a of (drop (length front) (arrows_of k)) else present_pairs a of (drop (length front) (arrows_of (kind_at old.arena.kinds y))))) left
          ∙ ap (λ (k : CellKind). present_pairs a of front ++ (if lit_value l a then present_pairs a of (drop (length front) es) else present_pairs a of (drop (length front) (arrows_of k)))) right));
    };
    sort = λ s t p q h. sort-function mid new all s t id adds grows (subst (λ (c : Cells). LeadFrom c.kinds s t all) (sym same) (all-sorts s t p q h));
  }

-- ---- the places of two sequences

pub place-sorts : (ks : List CellKind) (s : Sort) (id : CellId) → OfSort ks (sequence_sort s) id → All (OfSort ks s) (parts_of (kind_at ks id))
place-sorts ks s id h =
    let P : CellKind → Type 0 = IsSequence (OfSort ks s) in
    let b = is-sequence (OfSort ks s) (kind_at ks id) h.1 in
    let Q : CellKind → Type 0 = λ k. All (OfSort ks s) (parts_of k) in
    subst Q (sym b.2) (subst P b.2 h.1)

pub sequence-parts : (ks : List CellKind) (x y : CellId) (n : ℕ) → SequencesOfOneType ks x y → n ≤ length (parts_of (kind_at ks x)) → n ≤ length (parts_of (kind_at ks y)) → PartsOfOneType ks x y n
sequence-parts ks x y n t p q = record {
  x_there = t.left.0;
  y_there = t.right.0;
  left = p;
  right = q;
  each = λ i d lt. record { sort = t.sort; left = place-sorts ks t.sort x t.left i d (omega arith); right = place-sorts ks t.sort y t.right i d (omega arith) };
}

-- the places of all are at least those of either
pub all-long : (j k : CellKind) (front : List CellId) → (length (parts_of j) ≤ length (all_places j k front)) × (length (parts_of k) ≤ length (all_places j k front))
all-long j k front =
    let n = length front in
    let p = length-append (front ++ drop n (parts_of j)) (drop n (parts_of k)) in
    let q = length-append front (drop n (parts_of j)) in
    let u = length-drop n (parts_of j) in
    let w = length-drop n (parts_of k) in
    (omega arith, omega arith)

index-more : (n m : ℕ) (z : ℤ) → n ≤ m → IsTrue (is_index n z) → IsTrue (is_index m z)
index-more n m (pos k) le h = lt-ltb k m (let p = below k n h in omega arith)
index-more n m (negsuc k) le h = h

-- the length of a sequence is a number of its places
pub length-in : (c : Cells) (f : Cnf) (a : List Bool) (id : CellId) (w : List Lit) (ps : List CellId) → InRange c f → Satisfies a f → id.index < length c.kinds → kind_at c.kinds id ≡ Seq w ps → IsTrue (is_index (length ps + 1) (word_value w a))
unfolding InRange
length-in c f a id w ps h s lt e =
    let P : CellKind → Type 0 = λ k. IsTrue (in_range (length c.texts) a k) in
    subst P e (all-at (in_range (length c.texts) a) c.kinds id.index (Bit (record { var = 0; neg = false })) lt (h a s))

-- the length of either is a number of all places
pub length-chosen : (c : Cells) (f g : Cnf) (l : Lit) (x y : CellId) (v w r : List Lit) (ps qs front all : List CellId) → IsOver c f → FormulaGrows f g → SequencesOfOneType c.kinds x y → kind_at c.kinds x ≡ Seq v ps → kind_at c.kinds y ≡ Seq w qs
    → all ≡ all_places (Seq v ps) (Seq w qs) front → ((a : List Bool) → Satisfies a g → word_value r a ≡ (if lit_value l a then word_value v a else word_value w a))
    → (a : List Bool) → Satisfies a g → IsTrue (is_index (length all + 1) (word_value r a))
length-chosen c f g l x y v w r ps qs front all over grows t e h is gate a s =
    let s0 = Satisfies-older f g a grows s in
    let long = all-long (Seq v ps) (Seq w qs) front in
    let n : length all ≡ length (all_places (Seq v ps) (Seq w qs) front) = ap length is in
    let P : ℤ → Type 0 = λ z. IsTrue (is_index (length all + 1) z) in
    subst P (sym (gate a s))
    (either (lit_value l a) (index-more (length ps + 1) (length all + 1) (word_value v a) (let m = long.0 in omega arith) (length-in c f a x v ps over.ranges s0 t.left.0 e))
    (index-more (length qs + 1) (length all + 1) (word_value w a) (let m = long.1 in omega arith) (length-in c f a y w qs over.ranges s0 t.right.0 h)))
  where
    either : (b : Bool) → IsTrue (is_index (length all + 1) (word_value v a)) → IsTrue (is_index (length all + 1) (word_value w a)) → IsTrue (is_index (length all + 1) (if b then word_value v a else word_value w a))
    either true p q = p
    either false p q = q

if-places : (b : Bool) (m n : ℤ) (vs : List Value) → sequence (first_places (if b then m else n) vs) ≡ (if b then sequence (first_places m vs) else sequence (first_places n vs))
if-places true m n vs = refl
if-places false m n vs = refl

module _ (old : Build) (x y : CellId) (v w : List Lit) (ps qs front all : List CellId) (begins : BeginsPlaces old x y front)
    (left : kind_at old.arena.kinds x ≡ Seq v ps) (right : kind_at old.arena.kinds y ≡ Seq w qs) (is : all ≡ all_places (Seq v ps) (Seq w qs) front) where
  places-sorts : (s : Sort) → OfSort old.arena.kinds (sequence_sort s) x → OfSort old.arena.kinds (sequence_sort s) y → All (OfSort old.arena.kinds s) front → All (OfSort old.arena.kinds s) all
  places-sorts s p q h =
      let P : CellId → Type 0 = OfSort old.arena.kinds s in
      let Q : CellKind → Type 0 = λ k. All P (drop (length front) (parts_of k)) in
      let a : All P (drop (length front) ps) = subst Q left (All-drop P (length front) _ (place-sorts old.arena.kinds s x p)) in
      let b : All P (drop (length front) qs) = subst Q right (All-drop P (length front) _ (place-sorts old.arena.kinds s y q)) in
      rw is (All-append P (front ++ drop (length front) ps) (drop (length front) qs) (All-append P front (drop (length front) ps) h a) b)

  pub places-there : All (λ p. p.index < length old.arena.kinds) all
  places-there = All-weaker (OfSort old.arena.kinds begins.types.sort) (λ p. p.index < length old.arena.kinds) (λ p h. sort-there old.arena.kinds begins.types.sort p h) all
      (places-sorts begins.types.sort begins.types.left begins.types.right begins.cells)

  pub ends-sequence : (mid new : Build) (l : Lit) (r : List Lit) (id : CellId) → mid.arena ≡ old.arena
      → ((a : List Bool) → Satisfies a mid.formula → word_value r a ≡ (if lit_value l a then word_value v a else word_value w a))
      → Adds mid new (Seq r all) id → Grows mid new → Decodes new id (λ a. sequence (first_places (word_value r a) (map (decode mid.arena a) all))) → EndsSequence old new l x y front id
  ends-sequence mid new l r id same gate adds grows decodes = record {
    value = record {
      there = decodes.there;
      value = λ a s.
          let items : CellKind → CellKind → List Value = λ j k. map (decode old.arena a) (all_places j k front) in
          decodes.value a s ∙ ap (λ (c : Cells). sequence (first_places (word_value r a) (map (decode c a) all))) same
          ∙ ap (λ (us : List CellId). sequence (first_places (word_value r a) (map (decode old.arena a) us))) is
          ∙ ap (λ (z : ℤ). sequence (first_places z (items (Seq v ps) (Seq w qs)))) (gate a (Satisfies-before mid new a grows s))
          ∙ if-places (lit_value l a) (word_value v a) (word_value w a) (items (Seq v ps) (Seq w qs))
          ∙ sym (ap (λ (j : CellKind). if lit_value l a then sequence (first_places (word_value (length_word j) a) (items j (kind_at old.arena.kinds y)))
          else sequence (first_places (word_value (length_word (kind_at old.arena.kinds y)) a) (items j (kind_at old.arena.kinds y)))) left
          ∙ ap (λ (k : CellKind). if lit_value l a then sequence (first_places (word_value v a) (items (Seq v ps) k)) else sequence (first_places (word_value (length_word k) a) (items (Seq v ps) k))) right);
    };
    sort = λ s p q h. sort-sequence mid new r all s id adds grows (subst (λ (c : Cells). All (OfSort c.kinds s) all) (sym same) (places-sorts s p q h));
  }

-- ---- a sequence of chosen places

-- the first places of all are those of the one, and those of the other
first-of-left : (k n : ℕ) (us ps qs : List Value) → us ≡ take k ps → n ≤ length ps → take n (us ++ drop k ps ++ drop k qs) ≡ take n ps
first-of-left k n us ps qs e le =
    let whole : us ++ drop k ps ≡ ps = ap (λ (xs : List Value). xs ++ drop k ps) e ∙ take-append-drop k ps in
    ap (λ (xs : List Value). take n (xs ++ drop k qs)) whole ∙ take-append-le n ps (drop k qs) le

first-of-right : (k n : ℕ) (us ps qs : List Value) → us ≡ take k qs → (length ps ≤ k) ⊎ (length qs ≤ k) → n ≤ length qs → take n (us ++ drop k ps ++ drop k qs) ≡ take n qs
first-of-right k n us ps qs e (inl short) le =
    ap (λ (xs : List Value). take n (us ++ xs ++ drop k qs)) (drop_all k ps short) ∙ ap (λ (xs : List Value). take n (xs ++ drop k qs)) (append-nil us)
    ∙ ap (λ (xs : List Value). take n (xs ++ drop k qs)) e ∙ ap (take n) (take-append-drop k qs)
first-of-right k n us ps qs e (inr short) le =
    let whole : us ≡ qs = e ∙ take_all k qs short in
    let m : n ≤ length (us ++ drop k ps) = let p = length-append us (drop k ps) in let q = ap length whole in omega arith in
    take-append-le n (us ++ drop k ps) (drop k qs) m ∙ take-append-le n us (drop k ps) (let q = ap length whole in omega arith) ∙ ap (take n) whole

places-same : (k n : ℕ) (z : ℤ) (us vs : List Value) → IsTrue (is_index (k + 1) z) → ((n : ℕ) → n ≤ k → take n us ≡ take n vs) → first_places z us ≡ first_places z vs
places-same k n (pos m) us vs h f = f m (let p = below m (k + 1) h in omega arith)
places-same k n (negsuc m) us vs h f = refl

-- the value of a sequence of a sort, by its places
pub sequence-value : (c : Cells) (a : List Bool) (s : Sort) (id : CellId) → WellBuilt c → OfSort c.kinds (sequence_sort s) id
    → decode c a id ≡ sequence (first_places (word_value (length_word (kind_at c.kinds id)) a) (map (decode c a) (parts_of (kind_at c.kinds id))))
sequence-value c a s id built h =
    let b = is-sequence (OfSort c.kinds s) (kind_at c.kinds id) h.1 in
    let P : CellKind → Type 0 = λ k. kind_value c.texts a (decode c a) k ≡ sequence (first_places (word_value (length_word k) a) (map (decode c a) (parts_of k))) in
    decode-kind c a id built h.0 ∙ subst P (sym b.2) refl

-- its length is a number of its places
pub sequence-range : (c : Cells) (f : Cnf) (a : List Bool) (s : Sort) (id : CellId) → InRange c f → Satisfies a f → OfSort c.kinds (sequence_sort s) id
    → IsTrue (is_index (length (parts_of (kind_at c.kinds id)) + 1) (word_value (length_word (kind_at c.kinds id)) a))
sequence-range c f a s id ranges sat h =
    let b = is-sequence (OfSort c.kinds s) (kind_at c.kinds id) h.1 in
    let P : CellKind → Type 0 = λ k. IsTrue (is_index (length (parts_of k) + 1) (word_value (length_word k) a)) in
    subst P (sym b.2) (length-in c f a id b.0 b.1 ranges sat h.0 b.2)

module _ (old mid : Build) (l : Lit) (x y : CellId) (n : ℕ) (front : List CellId) (t : SequencesOfOneType old.arena.kinds x y)
    (left : n ≤ length (parts_of (kind_at old.arena.kinds x))) (right : n ≤ length (parts_of (kind_at old.arena.kinds y)))
    (short : (length (parts_of (kind_at old.arena.kinds x)) ≤ n) ⊎ (length (parts_of (kind_at old.arena.kinds y)) ≤ n))
    (before : Grows old mid) (chosen : ChoosesParts old mid l (parts_of (kind_at old.arena.kinds x)) (parts_of (kind_at old.arena.kinds y)) n front) where
  abbrev ps : List CellId
  ps = parts_of (kind_at old.arena.kinds x)

  abbrev qs : List CellId
  qs = parts_of (kind_at old.arena.kinds y)

  left-kind : kind_at mid.arena.kinds x ≡ kind_at old.arena.kinds x
  left-kind = kind-before old mid x before t.left.0

  right-kind : kind_at mid.arena.kinds y ≡ kind_at old.arena.kinds y
  right-kind = kind-before old mid y before t.right.0

  pub begins-places : BeginsPlaces mid x y front
  begins-places = record {
    types = record { sort = t.sort; left = OfSort-later old mid (sequence_sort t.sort) x t.left before; right = OfSort-later old mid (sequence_sort t.sort) y t.right before };
    cells = λ i d lt.
        let m : i < n = let c = chosen.count in omega arith in
        (chosen.each i d m).sort t.sort (place-sorts old.arena.kinds t.sort x t.left i d (omega arith)) (place-sorts old.arena.kinds t.sort y t.right i d (omega arith));
  }

  older : (a : List Bool) (z : CellId) → OfSort old.arena.kinds (sequence_sort t.sort) z → map (decode mid.arena a) (parts_of (kind_at old.arena.kinds z)) ≡ map (decode old.arena a) (parts_of (kind_at old.arena.kinds z))
  older a z h = maps-one (decode mid.arena a) (decode old.arena a) _ _ refl (λ i d lt. decode-before old mid a _ before (sort-there old.arena.kinds t.sort _ (place-sorts old.arena.kinds t.sort z h i d lt)))

  all-values : (a : List Bool) → map (decode mid.arena a) (all_places (kind_at mid.arena.kinds x) (kind_at mid.arena.kinds y) front)
      ≡ map (decode mid.arena a) front ++ drop n (map (decode old.arena a) ps) ++ drop n (map (decode old.arena a) qs)
  all-values a =
      let of : CellId → Value = decode mid.arena a in
      let u : map of (drop (length front) ps) ≡ drop n (map (decode old.arena a) ps) =
      sym (drop-map of (length front) ps) ∙ ap (λ (m : ℕ). drop m (map of ps)) chosen.count ∙ ap (drop n) (older a x t.left) in
      let w : map of (drop (length front) qs) ≡ drop n (map (decode old.arena a) qs) =
      sym (drop-map of (length front) qs) ∙ ap (λ (m : ℕ). drop m (map of qs)) chosen.count ∙ ap (drop n) (older a y t.right) in
      ap (λ (k : CellKind). map of (all_places k (kind_at mid.arena.kinds y) front)) left-kind ∙ ap (λ (k : CellKind). map of (all_places (kind_at old.arena.kinds x) k front)) right-kind
      ∙ map-append of (front ++ drop (length front) ps) (drop (length front) qs) ∙ ap (λ (vs : List Value). vs ++ map of (drop (length front) qs)) (map-append of front (drop (length front) ps))
      ∙ ap (λ (vs : List Value). map of front ++ vs ++ map of (drop (length front) qs)) u ∙ ap (λ (vs : List Value). map of front ++ drop n (map (decode old.arena a) ps) ++ vs) w

  front-values : (a : List Bool) → Satisfies a mid.formula → (us : List CellId) → n ≤ length us
      → ((i : ℕ) (d : CellId) → i < n → (if lit_value l a then decode old.arena a (get_or ps i d) else decode old.arena a (get_or qs i d)) ≡ decode old.arena a (get_or us i d))
      → map (decode mid.arena a) front ≡ take n (map (decode old.arena a) us)
  front-values a s us le h =
      maps-one (decode mid.arena a) (decode old.arena a) front (take n us) (chosen.count ∙ sym (length-take-le n us le))
      (λ i d lt. let m : i < n = let c = chosen.count in omega arith in (chosen.each i d m).value.value a s ∙ h i d m ∙ ap (decode old.arena a) (sym (get_or-take n us i d m)))
      ∙ sym (take-map (decode old.arena a) n us)

  pub chosen-sequence : (new : Build) (id : CellId) → Grows mid new → EndsSequence mid new l x y front id → Chooses old new l x y id
  chosen-sequence new id grows ends = record {
    value = record {
      there = ends.value.there;
      value = λ a s.
          let s1 = Satisfies-before mid new a grows s in
          let s0 = Satisfies-before old mid a before s1 in
          let items = map (decode mid.arena a) (all_places (kind_at mid.arena.kinds x) (kind_at mid.arena.kinds y) front) in
          ends.value.value a s
          ∙ ap (λ (k : CellKind). if lit_value l a then sequence (first_places (word_value (length_word k) a) items) else sequence (first_places (word_value (length_word (kind_at mid.arena.kinds y)) a) items)) left-kind
          ∙ ap (λ (k : CellKind). if lit_value l a then sequence (first_places (word_value (length_word (kind_at old.arena.kinds x)) a) items) else sequence (first_places (word_value (length_word k) a) items)) right-kind
          ∙ go a s0 s1 (lit_value l a) refl;
    };
    sort = λ r p q.
        let b = is-sequence (OfSort old.arena.kinds t.sort) (kind_at old.arena.kinds x) t.left.1 in
        sequence-else old.arena.kinds r x b.0 b.1 (λ r. OfSort old.arena.kinds r y → OfSort new.arena.kinds r id) b.2
        (λ s p q. ends.sort s (OfSort-later old mid (sequence_sort s) x p before) (OfSort-later old mid (sequence_sort s) y q before)
        (λ i d lt.
        let m : i < n = let c = chosen.count in omega arith in
        (chosen.each i d m).sort s (place-sorts old.arena.kinds s x p i d (omega arith)) (place-sorts old.arena.kinds s y q i d (omega arith)))) p q;
  }
    where
      go : (a : List Bool) → Satisfies a old.formula → Satisfies a mid.formula → (b : Bool) → lit_value l a ≡ b
          → (if b then sequence (first_places (word_value (length_word (kind_at old.arena.kinds x)) a) (map (decode mid.arena a) (all_places (kind_at mid.arena.kinds x) (kind_at mid.arena.kinds y) front)))
          else sequence (first_places (word_value (length_word (kind_at old.arena.kinds y)) a) (map (decode mid.arena a) (all_places (kind_at mid.arena.kinds x) (kind_at mid.arena.kinds y) front))))
          ≡ (if b then decode old.arena a x else decode old.arena a y)
      go a s0 s1 true e =
          let of : CellId → Value = decode old.arena a in
          let z = word_value (length_word (kind_at old.arena.kinds x)) a in
          ap (λ (vs : List Value). sequence (first_places z vs)) (all-values a)
          ∙ ap sequence (places-same (length ps) n z _ (map of ps) (sequence-range old.arena old.formula a t.sort x old.ranges s0 t.left)
          (λ m le. first-of-left n m _ (map of ps) (map of qs) (front-values a s1 ps left (λ i d lt. ap (λ b. if b then of (get_or ps i d) else of (get_or qs i d)) e)) (let k = length-map ps of in omega arith)))
          ∙ sym (sequence-value old.arena a t.sort x old.built t.left)
      go a s0 s1 false e =
          let of : CellId → Value = decode old.arena a in
          let z = word_value (length_word (kind_at old.arena.kinds y)) a in
          ap (λ (vs : List Value). sequence (first_places z vs)) (all-values a)
          ∙ ap sequence (places-same (length qs) n z _ (map of qs) (sequence-range old.arena old.formula a t.sort y old.ranges s0 t.right)
          (λ m le. first-of-right n m _ (map of ps) (map of qs) (front-values a s1 qs right (λ i d lt. ap (λ b. if b then of (get_or ps i d) else of (get_or qs i d)) e)) (shorter of short)
          (let k = length-map qs of in omega arith)))
          ∙ sym (sequence-value old.arena a t.sort y old.built t.right)
        where
          shorter : (of : CellId → Value) → (length ps ≤ n) ⊎ (length qs ≤ n) → (length (map of ps) ≤ n) ⊎ (length (map of qs) ≤ n)
          shorter of (inl h) = inl (let k = length-map ps of in omega arith)
          shorter of (inr h) = inr (let k = length-map qs of in omega arith)

-- two sequences that are made in one way
pub sequences-alike : (c : Cells) (a : List Bool) (x y : CellId) (j k : CellKind) (v w : List Lit) (left right ps qs : List CellId) (i : ℕ) → decode c a x ≡ kind_value c.texts a (decode c a) j → decode c a y ≡ kind_value c.texts a (decode c a) k
    → j ≡ Seq v left → k ≡ Seq w right → v ≡ w → ps ≡ left → qs ≡ right → length ps ≤ i → length qs ≤ i → map (decode c a) (take i ps) ≡ map (decode c a) (take i qs) → decode c a x ≡ decode c a y
sequences-alike c a x y j k v w left right ps qs i p q js ks words l r m n h =
    let of : CellId → Value = decode c a in
    p ∙ ap (kind_value c.texts a of) js ∙ ap (λ (u : List Lit). sequence (first_places (word_value u a) (map of left))) words ∙ ap (λ (us : List CellId). sequence (first_places (word_value w a) (map of us))) (sym l ∙ sym (take_all i ps m))
    ∙ ap (λ (vs : List Value). sequence (first_places (word_value w a) vs)) h ∙ ap (λ (us : List CellId). sequence (first_places (word_value w a) (map of us))) (take_all i qs n ∙ r)
    ∙ sym (q ∙ ap (kind_value c.texts a of) ks)

-- two lengths are of one width
pub lengths-alike : (c : Cells) (f : Cnf) (m n : ℕ) (j k : CellKind) (v w : List Lit) (us vs : List CellId) → c.vars ≤ f.vars → IsHeld m c.vars c.width j → IsHeld n c.vars c.width k → j ≡ Seq v us → k ≡ Seq w vs → AreWords f.vars v w
lengths-alike c f m n j k v w us vs fits one two e d =
    let N : CellKind → Type 0 = NamesBelow c.vars in
    let P : CellKind → Type 0 = IsFormed c.width in
    record {
      left = WordBelow-later c.vars f.vars v (subst N e one.named) fits;
      right = WordBelow-later c.vars f.vars w (subst N d two.named) fits;
      same = (subst P e one.formed).0 ∙ sym (subst P d two.formed).0;
    }
