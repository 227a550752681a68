-- Records and tuples of a sort, by their parts.
use Rattle.std.proofs.Common.{◌≡◌, ℕ, zero, suc, ◌+◌, ◌<◌, ◌≤◌, Bool, true, false, IsTrue, ◌&&◌, List, [], ◌∷◌, ◌++◌, map, length, take, get_or, All, refl, ap, ◌∙◌, sym, subst, arith, below_more}
use Rattle.std.specs.Prelude.{if◌then◌else◌}
use Rattle.std.specs.List.{zip, list_all}
use Rattle.std.proofs.lemmas.List.{get_or_default, length-map, get_or-map, map_more, take_more, length-take-le, get_or_append_left, get_or_push, length_push, take_all}
use Rattle.std.proofs.lemmas.List.Elements.{All-nil}
use Rattle.std.proofs.lemmas.List.Folds.{list_all-append}
use Rattle.std.proofs.lemmas.Slice.Zip.{firsts-zip, seconds-zip}
use Rattle.sat_formula.specs.declared.lit.Lit.{Lit}
use Rattle.sat_formula.specs.declared.cnf.Cnf.{Cnf}
use Rattle.sat_formula.specs.Lit.{lit_value, IsBelow}
use Rattle.sat_formula.specs.Formula.{Satisfies, HasValue, Grows as FormulaGrows}
use Rattle.sat_formula.proofs.Extension.{Satisfies-older}
use Rattle.tla_values.specs.Order.{same_value}
use Rattle.tla_values.specs.Sets.{distinct, function_of}
use Rattle.tla_values.specs.Sequences.{sequence}
use Rattle.tla_values.specs.declared.value.Value.{Value}
use Rattle.tla_values.specs.declared.value.Value.TheVariants as value
use Rattle.cell_arena.specs.declared.build.Build.{Build}
use Rattle.cell_arena.specs.declared.kinds.CellId.{CellId}
use Rattle.cell_arena.specs.declared.kinds.CellKind.{CellKind}
use Rattle.cell_arena.specs.declared.kinds.CellKind.TheVariants.{Bit, Word, Text, Set, Fun, Rec, Tup, Seq}
use Rattle.cell_arena.specs.Cells.{Cells, WellBuilt, IsFormed, AllDiffer, kind_at}
use Rattle.cell_arena.specs.Decode.{decode, kind_value, field_pairs}
use Rattle.cell_arena.specs.Growth.{Grows}
use Rattle.cell_arena.proofs.Decoding.{decode-kind}
use Rattle.cell_arena.proofs.Growing.{kind-before, decode-before, Satisfies-before}
use Rattle.cell_merge.specs.Sorts.{Sort, truth, number, name, set_of as set_sort, function_of as function_sort, sequence_of as sequence_sort, record_of, tuple_of, OfSort, IsRecord, IsTuple, ArePlaced, OneType}
use Rattle.cell_merge.specs.Choices.{Chooses}
use Rattle.cell_merge.specs.Composites.{parts_of, IsComposite, with_parts_of, FitsParts, IsWithParts}
use Rattle.cell_merge.specs.inner.Composites.{CompositesOfOneType, PartsOfOneType, each_same, TestsParts, ChoosesAt, ChoosesParts}
use Rattle.cell_merge.proofs.FunctionValues.{record_one, tuple_one, same_made, each_push}
use Rattle.cell_merge.proofs.Edges.{is-bit, is-word, is-text, is-set, is-function, is-sequence, is-record, is-tuple, sort-there}
use Rattle.cell_merge.proofs.SortLaws.{OfSort-later, added-kind, added-there}
use Rattle.cell_merge.proofs.Layering.{Chooses-later}
use Rattle.cell_merge.proofs.Tested.{named-push}

-- the cases of parts
pub no-parts : (k : CellKind) → ((fs : List (List ℕ × CellId)) → k ≡ Rec fs → ⊥) → ((ps : List CellId) → k ≡ Tup ps → ⊥)
    → ((w : List Lit) (ps : List CellId) → k ≡ Seq w ps → ⊥) → parts_of k ≡ []
no-parts (Bit l) r t q = refl
no-parts (Word w) r t q = refl
no-parts (Text w) r t q = refl
no-parts (Set es) r t q = refl
no-parts (Fun es) r t q = refl
no-parts (Rec fs) r t q = absurd (r fs refl)
no-parts (Tup ps) r t q = absurd (t ps refl)
no-parts (Seq w ps) r t q = absurd (q w ps refl)

-- ---- a composite of a sort is a record of its names, or a tuple of so many parts

pub by-sort : (ks : List CellKind) (s : Sort) (id : CellId) (M : Sort → CellKind → Type 0)
    → ((names : List (List ℕ)) (t : ℕ → Sort) (fs : List (List ℕ × CellId)) → map (λ (f : List ℕ × CellId). f.0) fs ≡ names → ArePlaced (length names) (λ i. OfSort ks (t i)) (map (λ (f : List ℕ × CellId). f.1) fs) → M (record_of names t) (Rec fs))
    → ((n : ℕ) (t : ℕ → Sort) (ps : List CellId) → ArePlaced n (λ i. OfSort ks (t i)) ps → M (tuple_of n t) (Tup ps))
    → OfSort ks s id → IsComposite (kind_at ks id) → M s (kind_at ks id)
by-sort ks truth id M r t h c = let b = is-bit (kind_at ks id) h.1 in absurd (let P : CellKind → Type 0 = IsComposite in subst P b.1 c)
by-sort ks number id M r t h c = let b = is-word (kind_at ks id) h.1 in absurd (let P : CellKind → Type 0 = IsComposite in subst P b.1 c)
by-sort ks name id M r t h c = let b = is-text (kind_at ks id) h.1 in absurd (let P : CellKind → Type 0 = IsComposite in subst P b.1 c)
by-sort ks (set_sort s) id M r t h c = let b = is-set (OfSort ks s) (kind_at ks id) h.1 in absurd (let P : CellKind → Type 0 = IsComposite in subst P b.1 c)
by-sort ks (function_sort s u) id M r t h c = let b = is-function (OfSort ks s) (OfSort ks u) (kind_at ks id) h.1 in absurd (let P : CellKind → Type 0 = IsComposite in subst P b.1 c)
by-sort ks (sequence_sort s) id M r t h c = let b = is-sequence (OfSort ks s) (kind_at ks id) h.1 in absurd (let P : CellKind → Type 0 = IsComposite in subst P b.2 c)
by-sort ks (record_of names s) id M r t h c =
    let b = is-record names (λ i. OfSort ks (s i)) (kind_at ks id) h.1 in
    let P : CellKind → Type 0 = IsRecord names (λ i. OfSort ks (s i)) in
    let p = subst P b.1 h.1 in
    let Q : CellKind → Type 0 = M (record_of names s) in
    subst Q (sym b.1) (r names s b.0 p.0 p.1)
by-sort ks (tuple_of n s) id M r t h c =
    let b = is-tuple n (λ i. OfSort ks (s i)) (kind_at ks id) h.1 in
    let P : CellKind → Type 0 = IsTuple n (λ i. OfSort ks (s i)) in
    let Q : CellKind → Type 0 = M (tuple_of n s) in
    subst Q (sym b.1) (t n s b.0 (subst P b.1 h.1))

-- the value of a composite of a sort with these values as its parts
abbrev pub composed : Sort → List Value → Value
composed (record_of names s) vs = value.Fun (function_of (zip (map (λ t. value.Text t) names) vs))
composed (tuple_of n s) vs = sequence vs
composed s vs = value.Bool false

-- the sort of its part at a place
abbrev pub part_sort : Sort → ℕ → Sort
part_sort (record_of names s) i = s i
part_sort (tuple_of n s) i = s i
part_sort s i = s

abbrev part_number : Sort → ℕ
part_number (record_of names s) = length names
part_number (tuple_of n s) = n
part_number s = 0

abbrev HasParts : Sort → Type 0
HasParts (record_of names s) = Unit {0}
HasParts (tuple_of n s) = Unit {0}
HasParts s = ⊥

has-composite : (ks : List CellKind) (s : Sort) (y : CellId) → HasParts s → OfSort ks s y → IsComposite (kind_at ks y)
has-composite ks truth y p h = absurd p
has-composite ks number y p h = absurd p
has-composite ks name y p h = absurd p
has-composite ks (set_sort s) y p h = absurd p
has-composite ks (function_sort s t) y p h = absurd p
has-composite ks (sequence_sort s) y p h = absurd p
has-composite ks (record_of names s) y p h =
    let b = is-record names (λ i. OfSort ks (s i)) (kind_at ks y) h.1 in let P : CellKind → Type 0 = IsComposite in subst P (sym b.1) tt
has-composite ks (tuple_of n s) y p h =
    let b = is-tuple n (λ i. OfSort ks (s i)) (kind_at ks y) h.1 in let P : CellKind → Type 0 = IsComposite in subst P (sym b.1) tt

fields-zip : (of : CellId → Value) (fs : List (List ℕ × CellId)) → field_pairs of fs ≡ zip (map (λ t. value.Text t) (map (λ (f : List ℕ × CellId). f.0) fs)) (map of (map (λ (f : List ℕ × CellId). f.1) fs))
fields-zip of [] = refl
fields-zip of (f ∷ fs) = ap (λ l. (value.Text f.0, of f.1) ∷ l) (fields-zip of fs)

names-zip : (of : CellId → Value) (ns : List (List ℕ)) (ps : List CellId) → field_pairs of (zip ns ps) ≡ zip (map (λ t. value.Text t) ns) (map of ps)
names-zip of [] ps = refl
names-zip of (n ∷ ns) [] = refl
names-zip of (n ∷ ns) (p ∷ ps) = ap (λ l. (value.Text n, of p) ∷ l) (names-zip of ns ps)

module _ (ks : List CellKind) (s : Sort) (id : CellId) (sort : OfSort ks s id) (composite : IsComposite (kind_at ks id)) where
  pub has-parts : HasParts s
  has-parts = by-sort ks s id (λ s k. HasParts s) (λ names t fs e h. tt) (λ n t ps h. tt) sort composite

  pub parts-number : length (parts_of (kind_at ks id)) ≡ part_number s
  parts-number = by-sort ks s id (λ s k. length (parts_of k) ≡ part_number s) (λ names t fs e h. h.0) (λ n t ps h. h.0) sort composite

  -- the sort of a part
  pub part-sort : (i : ℕ) (d : CellId) → i < length (parts_of (kind_at ks id)) → OfSort ks (part_sort s i) (get_or (parts_of (kind_at ks id)) i d)
  part-sort = by-sort ks s id (λ s k. (i : ℕ) (d : CellId) → i < length (parts_of k) → OfSort ks (part_sort s i) (get_or (parts_of k) i d))
      (λ names t fs e h i d lt. h.1 i d (omega (arith, h.0))) (λ n t ps h i d lt. h.1 i d (omega (arith, h.0))) sort composite

  -- its value, and that of one with other parts
  pub composed-value : (ts : List (List ℕ)) (a : List Bool) (of : CellId → Value) → kind_value ts a of (kind_at ks id) ≡ composed s (map of (parts_of (kind_at ks id)))
  composed-value ts a of = by-sort ks s id (λ s k. kind_value ts a of k ≡ composed s (map of (parts_of k)))
      (λ names t fs e h. ap (λ ps. value.Fun (function_of ps)) (fields-zip of fs)
      ∙ ap (λ (ns : List (List ℕ)). value.Fun (function_of (zip (map (λ t. value.Text t) ns) (map of (map (λ (f : List ℕ × CellId). f.1) fs))))) e)
      (λ n t ps h. refl) sort composite

  pub other-value : (ts : List (List ℕ)) (a : List Bool) (of : CellId → Value) (ps : List CellId) → kind_value ts a of (with_parts_of (kind_at ks id) ps) ≡ composed s (map of ps)
  other-value ts a of ps = by-sort ks s id (λ s k. kind_value ts a of (with_parts_of k ps) ≡ composed s (map of ps))
      (λ names t fs e h. ap (λ qs. value.Fun (function_of qs)) (names-zip of (map (λ (f : List ℕ × CellId). f.0) fs) ps)
      ∙ ap (λ (ns : List (List ℕ)). value.Fun (function_of (zip (map (λ t. value.Text t) ns) (map of ps)))) e)
      (λ n t qs h. refl) sort composite

  -- other parts make another value
  pub composed-one : (width : ℕ) → IsFormed width (kind_at ks id) → (vs ws : List Value) → length vs ≡ length (parts_of (kind_at ks id)) → length ws ≡ length (parts_of (kind_at ks id))
      → composed s vs ≡ composed s ws → vs ≡ ws
  composed-one width = by-sort ks s id (λ s k. IsFormed width k → (vs ws : List Value) → length vs ≡ length (parts_of k) → length ws ≡ length (parts_of k) → composed s vs ≡ composed s ws → vs ≡ ws)
      (λ names t fs e h formed vs ws m n same.
      let long = length-map names (λ t. value.Text t) in
      let differ : IsTrue (distinct (map (λ t. value.Text t) names)) = subst (λ (ns : List (List ℕ)). IsTrue (distinct (map (λ t. value.Text t) ns))) e formed in
      record_one (map (λ t. value.Text t) names) vs ws differ (m ∙ h.0 ∙ sym long) (n ∙ h.0 ∙ sym long) same)
      (λ n t ps h formed vs ws m k same. tuple_one vs ws same) sort composite

  -- the sort of a new one with other parts
  pub other-sort : (ls : List CellKind) (new : CellId) (ps : List CellId) → new.index < length ls → kind_at ls new ≡ with_parts_of (kind_at ks id) ps → length ps ≡ length (parts_of (kind_at ks id))
      → ((i : ℕ) (d : CellId) → i < length ps → OfSort ls (part_sort s i) (get_or ps i d)) → OfSort ls s new
  other-sort ls new ps = by-sort ks s id
      (λ s k. new.index < length ls → kind_at ls new ≡ with_parts_of k ps → length ps ≡ length (parts_of k) → ((i : ℕ) (d : CellId) → i < length ps → OfSort ls (part_sort s i) (get_or ps i d)) → OfSort ls s new)
      (λ names t fs e h lt is n sorts.
      let ns : List (List ℕ) = map (λ (f : List ℕ × CellId). f.0) fs in
      let m : length ps ≡ length ns = n ∙ h.0 ∙ ap length (sym e) in
      let P : ℕ → CellId → Type 0 = λ i. OfSort ls (t i) in
      let placed : ArePlaced (length names) P ps = (n ∙ h.0, λ i d le. sorts i d (let q = n ∙ h.0 in omega arith)) in
      (lt, subst (λ k. IsRecord names P k) (sym is) (firsts-zip ns ps m ∙ e, subst (λ (qs : List CellId). ArePlaced (length names) P qs) (sym (seconds-zip ns ps m)) placed)))
      (λ n t qs h lt is m sorts. (lt, subst (λ k. IsTuple n (λ i. OfSort ls (t i)) k) (sym is) (m ∙ h.0, λ i d le. sorts i d (let q = m ∙ h.0 in omega arith)))) sort composite

-- ---- two of one sort

module _ (ks : List CellKind) (x y : CellId) (t : CompositesOfOneType ks x y) where
  pub right-composite : IsComposite (kind_at ks y)
  right-composite = has-composite ks t.types.sort y (has-parts ks t.types.sort x t.types.left t.composite) t.types.right

  pub parts-count : length (parts_of (kind_at ks x)) ≡ length (parts_of (kind_at ks y))
  parts-count = parts-number ks t.types.sort x t.types.left t.composite ∙ sym (parts-number ks t.types.sort y t.types.right right-composite)

  pub part-types : (i : ℕ) (d e : CellId) → i < length (parts_of (kind_at ks x)) → OneType ks (get_or (parts_of (kind_at ks x)) i d) (get_or (parts_of (kind_at ks y)) i e)
  part-types i d e lt = record {
    sort = part_sort t.types.sort i;
    left = part-sort ks t.types.sort x t.types.left t.composite i d lt;
    right = part-sort ks t.types.sort y t.types.right right-composite i e (let n = parts-count in omega arith);
  }

  pub parts-typed : (i : ℕ) (left right : CellId) → i < length (parts_of (kind_at ks x)) → left ≡ get_or (parts_of (kind_at ks x)) i left → right ≡ get_or (parts_of (kind_at ks y)) i right → OneType ks left right
  parts-typed i left right lt p q = rw (p, q) (part-types i left right lt)

-- they have one value where their parts do
pub same-parts : (c : Cells) (a : List Bool) (x y : CellId) → WellBuilt c → CompositesOfOneType c.kinds x y
    → each_same (map (decode c a) (parts_of (kind_at c.kinds x))) (map (decode c a) (parts_of (kind_at c.kinds y))) ≡ same_value (decode c a x) (decode c a y)
same-parts c a x y built t =
    let of : CellId → Value = decode c a in
    let s : Sort = t.types.sort in
    let ps : List CellId = parts_of (kind_at c.kinds x) in
    let qs : List CellId = parts_of (kind_at c.kinds y) in
    let lt = sort-there c.kinds s x t.types.left in
    let left : of x ≡ composed s (map of ps) = decode-kind c a x built lt ∙ composed-value c.kinds s x t.types.left t.composite c.texts a of in
    let right : of y ≡ composed s (map of qs) =
    decode-kind c a y built (sort-there c.kinds s y t.types.right) ∙ composed-value c.kinds s y t.types.right (right-composite c.kinds x y t) c.texts a of in
    let m : length (map of ps) ≡ length ps = length-map ps of in
    let n : length (map of qs) ≡ length ps = length-map qs of ∙ sym (parts-count c.kinds x y t) in
    sym (ap (λ v. same_value v (of y)) left ∙ ap (same_value (composed s (map of ps))) right
    ∙ same_made (composed s) (map of ps) (map of qs) (composed-one c.kinds s x t.types.left t.composite c.width (built.held x lt).formed (map of ps) (map of qs) m n))

-- ---- one part more

pub tests-parts-none : (c : Cells) (f : Cnf) (ps qs : List CellId) (ls : List Lit) → ls ≡ [] → TestsParts c f ps qs 0 ls
tests-parts-none c f ps qs ls is = rw is (record { named = All-nil (IsBelow f.vars); values = λ a s. refl })

pub tests-parts-more : (c : Cells) (f g : Cnf) (ps qs : List CellId) (i : ℕ) (x y : CellId) (l : Lit) (before after : List Lit) → i < length ps → i < length qs → TestsParts c f ps qs i before → FormulaGrows f g
    → x ≡ get_or ps i x → y ≡ get_or qs i y → HasValue g l (λ a. same_value (decode c a x) (decode c a y)) → after ≡ before ++ l ∷ [] → TestsParts c g ps qs (i + 1) after
tests-parts-more c f g ps qs i x y l before after p q tests grows left right gate pushed = record {
  named = named-push f.vars g.vars before after l tests.named grows.vars gate.below pushed;
  values = λ a s.
      let of : CellId → Value = decode c a in
      let vs : List Value = map of (take i ps) in
      let ws : List Value = map of (take i qs) in
      let n : length vs ≡ length ws = length-map (take i ps) of ∙ length-take-le i ps (omega arith) ∙ sym (length-map (take i qs) of ∙ length-take-le i qs (omega arith)) in
      ap (list_all (λ x. lit_value x a)) pushed ∙ list_all-append (λ x. lit_value x a) before (l ∷ [])
      ∙ last (list_all (λ x. lit_value x a) before) (lit_value l a)
      ∙ ap (λ t. t && lit_value l a) (tests.values a (Satisfies-older f g a grows s))
      ∙ ap (λ t. each_same vs ws && t) (gate.value a s ∙ ap (λ u. same_value (of u) (of y)) left ∙ ap (λ u. same_value (of (get_or ps i x)) (of u)) right)
      ∙ sym (ap (λ us. each_same us (map of (take (i + 1) qs))) (map_more of ps i x p) ∙ ap (each_same (vs ++ of (get_or ps i x) ∷ [])) (map_more of qs i y q)
      ∙ each_push vs ws (of (get_or ps i x)) (of (get_or qs i y)) n);
}
  where
    last : (p q : Bool) → (p && (q && true)) ≡ (p && q)
    last true true = refl
    last true false = refl
    last false q = refl

-- all parts
pub tests-parts-all : (c : Cells) (f : Cnf) (a : List Bool) (x y : CellId) (ls : List Lit) → WellBuilt c → CompositesOfOneType c.kinds x y → Satisfies a f
    → TestsParts c f (parts_of (kind_at c.kinds x)) (parts_of (kind_at c.kinds y)) (length (parts_of (kind_at c.kinds x))) ls → list_all (λ l. lit_value l a) ls ≡ same_value (decode c a x) (decode c a y)
tests-parts-all c f a x y ls built t s h =
    let ps : List CellId = parts_of (kind_at c.kinds x) in
    let qs : List CellId = parts_of (kind_at c.kinds y) in
    let n : length qs ≤ length ps = let m = parts-count c.kinds x y t in omega arith in
    h.values a s ∙ ap (λ us. each_same (map (decode c a) us) (map (decode c a) (take (length ps) qs))) (take_all (length ps) ps (omega arith))
    ∙ ap (λ us. each_same (map (decode c a) ps) (map (decode c a) us)) (take_all (length ps) qs n)
    ∙ same-parts c a x y built t

-- ---- one chosen part more

pub Chooses-from : (old mid new : Build) (l : Lit) (x y id : CellId) → x.index < length old.arena.kinds → y.index < length old.arena.kinds → Grows old mid → Chooses mid new l x y id → Chooses old new l x y id
Chooses-from old mid new l x y id p q grows h = record {
  value = record {
    there = h.value.there;
    value = λ a s. h.value.value a s ∙ ap (λ v. if lit_value l a then v else decode mid.arena a y) (decode-before old mid a x grows p)
        ∙ ap (λ v. if lit_value l a then decode old.arena a x else v) (decode-before old mid a y grows q);
  };
  sort = λ s left right. h.sort s (OfSort-later old mid s x left grows) (OfSort-later old mid s y right grows);
}

pub parts-chosen-none : (b : Build) (l : Lit) (ps qs : List CellId) (out : List CellId) → out ≡ [] → ChoosesParts b b l ps qs 0 out
parts-chosen-none b l ps qs out is = rw is (record { count = refl; each = λ i d lt. absurd (omega arith) })

pub parts-chosen-more : (old mid new : Build) (l : Lit) (x y : CellId) (n i : ℕ) (part : CellId) (out after : List CellId) → PartsOfOneType old.arena.kinds x y n → i < n
    → ChoosesParts old mid l (parts_of (kind_at old.arena.kinds x)) (parts_of (kind_at old.arena.kinds y)) i out → Grows old mid → Grows mid new
    → ChoosesAt mid new l (parts_of (kind_at mid.arena.kinds x)) (parts_of (kind_at mid.arena.kinds y)) i part → after ≡ out ++ part ∷ []
    → ChoosesParts old new l (parts_of (kind_at old.arena.kinds x)) (parts_of (kind_at old.arena.kinds y)) (i + 1) after
parts-chosen-more old mid new l x y n i part out after t lt chosen before grows one pushed =
    let ks : List CellKind = old.arena.kinds in
    let ps : List CellId = parts_of (kind_at ks x) in
    let qs : List CellId = parts_of (kind_at ks y) in
    let left : parts_of (kind_at mid.arena.kinds x) ≡ ps = ap parts_of (kind-before old mid x before t.x_there) in
    let right : parts_of (kind_at mid.arena.kinds y) ≡ qs = ap parts_of (kind-before old mid y before t.y_there) in
    record {
      count = ap length pushed ∙ length_push out part ∙ ap (λ (n : ℕ). n + 1) chosen.count;
      each = λ j d.
          let F : ℕ → Type 0 = λ j. Chooses old new l (get_or ps j d) (get_or qs j d) (get_or (out ++ part ∷ []) j d) in
          rw pushed (below_more F i
          (λ k le.
          let n : k < length out = let m = chosen.count in omega arith in
          subst (λ (c : CellId). Chooses old new l (get_or ps k d) (get_or qs k d) c) (sym (get_or_append_left out (part ∷ []) d k n)) (Chooses-later old mid new l _ _ _ (chosen.each k d le) grows))
          (let w = t.each i d lt in
          let h : Chooses mid new l (get_or ps i d) (get_or qs i d) part = subst (λ (us : List CellId). Chooses mid new l (get_or ps i d) (get_or us i d) part) right
          (subst (λ (us : List CellId). Chooses mid new l (get_or us i d) (get_or (parts_of (kind_at mid.arena.kinds y)) i d) part) left (one d)) in
          subst (λ (c : CellId). Chooses old new l (get_or ps i d) (get_or qs i d) c) (sym (get_or_push out part d i chosen.count))
          (Chooses-from old mid new l _ _ part (sort-there ks w.sort _ w.left) (sort-there ks w.sort _ w.right) before h)) j);
    }

-- fewer parts, and the types of parts stay
pub parts-fewer : (b c : Build) (x y : CellId) (n m : ℕ) → PartsOfOneType b.arena.kinds x y n → m ≤ n → Grows b c → PartsOfOneType c.arena.kinds x y m
parts-fewer b c x y n m t le g =
    let left = kind-before b c x g t.x_there in
    let right = kind-before b c y g t.y_there in
    let long = g.longer in
    record {
      x_there = let p = t.x_there in omega arith;
      y_there = let p = t.y_there in omega arith;
      left = let p = t.left in let e = ap (λ (k : CellKind). length (parts_of k)) left in omega arith;
      right = let p = t.right in let e = ap (λ (k : CellKind). length (parts_of k)) right in omega arith;
      each = λ i d lt.
          let w = t.each i d (omega arith) in
          subst (λ (k : CellKind). OneType c.arena.kinds (get_or (parts_of k) i d) (get_or (parts_of (kind_at c.arena.kinds y)) i d)) (sym left)
          (subst (λ (k : CellKind). OneType c.arena.kinds (get_or (parts_of (kind_at b.arena.kinds x)) i d) (get_or (parts_of k) i d)) (sym right)
          (record { sort = w.sort; left = OfSort-later b c w.sort _ w.left g; right = OfSort-later b c w.sort _ w.right g }));
    }

-- the types of the parts at a place
pub part-types-of : (ks : List CellKind) (x y : CellId) (i : ℕ) (left right : CellId) → PartsOfOneType ks x y (i + 1) → left ≡ get_or (parts_of (kind_at ks x)) i left → right ≡ get_or (parts_of (kind_at ks y)) i right → OneType ks left right
part-types-of ks x y i left right t p q =
    let lt : i < length (parts_of (kind_at ks x)) = let m = t.left in omega arith in
    let e : right ≡ get_or (parts_of (kind_at ks y)) i left = q ∙ get_or_default (parts_of (kind_at ks y)) i right left (let m = t.right in omega arith) in
    rw (p, e) (t.each i left (omega arith))

-- the parts of two records or tuples of one sort
pub composite-parts : (ks : List CellKind) (x y : CellId) → CompositesOfOneType ks x y → PartsOfOneType ks x y (length (parts_of (kind_at ks x)))
composite-parts ks x y t = record {
  x_there = sort-there ks t.types.sort x t.types.left;
  y_there = sort-there ks t.types.sort y t.types.right;
  left = omega arith;
  right = let n = parts-count ks x y t in omega arith;
  each = λ i d lt. part-types ks x y t i d d lt;
}

-- ---- a composite of chosen parts

pub maps-one : (f g : CellId → Value) (xs ys : List CellId) → length xs ≡ length ys → ((i : ℕ) (d : CellId) → i < length xs → f (get_or xs i d) ≡ g (get_or ys i d)) → map f xs ≡ map g ys
maps-one f g [] [] n h = refl
maps-one f g [] (y ∷ ys) n h = absurd (omega arith)
maps-one f g (x ∷ xs) [] n h = absurd (omega arith)
maps-one f g (x ∷ xs) (y ∷ ys) n h = ap (λ v. v ∷ map f xs) (h zero x (omega arith)) ∙ ap (λ l. g y ∷ l) (maps-one f g xs ys (omega arith) (λ i d lt. h (suc i) d (omega arith)))

module _ (old mid : Build) (l : Lit) (x y : CellId) (out : List CellId) (t : CompositesOfOneType old.arena.kinds x y)
    (chosen : ChoosesParts old mid l (parts_of (kind_at old.arena.kinds x)) (parts_of (kind_at old.arena.kinds y)) (length (parts_of (kind_at old.arena.kinds x))) out)
    (before : Grows old mid) where
  abbrev ks : List CellKind
  ks = old.arena.kinds

  abbrev k : CellKind
  k = kind_at ks x

  kind-then : kind_at mid.arena.kinds x ≡ k
  kind-then = kind-before old mid x before (sort-there ks t.types.sort x t.types.left)

  chosen-values : (a : List Bool) → Satisfies a mid.formula → (b : Bool) → lit_value l a ≡ b
      → map (decode mid.arena a) out ≡ (if b then map (decode old.arena a) (parts_of k) else map (decode old.arena a) (parts_of (kind_at ks y)))
  chosen-values a s true e = maps-one (decode mid.arena a) (decode old.arena a) out (parts_of k) chosen.count
      (λ i d lt. (chosen.each i d (let n = chosen.count in omega arith)).value.value a s ∙ ap (λ b. if b then decode old.arena a (get_or (parts_of k) i d) else decode old.arena a (get_or (parts_of (kind_at ks y)) i d)) e)
  chosen-values a s false e = maps-one (decode mid.arena a) (decode old.arena a) out (parts_of (kind_at ks y)) (chosen.count ∙ parts-count ks x y t)
      (λ i d lt. (chosen.each i d (let n = chosen.count in omega arith)).value.value a s ∙ ap (λ b. if b then decode old.arena a (get_or (parts_of k) i d) else decode old.arena a (get_or (parts_of (kind_at ks y)) i d)) e)

  pub chosen-fits : FitsParts mid.arena.kinds x out
  chosen-fits = record {
    there = let lt = sort-there ks t.types.sort x t.types.left in let g = before.longer in omega arith;
    composite = let P : CellKind → Type 0 = IsComposite in subst P (sym kind-then) t.composite;
    count = chosen.count ∙ ap (λ (k : CellKind). length (parts_of k)) (sym kind-then);
    parts = λ i d lt. (chosen.each i d (let n = chosen.count in omega arith)).value.there;
  }

  pub chosen-composite : (new : Build) (id : CellId) → Grows mid new → IsWithParts mid new x out id → Chooses old new l x y id
  chosen-composite new id grows made = record {
    value = record {
      there = made.value.there;
      value = λ a s.
          let s1 = Satisfies-before mid new a grows s in
          let of : CellId → Value = decode old.arena a in
          let r = t.types.sort in
          let left : of x ≡ composed r (map of (parts_of k)) =
          decode-kind old.arena a x old.built (sort-there ks r x t.types.left) ∙ composed-value ks r x t.types.left t.composite old.arena.texts a of in
          let right : of y ≡ composed r (map of (parts_of (kind_at ks y))) =
          decode-kind old.arena a y old.built (sort-there ks r y t.types.right) ∙ composed-value ks r y t.types.right (right-composite ks x y t) old.arena.texts a of in
          made.value.value a s ∙ ap (λ (m : CellKind). kind_value mid.arena.texts a (decode mid.arena a) (with_parts_of m out)) kind-then
          ∙ other-value ks r x t.types.left t.composite mid.arena.texts a (decode mid.arena a) out
          ∙ ap (composed r) (chosen-values a s1 (lit_value l a) refl)
          ∙ either (lit_value l a) (composed r) (map of (parts_of k)) (map of (parts_of (kind_at ks y))) (of x) (of y) left right;
    };
    sort = λ s p q. other-sort ks s x p t.composite new.arena.kinds id out (added-there mid new _ id made.cell) (added-kind mid new _ id made.cell ∙ ap (λ (m : CellKind). with_parts_of m out) kind-then) chosen.count
        (λ i d lt.
        let le : i < length (parts_of k) = let n = chosen.count in omega arith in
        let lr : i < length (parts_of (kind_at ks y)) = let n = parts-count ks x y t in omega arith in
        OfSort-later mid new (part_sort s i) (get_or out i d)
        ((chosen.each i d le).sort (part_sort s i) (part-sort ks s x p t.composite i d le) (part-sort ks s y q (right-composite ks x y t) i d lr)) grows);
  }
    where
      either : (b : Bool) (f : List Value → Value) (vs ws : List Value) (v w : Value) → v ≡ f vs → w ≡ f ws → f (if b then vs else ws) ≡ (if b then v else w)
      either true f vs ws v w p q = sym p
      either false f vs ws v w p q = sym q

-- ---- what the loops and the calls have

-- one name more, with its part
zip-push : (ns : List (List ℕ)) (ps : List CellId) (n : List ℕ) (p : CellId) → length ns ≡ length ps → zip (ns ++ n ∷ []) (ps ++ p ∷ []) ≡ zip ns ps ++ (n, p) ∷ []
zip-push [] [] n p e = refl
zip-push [] (q ∷ ps) n p e = absurd (omega arith)
zip-push (m ∷ ns) [] n p e = absurd (omega arith)
zip-push (m ∷ ns) (q ∷ ps) n p e = ap (λ l. (m, q) ∷ l) (zip-push ns ps n p (omega arith))

pub named-more : (fs : List (List ℕ × CellId)) (ps : List CellId) (i : ℕ) (f : List ℕ × CellId) (p : CellId) (n : List ℕ) (before after : List (List ℕ × CellId)) → i < length fs → length ps ≡ length fs
    → n ≡ (get_or fs i f).0 → before ≡ zip (map (λ (f : List ℕ × CellId). f.0) (take i fs)) (take i ps) → after ≡ before ++ (n, get_or ps i p) ∷ []
    → after ≡ zip (map (λ (f : List ℕ × CellId). f.0) (take (i + 1) fs)) (take (i + 1) ps)
named-more fs ps i f p n before after lt long named h pushed =
    let ns : List (List ℕ) = map (λ (f : List ℕ × CellId). f.0) (take i fs) in
    let m : length ns ≡ length (take i ps) = length-map (take i fs) (λ (f : List ℕ × CellId). f.0) ∙ length-take-le i fs (omega arith) ∙ sym (length-take-le i ps (omega arith)) in
    pushed ∙ ap (λ l. l ++ (n, get_or ps i p) ∷ []) h ∙ ap (λ x. zip ns (take i ps) ++ (x, get_or ps i p) ∷ []) named
    ∙ sym (ap (λ l. zip l (take (i + 1) ps)) (map_more (λ (f : List ℕ × CellId). f.0) fs i f lt) ∙ ap (zip (ns ++ (get_or fs i f).0 ∷ [])) (take_more ps i p (omega arith)) ∙ zip-push ns (take i ps) (get_or fs i f).0 (get_or ps i p) m)

-- a record with other parts may be made
module _ (ks : List CellKind) (id : CellId) (n width : ℕ) (k : CellKind) (fs items : List (List ℕ × CellId)) (ps : List CellId) (fits : FitsParts ks id ps) (same : k ≡ kind_at ks id) (is : k ≡ Rec fs) (list : items ≡ fs) where
  pub names-count : length ps ≡ length items
  names-count = fits.count ∙ ap (λ (k : CellKind). length (parts_of k)) (sym same ∙ is) ∙ length-map fs (λ (f : List ℕ × CellId). f.1) ∙ ap length (sym list)

  names-long : length ps ≡ length (map (λ (f : List ℕ × CellId). f.0) items)
  names-long = names-count ∙ sym (length-map items (λ (f : List ℕ × CellId). f.0))

  pub names-differ : IsFormed width k → AllDiffer (map (λ (f : List ℕ × CellId). f.0) (zip (map (λ (f : List ℕ × CellId). f.0) items) ps))
  names-differ formed =
      let P : CellKind → Type 0 = IsFormed width in
      let Q : List (List ℕ × CellId) → Type 0 = λ gs. AllDiffer (map (λ (f : List ℕ × CellId). f.0) gs) in
      subst AllDiffer (sym (firsts-zip (map (λ (f : List ℕ × CellId). f.0) items) ps names-long)) (subst Q (sym list) (subst P is formed))

  pub named-older : All (λ (f : List ℕ × CellId). f.1.index < length ks) (zip (map (λ (f : List ℕ × CellId). f.0) items) ps)
  named-older = λ i d lt.
      let gs : List (List ℕ × CellId) = zip (map (λ (f : List ℕ × CellId). f.0) items) ps in
      let e : map (λ (f : List ℕ × CellId). f.1) gs ≡ ps = seconds-zip (map (λ (f : List ℕ × CellId). f.0) items) ps names-long in
      let le : i < length ps = let m = ap length e in let q = length-map gs (λ (f : List ℕ × CellId). f.1) in omega arith in
      let P : CellId → Type 0 = λ p. p.index < length ks in
      subst P (ap (λ (us : List CellId). get_or us i d.1) (sym e) ∙ get_or-map (λ (f : List ℕ × CellId). f.1) gs i d d.1 lt) (fits.parts i d.1 le)

-- tuples of parts with the same values
pub parts-alike : (of : CellId → Value) (ps qs : List CellId) (i : ℕ) (d : CellId) → i < length ps → length ps ≡ length qs → map of (take i ps) ≡ map of (take i qs) → of (get_or ps i d) ≡ of (get_or qs i d)
    → map of (take (i + 1) ps) ≡ map of (take (i + 1) qs)
parts-alike of ps qs i d lt n before here =
    map_more of ps i d lt ∙ ap (λ l. l ++ of (get_or ps i d) ∷ []) before ∙ ap (λ v. map of (take i qs) ++ v ∷ []) here ∙ sym (map_more of qs i d (omega arith))

pub tuples-alike : (c : Cells) (a : List Bool) (x y : CellId) (j k : CellKind) (left right ps qs : List CellId) (i : ℕ) → decode c a x ≡ kind_value c.texts a (decode c a) j → decode c a y ≡ kind_value c.texts a (decode c a) k
    → j ≡ Tup left → k ≡ Tup right → ps ≡ left → qs ≡ right → length ps ≤ i → length qs ≤ i → map (decode c a) (take i ps) ≡ map (decode c a) (take i qs) → decode c a x ≡ decode c a y
tuples-alike c a x y j k left right ps qs i p q js ks l r m n h =
    let of : CellId → Value = decode c a in
    p ∙ ap (kind_value c.texts a of) js ∙ ap (λ us. sequence (map of us)) (sym l ∙ sym (take_all i ps m)) ∙ ap sequence h ∙ ap (λ us. sequence (map of us)) (take_all i qs n ∙ r)
    ∙ sym (q ∙ ap (kind_value c.texts a of) ks)
