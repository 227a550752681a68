-- A choice between two cells, by their kinds.
use Rattle.std.proofs.Common.{◌≡◌, ℕ, ◌<◌, Bool, true, false, not, IsTrue, List, length, All, get_or, ℤ, refl, sym, ap, ◌∙◌, subst}
use Rattle.std.specs.Prelude.{if◌then◌else◌}
use Rattle.sat_formula.specs.declared.lit.Lit.{Lit}
use Rattle.sat_formula.specs.declared.cnf.Cnf.{Cnf}
use Rattle.sat_formula.specs.Lit.{lit_value, top_lit}
use Rattle.sat_formula.specs.Formula.{Satisfies, HasValue, Grows as FormulaGrows}
use Rattle.sat_formula.proofs.Extension.{Satisfies-older}
use Rattle.word_blaster.specs.Word.{word_value}
use Rattle.tla_values.specs.Order.{same_value}
use Rattle.tla_values.specs.Sets.{set_of, member}
use Rattle.tla_values.specs.declared.value.Value.{Value}
use Rattle.tla_values.specs.declared.value.Value.TheVariants as value
use Rattle.tla_values.proofs.Extensional.{same_members, set_of_rising, members_of, member-set_of}
use Rattle.cell_arena.specs.declared.build.Build.{Build}
use Rattle.cell_arena.specs.declared.kinds.CellId.{CellId}
use Rattle.cell_arena.specs.declared.kinds.CellKind.{CellKind}
use Rattle.cell_arena.specs.declared.kinds.CellKind.TheVariants.{Bit, Word, Text, Set}
use Rattle.cell_arena.specs.Cells.{Cells, kind_at, IsHeld, NamesBelow, is_index}
use Rattle.cell_arena.specs.Decode.{decode, present, kind_value, text_at}
use Rattle.cell_arena.specs.Growth.{Grows, Decodes, Adds}
use Rattle.cell_arena.proofs.Growing.{Decodes-same, Satisfies-before}
use Rattle.cell_merge.specs.declared.merging.Join.TheVariants.{Chosen}
use Rattle.cell_merge.specs.Sorts.{Sort, truth, number, name, set_of as set_sort, function_of, sequence_of, record_of, tuple_of, OfSort, IsBit, IsWord, IsText, IsSet, IsFunction, IsSequence, IsRecord, IsTuple, OneType, IsOver}
use Rattle.cell_merge.specs.Choices.{Chooses}
use Rattle.cell_merge.specs.Edges.{LeadTo, Merges, TwoSets}
use Rattle.cell_merge.proofs.Edges.{any-present, sort-there, edges-sort, one-set, left-there, right-there}
use Rattle.cell_merge.proofs.Unions.{AreNamed-later}
use Rattle.cell_merge.proofs.Names.{code-in}
use Rattle.cell_merge.proofs.SortLaws.{sort-bit, sort-word, sort-text, sort-set}

-- sets of lists that the same values stand in
pub set_of-same : (xs ys : List Value) → ((v : Value) → member v xs ≡ member v ys) → set_of xs ≡ set_of ys
set_of-same xs ys h =
    let same : (v : Value) → member v (set_of xs) ≡ member v (set_of ys) = λ v. member-set_of v xs ∙ h v ∙ sym (member-set_of v ys) in
    same_members (set_of xs) (set_of ys) (set_of_rising xs) (set_of_rising ys)
    (members_of (set_of ys) (set_of xs) (λ v e. sym (same v) ∙ e)) (members_of (set_of xs) (set_of ys) (λ v e. same v ∙ e))

if-ap : {X : Type 0} {Y : Type 0} (f : X → Y) (t : Bool) (x y : X) → f (if t then x else y) ≡ (if t then f x else f y)
if-ap f true x y = refl
if-ap f false x y = refl

if-both : {X : Type 0} (t : Bool) (x y u v : X) → x ≡ u → y ≡ v → (if t then x else y) ≡ (if t then u else v)
if-both true x y u v e f = e
if-both false x y u v e f = f

if-true : {X : Type 0} (t : Bool) (x y : X) → t ≡ true → x ≡ (if t then x else y)
if-true t x y e = ap (λ b. if b then x else y) (sym e)

if-false : {X : Type 0} (t : Bool) (x y : X) → t ≡ false → y ≡ (if t then x else y)
if-false t x y e = ap (λ b. if b then x else y) (sym e)

-- a literal of the first variable, which is true
pub top_value : (l : Lit) (a : List Bool) → l.var ≡ 0 → lit_value top_lit a ≡ true → lit_value l a ≡ not l.neg
top_value l a e h =
    ap (λ (n : ℕ). lit_value (record { var = n; neg = l.neg }) a) e ∙ turned l.neg (get_or a 0 false) h
  where
    turned : (n : Bool) (t : Bool) → t ≡ true → (if n then not t else t) ≡ not n
    turned true t h = ap not h
    turned false t h = h

-- one of the two, where they have one value or the literal is known
module _ (b c : Build) (l : Lit) (x y : CellId) (same : c.arena ≡ b.arena) (over : c.formula ≡ b.formula) where
  there-still : (id : CellId) → id.index < length b.arena.kinds → id.index < length c.arena.kinds
  there-still id lt = rw same lt

  decode-still : (a : List Bool) (id : CellId) → decode c.arena a id ≡ decode b.arena a id
  decode-still a id = ap (λ (d : Cells). decode d a id) same

  sort-still : (s : Sort) (id : CellId) → OfSort b.arena.kinds s id → OfSort c.arena.kinds s id
  sort-still s id h = subst (λ (d : Cells). OfSort d.kinds s id) (sym same) h

  before : (a : List Bool) → Satisfies a c.formula → Satisfies a b.formula
  before a s = subst (λ (f : Cnf). Satisfies a f) over s

  pub chosen-first : x.index < length b.arena.kinds → ((a : List Bool) → Satisfies a b.formula → lit_value l a ≡ true) → Chooses b c l x y x
  chosen-first lt on = record {
    value = record { there = there-still x lt; value = λ a s. decode-still a x ∙ if-true (lit_value l a) _ _ (on a (before a s)) };
    sort = λ s p q. sort-still s x p;
  }

  pub chosen-second : y.index < length b.arena.kinds → ((a : List Bool) → Satisfies a b.formula → lit_value l a ≡ false) → Chooses b c l x y y
  chosen-second lt off = record {
    value = record { there = there-still y lt; value = λ a s. decode-still a y ∙ if-false (lit_value l a) _ _ (off a (before a s)) };
    sort = λ s p q. sort-still s y q;
  }

  pub chosen-alike : x.index < length b.arena.kinds → ((a : List Bool) → decode b.arena a x ≡ decode b.arena a y) → Chooses b c l x y x
  chosen-alike lt equal = record {
    value = record { there = there-still x lt; value = λ a s. decode-still a x ∙ either (lit_value l a) (equal a) };
    sort = λ s p q. sort-still s x p;
  }
    where
      either : {v : Value} {w : Value} (t : Bool) → v ≡ w → v ≡ (if t then v else w)
      either true e = refl
      either false e = e

-- a kind and a sort that do not go together
bit-else : (ks : List CellKind) (s : Sort) (x : CellId) (m : Lit) → OfSort ks s x → kind_at ks x ≡ Bit m → s ≡ truth
bit-else ks truth x m h e = refl
bit-else ks number x m h e = let P : CellKind → Type 0 = IsWord in absurd (subst P e h.1)
bit-else ks name x m h e = let P : CellKind → Type 0 = IsText in absurd (subst P e h.1)
bit-else ks (set_sort s) x m h e = let P : CellKind → Type 0 = IsSet (OfSort ks s) in absurd (subst P e h.1)
bit-else ks (function_of s t) x m h e = let P : CellKind → Type 0 = IsFunction (OfSort ks s) (OfSort ks t) in absurd (subst P e h.1)
bit-else ks (sequence_of s) x m h e = let P : CellKind → Type 0 = IsSequence (OfSort ks s) in absurd (subst P e h.1)
bit-else ks (record_of names s) x m h e = let P : CellKind → Type 0 = IsRecord names (λ i. OfSort ks (s i)) in absurd (subst P e h.1)
bit-else ks (tuple_of n s) x m h e = let P : CellKind → Type 0 = IsTuple n (λ i. OfSort ks (s i)) in absurd (subst P e h.1)

word-else : (ks : List CellKind) (s : Sort) (x : CellId) (v : List Lit) → OfSort ks s x → kind_at ks x ≡ Word v → s ≡ number
word-else ks truth x v h e = let P : CellKind → Type 0 = IsBit in absurd (subst P e h.1)
word-else ks number x v h e = refl
word-else ks name x v h e = let P : CellKind → Type 0 = IsText in absurd (subst P e h.1)
word-else ks (set_sort s) x v h e = let P : CellKind → Type 0 = IsSet (OfSort ks s) in absurd (subst P e h.1)
word-else ks (function_of s t) x v h e = let P : CellKind → Type 0 = IsFunction (OfSort ks s) (OfSort ks t) in absurd (subst P e h.1)
word-else ks (sequence_of s) x v h e = let P : CellKind → Type 0 = IsSequence (OfSort ks s) in absurd (subst P e h.1)
word-else ks (record_of names s) x v h e = let P : CellKind → Type 0 = IsRecord names (λ i. OfSort ks (s i)) in absurd (subst P e h.1)
word-else ks (tuple_of n s) x v h e = let P : CellKind → Type 0 = IsTuple n (λ i. OfSort ks (s i)) in absurd (subst P e h.1)

text-else : (ks : List CellKind) (s : Sort) (x : CellId) (v : List Lit) → OfSort ks s x → kind_at ks x ≡ Text v → s ≡ name
text-else ks truth x v h e = let P : CellKind → Type 0 = IsBit in absurd (subst P e h.1)
text-else ks number x v h e = let P : CellKind → Type 0 = IsWord in absurd (subst P e h.1)
text-else ks name x v h e = refl
text-else ks (set_sort s) x v h e = let P : CellKind → Type 0 = IsSet (OfSort ks s) in absurd (subst P e h.1)
text-else ks (function_of s t) x v h e = let P : CellKind → Type 0 = IsFunction (OfSort ks s) (OfSort ks t) in absurd (subst P e h.1)
text-else ks (sequence_of s) x v h e = let P : CellKind → Type 0 = IsSequence (OfSort ks s) in absurd (subst P e h.1)
text-else ks (record_of names s) x v h e = let P : CellKind → Type 0 = IsRecord names (λ i. OfSort ks (s i)) in absurd (subst P e h.1)
text-else ks (tuple_of n s) x v h e = let P : CellKind → Type 0 = IsTuple n (λ i. OfSort ks (s i)) in absurd (subst P e h.1)

module _ (old mid new : Build) (l : Lit) (x y id : CellId) (j k made : CellKind) (v : List Bool → Value) (same : mid.arena ≡ old.arena)
    (left : (a : List Bool) → decode old.arena a x ≡ kind_value old.arena.texts a (decode old.arena a) j)
    (right : (a : List Bool) → decode old.arena a y ≡ kind_value old.arena.texts a (decode old.arena a) k)
    (js : j ≡ kind_at old.arena.kinds x) (ks : k ≡ kind_at old.arena.kinds y) (adds : Adds mid new made id) (decodes : Decodes new id v) (grows : Grows mid new) where
  -- the value of either kind
  chosen-value : (p q : CellKind) → j ≡ p → k ≡ q
      → ((a : List Bool) → Satisfies a mid.formula → v a ≡ (if lit_value l a then kind_value old.arena.texts a (decode old.arena a) p else kind_value old.arena.texts a (decode old.arena a) q))
      → Decodes new id (λ a. if lit_value l a then decode old.arena a x else decode old.arena a y)
  chosen-value p q e f h = Decodes-same new id v _ decodes
      (λ a s. h a (Satisfies-before mid new a grows s)
      ∙ if-both (lit_value l a) _ _ _ _ (sym (left a ∙ ap (kind_value old.arena.texts a (decode old.arena a)) e)) (sym (right a ∙ ap (kind_value old.arena.texts a (decode old.arena a)) f)))

  pub chosen-bit : (m n r : Lit) → j ≡ Bit m → k ≡ Bit n → made ≡ Bit r → v ≡ (λ a. value.Bool (lit_value r a))
      → HasValue mid.formula r (λ a. if lit_value l a then lit_value m a else lit_value n a) → Chooses old new l x y id
  chosen-bit m n r e f g is gate = record {
    value = chosen-value (Bit m) (Bit n) e f (λ a s. ap (λ (u : List Bool → Value). u a) is ∙ ap (λ b. value.Bool b) (gate.value a s) ∙ if-ap (λ b. value.Bool b) (lit_value l a) _ _);
    sort = λ s p q. subst (λ (t : Sort). OfSort new.arena.kinds t id) (sym (bit-else old.arena.kinds s x m p (sym js ∙ e)))
        (sort-bit mid new r id (subst (λ (t : CellKind). Adds mid new t id) g adds));
  }

  pub chosen-word : (m n r : List Lit) → j ≡ Word m → k ≡ Word n → made ≡ Word r → v ≡ (λ a. value.Int (word_value r a))
      → ((a : List Bool) → Satisfies a mid.formula → word_value r a ≡ (if lit_value l a then word_value m a else word_value n a)) → Chooses old new l x y id
  chosen-word m n r e f g is gate = record {
    value = chosen-value (Word m) (Word n) e f (λ a s. ap (λ (u : List Bool → Value). u a) is ∙ ap (λ b. value.Int b) (gate a s) ∙ if-ap (λ b. value.Int b) (lit_value l a) _ _);
    sort = λ s p q. subst (λ (t : Sort). OfSort new.arena.kinds t id) (sym (word-else old.arena.kinds s x m p (sym js ∙ e)))
        (sort-word mid new r id (subst (λ (t : CellKind). Adds mid new t id) g adds));
  }

  pub chosen-text : (m n r : List Lit) → j ≡ Text m → k ≡ Text n → made ≡ Text r → v ≡ (λ a. value.Text (text_at old.arena.texts (word_value r a)))
      → ((a : List Bool) → Satisfies a mid.formula → word_value r a ≡ (if lit_value l a then word_value m a else word_value n a)) → Chooses old new l x y id
  chosen-text m n r e f g is gate = record {
    value = chosen-value (Text m) (Text n) e f
        (λ a s. ap (λ (u : List Bool → Value). u a) is ∙ ap (λ b. value.Text (text_at old.arena.texts b)) (gate a s) ∙ if-ap (λ b. value.Text (text_at old.arena.texts b)) (lit_value l a) _ _);
    sort = λ s p q. subst (λ (t : Sort). OfSort new.arena.kinds t id) (sym (text-else old.arena.kinds s x m p (sym js ∙ e)))
        (sort-text mid new r id (subst (λ (t : CellKind). Adds mid new t id) g adds));
  }

  set-sorts : (s : Sort) (es fs out : List (Lit × CellId)) → kind_at old.arena.kinds x ≡ Set es → kind_at old.arena.kinds y ≡ Set fs → made ≡ Set out
      → ((t : Sort) → LeadTo old.arena.kinds t es → LeadTo old.arena.kinds t fs → LeadTo old.arena.kinds t out)
      → OfSort old.arena.kinds s x → OfSort old.arena.kinds s y → OfSort new.arena.kinds s id
  set-sorts truth es fs out e f g h p q = let P : CellKind → Type 0 = IsBit in absurd (subst P e p.1)
  set-sorts number es fs out e f g h p q = let P : CellKind → Type 0 = IsWord in absurd (subst P e p.1)
  set-sorts name es fs out e f g h p q = let P : CellKind → Type 0 = IsText in absurd (subst P e p.1)
  set-sorts (function_of s t) es fs out e f g h p q = let P : CellKind → Type 0 = IsFunction (OfSort old.arena.kinds s) (OfSort old.arena.kinds t) in absurd (subst P e p.1)
  set-sorts (sequence_of s) es fs out e f g h p q = let P : CellKind → Type 0 = IsSequence (OfSort old.arena.kinds s) in absurd (subst P e p.1)
  set-sorts (record_of names s) es fs out e f g h p q = let P : CellKind → Type 0 = IsRecord names (λ i. OfSort old.arena.kinds (s i)) in absurd (subst P e p.1)
  set-sorts (tuple_of n s) es fs out e f g h p q = let P : CellKind → Type 0 = IsTuple n (λ i. OfSort old.arena.kinds (s i)) in absurd (subst P e p.1)
  set-sorts (set_sort s) es fs out e f g h p q =
      let P : CellKind → Type 0 = IsSet (OfSort old.arena.kinds s) in
      let cells : LeadTo old.arena.kinds s out = h s (subst P e p.1) (subst P f q.1) in
      sort-set mid new out s id (subst (λ (t : CellKind). Adds mid new t id) g adds) grows (subst (λ (c : Cells). LeadTo c.kinds s out) (sym same) cells)

  pub chosen-set : (es fs out : List (Lit × CellId)) → j ≡ Set es → k ≡ Set fs → made ≡ Set out → v ≡ (λ a. value.Set (set_of (present a (decode old.arena a) out)))
      → Merges old.arena mid.formula (Chosen l) es fs out → Chooses old new l x y id
  chosen-set es fs out e f g is merges = record {
    value = chosen-value (Set es) (Set fs) e f
        (λ a s.
        let of : CellId → Value = decode old.arena a in
        ap (λ (u : List Bool → Value). u a) is
        ∙ ap (λ vs. value.Set vs) (set_of-same (present a of out) (if lit_value l a then present a of es else present a of fs)
        (λ w. any-present (same_value w) a of out ∙ merges.members a s (same_value w)
        ∙ if-both (lit_value l a) _ _ _ _ (sym (any-present (same_value w) a of es)) (sym (any-present (same_value w) a of fs))
        ∙ sym (if-ap (member w) (lit_value l a) (present a of es) (present a of fs))))
        ∙ if-ap (λ vs. value.Set (set_of vs)) (lit_value l a) (present a of es) (present a of fs));
    sort = λ s p q. set-sorts s es fs out (sym js ∙ e) (sym ks ∙ f) g merges.sorts p q;
  }

-- ---- what the calls ask for

-- the edges of two sets of one sort
pub two-sets : (c : Cells) (f : Cnf) (m n : ℕ) (x y : CellId) (j k : CellKind) (es fs left right : List (Lit × CellId)) → IsOver c f → OneType c.kinds x y
    → IsHeld m c.vars c.width j → IsHeld n c.vars c.width k → j ≡ kind_at c.kinds x → k ≡ kind_at c.kinds y → j ≡ Set es → k ≡ Set fs → left ≡ es → right ≡ fs → TwoSets c.kinds f.vars left right
two-sets c f m n x y j k es fs left right over types hx hy js ks e g p q =
    let N : CellKind → Type 0 = NamesBelow c.vars in
    let t = one-set c.kinds x y types es (sym js ∙ e) in
    record {
      sort = t.sort;
      left = rw p (edges-sort c.kinds t.sort x es t.left (sym js ∙ e));
      right = rw q (edges-sort c.kinds t.sort y fs t.right (sym ks ∙ g));
      left_named = rw p (AreNamed-later c.vars f.vars es (subst N e hx.named) over.fits);
      right_named = rw q (AreNamed-later c.vars f.vars fs (subst N g hy.named) over.fits);
    }

-- edges of a sort lead to cells that are there
pub lead-there : (ks : List CellKind) (s : Sort) (es : List (Lit × CellId)) → LeadTo ks s es → All (λ e. e.1.index < length ks) es
lead-there ks s es h = λ i d lt. sort-there ks s (get_or es i d).1 (h i d lt)

-- the code of either text is in range
pub code-chosen : (c : Cells) (f g : Cnf) (l : Lit) (x y : CellId) (v w r : List Lit) → IsOver c f → FormulaGrows f g → OneType c.kinds x y → kind_at c.kinds x ≡ Text v → kind_at c.kinds y ≡ Text w
    → ((a : List Bool) → Satisfies a g → word_value r a ≡ (if lit_value l a then word_value v a else word_value w a))
    → (a : List Bool) → Satisfies a g → IsTrue (is_index (length c.texts) (word_value r a))
code-chosen c f g l x y v w r over grows types e h gate a s =
    let P : ℤ → Type 0 = λ n. IsTrue (is_index (length c.texts) n) in
    let s0 = Satisfies-older f g a grows s in
    subst P (sym (gate a s))
    (either (lit_value l a) (code-in c f a x v over.ranges s0 (left-there c.kinds x y types) e) (code-in c f a y w over.ranges s0 (right-there c.kinds x y types) h))
  where
    either : (t : Bool) → IsTrue (is_index (length c.texts) (word_value v a)) → IsTrue (is_index (length c.texts) (word_value w a))
        → IsTrue (is_index (length c.texts) (if t then word_value v a else word_value w a))
    either true p q = p
    either false p q = q
