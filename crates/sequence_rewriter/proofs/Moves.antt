-- Cells moved to other places.
use Rattle.std.proofs.Common.{◌≡◌, ℕ, zero, suc, ◌+◌, ◌-◌, ◌*◌, ◌^◌, ◌<◌, ◌≤◌, Bool, true, false, List, [], ◌∷◌, ◌++◌, map, length, take, drop, get_or, refl, ap, ◌∙◌, sym, subst, arith}
use Rattle.std.specs.Prelude.{if◌then◌else◌}
use Rattle.std.proofs.Math.Nat.{mul-suc, pow-suc}
use Rattle.std.proofs.lemmas.List.{length-map, length-drop, length-append, length-take-le, length_push, take_all, take-map, drop-map, map-append, map_more, get_or-drop, get_or_append_left, get_or-append-add}
use Rattle.std.proofs.lemmas.List.Elements.{All-nil, All-push, All-weaker, All-append, All-drop, All-take}
use Rattle.sat_formula.specs.declared.lit.Lit.{Lit}
use Rattle.sat_formula.specs.Lit.{lit_value}
use Rattle.sat_formula.specs.Formula.{Satisfies}
use Rattle.word_blaster.specs.Word.{bit, number, values}
use Rattle.word_blaster.proofs.CountLemmas.{number-split}
use Rattle.word_blaster.proofs.Words.{number-nil, number-values-more, number-values-lt, values-length}
use Rattle.tla_values.specs.declared.value.Value.{Value}
use Rattle.cell_arena.specs.declared.build.Build.{Build}
use Rattle.cell_arena.specs.declared.kinds.CellId.{CellId}
use Rattle.cell_arena.specs.declared.kinds.CellKind.{CellKind}
use Rattle.cell_arena.specs.Decode.{decode}
use Rattle.cell_arena.specs.Growth.{Grows}
use Rattle.cell_arena.proofs.Growing.{Satisfies-before, decode-before}
use Rattle.cell_merge.specs.Sorts.{OfSort, OneType}
use Rattle.cell_merge.specs.Choices.{Chooses}
use Rattle.cell_merge.proofs.Edges.{sort-there}
use Rattle.cell_merge.proofs.SortLaws.{OfSort-later}
use Rattle.cell_merge.proofs.Shapes.{maps-one}
use Rattle.sequence_rewriter.specs.inner.Shifts.{AreAlike, AreLists, ChoosesList, ShiftsLeft, ShiftsRight}

-- ---- one choice more

pub list-types : (ks : List CellKind) (xs ys : List CellId) (i : ℕ) (d e : CellId) → AreLists ks xs ys → i < length xs → length xs ≡ length ys → OneType ks (get_or xs i d) (get_or ys i e)
list-types ks xs ys i d e t lt n = record { sort = t.sort; left = t.left i d lt; right = t.right i e (omega arith) }

pub lists-later : (b c : Build) (xs ys : List CellId) → AreLists b.arena.kinds xs ys → Grows b c → AreLists c.arena.kinds xs ys
lists-later b c xs ys t g = record {
  sort = t.sort;
  left = All-weaker (OfSort b.arena.kinds t.sort) (OfSort c.arena.kinds t.sort) (λ p h. OfSort-later b c t.sort p h g) xs t.left;
  right = All-weaker (OfSort b.arena.kinds t.sort) (OfSort c.arena.kinds t.sort) (λ p h. OfSort-later b c t.sort p h g) ys t.right;
}

pub chosen-none : (b : Build) (l : Lit) (xs ys out : List CellId) → out ≡ [] → ChoosesList b b l xs ys 0 out
chosen-none b l xs ys out is = rw is (record {
  count = refl;
  there = All-nil (λ (p : CellId). p.index < length b.arena.kinds);
  values = λ a sat. either (lit_value l a);
  sorts = λ t p q. All-nil (OfSort b.arena.kinds t);
})
  where
    either : (b : Bool) → ◌≡◌ {A = List Value} [] (if b then [] else [])
    either true = refl
    either false = refl

pub chosen-more : (old mid new : Build) (l : Lit) (xs ys : List CellId) (n : ℕ) (x y id : CellId) (out after : List CellId) → AreLists old.arena.kinds xs ys → length xs ≡ length ys → n < length xs → x ≡ get_or xs n x → y ≡ get_or ys n y
    → ChoosesList old mid l xs ys n out → Grows old mid → Grows mid new → Chooses mid new l x y id → after ≡ out ++ id ∷ [] → ChoosesList old new l xs ys (n + 1) after
chosen-more old mid new l xs ys n x y id out after t long lt ex ey h before grows one pushed =
    let is_x : OfSort old.arena.kinds t.sort x = (let P : CellId → Type 0 = OfSort old.arena.kinds t.sort in subst P (sym ex) (t.left n x lt)) in
    let is_y : OfSort old.arena.kinds t.sort y = (let P : CellId → Type 0 = OfSort old.arena.kinds t.sort in subst P (sym ey) (t.right n y (omega arith))) in
    record {
      count = ap length pushed ∙ length_push out id ∙ ap (λ (m : ℕ). m + 1) h.count;
      there = rw pushed (All-push (λ (p : CellId). p.index < length new.arena.kinds) out id (All-weaker (λ (p : CellId). p.index < length mid.arena.kinds) (λ (p : CellId). p.index < length new.arena.kinds) (λ p l. let g = grows.longer in omega arith) out h.there) one.value.there);
      values = λ a sat.
          let of : CellId → Value = decode old.arena a in
          let older : map (decode new.arena a) out ≡ map (decode mid.arena a) out = maps-one (decode new.arena a) (decode mid.arena a) out out refl (λ i d l. decode-before mid new a _ grows (h.there i d l)) in
          ap (map (decode new.arena a)) pushed ∙ map-append (decode new.arena a) out (id ∷ [])
          ∙ ap (λ (us : List Value). us ++ decode new.arena a id ∷ []) (older ∙ h.values a (Satisfies-before mid new a grows sat))
          ∙ ap (λ (v : Value). (if lit_value l a then map of (take n xs) else map of (take n ys)) ++ v ∷ []) (one.value.value a sat
          ∙ ap (λ (v : Value). if lit_value l a then v else decode mid.arena a y) (decode-before old mid a x before (sort-there old.arena.kinds t.sort x is_x))
          ∙ ap (λ (v : Value). if lit_value l a then of x else v) (decode-before old mid a y before (sort-there old.arena.kinds t.sort y is_y)))
          ∙ either (lit_value l a) (map of (take n xs)) (map of (take n ys)) (of x) (of y)
          ∙ ap (λ (us : List Value). if lit_value l a then us else map of (take n ys) ++ of y ∷ []) (ap (λ (c : CellId). map of (take n xs) ++ of c ∷ []) ex ∙ sym (map_more of xs n x lt))
          ∙ ap (λ (us : List Value). if lit_value l a then map of (take (n + 1) xs) else us) (ap (λ (c : CellId). map of (take n ys) ++ of c ∷ []) ey ∙ sym (map_more of ys n y (omega arith)));
      sorts = λ r p q.
          rw pushed (All-push (OfSort new.arena.kinds r) out id (All-weaker (OfSort mid.arena.kinds r) (OfSort new.arena.kinds r) (λ c k. OfSort-later mid new r c k grows) out (h.sorts r p q))
          (one.sort r (OfSort-later old mid r x (let P : CellId → Type 0 = OfSort old.arena.kinds r in subst P (sym ex) (p n x lt)) before)
          (OfSort-later old mid r y (let P : CellId → Type 0 = OfSort old.arena.kinds r in subst P (sym ey) (q n y (omega arith))) before)));
    }
  where
    either : (b : Bool) (us vs : List Value) (u v : Value) → (if b then us else vs) ++ (if b then u else v) ∷ [] ≡ (if b then us ++ u ∷ [] else vs ++ v ∷ [])
    either true us vs u v = refl
    either false us vs u v = refl

-- ---- one bit more

pub step-lists : (ks : List CellKind) (by : ℕ) (cells : List CellId) → AreAlike ks cells → AreLists ks (drop by cells ++ drop (length cells - by) cells) cells
step-lists ks by cells t = record { sort = t.sort; left = All-append (OfSort ks t.sort) (drop by cells) (drop (length cells - by) cells) (All-drop (OfSort ks t.sort) by cells t.are) (All-drop (OfSort ks t.sort) (length cells - by) cells t.are); right = t.are }

pub back-lists : (ks : List CellKind) (by : ℕ) (cells : List CellId) → AreAlike ks cells → AreLists ks (take by cells ++ cells) (cells ++ drop (length cells - by) cells)
back-lists ks by cells t = record {
  sort = t.sort;
  left = All-append (OfSort ks t.sort) (take by cells) cells (All-take (OfSort ks t.sort) by cells t.are) t.are;
  right = All-append (OfSort ks t.sort) cells (drop (length cells - by) cells) t.are (All-drop (OfSort ks t.sort) (length cells - by) cells t.are);
}

pub step-count : (by : ℕ) (cells : List CellId) → by ≤ length cells → length (drop by cells ++ drop (length cells - by) cells) ≡ length cells
step-count by cells le =
    let n = length-append (drop by cells) (drop (length cells - by) cells) in let p = length-drop by cells in let q = length-drop (length cells - by) cells in omega arith

pub back-counts : (by : ℕ) (cells : List CellId) → by ≤ length cells → (length (take by cells ++ cells) ≡ length cells + by) × (length (cells ++ drop (length cells - by) cells) ≡ length cells + by)
back-counts by cells le =
    let n = length-append (take by cells) cells in let p = length-take-le by cells le in
    let m = length-append cells (drop (length cells - by) cells) in let q = length-drop (length cells - by) cells in (omega arith, omega arith)

left-none : (b : Build) (bits : List Lit) (cells : List CellId) (a : List Bool) → number (values (take 0 bits) a) ≡ 0
left-none b bits cells a = number-nil

pub shifts-left-none : (b : Build) (bits : List Lit) (cells : List CellId) → AreAlike b.arena.kinds cells → ShiftsLeft b b (take 0 bits) cells cells
shifts-left-none b bits cells t = record {
  count = refl;
  there = All-weaker (OfSort b.arena.kinds t.sort) (λ (p : CellId). p.index < length b.arena.kinds) (λ p h. sort-there b.arena.kinds t.sort p h) cells t.are;
  values = λ a sat q d le lt. ap (λ (m : ℕ). get_or (map (decode b.arena a) cells) m d) (let z = left-none b bits cells a in let e : q - number (values (take 0 bits) a) ≡ q = omega arith in e);
  sorts = λ r p. p;
}

pub shifts-right-none : (b : Build) (bits : List Lit) (cells : List CellId) → AreAlike b.arena.kinds cells → ShiftsRight b b (take 0 bits) cells cells
shifts-right-none b bits cells t = record {
  count = refl;
  there = All-weaker (OfSort b.arena.kinds t.sort) (λ (p : CellId). p.index < length b.arena.kinds) (λ p h. sort-there b.arena.kinds t.sort p h) cells t.are;
  values = λ a sat q d lt. ap (λ (m : ℕ). get_or (map (decode b.arena a) cells) m d) (let z = left-none b bits cells a in let e : q + number (values (take 0 bits) a) ≡ q = omega arith in e);
  sorts = λ r p. p;
}

module _ (old mid new : Build) (bits : List Lit) (j by : ℕ) (l : Lit) (cells out next : List CellId) (lt : j < length bits) (is : l ≡ get_or bits j l) (pow : by ≡ 2 ^ j) (grows : Grows mid new) where
  more-bits : (a : List Bool) → number (values (take (j + 1) bits) a) ≡ number (values (take j bits) a) + bit (lit_value l a) * by
  more-bits a = number-values-more bits l a j lt ∙ ap (λ (m : Lit). number (values (take j bits) a) + bit (lit_value m a) * 2 ^ j) (sym is) ∙ ap (λ (n : ℕ). number (values (take j bits) a) + bit (lit_value l a) * n) (sym pow)

  pub shifts-left-more : by ≤ length out → ShiftsLeft old mid (take j bits) cells out → ChoosesList mid new l (drop by out ++ drop (length out - by) out) out (length out) next → ShiftsLeft old new (take (j + 1) bits) cells next
  shifts-left-more le h chosen = record {
    count = chosen.count ∙ h.count;
    there = chosen.there;
    values = λ a sat q d from to. go a sat q d from to (lit_value l a) refl;
    sorts = λ r p. let s = h.sorts r p in chosen.sorts r (All-append (OfSort mid.arena.kinds r) (drop by out) (drop (length out - by) out) (All-drop (OfSort mid.arena.kinds r) by out s) (All-drop (OfSort mid.arena.kinds r) (length out - by) out s)) s;
  }
    where
      go : (a : List Bool) → Satisfies a new.formula → (q : ℕ) (d : Value) → number (values (take (j + 1) bits) a) ≤ q → q < length cells → (b : Bool) → lit_value l a ≡ b
          → get_or (map (decode new.arena a) next) (q - number (values (take (j + 1) bits) a)) d ≡ get_or (map (decode old.arena a) cells) q d
      go a sat q d from to true e =
          let of : CellId → Value = decode mid.arena a in
          let t = number (values (take j bits) a) in
          let m : number (values (take (j + 1) bits) a) ≡ t + by = more-bits a ∙ ap (λ (b : Bool). t + bit b * by) e ∙ (let k : t + 1 * by ≡ t + by = omega arith in k) in
          let n : length out ≡ length cells = h.count in
          let i : q - number (values (take (j + 1) bits) a) < length (map of (drop by out)) = let k = length-map (drop by out) of in let o = length-drop by out in omega arith in
          ap (λ (us : List Value). get_or us (q - number (values (take (j + 1) bits) a)) d) (chosen.values a sat ∙ ap (λ (b : Bool). if b then map of (take (length out) (drop by out ++ drop (length out - by) out)) else map of (take (length out) out)) e
          ∙ ap (map of) (take_all (length out) (drop by out ++ drop (length out - by) out) (let k = step-count by out le in omega arith)) ∙ map-append of (drop by out) (drop (length out - by) out))
          ∙ get_or_append_left (map of (drop by out)) (map of (drop (length out - by) out)) d _ i
          ∙ ap (λ (us : List Value). get_or us (q - number (values (take (j + 1) bits) a)) d) (sym (drop-map of by out)) ∙ get_or-drop by (map of out) (q - number (values (take (j + 1) bits) a)) d
          ∙ ap (λ (k : ℕ). get_or (map of out) k d) (let k : by + (q - number (values (take (j + 1) bits) a)) ≡ q - t = omega arith in k)
          ∙ h.values a (Satisfies-before mid new a grows sat) q d (omega arith) to
      go a sat q d from to false e =
          let of : CellId → Value = decode mid.arena a in
          let t = number (values (take j bits) a) in
          let m : number (values (take (j + 1) bits) a) ≡ t = more-bits a ∙ ap (λ (b : Bool). t + bit b * by) e ∙ (let k : t + 0 * by ≡ t = omega arith in k) in
          ap (λ (us : List Value). get_or us (q - number (values (take (j + 1) bits) a)) d) (chosen.values a sat ∙ ap (λ (b : Bool). if b then map of (take (length out) (drop by out ++ drop (length out - by) out)) else map of (take (length out) out)) e
          ∙ ap (map of) (take_all (length out) out (omega arith)))
          ∙ ap (λ (k : ℕ). get_or (map of out) (q - k) d) m ∙ h.values a (Satisfies-before mid new a grows sat) q d (omega arith) to

  pub shifts-right-more : by ≤ length out → ShiftsRight old mid (take j bits) cells out → ChoosesList mid new l (take by out ++ out) (out ++ drop (length out - by) out) (length out + by) next → ShiftsRight old new (take (j + 1) bits) cells next
  shifts-right-more le h chosen = record {
    count =
        let c = h.count in let n = chosen.count in let k = length-take-le j bits (omega arith) in let k1 = length-take-le (j + 1) bits (omega arith) in
        let p : 2 ^ length (take j bits) ≡ by = ap (λ (m : ℕ). 2 ^ m) k ∙ sym pow in
        let r : 2 ^ length (take (j + 1) bits) ≡ 2 * by = ap (λ (m : ℕ). 2 ^ m) (k1 ∙ (let w : j + 1 ≡ suc j = omega arith in w)) ∙ pow-suc 2 j ∙ ap (λ (m : ℕ). m * 2) (sym pow) ∙ (let w : by * 2 ≡ 2 * by = omega arith in w) in
        omega arith;
    there = chosen.there;
    values = λ a sat q d to. go a sat q d to (lit_value l a) refl;
    sorts = λ r p.
        let s = h.sorts r p in
        chosen.sorts r (All-append (OfSort mid.arena.kinds r) (take by out) out (All-take (OfSort mid.arena.kinds r) by out s) s) (All-append (OfSort mid.arena.kinds r) out (drop (length out - by) out) s (All-drop (OfSort mid.arena.kinds r) (length out - by) out s));
  }
    where
      go : (a : List Bool) → Satisfies a new.formula → (q : ℕ) (d : Value) → q < length cells → (b : Bool) → lit_value l a ≡ b
          → get_or (map (decode new.arena a) next) (q + number (values (take (j + 1) bits) a)) d ≡ get_or (map (decode old.arena a) cells) q d
      go a sat q d to true e =
          let of : CellId → Value = decode mid.arena a in
          let t = number (values (take j bits) a) in
          let m : number (values (take (j + 1) bits) a) ≡ t + by = more-bits a ∙ ap (λ (b : Bool). t + bit b * by) e ∙ (let k : t + 1 * by ≡ t + by = omega arith in k) in
          let n : length (map of (take by out)) ≡ by = length-map (take by out) of ∙ length-take-le by out le in
          ap (λ (us : List Value). get_or us (q + number (values (take (j + 1) bits) a)) d) (chosen.values a sat ∙ ap (λ (b : Bool). if b then map of (take (length out + by) (take by out ++ out)) else map of (take (length out + by) (out ++ drop (length out - by) out))) e
          ∙ ap (map of) (take_all (length out + by) (take by out ++ out) (let k = (back-counts by out le).0 in omega arith)) ∙ map-append of (take by out) out)
          ∙ ap (λ (k : ℕ). get_or (map of (take by out) ++ map of out) k d) (let k : q + number (values (take (j + 1) bits) a) ≡ length (map of (take by out)) + (q + t) = omega arith in k)
          ∙ get_or-append-add (map of (take by out)) (map of out) (q + t) d
          ∙ h.values a (Satisfies-before mid new a grows sat) q d to
      go a sat q d to false e =
          let of : CellId → Value = decode mid.arena a in
          let t = number (values (take j bits) a) in
          let m : number (values (take (j + 1) bits) a) ≡ t = more-bits a ∙ ap (λ (b : Bool). t + bit b * by) e ∙ (let k : t + 0 * by ≡ t = omega arith in k) in
          let small = number-values-lt bits a j (omega arith) in
          let c = h.count in
          let p : 2 ^ length (take j bits) ≡ by = ap (λ (m : ℕ). 2 ^ m) (length-take-le j bits (omega arith)) ∙ sym pow in
          let i : q + t < length (map of out) = let k = length-map out of in omega arith in
          ap (λ (us : List Value). get_or us (q + number (values (take (j + 1) bits) a)) d) (chosen.values a sat ∙ ap (λ (b : Bool). if b then map of (take (length out + by) (take by out ++ out)) else map of (take (length out + by) (out ++ drop (length out - by) out))) e
          ∙ ap (map of) (take_all (length out + by) (out ++ drop (length out - by) out) (let k = (back-counts by out le).1 in omega arith)) ∙ map-append of out (drop (length out - by) out))
          ∙ ap (λ (k : ℕ). get_or (map of out ++ map of (drop (length out - by) out)) (q + k) d) m
          ∙ get_or_append_left (map of out) (map of (drop (length out - by) out)) d (q + t) i
          ∙ h.values a (Satisfies-before mid new a grows sat) q d to

-- ---- all bits

low-all : (bs : List Bool) (k : ℕ) → k ≤ length bs → number bs < 2 ^ k → number (take k bs) ≡ number bs
low-all bs k le lt = go (number (drop k bs)) refl
  where
    go : (r : ℕ) → number (drop k bs) ≡ r → number (take k bs) ≡ number bs
    go zero e = let s = number-split bs k le ∙ ap (λ (r : ℕ). number (take k bs) + 2 ^ k * r) e in let z : 2 ^ k * 0 ≡ 0 = omega arith in omega arith
    go (suc r) e = let s = number-split bs k le ∙ ap (λ (r : ℕ). number (take k bs) + 2 ^ k * r) e in let m : 2 ^ k * suc r ≡ 2 ^ k * r + 2 ^ k = mul-suc (2 ^ k) r in absurd (omega arith)

-- where the number of the first bits is past all cells, the others make no difference
pub shifts-left-far : (old new : Build) (bits : List Lit) (j : ℕ) (cells out : List CellId) → j ≤ length bits → length cells ≤ 2 ^ j → ShiftsLeft old new (take j bits) cells out → ShiftsLeft old new bits cells out
shifts-left-far old new bits j cells out le far h = record {
  count = h.count;
  there = h.there;
  values = λ a sat q d from to.
      let m : number (values (take j bits) a) ≡ number (values bits a) = ap number (sym (take-map (λ (l : Lit). lit_value l a) j bits)) ∙ low-all (values bits a) j (let n = values-length bits a in omega arith) (omega arith) in
      ap (λ (k : ℕ). get_or (map (decode new.arena a) out) (q - k) d) (sym m) ∙ h.values a sat q d (omega arith) to;
  sorts = h.sorts;
}

pub doubled : (by j : ℕ) → by ≡ 2 ^ j → by * 2 ≡ 2 ^ (j + 1)
doubled by j e = ap (λ (m : ℕ). m * 2) e ∙ sym (pow-suc 2 j) ∙ ap (λ (m : ℕ). 2 ^ m) (let w : suc j ≡ j + 1 = omega arith in w)

pub within-right : (old mid : Build) (bits : List Lit) (j by : ℕ) (cells out : List CellId) → by ≡ 2 ^ j → j ≤ length bits → 0 < length cells → ShiftsRight old mid (take j bits) cells out → by ≤ length out
within-right old mid bits j by cells out pow le some h =
    let c = h.count in let p : 2 ^ length (take j bits) ≡ by = ap (λ (m : ℕ). 2 ^ m) (length-take-le j bits le) ∙ sym pow in omega arith
