-- The loops of the EXCEPT, a turn each.
use Rattle.std.proofs.Common.{◌≡◌, ℕ, suc, ◌+◌, ◌-◌, ◌<◌, ◌≤◌, Bool, true, false, not, true≢false, List, [], ◌∷◌, ◌++◌, length, take, drop, reverse, get_or, Option, Some, None, option_and_then, eqb, ◌≢◌, ◌⊎◌, inl, inr, refl, sym, ◌∙◌, ap, subst, append_assoc, arith}
use Rattle.std.proofs.lemmas.Bool.Decides.{eqb_tells}
use Rattle.std.proofs.lemmas.List.{append-nil, map-append, reverse-append, reverse-reverse, take_more, drop_more, drop_all}
use Rattle.std.proofs.lemmas.Grind.{flat_map-append}
use Rattle.std.proofs.Math.Seq.{take-append_seam, drop-append_seam, drop-cons}
use Rattle.std.proofs.lemmas.Map.Text.{is_eq-slice_cmp}
use Rattle.std.proofs.lemmas.Slice.Eq.{bytes_eq-Decides}
use Rattle.std.specs.Prelude.{slice_get, if◌then◌else◌, nat_eq, ◌==◌}
use Rattle.std.specs.List.{list_all}
use Rattle.tla_meaning.specs.Scopes.{same_text}
use Rattle.tla_meaning.specs.declared.place.Place.{Place}
use Rattle.snowcat_rows.specs.declared.types.Ty.{Ty}
use Rattle.kernel_trees.specs.declared.kernel.Ker.{Ker}
use Rattle.kera_reducer.specs.declared.excepts.Opened.{Opened}
use Rattle.kera_reducer.specs.declared.excepts.Operands.{Operands}
use Rattle.kera_reducer.specs.declared.excepts.Pairs.{Pairs}
use Rattle.kernel_reduction.specs.Making.{let_of, field_type}
use Rattle.kernel_reduction.specs.Rows.{item, behind, is_nil, let_in, type_of}
use Rattle.kera_reducer.specs.inner.Excepts.{Path, are_paths, IsTaken, IsSplit, woven, all_indexes, paths_of, around, closed, changed_path, changed_by, pair_of, paired, onto, rest_of, nested_type, rest_types, reads, read_operand, read_index, ArePairs, AreRead, IsByLet}

-- ---- stacks

turned : {X : Type 0} (old new : List X) (x : X) → old ≡ new ++ x ∷ [] → reverse old ≡ x ∷ reverse new
turned old new x e = ap reverse e ∙ reverse-append new (x ∷ [])

-- ---- children

one_of : (xs : List Ker) → length xs ≡ 1 → (x : Ker) × (xs ≡ x ∷ [])
one_of [] h = absurd (omega (arith, h))
one_of (x ∷ []) h = (x, refl)
one_of (x ∷ y ∷ xs) h = absurd (omega (arith, h))

pub split_more : (cs : List ℕ) (c : ℕ) (ks fs is es old middle new path right : List Ker) →
    IsSplit cs ks fs is es old → IsTaken c old path middle → IsTaken 1 middle right new →
    IsSplit (cs ++ c ∷ []) ks fs (is ++ path) (es ++ right) new
split_more cs c ks fs is es old middle new path right s h g =
    let o = one_of right g.1 in
    let x : Path = (path, o.0) in
    record {
      paths = s.paths ++ x ∷ [];
      counts =
          map-append (λ x. length x.0) s.paths (x ∷ [])
          ∙ ap (λ z. z ++ length path ∷ []) s.counts
          ∙ ap (λ n. cs ++ n ∷ []) h.1;
      children =
          s.children
          ∙ ap (λ z. fs ++ (woven s.paths ++ z))
          (h.0 ∙ ap (λ z. path ++ z) (g.0 ∙ ap (λ z. z ++ new) o.1) ∙ sym (append_assoc path (o.0 ∷ []) new))
          ∙ ap (λ z. fs ++ z)
          (sym (append_assoc (woven s.paths) (path ++ o.0 ∷ []) new)
          ∙ ap (λ z. (woven s.paths ++ z) ++ new) (sym (append-nil (path ++ o.0 ∷ [])))
          ∙ ap (λ z. z ++ new) (sym (flat_map-append (λ (y : Path). y.0 ++ y.1 ∷ []) s.paths (x ∷ []))));
      indexes =
          ap (λ z. z ++ path) s.indexes
          ∙ ap (λ z. all_indexes s.paths ++ z) (sym (append-nil path))
          ∙ sym (flat_map-append (λ (y : Path). y.0) s.paths (x ∷ []));
      rights =
          ap (λ z. es ++ z) o.1
          ∙ ap (λ z. z ++ o.0 ∷ []) s.rights
          ∙ sym (map-append (λ (y : Path). y.1) s.paths (x ∷ []));
    }

-- there are updates
pub paths_by : (cs : List ℕ) (a b : Bool) → a ≡ (length cs == 0) → a ≡ false →
    b ≡ list_all (λ c. not (nat_eq c 0)) cs → b ≡ are_paths cs
paths_by [] a b e f h = absurd (true≢false (sym e ∙ f))
paths_by (c ∷ cs) a b e f h = h

-- ---- updates

pub closed_more : (p : Place) (os : List Opened) (o : Opened) (e : Ker) →
    closed p (os ++ o ∷ []) e ≡ closed p os (around p o e)
closed_more p [] o e = refl
closed_more p (x ∷ os) o e = ap (around p x) (closed_more p os o e)

-- a path more
pub changed_more : (p : Place) (t : Ty) (n : ℕ) (f g : Ker) (c : ℕ) (ds : List ℕ) (path old new : List Ker)
    (e : Ker) (es : List Ker) → IsTaken c old path new → changed_path p t n f (path, e) ≡ Some g →
    changed_by p t n f (paths_of (c ∷ ds) old (e ∷ es)) ≡ changed_by p t n g (paths_of ds new es)
changed_more p t n f g c ds path old new e es h q =
    ap (λ (xs : List Path). changed_by p t n f xs)
    (ap (λ (is : List Ker). paths_of (c ∷ ds) is (e ∷ es)) h.0
    ∙ ap (λ (m : ℕ). (take m (path ++ new), e) ∷ paths_of ds (drop m (path ++ new)) es) (sym h.1)
    ∙ ap (λ (is : List Ker). (is, e) ∷ paths_of ds (drop (length path) (path ++ new)) es) (take-append_seam path new)
    ∙ ap (λ (is : List Ker). (path, e) ∷ paths_of ds is es) (drop-append_seam path new))
    ∙ ap (λ (o : Option Ker). option_and_then (λ k. changed_by p t n k (paths_of ds new es)) o) q

-- ---- pairs

pub onto_more : (p : Place) (ks : List Ker) (k l : Ker) → onto p (ks ++ k ∷ []) l ≡ onto p ks (pair_of p k l)
onto_more p [] k l = refl
onto_more p (x ∷ ks) k l = ap (pair_of p x) (onto_more p ks k l)

pub paired_last : (p : Place) (f : Ker) (ks : List Ker) (l : Ker) →
    paired p f (ks ++ l ∷ []) ≡ pair_of p f (onto p ks l)
paired_last p f [] l = refl
paired_last p f (k ∷ ks) l = ap (pair_of p f) (paired_last p k ks l)

-- ---- reading

pub behind_more : (q : Place) (y : Ker) (rs : List Ty) (r : Ty) → behind q y (rs ++ r ∷ []) ≡ item q r 2 (behind q y rs)
behind_more q y [] r = refl
behind_more q y (s ∷ rs) r = behind_more q (item q s 2 y) rs r

abbrev head_of : {X : Type 0} → List X → Option X
head_of [] = None
head_of (x ∷ xs) = Some x

head_behind : {X : Type 0} (as' bs : List X) (x : X) → head_of ((as' ++ x ∷ []) ++ bs) ≡ head_of (as' ++ x ∷ [])
head_behind [] bs x = refl
head_behind (y ∷ as') bs x = refl

reverse-cons : {X : Type 0} (x : X) (xs : List X) → reverse (x ∷ xs) ≡ reverse xs ++ x ∷ []
reverse-cons x xs = reverse-append (x ∷ []) xs

at_end : {X : Type 0} (y : X) (ys : List X) → slice_get (y ∷ ys) (length ys) ≡ head_of (reverse (y ∷ ys))
at_end y [] = refl
at_end {X = X} y (z ∷ ys) =
    at_end z ys
    ∙ ap head_of (reverse-cons z ys)
    ∙ sym (head_behind (reverse ys) (y ∷ []) z)
    ∙ ap (λ (w : List X). head_of (w ++ y ∷ [])) (sym (reverse-cons z ys))
    ∙ ap head_of (sym (reverse-cons y (z ∷ ys)))

last_of : {X : Type 0} (xs : List X) → slice_get xs (length xs - 1) ≡ head_of (reverse xs)
last_of [] = refl
last_of (y ∷ ys) = let e : length (y ∷ ys) - 1 ≡ length ys = omega arith in ap (slice_get (y ∷ ys)) e ∙ at_end y ys

rest_head : (k : Ker) (ks : List Ker) → rest_of (type_of k) (head_of (rest_types ks)) ≡ nested_type k ks
rest_head k [] = refl
rest_head k (l ∷ ks) = refl

drop_length : (xs : List Ker) → drop (length xs) xs ≡ []
drop_length [] = refl
drop_length (x ∷ xs) = drop_length xs

pub rest_types_none : (ks : List Ker) → reverse [] ≡ rest_types (drop (length ks) ks)
rest_types_none ks = ap rest_types (sym (drop_length ks))

pub rest_types_more : (ks : List Ker) (n : ℕ) (k : Ker) (old : List Ty) (o : Option Ty) (t : Ty) → n < length ks →
    k ≡ get_or ks n k → reverse old ≡ rest_types (drop (n + 1) ks) → o ≡ slice_get old (length old - 1) →
    t ≡ rest_of (type_of k) o → reverse (old ++ t ∷ []) ≡ rest_types (drop n ks)
rest_types_more ks n k old o t h e i l q =
    let m : n + 1 ≡ suc n = omega arith in
    let j = i ∙ ap (λ z. rest_types (drop z ks)) m in
    reverse-append old (t ∷ [])
    ∙ ap (λ z. t ∷ z) j
    ∙ ap (λ z. z ∷ rest_types (drop (suc n) ks))
    (q ∙ ap (rest_of (type_of k)) (l ∙ last_of old ∙ ap head_of j) ∙ rest_head k (drop (suc n) ks))
    ∙ ap rest_types (sym (drop-cons ks n k h ∙ ap (λ z. z ∷ drop (suc n) ks) (sym e)))

pub length-rest_types : (ks : List Ker) → length (rest_types ks) ≡ length ks
length-rest_types [] = refl
length-rest_types (k ∷ ks) = ap suc (length-rest_types ks)

-- the first of the types
pub first_type : (f : Ker) (is : List Ker) → rest_of (type_of f) (slice_get (rest_types is) 0) ≡ nested_type f is
first_type f [] = refl
first_type f (k ∷ is) = refl

at_last : (n m : ℕ) → n ≤ m → (xs : List Ker) → Ker → length xs ≡ m → is_nil (drop n xs) ≡ eqb n m
at_last n m le xs k e = by (eqb_tells n m)
  where
    by : ((eqb n m ≡ true) × (n ≡ m)) ⊎ ((eqb n m ≡ false) × (n ≢ m)) → is_nil (drop n xs) ≡ eqb n m
    by (inl h) =
        ap is_nil (ap (λ z. drop z xs) (h.1 ∙ sym e) ∙ drop_length xs) ∙ sym h.0
    by (inr h) =
        let lt : n < length xs = let ne = h.1 in omega (arith, le, ne, e) in
        ap is_nil (drop_more xs n k lt) ∙ sym h.0

pub reads_more : (n : ℕ) (t : Ty) (rs : List Ty) (ks done : List Ker) (i : ℕ) (k l : Ker) (last : Bool) →
    length rs ≡ length ks → i < length ks → k ≡ get_or ks i k → last ≡ eqb (i + 1) (length ks) →
    l ≡ read_index n t (take (i + 1) rs) last k →
    done ++ reads n t (take i rs) (drop i rs) (drop i ks) ≡ reads n t [] rs ks →
    (done ++ l ∷ []) ++ reads n t (take (i + 1) rs) (drop (i + 1) rs) (drop (i + 1) ks) ≡ reads n t [] rs ks
reads_more n t rs ks done i k l last same lt e f q h =
    let shorter : i < length rs = omega (arith, same, lt) in
    let r : Ty = get_or rs i t in
    let front : take (i + 1) rs ≡ take i rs ++ r ∷ [] = take_more rs i t shorter in
    let nil : last ≡ is_nil (drop (i + 1) ks) =
    f ∙ sym (at_last (i + 1) (length ks) (omega (arith, lt)) ks k refl) in
    append_assoc done (l ∷ []) (reads n t (take (i + 1) rs) (drop (i + 1) rs) (drop (i + 1) ks))
    ∙ ap (λ z. done ++ z ∷ reads n t (take (i + 1) rs) (drop (i + 1) rs) (drop (i + 1) ks))
    (q ∙ ap (λ b. read_index n t (take (i + 1) rs) b k) nil)
    ∙ ap (λ z. done ++ read_index n t z (is_nil (drop (i + 1) ks)) k
    ∷ reads n t z (drop (i + 1) rs) (drop (i + 1) ks)) front
    ∙ ap (λ z. done ++ z)
    (ap (λ z. reads n t (take i rs) z (k ∷ drop (i + 1) ks)) (sym (drop_more rs i t shorter))
    ∙ ap (λ z. reads n t (take i rs) (drop i rs) (z ∷ drop (i + 1) ks)) e
    ∙ ap (reads n t (take i rs) (drop i rs)) (sym (drop_more ks i k lt)))
    ∙ h

-- what is named, read and changed
pub changed_by_let : (p : Place) (t : Ty) (n : ℕ) (cs : List ℕ) (o : Operands) (es : List Ker) (q : Pairs)
    (r : Operands) (b m k : Ker) → ArePairs n o q → AreRead q o r →
    changed_by p t (suc (suc n)) r.function (paths_of cs r.indexes.items es) ≡ Some b →
    m ≡ paired p o.function o.indexes.items → k ≡ let_in p (let_of t q.ty n (suc n)) m b →
    IsByLet p t n cs o.function o.indexes.items es k
changed_by_let p t n cs o es q r b m k a d h i j =
    let v : Ty = nested_type o.function o.indexes.items in
    let f = ap (λ z. read_operand z q.ty [] false o.function) a.named
    ∙ ap (λ z. read_operand (suc n) z [] false o.function) a.type in
    let g = ap (λ z. reads z q.ty [] q.rests.items o.indexes.items) a.named
    ∙ ap (λ z. reads (suc n) z [] q.rests.items o.indexes.items) a.type
    ∙ ap (λ z. reads (suc n) v [] z o.indexes.items) a.rest_list in (
      b,
      (
        ap (λ z. changed_by p t (suc (suc n)) z
            (paths_of cs (reads (suc n) v [] (rest_types o.indexes.items) o.indexes.items) es)) (sym (d.operand ∙ f))
            ∙ ap (λ z. changed_by p t (suc (suc n)) r.function (paths_of cs z es)) (sym (d.index_list ∙ g))
            ∙ h,
        j
            ∙ ap (λ z. let_in p (let_of t z n (suc n)) m b) a.type
            ∙ ap (λ z. let_in p (let_of t v n (suc n)) z b) i,
      ),
    )

-- ---- the turns of the loops

pub behind_step : (q : Place) (y : Ker) (rs : List Ty) (i : ℕ) (r : Ty) (old new : Ker) → i < length rs →
    r ≡ get_or rs i r → old ≡ behind q y (take i rs) → new ≡ item q r 2 old → new ≡ behind q y (take (i + 1) rs)
behind_step q y rs i r old new lt e h n =
    n
    ∙ ap (item q r 2) h
    ∙ sym (behind_more q y (take i rs) r)
    ∙ ap (λ z. behind q y (take i rs ++ z ∷ [])) e
    ∙ ap (behind q y) (sym (take_more rs i r lt))

pub closed_step : (p : Place) (old new : List Opened) (o : Opened) (e d whole : Ker) → whole ≡ closed p old e →
    old ≡ new ++ o ∷ [] → d ≡ around p o e → whole ≡ closed p new d
closed_step p old new o e d whole h q r =
    h ∙ ap (λ z. closed p z e) q ∙ closed_more p new o e ∙ ap (closed p new) (sym r)

pub changed_start : (p : Place) (t : Ty) (n : ℕ) (f : Ker) (cs : List ℕ) (is es js ds : List Ker) → js ≡ reverse is →
    ds ≡ reverse es →
    changed_by p t n f (paths_of cs (reverse js) (reverse ds)) ≡ changed_by p t n f (paths_of cs is es)
changed_start p t n f cs is es js ds h q =
    ap (λ z. changed_by p t n f (paths_of cs z (reverse ds))) (ap reverse h ∙ reverse-reverse is)
    ∙ ap (λ z. changed_by p t n f (paths_of cs is z)) (ap reverse q ∙ reverse-reverse es)

pub changed_step : (p : Place) (t : Ty) (n : ℕ) (cs : List ℕ) (i : ℕ) (f g : Ker) (old path new rights later : List Ker)
    (e : Ker) (whole : Option Ker) → i < length cs → IsTaken (get_or cs i 0) old path new → rights ≡ later ++ e ∷ [] →
    changed_path p t n f (path, e) ≡ Some g →
    changed_by p t n f (paths_of (drop i cs) old (reverse rights)) ≡ whole →
    changed_by p t n g (paths_of (drop (i + 1) cs) new (reverse later)) ≡ whole
changed_step p t n cs i f g old path new rights later e whole lt h q c w =
    sym (changed_more p t n f g (get_or cs i 0) (drop (i + 1) cs) path old new e (reverse later) h c)
    ∙ ap (λ z. changed_by p t n f (paths_of z old (e ∷ reverse later))) (sym (drop_more cs i 0 lt))
    ∙ ap (λ z. changed_by p t n f (paths_of (drop i cs) old z)) (sym (turned rights later e q))
    ∙ w

pub changed_end : (p : Place) (t : Ty) (n : ℕ) (cs : List ℕ) (i : ℕ) (f : Ker) (is es : List Ker) (whole : Option Ker) →
    length cs ≤ i → changed_by p t n f (paths_of (drop i cs) is es) ≡ whole → whole ≡ Some f
changed_end p t n cs i f is es whole le w =
    sym w ∙ ap (λ z. changed_by p t n f (paths_of z is es)) (drop_all i cs le)

pub rest_step : (ks : List Ker) (left : ℕ) (k : Ker) (old new slice : List Ty) (o : Option Ty) (t : Ty) → 0 < left →
    left ≤ length ks → k ≡ get_or ks (left - 1) k → reverse old ≡ rest_types (drop left ks) → slice ≡ old →
    o ≡ slice_get slice (length slice - 1) → t ≡ rest_of (type_of k) o → new ≡ old ++ t ∷ [] →
    reverse new ≡ rest_types (drop (left - 1) ks)
rest_step ks left k old new slice o t z le e i s l q r =
    let lt : left - 1 < length ks = omega (arith, z, le) in
    let m : left ≡ (left - 1) + 1 = omega (arith, z) in
    ap reverse r
    ∙ rest_types_more ks (left - 1) k old o t lt e (i ∙ ap (λ n. rest_types (drop n ks)) m)
    (l ∙ ap (λ y. slice_get y (length y - 1)) s) q

pub paired_start : (p : Place) (f : Ker) (whole front : List Ker) (l : Ker) → whole ≡ front ++ l ∷ [] →
    paired p f whole ≡ pair_of p f (onto p front l)
paired_start p f whole front l e = ap (paired p f) e ∙ paired_last p f front l

pub paired_step : (p : Place) (f : Ker) (old new : List Ker) (k l m whole : Ker) →
    whole ≡ pair_of p f (onto p old l) → old ≡ new ++ k ∷ [] → m ≡ pair_of p k l →
    whole ≡ pair_of p f (onto p new m)
paired_step p f old new k l m whole h e q =
    h
    ∙ ap (λ z. pair_of p f (onto p z l)) e
    ∙ ap (pair_of p f) (onto_more p new k l)
    ∙ ap (λ z. pair_of p f (onto p new z)) (sym q)

pub split_start : (ks fs stack is es new : List Ker) (n : ℕ) → stack ≡ reverse ks → is ≡ [] → es ≡ [] →
    IsTaken n (reverse stack) fs new → IsSplit [] ks fs is es new
split_start ks fs stack is es new n e a b t = record {
  paths = [];
  counts = refl;
  children = sym (reverse-reverse ks) ∙ ap reverse (sym e) ∙ t.0;
  indexes = a;
  rights = b;
}

pub split_step : (cs : List ℕ) (i : ℕ) (ks fs is es old middle new path right js ds : List Ker) → i < length cs →
    IsSplit (take i cs) ks fs is es old → IsTaken (get_or cs i 0) old path middle → IsTaken 1 middle right new →
    js ≡ is ++ path → ds ≡ es ++ right → IsSplit (take (i + 1) cs) ks fs js ds new
split_step cs i ks fs is es old middle new path right js ds lt s h g a b =
    subst (λ (z : List ℕ). IsSplit z ks fs js ds new) (sym (take_more cs i 0 lt))
    (subst (λ (z : List Ker). IsSplit (take i cs ++ get_or cs i 0 ∷ []) ks fs z ds new) (sym a)
    (subst (λ (z : List Ker). IsSplit (take i cs ++ get_or cs i 0 ∷ []) ks fs (is ++ path) z new) (sym b)
    (split_more (take i cs) (get_or cs i 0) ks fs is es old middle new path right s h g)))

-- ---- fields

same_is : (x y : List ℕ) → same_text x y ≡ true → x ≡ y
same_is x y e = (bytes_eq-Decides x y).0 (sym (is_eq-slice_cmp x y) ∙ e)

same_itself : (x y : List ℕ) → x ≡ y → same_text x y ≡ true
same_itself x y e = is_eq-slice_cmp x y ∙ (bytes_eq-Decides x y).1 e

other_text : (x y : List ℕ) → (x ≡ y → ⊥) → same_text x y ≡ false
other_text x y h = by (same_text x y) refl
  where
    by : (b : Bool) → same_text x y ≡ b → b ≡ false
    by true e = absurd (h (same_is x y e))
    by false e = refl

module _ (fs : List (List ℕ × Ty)) (i : ℕ) (f : List ℕ × Ty) (x : List ℕ) (lt : i < length fs) (e : f ≡ get_or fs i f)
    (h : field_type (drop i fs) x ≡ field_type fs x) where
  at_field : field_type fs x ≡ (if same_text x f.0 then Some f.1 else field_type (drop (i + 1) fs) x)
  at_field =
      sym h ∙ ap (λ z. field_type z x) (drop_more fs i f lt ∙ ap (λ z. z ∷ drop (i + 1) fs) (sym e))

  pub field_here : x ≡ f.0 → field_type fs x ≡ Some f.1
  field_here q =
      at_field ∙ ap (λ b. if b then Some f.1 else field_type (drop (i + 1) fs) x) (same_itself x f.0 q)

  pub field_later : (x ≡ f.0 → ⊥) → field_type (drop (i + 1) fs) x ≡ field_type fs x
  field_later q =
      sym (at_field ∙ ap (λ b. if b then Some f.1 else field_type (drop (i + 1) fs) x) (other_text x f.0 q))

-- ---- the pairs of the operands

pub rests_of : (n : ℕ) (o : Operands) (p : Pairs) (is : List Ker) (rs : List Ty) (first : Option Ty) →
    is ≡ o.indexes.items → p.rests.items ≡ rest_types is → rs ≡ p.rests.items → first ≡ slice_get rs 0 →
    p.ty ≡ rest_of (type_of o.function) first → p.number ≡ n + 1 → ArePairs n o p
rests_of n o p is rs first e h s f t m =
    let list : p.rests.items ≡ rest_types o.indexes.items = h ∙ ap rest_types e in
    record {
      type =
          t
          ∙ ap (rest_of (type_of o.function)) (f ∙ ap (λ z. slice_get z 0) (s ∙ list))
          ∙ first_type o.function o.indexes.items;
      rest_list = list;
      named = let k : n + 1 ≡ suc n = omega arith in m ∙ k;
    }
