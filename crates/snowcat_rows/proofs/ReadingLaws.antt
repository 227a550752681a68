-- A text is read in one way.
use Rattle.std.proofs.Common.{◌≡◌, ℕ, zero, suc, take-append-drop, ◌+◌, ◌<◌, inl, inr, List, [], ◌∷◌, ◌++◌, length, take, drop, get_or, refl, ap, sym, ◌∙◌, subst, Option, Some, None, arith}
use Rattle.std.proofs.Math.Seq.{take-suc}
use Rattle.snowcat_rows.specs.declared.marks.Mark.{Mark}
use Rattle.snowcat_rows.specs.declared.faults.TypeTextFault.{TypeTextFault}
use Rattle.snowcat_rows.specs.declared.faults.TypeTextFault.TheVariants as fault
use Rattle.snowcat_rows.specs.Types.{Term, con, BoolHead}
use Rattle.snowcat_rows.specs.TypeTexts.{Syntax, IsTypeText, IsBadAt}
use Rattle.snowcat_rows.specs.Readings.{Known, read, unknown, or_first, Counts, Knows, IsReadAs, IsFaultOf, IsTextFault, WantsMemory, IsReadBy}
use Rattle.snowcat_rows.specs.inner.Building.{Item, one, several, Site, site, push, built, built_all, unknown_mark, unknown_in}
use Rattle.snowcat_rows.specs.inner.Machine.{Scan, finished}
use Rattle.snowcat_rows.specs.inner.Marks.{marked}
use Rattle.snowcat_rows.specs.inner.Readers.{AreBuilt, AreMarks, IsBuilt, Tells, Leaves}
use Rattle.snowcat_rows.proofs.Builds.{builds, built_more, unknowns, unknown_more}
use Rattle.snowcat_rows.proofs.Scans.{complete}

-- ---- a mark more

pub build_more : (k : Known) (ms : List Mark) (i : ℕ) (d : Mark) (s t : Site) → i < length ms → AreBuilt k (take i ms) s → IsBuilt k (get_or ms i d) s t → AreBuilt k (take (i + 1) ms) t
build_more k ms i d s t lt (e, f) (g, h) =
    let one_more : suc i ≡ i + 1 = omega arith in
    let m = get_or ms i d in
    let q : take (i + 1) ms ≡ take i ms ++ m ∷ [] = ap (λ z. take z ms) (sym one_more) ∙ take-suc ms i d lt in (
      g ∙ ap (λ z. built k m z) e ∙ sym (built_more k (take i ms) m (site [] [])) ∙ ap (λ z. built_all k z (site [] [])) (sym q),
      ap (λ z. unknown_in k z) q ∙ unknown_more k (take i ms) m ∙ ap (λ z. or_first z (unknown_mark k m)) f ∙ h,
    )

unknown_append : (k : Known) (xs ys : List Mark) → unknown_in k (xs ++ ys) ≡ or_first (unknown_in k xs) (unknown_in k ys)
unknown_append k [] ys = refl
unknown_append k (x ∷ xs) ys = ap (λ z. or_first (unknown_mark k x) z) (unknown_append k xs ys) ∙ sym (or_assoc (unknown_mark k x) (unknown_in k xs) (unknown_in k ys))
  where
    or_assoc : (x y z : Option (List ℕ)) → or_first (or_first x y) z ≡ or_first x (or_first y z)
    or_assoc None y z = refl
    or_assoc (Some x) y z = refl

split_at : (ms : List Mark) (i : ℕ) (d : Mark) → i < length ms → ms ≡ take i ms ++ get_or ms i d ∷ drop (suc i) ms
split_at [] i d h = absurd (omega (arith, h))
split_at (m ∷ ms) zero d h = refl
split_at (m ∷ ms) (suc i) d h = ap (λ z. m ∷ z) (split_at ms i d (omega (arith, h)))

pub build_stops : (k : Known) (ms : List Mark) (i : ℕ) (d : Mark) (s : Site) (e : TypeTextFault) → i < length ms → AreBuilt k (take i ms) s → Tells (unknown_mark k (get_or ms i d)) e → Tells (unknown_in k ms) e
build_stops k ms i d s (fault.BadType n) lt b t = t
build_stops k ms i d s (fault.Memory a) lt b t = tt
build_stops k ms i d s (fault.UnknownAlias x) lt b t =
    ap (λ z. unknown_in k z) (split_at ms i d lt) ∙ unknown_append k (take i ms) (get_or ms i d ∷ drop (suc i) ms)
    ∙ ap (λ z. or_first z (or_first (unknown_mark k (get_or ms i d)) (unknown_in k (drop (suc i) ms)))) b.1 ∙ ap (λ z. or_first z (unknown_in k (drop (suc i) ms))) t

-- ---- one reading

same_marks : (text : List ℕ) (s t : Syntax) → IsTypeText text s → IsTypeText text t → marked s [] ≡ marked t []
same_marks text s t h i =
    let (u, e, f) = complete text s h in
    let (v, g, j) = complete text t i in
    let q : Some u ≡ Some v = sym e ∙ g in
    let d : Some (marked s []) ≡ Some (marked t []) = sym f ∙ ap (λ z. ended_of z) q ∙ j in cc
  where
    ended_of : Option Scan → Option (List Mark)
    ended_of None = None
    ended_of (Some v) = finished v

unknown_marks : (k : Known) (s : Syntax) → unknown_in k (marked s []) ≡ unknown k s
unknown_marks k s = unknowns k s []

pub same_unknown : (k : Known) (text : List ℕ) (s t : Syntax) → IsTypeText text s → IsTypeText text t → unknown k s ≡ unknown k t
same_unknown k text s t h i = sym (unknown_marks k s) ∙ ap (λ z. unknown_in k z) (same_marks text s t h i) ∙ unknown_marks k t

read_marks : (k : Known) (s : Syntax) → built_all k (marked s []) (site [] []) ≡ push (read k s []) []
read_marks k s = builds k s [] (site [] []) (site [] []) refl

term_of : Item → Term
term_of (one t) = t
term_of (several ts) = con BoolHead

first_term : List Item → Term
first_term [] = con BoolHead
first_term (i ∷ is) = term_of i

same_site : (k : Known) (text : List ℕ) (s t : Syntax) → IsTypeText text s → IsTypeText text t → push (read k s []) [] ≡ push (read k t []) []
same_site k text s t h i = sym (read_marks k s) ∙ ap (λ z. built_all k z (site [] [])) (same_marks text s t h i) ∙ read_marks k t

pub same_term : (k : Known) (text : List ℕ) (s t : Syntax) → IsTypeText text s → IsTypeText text t → (read k s []).0 ≡ (read k t []).0
unfolding first_term term_of
same_term k text s t h i = ap (λ z. first_term z.items) (same_site k text s t h i)

pub same_seen_all : (k : Known) (text : List ℕ) (s t : Syntax) → IsTypeText text s → IsTypeText text t → length (read k s []).1 ≡ length (read k t []).1
same_seen_all k text s t h i = ap (λ z. length z.seen) (same_site k text s t h i)

-- ---- what was built is what the text says

pub is_whole : (k : Known) (text : List ℕ) (ms : List Mark) (s : Site) (t : Term) (n : ℕ) → AreMarks text ms → AreBuilt k ms s → Leaves s t n → IsReadBy k text t n
unfolding first_term term_of
is_whole k text ms s t n (x, i, e) (b, u) ((is, g), h) =
    let q : s ≡ push (read k x []) [] = b ∙ ap (λ z. built_all k z (site [] [])) e ∙ read_marks k x in
    (x, i, sym (unknown_marks k x) ∙ ap (λ z. unknown_in k z) (sym e) ∙ u, sym (ap first_term g) ∙ ap (λ z. first_term z.items) q, h ∙ ap (λ z. length z.seen) q)

pub is_unknown : (k : Known) (text : List ℕ) (ms : List Mark) (e : TypeTextFault) → AreMarks text ms → Tells (unknown_in k ms) e → IsFaultOf k text e
is_unknown k text ms (fault.BadType n) m t = absurd t
is_unknown k text ms (fault.Memory a) m t = tt
is_unknown k text ms (fault.UnknownAlias x) (s, i, e) t = inl (s, i, sym (unknown_marks k s) ∙ ap (λ z. unknown_in k z) (sym e) ∙ t)

-- a bad text is no type's
pub bad_is_none : (text : List ℕ) (n : ℕ) → IsBadAt text n → (s : Syntax) → IsTypeText text s → ⊥
bad_is_none text n (inr (e, b, h)) s i = h s i
bad_is_none text n (inl (lt, b, h)) s i = h (record { rest = drop (n + 1) text; syntax_of = s; is_text = let P : List ℕ → Type 0 = λ z. IsTypeText z s in subst P (sym (take-append-drop (n + 1) text)) i })

-- ---- aliases

pub knows_more : (k : Known) (as_ : List (List ℕ × List ℕ)) (a : List ℕ × List ℕ) (i j : Known) → Knows k as_ i → Counts i a j → Knows k (as_ ++ a ∷ []) j
knows_more k [] a i j e c = let P : Known → Type 0 = λ z. Counts z a j in (j, subst P e c, refl)
knows_more k (b ∷ bs) a i j (m, d, r) c = (m, d, knows_more m bs a i j r c)

same_counts : (k : Known) (a : List ℕ × List ℕ) (i j : Known) → Counts k a i → Counts k a j → i ≡ j
same_counts k a i j (inl (s, h, u, e)) (inl (t, g, v, f)) =
    e ∙ ap (λ z. k ++ (a.0, z, length (read k s []).1) ∷ []) (same_term k a.1 s t h g) ∙ ap (λ z. k ++ (a.0, (read k t []).0, z) ∷ []) (same_seen_all k a.1 s t h g) ∙ sym f
same_counts k a i j (inl (s, h, u, e)) (inr (n, f)) = absurd (n s h u)
same_counts k a i j (inr (n, e)) (inl (t, g, v, f)) = absurd (n t g v)
same_counts k a i j (inr (n, e)) (inr (m, f)) = e ∙ sym f

pub same_known : (as_ : List (List ℕ × List ℕ)) (k i j : Known) → Knows k as_ i → Knows k as_ j → i ≡ j
same_known [] k i j e f = e ∙ sym f
same_known (a ∷ as_) k i j (m, c, r) (n, d, s) =
    let P : Known → Type 0 = λ z. Knows z as_ j in same_known as_ m i j r (subst P (same_counts k a n m d c) s)

-- an alias that counts, and one that does not
pub counts_whole : (k : Known) (a : List ℕ × List ℕ) (t : Term) (n : ℕ) → IsReadBy k a.1 t n → Counts k a (k ++ (a.0, t, n) ∷ [])
counts_whole k a t n (s, i, u, e, f) = inl (s, i, u, ap (λ z. k ++ (a.0, z, n) ∷ []) e ∙ ap (λ z. k ++ (a.0, (read k s []).0, z) ∷ []) f)

pub counts_fault : (k : Known) (a : List ℕ × List ℕ) (e : TypeTextFault) → IsFaultOf k a.1 e → (WantsMemory e → ⊥) → Counts k a k
counts_fault k a (fault.BadType n) (b, w) m = inr ((λ s i u. bad_is_none a.1 n b s i), refl)
counts_fault k a (fault.UnknownAlias x) (inr (n, b, w)) m = inr ((λ s i u. bad_is_none a.1 n b s i), refl)
counts_fault k a (fault.UnknownAlias x) (inl (s, i, u)) m = inr ((λ t j v. absurd (let d : Some x ≡ None = sym u ∙ same_unknown k a.1 s t i j ∙ v in cc)), refl)
counts_fault k a (fault.Memory e) b m = absurd (m tt)

pub knows_next : (as_ : List (List ℕ × List ℕ)) (i : ℕ) (d : List ℕ × List ℕ) (k j : Known) → i < length as_ → Knows [] (take i as_) k → Counts k (get_or as_ i d) j → Knows [] (take (i + 1) as_) j
knows_next as_ i d k j lt h c =
    let one_more : suc i ≡ i + 1 = omega arith in
    let P : List (List ℕ × List ℕ) → Type 0 = λ z. Knows [] z j in
    subst P (sym (ap (λ z. take z as_) (sym one_more) ∙ take-suc as_ i d lt)) (knows_more [] (take i as_) (get_or as_ i d) k j h c)

-- ---- one reading by known aliases

pub read_once : (k : Known) (text : List ℕ) (t u : Term) (n m : ℕ) → IsReadBy k text t n → IsReadBy k text u m → (t ≡ u) × (n ≡ m)
read_once k text t u n m (r, i, v, e, f) (s, j, w, g, h) = (e ∙ same_term k text r s i j ∙ sym g, f ∙ same_seen_all k text r s i j ∙ sym h)

pub fault_of_none : (k : Known) (text : List ℕ) (f : TypeTextFault) (t : Term) (n : ℕ) → IsFaultOf k text f → IsReadBy k text t n → WantsMemory f
fault_of_none k text (fault.BadType n) t m (b, w) (s, i, u, e, l) = absurd (bad_is_none text n b s i)
fault_of_none k text (fault.UnknownAlias x) t m (inl (r, j, v)) (s, i, u, e, l) = absurd (let d : Some x ≡ None = sym v ∙ same_unknown k text r s j i ∙ u in cc)
fault_of_none k text (fault.UnknownAlias x) t m (inr (n, b, w)) (s, i, u, e, l) = absurd (bad_is_none text n b s i)
fault_of_none k text (fault.Memory a) t m f r = tt

-- ---- the answer

pub reads_as : (aliases : List (List ℕ × List ℕ)) (text : List ℕ) (k : Known) (t : Term) (n : ℕ) → Knows [] aliases k → IsReadBy k text t n → IsReadAs aliases text t
reads_as aliases text k t n h (s, i, u, e, f) = record { known = k; syntax_of = s; knows = h; is_text = i; all_known = u; says = e }

pub one_reading : (aliases : List (List ℕ × List ℕ)) (text : List ℕ) (a b : Term) → IsReadAs aliases text a → IsReadAs aliases text b → a ≡ b
one_reading aliases text a b g h =
    let e = same_known aliases [] g.known h.known g.knows h.knows in
    g.says ∙ ap (λ z. (read z g.syntax_of []).0) e ∙ same_term h.known text g.syntax_of h.syntax_of g.is_text h.is_text ∙ sym h.says

pub no_fault : (aliases : List (List ℕ × List ℕ)) (text : List ℕ) (t : Term) → IsReadAs aliases text t → (k : Known) → Knows [] aliases k → (x : List ℕ) → IsFaultOf k text (fault.UnknownAlias x) → ⊥
no_fault aliases text t h k g x (inr (n, b, w)) = bad_is_none text n b h.syntax_of h.is_text
no_fault aliases text t h k g x (inl (s, i, u)) =
    let e = same_known aliases [] k h.known g h.knows in
    let d : Some x ≡ None = sym u ∙ ap (λ z. unknown z s) e ∙ same_unknown h.known text s h.syntax_of i h.is_text ∙ h.all_known in cc

pub is_fault : (aliases : List (List ℕ × List ℕ)) (text : List ℕ) (k : Known) (e : TypeTextFault) → Knows [] aliases k → IsFaultOf k text e → IsTextFault aliases text e
is_fault aliases text k (fault.BadType n) h f = (k, h, f)
is_fault aliases text k (fault.UnknownAlias x) h f = (k, h, f)
is_fault aliases text k (fault.Memory a) h f = tt

-- a fault where the text says a type is want of memory
pub only_memory : (aliases : List (List ℕ × List ℕ)) (text : List ℕ) (k : Known) (e : TypeTextFault) (t : Term) → Knows [] aliases k → IsFaultOf k text e → IsReadAs aliases text t → WantsMemory e
only_memory aliases text k (fault.BadType n) t h (b, w) r = absurd (bad_is_none text n b r.syntax_of r.is_text)
only_memory aliases text k (fault.UnknownAlias x) t h f r = absurd (no_fault aliases text t r k h x f)
only_memory aliases text k (fault.Memory a) t h f r = tt
