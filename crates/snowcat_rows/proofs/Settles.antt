-- What a look-up in settled bindings gives, and types in which no bound variable is left.
use Rattle.std.proofs.Common.{arith, Bool, true, false, ◌≡◌, ℕ, zero, suc, ◌+◌, ◌<◌, ◌==◌, if◌then◌else◌, inl, inr, List, [], ◌∷◌, ◌++◌, length, drop, get_or, drop-cons, refl, ap, sym, ◌∙◌, subst, Option, Some, None}
use Rattle.std.specs.Prelude.{slice_get, not}
use Rattle.std.specs.Bool.{MatchBool}
use Rattle.std.proofs.lemmas.Bool.Decides.{eqb_tells}
use Rattle.snowcat_rows.specs.declared.types.Ty.{Ty}
use Rattle.snowcat_rows.specs.declared.bindings.Bound.{Bound}
use Rattle.snowcat_rows.specs.declared.bindings.Bound.TheVariants as bound
use Rattle.snowcat_rows.specs.declared.occurrences.Unknown.{Unknown}
use Rattle.snowcat_rows.specs.declared.occurrences.Unknown.TheVariants as unknown
use Rattle.snowcat_rows.specs.Types.{Term, Slot, var, con, app, fields, none, some, lookup, mean}
use Rattle.snowcat_rows.specs.Throughout.{ThroughoutSlot}
use Rattle.snowcat_rows.specs.Substitutions.{Row, Sub, apply, apply_slot, apply_row, or_else, tail_row, same_sub, then_sub}
use Rattle.snowcat_rows.specs.Chains.{Variable, type_var, row_var, Binding, to_type, to_row, key, single, solved, sub_of, Absent, Chain}
use Rattle.snowcat_rows.specs.Codes.{binding, bindings_of, changed, followed, has, variable}
use Rattle.snowcat_rows.specs.inner.Lookups.{type_at, row_at, looked}
use Rattle.snowcat_rows.specs.Numbered.{same_variable}
use Rattle.snowcat_rows.specs.inner.Places.{IndexedFrom}
use Rattle.snowcat_rows.specs.inner.Rounds.{row_of}
use Rattle.snowcat_rows.specs.inner.Settling.{IsFree, EndFree, AllFree, under, settled}
use Rattle.snowcat_rows.proofs.Lookups.{settled_is}
use Rattle.snowcat_rows.proofs.Means.{lookup-changed}
use Rattle.snowcat_rows.proofs.RowTheory.{or_none}

-- ---- types in which no bound variable is left

type_free : (bs : List Binding) (v : ℕ) → IsFree (type_var v) bs → type_at bs v ≡ var v
type_free [] v f = refl
type_free (to_type w t ∷ bs) v f =
    elim (eqb_tells v w) [ inl k ↦ absurd (f.0 (ap type_var k.1)) | inr k ↦ rw k.0 (type_free bs v f.1) ]
type_free (to_row q y ∷ bs) v f = type_free bs v f.1

row_free : (bs : List Binding) (r : ℕ) → IsFree (row_var r) bs → row_at bs r ≡ same_sub.row_of r
row_free [] r f = refl
row_free (to_type w t ∷ bs) r f = row_free bs r f.1
row_free (to_row q y ∷ bs) r f =
    elim (eqb_tells r q) [ inl k ↦ absurd (f.0 (ap row_var k.1)) | inr k ↦ rw k.0 (row_free bs r f.1) ]

end_free : (bs : List Binding) (k : Option ℕ) → EndFree bs k → tail_row (looked bs) k ≡ record { at = λ n. none; tail = k }
end_free bs None f = refl
end_free bs (Some r) f = row_free bs r f

abbrev SlotFree : List Binding → Slot → Type 0
SlotFree bs x = ThroughoutSlot (λ v. IsFree (type_var v) bs) (λ h. Unit {0}) (EndFree bs) x

mutual
  free_same : (bs : List Binding) (u : Term) → AllFree bs u → apply (looked bs) u ≡ u
  free_same bs (var v) f = type_free bs v f
  free_same bs (con h) f = refl
  free_same bs (app a b) f = λ i. app (free_same bs a f.0 i) (free_same bs b f.1 i)
  free_same bs (fields g k) f =
      (λ i. fields (λ n. or_else (slot_same bs (g n) (f.0 n) i) ((end_free bs k f.1 i).at n)) (end_free bs k f.1 i).tail)
      ∙ (λ i. fields (λ n. or_none (g n) i) k)

  slot_same : (bs : List Binding) (x : Slot) → SlotFree bs x → apply_slot (looked bs) x ≡ x
  slot_same bs none f = refl
  slot_same bs (some t) f = ap some (free_same bs t f)

-- all bindings leave it as it is
pub free_solved : (bs : List Binding) (u t : Term) → Chain bs → AllFree bs u → solved bs u ≡ solved bs t → u ≡ solved bs t
free_solved bs u t c f h = sym (settled_is bs u c (free_same bs u f)) ∙ h

-- ---- settled bindings, looked up

pub absent_free : (x : Variable) (bs : List Binding) → Absent x bs → IsFree x (settled bs)
absent_free x [] a = tt
absent_free x (b ∷ bs) a = snoc (settled bs) b (absent_free x bs a.1.1) a.0
  where
    behind : (s : Sub) (b : Binding) → (x ≡ key b → ⊥) → x ≡ key (under s b) → ⊥
    behind s (to_type w t) n = n
    behind s (to_row q y) n = n

    snoc : (cs : List Binding) (b : Binding) → IsFree x cs → (x ≡ key b → ⊥) → IsFree x (cs ++ under (sub_of bs) b ∷ [])
    snoc [] b f n = (behind (sub_of bs) b n, tt)
    snoc (c ∷ cs) b f n = (f.0, snoc cs b f.1 n)

type_last : (cs : List Binding) (w : ℕ) (t : Term) (v : ℕ) → IsFree (type_var w) cs → type_at (cs ++ to_type w t ∷ []) v ≡ (if v == w then t else type_at cs v)
type_last [] w t v f = refl
type_last (to_type x u ∷ cs) w t v f =
    elim (eqb_tells v x) [
      | inl k ↦ elim (eqb_tells v w) [
        | inl h ↦ absurd (f.0 (ap type_var (sym h.1 ∙ k.1)))
        | inr h ↦ rw k.0 (rw h.0 refl)
      ]
      | inr k ↦ rw k.0 (type_last cs w t v f.1)
    ]
type_last (to_row q y ∷ cs) w t v f = type_last cs w t v f.1

type_as : (cs : List Binding) (q : ℕ) (y : Row) (v : ℕ) → type_at (cs ++ to_row q y ∷ []) v ≡ type_at cs v
type_as [] q y v = refl
type_as (to_type x u ∷ cs) q y v = elim (eqb_tells v x) [ inl k ↦ rw k.0 refl | inr k ↦ rw k.0 (type_as cs q y v) ]
type_as (to_row p z ∷ cs) q y v = type_as cs q y v

row_last : (cs : List Binding) (q : ℕ) (y : Row) (r : ℕ) → IsFree (row_var q) cs → row_at (cs ++ to_row q y ∷ []) r ≡ (if r == q then y else row_at cs r)
row_last [] q y r f = refl
row_last (to_type x u ∷ cs) q y r f = row_last cs q y r f.1
row_last (to_row p z ∷ cs) q y r f =
    elim (eqb_tells r p) [
      | inl k ↦ elim (eqb_tells r q) [
        | inl h ↦ absurd (f.0 (ap row_var (sym h.1 ∙ k.1)))
        | inr h ↦ rw k.0 (rw h.0 refl)
      ]
      | inr k ↦ rw k.0 (row_last cs q y r f.1)
    ]

row_as : (cs : List Binding) (w : ℕ) (t : Term) (r : ℕ) → row_at (cs ++ to_type w t ∷ []) r ≡ row_at cs r
row_as [] w t r = refl
row_as (to_type x u ∷ cs) w t r = row_as cs w t r
row_as (to_row p z ∷ cs) w t r = elim (eqb_tells r p) [ inl k ↦ rw k.0 refl | inr k ↦ rw k.0 (row_as cs w t r) ]

-- one more binding, whose variable is not bound yet
looked_last : (cs : List Binding) (b : Binding) (s : Sub) → IsFree (key b) cs → looked cs ≡ s → looked (cs ++ under s b ∷ []) ≡ then_sub s (single b)
looked_last cs (to_type w t) s f e = λ i. record { type_of = λ v. types v i; row_of = λ r. rows r i }
  where
    types : (v : ℕ) → type_at (cs ++ to_type w (apply s t) ∷ []) v ≡ apply s (if v == w then t else var v)
    types v =
        type_last cs w (apply s t) v f
        ∙ elim (eqb_tells v w) [ inl k ↦ rw k.0 refl | inr k ↦ rw k.0 (ap (λ (z : Sub). z.type_of v) e) ]

    rows : (r : ℕ) → row_at (cs ++ to_type w (apply s t) ∷ []) r ≡ s.row_of r
    rows r = row_as cs w (apply s t) r ∙ ap (λ (z : Sub). z.row_of r) e
looked_last cs (to_row q y) s f e = λ i. record { type_of = λ v. types v i; row_of = λ r. rows r i }
  where
    types : (v : ℕ) → type_at (cs ++ to_row q (apply_row s y) ∷ []) v ≡ s.type_of v
    types v = type_as cs q (apply_row s y) v ∙ ap (λ (z : Sub). z.type_of v) e

    rows : (r : ℕ) → row_at (cs ++ to_row q (apply_row s y) ∷ []) r ≡ apply_row s (if r == q then y else same_sub.row_of r)
    rows r =
        row_last cs q (apply_row s y) r f
        ∙ elim (eqb_tells r q) [ inl k ↦ rw k.0 refl | inr k ↦ rw k.0 (ap (λ (z : Sub). z.row_of r) e) ]

-- looked up in them, each variable is what it stands for
pub looked_settled : (bs : List Binding) → Chain bs → looked (settled bs) ≡ sub_of bs
looked_settled [] c = refl
looked_settled (b ∷ bs) c = looked_last (settled bs) b (sub_of bs) (absent_free (key b) bs c.1.0) (looked_settled bs c.1.1)

-- ---- the loop that settles, from the last binding to the first

chain_behind : (bs : List Bound) (i : ℕ) → Chain (bindings_of bs) → Chain (bindings_of (drop i bs))
chain_behind bs zero c = c
chain_behind [] (suc i) c = tt
chain_behind (b ∷ bs) (suc i) c = chain_behind bs i c.1.1

opened : (bs : List Bound) (i : ℕ) (b : Bound) → i < length bs → b ≡ get_or bs i b → drop i bs ≡ b ∷ drop (suc i) bs
opened bs i b lt e = drop-cons bs i b lt ∙ ap (λ x. x ∷ drop (suc i) bs) (sym e)

map_snoc : (xs : List Bound) (x : Bound) → bindings_of (xs ++ x ∷ []) ≡ bindings_of xs ++ binding x ∷ []
map_snoc [] x = refl
map_snoc (y ∷ ys) x = ap (λ z. binding y ∷ z) (map_snoc ys x)

place_last : (e d : Variable → ℕ) (i : ℕ) (made : List Bound) (b : Bound) (x : Variable) → key (binding b) ≡ x → d x ≡ i + length made → IsFree x (bindings_of made) →
    ((y : Variable) → (y ≡ x → ⊥) → d y ≡ e y) → IndexedFrom e i made → IndexedFrom d i (made ++ b ∷ [])
place_last e d i [] b x k own f others h = (ap d k ∙ own ∙ omega arith, tt)
place_last e d i (a ∷ made) b x k own f others h = (
  others (key (binding a)) (λ p. f.0 (sym p)) ∙ h.0,
  place_last e d (suc i) made b x k (own ∙ omega arith) f.1 others h.1,
)

key_under : (s : Sub) (b : Binding) → key (under s b) ≡ key b
key_under s (to_type w t) = refl
key_under s (to_row q y) = refl

-- one binding more
module _ (bs made : List Bound) (i j : ℕ) (b : Bound) (lt : i < length bs) (is : b ≡ get_or bs i b) (next : j ≡ suc i) (c : Chain (bindings_of bs))
    (so_far : bindings_of made ≡ settled (bindings_of (drop j bs))) where
  behind : List Binding
  behind = bindings_of (drop (suc i) bs)

  done : bindings_of made ≡ settled (bindings_of (drop (suc i) bs))
  done = so_far ∙ ap (λ n. settled (bindings_of (drop n bs))) next

  here : Chain (binding b ∷ bindings_of (drop (suc i) bs))
  here = let P : List Bound → Type 0 = λ l. Chain (bindings_of l) in subst P (opened bs i b lt is) (chain_behind bs i c)

  pub settled_more : (new : Bound) (more : List Bound) → binding new ≡ under (looked (bindings_of made)) (binding b) → more ≡ made ++ new ∷ [] →
      bindings_of more ≡ settled (bindings_of (drop i bs))
  settled_more new more e q =
      ap bindings_of q ∙ map_snoc made new
      ∙ ap (λ z. bindings_of made ++ z ∷ []) (e ∙ ap (λ s. under s (binding b)) (ap looked done ∙ looked_settled (bindings_of (drop (suc i) bs)) here.1.1))
      ∙ ap (λ l. l ++ under (sub_of (bindings_of (drop (suc i) bs))) (binding b) ∷ []) done
      ∙ ap (λ l. settled (bindings_of l)) (sym (opened bs i b lt is))

  pub place_more : (e d : Variable → ℕ) (new : Bound) (more : List Bound) → binding new ≡ under (looked (bindings_of made)) (binding b) → more ≡ made ++ new ∷ [] →
      d (key (binding b)) ≡ length made → ((y : Variable) → (y ≡ key (binding b) → ⊥) → d y ≡ e y) → IndexedFrom e 0 made → IndexedFrom d 0 more
  place_more e d new more k q own others h =
      let P : List Bound → Type 0 = λ l. IndexedFrom d 0 l in
      let Q : List Binding → Type 0 = λ l. IsFree (key (binding b)) l in
      subst P (sym q)
      (place_last e d 0 made new (key (binding b)) (ap key k ∙ key_under (looked (bindings_of made)) (binding b)) (own ∙ omega arith)
      (subst Q (sym done) (absent_free (key (binding b)) (bindings_of (drop (suc i) bs)) here.1.0)) others h)

-- what all bindings are settled to
pub all_settled : (bs made : List Bound) (n : ℕ) → n ≡ 0 → Chain (bindings_of bs) → bindings_of made ≡ settled (bindings_of (drop n bs)) → looked (bindings_of made) ≡ sub_of (bindings_of bs)
all_settled bs made n z c e = ap looked (e ∙ ap (λ k. settled (bindings_of (drop k bs))) z) ∙ looked_settled (bindings_of bs) c

-- ---- one binding

pub type_under : (s : Sub) (v : ℕ) (t whole : Ty) (b : Bound) → b ≡ bound.Type v t → mean whole ≡ apply s (mean t) → binding (bound.Type v whole) ≡ under s (binding b)
type_under s v t whole b k e = ap (to_type v) e ∙ ap (λ z. under s (binding z)) (sym k)

row_in : Term → Row
row_in (fields f k) = record { at = f; tail = k }
row_in t = record { at = λ n. none; tail = None }

rows_equal : (f g : List ℕ → Slot) (k j : Option ℕ) → fields f k ≡ fields g j → row_of f k ≡ row_of g j
unfolding row_in
rows_equal f g k j e = ap row_in e

pub row_under : (s : Sub) (r : ℕ) (fs us hs : List (List ℕ × Ty)) (k j : Option ℕ) (xs : List (List ℕ × Term)) (b : Bound) → b ≡ bound.Row r fs k → us ≡ fs →
    xs ≡ changed s us → fields (has hs) j ≡ followed xs s k → binding (bound.Row r hs j) ≡ under s (binding b)
row_under s r fs us hs k j xs b h q e w =
    ap (to_row r)
    (rows_equal (has hs) (λ n. or_else (lookup (changed s fs) n) ((tail_row s k).at n)) j (tail_row s k).tail
    (w ∙ ap (λ z. followed z s k) (e ∙ ap (changed s) q))
    ∙ (λ i. record { at = λ n. or_else (lookup-changed s fs n i) ((tail_row s k).at n); tail = (tail_row s k).tail }))
    ∙ ap (λ z. under s (binding z)) (sym h)

-- ---- whether a variable is bound

same_is : (x y : Unknown) → MatchBool (same_variable x y) (variable x ≡ variable y) (variable x ≡ variable y → ⊥)
same_is (unknown.Type v) (unknown.Type w) = elim (eqb_tells v w) [ inl k ↦ rw k.0 (ap type_var k.1) | inr k ↦ rw k.0 (λ e. k.1 (names e)) ]
  where
    names : type_var v ≡ type_var w → v ≡ w
    names e = cc
same_is (unknown.Type v) (unknown.Row w) = λ e. absurd (cc)
same_is (unknown.Row v) (unknown.Type w) = λ e. absurd (cc)
same_is (unknown.Row v) (unknown.Row w) = elim (eqb_tells v w) [ inl k ↦ rw k.0 (ap row_var k.1) | inr k ↦ rw k.0 (λ e. k.1 (names e)) ]
  where
    names : row_var v ≡ row_var w → v ≡ w
    names e = cc

not_free : (bs : List Bound) (n : ℕ) (b : Bound) (x : Variable) → slice_get bs n ≡ Some b → x ≡ key (binding b) → IsFree x (bindings_of bs) → ⊥
not_free [] n b x g k f = absurd (cc)
not_free (a ∷ bs) zero b x g k f = f.0 (k ∙ ap (λ z. key (binding z)) (own a b (sym g)))
  where
    own : (a b : Bound) → Some b ≡ Some a → b ≡ a
    own a b e = cc
not_free (a ∷ bs) (suc n) b x g k f = not_free bs n b x g k f.1

free_where : (e : Variable → ℕ) (i : ℕ) (bs : List Bound) (x : Variable) → IndexedFrom e i bs →
    ((n : ℕ) (b : Bound) → e x ≡ i + n → slice_get bs n ≡ Some b → x ≡ key (binding b) → ⊥) → IsFree x (bindings_of bs)
free_where e i [] x h lacks = tt
free_where e i (a ∷ bs) x h lacks = (
  λ q. lacks zero a (ap e q ∙ h.0 ∙ omega arith) refl q,
  free_where e (suc i) bs x h.1 (λ n b p g k. lacks (suc n) b (p ∙ omega arith) g k),
)

module _ (e : Variable → ℕ) (n : ℕ) (bs : List Bound) (x : Variable) (h : IndexedFrom e 0 bs) (place : n ≡ e x) where
  pub free_past : slice_get bs n ≡ None → IsFree x (bindings_of bs)
  free_past g = free_where e 0 bs x h (λ m b q k. apart b (sym g ∙ ap (slice_get bs) (place ∙ q ∙ omega arith) ∙ k))
    where
      apart : (b : Bound) {X : Type 0} → None ≡ Some b → X
      apart b k = absurd (cc)

  pub free_at : (b : Bound) (y z : Unknown) (r : Bool) → slice_get bs n ≡ Some b → variable y ≡ x → variable z ≡ key (binding b) → r ≡ same_variable y z →
      MatchBool (not r) (IsFree x (bindings_of bs)) (IsFree x (bindings_of bs) → ⊥)
  free_at b y z r g k l q = told r (let P : Bool → Type 0 = λ t. MatchBool t (variable y ≡ variable z) (variable y ≡ variable z → ⊥) in subst P (sym q) (same_is y z))
    where
      other : (variable y ≡ variable z → ⊥) → IsFree x (bindings_of bs)
      other u = free_where e 0 bs x h (λ m d q p w. u (k ∙ w ∙ ap (λ a. key (binding a)) (own d b (sym p ∙ ap (slice_get bs) (sym (place ∙ q ∙ omega arith)) ∙ g)) ∙ sym l))
        where
          own : (a b : Bound) → Some a ≡ Some b → a ≡ b
          own a b e = cc

      told : (t : Bool) → MatchBool t (variable y ≡ variable z) (variable y ≡ variable z → ⊥) → MatchBool (not t) (IsFree x (bindings_of bs)) (IsFree x (bindings_of bs) → ⊥)
      told true u = not_free bs n b x g (sym k ∙ u ∙ l)
      told false u = other u
