-- What binding a row variable says of two records.
use Rattle.std.proofs.Common.{◌≡◌, ℕ, ◌+◌, Bool, true, false, inl, inr, List, [], ◌∷◌, ◌++◌, refl, ap, sym, ◌∙◌, subst, Option, Some, None, append_assoc, ◌-◌, take, drop, length, arith}
use Rattle.std.proofs.Math.Seq.{drop-append_seam}
use Rattle.std.proofs.lemmas.List.{length-append}
use Rattle.std.specs.Bool.{MatchBool}
use Rattle.snowcat_rows.specs.declared.bindings.Bound.{Bound as Kept}
use Rattle.snowcat_rows.specs.declared.types.Ty.{Ty}
use Rattle.snowcat_rows.specs.Types.{Term, Slot, var, con, app, fields, none, some, lookup}
use Rattle.snowcat_rows.specs.Substitutions.{Sub, apply, apply_slot, or_else, tail_row}
use Rattle.snowcat_rows.specs.Chains.{Variable, row_var, Binding, to_row, single, Occurs, OccursSlot, OccursRow}
use Rattle.snowcat_rows.specs.inner.Rounds.{only, others, Is, Covers, Lacks, Advances, left_row, right_row, both_rows, Stuck, never, row_left, row_right, row_after, row_of, BothBound, NoneBound}
use Rattle.snowcat_rows.specs.Codes.{has, named, changed, binding, bindings_of}
use Rattle.snowcat_rows.specs.inner.Lookups.{looked}
use Rattle.snowcat_rows.proofs.Lookups.{looked_one}
use Rattle.snowcat_rows.proofs.Means.{lookup-changed}
use Rattle.snowcat_rows.proofs.Fields.{not_covered}

occurs_only : (v : Variable) (x y : Slot) → OccursSlot v (only x y) → (u : Term) × (x ≡ some u) × (y ≡ none) × Occurs v u
occurs_only v none none o = absurd o
occurs_only v (some t) none o = (t, refl, refl, o)
occurs_only v x (some t) o = absurd o

-- ---- one row variable
module _ (f g r : List ℕ → Slot) (k j : Option ℕ) (q m : ℕ) (cs ds : List Binding) (apart : k ≡ j → ⊥) (at_row : (n : List ℕ) → r n ≡ only (f n) (g n))
    (covered : Covers f g) where
  abbrev Row_is : (List ℕ → Slot) → Bool → Type 0
  Row_is z b = MatchBool b ((OccursRow (row_var q) (row_of z k) → ⊥) × (ds ≡ cs ++ to_row q (row_of z k) ∷ [])) (OccursRow (row_var q) (row_of z k))

  as_extra : (b : Bool) → Row_is r b → Row_is (λ n. only (f n) (g n)) b
  as_extra b h = let P : (List ℕ → Slot) → Type 0 = λ z. Row_is z b in subst P (λ i n. at_row n i) h

  pub bound_right : j ≡ Some q → (b : Bool) → Row_is r b → MatchBool b (Advances (fields f k) (fields g j) m cs ds m) (Stuck (fields f k) (fields g j) m)
  bound_right e b h = by_result b (as_extra b h)
    where
      by_result : (b : Bool) → Row_is (λ n. only (f n) (g n)) b → MatchBool b (Advances (fields f k) (fields g j) m cs ds m) (Stuck (fields f k) (fields g j) m)
      by_result true h =
          let P : List Binding → Type 0 = λ z. Advances (fields f k) (fields g j) m cs z m in
          subst P (sym h.1) (right_row f g k q refl (ap (fields g) e) covered h.0)
      by_result false (inl (n, o)) = let w = occurs_only (row_var q) (f n) (g n) o in row_right f g k q n w.0 refl (ap (fields g) e) w.2 w.1 w.3
      by_result false (inr o) = absurd (apart (o ∙ sym e))

  pub bound_left : j ≡ Some q → (b : Bool) → Row_is r b → MatchBool b (Advances (fields g j) (fields f k) m cs ds m) (Stuck (fields g j) (fields f k) m)
  bound_left e b h = by_result b (as_extra b h)
    where
      by_result : (b : Bool) → Row_is (λ n. only (f n) (g n)) b → MatchBool b (Advances (fields g j) (fields f k) m cs ds m) (Stuck (fields g j) (fields f k) m)
      by_result true h =
          let P : List Binding → Type 0 = λ z. Advances (fields g j) (fields f k) m cs z m in
          subst P (sym h.1) (left_row g f q k (ap (fields g) e) refl covered h.0)
      by_result false (inl (n, o)) = let w = occurs_only (row_var q) (f n) (g n) o in row_left g f q k n w.0 (ap (fields g) e) refl w.2 w.1 w.3
      by_result false (inr o) = absurd (apart (o ∙ sym e))

-- ---- both
module _ (f g l r : List ℕ → Slot) (k j : Option ℕ) (i q m : ℕ) (cs ds : List Binding) (apart : k ≡ j → ⊥) (ek : k ≡ Some i) (ej : j ≡ Some q)
    (at_left : (n : List ℕ) → l n ≡ only (g n) (f n)) (at_right : (n : List ℕ) → r n ≡ only (f n) (g n))
    (first_lacks : Lacks f g) (second_lacks : Lacks g f) where
  abbrev here : List ℕ → Slot
  here n = only (g n) (f n)

  abbrev there : List ℕ → Slot
  there n = only (f n) (g n)

  rows : i ≡ q → ⊥
  rows e = apart (ek ∙ ap Some e ∙ sym ej)

  as_bound : BothBound i l q r m cs ds → BothBound i here q there m cs ds
  as_bound h =
      let P : (List ℕ → Slot) → Type 0 = λ z. BothBound i z q r m cs ds in
      let Q : (List ℕ → Slot) → Type 0 = λ z. BothBound i here q z m cs ds in
      subst Q (λ x n. at_right n x) (subst P (λ x n. at_left n x) h)

  as_none : NoneBound i l q r m → NoneBound i here q there m
  as_none h =
      let P : (List ℕ → Slot) → Type 0 = λ z. NoneBound i z q r m in
      let Q : (List ℕ → Slot) → Type 0 = λ z. NoneBound i here q z m in
      subst Q (λ x n. at_right n x) (subst P (λ x n. at_left n x) h)

  both_moved : BothBound i here q there m cs ds → Advances (fields f k) (fields g j) m cs ds (m + 1)
  both_moved h =
      let P : List Binding → Type 0 = λ z. Advances (fields f k) (fields g j) m cs z (m + 1) in
      subst P (sym h.added) (both_rows f g i q (ap (fields f) ek) (ap (fields g) ej) rows first_lacks second_lacks h.free_first h.free_second)

  slot_after : (s : Sub) (v : Variable) (x y : Slot) → OccursSlot v (apply_slot s (only x y)) → (u : Term) × (x ≡ some u) × (y ≡ none) × Occurs v (apply s u)
  slot_after s v none none o = absurd o
  slot_after s v (some t) none o = (t, refl, refl, o)
  slot_after s v x (some t) o = absurd o

  both_stuck : NoneBound i here q there m → Stuck (fields f k) (fields g j) m
  both_stuck (inl (n, o)) = let w = occurs_only (row_var i) (g n) (f n) o in row_left f g i j n w.0 (ap (fields f) ek) refl w.2 w.1 w.3
  both_stuck (inr (n, o)) =
      let w = slot_after (single (to_row i (others f g m))) (row_var q) (f n) (g n) o in row_after f g i q n w.0 (ap (fields f) ek) (ap (fields g) ej) w.2 w.1 w.3

  pub both_then : (b : Bool) → b ≡ true → MatchBool b (BothBound i l q r m cs ds) (NoneBound i l q r m) → MatchBool b (Advances (fields f k) (fields g j) m cs ds (m + 1)) (Stuck (fields f k) (fields g j) m)
  both_then true e h = both_moved (as_bound h)
  both_then false e h = absurd (cc)

  pub both_else : (b : Bool) → b ≡ false → MatchBool b (BothBound i l q r m cs ds) (NoneBound i l q r m) → MatchBool b (Advances (fields f k) (fields g j) m cs ds m) (Stuck (fields f k) (fields g j) m)
  both_else true e h = absurd (cc)
  both_else false e h = both_stuck (as_none h)

-- ---- a closed record without a name of the other
at_name : Term → List ℕ → Slot
at_name (var v) n = none
at_name (con h) n = none
at_name (app a b) n = none
at_name (fields f k) n = f n

closed_has : (s : Sub) (x y z : Slot) → or_else (apply_slot s x) z ≡ or_else (apply_slot s y) none → Is x → Is y
closed_has s none y z k i = absurd i
closed_has s (some u) none z k i = absurd (cc)
closed_has s (some u) (some w) z k i = tt

-- the second is closed
pub closed_right : (f g : List ℕ → Slot) (k j : Option ℕ) (m : ℕ) → j ≡ None → Lacks g f → Stuck (fields f k) (fields g j) m
unfolding at_name
closed_right f g k j m e c = never (λ s h. not_covered g f c (λ n i.
    closed_has s (f n) (g n) ((tail_row s k).at n) (ap (λ z. at_name z n) (h ∙ ap (λ z. apply s (fields g z)) e)) i))

pub closed_left : (f g : List ℕ → Slot) (k j : Option ℕ) (m : ℕ) → k ≡ None → Lacks f g → Stuck (fields f k) (fields g j) m
unfolding at_name
closed_left f g k j m e c = never (λ s h. not_covered f g c (λ n i.
    closed_has s (g n) (f n) ((tail_row s j).at n) (ap (λ z. at_name z n) (sym h ∙ ap (λ z. apply s (fields f z)) e)) i))

-- ---- what is pushed

pub replaced_is : (l k rs qs ps os : List (List ℕ × Ty)) (r m : ℕ) → k ≡ l → qs ≡ rs → os ≡ ps → named ps ≡ changed (single (to_row r (row_of (has k) (Some m)))) qs →
    (n : List ℕ) → has os n ≡ apply_slot (single (to_row r (row_of (has l) (Some m)))) (has rs n)
replaced_is l k rs qs ps os r m el er eo e n =
    ap (λ z. has z n) eo ∙ ap (λ z. lookup z n) e ∙ lookup-changed (single (to_row r (row_of (has k) (Some m)))) qs n
    ∙ ap (λ z. apply_slot (single (to_row r (row_of (has z) (Some m)))) (has qs n)) el ∙ ap (λ z. apply_slot (single (to_row r (row_of (has l) (Some m)))) (has z n)) er

bindings_snoc : (bs : List Kept) (b : Kept) → bindings_of (bs ++ b ∷ []) ≡ bindings_of bs ++ binding b ∷ []
bindings_snoc [] b = refl
bindings_snoc (c ∷ bs) b = ap (λ l. binding c ∷ l) (bindings_snoc bs b)

pub two_added : (bs cs ds : List Kept) (b c : Kept) (x y : Binding) → cs ≡ bs ++ b ∷ [] → ds ≡ cs ++ c ∷ [] → binding b ≡ x → binding c ≡ y →
    bindings_of ds ≡ bindings_of bs ++ x ∷ y ∷ []
two_added bs cs ds b c x y e h p q =
    ap bindings_of h ∙ bindings_snoc cs c
    ∙ ap (λ z. z ++ binding c ∷ []) (ap bindings_of e ∙ bindings_snoc bs b)
    ∙ append_assoc (bindings_of bs) (binding b ∷ []) (binding c ∷ [])
    ∙ ap (λ z. bindings_of bs ++ z ∷ binding c ∷ []) p ∙ ap (λ z. bindings_of bs ++ x ∷ z ∷ []) q

-- a slice of what was pushed last, looked up
pub replaced_by : (xs d : List Kept) (b : Kept) (m : ℕ) (ps qs : List (List ℕ × Ty)) → d ≡ xs ++ b ∷ [] → m ≡ length xs →
    named ps ≡ changed (looked (bindings_of (take (length d - m) (drop m d)))) qs → named ps ≡ changed (single (binding b)) qs
replaced_by xs d b m ps qs e q h = h ∙ ap (λ s. changed s qs) (ap (λ l. looked (bindings_of l)) last ∙ looked_one (binding b))
  where
    rest : drop m d ≡ b ∷ []
    rest = ap (drop m) e ∙ ap (λ n. drop n (xs ++ b ∷ [])) q ∙ drop-append_seam xs (b ∷ [])

    one : length d - m ≡ 1
    one = omega (arith, ap length e, length-append xs (b ∷ []), q)

    last : take (length d - m) (drop m d) ≡ b ∷ []
    last = ap (take (length d - m)) rest ∙ ap (λ n. take n (b ∷ [])) one
