-- Looking variables up in place of putting one binding in place after the other: what a table is for.
use Rattle.std.proofs.Common.{◌≡◌, ℕ, zero, suc, Bool, if◌then◌else◌, ◌⊎◌, inl, inr, List, [], ◌∷◌, ◌++◌, length, refl, ap, sym, ◌∙◌, subst, Some, None}
use Rattle.std.proofs.lemmas.Bool.Decides.{eqb_tells}
use Rattle.snowcat_rows.specs.Types.{Term, Slot, var, con, app, fields, none, some}
use Rattle.snowcat_rows.specs.Substitutions.{Sub, apply, apply_slot, apply_row, or_else, then_sub}
use Rattle.snowcat_rows.specs.Chains.{Variable, type_var, row_var, Stands, Ends, Binding, to_type, to_row, key, Occurs, OccursSlot, OccursRow, OccursIn, Solves, Absent, Chain, single, solved, sub_of}
use Rattle.snowcat_rows.specs.inner.Lookups.{type_at, row_at, looked}
use Rattle.snowcat_rows.proofs.RowTheory.{apply_apply, solved_is, chain_solves, single_free}

keeps_type : (s : Sub) (bs : List Binding) (v : ℕ) → Solves s bs → apply s (type_at bs v) ≡ s.type_of v
keeps_type s [] v h = refl
keeps_type s (to_type w t ∷ bs) v h = elim (eqb_tells v w) [ inl k ↦ rw k.0 (sym h.0 ∙ ap s.type_of (sym k.1)) | inr k ↦ rw k.0 (keeps_type s bs v h.1) ]
keeps_type s (to_row q y ∷ bs) v h = keeps_type s bs v h.1

keeps_row : (s : Sub) (bs : List Binding) (r : ℕ) → Solves s bs → apply_row s (row_at bs r) ≡ s.row_of r
keeps_row s [] r h = refl
keeps_row s (to_type w t ∷ bs) r h = keeps_row s bs r h.1
keeps_row s (to_row q y ∷ bs) r h = elim (eqb_tells r q) [ inl k ↦ rw k.0 (sym h.0 ∙ ap s.row_of (sym k.1)) | inr k ↦ rw k.0 (keeps_row s bs r h.1) ]

looked_kept : (s : Sub) (bs : List Binding) → Solves s bs → then_sub s (looked bs) ≡ s
looked_kept s bs h = λ i. record { type_of = λ v. keeps_type s bs v h i; row_of = λ r. keeps_row s bs r h i }

-- a pass that looks each variable up once leaves the type what it is under all bindings
pub pass_solved : (bs : List Binding) (u : Term) → Chain bs → solved bs (apply (looked bs) u) ≡ solved bs u
pass_solved bs u c =
    solved_is bs (apply (looked bs) u) ∙ apply_apply (sub_of bs) (looked bs) u ∙ ap (λ s. apply s u) (looked_kept (sub_of bs) bs (chain_solves bs c)) ∙ sym (solved_is bs u)

-- ---- how many passes: no variable of the first i bindings stands in the type after i passes

-- none of the first i bound variables stands there
abbrev pub ClearTo : ℕ → List Binding → (Variable → Type 0) → Type 0
ClearTo zero bs P = Unit {0}
ClearTo (suc i) [] P = Unit {0}
ClearTo (suc i) (b ∷ bs) P = (P (key b) → ⊥) × ClearTo i bs P

clear_sub : (i : ℕ) (bs : List Binding) (P Q : Variable → Type 0) → ((v : Variable) → Q v → P v) → ClearTo i bs P → ClearTo i bs Q
clear_sub zero bs P Q f c = tt
clear_sub (suc i) [] P Q f c = tt
clear_sub (suc i) (b ∷ bs) P Q f c = (λ q. c.0 (f (key b) q), clear_sub i bs P Q f c.1)

-- a variable that stands in a type after a pass stood there without a binding, or stands in a binding that was looked up
abbrev pub Came : List Binding → (Variable → Type 0) → Variable → Type 0
Came [] P v = P v
Came (b ∷ bs) P v = (P (key b) × OccursIn v b) ⊎ ((v ≡ key b → ⊥) × Came bs P v)

-- by one more binding no earlier variable comes
not_later : (v : Variable) (bs : List Binding) (P : Variable → Type 0) → Absent v bs → (P v → ⊥) → Came bs P v → ⊥
not_later v [] P a n c = n c
not_later v (b ∷ bs) P a n (inl c) = a.1.0 c.1
not_later v (b ∷ bs) P a n (inr c) = not_later v bs P a.1.1 n c.1

pub pass_clear : (i : ℕ) (bs : List Binding) (P : Variable → Type 0) → Chain bs → ClearTo i bs P → ClearTo (suc i) bs (Came bs P)
pass_clear i [] P c h = tt
pass_clear zero (b ∷ bs) P c h = (own, tt)
  where
    own : Came (b ∷ bs) P (key b) → ⊥
    own (inl k) = c.0 k.1
    own (inr k) = k.0 refl
pass_clear (suc i) (b ∷ bs) P c h = (own, clear_sub (suc i) bs (Came bs P) (Came (b ∷ bs) P) later (pass_clear i bs P c.1.1 h.1))
  where
    own : Came (b ∷ bs) P (key b) → ⊥
    own (inl k) = h.0 k.0
    own (inr k) = k.0 refl

    later : (v : Variable) → Came (b ∷ bs) P v → Came bs P v
    later v (inl k) = absurd (h.0 k.0)
    later v (inr k) = k.1

-- ---- where the variables come from

came_sub : (bs : List Binding) (P Q : Variable → Type 0) (v : Variable) → ((w : Variable) → P w → Q w) → Came bs P v → Came bs Q v
came_sub [] P Q v f c = f v c
came_sub (b ∷ bs) P Q v f (inl c) = inl (f (key b) c.0, c.1)
came_sub (b ∷ bs) P Q v f (inr c) = inr (c.0, came_sub bs P Q v f c.1)

absent_type : (v : Variable) (bs : List Binding) (x : ℕ) → Absent v bs → (Stands v x → ⊥) → Occurs v (type_at bs x) → ⊥
absent_type v [] x a n o = n o
absent_type v (to_type w t ∷ bs) x a n o =
    elim (eqb_tells x w) [
      | inl k ↦ a.1.0 (let P : Bool → Type 0 = λ z. Occurs v (if z then t else type_at bs x) in subst P k.0 o)
      | inr k ↦ absent_type v bs x a.1.1 n (let P : Bool → Type 0 = λ z. Occurs v (if z then t else type_at bs x) in subst P k.0 o)
    ]
absent_type v (to_row q y ∷ bs) x a n o = absent_type v bs x a.1.1 n o

absent_row : (v : Variable) (bs : List Binding) (r : ℕ) → Absent v bs → (Ends v (Some r) → ⊥) → OccursRow v (row_at bs r) → ⊥
absent_row v [] r a n (inl (m, o)) = o
absent_row v [] r a n (inr o) = n o
absent_row v (to_type w t ∷ bs) r a n o = absent_row v bs r a.1.1 n o
absent_row v (to_row q y ∷ bs) r a n o =
    elim (eqb_tells r q) [
      | inl k ↦ a.1.0 (let P : Bool → Type 0 = λ z. OccursRow v (if z then y else row_at bs r) in subst P k.0 o)
      | inr k ↦ absent_row v bs r a.1.1 n (let P : Bool → Type 0 = λ z. OccursRow v (if z then y else row_at bs r) in subst P k.0 o)
    ]

same_end : (i j : ℕ) → Some i ≡ Some j → i ≡ j
same_end i j e = cc

came_type : (bs : List Binding) (P : Variable → Type 0) (v : Variable) (x : ℕ) → Chain bs → P (type_var x) → Occurs v (type_at bs x) → Came bs P v
came_type [] P (type_var y) x c p o = let Q : ℕ → Type 0 = λ z. P (type_var z) in subst Q (sym o) p
came_type [] P (row_var y) x c p o = absurd o
came_type (to_type w t ∷ bs) P v x c p o =
    elim (eqb_tells x w) [
      | inl k ↦ inl ((let Q : ℕ → Type 0 = λ z. P (type_var z) in subst Q k.1 p), (let Q : Bool → Type 0 = λ z. Occurs v (if z then t else type_at bs x) in subst Q k.0 o))
      | inr k ↦ (let later : Occurs v (type_at bs x) = (let Q : Bool → Type 0 = λ z. Occurs v (if z then t else type_at bs x) in subst Q k.0 o) in
          inr (λ e. absent_type (type_var w) bs x c.1.0 (λ h. k.1 (sym h)) (let Q : Variable → Type 0 = λ z. Occurs z (type_at bs x) in subst Q e later), came_type bs P v x c.1.1 p later))
    ]
came_type (to_row q y ∷ bs) P v x c p o =
    inr (λ e. absent_type (row_var q) bs x c.1.0 (λ h. h) (let Q : Variable → Type 0 = λ z. Occurs z (type_at bs x) in subst Q e o), came_type bs P v x c.1.1 p o)

came_row : (bs : List Binding) (P : Variable → Type 0) (v : Variable) (r : ℕ) → Chain bs → P (row_var r) → OccursRow v (row_at bs r) → Came bs P v
came_row [] P v r c p (inl (m, o)) = absurd o
came_row [] P (type_var y) r c p (inr o) = absurd o
came_row [] P (row_var y) r c p (inr o) = let Q : ℕ → Type 0 = λ z. P (row_var z) in subst Q (same_end r y o) p
came_row (to_type w t ∷ bs) P v r c p o =
    inr (λ e. absent_row (type_var w) bs r c.1.0 (λ h. h) (let Q : Variable → Type 0 = λ z. OccursRow z (row_at bs r) in subst Q e o), came_row bs P v r c.1.1 p o)
came_row (to_row q y ∷ bs) P v r c p o =
    elim (eqb_tells r q) [
      | inl k ↦ inl ((let Q : ℕ → Type 0 = λ z. P (row_var z) in subst Q k.1 p), (let Q : Bool → Type 0 = λ z. OccursRow v (if z then y else row_at bs r) in subst Q k.0 o))
      | inr k ↦ (let later : OccursRow v (row_at bs r) = (let Q : Bool → Type 0 = λ z. OccursRow v (if z then y else row_at bs r) in subst Q k.0 o) in
          inr (λ e. absent_row (row_var q) bs r c.1.0 (λ h. k.1 (same_end r q h)) (let Q : Variable → Type 0 = λ z. OccursRow z (row_at bs r) in subst Q e later), came_row bs P v r c.1.1 p later))
    ]

came_either : (bs : List Binding) (f : List ℕ → Slot) (r : ℕ) (v : Variable) (n : List ℕ) → Came bs (λ w. OccursSlot w (f n)) v ⊎ OccursSlot v ((row_at bs r).at n) → Chain bs →
    Came bs (λ w. Occurs w (fields f (Some r))) v
came_either bs f r v n (inl h) c = came_sub bs (λ w. OccursSlot w (f n)) (λ w. Occurs w (fields f (Some r))) v (λ w k. inl (n, k)) h
came_either bs f r v n (inr o) c = came_row bs (λ w. Occurs w (fields f (Some r))) v r c (inr refl) (inl (n, o))

mutual
  pub came_from : (bs : List Binding) (u : Term) (v : Variable) → Chain bs → Occurs v (apply (looked bs) u) → Came bs (λ w. Occurs w u) v
  came_from bs (var x) v c o = came_type bs (λ w. Occurs w (var x)) v x c refl o
  came_from bs (con h) v c o = absurd o
  came_from bs (app a b) v c (inl o) = came_sub bs (λ w. Occurs w a) (λ w. Occurs w (app a b)) v (λ w h. inl h) (came_from bs a v c o)
  came_from bs (app a b) v c (inr o) = came_sub bs (λ w. Occurs w b) (λ w. Occurs w (app a b)) v (λ w h. inr h) (came_from bs b v c o)
  came_from bs (fields f None) v c (inl (n, o)) =
      came_sub bs (λ w. OccursSlot w (f n)) (λ w. Occurs w (fields f None)) v (λ w h. inl (n, h)) (came_slot bs (f n) none v c o (λ h. absurd h))
  came_from bs (fields f None) v c (inr o) = absurd (no_end v o)
    where
      no_end : (v : Variable) → Ends v None → ⊥
      no_end (type_var y) e = e
      no_end (row_var y) e = absurd (cc)
  came_from bs (fields f (Some r)) v c (inl (n, o)) =
      came_either bs f r v n (came_slot_or bs (f n) ((row_at bs r).at n) v c o) c
  came_from bs (fields f (Some r)) v c (inr o) = came_row bs (λ w. Occurs w (fields f (Some r))) v r c (inr refl) (inr o)

  came_slot : (bs : List Binding) (x y : Slot) (v : Variable) → Chain bs → OccursSlot v (or_else (apply_slot (looked bs) x) y) → (OccursSlot v y → ⊥) → Came bs (λ w. OccursSlot w x) v
  came_slot bs none y v c o n = absurd (n o)
  came_slot bs (some t) y v c o n = came_from bs t v c o

  came_slot_or : (bs : List Binding) (x y : Slot) (v : Variable) → Chain bs → OccursSlot v (or_else (apply_slot (looked bs) x) y) → Came bs (λ w. OccursSlot w x) v ⊎ OccursSlot v y
  came_slot_or bs none y v c o = inr o
  came_slot_or bs (some t) y v c o = inl (came_from bs t v c o)

-- each pass clears one binding more, so as many passes as there are bindings suffice
pub pass_further : (i : ℕ) (bs : List Binding) (u : Term) → Chain bs → ClearTo i bs (λ w. Occurs w u) → ClearTo (suc i) bs (λ w. Occurs w (apply (looked bs) u))
pass_further i bs u c h =
    clear_sub (suc i) bs (Came bs (λ w. Occurs w u)) (λ w. Occurs w (apply (looked bs) u)) (λ v o. came_from bs u v c o) (pass_clear i bs (λ w. Occurs w u) c h)

-- what a pass leaves as it is, is what all bindings make of it
pub settled : (bs : List Binding) (u : Term) → Chain bs → apply (looked bs) u ≡ u → (i : ℕ) → ClearTo i bs (λ w. Occurs w u)
settled bs u c e zero = tt
settled bs u c e (suc i) =
    let P : Term → Type 0 = λ z. ClearTo (suc i) bs (λ w. Occurs w z) in subst P e (pass_further i bs u c (settled bs u c e i))

clear_solved : (bs : List Binding) (u : Term) → ClearTo (length bs) bs (λ w. Occurs w u) → solved bs u ≡ u
clear_solved [] u c = refl
clear_solved (b ∷ bs) u c = ap (solved bs) (single_free b u c.0) ∙ clear_solved bs u c.1

-- a type without bound variables is settled
pub cleared_is : (bs : List Binding) (u : Term) (n : ℕ) → n ≡ length bs → ClearTo n bs (λ w. Occurs w u) → solved bs u ≡ u
cleared_is bs u n e c = clear_solved bs u (let P : ℕ → Type 0 = λ z. ClearTo z bs (λ w. Occurs w u) in subst P e c)

pub settled_is : (bs : List Binding) (u : Term) → Chain bs → apply (looked bs) u ≡ u → solved bs u ≡ u
settled_is bs u c e = clear_solved bs u (settled bs u c e (length bs))

pub solved_append : (bs cs : List Binding) (u : Term) → solved (bs ++ cs) u ≡ solved cs (solved bs u)
solved_append [] cs u = refl
solved_append (b ∷ bs) cs u = solved_append bs cs (apply (single b) u)

pub looked_one : (b : Binding) → looked (b ∷ []) ≡ single b
looked_one (to_type v t) = refl
looked_one (to_row r w) = refl

-- ---- the loop over passes

pub one_pass : (bs : List Binding) (i j : ℕ) (u n t : Term) → Chain bs → n ≡ apply (looked bs) u → j ≡ suc i → solved bs u ≡ solved bs t → ClearTo i bs (λ w. Occurs w u) →
    (solved bs n ≡ solved bs t) × ClearTo j bs (λ w. Occurs w n)
one_pass bs i j u n t c e q h k = (
  ap (solved bs) e ∙ pass_solved bs u c ∙ h,
  (let P : Term → Type 0 = λ z. ClearTo j bs (λ w. Occurs w z) in
      let Q : ℕ → Type 0 = λ z. ClearTo z bs (λ w. Occurs w (apply (looked bs) u)) in
      subst P (sym e) (subst Q (sym q) (pass_further i bs u c k))),
)
