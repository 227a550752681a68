-- What is asked of declared names can always be met: each has a type number of its own, below all variables.
use Rattle.std.proofs.Common.{◌≡◌, ◌==◌, if◌then◌else◌, ℕ, ◌+◌, ◌≤◌, inl, inr, List, [], ◌∷◌, length, refl, ap, sym, ◌∙◌, arith, Some, None}
use Rattle.std.proofs.lemmas.Bool.Decides.{eqb_tells}
use Rattle.snowcat_rows.specs.Types.{Term, Slot, var, con, app, fields, none, some}
use Rattle.snowcat_rows.specs.Substitutions.{Sub, apply, apply_slot, or_else, same_sub}
use Rattle.snowcat_rows.specs.Readings.{moved, moved_slot}
use Rattle.snowcat_rows.proofs.RowTheory.{or_none}
use Rattle.snowcat_types.specs.Requirements.{MeetAll}
use Rattle.snowcat_types.specs.Systems.{Annotations, declared_types}

-- the i-th number stands for the first type, and so on
abbrev type_from : ℕ → ℕ → List (Term × ℕ) → ℕ → Term
type_from i v [] w = var w
type_from i v (t ∷ ts) w = if w == i then moved v t.0 else type_from (i + 1) (v + t.1) ts w

abbrev named_by : ℕ → ℕ → List (Term × ℕ) → Sub
named_by i v ts = record { type_of = type_from i v ts; row_of = same_sub.row_of }

-- a number behind those stands for itself
high : (i v : ℕ) (ts : List (Term × ℕ)) (w : ℕ) → i + length ts ≤ w → type_from i v ts w ≡ var w
high i v [] w le = refl
high i v (t ∷ ts) w le = elim (eqb_tells w i) [
  | inl h ↦ (let e = h.1 in absurd (omega (arith, le, e)))
  | inr h ↦ rw h.0 (high (i + 1) (v + t.1) ts w (omega (arith, le)))
]

-- what stands for itself from v on leaves a type as it is whose numbers are v and more
module _ (s : Sub) (v : ℕ) (types : (w : ℕ) → v ≤ w → s.type_of w ≡ var w) (rows : (r : ℕ) → s.row_of r ≡ same_sub.row_of r) where
  mutual
    left : (t : Term) → apply s (moved v t) ≡ moved v t
    left (var w) = types (v + w) (omega arith)
    left (con h) = refl
    left (app a b) = λ i. app (left a i) (left b i)
    left (fields f None) = λ i. fields (λ n. (or_none (apply_slot s (moved_slot v (f n))) ∙ left_slot (f n)) i) None
    left (fields f (Some r)) =
        (λ i. fields (λ n. or_else (apply_slot s (moved_slot v (f n))) ((rows (v + r) i).at n)) (rows (v + r) i).tail)
        ∙ (λ i. fields (λ n. (or_none (apply_slot s (moved_slot v (f n))) ∙ left_slot (f n)) i) (Some (v + r)))

    left_slot : (x : Slot) → apply_slot s (moved_slot v x) ≡ moved_slot v x
    left_slot none = refl
    left_slot (some t) = ap some (left t)

met_from : (s : Sub) (i v : ℕ) (ts : List (Term × ℕ)) → i + length ts ≤ v → ((w : ℕ) → i ≤ w → s.type_of w ≡ type_from i v ts w) →
    ((r : ℕ) → s.row_of r ≡ same_sub.row_of r) → MeetAll s (declared_types i v ts)
met_from s i v [] le types rows = tt
met_from s i v (t ∷ ts) le types rows = (
  left s v (λ w lt. types w (omega (arith, le, lt)) ∙ high i v (t ∷ ts) w (omega (arith, le, lt))) rows t.0 ∙ sym (types i (omega arith) ∙ own),
  met_from s (i + 1) (v + t.1) ts (omega (arith, le)) (λ w lt. types w (omega (arith, lt)) ∙ other w lt) rows,
)
  where
    own : type_from i v (t ∷ ts) i ≡ moved v t.0
    own = elim (eqb_tells i i) [ inl h ↦ rw h.0 refl | inr h ↦ absurd (h.1 refl) ]

    other : (w : ℕ) → i + 1 ≤ w → type_from i v (t ∷ ts) w ≡ type_from (i + 1) (v + t.1) ts w
    other w lt = elim (eqb_tells w i) [ inl h ↦ (let e = h.1 in absurd (omega (arith, lt, e))) | inr h ↦ rw h.0 refl ]

pub declared_met : (an : Annotations) → (s : Sub) × MeetAll s (declared_types 0 (length an.declared) an.declared)
declared_met an =
    (named_by 0 (length an.declared) an.declared, met_from (named_by 0 (length an.declared) an.declared) 0 (length an.declared) an.declared (omega arith) (λ w lt. refl) (λ r. refl))
