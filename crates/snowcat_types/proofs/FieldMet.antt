-- A field is asked for by a record that is open for others, whose row variable is new.
use Rattle.std.proofs.Common.{◌≡◌, ℕ, ◌+◌, ◌<◌, ◌≤◌, Bool, true, false, ◌&&◌, if◌then◌else◌, inl, inr, List, [], ◌∷◌, ◌++◌, refl, ap, sym, ◌∙◌, subst, arith, Some}
use Rattle.std.specs.Prelude.{bytes_eq, OnOk, MatchResult, Result, Ok, Err}
use Rattle.std.proofs.lemmas.Bool.Decides.{eqb_tells}
use Rattle.snowcat_rows.specs.declared.substitution.Subst.{Subst}
use Rattle.snowcat_rows.specs.declared.substitution.UnifyFault.{UnifyFault}
use Rattle.snowcat_rows.specs.declared.substitution.UnifyFault.TheVariants.{Clash, Memory}
use Rattle.snowcat_rows.specs.Types.{Term, var, none, some, mean}
use Rattle.snowcat_rows.specs.Substitutions.{Apart, Fronts, Present, Sorted, SortedSlot, Sub, Unified}
use Rattle.snowcat_rows.specs.Chains.{Binding, row_var, type_var}
use Rattle.snowcat_rows.specs.Sorting.{AllSorted, AllWithin, Within}
use Rattle.snowcat_rows.specs.Unifying.{IsMade, IsRefused, Unmade}
use Rattle.snowcat_rows.specs.Views.{issued_of, kept_by, stands_for}
use Rattle.snowcat_rows.specs.declared.types.Ty.{Ty, Rec, Var}
use Rattle.snowcat_rows.specs.FieldNames.{names_differ}
use Rattle.snowcat_rows.proofs.Means.{mean-Rec, mean-Var}
use Rattle.snowcat_rows.proofs.Naming.{differ-Rec, differ-Var}
use Rattle.snowcat_rows.proofs.General.{all_agree, AllWithin-more}
use Rattle.snowcat_types.specs.Requirements.{FieldOf, MeetAll, Requirement}
use Rattle.snowcat_types.specs.Typings.{with_field}
use Rattle.snowcat_types.specs.inner.Solved.{AreOf, IsMet, IsSolved, Refuses}
use Rattle.snowcat_types.proofs.Choices.{meet_append, meet_left, meet_right}
use Rattle.snowcat_types.proofs.Issued.{keeps_issued, own_row, own_type, rows_below, types_below}
use Rattle.snowcat_types.proofs.Opening.{field_opened, not_opened, with_front}
use Rattle.snowcat_types.proofs.Running.{cut, cut_fits, cut_meets, cut_solves, most_general}

pub of_var : (n v : ℕ) → v < n → Within n (var v)
of_var n v lt (type_var w) o = let e = o in omega (arith, lt, e)
of_var n v lt (row_var w) o = absurd o

front_off : (k : Fronts) (m : ℕ) (name : List ℕ) (v : ℕ) → v < m → (x : List ℕ) → with_front k m name v x ≡ k v x
front_off k m name v lt x = elim (eqb_tells v m) [ inl h ↦ (let e = h.1 in absurd (omega (arith, lt, e))) | inr h ↦ rw h.0 refl ]

front_at : (k : Fronts) (m : ℕ) (name x : List ℕ) → with_front k m name m x ≡ bytes_eq name x
front_at k m name x = elim (eqb_tells m m) [ inl h ↦ rw h.0 refl | inr h ↦ absurd (h.1 refl) ]

one_present : (c : Bool) (u : Term) → Present (if c then some u else none) c
one_present true u = refl
one_present false u = λ e. absurd (cc)

one_sorted : (l : Fronts) (c : Bool) (v : ℕ) → SortedSlot l (if c then some (var v) else none)
one_sorted l true v = tt
one_sorted l false v = tt

-- the open record is sorted where its row variable stands after the name
pub field_sorted : (k : Fronts) (m v : ℕ) (name : List ℕ) → Sorted (with_front k m name) (with_field name (var v) m)
field_sorted k m v name = ((λ x. one_sorted (with_front k m name) (bytes_eq name x) v), present)
  where
    same_end : (i j : ℕ) → Some i ≡ Some j → i ≡ j
    same_end i j e = cc

    present : (r : ℕ) → Some m ≡ Some r → (x : List ℕ) → Present (if bytes_eq name x then some (var v) else none) (with_front k m name r x)
    present r e x =
        let P : Bool → Type 0 = λ z. Present (if bytes_eq name x then some (var v) else none) z in
        subst P (sym (front_at k m name x) ∙ ap (λ z. with_front k m name z x) (same_end m r e)) (one_present (bytes_eq name x) (var v))

pub swapped : (n m : ℕ) (l k : Fronts) (s t : Sub) (a b : Term) → Unified n m l k s a b t → Unified n m l k s b a t
swapped n m l k s t a b h = record { extends = h.extends; equal = sym h.equal; general = λ u f x e. h.general u f x (sym e) }

module _ (n : ℕ) (l : Fronts) (rs : List Requirement) (s : Subst) (r v : ℕ) (name : List ℕ) (h : IsSolved n l rs s) (f : AreOf n l rs)
    (lr : r < n) (lv : v < n) where
  w : AllWithin (issued_of s) (kept_by s)
  w = (keeps_issued s).1

  new : ℕ
  new = issued_of s

  abbrev asks : Requirement
  asks = FieldOf (var r) name (var v)

  abbrev open_record : Term
  open_record = with_field name (var v) (issued_of s)

  abbrev wide : Fronts
  wide = with_front h.fronts (issued_of s) name

  kept_sorted : AllSorted wide (kept_by s)
  kept_sorted = all_agree (issued_of s) h.fronts wide (kept_by s) (front_off h.fronts (issued_of s) name) w h.sorted

  field_solved : (t : Subst) (j : Fronts) → issued_of s + 1 ≤ issued_of t → ((u : ℕ) → u < issued_of s + 1 → (x : List ℕ) → j u x ≡ wide u x) → AllSorted j (kept_by t)
      → Unified (issued_of s + 1) (issued_of t) wide j (stands_for s) (var r) open_record (stands_for t) → IsSolved n l (rs ++ asks ∷ []) t
  field_solved t j le same sorted unified =
      let more = h.solved.more in
      record {
        fronts = j;
        same = λ u lt x. same u (omega (arith, lt, more)) x ∙ front_off h.fronts (issued_of s) name u (omega (arith, lt, more)) x ∙ h.same u lt x;
        solved = field_opened n (issued_of s) l h.fronts rs (stands_for s) (var r) (var v) name (of_var n r lr) (of_var n v lv)
            (own_type (kept_by s) (issued_of s) w) (own_row (kept_by s) (issued_of s) w) (types_below (kept_by s) (issued_of s) w) (rows_below (kept_by s) (issued_of s) w)
            h.solved (issued_of t) j (stands_for t) le f.inside unified;
        sorted = sorted;
      }

  none_has : Apart (issued_of s + 1) wide (stands_for s) (var r) open_record → (u : Sub) → MeetAll u (rs ++ asks ∷ []) → ⊥
  none_has apart u m =
      not_opened n (issued_of s) l h.fronts rs (stands_for s) (var r) (var v) name (of_var n r lr) (of_var n v lv)
      (own_type (kept_by s) (issued_of s) w) (own_row (kept_by s) (issued_of s) w) (types_below (kept_by s) (issued_of s) w) (rows_below (kept_by s) (issued_of s) w)
      h.solved apart (cut l u) (cut_fits n l u)
      (meet_append (cut l u) rs (asks ∷ []) (cut_solves l u rs f.sorted (meet_left u rs (asks ∷ []) m)) (cut_meets l u asks (tt, tt) (meet_right u rs (asks ∷ []) m).0, tt))

  refused : (a b x y : Term) → Apart (issued_of s + 1) wide (stands_for s) (var r) open_record → Sorted wide a → Sorted wide b
      → Unmade (issued_of s + 1) wide (kept_by s) a b x y → Refuses n rs asks (kept_by s) a b x y
  refused a b x y apart sa sb unmade = record {
    principal = most_general n (issued_of s) l h.fronts rs (stands_for s) f.sorted h.solved;
    none = none_has apart;
    issued = issued_of s + 1;
    more = (let more = h.solved.more in omega (arith, more));
    is_issued = ((keeps_issued s).0, AllWithin-more (issued_of s) (kept_by s) w);
    fronts = wide;
    sorted = (kept_sorted, (sa, sb));
    unmade = unmade;
  }

  -- the record first, as a choice has it
  record_first : (t : Subst) (z : Result (Unit {0}) UnifyFault) → issued_of s + 1 ≤ issued_of t
      → OnOk z (IsMade (issued_of s + 1) (issued_of t) (kept_by s) (kept_by t) (var r) open_record)
      → MatchResult z (λ q. Unit {0}) (λ e. IsRefused e (issued_of s + 1) (kept_by s) (var r) open_record)
      → IsMet n l rs asks (kept_by s) (var r) open_record t z
  record_first t (Ok q) le made why =
      let m = made wide kept_sorted tt (field_sorted h.fronts (issued_of s) v name) in field_solved t m.fronts le m.same m.sorted m.unified
  record_first t (Err (Clash x y)) le made why =
      let u = why wide kept_sorted tt (field_sorted h.fronts (issued_of s) v name) in
      refused (var r) open_record (mean x) (mean y) u.apart tt (field_sorted h.fronts (issued_of s) v name) u
  record_first t (Err (Memory e)) le made why = tt

  -- the field first, as a row of the table has it
  field_first : (t : Subst) (z : Result (Unit {0}) UnifyFault) → issued_of s + 1 ≤ issued_of t
      → OnOk z (IsMade (issued_of s + 1) (issued_of t) (kept_by s) (kept_by t) open_record (var r))
      → MatchResult z (λ q. Unit {0}) (λ e. IsRefused e (issued_of s + 1) (kept_by s) open_record (var r))
      → IsMet n l rs asks (kept_by s) open_record (var r) t z
  field_first t (Ok q) le made why =
      let m = made wide kept_sorted (field_sorted h.fronts (issued_of s) v name) tt in
      field_solved t m.fronts le m.same m.sorted (swapped (issued_of s + 1) (issued_of t) wide m.fronts (stands_for s) (stands_for t) open_record (var r) m.unified)
  field_first t (Err (Clash x y)) le made why =
      let u = why wide kept_sorted (field_sorted h.fronts (issued_of s) v name) tt in
      refused open_record (var r) (mean x) (mean y) (λ p q i e. u.apart p q i (sym e)) (field_sorted h.fronts (issued_of s) v name) tt u
  field_first t (Err (Memory e)) le made why = tt

  Told : Subst → Result (Unit {0}) UnifyFault → ℕ → List Binding → Term → Term → Type 0
  Told t z m bs a b = OnOk z (IsMade m (issued_of t) bs (kept_by t) a b) × MatchResult z (λ q. Unit {0}) (λ e. IsRefused e m bs a b)

  only_refused : (u t : Subst) (z : Result (Unit {0}) UnifyFault) (a b : Term)
      → MatchResult z (λ q. Unit {0}) (λ e. (issued_of t ≡ issued_of u) × (kept_by t ≡ kept_by u) × IsRefused e (issued_of u) (kept_by u) a b)
      → MatchResult z (λ q. Unit {0}) (λ e. IsRefused e (issued_of u) (kept_by u) a b)
  only_refused u t (Ok q) a b why = tt
  only_refused u t (Err e) a b why = why.2

  told_so : (u t : Subst) (z : Result (Unit {0}) UnifyFault) (a b x y : Term) → issued_of u ≡ issued_of s + 1 → kept_by u ≡ kept_by s → a ≡ x → b ≡ y
      → OnOk z (IsMade (issued_of u) (issued_of t) (kept_by u) (kept_by t) a b)
      → MatchResult z (λ q. Unit {0}) (λ e. (issued_of t ≡ issued_of u) × (kept_by t ≡ kept_by u) × IsRefused e (issued_of u) (kept_by u) a b)
      → Told t z (issued_of s + 1) (kept_by s) x y
  unfolding Told
  told_so u t z a b x y e k p q made why =
      let M : ℕ → Type 0 = λ m. Told t z m (kept_by u) a b in
      let B : List Binding → Type 0 = λ bs. Told t z (issued_of s + 1) bs a b in
      let X : Term → Type 0 = λ w. Told t z (issued_of s + 1) (kept_by s) w b in
      let Y : Term → Type 0 = λ w. Told t z (issued_of s + 1) (kept_by s) x w in
      subst Y q (subst X p (subst B k (subst M e (made, only_refused u t z a b why))))

  pub record_told : (u t : Subst) (z : Result (Unit {0}) UnifyFault) (a b : Term) → issued_of u ≡ issued_of s + 1 → kept_by u ≡ kept_by s
      → a ≡ var r → b ≡ open_record → issued_of u ≤ issued_of t
      → OnOk z (IsMade (issued_of u) (issued_of t) (kept_by u) (kept_by t) a b)
      → MatchResult z (λ q. Unit {0}) (λ e. (issued_of t ≡ issued_of u) × (kept_by t ≡ kept_by u) × IsRefused e (issued_of u) (kept_by u) a b)
      → IsMet n l rs asks (kept_by s) (var r) open_record t z
  unfolding Told
  record_told u t z a b e k p q le made why =
      let g = told_so u t z a b (var r) open_record e k p q made why in record_first t z (omega (arith, le, e)) g.0 g.1

  pub field_told : (u t : Subst) (z : Result (Unit {0}) UnifyFault) (a b : Term) → issued_of u ≡ issued_of s + 1 → kept_by u ≡ kept_by s
      → a ≡ open_record → b ≡ var r → issued_of u ≤ issued_of t
      → OnOk z (IsMade (issued_of u) (issued_of t) (kept_by u) (kept_by t) a b)
      → MatchResult z (λ q. Unit {0}) (λ e. (issued_of t ≡ issued_of u) × (kept_by t ≡ kept_by u) × IsRefused e (issued_of u) (kept_by u) a b)
      → IsMet n l rs asks (kept_by s) open_record (var r) t z
  unfolding Told
  field_told u t z a b e k p q le made why =
      let g = told_so u t z a b open_record (var r) e k p q made why in field_first t z (omega (arith, le, e)) g.0 g.1

-- ---- the record that is made

pub open_means : (fs : List (List ℕ × Ty)) (x name : List ℕ) (v row m : ℕ) → fs ≡ (x, Var v) ∷ [] → x ≡ name → row ≡ m → mean (Rec fs (Some row)) ≡ with_field name (var v) m
open_means fs x name v row m e f g =
    ap (λ z. mean (Rec z (Some row))) e ∙ mean-Rec ((x, Var v) ∷ []) (Some row)
    ∙ ap (λ z. with_field x z row) (mean-Var v) ∙ ap (λ z. with_field z (var v) row) f ∙ ap (with_field name (var v)) g

pub open_differs : (fs : List (List ℕ × Ty)) (x : List ℕ) (v row : ℕ) → fs ≡ (x, Var v) ∷ [] → names_differ (Rec fs (Some row)) ≡ true
open_differs fs x v row e =
    ap (λ z. names_differ (Rec z (Some row))) e ∙ differ-Rec ((x, Var v) ∷ []) (Some row) ∙ ap (λ b. b && true) (differ-Var v)

pub variable_within : (n v : ℕ) → v < n → Within n (mean (Var v))
variable_within n v lt = let P : Term → Type 0 = λ z. Within n z in subst P (sym (mean-Var v)) (of_var n v lt)

pub var_within : (n m v : ℕ) → m ≡ n + 1 → v < n → Within m (mean (Var v))
var_within n m v e lt = variable_within m v (omega (arith, e, lt))
