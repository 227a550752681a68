-- An item of a tuple is asked for, as the tuple is under the substitution.
use Rattle.std.proofs.Common.{◌≡◌, ℕ, zero, suc, ◌<◌, ◌≤◌, inl, inr, List, [], ◌∷◌, ◌++◌, ap, sym, ◌∙◌, subst, arith}
use Rattle.std.specs.Prelude.{OnOk, MatchResult, Result, Ok, Err}
use Rattle.snowcat_rows.specs.declared.substitution.Subst.{Subst}
use Rattle.snowcat_rows.specs.declared.substitution.UnifyFault.{UnifyFault}
use Rattle.snowcat_rows.specs.declared.substitution.UnifyFault.TheVariants.{Clash, Memory}
use Rattle.snowcat_rows.specs.Types.{Term, TupHead, app, con, some, var}
use Rattle.snowcat_rows.specs.Substitutions.{Apart, Fronts, Sorted, Sub, apply}
use Rattle.snowcat_rows.specs.Chains.{Binding, Chain, sub_of}
use Rattle.snowcat_rows.specs.Sorting.{Within}
use Rattle.snowcat_rows.specs.Unifying.{IsMade, IsRefused}
use Rattle.snowcat_rows.specs.Views.{issued_of, kept_by, stands_for}
use Rattle.snowcat_rows.proofs.RowTheory.{apply_apply, chain_first, chain_solves, solved_is}
use Rattle.snowcat_rows.proofs.Solving.{within_solved}
use Rattle.snowcat_rows.proofs.Sorts.{Sorted-solved}
use Rattle.snowcat_types.specs.Requirements.{ItemOf, MeetAll, Requirement, item_at, item_of}
use Rattle.snowcat_types.specs.inner.Solved.{AreOf, IsMet, IsSolved}
use Rattle.snowcat_types.proofs.Choices.{meet_left, meet_right}
use Rattle.snowcat_types.proofs.FieldMet.{of_var}
use Rattle.snowcat_types.proofs.Issued.{keeps_issued}
use Rattle.snowcat_types.proofs.Joining.{item_kept, item_more, known_item, meets_agree}
use Rattle.snowcat_types.proofs.Running.{cut, cut_fits, cut_meets, cut_solves, most_general}

some_same : (a b : Term) → some a ≡ some b → a ≡ b
some_same a b e = cc

-- bindings in a chain leave a type as it is that they gave
pub settled : (bs : List Binding) (u : Term) → Chain bs → apply (sub_of bs) (apply (sub_of bs) u) ≡ apply (sub_of bs) u
settled bs u c = apply_apply (sub_of bs) (sub_of bs) u ∙ ap (λ s. apply s u) (chain_first (sub_of bs) bs (chain_solves bs c))

-- ---- an item of a tuple's row is a part of it

row_sorted : (k : Fronts) (t : Term) (i : ℕ) (a : Term) → item_of t i ≡ some a → Sorted k t → Sorted k a
row_sorted k (app x rest) (suc zero) a e h = let P : Term → Type 0 = λ z. Sorted k z in subst P (some_same x a e) h.0
row_sorted k (app x rest) (suc (suc i)) a e h = row_sorted k rest (suc i) a e h.1
row_sorted k t i a e h = absurd (cc)

item_sorted : (k : Fronts) (t : Term) (i : ℕ) (a : Term) → item_at t i ≡ some a → Sorted k t → Sorted k a
item_sorted k (app (con TupHead) r) i a e h = row_sorted k r i a e h.1
item_sorted k t i a e h = absurd (cc)

row_within : (n : ℕ) (t : Term) (i : ℕ) (a : Term) → item_of t i ≡ some a → Within n t → Within n a
row_within n (app x rest) (suc zero) a e w = let P : Term → Type 0 = λ z. Within n z in subst P (some_same x a e) (λ v o. w v (inl o))
row_within n (app x rest) (suc (suc i)) a e w = row_within n rest (suc i) a e (λ v o. w v (inr o))
row_within n t i a e w = absurd (cc)

pub item_within : (n : ℕ) (t : Term) (i : ℕ) (a : Term) → item_at t i ≡ some a → Within n t → Within n a
item_within n (app (con TupHead) r) i a e w = row_within n r i a e (λ v o. w v (inr o))
item_within n t i a e w = absurd (cc)

pub unknown_within : (s : Subst) (r : ℕ) → r < issued_of s → Within (issued_of s) (apply (stands_for s) (var r))
unknown_within s r lt =
    let P : Term → Type 0 = λ z. Within (issued_of s) z in
    subst P (solved_is (kept_by s) (var r)) (within_solved (issued_of s) (kept_by s) (var r) (keeps_issued s).1 (of_var (issued_of s) r lt))

module _ (n : ℕ) (l : Fronts) (rs : List Requirement) (s : Subst) (r v i : ℕ) (a : Term) (h : IsSolved n l rs s) (f : AreOf n l rs) (lr : r < n) (lv : v < n)
    (e : item_at (apply (stands_for s) (var r)) i ≡ some a) where
  abbrev asks : Requirement
  asks = ItemOf (var r) i (var v)

  own : apply (stands_for s) a ≡ a
  own = some_same _ _ (sym (item_kept (stands_for s) (apply (stands_for s) (var r)) i a e) ∙ ap (λ z. item_at z i) (settled (kept_by s) (var r) (keeps_issued s).0) ∙ e)

  below : r < issued_of s
  below = let more = h.solved.more in omega (arith, lr, more)

  within : Within (issued_of s) a
  within = item_within (issued_of s) (apply (stands_for s) (var r)) i a e (unknown_within s r below)

  sorted : Sorted h.fronts a
  sorted =
      let P : Term → Type 0 = λ z. Sorted h.fronts z in
      item_sorted h.fronts (apply (stands_for s) (var r)) i a e (subst P (solved_is (kept_by s) (var r)) (Sorted-solved h.fronts (kept_by s) (var r) h.sorted tt))

  none_has : Apart (issued_of s) h.fronts (stands_for s) a (var v) → (u : Sub) → MeetAll u (rs ++ asks ∷ []) → ⊥
  none_has apart u m =
      let c = cut l u in
      let to = h.solved.general c (cut_fits n l u) (cut_solves l u rs f.sorted (meet_left u rs (asks ∷ []) m)) in
      let q = meets_agree n c to.to asks to.agree (of_var n r lr, of_var n v lv) (cut_meets l u asks (tt, tt) (meet_right u rs (asks ∷ []) m).0) in
      let k = known_item (issued_of s) (stands_for s) (var r) a (of_var (issued_of s) r below) within own i e to.to to.extends in
      apart to.to to.fits to.extends (some_same _ _ (sym k ∙ q))

  item_told : (t : Subst) (z : Result (Unit {0}) UnifyFault) → issued_of s ≤ issued_of t
      → OnOk z (IsMade (issued_of s) (issued_of t) (kept_by s) (kept_by t) a (var v))
      → MatchResult z (λ q. Unit {0}) (λ w. (issued_of t ≡ issued_of s) × (kept_by t ≡ kept_by s) × IsRefused w (issued_of s) (kept_by s) a (var v))
      → IsMet n l rs asks (kept_by s) a (var v) t z
  item_told t (Ok q) le made why =
      let m = made h.fronts h.sorted sorted tt in
      record {
        fronts = m.fronts;
        same = λ u lt x. m.same u (let more = h.solved.more in omega (arith, lt, more)) x ∙ h.same u lt x;
        solved = item_more n (issued_of s) (issued_of t) l h.fronts m.fronts rs (stands_for s) (stands_for t) (var r) i a (var v) le f.inside (of_var n r lr) (of_var n v lv) within own e h.solved m.unified;
        sorted = m.sorted;
      }
  item_told t (Err (Clash x y)) le made why =
      let u = why.2 h.fronts h.sorted sorted tt in
      record {
        principal = most_general n (issued_of s) l h.fronts rs (stands_for s) f.sorted h.solved;
        none = none_has u.apart;
        issued = issued_of s;
        more = h.solved.more;
        is_issued = keeps_issued s;
        fronts = h.fronts;
        sorted = (h.sorted, (sorted, tt));
        unmade = u;
      }
  item_told t (Err (Memory w)) le made why = tt

  Told : Subst → Result (Unit {0}) UnifyFault → Term → Type 0
  Told t z b =
      OnOk z (IsMade (issued_of s) (issued_of t) (kept_by s) (kept_by t) a b)
      × MatchResult z (λ q. Unit {0}) (λ w. (issued_of t ≡ issued_of s) × (kept_by t ≡ kept_by s) × IsRefused w (issued_of s) (kept_by s) a b)

  pub item_met : (t : Subst) (z : Result (Unit {0}) UnifyFault) (b : Term) → b ≡ var v → issued_of s ≤ issued_of t
      → OnOk z (IsMade (issued_of s) (issued_of t) (kept_by s) (kept_by t) a b)
      → MatchResult z (λ q. Unit {0}) (λ w. (issued_of t ≡ issued_of s) × (kept_by t ≡ kept_by s) × IsRefused w (issued_of s) (kept_by s) a b)
      → IsMet n l rs asks (kept_by s) a (var v) t z
  unfolding Told
  item_met t z b p le made why =
      let P : Term → Type 0 = λ w. Told t z w in
      let g = subst P p (made, why) in item_told t z le g.0 g.1
