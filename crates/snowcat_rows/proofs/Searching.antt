-- The search of unification: its invariant, a round, its ends.
use Rattle.std.proofs.Common.{◌≡◌, ℕ, ◌<◌, ◌≤◌, List, [], ◌∷◌, ◌++◌, refl, ap, sym, ◌∙◌, subst, arith, append_assoc}
use Rattle.snowcat_rows.specs.Types.{Term, Beside}
use Rattle.snowcat_rows.specs.inner.Parts.{IsPart}
use Rattle.snowcat_rows.specs.Substitutions.{Sub, apply, Fronts, Fits, Sorted}
use Rattle.snowcat_rows.specs.Chains.{Variable, type_var, row_var, number, Binding, Chain, solved}
use Rattle.snowcat_rows.specs.Sorting.{Within, BindingWithin, AllWithin, AllSorted}
use Rattle.snowcat_rows.specs.inner.Rounds.{Differ, Advances, PutIn, Stuck}
use Rattle.snowcat_rows.specs.inner.Measures.{open_count, TypesBelow, BindingTypes, AllTypes}
use Rattle.snowcat_rows.specs.Codes.{Begins}
use Rattle.snowcat_rows.specs.Unifying.{Same, IsNeeded, Made, IsMade, Follow, given, and_then, Unmade}
use Rattle.snowcat_rows.proofs.Lookups.{solved_append}
use Rattle.snowcat_rows.proofs.Sorts.{Sorted-solved}
use Rattle.snowcat_rows.proofs.General.{Reached, sorted_agree, unified, apart}
use Rattle.snowcat_rows.proofs.Solving.{Clear, solved_clear, clear_sub, within_solved, occurs_is_part}
use Rattle.snowcat_rows.proofs.Counting.{types_solved}
use Rattle.snowcat_rows.proofs.Advancing.{Plain, Fewer, next_plain}
use Rattle.snowcat_rows.proofs.Rounding.{sorted_is_part, next, fronts_after, next_fronts, stuck_never}
use Rattle.snowcat_rows.proofs.Equalled.{beside_left, beside_right, Alone, alone, made_alone, needed_next}

-- n variables were issued with the bindings bs, and m are now with cs
pub record Searching (n m : ℕ) (bs cs : List Binding) (a b : Term) : Type 0 where
  pub plain : Plain n m cs
  pub more : n ≤ m
  pub needed : (v : ℕ) → n ≤ v → v < m → IsNeeded cs v
  pub follows : (l : Fronts) → AllSorted l bs → Sorted l a → Sorted l b → (k : Fronts) × (Reached n m l k bs cs a b × Follow n l bs a b m k cs)

binding_types : (n : ℕ) (b : Binding) → BindingWithin n b → BindingTypes n b
binding_types n b w = (λ v e. (let P : Variable → Type 0 = λ z. number z < n in subst P e w.0), λ v o. w.1 (type_var v) o)

all_types : (n : ℕ) (bs : List Binding) → AllWithin n bs → AllTypes n bs
all_types n [] w = tt
all_types n (b ∷ bs) w = (binding_types n b w.0, all_types n bs w.1)

append_none : {A : Type 0} (l : List A) → l ++ [] ≡ l
append_none [] = refl
append_none (a ∷ l) = ap (λ m. a ∷ m) (append_none l)

pub at_first : (n : ℕ) (bs : List Binding) (a b : Term) → Chain bs → AllWithin n bs → Searching n n bs bs a b
at_first n bs a b c w = record {
  plain = record { chain = c; within = w; types = all_types n bs w };
  more = omega arith;
  needed = λ v le lt. absurd (omega (arith, le, lt));
  follows = λ l h sa sb. (
    l,
    (
      record {
        chain = c;
        within = w;
        sorted = h;
        more = omega arith;
        fronts = λ v lt x. refl;
        added = ([], sym (append_none bs));
        kept = λ s fs k e. record { to = s; agree = record { types = λ v lt. refl; rows = λ v lt. refl }; fits = fs; solves = k };
      },
      given,
    ),
  );
}

within_more : (n m : ℕ) (a : Term) → n ≤ m → Within n a → Within m a
within_more n m a le w v o = let lt : number v < n = w v o in omega (arith, lt, le)

sorted_then : (n : ℕ) (l k : Fronts) (a : Term) → Within n a → Same n l k → Sorted l a → Sorted k a
sorted_then n l k a w e h = sorted_agree l k a (λ v o x. e v (w (row_var v) o) x) h

module _ (n m : ℕ) (bs cs : List Binding) (a b : Term) (h : Searching n m bs cs a b) (wa : Within n a) (wb : Within n b) where
  -- what is known of a part of what a type is now
  part_within : (x u : Term) → Within n u → IsPart x (solved cs u) → Within m x
  part_within x u w p v o = within_solved m cs u h.plain.within (within_more n m u h.more w) v (occurs_is_part v x (solved cs u) p o)

  part_types : (x u : Term) → Within n u → IsPart x (solved cs u) → TypesBelow n x
  part_types x u w p v o = types_solved n cs u h.plain.types (λ i q. w (type_var i) q) v (occurs_is_part (type_var v) x (solved cs u) p o)

  part_clear : (x u : Term) → IsPart x (solved cs u) → Clear cs x
  part_clear x u p = clear_sub cs (solved cs u) x (λ v o. occurs_is_part v x (solved cs u) p o) (solved_clear cs u h.plain.chain)

  part_sorted : (l k : Fronts) (x u : Term) → Reached n m l k bs cs a b → Within n u → Sorted l u → IsPart x (solved cs u) → Sorted k x
  part_sorted l k x u r w s p = sorted_is_part k x (solved cs u) p (Sorted-solved k cs u r.sorted (sorted_then n l k u w r.fronts s))

  -- the bindings of one more round follow too
  followed : (l k : Fronts) (p : ℕ) (ds : List Binding) (x y : Term) → Follow n l bs a b m k cs → Beside x y (solved cs a) (solved cs b) → (o : Alone x y m p cs ds) →
      (j : Fronts) → (i : Made m p k [] o.news x y) × (i.fronts ≡ j) → Follow n l bs a b p j ds
  followed l k p ds x y f e o j (i, q) =
      let t : Follow n l bs a b p i.fronts (cs ++ o.news) = and_then m p k cs o.news x y f e o.few i in
      let P : Fronts → Type 0 = λ v. Follow n l bs a b p v (cs ++ o.news) in
      let Q : List Binding → Type 0 = λ v. Follow n l bs a b p j v in
      subst Q (sym o.added) (subst P q t)

  pub further : (p : ℕ) (ds : List Binding) (x y : Term) → Differ (solved cs a) (solved cs b) x y → Advances x y m cs ds p →
      Searching n p bs ds a b × (open_count n p ds < open_count n m cs)
  further p ds x y d k =
      let left = beside_left x y (solved cs a) (solved cs b) d.beside in
      let right = beside_right x y (solved cs a) (solved cs b) d.beside in
      let wx = part_within x a wa left in
      let wy = part_within y b wb right in
      let tx = part_types x a wa left in
      let ty = part_types y b wb right in
      let cx = part_clear x a left in
      let cy = part_clear y b right in
      let f : Fewer n m p cs ds = next_plain n m p cs ds x y h.plain wx wy tx ty cx cy k in (
        record {
          plain = f.plain;
          more = omega (arith, h.more, f.more);
          needed = needed_next n m p x y cs ds k h.needed;
          follows = λ l q sa sb.
              let r = h.follows l q sa sb in
              let sx = part_sorted l r.0 x a r.1.0 wa sa left in
              let sy = part_sorted l r.0 y b r.1.0 wb sb right in
              let z = next n m l r.0 bs cs a b x y r.1.0 wa wb h.plain wx wy tx ty cx cy sx sy d.within p ds k in
              let i : z.fronts ≡ fronts_after r.0 m p x y cs ds k = next_fronts n m l r.0 bs cs a b x y r.1.0 wa wb h.plain wx wy tx ty cx cy sx sy d.within p ds k in
              let o = alone x y m p cs ds k in
              let t : Follow n l bs a b p (fronts_after r.0 m p x y cs ds k) ds =
              followed l r.0 p ds x y r.1.1 d.beside o (fronts_after r.0 m p x y cs ds k) (made_alone m p r.0 x y cs ds k wx wy sx sy d.unlike.at_once.records) in
              let P : Fronts → Type 0 = λ v. Follow n l bs a b p v ds in
              (z.fronts, (z.reached, subst P (sym i) t));
        },
        f.fewer,
      )

  pub made : Chain bs → solved cs a ≡ solved cs b → IsMade n m bs cs a b
  made c e l q sa sb =
      let r = h.follows l q sa sb in
      record {
        fronts = r.0;
        same = r.1.0.fronts;
        sorted = r.1.0.sorted;
        unified = unified n m l r.0 bs cs a b r.1.0 c wa wb e;
        needed = h.needed;
      }

  pub unmade : Chain bs → (x y : Term) → Differ (solved cs a) (solved cs b) x y → Stuck x y m → (l : Fronts) → AllSorted l bs → Sorted l a → Sorted l b → Unmade n l bs a b x y
  unmade c x y d k l q sa sb =
      let r = h.follows l q sa sb in
      let left = beside_left x y (solved cs a) (solved cs b) d.beside in
      let right = beside_right x y (solved cs a) (solved cs b) d.beside in
      let no_one : (s : Sub) → Fits m r.0 s → apply s x ≡ apply s y → ⊥ =
      stuck_never m r.0 x y (part_sorted l r.0 x a r.1.0 wa sa left) (part_sorted l r.0 y b r.1.0 wb sb right) (part_within x a wa left) (part_within y b wb right) k in
      record {
        apart = apart n m l r.0 bs cs a b r.1.0 c wa wb x y (λ s fs e. d.within s e) no_one;
        issued = m;
        fronts = r.0;
        reached = cs;
        follow = r.1.1;
        beside = d.beside;
        at_once = d.unlike.at_once;
        never = no_one;
      }

pub begins_more : {A : Type 0} (xs ys zs : List A) → Begins xs ys → Begins ys zs → Begins xs zs
begins_more xs ys zs h k = (h.0 ++ k.0, k.1 ∙ ap (λ l. l ++ k.0) h.1 ∙ append_assoc xs h.0 k.0)

pub made_at : (n m p : ℕ) (bs cs ds : List Binding) (a b : Term) → ds ≡ cs → p ≡ m → IsMade n m bs cs a b → IsMade n p bs ds a b
made_at n m p bs cs ds a b e q h =
    let P : List Binding → Type 0 = λ z. IsMade n m bs z a b in
    let Q : ℕ → Type 0 = λ z. IsMade n z bs ds a b in
    subst Q (sym q) (subst P (sym e) h)

-- ---- the types that go through the rounds are what a and b are under the bindings so far

pub differ_at : (a b u v x y : Term) → u ≡ a → v ≡ b → Differ u v x y → Differ a b x y
differ_at a b u v x y e h d =
    let P : Term → Type 0 = λ z. Differ z v x y in
    let Q : Term → Type 0 = λ z. Differ a z x y in
    subst Q h (subst P e d)

put_is : (cs ds ns : List Binding) (a u l : Term) → ds ≡ cs ++ ns → l ≡ solved ns u → u ≡ solved cs a → l ≡ solved ds a
put_is cs ds ns a u l e h k = h ∙ ap (solved ns) k ∙ sym (solved_append cs ns a) ∙ ap (λ z. solved z a) (sym e)

pub record Further (n p m : ℕ) (bs cs ds : List Binding) (a b l r : Term) : Type 0 where
  pub searching : Searching n p bs ds a b
  pub fewer : open_count n p ds < open_count n m cs
  pub left : l ≡ solved ds a
  pub right : r ≡ solved ds b

pub round : (n m : ℕ) (bs cs : List Binding) (a b : Term) → Searching n m bs cs a b → Within n a → Within n b → (u v : Term) → u ≡ solved cs a → v ≡ solved cs b →
    (p : ℕ) (ds : List Binding) (l r : Term) → (x : Term) × (y : Term) × Differ u v x y × Advances x y m cs ds p × PutIn cs ds u v l r → Further n p m bs cs ds a b l r
round n m bs cs a b h wa wb u v eu ev p ds l r (x, y, d, k, q) =
    let f = further n m bs cs a b h wa wb p ds x y (differ_at (solved cs a) (solved cs b) u v x y eu ev d) k in
    record {
      searching = f.0;
      fewer = f.1;
      left = put_is cs ds q.news a u l q.added q.left eu;
      right = put_is cs ds q.news b v r q.added q.right ev;
    }
