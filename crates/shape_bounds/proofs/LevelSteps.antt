-- Levels one behind another, up to the first that is refused.
use Rattle.std.proofs.Common.{◌≡◌, ℕ, zero, suc, ◌+◌, ◌-◌, ◌≤◌, ◌<◌, min, Bool, true, false, IsTrue, List, [], ◌∷◌, ◌++◌, map, Option, Some, None, option_map, Ok, Err, refl, sym, ◌∙◌, ap, ap₂, subst, arith}
use Rattle.kernel_shapes.specs.Codes.{mean}
use Rattle.kernel_shapes.specs.declared.bounds.Shape.{Shape as Code}
use Rattle.kernel_shapes.specs.declared.bounds.Shapes.{Shapes}
use Rattle.kernel_shapes.specs.Counts.{Count, most_printed, refusal, refused_at}
use Rattle.kernel_shapes.specs.Levels.{Parts, first_refusal, level_numbers, shapes_at, step_numbers_at}
use Rattle.kernel_shapes.specs.Shape.{Shape, shapes}
use Rattle.shape_bounds.specs.declared.levels.Level.{Level}
use Rattle.shape_bounds.specs.declared.limits.Excess.{Excess}
use Rattle.shape_bounds.specs.declared.shape_fault.ShapeFault.{ShapeFault}
use Rattle.shape_bounds.specs.declared.shape_fault.ShapeFault.TheVariants as fault
use Rattle.shape_bounds.specs.Excesses.{rank_of}
use Rattle.shape_bounds.specs.inner.Climbing.{IsAt, IsStill, told_at}
use Rattle.shape_bounds.specs.inner.Stage.{IsFirst, IsFirstAt, IsOf, StepsTo}
use Rattle.shape_bounds.specs.Kept.{capped}
use Rattle.shape_bounds.specs.Stages.{IsAnswer, levels_from, told}
use Rattle.shape_bounds.specs.inner.Equality.{same_items}
use Rattle.shape_bounds.proofs.Ending.{mapped_end}
use Rattle.shape_bounds.proofs.SameShapes.{same_shapes}

-- ---- what is told of an excess

number_told : (n : ℕ) → min n most_printed ≡ most_printed - (most_printed - min most_printed n)
number_told n = omega arith

pub large_told : (n m : ℕ) (e : Excess) → m ≡ min e.number most_printed → e.of_sequence ≡ false → told (fault.TooLarge n e.place m) ≡ Some (n, refused_at (rank_of e))
large_told n m e h b =
    ap₂ (λ (i : ℕ) (t : Bool). Some (n, record { place = e.place; of_sequence = t; number = i })) (h ∙ number_told e.number) refl
    ∙ ap (λ (t : Bool). Some (n, refused_at (rank_of (record { place = e.place; of_sequence = t; number = e.number })))) (sym b)

pub long_told : (n m : ℕ) (e : Excess) → m ≡ min e.number most_printed → e.of_sequence ≡ true → told (fault.TooLong n e.place m) ≡ Some (n, refused_at (rank_of e))
long_told n m e h b =
    ap₂ (λ (i : ℕ) (t : Bool). Some (n, record { place = e.place; of_sequence = t; number = i })) (h ∙ number_told e.number) refl
    ∙ ap (λ (t : Bool). Some (n, refused_at (rank_of (record { place = e.place; of_sequence = t; number = e.number })))) (sym b)

-- ---- the refusal of a level

refusal_of : (o : Option Excess) (cs : List Count) → IsFirst o cs → option_map refused_at (option_map rank_of o) ≡ refusal cs
refusal_of o cs h = ap (option_map refused_at) h

same_some : {X : Type 0} (x y : X) → Some x ≡ Some y → x ≡ y
same_some x y e = cc

none_some : {X : Type 0} (x : X) → None ≡ Some x → ⊥
none_some x e = absurd (cc)

-- a level that is not refused
passes : (p : Parts) (cs : List Count) (as' : List Shape) (n m : ℕ) → refusal (level_numbers p cs as' n) ≡ None →
    first_refusal p cs as' n (suc m) ≡ first_refusal p cs as' (suc n) m
passes p cs as' n m e = ap (λ (o : Option Count). elim o [ Some c ↦ Some (n, c) | None ↦ first_refusal p cs as' (suc n) m ]) e

-- one that is
stops : (p : Parts) (cs : List Count) (as' : List Shape) (n m : ℕ) (c : Count) → refusal (level_numbers p cs as' n) ≡ Some c →
    first_refusal p cs as' n (suc m) ≡ Some (n, c)
stops p cs as' n m c e = ap (λ (o : Option Count). elim o [ Some d ↦ Some (n, d) | None ↦ first_refusal p cs as' (suc n) m ]) e

no_fault : (n : ℕ) (o : Option Excess) (r : Option ShapeFault) (cs : List Count) → option_map told r ≡ told_at n o → r ≡ None → IsFirst o cs → refusal cs ≡ None
no_fault n None r cs h e f = sym (refusal_of None cs f)
no_fault n (Some x) r cs h e f = absurd (none_some _ (ap (option_map told) (sym e) ∙ h))

a_fault : (n : ℕ) (o : Option Excess) (r : Option ShapeFault) (t : ShapeFault) (cs : List Count) → option_map told r ≡ told_at n o → r ≡ Some t → IsFirst o cs →
    option_map (λ (c : Count). (n, c)) (refusal cs) ≡ told t
a_fault n None r t cs h e f = absurd (none_some _ (sym h ∙ ap (option_map told) e))
a_fault n (Some x) r t cs h e f =
    ap (option_map (λ (c : Count). (n, c))) (sym (refusal_of (Some x) cs f)) ∙ same_some _ _ (sym h ∙ ap (option_map told) e)

stops_told : (p : Parts) (cs : List Count) (as' : List Shape) (n m : ℕ) (x : ℕ × Count) (o : Option Count) → refusal (level_numbers p cs as' n) ≡ o →
    option_map (λ (c : Count). (n, c)) o ≡ Some x → first_refusal p cs as' n (suc m) ≡ Some x
stops_told p cs as' n m x None e h = absurd (none_some x h)
stops_told p cs as' n m x (Some c) e h = stops p cs as' n m c e ∙ h

refused_answer : (p : Parts) (cs : List Count) (as' : List Shape) (n k m : ℕ) (t : ShapeFault) → suc k ≡ n + suc m →
    ((i : ℕ) → first_refusal p cs as' 0 (n + i) ≡ first_refusal p cs as' n i) →
    option_map (λ (c : Count). (n, c)) (refusal (level_numbers p cs as' n)) ≡ told t → IsAnswer p cs as' k (Err t)
refused_answer p cs as' n k m (fault.Memory e) s before h = tt
refused_answer p cs as' n k m (fault.TooLarge l q i) s before h =
    ap (first_refusal p cs as' 0) s ∙ before (suc m) ∙ stops_told p cs as' n m _ (refusal (level_numbers p cs as' n)) refl h
refused_answer p cs as' n k m (fault.TooLong l q i) s before h =
    ap (first_refusal p cs as' 0) s ∙ before (suc m) ∙ stops_told p cs as' n m _ (refusal (level_numbers p cs as' n)) refl h

pub at_refused : (p : Parts) (cs : List Count) (as' : List Shape) (n k : ℕ) (rss : List (List Code)) (r : Level) (o : Option Excess) (u : Option ShapeFault) (t : ShapeFault) → n ≤ k →
    IsAt p cs as' n rss r → IsFirstAt p r o → option_map told u ≡ told_at n o → u ≡ Some t → IsAnswer p cs as' k (Err t)
at_refused p cs as' n k rss r o u t l h f d e =
    let s : suc k ≡ n + suc (k - n) = omega (arith, l) in
    refused_answer p cs as' n k (k - n) t s h.before (a_fault n o u t (level_numbers p cs as' n) d e (f (shapes_at p as' n) (step_numbers_at p cs as' n) h.now))

-- the last level is refused
pub at_stopped : (p : Parts) (cs : List Count) (as' : List Shape) (n k : ℕ) (rss : List (List Code)) (r : Level) (o : Option Excess) (u : Option ShapeFault) (t : ShapeFault) → n ≡ k →
    IsAt p cs as' n rss r → IsFirstAt p r o → option_map told u ≡ told_at k o → u ≡ Some t → IsAnswer p cs as' k (Err t)
at_stopped p cs as' n k rss r o u t l h f d e =
    at_refused p cs as' k k rss r o u t (omega arith) (subst (λ (j : ℕ). IsAt p cs as' j rss r) l h) f d e

-- ---- one level more

pub at_first : (p : Parts) (cs : List Count) (as' : List Shape) (r : Level) → IsOf r as' cs → IsAt p cs as' 0 [] r
at_first p cs as' r h = record {
  levels = refl;
  now = h;
  before = λ m. let e : 0 + m ≡ m = omega arith in ap (first_refusal p cs as' 0) e;
}

levels_end : (p : Parts) (as' : List Shape) (i n : ℕ) → levels_from p as' i n ++ shapes_at p as' (i + n) ∷ [] ≡ levels_from p as' i (suc n)
levels_end p as' i zero = let e : i + 0 ≡ i = omega arith in ap (λ (j : ℕ). shapes_at p as' j ∷ []) e
levels_end p as' i (suc n) =
    let e : i + suc n ≡ suc i + n = omega arith in
    ap (λ (j : ℕ). shapes_at p as' i ∷ (levels_from p as' (suc i) n ++ shapes_at p as' j ∷ [])) e
    ∙ ap (λ (ass : List (List Shape)). shapes_at p as' i ∷ ass) (levels_end p as' (suc i) n)

levels_more : (p : Parts) (as' : List Shape) (n : ℕ) → levels_from p as' 0 n ++ shapes_at p as' n ∷ [] ≡ levels_from p as' 0 (suc n)
levels_more p as' n = let e : n ≡ 0 + n = omega arith in ap (λ (j : ℕ). levels_from p as' 0 n ++ shapes_at p as' j ∷ []) e ∙ levels_end p as' 0 n

made_more : (p : Parts) (cs : List Count) (as' : List Shape) (n : ℕ) (rss new : List (List Code)) (r : Level) → IsAt p cs as' n rss r → new ≡ rss ++ r.shapes ∷ [] →
    map (map mean) new ≡ map (map capped) (levels_from p as' 0 (suc n))
made_more p cs as' n rss new r h e =
    ap (map (map mean)) e ∙ mapped_end (map mean) rss r.shapes
    ∙ ap₂ (λ (ass : List (List Shape)) (bs : List Shape). ass ++ bs ∷ []) h.levels (sym h.now.shapes)
    ∙ sym (mapped_end (map capped) (levels_from p as' 0 n) (shapes_at p as' n)) ∙ ap (map (map capped)) (levels_more p as' n)

-- one level more, when the level is not refused
pub at_more : (p : Parts) (cs : List Count) (as' : List Shape) (n : ℕ) (rss new : List (List Code)) (r q : Level) (o : Option Excess) (u : Option ShapeFault) →
    IsAt p cs as' n rss r → IsFirstAt p r o → option_map told u ≡ told_at n o → u ≡ None → IsOf q (shapes_at p as' (suc n)) (step_numbers_at p cs as' (suc n)) →
    new ≡ rss ++ r.shapes ∷ [] → IsAt p cs as' (n + 1) new q
at_more p cs as' n rss new r q o u h f d e c m =
    let one : suc n ≡ n + 1 = omega arith in
    subst (λ (i : ℕ). IsAt p cs as' i new q) one
    (record {
      levels = made_more p cs as' n rss new r h m;
      now = c;
      before = λ i.
          let up : suc n + i ≡ n + suc i = omega arith in
          ap (first_refusal p cs as' 0) up ∙ h.before (suc i)
          ∙ passes p cs as' n i (no_fault n o u (level_numbers p cs as' n) d e (f (shapes_at p as' n) (step_numbers_at p cs as' n) h.now));
    })

pub at_next : (p : Parts) (cs : List Count) (as' : List Shape) (n : ℕ) (rss new : List (List Code)) (ss : List Code) (r q : Level) (o : Option Excess) (u : Option ShapeFault) →
    IsAt p cs as' n rss r → IsFirstAt p r o → option_map told u ≡ told_at n o → u ≡ None → ss ≡ r.shapes → StepsTo p ss q → new ≡ rss ++ r.shapes ∷ [] →
    IsAt p cs as' (n + 1) new q
at_next p cs as' n rss new ss r q o u h f d e c s m =
    at_more p cs as' n rss new r q o u h f d e (s (shapes_at p as' n) (h.now.shapes ∙ ap (map mean) (sym c))) m

pub at_last : (p : Parts) (cs : List Count) (as' : List Shape) (n k : ℕ) (rss new : List (List Code)) (r : Level) (a : Shapes) (o : Option Excess) (u : Option ShapeFault) → n ≡ k →
    IsAt p cs as' n rss r → IsFirstAt p r o → option_map told u ≡ told_at k o → u ≡ None → new ≡ rss ++ r.shapes ∷ [] → a.levels ≡ new → IsAnswer p cs as' k (Ok a)
at_last p cs as' n k rss new r a o u l h f d e m z =
    let i : IsAt p cs as' k rss r = subst (λ (j : ℕ). IsAt p cs as' j rss r) l h in
    let s : suc k ≡ k + 1 = omega arith in (
      ap (first_refusal p cs as' 0) s ∙ i.before 1
          ∙ passes p cs as' k 0 (no_fault k o u (level_numbers p cs as' k) d e (f (shapes_at p as' k) (step_numbers_at p cs as' k) i.now)),
      ap (map (map mean)) z ∙ made_more p cs as' k rss new r i m,
    )

-- ---- a level with the shapes of the one before it

-- what steps from shapes that it has itself is at every level
still_at : (p : Parts) (cs : List Count) (as' : List Shape) (ss : List Code) (q : Level) (n m : ℕ) → StepsTo p ss q → map mean q.shapes ≡ map mean ss →
    IsOf q (shapes_at p as' n) (step_numbers_at p cs as' n) → IsOf q (shapes_at p as' (n + m)) (step_numbers_at p cs as' (n + m))
still_at p cs as' ss q n zero s e h =
    let i : n ≡ n + 0 = omega arith in
    subst (λ (j : ℕ). IsOf q (shapes_at p as' j) (step_numbers_at p cs as' j)) i h
still_at p cs as' ss q n (suc m) s e h =
    let i : suc (n + m) ≡ n + suc m = omega arith in
    subst (λ (j : ℕ). IsOf q (shapes_at p as' j) (step_numbers_at p cs as' j)) i
    (s (shapes_at p as' (n + m)) ((still_at p cs as' ss q n m s e h).shapes ∙ e))

pub still_behind : (p : Parts) (cs : List Count) (as' : List Shape) (k n : ℕ) (rss : List (List Code)) (ss : List Code) (q : Level) (us vs : List Code) (t : Bool) →
    StepsTo p ss q → us ≡ q.shapes → vs ≡ ss → t ≡ same_items (shapes (map mean us)) (shapes (map mean vs)) → t ≡ true → IsAt p cs as' n rss q → IsStill p cs as' n k q
still_behind p cs as' k n rss ss q us vs t s e f g h at = λ m l.
    let same : map mean us ≡ map mean vs = same_shapes (map mean us) (map mean vs) (sym g ∙ h) in
    still_at p cs as' ss q n m s (ap (map mean) (sym e) ∙ same ∙ ap (map mean) f) at.now

-- the last level
pub last_still : (p : Parts) (cs : List Count) (as' : List Shape) (k : ℕ) (rss : List (List Code)) (r : Level) → IsAt p cs as' k rss r → IsStill p cs as' k k r
last_still p cs as' k rss r h = λ m l.
    let i : k ≡ k + m = omega (arith, l) in
    subst (λ (j : ℕ). IsOf r (shapes_at p as' j) (step_numbers_at p cs as' j)) i h.now

-- ---- from such a level to the last

none_at : (n m : ℕ) (o : Option Excess) (u : Option ShapeFault) → option_map told u ≡ told_at n o → u ≡ None → option_map told u ≡ told_at m o
none_at n m None u h e = h
none_at n m (Some x) u h e = absurd (none_some _ (ap (option_map told) (sym e) ∙ h))

pub at_filled : (p : Parts) (cs : List Count) (as' : List Shape) (i n k : ℕ) (rss new : List (List Code)) (ss : List Code) (r : Level) (o : Option Excess) (u : Option ShapeFault) →
    i ≤ n → n < k → IsStill p cs as' i k r → IsAt p cs as' n rss r → IsFirstAt p r o → option_map told u ≡ told_at i o → u ≡ None → ss ≡ r.shapes →
    new ≡ rss ++ ss ∷ [] → IsAt p cs as' (n + 1) new r
at_filled p cs as' i n k rss new ss r o u le lt t h f d e c m =
    let up : i + (suc n - i) ≡ suc n = omega (arith, le) in
    let below : i + (suc n - i) ≤ k = omega (arith, le, lt) in
    at_more p cs as' n rss new r r o u h f (none_at i n o u d e) e
    (subst (λ (j : ℕ). IsOf r (shapes_at p as' j) (step_numbers_at p cs as' j)) up (t (suc n - i) below))
    (m ∙ ap (λ (us : List Code). rss ++ us ∷ []) c)

pub at_end : (p : Parts) (cs : List Count) (as' : List Shape) (i n k : ℕ) (rss new : List (List Code)) (r : Level) (a : Shapes) (o : Option Excess) (u : Option ShapeFault) →
    n ≡ k → IsAt p cs as' n rss r → IsFirstAt p r o → option_map told u ≡ told_at i o → u ≡ None → new ≡ rss ++ r.shapes ∷ [] → a.levels ≡ new →
    IsAnswer p cs as' k (Ok a)
at_end p cs as' i n k rss new r a o u l h f d e m z = at_last p cs as' n k rss new r a o u l h f (none_at i k o u d e) e m z
