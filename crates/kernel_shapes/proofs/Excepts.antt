-- EXCEPT: each update to the result so far.
use Rattle.std.proofs.Common.{◌≡◌, ℕ, suc, Bool, ◌&&◌, IsTrue, List, [], ◌∷◌, ◌++◌, take, drop, refl, ◌∙◌, ap}
use Rattle.tla_values.specs.declared.value.Value.{Value, out-Value}
use Rattle.tla_meaning.specs.declared.place.Place.{Place}
use Rattle.tla_meaning.specs.declared.job.State.{State}
use Rattle.tla_meaning.specs.declared.outcome.Fault.{Fault}
use Rattle.tla_meaning.specs.declared.outcome.Fault.TheVariants.{NoFault, IsWrong, IsBig}
use Rattle.tla_meaning.specs.declared.outcome.Outcome.{Outcome}
use Rattle.tla_meaning.specs.declared.outcome.Outcome.TheVariants.{Val, Wrong, Big}
use Rattle.tla_meaning.specs.Outcomes.{join_faults, joined, values, fault_or, with_value, fault_of}
use Rattle.tla_meaning.specs.Scopes.{Denotation}
use Rattle.tla_meaning.specs.Meaning.{outcomes, child, Reached, At, Outside, NoFunction, at_path, set_path, Update, updated, updates, all_indexes, first_updated, except}
use Rattle.tla_meaning.proofs.Views.{and_left, and_right}
use Rattle.kernel_shapes.specs.Shape.{Shape, alike}
use Rattle.kernel_shapes.specs.Rows.{Literal, shape_at, joined_at}
use Rattle.kernel_shapes.specs.Sized.{Sized, child_at, all_sound, literals_of, path_readable, excepted, excepted_sound}
use Rattle.kernel_shapes.specs.Fits.{Fits, FitAll}
use Rattle.kernel_shapes.proofs.FitLemmas.{IfVal, with_fits}
use Rattle.kernel_shapes.proofs.Combine.{Meets, KidsFit, MeetAll, kid_fits, take_fits, drop_fits}
use Rattle.kernel_shapes.proofs.Updates.{IfReached, LiteralsAre, joined_more, put_fits, reached_fits}

-- ---- operands without a fault

both_calm : (f g : Fault) → join_faults f g ≡ NoFault → (f ≡ NoFault) × (g ≡ NoFault)
both_calm NoFault g e = (refl, e)
both_calm (IsWrong p) NoFault e = absurd cc
both_calm (IsWrong p) (IsWrong q) e = absurd cc
both_calm (IsWrong p) (IsBig q) e = absurd cc
both_calm (IsBig p) NoFault e = absurd cc
both_calm (IsBig p) (IsWrong q) e = absurd cc
both_calm (IsBig p) (IsBig q) e = absurd cc

calm_split : (s t : State) (ms ns : List Denotation) → joined (outcomes (ms ++ ns) s t) ≡ NoFault → (joined (outcomes ms s t) ≡ NoFault) × (joined (outcomes ns s t) ≡ NoFault)
calm_split s t [] ns e = (refl, e)
calm_split s t (m ∷ ms) ns e =
    let b = both_calm (fault_of (m.value s t)) (joined (outcomes (ms ++ ns) s t)) e in
    let r = calm_split s t ms ns b.1 in
    (ap (λ (f : Fault). join_faults f (joined (outcomes ms s t))) b.0 ∙ r.0, r.1)

values_meet : (s t : State) (ms : List Denotation) (as' : List Sized) → KidsFit s t ms as' → IsTrue (all_sound as') → joined (outcomes ms s t) ≡ NoFault → MeetAll as' (values (outcomes ms s t))
values_meet s t [] [] h e g = tt
values_meet s t [] (a ∷ as') h e g = absurd h
values_meet s t (m ∷ ms) [] h e g = absurd h
values_meet s t (m ∷ ms) (a ∷ as') h e g =
    by (m.value s t) (h.0 (and_left a.sound (all_sound as') e)) g (λ k. values_meet s t ms as' h.1 (and_right a.sound (all_sound as') e) k)
  where
    by : (o : Outcome) → IfVal (Meets a) o → joined (o ∷ outcomes ms s t) ≡ NoFault → (joined (outcomes ms s t) ≡ NoFault → MeetAll as' (values (outcomes ms s t))) →
        MeetAll (a ∷ as') (values (o ∷ outcomes ms s t))
    by (Val v) k l r = (k, r l)
    by (Wrong p) k l r = absurd (wrong (joined (outcomes ms s t)) l)
      where
        wrong : (f : Fault) → join_faults (IsWrong p) f ≡ NoFault → ⊥
        wrong f e = let b = (both_calm (IsWrong p) f e).0 in cc
    by (Big p) k l r = absurd (big (joined (outcomes ms s t)) l)
      where
        big : (f : Fault) → join_faults (IsBig p) f ≡ NoFault → ⊥
        big f e = let b = (both_calm (IsBig p) f e).0 in cc

literals_are : (as' : List Sized) (vs : List Value) → MeetAll as' vs → LiteralsAre (literals_of as') vs
literals_are [] [] h = tt
literals_are (a ∷ as') (v ∷ vs) h = (h.0.1, literals_are as' vs h.1)
literals_are [] (v ∷ vs) h = absurd h
literals_are (a ∷ as') [] h = absurd h

-- ---- the updates

updates_fit : (s t : State) (p : Place) (ns : List ℕ) (ks : List Denotation) (as' : List Sized) (under : List Value → List Denotation) (below : List Shape → List Sized) (a : Shape) (f : Value) →
    KidsFit s t ks as' → ((vs : List Value) (bs : List Shape) → FitAll bs vs → KidsFit s t (under vs) (below bs)) → joined (outcomes (all_indexes ns ks) s t) ≡ NoFault →
    IsTrue (excepted_sound ns as' below a) → Fits a f → IfVal (Fits (excepted ns as' below a)) (updated p (updates p ns ks under s t) f)
updates_fit s t p [] ks as' under below a f h k e g m = m
updates_fit s t p (n ∷ ns) ks as' under below a f h k e g m =
    let path : List Literal = literals_of (take n as') in
    let is : List Value = values (outcomes (take n ks) s t) in
    let right : Sized = child_at n (below (shape_at a path ∷ [])) in
    let left_sound : Bool = all_sound (take n as') in
    let more : Bool = excepted_sound ns (drop (suc n) as') (λ bs. drop (suc n) (below bs)) (joined_at path right.shape a) in
    let calm = calm_split s t (take n ks) (all_indexes ns (drop (suc n) ks)) e in
    let g0 = and_left left_sound (path_readable a path && (right.sound && (alike (shape_at a path) right.shape && more))) g in
    let g1 = and_right left_sound (path_readable a path && (right.sound && (alike (shape_at a path) right.shape && more))) g in
    let ok_path = and_left (path_readable a path) (right.sound && (alike (shape_at a path) right.shape && more)) g1 in
    let g2 = and_right (path_readable a path) (right.sound && (alike (shape_at a path) right.shape && more)) g1 in
    let ok_right = and_left right.sound (alike (shape_at a path) right.shape && more) g2 in
    let g3 = and_right right.sound (alike (shape_at a path) right.shape && more) g2 in
    let many : LiteralsAre path is = literals_are (take n as') is (values_meet s t (take n ks) (take n as') (take_fits s t n ks as' h) g0 calm.0) in
    let rest : (b : Value) → Fits (joined_at path right.shape a) b →
    IfVal (Fits (excepted (n ∷ ns) as' below a)) (updated p (updates p ns (drop (suc n) ks) (λ vs. drop (suc n) (under vs)) s t) b) =
    λ b q. updates_fit s t p ns (drop (suc n) ks) (drop (suc n) as') (λ vs. drop (suc n) (under vs)) (λ bs. drop (suc n) (below bs)) (joined_at path right.shape a) b
    (drop_fits s t (suc n) ks as' h) (λ vs bs z. drop_fits s t (suc n) (under vs) (below bs) (k vs bs z)) calm.1
    (and_right (alike (shape_at a path) right.shape) more g3) q in
    by (excepted (n ∷ ns) as' below a) path is right a f (at_path f is) (reached_fits path is a f many ok_path m) rest
    (λ old q. kid_fits s t p n (under (old ∷ [])) (below (shape_at a path ∷ [])) (k (old ∷ []) (shape_at a path ∷ []) (q, tt)) ok_right)
    (λ v q. put_fits path is right.shape a v f many ok_path (and_left (alike (shape_at a path) right.shape) more g3) q m)
    (joined_more path right.shape a (out-Value f) ok_path m)
  where
    by : (out : Shape) (path : List Literal) (is : List Value) (right : Sized) (a : Shape) (f : Value) (o : Reached) → IfReached (Fits (shape_at a path)) o →
        ((b : Value) → Fits (joined_at path right.shape a) b → IfVal (Fits out) (updated p (updates p ns (drop (suc n) ks) (λ vs. drop (suc n) (under vs)) s t) b)) →
        ((old : Value) → Fits (shape_at a path) old → IfVal (Meets right) ((child p n (under (old ∷ []))).value s t)) →
        ((v : Value) → Fits right.shape v → Fits (joined_at path right.shape a) (set_path is v f)) → Fits (joined_at path right.shape a) f →
        IfVal (Fits out) (elim o [
          | At old ↦ with_value ((child p n (under (old ∷ []))).value s t) (λ new. updated p (updates p ns (drop (suc n) ks) (λ vs. drop (suc n) (under vs)) s t) (set_path is new f))
          | Outside ↦ updated p (updates p ns (drop (suc n) ks) (λ vs. drop (suc n) (under vs)) s t) f
          | NoFunction ↦ Wrong p
        ])
    by out path is right a f (At old) l rest new put more =
        with_fits (Meets right) (Fits out) ((child p n (under (old ∷ []))).value s t) _ (new old l) (λ v z. rest (set_path is v f) (put v z.0))
    by out path is right a f Outside l rest new put more = rest f more
    by out path is right a f NoFunction l rest new put more = tt

pub except_fits : (s t : State) (p : Place) (ns : List ℕ) (ks : List Denotation) (as' : List Sized) (under : List Value → List Denotation) (below : List Shape → List Sized) →
    KidsFit s t ks as' → ((vs : List Value) (bs : List Shape) → FitAll bs vs → KidsFit s t (under vs) (below bs)) →
    IsTrue ((child_at 0 as').sound && excepted_sound ns (drop 1 as') (λ bs. drop 1 (below bs)) (child_at 0 as').shape) →
    IfVal (Fits (excepted ns (drop 1 as') (λ bs. drop 1 (below bs)) (child_at 0 as').shape)) (except p ns ks under s t)
except_fits s t p ns [] as' under below h k e = tt
except_fits s t p ns (m ∷ ks) [] under below h k e = absurd h
except_fits s t p ns (m ∷ ks) (a ∷ as') under below h k e =
    let us : List Update = updates p ns ks (λ vs. drop 1 (under vs)) s t in
    let sound : Bool = excepted_sound ns as' (λ bs. drop 1 (below bs)) a.shape in
    by us (excepted ns as' (λ bs. drop 1 (below bs)) a.shape) (m.value s t) (h.0 (and_left a.sound sound e)) (joined (outcomes (all_indexes ns ks) s t)) refl (λ f c q.
    updates_fit s t p ns ks as' (λ vs. drop 1 (under vs)) (λ bs. drop 1 (below bs)) a.shape f h.1 (λ vs bs z. drop_fits s t 1 (under vs) (below bs) (k vs bs z)) c
    (and_right a.sound sound e) q)
  where
    by : (us : List Update) (out : Shape) (o : Outcome) → IfVal (Meets a) o → (g : Fault) → joined (outcomes (all_indexes ns ks) s t) ≡ g →
        ((f : Value) → joined (outcomes (all_indexes ns ks) s t) ≡ NoFault → Fits a.shape f → IfVal (Fits out) (updated p us f)) →
        IfVal (Fits out) (fault_or (join_faults (fault_of o) g) (first_updated p us (values (o ∷ outcomes (all_indexes ns ks) s t))))
    by us out (Val v) z NoFault c r = r v c z.0
    by us out (Val v) z (IsWrong q) c r = tt
    by us out (Val v) z (IsBig q) c r = tt
    by us out (Wrong q) z NoFault c r = tt
    by us out (Wrong q) z (IsWrong l) c r = tt
    by us out (Wrong q) z (IsBig l) c r = tt
    by us out (Big q) z NoFault c r = tt
    by us out (Big q) z (IsWrong l) c r = tt
    by us out (Big q) z (IsBig l) c r = tt
