-- Each part of a job's kernel is sound.
use Rattle.std.proofs.Common.{◌≡◌, ℕ, zero, suc, ◌<◌, Bool, true, false, ◌&&◌, List, [], ◌∷◌, ◌++◌, map, length, refl, sym, ◌∙◌, ap, subst, Option, Some, None, option_map, option_and_then, arith}
use Rattle.std.specs.Prelude.{All, nat_lt, slice_get, is_some}
use Rattle.std.specs.List.{list_all}
use Rattle.std.proofs.lemmas.Bool.{ltb-true, lt-ltb}
use Rattle.std.proofs.lemmas.List.{append-nil}
use Rattle.std.proofs.lemmas.List.Elements.{All-head, All-tail}
use Rattle.tla_meaning.specs.declared.actions.Assignable.{Assignable}
use Rattle.tla_meaning.specs.declared.expr.Expr.{Expr}
use Rattle.tla_meaning.specs.declared.job.Job.{Job}
use Rattle.tla_meaning.specs.declared.place.Place.{Place}
use Rattle.tla_meaning.proofs.Laws.{none≢some}
use Rattle.tla_meaning.proofs.Views.{and_left, and_right, and_both, false≢true}
use Rattle.snowcat_rows.specs.Types.{Term, mean}
use Rattle.snowcat_rows.specs.declared.types.Ty.{Ty}
use Rattle.snowcat_rows.specs.declared.types.Typed.{Typed}
use Rattle.snowcat_types.specs.TypeForms.{bool_type, int_type}
use Rattle.snowcat_types.specs.Answers.{AllHaveTypes, IsTruthFirst, outside_of, types_of_names}
use Rattle.snowcat_types.specs.Judgement.{HasTypes}
use Rattle.snowcat_types.specs.Rows.{Context as TypeContext, or_type}
use Rattle.snowcat_types.specs.Systems.{parts_of}
use Rattle.kernel_trees.specs.declared.kernel.Ker.{Ker}
use Rattle.kernel_trees.specs.declared.system.KerJob.{KerJob}
use Rattle.kernel_trees.specs.Sound.{bound_in, kind_at, passes, sound, sound_tree}
use Rattle.kernel_trees.specs.Systems.{parts, sound_part, texts_within}
use Rattle.kernel_trees.specs.TypeKinds.{Kind, Truth, kind_of, is_kind, all_there}
use Rattle.kernel_reduction.specs.Infinite.{infinite_in, all_infinite}
use Rattle.kernel_reduction.specs.Whole.{is_whole}
use Rattle.kernel_reduction.specs.BuildsTyped.{BuildsTyped}
use Rattle.kernel_reduction.specs.SoundLaws.{has_kind, is_sound_truth, positions, AllBuilt, PartsAreSound}
use Rattle.kernel_reduction.proofs.KindsOf.{Of, is_truth, split_there}
use Rattle.kernel_reduction.proofs.KindTies.{Ties}
use Rattle.kernel_reduction.proofs.BuiltParts.{Fine, Have}
use Rattle.kernel_trees.specs.Scoped.{scoped}
use Rattle.kernel_reduction.proofs.ScopedMade.{Covers}
use Rattle.kernel_reduction.proofs.ScopedBuilt.{tree_scoped}
use Rattle.kernel_reduction.proofs.SoundTexts.{texts_are_within}
use Rattle.kernel_reduction.proofs.BuiltBelow.{Knows, InAction}
use Rattle.kernel_reduction.proofs.BuiltSound.{tree_sound}

no_ties : Ties [] [] []
no_ties = record { bound = λ x n q. absurd (none≢some q); new = λ n h. refl }

no_names : Covers [] (bound_in [])
no_names = record { bound = λ x n q. absurd (none≢some q); new = λ n h. refl }

some_kind : (o : Option Kind) → is_some o ≡ true → (a : Kind) × (o ≡ Some a)
some_kind None h = absurd (false≢true h)
some_kind (Some a) h = (a, refl)

kinds_there : (ts : List Ty) → list_all has_kind ts ≡ true → (as' : List Kind) × (all_there (map kind_of ts) ≡ Some as')
kinds_there [] h = ([], refl)
kinds_there (t ∷ ts) h =
    let a = some_kind (kind_of t) (and_left (has_kind t) (list_all has_kind ts) h) in
    let r = kinds_there ts (and_right (has_kind t) (list_all has_kind ts) h) in (
      a.0 ∷ r.0,
      λ i. option_and_then (λ x. option_map (λ xs. x ∷ xs) (r.1 i)) (a.1 i),
    )

all_have : (ts : List Ty) → list_all has_kind ts ≡ true → Have ts
all_have [] h = tt
all_have (t ∷ ts) h =
    (some_kind (kind_of t) (and_left (has_kind t) (list_all has_kind ts) h), all_have ts (and_right (has_kind t) (list_all has_kind ts) h))

-- ---- names

knows_names : (ts : List Ty) (as' : List Kind) → all_there (map kind_of ts) ≡ Some as' → (i : ℕ) →
    nat_lt i (length as') ≡ true →
    (a : Kind) × (slice_get as' i ≡ Some a) × Of (or_type (slice_get (map mean ts) i) int_type) a
knows_names [] as' h i l = absurd (below_none i (ltb-true i 0 (subst (λ z. nat_lt i (length z) ≡ true) (sym (some_of h)) l)))
  where
    some_of : {x y : List Kind} → Some x ≡ Some y → x ≡ y
    some_of e = cc

    below_none : (i : ℕ) → i < 0 → ⊥
    below_none i e = omega (arith, e)
knows_names (t ∷ ts) as' h zero l =
    let v = split_there (kind_of t) (map kind_of ts) as' h in (v.0, ap (λ z. slice_get z 0) v.2, (t, v.3, refl))
knows_names (t ∷ ts) as' h (suc i) l =
    let v = split_there (kind_of t) (map kind_of ts) as' h in
    let r =
    knows_names ts v.1 v.4 i
    (lt-ltb i (length v.1)
    (below i (length v.1) (ltb-true (suc i) (suc (length v.1)) (subst (λ z. nat_lt (suc i) (length z) ≡ true) v.2 l)))) in
    (r.0, ap (λ z. slice_get z (suc i)) v.2 ∙ r.1, r.2)
  where
    below : (i n : ℕ) → suc i < suc n → i < n
    below i n e = omega (arith, e)

-- ---- truth values

in_action : (i : Option Assignable) (x : Term) (names : List Kind) → x ≡ bool_type → InAction names i x
in_action None x names e = tt
in_action (Some m) x names e = e

part_sound : (names : List Kind) (g : TypeContext) → Knows names g → g.bound ≡ [] → (i : Option Assignable) (e : Expr)
    (ts : List Ty) (k : Ker) → BuildsTyped i [] e ts k [] → Fine (length names) false e →
    list_all has_kind ts ≡ true → IsTruthFirst (map mean ts) → HasTypes g e (map mean ts) →
    is_sound_truth names k ≡ true
part_sound names g kn gb i e [] k d fine h x types = absurd x
part_sound names g kn gb i e (t ∷ ts) k d fine h x types =
    let r =
    tree_sound names i [] e (t ∷ ts) k [] d g kn [] (subst (λ z. Ties [] z []) (sym gb) no_ties) false fine (mean t)
    (map mean ts) [] types (in_action i (mean t) names x)
    (sym (append-nil (map mean (t ∷ ts))), all_have (t ∷ ts) h) in
    let w : r.1.0 ≡ Truth = is_truth r.1.0 (subst (λ z. Of z r.1.0) x r.1.1) in
    and_both (is_kind Truth (kind_at k)) (sound_tree names k [] false) (ap (is_kind Truth) (r.1.2.0 ∙ ap Some w))
    (and_both (sound names k [] false) (scoped k (bound_in [])) r.1.2.1
    (tree_scoped (length names) d (bound_in []) no_names false fine))

nil_left : (xs ys : List Place) → xs ++ ys ≡ [] → (xs ≡ []) × (ys ≡ [])
nil_left [] ys h = (refl, h)
nil_left (x ∷ xs) ys h = absurd (cc)

all_sound : (names : List Kind) (g : TypeContext) → Knows names g → g.bound ≡ [] → (is : List (Option Assignable))
    (es : List Expr) (tss : List (List Ty)) (ks : List Ker) → AllBuilt is es tss ks →
    list_all (is_whole (length names)) es ≡ true → all_infinite es ≡ [] →
    list_all (list_all has_kind) tss ≡ true → All IsTruthFirst (map (map mean) tss) → AllHaveTypes g es (map (map mean) tss) →
    list_all (is_sound_truth names) ks ≡ true
all_sound names g kn gb [] [] [] [] b w f h x t = refl
all_sound names g kn gb (i ∷ is) (e ∷ es) (ts ∷ tss) (k ∷ ks) b w f h x t =
    let n = nil_left (infinite_in e false) (all_infinite es) f in
    let rest : Bool = list_all (list_all has_kind) tss in
    and_both (is_sound_truth names k) (list_all (is_sound_truth names) ks)
    (part_sound names g kn gb i e ts k b.0
    (and_left (is_whole (length names) e) (list_all (is_whole (length names)) es) w, n.0)
    (and_left (list_all has_kind ts) rest h) (All-head IsTruthFirst (map mean ts) (map (map mean) tss) x) t.0)
    (all_sound names g kn gb is es tss ks b.1
    (and_right (is_whole (length names) e) (list_all (is_whole (length names)) es) w) n.1
    (and_right (list_all has_kind ts) rest h) (All-tail IsTruthFirst (map mean ts) (map (map mean) tss) x) t.1)
all_sound names g kn gb is es tss ks b w f h x t = absurd (b)

pub long_there : (ts : List Ty) (as' : List Kind) → all_there (map kind_of ts) ≡ Some as' → length ts ≡ length as'
long_there [] as' h = ap length (some_of h)
  where
    some_of : {x y : List Kind} → Some x ≡ Some y → x ≡ y
    some_of e = cc
long_there (t ∷ ts) as' h =
    let v = split_there (kind_of t) (map kind_of ts) as' h in ap suc (long_there ts v.1 v.4) ∙ ap length (sym v.2)

all_both : (f g : Ker → Bool) (ks : List Ker) → list_all f ks ≡ true → list_all g ks ≡ true →
    list_all (λ k. f k && g k) ks ≡ true
all_both f g [] h q = refl
all_both f g (k ∷ ks) h q =
    and_both (f k && g k) (list_all (λ k. f k && g k) ks)
    (and_both (f k) (g k) (and_left (f k) (list_all f ks) h) (and_left (g k) (list_all g ks) q))
    (all_both f g ks (and_right (f k) (list_all f ks) h) (and_right (g k) (list_all g ks) q))

pub parts_are_sound : (job : Job) (t : Typed) (k : KerJob) → PartsAreSound job t k
parts_are_sound job t k whole finite kinded meets texts named built =
    let all : Bool = list_all (list_all has_kind) t.parts in
    let n = kinds_there t.names (and_left (list_all has_kind t.names) all kinded) in
    let l : length t.names ≡ length n.0 = long_there t.names n.0 n.1 in
    ap (λ z. passes (λ names. list_all (sound_part names k.texts) (parts k)) (all_there (map kind_of z))) named
    ∙ ap (passes (λ names. list_all (sound_part names k.texts) (parts k))) n.1
    ∙ all_both (is_sound_truth n.0) (texts_within k.texts) (parts k)
    (all_sound n.0 (outside_of meets.annotations (types_of_names t)) (knows_names t.names n.0 n.1) refl (positions job)
    (parts_of job) t.parts (parts k) built (subst (λ z. list_all (is_whole z) (parts_of job) ≡ true) l whole) finite
    (and_right (list_all has_kind t.names) all kinded) meets.truths meets.parts)
    (texts_are_within job t k texts built)
