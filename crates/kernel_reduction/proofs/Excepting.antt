-- What updates of the kernel, one behind the other and one within the other, come to where their indexes have values.
use Rattle.std.proofs.Common.{◌≡◌, ℕ, false, true≢false, List, [], ◌∷◌, map, refl, sym, ◌∙◌, ap, subst, Option, Some, None, if◌then◌else◌}
use Rattle.tla_values.specs.Order.{Layer}
use Rattle.tla_values.specs.Sets.{Normal, apply, override_at}
use Rattle.tla_values.specs.declared.value.Value.{Value, out-Value}
use Rattle.tla_values.specs.declared.value.Value.TheVariants as value
use Rattle.tla_values.specs.declared.value.Value.TheOpen as layer
use Rattle.tla_values.proofs.NormalLemmas.{fun_pairs, normal_override}
use Rattle.tla_meaning.specs.declared.place.Place.{Place}
use Rattle.tla_meaning.specs.declared.job.State.{State}
use Rattle.tla_meaning.specs.declared.outcome.Outcome.{Outcome}
use Rattle.tla_meaning.specs.declared.outcome.Outcome.TheVariants.{Val, Wrong, Big}
use Rattle.tla_meaning.specs.Outcomes.{IsNormalOutcome, strict, with_value}
use Rattle.tla_meaning.specs.Numbers.{Width}
use Rattle.tla_meaning.specs.Scopes.{Scope, bind, find_last, or_else, value_found}
use Rattle.tla_meaning.specs.Meaning.{Reached, At, Outside, NoFunction, Update, at_path, set_path, put_at, updated}
use Rattle.tla_meaning.proofs.Laws.{find-append}
use Rattle.tla_meaning.proofs.NormalShapes.{NormalLayer, IfSomes, layer_normal, apply_normal}
use Rattle.tla_meaning.proofs.NormalNodes.{NormalReached, at_path_normal}
use Rattle.snowcat_rows.specs.declared.types.Ty.{Ty}
use Rattle.kernel_trees.specs.declared.kernel.Ker.{Ker}
use Rattle.kernel_trees.specs.Trees.{ker_val, number_name}
use Rattle.kernel_trees.proofs.Operators.{val_bound}
use Rattle.kernel_trees.proofs.Binders.{val_update, updated_one, updated_by, one_update}
use Rattle.kernel_trees.proofs.Steps.{same_text_same}
use Rattle.kernel_reduction.specs.Rows.{bound, Level, Change, changed_at, changed, is_nil}
use Rattle.kernel_reduction.proofs.Outcomes.{strict_same, with_same, one_value, other_values, cons≢none, none≢cons}
use Rattle.kernel_reduction.proofs.Paths.{path_step, one_step}

-- ---- one update behind the other

pub updates_row : (p : Place) (u : Update) (us : List Update) (f : Value) →
    updated p (u ∷ us) f ≡ with_value (updated p (u ∷ []) f) (updated p us)
updates_row p u us f = by (at_path f u.0)
  where
    one : (o : Outcome) →
        with_value o (λ new. updated p us (set_path u.0 new f))
        ≡ with_value (with_value o (λ new. Val (set_path u.0 new f))) (updated p us)
    one (Val v) = refl
    one (Wrong q) = refl
    one (Big q) = refl

    by : (r : Reached) →
        elim r as (λ _. Outcome) [
          | At old ↦ with_value (u.1 old) (λ new. updated p us (set_path u.0 new f))
          | Outside ↦ updated p us f
          | NoFunction ↦ Wrong p
        ] ≡ with_value (elim r as (λ _. Outcome) [
          | At old ↦ with_value (u.1 old) (λ new. Val (set_path u.0 new f))
          | Outside ↦ Val f
          | NoFunction ↦ Wrong p
        ]) (updated p us)
    by (At old) = one (u.1 old)
    by Outside = refl
    by NoFunction = refl

pub then_then : (o : Outcome) (f g : Value → Outcome) →
    with_value (with_value o f) g ≡ with_value o (λ v. with_value (f v) g)
then_then (Val v) f g = refl
then_then (Wrong q) f g = refl
then_then (Big q) f g = refl

-- ---- what an update leaves is normal

put_normal : (l : Layer Value) (i : Value) (change : Value → Value) (f : Value) → NormalLayer l →
    ((v : Value) → Normal v → Normal (change v)) → Normal f →
    Normal (put_at l i change f)
put_normal (layer.Fun ps) i change f h r k = by_place (apply ps i) (apply_normal ps i (fun_pairs ps h))
  where
    by_place : (o : Option Value) → IfSomes Normal o →
        Normal (elim o [ None ↦ f | Some v ↦ value.Fun (override_at ps i (change v)) ])
    by_place None l = k
    by_place (Some v) l = normal_override ps i (change v) h (r v l)
put_normal l i change f h r k = k

set_path_normal : (is : List Value) (new f : Value) → Normal new → Normal f → Normal (set_path is new f)
set_path_normal [] new f h k = h
set_path_normal (i ∷ is) new f h k =
    put_normal (out-Value f) i (set_path is new) f (layer_normal f k) (λ v l. set_path_normal is new v h l) k

one_normal : (p : Place) (is : List Value) (new : Value → Outcome) (f : Value) →
    ((v : Value) → Normal v → IsNormalOutcome (new v)) → Normal f →
    IsNormalOutcome (updated p ((is, new) ∷ []) f)
one_normal p is new f h k = by (at_path f is) (at_path_normal is f k)
  where
    of_new : (o : Outcome) → IsNormalOutcome o → IsNormalOutcome (with_value o (λ n. Val (set_path is n f)))
    of_new (Val n) l = set_path_normal is n f l k
    of_new (Wrong q) l = tt
    of_new (Big q) l = tt

    by : (r : Reached) → NormalReached r → IsNormalOutcome
        (elim r as (λ _.
        Outcome) [
          | At old ↦ with_value (new old)
              (λ n. Val (set_path is n f))
          | Outside ↦ Val f
          | NoFunction ↦ Wrong p
        ])
    by (At old) l = of_new (new old) (h old l)
    by Outside l = k
    by NoFunction l = tt

-- ---- an update by what stands at its index

module _ (w : Width) (s t : State) (p : Place) where
  one_same : (f g : Value → Outcome) → ((v : Value) → Normal v → f v ≡ g v) → (i u : Value) (l : Layer Value) →
      NormalLayer l →
      updated_one w s t p f i u l ≡ updated_one w s t p g i u l
  one_same f g h i u (layer.Fun ps) k = by (apply ps i) (apply_normal ps i (fun_pairs ps k))
    where
      by : (o : Option Value) → IfSomes Normal o →
          elim o as (λ _.
          Outcome) [ None ↦ Val u | Some old ↦ with_value (f old) (λ v. Val (value.Fun (override_at ps i v))) ]
          ≡ elim o as (λ _.
          Outcome) [ None ↦ Val u | Some old ↦ with_value (g old) (λ v. Val (value.Fun (override_at ps i v))) ]
      by None l = refl
      by (Some old) l = ap (λ o. with_value o (λ v. Val (value.Fun (override_at ps i v)))) (h old l)
  one_same f g h i u l k = refl

  one_is_step : (new : Value → Outcome) (i : Value) (is : List Value) (f : Value) (l : Layer Value) →
      updated_one w s t p (λ old. updated p ((is, new) ∷ []) old) i f l ≡ one_step p new i is f l
  one_is_step new i is f (layer.Fun ps) = refl
  one_is_step new i is f l = refl

  -- of the function and the first index
  abbrev pub updated_first : (Value → Outcome) → List Value → List Value → Outcome
  updated_first new is (f ∷ i ∷ []) = updated p ((i ∷ is, new) ∷ []) f
  updated_first new is vs = Wrong p

read_new : (n : ℕ) (v : Value) (c : Scope) →
    find_last (number_name n) (bind (number_name n ∷ []) (v ∷ []) c).bound ≡ Some v
read_new n v c =
    find-append (number_name n) c.bound ((number_name n, v) ∷ [])
    ∙ ap (λ b. or_else (or_else None (if b then Some v else None)) (find_last (number_name n) c.bound))
    (same_text_same (number_name n))

abbrev pub last_number : List Level → ℕ
last_number [] = 0
last_number (l ∷ []) = l.number
last_number (l ∷ m ∷ ls) = last_number (m ∷ ls)

-- the scopes in which the trees are read are those of which P holds
module _ (w : Width) (s t : State) (p : Place) (P : Scope → Type 0) where
  abbrev pub HasLevels : List Level → List Value → Type 0
  HasLevels [] [] = Unit {0}
  HasLevels (l ∷ ls) (v ∷ vs) = ((c : Scope) → P c → ker_val w l.index c s t ≡ Val v) × HasLevels ls vs
  HasLevels ls vs = ⊥

  -- what the levels bind leads to such scopes
  abbrev pub Closed : List Level → Type 0
  Closed [] = Unit {0}
  Closed (l ∷ ls) =
      ((c : Scope) (v : Value) → Normal v → P c → P (bind (number_name l.number ∷ []) (v ∷ []) c)) × Closed ls

  abbrev pub HasRight : List Level → Ker → (Value → Outcome) → Type 0
  HasRight ls e new =
      (c : Scope) → P c → (old : Value) → Normal old →
      ker_val w e (bind (number_name (last_number ls) ∷ []) (old ∷ []) c) s t ≡ new old

  -- along a path whose indexes but the first have values
  pub path_val : (a : Ty) (f e : Ker) (new : Value → Outcome) (l : Level) (ls : List Level) (vs : List Value)
      (c : Scope) →
      HasLevels ls vs → Closed (l ∷ ls) → HasRight (l ∷ ls) e new → P c → IsNormalOutcome (ker_val w f c s t) →
      ker_val w (changed_at p a f (l ∷ ls) e) c s t
      ≡ strict (ker_val w f c s t ∷ ker_val w l.index c s t ∷ []) (updated_first w s t p new vs)
  path_val a f e new l [] [] c h k r q n =
      val_update w s t p a f l.index e l.number c
      ∙ strict_same (ker_val w f c s t ∷ ker_val w l.index c s t ∷ []) _ _ by
    where
      by : (us : List Value) → ker_val w f c s t ∷ ker_val w l.index c s t ∷ [] ≡ map Val us →
          updated_by w s t p (λ old. ker_val w e (bind (number_name l.number ∷ []) (old ∷ []) c) s t) us
          ≡ updated_first w s t p new [] us
      by [] e = absurd (cons≢none e)
      by (u ∷ []) e = absurd (cons≢none (other_values e))
      by (u ∷ i ∷ []) e =
          one_same w s t p _ new (λ old m. r c q old m) i u (out-Value u)
          (layer_normal u (subst IsNormalOutcome (one_value e) n))
          ∙ sym (one_update w s t p new i u (out-Value u))
      by (u ∷ i ∷ x ∷ us) e = absurd (none≢cons (other_values (other_values e)))
  path_val a f e new l [] (v ∷ vs) c h k r q n = absurd h
  path_val a f e new l (m ∷ ls) [] c h k r q n = absurd h
  path_val a f e new l (m ∷ ls) (v ∷ vs) c h k r q n =
      val_update w s t p a f l.index (changed_at p l.inner (bound p l.inner l.number) (m ∷ ls) e) l.number c
      ∙ strict_same (ker_val w f c s t ∷ ker_val w l.index c s t ∷ []) _ _ (by (λ old o.
      path_val l.inner (bound p l.inner l.number) e new m ls vs
      (bind (number_name l.number ∷ []) (old ∷ []) c) h.1 k.1 r (k.0 c old o q)
      (subst IsNormalOutcome (sym (old_there old)) o)
      ∙ (λ j. strict (old_there old j ∷ h.0 (bind (number_name l.number ∷ []) (old ∷ []) c) (k.0 c old o q) j ∷ [])
      (updated_first w s t p new vs))))
    where
      old_there : (old : Value) →
          ker_val w (bound p l.inner l.number) (bind (number_name l.number ∷ []) (old ∷ []) c) s t ≡ Val old
      old_there old = val_bound w s t p l.inner l.number [] [] _ ∙ ap (value_found p) (read_new l.number old c)

      by : ((old : Value) → Normal old →
          ker_val w (changed_at p l.inner (bound p l.inner l.number) (m ∷ ls) e)
          (bind (number_name l.number ∷ []) (old ∷ []) c) s t ≡ updated p ((v ∷ vs, new) ∷ []) old) →
          (us : List Value) → ker_val w f c s t ∷ ker_val w l.index c s t ∷ [] ≡ map Val us →
          updated_by w s t p
          (λ old. ker_val w (changed_at p l.inner (bound p l.inner l.number) (m ∷ ls) e)
          (bind (number_name l.number ∷ []) (old ∷ []) c) s t) us
          ≡ updated_first w s t p new (v ∷ vs) us
      by g [] e = absurd (cons≢none e)
      by g (u ∷ []) e = absurd (cons≢none (other_values e))
      by g (u ∷ i ∷ []) e =
          let o : Normal u = subst IsNormalOutcome (one_value e) n in
          one_same w s t p _ (λ old. updated p ((v ∷ vs, new) ∷ []) old) g i u (out-Value u) (layer_normal u o)
          ∙ one_is_step w s t p new i (v ∷ vs) u (out-Value u)
          ∙ path_step p new i (v ∷ vs) u o
      by g (u ∷ i ∷ x ∷ us) e = absurd (none≢cons (other_values (other_values e)))

  -- ---- several updates

  abbrev pub NormalNew : (Value → Outcome) → Type 0
  NormalNew new = (v : Value) → Normal v → IsNormalOutcome (new v)

  pub record HasChange (u : Change) (y : Update) : Type 0 where
    pub levels : HasLevels u.levels y.0
    pub closed : Closed u.levels
    pub right : HasRight u.levels u.right y.1
    pub normal : NormalNew y.1
    pub some : is_nil u.levels ≡ false

  abbrev pub HasChanges : List Change → List Update → Type 0
  HasChanges [] [] = Unit {0}
  HasChanges (u ∷ us) (y ∷ ys) = HasChange u y × HasChanges us ys
  HasChanges us ys = ⊥

  of_first : (new : Value → Outcome) (v : Value) (vs : List Value) (o : Outcome) →
      strict (o ∷ Val v ∷ []) (updated_first w s t p new vs) ≡ with_value o (updated p ((v ∷ vs, new) ∷ []))
  of_first new v vs (Val u) = refl
  of_first new v vs (Wrong q) = refl
  of_first new v vs (Big q) = refl

  one_val : (a : Ty) (f e : Ker) (new : Value → Outcome) (ls : List Level) (vs : List Value) (c : Scope) →
      is_nil ls ≡ false →
      HasLevels ls vs → Closed ls → HasRight ls e new → P c → IsNormalOutcome (ker_val w f c s t) →
      ker_val w (changed_at p a f ls e) c s t ≡ with_value (ker_val w f c s t) (updated p ((vs, new) ∷ []))
  one_val a f e new [] vs c g h k r q n = absurd (true≢false g)
  one_val a f e new (l ∷ ls) [] c g h k r q n = absurd h
  one_val a f e new (l ∷ ls) (v ∷ vs) c g h k r q n =
      path_val a f e new l ls vs c h.1 k r q n
      ∙ ap (λ (o : Outcome). strict (ker_val w f c s t ∷ o ∷ []) (updated_first w s t p new vs)) (h.0 c q)
      ∙ of_first new v vs (ker_val w f c s t)

  left_normal : (vs : List Value) (new : Value → Outcome) → NormalNew new → (o : Outcome) → IsNormalOutcome o →
      IsNormalOutcome (with_value o (updated p ((vs, new) ∷ [])))
  left_normal vs new h (Val v) n = one_normal p vs new v h n
  left_normal vs new h (Wrong q) n = tt
  left_normal vs new h (Big q) n = tt

  value_back : (o : Outcome) → o ≡ with_value o (λ v. Val v)
  value_back (Val v) = refl
  value_back (Wrong q) = refl
  value_back (Big q) = refl

  pub many_val : (a : Ty) (f : Ker) (us : List Change) (ys : List Update) (c : Scope) → HasChanges us ys → P c →
      IsNormalOutcome (ker_val w f c s t) →
      ker_val w (changed p a f us) c s t ≡ with_value (ker_val w f c s t) (updated p ys)
  many_val a f [] [] c h q n = value_back (ker_val w f c s t)
  many_val a f [] (y ∷ ys) c h q n = absurd h
  many_val a f (u ∷ us) [] c h q n = absurd h
  many_val a f (u ∷ us) (y ∷ ys) c h q n =
      let e = one_val a f u.right y.1 u.levels y.0 c h.0.some h.0.levels h.0.closed h.0.right q n in
      many_val a (changed_at p a f u.levels u.right) us ys c h.1 q
      (subst IsNormalOutcome (sym e) (left_normal y.0 y.1 h.0.normal (ker_val w f c s t) n))
      ∙ ap (λ o. with_value o (updated p ys)) e
      ∙ then_then (ker_val w f c s t) (updated p ((y.0, y.1) ∷ [])) (updated p ys)
      ∙ with_same (ker_val w f c s t) _ _ (λ v. sym (updates_row p y ys v))
