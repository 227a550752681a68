-- What the nodes of a job's action come to, operator by operator.
use Rattle.std.proofs.Common.{◌≡◌, ℕ, zero, suc, Bool, true, false, ◌||◌, List, [], ◌∷◌, ◌++◌, map, take, length, replicate, refl, sym, ◌∙◌, ap, Option, Some, None, if◌then◌else◌}
use Rattle.std.specs.List.{list_any, slice_get}
use Rattle.tla_meaning.specs.declared.actions.Assignable.{Assignable}
use Rattle.tla_meaning.specs.declared.actions.Effect.{Effect}
use Rattle.tla_meaning.specs.declared.expr.Expr.{Expr, roll-Expr}
use Rattle.tla_meaning.specs.declared.op.Op.{Op}
use Rattle.tla_meaning.specs.declared.op.Op.TheVariants as op
use Rattle.tla_meaning.specs.declared.place.Place.{Place}
use Rattle.tla_meaning.specs.declared.job.State.{State}
use Rattle.tla_meaning.specs.declared.outcome.Outcome.{Outcome}
use Rattle.tla_meaning.specs.Actions.{any_mentions, case_effect, denotation_of, effect_of, effects_and, effects_or, exists_effect, if_effect, meaning, val}
use Rattle.tla_meaning.specs.Meaning.{outcomes, child, outer, inner, role, view}
use Rattle.tla_meaning.specs.Numbers.{Width}
use Rattle.tla_meaning.specs.Scopes.{Denotation, Scope, absent, bind}
use Rattle.tla_meaning.proofs.MeaningLemmas.{denotation-roll}
use Rattle.tla_meaning.proofs.Views.{false≢true}

abbrev pub job_node : Place → Op → List Expr → List (List ℕ) → Expr
job_node p o es xs = roll-Expr (record { place = p; op = o; args = es; binds = xs })

abbrev pub job_act : Width → Assignable → State → State → Scope → Expr → Effect
job_act w m s t sc e = (meaning w e sc).act m s t

abbrev pub job_val : Width → State → State → Scope → Expr → Outcome
job_val w s t sc e = val w e sc s t

-- an operator whose effect is that of its value
abbrev pub is_operand_op : Op → Bool
is_operand_op op.And = false
is_operand_op op.Or = false
is_operand_op op.If = false
is_operand_op (op.Case other) = false
is_operand_op op.Exists = false
is_operand_op (op.Noted x) = false
is_operand_op op.Prime = false
is_operand_op op.Unchanged = false
is_operand_op op.Boxed = false
is_operand_op op.Angled = false
is_operand_op (op.Use x) = false
is_operand_op (op.Param x) = false
is_operand_op (op.Let ds) = false
is_operand_op o = true

module _ (w : Width) (m : Assignable) (s t : State) where
  acts_here : (p : Place) (es : List Expr) (sc : Scope) →
      map (λ (a : Denotation). a.act m s t) (outer p [] (map (meaning w) es) sc) ≡ map (job_act w m s t sc) es
  acts_here p [] sc = refl
  acts_here p (e ∷ es) sc = ap (λ l. job_act w m s t sc e ∷ l) (acts_here p es sc)

  vals_here : (p : Place) (es : List Expr) (sc : Scope) →
      outcomes (outer p [] (map (meaning w) es) sc) s t ≡ map (job_val w s t sc) es
  vals_here p [] sc = refl
  vals_here p (e ∷ es) sc = ap (λ l. job_val w s t sc e ∷ l) (vals_here p es sc)

  any_here : (p : Place) (es : List Expr) (sc : Scope) →
      any_mentions m (outer p [] (map (meaning w) es) sc) ≡ list_any (λ e. (meaning w e sc).mentions m) es
  any_here p [] sc = refl
  any_here p (e ∷ es) sc = ap (λ b. (meaning w e sc).mentions m || b) (any_here p es sc)

  abbrev some_holds : Scope → List Expr → Bool
  some_holds sc es = list_any (λ e. (meaning w e sc).mentions m) es

  -- the domains of a binder, and its body
  domains_here : (p : Place) (n : ℕ) (es : List Expr) (sc : Scope) →
      outcomes (take n (outer p (replicate n false ++ true ∷ []) (map (meaning w) es) sc)) s t ≡ map (job_val w s t sc) (take n es)
  domains_here p zero es sc = refl
  domains_here p (suc n) [] sc = refl
  domains_here p (suc n) (e ∷ es) sc = ap (λ l. job_val w s t sc e ∷ l) (domains_here p n es sc)

  abbrev pub job_body : Place → Option Expr → Scope → Denotation
  job_body p None sc = absent p
  job_body p (Some e) sc = meaning w e sc

  body_here : (p : Place) (n : ℕ) (es : List Expr) (sc : Scope) →
      child p n (inner p (replicate n false ++ true ∷ []) (map (meaning w) es) sc) ≡ job_body p (slice_get es n) sc
  body_here p zero [] sc = refl
  body_here p zero (e ∷ es) sc = refl
  body_here p (suc n) [] sc = refl
  body_here p (suc n) (e ∷ es) sc = body_here p n es sc

  -- ---- nodes

  pub act_and : (p : Place) (es : List Expr) (xs : List (List ℕ)) (sc : Scope) →
      job_act w m s t sc (job_node p op.And es xs) ≡ effects_and (map (job_act w m s t sc) es)
  act_and p es xs sc = ap (λ (a : Denotation). a.act m s t) (denotation-roll w _ sc) ∙ ap effects_and (acts_here p es sc)

  -- where no operand holds a name that may be assigned, the effect is that of the value
  pub act_or : (p : Place) (es : List Expr) (xs : List (List ℕ)) (sc : Scope) →
      job_act w m s t sc (job_node p op.Or es xs)
      ≡ (if some_holds sc es then effects_or (map (job_act w m s t sc) es) else effect_of (job_val w s t sc (job_node p op.Or es xs)))
  act_or p es xs sc =
      ap (λ (a : Denotation). a.act m s t) (denotation-roll w _ sc)
      ∙ (λ i. if any_here p es sc i then effects_or (acts_here p es sc i) else effect_of ((sym (denotation-roll w (record { place = p; op = op.Or; args = es; binds = xs }) sc) i).value s t))

  pub act_if : (p : Place) (es : List Expr) (xs : List (List ℕ)) (sc : Scope) →
      job_act w m s t sc (job_node p op.If es xs)
      ≡ (if some_holds sc es then if_effect p (map (job_val w s t sc) es) (map (job_act w m s t sc) es) else effect_of (job_val w s t sc (job_node p op.If es xs)))
  act_if p es xs sc =
      ap (λ (a : Denotation). a.act m s t) (denotation-roll w _ sc)
      ∙ (λ i. if any_here p es sc i then if_effect p (vals_here p es sc i) (acts_here p es sc i) else effect_of ((sym (denotation-roll w (record { place = p; op = op.If; args = es; binds = xs }) sc) i).value s t))

  pub act_case : (p : Place) (other : Bool) (es : List Expr) (xs : List (List ℕ)) (sc : Scope) →
      job_act w m s t sc (job_node p (op.Case other) es xs)
      ≡ (if some_holds sc es then case_effect p (map (job_val w s t sc) es) (map (job_act w m s t sc) es) else effect_of (job_val w s t sc (job_node p (op.Case other) es xs)))
  act_case p other es xs sc =
      ap (λ (a : Denotation). a.act m s t) (denotation-roll w _ sc)
      ∙ (λ i. if any_here p es sc i then case_effect p (vals_here p es sc i) (acts_here p es sc i) else effect_of ((sym (denotation-roll w (record { place = p; op = op.Case other; args = es; binds = xs }) sc) i).value s t))

  pub act_exists : (p : Place) (es : List Expr) (xs : List (List ℕ)) (sc : Scope) →
      job_act w m s t sc (job_node p op.Exists es xs)
      ≡ exists_effect p (map (job_val w s t sc) (take (length xs) es)) (λ vs. (job_body p (slice_get es (length xs)) (bind xs vs sc)).act m s t)
  act_exists p es xs sc =
      ap (λ (a : Denotation). a.act m s t) (denotation-roll w _ sc)
      ∙ (λ i. exists_effect p (domains_here p (length xs) es sc i) (λ vs. (body_here p (length xs) es (bind xs vs sc) i).act m s t))

  pub act_noted : (p : Place) (x : List ℕ) (e : Expr) (es : List Expr) (xs : List (List ℕ)) (sc : Scope) →
      job_act w m s t sc (job_node p (op.Noted x) (e ∷ es) xs) ≡ job_act w m s t sc e
  act_noted p x e es xs sc = ap (λ (a : Denotation). a.act m s t) (denotation-roll w _ sc)

  pub act_operand : (p : Place) (o : Op) (es : List Expr) (xs : List (List ℕ)) (sc : Scope) → is_operand_op o ≡ true →
      job_act w m s t sc (job_node p o es xs) ≡ effect_of (job_val w s t sc (job_node p o es xs))
  act_operand p o es xs sc h =
      ap (λ (a : Denotation). a.act m s t) (denotation-roll w _ sc) ∙ by o h
      ∙ ap (λ (a : Denotation). effect_of (a.value s t)) (sym (denotation-roll w (record { place = p; op = o; args = es; binds = xs }) sc))
    where
      at : Op → Denotation
      at o = denotation_of w p o (length xs) (view p (role o (length xs)) xs (map (meaning w) es) sc)

      by : (o : Op) → is_operand_op o ≡ true → (at o).act m s t ≡ effect_of ((at o).value s t)
      by op.And h = absurd (false≢true h)
      by op.Or h = absurd (false≢true h)
      by op.If h = absurd (false≢true h)
      by (op.Case other) h = absurd (false≢true h)
      by op.Exists h = absurd (false≢true h)
      by (op.Noted x) h = absurd (false≢true h)
      by op.Prime h = absurd (false≢true h)
      by op.Unchanged h = absurd (false≢true h)
      by op.Boxed h = absurd (false≢true h)
      by op.Angled h = absurd (false≢true h)
      by (op.Use x) h = absurd (false≢true h)
      by (op.Param x) h = absurd (false≢true h)
      by (op.Let ds) h = absurd (false≢true h)
      by o h = refl
