-- What is built in an action position has the effect of its expression there, if what is built as a value keeps the value.
use Rattle.std.proofs.Common.{◌≡◌, ℕ, suc, Bool, true, false, ◌||◌, IsTrue, List, [], ◌∷◌, ◌++◌, map, take, drop, length, true≢false, refl, sym, ◌∙◌, ap, ap₂, subst, Option, Some, None, if◌then◌else◌}
use Rattle.std.specs.List.{AllByRecursion, list_any, slice_get}
use Rattle.tla_values.specs.declared.value.Value.{Value}
use Rattle.tla_meaning.specs.declared.actions.Assignable.{Assignable}
use Rattle.tla_meaning.specs.declared.actions.Effect.{Effect}
use Rattle.tla_meaning.specs.declared.expr.Expr.{Expr, roll-out-Expr}
use Rattle.tla_meaning.specs.declared.op.Op.{Op}
use Rattle.tla_meaning.specs.declared.op.Op.TheVariants as op
use Rattle.tla_meaning.specs.declared.place.Place.{Place}
use Rattle.tla_meaning.specs.declared.job.State.{State}
use Rattle.tla_meaning.specs.declared.outcome.Fault.TheVariants.{NoFault, IsWrong, IsBig}
use Rattle.tla_meaning.specs.declared.outcome.Outcome.{Outcome}
use Rattle.tla_meaning.specs.Outcomes.{joined, values}
use Rattle.tla_meaning.specs.Shapes.{all_set_items, choices}
use Rattle.tla_meaning.specs.Actions.{case_effect, counts, effect_of, effects_and, effects_or, exists_effect, fails_by, guarded, if_effect, meaning, val}
use Rattle.tla_meaning.specs.Meaning.{Meaning, outer, outcomes}
use Rattle.tla_meaning.specs.Numbers.{Width}
use Rattle.tla_meaning.specs.Scopes.{Denotation, Scope, bind}
use Rattle.tla_meaning.proofs.NormalNodes.{NormalOutcomes}
use Rattle.tla_meaning.proofs.NormalShapes.{IfSomes, NormalLists, NormalSet, Normals, all_items_normal, choices_normal, lists_of}
use Rattle.tla_meaning.proofs.Views.{and_left, and_right, false≢true}
use Rattle.snowcat_rows.specs.declared.types.Ty.{Ty}
use Rattle.kernel_trees.specs.declared.kernel.Ker.{Ker, out-Ker, roll-out-Ker}
use Rattle.kernel_trees.specs.declared.kernel.KerOp.{KerOp}
use Rattle.kernel_trees.specs.declared.kernel.KerOp.TheVariants as ker
use Rattle.kernel_trees.specs.Paths.{Marks, mentions, mentions_at}
use Rattle.kernel_trees.specs.Trees.{ker_effect, ker_val, names_of}
use Rattle.kernel_trees.proofs.LawOfPaths.{val_of}
use Rattle.kernel_trees.proofs.Nodes.{all_meanings, any_here, body_here, body_sense, effects_here, leaf_effect, outcomes_here, sense_at, sets_here}
use Rattle.kernel_trees.proofs.Trees.{ker-roll, mentions-roll}
use Rattle.kernel_shapes.specs.Laws.{IsNormal}
use Rattle.kernel_reduction.specs.Reduction.{Keeps, KeepsAction, Matched, Numbering, all_fresh, any_mentioned, mentioned, numbered}
use Rattle.kernel_reduction.specs.Builds.{Builds, BuildsEach, BuildsArms, BuildsNode, at_node, none_left, one_more, no_arms, other_arm, one_arm, noted, as_value, conjunction, disjunction, choice, branches, split_cases, passes_on}
use Rattle.kernel_reduction.specs.Rows.{case_branches, guard_of, node, split_case, tree}
use Rattle.kernel_reduction.proofs.BuiltTrees.{all_readable, node_readable, node_value}
use Rattle.kernel_reduction.proofs.CaseEffects.{act_conjunction, guard_kept, split_act}
use Rattle.kernel_reduction.proofs.JobEffects.{act_and, act_case, act_exists, act_if, act_noted, act_operand, act_or, job_act, job_body, job_node, job_val}
use Rattle.kernel_reduction.proofs.Mentioned.{is_readable, mentions_is, readable_at}
use Rattle.kernel_reduction.proofs.Operands.{IsOperand, leaf, mentions_node, mentions_out, unmentioned, value_root}
use Rattle.kernel_reduction.proofs.RowNames.{case_children}
use Rattle.kernel_reduction.proofs.Normals.{matched_bind, outcome_normal, values_normal}
use Rattle.kernel_reduction.proofs.NodeWays.{first, at_is_first, first_part, second_part, fresh_length}

-- ---- a kernel tree that is one operand

length_names : (xs : List ℕ) → length (names_of xs) ≡ length xs
length_names [] = refl
length_names (x ∷ xs) = ap suc (length_names xs)

any_map : (m : Marks) (ks : List Ker) → list_any (λ b. b) (map (mentions m) ks) ≡ list_any (mentions m) ks
any_map m [] = refl
any_map m (k ∷ ks) = ap (λ b. mentions m k || b) (any_map m ks)

module _ (w : Width) (m : Assignable) (s t : State) where
  effect_out : (k : Ker) (sc : Scope) →
      ker_effect w m k sc s t ≡ (sense_at w (out-Ker k).place (out-Ker k).op (length (names_of (out-Ker k).binds)) (out-Ker k).binds (out-Ker k).args sc).act m s t
  effect_out k sc =
      ap (λ k. ker_effect w m k sc s t) (sym (roll-out-Ker k)) ∙ ap (λ (a : Meaning). (a sc).act m s t) (ker-roll w (out-Ker k))

  if_operand : (p : Place) (o : KerOp) (n : ℕ) (xs : List ℕ) (ks : List Ker) (sc : Scope) → o ≡ ker.If → mentions_at (counts m) o (map (mentions (counts m)) ks) ≡ false →
      (sense_at w p o n xs ks sc).act m s t ≡ effect_of ((sense_at w p o n xs ks sc).value s t)
  if_operand p o n xs ks sc q h = subst (λ o. mentions_at (counts m) o (map (mentions (counts m)) ks) ≡ false → (sense_at w p o n xs ks sc).act m s t ≡ effect_of ((sense_at w p o n xs ks sc).value s t)) (sym q) by h
    where
      by : mentions_at (counts m) ker.If (map (mentions (counts m)) ks) ≡ false → (sense_at w p ker.If n xs ks sc).act m s t ≡ effect_of ((sense_at w p ker.If n xs ks sc).value s t)
      by h = ap (λ b. if b then if_effect p (outcomes (outer p [] (all_meanings w ks) sc) s t) (map (λ (a : Denotation). a.act m s t) (outer p [] (all_meanings w ks) sc)) else effect_of ((sense_at w p ker.If n xs ks sc).value s t))
          (any_here w m p ks sc ∙ sym (any_map (counts m) ks) ∙ h)

  operand_effect : (k : Ker) (sc : Scope) → IsOperand (counts m) k → ker_effect w m k sc s t ≡ effect_of (ker_val w k sc s t)
  operand_effect k sc (leaf h) =
      effect_out k sc
      ∙ leaf_effect w m (out-Ker k).place (out-Ker k).op (length (names_of (out-Ker k).binds)) (out-Ker k).binds (out-Ker k).args sc s t h
      ∙ sym (ap effect_of (val_of w k sc s t))
  operand_effect k sc (unmentioned q h) =
      effect_out k sc
      ∙ if_operand (out-Ker k).place (out-Ker k).op (length (names_of (out-Ker k).binds)) (out-Ker k).binds (out-Ker k).args sc q (sym (mentions_out (counts m) k) ∙ h)
      ∙ sym (ap effect_of (val_of w k sc s t))

-- ---- a job's node that is one operand

module _ (w : Width) (m : Assignable) where
  some_is : (a : Scope) (es : List Expr) → IsTrue (all_readable es) → list_any (λ e. (meaning w e a).mentions m) es ≡ any_mentioned m es
  some_is a [] h = refl
  some_is a (e ∷ es) h =
      ap₂ (λ (b c : Bool). b || c) (mentions_is w m e (and_left (is_readable e) (all_readable es) h) a) (some_is a es (and_right (is_readable e) (all_readable es) h))

  job_operand_effect : (p : Place) (o : Op) (es : List Expr) (xs : List (List ℕ)) (a : Scope) (s t : State) → passes_on m o es ≡ false → IsTrue (readable_at o (map is_readable es)) →
      job_act w m s t a (job_node p o es xs) ≡ effect_of (job_val w s t a (job_node p o es xs))
  job_operand_effect p op.And es xs a s t q h = absurd (true≢false q)
  job_operand_effect p op.Or es xs a s t q h = absurd (true≢false q)
  job_operand_effect p op.Exists es xs a s t q h = absurd (true≢false q)
  job_operand_effect p (op.Noted x) es xs a s t q h = absurd (true≢false q)
  job_operand_effect p op.If es xs a s t q h =
      act_if w m s t p es xs a
      ∙ ap (λ c. if c then if_effect p (map (job_val w s t a) es) (map (job_act w m s t a) es) else effect_of (job_val w s t a (job_node p op.If es xs))) (some_is a es h ∙ q)
  job_operand_effect p (op.Case other) es xs a s t q h =
      act_case w m s t p other es xs a
      ∙ ap (λ c. if c then case_effect p (map (job_val w s t a) es) (map (job_act w m s t a) es) else effect_of (job_val w s t a (job_node p (op.Case other) es xs))) (some_is a es h ∙ q)
  job_operand_effect p op.Prime es xs a s t q h = absurd (false≢true h)
  job_operand_effect p op.Unchanged es xs a s t q h = absurd (false≢true h)
  job_operand_effect p op.Boxed es xs a s t q h = absurd (false≢true h)
  job_operand_effect p op.Angled es xs a s t q h = absurd (false≢true h)
  job_operand_effect p (op.Use x) es xs a s t q h = absurd (false≢true h)
  job_operand_effect p (op.Param x) es xs a s t q h = absurd (false≢true h)
  job_operand_effect p (op.Let ds) es xs a s t q h = absurd (false≢true h)
  job_operand_effect p o es xs a s t q h = act_operand w m s t p o es xs a refl

-- ---- the kernel's nodes

module _ (w : Width) (m : Assignable) (s t : State) (b : Scope) where
  abbrev act : Ker → Effect
  act k = ker_effect w m k b s t

  kernel_or : (p : Place) (a : Ty) (ks : List Ker) →
      act (node p a ker.Or ks) ≡ (if list_any (mentions (counts m)) ks then effects_or (map act ks) else effect_of (ker_val w (node p a ker.Or ks) b s t))
  kernel_or p a ks =
      ap (λ (k : Meaning). (k b).act m s t) (ker-roll w _)
      ∙ (λ i. if any_here w m p ks b i then effects_or (effects_here w m p ks b s t i)
      else effect_of ((sym (ap (λ (k : Meaning). (k b).value s t) (ker-roll w (record { place = p; ty = a; op = ker.Or; args = ks; binds = [] })))) i))

  kernel_if : (p : Place) (a : Ty) (g k l : Ker) → list_any (mentions (counts m)) (g ∷ k ∷ l ∷ []) ≡ true →
      act (node p a ker.If (g ∷ k ∷ l ∷ [])) ≡ guarded p (ker_val w g b s t) (act k) (act l)
  kernel_if p a g k l h =
      ap (λ (k : Meaning). (k b).act m s t) (ker-roll w _)
      ∙ (λ i. if (any_here w m p (g ∷ k ∷ l ∷ []) b ∙ h) i
      then if_effect p (outcomes_here w p (g ∷ k ∷ l ∷ []) b s t i) (effects_here w m p (g ∷ k ∷ l ∷ []) b s t i)
      else effect_of ((sense_at w p ker.If 0 [] (g ∷ k ∷ l ∷ []) b).value s t))

  kernel_some : (p : Place) (a : Ty) (ks : List Ker) (ns : List ℕ) →
      act (tree p a ker.Some ks ns)
      ≡ exists_effect p (map (λ k. ker_val w k b s t) (take (length ns) ks)) (λ vs. (body_sense w p (slice_get ks (length ns)) (bind (names_of ns) vs b)).act m s t)
  kernel_some p a ks ns =
      ap (λ (k : Meaning). (k b).act m s t) (ker-roll w _)
      ∙ ap (λ n. (sense_at w p ker.Some n ns ks b).act m s t) (length_names ns)
      ∙ (λ i. exists_effect p (sets_here w p (length ns) ks b s t i) (λ vs. (body_here w p (length ns) ks (bind (names_of ns) vs b) i).act m s t))

-- ---- members of normal sets

each_same : (f g : List Value → Effect) → ((vs : List Value) → Normals vs → f vs ≡ g vs) → (cs : List (List Value)) → NormalLists cs → map f cs ≡ map g cs
each_same f g h [] k = refl
each_same f g h (c ∷ cs) k = λ i. h c k.0 i ∷ each_same f g h cs k.1 i

-- bodies that agree at normal members
exists_over_same : (p : Place) (os : List Outcome) (f g : List Value → Effect) → NormalOutcomes os → ((vs : List Value) → Normals vs → f vs ≡ g vs) →
    exists_effect p os f ≡ exists_effect p os g
exists_over_same p os f g n h =
    ap (λ e. elim (joined os) [ NoFault ↦ e | IsWrong q ↦ fails_by (IsWrong q) | IsBig q ↦ fails_by (IsBig q) ])
    (by (all_set_items (values os)) (all_items_normal (values os) (values_normal os n)))
  where
    by : (x : Option (List (List Value))) → IfSomes (λ xss. AllByRecursion NormalSet xss) x →
        elim x as (λ _. Effect) [ None ↦ fails_by (IsWrong p) | Some xss ↦ effects_or (map f (choices xss)) ]
        ≡ elim x as (λ _. Effect) [ None ↦ fails_by (IsWrong p) | Some xss ↦ effects_or (map g (choices xss)) ]
    by None k = refl
    by (Some xss) k = ap effects_or (each_same f g h (choices xss) (choices_normal xss (lists_of xss k)))

all_normal : (w : Width) (es : List Expr) (a : Scope) (s t : State) → IsNormal a s t → NormalOutcomes (map (job_val w s t a) es)
all_normal w [] a s t n = tt
all_normal w (e ∷ es) a s t n = (outcome_normal w e a s t n, all_normal w es a s t n)

-- ---- every tree

module _ (w : Width) (m : Assignable) (keeps : (ρ : Numbering) (e : Expr) (k : Ker) → Builds None ρ e k → Keeps w ρ e k) where
  abbrev ValueKept : Numbering → Place → Op → List Expr → List (List ℕ) → Ker → Type 0
  ValueKept ρ p o es xs k = (a b : Scope) (s t : State) → Matched ρ a b s t → val w (job_node p o es xs) a s t ≡ ker_val w k b s t

  abbrev ActKept : Numbering → Place → Op → List Expr → List (List ℕ) → Ker → Type 0
  ActKept ρ p o es xs k = (a b : Scope) (s t : State) → Matched ρ a b s t → job_act w m s t a (job_node p o es xs) ≡ ker_effect w m k b s t

  abbrev ActsKept : Numbering → List Expr → List Ker → Type 0
  ActsKept ρ es ks = (a b : Scope) (s t : State) → Matched ρ a b s t → map (job_act w m s t a) es ≡ map (λ k. ker_effect w m k b s t) ks

  each_vals : {ρ : Numbering} {es : List Expr} {ks : List Ker} → BuildsEach None ρ es ks → (a b : Scope) (s t : State) → Matched ρ a b s t →
      map (job_val w s t a) es ≡ map (λ k. ker_val w k b s t) ks
  each_vals (none_left i ρ) a b s t r = refl
  each_vals (one_more i ρ e k es ks h g) a b s t r = ap₂ (λ (o : Outcome) (os : List Outcome). o ∷ os) ((keeps ρ e k h).value a b s t r) (each_vals g a b s t r)

  -- one operand
  operand_acts : {ρ : Numbering} {p : Place} {o : Op} {es : List Expr} {xs : List (List ℕ)} {k : Ker} → passes_on m o es ≡ false → BuildsNode None ρ p o es xs k →
      ValueKept ρ p o es xs k → ActKept ρ p o es xs k
  operand_acts {p = p} {o = o} {es = es} {xs = xs} {k = k} q h v a b s t r =
      job_operand_effect w m p o es xs a s t q (node_readable h) ∙ ap effect_of (v a b s t r) ∙ sym (operand_effect w m s t k b (value_root m h q))

  or_acts : (ρ : Numbering) (p : Place) (es : List Expr) (xs : List (List ℕ)) (ty : Ty) (ks : List Ker) → IsTrue (all_readable es) →
      list_any (mentions (counts m)) ks ≡ any_mentioned m es → (any_mentioned m es ≡ false → ValueKept ρ p op.Or es xs (node p ty ker.Or ks)) → ActsKept ρ es ks →
      ActKept ρ p op.Or es xs (node p ty ker.Or ks)
  or_acts ρ p es xs ty ks h n v f a b s t r =
      act_or w m s t p es xs a
      ∙ by (list_any (λ e. (meaning w e a).mentions m) es) (list_any (mentions (counts m)) ks) (any_mentioned m es) (some_is w m a es h) n refl
      ∙ sym (kernel_or w m s t b p ty ks)
    where
      by : (c d n : Bool) → c ≡ n → d ≡ n → any_mentioned m es ≡ n →
          (if c then effects_or (map (job_act w m s t a) es) else effect_of (job_val w s t a (job_node p op.Or es xs)))
          ≡ (if d then effects_or (map (λ k. ker_effect w m k b s t) ks) else effect_of (ker_val w (node p ty ker.Or ks) b s t))
      by true true n e g q = ap effects_or (f a b s t r)
      by true false n e g q = absurd (true≢false (e ∙ sym g))
      by false true n e g q = absurd (false≢true (e ∙ sym g))
      by false false n e g q = ap effect_of (v (q ∙ sym e) a b s t r)

  if_acts : (ρ : Numbering) (p : Place) (c : Expr) (es : List Expr) (xs : List (List ℕ)) (ty bool : Ty) (g k l : Ker) → IsTrue (all_readable (c ∷ es)) →
      any_mentioned m (c ∷ es) ≡ true → list_any (mentions (counts m)) (guard_of p bool g ∷ k ∷ l ∷ []) ≡ true → Keeps w ρ c g → ActsKept ρ es (k ∷ l ∷ []) →
      ActKept ρ p op.If (c ∷ es) xs (node p ty ker.If (guard_of p bool g ∷ k ∷ l ∷ []))
  if_acts ρ p c es xs ty bool g k l h q n v f a b s t r =
      act_if w m s t p (c ∷ es) xs a
      ∙ ap (λ z. if z then if_effect p (map (job_val w s t a) (c ∷ es)) (map (job_act w m s t a) (c ∷ es)) else effect_of (job_val w s t a (job_node p op.If (c ∷ es) xs)))
      (some_is w m a (c ∷ es) h ∙ q)
      ∙ (λ i. if_effect p (v.value a b s t r i ∷ map (job_val w s t a) es) (job_act w m s t a c ∷ f a b s t r i))
      ∙ sym (guard_kept w m s t b p bool g (ker_effect w m k b s t) (ker_effect w m l b s t))
      ∙ sym (kernel_if w m s t b p ty (guard_of p bool g) k l n)

  case_acts : (ρ : Numbering) (p : Place) (other : Bool) (es : List Expr) (xs : List (List ℕ)) (ty : Ty) (ys : List (Ker × Ker)) (o : Option Ker) → IsTrue (all_readable es) →
      any_mentioned m es ≡ true → list_any (mentions (counts m)) (case_branches p ty [] ys o) ≡ true →
      ((a b : Scope) (s t : State) → Matched ρ a b s t → case_effect p (map (job_val w s t a) es) (map (job_act w m s t a) es)
      ≡ case_effect p (map (λ k. ker_val w k b s t) (case_children (λ i b q. false) ys o)) (map (λ k. ker_effect w m k b s t) (case_children (λ i b q. false) ys o))) →
      ActKept ρ p (op.Case other) es xs (split_case p ty ys o)
  case_acts ρ p other es xs ty ys o h q n f a b s t r =
      act_case w m s t p other es xs a
      ∙ ap (λ z. if z then case_effect p (map (job_val w s t a) es) (map (job_act w m s t a) es) else effect_of (job_val w s t a (job_node p (op.Case other) es xs)))
      (some_is w m a es h ∙ q)
      ∙ f a b s t r
      ∙ sym (split_act w m s t b p ty ys o n)

  -- the body of an \E
  abbrev BodyKept : Numbering → Option Expr → Option Ker → Type 0
  BodyKept σ o u = (p : Place) (a b : Scope) (s t : State) → Matched σ a b s t → (job_body w m s t p o a).act m s t ≡ (body_sense w p u b).act m s t

  some_acts : (ρ : Numbering) (p : Place) (es : List Expr) (xs : List (List ℕ)) (ty : Ty) (ks bs : List Ker) (ns : List ℕ) → all_fresh xs ns ρ ≡ true →
      BuildsEach None ρ (take (length xs) es) ks → BuildsEach (Some m) (numbered xs ns ρ) (drop (length xs) es) bs →
      BodyKept (numbered xs ns ρ) (first (drop (length xs) es)) (first bs) →
      ActKept ρ p op.Exists es xs (tree p ty ker.Some (ks ++ bs) ns)
  some_acts ρ p es xs ty ks bs ns h g r f a b s t z =
      act_exists w m s t p es xs a
      ∙ exists_over_same p (map (job_val w s t a) (take (length xs) es)) _ _ (all_normal w (take (length xs) es) a s t z.normal) body
      ∙ ap (λ os. exists_effect p os (λ vs. (body_sense w p (slice_get (ks ++ bs) (length ns)) (bind (names_of ns) vs b)).act m s t))
      (each_vals g a b s t z ∙ ap (map (λ k. ker_val w k b s t)) (sym (ap (λ n. take n (ks ++ bs)) n ∙ first_part (length xs) es g r)))
      ∙ sym (kernel_some w m s t b p ty (ks ++ bs) ns)
    where
      n : length ns ≡ length xs
      n = fresh_length xs ns ρ h

      body : (vs : List Value) → Normals vs →
          (job_body w m s t p (slice_get es (length xs)) (bind xs vs a)).act m s t ≡ (body_sense w p (slice_get (ks ++ bs) (length ns)) (bind (names_of ns) vs b)).act m s t
      body vs l =
          ap (λ o. (job_body w m s t p o (bind xs vs a)).act m s t) (at_is_first (length xs) es)
          ∙ f p (bind xs vs a) (bind (names_of ns) vs b) s t (matched_bind xs ns vs ρ a b s t h l z)
          ∙ ap (λ o. (body_sense w p o (bind (names_of ns) vs b)).act m s t) (sym (ap (slice_get (ks ++ bs)) n ∙ second_part (length xs) es g r))

  kernel_any : (es : List Expr) (q : Place) (a : Ty) (ko : KerOp) (ks : List Ker) →
      mentions (counts m) (node q a ko ks) ≡ any_mentioned m es → mentions_at (counts m) ko (map (mentions (counts m)) ks) ≡ list_any (λ b. b) (map (mentions (counts m)) ks) →
      list_any (mentions (counts m)) ks ≡ any_mentioned m es
  kernel_any es q a ko ks h e = sym (any_map (counts m) ks) ∙ sym e ∙ sym (mentions-roll (counts m) _) ∙ h

  any_map_is : (es : List Expr) → list_any (λ b. b) (map (mentioned m) es) ≡ any_mentioned m es
  any_map_is [] = refl
  any_map_is (e ∷ es) = ap (λ b. mentioned m e || b) (any_map_is es)

  mutual
    pub tree_acts : {ρ : Numbering} {e : Expr} {k : Ker} → Builds (Some m) ρ e k → KeepsAction w m ρ e k
    tree_acts (at_node i ρ e k h) a b s t r =
        ap (λ z. job_act w m s t a z) (sym (roll-out-Expr e))
        ∙ node_acts h (λ h' a b s t r. ap (λ z. val w z a s t) (roll-out-Expr e) ∙ (keeps ρ e k (at_node None ρ e k h')).value a b s t r) a b s t r

    each_acts : {ρ : Numbering} {es : List Expr} {ks : List Ker} → BuildsEach (Some m) ρ es ks → ActsKept ρ es ks
    each_acts (none_left i ρ) a b s t r = refl
    each_acts (one_more i ρ e k es ks h g) a b s t r = ap₂ (λ (x : Effect) (xs : List Effect). x ∷ xs) (tree_acts h a b s t r) (each_acts g a b s t r)

    first_acts : {ρ : Numbering} {es : List Expr} {ks : List Ker} → BuildsEach (Some m) ρ es ks → BodyKept ρ (first es) (first ks)
    first_acts (none_left i ρ) p a b s t r = refl
    first_acts (one_more i ρ e k es ks h g) p a b s t r = tree_acts h a b s t r

    noted_acts : {ρ : Numbering} {es : List Expr} {k : Ker} → BuildsEach (Some m) ρ es (k ∷ []) → (p : Place) (x : List ℕ) (xs : List (List ℕ)) → ActKept ρ p (op.Noted x) es xs k
    noted_acts (one_more i ρ e k es ks h g) p x xs a b s t r = act_noted w m s t p x e es xs a ∙ tree_acts h a b s t r

    arms_acts : {ρ : Numbering} {es : List Expr} {ys : List (Ker × Ker)} {o : Option Ker} → BuildsArms m ρ es ys o → (p : Place) (a b : Scope) (s t : State) → Matched ρ a b s t →
        case_effect p (map (job_val w s t a) es) (map (job_act w m s t a) es)
        ≡ case_effect p (map (λ k. ker_val w k b s t) (case_children (λ i b q. false) ys o)) (map (λ k. ker_effect w m k b s t) (case_children (λ i b q. false) ys o))
    arms_acts (no_arms n ρ) p a b s t r = refl
    arms_acts (other_arm n ρ e k h) p a b s t r = tree_acts h a b s t r
    arms_acts (one_arm n ρ c e g k es xs o h f z) p a b s t r =
        λ i. guarded p ((keeps ρ c g h).value a b s t r i) (tree_acts f a b s t r i) (arms_acts z p a b s t r i)

    node_acts : {ρ : Numbering} {p : Place} {o : Op} {es : List Expr} {xs : List (List ℕ)} {k : Ker} → BuildsNode (Some m) ρ p o es xs k →
        (BuildsNode None ρ p o es xs k → ValueKept ρ p o es xs k) → ActKept ρ p o es xs k
    node_acts (noted i ρ p x es xs k g) v = noted_acts g p x xs
    node_acts (as_value n ρ p o es xs k q h) v = operand_acts q h (v h)
    node_acts (conjunction n ρ p es xs ty ks g) v = λ a b s t r.
        act_and w m s t p es xs a ∙ ap effects_and (each_acts g a b s t r) ∙ sym (act_conjunction w m s t b p ty ks)
    node_acts (disjunction n ρ p es xs ty ks g) v =
        or_acts ρ p es xs ty ks (node_readable (disjunction m ρ p es xs ty ks g))
        (kernel_any es p ty ker.Or ks (mentions_node m refl (disjunction m ρ p es xs ty ks g)) refl)
        (λ q. v (node_value m (disjunction m ρ p es xs ty ks g) (any_map_is es ∙ q))) (each_acts g)
    node_acts (choice n ρ p es xs ty ks bs ns h g z) v = some_acts ρ p es xs ty ks bs ns h g z (first_acts z)
    node_acts (branches n ρ p c es xs ty bool g k l q h z) v =
        if_acts ρ p c es xs ty bool g k l (node_readable (branches m ρ p c es xs ty bool g k l q h z)) q
        (kernel_any (c ∷ es) p ty ker.If (guard_of p bool g ∷ k ∷ l ∷ []) (mentions_node m refl (branches m ρ p c es xs ty bool g k l q h z)) refl ∙ q)
        (keeps ρ c g h) (each_acts z)
    node_acts (split_cases n ρ p other es xs ty ys o q g) v =
        case_acts ρ p other es xs ty ys o (node_readable (split_cases m ρ p other es xs ty ys o q g)) q
        (kernel_any es p ty ker.Or (case_branches p ty [] ys o) (mentions_node m refl (split_cases m ρ p other es xs ty ys o q g)) refl ∙ q)
        (λ a b s t r. arms_acts g p a b s t r)
