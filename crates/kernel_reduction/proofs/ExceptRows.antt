-- The rows of EXCEPT: what the language makes of its operands, and what the kernel's updates do.
use Rattle.std.proofs.Common.{◌≡◌, ℕ, suc, Bool, true, false, not, ◌&&◌, ◌||◌, true≢false, List, [], ◌∷◌, ◌++◌, map, take, drop, replicate, refl, sym, ◌∙◌, ap, subst, Some, None, if◌then◌else◌}
use Rattle.std.specs.Prelude.{nat_eq}
use Rattle.std.specs.List.{list_all, list_any}
use Rattle.std.proofs.lemmas.List.{map-append, take-append-drop}
use Rattle.tla_values.specs.Order.{Layer}
use Rattle.tla_values.specs.Sets.{Normal}
use Rattle.tla_values.specs.declared.value.Value.{Value, out-Value}
use Rattle.tla_values.specs.declared.value.Value.TheOpen as layer
use Rattle.tla_meaning.specs.declared.expr.Expr.{Expr}
use Rattle.tla_meaning.specs.declared.op.Op.TheVariants as op
use Rattle.tla_meaning.specs.declared.place.Place.{Place}
use Rattle.tla_meaning.specs.declared.job.State.{State}
use Rattle.tla_meaning.specs.declared.outcome.Fault.{Fault}
use Rattle.tla_meaning.specs.declared.outcome.Fault.TheVariants.{NoFault, IsWrong, IsBig}
use Rattle.tla_meaning.specs.declared.outcome.Outcome.{Outcome}
use Rattle.tla_meaning.specs.declared.outcome.Outcome.TheVariants.{Val, Wrong, Big}
use Rattle.tla_meaning.specs.Outcomes.{IsNormalOutcome, join_faults, fault_of, joined, values, fault_or, strict, with_value}
use Rattle.tla_meaning.specs.Numbers.{Width}
use Rattle.tla_meaning.specs.Scopes.{Denotation, Scope, bind, find_last, or_else}
use Rattle.tla_meaning.specs.Meaning.{Update, outcomes, outer, inner, child, plain, except_marks, all_indexes, updates, updated, first_updated}
use Rattle.tla_meaning.specs.Actions.{meaning}
use Rattle.tla_meaning.proofs.Laws.{find-append}
use Rattle.tla_meaning.proofs.Views.{and_left, and_right, and_both, false≢true}
use Rattle.snowcat_rows.specs.declared.types.Ty.{Ty}
use Rattle.kernel_trees.specs.declared.kernel.Ker.{Ker}
use Rattle.kernel_trees.specs.declared.kernel.KerOp.{KerOp}
use Rattle.kernel_trees.specs.declared.kernel.KerOp.TheVariants as ker
use Rattle.kernel_trees.specs.Trees.{ker_val, ker_form, number_name}
use Rattle.kernel_trees.proofs.Operators.{form_plain, constant_value}
use Rattle.kernel_trees.proofs.Binders.{val_update, updated_by}
use Rattle.kernel_shapes.specs.Laws.{IsNormal}
use Rattle.kernel_reduction.specs.Reduction.{Numbering, Matched, Keeps, fresh, are_fresh, numbered, is_wide}
use Rattle.kernel_reduction.specs.Rows.{Let, bound, pairs, operand_at, Level, Change, changed_at, changed, all_levels, indexes, level_numbers, all_plain, is_plain, is_plain_op, is_plain_value, op_at, place_of, is_nil, read_changes, except_by_let}
use Rattle.kernel_reduction.specs.Builds.{is_let, is_except_let}
use Rattle.kernel_reduction.proofs.Widths.{fits_all, number_there}
use Rattle.kernel_reduction.proofs.Tying.{names_apart, not_true, tied_unread, tied_two}
use Rattle.kernel_reduction.proofs.Normals.{outcome_normal, bind_normal, matched_bind}
use Rattle.kernel_reduction.proofs.Outcomes.{strict_same, one_value, other_values, cons≢none}
use Rattle.kernel_reduction.proofs.Frame.{node_means, KeepsNode, plain_row}
use Rattle.kernel_reduction.proofs.Lets.{empty, let_scope, val_let, read_named}
use Rattle.kernel_reduction.proofs.Pairs.{literal_val}
use Rattle.kernel_reduction.proofs.Excepting.{last_number, HasLevels, Closed, HasChanges, many_val}
use Rattle.kernel_reduction.proofs.ExceptReads.{nested, index_vals, pairs_val, operand_val, HaveValues, AllGiven, all_values, changes_read}

-- ---- what the parts keep

pub data KeepsPath (w : Width) : Numbering → List ℕ → ℕ → List Expr → List Level → Ker → Type 0 where
  last_kept : (ρ : Numbering) (x : List ℕ) (e f : Expr) (l : Level) (k : Ker) →
      Keeps w ρ e l.index → Keeps w (numbered (x ∷ []) (l.number ∷ []) ρ) f k →
      KeepsPath w ρ x 1 (e ∷ f ∷ []) (l ∷ []) k
  level_kept : (ρ : Numbering) (x : List ℕ) (n : ℕ) (e : Expr) (es : List Expr) (l m : Level) (ls : List Level)
      (k : Ker) →
      Keeps w ρ e l.index → KeepsPath w ρ x n es (m ∷ ls) k → KeepsPath w ρ x (suc n) (e ∷ es) (l ∷ m ∷ ls) k

pub data KeepsChanges (w : Width) : Numbering → List ℕ → List ℕ → List Expr → List Change → Type 0 where
  none_kept : (ρ : Numbering) (x : List ℕ) → KeepsChanges w ρ x [] [] []
  change_kept : (ρ : Numbering) (x : List ℕ) (n : ℕ) (ns : List ℕ) (es : List Expr) (u : Change) (us : List Change) →
      KeepsPath w ρ x n (take (suc n) es) u.levels u.right → KeepsChanges w ρ x ns (drop (suc n) es) us →
      KeepsChanges w ρ x (n ∷ ns) es (u ∷ us)

-- ---- a path

module _ (w : Width) (ρ : Numbering) (x : List ℕ) (p : Place) where
  path_drop_outer : (n : ℕ) (fs : List Expr) (ls : List Level) (k : Ker) → KeepsPath w ρ x n fs ls k →
      (ms : List Bool) (rest : List Expr) (a : Scope) →
      drop (suc n) (outer p (replicate n false ++ true ∷ ms) (map (meaning w) (fs ++ rest)) a)
      ≡ outer p ms (map (meaning w) rest) a
  path_drop_outer n fs ls k (last_kept _ _ e f l _ h g) ms rest a = refl
  path_drop_outer n fs ls k (level_kept _ _ m e es l y zs _ h g) ms rest a = path_drop_outer m es (y ∷ zs) k g ms rest a

  path_drop_inner : (n : ℕ) (fs : List Expr) (ls : List Level) (k : Ker) → KeepsPath w ρ x n fs ls k →
      (ms : List Bool) (rest : List Expr) (a : Scope) →
      drop (suc n) (inner p (replicate n false ++ true ∷ ms) (map (meaning w) (fs ++ rest)) a)
      ≡ inner p ms (map (meaning w) rest) a
  path_drop_inner n fs ls k (last_kept _ _ e f l _ h g) ms rest a = refl
  path_drop_inner n fs ls k (level_kept _ _ m e es l y zs _ h g) ms rest a = path_drop_inner m es (y ∷ zs) k g ms rest a

  path_some : (n : ℕ) (fs : List Expr) (ls : List Level) (k : Ker) → KeepsPath w ρ x n fs ls k → is_nil ls ≡ false
  path_some n fs ls k (last_kept _ _ e f l _ h g) = refl
  path_some n fs ls k (level_kept _ _ m e es l y zs _ h g) = refl

  module _ (s t : State) where
    path_outcomes : (n : ℕ) (fs : List Expr) (ls : List Level) (k : Ker) → KeepsPath w ρ x n fs ls k →
        (ms : List Bool) (rest : List Expr) (a b : Scope) → Matched ρ a b s t →
        outcomes (take n (outer p (replicate n false ++ true ∷ ms) (map (meaning w) (fs ++ rest)) a)) s t
        ≡ index_vals w s t ls b
    path_outcomes n fs ls k (last_kept _ _ e f l _ h g) ms rest a b r = ap (λ o. o ∷ []) (h.value a b s t r)
    path_outcomes n fs ls k (level_kept _ _ m e es l y zs _ h g) ms rest a b r = λ i.
        h.value a b s t r i ∷ path_outcomes m es (y ∷ zs) k g ms rest a b r i

    path_right : (n : ℕ) (fs : List Expr) (ls : List Level) (k : Ker) → KeepsPath w ρ x n fs ls k →
        (ms : List Bool) (rest : List Expr) (a c : Scope) →
        Matched (numbered (x ∷ []) (last_number ls ∷ []) ρ) a c s t →
        (child p n (inner p (replicate n false ++ true ∷ ms) (map (meaning w) (fs ++ rest)) a)).value s t
        ≡ ker_val w k c s t
    path_right n fs ls k (last_kept _ _ e f l _ h g) ms rest a c r = g.value a c s t r
    path_right n fs ls k (level_kept _ _ m e es l y zs _ h g) ms rest a c r = path_right m es (y ∷ zs) k g ms rest a c r

    path_normal : (n : ℕ) (fs : List Expr) (ls : List Level) (k : Ker) → KeepsPath w ρ x n fs ls k →
        (ms : List Bool) (rest : List Expr) (a : Scope) → IsNormal a s t →
        IsNormalOutcome
        ((child p n (inner p (replicate n false ++ true ∷ ms) (map (meaning w) (fs ++ rest)) a)).value s t)
    path_normal n fs ls k (last_kept _ _ e f l _ h g) ms rest a r = outcome_normal w f a s t r
    path_normal n fs ls k (level_kept _ _ m e es l y zs _ h g) ms rest a r = path_normal m es (y ∷ zs) k g ms rest a r

    -- ---- all indexes

    pub changes_outcomes : (ns : List ℕ) (es : List Expr) (us : List Change) → KeepsChanges w ρ x ns es us →
        (a b : Scope) → Matched ρ a b s t →
        outcomes (all_indexes ns (outer p (except_marks ns) (map (meaning w) es) a)) s t
        ≡ index_vals w s t (all_levels us) b
    changes_outcomes ns es us (none_kept _ _) a b r = refl
    changes_outcomes ns es us (change_kept _ _ n ms _ u vs h g) a b r =
        ap (λ z. outcomes
        (all_indexes (n ∷ ms) (outer p (replicate n false ++ true ∷ except_marks ms) (map (meaning w) z) a)) s t)
        (sym (take-append-drop (suc n) es))
        ∙ ap (λ z. outcomes
        (take n (outer p (replicate n false ++ true ∷ except_marks ms)
        (map (meaning w) (take (suc n) es ++ drop (suc n) es)) a) ++ all_indexes ms z) s t)
        (path_drop_outer n (take (suc n) es) u.levels u.right h (except_marks ms) (drop (suc n) es) a)
        ∙ map-append (λ (d : Denotation). d.value s t)
        (take n (outer p (replicate n false ++ true ∷ except_marks ms)
        (map (meaning w) (take (suc n) es ++ drop (suc n) es)) a)) _
        ∙ (λ i. path_outcomes n (take (suc n) es) u.levels u.right h (except_marks ms)
        (drop (suc n) es) a b r i ++ changes_outcomes ms (drop (suc n) es) vs g a b r i)
        ∙ sym (map-append (λ (l : Level). ker_val w l.index b s t) u.levels (all_levels vs))

-- ---- outcomes that are values

abbrev AreVals : List Outcome → Type 0
AreVals [] = Unit {0}
AreVals (Val v ∷ os) = AreVals os
AreVals (Wrong q ∷ os) = ⊥
AreVals (Big q ∷ os) = ⊥

vals_there : (vs : List Value) → AreVals (map Val vs)
vals_there [] = tt
vals_there (v ∷ vs) = vals_there vs

vals_left : (os us : List Outcome) → AreVals (os ++ us) → AreVals os
vals_left [] us h = tt
vals_left (Val v ∷ os) us h = vals_left os us h
vals_left (Wrong q ∷ os) us h = absurd h
vals_left (Big q ∷ os) us h = absurd h

vals_right : (os us : List Outcome) → AreVals (os ++ us) → AreVals us
vals_right [] us h = h
vals_right (Val v ∷ os) us h = vals_right os us h
vals_right (Wrong q ∷ os) us h = absurd h
vals_right (Big q ∷ os) us h = absurd h

module _ (w : Width) (wide : is_wide w ≡ true) (s t : State) (b : Scope) where
  have_vals : (ls : List Level) → AreVals (index_vals w s t ls b) →
      HaveValues w wide s t b ls (values (index_vals w s t ls b))
  have_vals [] h = tt
  have_vals (l ∷ ls) h = by (ker_val w l.index b s t) refl h (have_vals ls)
    where
      by : (o : Outcome) → ker_val w l.index b s t ≡ o → AreVals (o ∷ index_vals w s t ls b) →
          (AreVals (index_vals w s t ls b) → HaveValues w wide s t b ls (values (index_vals w s t ls b))) →
          HaveValues w wide s t b (l ∷ ls) (values (o ∷ index_vals w s t ls b))
      by (Val v) e h rec = (e, rec h)
      by (Wrong q) e h rec = absurd h
      by (Big q) e h rec = absurd h

  vals_of : (ls : List Level) (vs : List Value) → HaveValues w wide s t b ls vs → index_vals w s t ls b ≡ map Val vs
  vals_of [] [] h = refl
  vals_of [] (v ∷ vs) h = absurd h
  vals_of (l ∷ ls) [] h = absurd h
  vals_of (l ∷ ls) (v ∷ vs) h = λ i. h.0 i ∷ vals_of ls vs h.1 i

  given_vals : (p : Place) (P : Scope → Type 0) (us : List Change) (ys : List Update) →
      AllGiven w wide s t b p P us ys → index_vals w s t (all_levels us) b ≡ map Val (all_values w wide s t b ys)
  given_vals p P [] [] h = refl
  given_vals p P [] (y ∷ ys) h = absurd h
  given_vals p P (u ∷ us) [] h = absurd h
  given_vals p P (u ∷ us) (y ∷ ys) h =
      map-append (λ (l : Level). ker_val w l.index b s t) u.levels (all_levels us)
      ∙ (λ i. vals_of u.levels y.0 h.0.indexes i ++ given_vals p P us ys h.1 i)
      ∙ sym (map-append Val y.0 (all_values w wide s t b ys))

-- ---- updates, where all indexes have values

module _ (w : Width) (wide : is_wide w ≡ true) (ρ : Numbering) (x : List ℕ) (p : Place) (s t : State) (a b : Scope)
    (r : Matched ρ a b s t) where
  module _ (P : Scope → Type 0) (matched : (c : Scope) → P c → Matched ρ a c s t) (ok : ℕ → Bool)
      (free : (n : ℕ) → ok n ≡ true → fresh n ρ ≡ true) where
    module _ (more : (n : ℕ) → ok n ≡ true → (c : Scope) (v : Value) → Normal v → P c →
        P (bind (number_name n ∷ []) (v ∷ []) c)) where
      all_closed : (ls : List Level) → list_all ok (map (λ l. l.number) ls) ≡ true → Closed w s t p P ls
      all_closed [] h = tt
      all_closed (l ∷ ls) h = (
        more l.number (and_left (ok l.number) (list_all ok (map (λ l. l.number) ls)) h),
        all_closed ls (and_right (ok l.number) (list_all ok (map (λ l. l.number) ls)) h),
      )

      last_free : (ls : List Level) → is_nil ls ≡ false → list_all ok (map (λ l. l.number) ls) ≡ true →
          fresh (last_number ls) ρ ≡ true
      last_free [] g h = absurd (true≢false g)
      last_free (l ∷ []) g h = free l.number (and_left (ok l.number) true h)
      last_free (l ∷ m ∷ ls) g h =
          last_free (m ∷ ls) refl (and_right (ok l.number) (list_all ok (map (λ l. l.number) (m ∷ ls))) h)

      oks_left : (ns ms : List ℕ) → list_all ok (ns ++ ms) ≡ true → list_all ok ns ≡ true
      oks_left [] ms h = refl
      oks_left (n ∷ ns) ms h =
          and_both (ok n) (list_all ok ns) (and_left (ok n) (list_all ok (ns ++ ms)) h)
          (oks_left ns ms (and_right (ok n) (list_all ok (ns ++ ms)) h))

      oks_right : (ns ms : List ℕ) → list_all ok (ns ++ ms) ≡ true → list_all ok ms ≡ true
      oks_right [] ms h = h
      oks_right (n ∷ ns) ms h = oks_right ns ms (and_right (ok n) (list_all ok (ns ++ ms)) h)

      abbrev job_updates : List ℕ → List Expr → List Update
      job_updates ns es =
          updates p ns (outer p (except_marks ns) (map (meaning w) es) a)
          (λ vs. inner p (except_marks ns) (map (meaning w) es) (bind (x ∷ []) vs a)) s t

      pub all_given : (ns : List ℕ) (es : List Expr) (us : List Change) → KeepsChanges w ρ x ns es us →
          list_all ok (level_numbers us) ≡ true →
          AreVals (index_vals w s t (all_levels us) b) → AllGiven w wide s t b p P us (job_updates ns es)
      all_given ns es us (none_kept _ _) h g = tt
      all_given ns es us (change_kept _ _ n ms _ u vs k m) h g =
          let fs : List Expr = take (suc n) es in
          let rest : List Expr = drop (suc n) es in
          let numbers : list_all ok (map (λ l. l.number) u.levels ++ level_numbers vs) ≡ true =
          subst (λ z. list_all ok z ≡ true) (map-append (λ (l : Level). l.number) u.levels (all_levels vs)) h in
          let here : list_all ok (map (λ l. l.number) u.levels) ≡ true =
          oks_left (map (λ l. l.number) u.levels) (level_numbers vs) numbers in
          let there : AreVals (index_vals w s t u.levels b ++ index_vals w s t (all_levels vs) b) =
          subst AreVals (map-append (λ (l : Level). ker_val w l.index b s t) u.levels (all_levels vs)) g in
          let some : is_nil u.levels ≡ false = path_some w ρ x p n fs u.levels u.right k in
          let free_last : fresh (last_number u.levels) ρ ≡ true = last_free u.levels some here in
          subst (λ z. AllGiven w wide s t b p P (u ∷ vs) (job_updates (n ∷ ms) z)) (take-append-drop (suc n) es) (
            record {
              indexes = subst (λ z. HaveValues w wide s t b u.levels (values z))
                  (sym (path_outcomes w ρ x p s t n fs u.levels u.right k (except_marks ms) rest a b r))
                  (have_vals w wide s t b u.levels
                  (vals_left (index_vals w s t u.levels b) (index_vals w s t (all_levels vs) b) there));
              closed = all_closed u.levels here;
              right = λ c q old o.
                  sym (path_right w ρ x p s t n fs u.levels u.right k (except_marks ms) rest
                  (bind (x ∷ []) (old ∷ []) a)
                  (bind (number_name (last_number u.levels) ∷ []) (old ∷ []) c)
                  (matched_bind (x ∷ []) (last_number u.levels ∷ []) (old ∷ []) ρ a c s t
                  (and_both (fresh (last_number u.levels) ρ) true free_last refl) (o, tt) (matched c q)));
              normal = λ v o.
                  path_normal w ρ x p s t n fs u.levels u.right k (except_marks ms) rest (bind (x ∷ []) (v ∷ []) a)
                  (bind_normal (x ∷ []) (v ∷ []) a s t (o, tt) r.normal);
              some = some;
            },
            subst (λ z. AllGiven w wide s t b p P vs z)
                (sym (λ i. updates p ms (path_drop_outer w ρ x p n fs u.levels u.right k (except_marks ms) rest a i)
                (λ vs. path_drop_inner w ρ x p n fs u.levels u.right k (except_marks ms) rest
                (bind (x ∷ []) vs a) i) s t))
                (all_given ms rest vs m (oks_right (map (λ l. l.number) u.levels) (level_numbers vs) numbers)
                (vals_right (index_vals w s t u.levels b) (index_vals w s t (all_levels vs) b) there)),
          )

-- ---- with a LET

with_nested : (os : List Outcome) (f : Value → Outcome) →
    with_value (strict os (λ vs. Val (nested vs))) f ≡ strict os (λ vs. f (nested vs))
with_nested os f = by (joined os)
  where
    by : (g : Fault) → with_value (fault_or g (Val (nested (values os)))) f ≡ fault_or g (f (nested (values os)))
    by NoFault = refl
    by (IsWrong q) = refl
    by (IsBig q) = refl

values_back : (vs : List Value) → values (map Val vs) ≡ vs
values_back [] = refl
values_back (v ∷ vs) = ap (λ l. v ∷ l) (values_back vs)

not_any : (l n : ℕ) (ns : List ℕ) → not (list_any (nat_eq l) (n ∷ ns)) ≡ true →
    (nat_eq l n ≡ false) × (not (list_any (nat_eq l) ns) ≡ true)
not_any l n ns h = by (nat_eq l n) refl h
  where
    by : (x : Bool) → nat_eq l n ≡ x → not (x || list_any (nat_eq l) ns) ≡ true →
        (nat_eq l n ≡ false) × (not (list_any (nat_eq l) ns) ≡ true)
    by true e h = absurd (false≢true h)
    by false e h = (e, h)

all_apart : (l : ℕ) (ρ : Numbering) (ns : List ℕ) → are_fresh ns ρ ≡ true → not (list_any (nat_eq l) ns) ≡ true →
    list_all (λ n. fresh n ρ && not (nat_eq l n)) ns ≡ true
all_apart l ρ [] h g = refl
all_apart l ρ (n ∷ ns) h g =
    let k = not_any l n ns g in
    and_both (fresh n ρ && not (nat_eq l n)) (list_all (λ n. fresh n ρ && not (nat_eq l n)) ns)
    (and_both (fresh n ρ) (not (nat_eq l n)) (and_left (fresh n ρ) (are_fresh ns ρ) h) (ap not k.0))
    (all_apart l ρ ns (and_right (fresh n ρ) (are_fresh ns ρ) h) k.1)

module _ (w : Width) (wide : is_wide w ≡ true) (ρ : Numbering) (x : List ℕ) (p : Place) (cs : List ℕ) (e : Expr)
    (es : List Expr) (f : Ker) (h : Keeps w ρ e f) where
  abbrev the_updates : Scope → State → State → List Update
  the_updates a s t =
      updates p cs (outer p (except_marks cs) (map (meaning w) es) a)
      (λ vs. inner p (except_marks cs) (map (meaning w) es) (bind (x ∷ []) vs a)) s t

  -- the language's EXCEPT, of the kernel's operands
  job_val : (us : List Change) → KeepsChanges w ρ x cs es us → (a b : Scope) (s t : State) → Matched ρ a b s t →
      (node_means w p (op.Except cs) (e ∷ es) (x ∷ []) a).value s t
      ≡ strict (ker_val w f b s t ∷ index_vals w s t (all_levels us) b) (first_updated p (the_updates a s t))
  job_val us k a b s t r = λ i.
      strict (h.value a b s t r i ∷ changes_outcomes w ρ x p s t cs es us k a b r i)
      (first_updated p (the_updates a s t))

  pub keeps_except_let : (us : List Change) (l : Let) (ty : Ty) → is_except_let l (level_numbers us) ρ ≡ true →
      all_plain (indexes us) ≡ false →
      KeepsChanges w ρ x cs es us → KeepsNode w ρ p (op.Except cs) (e ∷ es) (x ∷ []) (except_by_let p l ty f us)
  keeps_except_let us l ty d g k =
      plain_row w ρ p p (op.Except cs) (e ∷ es) (x ∷ []) l.type ker.First _ [] (λ a s t. refl) (λ s t. refl) row
    where
      first_two : (is_let l && are_fresh (l.unread ∷ l.named ∷ level_numbers us) ρ) ≡ true
      first_two = and_left (is_let l && are_fresh (l.unread ∷ l.named ∷ level_numbers us) ρ)
          (not (list_any (nat_eq l.named) (level_numbers us))) d

      all_free : are_fresh (l.unread ∷ l.named ∷ level_numbers us) ρ ≡ true
      all_free = and_right (is_let l) (are_fresh (l.unread ∷ l.named ∷ level_numbers us) ρ) first_two

      unread_free : fresh l.unread ρ ≡ true
      unread_free = and_left (fresh l.unread ρ) (are_fresh (l.named ∷ level_numbers us) ρ) all_free

      named_free : fresh l.named ρ ≡ true
      named_free =
          and_left (fresh l.named ρ) (are_fresh (level_numbers us) ρ)
          (and_right (fresh l.unread ρ) (are_fresh (l.named ∷ level_numbers us) ρ) all_free)

      levels_free : are_fresh (level_numbers us) ρ ≡ true
      levels_free =
          and_right (fresh l.named ρ) (are_fresh (level_numbers us) ρ)
          (and_right (fresh l.unread ρ) (are_fresh (l.named ∷ level_numbers us) ρ) all_free)

      apart : not (list_any (nat_eq l.named) (level_numbers us)) ≡ true
      apart = and_right (is_let l && are_fresh (l.unread ∷ l.named ∷ level_numbers us) ρ)
          (not (list_any (nat_eq l.named) (level_numbers us))) d

      -- some index is behind the first
      some_behind : (us : List Change) (vs : List Value) → all_plain (indexes us) ≡ false → (s t : State) (b : Scope) →
          index_vals w s t (all_levels us) b ≡ map Val vs → is_nil vs ≡ false
      some_behind us [] g s t b q = absurd (none_at (all_levels us) q g)
        where
          none_at : (ls : List Level) → index_vals w s t ls b ≡ [] → all_plain (map (λ y. y.index) ls) ≡ false → ⊥
          none_at [] q g = true≢false g
          none_at (y ∷ ls) q g = cons≢none q
      some_behind us (v ∷ vs) g s t b q = refl

      row : (a b : Scope) (s t : State) → Matched ρ a b s t →
          (node_means w p (op.Except cs) (e ∷ es) (x ∷ []) a).value s t ≡ ker_val w (except_by_let p l ty f us) b s t
      row a b s t r =
          job_val us k a b s t r
          ∙ sym (val_let w s t p l (pairs p ty f (all_levels us)) body b
          (and_left (is_let l) (are_fresh (l.unread ∷ l.named ∷ level_numbers us) ρ) first_two)
          ∙ ap (λ o. with_value o (λ v. ker_val w body (let_scope l v b) s t))
          (pairs_val w s t p ty f (all_levels us) b)
          ∙ with_nested (ker_val w f b s t ∷ index_vals w s t (all_levels us) b)
          (λ v. ker_val w body (let_scope l v b) s t)
          ∙ strict_same (ker_val w f b s t ∷ index_vals w s t (all_levels us) b) _
          (first_updated p (the_updates a s t)) at_values)
        where
          body : Ker
          body = changed p l.type (operand_at l ty [] false f) (read_changes l ty [] us)

          at_values : (vs : List Value) → ker_val w f b s t ∷ index_vals w s t (all_levels us) b ≡ map Val vs →
              ker_val w body (let_scope l (nested vs) b) s t ≡ first_updated p (the_updates a s t) vs
          at_values [] q = absurd (cons≢none q)
          at_values (v ∷ vs) q =
              many_val w s t p P l.type (operand_at l ty [] false f) (read_changes l ty [] us) (the_updates a s t)
              (let_scope l whole b)
              (changes_read w wide s t b p P l ty whole (λ c z. z.0) [] (v ∷ []) us (the_updates a s t) tt given
              (ap (λ z. nested (v ∷ z)) same_values))
              here (subst IsNormalOutcome (sym function_val) normal_function)
              ∙ ap (λ o. with_value o (updated p (the_updates a s t))) function_val
            where
              whole : Value
              whole = nested (v ∷ vs)

              P : Scope → Type 0
              P c = (find_last (number_name l.named) c.bound ≡ Some whole) × Matched ρ a c s t

              here : P (let_scope l whole b)
              here = (
                read_named l whole b,
                record {
                  tied = tied_two l.unread l.named empty whole ρ a b unread_free named_free r.tied;
                  normal = r.normal;
                },
              )

              indexes_are : index_vals w s t (all_levels us) b ≡ map Val vs
              indexes_are = other_values q

              given : AllGiven w wide s t b p P us (the_updates a s t)
              given =
                  all_given w wide ρ x p s t a b r P (λ c z. z.1) (λ n. fresh n ρ && not (nat_eq l.named n))
                  (λ n z. and_left (fresh n ρ) (not (nat_eq l.named n)) z)
                  (λ n z c u o y. (
                    find-append (number_name l.named) c.bound ((number_name n, u) ∷ [])
                        ∙ ap (λ i. or_else (or_else None (if i then Some u else None))
                        (find_last (number_name l.named) c.bound))
                        (names_apart l.named n
                        (not_true (nat_eq l.named n) (and_right (fresh n ρ) (not (nat_eq l.named n)) z)))
                        ∙ y.0,
                    record {
                      tied = tied_unread ρ a c y.1.tied n
                          (and_left (fresh n ρ) (not (nat_eq l.named n)) z) u;
                      normal = r.normal;
                    },
                  ))
                  cs es us k (all_apart l.named ρ (level_numbers us) levels_free apart)
                  (subst AreVals (sym indexes_are) (vals_there vs))

              same_values : vs ≡ all_values w wide s t b (the_updates a s t)
              same_values =
                  sym (values_back vs)
                  ∙ ap values (sym indexes_are ∙ given_vals w wide s t b p P us (the_updates a s t) given)
                  ∙ values_back (all_values w wide s t b (the_updates a s t))

              function_val : ker_val w (operand_at l ty [] false f) (let_scope l whole b) s t ≡ Val v
              function_val =
                  operand_val w wide s t (let_scope l whole b) l ty [] false f [] v vs (read_named l whole b) tt
                  (some_behind us vs g s t b indexes_are)

              normal_function : IsNormalOutcome (Val v)
              normal_function =
                  subst IsNormalOutcome (h.value a b s t r ∙ one_value q) (outcome_normal w e a s t r.normal)

-- ---- without a LET

abbrev is_val : Outcome → Bool
is_val (Val v) = true
is_val (Wrong q) = false
is_val (Big q) = false

vals_none : (os : List Outcome) → AreVals os → joined os ≡ NoFault
vals_none [] h = refl
vals_none (Val v ∷ os) h = vals_none os h
vals_none (Wrong q ∷ os) h = absurd h
vals_none (Big q ∷ os) h = absurd h

-- of a fault and others without a fault, it is the outcome
of_values : (p : Place) (us : List Update) (o : Outcome) (os : List Outcome) → AreVals os →
    strict (o ∷ os) (first_updated p us) ≡ with_value o (updated p us)
of_values p us (Val v) os h = ap (λ g. fault_or g (updated p us v)) (vals_none os h)
of_values p us (Wrong q) os h =
    ap (λ g. fault_or (join_faults (IsWrong q) g) (first_updated p us (values os))) (vals_none os h)
of_values p us (Big q) os h =
    ap (λ g. fault_or (join_faults (IsBig q) g) (first_updated p us (values os))) (vals_none os h)

fault_first : (o u : Outcome) (os : List Outcome) (f : List Value → Outcome) → is_val o ≡ false → AreVals (u ∷ os) →
    strict (o ∷ u ∷ []) f ≡ o
fault_first (Val v) u os f h g = absurd (true≢false h)
fault_first (Wrong q) (Val v) os f h g = refl
fault_first (Wrong q) (Wrong r) os f h g = absurd g
fault_first (Wrong q) (Big r) os f h g = absurd g
fault_first (Big q) (Val v) os f h g = refl
fault_first (Big q) (Wrong r) os f h g = absurd g
fault_first (Big q) (Big r) os f h g = absurd g

-- where the second of several has a fault, and those behind it have none
fault_second : (o u : Outcome) (os : List Outcome) (f g : List Value → Outcome) → is_val u ≡ false → AreVals os →
    strict (o ∷ u ∷ os) f ≡ strict (o ∷ u ∷ []) g
fault_second o u os f g h k =
    ap (λ x. fault_or (join_faults (fault_of o) (join_faults (fault_of u) x)) (f (values (o ∷ u ∷ os))))
    (vals_none os k) ∙ by o u (f (values (o ∷ u ∷ os))) h
  where
    by : (o u y : Outcome) → is_val u ≡ false →
        fault_or (join_faults (fault_of o) (join_faults (fault_of u) NoFault)) y ≡ strict (o ∷ u ∷ []) g
    by o (Val v) y h = absurd (true≢false h)
    by (Val v) (Wrong q) y h = refl
    by (Val v) (Big q) y h = refl
    by (Wrong r) (Wrong q) y h = refl
    by (Wrong r) (Big q) y h = refl
    by (Big r) (Wrong q) y h = refl
    by (Big r) (Big q) y h = refl

fault_stays : (o u : Outcome) (f : List Value → Outcome) → is_val u ≡ false → is_val (strict (o ∷ u ∷ []) f) ≡ false
fault_stays o (Val v) f h = absurd (true≢false h)
fault_stays (Val v) (Wrong q) f h = refl
fault_stays (Val v) (Big q) f h = refl
fault_stays (Wrong r) (Wrong q) f h = refl
fault_stays (Wrong r) (Big q) f h = refl
fault_stays (Big r) (Wrong q) f h = refl
fault_stays (Big r) (Big q) f h = refl

-- an update is a set by its value
update_plain : (w : Width) (p : Place) (a : Ty) (k : Ker) (us : List Change) →
    ((b : Scope) (s t : State) → ker_form w k b s t ≡ plain (ker_val w k b s t)) → (b : Scope) (s t : State) →
    ker_form w (changed p a k us) b s t ≡ plain (ker_val w (changed p a k us) b s t)
update_plain w p a k [] h b s t = h b s t
update_plain w p a k (u ∷ us) h b s t =
    update_plain w p a (changed_at p a k u.levels u.right) us (λ b s t. one u.levels b s t) b s t
  where
    one : (ls : List Level) (b : Scope) (s t : State) →
        ker_form w (changed_at p a k ls u.right) b s t ≡ plain (ker_val w (changed_at p a k ls u.right) b s t)
    one [] b s t = h b s t
    one (l ∷ []) b s t = form_plain w s t p a ker.Update _ _ b refl
    one (l ∷ m ∷ ls) b s t = form_plain w s t p a ker.Update _ _ b refl

first_plain : (w : Width) (p : Place) (a : Ty) (k : Ker) (u : Change) (us : List Change) → is_nil u.levels ≡ false →
    (b : Scope) (s t : State) →
    ker_form w (changed p a k (u ∷ us)) b s t ≡ plain (ker_val w (changed p a k (u ∷ us)) b s t)
first_plain w p a k u us g = update_plain w p a (changed_at p a k u.levels u.right) us (λ b s t. one u.levels g b s t)
  where
    one : (ls : List Level) → is_nil ls ≡ false → (b : Scope) (s t : State) →
        ker_form w (changed_at p a k ls u.right) b s t ≡ plain (ker_val w (changed_at p a k ls u.right) b s t)
    one [] g b s t = absurd (true≢false g)
    one (l ∷ []) g b s t = form_plain w s t p a ker.Update _ _ b refl
    one (l ∷ m ∷ ls) g b s t = form_plain w s t p a ker.Update _ _ b refl

module _ (w : Width) (wide : is_wide w ≡ true) (s t : State) (c : Scope) where
  plain_val : (k : Ker) (os : List Outcome) → is_plain k ≡ true → AreVals os → AreVals (ker_val w k c s t ∷ os)
  plain_val k os h g = by (op_at k) refl h
    where
      of_layer : (l : Layer Value) → is_plain_value l ≡ true → AreVals (constant_value w (place_of k) l ∷ os)
      of_layer (layer.Bool b) h = g
      of_layer (layer.Int i) h =
          subst (λ o. AreVals (o ∷ os)) (sym (number_there w (place_of k) i (fits_all w wide i h))) g
      of_layer (layer.Text x) h = g
      of_layer l h = absurd (false≢true h)

      by : (o : KerOp) → op_at k ≡ o → is_plain_op o ≡ true → AreVals (ker_val w k c s t ∷ os)
      by (ker.Const v) e h = subst (λ o. AreVals (o ∷ os)) (sym (literal_val w s t c k v e)) (of_layer (out-Value v) h)
      by o e h = absurd (false≢true h)

  plain_vals : (ls : List Level) → list_all is_plain (map (λ l. l.index) ls) ≡ true → AreVals (index_vals w s t ls c)
  plain_vals [] h = tt
  plain_vals (l ∷ ls) h =
      plain_val l.index (index_vals w s t ls c)
      (and_left (is_plain l.index) (list_all is_plain (map (λ l. l.index) ls)) h)
      (plain_vals ls (and_right (is_plain l.index) (list_all is_plain (map (λ l. l.index) ls)) h))

  -- a fault of the function is that of the updates
  fault_val : (p : Place) (a : Ty) (k : Ker) (us : List Change) → is_val (ker_val w k c s t) ≡ false →
      AreVals (index_vals w s t (all_levels us) c) →
      ker_val w (changed p a k us) c s t ≡ ker_val w k c s t
  fault_val p a k [] h g = refl
  fault_val p a k (u ∷ us) h g =
      let there : AreVals (index_vals w s t u.levels c ++ index_vals w s t (all_levels us) c) =
      subst AreVals (map-append (λ (l : Level). ker_val w l.index c s t) u.levels (all_levels us)) g in
      let e = one u.levels (vals_left (index_vals w s t u.levels c) (index_vals w s t (all_levels us) c) there) in
      fault_val p a (changed_at p a k u.levels u.right) us (ap is_val e ∙ h)
      (vals_right (index_vals w s t u.levels c) (index_vals w s t (all_levels us) c) there) ∙ e
    where
      one : (ls : List Level) → AreVals (index_vals w s t ls c) →
          ker_val w (changed_at p a k ls u.right) c s t ≡ ker_val w k c s t
      one [] g = refl
      one (l ∷ []) g = val_update w s t p a k l.index u.right l.number c
          ∙ fault_first (ker_val w k c s t) (ker_val w l.index c s t) []
          (updated_by w s t p (λ old. ker_val w u.right (bind (number_name l.number ∷ []) (old ∷ []) c) s t)) h g
      one (l ∷ m ∷ ls) g =
          val_update w s t p a k l.index (changed_at p l.inner (bound p l.inner l.number) (m ∷ ls) u.right) l.number c
          ∙ fault_first (ker_val w k c s t) (ker_val w l.index c s t) (index_vals w s t (m ∷ ls) c)
          (updated_by w s t p
          (λ old. ker_val w (changed_at p l.inner (bound p l.inner l.number) (m ∷ ls) u.right)
          (bind (number_name l.number ∷ []) (old ∷ []) c) s t)) h g

-- in scopes that are matched an index has one outcome
module _ (w : Width) (wide : is_wide w ≡ true) (ρ : Numbering) (x : List ℕ) (p : Place) (s t : State) (a b : Scope)
    (r : Matched ρ a b s t) where
  path_levels : (n : ℕ) (fs : List Expr) (ls : List Level) (k : Ker) → KeepsPath w ρ x n fs ls k → (vs : List Value) →
      HaveValues w wide s t b ls vs →
      HasLevels w s t p (λ c. Matched ρ a c s t) ls vs
  path_levels n fs ls k (last_kept _ _ e f l _ h g) [] y = absurd y
  path_levels n fs ls k (last_kept _ _ e f l _ h g) (v ∷ []) y =
      (λ c q. sym (h.value a c s t q) ∙ h.value a b s t r ∙ y.0, tt)
  path_levels n fs ls k (last_kept _ _ e f l _ h g) (v ∷ u ∷ vs) y = absurd y.1
  path_levels n fs ls k (level_kept _ _ m e es l z zs _ h g) [] y = absurd y
  path_levels n fs ls k (level_kept _ _ m e es l z zs _ h g) (v ∷ vs) y =
      (λ c q. sym (h.value a c s t q) ∙ h.value a b s t r ∙ y.0, path_levels m es (z ∷ zs) k g vs y.1)

  changes_levels : (ns : List ℕ) (es : List Expr) (us : List Change) → KeepsChanges w ρ x ns es us →
      (ys : List Update) →
      AllGiven w wide s t b p (λ c. Matched ρ a c s t) us ys → HasChanges w s t p (λ c. Matched ρ a c s t) us ys
  changes_levels ns es us (none_kept _ _) [] h = tt
  changes_levels ns es us (none_kept _ _) (y ∷ ys) h = absurd h
  changes_levels ns es us (change_kept _ _ n ms _ u vs k m) [] h = absurd h
  changes_levels ns es us (change_kept _ _ n ms _ u vs k m) (y ∷ ys) h = (
    record {
      levels = path_levels n (take (suc n) es) u.levels u.right k y.0 h.0.indexes;
      closed = h.0.closed;
      right = h.0.right;
      normal = h.0.normal;
      some = h.0.some;
    },
    changes_levels ms (drop (suc n) es) vs m ys h.1,
  )

module _ (w : Width) (wide : is_wide w ≡ true) (ρ : Numbering) (x : List ℕ) (p : Place) (cs : List ℕ) (e : Expr)
    (es : List Expr) (f : Ker) (h : Keeps w ρ e f) where
  pub keeps_except : (c : Ty) (u : Change) (us : List Change) → all_plain (indexes (u ∷ us)) ≡ true →
      are_fresh (level_numbers (u ∷ us)) ρ ≡ true →
      KeepsChanges w ρ x cs es (u ∷ us) → KeepsNode w ρ p (op.Except cs) (e ∷ es) (x ∷ []) (changed p c f (u ∷ us))
  keeps_except c u us g d k = record {
    value = row;
    form = λ a b s t r. ap plain (row a b s t r) ∙ sym (first_plain w p c f u us (some k) b s t);
  }
    where
      some : {ns : List ℕ} {es : List Expr} → KeepsChanges w ρ x ns es (u ∷ us) → is_nil u.levels ≡ false
      some (change_kept _ _ n ms fs _ _ y z) = path_some w ρ x p n (take (suc n) fs) u.levels u.right y

      row : (a b : Scope) (s t : State) → Matched ρ a b s t →
          (node_means w p (op.Except cs) (e ∷ es) (x ∷ []) a).value s t ≡ ker_val w (changed p c f (u ∷ us)) b s t
      row a b s t r = job_val w wide ρ x p cs e es f h (u ∷ us) k a b s t r ∙ by_levels u.levels refl
        where
          ups : List Update
          ups = the_updates w wide ρ x p cs e es f h a s t

          -- where all indexes have values
          all_valued : AreVals (index_vals w s t (all_levels (u ∷ us)) b) →
              strict (ker_val w f b s t ∷ index_vals w s t (all_levels (u ∷ us)) b) (first_updated p ups)
              ≡ ker_val w (changed p c f (u ∷ us)) b s t
          all_valued y =
              of_values p ups (ker_val w f b s t) (index_vals w s t (all_levels (u ∷ us)) b) y
              ∙ sym (many_val w s t p (λ z. Matched ρ a z s t) c f (u ∷ us) ups b
              (changes_levels w wide ρ x p s t a b r cs es (u ∷ us) k ups
              (all_given w wide ρ x p s t a b r (λ z. Matched ρ a z s t) (λ z q. q) (λ n. fresh n ρ) (λ n q. q)
              (λ n q z v o y. record { tied = tied_unread ρ a z y.tied n q v; normal = y.normal })
              cs es (u ∷ us) k d y))
              r (subst IsNormalOutcome (h.value a b s t r) (outcome_normal w e a s t r.normal)))

          -- the first index has a fault, and the others, which are plain, have none
          faulty : (l : Level) (ls : List Level) → u.levels ≡ l ∷ ls → is_val (ker_val w l.index b s t) ≡ false →
              list_all is_plain (map (λ l. l.index) (ls ++ all_levels us)) ≡ true →
              strict (ker_val w f b s t ∷ index_vals w s t (all_levels (u ∷ us)) b) (first_updated p ups)
              ≡ ker_val w (changed p c f (u ∷ us)) b s t
          faulty l ls q y z =
              ap (λ z. strict (ker_val w f b s t ∷ index_vals w s t (z ++ all_levels us) b) (first_updated p ups)) q
              ∙ fault_second (ker_val w f b s t) (ker_val w l.index b s t) (index_vals w s t (ls ++ all_levels us) b)
              (first_updated p ups) (λ vs. Wrong p) y rest_vals
              ∙ sym (fault_val w wide s t b p c (changed_at p c f u.levels u.right) us
              (ap is_val there ∙ fault_stays (ker_val w f b s t) (ker_val w l.index b s t) (λ vs. Wrong p) y)
              (vals_right (index_vals w s t ls b) (index_vals w s t (all_levels us) b)
              (subst AreVals (map-append (λ (l : Level). ker_val w l.index b s t) ls (all_levels us)) rest_vals))
              ∙ there)
            where
              rest_vals : AreVals (index_vals w s t (ls ++ all_levels us) b)
              rest_vals = plain_vals w wide s t b (ls ++ all_levels us) z

              head : (ls : List Level) →
                  ker_val w (changed_at p c f (l ∷ ls) u.right) b s t
                  ≡ strict (ker_val w f b s t ∷ ker_val w l.index b s t ∷ []) (λ vs. Wrong p)
              head [] =
                  val_update w s t p c f l.index u.right l.number b
                  ∙ fault_second (ker_val w f b s t) (ker_val w l.index b s t) []
                  (updated_by w s t p (λ old. ker_val w u.right (bind (number_name l.number ∷ []) (old ∷ []) b) s t))
                  (λ vs. Wrong p) y tt
              head (m ∷ ls) =
                  val_update w s t p c f l.index
                  (changed_at p l.inner (bound p l.inner l.number) (m ∷ ls) u.right) l.number b
                  ∙ fault_second (ker_val w f b s t) (ker_val w l.index b s t) []
                  (updated_by w s t p
                  (λ old. ker_val w (changed_at p l.inner (bound p l.inner l.number) (m ∷ ls) u.right)
                  (bind (number_name l.number ∷ []) (old ∷ []) b) s t)) (λ vs. Wrong p) y tt

              there : ker_val w (changed_at p c f u.levels u.right) b s t
                  ≡ strict (ker_val w f b s t ∷ ker_val w l.index b s t ∷ []) (λ vs. Wrong p)
              there = ap (λ z. ker_val w (changed_at p c f z u.right) b s t) q ∙ head ls

          -- by the first index, behind which all are plain
          by_first : (l : Level) (ls : List Level) → u.levels ≡ l ∷ ls → (o : Outcome) → ker_val w l.index b s t ≡ o →
              list_all is_plain (map (λ l. l.index) (ls ++ all_levels us)) ≡ true →
              strict (ker_val w f b s t ∷ index_vals w s t (all_levels (u ∷ us)) b) (first_updated p ups)
              ≡ ker_val w (changed p c f (u ∷ us)) b s t
          by_first l ls q (Val i) y z =
              all_valued (subst (λ z. AreVals (index_vals w s t (z ++ all_levels us) b)) (sym q)
              (subst (λ o. AreVals (o ∷ index_vals w s t (ls ++ all_levels us) b)) (sym y)
              (plain_vals w wide s t b (ls ++ all_levels us) z)))
          by_first l ls q (Wrong i) y z = faulty l ls q (ap is_val y) z
          by_first l ls q (Big i) y z = faulty l ls q (ap is_val y) z

          by_levels : (ls : List Level) → u.levels ≡ ls →
              strict (ker_val w f b s t ∷ index_vals w s t (all_levels (u ∷ us)) b) (first_updated p ups)
              ≡ ker_val w (changed p c f (u ∷ us)) b s t
          by_levels [] q = absurd (true≢false (sym (ap is_nil q) ∙ some k))
          by_levels (l ∷ ls) q =
              by_first l ls q (ker_val w l.index b s t) refl
              (subst (λ z. all_plain (map (λ l. l.index) (z ++ all_levels us)) ≡ true) q g)
