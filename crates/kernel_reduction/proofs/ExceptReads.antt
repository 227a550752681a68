-- The operands of an EXCEPT as pairs that are named, and what is read from these.
use Rattle.std.proofs.Common.{◌≡◌, Bool, true, false, not, ◌&&◌, true≢false, List, [], ◌∷◌, ◌++◌, map, pos, refl, sym, ◌∙◌, ap, ap₂, subst, Some, if◌then◌else◌}
use Rattle.std.proofs.lemmas.List.{append-nil, append_assoc}
use Rattle.tla_values.specs.Order.{Layer}
use Rattle.tla_values.specs.declared.value.Value.{Value}
use Rattle.tla_values.specs.declared.value.Value.TheVariants as value
use Rattle.tla_meaning.specs.declared.op.Op.TheVariants as op
use Rattle.tla_meaning.specs.declared.place.Place.{Place}
use Rattle.tla_meaning.specs.declared.job.State.{State}
use Rattle.tla_meaning.specs.declared.outcome.Fault.{Fault}
use Rattle.tla_meaning.specs.declared.outcome.Fault.TheVariants.{NoFault, IsWrong, IsBig}
use Rattle.tla_meaning.specs.declared.outcome.Outcome.{Outcome}
use Rattle.tla_meaning.specs.declared.outcome.Outcome.TheVariants.{Val, Wrong, Big}
use Rattle.tla_meaning.specs.Outcomes.{join_faults, fault_of, joined, values, fault_or, strict}
use Rattle.tla_meaning.specs.Shapes.{sequence}
use Rattle.tla_meaning.specs.Operators.{table, applied, or_wrong}
use Rattle.tla_meaning.specs.Numbers.{Width}
use Rattle.tla_meaning.specs.Scopes.{Scope, bind, find_last, value_found}
use Rattle.tla_meaning.specs.Meaning.{Update}
use Rattle.tla_meaning.proofs.Views.{false≢true}
use Rattle.snowcat_rows.specs.declared.types.Ty.{Ty}
use Rattle.kernel_trees.specs.declared.kernel.Ker.{Ker}
use Rattle.kernel_trees.specs.declared.kernel.KerOp.{KerOp}
use Rattle.kernel_trees.specs.declared.kernel.KerOp.TheVariants as ker
use Rattle.kernel_trees.specs.Trees.{ker_val, number_name}
use Rattle.kernel_trees.proofs.Operators.{val_bound, val_item, val_tuple}
use Rattle.kernel_reduction.specs.Reduction.{is_wide}
use Rattle.kernel_reduction.specs.Rows.{Let, item, bound, pairs, behind, operand_at, index_at, is_literal, is_literal_op, is_nil, op_at, place_of, type_of, Level, Change, read_levels, read_changes}
use Rattle.kernel_reduction.proofs.Widths.{fits_all, number_there}
use Rattle.kernel_reduction.proofs.Outcomes.{strict_same, cons≢none, other_values}
use Rattle.kernel_reduction.proofs.Lets.{both_of, first_of, second_of}
use Rattle.kernel_reduction.proofs.Pairs.{literal_val}
use Rattle.kernel_reduction.proofs.Excepting.{HasLevels, Closed, HasRight, NormalNew, HasChanges, last_number}

-- ---- values in pairs

abbrev pub nested : List Value → Value
nested [] = sequence []
nested (v ∷ []) = v
nested (v ∷ u ∷ vs) = both_of v (nested (u ∷ vs))

pub nested_more : (v : Value) (vs : List Value) → is_nil vs ≡ false → nested (v ∷ vs) ≡ both_of v (nested vs)
nested_more v [] h = absurd (true≢false h)
nested_more v (u ∷ vs) h = refl

abbrev paired : List Value → Outcome
paired [] = Val (sequence [])
paired (v ∷ vs) = Val (both_of v (nested vs))

join_pair : (o : Outcome) (g : Fault) (us : List Value) →
    strict (o ∷ fault_or g (Val (nested us)) ∷ []) (λ vs. Val (sequence vs)) ≡ elim o as (λ _. Outcome) [
      | Val v ↦ fault_or g (Val (both_of v (nested us)))
      | Wrong q ↦ fault_or (join_faults (IsWrong q) g) (Val (sequence []))
      | Big q ↦ fault_or (join_faults (IsBig q) g) (Val (sequence []))
    ]
join_pair (Val v) NoFault us = refl
join_pair (Val v) (IsWrong q) us = refl
join_pair (Val v) (IsBig q) us = refl
join_pair (Wrong q) NoFault us = refl
join_pair (Wrong q) (IsWrong r) us = refl
join_pair (Wrong q) (IsBig r) us = refl
join_pair (Big q) NoFault us = refl
join_pair (Big q) (IsWrong r) us = refl
join_pair (Big q) (IsBig r) us = refl

split_pair : (o : Outcome) (os : List Outcome) →
    strict (o ∷ strict os (λ vs. Val (nested vs)) ∷ []) (λ vs. Val (sequence vs)) ≡ strict (o ∷ os) paired
split_pair o os = join_pair o (joined os) (values os) ∙ by o (joined os)
  where
    by : (o : Outcome) (g : Fault) → elim o as (λ _. Outcome) [
      | Val v ↦ fault_or g (Val (both_of v (nested (values os))))
      | Wrong q ↦ fault_or (join_faults (IsWrong q) g) (Val (sequence []))
      | Big q ↦ fault_or (join_faults (IsBig q) g) (Val (sequence []))
    ] ≡ fault_or (join_faults (fault_of o) g) (paired (values (o ∷ os)))
    by (Val v) g = refl
    by (Wrong q) NoFault = refl
    by (Wrong q) (IsWrong r) = refl
    by (Wrong q) (IsBig r) = refl
    by (Big q) NoFault = refl
    by (Big q) (IsWrong r) = refl
    by (Big q) (IsBig r) = refl

module _ (w : Width) (s t : State) where
  abbrev pub index_vals : List Level → Scope → List Outcome
  index_vals ls b = map (λ l. ker_val w l.index b s t) ls

  one_pair : (o : Outcome) → o ≡ strict (o ∷ []) (λ vs. Val (nested vs))
  one_pair (Val v) = refl
  one_pair (Wrong q) = refl
  one_pair (Big q) = refl

  pub pairs_val : (p : Place) (ty : Ty) (k : Ker) (ls : List Level) (b : Scope) →
      ker_val w (pairs p ty k ls) b s t ≡ strict (ker_val w k b s t ∷ index_vals ls b) (λ vs. Val (nested vs))
  pairs_val p ty k [] b = one_pair (ker_val w k b s t)
  pairs_val p ty k (l ∷ ls) b =
      val_tuple w s t p ty (k ∷ pairs p l.rest l.index ls ∷ []) [] b
      ∙ ap (λ o. strict (ker_val w k b s t ∷ o ∷ []) (λ vs. Val (sequence vs))) (pairs_val p l.rest l.index ls b)
      ∙ split_pair (ker_val w k b s t) (index_vals (l ∷ ls) b)
      ∙ strict_same (ker_val w k b s t ∷ index_vals (l ∷ ls) b) _ _ by
    where
      by : (vs : List Value) → ker_val w k b s t ∷ ker_val w l.index b s t ∷ index_vals ls b ≡ map Val vs →
          paired vs ≡ Val (nested vs)
      by [] e = absurd (cons≢none e)
      by (v ∷ []) e = absurd (cons≢none (other_values e))
      by (v ∷ u ∷ vs) e = refl

-- ---- reading

abbrev pub Matches : List Ty → List Value → Type 0
Matches [] [] = Unit {0}
Matches (r ∷ rs) (v ∷ vs) = Matches rs vs
Matches rs vs = ⊥

-- one value more than types
abbrev pub OneMore : List Ty → List Value → Type 0
OneMore [] (v ∷ []) = Unit {0}
OneMore (r ∷ rs) (v ∷ vs) = OneMore rs vs
OneMore rs vs = ⊥

matches_more : (rs : List Ty) (vs : List Value) (r : Ty) → OneMore rs vs → Matches (rs ++ r ∷ []) vs
matches_more [] [] r h = absurd h
matches_more [] (v ∷ []) r h = tt
matches_more [] (v ∷ u ∷ vs) r h = absurd h
matches_more (q ∷ rs) [] r h = absurd h
matches_more (q ∷ rs) (v ∷ vs) r h = matches_more rs vs r h

more_more : (rs : List Ty) (vs : List Value) (r : Ty) (u : Value) → OneMore rs vs →
    OneMore (rs ++ r ∷ []) (vs ++ u ∷ [])
more_more [] [] r u h = absurd h
more_more [] (v ∷ []) r u h = tt
more_more [] (v ∷ x ∷ vs) r u h = absurd h
more_more (q ∷ rs) [] r u h = absurd h
more_more (q ∷ rs) (v ∷ vs) r u h = more_more rs vs r u h

not_nil : {X : Type 0} (xs ys : List X) → is_nil ys ≡ false → is_nil (xs ++ ys) ≡ false
not_nil [] ys h = h
not_nil (x ∷ xs) ys h = refl

both_nil : {X : Type 0} (xs ys : List X) → is_nil (xs ++ ys) ≡ (is_nil xs && is_nil ys)
both_nil [] ys = refl
both_nil (x ∷ xs) ys = refl

module _ (w : Width) (wide : is_wide w ≡ true) (s t : State) (c : Scope) where
  first_item : (q : Place) (a : Ty) (y : Ker) (u v : Value) → ker_val w y c s t ≡ Val (both_of u v) →
      ker_val w (item q a 1 y) c s t ≡ Val u
  first_item q a y u v h =
      val_item w s t q a 1 y [] c
      ∙ (λ i. strict (h i ∷ number_there w q (pos 1) (fits_all w wide (pos 1) refl) i ∷ []) (table w q op.Apply))
      ∙ ap (λ (x : Layer Value). applied q x (value.Int (pos 1))) (value.outs-Fun _)
      ∙ ap (or_wrong q) (first_of u v)

  second_item : (q : Place) (a : Ty) (y : Ker) (u v : Value) → ker_val w y c s t ≡ Val (both_of u v) →
      ker_val w (item q a 2 y) c s t ≡ Val v
  second_item q a y u v h =
      val_item w s t q a 2 y [] c
      ∙ (λ i. strict (h i ∷ number_there w q (pos 2) (fits_all w wide (pos 2) refl) i ∷ []) (table w q op.Apply))
      ∙ ap (λ (x : Layer Value). applied q x (value.Int (pos 2))) (value.outs-Fun _)
      ∙ ap (or_wrong q) (second_of u v)

  behind_val : (q : Place) (y : Ker) (rs : List Ty) (us vs : List Value) → Matches rs us → is_nil vs ≡ false →
      ker_val w y c s t ≡ Val (nested (us ++ vs)) →
      ker_val w (behind q y rs) c s t ≡ Val (nested vs)
  behind_val q y [] [] vs m h e = e
  behind_val q y [] (u ∷ us) vs m h e = absurd m
  behind_val q y (r ∷ rs) [] vs m h e = absurd m
  behind_val q y (r ∷ rs) (u ∷ us) vs m h e =
      behind_val q (item q r 2 y) rs us vs m h
      (second_item q r y u (nested (us ++ vs)) (e ∙ ap Val (nested_more u (us ++ vs) (not_nil us vs h))))

  -- an operand, where what is named has these values before it and behind it
  pub operand_val : (l : Let) (ty : Ty) (rs : List Ty) (last : Bool) (k : Ker) (us : List Value) (v : Value)
      (vs : List Value) →
      find_last (number_name l.named) c.bound ≡ Some (nested (us ++ v ∷ vs)) → Matches rs us → is_nil vs ≡ last →
      ker_val w (operand_at l ty rs last k) c s t ≡ Val v
  operand_val l ty rs last k us v vs q m h = by last h
    where
      left : ker_val w (behind (place_of k) (bound (place_of k) ty l.named) rs) c s t ≡ Val (nested (v ∷ vs))
      left =
          behind_val (place_of k) (bound (place_of k) ty l.named) rs us (v ∷ vs) m refl
          (val_bound w s t (place_of k) ty l.named [] [] c ∙ ap (value_found (place_of k)) q)

      none_behind : (vs : List Value) → is_nil vs ≡ true → nested (v ∷ vs) ≡ v
      none_behind [] h = refl
      none_behind (x ∷ vs) h = absurd (false≢true h)

      by : (b : Bool) → is_nil vs ≡ b → ker_val w (operand_at l ty rs b k) c s t ≡ Val v
      by true h = left ∙ ap Val (none_behind vs h)
      by false h = first_item (place_of k) (type_of k) _ v (nested vs) (left ∙ ap Val (nested_more v vs h))

-- a literal is the same everywhere
pub literal_same : (w : Width) (s t : State) (k : Ker) (b c : Scope) → is_literal k ≡ true →
    ker_val w k c s t ≡ ker_val w k b s t
literal_same w s t k b c h = by (op_at k) refl h
  where
    by : (o : KerOp) → op_at k ≡ o → is_literal_op o ≡ true → ker_val w k c s t ≡ ker_val w k b s t
    by (ker.Const v) e h = literal_val w s t c k v e ∙ sym (literal_val w s t b k v e)
    by o e h = absurd (false≢true h)

-- ---- the indexes of a path

module _ (w : Width) (wide : is_wide w ≡ true) (s t : State) (b : Scope) where
  -- the indexes have these values
  abbrev pub HaveValues : List Level → List Value → Type 0
  HaveValues [] [] = Unit {0}
  HaveValues (l ∷ ls) (v ∷ vs) = (ker_val w l.index b s t ≡ Val v) × HaveValues ls vs
  HaveValues ls vs = ⊥

  nil_same : (ls : List Level) (vs : List Value) → HaveValues ls vs → is_nil vs ≡ is_nil ls
  nil_same [] [] h = refl
  nil_same [] (v ∷ vs) h = absurd h
  nil_same (l ∷ ls) [] h = absurd h
  nil_same (l ∷ ls) (v ∷ vs) h = refl

  not_twice : (x : Bool) → not (not x) ≡ x
  not_twice true = refl
  not_twice false = refl

  index_val : (l : Let) (ty : Ty) (rs : List Ty) (last : Bool) (k : Ker) (us : List Value) (v : Value)
      (vs : List Value) (c : Scope) →
      ker_val w k b s t ≡ Val v → find_last (number_name l.named) c.bound ≡ Some (nested (us ++ v ∷ vs)) →
      Matches rs us → is_nil vs ≡ last →
      ker_val w (index_at l ty rs last k) c s t ≡ Val v
  index_val l ty rs last k us v vs c e q m h = by (is_literal k) refl
    where
      by : (x : Bool) → is_literal k ≡ x → ker_val w (if x then k else operand_at l ty rs last k) c s t ≡ Val v
      by true g = literal_same w s t k b c g ∙ e
      by false g = operand_val w wide s t c l ty rs last k us v vs q m h

  abbrev pub all_values : List Update → List Value
  all_values [] = []
  all_values (y ∷ ys) = y.0 ++ all_values ys

  module _ (p : Place) (P : Scope → Type 0) where
    -- an update whose indexes have the values of its path, and whose right side gives its new value
    pub record Given (u : Change) (y : Update) : Type 0 where
      pub indexes : HaveValues u.levels y.0
      pub closed : Closed w s t p P u.levels
      pub right : HasRight w s t p P u.levels u.right y.1
      pub normal : NormalNew w s t p P y.1
      pub some : is_nil u.levels ≡ false

    abbrev pub AllGiven : List Change → List Update → Type 0
    AllGiven [] [] = Unit {0}
    AllGiven (u ∷ us) (y ∷ ys) = Given u y × AllGiven us ys
    AllGiven us ys = ⊥

    -- ---- where they are read

    module _ (l : Let) (ty : Ty) (whole : Value)
        (names : (c : Scope) → P c → find_last (number_name l.named) c.bound ≡ Some whole) where
      levels_read : (rs : List Ty) (us : List Value) (more : Bool) (ls : List Level) (vs later : List Value) →
          OneMore rs us → HaveValues ls vs →
          whole ≡ nested (us ++ (vs ++ later)) → is_nil later ≡ not more →
          HasLevels w s t p P (read_levels l ty rs more ls) vs
      levels_read rs us more [] [] later o h e g = tt
      levels_read rs us more [] (v ∷ vs) later o h e g = absurd h
      levels_read rs us more (x ∷ xs) [] later o h e g = absurd h
      levels_read rs us more (x ∷ xs) (v ∷ vs) later o h e g = (
        λ c q. index_val l ty (rs ++ x.rest ∷ []) (is_nil xs && not more) x.index us v (vs ++ later) c h.0
            (names c q ∙ ap Some e)
            (matches_more rs us x.rest o) (both_nil vs later ∙ ap₂ (λ m n. m && n) (nil_same xs vs h.1) g),
        levels_read (rs ++ x.rest ∷ []) (us ++ v ∷ []) more xs vs later (more_more rs us x.rest v o) h.1
            (e ∙ ap nested (sym (append_assoc us (v ∷ []) (vs ++ later)))) g,
      )

      last_read : (rs : List Ty) (more : Bool) (ls : List Level) →
          last_number (read_levels l ty rs more ls) ≡ last_number ls
      last_read rs more [] = refl
      last_read rs more (x ∷ []) = refl
      last_read rs more (x ∷ y ∷ ls) = last_read (rs ++ x.rest ∷ []) more (y ∷ ls)

      closed_read : (rs : List Ty) (more : Bool) (ls : List Level) → Closed w s t p P ls →
          Closed w s t p P (read_levels l ty rs more ls)
      closed_read rs more [] h = tt
      closed_read rs more (x ∷ xs) h = (h.0, closed_read (rs ++ x.rest ∷ []) more xs h.1)

      some_read : (rs : List Ty) (more : Bool) (ls : List Level) → is_nil ls ≡ false →
          is_nil (read_levels l ty rs more ls) ≡ false
      some_read rs more [] h = absurd (true≢false h)
      some_read rs more (x ∷ xs) h = refl

      more_all : (rs : List Ty) (us : List Value) (ls : List Level) (vs : List Value) → OneMore rs us →
          HaveValues ls vs → OneMore (rs ++ map (λ x. x.rest) ls) (us ++ vs)
      more_all rs us [] [] o h =
          subst (λ z. OneMore z (us ++ [])) (sym (append-nil rs)) (subst (OneMore rs) (sym (append-nil us)) o)
      more_all rs us [] (v ∷ vs) o h = absurd h
      more_all rs us (x ∷ xs) [] o h = absurd h
      more_all rs us (x ∷ xs) (v ∷ vs) o h =
          subst (λ z. OneMore z (us ++ v ∷ vs)) (append_assoc rs (x.rest ∷ []) (map (λ x. x.rest) xs))
          (subst (OneMore ((rs ++ x.rest ∷ []) ++ map (λ x. x.rest) xs)) (append_assoc us (v ∷ []) vs)
          (more_all (rs ++ x.rest ∷ []) (us ++ v ∷ []) xs vs (more_more rs us x.rest v o) h.1))

      values_nil : (us : List Change) (ys : List Update) → AllGiven us ys → is_nil (all_values ys) ≡ is_nil us
      values_nil [] [] h = refl
      values_nil [] (y ∷ ys) h = absurd h
      values_nil (u ∷ us) [] h = absurd h
      values_nil (u ∷ us) (y ∷ ys) h =
          both_nil y.0 (all_values ys)
          ∙ ap (λ z. z && is_nil (all_values ys)) (nil_same u.levels y.0 h.0.indexes ∙ h.0.some)

      pub changes_read : (rs : List Ty) (vs : List Value) (us : List Change) (ys : List Update) → OneMore rs vs →
          AllGiven us ys →
          whole ≡ nested (vs ++ all_values ys) → HasChanges w s t p P (read_changes l ty rs us) ys
      changes_read rs vs [] [] o h e = tt
      changes_read rs vs [] (y ∷ ys) o h e = absurd h
      changes_read rs vs (u ∷ us) [] o h e = absurd h
      changes_read rs vs (u ∷ us) (y ∷ ys) o h e = (
        record {
          levels = levels_read rs vs (not (is_nil us)) u.levels y.0 (all_values ys) o h.0.indexes e
              (values_nil us ys h.1 ∙ sym (not_twice (is_nil us)));
          closed = closed_read rs (not (is_nil us)) u.levels h.0.closed;
          right = λ c q old n.
              ap (λ z. ker_val w u.right (bind (number_name z ∷ []) (old ∷ []) c) s t)
              (last_read rs (not (is_nil us)) u.levels) ∙ h.0.right c q old n;
          normal = h.0.normal;
          some = some_read rs (not (is_nil us)) u.levels h.0.some;
        },
        changes_read (rs ++ map (λ x. x.rest) u.levels) (vs ++ y.0) us ys
            (more_all rs vs u.levels y.0 o h.0.indexes) h.1
            (e ∙ ap nested (sym (append_assoc vs y.0 (all_values ys)))),
      )
