-- Steps of the loops over indexes, updates and folds.
use Rattle.std.proofs.Common.{◌≡◌, ℕ, zero, suc, ◌+◌, ◌<◌, ◌≤◌, List, [], ◌∷◌, ◌++◌, take, drop, get_or, length, refl, ap, ◌∙◌, sym, subst, Some, arith, drop-cons, add-one, append_assoc, option_map, Err}
use Rattle.tla_evaluator.proofs.Words.{All, All-from_recursion, AllByRecursion, At, Expr, Fault, IsNormalOutcome, NoFunction, Normal, Outcome, Outside, Place, Reached, State, Update, Val, Value, Wrong, all_set_items, at_path, both_assoc, choices, folded, join_faults, joined, joined_append, map-append, most, recursion_from_All, results, set_path, updated, values, with_value}
use Rattle.tla_values.specs.declared.value.Value.TheVariants as value
use Rattle.tla_values.proofs.NormalLemmas.{fun_pairs}
use Rattle.tla_meaning.proofs.NormalNodes.{NormalOutcomes, NormalReached, at_path_normal, values_normal}
use Rattle.tla_evaluator.specs.declared.answers.Stop.{Stop}
use Rattle.tla_evaluator.specs.inner.Gives.{Gives}
use Rattle.tla_evaluator.specs.inner.Nodes.{index_trees, paths_at, update_at, updates_at}
use Rattle.tla_evaluator.specs.Trees.{AreNormal, first_at, outcomes_at, value_at}
use Rattle.tla_evaluator.proofs.ExpandedLaws.{value_normal}
use Rattle.tla_evaluator.proofs.NormalBinds.{choices_are_normal}
use Rattle.tla_evaluator.proofs.TreeSizes.{most-drop}

-- ---- normal values

module _ (w : ℕ) (vars : List (List ℕ × Value)) (s t : State) (ok : AreNormal vars s t) where
  all_normal : (es : List Expr) → NormalOutcomes (outcomes_at w es vars s t)
  all_normal [] = tt
  all_normal (e ∷ es) = (value_normal w e vars s t ok, all_normal es)

  pub operands_normal : (es : List Expr) (vs : List Value) → vs ≡ values (outcomes_at w es vars s t) → All Normal vs
  operands_normal es vs is =
      subst (λ ws. All Normal ws) (sym is) (All-from_recursion Normal (values (outcomes_at w es vars s t)) (values_normal (outcomes_at w es vars s t) (all_normal es)))

  pub one_normal : (e : Expr) (v : Value) → Val v ≡ value_at w e vars s t → Normal v
  one_normal e v is = subst IsNormalOutcome (sym is) (value_normal w e vars s t ok)

  pub first_normal : (p : Place) (es : List Expr) (v : Value) → Val v ≡ first_at w p es vars s t → Normal v
  first_normal p [] v is = absurd (cc)
  first_normal p (e ∷ es) v is = one_normal e v is

pub reached_normal : (f v : Value) (path : List Value) → Normal f → At v ≡ at_path f path → Normal v
reached_normal f v path h is = subst NormalReached (sym is) (at_path_normal path f h)

pub results_normal : (ps qs : List (Value × Value)) → qs ≡ ps → Normal (value.Fun ps) → All Normal (results qs)
results_normal ps qs same h = subst (λ rs. All Normal (results rs)) (sym same) (All-from_recursion Normal (results ps) (go ps (fun_pairs ps h)))
  where
    go : (ps : List (Value × Value)) → AllByRecursion (λ p. Normal p.0 × Normal p.1) ps → AllByRecursion Normal (results ps)
    go [] h = tt
    go (p ∷ ps) h = (h.0.1, go ps h.1)

pub members_normal : (vs vs' : List Value) (cs cs' : List (List Value)) → vs' ≡ vs → cs' ≡ cs → All Normal vs →
    option_map choices (all_set_items vs') ≡ Some cs → All (λ c. All Normal c) cs'
members_normal vs vs' cs cs' same also h is =
    subst (λ ds. All (λ c. All Normal c) ds) (sym also) (choices_are_normal vs cs h (ap (λ ws. option_map choices (all_set_items ws)) (sym same) ∙ is))

-- ---- parts of a list

pub drop_again : {X : Type 0} (n : ℕ) (xs : List X) → drop 1 (drop n xs) ≡ drop (suc n) xs
drop_again zero xs = refl
drop_again (suc n) [] = refl
drop_again (suc n) (x ∷ xs) = drop_again n xs

-- ---- the indexes of the next update

module _ (w : ℕ) (vars : List (List ℕ × Value)) (s t : State) (counts : List ℕ) (i n : ℕ) (rest : List Expr) where
  abbrev behind : List Expr
  behind = drop 1 (drop n rest)

  pub index_fault_next : (g h part all : Fault) → i < length counts → n ≡ get_or counts i n → part ≡ joined (outcomes_at w (take n rest) vars s t) → h ≡ join_faults g part →
      join_faults g (joined (outcomes_at w (index_trees (drop i counts) rest) vars s t)) ≡ all →
      join_faults h (joined (outcomes_at w (index_trees (drop (i + 1) counts) behind) vars s t)) ≡ all
  index_fault_next g h part all lt is ep eh k =
      let more : List Expr = index_trees (drop (i + 1) counts) behind in
      ap (λ x. join_faults x (joined (outcomes_at w more vars s t))) eh
      ∙ both_assoc g part (joined (outcomes_at w more vars s t))
      ∙ ap (join_faults g) (ap (λ x. join_faults x (joined (outcomes_at w more vars s t))) ep
      ∙ sym (joined_append (outcomes_at w (take n rest) vars s t) (outcomes_at w more vars s t))
      ∙ ap joined (sym (map-append (λ e. value_at w e vars s t) (take n rest) more))
      ∙ ap (λ m. joined (outcomes_at w (take n rest ++ index_trees (drop m counts) behind) vars s t)) (add-one i)
      ∙ ap (λ b. joined (outcomes_at w (take n rest ++ index_trees (drop (suc i) counts) b) vars s t)) (drop_again n rest)
      ∙ ap (λ m. joined (outcomes_at w (index_trees (m ∷ drop (suc i) counts) rest) vars s t)) is
      ∙ ap (λ ns. joined (outcomes_at w (index_trees ns rest) vars s t)) (sym (drop-cons counts i n lt)))
      ∙ k

  pub paths_next : (vs : List Value) (ps qs all : List (ℕ × List Value)) → i < length counts → n ≡ get_or counts i n → vs ≡ values (outcomes_at w (take n rest) vars s t) →
      qs ≡ ps ++ (n, vs) ∷ [] → ps ++ paths_at w (drop i counts) rest vars s t ≡ all → qs ++ paths_at w (drop (i + 1) counts) behind vars s t ≡ all
  paths_next vs ps qs all lt is ev eq k =
      ap (λ x. x ++ paths_at w (drop (i + 1) counts) behind vars s t) eq
      ∙ append_assoc ps ((n, vs) ∷ []) (paths_at w (drop (i + 1) counts) behind vars s t)
      ∙ ap (λ x. ps ++ (n, x) ∷ paths_at w (drop (i + 1) counts) behind vars s t) ev
      ∙ ap (λ m. ps ++ (n, values (outcomes_at w (take n rest) vars s t)) ∷ paths_at w (drop m counts) behind vars s t) (add-one i)
      ∙ ap (λ b. ps ++ (n, values (outcomes_at w (take n rest) vars s t)) ∷ paths_at w (drop (suc i) counts) b vars s t) (drop_again n rest)
      ∙ ap (λ m. ps ++ paths_at w (m ∷ drop (suc i) counts) rest vars s t) is
      ∙ ap (λ ns. ps ++ paths_at w ns rest vars s t) (sym (drop-cons counts i n lt))
      ∙ k

-- ---- the next update

module _ (p : Place) (u : Update) (us : List Update) (f : Value) where
  by : Reached → Outcome
  by r = elim r [
    | At old ↦ with_value (u.1 old) (λ new. updated p us (set_path u.0 new f))
    | Outside ↦ updated p us f
    | NoFunction ↦ Wrong p
  ]

  pub updated_at : (old new : Value) → At old ≡ at_path f u.0 → Val new ≡ u.1 old → updated p us (set_path u.0 new f) ≡ updated p (u ∷ us) f
  unfolding by
  updated_at old new at is = ap (λ o. with_value o (λ new. updated p us (set_path u.0 new f))) is ∙ ap by at

module _ {X : Type 0} (f : X → ℕ) where
  pub further_no_deeper : (n : ℕ) (m : ℕ) (ys zs : List X) → zs ≡ drop n ys → most f ys ≤ m → most f zs ≤ m
  further_no_deeper n m ys zs e le =
      let here : most f zs ≤ most f ys = subst (λ l. most f l ≤ most f ys) (sym e) (most-drop f n ys) in
      omega (arith, here, le)

pub one_is_normal : (vs us : List Value) (a : Value) → vs ≡ us → us ≡ a ∷ [] → Normal a → All Normal vs
one_is_normal vs us a e d h = subst (λ l. All Normal l) (sym (e ∙ d)) (All-from_recursion Normal (a ∷ []) (h, tt))

pub two_are_normal : (vs us : List Value) (a b : Value) → vs ≡ us → us ≡ a ∷ b ∷ [] → Normal a → Normal b → All Normal vs
two_are_normal vs us a b e d h k = subst (λ l. All Normal l) (sym (e ∙ d)) (All-from_recursion Normal (a ∷ b ∷ []) (h, (k, tt)))

pub item_normal : (items : List (Value × Value)) (i : ℕ) (x : Value × Value) → All Normal (results items) → i < length items → x ≡ get_or items i x → Normal x.1
item_normal items i x h lt is = go items i x (recursion_from_All Normal (results items) h) lt is
  where
    go : (items : List (Value × Value)) (i : ℕ) (x : Value × Value) → AllByRecursion Normal (results items) → i < length items → x ≡ get_or items i x → Normal x.1
    go [] i x h lt is = absurd (omega (arith, lt))
    go (y ∷ ys) zero x h lt is = subst (λ z. Normal z.1) (sym is) h.0
    go (y ∷ ys) (suc i) x h lt is = go ys i x h.1 (omega (arith, lt)) is

-- the updates from the i-th path on
module _ (w : ℕ) (p : Place) (xs : List (List ℕ)) (vars : List (List ℕ × Value)) (s t : State) (paths : List (ℕ × List Value)) (i : ℕ) (u : ℕ × List Value) (rest : List Expr) where
  updates_next : (path : List Value) (sides next : List Expr) → i < length paths → u ≡ get_or paths i u → path ≡ u.1 → sides ≡ drop u.0 rest → next ≡ drop 1 sides →
      update_at w p xs path sides vars s t ∷ updates_at w p xs (drop (i + 1) paths) next vars s t ≡ updates_at w p xs (drop i paths) rest vars s t
  updates_next path sides next lt is pa sa na =
      ap (λ z. update_at w p xs z sides vars s t ∷ updates_at w p xs (drop (i + 1) paths) next vars s t) pa
      ∙ ap (λ z. update_at w p xs u.1 sides vars s t ∷ updates_at w p xs (drop (i + 1) paths) z vars s t) na
      ∙ ap (λ z. update_at w p xs u.1 z vars s t ∷ updates_at w p xs (drop (i + 1) paths) (drop 1 z) vars s t) sa
      ∙ ap (λ m. update_at w p xs u.1 (drop u.0 rest) vars s t ∷ updates_at w p xs (drop m paths) (drop 1 (drop u.0 rest)) vars s t) (add-one i)
      ∙ ap (λ b. update_at w p xs u.1 (drop u.0 rest) vars s t ∷ updates_at w p xs (drop (suc i) paths) b vars s t) (drop_again u.0 rest)
      ∙ ap (λ x. updates_at w p xs (x ∷ drop (suc i) paths) rest vars s t) is
      ∙ ap (λ ps. updates_at w p xs ps rest vars s t) (sym (drop-cons paths i u lt))

  pub updated_next : (path : List Value) (sides next : List Expr) (f g : Value) (all : Outcome) → i < length paths → u ≡ get_or paths i u → path ≡ u.1 → sides ≡ drop u.0 rest → next ≡ drop 1 sides →
      ((us : List Update) → updated p us g ≡ updated p (update_at w p xs path sides vars s t ∷ us) f) →
      updated p (updates_at w p xs (drop i paths) rest vars s t) f ≡ all → updated p (updates_at w p xs (drop (i + 1) paths) next vars s t) g ≡ all
  updated_next path sides next f g all lt is pa sa na step k =
      step (updates_at w p xs (drop (i + 1) paths) next vars s t)
      ∙ ap (λ us. updated p us f) (updates_next path sides next lt is pa sa na) ∙ k

  pub updated_stops : (z : Stop) (path : List Value) (sides : List Expr) (f : Value) (all : Outcome) → i < length paths → u ≡ get_or paths i u → path ≡ u.1 → sides ≡ drop u.0 rest →
      ((us : List Update) → Gives (updated p (update_at w p xs path sides vars s t ∷ us) f) (Err z)) →
      updated p (updates_at w p xs (drop i paths) rest vars s t) f ≡ all → Gives all (Err z)
  updated_stops z path sides f all lt is pa sa step k =
      subst (λ q. Gives q (Err z)) (ap (λ us. updated p us f) (updates_next path sides (drop 1 sides) lt is pa sa refl) ∙ k)
      (step (updates_at w p xs (drop (i + 1) paths) (drop 1 sides) vars s t))

-- ---- the next item of a fold

module _ (f : Value → Value → Outcome) (items : List (Value × Value)) (i : ℕ) (x : Value × Value) where
  results_next : i < length items → x ≡ get_or items i x → results (drop i items) ≡ x.1 ∷ results (drop (i + 1) items)
  results_next lt is =
      ap results (drop-cons items i x lt) ∙ ap (λ z. z.1 ∷ results (drop (suc i) items)) (sym is) ∙ ap (λ n. x.1 ∷ results (drop n items)) (sym (add-one i))

  pub folded_next : (v u : Value) (all : Outcome) → i < length items → x ≡ get_or items i x → Val u ≡ f v x.1 →
      folded f (results (drop i items)) v ≡ all → folded f (results (drop (i + 1) items)) u ≡ all
  folded_next v u all lt is h k =
      ap (λ o. with_value o (folded f (results (drop (i + 1) items)))) h
      ∙ ap (λ xs. folded f xs v) (sym (results_next lt is)) ∙ k
