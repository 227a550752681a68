-- The law of paths: an action holds exactly where one of its paths holds for some choices, and its fault is the join of
-- its paths' faults over all choices.
use Rattle.std.proofs.Common.{◌≡◌, ℕ, zero, suc, Bool, true, false, ◌&&◌, ◌||◌, IsTrue, List, [], ◌∷◌, ◌++◌, map, zip, take, length, refl, sym, ◌∙◌, ap, ap₂, subst, Option, Some, None, option_map, if◌then◌else◌}
use Rattle.std.specs.List.{list_any, list_all, slice_get}
use Rattle.std.proofs.lemmas.Option.{slice_get-map}
use Rattle.tla_values.specs.Order.{Layer}
use Rattle.tla_values.specs.declared.value.Value.{Value, out-Value}
use Rattle.tla_meaning.specs.declared.place.Place.{Place}
use Rattle.tla_meaning.specs.declared.job.State.{State}
use Rattle.tla_meaning.specs.declared.outcome.Fault.{Fault}
use Rattle.tla_meaning.specs.declared.outcome.Fault.TheVariants.{NoFault, IsWrong, IsBig}
use Rattle.tla_meaning.specs.declared.outcome.Outcome.{Outcome}
use Rattle.tla_meaning.specs.declared.outcome.Outcome.TheVariants.{Val, Wrong, Big}
use Rattle.tla_meaning.specs.Outcomes.{strict}
use Rattle.tla_meaning.specs.Shapes.{choices}
use Rattle.tla_meaning.specs.Operators.{on_all_sets}
use Rattle.tla_meaning.specs.Numbers.{Width}
use Rattle.tla_meaning.specs.declared.actions.Effect.{Effect}
use Rattle.kernel_trees.specs.Paths.{Marks, mentions, Step, Holds, Branch, Choice, numbers, sets, is_false, is_end, if_ways, choice_ways, any_mentions, ways_of, ways, tree_of, ends_at, place_of, Parted}
use Rattle.tla_meaning.specs.Scopes.{Scope, Denotation, bind, or_else}
use Rattle.tla_meaning.specs.Meaning.{Meaning, view, role, bound_table}
use Rattle.tla_meaning.specs.Actions.{denotation_of, fails_by, effect_of, effects_and, effects_or, guarded, guard, if_effect, exists_effect, counts}
use Rattle.tla_meaning.specs.FreeNames.{SameOn, closed}
use Rattle.tla_meaning.proofs.Views.{and_left, and_right, false≢true}
use Rattle.tla_meaning.proofs.Laws.{frame, none≢some}
use Rattle.kernel_trees.specs.declared.kernel.Ker.{Ker, roll-Ker, out-Ker, roll-out-Ker}
use Rattle.kernel_trees.specs.declared.kernel.Ker.TheOpen.{Ker-F}
use Rattle.kernel_trees.specs.declared.kernel.KerOp.{KerOp}
use Rattle.kernel_trees.specs.Trees.{as_expr, constant, names_of, ker_val, ker_effect}
use Rattle.kernel_trees.specs.Ways.{Way, has_ended, one_after, after, after_each, all_of, branch, any_of, alone}
use Rattle.kernel_trees.specs.inner.Runs.{done, and_then, led, go, way_effect, ways_effect}
use Rattle.kernel_trees.specs.inner.Separate.{chosen, but, no_names, unread, separate_all, separate_at, separate}
use Rattle.kernel_trees.proofs.Effects.{or_also, effect, or_twice, or_nothing, or_append, and_or, and_done}
use Rattle.kernel_trees.proofs.Trees.{Each, by_nodes, recur-roll, ker-roll}
use Rattle.kernel_trees.proofs.Steps.{led_or, go_behind, go_then, go_any, go_same, but_outside, exists_or, exists_same}
use Rattle.kernel_trees.proofs.Nodes.{effects_here, outcomes_here, any_here, sets_here, body_here, body_sense, sense_at, leaf_effect, no_body}
use Rattle.tla_values.specs.declared.value.Value.TheVariants as value
use Rattle.tla_values.specs.declared.value.Value.TheOpen as layer
use Rattle.tla_meaning.specs.declared.op.Op.TheVariants as op
use Rattle.kernel_trees.specs.declared.kernel.KerOp.TheVariants as ker
use Rattle.tla_meaning.specs.declared.actions.Assignable.{Assignable}

abbrev pub Filled : {X : Type 0} → List X → Type 0
Filled {X = X} xs = (x : X) × (ys : List X) × (xs ≡ x ∷ ys)

filled_front : {X : Type 0} (xs ys : List X) → Filled xs → Filled (xs ++ ys)
filled_front xs ys f = (f.0, f.1 ++ ys, ap (λ zs. zs ++ ys) f.2)

filled_map : {X Y : Type 0} (f : X → Y) (xs : List X) → Filled xs → Filled (map f xs)
filled_map f xs h = (f h.0, map f h.1, ap (map f) h.2)

map_append : {X Y : Type 0} (f : X → Y) (xs ys : List X) → map f (xs ++ ys) ≡ map f xs ++ map f ys
map_append f [] ys = refl
map_append f (x ∷ xs) ys = ap (λ zs. f x ∷ zs) (map_append f xs ys)

map_map : {X Y Z : Type 0} (f : Y → Z) (g : X → Y) (xs : List X) → map f (map g xs) ≡ map (λ x. f (g x)) xs
map_map f g [] = refl
map_map f g (x ∷ xs) = ap (λ zs. f (g x) ∷ zs) (map_map f g xs)

map_same : {X : Type 0} (xs : List X) → map (λ x. x) xs ≡ xs
map_same [] = refl
map_same (x ∷ xs) = ap (λ zs. x ∷ zs) (map_same xs)

-- ---- the paths of a node

abbrev pub rooted : List Parted → List (Place × List (Way Step))
rooted ks = map (λ k. (place_of k, k.1)) ks

abbrev with_ways : Marks → List Ker → List Parted
with_ways m ks = map (λ k. (k, ways m k)) ks

trees_of : {X : Type 0} (f : Ker → X) (ks : List Ker) → map (λ (y : Ker × X). y.0) (map (λ k. (k, f k)) ks) ≡ ks
trees_of f ks = map_map (λ y. y.0) (λ k. (k, f k)) ks ∙ map_same ks

abbrev with_args : Ker-F Ker → List Ker → Ker-F Ker
with_args x ks = record { place = x.place; ty = x.ty; op = x.op; args = ks; binds = x.binds }

pub ways-roll : (m : Marks) (x : Ker-F Ker) →
    ways m (roll-Ker x) ≡ ways_of m x.op (roll-Ker x) x.place x.binds (with_ways m x.args)
ways-roll m x =
    recur-roll (λ x. ways_of m x.op (tree_of x) x.place x.binds x.args) x
    ∙ ap (λ ks. ways_of m x.op (roll-Ker (with_args x ks)) x.place x.binds (with_ways m x.args)) (trees_of (ways m) x.args)

pub separate-roll : (m : Marks) (x : Ker-F Ker) →
    separate m (roll-Ker x) ≡ separate_at m x.op x.binds (with_ways m x.args) (map (separate m) x.args)
separate-roll m x =
    recur-roll (λ x. separate_at m x.op x.binds (map (λ k. (k.0, ways m k.0)) x.args) (map (λ k. k.1) x.args)) x
    ∙ ap₂ (separate_at m x.op x.binds)
    (map_map (λ k. (k.0, ways m k.0)) (λ k. (k, separate m k)) x.args)
    (map_map (λ k. k.1) (λ k. (k, separate m k)) x.args)

-- ---- the law of one tree

pub record Law (m : Assignable) (k : Ker) : Type 0 where
  pub filled : Filled (ways (counts m) k)
  pub law : IsTrue (separate (counts m) k) → (w : Width) (s t : State) (sc : Scope) → ker_effect w m k sc s t ≡ ways_effect w (ways (counts m) k) sc s t

-- ---- one operand

alone_law : (w : Width) (k : Ker) (s t : State) (sc : Scope) → ways_effect w (alone (Holds k)) sc s t ≡ effect_of (ker_val w k sc s t)
alone_law w k s t sc = or_nothing (and_then (effect_of (ker_val w k sc s t)) done) ∙ and_done (effect_of (ker_val w k sc s t))

alone_filled : (k : Ker) → Filled (alone (Holds k))
alone_filled k = (_, _, refl)

-- ---- paths that have ended

stops : (b : Bool) (f : Fault) (e : Effect) → b ≡ false → and_then (effect b f) e ≡ effect b f
stops true f e h = absurd (false≢true (sym h))
stops false f e h = refl

constant_fails : (w : Width) (p : Place) (l : Layer Value) (n : ℕ) (xs : List (List ℕ)) (sc : Scope) (s t : State) → is_false l ≡ true →
    (effect_of ((denotation_of w p (constant l) n (view p (role (constant l) n) xs [] sc)).value s t)).holds ≡ false
constant_fails w p (layer.Bool true) n xs sc s t h = absurd (false≢true h)
constant_fails w p (layer.Bool false) n xs sc s t h = simp (value.outs-Bool)
constant_fails w p (layer.Int i) n xs sc s t h = absurd (false≢true h)
constant_fails w p (layer.Text a) n xs sc s t h = absurd (false≢true h)
constant_fails w p (layer.Set vs) n xs sc s t h = absurd (false≢true h)
constant_fails w p (layer.Fun ps) n xs sc s t h = absurd (false≢true h)

node_fails : (w : Width) (p : Place) (o : KerOp) (n : ℕ) (xs : List ℕ) (ks : List Ker) (sc : Scope) (s t : State) → is_end o ≡ true →
    (effect_of ((sense_at w p o n xs ks sc).value s t)).holds ≡ false
node_fails w p (ker.Const v) n xs ks sc s t h = constant_fails w p (out-Value v) n (names_of xs) sc s t h
node_fails w p ker.NoCase n xs ks sc s t h = refl
node_fails w p o n xs ks sc s t h = absurd (false≢true h)

pub val_of : (w : Width) (k : Ker) (sc : Scope) (s t : State) →
    ker_val w k sc s t ≡ (sense_at w (out-Ker k).place (out-Ker k).op (length (names_of (out-Ker k).binds)) (out-Ker k).binds (out-Ker k).args sc).value s t
val_of w k sc s t =
    ap (λ k. ker_val w k sc s t) (sym (roll-out-Ker k)) ∙ ap (λ (a : Meaning). (a sc).value s t) (ker-roll w (out-Ker k))

end_fails : (w : Width) (k : Ker) (sc : Scope) (s t : State) → is_end (out-Ker k).op ≡ true → (effect_of (ker_val w k sc s t)).holds ≡ false
end_fails w k sc s t h =
    ap (λ (o : Outcome). (effect_of o).holds) (val_of w k sc s t)
    ∙ node_fails w (out-Ker k).place (out-Ker k).op (length (names_of (out-Ker k).binds)) (out-Ker k).binds (out-Ker k).args sc s t h

-- nothing follows a path that has ended
go_ended : (w : Width) (s t : State) (ys : List Step) (f g : Scope → Effect) (sc : Scope) → has_ended ends_at ys ≡ true → go w s t ys f sc ≡ go w s t ys g sc
go_ended w s t [] f g sc h = absurd (false≢true h)
go_ended w s t (Holds k ∷ []) f g sc h =
    let e : Effect = effect_of (ker_val w k sc s t) in
    let n : e.holds ≡ false = end_fails w k sc s t h in
    stops e.holds e.fault (f sc) n ∙ sym (stops e.holds e.fault (g sc) n)
go_ended w s t (Branch p k b ∷ []) f g sc h = absurd (false≢true h)
go_ended w s t (Choice p ps ∷ []) f g sc h = absurd (false≢true h)
go_ended w s t (Holds k ∷ y ∷ ys) f g sc h = ap (and_then (effect_of (ker_val w k sc s t))) (go_ended w s t (y ∷ ys) f g sc h)
go_ended w s t (Branch p k b ∷ y ∷ ys) f g sc h = ap (led p b (ker_val w k sc s t)) (go_ended w s t (y ∷ ys) f g sc h)
go_ended w s t (Choice p ps ∷ y ∷ ys) f g sc h =
    exists_same p (map (λ k. ker_val w k sc s t) (sets ps)) _ _ (λ vs. go_ended w s t (y ∷ ys) f g (bind (names_of (numbers ps)) vs sc) h)

-- ---- conjunctions

-- what follows comes to e wherever only numbers that the path chooses have changed
abbrev Steady : Width → State → State → Way Step → List (Way Step) → Effect → Scope → Type 0
Steady w s t a bs e sc = (b : Scope) → SameOn no_names (but (chosen a.steps)) sc b → ways_effect w bs b s t ≡ e

joined_ways : (w : Width) (s t : State) (a : Way Step) (bs : List (Way Step)) (sc : Scope) →
    ways_effect w (map (one_after a) bs) sc s t ≡ effects_or (map (λ b. go w s t a.steps (go w s t b.steps (λ c. done)) sc) bs)
joined_ways w s t a [] sc = refl
joined_ways w s t a (b ∷ bs) sc = ap₂ or_also (go_behind w s t a.steps b.steps (λ c. done) sc) (joined_ways w s t a bs sc)

some_after : (w : Width) (s t : State) (a : Way Step) (bs : List (Way Step)) (e : Effect) (sc : Scope) → Filled bs → Steady w s t a bs e sc →
    ways_effect w (map (one_after a) bs) sc s t ≡ and_then (way_effect w a sc s t) e
some_after w s t a bs e sc f h =
    joined_ways w s t a bs sc
    ∙ ap (λ (l : List (Way Step)). effects_or (map (λ b. go w s t a.steps (go w s t b.steps (λ c. done)) sc) l)) f.2
    ∙ go_any w s t a.steps (λ (b : Way Step). go w s t b.steps (λ c. done)) sc f.0 f.1
    ∙ go_same w s t (but (chosen a.steps)) a.steps _ (λ c. e) sc (but_outside (chosen a.steps)) (λ b r.
    ap (λ (l : List (Way Step)). ways_effect w l b s t) (sym f.2) ∙ h b r)
    ∙ go_then w s t a.steps e sc

after_law : (w : Width) (s t : State) (a : Way Step) (bs : List (Way Step)) (e : Effect) (sc : Scope) → Filled bs → Steady w s t a bs e sc →
    (c : Bool) → has_ended ends_at a.steps ≡ c →
    ways_effect w (if c then a ∷ [] else map (one_after a) bs) sc s t ≡ and_then (way_effect w a sc s t) e
after_law w s t a bs e sc f h true q =
    or_nothing (way_effect w a sc s t)
    ∙ go_ended w s t a.steps (λ c. done) (λ c. e) sc q
    ∙ go_then w s t a.steps e sc
after_law w s t a bs e sc f h false q = some_after w s t a bs e sc f h

abbrev AllSteady : Width → State → State → List (Way Step) → List (Way Step) → Effect → Scope → Type 0
AllSteady w s t [] bs e sc = Unit {0}
AllSteady w s t (a ∷ as') bs e sc = Steady w s t a bs e sc × AllSteady w s t as' bs e sc

each_after : (w : Width) (s t : State) (as' bs : List (Way Step)) (e : Effect) (sc : Scope) → Filled bs → AllSteady w s t as' bs e sc →
    ways_effect w (after_each ends_at as' bs) sc s t ≡ and_then (ways_effect w as' sc s t) e
each_after w s t [] bs e sc f h = refl
each_after w s t (a ∷ as') bs e sc f h =
    ap effects_or (map_append (λ y. way_effect w y sc s t) (after ends_at a bs) (after_each ends_at as' bs))
    ∙ or_append (map (λ y. way_effect w y sc s t) (after ends_at a bs)) (map (λ y. way_effect w y sc s t) (after_each ends_at as' bs))
    ∙ ap₂ or_also (after_law w s t a bs e sc f h.0 (has_ended ends_at a.steps) refl) (each_after w s t as' bs e sc f h.1)
    ∙ sym (and_or (way_effect w a sc s t) (ways_effect w as' sc s t) e)

-- operands in scopes that agree on what they read
steady_effects : (w : Width) (m : Assignable) (s t : State) (B : List ℕ → Bool) (ks : List Ker) (a b : Scope) →
    IsTrue (list_all (λ k. closed no_names (as_expr k) B) ks) → SameOn no_names B a b →
    map (λ k. ker_effect w m k b s t) ks ≡ map (λ k. ker_effect w m k a s t) ks
steady_effects w m s t B [] a b h r = refl
steady_effects w m s t B (k ∷ ks) a b h r =
    let c : Bool = closed no_names (as_expr k) B in
    let d : Bool = list_all (λ k. closed no_names (as_expr k) B) ks in
    ap₂ (λ (e : Effect) (es : List Effect). e ∷ es)
    (ap (λ (x : Denotation). x.act m s t) (sym (frame w no_names (as_expr k) B (and_left c d h) a b r)))
    (steady_effects w m s t B ks a b (and_right c d h) r)

and_filled : (m : Assignable) (ks : List Ker) → Each (Law m) ks → Filled (all_of ends_at (map (λ k. k.1) (with_ways (counts m) ks)))
and_filled m [] h = (_, _, refl)
and_filled m (k ∷ ks) h =
    let rest : List (Way Step) = all_of ends_at (map (λ k. k.1) (with_ways (counts m) ks)) in
    let f : Filled (ways (counts m) k) = h.0.filled in
    let first : Filled (after ends_at f.0 rest) = one (has_ended ends_at f.0.steps) rest f.0 (and_filled m ks h.1) in
    let whole : Filled (after_each ends_at (f.0 ∷ f.1) rest) = filled_front (after ends_at f.0 rest) (after_each ends_at f.1 rest) first in
    (whole.0, whole.1, ap (λ (as' : List (Way Step)). after_each ends_at as' rest) f.2 ∙ whole.2)
  where
    one : (c : Bool) (rest : List (Way Step)) (a : Way Step) → Filled rest → Filled (if c then a ∷ [] else map (one_after a) rest)
    one true rest a f = (a, [], refl)
    one false rest a f = filled_map (one_after a) rest f

and_law : (m : Assignable) (ks : List Ker) → Each (Law m) ks →
    IsTrue (separate_all (with_ways (counts m) ks)) → IsTrue (list_all (λ b. b) (map (separate (counts m)) ks)) → (w : Width) (s t : State) (sc : Scope) →
    effects_and (map (λ k. ker_effect w m k sc s t) ks) ≡ ways_effect w (all_of ends_at (map (λ k. k.1) (with_ways (counts m) ks))) sc s t
and_law m [] h u v w s t sc = sym (or_nothing done)
and_law m (k ∷ ks) h u v w s t sc =
    let rest : List (Way Step) = all_of ends_at (map (λ k. k.1) (with_ways (counts m) ks)) in
    let e : Effect = effects_and (map (λ k. ker_effect w m k sc s t) ks) in
    let c : Bool = list_all (unread (map (λ k. k.0) (with_ways (counts m) ks))) (ways (counts m) k) in
    let d : Bool = separate_all (with_ways (counts m) ks) in
    let c' : Bool = separate (counts m) k in
    let d' : Bool = list_all (λ b. b) (map (separate (counts m)) ks) in
    let behind : (b : Scope) → e_at w s t b ≡ ways_effect w rest b s t = λ b. and_law m ks h.1 (and_right c d u) (and_right c' d' v) w s t b in
    ap (λ x. and_then x e) (h.0.law (and_left c' d' v) w s t sc)
    ∙ sym (each_after w s t (ways (counts m) k) rest e sc (and_filled m ks h.1) (steady w s t sc rest behind (ways (counts m) k) (and_left c d u)))
  where
    e_at : Width → State → State → Scope → Effect
    e_at w s t b = effects_and (map (λ k. ker_effect w m k b s t) ks)

    steady : (w : Width) (s t : State) (sc : Scope) (rest : List (Way Step)) → ((b : Scope) → e_at w s t b ≡ ways_effect w rest b s t) →
        (as' : List (Way Step)) → IsTrue (list_all (unread (map (λ k. k.0) (with_ways (counts m) ks))) as') → AllSteady w s t as' rest (e_at w s t sc) sc
    steady w s t sc rest q [] u = tt
    steady w s t sc rest q (a ∷ as') u =
        let c : Bool = unread (map (λ k. k.0) (with_ways (counts m) ks)) a in
        let d : Bool = list_all (unread (map (λ k. k.0) (with_ways (counts m) ks))) as' in (
          λ b r.
              sym (q b)
              ∙ ap effects_and (steady_effects w m s t (but (chosen a.steps)) ks sc b
              (subst (λ (l : List Ker). IsTrue (list_all (λ k. closed no_names (as_expr k) (but (chosen a.steps))) l)) (trees_of (ways (counts m)) ks) (and_left c d u)) r),
          steady w s t sc rest q as' (and_right c d u),
        )

-- ---- branches

abbrev as_way : List Step → Ker → Way Step → Way Step
as_way front k y = record { taken = or_else y.taken (Some (out-Ker k).place); steps = front ++ y.steps }

-- the root of the last branch is no part of what a path comes to
branch_same : (w : Width) (s t : State) (k : Ker) (ys : List (Way Step)) (sc : Scope) →
    ways_effect w (map (as_way [] k) ys) sc s t ≡ ways_effect w ys sc s t
branch_same w s t k [] sc = refl
branch_same w s t k (y ∷ ys) sc = ap (or_also (way_effect w y sc s t)) (branch_same w s t k ys sc)

any_law : (m : Assignable) (ks : List Ker) → Each (Law m) ks → IsTrue (list_all (λ b. b) (map (separate (counts m)) ks)) → (w : Width) (s t : State) (sc : Scope) →
    effects_or (map (λ k. ker_effect w m k sc s t) ks) ≡ ways_effect w (any_of (rooted (with_ways (counts m) ks))) sc s t
any_law m [] h v w s t sc = refl
any_law m (k ∷ ks) h v w s t sc =
    let c : Bool = separate (counts m) k in
    let d : Bool = list_all (λ b. b) (map (separate (counts m)) ks) in
    ap₂ or_also (h.0.law (and_left c d v) w s t sc ∙ sym (branch_same w s t k (ways (counts m) k) sc)) (any_law m ks h.1 (and_right c d v) w s t sc)
    ∙ sym (or_append (map (λ y. way_effect w y sc s t) (branch [] (out-Ker k).place (ways (counts m) k))) (map (λ y. way_effect w y sc s t) (any_of (rooted (with_ways (counts m) ks)))))
    ∙ sym (ap effects_or (map_append (λ y. way_effect w y sc s t) (branch [] (out-Ker k).place (ways (counts m) k)) (any_of (rooted (with_ways (counts m) ks)))))

any_filled : (m : Assignable) (ks : List Ker) → Each (Law m) ks → any_mentions (counts m) (with_ways (counts m) ks) ≡ true → Filled (any_of (rooted (with_ways (counts m) ks)))
any_filled m [] h q = absurd (false≢true q)
any_filled m (k ∷ ks) h q =
    filled_front (branch [] (out-Ker k).place (ways (counts m) k)) (any_of (rooted (with_ways (counts m) ks))) (filled_map (as_way [] k) (ways (counts m) k) h.0.filled)

any_marked : (m : Assignable) (ks : List Ker) → list_any (mentions (counts m)) ks ≡ any_mentions (counts m) (with_ways (counts m) ks)
any_marked m [] = refl
any_marked m (k ∷ ks) = ap (λ b. mentions (counts m) k || b) (any_marked m ks)

-- a guard before each of several paths
led_each : (w : Width) (s t : State) (p : Place) (c : Ker) (b : Bool) (k : Ker) (y : Way Step) (ys : List (Way Step)) (sc : Scope) →
    ways_effect w (map (as_way (Branch p c b ∷ []) k) (y ∷ ys)) sc s t ≡ led p b (ker_val w c sc s t) (ways_effect w (y ∷ ys) sc s t)
led_each w s t p c b k y [] sc =
    or_nothing (led p b (ker_val w c sc s t) (way_effect w y sc s t))
    ∙ ap (led p b (ker_val w c sc s t)) (sym (or_nothing (way_effect w y sc s t)))
led_each w s t p c b k y (z ∷ zs) sc =
    ap (or_also (led p b (ker_val w c sc s t) (way_effect w y sc s t))) (led_each w s t p c b k z zs sc)
    ∙ led_or p b (ker_val w c sc s t) (way_effect w y sc s t) (ways_effect w (z ∷ zs) sc s t)

led_filled : (w : Width) (s t : State) (p : Place) (c : Ker) (b : Bool) (k : Ker) (ys : List (Way Step)) (sc : Scope) → Filled ys →
    ways_effect w (map (as_way (Branch p c b ∷ []) k) ys) sc s t ≡ led p b (ker_val w c sc s t) (ways_effect w ys sc s t)
led_filled w s t p c b k ys sc f =
    ap (λ (l : List (Way Step)). ways_effect w (map (as_way (Branch p c b ∷ []) k) l) sc s t) f.2
    ∙ led_each w s t p c b k f.0 f.1 sc
    ∙ ap (λ (l : List (Way Step)). led p b (ker_val w c sc s t) (ways_effect w l sc s t)) (sym f.2)

-- both ways on from a guard
guard_both : (p : Place) (l : Layer Value) (a b : Effect) →
    or_also (guard p l a (fails_by NoFault)) (guard p l (fails_by NoFault) b) ≡ guard p l a b
guard_both p (layer.Bool true) a b = or_nothing a
guard_both p (layer.Bool false) a b = refl
guard_both p (layer.Int i) a b = or_twice (fails_by (IsWrong p))
guard_both p (layer.Text x) a b = or_twice (fails_by (IsWrong p))
guard_both p (layer.Set xs) a b = or_twice (fails_by (IsWrong p))
guard_both p (layer.Fun ps) a b = or_twice (fails_by (IsWrong p))

led_both : (p : Place) (o : Outcome) (a b : Effect) → or_also (led p true o a) (led p false o b) ≡ guarded p o a b
led_both p (Val v) a b = guard_both p (out-Value v) a b
led_both p (Wrong q) a b = or_twice (fails_by (IsWrong q))
led_both p (Big q) a b = or_twice (fails_by (IsBig q))

if_law : (m : Assignable) (w : Width) (s t : State) (p : Place) (c a b : Ker) (sc : Scope) (ea eb : Effect) (wa wb : List (Way Step)) → Filled wa → Filled wb →
    ea ≡ ways_effect w wa sc s t → eb ≡ ways_effect w wb sc s t →
    guarded p (ker_val w c sc s t) ea eb
    ≡ ways_effect w (map (as_way (Branch p c true ∷ []) a) wa ++ map (as_way (Branch p c false ∷ []) b) wb) sc s t
if_law m w s t p c a b sc ea eb wa wb fa fb qa qb =
    let one : List (Way Step) = map (as_way (Branch p c true ∷ []) a) wa in
    let two : List (Way Step) = map (as_way (Branch p c false ∷ []) b) wb in
    ap₂ (guarded p (ker_val w c sc s t)) qa qb
    ∙ sym (ap effects_or (map_append (λ y. way_effect w y sc s t) one two)
    ∙ or_append (map (λ y. way_effect w y sc s t) one) (map (λ y. way_effect w y sc s t) two)
    ∙ ap₂ or_also (led_filled w s t p c true a wa sc fa) (led_filled w s t p c false b wb sc fb)
    ∙ led_both p (ker_val w c sc s t) (ways_effect w wa sc s t) (ways_effect w wb sc s t))

-- ---- choices

choice_law : (w : Width) (s t : State) (p : Place) (ps : List (ℕ × Ker)) (ys : List (Way Step)) (sc : Scope) → Filled ys →
    ways_effect w (map (λ y. record { taken = y.taken; steps = Choice p ps ∷ y.steps }) ys) sc s t
    ≡ exists_effect p (map (λ k. ker_val w k sc s t) (sets ps)) (λ vs. ways_effect w ys (bind (names_of (numbers ps)) vs sc) s t)
choice_law w s t p ps ys sc f =
    ap (λ (l : List (Way Step)). ways_effect w (map (λ y. record { taken = y.taken; steps = Choice p ps ∷ y.steps }) l) sc s t) f.2
    ∙ by f.0 f.1
    ∙ ap (λ (l : List (Way Step)). exists_effect p (map (λ k. ker_val w k sc s t) (sets ps)) (λ vs. ways_effect w l (bind (names_of (numbers ps)) vs sc) s t)) (sym f.2)
  where
    by : (z : Way Step) (zs : List (Way Step)) →
        ways_effect w (map (λ y. record { taken = y.taken; steps = Choice p ps ∷ y.steps }) (z ∷ zs)) sc s t
        ≡ exists_effect p (map (λ k. ker_val w k sc s t) (sets ps)) (λ vs. ways_effect w (z ∷ zs) (bind (names_of (numbers ps)) vs sc) s t)
    by z [] =
        or_nothing _
        ∙ exists_same p (map (λ k. ker_val w k sc s t) (sets ps)) _ _ (λ vs. sym (or_nothing (way_effect w z (bind (names_of (numbers ps)) vs sc) s t)))
    by z (u ∷ us) =
        ap (or_also (way_effect w (record { taken = z.taken; steps = Choice p ps ∷ z.steps }) sc s t)) (by u us)
        ∙ exists_or p (map (λ k. ker_val w k sc s t) (sets ps)) (λ vs. way_effect w z (bind (names_of (numbers ps)) vs sc) s t) (λ vs. ways_effect w (u ∷ us) (bind (names_of (numbers ps)) vs sc) s t)

-- ---- children by their number

some_same : {X : Type 0} {x y : X} → Some x ≡ Some y → x ≡ y
some_same q = cc

law_of : (m : Assignable) (ks : List Ker) (n : ℕ) (k : Ker) → Each (Law m) ks → slice_get ks n ≡ Some k → Law m k
law_of m [] n k h q = absurd (none≢some q)
law_of m (x ∷ ks) zero k h q = subst (Law m) (some_same q) h.0
law_of m (x ∷ ks) (suc n) k h q = law_of m ks n k h.1 q

separate_of : (m : Assignable) (ks : List Ker) (n : ℕ) (k : Ker) → IsTrue (list_all (λ b. b) (map (separate (counts m)) ks)) → slice_get ks n ≡ Some k → IsTrue (separate (counts m) k)
separate_of m [] n k h q = absurd (none≢some q)
separate_of m (x ∷ ks) zero k h q =
    subst (λ k. IsTrue (separate (counts m) k)) (some_same q) (and_left (separate (counts m) x) (list_all (λ b. b) (map (separate (counts m)) ks)) h)
separate_of m (x ∷ ks) (suc n) k h q = separate_of m ks n k (and_right (separate (counts m) x) (list_all (λ b. b) (map (separate (counts m)) ks)) h) q

first_trees : (m : Assignable) (n : ℕ) (ks : List Ker) → map (λ (y : Ker × List (Way Step)). y.0) (take n (with_ways (counts m) ks)) ≡ take n ks
first_trees m zero ks = refl
first_trees m (suc n) [] = refl
first_trees m (suc n) (k ∷ ks) = ap (λ l. k ∷ l) (first_trees m n ks)

-- a binder with a body has a set for each number
zip_numbers : (xs : List ℕ) (ks : List Ker) (k : Ker) → slice_get ks (length xs) ≡ Some k → numbers (zip xs (take (length xs) ks)) ≡ xs
zip_numbers [] ks k q = refl
zip_numbers (x ∷ xs) [] k q = absurd (none≢some q)
zip_numbers (x ∷ xs) (y ∷ ys) k q = ap (λ l. x ∷ l) (zip_numbers xs ys k q)

zip_sets : (xs : List ℕ) (ks : List Ker) (k : Ker) → slice_get ks (length xs) ≡ Some k → sets (zip xs (take (length xs) ks)) ≡ take (length xs) ks
zip_sets [] ks k q = refl
zip_sets (x ∷ xs) [] k q = absurd (none≢some q)
zip_sets (x ∷ xs) (y ∷ ys) k q = ap (λ l. y ∷ l) (zip_sets xs ys k q)

length_names : (xs : List ℕ) → length (names_of xs) ≡ length xs
length_names [] = refl
length_names (x ∷ xs) = ap suc (length_names xs)

abbrev pair_of : Assignable → Ker → Ker × List (Way Step)
pair_of m k = (k, ways (counts m) k)

-- ---- there is a path

choice_filled : (m : Assignable) (self : Ker) (p : Place) (n : ℕ) (ps : List (ℕ × Ker)) (ks : List Ker) → Each (Law m) ks →
    (o : Option Ker) → slice_get ks n ≡ o → Filled (choice_ways self p ps (option_map (pair_of m) o))
choice_filled m self p n ps ks h None q = (_, _, refl)
choice_filled m self p n ps ks h (Some k) q = filled_map _ (ways (counts m) k) (law_of m ks n k h q).filled

or_filled : (m : Assignable) (self : Ker) (ks : List Ker) → Each (Law m) ks → (b : Bool) → any_mentions (counts m) (with_ways (counts m) ks) ≡ b →
    Filled (if b then any_of (rooted (with_ways (counts m) ks)) else alone (Holds self))
or_filled m self ks h true q = any_filled m ks h q
or_filled m self ks h false q = alone_filled self

if_filled : (m : Assignable) (self : Ker) (p : Place) (ks : List Ker) → Each (Law m) ks → (b : Bool) → Filled (if b then if_ways self p (with_ways (counts m) ks) else alone (Holds self))
if_filled m self p ks h false = alone_filled self
if_filled m self p [] h true = alone_filled self
if_filled m self p (c ∷ []) h true = alone_filled self
if_filled m self p (c ∷ a ∷ []) h true = alone_filled self
if_filled m self p (c ∷ a ∷ b ∷ []) h true =
    filled_front (map (as_way (Branch p c true ∷ []) a) (ways (counts m) a)) (map (as_way (Branch p c false ∷ []) b) (ways (counts m) b))
    (filled_map (as_way (Branch p c true ∷ []) a) (ways (counts m) a) h.1.0.filled)
if_filled m self p (c ∷ a ∷ b ∷ d ∷ ks) h true = alone_filled self

node_filled : (m : Assignable) (self : Ker) (p : Place) (o : KerOp) (xs : List ℕ) (ks : List Ker) → Each (Law m) ks →
    Filled (ways_of (counts m) o self p xs (with_ways (counts m) ks))
node_filled m self p ker.And xs ks h = and_filled m ks h
node_filled m self p ker.Or xs ks h = or_filled m self ks h (any_mentions (counts m) (with_ways (counts m) ks)) refl
node_filled m self p ker.If xs ks h = if_filled m self p ks h (any_mentions (counts m) (with_ways (counts m) ks))
node_filled m self p ker.Some xs ks h =
    let ps : List (ℕ × Ker) = zip xs (map (λ k. k.0) (take (length xs) (with_ways (counts m) ks))) in
    subst (λ o. Filled (choice_ways self p ps o)) (sym (slice_get-map (pair_of m) ks (length xs)))
    (choice_filled m self p (length xs) ps ks h (slice_get ks (length xs)) refl)
node_filled m self p o xs ks h = alone_filled self

-- ---- the law of a node

module _ (w : Width) (m : Assignable) (s t : State) where
  abbrev node_act : Place → KerOp → List ℕ → List Ker → Scope → Effect
  node_act p o xs ks sc = (sense_at w p o (length (names_of xs)) xs ks sc).act m s t

  abbrev node_val : Place → KerOp → List ℕ → List Ker → Scope → Outcome
  node_val p o xs ks sc = (sense_at w p o (length (names_of xs)) xs ks sc).value s t

  -- a node that is one operand
  single : (self : Ker) (p : Place) (o : KerOp) (xs : List ℕ) (ks : List Ker) (sc : Scope) → ker_val w self sc s t ≡ node_val p o xs ks sc →
      effect_of (node_val p o xs ks sc) ≡ ways_effect w (alone (Holds self)) sc s t
  single self p o xs ks sc v = ap effect_of (sym v) ∙ sym (alone_law w self s t sc)

  or_at : (self : Ker) (p : Place) (xs : List ℕ) (ks : List Ker) (sc : Scope) → ker_val w self sc s t ≡ node_val p ker.Or xs ks sc → Each (Law m) ks →
      IsTrue (list_all (λ b. b) (map (separate (counts m)) ks)) → (b : Bool) →
      (if b then effects_or (map (λ k. ker_effect w m k sc s t) ks) else effect_of (node_val p ker.Or xs ks sc))
      ≡ ways_effect w (if b then any_of (rooted (with_ways (counts m) ks)) else alone (Holds self)) sc s t
  or_at self p xs ks sc v h u true = any_law m ks h u w s t sc
  or_at self p xs ks sc v h u false = single self p ker.Or xs ks sc v

  if_at : (self : Ker) (p : Place) (xs : List ℕ) (ks : List Ker) (sc : Scope) → ker_val w self sc s t ≡ node_val p ker.If xs ks sc → Each (Law m) ks →
      IsTrue (list_all (λ b. b) (map (separate (counts m)) ks)) → (b : Bool) →
      (if b then if_effect p (map (λ k. ker_val w k sc s t) ks) (map (λ k. ker_effect w m k sc s t) ks) else effect_of (node_val p ker.If xs ks sc))
      ≡ ways_effect w (if b then if_ways self p (with_ways (counts m) ks) else alone (Holds self)) sc s t
  if_at self p xs ks sc v h u false = single self p ker.If xs ks sc v
  if_at self p xs [] sc v h u true = single self p ker.If xs [] sc v
  if_at self p xs (c ∷ []) sc v h u true = single self p ker.If xs (c ∷ []) sc v
  if_at self p xs (c ∷ a ∷ []) sc v h u true = single self p ker.If xs (c ∷ a ∷ []) sc v
  if_at self p xs (c ∷ a ∷ b ∷ d ∷ ks) sc v h u true = single self p ker.If xs (c ∷ a ∷ b ∷ d ∷ ks) sc v
  if_at self p xs (c ∷ a ∷ b ∷ []) sc v h u true =
      let rest : IsTrue (separate (counts m) a && (separate (counts m) b && true)) = and_right (separate (counts m) c) (separate (counts m) a && (separate (counts m) b && true)) u in
      let last : IsTrue (separate (counts m) b && true) = and_right (separate (counts m) a) (separate (counts m) b && true) rest in
      if_law m w s t p c a b sc _ _ (ways (counts m) a) (ways (counts m) b) h.1.0.filled h.1.1.0.filled
      (h.1.0.law (and_left (separate (counts m) a) (separate (counts m) b && true) rest) w s t sc)
      (h.1.1.0.law (and_left (separate (counts m) b) true last) w s t sc)

  -- an `\E`, by what stands at the number of its names
  abbrev some_val : Place → List ℕ → List Ker → Option Ker → Scope → Outcome
  some_val p xs sets o sc =
      strict (map (λ k. ker_val w k sc s t) sets) (on_all_sets p (λ xss.
      strict (map (λ vs. (body_sense w p o (bind (names_of xs) vs sc)).value s t) (choices xss)) (bound_table p op.Exists (choices xss))))

  abbrev some_act : Place → List ℕ → List Ker → Option Ker → Scope → Effect
  some_act p xs sets o sc = exists_effect p (map (λ k. ker_val w k sc s t) sets) (λ vs. (body_sense w p o (bind (names_of xs) vs sc)).act m s t)

  some_val_is : (p : Place) (xs : List ℕ) (ks : List Ker) (sc : Scope) →
      node_val p ker.Some xs ks sc ≡ some_val p xs (take (length xs) ks) (slice_get ks (length xs)) sc
  some_val_is p xs ks sc =
      ap (λ n. (sense_at w p ker.Some n xs ks sc).value s t) (length_names xs)
      ∙ (λ i. strict (sets_here w p (length xs) ks sc s t i) (on_all_sets p (λ xss.
      strict (map (λ vs. (body_here w p (length xs) ks (bind (names_of xs) vs sc) i).value s t) (choices xss)) (bound_table p op.Exists (choices xss)))))

  some_act_is : (p : Place) (xs : List ℕ) (ks : List Ker) (sc : Scope) →
      node_act p ker.Some xs ks sc ≡ some_act p xs (take (length xs) ks) (slice_get ks (length xs)) sc
  some_act_is p xs ks sc =
      ap (λ n. (sense_at w p ker.Some n xs ks sc).act m s t) (length_names xs)
      ∙ (λ i. exists_effect p (sets_here w p (length xs) ks sc s t i) (λ vs. (body_here w p (length xs) ks (bind (names_of xs) vs sc) i).act m s t))

  some_at : (self : Ker) (p : Place) (xs : List ℕ) (ks : List Ker) (sc : Scope) → Each (Law m) ks → IsTrue (list_all (λ b. b) (map (separate (counts m)) ks)) →
      (o : Option Ker) → slice_get ks (length xs) ≡ o → ker_val w self sc s t ≡ some_val p xs (take (length xs) ks) o sc →
      some_act p xs (take (length xs) ks) o sc ≡ ways_effect w (choice_ways self p (zip xs (take (length xs) ks)) (option_map (pair_of m) o)) sc s t
  some_at self p xs ks sc h u None q v =
      no_body p (map (λ k. ker_val w k sc s t) (take (length xs) ks)) ∙ ap effect_of (sym v) ∙ sym (alone_law w self s t sc)
  some_at self p xs ks sc h u (Some k) q v =
      let l : Law m k = law_of m ks (length xs) k h q in
      let ps : List (ℕ × Ker) = zip xs (take (length xs) ks) in
      (λ i. exists_effect p (map (λ k. ker_val w k sc s t) (sym (zip_sets xs ks k q) i)) (λ vs. ker_effect w m k (bind (names_of (sym (zip_numbers xs ks k q) i)) vs sc) s t))
      ∙ exists_same p (map (λ k. ker_val w k sc s t) (sets ps)) _ _ (λ vs.
      l.law (separate_of m ks (length xs) k u q) w s t (bind (names_of (numbers ps)) vs sc))
      ∙ sym (choice_law w s t p ps (ways (counts m) k) sc l.filled)

  node_law : (self : Ker) (p : Place) (o : KerOp) (xs : List ℕ) (ks : List Ker) (sc : Scope) → ker_val w self sc s t ≡ node_val p o xs ks sc →
      Each (Law m) ks → IsTrue (separate_at (counts m) o xs (with_ways (counts m) ks) (map (separate (counts m)) ks)) →
      node_act p o xs ks sc ≡ ways_effect w (ways_of (counts m) o self p xs (with_ways (counts m) ks)) sc s t
  node_law self p ker.And xs ks sc v h u =
      let c : Bool = separate_all (with_ways (counts m) ks) in
      let d : Bool = list_all (λ b. b) (map (separate (counts m)) ks) in
      ap effects_and (effects_here w m p ks sc s t) ∙ and_law m ks h (and_left c d u) (and_right c d u) w s t sc
  node_law self p ker.Or xs ks sc v h u =
      (λ i. if (any_here w m p ks sc ∙ any_marked m ks) i then effects_or (effects_here w m p ks sc s t i) else effect_of (node_val p ker.Or xs ks sc))
      ∙ or_at self p xs ks sc v h u (any_mentions (counts m) (with_ways (counts m) ks))
  node_law self p ker.If xs ks sc v h u =
      (λ i. if (any_here w m p ks sc ∙ any_marked m ks) i
      then if_effect p (outcomes_here w p ks sc s t i) (effects_here w m p ks sc s t i)
      else effect_of (node_val p ker.If xs ks sc))
      ∙ if_at self p xs ks sc v h u (any_mentions (counts m) (with_ways (counts m) ks))
  node_law self p ker.Some xs ks sc v h u =
      some_act_is p xs ks sc
      ∙ some_at self p xs ks sc h u (slice_get ks (length xs)) refl (v ∙ some_val_is p xs ks sc)
      ∙ (λ i. ways_effect w (choice_ways self p (zip xs (sym (first_trees m (length xs) ks) i)) (sym (slice_get-map (pair_of m) ks (length xs)) i)) sc s t)
  node_law self p o xs ks sc v h u =
      leaf_effect w m p o (length (names_of xs)) xs ks sc s t refl ∙ single self p o xs ks sc v

law_at : (m : Assignable) (x : Ker-F Ker) → Each (Law m) x.args → Law m (roll-Ker x)
law_at m x h = record {
  filled = subst Filled (sym (ways-roll (counts m) x)) (node_filled m (roll-Ker x) x.place x.op x.binds x.args h);
  law = λ u w s t sc.
      ap (λ (k : Meaning). (k sc).act m s t) (ker-roll w x)
      ∙ node_law w m s t (roll-Ker x) x.place x.op x.binds x.args sc (ap (λ (k : Meaning). (k sc).value s t) (ker-roll w x)) h
      (subst IsTrue (separate-roll (counts m) x) u)
      ∙ ap (λ (l : List (Way Step)). ways_effect w l sc s t) (sym (ways-roll (counts m) x));
}

pub every_law : (m : Assignable) (k : Ker) → Law m k
every_law m = by_nodes (Law m) (law_at m)

-- THE LAW OF PATHS
pub law_of_paths : (w : Width) (m : Assignable) (k : Ker) → IsTrue (separate (counts m) k) → (sc : Scope) (s t : State) →
    ker_effect w m k sc s t ≡ ways_effect w (ways (counts m) k) sc s t
law_of_paths w m k h sc s t = (every_law m k).law h w s t sc
