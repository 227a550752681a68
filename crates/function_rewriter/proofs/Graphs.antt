-- The members of the set of all functions: one for each rule that stays within.
use Rattle.std.proofs.Common.{◌≡◌, Bool, true, false, ◌||◌, List, [], ◌∷◌, map, refl, ap, ◌∙◌, sym, if◌then◌else◌, ◌⊎◌, inl, inr}
use Rattle.std.specs.List.{list_any, zip}
use Rattle.std.proofs.lemmas.Bool.{or_cases}
use Rattle.std.proofs.lemmas.List.Folds.{list_any-append}
use Rattle.tla_values.specs.Order.{same_value}
use Rattle.tla_values.specs.Sets.{distinct, elements, member, set_of}
use Rattle.tla_values.specs.declared.value.Value.{Value}
use Rattle.tla_values.specs.declared.value.Value.TheVariants as value
use Rattle.tla_values.proofs.Members.{elements-set}
use Rattle.tla_values.proofs.Extensional.{same_equal, same_itself, member-set_of}
use Rattle.cell_merge.proofs.FunctionValues.{rest_so, not_member}
use Rattle.function_rewriter.specs.FunctionSets.{with_each, each_to, all_functions}
use Rattle.function_rewriter.proofs.PairLists.{graph}

any-map : {X : Type 0} {Y : Type 0} (p : Y → Bool) (f : X → Y) (xs : List X) → list_any p (map f xs) ≡ list_any (λ x. p (f x)) xs
any-map p f [] = refl
any-map p f (x ∷ xs) = ap (λ t. p (f x) || t) (any-map p f xs)

or_left : (p q : Bool) → p ≡ true → (p || q) ≡ true
or_left p q e = ap (λ t. t || q) e

or_right : (p q : Bool) → q ≡ true → (p || q) ≡ true
or_right true q e = refl
or_right false q e = e

pub any-with : (q : List Value → Bool) (ts : List Value) (yss : List (List Value)) → list_any q (with_each ts yss) ≡ list_any (λ t. list_any (λ ys. q (t ∷ ys)) yss) ts
any-with q [] yss = refl
any-with q (t ∷ ts) yss =
    list_any-append q (map (λ ys. t ∷ ys) yss) (with_each ts yss) ∙ ap (λ b. b || list_any q (with_each ts yss)) (any-map q (λ ys. t ∷ ys) yss)
    ∙ ap (λ b. list_any (λ ys. q (t ∷ ys)) yss || b) (any-with q ts yss)

-- a member that passes a test
pub any-member : (q : Value → Bool) (v : Value) (ts : List Value) → member v ts ≡ true → q v ≡ true → list_any q ts ≡ true
any-member q v [] m e = absurd (cc)
any-member q v (t ∷ ts) m e = go (same_value v t) refl (or_cases _ _ m) (λ k. any-member q v ts k e)
  where
    go : (b : Bool) → same_value v t ≡ b → (same_value v t ≡ true) ⊎ (member v ts ≡ true) → (member v ts ≡ true → list_any q ts ≡ true) → (q t || list_any q ts) ≡ true
    go b k (inl f) next = or_left _ _ (ap q (sym (same_equal v t f)) ∙ e)
    go b k (inr f) next = or_right _ _ (next f)

-- and each test that some item passes is passed by a member
pub member-any : (q : Value → Bool) (ts : List Value) → list_any q ts ≡ true → (v : Value) × ((member v ts ≡ true) × (q v ≡ true))
member-any q [] e = absurd (cc)
member-any q (t ∷ ts) e = go (or_cases _ _ e) (member-any q ts)
  where
    go : (q t ≡ true) ⊎ (list_any q ts ≡ true) → (list_any q ts ≡ true → (v : Value) × ((member v ts ≡ true) × (q v ≡ true))) → (v : Value) × ((member v (t ∷ ts) ≡ true) × (q v ≡ true))
    go (inl f) next = (t, (or_left _ _ (same_itself t), f))
    go (inr f) next = let r = next f in (r.0, (or_right _ _ r.1.0, r.1.1))

-- a rule that stays within gives one of the lists
pub any-rule : (q : List Value → Bool) (xs ts : List Value) (g : Value → Value) → ((x : Value) → member x xs ≡ true → member (g x) ts ≡ true) → q (map g xs) ≡ true → list_any q (each_to xs ts) ≡ true
any-rule q [] ts g h e = or_left _ _ e
any-rule q (x ∷ xs) ts g h e =
    any-with q ts (each_to xs ts)
    ∙ any-member (λ t. list_any (λ ys. q (t ∷ ys)) (each_to xs ts)) (g x) ts (h x (or_left _ _ (same_itself x)))
    (any-rule (λ ys. q (g x ∷ ys)) xs ts g (λ y m. h y (or_right _ _ m)) e)

-- the rule with another result at x
abbrev pub else_at : Value → Value → (Value → Value) → Value → Value
else_at x t g v = if same_value v x then t else g v

else-map : (x t : Value) (g : Value → Value) (xs : List Value) → ((y : Value) → member y xs ≡ true → same_value y x ≡ false) → map (else_at x t g) xs ≡ map g xs
else-map x t g [] h = refl
else-map x t g (y ∷ ys) h =
    ap (λ b. (if b then t else g y) ∷ map (else_at x t g) ys) (h y (or_left _ _ (same_itself y))) ∙ ap (λ l. g y ∷ l) (else-map x t g ys (λ z m. h z (or_right _ _ m)))

-- what does not stand among values is none of them
none_of : (x : Value) (xs : List Value) → member x xs ≡ false → (y : Value) → member y xs ≡ true → same_value y x ≡ false
none_of x xs h y m = go (same_value y x) refl
  where
    go : (b : Bool) → same_value y x ≡ b → b ≡ false
    go false e = refl
    go true e = absurd (let f : true ≡ false = sym m ∙ ap (λ z. member z xs) (same_equal y x e) ∙ h in cc)

record Ruled (q : List Value → Bool) (xs ts : List Value) : Type 0 where
  rule : Value → Value
  within : (x : Value) → member x xs ≡ true → member (rule x) ts ≡ true
  passes : q (map rule xs) ≡ true

rule-any : (q : List Value → Bool) (xs ts : List Value) → distinct xs ≡ true → list_any q (each_to xs ts) ≡ true → Ruled q xs ts
rule-any q [] ts d e = record { rule = λ v. v; within = λ x m. absurd (cc); passes = alone (q []) e }
  where
    alone : (b : Bool) → (b || false) ≡ true → b ≡ true
    alone true f = refl
    alone false f = f
rule-any q (x ∷ xs) ts d e =
    let r = member-any (λ t. list_any (λ ys. q (t ∷ ys)) (each_to xs ts)) ts (sym (any-with q ts (each_to xs ts)) ∙ e) in
    let t : Value = r.0 in
    let s = rule-any (λ ys. q (t ∷ ys)) xs ts (rest_so _ _ d) r.1.1 in
    let g : Value → Value = else_at x t s.rule in
    let here : g x ≡ t = ap (λ b. if b then t else s.rule x) (same_itself x) in
    let others : map g xs ≡ map s.rule xs = else-map x t s.rule xs (none_of x xs (not_member x xs d)) in
    record {
      rule = g;
      within = λ y m. at y (same_value y x) t (s.rule y) m (s.within y) r.1.0;
      passes = ap (λ v. q (v ∷ map g xs)) here ∙ ap (λ l. q (t ∷ l)) others ∙ s.passes;
    }
  where
    at : (y : Value) (b : Bool) (t u : Value) → (b || member y xs) ≡ true → (member y xs ≡ true → member u ts ≡ true) → member t ts ≡ true → member (if b then t else u) ts ≡ true
    at y true t u m f k = k
    at y false t u m f k = f m

pub zip-graph : (xs : List Value) (g : Value → Value) → zip xs (map g xs) ≡ graph xs g
zip-graph [] g = refl
zip-graph (x ∷ xs) g = ap (λ l. (x, g x) ∷ l) (zip-graph xs g)

functions-member : (w : Value) (xs ts : List Value) → member w (elements (all_functions xs ts)) ≡ list_any (λ ys. same_value w (value.Fun (zip xs ys))) (each_to xs ts)
functions-member w xs ts =
    let all : List Value = map (λ ys. value.Fun (zip xs ys)) (each_to xs ts) in
    ap (member w) (elements-set (set_of all)) ∙ member-set_of w all ∙ any-map (same_value w) (λ ys. value.Fun (zip xs ys)) (each_to xs ts)

-- each rule that stays within is one of the functions
pub choice-function : (w : Value) (xs ts : List Value) (g : Value → Value) → ((x : Value) → member x xs ≡ true → member (g x) ts ≡ true) → w ≡ value.Fun (graph xs g)
    → member w (elements (all_functions xs ts)) ≡ true
choice-function w xs ts g h e =
    functions-member w xs ts
    ∙ any-rule (λ ys. same_value w (value.Fun (zip xs ys))) xs ts g h (ap (λ l. same_value w (value.Fun l)) (zip-graph xs g) ∙ ap (same_value w) (sym e) ∙ same_itself w)

-- a function from xs to ts by a rule
pub record IsByRule (w : Value) (xs ts : List Value) : Type 0 where
  pub rule : Value → Value
  pub within : (x : Value) → member x xs ≡ true → member (rule x) ts ≡ true
  pub is : w ≡ value.Fun (graph xs rule)

-- and each of the functions is given by one
pub function-choice : (w : Value) (xs ts : List Value) → distinct xs ≡ true → member w (elements (all_functions xs ts)) ≡ true → IsByRule w xs ts
function-choice w xs ts d e =
    let r = rule-any (λ ys. same_value w (value.Fun (zip xs ys))) xs ts d (sym (functions-member w xs ts) ∙ e) in
    record { rule = r.rule; within = r.within; is = same_equal _ _ r.passes ∙ ap (λ l. value.Fun l) (zip-graph xs r.rule) }
