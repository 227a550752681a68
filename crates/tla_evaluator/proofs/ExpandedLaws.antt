-- On expanded trees an evaluation computes their meaning, and its values are normal.
use Rattle.std.proofs.Common.{◌≡◌, ℕ, Bool, true, false, IsTrue, List, [], ◌∷◌, map, refl, ap, ap₂, ◌∙◌, Some}
use Rattle.tla_evaluator.proofs.Words.{AllAgree, Denotation, Expr, Expr-F, IsNormalOutcome, Meaning, Normal, Scope, State, Value, Width, absent, fold-roll-Expr, map-Expr, meaning, node, recursion_from_All, roll-Expr}
use Rattle.tla_meaning.specs.Substitution.{Test}
use Rattle.tla_meaning.proofs.Laws.{simulate}
use Rattle.tla_meaning.proofs.NormalNodes.{NormalDenotation, absent_normal}
use Rattle.tla_meaning.proofs.NormalLaw.{NormalMeaning, NormalMeanings, NormalScope, fold_normal, node_normal}
use Rattle.tla_evaluator.specs.Trees.{AreNormal, is_expanded, expanded_meaning, expanded_node, scope_at, is_expanded_op, value_at}

-- ---- the meaning of the language

expanded_meaning-roll : (w : Width) (x : Expr-F Expr) → expanded_meaning w (roll-Expr x) ≡ expanded_node w (map-Expr Expr Meaning (expanded_meaning w) x)
unfolding expanded_meaning
expanded_meaning-roll w x = fold-roll-Expr Meaning (expanded_node w) x

abbrev Same : Scope → Scope → Type 0
Same a b = a ≡ b

abbrev left_over : Test
left_over o xs = is_expanded_op o

all_same : (ks ls : List Meaning) → AllAgree Same ks ls → ks ≡ ls
all_same [] [] h = refl
all_same [] (l ∷ ls) h = absurd h
all_same (k ∷ ks) [] h = absurd h
all_same (k ∷ ks) (l ∷ ls) h = ap₂ (λ (m : Meaning) (ms : List Meaning). m ∷ ms) (λ i. λ a. h.0 a a refl i) (all_same ks ls h.1)

layer_same : (w : Width) (x : Expr-F Expr) → IsTrue (is_expanded_op x.op) → AllAgree Same (map (expanded_meaning w) x.args) (map (meaning w) x.args) →
    (a b : Scope) → Same a b → expanded_meaning w (roll-Expr x) a ≡ node w (map-Expr Expr Meaning (meaning w) x) b
layer_same w x h k a b r =
    let y : Expr-F Meaning = map-Expr Expr Meaning (expanded_meaning w) x in
    ap (λ (m : Meaning). m a) (expanded_meaning-roll w x)
    ∙ ap (λ (b : Bool). elim b as (λ _. Denotation) [ true ↦ node w y a | false ↦ absent y.place ]) h
    ∙ ap (λ (ks : List Meaning). node w (record y { args = ks }) a) (all_same (map (expanded_meaning w) x.args) (map (meaning w) x.args) k)
    ∙ ap (node w (map-Expr Expr Meaning (meaning w) x)) r

pub expanded_is : (w : Width) (e : Expr) → IsTrue (is_expanded e) → (sc : Scope) → expanded_meaning w e sc ≡ meaning w e sc
expanded_is w e h sc = simulate w Same left_over (expanded_meaning w) (layer_same w) e h sc sc refl

-- ---- normal values

expanded_layer : (w : Width) (x : Expr-F Meaning) → NormalMeanings x.args → NormalMeaning (expanded_node w x)
expanded_layer w x h a r = by_kind (is_expanded_op x.op)
  where
    by_kind : (b : Bool) → NormalDenotation (elim b [ true ↦ node w x a | false ↦ absent x.place ])
    by_kind true = node_normal w x h a r
    by_kind false = absent_normal x.place

expanded_normal : (w : Width) (e : Expr) → NormalMeaning (expanded_meaning w e)
unfolding expanded_meaning
expanded_normal w e = fold_normal (expanded_node w) (expanded_layer w) e

pub value_normal : (w : ℕ) (e : Expr) (vars : List (List ℕ × Value)) (s t : State) → AreNormal vars s t → IsNormalOutcome (value_at w e vars s t)
value_normal w e vars s t h =
    let sc : NormalScope (scope_at vars) = record { bound = recursion_from_All (λ b. Normal b.1) vars h.bound; named = tt } in
    (expanded_normal (Some w) e (scope_at vars) sc).value s t (recursion_from_All Normal s.vals h.now) (recursion_from_All Normal t.vals h.next)
