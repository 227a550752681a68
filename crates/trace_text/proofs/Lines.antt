-- The lines of a block, and the states of a trace, from one on.
use Rattle.std.proofs.Common.{◌≡◌, ℕ, zero, suc, ◌+◌, ◌<◌, ◌≤◌, List, [], ◌∷◌, ◌++◌, length, drop, get_or, refl, ap, ◌∙◌, sym, arith}
use Rattle.std.specs.Prelude.{codes, decimal, flat_map, min, zip}
use Rattle.tla_values.specs.declared.value.Value.{Value}
use Rattle.tla_meaning.specs.declared.expr.Decl.{Decl}
use Rattle.tla_meaning.specs.declared.job.State.{State}
use Rattle.trace_text.specs.Reports.{block_text, names_of, states_text, value_line}

-- the lines from i on
abbrev pub lines_from : ℕ → List Decl → List Value → List ℕ
lines_from i ds vs = flat_map value_line (zip (names_of (drop i ds)) (drop i vs))

first_line : (ds : List Decl) (vs : List Value) (i : ℕ) (d : Decl) (v : Value) → i < length ds → i < length vs →
    lines_from i ds vs ≡ value_line ((get_or ds i d).name, get_or vs i v) ++ lines_from (suc i) ds vs
first_line [] vs i d v lt le = absurd (omega arith)
first_line (x ∷ ds) [] i d v lt le = absurd (omega arith)
first_line (x ∷ ds) (y ∷ vs) zero d v lt le = refl
first_line (x ∷ ds) (y ∷ vs) (suc i) d v lt le = first_line ds vs i d v (omega arith) (omega arith)

pub line_first : (ds : List Decl) (vs : List Value) (i : ℕ) (d : Decl) (v : Value) → i < length ds → i < length vs →
    lines_from i ds vs ≡ value_line ((get_or ds i d).name, get_or vs i v) ++ lines_from (i + 1) ds vs
line_first ds vs i d v lt le =
    let next : suc i ≡ i + 1 = omega arith in
    first_line ds vs i d v lt le ∙ ap (λ n. value_line ((get_or ds i d).name, get_or vs i v) ++ lines_from n ds vs) next

drop_nil : {X : Type 0} (i : ℕ) → drop {A = X} i [] ≡ []
drop_nil zero = refl
drop_nil (suc i) = refl

zip_none : (xs : List (List ℕ)) → zip {X = Value} xs [] ≡ []
zip_none [] = refl
zip_none (x ∷ xs) = refl

pub lines_end : (ds : List Decl) (vs : List Value) (i : ℕ) → min (length ds) (length vs) ≤ i → lines_from i ds vs ≡ []
lines_end [] vs i le = ap (λ ds. flat_map value_line (zip (names_of ds) (drop i vs))) (drop_nil i)
lines_end (x ∷ ds) [] i le = ap (λ vs. flat_map value_line (zip (names_of (drop i (x ∷ ds))) vs)) (drop_nil i) ∙ ap (flat_map value_line) (zip_none (names_of (drop i (x ∷ ds))))
lines_end (x ∷ ds) (y ∷ vs) zero le = absurd (grind arith)
lines_end (x ∷ ds) (y ∷ vs) (suc i) le = lines_end ds vs i (omega arith)

-- the states from i on
first_state : (ds : List Decl) (n : ℕ) (ss : List State) (i : ℕ) (s : State) → i < length ss → s ≡ get_or ss i s →
    states_text ds n (drop i ss) ≡ codes "state " ++ decimal n ++ codes "\n" ++ block_text ds s ++ states_text ds (n + 1) (drop (suc i) ss)
first_state ds n [] i s lt e = absurd (omega arith)
first_state ds n (x ∷ ss) zero s lt e = ap (λ y. codes "state " ++ decimal n ++ codes "\n" ++ block_text ds y ++ states_text ds (n + 1) ss) (sym e)
first_state ds n (x ∷ ss) (suc i) s lt e = first_state ds n ss i s (omega arith) e

pub state_first : (ds : List Decl) (n : ℕ) (ss : List State) (i : ℕ) (s : State) → i < length ss → s ≡ get_or ss i s →
    states_text ds n (drop i ss) ≡ codes "state " ++ decimal n ++ codes "\n" ++ block_text ds s ++ states_text ds (n + 1) (drop (i + 1) ss)
state_first ds n ss i s lt e =
    let next : suc i ≡ i + 1 = omega arith in
    first_state ds n ss i s lt e ∙ ap (λ m. codes "state " ++ decimal n ++ codes "\n" ++ block_text ds s ++ states_text ds (n + 1) (drop m ss)) next
