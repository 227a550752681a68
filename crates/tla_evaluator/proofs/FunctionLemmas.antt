-- A function with one more pair, where a search has found the place.
use Rattle.std.proofs.Common.{◌≡◌, ℕ, zero, suc, ◌<◌, ◌≤◌, List, [], ◌∷◌, ◌++◌, drop, take, length, ap, ◌∙◌, sym, subst, arith, set, IsTrue}
use Rattle.tla_evaluator.proofs.Words.{Less, Value, arguments, by_order, increasing, insert_pair, value_cmp}
use Rattle.tla_values.proofs.TotalLemmas.{value_equal}
use Rattle.tla_values.proofs.SetLaws.{Above, Rising, equal_back, greater_back, rising_from}
use Rattle.tla_values.proofs.FunLaws.{FoundAt, SplitAt, pair_split}

-- an argument before the one that is found is below it
before_found : (x : Value) (q : Value × Value) (ps : List (Value × Value)) (i : ℕ) → Above x (arguments ps) → i < length ps → FoundAt q.0 ps i → value_cmp x q.0 ≡ Less
before_found x q [] i h lt f = absurd (omega arith)
before_found x q (p ∷ ps) zero h lt f = ap (value_cmp x) (sym (value_equal p.0 q.0 (f q))) ∙ h.0
before_found x q (p ∷ ps) (suc i) h lt f = before_found x q ps i h.1 (omega arith) f

pair_found : (q : Value × Value) (ps : List (Value × Value)) (i : ℕ) → Rising (arguments ps) → i < length ps → FoundAt q.0 ps i → insert_pair q ps ≡ set ps i q
pair_found q [] i r lt f = absurd (omega arith)
pair_found q (p ∷ ps) zero r lt f = ap (λ o. by_order o (q ∷ p ∷ ps) (q ∷ ps) (p ∷ insert_pair q ps)) (equal_back p.0 q.0 (f q))
pair_found q (p ∷ ps) (suc i) r lt f =
    ap (λ o. by_order o (q ∷ p ∷ ps) (q ∷ ps) (p ∷ insert_pair q ps)) (greater_back p.0 q.0 (before_found p.0 q ps i r.0 (omega arith) f))
    ∙ ap (λ l. p ∷ l) (pair_found q ps i r.1 (omega arith) f)

-- ---- the same by another name of the list

pub put_found : (q : Value × Value) (fs ss : List (Value × Value)) (i : ℕ) → ss ≡ fs → IsTrue (increasing (arguments fs)) → i < length ss → FoundAt q.0 ss i → set fs i q ≡ insert_pair q fs
put_found q fs ss i e up lt f =
    subst (λ l. set l i q ≡ insert_pair q l) e (sym (pair_found q ss i (subst (λ l. Rising (arguments l)) (sym e) (rising_from _ up)) lt f))

pub put_split : (q : Value × Value) (fs ss new : List (Value × Value)) (i : ℕ) → ss ≡ fs → i ≤ length ss → SplitAt q.0 ss i → new ≡ take i fs ++ q ∷ drop i fs → new ≡ insert_pair q fs
put_split q fs ss new i e le s is = is ∙ subst (λ l. take i l ++ q ∷ drop i l ≡ insert_pair q l) e (sym (pair_split q ss i le s))
