-- One binding after the other is put in place.
use Rattle.std.proofs.Common.{arith, take, ◌-◌, ◌≡◌, ℕ, suc, ◌<◌, List, ◌∷◌, length, drop, get_or, drop-cons, ap, ◌∙◌, sym, subst}
use Rattle.snowcat_rows.specs.declared.bindings.Bound.{Bound}
use Rattle.snowcat_rows.specs.Types.{Term}
use Rattle.snowcat_rows.specs.Substitutions.{apply}
use Rattle.snowcat_rows.specs.Chains.{Variable, single, solved, key, Occurs}
use Rattle.snowcat_rows.specs.Codes.{binding, bindings_of}
use Rattle.snowcat_rows.specs.inner.Lookups.{looked}
use Rattle.snowcat_rows.proofs.RowTheory.{single_free}
use Rattle.snowcat_rows.proofs.Lookups.{looked_one}

pub one_further : (bs : List Bound) (i j : ℕ) (b : Bound) (t u w : Term) → i < length bs → b ≡ get_or bs i b → j ≡ suc i → w ≡ apply (single (binding b)) u →
    t ≡ solved (bindings_of (drop i bs)) u → t ≡ solved (bindings_of (drop j bs)) w
one_further bs i j b t u w lt e q h k =
    k ∙ ap (λ l. solved (bindings_of l) u) (drop-cons bs i b lt ∙ ap (λ x. x ∷ drop (suc i) bs) (sym e))
    ∙ ap (solved (bindings_of (drop (suc i) bs))) (sym h) ∙ ap (λ z. solved (bindings_of (drop z bs)) w) (sym q)

-- a type without the bound variable is as it was
pub untouched : (b : Bound) (v : Variable) (u : Term) → v ≡ key (binding b) → (Occurs v u → ⊥) → u ≡ apply (single (binding b)) u
untouched b v u e n = sym (single_free (binding b) u (λ o. n (let P : Variable → Type 0 = λ z. Occurs z u in subst P (sym e) o)))

-- a slice of one binding, looked up
pub one_slice : (bs : List Bound) (i j : ℕ) (b : Bound) → i < length bs → b ≡ get_or bs i b → j ≡ suc i → looked (bindings_of (take (j - i) (drop i bs))) ≡ single (binding b)
one_slice bs i j b lt e q =
    ap (λ l. looked (bindings_of (take (j - i) l))) (drop-cons bs i b lt ∙ ap (λ x. x ∷ drop (suc i) bs) (sym e))
    ∙ ap (λ n. looked (bindings_of (take n (b ∷ drop (suc i) bs)))) one
    ∙ looked_one (binding b)
  where
    one : j - i ≡ 1
    one = omega (arith, q)
