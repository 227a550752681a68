-- The ends of the search, for what is bound and how many variables are issued.
use Rattle.std.proofs.Common.{◌≡◌, ℕ, List, ◌++◌, take, length, ap, sym, ◌∙◌, subst, arith}
use Rattle.std.proofs.Math.Seq.{take-append_seam}
use Rattle.snowcat_rows.specs.declared.bindings.Bound.{Bound}
use Rattle.snowcat_rows.specs.declared.places.Places.{Places}
use Rattle.snowcat_rows.specs.declared.substitution.Store.{Store}
use Rattle.snowcat_rows.specs.Types.{Term}
use Rattle.snowcat_rows.specs.Chains.{Binding, Chain, solved}
use Rattle.snowcat_rows.specs.Sorting.{AllWithin}
use Rattle.snowcat_rows.specs.Codes.{Begins}
use Rattle.snowcat_rows.specs.inner.Places.{Indexed}
use Rattle.snowcat_rows.specs.inner.Stores.{HasBoth, IsNamed, IsSolved, bound_in}
use Rattle.snowcat_rows.proofs.Searching.{Searching, made, made_at}

-- the last round found nothing more
pub found : (s t u : Store) (a b : Term) → Searching s.issued t.issued (bound_in s) (bound_in t) a b → HasBoth s a b → Chain (bound_in s) →
    solved (bound_in t) a ≡ solved (bound_in t) b → bound_in u ≡ bound_in t → u.issued ≡ t.issued → IsNamed u → IsSolved s u a b
found s t u a b h w c e q p nd =
    let C : List Binding → Type 0 = λ z. Chain z in
    let W : List Binding → Type 0 = λ z. AllWithin t.issued z in
    let N : ℕ → Type 0 = λ z. AllWithin z (bound_in u) in
    record {
      chain = subst C (sym q) h.plain.chain;
      within = subst N (sym p) (subst W (sym q) h.plain.within);
      more = omega (arith, h.more, p);
      named = nd;
      made = made_at s.issued t.issued u.issued (bound_in s) (bound_in t) (bound_in u) a b q p (made s.issued t.issued (bound_in s) (bound_in t) a b h w.0 w.1 c e);
    }

-- what was bound stands at its places where these are as they were
pub still_indexed : (p q : Places) (xs ys zs : List Bound) (mark : ℕ) → Indexed p xs → q ≡ p → Begins xs ys → zs ≡ ys → mark ≡ length xs → Indexed q (take mark zs)
still_indexed p q xs ys zs mark h e b f m =
    let front : take mark zs ≡ xs = ap (take mark) (f ∙ b.1) ∙ ap (λ n. take n (xs ++ b.0)) m ∙ take-append_seam xs b.0 in
    let P : Places → Type 0 = λ z. Indexed z xs in
    let Q : List Bound → Type 0 = λ z. Indexed q z in
    subst Q (sym front) (subst P (sym e) h)
