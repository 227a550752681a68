-- A link goes from the list of one literal to that of another.
use Rattle.std.proofs.Common.{◌≡◌, ◌≢◌, ℕ, ◌+◌, ◌<◌, List, [], length, take, set, Some, sym, ◌∙◌, ap, arith}
use Rattle.std.specs.Prelude.{Contains}
use Rattle.std.specs.List.{swap_remove}
use Rattle.std.proofs.lemmas.List.{get_or-set_same, get_or-set_other}
use Rattle.sat_formula.specs.declared.lit.Lit.{Lit}
use Rattle.watch_chains.specs.declared.link.Link.{Link}
use Rattle.watch_chains.specs.Chains.{place_of}
use Rattle.watch_chains.specs.Watches.{list_at, IsSlot}
use Rattle.watched_search.specs.Codes.{code}
use Rattle.watched_search.specs.Searching.{clause_at}
use Rattle.watched_search.specs.inner.Keeping.{Watched, other_of, watch_at, IsPaired}
use Rattle.watched_search.specs.inner.Moving.{IsAt}
use Rattle.watched_search.proofs.CodeLemmas.{code-same, code-below}
use Rattle.watched_search.proofs.PairLemmas.{linked_at, IsPaired-move}
use Rattle.watched_search.proofs.SwapLemmas.{swapped-length, swapped-front, in-swapped, swapped-in, AllPairs-swapped, swapped-apart}

-- the link stands in the list
pub at_in : (w : Watched) (l : Lit) (i : ℕ) (k : Link) → IsAt w l i k → Contains (list_at w.chains (code l)) k
at_in w l i k at = (i, at.within, at.link)

pub at_slot : (w : Watched) (l : Lit) (i : ℕ) (k : Link) → IsPaired w → IsAt w l i k → IsSlot (length w.clauses) k × (watch_at w.slots k ≡ Some l)
at_slot w l i k paired at = paired.stands k l at.below (at_in w l i k at)

turned : (a b : Link) → a.clause ≢ b.clause → b.clause ≢ a.clause
turned a b ne e = ne (sym e)

-- the lists after the link was taken out of one, and then put into another
abbrev pub left_chains : List (List Link) → Lit → ℕ → Link → List (List Link)
left_chains chains l i k = set chains (code l) (swap_remove (list_at chains (code l)) i k)

module _ (w : Watched) (l v : Lit) (i : ℕ) (k : Link) (paired : IsPaired w) (at : IsAt w l i k) (other : v ≢ l) where
  left_list : list_at (linked_at (left_chains w.chains l i k) (code v) k) (code l) ≡ swap_remove (list_at w.chains (code l)) i k
  left_list =
      let codes = paired.codes in
      let cl = code-below l w.vars at.below in
      get_or-set_other (left_chains w.chains l i k) (code v) (code l) _ [] (λ e. other (sym (code-same l v e)))
      ∙ get_or-set_same w.chains (code l) (swap_remove (list_at w.chains (code l)) i k) [] (omega arith)

  pub moved_front : take i (list_at (linked_at (left_chains w.chains l i k) (code v) k) (code l)) ≡ take i (list_at w.chains (code l))
  moved_front = ap (λ (xs : List Link). take i xs) left_list ∙ swapped-front (list_at w.chains (code l)) i k at.within

  pub moved_fewer : length (list_at (linked_at (left_chains w.chains l i k) (code v) k) (code l)) + 1 ≡ length (list_at w.chains (code l))
  moved_fewer = ap (λ (xs : List Link). length xs + 1) left_list ∙ swapped-length (list_at w.chains (code l)) i k at.within

  pub moved_paired : v.var < w.vars → Contains (clause_at w.clauses k.clause) v → ((m : Lit) → watch_at w.slots (other_of k) ≡ Some m → v ≢ m)
      → IsPaired (record w { slots = set w.slots (place_of k) (Some v); chains = linked_at (left_chains w.chains l i k) (code v) k })
  moved_paired new has apart =
      let list = list_at w.chains (code l) in
      let st = at_slot w l i k paired at in
      let once = paired.once l at.below in
      IsPaired-move w k l v (swap_remove list i k) paired at.below new st.0 st.1 has other apart
      (AllPairs-swapped list i k at.within (λ a b. a.clause ≢ b.clause) turned once)
      (swapped-apart list i k at.within (λ a b. a.clause ≢ b.clause) turned once (sym at.link))
      (in-swapped list i k at.within)
      (swapped-in list i k at.within (sym at.link))
