use Rattle.std.proofs.Common.{ℕ, zero, suc, ◌+◌, ◌-◌, ◌<◌, List, [], ◌∷◌, length, get_or, Some, None, refl, ap, arith}
use Rattle.watch_chains.specs.declared.link.Link.{Link}
use Rattle.watch_chains.specs.Watches.{IsFollowed}
use Rattle.base_tests.proofs.chains.before.Goals as goal

begins : (xs : List Link) → 0 < length xs → IsFollowed xs None
begins [] lt = absurd (omega arith)
begins (x ∷ xs) lt = (x, xs, refl)

goes_on : (xs : List Link) (k : ℕ) (d : Link) → k + 1 < length xs → IsFollowed xs (Some (get_or xs k d))
goes_on [] k d lt = absurd (omega arith)
goes_on (x ∷ []) k d lt = absurd (omega arith)
goes_on (x ∷ y ∷ xs) zero d lt = ([], y, xs, refl)
goes_on (x ∷ y ∷ xs) (suc k) d lt =
    let s = goes_on (y ∷ xs) k d (omega arith) in
    (x ∷ s.0, s.1, s.2, ap (λ (zs : List Link). x ∷ zs) s.3)

pub returns-then-at-eq0 : goal.returns-then-at-eq0
returns-then-at-eq0 c = begins c.args.list.now (omega arith)

pub returns-else-at-eq0 : goal.returns-else-at-eq0
returns-else-at-eq0 c = goes_on c.args.list.now (c.args.at - 1) _ (omega arith)
