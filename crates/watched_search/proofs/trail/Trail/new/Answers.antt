use Rattle.std.proofs.Common.{◌≡◌, ℕ, ◌*◌, ◌∙◌, length, replicate, Option, Bool, None, false, rules, arith, ap}
use Rattle.watched_search.specs.Trail.{lits_of}
use Rattle.watched_search.specs.inner.Tables.{Tabled, Truths}
use Rattle.watched_search.proofs.TruthLemmas.{Tabled-none, Truths-none}
use Rattle.watched_search.proofs.trail.Trail.new.Goals as goal

pub invariant_of-result : goal.invariant_of-result
invariant_of-result c =
    let twice = c.in-Some.ensures.1 in
    let items : c.in_ok-truths.truths.items ≡ replicate (2 * c.args.room) false =
    c.in_ok-truths.ensures.items_if_clones_equal (λ y e. e) ∙ ap (λ (n : ℕ). replicate n false) (omega arith) in
    let count = c.in_ok-values.ensures.len in
    let long = c.in_ok-values.values.ok.0 in
    let size : length c.in_ok-values.values.items ≡ c.args.room = omega arith in
    let truths : Truths (length c.in_ok-values.values.items) c.in_ok-truths.truths.items (lits_of c.in_ok-entries.entries.items) =
    rw (items, size, c.in_ok-entries.ensures.items) (Truths-none c.args.room) in
    let values : c.in_ok-values.values.items ≡ replicate {A = Option Bool} c.args.room None = search rules in
    let places = c.in_ok-places.ensures.items_if_clones_equal (λ y e. e) in
    let entries = c.in_ok-entries.ensures.items in
    let tabled : Tabled c.in_ok-values.values.items c.in_ok-places.places.items c.in_ok-entries.entries.items = rw (values, places, entries) (Tabled-none c.args.room) in
    (tabled, search rules, search rules, search rules, truths)
