use Rattle.std.proofs.Common.{◌≡◌, ◌+◌, ◌-◌, ◌<◌, ◌∙◌, ap, sym, refl, length, drop, take, arith, ℕ, List, Option, Some, None, MatchOption, get_or, true}
use Rattle.std.specs.Option.{is_some}
use Rattle.snowcat_rows.specs.declared.types.Ty.{Ty}
use Rattle.snowcat_rows.specs.declared.types.Ty.TheVariants.{Int}
use Rattle.snowcat_rows.specs.Types.{Term, none, some, mean}
use Rattle.snowcat_rows.specs.Codes.{has}
use Rattle.snowcat_rows.proofs.Distinct.{again_at, new_at, all_behind_it}
use Rattle.snowcat_rows.proofs.Fields.{none_is}
use Rattle.snowcat_rows.proofs.records.are_distinct.Goals as goal

there : (fs : List (List ℕ × Ty)) (n : List ℕ) (r : Option ℕ) → MatchOption r (has fs n ≡ none) (λ i. (i < length fs) × ((d : List ℕ × Ty) → has fs n ≡ some (mean (get_or fs i d).1))) → is_some r ≡ true →
    (t : Term) × (has fs n ≡ some t)
there fs n None h e = absurd (cc)
there fs n (Some i) h e = (mean (get_or fs i (n, Int)).1, h.1 (n, Int))

pub returns-then-is_some : goal.returns-then-is_some
returns-then-is_some c =
    let lt : c.loop-i.i < length c.args.fs.now = omega arith in
    let f = c.index-fs-i.result in
    let h = there (take (length c.args.fs.now - (c.loop-i.i + 1)) (drop (c.loop-i.i + 1) c.args.fs.now)) (get_or c.args.fs.now c.loop-i.i f).0 c.find.result c.find.ensures (sym c.if-is_some.ensures) in
    again_at c.args.fs.now c.loop-i.i (c.loop-i.i + 1) f h.0 lt c.index-fs-i.is (omega arith)
    (ap (λ (z : List ℕ × Ty). has (drop (c.loop-i.i + 1) c.args.fs.now) z.0) c.index-fs-i.is
    ∙ ap (λ l. has l (get_or c.args.fs.now c.loop-i.i f).0) (sym (all_behind_it c.args.fs.now (c.loop-i.i + 1) (length c.args.fs.now - (c.loop-i.i + 1)) refl)) ∙ h.1) c.loop-i.invariant

pub loop-i-preserved : goal.loop-i-preserved
loop-i-preserved c =
    let lt : c.loop-i.i < length c.args.fs.now = omega arith in
    let f = c.index-fs-i.result in
    let h = none_is (take (length c.args.fs.now - (c.loop-i.i + 1)) (drop (c.loop-i.i + 1) c.args.fs.now)) (get_or c.args.fs.now c.loop-i.i f).0 c.find.result c.find.ensures (sym c.if-is_some.ensures) in
    new_at c.args.fs.now c.loop-i.i (c.loop-i.i + 1) f lt c.index-fs-i.is (omega arith)
    (ap (λ (z : List ℕ × Ty). has (drop (c.loop-i.i + 1) c.args.fs.now) z.0) c.index-fs-i.is
    ∙ ap (λ l. has l (get_or c.args.fs.now c.loop-i.i f).0) (sym (all_behind_it c.args.fs.now (c.loop-i.i + 1) (length c.args.fs.now - (c.loop-i.i + 1)) refl)) ∙ h) c.loop-i.invariant
