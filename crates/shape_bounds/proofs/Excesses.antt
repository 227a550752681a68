-- A node's own number is held against its limit alike, whether it is kept or not.
use Rattle.std.proofs.Common.{◌≡◌, ◌≤◌, ℕ, ◌-◌, min, Bool, true, false, List, [], ◌∷◌, ◌++◌, Some, None, option_map, nat_lt, refl, sym, ◌∙◌, ap, ap₂, arith, if◌then◌else◌}
use Rattle.std.proofs.lemmas.Bool.{ltb-true, ltb-false, lt-ltb, le-ltb}
use Rattle.tla_meaning.specs.declared.place.Place.{Place}
use Rattle.kernel_shapes.specs.Counts.{Count, count_at, either_rank, first_rank, most_printed}
use Rattle.kernel_shapes.specs.Shape.{Shape, Set, Fun, Seq}
use Rattle.shape_bounds.specs.declared.names.Names.{Names}
use Rattle.shape_bounds.specs.Excesses.{rank_of}
use Rattle.shape_bounds.specs.Kept.{capped, kept}
use Rattle.shape_bounds.specs.Sizes.{Finds}
use Rattle.shape_bounds.proofs.Composing.{finds_own}
use Rattle.kernel_shapes.specs.declared.bounds.Shape.{Shape as Code}
use Rattle.kernel_shapes.specs.Codes.{mean}

past_kept : (l n : ℕ) → l ≤ 65536 → nat_lt l (kept n) ≡ nat_lt l n
past_kept l n h = by (nat_lt l n) refl
  where
    by : (b : Bool) → nat_lt l n ≡ b → nat_lt l (kept n) ≡ nat_lt l n
    by true e = let i = ltb-true l n e in lt-ltb l (kept n) (omega (arith, h, i)) ∙ sym e
    by false e = let i = ltb-false l n e in le-ltb l (kept n) (omega (arith, h, i)) ∙ sym e

printed_kept : (n : ℕ) → most_printed - min most_printed (kept n) ≡ most_printed - min most_printed n
printed_kept n = omega arith

members_kept : (p : Place) (n : ℕ) → first_rank (record { place = p; of_sequence = false; number = kept n } ∷ []) ≡ first_rank (record { place = p; of_sequence = false; number = n } ∷ [])
members_kept p n =
    ap₂ (λ (b : Bool) (m : ℕ). either_rank (if b then Some (p.file ∷ p.line ∷ p.col ∷ 0 ∷ m ∷ []) else None) None) (past_kept 65536 n (omega arith)) (printed_kept n)

places_kept : (p : Place) (n : ℕ) → first_rank (record { place = p; of_sequence = true; number = kept n } ∷ []) ≡ first_rank (record { place = p; of_sequence = true; number = n } ∷ [])
places_kept p n =
    ap₂ (λ (b : Bool) (m : ℕ). either_rank (if b then Some (p.file ∷ p.line ∷ p.col ∷ 1 ∷ m ∷ []) else None) None) (past_kept 4096 n (omega arith)) (printed_kept n)

pub rank_kept : (p : Place) (a : Shape) → first_rank (count_at p (capped a)) ≡ first_rank (count_at p a)
rank_kept p (Set n a) = members_kept p n
rank_kept p (Fun n a r) = members_kept p n
rank_kept p (Seq n a) = places_kept p n
rank_kept p a = refl

pub counted_kept : (old new : Names) (p : Place) (a b : Shape) → capped a ≡ b → Finds old new (count_at p b) → Finds old new (count_at p a)
counted_kept old new p a b e h =
    h ∙ ap (either_rank (option_map rank_of old.first)) (ap (λ (x : Shape). first_rank (count_at p x)) (sym e) ∙ rank_kept p a)

-- a node is counted behind what stands within it
pub finds_node : (old mid new : Names) (p : Place) (a : Shape) (r : Code) (cs : List Count) → Finds old mid cs → Finds mid new (count_at p (mean r)) →
    capped a ≡ mean r → Finds old new (count_at p a ++ cs)
finds_node old mid new p a r cs h k e = finds_own old mid new (count_at p a) cs h (counted_kept mid new p a (mean r) e k)
