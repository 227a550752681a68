-- Branches that are the same under an assignment, as it and the build grow.
use Rattle.std.proofs.Common.{◌≡◌, ℕ, ◌≤◌, Bool, true, false, List, ◌++◌, length, map, refl, sym, ◌∙◌, arith}
use Rattle.sat_formula.specs.Formula.{Satisfies}
use Rattle.sat_formula.specs.Lit.{lit_value}
use Rattle.sat_formula.specs.declared.lit.Lit.{Lit}
use Rattle.sat_formula.proofs.Extension.{lit_value-append}
use Rattle.level_laws.specs.Branches.{Ending}
use Rattle.level_laws.proofs.Bits.{if_false, if_true}
use Rattle.cell_arena.specs.Cells.{Cells as Arena}
use Rattle.cell_arena.specs.declared.build.Build.{Build}
use Rattle.cell_arena.specs.Decode.{decode}
use Rattle.cell_arena.specs.Growth.{Grows}
use Rattle.kernel_trees.specs.TypeKinds.{Kind}
use Rattle.branch_cells.specs.declared.branch.BranchCells.{BranchCells}
use Rattle.branch_cells.specs.declared.branch.Ends.{Ends}
use Rattle.branch_cells.specs.Ends.{EndsBelow, end_of, ends_at}
use Rattle.branch_cells.specs.Branches.{IsSame, IsWhole}
use Rattle.branch_cells.specs.inner.Layers.{IsEither}
use Rattle.branch_cells.proofs.Items.{decoded_later, decoded_longer, kinds_later}

pub below_later : (m n : ℕ) (x : Ends) → m ≤ n → EndsBelow m x → EndsBelow n x
below_later m n x le h = λ k. let p = h k in omega (arith, le, p)

pub whole_later : (b c : Build) (names : List Kind) (x : BranchCells) → Grows b c → IsWhole b names x →
    IsWhole c names x
whole_later b c names x g h = record {
  below = below_later b.formula.vars c.formula.vars x.ends g.formula.vars h.below;
  cells = kinds_later b c names x.next g h.cells;
}

pub ends_longer : (n : ℕ) (x : Ends) (k : Ending) (a more : List Bool) → length a ≡ n → EndsBelow n x →
    ends_at x k (a ++ more) ≡ ends_at x k a
ends_longer n x k a more e h = let lt = h k in lit_value-append (end_of x k) a more (omega (arith, e, lt))

pub same_itself : (c : Arena) (a : List Bool) (x : BranchCells) → IsSame c a x x
same_itself c a x = record { ends = λ k. refl; next = refl }

pub same_trans : (c : Arena) (a : List Bool) (x y z : BranchCells) → IsSame c a x y → IsSame c a y z → IsSame c a x z
same_trans c a x y z p q = record { ends = λ k. p.ends k ∙ q.ends k; next = p.next ∙ q.next }

pub same_later : (b c : Build) (names : List Kind) (a : List Bool) (x y : BranchCells) → Grows b c →
    IsWhole b names x → IsWhole b names y →
    IsSame b.arena a x y → IsSame c.arena a x y
same_later b c names a x y g p q s = record {
  ends = s.ends;
  next = decoded_later b c a names x.next g p.cells ∙ (s.next ∙ sym (decoded_later b c a names y.next g q.cells));
}

pub same_longer : (b : Build) (names : List Kind) (a more : List Bool) (x y : BranchCells) → length a ≡ b.formula.vars →
    IsWhole b names x → IsWhole b names y → IsSame b.arena a x y → IsSame b.arena (a ++ more) x y
same_longer b names a more x y n p q s = record {
  ends = λ k.
      ends_longer b.formula.vars x.ends k a more n p.below ∙
      (s.ends k ∙ sym (ends_longer b.formula.vars y.ends k a more n q.below));
  next = decoded_longer b a more x.next n ∙ (s.next ∙ sym (decoded_longer b a more y.next n));
}

-- where the bit is true it is the first, and else the second
pub either_first : (new : Build) (l : Lit) (x y r : BranchCells) (a : List Bool) → IsEither new l x y r →
    Satisfies a new.formula →
    lit_value l a ≡ true → IsSame new.arena a r x
either_first new l x y r a h s e = record {
  ends = λ k. (h.ends k).value a s ∙ if_true (lit_value l a) (ends_at x.ends k a) (ends_at y.ends k a) e;
  next = h.next a s ∙ if_true (lit_value l a) (map (decode new.arena a) x.next) (map (decode new.arena a) y.next) e;
}

pub either_second : (new : Build) (l : Lit) (x y r : BranchCells) (a : List Bool) → IsEither new l x y r →
    Satisfies a new.formula →
    lit_value l a ≡ false → IsSame new.arena a r y
either_second new l x y r a h s e = record {
  ends = λ k. (h.ends k).value a s ∙ if_false (lit_value l a) (ends_at x.ends k a) (ends_at y.ends k a) e;
  next = h.next a s ∙ if_false (lit_value l a) (map (decode new.arena a) x.next) (map (decode new.arena a) y.next) e;
}
