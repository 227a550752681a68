-- A node whose operands are all evaluated, over the cells of its operands. Source: Konnov, Kukovec and Tran, "TLA+ Model
-- Checking Made Symbolic", OOPSLA 2019, section 5, for an operator over cells.
use Rattle.std.specs.Prelude.{◌≡◌, Bool, true, false, IsTrue, List, [], ◌∷◌, All, map, take, Some}
use Rattle.sat_formula.specs.Formula.{Satisfies}
use Rattle.tla_meaning.specs.declared.job.State.{State}
use Rattle.tla_meaning.specs.Scopes.{Scope}
use Rattle.cell_arena.specs.declared.build.Build.{Build}
use Rattle.kernel_trees.specs.declared.kernel.Ker.{Ker, out-Ker}
use Rattle.kernel_trees.specs.declared.kernel.KerOp.{KerOp}
use Rattle.kernel_trees.specs.declared.kernel.KerOp.TheVariants as ker
use Rattle.kernel_trees.specs.Sound.{Context, sound}
use Rattle.kernel_trees.specs.Trees.{ker_val}
use Rattle.kernel_trees.specs.TypeKinds.{Kind}
use Rattle.kernel_ranges.specs.Ranges.{is_within}
use Rattle.outcome_cells.specs.declared.cells.Cells.{Cells}
use Rattle.outcome_cells.specs.Shows.{AllShow, Shows}
use Rattle.typed_cells.specs.Known.{IsTextAmong}
use Rattle.expr_rewriter.specs.Rewriting.{HasTreeSort, texts_in}

-- the operators that evaluate all their operands, and no other tree
abbrev pub is_operated : KerOp → Bool
is_operated ker.Not = true
is_operated ker.Equal = true
is_operated ker.Less = true
is_operated ker.Plus = true
is_operated ker.Minus = true
is_operated ker.Times = true
is_operated ker.Quotient = true
is_operated ker.Remainder = true
is_operated ker.SetOf = true
is_operated ker.Flatten = true
is_operated ker.Union = true
is_operated ker.Inter = true
is_operated ker.Without = true
is_operated ker.Range = true
is_operated ker.Subsets = true
is_operated ker.Functions = true
is_operated ker.Count = true
is_operated ker.At = true
is_operated ker.Domain = true
is_operated ker.Join = true
is_operated ker.TupOf = true
is_operated (ker.Item i) = true
is_operated (ker.RecOf xs) = true
is_operated (ker.FieldOf x) = true
is_operated ker.SeqOf = true
is_operated ker.Length = true
is_operated ker.Push = true
is_operated ker.First = true
is_operated ker.Rest = true
is_operated ker.Slice = true
is_operated ker.Glue = true
is_operated (ker.RecForm xs) = true
is_operated ker.TupForm = true
is_operated o = false

-- a range's two further children are its bounds
abbrev pub operands_at : KerOp → List Ker → List Ker
operands_at ker.Range ks = take 2 ks
operands_at o ks = ks

abbrev pub operands : Ker → List Ker
operands k = operands_at (out-Ker k).op (out-Ker k).args

-- cells of its sort for each of the trees
abbrev pub AreParts : Build → List Ker → List Cells → Type 0
AreParts b [] [] = Unit {0}
AreParts b [] (x ∷ xs) = ⊥
AreParts b (k ∷ ks) [] = ⊥
AreParts b (k ∷ ks) (x ∷ xs) = HasTreeSort b k x × AreParts b ks xs

-- a sound node of such an operator, with cells of its operands, and texts that are the build's
pub record CanOperate (b : Build) (k : Ker) (xs : List Cells) : Type 0 where
  pub names : List Kind
  pub context : Context
  pub sound : IsTrue (sound names k context false)
  pub operated : is_operated (out-Ker k).op ≡ true
  pub texts : All (IsTextAmong b.arena.texts) ([] ∷ texts_in k)
  pub parts : AreParts b (operands k) xs

-- under each satisfying assignment, in whatever scope and states the cells of the operands show what these give, the
-- cells show what the node gives, where its ranges lie within their bounds
pub record Operates (old new : Build) (k : Ker) (xs : List Cells) (r : Cells) : Type 0 where
  pub shows : (a : List Bool) → Satisfies a new.formula → (sc : Scope) (s t : State) →
      IsTrue (is_within (Some old.arena.width) k sc s t) →
      AllShow old.arena a xs (map (λ j. ker_val (Some old.arena.width) j sc s t) (operands k)) →
      Shows new.arena a r (ker_val (Some old.arena.width) k sc s t)
