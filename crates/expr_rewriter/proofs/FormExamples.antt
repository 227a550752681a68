-- Small forms, by computing.
use Rattle.std.proofs.Common.{◌≡◌, false, [], ◌∷◌, Some, None, refl}
use Rattle.cell_arena.specs.declared.kinds.CellId.{CellId}
use Rattle.kernel_trees.specs.declared.kernel.KerOp.TheVariants as ker
use Rattle.form_cells.specs.declared.form.Form.{Form}
use Rattle.form_cells.specs.declared.form.Form.TheOpen as form
use Rattle.expr_rewriter.specs.inner.Forming.{form_over, makes_form, set_count}

-- `[S -> F]`: the domain is a set, the results are a form
domain_is_a_set : set_count ker.Functions ≡ 1
domain_is_a_set = refl

-- `SUBSET F`: its members may be those of an infinite form
members_are_a_form : set_count ker.Subsets ≡ 0
members_are_a_form = refl

-- a range stays a set, and so does what an operator gives
range_is_a_set : makes_form ker.Range ≡ false
range_is_a_set = refl

union_is_a_set : makes_form ker.Union ≡ false
union_is_a_set = refl

functions_over : (x : CellId) (f : Form) → form_over ker.Functions (x ∷ []) (f ∷ []) ≡ Some (form.Functions x f)
functions_over x f = refl

-- a form has as many parts as its operator
two_forms : (f g : Form) → form_over ker.SeqForm [] (f ∷ g ∷ []) ≡ None
two_forms f g = refl
