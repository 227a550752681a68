-- Small environments and trees, by computing.
use Rattle.std.proofs.Common.{◌≡◌, ℕ, zero, suc, Bool, true, false, List, [], ◌∷◌, map, Some, None, refl, sym, ◌∙◌, ap}
use Rattle.std.specs.Prelude.{slice_get}
use Rattle.sat_formula.specs.declared.lit.Lit.{Lit}
use Rattle.tla_values.specs.declared.value.Value.TheVariants as value
use Rattle.tla_meaning.specs.declared.job.State.{State}
use Rattle.tla_meaning.specs.Scopes.{Scope}
use Rattle.cell_arena.specs.declared.kinds.CellId.{CellId}
use Rattle.cell_arena.specs.declared.kinds.CellKind.TheVariants.{Bit}
use Rattle.cell_arena.specs.Cells.{Cells as Arena}
use Rattle.cell_arena.specs.Decode.{decode, decode_all}
use Rattle.snowcat_rows.specs.declared.types.Ty.{Ty, Bool as bool_ty, Int as int_ty, Str as str_ty, Rec as rec_ty}
use Rattle.kernel_trees.specs.declared.kernel.Ker.{Ker, roll-Ker}
use Rattle.kernel_trees.specs.declared.kernel.Ker.TheOpen.{Ker-F}
use Rattle.kernel_trees.specs.declared.kernel.Ker.TheFolds.{fold-roll-Ker}
use Rattle.kernel_trees.specs.declared.kernel.KerOp.{KerOp}
use Rattle.kernel_trees.specs.declared.kernel.KerOp.TheVariants as ker
use Rattle.kernel_trees.proofs.TypeLaws.{type_kinds}
use Rattle.expr_rewriter.specs.declared.cell_env.CellEnv.{CellEnv}
use Rattle.expr_rewriter.specs.Environments.{Fits, bound_cell, is_name, name_cell}
use Rattle.expr_rewriter.specs.Rewriting.{node_texts, texts_in}

abbrev top : Lit
top = record { var = 0; neg = false }

abbrev cell : ℕ → CellId
cell i = record { index = i }

-- ---- names

-- one name in the state, and the second one in the next state
abbrev env : CellEnv
env = record { now = cell 0 ∷ []; next = None ∷ Some (cell 5) ∷ []; bound = (7, cell 1) ∷ (8, cell 2) ∷ (7, cell 3) ∷ [] }

in_the_state : name_cell env 0 false ≡ Some (cell 0)
in_the_state = refl

-- a name without a cell in the state reads what the path has assigned
assigned : name_cell env 1 false ≡ Some (cell 5)
assigned = refl

primed : name_cell env 1 true ≡ Some (cell 5)
primed = refl

not_primed : name_cell env 0 true ≡ None
not_primed = refl

last_bound : bound_cell env.bound 7 ≡ Some (cell 3)
last_bound = refl

not_bound : bound_cell env.bound 9 ≡ None
not_bound = refl

this_name : is_name 3 true 3 true ≡ true
this_name = refl

as_it_stands : is_name 3 true 3 false ≡ false
as_it_stands = refl

another_name : is_name 3 false 4 false ≡ false
another_name = refl

-- ---- what cells say

abbrev bits : Arena
bits = record { texts = []; width = 4; kinds = Bit top ∷ []; vars = 1 }

decoded-true : decode bits (true ∷ []) (cell 0) ≡ value.Bool true
unfolding decode decode_all
decoded-true = refl

-- x is TRUE
abbrev one_cell : CellEnv
one_cell = record { now = cell 0 ∷ []; next = []; bound = [] }

abbrev state : Bool → State
state b = record { vals = value.Bool b ∷ [] }

some_one : {X : Type 0} (x y : X) → Some x ≡ Some y → x ≡ y
some_one x y e = cc

the_value : (id : CellId) → cell 0 ≡ id → Some (value.Bool true) ≡ Some (decode bits (true ∷ []) id)
the_value id e = ap Some (sym decoded-true ∙ ap (decode bits (true ∷ [])) e)

-- in every scope, whatever x is next
fits : (sc : Scope) (b : Bool) → Fits bits (true ∷ []) one_cell sc (state true) (state b)
fits sc b = record {
  current = current;
  following = λ i id e. absurd (cc);
  rest = rest;
  bound = λ n id e. absurd (cc);
}
  where
    current : (i : ℕ) (id : CellId) → slice_get one_cell.now i ≡ Some id → slice_get (state true).vals i ≡ Some (decode bits (true ∷ []) id)
    current zero id e = the_value id (some_one (cell 0) id e)
    current (suc i) id e = absurd (cc)

    rest : (i : ℕ) → slice_get one_cell.now i ≡ None → slice_get (state true).vals i ≡ slice_get (state b).vals i
    rest zero e = absurd (cc)
    rest (suc i) e = refl

-- not where x is FALSE
fits-not : (sc : Scope) (t : State) → Fits bits (true ∷ []) one_cell sc (state false) t → ⊥
fits-not sc t h = other (some_one (value.Bool false) (decode bits (true ∷ []) (cell 0)) (h.current 0 (cell 0) refl) ∙ decoded-true)
  where
    other : value.Bool false ≡ value.Bool true → ⊥
    other e = cc

-- ---- texts

pub texts-roll : (x : Ker-F Ker) → texts_in (roll-Ker x) ≡ node_texts (record { place = x.place; ty = x.ty; op = x.op; args = map texts_in x.args; binds = x.binds })
unfolding texts_in
texts-roll x = fold-roll-Ker (List (List ℕ)) node_texts x

abbrev node : Ty → KerOp → List Ker → Ker
node t o ks = roll-Ker (record { place = record { file = 0; line = 1; col = 1 }; ty = t; op = o; args = ks; binds = [] })

-- x.a = "b", of a record x with the fields b and a
texts : texts_in (node bool_ty ker.Equal (node str_ty (ker.FieldOf (97 ∷ [])) (node (rec_ty ((98 ∷ [], int_ty) ∷ (97 ∷ [], str_ty) ∷ []) None) (ker.Name 0 false) [] ∷ []) ∷ node str_ty (ker.Const (value.Text (98 ∷ []))) [] ∷ []))
    ≡ (97 ∷ []) ∷ (98 ∷ []) ∷ (98 ∷ []) ∷ []
texts = simp (texts-roll, type_kinds, value.outs-Text)
