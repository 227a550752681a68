-- Rows that keep shape, literal and refusal: literals, names, and operators by one or two others.
use Rattle.std.proofs.Common.{◌≡◌, ℕ, Bool, List, [], Option, None, ℤ, refl, ◌∙◌, ap}
use Rattle.tla_values.specs.Order.{Layer}
use Rattle.tla_values.specs.declared.value.Value.{Value, out-Value}
use Rattle.tla_values.specs.declared.value.Value.TheVariants as value
use Rattle.tla_meaning.specs.declared.op.Op.TheVariants as op
use Rattle.tla_meaning.specs.declared.place.Place.{Place}
use Rattle.snowcat_rows.specs.declared.types.Ty.{Ty}
use Rattle.kernel_trees.specs.declared.kernel.Ker.{Ker}
use Rattle.kernel_trees.specs.declared.kernel.KerOp.TheVariants as ker
use Rattle.kernel_trees.specs.Trees.{constant, number_name}
use Rattle.kernel_shapes.specs.Shape.{Atom}
use Rattle.kernel_shapes.specs.Rows.{no_literal}
use Rattle.kernel_shapes.specs.Counts.{Rank}
use Rattle.kernel_shapes.specs.Sized.{Extent, walked}
use Rattle.kernel_reduction.specs.Fitting.{the_kind}
use Rattle.kernel_reduction.specs.Rows.{bound, truth, constant as constant_at}
use Rattle.kernel_reduction.proofs.Gists.{Gist}
use Rattle.kernel_reduction.proofs.GistNodes.{node_at, ker_gist, ker_node, whole}
use Rattle.kernel_reduction.proofs.SizeFrame.{opened}

-- a truth value or a text that has the refusal of its parts
abbrev pub atom : Option Rank → Gist
atom r = record { shape = Atom; literal = no_literal; rank = λ q. r }

abbrev pub walked_rank : ℕ → Ker → Extent → Option Rank
walked_rank w k h = (ker_gist w k h).rank walked

-- ---- literals and names

module _ (w : ℕ) (p : Place) (a : Ty) where
  bool_node : (b : Bool) (h : Extent) → ker_gist w (truth p a b) h ≡ node_at w p (constant (out-Value (value.Bool b))) [] [] (the_kind a) [] [] h
  bool_node b h = ker_node w (opened p a (ker.Const (value.Bool b)) []) h (λ e. tt)

  pub truth_gist : (b : Bool) (h : Extent) → ker_gist w (truth p a b) h ≡ atom None
  truth_gist b h = bool_node b h ∙ ap (λ (x : Layer Value). node_at w p (constant x) [] [] (the_kind a) [] [] h) (value.outs-Bool b)

  int_node : (i : ℤ) (h : Extent) → ker_gist w (constant_at p a (value.Int i)) h ≡ node_at w p (constant (out-Value (value.Int i))) [] [] (the_kind a) [] [] h
  int_node i h = ker_node w (opened p a (ker.Const (value.Int i)) []) h (λ e. tt)

  pub integer_gist : (i : ℤ) (h : Extent) → ker_gist w (constant_at p a (value.Int i)) h ≡ node_at w p (op.Int i) [] [] (the_kind a) [] [] h
  integer_gist i h = int_node i h ∙ ap (λ (x : Layer Value). node_at w p (constant x) [] [] (the_kind a) [] [] h) (value.outs-Int i)

  pub text_gist : (x : List ℕ) (h : Extent) → ker_gist w (constant_at p a (value.Text x)) h ≡ node_at w p (op.Str x) [] [] (the_kind a) [] [] h
  text_gist x h =
      ker_node w (opened p a (ker.Const (value.Text x)) []) h (λ e. tt)
      ∙ ap (λ (y : Layer Value). node_at w p (constant y) [] [] (the_kind a) [] [] h) (value.outs-Text x)

  pub bound_gist : (n : ℕ) (h : Extent) → ker_gist w (bound p a n) h ≡ node_at w p (op.Bound (number_name n)) [] [] (the_kind a) [] [] h
  bound_gist n h = ker_node w (opened p a (ker.Bound n) []) h (whole (op.Bound (number_name n)) [] refl)
