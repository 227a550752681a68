-- Ranges of small trees within and outside of their bounds, by computing: at a width of 8.
use Rattle.std.proofs.Common.{◌≡◌, ℕ, Bool, true, false, ◌&&◌, List, [], ◌∷◌, map, length, refl, ap, ap₂, ◌∙◌, pos, Some}
use Rattle.tla_values.proofs.OrderLemmas.{value_cmp_out}
use Rattle.tla_values.specs.declared.value.Value.{Value}
use Rattle.tla_values.specs.declared.value.Value.TheVariants as value
use Rattle.tla_meaning.specs.declared.job.State.{State}
use Rattle.tla_meaning.specs.declared.outcome.Outcome.{Outcome}
use Rattle.tla_meaning.specs.declared.outcome.Outcome.TheVariants.{Val, Wrong, Big}
use Rattle.tla_meaning.specs.declared.place.Place.{Place}
use Rattle.tla_meaning.specs.Shapes.{sequence}
use Rattle.tla_meaning.specs.Executions.{no_scope}
use Rattle.tla_meaning.specs.Numbers.{Width}
use Rattle.tla_meaning.specs.Scopes.{Scope}
use Rattle.tla_meaning.specs.Meaning.{Meaning, role, view}
use Rattle.tla_meaning.specs.Actions.{meaning, denotation_of}
use Rattle.snowcat_rows.specs.declared.types.Ty.{Ty}
use Rattle.kernel_trees.specs.declared.kernel.Ker.{Ker, roll-Ker, out-roll-Ker}
use Rattle.kernel_trees.specs.declared.kernel.Ker.TheOpen.{Ker-F}
use Rattle.kernel_trees.specs.declared.kernel.KerOp.{KerOp}
use Rattle.kernel_trees.specs.declared.kernel.KerOp.TheVariants as ker
use Rattle.kernel_trees.specs.Trees.{as_expr, names_of, op_of, operands}
use Rattle.kernel_trees.proofs.Trees.{ker-roll}
use Rattle.kernel_ranges.proofs.Opened.{within-roll}
use Rattle.kernel_ranges.specs.Ranges.{Within, after, at_steps, gives, is_within}

pub sense-roll : (w : Width) (x : Ker-F Ker) (sc : Scope) →
    meaning w (as_expr (roll-Ker x)) sc
    ≡ denotation_of w x.place (op_of x.op) (length (names_of x.binds))
    (view x.place (role (op_of x.op) (length (names_of x.binds))) (names_of x.binds)
    (map (meaning w) (operands x.op x.place (map as_expr x.args))) sc)
sense-roll w x sc = ap (λ (m : Meaning). m sc) (ker-roll w x)

pub gives-roll : (w : Width) (x : Ker-F Ker) (f : Within) (sc : Scope) (s t : State) →
    gives w (roll-Ker x, f) sc s t
    ≡ (denotation_of w x.place (op_of x.op) (length (names_of x.binds))
    (view x.place (role (op_of x.op) (length (names_of x.binds))) (names_of x.binds)
    (map (meaning w) (operands x.op x.place (map as_expr x.args))) sc)).value s t
gives-roll w x f sc s t = ap (λ (m : Meaning). (m sc).value s t) (ker-roll w x)

abbrev at : ℕ → Place
at n = record { file = 0; line = 1; col = n }

-- a state of the number 2
abbrev two : State
two = record { vals = value.Int (pos 2) ∷ [] }

module _ (a : Ty) where
  abbrev node : KerOp → List ℕ → List Ker → Ker
  node o xs ks = roll-Ker (record { place = at 1; ty = a; op = o; args = ks; binds = xs })

  abbrev tree : KerOp → List Ker → Ker
  tree o ks = node o [] ks

  abbrev number : ℕ → Ker
  number i = tree (ker.Const (value.Int (pos i))) []

  abbrev truth : Bool → Ker
  truth b = tree (ker.Const (value.Bool b)) []

  abbrev bound : ℕ → Ker
  bound n = tree (ker.Bound n) []

  -- m..n with its bounds
  abbrev range : Ker → Ker → ℕ → ℕ → Ker
  range m n low high = tree ker.Range (m ∷ n ∷ number low ∷ number high ∷ [])

  -- 1 \in (1..3), bounded by 1 and 2
  abbrev outside : Ker
  outside = tree ker.Member (number 1 ∷ range (number 1) (number 3) 1 2 ∷ [])

  abbrev within : Ker → Bool
  within k = is_within (Some 8) k no_scope two two

  -- ---- a range

  inside : within (range (number 1) (number 3) 1 3) ≡ true
  inside = simp (within-roll, gives-roll, sense-roll, out-roll-Ker, value.outs-Int)

  past_its_end : within (range (number 1) (number 3) 1 2) ≡ false
  past_its_end = simp (within-roll, gives-roll, sense-roll, out-roll-Ker, value.outs-Int)

  before_its_start : within (range (number 1) (number 3) 2 3) ≡ false
  before_its_start = simp (within-roll, gives-roll, sense-roll, out-roll-Ker, value.outs-Int)

  -- without numbers it lies anywhere
  of_no_numbers : within (range (number 3) (number 1) 5 4) ≡ true
  of_no_numbers = simp (within-roll, gives-roll, sense-roll, out-roll-Ker, value.outs-Int)

  -- without bounds it lies nowhere
  without_bounds : within (tree ker.Range (number 1 ∷ number 1 ∷ [])) ≡ false
  without_bounds = simp (within-roll, gives-roll, sense-roll, out-roll-Ker, value.outs-Int)

  -- from the number of the state
  of_a_name : within (range (number 1) (tree (ker.Name 0 false) []) 1 2) ≡ true
  of_a_name = simp (within-roll, gives-roll, sense-roll, out-roll-Ker, value.outs-Int)

  -- 1..(1 \div 0) is no range
  with_a_fault : within (range (number 1) (tree ker.Quotient (number 1 ∷ number 0 ∷ [])) 5 4) ≡ true
  with_a_fault = simp (within-roll, gives-roll, sense-roll, out-roll-Ker, value.outs-Int)

  -- ---- operands

  of_an_operand : within outside ≡ false
  of_an_operand = simp (within-roll, gives-roll, sense-roll, out-roll-Ker, value.outs-Int)

  -- an early stop
  behind_false : within (tree ker.And (truth false ∷ outside ∷ [])) ≡ true
  behind_false = simp (within-roll, gives-roll, sense-roll, out-roll-Ker, value.outs-Bool)

  behind_true : within (tree ker.And (truth true ∷ outside ∷ [])) ≡ false
  behind_true = simp (within-roll, gives-roll, sense-roll, out-roll-Ker, value.outs-Bool, value.outs-Int)

  either_true : within (tree ker.Or (truth true ∷ outside ∷ [])) ≡ true
  either_true = simp (within-roll, gives-roll, sense-roll, out-roll-Ker, value.outs-Bool)

  -- the branch that is not taken
  not_taken : within (tree ker.If (truth true ∷ truth true ∷ outside ∷ [])) ≡ true
  not_taken = simp (within-roll, gives-roll, sense-roll, out-roll-Ker, value.outs-Bool)

  taken : within (tree ker.If (truth false ∷ truth true ∷ outside ∷ [])) ≡ false
  taken = simp (within-roll, gives-roll, sense-roll, out-roll-Ker, value.outs-Bool, value.outs-Int)

  -- ---- bodies

  -- \E i \in {}: 1 \in (1..3)
  of_no_members : within (node ker.Some (5 ∷ []) (tree ker.SetOf [] ∷ outside ∷ [])) ≡ true
  of_no_members = simp (within-roll, gives-roll, sense-roll, out-roll-Ker, value.outs-Set)

  -- \E i \in {2}: 1 \in (i..2), bounded by 2 and 2, and by 3 and 3
  abbrev over_two_alone : ℕ → Ker
  over_two_alone n =
      node ker.Some (5 ∷ [])
      (tree ker.SetOf (number 2 ∷ []) ∷ tree ker.Member (number 1 ∷ range (bound 5) (number 2) n n ∷ []) ∷ [])

  at_a_member : within (over_two_alone 2) ≡ true
  at_a_member =
      simp (within-roll, gives-roll, sense-roll, out-roll-Ker, value.outs-Bool, value.outs-Int, value.outs-Set)

  at_no_member : within (over_two_alone 3) ≡ false
  at_no_member =
      simp (within-roll, gives-roll, sense-roll, out-roll-Ker, value.outs-Bool, value.outs-Int, value.outs-Set)

  -- [<<7>> EXCEPT ![2] = ..] evaluates no right side, and ![1] does
  abbrev updated_at : ℕ → Ker
  updated_at i = node ker.Update (5 ∷ []) (tree ker.SeqOf (number 7 ∷ []) ∷ number i ∷ outside ∷ [])

  outside_its_domain : within (updated_at 2) ≡ true
  outside_its_domain =
      simp (within-roll, gives-roll, sense-roll, out-roll-Ker, value_cmp_out, value.outs-Int, value.outs-Fun)

  inside_its_domain : within (updated_at 1) ≡ false
  inside_its_domain =
      simp (within-roll, gives-roll, sense-roll, out-roll-Ker, value_cmp_out, value.outs-Int, value.outs-Fun)

  -- ---- faults

  -- 1 \div 0
  abbrev no_number : Ker
  no_number = tree ker.Quotient (number 1 ∷ number 0 ∷ [])

  -- \E i \in {1 \div 0}: 1 \in (1..3)
  over_a_fault : within (node ker.Some (5 ∷ []) (tree ker.SetOf (no_number ∷ []) ∷ outside ∷ [])) ≡ true
  over_a_fault = simp (within-roll, gives-roll, sense-roll, value.outs-Int)

  -- (1 \div 0) + Cardinality(1..3): no operand is passed over
  abbrev cut : Ker
  cut = range (number 1) (number 3) 1 2

  beside_a_fault : within (tree ker.Plus (no_number ∷ tree ker.Count (cut ∷ []) ∷ [])) ≡ false
  beside_a_fault = simp (within-roll, gives-roll, out-roll-Ker, value.outs-Int)

  -- \E i \in {0, 1}: IF i = 0 THEN .. ELSE 1 \in (1..3)
  abbrev at_one : Ker → Ker
  at_one k =
      node ker.Some (5 ∷ [])
      (tree ker.SetOf (number 0 ∷ number 1 ∷ [])
      ∷ tree ker.If (tree ker.Equal (bound 5 ∷ number 0 ∷ []) ∷ k ∷ outside ∷ [])
      ∷ [])

  -- the body at all members, behind one at which it has a fault, and behind one at which it is true
  behind_a_fault : within (at_one (tree ker.Equal (no_number ∷ number 1 ∷ []))) ≡ false
  behind_a_fault =
      simp (
        within-roll,
        gives-roll,
        sense-roll,
        out-roll-Ker,
        value_cmp_out,
        value.outs-Bool,
        value.outs-Int,
        value.outs-Set,
      )

  behind_a_truth : within (at_one (truth true)) ≡ false
  behind_a_truth =
      simp (
        within-roll,
        gives-roll,
        sense-roll,
        out-roll-Ker,
        value_cmp_out,
        value.outs-Bool,
        value.outs-Int,
        value.outs-Set,
      )

  -- ---- forms

  -- {} \in SUBSET (1..3) and 1 \in Int
  in_a_form : within (tree ker.Member (tree ker.SetOf [] ∷ tree ker.Subsets (cut ∷ []) ∷ [])) ≡ false
  in_a_form = simp (within-roll, gives-roll, sense-roll, out-roll-Ker, value.outs-Int)

  in_integers : within (tree ker.Member (number 1 ∷ tree ker.IntForm [] ∷ [])) ≡ true
  in_integers = simp (within-roll, gives-roll, sense-roll, out-roll-Ker, value.outs-Int)

-- ---- the steps of a fold, up to the first that has a fault

module _ (f : Value → Value → Outcome) (test : Value → Value → Bool) (v x y : Value) where
  over_none : at_steps f test (Val v) (Val (sequence [])) ≡ true
  over_none = simp (value.outs-Fun)

  over_two : at_steps f test (Val v) (Val (sequence (x ∷ y ∷ [])))
      ≡ (test v x && after (f v x) (λ u. test u y && after (f u y) (λ z. true)))
  over_two = simp (value.outs-Fun, value.outs-Int)

  stops_at_a_fault : (p : Place) → f v x ≡ Wrong p → test v x ≡ true →
      at_steps f test (Val v) (Val (sequence (x ∷ y ∷ []))) ≡ true
  stops_at_a_fault p e h =
      over_two ∙ ap₂ (λ (t : Bool) (o : Outcome). t && after o (λ u. test u y && after (f u y) (λ z. true))) h e

  of_a_fault : (p : Place) → at_steps f test (Val v) (Big p) ≡ true
  of_a_fault p = refl
