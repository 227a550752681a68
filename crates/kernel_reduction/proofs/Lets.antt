-- A definition within an expression, in the kernel: a fold over one item, whose result is the one item of a sequence.
-- So operands are evaluated first, joined and once, and what follows may read them as often as it likes.
use Rattle.std.proofs.Common.{◌≡◌, true, false, [], ◌∷◌, pos, refl, ◌∙◌, ap, Some, None, if◌then◌else◌}
use Rattle.std.specs.Prelude.{nat_eq}
use Rattle.tla_values.specs.Order.{Layer}
use Rattle.tla_values.specs.Sets.{apply}
use Rattle.tla_values.proofs.OrderLemmas.{value_cmp_out}
use Rattle.tla_values.specs.declared.value.Value.{Value}
use Rattle.tla_values.specs.declared.value.Value.TheVariants as value
use Rattle.tla_values.specs.declared.value.Value.TheOpen as layer
use Rattle.tla_meaning.specs.declared.op.Op.TheVariants as op
use Rattle.tla_meaning.specs.declared.place.Place.{Place}
use Rattle.tla_meaning.specs.declared.job.State.{State}
use Rattle.tla_meaning.specs.declared.outcome.Outcome.{Outcome}
use Rattle.tla_meaning.specs.declared.outcome.Outcome.TheVariants.{Val, Wrong, Big}
use Rattle.tla_meaning.specs.Outcomes.{strict, with_value}
use Rattle.tla_meaning.specs.Shapes.{sequence, items_of}
use Rattle.tla_meaning.specs.Operators.{table, on_items}
use Rattle.tla_meaning.specs.Numbers.{Width}
use Rattle.tla_meaning.specs.Scopes.{Scope, bind, find_last, or_else, same_text, value_found}
use Rattle.tla_meaning.specs.Meaning.{fold_over, folded}
use Rattle.tla_meaning.proofs.Laws.{find-append}
use Rattle.kernel_trees.specs.declared.kernel.Ker.{Ker}
use Rattle.kernel_trees.specs.declared.kernel.KerOp.TheVariants as ker
use Rattle.kernel_trees.specs.Trees.{number_name, ker_val}
use Rattle.kernel_trees.proofs.Operators.{by_node, val_bound}
use Rattle.kernel_trees.proofs.Binders.{val_fold}
use Rattle.kernel_trees.proofs.Steps.{same_text_same}
use Rattle.kernel_reduction.specs.Rows.{Let, let_in, node, bound}
use Rattle.kernel_reduction.specs.Builds.{is_let}
use Rattle.kernel_reduction.proofs.Tying.{names_apart, not_true}

abbrev pub empty : Value
empty = sequence []

abbrev pub let_scope : Let → Value → Scope → Scope
let_scope l v sc = bind (number_name l.unread ∷ number_name l.named ∷ []) (empty ∷ v ∷ []) sc

items_one : (v : Value) → items_of ((value.Int (pos 1), v) ∷ []) ≡ Some (v ∷ [])
items_one v = simp (value.outs-Int)

fold_one : (p : Place) (f : Value → Value → Outcome) (v : Value) →
    fold_over p f (empty ∷ sequence (v ∷ []) ∷ []) ≡ with_value (f empty v) (λ r. Val r)
fold_one p f v =
    ap (λ (l : Layer Value).
    elim l as (λ _. Outcome) [ layer.Fun ps ↦ on_items p (λ xs. folded f xs empty) (items_of ps) | _ ↦ Wrong p ])
    (value.outs-Fun ((value.Int (pos 1), v) ∷ []))
    ∙ ap (on_items p (λ xs. folded f xs empty)) (items_one v)

head_one : (w : Width) (p : Place) (v : Value) → strict (Val (sequence (v ∷ [])) ∷ []) (table w p op.Head) ≡ Val v
head_one w p v = simp (value.outs-Fun, items_one)

push_one : (w : Width) (p : Place) (v : Value) →
    strict (Val empty ∷ Val v ∷ []) (table w p op.Append) ≡ Val (sequence (v ∷ []))
push_one w p v = simp (value.outs-Fun)

numbers_differ : (l : Let) → is_let l ≡ true → same_text (number_name l.unread) (number_name l.named) ≡ false
numbers_differ l h = names_apart l.unread l.named (not_true (nat_eq l.unread l.named) h)

read_unread : (l : Let) (v : Value) (sc : Scope) → is_let l ≡ true →
    find_last (number_name l.unread) (let_scope l v sc).bound ≡ Some empty
read_unread l v sc h =
    find-append (number_name l.unread) sc.bound ((number_name l.unread, empty) ∷ (number_name l.named, v) ∷ [])
    ∙ (λ i. or_else
    (or_else (or_else None (if numbers_differ l h i then Some v else None))
    (if same_text_same (number_name l.unread) i then Some empty else None)) (find_last (number_name l.unread) sc.bound))

pub read_named : (l : Let) (v : Value) (sc : Scope) → find_last (number_name l.named) (let_scope l v sc).bound ≡ Some v
read_named l v sc =
    find-append (number_name l.named) sc.bound ((number_name l.unread, empty) ∷ (number_name l.named, v) ∷ [])
    ∙ (λ i. or_else
    (or_else (or_else None (if same_text_same (number_name l.named) i then Some v else None))
    (if same_text (number_name l.named) (number_name l.unread) then Some empty else None))
    (find_last (number_name l.named) sc.bound))

module _ (w : Width) (s t : State) where
  -- the body of the fold: one item, or the fault of e
  val_body : (p : Place) (l : Let) (e : Ker) (v : Value) (sc : Scope) → is_let l ≡ true →
      ker_val w (node p l.wholes ker.Push (bound p l.wholes l.unread ∷ e ∷ [])) (let_scope l v sc) s t
      ≡ with_value (ker_val w e (let_scope l v sc) s t) (λ u. Val (sequence (u ∷ [])))
  val_body p l e v sc h =
      by_node w s t p l.wholes ker.Push (bound p l.wholes l.unread ∷ e ∷ []) [] (let_scope l v sc)
      ∙ ap (λ (o : Outcome). strict (o ∷ ker_val w e (let_scope l v sc) s t ∷ []) (table w p op.Append))
      (val_bound w s t p l.wholes l.unread [] [] (let_scope l v sc) ∙ ap (value_found p) (read_unread l v sc h))
      ∙ by (ker_val w e (let_scope l v sc) s t)
    where
      by : (o : Outcome) →
          strict (Val empty ∷ o ∷ []) (table w p op.Append) ≡ with_value o (λ u. Val (sequence (u ∷ [])))
      by (Val u) = push_one w p u
      by (Wrong q) = refl
      by (Big q) = refl

  pub val_let : (p : Place) (l : Let) (d e : Ker) (sc : Scope) → is_let l ≡ true →
      ker_val w (let_in p l d e) sc s t ≡ with_value (ker_val w d sc s t) (λ v. ker_val w e (let_scope l v sc) s t)
  val_let p l d e sc h =
      by_node w s t p l.type ker.First _ [] sc
      ∙ ap (λ (o : Outcome). strict (o ∷ []) (table w p op.Head))
      (val_fold w s t p l.wholes _ _ _ l.unread l.named sc
      ∙ (λ i. strict
      (by_node w s t p l.wholes ker.SeqOf [] [] sc i ∷ by_node w s t p l.items ker.SeqOf (d ∷ []) [] sc i ∷ [])
      (fold_over p body)))
      ∙ by (ker_val w d sc s t)
    where
      body : Value → Value → Outcome
      body x v =
          ker_val w (node p l.wholes ker.Push (bound p l.wholes l.unread ∷ e ∷ []))
          (bind (number_name l.unread ∷ number_name l.named ∷ []) (x ∷ v ∷ []) sc) s t

      last : (o : Outcome) →
          strict (with_value (with_value o (λ u. Val (sequence (u ∷ [])))) (λ r. Val r) ∷ []) (table w p op.Head) ≡ o
      last (Val u) = head_one w p u
      last (Wrong q) = refl
      last (Big q) = refl

      by : (o : Outcome) →
          strict (strict (Val empty ∷ strict (o ∷ []) (table w p op.Tuple) ∷ []) (fold_over p body) ∷ [])
          (table w p op.Head)
          ≡ with_value o (λ v. ker_val w e (let_scope l v sc) s t)
      by (Val v) =
          ap (λ (o : Outcome). strict (o ∷ []) (table w p op.Head))
          (fold_one p body v ∙ ap (λ (o : Outcome). with_value o (λ r. Val r)) (val_body p l e v sc h))
          ∙ last (ker_val w e (let_scope l v sc) s t)
      by (Wrong q) = refl
      by (Big q) = refl

-- ---- pairs

abbrev pub both_of : Value → Value → Value
both_of a b = sequence (a ∷ b ∷ [])

pub first_of : (a b : Value) → apply ((value.Int (pos 1), a) ∷ (value.Int (pos 2), b) ∷ []) (value.Int (pos 1)) ≡ Some a
first_of a b = simp (value_cmp_out, value.outs-Int)

pub second_of : (a b : Value) →
    apply ((value.Int (pos 1), a) ∷ (value.Int (pos 2), b) ∷ []) (value.Int (pos 2)) ≡ Some b
second_of a b = simp (value_cmp_out, value.outs-Int)
