-- The rows of the operator table at functions and sequences, over plain values.
use Rattle.std.proofs.Common.{◌≡◌, ℕ, zero, suc, Bool, true, false, List, [], ◌∷◌, ◌++◌, length, Some, None, ℤ, pos}
use Rattle.std.proofs.Common.{negsuc, refl, ap, ap₂, ◌∙◌, sym}
use Rattle.std.specs.Prelude.{if◌then◌else◌, option_map, nat_le, int_le}
use Rattle.std.proofs.lemmas.List.{length-map}
use Rattle.tla_values.specs.Integers.{fits_width}
use Rattle.tla_values.specs.Order.{Layer}
use Rattle.tla_values.specs.Sequences.{numbered, sequence}
use Rattle.tla_values.specs.Sets.{apply, arguments, function_of}
use Rattle.tla_values.specs.declared.value.Value.{Value, out-Value}
use Rattle.tla_values.specs.declared.value.Value.TheVariants as value
use Rattle.tla_values.specs.declared.value.Value.TheVariants.{outs-Fun}
use Rattle.tla_values.specs.declared.value.Value.TheOpen as layer
use Rattle.tla_meaning.specs.declared.op.Op.TheVariants as op
use Rattle.tla_meaning.specs.declared.outcome.Outcome.{Outcome}
use Rattle.tla_meaning.specs.declared.outcome.Outcome.TheVariants.{Val, Wrong, Big}
use Rattle.tla_meaning.specs.declared.place.Place.{Place}
use Rattle.tla_meaning.specs.Numbers.{Width}
use Rattle.tla_meaning.specs.Operators.{table, or_wrong, on_function, on_functions, on_items, on_sequence}
use Rattle.tla_meaning.specs.Operators.{on_sequences, applied, domain, head_of, tail_of, part_of, appended}
use Rattle.tla_meaning.specs.Operators.{part_from_to}
use Rattle.tla_meaning.specs.Shapes.{items_of}
use Rattle.tla_meaning.specs.Shapes.{sequence as meant_sequence, the_function}
use Rattle.cell_merge.specs.Arrows.{pairs_of}
use Rattle.cell_merge.proofs.FunctionValues.{hit}
use Rattle.function_rewriter.proofs.Composites.{pairs-fun}
use Rattle.sequence_rewriter.specs.Sequences.{items, int_of, where_fits}
use Rattle.sequence_rewriter.specs.Sequences.{tail_of as items_behind, part_of as items_between}
use Rattle.sequence_rewriter.proofs.Lists.{items-sequence, pairs-sequence}
use Rattle.outcome_cells.specs.Rows.{or_big}
use Rattle.outcome_cells.proofs.OneText.{items-numbered, same-numbered, same-sequence}

-- ---- functions

abbrev pub IsMapping : Value → Type 0
IsMapping v = v ≡ value.Fun (pairs_of v)

pub mapping : (v : Value) (ps : List (Value × Value)) → v ≡ value.Fun ps → IsMapping v
mapping v ps e = e ∙ ap value.Fun (sym (ap pairs_of e ∙ pairs-fun ps))

pub opened : (v : Value) → IsMapping v → out-Value v ≡ layer.Fun (pairs_of v)
opened v h = ap out-Value h ∙ outs-Fun (pairs_of v)

pub row_apply : (w : Width) (p : Place) (v x : Value) → IsMapping v →
    table w p op.Apply (v ∷ x ∷ []) ≡ or_wrong p (apply (pairs_of v) x)
row_apply w p v x h = ap (λ (l : Layer Value). applied p l x) (opened v h)

pub row_field : (w : Width) (p : Place) (v : Value) (n : List ℕ) → IsMapping v →
    table w p (op.Field n) (v ∷ []) ≡ or_wrong p (apply (pairs_of v) (value.Text n))
row_field w p v n h = ap (λ (l : Layer Value). on_function p (λ ps. or_wrong p (apply ps (value.Text n))) (l ∷ []))
    (opened v h)

pub row_domain : (w : Width) (p : Place) (v : Value) → IsMapping v →
    table w p op.Domain (v ∷ []) ≡ domain w p (pairs_of v) (items_of (pairs_of v))
row_domain w p v h = ap (λ (l : Layer Value). on_function p (λ ps. domain w p ps (items_of ps)) (l ∷ [])) (opened v h)

pub row_join : (w : Width) (p : Place) (v u : Value) → IsMapping v → IsMapping u →
    table w p op.Merge (v ∷ u ∷ []) ≡ Val (value.Fun (function_of (pairs_of v ++ pairs_of u)))
row_join w p v u h k =
    ap₂ (λ (l m : Layer Value). on_functions p (λ ps qs. Val (the_function (ps ++ qs))) (l ∷ m ∷ [])) (opened v h)
    (opened u k)

-- ---- sequences

-- a function on the numbers from 1, of its items
pub record IsListed (v : Value) : Type 0 where
  pub mapping : IsMapping v
  pub pairs : pairs_of v ≡ numbered 1 (items v)
  pub items : items_of (pairs_of v) ≡ Some (items v)

pub listed : (v : Value) (xs : List Value) → v ≡ sequence xs → IsListed v
listed v xs e =
    let all : items v ≡ xs = ap items e ∙ items-sequence xs in
    let pairs : pairs_of v ≡ numbered 1 (items v) = ap pairs_of e ∙ (pairs-sequence xs ∙ ap (numbered 1) (sym all)) in
    record {
      mapping = mapping v (numbered 1 xs) e;
      pairs = pairs;
      items = ap items_of (pairs ∙ same-numbered 1 (items v)) ∙ items-numbered (items v);
    }

on_listed : (p : Place) (f : List Value → Outcome) (v : Value) → IsListed v →
    on_sequence p f (out-Value v ∷ []) ≡ f (items v)
on_listed p f v h = ap (λ (l : Layer Value). on_sequence p f (l ∷ [])) (opened v h.mapping) ∙ ap (on_items p f) h.items

pub fits_big : (b : Bool) (p : Place) (v : Value) → (if b then Val v else Big p) ≡ or_big p (if b then Some v else None)
fits_big true p v = refl
fits_big false p v = refl

pub row_length : (w : ℕ) (p : Place) (v : Value) → IsListed v →
    table (Some w) p op.Len (v ∷ []) ≡ or_big p (where_fits w (length (items v)) (value.Int (pos (length (items v)))))
row_length w p v h = on_listed p _ v h ∙ fits_big (fits_width w (pos (length (items v)))) p _

pub row_sequence_domain : (w : ℕ) (p : Place) (v : Value) → IsListed v →
    table (Some w) p op.Domain (v ∷ []) ≡ or_big p
    (where_fits w (length (pairs_of v)) (value.Set (arguments (pairs_of v))))
row_sequence_domain w p v h =
    row_domain (Some w) p v h.mapping ∙ (ap (domain (Some w) p (pairs_of v)) h.items
    ∙ (fits_big (fits_width w (pos (length (items v)))) p _
    ∙ ap (λ (n : ℕ). or_big p (where_fits w n (value.Set (arguments (pairs_of v)))))
    (length-map (pairs_of v) (λ (q : Value × Value). q.1))))

first_one : (p : Place) (xs : List Value) → head_of p xs ≡ or_wrong p (apply (numbered 1 xs) (value.Int (pos 1)))
first_one p [] = refl
first_one p (x ∷ xs) = sym (ap (or_wrong p) (hit (value.Int (pos 1), x) (numbered 2 xs)))

pub row_first : (w : Width) (p : Place) (v : Value) → IsListed v →
    table w p op.Head (v ∷ []) ≡ or_wrong p (apply (pairs_of v) (value.Int (pos 1)))
row_first w p v h =
    on_listed p (head_of p) v h ∙ (first_one p (items v)
    ∙ ap (λ (ps : List (Value × Value)). or_wrong p (apply ps (value.Int (pos 1)))) (sym h.pairs))

tail_one : (p : Place) (xs : List Value) → tail_of p xs ≡ or_wrong p (option_map sequence (items_behind xs))
tail_one p [] = refl
tail_one p (x ∷ xs) = ap Val (sym (same-sequence xs))

pub row_rest : (w : Width) (p : Place) (v : Value) → IsListed v →
    table w p op.Tail (v ∷ []) ≡ or_wrong p (option_map sequence (items_behind (items v)))
row_rest w p v h = on_listed p (tail_of p) v h ∙ tail_one p (items v)

whole_or : (b : Bool) (p : Place) (xs : List Value) →
    (if b then Val (meant_sequence xs) else Wrong p) ≡ or_wrong p (option_map sequence (if b then Some xs else None))
whole_or true p xs = ap Val (sym (same-sequence xs))
whole_or false p xs = refl

part_or : (b c : Bool) (p : Place) (xs : List Value) →
    (if b then (if c then Val (meant_sequence xs) else Wrong p) else Val (meant_sequence []))
    ≡ or_wrong p (option_map sequence (if b then (if c then Some xs else None) else Some []))
part_or true c p xs = whole_or c p xs
part_or false c p xs = refl

none_or : (b : Bool) (p : Place) →
    (if b then Wrong p else Val (meant_sequence [])) ≡ or_wrong p (option_map sequence (if b then None else Some []))
none_or true p = refl
none_or false p = refl

part_one : (p : Place) (xs : List Value) (m n : ℤ) →
    part_of p xs m n ≡ or_wrong p (option_map sequence (items_between xs m n))
part_one p xs (pos (suc m)) (pos n) = part_or (nat_le (suc m) n) (nat_le n (length xs)) p _
part_one p xs (pos (suc m)) (negsuc n) = none_or (int_le (pos (suc m)) (negsuc n)) p
part_one p xs (pos zero) n = none_or (int_le (pos zero) n) p
part_one p xs (negsuc m) n = none_or (int_le (negsuc m) n) p

pub row_slice : (w : Width) (p : Place) (v x y : Value) → IsListed v → out-Value x ≡ layer.Int (int_of x) →
    out-Value y ≡ layer.Int (int_of y) →
    table w p op.SubSeq (v ∷ x ∷ y ∷ []) ≡ or_wrong p
    (option_map sequence (items_between (items v) (int_of x) (int_of y)))
row_slice w p v x y h m n =
    ap (λ (l : Layer Value). part_from_to p (l ∷ out-Value x ∷ out-Value y ∷ [])) (opened v h.mapping)
    ∙ (ap₂ (λ (k l : Layer Value). part_from_to p (layer.Fun (pairs_of v) ∷ k ∷ l ∷ [])) m n
    ∙ (ap (on_items p (λ xs. part_of p xs (int_of x) (int_of y))) h.items ∙ part_one p (items v) (int_of x) (int_of y)))

pub row_push : (w : Width) (p : Place) (v x : Value) → IsListed v →
    table w p op.Append (v ∷ x ∷ []) ≡ Val (sequence (items v ++ x ∷ []))
row_push w p v x h =
    ap (λ (l : Layer Value). appended p (l ∷ out-Value x ∷ []) (v ∷ x ∷ [])) (opened v h.mapping)
    ∙ (ap (on_items p (λ xs. Val (meant_sequence (xs ++ x ∷ [])))) h.items
    ∙ ap Val (sym (same-sequence (items v ++ x ∷ []))))

pub row_glue : (w : Width) (p : Place) (v u : Value) → IsListed v → IsListed u →
    table w p op.Concat (v ∷ u ∷ []) ≡ Val (sequence (items v ++ items u))
row_glue w p v u h k =
    let f : List Value → List Value → Outcome = λ xs ys. Val (meant_sequence (xs ++ ys)) in
    ap₂ (λ (l m : Layer Value). on_sequences p f (l ∷ m ∷ [])) (opened v h.mapping) (opened u k.mapping)
    ∙ (ap (on_items p (λ xs. on_items p (λ ys. f xs ys) (items_of (pairs_of u)))) h.items
    ∙ (ap (on_items p (λ ys. f (items v) ys)) k.items ∙ ap Val (sym (same-sequence (items v ++ items u)))))
