-- The values of cells are normal.
use Rattle.std.proofs.Common.{◌≡◌, ℕ, ◌+◌, ◌<◌, ◌≤◌, Bool, false, IsTrue, List, [], ◌∷◌, ◌++◌, map, length, All, ℤ, pos, negsuc, refl, ap, ◌∙◌, sym, arith, ◌⊎◌, inl, inr}
use Rattle.std.specs.Prelude.{filter}
use Rattle.std.specs.List.{AllByRecursion, fold}
use Rattle.std.specs.Ordering.{is_lt}
use Rattle.std.specs.Cmp.{int_cmp_is}
use Rattle.std.specs.declared.cmp.Ordering.TheVariants.{Less}
use Rattle.std.proofs.lemmas.Int.{ints}
use Rattle.std.proofs.lemmas.Bool.{cases_lt}
use Rattle.std.proofs.lemmas.List.{get_or_past}
use Rattle.std.proofs.lemmas.List.Elements.{All-push, All-nil, All-take, All-from_recursion, recursion_from_All}
use Rattle.sat_formula.specs.declared.lit.Lit.{Lit}
use Rattle.sat_formula.specs.Lit.{lit_value}
use Rattle.word_blaster.specs.Word.{word_value}
use Rattle.tla_values.specs.Order.{value_cmp}
use Rattle.tla_values.specs.Sets.{Normal, increasing, arguments}
use Rattle.tla_values.specs.Sequences.{numbered, sequence}
use Rattle.tla_values.specs.declared.value.Value.{Value}
use Rattle.tla_values.specs.declared.value.Value.TheVariants as value
use Rattle.tla_values.specs.declared.value.Value.TheOpen as layer
use Rattle.tla_values.proofs.Rising.{both_to}
use Rattle.tla_values.proofs.OrderLemmas.{by_kinds}
use Rattle.tla_values.proofs.NormalLemmas.{fun_normal, normal_set_of, normal_function, normal_bool, normal_int, normal_text}
use Rattle.cell_arena.specs.declared.kinds.CellId.{CellId}
use Rattle.cell_arena.specs.declared.kinds.CellKind.{CellKind}
use Rattle.cell_arena.specs.declared.kinds.CellKind.TheVariants.{Bit, Word, Text, Set, Fun, Rec, Tup, Seq}
use Rattle.cell_arena.specs.Cells.{Cells}
use Rattle.cell_arena.specs.Decode.{decode, decode_all, kind_value, value_at, first_places, present, present_pairs, field_pairs, text_at}

abbrev NormalPair : Value × Value → Type 0
NormalPair p = Normal p.0 × Normal p.1

all-images : {X : Type 0} {Y : Type 0} (P : Y → Type 0) (f : X → Y) → ((x : X) → P (f x)) → (xs : List X) → AllByRecursion P (map f xs)
all-images P f h [] = tt
all-images P f h (x ∷ xs) = (h x, all-images P f h xs)

next_number : (n : ℕ) → value_cmp (value.Int (pos n)) (value.Int (pos (n + 1))) ≡ Less
next_number n =
    by_kinds (value.Int (pos n)) (value.Int (pos (n + 1))) (layer.Int (pos n)) (layer.Int (pos (n + 1))) (value.outs-Int (pos n)) (value.outs-Int (pos (n + 1)))
    ∙ sym (int_cmp_is (pos n) (pos (n + 1)) Less (omega (arith, ints)))

numbers-rise : (n : ℕ) (xs : List Value) → IsTrue (increasing (arguments (numbered n xs)))
numbers-rise n [] = refl
numbers-rise n (x ∷ []) = refl
numbers-rise n (x ∷ y ∷ ys) = both_to _ _ (ap is_lt (next_number n)) (numbers-rise (n + 1) (y ∷ ys))

numbered-normal : (n : ℕ) (xs : List Value) → AllByRecursion Normal xs → AllByRecursion NormalPair (numbered n xs)
numbered-normal n [] h = tt
numbered-normal n (x ∷ xs) h = ((normal_int _ (pos n) refl, h.0), numbered-normal (n + 1) xs h.1)

sequence-normal : (xs : List Value) → All Normal xs → Normal (sequence xs)
sequence-normal xs h = fun_normal (numbered 1 xs) (numbers-rise 1 xs) (numbered-normal 1 xs (recursion_from_All Normal xs h))

places-normal : (n : ℤ) (vs : List Value) → All Normal vs → All Normal (first_places n vs)
places-normal (pos n) vs h = All-take Normal n vs h
places-normal (negsuc n) vs h = All-nil Normal

-- the value of a kind, where those of its cells are normal
kind-normal : (ts : List (List ℕ)) (a : List Bool) (of : CellId → Value) → ((id : CellId) → Normal (of id)) → (k : CellKind) → Normal (kind_value ts a of k)
kind-normal ts a of h (Bit l) = normal_bool _ (lit_value l a) refl
kind-normal ts a of h (Word w) = normal_int _ (word_value w a) refl
kind-normal ts a of h (Text w) = normal_text _ (text_at ts (word_value w a)) refl
kind-normal ts a of h (Set es) =
    normal_set_of (present a of es) (All-from_recursion Normal _ (all-images Normal (λ (e : Lit × CellId). of e.1) (λ e. h e.1) (filter (λ e. lit_value e.0 a) es)))
kind-normal ts a of h (Fun es) =
    normal_function (present_pairs a of es)
    (All-from_recursion NormalPair _ (all-images NormalPair (λ (e : Lit × CellId × CellId). (of e.1, of e.2)) (λ e. (h e.1, h e.2)) (filter (λ e. lit_value e.0 a) es)))
kind-normal ts a of h (Rec fs) =
    normal_function (field_pairs of fs) (All-from_recursion NormalPair _ (all-images NormalPair (λ (f : List ℕ × CellId). (value.Text f.0, of f.1)) (λ f. (normal_text _ f.0 refl, h f.1)) fs))
kind-normal ts a of h (Tup ps) = sequence-normal (map of ps) (All-from_recursion Normal _ (all-images Normal of h ps))
kind-normal ts a of h (Seq w ps) =
    sequence-normal (first_places (word_value w a) (map of ps)) (places-normal (word_value w a) (map of ps) (All-from_recursion Normal _ (all-images Normal of h ps)))

at-normal : (vs : List Value) → All Normal vs → (id : CellId) → Normal (value_at vs id)
at-normal vs h id = go (cases_lt id.index (length vs))
  where
    go : (id.index < length vs) ⊎ (length vs ≤ id.index) → Normal (value_at vs id)
    go (inl lt) = h id.index (value.Bool false) lt
    go (inr le) = normal_bool _ false (get_or_past vs id.index (value.Bool false) le)

all-normal : (ts : List (List ℕ)) (a : List Bool) (vs : List Value) (ks : List CellKind) → All Normal vs → All Normal (fold (λ vs k. vs ++ kind_value ts a (value_at vs) k ∷ []) vs ks)
all-normal ts a vs [] h = h
all-normal ts a vs (k ∷ ks) h =
    all-normal ts a (vs ++ kind_value ts a (value_at vs) k ∷ []) ks (All-push Normal vs (kind_value ts a (value_at vs) k) h (kind-normal ts a (value_at vs) (at-normal vs h) k))

pub decoded-normal : (c : Cells) (a : List Bool) (id : CellId) → Normal (decode c a id)
unfolding decode decode_all
decoded-normal c a id = at-normal (decode_all c.texts c.kinds a) (all-normal c.texts a [] c.kinds (All-nil Normal)) id
