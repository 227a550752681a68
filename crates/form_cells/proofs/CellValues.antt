-- Which values cells of each sort have.
use Rattle.std.proofs.Common.{◌≡◌, ℕ, ◌<◌, Bool, List, map, length, ◌∙◌, ap}
use Rattle.sat_formula.specs.declared.lit.Lit.{Lit}
use Rattle.word_blaster.specs.Word.{word_value}
use Rattle.tla_values.specs.Sequences.{sequence}
use Rattle.tla_values.specs.declared.value.Value.{Value}
use Rattle.tla_values.specs.declared.value.Value.TheVariants as value
use Rattle.tla_values.specs.Sets.{function_of}
use Rattle.cell_arena.specs.declared.kinds.CellId.{CellId}
use Rattle.cell_arena.specs.declared.kinds.CellKind.{CellKind}
use Rattle.cell_arena.specs.declared.kinds.CellKind.TheVariants.{Fun, Rec, Seq, Set, Text, Tup, Word}
use Rattle.cell_arena.specs.Cells.{Cells, WellBuilt, kind_at}
use Rattle.cell_arena.specs.Decode.{decode, field_pairs, first_places, kind_value, present_pairs, text_at}
use Rattle.cell_arena.proofs.Decoding.{decode-kind}
use Rattle.cell_merge.specs.Sorts.{OfSort, Sort, function_of as function_sort, name, number, record_of, sequence_of, set_of, tuple_of}
use Rattle.cell_merge.proofs.Edges.{is-function, is-record, is-sequence, is-set, is-text, is-tuple, is-word}

module _ (c : Cells) (a : List Bool) (built : WellBuilt c) (x : CellId) where
  decoded : (k : CellKind) → x.index < length c.kinds → kind_at c.kinds x ≡ k → decode c a x ≡ kind_value c.texts a (decode c a) k
  decoded k there e = decode-kind c a x built there ∙ ap (kind_value c.texts a (decode c a)) e

  pub number-value : OfSort c.kinds number x → (w : List Lit) × ((kind_at c.kinds x ≡ Word w) × (decode c a x ≡ value.Int (word_value w a)))
  number-value h = let e = is-word (kind_at c.kinds x) h.1 in (e.0, (e.1, decoded (Word e.0) h.0 e.1))

  pub text-value : OfSort c.kinds name x → (t : List ℕ) × (decode c a x ≡ value.Text t)
  text-value h = let e = is-text (kind_at c.kinds x) h.1 in (text_at c.texts (word_value e.0 a), decoded (Text e.0) h.0 e.1)

  pub set-items : (s : Sort) → OfSort c.kinds (set_of s) x → (xs : List Value) × (decode c a x ≡ value.Set xs)
  set-items s h = let e = is-set (OfSort c.kinds s) (kind_at c.kinds x) h.1 in (_, decoded (Set e.0) h.0 e.1)

  pub function-value : (s t : Sort) → OfSort c.kinds (function_sort s t) x →
      (es : _) × ((kind_at c.kinds x ≡ Fun es) × (decode c a x ≡ value.Fun (function_of (present_pairs a (decode c a) es))))
  function-value s t h =
      let e = is-function (OfSort c.kinds s) (OfSort c.kinds t) (kind_at c.kinds x) h.1 in (e.0, (e.1, decoded (Fun e.0) h.0 e.1))

  pub sequence-value : (s : Sort) → OfSort c.kinds (sequence_of s) x →
      (w : List Lit) × ((ps : List CellId) × ((kind_at c.kinds x ≡ Seq w ps) × (decode c a x ≡ sequence (first_places (word_value w a) (map (decode c a) ps)))))
  sequence-value s h =
      let e = is-sequence (OfSort c.kinds s) (kind_at c.kinds x) h.1 in (e.0, (e.1, (e.2, decoded (Seq e.0 e.1) h.0 e.2)))

  pub tuple-value : (n : ℕ) (s : ℕ → Sort) → OfSort c.kinds (tuple_of n s) x →
      (ps : List CellId) × ((kind_at c.kinds x ≡ Tup ps) × (decode c a x ≡ sequence (map (decode c a) ps)))
  tuple-value n s h =
      let e = is-tuple n (λ i. OfSort c.kinds (s i)) (kind_at c.kinds x) h.1 in (e.0, (e.1, decoded (Tup e.0) h.0 e.1))

  pub record-value : (names : List (List ℕ)) (s : ℕ → Sort) → OfSort c.kinds (record_of names s) x →
      (fs : List (List ℕ × CellId)) × ((kind_at c.kinds x ≡ Rec fs) × (decode c a x ≡ value.Fun (function_of (field_pairs (decode c a) fs))))
  record-value names s h =
      let e = is-record names (λ i. OfSort c.kinds (s i)) (kind_at c.kinds x) h.1 in (e.0, (e.1, decoded (Rec e.0) h.0 e.1))
