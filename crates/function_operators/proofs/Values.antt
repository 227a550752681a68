-- The values of cells by their sorts.
use Rattle.std.proofs.Common.{◌≡◌, ℕ, ◌<◌, Bool, List, length, map, ap, ◌∙◌, sym, subst}
use Rattle.std.proofs.lemmas.List.{length-map}
use Rattle.tla_values.specs.Sequences.{sequence}
use Rattle.tla_values.specs.declared.value.Value.{Value, out-Value}
use Rattle.tla_values.specs.declared.value.Value.TheVariants as value
use Rattle.tla_values.specs.declared.value.Value.TheVariants.{outs-Int}
use Rattle.tla_values.specs.declared.value.Value.TheOpen as layer
use Rattle.word_blaster.specs.Word.{word_value}
use Rattle.cell_arena.specs.declared.kinds.CellId.{CellId}
use Rattle.cell_arena.specs.declared.kinds.CellKind.{CellKind}
use Rattle.cell_arena.specs.declared.kinds.CellKind.TheVariants.{Word, Fun, Rec, Tup, Seq}
use Rattle.cell_arena.specs.Cells.{Cells, WellBuilt, kind_at}
use Rattle.cell_arena.specs.Decode.{decode, kind_value}
use Rattle.cell_arena.proofs.Decoding.{decode-kind}
use Rattle.cell_merge.specs.Sorts.{Sort, OfSort, ArePlaced, IsTuple, number, function_of, sequence_of, record_of}
use Rattle.cell_merge.specs.Sorts.{tuple_of}
use Rattle.cell_merge.proofs.Edges.{is-function, is-sequence, is-record, is-tuple, is-word}
use Rattle.cell_merge.specs.Arrows.{pairs_of}
use Rattle.cell_merge.specs.Composites.{parts_of}
use Rattle.sequence_rewriter.specs.Sequences.{int_of, int_here, items}
use Rattle.sequence_rewriter.proofs.Lists.{items-sequence}
use Rattle.function_operators.proofs.Rows.{IsMapping, mapping, IsListed, listed}

-- of a cell whose kind is known
pub by_kind : (c : Cells) (a : List Bool) (id : CellId) (k : CellKind) → WellBuilt c → id.index < length c.kinds →
    kind_at c.kinds id ≡ k →
    decode c a id ≡ kind_value c.texts a (decode c a) k
by_kind c a id k built lt is = decode-kind c a id built lt ∙ ap (kind_value c.texts a (decode c a)) is

pub function_value : (c : Cells) (a : List Bool) (f : CellId) (s t : Sort) → WellBuilt c →
    OfSort c.kinds (function_of s t) f →
    IsMapping (decode c a f)
function_value c a f s t built h =
    let k = is-function (OfSort c.kinds s) (OfSort c.kinds t) (kind_at c.kinds f) h.1 in
    mapping (decode c a f) _ (by_kind c a f (Fun k.0) built h.0 k.1)

pub record_value : (c : Cells) (a : List Bool) (f : CellId) (names : List (List ℕ)) (s : ℕ → Sort) → WellBuilt c →
    OfSort c.kinds (record_of names s) f → IsMapping (decode c a f)
record_value c a f names s built h =
    let k = is-record names (λ i. OfSort c.kinds (s i)) (kind_at c.kinds f) h.1 in
    mapping (decode c a f) _ (by_kind c a f (Rec k.0) built h.0 k.1)

pub sequence_value : (c : Cells) (a : List Bool) (f : CellId) (s : Sort) → WellBuilt c →
    OfSort c.kinds (sequence_of s) f →
    IsListed (decode c a f)
sequence_value c a f s built h =
    let k = is-sequence (OfSort c.kinds s) (kind_at c.kinds f) h.1 in
    listed (decode c a f) _ (by_kind c a f (Seq k.0 k.1) built h.0 k.2)

pub tuple_value : (c : Cells) (a : List Bool) (f : CellId) (n : ℕ) (s : ℕ → Sort) → WellBuilt c →
    OfSort c.kinds (tuple_of n s) f →
    IsListed (decode c a f)
tuple_value c a f n s built h =
    let k = is-tuple n (λ i. OfSort c.kinds (s i)) (kind_at c.kinds f) h.1 in
    listed (decode c a f) _ (by_kind c a f (Tup k.0) built h.0 k.1)

pub number_value : (c : Cells) (a : List Bool) (f : CellId) → WellBuilt c → OfSort c.kinds number f →
    out-Value (decode c a f) ≡ layer.Int (int_of (decode c a f))
number_value c a f built h =
    let k = is-word (kind_at c.kinds f) h.1 in
    let e : decode c a f ≡ value.Int (word_value k.0 a) = by_kind c a f (Word k.0) built h.0 k.1 in
    let o = ap out-Value e ∙ outs-Int (word_value k.0 a) in
    o ∙ ap layer.Int (sym (ap int_here o))

-- as many arguments as parts
pub tuple_count : (ks : List CellKind) (f : CellId) (n : ℕ) (s : ℕ → Sort) → OfSort ks (tuple_of n s) f →
    length (parts_of (kind_at ks f)) ≡ n
tuple_count ks f n s h =
    let k = is-tuple n (λ i. OfSort ks (s i)) (kind_at ks f) h.1 in
    let parts : ArePlaced n (λ i. OfSort ks (s i)) k.0 = subst (IsTuple n (λ i. OfSort ks (s i))) k.1 h.1 in
    ap (λ (q : CellKind). length (parts_of q)) k.1 ∙ parts.0

pub tuple_length : (c : Cells) (a : List Bool) (f : CellId) (n : ℕ) (s : ℕ → Sort) → WellBuilt c →
    OfSort c.kinds (tuple_of n s) f →
    length (pairs_of (decode c a f)) ≡ n
tuple_length c a f n s built h =
    let k = is-tuple n (λ i. OfSort c.kinds (s i)) (kind_at c.kinds f) h.1 in
    let e : decode c a f ≡ sequence (map (decode c a) k.0) = by_kind c a f (Tup k.0) built h.0 k.1 in
    sym (length-map (pairs_of (decode c a f)) (λ (q : Value × Value). q.1))
    ∙ (ap length (ap items e ∙ items-sequence (map (decode c a) k.0))
    ∙ (length-map k.0 (decode c a)
    ∙ (sym (ap (λ (q : CellKind). length (parts_of q)) k.1) ∙ tuple_count c.kinds f n s h)))
