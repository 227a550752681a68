-- Domains: what is asked of a cell by its kind, the row, the sort.
use Rattle.std.proofs.Common.{◌≡◌, ℕ, Bool, false, List, [], ◌∷◌, Some, None, pos, refl, ap, ◌∙◌, subst}
use Rattle.std.specs.Prelude.{if◌then◌else◌}
use Rattle.std.proofs.lemmas.List.Elements.{All-nil}
use Rattle.sat_formula.specs.declared.lit.Lit.{Lit}
use Rattle.sat_formula.specs.Lit.{IsBelow}
use Rattle.tla_values.specs.Integers.{fits_width}
use Rattle.tla_values.specs.Sets.{arguments}
use Rattle.tla_values.specs.declared.value.Value.TheVariants as value
use Rattle.tla_meaning.specs.declared.op.Op.TheVariants as op
use Rattle.tla_meaning.specs.declared.outcome.Outcome.TheVariants.{Val, Big}
use Rattle.tla_meaning.specs.declared.place.Place.{Place}
use Rattle.tla_meaning.specs.Operators.{table}
use Rattle.cell_arena.specs.declared.build.Build.{Build}
use Rattle.cell_arena.specs.declared.kinds.CellId.{CellId}
use Rattle.cell_arena.specs.declared.kinds.CellKind.{CellKind}
use Rattle.cell_arena.specs.declared.kinds.CellKind.TheVariants.{Tup, Seq}
use Rattle.cell_arena.specs.Cells.{kind_at}
use Rattle.cell_arena.specs.Decode.{decode}
use Rattle.cell_merge.specs.Arrows.{pairs_of}
use Rattle.cell_merge.specs.Edges.{LeadTo, OneSort}
use Rattle.cell_merge.specs.Sorts.{Sort, OfSort, IsBit, IsWord, IsText, IsSet, IsFunction, IsSequence, IsRecord}
use Rattle.cell_merge.specs.Sorts.{IsTuple, truth, number, name, set_of, function_of, sequence_of, record_of}
use Rattle.cell_merge.specs.Sorts.{tuple_of}
use Rattle.function_rewriter.specs.Arrows.{HasDomain, of_function as function_domain, of_record as record_domain}
use Rattle.function_rewriter.specs.Arrows.{of_tuple as tuple_domain}
use Rattle.function_rewriter.specs.Arrows.{domain_sort as sort_of_arguments}
use Rattle.sequence_rewriter.specs.Sequences.{IsSequenceCell, where_fits}
use Rattle.outcome_cells.specs.Rows.{or_big}
use Rattle.function_operators.specs.Operands.{HasArguments, of_function, of_sequence, of_tuple, of_record, domain_sort}
use Rattle.function_operators.specs.inner.Found.{IsTupleCell}
use Rattle.function_operators.proofs.Fits.{row_domain_fits, function_arguments_fit, record_arguments_fit}
use Rattle.function_operators.proofs.Rows.{row_sequence_domain}
use Rattle.function_operators.proofs.Values.{function_value, record_value, tuple_value, tuple_length}

abbrev IsSeq : CellKind → Type 0
IsSeq k = (w : List Lit) × (ps : List CellId) × (k ≡ Seq w ps)

abbrev IsTup : CellKind → Type 0
IsTup k = (ps : List CellId) × (k ≡ Tup ps)

-- ---- what is asked, by the kind of the cell

module _ (ks : List CellKind) (f : CellId) where
  -- a sequence has sorts of sequences alone
  pub as_sequence : (s : Sort) (w : List Lit) (ps : List CellId) → OfSort ks s f → kind_at ks f ≡ Seq w ps →
      (t : Sort) × (s ≡ sequence_of t)
  as_sequence truth w ps h e = absurd (subst IsBit e h.1)
  as_sequence number w ps h e = absurd (subst IsWord e h.1)
  as_sequence name w ps h e = absurd (subst IsText e h.1)
  as_sequence (set_of s) w ps h e = absurd (subst (IsSet (OfSort ks s)) e h.1)
  as_sequence (function_of s t) w ps h e = absurd (subst (IsFunction (OfSort ks s) (OfSort ks t)) e h.1)
  as_sequence (sequence_of t) w ps h e = (t, refl)
  as_sequence (record_of names s) w ps h e = absurd (subst (IsRecord names (λ i. OfSort ks (s i))) e h.1)
  as_sequence (tuple_of n s) w ps h e = absurd (subst (IsTuple n (λ i. OfSort ks (s i))) e h.1)

  pub as_tuple : (s : Sort) (ps : List CellId) → OfSort ks s f → kind_at ks f ≡ Tup ps →
      (n : ℕ) × (ss : ℕ → Sort) × (s ≡ tuple_of n ss)
  as_tuple truth ps h e = absurd (subst IsBit e h.1)
  as_tuple number ps h e = absurd (subst IsWord e h.1)
  as_tuple name ps h e = absurd (subst IsText e h.1)
  as_tuple (set_of s) ps h e = absurd (subst (IsSet (OfSort ks s)) e h.1)
  as_tuple (function_of s t) ps h e = absurd (subst (IsFunction (OfSort ks s) (OfSort ks t)) e h.1)
  as_tuple (sequence_of t) ps h e = absurd (subst (IsSequence (OfSort ks t)) e h.1)
  as_tuple (record_of names s) ps h e = absurd (subst (IsRecord names (λ i. OfSort ks (s i))) e h.1)
  as_tuple (tuple_of n s) ps h e = (n, s, refl)

-- some sort that it has
some_sort : (b : Build) (f : CellId) → HasArguments b f → (s : Sort) × OfSort b.arena.kinds s f
some_sort b f (of_function s t h) = (function_of s t, h)
some_sort b f (of_sequence s h) = (sequence_of s, h)
some_sort b f (of_tuple n s h) = (tuple_of n s, h)
some_sort b f (of_record names s h all) = (record_of names s, h)

pub sequence_cell : (b : Build) (f : CellId) (w : List Lit) (ps : List CellId) → HasArguments b f →
    kind_at b.arena.kinds f ≡ Seq w ps →
    IsSequenceCell b.arena.kinds f
sequence_cell b f w ps m e =
    let s = some_sort b f m in
    let t = as_sequence b.arena.kinds f s.0 w ps s.1 e in
    record { sort = t.0; is = subst (λ (u : Sort). OfSort b.arena.kinds u f) t.1 s.1 }

pub tuple_cell : (b : Build) (f : CellId) (ps : List CellId) → HasArguments b f → kind_at b.arena.kinds f ≡ Tup ps →
    IsTupleCell b.arena.kinds f
tuple_cell b f ps m e =
    let s = some_sort b f m in
    let t = as_tuple b.arena.kinds f s.0 ps s.1 e in
    record { count = t.0; sorts = t.1; is = subst (λ (u : Sort). OfSort b.arena.kinds u f) t.2 s.1 }

is-seq : (P : CellId → Type 0) (k : CellKind) → IsSequence P k → IsSeq k
is-seq P (Seq w ps) h = (w, ps, refl)
is-seq P k h = absurd h

is-tup : (n : ℕ) (P : ℕ → CellId → Type 0) (k : CellKind) → IsTuple n P k → IsTup k
is-tup n P (Tup ps) h = (ps, refl)
is-tup n P k h = absurd h

pub has_domain : (b : Build) (f : CellId) → HasArguments b f →
    ((w : List Lit) (ps : List CellId) → kind_at b.arena.kinds f ≡ Seq w ps → ⊥) →
    ((ps : List CellId) → kind_at b.arena.kinds f ≡ Tup ps → ⊥) → HasDomain b f
has_domain b f (of_function s t h) not_seq not_tup = function_domain s t h
has_domain b f (of_sequence s h) not_seq not_tup = let k =
    is-seq (OfSort b.arena.kinds s) (kind_at b.arena.kinds f) h.1 in absurd (not_seq k.0 k.1 k.2)
has_domain b f (of_tuple n s h) not_seq not_tup =
    let k = is-tup n (λ i. OfSort b.arena.kinds (s i)) (kind_at b.arena.kinds f) h.1 in absurd (not_tup k.0 k.1)
has_domain b f (of_record names s h all) not_seq not_tup = record_domain names s h all

-- ---- rows

-- a domain that is no matter of width
pub domain_row : (b : Build) (f : CellId) → HasDomain b f → (a : List Bool) (p : Place) →
    table (Some b.arena.width) p op.Domain (decode b.arena a f ∷ []) ≡ Val
    (value.Set (arguments (pairs_of (decode b.arena a f))))
domain_row b f (function_domain s t h) a p =
    row_domain_fits b.arena.width p (decode b.arena a f) (function_value b.arena a f s t b.built h)
    (function_arguments_fit b.arena a f s t b.built h)
domain_row b f (record_domain names s h all) a p =
    row_domain_fits b.arena.width p (decode b.arena a f) (record_value b.arena a f names s b.built h)
    (record_arguments_fit b.arena a f names s b.built h)
domain_row b f (tuple_domain n s h fits) a p =
    row_sequence_domain b.arena.width p (decode b.arena a f) (tuple_value b.arena a f n s b.built h)
    ∙ (ap (λ (m : ℕ). or_big p (where_fits b.arena.width m (value.Set (arguments (pairs_of (decode b.arena a f))))))
    (tuple_length b.arena a f n s b.built h)
    ∙ ap (λ (t : Bool). or_big p (if t then Some
    (value.Set (arguments (pairs_of (decode b.arena a f)))) else None)) fits)

-- a tuple with more parts than fit
pub tuple_domain_big : (b : Build) (f : CellId) (n : ℕ) (s : ℕ → Sort) → OfSort b.arena.kinds (tuple_of n s) f →
    fits_width b.arena.width (pos n) ≡ false → (a : List Bool) (p : Place) →
    table (Some b.arena.width) p op.Domain (decode b.arena a f ∷ []) ≡ Big p
tuple_domain_big b f n s h fits a p =
    row_sequence_domain b.arena.width p (decode b.arena a f) (tuple_value b.arena a f n s b.built h)
    ∙ (ap (λ (m : ℕ). or_big p (where_fits b.arena.width m (value.Set (arguments (pairs_of (decode b.arena a f))))))
    (tuple_length b.arena a f n s b.built h)
    ∙ ap (λ (t : Bool). or_big p (if t then Some
    (value.Set (arguments (pairs_of (decode b.arena a f)))) else None)) fits)

-- ---- sorts

pub lead_nowhere : (ks : List CellKind) (s : Sort) (es : List (Lit × CellId)) → es ≡ [] → LeadTo ks s es
lead_nowhere ks s es e = rw e (All-nil (λ (x : Lit × CellId). OfSort ks s x.1))

pub no_edges : (ks : List CellKind) (n : ℕ) (es : List (Lit × CellId)) → es ≡ [] → OneSort ks n es
no_edges ks n es e = record {
  sort = number;
  cells = lead_nowhere ks number es e;
  named = rw e (All-nil (λ (x : Lit × CellId). IsBelow n x.0));
}

-- where it is no sequence
pub arguments_sort : (ks : List CellKind) (f : CellId) (s : Sort) → OfSort ks s f →
    ((w : List Lit) (ps : List CellId) → kind_at ks f ≡ Seq w ps → ⊥) →
    sort_of_arguments s ≡ domain_sort s
arguments_sort ks f truth h not_seq = refl
arguments_sort ks f number h not_seq = refl
arguments_sort ks f name h not_seq = refl
arguments_sort ks f (set_of s) h not_seq = refl
arguments_sort ks f (function_of s t) h not_seq = refl
arguments_sort ks f (sequence_of s) h not_seq = let k = is-seq (OfSort ks s) (kind_at ks f) h.1 in
    absurd (not_seq k.0 k.1 k.2)
arguments_sort ks f (record_of names s) h not_seq = refl
arguments_sort ks f (tuple_of n s) h not_seq = refl
