-- Sequences by the bits of their lengths.
use Rattle.std.specs.Prelude.{◌≡◌, ℕ, ◌+◌, ◌-◌, ◌<◌, ◌≤◌, ◌==◌, ◌&&◌, nat_lt, not, Bool, true, List, [], ◌∷◌, All, length, map, take, slice_index_or, pos, if◌then◌else◌}
use Rattle.sat_formula.specs.declared.lit.Lit.{Lit}
use Rattle.sat_formula.specs.declared.cnf.Cnf.{Cnf}
use Rattle.sat_formula.specs.Lit.{lit_value}
use Rattle.sat_formula.specs.Formula.{Satisfies, HasValue}
use Rattle.word_blaster.specs.Word.{AreFew, IsWord, WordBelow, number, values, word_value}
use Rattle.tla_values.specs.declared.value.Value.{Value}
use Rattle.tla_values.specs.declared.value.Value.TheVariants as value
use Rattle.tla_values.specs.Order.{same_value}
use Rattle.sequence_rewriter.specs.declared.replacing.Index.{Index}
use Rattle.tla_values.specs.Sequences.{sequence}
use Rattle.cell_arena.specs.declared.build.Build.{Build}
use Rattle.cell_arena.specs.declared.kinds.CellId.{CellId}
use Rattle.cell_arena.specs.Cells.{Cells, kind_at}
use Rattle.cell_arena.specs.Decode.{decode}
use Rattle.cell_arena.specs.Growth.{Decodes}
use Rattle.cell_merge.specs.Sorts.{Sort, sequence_of, OfSort}
use Rattle.cell_merge.specs.Composites.{parts_of}

-- the places of a sequence
abbrev pub places_of : Cells → CellId → List CellId
places_of c s = parts_of (kind_at c.kinds s)

-- the values of its places
abbrev pub place_values : Cells → List Bool → CellId → List Value
place_values c a s = map (decode c a) (places_of c s)

-- the bits are the length of the sequence
pub record IsLength (c : Cells) (f : Cnf) (s : CellId) (bits : List Lit) : Type 0 where
  pub below : WordBelow f.vars bits
  pub few : AreFew (length (places_of c s)) 32 bits
  pub within : (a : List Bool) → Satisfies a f → number (values bits a) ≤ length (places_of c s)
  pub items : (a : List Bool) → Satisfies a f → decode c a s ≡ sequence (take (number (values bits a)) (place_values c a s))

-- a literal that is true where the number is 0, and the bits of the number before it, or of 0
pub record IsLess (f : Cnf) (bits : List Lit) (r : Lit × List Lit) : Type 0 where
  pub empty : HasValue f r.0 (λ a. number (values bits a) == 0)
  pub below : WordBelow f.vars r.1
  pub value : (a : List Bool) → Satisfies a f → number (values r.1 a) ≡ number (values bits a) - 1

-- a word of 32 bits for the number
pub record IsCount (f : Cnf) (bits word : List Lit) : Type 0 where
  pub wide : IsWord f.vars 32 word
  pub value : (a : List Bool) → Satisfies a f → word_value word a ≡ pos (number (values bits a))

-- the cell is the sequence of the first places, as many as the bits say
pub record MakesFirst (old new : Build) (bits : List Lit) (places : List CellId) (id : CellId) : Type 0 where
  pub value : Decodes new id (λ a. sequence (take (number (values bits a)) (map (decode old.arena a) places)))
  pub sort : (t : Sort) → All (OfSort old.arena.kinds t) places → OfSort new.arena.kinds (sequence_of t) id

-- the cell is the sequence of the first places, one more than the bits say
pub record MakesOneMore (old new : Build) (bits : List Lit) (places : List CellId) (id : CellId) : Type 0 where
  pub value : Decodes new id (λ a. sequence (take (number (values bits a) + 1) (map (decode old.arena a) places)))
  pub sort : (t : Sort) → All (OfSort old.arena.kinds t) places → OfSort new.arena.kinds (sequence_of t) id

-- the number of a place is meant
abbrev pub is_meant : Index → List Bool → ℕ → Bool
is_meant index a p = lit_value index.valid a && (number (values index.bits.items a) == p)

-- the values, of which the first has the number k, with another one where the number passes the test
abbrev pub replaced : (ℕ → Bool) → ℕ → Value → List Value → List Value
replaced test k v [] = []
replaced test k v (w ∷ ws) = (if test k then v else w) ∷ replaced test (k + 1) v ws

-- the place of s, counted from 0, or the other cell where the test passes
pub record ReplacesPlace (old new : Build) (s v : CellId) (place : ℕ) (test : List Bool → Bool) (id : CellId) : Type 0 where
  pub value : (d : CellId) → Decodes new id (λ a. if test a then decode old.arena a v else decode old.arena a (slice_index_or (places_of old.arena s) place d))
  pub sort : (t : Sort) → OfSort old.arena.kinds (sequence_of t) s → OfSort old.arena.kinds t v → OfSort new.arena.kinds t id

-- the first n places of s, with the other cell in the place that is meant
pub record ReplacesPlaces (old new : Build) (index : Index) (s v : CellId) (n : ℕ) (out : List CellId) : Type 0 where
  pub there : All (λ p. p.index < length new.arena.kinds) out
  pub count : length out ≡ n
  pub values : (a : List Bool) → Satisfies a new.formula →
      map (decode new.arena a) out ≡ replaced (is_meant index a) index.first (decode old.arena a v) (take n (place_values old.arena a s))
  pub sorts : (t : Sort) → OfSort old.arena.kinds (sequence_of t) s → OfSort old.arena.kinds t v → All (OfSort new.arena.kinds t) out

-- the index means a place, from 1 on, where the value of the cell is its number
pub record IsIndexOf (c : Cells) (f : Cnf) (s i : CellId) (index : Index) : Type 0 where
  pub bits : WordBelow f.vars index.bits.items
  pub valid : index.valid.var < f.vars
  pub first : index.first ≡ 1
  pub tells : (a : List Bool) → Satisfies a f → (p : ℕ) → 1 ≤ p → p ≤ length (places_of c s) → is_meant index a p ≡ same_value (decode c a i) (value.Int (pos p))
  pub exact : (a : List Bool) → Satisfies a f → lit_value index.valid a ≡ true → decode c a i ≡ value.Int (pos (number (values index.bits.items a)))

-- the literal is true where the index means none of the first places, as many as the bits say
abbrev pub IsOutside : Cnf → Index → List Lit → Lit → Type 0
IsOutside f index bits l =
    HasValue f l (λ a. not (lit_value index.valid a && (not (number (values index.bits.items a) == 0) && not (nat_lt (number (values bits a)) (number (values index.bits.items a))))))

-- an index with its literal
pub record FindsPlace (c : Cells) (f : Cnf) (s i : CellId) (bits : List Lit) (r : Index × Lit) : Type 0 where
  pub index : IsIndexOf c f s i r.0
  pub out : IsOutside f r.0 bits r.1

-- the cell has the value of the one of the first n places that is meant
pub record PicksPlace (old new : Build) (index : Index) (s : CellId) (n : ℕ) (id : CellId) : Type 0 where
  pub there : id.index < length new.arena.kinds
  pub value : (a : List Bool) → Satisfies a new.formula → (p : ℕ) (d : CellId) → p < n → is_meant index a (p + index.first) ≡ true →
      decode new.arena a id ≡ decode old.arena a (slice_index_or (places_of old.arena s) p d)
  pub sort : (t : Sort) → OfSort old.arena.kinds (sequence_of t) s → OfSort new.arena.kinds t id
