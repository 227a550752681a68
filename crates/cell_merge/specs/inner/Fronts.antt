-- Choices between functions, an arrow at a time, and between sequences.
use Rattle.std.specs.Prelude.{◌≡◌, ℕ, ◌<◌, ◌≤◌, Bool, List, [], ◌++◌, All, length, map, drop, slice_index_or, if◌then◌else◌}
use Rattle.sat_formula.specs.declared.lit.Lit.{Lit}
use Rattle.sat_formula.specs.declared.cnf.Cnf.{Cnf}
use Rattle.sat_formula.specs.Lit.{lit_value}
use Rattle.sat_formula.specs.Formula.{Satisfies}
use Rattle.word_blaster.specs.Word.{word_value}
use Rattle.tla_values.specs.declared.value.Value.{Value}
use Rattle.tla_values.specs.declared.value.Value.TheVariants as value
use Rattle.tla_values.specs.Sets.{function_of}
use Rattle.tla_values.specs.Sequences.{sequence}
use Rattle.cell_arena.specs.declared.build.Build.{Build}
use Rattle.cell_arena.specs.declared.kinds.CellId.{CellId}
use Rattle.cell_arena.specs.declared.kinds.CellKind.{CellKind}
use Rattle.cell_arena.specs.Cells.{Cells, kind_at}
use Rattle.cell_arena.specs.Decode.{decode, present_pairs, first_places}
use Rattle.cell_arena.specs.Growth.{Decodes}
use Rattle.cell_merge.specs.Sorts.{Sort, OfSort, function_of as function_sort, sequence_of as sequence_sort, FunctionsOfOneType, SequencesOfOneType}
use Rattle.cell_merge.specs.Arrows.{arrows_of, LeadFrom, ArrowsNamed, length_word}
use Rattle.cell_merge.specs.Composites.{parts_of}
use Rattle.cell_merge.specs.Choices.{Chooses}

-- two functions whose first n arguments have the same values
pub record IsFront (c : Cells) (x y : CellId) (n : ℕ) : Type 0 where
  pub left : n ≤ length (arrows_of (kind_at c.kinds x))
  pub right : n ≤ length (arrows_of (kind_at c.kinds y))
  pub alike : (a : List Bool) (i : ℕ) (d : Lit × CellId × CellId) → i < n →
      decode c a (slice_index_or (arrows_of (kind_at c.kinds x)) i d).1 ≡ decode c a (slice_index_or (arrows_of (kind_at c.kinds y)) i d).1

-- and these have one sort
pub record FrontOfOneType (c : Cells) (x y : CellId) (n : ℕ) : Type 0 where
  pub types : FunctionsOfOneType c.kinds x y
  pub front : IsFront c x y n

-- one arrow of two
pub record ChoosesArrow (old new : Build) (l : Lit) (x y r : Lit × CellId × CellId) : Type 0 where
  pub below : r.0.var < new.formula.vars
  pub argument : Chooses old new l x.1 y.1 r.1
  pub result : Chooses old new l x.2 y.2 r.2
  pub literal : (a : List Bool) → Satisfies a new.formula → lit_value r.0 a ≡ (if lit_value l a then lit_value x.0 a else lit_value y.0 a)

-- the arrow at a place of the one or of the other
abbrev pub ChoosesArrowAt : Build → Build → Lit → List (Lit × CellId × CellId) → List (Lit × CellId × CellId) → ℕ → Lit × CellId × CellId → Type 0
ChoosesArrowAt old new l es fs i r = (d : Lit × CellId × CellId) → ChoosesArrow old new l (slice_index_or es i d) (slice_index_or fs i d) r

-- the first n arrows of the one or of the other
pub record ChoosesArrows (old new : Build) (l : Lit) (es fs : List (Lit × CellId × CellId)) (n : ℕ) (out : List (Lit × CellId × CellId)) : Type 0 where
  pub count : length out ≡ n
  pub each : (i : ℕ) (d : Lit × CellId × CellId) → i < n → ChoosesArrow old new l (slice_index_or es i d) (slice_index_or fs i d) (slice_index_or out i d)

-- more arrows, each there only where the literal is true
pub record GuardsArrows (f : Cnf) (l : Lit) (es front old new : List (Lit × CellId × CellId)) : Type 0 where
  pub named : ArrowsNamed f.vars new
  pub sorts : (ks : List CellKind) (s t : Sort) → LeadFrom ks s t old → LeadFrom ks s t es → LeadFrom ks s t new
  pub pairs : (a : List Bool) → Satisfies a f → (of : CellId → Value) →
      present_pairs a of new ≡ present_pairs a of old ++ (if lit_value l a then present_pairs a of front else [])

-- more arrows, those of the one where the literal is true, and else those of the other
pub record GuardsBoth (f : Cnf) (l : Lit) (es fs old new : List (Lit × CellId × CellId)) : Type 0 where
  pub named : ArrowsNamed f.vars new
  pub sorts : (ks : List CellKind) (s t : Sort) → LeadFrom ks s t old → LeadFrom ks s t es → LeadFrom ks s t fs → LeadFrom ks s t new
  pub pairs : (a : List Bool) → Satisfies a f → (of : CellId → Value) →
      present_pairs a of new ≡ present_pairs a of old ++ (if lit_value l a then present_pairs a of es else present_pairs a of fs)

-- arrows in front of the rests of two functions
pub record BeginsBoth (b : Build) (x y : CellId) (front : List (Lit × CellId × CellId)) : Type 0 where
  pub types : FunctionsOfOneType b.arena.kinds x y
  pub named : ArrowsNamed b.formula.vars front
  pub cells : LeadFrom b.arena.kinds types.from types.to front

-- the function of these arrows and of those of x, or of y, behind as many
pub record EndsChoice (old new : Build) (l : Lit) (x y : CellId) (front : List (Lit × CellId × CellId)) (id : CellId) : Type 0 where
  pub value : Decodes new id (λ a. let of = decode old.arena a in
      value.Fun (function_of (present_pairs a of front ++ (if lit_value l a then present_pairs a of (drop (length front) (arrows_of (kind_at old.arena.kinds x)))
      else present_pairs a of (drop (length front) (arrows_of (kind_at old.arena.kinds y)))))))
  pub sort : (s t : Sort) → OfSort old.arena.kinds (function_sort s t) x → OfSort old.arena.kinds (function_sort s t) y → LeadFrom old.arena.kinds s t front →
      OfSort new.arena.kinds (function_sort s t) id

-- places in front of those of two sequences
pub record BeginsPlaces (b : Build) (x y : CellId) (front : List CellId) : Type 0 where
  pub types : SequencesOfOneType b.arena.kinds x y
  pub cells : All (OfSort b.arena.kinds types.sort) front

-- these places, and those of x and of y behind as many
abbrev pub all_places : CellKind → CellKind → List CellId → List CellId
all_places j k front = front ++ drop (length front) (parts_of j) ++ drop (length front) (parts_of k)

-- the sequence of these places and of those of x and y behind as many, of the length of x or of y
pub record EndsSequence (old new : Build) (l : Lit) (x y : CellId) (front : List CellId) (id : CellId) : Type 0 where
  pub value : Decodes new id (λ a. let j = kind_at old.arena.kinds x in let k = kind_at old.arena.kinds y in
      let items = map (decode old.arena a) (all_places j k front) in
      if lit_value l a then sequence (first_places (word_value (length_word j) a) items) else sequence (first_places (word_value (length_word k) a) items))
  pub sort : (s : Sort) → OfSort old.arena.kinds (sequence_sort s) x → OfSort old.arena.kinds (sequence_sort s) y → All (OfSort old.arena.kinds s) front →
      OfSort new.arena.kinds (sequence_sort s) id
