-- The numbers that count against the limits, and the refusal that they make. Source for what is counted: Konnov,
-- Kukovec and Tran, "TLA+ Model Checking Made Symbolic", OOPSLA 2019, on the static bounds of cells and arenas.
use Rattle.std.specs.Prelude.{ℕ, ◌-◌, min, Bool, true, false, List, [], ◌∷◌, Option, Some, None, option_map, get_or, nat_lt, if◌then◌else◌}
use Rattle.std.specs.Ordering.{nat_cmp, is_lt}
use Rattle.std.specs.Cmp.Lexicographic.{slice_cmp}
use Rattle.tla_meaning.specs.declared.place.Place.{Place}
use Rattle.kernel_shapes.specs.Shape.{Shape, Set, Fun, Seq}

-- a number of members or arguments, or of places, that a node at a place has
pub record Count : Type 0 where
  pub place : Place
  pub of_sequence : Bool
  pub number : ℕ

-- the number that a node with a shape has itself
abbrev pub count_at : Place → Shape → List Count
count_at p (Set n a) = record { place = p; of_sequence = false; number = n } ∷ []
count_at p (Fun n a r) = record { place = p; of_sequence = false; number = n } ∷ []
count_at p (Seq n a) = record { place = p; of_sequence = true; number = n } ∷ []
count_at p a = []

abbrev pub most_members : ℕ
most_members = 65536

abbrev pub most_places : ℕ
most_places = 4096

abbrev pub most_printed : ℕ
most_printed = 1000000000000

abbrev pub passes_limit : Count → Bool
passes_limit c = nat_lt (if c.of_sequence then most_places else most_members) c.number

-- no number of the list is past its limit
abbrev pub within_limits : List Count → Bool
within_limits [] = true
within_limits (c ∷ cs) = if passes_limit c then false else within_limits cs

-- ---- the refusal of a level's numbers

-- by which of two refusals comes first: the least place, members before places, the greatest number
abbrev pub Rank : Type 0
Rank = List ℕ

abbrev pub rank : Count → Rank
rank c =
    c.place.file ∷ c.place.line ∷ c.place.col ∷ (if c.of_sequence then 1 else 0)
    ∷ (most_printed - min most_printed c.number) ∷ []

abbrev pub first_of_two : Rank → Rank → Rank
first_of_two a b = if is_lt (slice_cmp nat_cmp b a) then b else a

abbrev pub either_rank : Option Rank → Option Rank → Option Rank
either_rank None b = b
either_rank (Some a) None = Some a
either_rank (Some a) (Some b) = Some (first_of_two a b)

abbrev pub rank_of_one : Count → Option Rank
rank_of_one c = if passes_limit c then Some (rank c) else None

abbrev pub first_rank : List Count → Option Rank
first_rank [] = None
first_rank (c ∷ cs) = either_rank (rank_of_one c) (first_rank cs)

-- the refusal that a rank stands for, its number capped
abbrev pub refused_at : Rank → Count
refused_at a = record {
  place = record { file = get_or a 0 0; line = get_or a 1 0; col = get_or a 2 0 };
  of_sequence = nat_lt 0 (get_or a 3 0);
  number = most_printed - get_or a 4 0;
}

-- the refusal that a level's numbers make
abbrev pub refusal : List Count → Option Count
refusal cs = option_map refused_at (first_rank cs)
