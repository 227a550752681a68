-- The shape of a node and the numbers that count, by those of its children. Source: Konnov, Kukovec and Tran,
-- "TLA+ Model Checking Made Symbolic", OOPSLA 2019, on the static bounds of cells and arenas.
use Rattle.std.specs.Prelude.{ℕ, zero, suc, Bool, true, false, not, ◌&&◌, is_some, List, [], ◌∷◌, ◌++◌, map, take, drop, length, Option, Some, None, pos, nat_eq, if◌then◌else◌}
use Rattle.tla_meaning.specs.declared.place.Place.{Place}
use Rattle.std.specs.List.{list_any}
use Rattle.tla_meaning.specs.Scopes.{same_text}
use Rattle.kernel_shapes.specs.Shape.{Shape, Atom, Fun, Seq, Rec, Tup, Empty, count, inside, result, alike, alike_all}
use Rattle.kernel_shapes.specs.Rows.{Literal, no_literal, number, text, Row, an_application, a_power, a_field, a_part, a_length, a_head, a_shorter, a_record, the_records, the_subsets, the_functions, the_arguments, the_places, the_names, an_enumeration, a_sequence, a_choice, a_union, a_merge, an_append, a_concatenation, row_shape, nth, branches_of, insides, applied_at, shape_at, joined_at, reached_by}
use Rattle.kernel_shapes.specs.Counts.{Count, count_at}

-- where a node stands: in every other place it is walked
pub data Position : Type 0 where
  -- what no other position says
  walked : Position
  -- the right side of a membership or an inclusion, and operands there in turn
  as_form : Position
  -- S of an assignment `x' \in S`, and operands there in turn
  assigned_from : Position
  -- the domain of an \E on a path
  picked_from : Position

-- the shapes of names in a state and in the next one, where they have one, and of bound names
pub record Extent : Type 0 where
  pub now : List (Option Shape)
  pub next : List (Option Shape)
  pub bound : List (List ℕ × Shape)

-- what is computed of an expression where its names have shapes
pub record Sized : Type 0 where
  pub shape : Shape
  pub counts : Position → List Count
  -- of an EXCEPT the numbers of its indexes and right sides alone
  pub beyond : List Count
  -- the literal that it is
  pub literal : Literal
  -- whether it reads only names that have a shape and joins only shapes of one kind, and is well formed otherwise: a
  -- filter has one name, a power its literal exponent, a record different fields; tuples and records are read by
  -- literals; operands are sequences, functions or records where they are to be (so it is in a typed tree on a path)
  pub sound : Bool

abbrev pub Sizing : Type 0
Sizing = Extent → Sized

abbrev pub no_size : Sized
no_size = record { shape = Empty; counts = λ q. []; beyond = []; literal = no_literal; sound = true }

-- what a node reads: its children, and those children where its bound names have shapes
pub record Seen : Type 0 where
  pub here : List Sized
  pub under : List Shape → List Sized
  pub name : Option Shape

-- ---- what a node reads

abbrev pub found : Option Shape → Shape
found (Some a) = a
found None = Empty

-- bound names with shapes; a name that is given none has that of a truth value
abbrev pub bound_shapes : List (List ℕ) → List Shape → List (List ℕ × Shape)
bound_shapes [] as' = []
bound_shapes (x ∷ xs) [] = (x, Atom) ∷ bound_shapes xs []
bound_shapes (x ∷ xs) (a ∷ as') = (x, a) ∷ bound_shapes xs as'

abbrev pub bind_shapes : List (List ℕ) → List Shape → Extent → Extent
bind_shapes xs as' g = record g { bound = g.bound ++ bound_shapes xs as' }

-- the children outside and inside, each list with nothing at the places of the others
abbrev pub outside : List Bool → List Sizing → Extent → List Sized
outside ms [] g = []
outside [] (k ∷ ks) g = k g ∷ outside [] ks g
outside (true ∷ ms) (k ∷ ks) g = no_size ∷ outside ms ks g
outside (false ∷ ms) (k ∷ ks) g = k g ∷ outside ms ks g

abbrev pub underneath : List Bool → List Sizing → Extent → List Sized
underneath ms [] g = []
underneath [] (k ∷ ks) g = no_size ∷ underneath [] ks g
underneath (true ∷ ms) (k ∷ ks) g = k g ∷ underneath ms ks g
underneath (false ∷ ms) (k ∷ ks) g = no_size ∷ underneath ms ks g

-- `ms` says which children stand under the bound names, and `read` which shape a name has
abbrev pub seen : (Extent → Option Shape) → List Bool → List (List ℕ) → List Sizing → Extent → Seen
seen read ms xs ks g = record {
  here = outside ms ks g;
  under = λ as'. underneath ms ks (bind_shapes xs as' g);
  name = read g;
}

-- the kinds of nodes
pub data Family : Type 0 where
  -- a declared or bound name
  reads : Family
  -- all children are walked
  plain : Row → Literal → Family
  -- n sets, and a body under their members
  binder : ℕ → Row → Family
  -- a membership or an inclusion
  membership : Family
  -- a set of functions, subsets, records or tuples; an infinite set
  subset_set : Family
  function_set : Family
  product_set : Row → Family
  infinite : Family
  -- an annotation
  noted : Family
  -- EXCEPT, with the number of indexes of each update, and of each child behind the function whether it is a right side
  -- that goes on along the path
  excepts : List ℕ → List Bool → Family
  folds : Family

abbrev pub shapes_of : List Sized → List Shape
shapes_of as' = map (λ a. a.shape) as'

abbrev pub literals_of : List Sized → List Literal
literals_of as' = map (λ a. a.literal) as'

abbrev pub counts_of : Position → List Sized → List Count
counts_of q [] = []
counts_of q (a ∷ as') = a.counts q ++ counts_of q as'

abbrev pub child_at : ℕ → List Sized → Sized
child_at n as' = nth no_size n as'

-- the literal that stands as the second child
abbrev pub index_of : List Sized → Literal
index_of as' = (child_at 1 as').literal

-- ---- binders

-- the body under the members of the sets
abbrev pub body : ℕ → Seen → Sized
body n v = child_at n (v.under (insides (shapes_of (take n v.here))))

-- ---- EXCEPT: each update to the result so far

abbrev pub excepted : List ℕ → List Sized → (List Shape → List Sized) → Shape → Shape
excepted [] ks under a = a
excepted (n ∷ ns) ks under a =
    let path : List Literal = literals_of (take n ks) in
    excepted ns (drop (suc n) ks) (λ bs. drop (suc n) (under bs))
    (joined_at path (child_at n (under (shape_at a path ∷ []))).shape a)

-- a right side that goes on along the path is no node of its own, nor is the name that it updates
abbrev pub right_counts : Bool → Sized → List Count
right_counts goes_on right = if goes_on then right.beyond else right.counts walked

abbrev pub excepted_counts : List ℕ → List Bool → List Sized → (List Shape → List Sized) → Shape → List Count
excepted_counts [] ps ks under a = []
excepted_counts (n ∷ ns) ps ks under a =
    let path : List Literal = literals_of (take n ks) in
    let right : Sized = child_at n (under (shape_at a path ∷ [])) in
    counts_of walked (take n ks) ++ right_counts (nth false n ps) right
    ++ excepted_counts ns (drop (suc n) ps) (drop (suc n) ks) (λ bs. drop (suc n) (under bs))
    (joined_at path right.shape a)

-- ---- folds

abbrev pub step : Seen → Shape → Sized
step v a = child_at 0 (v.under (a ∷ inside (child_at 2 v.here).shape ∷ []))

abbrev pub step_counts : ℕ → Seen → Shape → List Count
step_counts zero v a = []
step_counts (suc n) v a = (step v a).counts walked ++ step_counts n v (step v a).shape

-- ---- a node

abbrev pub family_shape : ℕ → Family → Seen → Shape
family_shape w reads v = found v.name
family_shape w (plain r l) v = row_shape w r (index_of v.here) (shapes_of v.here)
family_shape w (binder n r) v = row_shape w r no_literal (shapes_of (take n v.here) ++ (body n v).shape ∷ [])
family_shape w membership v = Atom
family_shape w subset_set v = row_shape w the_subsets no_literal (shapes_of v.here)
family_shape w function_set v = row_shape w the_functions no_literal (shapes_of v.here)
family_shape w (product_set r) v = row_shape w r no_literal (shapes_of v.here)
family_shape w infinite v = Empty
family_shape w noted v = (child_at 0 v.here).shape
family_shape w (excepts ns ps) v = excepted ns (drop 1 v.here) (λ bs. drop 1 (v.under bs)) (child_at 0 v.here).shape
family_shape w folds v = reached_by (count (child_at 2 v.here).shape) (λ a. (step v a).shape) (child_at 1 v.here).shape

-- the position of the operands of a set of functions, records or tuples
abbrev pub operand : Position → Position
operand as_form = as_form
operand assigned_from = assigned_from
operand q = walked

-- the numbers of an EXCEPT's indexes and right sides
abbrev pub numbers_beyond : Family → Seen → List Count
numbers_beyond (excepts ns ps) v =
    excepted_counts ns ps (drop 1 v.here) (λ bs. drop 1 (v.under bs)) (child_at 0 v.here).shape
numbers_beyond f v = []

-- the numbers of what stands within a node, by the position of the node
abbrev pub within : Family → Seen → Position → List Count
within reads v q = []
within (plain r l) v q = counts_of walked v.here
within (binder n r) v q = counts_of walked (take n v.here) ++ (body n v).counts walked
within membership v q = (child_at 0 v.here).counts walked ++ (child_at 1 v.here).counts as_form
-- the operand of a Powerset from which a member is picked is walked
within subset_set v as_form = (child_at 0 v.here).counts as_form
within subset_set v q = (child_at 0 v.here).counts walked
within function_set v q = (child_at 0 v.here).counts walked ++ (child_at 1 v.here).counts (operand q)
within (product_set r) v q = counts_of (operand q) v.here
within infinite v q = counts_of as_form v.here
within noted v q = (child_at 0 v.here).counts q
within (excepts ns ps) v q = (child_at 0 v.here).counts walked ++ numbers_beyond (excepts ns ps) v
within folds v q =
    counts_of walked (drop 1 v.here) ++ step_counts (count (child_at 2 v.here).shape) v (child_at 1 v.here).shape

-- whether a node in a position has a number itself
abbrev pub has_number : Family → Position → Bool
has_number subset_set walked = true
has_number subset_set q = false
has_number function_set walked = true
has_number function_set q = false
has_number (product_set r) walked = true
has_number (product_set r) q = false
has_number infinite q = false
has_number noted q = false
has_number s q = true

abbrev pub family_literal : Family → Seen → Literal
family_literal (plain r l) v = l
family_literal noted v = (child_at 0 v.here).literal
family_literal s v = no_literal

-- ---- sound trees: see `Sized.sound`

-- a record has the field, and a tuple is read by a literal number
abbrev pub readable : Shape → Literal → Bool
readable (Rec xs as') (text x) = list_any (same_text x) xs
readable (Rec xs as') l = false
readable (Tup as') (number (pos (suc n))) = true
readable (Tup as') l = false
readable a l = true

-- the kinds of shapes that an operator takes, where Empty is of each
abbrev pub is_sequence : Shape → Bool
is_sequence (Seq n a) = true
is_sequence Empty = true
is_sequence a = false

abbrev pub is_function : Shape → Bool
is_function (Fun n a r) = true
is_function Empty = true
is_function a = false

abbrev pub is_record : Shape → Bool
is_record (Rec xs as') = true
is_record Empty = true
is_record a = false

abbrev pub has_places : Shape → Bool
has_places (Tup as') = true
has_places a = is_sequence a

-- no name stands twice
abbrev pub names_differ : List (List ℕ) → Bool
names_differ [] = true
names_differ (x ∷ xs) = not (list_any (λ y. same_text y x) xs) && names_differ xs

-- a record has a value for each of its fields
abbrev pub is_record_of : List (List ℕ) → List Shape → Bool
is_record_of xs as' = names_differ xs && nat_eq (length xs) (length as')

abbrev pub row_joins : Row → Literal → List Shape → Bool
row_joins an_application l (a ∷ as') = readable a l
row_joins (a_field x) l (a ∷ as') = readable a (text x)
row_joins (a_power n) (number (pos m)) as' = nat_eq m n
row_joins (a_power n) l as' = false
row_joins an_enumeration l as' = alike_all as'
row_joins a_sequence l as' = alike_all as'
row_joins a_choice l as' = alike_all (branches_of as')
row_joins a_union l (a ∷ b ∷ as') = alike (inside a) (inside b)
row_joins a_merge l (a ∷ b ∷ as') =
    is_function a && (is_function b && (alike (inside a) (inside b) && alike (result a) (result b)))
row_joins the_arguments l (a ∷ as') = is_function a
row_joins the_places l (a ∷ as') = has_places a
row_joins the_names l (a ∷ as') = is_record a
row_joins (a_record xs) l as' = is_record_of xs as'
row_joins (the_records xs) l as' = is_record_of xs as'
row_joins an_append l (a ∷ b ∷ as') = is_sequence a && alike (inside a) b
row_joins a_length l (a ∷ as') = is_sequence a
row_joins a_head l (a ∷ as') = is_sequence a
row_joins a_shorter l (a ∷ as') = is_sequence a
row_joins a_concatenation l (a ∷ b ∷ as') = is_sequence a && (is_sequence b && alike (inside a) (inside b))
row_joins r l as' = true

abbrev pub all_sound : List Sized → Bool
all_sound [] = true
all_sound (a ∷ as') = a.sound && all_sound as'

-- a name stands once
abbrev pub is_once : List ℕ → List (List ℕ) → Bool
is_once x [] = false
is_once x (y ∷ ys) = if same_text x y then not (list_any (same_text x) ys) else is_once x ys

-- a path goes through a tuple by a literal number, and through a record by a literal name of one field
abbrev pub goes_through : Shape → Literal → Bool
goes_through (Rec xs as') (text x) = is_once x xs
goes_through (Rec xs as') l = false
goes_through (Tup as') (number (pos (suc n))) = true
goes_through (Tup as') l = false
goes_through a l = true

abbrev pub path_readable : Shape → List Literal → Bool
path_readable a [] = true
path_readable a (l ∷ ls) = goes_through a l && path_readable (applied_at a l) ls

abbrev pub excepted_sound : List ℕ → List Sized → (List Shape → List Sized) → Shape → Bool
excepted_sound [] ks under a = true
excepted_sound (n ∷ ns) ks under a =
    let path : List Literal = literals_of (take n ks) in
    let right : Sized = child_at n (under (shape_at a path ∷ [])) in
    all_sound (take n ks) && (path_readable a path && (right.sound && (alike (shape_at a path) right.shape
    && excepted_sound ns (drop (suc n) ks) (λ bs. drop (suc n) (under bs)) (joined_at path right.shape a))))

abbrev pub steps_sound : ℕ → Seen → Shape → Bool
steps_sound zero v a = true
steps_sound (suc n) v a =
    (step v a).sound
    && (alike a (reached_by n (λ b. (step v b).shape) (step v a).shape) && steps_sound n v (step v a).shape)

-- a filter has one name, its set and its test
abbrev pub has_one_name : Row → ℕ → ℕ → Bool
has_one_name a_part n m = nat_eq n 1 && nat_eq m 2
has_one_name r n m = true

abbrev pub family_sound : Family → Seen → Bool
family_sound reads v = is_some v.name
family_sound (plain r l) v = all_sound v.here && row_joins r (index_of v.here) (shapes_of v.here)
family_sound (binder n r) v =
    has_one_name r n (length v.here) && (all_sound (take n v.here) && (body n v).sound)
family_sound (excepts ns ps) v =
    (child_at 0 v.here).sound && excepted_sound ns (drop 1 v.here) (λ bs. drop 1 (v.under bs)) (child_at 0 v.here).shape
family_sound folds v =
    all_sound (drop 1 v.here)
    && (is_sequence (child_at 2 v.here).shape
    && steps_sound (count (child_at 2 v.here).shape) v (child_at 1 v.here).shape)
family_sound (product_set r) v = all_sound v.here && row_joins r no_literal (shapes_of v.here)
family_sound s v = all_sound v.here

abbrev pub own_count : Bool → Place → Shape → List Count
own_count true p a = count_at p a
own_count false p a = []

abbrev pub sized : ℕ → Place → Family → Seen → Sized
sized w p s v = record {
  shape = family_shape w s v;
  counts = λ q. own_count (has_number s q) p (family_shape w s v) ++ within s v q;
  beyond = numbers_beyond s v;
  literal = family_literal s v;
  sound = family_sound s v;
}
