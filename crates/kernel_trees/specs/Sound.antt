-- Sound trees and paths: their types are those of the operator table, infinite sets stand in form positions alone, names
-- and bound numbers have their types. Source: the Apalache manual, "Type System 1.2: Type annotations", and Specifying
-- Systems, section 16.1, for the operators.
use Rattle.std.specs.Prelude.{ℕ, zero, suc, Bool, true, false, not, ◌&&◌, ◌||◌, ◌==◌, List, [], ◌∷◌, ◌++◌, map, zip, take, drop, flat_map, length, Option, Some, None, option_and_then, slice_get, nat_eq, pos, if◌then◌else◌}
use Rattle.std.specs.List.{list_all, list_any}
use Rattle.tla_values.specs.Order.{Layer}
use Rattle.tla_values.specs.declared.value.Value.{Value, out-Value}
use Rattle.tla_values.specs.declared.value.Value.TheOpen as layer
use Rattle.tla_meaning.specs.declared.place.Place.{Place}
use Rattle.tla_meaning.specs.Scopes.{or_else, same_text}
use Rattle.kernel_trees.specs.declared.kernel.Ker.{Ker, out-Ker}
use Rattle.kernel_trees.specs.declared.kernel.Ker.TheFolds.{fold-Ker}
use Rattle.kernel_trees.specs.declared.kernel.KerOp.{KerOp}
use Rattle.kernel_trees.specs.declared.kernel.KerOp.TheVariants as ker
use Rattle.kernel_trees.specs.declared.path.PathStep.{PathStep}
use Rattle.kernel_trees.specs.declared.path.PathStep.TheVariants as path
use Rattle.kernel_trees.specs.declared.path.AssignedStep.{AssignedStep}
use Rattle.kernel_trees.specs.declared.path.AssignedStep.TheVariants as mark
use Rattle.kernel_trees.specs.Trees.{recur, number_name}
use Rattle.kernel_trees.specs.Paths.{numbers}
use Rattle.kernel_trees.specs.TypeKinds.{Kind, Truth, Number, Word, Set, Seq, Fun, Tup, Rec, kinds, fields, all_there, kind_of, is_kind, same, all_same, fields_same, each_is, item_kind, field_kind, members}
use Rattle.kernel_trees.specs.Scoped.{Names, scoped}

abbrev pub kind_at : Ker → Option Kind
kind_at k = kind_of (out-Ker k).ty

-- bound numbers with their kinds; of two with one number the last counts
abbrev pub Context : Type 0
Context = List (ℕ × Kind)

abbrev pub kind_in : Context → ℕ → Option Kind
kind_in [] n = None
kind_in (c ∷ cs) n = or_else (kind_in cs n) (if nat_eq n c.0 then Some c.1 else None)

-- the names that a context binds
abbrev pub bound_in : Context → Names
bound_in c x = list_any (λ e. same_text x (number_name e.0)) c

abbrev pub passes : {X : Type 0} → (X → Bool) → Option X → Bool
passes test None = false
passes test (Some x) = test x

-- ---- the table: the kind of a node, by those of its children

-- one argument, or the tuple of several
abbrev pub argument_kind : List Kind → Kind
argument_kind (a ∷ []) = a
argument_kind as' = Tup (kinds as')

-- a constant is a truth value, a number or a text; each text is one of Str and of each uninterpreted type
abbrev pub is_literal : Kind → Layer Value → Bool
is_literal Truth (layer.Bool b) = true
is_literal Number (layer.Int i) = true
is_literal (Word x) (layer.Text a) = true
is_literal a l = false

-- of a binder, by the members of its sets and by its body
abbrev pub binder_row : KerOp → Kind → List Kind → Kind → Bool
binder_row ker.Some Truth ms Truth = true
binder_row ker.Every Truth ms Truth = true
binder_row ker.Filter (Set a) (b ∷ []) Truth = same a b
binder_row ker.MapOver (Set a) ms b = same a b
binder_row ker.FunOf (Fun a b) ms c = same a (argument_kind ms) && same b c
binder_row o a ms b = false

abbrev pub row : KerOp → Kind → List Kind → Bool
row (ker.Const v) a [] = is_literal a (out-Value v)
row ker.And Truth ks = each_is Truth ks
row ker.Or Truth ks = each_is Truth ks
row ker.Not Truth (Truth ∷ []) = true
row ker.If a (Truth ∷ b ∷ c ∷ []) = same a b && same a c
row ker.Equal Truth (a ∷ b ∷ []) = same a b
row ker.Less Truth (Number ∷ Number ∷ []) = true
row ker.Plus Number (Number ∷ Number ∷ []) = true
row ker.Minus Number (Number ∷ Number ∷ []) = true
row ker.Times Number (Number ∷ Number ∷ []) = true
row ker.Quotient Number (Number ∷ Number ∷ []) = true
row ker.Remainder Number (Number ∷ Number ∷ []) = true
row ker.SetOf (Set a) ks = each_is a ks
row ker.Member Truth (a ∷ Set b ∷ []) = same a b
row ker.Included Truth (Set a ∷ Set b ∷ []) = same a b
row ker.Flatten (Set a) (Set (Set b) ∷ []) = same a b
row ker.Union (Set a) (Set b ∷ Set c ∷ []) = same a b && same a c
row ker.Inter (Set a) (Set b ∷ Set c ∷ []) = same a b && same a c
row ker.Without (Set a) (Set b ∷ Set c ∷ []) = same a b && same a c
row ker.Range (Set Number) (Number ∷ Number ∷ []) = true
row ker.Subsets (Set (Set a)) (Set b ∷ []) = same a b
row ker.Functions (Set (Fun a b)) (Set c ∷ Set d ∷ []) = same a c && same b d
row ker.Count Number (Set a ∷ []) = true
row ker.At b (Fun a c ∷ x ∷ []) = same a x && same b c
row ker.At b (Seq c ∷ Number ∷ []) = same b c
row ker.Domain (Set a) (Fun b c ∷ []) = same a b
row ker.Domain (Set Number) (Seq b ∷ []) = true
row ker.Domain (Set Number) (Tup bs ∷ []) = true
row ker.Domain (Set (Word [])) (Rec bs ∷ []) = true
row ker.Join (Fun a b) (Fun c d ∷ Fun e f ∷ []) = (same a c && same b d) && (same a e && same b f)
row ker.TupOf (Tup as') ks = all_same as' (kinds ks)
row (ker.Item i) a (Tup bs ∷ []) = is_kind a (item_kind bs i)
row (ker.RecOf names) (Rec fs) ks = (length names == length ks) && fields_same fs (fields (zip names ks))
row (ker.FieldOf x) a (Rec fs ∷ []) = is_kind a (field_kind fs x)
row ker.SeqOf (Seq a) ks = each_is a ks
row ker.Length Number (Seq a ∷ []) = true
row ker.Push (Seq a) (Seq b ∷ c ∷ []) = same a b && same a c
row ker.First a (Seq b ∷ []) = same a b
row ker.Rest (Seq a) (Seq b ∷ []) = same a b
row ker.Slice (Seq a) (Seq b ∷ Number ∷ Number ∷ []) = same a b
row ker.Glue (Seq a) (Seq b ∷ Seq c ∷ []) = same a b && same a c
row ker.NoCase a [] = true
row ker.IntForm (Set Number) [] = true
row ker.NatForm (Set Number) [] = true
row ker.TextForm (Set (Word [])) [] = true
row ker.SeqForm (Set (Seq a)) (Set b ∷ []) = same a b
row ker.TupForm (Set (Tup as')) ks = passes (λ ms. all_same as' (kinds ms)) (members ks)
row (ker.RecForm names) (Set (Rec fs)) ks =
    (length names == length ks) && passes (λ ms. fields_same fs (fields (zip names ms))) (members ks)
row o a ks = false

-- ---- sound trees

abbrev pub is_infinite : KerOp → Bool
is_infinite ker.IntForm = true
is_infinite ker.NatForm = true
is_infinite ker.TextForm = true
is_infinite ker.SeqForm = true
is_infinite o = false

-- whether a child stands in a form position, by its number and whether the node does
abbrev pub form_child : KerOp → ℕ → Bool → Bool
form_child ker.Member (suc zero) b = true
form_child ker.Included (suc zero) b = true
form_child ker.SeqForm n b = true
form_child ker.Subsets n b = b
form_child ker.Functions (suc zero) b = b
form_child (ker.RecForm names) n b = b
form_child ker.TupForm n b = b
form_child o n b = false

-- what is asked of a tree in a context, in a form position or not
abbrev pub Asked : Type 0
Asked = Context → Bool → Bool

-- a child with what is asked of it
abbrev pub Part : Type 0
Part = Ker × Asked

abbrev pub kinds_at : List Part → Option (List Kind)
kinds_at ks = all_there (map (λ k. kind_at k.0) ks)

abbrev pub children : KerOp → ℕ → Context → Bool → List Part → Bool
children o n c b [] = true
children o n c b (k ∷ ks) = k.1 c (form_child o n b) && children o (suc n) c b ks

-- a node that binds nothing
abbrev pub plain : KerOp → Kind → Context → Bool → List Part → Bool
plain o a c b ks = (passes (row o a) (kinds_at ks) && (not (is_infinite o) || b)) && children o 0 c b ks

abbrev pub binder_body : KerOp → Kind → List ℕ → Context → List Part → List Kind → Bool
binder_body o a xs c (k ∷ []) ms = passes (binder_row o a ms) (kind_at k.0) && k.1 (c ++ zip xs ms) false
binder_body o a xs c ks ms = false

-- a set for each number in the node's context, and the body, in which the numbers stand for members
abbrev pub binder : KerOp → Kind → List ℕ → Context → List Part → Bool
binder o a xs c ks =
    let front : List Part = take (length xs) ks in
    list_all (λ k. k.1 c false) front
    && passes (binder_body o a xs c (drop (length xs) ks)) (option_and_then members (kinds_at front))

abbrev pub literal_of : KerOp → Layer Value
literal_of (ker.Const v) = out-Value v
literal_of o = layer.Bool false

-- what is updated at an index of this kind; of a tuple and a record at a literal alone
abbrev pub updated_kind : Kind → Kind → Layer Value → Option Kind
updated_kind (Fun a b) i l = if same a i then Some b else None
updated_kind (Seq a) Number l = Some a
updated_kind (Tup as') Number (layer.Int (pos n)) = item_kind as' n
updated_kind (Rec fs) (Word x) (layer.Text y) = field_kind fs y
updated_kind a i l = None

-- the function and the index, and the new value, in which the number stands for the old one
abbrev pub update : Kind → List ℕ → Context → List Part → Bool
update a (x ∷ []) c (f ∷ i ∷ e ∷ []) =
    (is_kind a (kind_at f.0) && (f.1 c false && i.1 c false))
    && passes (λ b. is_kind b (kind_at e.0) && e.1 (c ++ (x, b) ∷ []) false)
    (option_and_then (λ k. updated_kind a k (literal_of (out-Ker i.0).op)) (kind_at i.0))
update a xs c ks = false

abbrev pub item_of : Kind → Option Kind
item_of (Seq a) = Some a
item_of a = None

-- the body, in which the numbers stand for the value so far and for an item, the first value, the sequence
abbrev pub fold_left : Kind → List ℕ → Context → List Part → Bool
fold_left a (x ∷ y ∷ []) c (e ∷ f ∷ q ∷ []) =
    ((is_kind a (kind_at e.0) && is_kind a (kind_at f.0)) && (f.1 c false && q.1 c false))
    && passes (λ b. e.1 (c ++ (x, a) ∷ (y, b) ∷ []) false) (option_and_then item_of (kind_at q.0))
fold_left a xs c ks = false

-- ---- a range: its ends, and perhaps two numbers that bound them

abbrev pub is_number : Layer Value → Bool
is_number (layer.Int i) = true
is_number l = false

abbrev pub is_bound : Context → Part → Bool
is_bound c k = (is_kind Number (kind_at k.0) && is_number (literal_of (out-Ker k.0).op)) && k.1 c false

abbrev pub range : Kind → Context → Bool → List Part → Bool
range a c b (x ∷ y ∷ l ∷ h ∷ []) = (is_bound c l && is_bound c h) && plain ker.Range a c b (x ∷ y ∷ [])
range a c b ks = plain ker.Range a c b ks

abbrev pub sound_at : List Kind → KerOp → Kind → List ℕ → List Part → Asked
sound_at names (ker.Name i primed) a xs [] c b = is_kind a (slice_get names i)
sound_at names (ker.Bound n) a xs [] c b = is_kind a (kind_in c n)
sound_at names ker.Some a xs ks c b = binder ker.Some a xs c ks
sound_at names ker.Every a xs ks c b = binder ker.Every a xs c ks
sound_at names ker.Filter a xs ks c b = binder ker.Filter a xs c ks
sound_at names ker.MapOver a xs ks c b = binder ker.MapOver a xs c ks
sound_at names ker.FunOf a xs ks c b = binder ker.FunOf a xs c ks
sound_at names ker.Update a xs ks c b = update a xs c ks
sound_at names ker.FoldLeft a xs ks c b = fold_left a xs c ks
sound_at names ker.Range a xs ks c b = range a c b ks
sound_at names o a xs ks c b = plain o a c b ks

-- of a tree: the types of each node and of its children are those of the table, without variables; infinite sets stand in
-- form positions alone; each name is below the number of types and has its type, each bound number that of its context
abbrev pub sound : List Kind → Ker → Asked
sound names = recur (λ x c b. passes (λ a. sound_at names x.op a x.binds x.args c b) (kind_of x.ty))

-- and no number is bound again where it is bound
abbrev pub sound_tree : List Kind → Ker → Asked
sound_tree names k c b = sound names k c b && scoped k (bound_in c)

-- ---- sound paths: a guard is a truth value in what has been picked, and picked numbers stand for members; of two picks of
-- one number the last counts, as operands beside each other may bind the same numbers

abbrev pub sound_guard : List Kind → Context → Ker → Bool
sound_guard names c k = is_kind Truth (kind_at k) && sound names k c false

-- the members of a pick's sets, where each is a set
abbrev pub picked_kinds : List (ℕ × Ker) → Option (List Kind)
picked_kinds ps = option_and_then members (all_there (map (λ p. kind_at p.1) ps))

abbrev pub sound_pick : List Kind → Context → List (ℕ × Ker) → Bool
sound_pick names c ps = list_all (λ p. sound names p.1 c false) ps

abbrev pub sound_path : List Kind → Context → List PathStep → Bool
sound_path names c [] = true
sound_path names c (path.Guard k b ∷ ys) = sound_guard names c k && sound_path names c ys
sound_path names c (path.Pick ps ∷ ys) =
    sound_pick names c ps && passes (λ ms. sound_path names (c ++ zip (numbers ps) ms) ys) (picked_kinds ps)

-- ---- assignments

-- where a form is an infinite set or has one as a part; a function set's domain is no part
abbrev pub infinite_at : KerOp → Place → List (List Place) → List Place
infinite_at ker.IntForm p ks = p ∷ []
infinite_at ker.NatForm p ks = p ∷ []
infinite_at ker.TextForm p ks = p ∷ []
infinite_at ker.SeqForm p ks = p ∷ flat_map (λ k. k) ks
infinite_at ker.Subsets p ks = flat_map (λ k. k) ks
infinite_at ker.Functions p ks = flat_map (λ k. k) (drop 1 ks)
infinite_at (ker.RecForm names) p ks = flat_map (λ k. k) ks
infinite_at ker.TupForm p ks = flat_map (λ k. k) ks
infinite_at o p ks = []

unfoldable pub infinite_places : Ker → List Place
infinite_places = fold-Ker (List Place) (λ x. infinite_at x.op x.place x.args)

abbrev pub is_nil : List Place → Bool
is_nil [] = true
is_nil (p ∷ ps) = false

abbrev pub is_finite : Ker → Bool
is_finite k = is_nil (infinite_places k)

-- a name is given a value of its type, and no member of an infinite form
abbrev pub sound_assigned : List Kind → Context → List AssignedStep → Bool
sound_assigned names c [] = true
sound_assigned names c (mark.Guard k b ∷ ys) = sound_guard names c k && sound_assigned names c ys
sound_assigned names c (mark.Pick ps ∷ ys) =
    sound_pick names c ps && passes (λ ms. sound_assigned names (c ++ zip (numbers ps) ms) ys) (picked_kinds ps)
sound_assigned names c (mark.Equals i e ∷ ys) =
    (passes (λ a. is_kind a (kind_at e)) (slice_get names i) && sound names e c false)
    && sound_assigned names c ys
sound_assigned names c (mark.Among i e ∷ ys) =
    ((passes (λ a. is_kind (Set a) (kind_at e)) (slice_get names i) && is_finite e) && sound names e c true)
    && sound_assigned names c ys
