-- A small job that has a typing, one in which two types clash, and one whose start is no truth value.
use Rattle.std.proofs.Common.{◌≡◌, ℕ, zero, suc, ◌<◌, false, List, [], ◌∷◌, ◌++◌, codes, Some, None, refl, sym, ◌∙◌, subst, arith, map}
use Rattle.std.specs.Prelude.{Contains}
use Rattle.tla_meaning.specs.declared.expr.Decl.{Decl}
use Rattle.tla_meaning.specs.declared.expr.Expr.{Expr, roll-Expr}
use Rattle.tla_meaning.specs.declared.expr.Expr.TheOpen.{Expr-F}
use Rattle.tla_meaning.specs.declared.expr.Expr.TheFolds.{fold-roll-Expr}
use Rattle.tla_meaning.specs.declared.job.Job.{Job}
use Rattle.tla_meaning.specs.declared.op.Op.TheVariants as op
use Rattle.tla_meaning.specs.declared.place.Place.{Place}
use Rattle.snowcat_rows.specs.declared.types.Ty.TheVariants as ty
use Rattle.snowcat_rows.specs.Types.{var, mean, here}
use Rattle.snowcat_rows.specs.Substitutions.{Sub, apply, same_sub}
use Rattle.snowcat_rows.specs.Chains.{Binding, to_type, sub_of}
use Rattle.snowcat_rows.specs.Views.{IsIssued}
use Rattle.snowcat_rows.specs.TypeTexts.{int}
use Rattle.snowcat_rows.specs.Unifying.{given}
use Rattle.snowcat_rows.proofs.Means.{mean-Bool, mean-Int, mean-Str}
use Rattle.snowcat_rows.specs.declared.types.Typed.{Typed}
use Rattle.snowcat_types.specs.TypeForms.{bool_type, int_type, str_type}
use Rattle.snowcat_types.specs.Requirements.{Requirement, Equal, MeetAll}
use Rattle.snowcat_types.specs.Systems.{Annotations, Entry, Asks, System, system, all_asked, parts_of}
use Rattle.snowcat_types.specs.Typings.{at_start, IsTyping, Principal, Visited, nothing_yet, a_row, in_row, NoTyping, IsClash}
use Rattle.snowcat_types.specs.Annotated.{annotation_of, notes_in, all_notes, own_note, joined_notes, IsReadWith, IsNameType, AreNameTypes, AreAnnotations}
use Rattle.snowcat_types.specs.Answers.{IsTypedAs, IsClashOf, types_of_names, types_of_parts}
use Rattle.snowcat_types.proofs.RowExamples.{at, tree, leaf, x, one, word, yes}
use Rattle.snowcat_types.proofs.Visits.{visit-at}

-- VARIABLE \* @type: Int;
--   x
-- with this start, and TRUE for all else
abbrev name_x : Decl
name_x = record { name = x; place = at 9; constant = false; note = codes "@type: Int;" }

abbrev job_with : Expr → Job
job_with e = record { files = []; names = name_x ∷ []; aliases = []; cinit = yes; assume = yes; init = e; next = yes; invs = [] }

abbrev equal_to : Expr → Expr
equal_to e = tree 1 op.Eq [] (leaf 8 (op.Name 0 false) ∷ e ∷ [])

abbrev x_is_one : Job
x_is_one = job_with (equal_to one)

abbrev x_is_text : Job
x_is_text = job_with (equal_to word)

-- ---- its annotations

abbrev x_is_int : Annotations
x_is_int = record { declared = (int_type, 0) ∷ []; noted = λ z. None }

notes-roll : (z : Expr-F Expr) → notes_in (roll-Expr z) ≡ own_note z.op z.place ++ joined_notes (map notes_in z.args)
unfolding notes_in
notes-roll z = fold-roll-Expr (List (List ℕ × Place)) (λ x. own_note x.op x.place ++ joined_notes x.args) z

says_int : annotation_of (codes "@type: Int;") ≡ Some (codes " Int")
unfolding annotation_of
says_int = refl

reads_int : IsReadWith [] (codes " Int") int_type 0
reads_int = (
  [],
  refl,
  (int, record { formed = refl; written = (codes " ", [], refl, refl, refl); fronts = ((λ r n. false), tt) }, refl, refl, refl),
)

name_is_int : IsNameType [] name_x (int_type, 0)
name_is_int = record { text = codes " Int"; written = says_int; read_with = reads_int; no_operator = tt }

no_item : (z : List ℕ) → Contains [] z → ⊥
no_item z (k, lt, e) = omega (arith, lt)

are_annotations : (job : Job) → job.names ≡ name_x ∷ [] → job.aliases ≡ [] → all_notes (parts_of job) ≡ [] → AreAnnotations job x_is_int
are_annotations job n a e = record {
  names = subst (λ z. AreNameTypes z job.names x_is_int.declared) (sym a) (subst (λ z. AreNameTypes [] z x_is_int.declared) (sym n) (name_is_int, tt));
  notes = λ z h. absurd (no_item z (subst (λ ns. Contains (map (λ n. n.0) ns) z) e h));
  others = λ z h. refl;
}

annotations_one : AreAnnotations x_is_one x_is_int
annotations_one = are_annotations x_is_one refl refl (simp (notes-roll))

annotations_text : AreAnnotations x_is_text x_is_int
annotations_text = are_annotations x_is_text refl refl (simp (notes-roll))

-- ---- x = 1

-- the root of a part is Bool
abbrev a_truth : List Requirement
a_truth = Equal bool_type bool_type ∷ []

-- a part that is TRUE
abbrev yes_asks : List Entry
yes_asks = Asks (at 4) [] ∷ Asks (at 4) a_truth ∷ []

abbrev front : List Entry
front = yes_asks ++ yes_asks ++ Asks (at 8) [] ∷ []

abbrev asks_one : System
asks_one = record {
  count = 2;
  declared = Equal int_type (var 0) ∷ [];
  entries = front ++ Asks (at 2) [] ∷ Asks (at 1) (Equal (var 1) (var 0) ∷ Equal (var 1) int_type ∷ []) ∷ Asks (at 1) a_truth ∷ yes_asks;
  names = var 0 ∷ [];
  parts = (bool_type ∷ []) ∷ (bool_type ∷ []) ∷ (bool_type ∷ var 0 ∷ int_type ∷ []) ∷ (bool_type ∷ []) ∷ [];
}

system_one : system x_is_int x_is_one ≡ asks_one
system_one = simp (visit-at)

abbrev all_int : Sub
all_int = record { type_of = λ v. int_type; row_of = same_sub.row_of }

abbrev typed_one : Typed
typed_one = record {
  names = ty.Int ∷ [];
  parts = (ty.Bool ∷ []) ∷ (ty.Bool ∷ []) ∷ (ty.Bool ∷ ty.Int ∷ ty.Int ∷ []) ∷ (ty.Bool ∷ []) ∷ [];
}

names_one : types_of_names typed_one ≡ int_type ∷ []
names_one = simp (mean-Int)

parts_one : types_of_parts typed_one ≡ (bool_type ∷ []) ∷ (bool_type ∷ []) ∷ (bool_type ∷ int_type ∷ int_type ∷ []) ∷ (bool_type ∷ []) ∷ []
parts_one = simp (mean-Int, mean-Bool)

principal_one : Principal 2 (all_asked asks_one) all_int
principal_one = record { meets = (refl, (refl, (refl, (refl, (refl, (refl, (refl, tt))))))); general = λ u h. (u, each u h) }
  where
    each : (u : Sub) → MeetAll u (all_asked asks_one) → (v : ℕ) → v < 2 → u.type_of v ≡ apply u int_type
    each u h zero lt = sym h.0
    each u h (suc zero) lt = h.1.1.1.1.0
    each u h (suc (suc v)) lt = absurd (omega (arith, lt))

typing_one : IsTyping asks_one (int_type ∷ []) ((bool_type ∷ []) ∷ (bool_type ∷ []) ∷ (bool_type ∷ int_type ∷ int_type ∷ []) ∷ (bool_type ∷ []) ∷ []) []
typing_one = record { all = all_asked asks_one; reached = at_start; last = all_int; principal = principal_one; names_are = refl; parts_are = refl }

pub x_is_one_is_typed : IsTypedAs x_is_one typed_one
x_is_one_is_typed = record {
  annotations = x_is_int;
  are = annotations_one;
  defaults = [];
  typing = subst (λ z. IsTyping z (types_of_names typed_one) (types_of_parts typed_one) []) (sym system_one)
      (subst (λ z. IsTyping asks_one z (types_of_parts typed_one) []) (sym names_one)
      (subst (λ z. IsTyping asks_one (int_type ∷ []) z []) (sym parts_one) typing_one));
}

-- ---- x = "a"

abbrev asks_text : System
asks_text = record {
  count = 2;
  declared = Equal int_type (var 0) ∷ [];
  entries = front ++ Asks (at 3) [] ∷ Asks (at 1) (Equal (var 1) (var 0) ∷ Equal (var 1) str_type ∷ []) ∷ Asks (at 1) a_truth ∷ yes_asks;
  names = var 0 ∷ [];
  parts = (bool_type ∷ []) ∷ (bool_type ∷ []) ∷ (bool_type ∷ var 0 ∷ str_type ∷ []) ∷ (bool_type ∷ []) ∷ [];
}

system_text : system x_is_int x_is_text ≡ asks_text
system_text = simp (visit-at)

abbrev bound : List Binding
bound = to_type 0 int_type ∷ to_type 1 int_type ∷ []

abbrev done : List Requirement
done = Equal int_type (var 0) ∷ a_truth ++ a_truth ++ Equal (var 1) (var 0) ∷ []

int_no_str : int_type ≡ str_type → ⊥
int_no_str e = cc

none_text : NoTyping asks_text []
none_text s h w = int_no_str (h.0 ∙ sym h.1.1.1.0 ∙ h.1.1.1.1.0)

principal_text : Principal 2 done (sub_of bound)
principal_text = record { meets = (refl, (refl, (refl, (refl, tt)))); general = λ u h. (u, each u h) }
  where
    each : (u : Sub) → MeetAll u done → (v : ℕ) → v < 2 → u.type_of v ≡ apply u ((sub_of bound).type_of v)
    each u h zero lt = sym h.0
    each u h (suc zero) lt = h.1.1.1.0 ∙ sym h.0
    each u h (suc (suc v)) lt = absurd (omega (arith, lt))

-- what is asked of the name, and of the two parts that are TRUE
abbrev before_init : List Requirement
before_init = Equal int_type (var 0) ∷ a_truth ++ a_truth

visited_parts : Visited (Equal int_type (var 0) ∷ []) (yes_asks ++ yes_asks) before_init []
visited_parts =
    let ds : List Requirement = Equal int_type (var 0) ∷ [] in
    let node : List Entry = Asks (at 4) [] ∷ [] in
    a_row (yes_asks ++ node) (at 4) a_truth (ds ++ a_truth) [] (a_row yes_asks (at 4) [] (ds ++ a_truth) []
    (a_row node (at 4) a_truth ds [] (a_row [] (at 4) [] ds [] nothing_yet)))

visited_text : Visited (Equal int_type (var 0) ∷ []) (front ++ Asks (at 3) [] ∷ []) before_init []
visited_text = a_row front (at 3) [] before_init [] (a_row (yes_asks ++ yes_asks) (at 8) [] before_init [] visited_parts)

issued_text : IsIssued 2 bound
issued_text =
    (((λ o. o), (((λ e. cc), ((λ o. o), tt)), ((λ o. o), (tt, tt)))), ((omega arith, λ v o. absurd o), ((omega arith, λ v o. absurd o), tt)))

clash_text : IsClash asks_text (at 1) int_type str_type []
clash_text = record {
  done = done;
  entry = Asks (at 1) (Equal (var 1) (var 0) ∷ Equal (var 1) str_type ∷ []);
  asks = Equal (var 1) str_type;
  listed = [];
  next = in_row (front ++ Asks (at 3) [] ∷ []) (Asks (at 1) a_truth ∷ yes_asks) (at 1) (Equal (var 1) (var 0) ∷ []) [] before_init (Equal (var 1) str_type) [] refl visited_text;
  at_node = refl;
  places_are = refl;
  none = none_text;
  last = bound;
  principal = principal_text;
  a = var 1;
  b = str_type;
  sides = (refl, refl);
  issued = 2;
  more = omega arith;
  is_issued = issued_text;
  fronts = λ r n. false;
  sorted = ((tt, (tt, tt)), (tt, tt));
  unmade = record {
    apart = λ u f e q. int_no_str (sym (e.types 1 (omega arith)) ∙ q);
    issued = 2;
    fronts = λ r n. false;
    reached = bound;
    follow = given;
    beside = here;
    at_once = record { unequal = int_no_str; forms = λ h a b e f s. absurd (cc); records = λ f g k j e d. absurd (cc) };
    never = λ s f e. int_no_str e;
  };
}

pub x_is_text_clashes : IsClashOf x_is_text (at 1) ty.Int ty.Str []
x_is_text_clashes = record {
  annotations = x_is_int;
  are = annotations_text;
  clash = subst (λ z. IsClash z (at 1) (mean ty.Int) (mean ty.Str) []) (sym system_text)
      (subst (λ z. IsClash asks_text (at 1) z (mean ty.Str) []) (sym mean-Int)
      (subst (λ z. IsClash asks_text (at 1) int_type z []) (sym mean-Str) clash_text));
}

-- ---- 1, which is no truth value

abbrev start_is_one : Job
start_is_one = job_with one

annotations_start : AreAnnotations start_is_one x_is_int
annotations_start = are_annotations start_is_one refl refl (simp (notes-roll))

abbrev asks_start : System
asks_start = record {
  count = 1;
  declared = Equal int_type (var 0) ∷ [];
  entries = yes_asks ++ yes_asks ++ Asks (at 2) [] ∷ Asks (at 2) (Equal bool_type int_type ∷ []) ∷ yes_asks;
  names = var 0 ∷ [];
  parts = (bool_type ∷ []) ∷ (bool_type ∷ []) ∷ (int_type ∷ []) ∷ (bool_type ∷ []) ∷ [];
}

system_start : system x_is_int start_is_one ≡ asks_start
system_start = simp (visit-at)

bool_no_int : bool_type ≡ int_type → ⊥
bool_no_int e = cc

abbrev bound_start : List Binding
bound_start = to_type 0 int_type ∷ []

principal_start : Principal 1 before_init (sub_of bound_start)
principal_start = record { meets = (refl, (refl, (refl, tt))); general = λ u h. (u, each u h) }
  where
    each : (u : Sub) → MeetAll u before_init → (v : ℕ) → v < 1 → u.type_of v ≡ apply u ((sub_of bound_start).type_of v)
    each u h zero lt = sym h.0
    each u h (suc v) lt = absurd (omega (arith, lt))

visited_start : Visited (Equal int_type (var 0) ∷ []) (yes_asks ++ yes_asks ++ Asks (at 2) [] ∷ []) before_init []
visited_start = a_row (yes_asks ++ yes_asks) (at 2) [] before_init [] visited_parts

clash_start : IsClash asks_start (at 2) bool_type int_type []
clash_start = record {
  done = before_init;
  entry = Asks (at 2) (Equal bool_type int_type ∷ []);
  asks = Equal bool_type int_type;
  listed = [];
  next = in_row (yes_asks ++ yes_asks ++ Asks (at 2) [] ∷ []) yes_asks (at 2) [] [] before_init (Equal bool_type int_type) [] refl visited_start;
  at_node = refl;
  places_are = refl;
  none = λ s h w. bool_no_int h.1.1.1.0;
  last = bound_start;
  principal = principal_start;
  a = bool_type;
  b = int_type;
  sides = (refl, refl);
  issued = 1;
  more = omega arith;
  is_issued = (((λ o. o), (tt, tt)), ((omega arith, λ v o. absurd o), tt));
  fronts = λ r n. false;
  sorted = ((tt, tt), (tt, tt));
  unmade = record {
    apart = λ u f e q. bool_no_int q;
    issued = 1;
    fronts = λ r n. false;
    reached = bound_start;
    follow = given;
    beside = here;
    at_once = record { unequal = bool_no_int; forms = λ h a b e f s. absurd (cc); records = λ f g k j e d. absurd (cc) };
    never = λ s f e. bool_no_int e;
  };
}

pub start_clashes : IsClashOf start_is_one (at 2) ty.Bool ty.Int []
start_clashes = record {
  annotations = x_is_int;
  are = annotations_start;
  clash = subst (λ z. IsClash z (at 2) (mean ty.Bool) (mean ty.Int) []) (sym system_start)
      (subst (λ z. IsClash asks_start (at 2) z (mean ty.Int) []) (sym mean-Bool)
      (subst (λ z. IsClash asks_start (at 2) bool_type z []) (sym mean-Int) clash_start));
}
