-- Defaults: a tuple that nothing decides is a tuple, and then an application to a number that is not there clashes.
use Rattle.std.proofs.Common.{◌≡◌, ℕ, zero, suc, ◌<◌, inl, inr, false, List, [], ◌∷◌, ◌++◌, pos, refl, ap, sym, ◌∙◌, subst, arith, None}
use Rattle.tla_meaning.specs.declared.expr.Expr.{Expr}
use Rattle.tla_meaning.specs.declared.op.Op.TheVariants as op
use Rattle.snowcat_rows.specs.Types.{Term, none, some, var, here}
use Rattle.snowcat_rows.specs.Substitutions.{Sub, apply, same_sub}
use Rattle.snowcat_rows.specs.Chains.{Binding, Chain, Occurs, Variable, type_var, to_type, sub_of}
use Rattle.snowcat_rows.specs.Sorting.{AllWithin}
use Rattle.snowcat_rows.specs.Unifying.{given}
use Rattle.snowcat_types.specs.declared.waiting.Index.TheVariants.{Number}
use Rattle.snowcat_types.specs.declared.waiting.Wait.{Wait}
use Rattle.snowcat_types.specs.declared.waiting.Wait.TheVariants as wait
use Rattle.snowcat_types.specs.TypeForms.{bool_type, int_type, fun_type, seq_type, tuple_type}
use Rattle.snowcat_types.specs.declared.kinds.Kind.{Kind}
use Rattle.snowcat_types.specs.declared.kinds.Kind.TheVariants.{NotFormed, Function, Sequence, Tuple as TupleKind, Record as RecordKind, Other}
use Rattle.snowcat_types.specs.Requirements.{kind, Requirement, Equal, ItemOf, item_at, MeetAll}
use Rattle.snowcat_types.specs.Waiting.{choice, default_kind}
use Rattle.snowcat_types.specs.Systems.{Annotations, Entry, Asks, Waits, System, system_of}
use Rattle.snowcat_types.specs.Typings.{at_start, by_default, Decides, DecidesNothing, Fulfils, Principal, Reached, Visited, nothing_yet, a_row, waits_on, afterwards, NoTyping, IsClash}
use Rattle.snowcat_types.proofs.RowExamples.{at, tree, leaf}
use Rattle.snowcat_types.proofs.Visits.{visit-at}

-- <<1, 2>>[3]
abbrev third : Expr
third =
    tree 7 op.Apply [] (tree 1 op.Tuple [] (leaf 3 (op.Int (pos 1)) ∷ leaf 6 (op.Int (pos 2)) ∷ []) ∷ leaf 8 (op.Int (pos 3)) ∷ [])

abbrev tuple_waits : Wait
tuple_waits = wait.Tuple (at 1) 3 4 5 2

abbrev apply_waits : Wait
apply_waits = wait.Apply (at 7) 0 1 2 (Number (pos 3))

abbrev row_of_items : List Requirement
row_of_items = Equal (var 5) int_type ∷ Equal (var 6) int_type ∷ []

abbrev row_of_apply : List Requirement
row_of_apply = Equal (var 0) (var 3) ∷ Equal (var 1) int_type ∷ []

-- as a part it is to be Bool
abbrev row_of_root : List Requirement
row_of_root = Equal bool_type (var 2) ∷ []

abbrev no_names : Annotations
no_names = record { declared = []; noted = λ x. None }

abbrev asks_third : System
asks_third = record {
  count = 7;
  declared = [];
  entries =
      Asks (at 3) [] ∷ Asks (at 6) [] ∷ Asks (at 1) row_of_items ∷ Waits tuple_waits ∷ Asks (at 8) [] ∷ Asks (at 7) row_of_apply
      ∷ Waits apply_waits ∷ Asks (at 7) row_of_root ∷ [];
  names = [];
  parts = (var 2 ∷ var 3 ∷ int_type ∷ int_type ∷ int_type ∷ []) ∷ [];
}

system_third : system_of no_names (third ∷ []) ≡ asks_third
system_third = simp (visit-at)

abbrev pair : Term
pair = tuple_type (int_type ∷ int_type ∷ [])

-- where the rows are met and the tuple has this type
abbrev type_given : Term → ℕ → Term
type_given t zero = t
type_given t (suc (suc zero)) = bool_type
type_given t (suc (suc (suc zero))) = t
type_given t (suc (suc (suc (suc zero)))) = var 4
type_given t v = int_type

abbrev with_type : Term → Sub
with_type t = record { type_of = type_given t; row_of = same_sub.row_of }

abbrev asked_before : List Requirement
asked_before = row_of_items ++ row_of_apply

abbrev asked_all : List Requirement
asked_all = asked_before ++ row_of_root

abbrev chosen : List Requirement
chosen = asked_all ++ Equal (var 3) (tuple_type (var 5 ∷ var 6 ∷ [])) ∷ []

-- nothing is decided: the tuple may have any type
free_tuple : DecidesNothing row_of_items tuple_waits
free_tuple k d = d.0 (sym (d.1 (with_type (var 3)) (refl, (refl, tt))))

free_tuple_later : DecidesNothing asked_all tuple_waits
free_tuple_later k d = d.0 (sym (d.1 (with_type (var 3)) (refl, (refl, (refl, (refl, (refl, tt)))))))

free_apply : DecidesNothing asked_before apply_waits
free_apply k d = d.0 (sym (d.1 (with_type (var 3)) (refl, (refl, (refl, (refl, tt))))))

free_apply_later : DecidesNothing asked_all apply_waits
free_apply_later k d = d.0 (sym (d.1 (with_type (var 3)) (refl, (refl, (refl, (refl, (refl, tt)))))))

visited_third : Visited [] asks_third.entries asked_all (tuple_waits ∷ apply_waits ∷ [])
visited_third =
    let one : List Entry = Asks (at 3) [] ∷ [] in
    let two : List Entry = Asks (at 3) [] ∷ Asks (at 6) [] ∷ [] in
    let three : List Entry = Asks (at 3) [] ∷ Asks (at 6) [] ∷ Asks (at 1) row_of_items ∷ [] in
    let four : List Entry = three ++ Waits tuple_waits ∷ Asks (at 8) [] ∷ Asks (at 7) row_of_apply ∷ [] in
    a_row (four ++ Waits apply_waits ∷ []) (at 7) row_of_root asked_before (tuple_waits ∷ apply_waits ∷ [])
    (waits_on four apply_waits asked_before (tuple_waits ∷ [])
    (a_row (three ++ Waits tuple_waits ∷ Asks (at 8) [] ∷ []) (at 7) row_of_apply row_of_items (tuple_waits ∷ [])
    (a_row (three ++ Waits tuple_waits ∷ []) (at 8) [] row_of_items (tuple_waits ∷ [])
    (waits_on three tuple_waits row_of_items []
    (a_row two (at 1) row_of_items [] [] (a_row one (at 6) [] [] [] (a_row [] (at 3) [] [] [] nothing_yet))) free_tuple))) free_apply)

-- the tuple, which stands first, takes its default
reached_third : Reached asked_all (tuple_waits ∷ apply_waits ∷ []) chosen (apply_waits ∷ []) (tuple_waits ∷ [])
reached_third =
    by_default asked_all [] (apply_waits ∷ []) [] tuple_waits at_start (free_tuple_later, (free_apply_later, tt))
    (record { before_earlier = tt; not_behind = (refl, tt) })

no_kind : TupleKind ≡ NotFormed → ⊥
no_kind e = cc

decided_third : Decides chosen apply_waits TupleKind
decided_third = (no_kind, λ s h. ap kind (h.1.1.0 ∙ h.1.1.1.1.1.0))

-- no function, no sequence, and no third item
no_function : (a b c d : Term) → tuple_type (a ∷ b ∷ []) ≡ fun_type c d → ⊥
no_function a b c d e = cc

no_sequence : (a b c : Term) → tuple_type (a ∷ b ∷ []) ≡ seq_type c → ⊥
no_sequence a b c e = cc

no_item : (t a b c : Term) → t ≡ tuple_type (a ∷ b ∷ []) → item_at t 3 ≡ some c → ⊥
no_item t a b c e h = let d : none ≡ some c = ap (λ z. item_at z 3) (sym e) ∙ h in cc

no_choice : (s : Sub) (a b : Term) → s.type_of 0 ≡ tuple_type (a ∷ b ∷ []) → (k : Kind) → MeetAll s (choice apply_waits k) → ⊥
no_choice s a b e Function h = no_function a b (s.type_of 1) (s.type_of 2) (sym e ∙ h.0)
no_choice s a b e Sequence h = no_sequence a b (s.type_of 2) (sym e ∙ h.0)
no_choice s a b e TupleKind h = no_item (s.type_of 0) a b (s.type_of 2) e h.0
no_choice s a b e NotFormed h = h.0
no_choice s a b e RecordKind h = h.0
no_choice s a b e Other h = h.0

default_there : (s : Sub) → Fulfils s (tuple_waits ∷ []) tuple_waits → MeetAll s (choice tuple_waits (default_kind tuple_waits))
default_there s (inl h) = h
default_there s (inr (k, h, n)) = absurd (n.0 refl)

none_third : NoTyping asks_third (tuple_waits ∷ [])
none_third s h w =
    let t : MeetAll s (choice tuple_waits (default_kind tuple_waits)) = default_there s w.0 in
    let e : s.type_of 0 ≡ tuple_type (s.type_of 5 ∷ s.type_of 6 ∷ []) = h.1.1.0 ∙ t.0 in
    elim w.1.0 [
      | inl c ↦ no_choice s (s.type_of 5) (s.type_of 6) e Function c
      | inr c ↦ no_choice s (s.type_of 5) (s.type_of 6) e c.0 c.1
    ]

abbrev bound : List Binding
bound = to_type 2 bool_type ∷ to_type 5 int_type ∷ to_type 6 int_type ∷ to_type 1 int_type ∷ to_type 3 pair ∷ to_type 0 pair ∷ []

principal_third : Principal 7 chosen (sub_of bound)
principal_third = record { meets = (refl, (refl, (refl, (refl, (refl, (refl, tt)))))); general = λ u h. (u, each u h) }
  where
    pairs : (u : Sub) → MeetAll u chosen → u.type_of 3 ≡ pair
    pairs u h = h.1.1.1.1.1.0 ∙ (λ i. tuple_type (h.0 i ∷ h.1.0 i ∷ []))

    each : (u : Sub) → MeetAll u chosen → (v : ℕ) → v < 7 → u.type_of v ≡ apply u ((sub_of bound).type_of v)
    each u h zero lt = h.1.1.0 ∙ pairs u h
    each u h (suc zero) lt = h.1.1.1.0
    each u h (suc (suc zero)) lt = sym h.1.1.1.1.0
    each u h (suc (suc (suc zero))) lt = pairs u h
    each u h (suc (suc (suc (suc zero)))) lt = refl
    each u h (suc (suc (suc (suc (suc zero))))) lt = h.0
    each u h (suc (suc (suc (suc (suc (suc zero)))))) lt = h.1.0
    each u h (suc (suc (suc (suc (suc (suc (suc v))))))) lt = absurd (omega (arith, lt))

abbrev function_asked : Term
function_asked = fun_type int_type bool_type

free_pair : (v : Variable) → Occurs v pair → ⊥
free_pair v (inl o) = o
free_pair v (inr (inl o)) = o
free_pair v (inr (inr (inl o))) = o
free_pair v (inr (inr (inr o))) = o

chain_third : Chain bound
chain_third = (
  (λ o. o),
  (
    (
      (λ e. cc),
      ((λ o. o), ((λ e. cc), ((λ o. o), ((λ e. cc), ((λ o. o), ((λ e. cc), (free_pair (type_var 2), ((λ e. cc), (free_pair (type_var 2), tt))))))))),
    ),
    (
      (λ o. o),
      (
        ((λ e. cc), ((λ o. o), ((λ e. cc), ((λ o. o), ((λ e. cc), (free_pair (type_var 5), ((λ e. cc), (free_pair (type_var 5), tt)))))))),
        (
          (λ o. o),
          (
            ((λ e. cc), ((λ o. o), ((λ e. cc), (free_pair (type_var 6), ((λ e. cc), (free_pair (type_var 6), tt)))))),
            (
              (λ o. o),
              (
                ((λ e. cc), (free_pair (type_var 1), ((λ e. cc), (free_pair (type_var 1), tt)))),
                (free_pair (type_var 3), (((λ e. cc), (free_pair (type_var 3), tt)), (free_pair (type_var 0), (tt, tt)))),
              ),
            ),
          ),
        ),
      ),
    ),
  ),
)

within_third : AllWithin 7 bound
within_third = (
  (omega arith, λ v o. absurd o),
  (
    (omega arith, λ v o. absurd o),
    (
      (omega arith, λ v o. absurd o),
      (
        (omega arith, λ v o. absurd o),
        ((omega arith, λ v o. absurd (free_pair v o)), ((omega arith, λ v o. absurd (free_pair v o)), tt)),
      ),
    ),
  ),
)

pub third_clashes : IsClash (system_of no_names (third ∷ [])) (at 7) pair function_asked (at 1 ∷ [])
third_clashes = subst (λ z. IsClash z (at 7) pair function_asked (at 1 ∷ [])) (sym system_third) (record {
  done = chosen;
  entry = Waits apply_waits;
  asks = ItemOf (var 0) 3 (var 2);
  listed = tuple_waits ∷ [];
  next = afterwards apply_waits TupleKind [] [] asked_all chosen (ItemOf (var 0) 3 (var 2)) (tuple_waits ∷ apply_waits ∷ []) [] [] (tuple_waits ∷ [])
      visited_third reached_third decided_third refl;
  at_node = refl;
  places_are = refl;
  none = none_third;
  last = bound;
  principal = principal_third;
  a = var 0;
  b = fun_type (var 1) (var 2);
  sides = (refl, refl);
  issued = 7;
  more = omega arith;
  is_issued = (chain_third, within_third);
  fronts = λ r n. false;
  sorted = ((tt, (tt, (tt, (tt, ((tt, (tt, (tt, tt))), ((tt, (tt, (tt, tt))), tt)))))), (tt, (tt, (tt, tt))));
  unmade = record {
    apart = λ u f e q. no_function int_type int_type (u.type_of 1) (u.type_of 2) (sym (e.types 0 (omega arith)) ∙ q);
    issued = 7;
    fronts = λ r n. false;
    reached = bound;
    follow = given;
    beside = here;
    at_once = record {
      unequal = λ e. no_function int_type int_type int_type bool_type e;
      forms = λ h a b e f g. absurd (cc);
      records = λ f g k j e d. absurd (cc);
    };
    never = λ s f e. no_function int_type int_type int_type bool_type e;
  };
})
