-- A row of the table says of types under a substitution what it says of the types, under the substitution.
use Rattle.std.proofs.Common.{◌≡◌, ℕ, zero, suc, ◌+◌, Bool, true, false, ◌&&◌, if◌then◌else◌, List, [], ◌∷◌, ◌++◌, map, length, refl, ap, ◌∙◌, Option, Some, None}
use Rattle.std.specs.Prelude.{zip, replicate, bytes_eq}
use Rattle.tla_meaning.specs.declared.op.Op.{Op}
use Rattle.tla_meaning.specs.declared.op.Op.TheVariants as op
use Rattle.snowcat_rows.specs.Types.{Term, Slot, con, app, fields, none, some, row, lookup, NamedHead, StrHead, TupHead}
use Rattle.snowcat_rows.specs.Substitutions.{Sub, apply, apply_slot, or_else}
use Rattle.snowcat_rows.specs.LiteralTypes.{literal_type, type_of_parts, last_of, is_word, is_type_name}
use Rattle.snowcat_types.specs.TypeForms.{bool_type, set_type, seq_type, fun_type, tuple_type, record_type}
use Rattle.snowcat_types.specs.Rows.{Scope, Operand, Signature, TypeRow, plain, gives, from_type, sets_of, argument_type, typed_names, over, first_type, branches, index_types, reached_after, update_operands, tuple_row, sequence_row, record_row, function_row, binder_row, set_row, number_row, equality_row, type_row}

abbrev pub seen_scope : Sub → Scope → Scope
seen_scope s xs = map (λ x. (x.0, apply s x.1)) xs

abbrev pub seen_operand : Sub → Operand → Operand
seen_operand s o = record { type = apply s o.type; under = seen_scope s o.under }

abbrev pub seen : Sub → Signature → Signature
seen s sig = record { operands = map (seen_operand s) sig.operands; result = apply s sig.result }

pub map-append : {X : Type 0} → {Y : Type 0} → (f : X → Y) (xs ys : List X) → map f (xs ++ ys) ≡ map f xs ++ map f ys
map-append f [] ys = refl
map-append f (x ∷ xs) ys = ap (λ z. f x ∷ z) (map-append f xs ys)

module _ (s : Sub) where
  abbrev under_s : (ℕ → Term) → ℕ → Term
  under_s a = λ i. apply s (a i)

  plains : (ts us : List Term) → map (apply s) ts ≡ us → map (seen_operand s) (map plain ts) ≡ map plain us
  plains ts us e = each ts ∙ ap (λ z. map plain z) e
    where
      each : (ts : List Term) → map (seen_operand s) (map plain ts) ≡ map plain (map (apply s) ts)
      each [] = refl
      each (t ∷ ts) = ap (λ z. plain (apply s t) ∷ z) (each ts)

  given : (ts us : List Term) (t u : Term) → map (apply s) ts ≡ us → apply s t ≡ u → seen s (gives ts t) ≡ gives us u
  given ts us t u e f = λ i. record { operands = plains ts us e i; result = f i }

  replicates : (n : ℕ) (t : Term) → map (apply s) (replicate n t) ≡ replicate n (apply s t)
  replicates zero t = refl
  replicates (suc n) t = ap (λ z. apply s t ∷ z) (replicates n t)

  froms : (a : ℕ → Term) (i n : ℕ) → map (apply s) (from_type a i n) ≡ from_type (under_s a) i n
  froms a i zero = refl
  froms a i (suc n) = ap (λ z. apply s (a i) ∷ z) (froms a (i + 1) n)

  sets : (ts : List Term) → map (apply s) (sets_of ts) ≡ sets_of (map (apply s) ts)
  sets [] = refl
  sets (t ∷ ts) = ap (λ z. set_type (apply s t) ∷ z) (sets ts)

  branch : (t : Term) (n : ℕ) → map (apply s) (branches t n) ≡ branches (apply s t) n
  branch t zero = refl
  branch t (suc zero) = refl
  branch t (suc (suc n)) = ap (λ z. bool_type ∷ apply s t ∷ z) (branch t n)

  rows : (ts : List Term) → apply s (row ts) ≡ row (map (apply s) ts)
  rows [] = refl
  rows (t ∷ ts) = λ i. app (apply s t) (rows ts i)

  tuples : (ts us : List Term) → map (apply s) ts ≡ us → apply s (tuple_type ts) ≡ tuple_type us
  tuples ts us e = ap (λ z. app (con TupHead) z) (rows ts ∙ ap row e)

  zips : (xs : List (List ℕ)) (ts us : List Term) → map (apply s) ts ≡ us → seen_scope s (zip xs ts) ≡ zip xs us
  zips xs ts us e = each xs ts ∙ ap (zip xs) e
    where
      each : (xs : List (List ℕ)) (ts : List Term) → seen_scope s (zip xs ts) ≡ zip xs (map (apply s) ts)
      each [] ts = refl
      each (x ∷ xs) [] = refl
      each (x ∷ xs) (t ∷ ts) = ap (λ z. (x, apply s t) ∷ z) (each xs ts)

  names_seen : (xs : List (List ℕ)) (ts us : List Term) → map (apply s) ts ≡ us → seen_scope s (typed_names xs ts) ≡ typed_names xs us
  names_seen xs ts us e = each xs ts ∙ ap (typed_names xs) e
    where
      each : (xs : List (List ℕ)) (ts : List Term) → seen_scope s (typed_names xs ts) ≡ typed_names xs (map (apply s) ts)
      each [] ts = refl
      each (x ∷ xs) [] = ap (λ z. (x, bool_type) ∷ z) (each xs [])
      each (x ∷ xs) (t ∷ ts) = ap (λ z. (x, apply s t) ∷ z) (each xs ts)

  chosen_slot : (b : Bool) (t : Term) (x y : Slot) → or_else (apply_slot s x) none ≡ y →
      or_else (apply_slot s (if b then some t else x)) none ≡ (if b then some (apply s t) else y)
  chosen_slot true t x y e = refl
  chosen_slot false t x y e = e

  lookups : (fs : Scope) (x : List ℕ) → or_else (apply_slot s (lookup fs x)) none ≡ lookup (seen_scope s fs) x
  lookups [] x = refl
  lookups (f ∷ fs) x = chosen_slot (bytes_eq f.0 x) f.1 (lookup fs x) (lookup (seen_scope s fs) x) (lookups fs x)

  records : (fs gs : Scope) → seen_scope s fs ≡ gs → apply s (record_type fs) ≡ record_type gs
  records fs gs e = (λ i. fields (λ x. lookups fs x i) None) ∙ ap record_type e

  arguments : (ts us : List Term) → map (apply s) ts ≡ us → apply s (argument_type ts) ≡ argument_type us
  arguments ts us e = each ts ∙ ap argument_type e
    where
      each : (ts : List Term) → apply s (argument_type ts) ≡ argument_type (map (apply s) ts)
      each [] = refl
      each (t ∷ []) = refl
      each (t ∷ u ∷ ts) = tuples (t ∷ u ∷ ts) (apply s t ∷ apply s u ∷ map (apply s) ts) refl

  firsts : (ts us : List Term) → map (apply s) ts ≡ us → apply s (first_type ts) ≡ first_type us
  firsts ts us e = each ts ∙ ap first_type e
    where
      each : (ts : List Term) → apply s (first_type ts) ≡ first_type (map (apply s) ts)
      each [] = refl
      each (t ∷ ts) = refl

  parts : (o : Option (List ℕ × List ℕ)) → apply s (type_of_parts o) ≡ type_of_parts o
  parts None = refl
  parts (Some p) = one (is_word p.0 && is_type_name p.1)
    where
      one : (b : Bool) → apply s (if b then con (NamedHead p.1) else con StrHead) ≡ (if b then con (NamedHead p.1) else con StrHead)
      one true = refl
      one false = refl

  literal : (x : List ℕ) → apply s (literal_type x) ≡ literal_type x
  literal x = parts (last_of [] x None)

  overs : (names : List (List ℕ)) (a : ℕ → Term) (body t u : Term) → apply s t ≡ u →
      seen s (over names a body t) ≡ over names (under_s a) (apply s body) u
  overs names a body t u e =
      let n : ℕ = length names in
      let f : map (apply s) (from_type a 0 n) ≡ from_type (under_s a) 0 n = froms a 0 n in
      let g : map (apply s) (sets_of (from_type a 0 n)) ≡ sets_of (from_type (under_s a) 0 n) = sets (from_type a 0 n) ∙ ap sets_of f in
      λ i. record {
        operands =
            (map-append (seen_operand s) (map plain (sets_of (from_type a 0 n))) (record { type = body; under = typed_names names (from_type a 0 n) } ∷ [])
            ∙ (λ j. plains (sets_of (from_type a 0 n)) (sets_of (from_type (under_s a) 0 n)) g j
            ++ record { type = apply s body; under = names_seen names (from_type a 0 n) (from_type (under_s a) 0 n) f j } ∷ [])) i;
        result = e i;
      }

  indexes : (a : ℕ → Term) (i n : ℕ) → map (apply s) (index_types a i n) ≡ index_types (under_s a) i n
  indexes a i zero = refl
  indexes a i (suc n) = ap (λ z. apply s (a (i + i + 1)) ∷ z) (indexes a (i + 1) n)

  reached : (a : ℕ → Term) (i n : ℕ) → apply s (reached_after a i n) ≡ reached_after (under_s a) i n
  reached a i zero = refl
  reached a i (suc zero) = refl
  reached a i (suc (suc n)) = reached a (i + 1) (suc n)

  updates : (names : List (List ℕ)) (a : ℕ → Term) (i : ℕ) (ns : List ℕ) →
      map (seen_operand s) (update_operands names a i ns) ≡ update_operands names (under_s a) i ns
  updates names a i [] = refl
  updates names a i (n ∷ ns) =
      map-append (seen_operand s) (map plain (index_types a i n))
      (record { type = reached_after a i n; under = typed_names names (reached_after a i n ∷ []) } ∷ update_operands names a (i + n) ns)
      ∙ (λ j. plains (index_types a i n) (index_types (under_s a) i n) (indexes a i n) j
      ++ record {
        type = reached a i n j;
        under = names_seen names (reached_after a i n ∷ []) (reached_after (under_s a) i n ∷ []) (ap (λ z. z ∷ []) (reached a i n)) j;
      } ∷ updates names a (i + n) ns j)

  -- ---- the rows

  abbrev Through : TypeRow → Type 0
  Through r = (a : ℕ → Term) → seen s (r.says a) ≡ r.says (under_s a)

  tuples_through : (n : ℕ) → Through (tuple_row n)
  tuples_through zero a = refl
  tuples_through (suc n) a = given (from_type a 2 (suc n)) (from_type (under_s a) 2 (suc n)) (a 0) (apply s (a 0)) (froms a 2 (suc n)) refl

  sequences_through : (o : Op) (names : List (List ℕ)) (n : ℕ) → Through (sequence_row o names n)
  sequences_through op.Tuple names n a = tuples_through n a
  sequences_through op.Len names n a = refl
  sequences_through op.Append names n a = refl
  sequences_through op.Concat names n a = refl
  sequences_through op.Head names n a = refl
  sequences_through op.Tail names n a = refl
  sequences_through op.SubSeq names n a = refl
  sequences_through op.Fold names n a =
      λ i. record {
        operands =
            record { type = apply s (a 0); under = names_seen names (a 0 ∷ a 1 ∷ []) (apply s (a 0) ∷ apply s (a 1) ∷ []) refl i }
            ∷ plain (apply s (a 0)) ∷ plain (seq_type (apply s (a 1))) ∷ [];
        result = apply s (a 0);
      }
  sequences_through o names n a = refl

  records_through : (o : Op) (names : List (List ℕ)) (n : ℕ) → Through (record_row o names n)
  records_through (op.RecSet fs) names n a =
      given (sets_of (from_type a 0 n)) (sets_of (from_type (under_s a) 0 n)) (set_type (record_type (zip fs (from_type a 0 n)))) (set_type (record_type (zip fs (from_type (under_s a) 0 n))))
      (sets (from_type a 0 n) ∙ ap sets_of (froms a 0 n)) (ap set_type (records (zip fs (from_type a 0 n)) (zip fs (from_type (under_s a) 0 n)) (zips fs (from_type a 0 n) (from_type (under_s a) 0 n) (froms a 0 n))))
  records_through (op.Record fs) names n a =
      given (from_type a 0 n) (from_type (under_s a) 0 n) (record_type (zip fs (from_type a 0 n))) (record_type (zip fs (from_type (under_s a) 0 n))) (froms a 0 n)
      (records (zip fs (from_type a 0 n)) (zip fs (from_type (under_s a) 0 n)) (zips fs (from_type a 0 n) (from_type (under_s a) 0 n) (froms a 0 n)))
  records_through (op.Field f) names n a = refl
  records_through o names n a = sequences_through o names n a

  functions_through : (o : Op) (names : List (List ℕ)) (n : ℕ) → Through (function_row o names n)
  functions_through op.FunSet names n a = refl
  functions_through op.Apply names n a = refl
  functions_through (op.Except ns) names n a =
      λ i. record { operands = plain (apply s (a 0)) ∷ updates names a 0 ns i; result = apply s (a 0) }
  functions_through op.Domain names n a = refl
  functions_through op.Merge names n a = refl
  functions_through op.Single names n a = refl
  functions_through o names n a = records_through o names n a

  binders_through : (o : Op) (names : List (List ℕ)) (n : ℕ) → Through (binder_row o names n)
  binders_through op.Exists names n a = overs names a bool_type bool_type bool_type refl
  binders_through op.Forall names n a = overs names a bool_type bool_type bool_type refl
  binders_through op.Filter names n a =
      overs names a bool_type (set_type (first_type (from_type a 0 (length names)))) (set_type (first_type (from_type (under_s a) 0 (length names))))
      (ap set_type (firsts (from_type a 0 (length names)) (from_type (under_s a) 0 (length names)) (froms a 0 (length names))))
  binders_through op.MapTo names n a = overs names a (a (length names)) (set_type (a (length names))) (set_type (apply s (a (length names)))) refl
  binders_through op.Lambda names n a =
      overs names a (a (length names)) (fun_type (argument_type (from_type a 0 (length names))) (a (length names)))
      (fun_type (argument_type (from_type (under_s a) 0 (length names))) (apply s (a (length names))))
      (ap (λ z. fun_type z (apply s (a (length names)))) (arguments (from_type a 0 (length names)) (from_type (under_s a) 0 (length names)) (froms a 0 (length names))))
  binders_through o names n a = functions_through o names n a

  sets_through : (o : Op) (names : List (List ℕ)) (n : ℕ) → Through (set_row o names n)
  sets_through op.SetEnum names n a = given (replicate n (a 0)) (replicate n (apply s (a 0))) (set_type (a 0)) (set_type (apply s (a 0))) (replicates n (a 0)) refl
  sets_through op.Cup names n a = refl
  sets_through op.Cap names n a = refl
  sets_through op.Minus names n a = refl
  sets_through op.Powerset names n a = refl
  sets_through op.Product names n a =
      given (sets_of (from_type a 0 n)) (sets_of (from_type (under_s a) 0 n)) (set_type (tuple_type (from_type a 0 n))) (set_type (tuple_type (from_type (under_s a) 0 n)))
      (sets (from_type a 0 n) ∙ ap sets_of (froms a 0 n)) (ap set_type (tuples (from_type a 0 n) (from_type (under_s a) 0 n) (froms a 0 n)))
  sets_through op.BigUnion names n a = refl
  sets_through op.BooleanSet names n a = refl
  sets_through op.IntSet names n a = refl
  sets_through op.NatSet names n a = refl
  sets_through op.StringSet names n a = refl
  sets_through op.SeqSet names n a = refl
  sets_through op.Cardinality names n a = refl
  sets_through op.IsFinite names n a = refl
  sets_through o names n a = binders_through o names n a

  numbers_through : (o : Op) (names : List (List ℕ)) (n : ℕ) → Through (number_row o names n)
  numbers_through op.Lt names n a = refl
  numbers_through op.Gt names n a = refl
  numbers_through op.Le names n a = refl
  numbers_through op.Ge names n a = refl
  numbers_through op.Add names n a = refl
  numbers_through op.Sub names n a = refl
  numbers_through op.Mul names n a = refl
  numbers_through op.Neg names n a = refl
  numbers_through op.Div names n a = refl
  numbers_through op.Mod names n a = refl
  numbers_through op.Pow names n a = refl
  numbers_through op.Range names n a = refl
  numbers_through o names n a = sets_through o names n a

  equalities_through : (o : Op) (names : List (List ℕ)) (n : ℕ) → Through (equality_row o names n)
  equalities_through op.Eq names n a = refl
  equalities_through op.Ne names n a = refl
  equalities_through op.Assign names n a = refl
  equalities_through op.In names n a = refl
  equalities_through op.NotIn names n a = refl
  equalities_through op.SubsetEq names n a = refl
  equalities_through o names n a = numbers_through o names n a

  pub table_through : (o : Op) (names : List (List ℕ)) (n : ℕ) → Through (type_row o names n)
  table_through (op.Bool b) names n a = refl
  table_through (op.Int i) names n a = refl
  table_through (op.Str x) names n a = given [] [] (literal_type x) (literal_type x) refl (literal x)
  table_through op.And names n a = given (replicate n bool_type) (replicate n bool_type) bool_type bool_type (replicates n bool_type) refl
  table_through op.Or names n a = given (replicate n bool_type) (replicate n bool_type) bool_type bool_type (replicates n bool_type) refl
  table_through op.Implies names n a = refl
  table_through op.Not names n a = refl
  table_through op.Iff names n a = refl
  table_through op.If names n a = refl
  table_through (op.Case other) names n a = given (branches (a 0) n) (branches (apply s (a 0)) n) (a 0) (apply s (a 0)) (branch (a 0) n) refl
  table_through o names n a = equalities_through o names n a
