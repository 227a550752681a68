-- A property of types that the forms of the table keep: where the types that a row speaks of have it, so has all that the row
-- says.
use Rattle.std.proofs.Common.{◌≡◌, refl, ℕ, zero, suc, ◌+◌, ◌<◌, Bool, true, false, ◌&&◌, if◌then◌else◌, List, [], ◌∷◌, ◌++◌, map, length, arith, Option, Some, None}
use Rattle.std.specs.Prelude.{zip, replicate}
use Rattle.tla_meaning.specs.declared.op.Op.{Op}
use Rattle.tla_meaning.specs.declared.op.Op.TheVariants as op
use Rattle.snowcat_rows.specs.Types.{Term, con, NamedHead, StrHead}
use Rattle.snowcat_rows.specs.LiteralTypes.{literal_type, type_of_parts, last_of, is_word, is_type_name}
use Rattle.snowcat_types.specs.TypeForms.{bool_type, int_type, str_type, set_type, seq_type, fun_type, tuple_type, record_type}
use Rattle.snowcat_types.specs.inner.Named.{has_fields}
use Rattle.snowcat_types.specs.Rows.{Scope, Operand, Signature, TypeRow, plain, gives, from_type, sets_of, argument_type, typed_names, over, first_type, branches, index_types, reached_after, update_operands, sum, tuple_row, sequence_row, record_row, function_row, binder_row, set_row, number_row, equality_row, type_row}

-- of each of some types, and of those of some names
abbrev pub AllTypes : (Term → Type 0) → List Term → Type 0
AllTypes P [] = Unit {0}
AllTypes P (t ∷ ts) = P t × AllTypes P ts

abbrev pub AllNamed : (Term → Type 0) → Scope → Type 0
AllNamed P [] = Unit {0}
AllNamed P (x ∷ xs) = P x.1 × AllNamed P xs

-- the forms but records keep the property
pub record KeepsPlainForms (P : Term → Type 0) : Type 0 where
  pub truth : P bool_type
  pub number : P int_type
  pub text : P str_type
  pub named : (x : List ℕ) → P (con (NamedHead x))
  pub set : (t : Term) → P t → P (set_type t)
  pub seq : (t : Term) → P t → P (seq_type t)
  pub fun : (t u : Term) → P t → P u → P (fun_type t u)
  pub tuple : (ts : List Term) → AllTypes P ts → P (tuple_type ts)

-- and so do records
pub record KeepsForms (P : Term → Type 0) : Type 0 where
  pub plain : KeepsPlainForms P
  pub of_record : (fs : Scope) → AllNamed P fs → P (record_type fs)

abbrev pub OperandHas : (Term → Type 0) → Operand → Type 0
OperandHas P o = P o.type × AllNamed P o.under

abbrev pub AllOperands : (Term → Type 0) → List Operand → Type 0
AllOperands P [] = Unit {0}
AllOperands P (o ∷ os) = OperandHas P o × AllOperands P os

abbrev pub SignatureHas : (Term → Type 0) → Signature → Type 0
SignatureHas P sig = AllOperands P sig.operands × P sig.result

pub types_append : (P : Term → Type 0) (ts us : List Term) → AllTypes P ts → AllTypes P us → AllTypes P (ts ++ us)
types_append P [] us h k = k
types_append P (t ∷ ts) us h k = (h.0, types_append P ts us h.1 k)

pub named_append : (P : Term → Type 0) (xs ys : Scope) → AllNamed P xs → AllNamed P ys → AllNamed P (xs ++ ys)
named_append P [] ys h k = k
named_append P (x ∷ xs) ys h k = (h.0, named_append P xs ys h.1 k)

abbrev Has : (Term → Type 0) → TypeRow → Type 0
Has P r = (a : ℕ → Term) → ((j : ℕ) → j < r.unknowns → P (a j)) → SignatureHas P (r.says a)

module _ (P : Term → Type 0) (k : KeepsPlainForms P) where
  operands_append : (os qs : List Operand) → AllOperands P os → AllOperands P qs → AllOperands P (os ++ qs)
  operands_append [] qs h i = i
  operands_append (o ∷ os) qs h i = (h.0, operands_append os qs h.1 i)

  plain_has : (ts : List Term) → AllTypes P ts → AllOperands P (map plain ts)
  plain_has [] h = tt
  plain_has (t ∷ ts) h = ((h.0, tt), plain_has ts h.1)

  replicate_has : (n : ℕ) (t : Term) → P t → AllTypes P (replicate n t)
  replicate_has zero t h = tt
  replicate_has (suc n) t h = (h, replicate_has n t h)

  from_has : (a : ℕ → Term) (i n : ℕ) → ((j : ℕ) → j < i + n → P (a j)) → AllTypes P (from_type a i n)
  from_has a i zero h = tt
  from_has a i (suc n) h = (h i (omega arith), from_has a (i + 1) n (λ j lt. h j (omega (arith, lt))))

  sets_has : (ts : List Term) → AllTypes P ts → AllTypes P (sets_of ts)
  sets_has [] h = tt
  sets_has (t ∷ ts) h = (k.set t h.0, sets_has ts h.1)

  zip_has : (xs : List (List ℕ)) (ts : List Term) → AllTypes P ts → AllNamed P (zip xs ts)
  zip_has [] ts h = tt
  zip_has (x ∷ xs) [] h = tt
  zip_has (x ∷ xs) (t ∷ ts) h = (h.0, zip_has xs ts h.1)

  typed_names_have : (xs : List (List ℕ)) (ts : List Term) → AllTypes P ts → AllNamed P (typed_names xs ts)
  typed_names_have [] ts h = tt
  typed_names_have (x ∷ xs) [] h = (k.truth, typed_names_have xs [] h)
  typed_names_have (x ∷ xs) (t ∷ ts) h = (h.0, typed_names_have xs ts h.1)

  argument_has : (ts : List Term) → AllTypes P ts → P (argument_type ts)
  argument_has [] h = k.tuple [] h
  argument_has (t ∷ []) h = h.0
  argument_has (t ∷ u ∷ ts) h = k.tuple (t ∷ u ∷ ts) h

  first_has : (ts : List Term) → AllTypes P ts → P (first_type ts)
  first_has [] h = k.truth
  first_has (t ∷ ts) h = h.0

  branches_has : (t : Term) (n : ℕ) → P t → AllTypes P (branches t n)
  branches_has t zero h = tt
  branches_has t (suc zero) h = (h, tt)
  branches_has t (suc (suc n)) h = (k.truth, (h, branches_has t n h))

  parts_have : (o : Option (List ℕ × List ℕ)) → P (type_of_parts o)
  parts_have None = k.text
  parts_have (Some p) = chosen (is_word p.0 && is_type_name p.1)
    where
      chosen : (b : Bool) → P (if b then con (NamedHead p.1) else con StrHead)
      chosen true = k.named p.1
      chosen false = k.text

  literal_has : (s : List ℕ) → P (literal_type s)
  literal_has s = parts_have (last_of [] s None)

  over_has : (names : List (List ℕ)) (a : ℕ → Term) (body t : Term) → ((j : ℕ) → j < length names → P (a j)) → P body → P t →
      SignatureHas P (over names a body t)
  over_has names a body t h b r =
      let n : ℕ = length names in
      let ts : AllTypes P (from_type a 0 n) = from_has a 0 n (λ j lt. h j (omega (arith, lt))) in (
        operands_append (map plain (sets_of (from_type a 0 n))) (record { type = body; under = typed_names names (from_type a 0 n) } ∷ [])
            (plain_has (sets_of (from_type a 0 n)) (sets_has (from_type a 0 n) ts)) ((b, typed_names_have names (from_type a 0 n) ts), tt),
        r,
      )

  index_has : (a : ℕ → Term) (i n : ℕ) → ((j : ℕ) → j < i + i + n + n + 1 → P (a j)) → AllTypes P (index_types a i n)
  index_has a i zero h = tt
  index_has a i (suc n) h = (h (i + i + 1) (omega arith), index_has a (i + 1) n (λ j lt. h j (omega (arith, lt))))

  reached_has : (a : ℕ → Term) (i n : ℕ) → ((j : ℕ) → j < i + i + n + n + 1 → P (a j)) → P (reached_after a i n)
  reached_has a i zero h = h 0 (omega arith)
  reached_has a i (suc zero) h = h (i + i + 2) (omega arith)
  reached_has a i (suc (suc n)) h = reached_has a (i + 1) (suc n) (λ j lt. h j (omega (arith, lt)))

  updates_have : (names : List (List ℕ)) (a : ℕ → Term) (i : ℕ) (ns : List ℕ) → ((j : ℕ) → j < i + i + sum ns + sum ns + 1 → P (a j)) →
      AllOperands P (update_operands names a i ns)
  updates_have names a i [] h = tt
  updates_have names a i (n ∷ ns) h =
      let r : P (reached_after a i n) = reached_has a i n (λ j lt. h j (omega (arith, lt))) in
      operands_append (map plain (index_types a i n)) (record { type = reached_after a i n; under = typed_names names (reached_after a i n ∷ []) } ∷ update_operands names a (i + n) ns)
      (plain_has (index_types a i n) (index_has a i n (λ j lt. h j (omega (arith, lt)))))
      ((r, typed_names_have names (reached_after a i n ∷ []) (r, tt)), updates_have names a (i + n) ns (λ j lt. h j (omega (arith, lt))))

  gives_has : (ts : List Term) (t : Term) → AllTypes P ts → P t → SignatureHas P (gives ts t)
  gives_has ts t h r = (plain_has ts h, r)

  -- ---- the rows

  abbrev RecordsHave : Type 0
  RecordsHave = (fs : Scope) → AllNamed P fs → P (record_type fs)

  tuple_has : (n : ℕ) → Has P (tuple_row n)
  tuple_has zero a h = gives_has [] (seq_type (a 0)) tt (k.seq (a 0) (h 0 (omega arith)))
  tuple_has (suc n) a h =
      gives_has (from_type a 2 (suc n)) (a 0) (from_has a 2 (suc n) (λ j lt. h j (omega (arith, lt)))) (h 0 (omega arith))

  sequences_have : (o : Op) (names : List (List ℕ)) (n : ℕ) → Has P (sequence_row o names n)
  sequences_have op.Tuple names n a h = tuple_has n a h
  sequences_have op.Len names n a h = gives_has ((seq_type (a 0)) ∷ []) int_type ((k.seq (a 0) (h 0 (omega arith))), tt) k.number
  sequences_have op.Append names n a h = gives_has ((seq_type (a 0)) ∷ ((a 0) ∷ [])) (seq_type (a 0)) ((k.seq (a 0) (h 0 (omega arith))), ((h 0 (omega arith)), tt)) (k.seq (a 0) (h 0 (omega arith)))
  sequences_have op.Concat names n a h = gives_has ((seq_type (a 0)) ∷ ((seq_type (a 0)) ∷ [])) (seq_type (a 0)) ((k.seq (a 0) (h 0 (omega arith))), ((k.seq (a 0) (h 0 (omega arith))), tt)) (k.seq (a 0) (h 0 (omega arith)))
  sequences_have op.Head names n a h = gives_has ((seq_type (a 0)) ∷ []) (a 0) ((k.seq (a 0) (h 0 (omega arith))), tt) (h 0 (omega arith))
  sequences_have op.Tail names n a h = gives_has ((seq_type (a 0)) ∷ []) (seq_type (a 0)) ((k.seq (a 0) (h 0 (omega arith))), tt) (k.seq (a 0) (h 0 (omega arith)))
  sequences_have op.SubSeq names n a h = gives_has ((seq_type (a 0)) ∷ (int_type ∷ (int_type ∷ []))) (seq_type (a 0)) ((k.seq (a 0) (h 0 (omega arith))), (k.number, (k.number, tt))) (k.seq (a 0) (h 0 (omega arith)))
  sequences_have op.Fold names n a h =
      let zero_has : P (a 0) = h 0 (omega arith) in
      let one_has : P (a 1) = h 1 (omega arith) in
      (((zero_has, typed_names_have names (a 0 ∷ a 1 ∷ []) (zero_has, (one_has, tt))), ((zero_has, tt), ((k.seq (a 1) one_has, tt), tt))), zero_has)
  sequences_have o names n a h = gives_has [] bool_type tt k.truth

  records_have : (o : Op) (r : has_fields o ≡ true → RecordsHave) (names : List (List ℕ)) (n : ℕ) → Has P (record_row o names n)
  records_have (op.RecSet fs) r names n a h = gives_has (sets_of (from_type a 0 n)) (set_type (record_type (zip fs (from_type a 0 n)))) (sets_has (from_type a 0 n) (from_has a 0 n (λ j lt. h j (omega (arith, lt))))) (k.set (record_type (zip fs (from_type a 0 n))) (r refl (zip fs (from_type a 0 n)) (zip_has fs (from_type a 0 n) (from_has a 0 n (λ j lt. h j (omega (arith, lt)))))))
  records_have (op.Record fs) r names n a h = gives_has (from_type a 0 n) (record_type (zip fs (from_type a 0 n))) (from_has a 0 n (λ j lt. h j (omega (arith, lt)))) (r refl (zip fs (from_type a 0 n)) (zip_has fs (from_type a 0 n) (from_has a 0 n (λ j lt. h j (omega (arith, lt))))))
  records_have (op.Field f) r names n a h = gives_has ((a 0) ∷ []) (a 1) ((h 0 (omega arith)), tt) (h 1 (omega arith))
  records_have o r names n a h = sequences_have o names n a h

  functions_have : (o : Op) (r : has_fields o ≡ true → RecordsHave) (names : List (List ℕ)) (n : ℕ) → Has P (function_row o names n)
  functions_have op.FunSet r names n a h = gives_has ((set_type (a 0)) ∷ ((set_type (a 1)) ∷ [])) (set_type (fun_type (a 0) (a 1))) ((k.set (a 0) (h 0 (omega arith))), ((k.set (a 1) (h 1 (omega arith))), tt)) (k.set (fun_type (a 0) (a 1)) (k.fun (a 0) (a 1) (h 0 (omega arith)) (h 1 (omega arith))))
  functions_have op.Apply r names n a h = gives_has ((a 0) ∷ ((a 1) ∷ [])) (a 2) ((h 0 (omega arith)), ((h 1 (omega arith)), tt)) (h 2 (omega arith))
  functions_have (op.Except ns) r names n a h =
      (((h 0 (omega arith), tt), updates_have names a 0 ns (λ j lt. h j (omega (arith, lt)))), h 0 (omega arith))
  functions_have op.Domain r names n a h = gives_has ((a 0) ∷ []) (a 1) ((h 0 (omega arith)), tt) (h 1 (omega arith))
  functions_have op.Merge r names n a h = gives_has ((fun_type (a 0) (a 1)) ∷ ((fun_type (a 0) (a 1)) ∷ [])) (fun_type (a 0) (a 1)) ((k.fun (a 0) (a 1) (h 0 (omega arith)) (h 1 (omega arith))), ((k.fun (a 0) (a 1) (h 0 (omega arith)) (h 1 (omega arith))), tt)) (k.fun (a 0) (a 1) (h 0 (omega arith)) (h 1 (omega arith)))
  functions_have op.Single r names n a h = gives_has ((a 0) ∷ ((a 1) ∷ [])) (fun_type (a 0) (a 1)) ((h 0 (omega arith)), ((h 1 (omega arith)), tt)) (k.fun (a 0) (a 1) (h 0 (omega arith)) (h 1 (omega arith)))
  functions_have o r names n a h = records_have o r names n a h

  binders_have : (o : Op) (r : has_fields o ≡ true → RecordsHave) (names : List (List ℕ)) (n : ℕ) → Has P (binder_row o names n)
  binders_have op.Exists r names n a h = over_has names a bool_type bool_type h k.truth k.truth
  binders_have op.Forall r names n a h = over_has names a bool_type bool_type h k.truth k.truth
  binders_have op.Filter r names n a h =
      let ts : List Term = from_type a 0 (length names) in
      over_has names a bool_type (set_type (first_type ts)) h k.truth
      (k.set (first_type ts) (first_has ts (from_has a 0 (length names) (λ j lt. h j (omega (arith, lt))))))
  binders_have op.MapTo r names n a h =
      let b : P (a (length names)) = h (length names) (omega arith) in
      over_has names a (a (length names)) (set_type (a (length names))) (λ j lt. h j (omega (arith, lt))) b (k.set (a (length names)) b)
  binders_have op.Lambda r names n a h =
      let b : P (a (length names)) = h (length names) (omega arith) in
      let ts : List Term = from_type a 0 (length names) in
      over_has names a (a (length names)) (fun_type (argument_type ts) (a (length names))) (λ j lt. h j (omega (arith, lt))) b
      (k.fun (argument_type ts) (a (length names)) (argument_has ts (from_has a 0 (length names) (λ j lt. h j (omega (arith, lt))))) b)
  binders_have o r names n a h = functions_have o r names n a h

  sets_have : (o : Op) (r : has_fields o ≡ true → RecordsHave) (names : List (List ℕ)) (n : ℕ) → Has P (set_row o names n)
  sets_have op.SetEnum r names n a h = gives_has (replicate n (a 0)) (set_type (a 0)) (replicate_has n (a 0) (h 0 (omega arith))) (k.set (a 0) (h 0 (omega arith)))
  sets_have op.Cup r names n a h = gives_has ((set_type (a 0)) ∷ ((set_type (a 0)) ∷ [])) (set_type (a 0)) ((k.set (a 0) (h 0 (omega arith))), ((k.set (a 0) (h 0 (omega arith))), tt)) (k.set (a 0) (h 0 (omega arith)))
  sets_have op.Cap r names n a h = gives_has ((set_type (a 0)) ∷ ((set_type (a 0)) ∷ [])) (set_type (a 0)) ((k.set (a 0) (h 0 (omega arith))), ((k.set (a 0) (h 0 (omega arith))), tt)) (k.set (a 0) (h 0 (omega arith)))
  sets_have op.Minus r names n a h = gives_has ((set_type (a 0)) ∷ ((set_type (a 0)) ∷ [])) (set_type (a 0)) ((k.set (a 0) (h 0 (omega arith))), ((k.set (a 0) (h 0 (omega arith))), tt)) (k.set (a 0) (h 0 (omega arith)))
  sets_have op.Powerset r names n a h = gives_has ((set_type (a 0)) ∷ []) (set_type (set_type (a 0))) ((k.set (a 0) (h 0 (omega arith))), tt) (k.set (set_type (a 0)) (k.set (a 0) (h 0 (omega arith))))
  sets_have op.Product r names n a h = gives_has (sets_of (from_type a 0 n)) (set_type (tuple_type (from_type a 0 n))) (sets_has (from_type a 0 n) (from_has a 0 n (λ j lt. h j (omega (arith, lt))))) (k.set (tuple_type (from_type a 0 n)) (k.tuple (from_type a 0 n) (from_has a 0 n (λ j lt. h j (omega (arith, lt))))))
  sets_have op.BigUnion r names n a h = gives_has ((set_type (set_type (a 0))) ∷ []) (set_type (a 0)) ((k.set (set_type (a 0)) (k.set (a 0) (h 0 (omega arith)))), tt) (k.set (a 0) (h 0 (omega arith)))
  sets_have op.BooleanSet r names n a h = gives_has [] (set_type bool_type) tt (k.set bool_type k.truth)
  sets_have op.IntSet r names n a h = gives_has [] (set_type int_type) tt (k.set int_type k.number)
  sets_have op.NatSet r names n a h = gives_has [] (set_type int_type) tt (k.set int_type k.number)
  sets_have op.StringSet r names n a h = gives_has [] (set_type str_type) tt (k.set str_type k.text)
  sets_have op.SeqSet r names n a h = gives_has ((set_type (a 0)) ∷ []) (set_type (seq_type (a 0))) ((k.set (a 0) (h 0 (omega arith))), tt) (k.set (seq_type (a 0)) (k.seq (a 0) (h 0 (omega arith))))
  sets_have op.Cardinality r names n a h = gives_has ((set_type (a 0)) ∷ []) int_type ((k.set (a 0) (h 0 (omega arith))), tt) k.number
  sets_have op.IsFinite r names n a h = gives_has ((set_type (a 0)) ∷ []) bool_type ((k.set (a 0) (h 0 (omega arith))), tt) k.truth
  sets_have o r names n a h = binders_have o r names n a h

  numbers_have : (o : Op) (r : has_fields o ≡ true → RecordsHave) (names : List (List ℕ)) (n : ℕ) → Has P (number_row o names n)
  numbers_have op.Lt r names n a h = gives_has (int_type ∷ (int_type ∷ [])) bool_type (k.number, (k.number, tt)) k.truth
  numbers_have op.Gt r names n a h = gives_has (int_type ∷ (int_type ∷ [])) bool_type (k.number, (k.number, tt)) k.truth
  numbers_have op.Le r names n a h = gives_has (int_type ∷ (int_type ∷ [])) bool_type (k.number, (k.number, tt)) k.truth
  numbers_have op.Ge r names n a h = gives_has (int_type ∷ (int_type ∷ [])) bool_type (k.number, (k.number, tt)) k.truth
  numbers_have op.Add r names n a h = gives_has (int_type ∷ (int_type ∷ [])) int_type (k.number, (k.number, tt)) k.number
  numbers_have op.Sub r names n a h = gives_has (int_type ∷ (int_type ∷ [])) int_type (k.number, (k.number, tt)) k.number
  numbers_have op.Mul r names n a h = gives_has (int_type ∷ (int_type ∷ [])) int_type (k.number, (k.number, tt)) k.number
  numbers_have op.Neg r names n a h = gives_has (int_type ∷ []) int_type (k.number, tt) k.number
  numbers_have op.Div r names n a h = gives_has (int_type ∷ (int_type ∷ [])) int_type (k.number, (k.number, tt)) k.number
  numbers_have op.Mod r names n a h = gives_has (int_type ∷ (int_type ∷ [])) int_type (k.number, (k.number, tt)) k.number
  numbers_have op.Pow r names n a h = gives_has (int_type ∷ (int_type ∷ [])) int_type (k.number, (k.number, tt)) k.number
  numbers_have op.Range r names n a h = gives_has (int_type ∷ (int_type ∷ [])) (set_type int_type) (k.number, (k.number, tt)) (k.set int_type k.number)
  numbers_have o r names n a h = sets_have o r names n a h

  equalities_have : (o : Op) (r : has_fields o ≡ true → RecordsHave) (names : List (List ℕ)) (n : ℕ) → Has P (equality_row o names n)
  equalities_have op.Eq r names n a h = gives_has ((a 0) ∷ ((a 0) ∷ [])) bool_type ((h 0 (omega arith)), ((h 0 (omega arith)), tt)) k.truth
  equalities_have op.Ne r names n a h = gives_has ((a 0) ∷ ((a 0) ∷ [])) bool_type ((h 0 (omega arith)), ((h 0 (omega arith)), tt)) k.truth
  equalities_have op.Assign r names n a h = gives_has ((a 0) ∷ ((a 0) ∷ [])) bool_type ((h 0 (omega arith)), ((h 0 (omega arith)), tt)) k.truth
  equalities_have op.In r names n a h = gives_has ((a 0) ∷ ((set_type (a 0)) ∷ [])) bool_type ((h 0 (omega arith)), ((k.set (a 0) (h 0 (omega arith))), tt)) k.truth
  equalities_have op.NotIn r names n a h = gives_has ((a 0) ∷ ((set_type (a 0)) ∷ [])) bool_type ((h 0 (omega arith)), ((k.set (a 0) (h 0 (omega arith))), tt)) k.truth
  equalities_have op.SubsetEq r names n a h = gives_has ((set_type (a 0)) ∷ ((set_type (a 0)) ∷ [])) bool_type ((k.set (a 0) (h 0 (omega arith))), ((k.set (a 0) (h 0 (omega arith))), tt)) k.truth
  equalities_have o r names n a h = numbers_have o r names n a h

  pub rows_have : (o : Op) (r : has_fields o ≡ true → RecordsHave) (names : List (List ℕ)) (n : ℕ) → Has P (type_row o names n)
  rows_have (op.Bool b) r names n a h = gives_has [] bool_type tt k.truth
  rows_have (op.Int i) r names n a h = gives_has [] int_type tt k.number
  rows_have (op.Str s) r names n a h = gives_has [] (literal_type s) tt (literal_has s)
  rows_have op.And r names n a h = gives_has (replicate n bool_type) bool_type (replicate_has n bool_type k.truth) k.truth
  rows_have op.Or r names n a h = gives_has (replicate n bool_type) bool_type (replicate_has n bool_type k.truth) k.truth
  rows_have op.Implies r names n a h = gives_has (bool_type ∷ (bool_type ∷ [])) bool_type (k.truth, (k.truth, tt)) k.truth
  rows_have op.Not r names n a h = gives_has (bool_type ∷ []) bool_type (k.truth, tt) k.truth
  rows_have op.Iff r names n a h = gives_has (bool_type ∷ (bool_type ∷ [])) bool_type (k.truth, (k.truth, tt)) k.truth
  rows_have op.If r names n a h = gives_has (bool_type ∷ ((a 0) ∷ ((a 0) ∷ []))) (a 0) (k.truth, ((h 0 (omega arith)), ((h 0 (omega arith)), tt))) (h 0 (omega arith))
  rows_have (op.Case other) r names n a h = gives_has (branches (a 0) n) (a 0) (branches_has (a 0) n (h 0 (omega arith))) (h 0 (omega arith))
  rows_have o r names n a h = equalities_have o r names n a h

pub table_has : (P : Term → Type 0) → KeepsForms P → (o : Op) (names : List (List ℕ)) (n : ℕ) → Has P (type_row o names n)
table_has P k o names n = rows_have P k.plain o (λ e. k.of_record) names n
