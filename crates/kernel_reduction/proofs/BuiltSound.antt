-- What is built of an expression whose nodes have types by the rows of the type table is sound.
use Rattle.std.proofs.Common.{◌≡◌, ℕ, suc, ◌+◌, Bool, true, false, not, List, [], ◌∷◌, ◌++◌, map, zip, take, drop, length, refl, sym, ◌∙◌, ap, subst, Option, Some, None, pos}
use Rattle.std.specs.Prelude.{replicate}
use Rattle.std.proofs.lemmas.Bool.{eqb-true}
use Rattle.std.proofs.lemmas.List.{append_assoc}
use Rattle.tla_values.specs.declared.value.Value.{out-Value}
use Rattle.tla_values.specs.declared.value.Value.TheVariants as value
use Rattle.tla_meaning.specs.declared.actions.Assignable.{Assignable}
use Rattle.tla_meaning.specs.declared.expr.Expr.{Expr, out-Expr}
use Rattle.tla_meaning.specs.declared.op.Op.{Op}
use Rattle.tla_meaning.specs.declared.op.Op.TheVariants as op
use Rattle.tla_meaning.specs.declared.place.Place.{Place}
use Rattle.tla_meaning.proofs.Views.{false≢true}
use Rattle.snowcat_rows.specs.Types.{Term, mean}
use Rattle.snowcat_rows.specs.Substitutions.{Sub}
use Rattle.snowcat_rows.specs.declared.types.Ty.{Ty, out-Ty, Bool as bool_ty}
use Rattle.snowcat_types.specs.TypeForms.{bool_type, int_type, set_type, seq_type, fun_type}
use Rattle.snowcat_types.specs.Rows.{Operand, Signature, Context as TypeContext, with_bound, typed_names, branches, index_number, reached_number, index_types, reached_after, update_operands, or_type, plain as plain_operand}
use Rattle.snowcat_types.specs.Requirements.{MeetAll}
use Rattle.snowcat_types.specs.Waiting.{second_literal, waiting_indexes, waiting_updates, choice as choice_of}
use Rattle.snowcat_types.specs.declared.waiting.Index.TheVariants as lit
use Rattle.snowcat_types.specs.declared.waiting.Sight.{Sight}
use Rattle.snowcat_types.specs.declared.waiting.Wait.{Wait}
use Rattle.snowcat_types.specs.declared.waiting.Wait.TheVariants as wait
use Rattle.snowcat_types.specs.Typings.{Each}
use Rattle.snowcat_types.specs.Judgement.{sight_of, HasChoice, joined_types, HasTypes, HaveTypes, by_row}
use Rattle.kernel_trees.specs.declared.kernel.Ker.{Ker}
use Rattle.kernel_trees.specs.declared.kernel.KerOp.TheVariants as ker
use Rattle.kernel_trees.specs.Trees.{op_of}
use Rattle.kernel_trees.specs.TypeKinds.{Kind, Truth, Number, Word, Set, Fun, Tup, Rec, kinds, kind_of, same, is_kind}
use Rattle.kernel_trees.specs.Sound.{Context, binder_row, is_literal, form_child as sound_child, literal_of as kernel_literal}
use Rattle.kernel_trees.proofs.SoundTrees.{Child}
use Rattle.kernel_trees.proofs.TypeLaws.{kind-Bool}
use Rattle.kernel_reduction.specs.Reduction.{Numbering, numbered}
use Rattle.kernel_reduction.specs.Infinite.{form_child}
use Rattle.kernel_reduction.specs.Whole.{binds_enough}
use Rattle.kernel_reduction.specs.BuildsTyped.{BuildsTyped, at_node, EachTyped, none_left, one_more, ArmsTyped, no_arms, other_arm, one_arm, PathTyped, right_side, one_level, ChangesTyped, no_changes, one_change, TypedNode, boolean, integer, text, declared, bound_name, same as same_row, range, binder, fold, noted, assign, implies, unequal, no_member, greater, at_most, at_least, negative, finite, truth_values, equivalent, one_pair, power, high_power, field, low_item, high_item, except, except_let, cases, as_value, conjunction, disjunction, choice, branches as branches_row, split_cases}
use Rattle.kernel_reduction.specs.Making.{pair_type, let_of, Leads, pairs_type}
use Rattle.kernel_reduction.specs.Rows.{tree, type_of, op_at, Let, Level, Change, all_levels}
use Rattle.kernel_reduction.proofs.SoundMade.{Is, same_self, negation_is, implication_is, finite_is, if_is, item_is, item_by_let_is}
use Rattle.kernel_reduction.proofs.SoundChanges.{nested_kind, nested_ifs_are, guard_is, SplitArms, split_case_is}
use Rattle.kernel_reduction.proofs.SoundExcepts.{all_kinds, except_is, except_by_let_is}
use Rattle.kernel_reduction.proofs.SoundPaths.{right_operand, tie_path, last_fresh, Ends, next_ends, indexes_long, each_left, each_right, indexes_taken, take_map, drop_map, PathRest, path_is, changes_kinds, pairs_kind, all_rests, all_apart}
use Rattle.kernel_reduction.proofs.UpdateRows.{chosen, literal_kind, led}
use Rattle.kernel_reduction.proofs.PathNumbers.{AreNew, under, new_front, numbers_of, path_new, two_new}
use Rattle.kernel_reduction.proofs.KindsOf.{Of, no_more, and_of, same_of, has_bool, has_set, has_fun, is_truth, is_number, of_set}
use Rattle.kernel_reduction.proofs.KindTies.{Ties, tie_all, tie_nil}
use Rattle.kernel_reduction.proofs.SameRows.{types_of, direct_row}
use Rattle.kernel_reduction.proofs.SoundForms.{anywhere, plain_at, made_at, binder_at}
use Rattle.kernel_reduction.proofs.BuiltParts.{Fine, AllFine, fine_at, fine_take, fine_drop, Reads, AllOf, all_of, of_left, plain_map, front_of, none_of, parted, less, kinds_of_operands, Met, types_at, as_many}
use Rattle.kernel_reduction.proofs.Lengths.{cons_first, cons_rest, none_long, some_long, take_long, drop_long, fresh_long, member_forms, bool_of}
use Rattle.kernel_reduction.proofs.RowsDone.{Out, truth_out, as_truth, as_number, equal_done, less_done, minus_done, truths_done, equivalence_done, single_done, power_done, high_power_done, arms_done, let_types, pair_kind}
use Rattle.kernel_reduction.proofs.LiteralRoots.{Tells, literal_tree, second_told}
use Rattle.kernel_reduction.proofs.ChoiceRows.{plus_none, form_of, form_tuple, form_record, item_row, field_row}
use Rattle.kernel_reduction.proofs.SameDone.{row_of_same}
use Rattle.kernel_reduction.proofs.NodeRows.{same_operands, same_done, along, constant_done, word_of_text, body_of, result_of, over_is, binder_plain, no_forms, row_of_binder, two_kinds, noted_says}
use Rattle.kernel_reduction.proofs.BuiltBelow.{Knows, InAction, AllInAction, AllTie, plain_tie, Kids, only_one, only_out, only_two, none_reads, all_true, fine_along, number_out, fold_done, kids_sound, values_sound, under_sound, ChangesSay, updates_sound}

module _ (names : List Kind) where
  mutual
    pub tree_sound : (i : Option Assignable) (ρ : Numbering) (e : Expr) (ts : List Ty) (k : Ker) (us : List Ty) →
        BuildsTyped i ρ e ts k us →
        (g : TypeContext) → Knows names g → (c : Context) → Ties ρ g.bound c → (b : Bool) → Fine (length names) b e →
        (x : Term) (xs rest : List Term) → HasTypes g e (x ∷ xs) → InAction names i x → Reads ts ((x ∷ xs) ++ rest) →
        Reads us rest × Out names c b x k
    tree_sound _ _ _ _ _ _ (at_node i ρ e t ts k us d) g kn c tie b fine _ _ rest (by_row _ _ v s tss have fields choices) act reads =
        let h : mean t ≡ _ = cons_first reads.0 in
        let met : Met (length names) g (out-Expr e).place (out-Expr e).op (out-Expr e).args (out-Expr e).binds b (mean t) tss =
        record {
          from = v;
          sub = s;
          have = have;
          result = h;
          fields = fields;
          choice = choices;
          fine = fine_at (length names) b e fine;
        } in
        let r =
        node_sound i ρ (out-Expr e).place t (out-Expr e).op (out-Expr e).args (out-Expr e).binds ts k us d g kn c tie b tss
        met reads.1.0.0 reads.1.0.1 rest (subst (InAction names i) (sym h) act) (cons_rest reads.0, reads.1.1) in
        (r.0, subst (λ z. Out names c b z k) h r.1)

    each_sound : (i : Option Assignable) (ρ : Numbering) (es : List Expr) (ts : List Ty) (ks : List Ker) (us : List Ty) →
        EachTyped i ρ es ts ks us →
        (g : TypeContext) → Knows names g → (c : Context) (f : ℕ → Bool) (n : ℕ) (os : List Operand) (tss : List (List Term))
        (rest : List Term) → AllFine (length names) f n es → AllTie names ρ g.bound c os → AllInAction names i os →
        length os ≡ length es → HaveTypes g es os tss → Reads ts (joined_types tss ++ rest) → Kids names c f n os ks us rest
    each_sound _ _ _ _ _ _ (none_left i ρ ts) g kn c f n [] tss rest fine tie act l have reads = record {
      reads = subst (λ z. Reads ts (joined_types z ++ rest)) (none_of g [] tss have) reads;
      kinds = [];
      are = no_more;
      all = tt;
    }
    each_sound _ _ _ _ _ _ (none_left i ρ ts) g kn c f n (o ∷ os) tss rest fine tie act l have reads =
        absurd (some_long (length os) l)
    each_sound _ _ _ _ _ _ (one_more i ρ e k es ks ts us vs d ds) g kn c f n [] tss rest fine tie act l have reads =
        absurd (none_long (length es) l)
    each_sound _ _ _ _ _ _ (one_more i ρ e k es ks ts us vs d ds) g kn c f n (o ∷ os) tss rest fine tie act l have reads =
        let w = front_of g e es o os tss have in
        let reads' : Reads ts ((o.type ∷ w.types) ++ (joined_types w.others ++ rest)) =
        subst (Reads ts)
        (ap (λ z. joined_types z ++ rest) w.are ∙ append_assoc (o.type ∷ w.types) (joined_types w.others) rest) reads in
        let r =
        tree_sound i ρ e ts k us d (with_bound o.under g) kn c tie.0 (f n) fine.0 o.type w.types
        (joined_types w.others ++ rest) w.first act.0 reads' in
        let q =
        each_sound i ρ es us ks vs ds g kn c f (suc n) os w.others rest fine.1 tie.1 act.1
        (less (length os) (length es) l) w.rest r.0 in record {
          reads = q.reads;
          kinds = r.1.0 ∷ q.kinds;
          are = and_of o.type r.1.0 (types_of os) q.kinds r.1.1 q.are;
          all = (r.1.2, q.all);
        }

    node_sound : (i : Option Assignable) (ρ : Numbering) (p : Place) (t : Ty) (o : Op) (es : List Expr)
        (xs : List (List ℕ)) (ts : List Ty) (k : Ker) (us : List Ty) → TypedNode i ρ p t o es xs ts k us →
        (g : TypeContext) → Knows names g → (c : Context) → Ties ρ g.bound c → (b : Bool) (tss : List (List Term)) →
        Met (length names) g p o es xs b (mean t) tss → (a : Kind) → kind_of t ≡ Some a → (rest : List Term) →
        InAction names i (mean t) → Reads ts (joined_types tss ++ rest) → Reads us rest × Out names c b (mean t) k
    node_sound _ _ _ _ _ _ _ _ _ _ (boolean ρ p t v xs ts) g kn c tie b tss met a q rest act reads = (
      none_reads names g _ tss ts rest met.have reads,
      (
        a,
        (t, q, refl),
        constant_done names c b p t (value.Bool v) a q
            (ap (λ z. is_literal z (out-Value (value.Bool v))) (is_truth a (t, q, met.result))
            ∙ ap (is_literal Truth) (value.outs-Bool v)),
      ),
    )
    node_sound _ _ _ _ _ _ _ _ _ _ (integer ρ p t v xs ts) g kn c tie b tss met a q rest act reads = (
      none_reads names g _ tss ts rest met.have reads,
      (
        a,
        (t, q, refl),
        constant_done names c b p t (value.Int v) a q
            (ap (λ z. is_literal z (out-Value (value.Int v))) (is_number a (t, q, met.result))
            ∙ ap (is_literal Number) (value.outs-Int v)),
      ),
    )
    node_sound _ _ _ _ _ _ _ _ _ _ (text ρ p t s xs ts) g kn c tie b tss met a q rest act reads =
        let w = word_of_text s a (t, q, met.result) in (
          none_reads names g _ tss ts rest met.have reads,
          (
            a,
            (t, q, refl),
            constant_done names c b p t (value.Text s) a q
                (ap (λ z. is_literal z (out-Value (value.Text s))) w.1 ∙ ap (is_literal (Word w.0)) (value.outs-Text s)),
          ),
        )
    node_sound _ _ _ _ _ _ _ _ _ _ (declared ρ p t i primed xs ts) g kn c tie b tss met a q rest act reads =
        let w = kn i met.fine.declared in (
          none_reads names g _ tss ts rest met.have reads,
          (
            a,
            (t, q, refl),
            made_at names c b p t (ker.Name i primed) [] [] a q
                (ap (is_kind a) w.1 ∙ ap (same a) (same_of (g.declared i) w.0 a w.2 (t, q, met.result)) ∙ same_self a),
          ),
        )
    node_sound _ _ _ _ _ _ _ _ _ _ (bound_name ρ p t x n xs ts e) g kn c tie b tss met a q rest act reads =
        let w = tie.bound x n e in (
          none_reads names g _ tss ts rest met.have reads,
          (
            a,
            (t, q, refl),
            made_at names c b p t (ker.Bound n) [] [] a q
                (ap (is_kind a) w.there
                ∙ ap (same a)
                (same_of w.type w.kind a w.of (t, q, met.result ∙ ap (λ z. or_type z bool_type) w.found)) ∙ same_self a),
          ),
        )
    node_sound _ _ _ _ _ _ _ _ _ _ (same_row ρ p t o ko es xs ks ts us e i ch d) g kn c tie b tss met a q rest act reads =
        let met' = subst (λ z. Met (length names) g p z es xs b (mean t) tss) (sym e) met in
        let r =
        values_sound names ρ es ts ks us (each_sound None ρ es ts ks us d) g kn c tie p (op_of ko) xs b (mean t) tss met'
        (λ n. form_child (op_of ko) n b) met'.fine.below (same_operands g ko xs (length es) (types_at met') i) rest reads in (
          r.reads,
          (
            a,
            (t, q, refl),
            same_done names g p ko es xs b t tss met' c ks r.kinds a i q
                (row_of_same names g p ko es xs b t tss met' c ks r.kinds a i ch q r.are r.all) r.all,
          ),
        )
    node_sound _ _ _ _ _ _ _ _ _ _ (range ρ p t es xs k l ts us d) g kn c tie b tss met a q rest act reads =
        let r =
        values_sound names ρ es ts (k ∷ l ∷ []) us (each_sound None ρ es ts (k ∷ l ∷ []) us d) g kn c tie p op.Range xs b (mean t) tss met
        (λ n. false) met.fine.below refl rest reads in (
          r.reads,
          (
            a,
            (t, q, refl),
            plain_at names c b p t ker.Range r.kinds (k ∷ l ∷ []) [] a refl refl q
                (direct_row ker.Range g xs (length es) (types_at met) a r.kinds refl (t, q, met.result) r.are) r.all,
          ),
        )
    node_sound _ _ _ _ _ _ _ _ _ _ (binder ρ p t o ko es xs ks bs ns ts us vs e i fr d1 d2) g kn c tie b tss met a q rest act reads =
        let met' = subst (λ z. Met (length names) g p z es xs b (mean t) tss) (sym e) met in
        let w = over_is g ko xs (length es) (types_at met') i in
        let r =
        under_sound names None ρ es xs ts ks us bs vs ns fr (each_sound None ρ (take (length xs) es) ts ks us d1)
        (each_sound None (numbered xs ns ρ) (drop (length xs) es) us bs vs d2) g kn c tie (types_at met')
        (body_of ko xs (types_at met')) (result_of ko xs (types_at met')) tss
        (subst (λ z. HaveTypes g es z.operands tss) w met'.have)
        (subst (λ z. length z.operands ≡ length es) w (as_many (length names) g p (op_of ko) es xs b (mean t) tss met'))
        (fine_along names (λ n. form_child (op_of ko) n b) (λ n. false) (λ n. no_forms ko i n b) 0 es met'.fine.below) tt rest
        reads in (
          r.reads,
          (
            a,
            (t, q, refl),
            anywhere names c b a (tree p t ko (ks ++ bs) ns)
                (subst (λ z. Child names c false a (tree p t ko (ks ++ z) ns)) (sym r.one)
                (binder_at names c p t ko r.sets r.inside ks r.last ns a r.kind (λ ps. binder_plain names ko a ns ps c i) q
                r.long r.sets_are
                (row_of_binder names ko xs (types_at met') r.inside a r.kind i
                (λ z. eqb-true (length xs) 1 (subst (λ z. binds_enough (op_of z) (length xs) ≡ true) z met'.fine.binds))
                r.are (t, q, met'.result ∙ ap (λ z. z.result) w) r.of) r.all r.sound)),
          ),
        )
    node_sound _ _ _ _ _ _ _ _ _ _ (fold ρ p t es xs bs ks ns ts us vs fr d1 d2) g kn c tie b tss met a q rest act reads =
        let x : Term = types_at met 0 in
        let y : Term = types_at met 1 in
        let first : Operand = record { type = x; under = typed_names xs (x ∷ y ∷ []) } in
        let l = as_many (length names) g p op.Fold es xs b (mean t) tss met in
        let w = parted g es (first ∷ []) (plain_operand x ∷ plain_operand (seq_type y) ∷ []) tss met.have in
        let o =
        kinds_of_operands g es (first ∷ plain_operand x ∷ plain_operand (seq_type y) ∷ []) tss met.have l
        (of_left (joined_types tss) rest (subst AllOf reads.0 (all_of ts reads.1))) in
        let z = two_kinds x y o.0 o.1 in
        let two : length xs ≡ 2 = eqb-true (length xs) 2 met.fine.binds in
        let ties =
        tie_all xs ns (x ∷ y ∷ []) (z.0 ∷ z.1 ∷ []) ρ g.bound c fr two
        (and_of x z.0 (y ∷ []) (z.1 ∷ []) z.2 (and_of y z.1 [] [] z.3 no_more)) tie in
        let reads' : Reads ts (joined_types w.before ++ (joined_types w.behind ++ rest)) =
        subst (Reads ts)
        (ap (λ z. z ++ rest) w.are ∙ append_assoc (joined_types w.before) (joined_types w.behind) rest) reads in
        let r =
        each_sound None (numbered xs ns ρ) (take 1 es) ts bs us d1 g kn (c ++ zip ns (z.0 ∷ z.1 ∷ [])) (λ n. false) 0
        (first ∷ []) w.before (joined_types w.behind ++ rest)
        (fine_take (length names) (λ n. false) 1 0 es met.fine.below) (ties, tt) (tt, tt) (take_long 1 2 es l) w.front
        reads' in
        let s =
        each_sound None ρ (drop 1 es) us ks vs d2 g kn c (λ n. false) 0
        (plain_operand x ∷ plain_operand (seq_type y) ∷ []) w.behind rest
        (fine_drop (length names) 1 0 es met.fine.below)
        (plain_tie names ρ g.bound c (plain_operand x ∷ plain_operand (seq_type y) ∷ []) refl tie) (tt, (tt, tt))
        (drop_long 1 2 es l) w.back r.reads in
        let body = only_one names (c ++ zip ns (z.0 ∷ z.1 ∷ [])) (λ n. false) x r.kinds bs r.are r.all in
        let whole : z.0 ≡ a = same_of x z.0 a z.2 (t, q, met.result) in
        let kind : body.1 ≡ z.0 = same_of x body.1 z.0 body.3 z.2 in (
          s.reads,
          (
            z.0,
            subst (λ v. Of v z.0) (sym met.result) z.2,
            anywhere names c b z.0 (tree p t ker.FoldLeft (bs ++ ks) ns)
                (subst (λ v. Is names c z.0 (tree p t ker.FoldLeft (v ++ ks) ns)) (sym body.2)
                (fold_done names c p t body.0 ks ns z.0 z.1 x y s.kinds (q ∙ ap Some (sym whole)) (fresh_long xs ns ρ fr ∙ two) z.2
                z.3 s.are s.all
                (subst (λ v. Child names (c ++ zip ns (z.0 ∷ z.1 ∷ [])) false v body.0) kind body.4))),
          ),
        )
    node_sound _ _ _ _ _ _ _ _ _ _ (noted i ρ p t x es xs k ts us d) g kn c tie b tss met a q rest act reads =
        let w = noted_says (g.noted x) (types_at met) in
        let e : mean t ≡ w.0 = met.result ∙ ap (λ (z : Signature). z.result) w.1 in
        let r =
        each_sound i ρ es ts (k ∷ []) us d g kn c (λ n. form_child (op.Noted x) n b) 0 (plain_operand w.0 ∷ []) tss rest
        met.fine.below (plain_tie names ρ g.bound c (plain_operand w.0 ∷ []) refl tie) (subst (InAction names i) e act, tt)
        (subst (λ (z : Signature). length z.operands ≡ length es) w.1
        (as_many (length names) g p (op.Noted x) es xs b (mean t) tss met))
        (subst (λ (z : Signature). HaveTypes g es z.operands tss) w.1 met.have) reads in
        (r.reads, subst (λ z. Out names c b z k) (sym e) (only_out names c (λ n. b) w.0 r.kinds k r.are r.all))
    node_sound _ _ _ _ _ _ _ _ _ _ (assign ρ p t es xs ks ts us d) g kn c tie b tss met a q rest act reads =
        let r =
        values_sound names ρ es ts ks us (each_sound None ρ es ts ks us d) g kn c tie p op.Assign xs b (mean t) tss met
        (λ n. false) met.fine.below refl rest reads in (
          r.reads,
          truth_out names c b (mean t) _ met.result
              (equal_done names (types_at met 0) c p ks r.kinds r.are r.all),
        )
    node_sound _ _ _ _ _ _ _ _ _ _ (implies ρ p t es xs k l ts us d) g kn c tie b tss met a q rest act reads =
        let r =
        values_sound names ρ es ts (k ∷ l ∷ []) us (each_sound None ρ es ts (k ∷ l ∷ []) us d) g kn c tie p op.Implies xs b (mean t) tss met
        (λ n. false) met.fine.below refl rest reads in
        let z = only_two names c 0 bool_type bool_type r.kinds k l r.are r.all in (
          r.reads,
          truth_out names c b (mean t) _ met.result
              (implication_is names c p bool_ty k l kind-Bool (as_truth names c z.0 k z.2 z.4) (as_truth names c z.1 l z.3 z.5)),
        )
    node_sound _ _ _ _ _ _ _ _ _ _ (unequal ρ p t es xs ks ts us d) g kn c tie b tss met a q rest act reads =
        let r =
        values_sound names ρ es ts ks us (each_sound None ρ es ts ks us d) g kn c tie p op.Ne xs b (mean t) tss met
        (λ n. false) met.fine.below refl rest reads in (
          r.reads,
          truth_out names c b (mean t) _ met.result
              (negation_is names c p bool_ty _ kind-Bool (equal_done names (types_at met 0) c p ks r.kinds r.are r.all)),
        )
    node_sound _ _ _ _ _ _ _ _ _ _ (no_member ρ p t es xs ks ts us d) g kn c tie b tss met a q rest act reads =
        let r =
        values_sound names ρ es ts ks us (each_sound None ρ es ts ks us d) g kn c tie p op.NotIn xs b (mean t) tss met
        (λ n. form_child op.NotIn n b) met.fine.below refl rest reads in (
          r.reads,
          truth_out names c b (mean t) _ met.result
              (negation_is names c p bool_ty _ kind-Bool
              (plain_at names c false p bool_ty ker.Member r.kinds ks [] Truth refl refl kind-Bool
              (direct_row ker.Member g xs (length es) (types_at met) Truth r.kinds refl has_bool r.are)
              (along names (λ n. form_child op.NotIn n b) (λ n. sound_child ker.Member n false) (λ n. member_forms n b) 0 c
              r.kinds ks r.all))),
        )
    node_sound _ _ _ _ _ _ _ _ _ _ (greater ρ p t es xs k l ts us d) g kn c tie b tss met a q rest act reads =
        let r =
        values_sound names ρ es ts (k ∷ l ∷ []) us (each_sound None ρ es ts (k ∷ l ∷ []) us d) g kn c tie p op.Gt xs b (mean t) tss met
        (λ n. false) met.fine.below refl rest reads in
        let z = only_two names c 0 int_type int_type r.kinds k l r.are r.all in (
          r.reads,
          truth_out names c b (mean t) _ met.result
              (less_done names c p l k (as_number names c z.1 l z.3 z.5) (as_number names c z.0 k z.2 z.4)),
        )
    node_sound _ _ _ _ _ _ _ _ _ _ (at_most ρ p t es xs k l ts us d) g kn c tie b tss met a q rest act reads =
        let r =
        values_sound names ρ es ts (k ∷ l ∷ []) us (each_sound None ρ es ts (k ∷ l ∷ []) us d) g kn c tie p op.Le xs b (mean t) tss met
        (λ n. false) met.fine.below refl rest reads in
        let z = only_two names c 0 int_type int_type r.kinds k l r.are r.all in (
          r.reads,
          truth_out names c b (mean t) _ met.result
              (negation_is names c p bool_ty _ kind-Bool (less_done names c p l k (as_number names c z.1 l z.3 z.5) (as_number names c z.0 k z.2 z.4))),
        )
    node_sound _ _ _ _ _ _ _ _ _ _ (at_least ρ p t es xs ks ts us d) g kn c tie b tss met a q rest act reads =
        let r =
        values_sound names ρ es ts ks us (each_sound None ρ es ts ks us d) g kn c tie p op.Ge xs b (mean t) tss met
        (λ n. false) met.fine.below refl rest reads in (
          r.reads,
          truth_out names c b (mean t) _ met.result
              (negation_is names c p bool_ty _ kind-Bool
              (plain_at names c false p bool_ty ker.Less r.kinds ks [] Truth refl refl kind-Bool
              (direct_row ker.Less g xs (length es) (types_at met) Truth r.kinds refl has_bool r.are) r.all)),
        )
    node_sound _ _ _ _ _ _ _ _ _ _ (negative ρ p t es xs k ts us d) g kn c tie b tss met a q rest act reads =
        let r =
        values_sound names ρ es ts (k ∷ []) us (each_sound None ρ es ts (k ∷ []) us d) g kn c tie p op.Neg xs b (mean t) tss met
        (λ n. false) met.fine.below refl rest reads in
        let z = only_out names c (λ n. false) int_type r.kinds k r.are r.all in
        (r.reads, number_out names c b (mean t) _ met.result (minus_done names c p k (as_number names c z.0 k z.1 z.2)))
    node_sound _ _ _ _ _ _ _ _ _ _ (finite ρ p t es xs k n ts us fr d) g kn c tie b tss met a q rest act reads =
        let r =
        values_sound names ρ es ts (k ∷ []) us (each_sound None ρ es ts (k ∷ []) us d) g kn c tie p op.IsFinite xs b (mean t) tss met
        (λ n. false) met.fine.below refl rest reads in
        let z = only_out names c (λ n. false) (set_type (types_at met 0)) r.kinds k r.are r.all in
        let w = of_set (types_at met 0) z.0 z.1 in (
          r.reads,
          truth_out names c b (mean t) _ met.result
              (finite_is names c p bool_ty k n w.0 kind-Bool (subst (λ v. Child names c false v k) w.1 z.2)),
        )
    node_sound _ _ _ _ _ _ _ _ _ _ (truth_values ρ p t xs ts) g kn c tie b tss met a q rest act reads =
        let e : a ≡ Set Truth =
        same_of (set_type bool_type) a (Set Truth) (t, q, met.result) (has_set bool_type Truth has_bool) in
        let q' : kind_of t ≡ Some (Set Truth) = q ∙ ap Some e in (
          none_reads names g _ tss ts rest met.have reads,
          (
            Set Truth,
            (t, q', refl),
            anywhere names c b (Set Truth) _ (truths_done names c p t q'),
          ),
        )
    node_sound _ _ _ _ _ _ _ _ _ _ (equivalent ρ p t es xs u n k m ts us ap' fr d) g kn c tie b tss met a q rest act reads =
        let r =
        values_sound names ρ es ts (k ∷ m ∷ []) us (each_sound None ρ es ts (k ∷ m ∷ []) us d) g kn c tie p op.Iff xs b (mean t) tss met
        (λ n. false) met.fine.below refl rest reads in
        let z = only_two names c 0 bool_type bool_type r.kinds k m r.are r.all in (
          r.reads,
          truth_out names c b (mean t) _ met.result
              (equivalence_done names c p u n k m ap' (as_truth names c z.0 k z.2 z.4) (as_truth names c z.1 m z.3 z.5)),
        )
    node_sound _ _ _ _ _ _ _ _ _ _ (one_pair ρ p t es xs u n z0 k m ts us ap' fr zz d) g kn c tie b tss met a q rest act reads =
        let r =
        values_sound names ρ es ts (k ∷ m ∷ []) us (each_sound None ρ es ts (k ∷ m ∷ []) us d) g kn c tie p op.Single xs b (mean t) tss met
        (λ n. false) met.fine.below refl rest reads in
        let z = only_two names c 0 (types_at met 0) (types_at met 1) r.kinds k m r.are r.all in
        let e : a ≡ Fun z.0 z.1 =
        same_of (fun_type (types_at met 0) (types_at met 1)) a (Fun z.0 z.1) (t, q, met.result)
        (has_fun (types_at met 0) (types_at met 1) z.0 z.1 z.2 z.3) in
        let q' : kind_of t ≡ Some (Fun z.0 z.1) = q ∙ ap Some e in (
          r.reads,
          (
            Fun z.0 z.1,
            (t, q', refl),
            anywhere names c b (Fun z.0 z.1) _ (single_done names c p t u n z0 k m z.0 z.1 q' ap' zz.1 z.4 z.5),
          ),
        )
    node_sound _ _ _ _ _ _ _ _ _ _ (power ρ p t es xs u n k m j ts us ap' fr m1 m2 d) g kn c tie b tss met a q rest act reads =
        let r =
        values_sound names ρ es ts (k ∷ m ∷ []) us (each_sound None ρ es ts (k ∷ m ∷ []) us d) g kn c tie p op.Pow xs b (mean t) tss met
        (λ n. false) met.fine.below refl rest reads in
        let z = only_two names c 0 int_type int_type r.kinds k m r.are r.all in
        let q' : kind_of t ≡ Some Number = q ∙ ap Some (is_number a (t, q, met.result)) in (
          r.reads,
          number_out names c b (mean t) _ met.result
              (power_done names c p t u n j k q' ap' (as_number names c z.0 k z.2 z.4)),
        )
    node_sound _ _ _ _ _ _ _ _ _ _ (high_power ρ p t es xs u n k m j ts us ap' fr m1 m2 d) g kn c tie b tss met a q rest act reads =
        let r =
        values_sound names ρ es ts (k ∷ m ∷ []) us (each_sound None ρ es ts (k ∷ m ∷ []) us d) g kn c tie p op.Pow xs b (mean t) tss met
        (λ n. false) met.fine.below refl rest reads in
        let z = only_two names c 0 int_type int_type r.kinds k m r.are r.all in
        let q' : kind_of t ≡ Some Number = q ∙ ap Some (is_number a (t, q, met.result)) in (
          r.reads,
          number_out names c b (mean t) _ met.result
              (high_power_done names c p t u n j k m q' ap' (as_number names c z.0 k z.2 z.4)
              (as_number names c z.1 m z.3 z.5)),
        )
    node_sound _ _ _ _ _ _ _ _ _ _ (field ρ p t es xs k m x ts us fo em d) g kn c tie b tss met a q rest act reads =
        let r =
        values_sound names ρ es ts (k ∷ m ∷ []) us (each_sound None ρ es ts (k ∷ m ∷ []) us d) g kn c tie p op.Apply xs b (mean t) tss met
        (λ n. false) met.fine.below refl rest reads in
        let z = only_two names c 0 (types_at met 0) (types_at met 1) r.kinds k m r.are r.all in
        let first : Of (met.sub.type_of met.from) z.0 = subst (λ v. Of (met.sub.type_of v) z.0) (plus_none met.from) z.2 in
        let l : second_literal (map sight_of es) ≡ lit.Word x =
        subst (λ v. Tells v (second_literal (map sight_of es))) (ap kernel_literal em ∙ value.outs-Text x) (second_told d) in
        let w =
        field_row met.sub met.from p x met.choice.0.0 a z.0 z.1
        (subst (λ i. MeetAll met.sub (choice_of (wait.Apply p met.from (met.from + 1) (met.from + 2) i) met.choice.0.0)) l
        met.choice.0.1) first (t, q, met.result)
        (sym (form_of (type_of k) z.0 z.4.0) ∙ form_record (out-Ty (type_of k)) fo) in (
          r.reads,
          (
            a,
            (t, q, refl),
            plain_at names c b p t (ker.FieldOf x) (Rec w.0 ∷ []) (k ∷ []) [] a refl refl q
                (ap (is_kind a) w.2 ∙ same_self a) (subst (λ v. Child names c false v k) w.1 z.4, tt),
          ),
        )
    node_sound _ _ _ _ _ _ _ _ _ _ (low_item ρ p t es xs k m j ts us fo em le d) g kn c tie b tss met a q rest act reads =
        let r =
        values_sound names ρ es ts (k ∷ m ∷ []) us (each_sound None ρ es ts (k ∷ m ∷ []) us d) g kn c tie p op.Apply xs b (mean t) tss met
        (λ n. false) met.fine.below refl rest reads in
        let z = only_two names c 0 (types_at met 0) (types_at met 1) r.kinds k m r.are r.all in
        let first : Of (met.sub.type_of met.from) z.0 = subst (λ v. Of (met.sub.type_of v) z.0) (plus_none met.from) z.2 in
        let l : second_literal (map sight_of es) ≡ lit.Number (pos j) =
        subst (λ v. Tells v (second_literal (map sight_of es))) (ap kernel_literal em ∙ value.outs-Int (pos j))
        (second_told d) in
        let w =
        item_row met.sub met.from p j met.choice.0.0 a z.0 z.1
        (subst (λ i. MeetAll met.sub (choice_of (wait.Apply p met.from (met.from + 1) (met.from + 2) i) met.choice.0.0)) l
        met.choice.0.1) first (t, q, met.result)
        (sym (form_of (type_of k) z.0 z.4.0) ∙ form_tuple (out-Ty (type_of k)) fo) in (
          r.reads,
          (
            a,
            (t, q, refl),
            anywhere names c b a _
                (item_is names c p t j k w.0 a q w.2 (subst (λ v. Child names c false v k) w.1 z.4)),
          ),
        )
    node_sound _ _ _ _ _ _ _ _ _ _ (high_item ρ p t es xs u n k m j ts us apart fr fo em gt d) g kn c tie b tss met a q rest act reads =
        let r =
        values_sound names ρ es ts (k ∷ m ∷ []) us (each_sound None ρ es ts (k ∷ m ∷ []) us d) g kn c tie p op.Apply xs b (mean t) tss met
        (λ n. false) met.fine.below refl rest reads in
        let z = only_two names c 0 (types_at met 0) (types_at met 1) r.kinds k m r.are r.all in
        let first : Of (met.sub.type_of met.from) z.0 = subst (λ v. Of (met.sub.type_of v) z.0) (plus_none met.from) z.2 in
        let l : second_literal (map sight_of es) ≡ lit.Number (pos j) =
        subst (λ v. Tells v (second_literal (map sight_of es))) (ap kernel_literal em ∙ value.outs-Int (pos j))
        (second_told d) in
        let w =
        item_row met.sub met.from p j met.choice.0.0 a z.0 z.1
        (subst (λ i. MeetAll met.sub (choice_of (wait.Apply p met.from (met.from + 1) (met.from + 2) i) met.choice.0.0)) l
        met.choice.0.1) first (t, q, met.result)
        (sym (form_of (type_of k) z.0 z.4.0) ∙ form_tuple (out-Ty (type_of k)) fo) in
        let both : Ty = pair_type (type_of k) (type_of m) in
        let pk = pair_kind (type_of k) (type_of m) z.0 z.1 z.4.0 z.5.0 in (
          r.reads,
          (
            a,
            (t, q, refl),
            anywhere names c b a _
                (item_by_let_is names c p (let_of t both u n) both k m a z.0 z.1 pk
                (let_types names t both u n a (Tup (kinds (z.0 ∷ z.1 ∷ []))) q pk apart) z.4 z.5 j w.0 w.1 w.2),
          ),
        )
    node_sound _ _ _ _ _ _ _ _ _ _ (except ρ p t cs e es x u n f d ds ts us vs pl le d1 d2) g kn c tie b tss met a q rest act reads =
        let r =
        updates_sound names ρ p t cs e es x f (d ∷ ds) ts us vs (tree_sound None ρ e ts f us d1)
        (changes_sound ρ x u n cs es us (d ∷ ds) vs d2) g kn c tie b tss met a q rest le reads in (
          r.0,
          (
            a,
            (t, q, refl),
            anywhere names c b a _ (except_is names c p t f (d ∷ ds) a r.2 q r.1 r.3),
          ),
        )
    node_sound _ _ _ _ _ _ _ _ _ _ (except_let ρ p t cs e es x u n f [] ts us vs pl le re d1 d2) g kn c tie b tss met a q rest act reads =
        absurd (false≢true (sym pl))
    node_sound _ _ _ _ _ _ _ _ _ _ (except_let ρ p t cs e es x u n f (d ∷ ds) ts us vs pl le re d1 d2) g kn c tie b tss met a q rest act reads =
        let r =
        updates_sound names ρ p t cs e es x f (d ∷ ds) ts us vs (tree_sound None ρ e ts f us d1)
        (changes_sound ρ x u n cs es us (d ∷ ds) vs d2) g kn c tie b tss met a q rest le reads in
        let ls : List Level = all_levels (d ∷ ds) in
        let y : Ty = pairs_type f ls in
        let w = two_new d2 in
        let k =
        pairs_kind names f ls a (all_kinds r.2) r.1.0 (changes_kinds names c a (d ∷ ds) r.2 r.3) in
        let l : Let = let_of t y u n in (
          r.0,
          (
            a,
            (t, q, refl),
            anywhere names c b a _
                (except_by_let_is names c p l y f (d ∷ ds) a r.2
                (let_types names t y u n a (nested_kind (a ∷ all_kinds r.2)) q k (ap not w.apart)) k
                (tie.new u w.unread) (tie.new n w.named) refl r.1 r.3 (all_rests names l y c a (d ∷ ds) r.2 r.3 re)
                (all_apart names l y c refl d2)),
          ),
        )
    node_sound _ _ _ _ _ _ _ _ _ _ (cases ρ p t other es xs ks ts us ha d) g kn c tie b tss met a q rest act reads =
        let r =
        values_sound names ρ es ts ks us (each_sound None ρ es ts ks us d) g kn c tie p (op.Case other) xs b (mean t) tss met
        (λ n. false) met.fine.below (plain_map (branches (types_at met 0) (length es))) rest reads in (
          r.reads,
          (
            a,
            (t, q, refl),
            anywhere names c b a _ (nested_ifs_are names c p t a ks q
                (arms_done names (types_at met 0) a 0 (length es) c ks r.kinds (t, q, met.result) r.are r.all)),
          ),
        )
    node_sound _ _ _ _ _ _ _ _ _ _ (as_value m ρ p t o es xs k ts us e d) g kn c tie b tss met a q rest act reads =
        node_sound None ρ p t o es xs ts k us d g kn c tie b tss met a q rest tt reads
    node_sound _ _ _ _ _ _ _ _ _ _ (conjunction m ρ p t es xs ks ts us d) g kn c tie b tss met a q rest act reads =
        let r =
        kids_sound names (Some m) ρ es ts ks us (each_sound (Some m) ρ es ts ks us d) g kn c tie p op.And xs b (mean t) tss met
        (λ n. false) met.fine.below (plain_map (replicate (length es) bool_type)) (all_true names m (length es)) rest reads in (
          r.reads,
          truth_out names c b (mean t) _ met.result
              (plain_at names c false p bool_ty ker.And r.kinds ks [] Truth refl refl kind-Bool
              (direct_row ker.And g xs (length es) (types_at met) Truth r.kinds refl has_bool r.are) r.all),
        )
    node_sound _ _ _ _ _ _ _ _ _ _ (disjunction m ρ p t es xs ks ts us d) g kn c tie b tss met a q rest act reads =
        let r =
        kids_sound names (Some m) ρ es ts ks us (each_sound (Some m) ρ es ts ks us d) g kn c tie p op.Or xs b (mean t) tss met
        (λ n. false) met.fine.below (plain_map (replicate (length es) bool_type)) (all_true names m (length es)) rest reads in (
          r.reads,
          truth_out names c b (mean t) _ met.result
              (plain_at names c false p bool_ty ker.Or r.kinds ks [] Truth refl refl kind-Bool
              (direct_row ker.Or g xs (length es) (types_at met) Truth r.kinds refl has_bool r.are) r.all),
        )
    node_sound _ _ _ _ _ _ _ _ _ _ (choice m ρ p t es xs ks bs ns ts us vs fr l d1 d2) g kn c tie b tss met a q rest act reads =
        let r =
        under_sound names (Some m) ρ es xs ts ks us bs vs ns fr (each_sound None ρ (take (length xs) es) ts ks us d1)
        (each_sound (Some m) (numbered xs ns ρ) (drop (length xs) es) us bs vs d2) g kn c tie (types_at met) bool_type
        bool_type tss met.have (as_many (length names) g p op.Exists es xs b (mean t) tss met) met.fine.below refl rest
        reads in (
          r.reads,
          truth_out names c b (mean t) _ met.result
              (subst (λ z. Child names c false Truth (tree p bool_ty ker.Some (ks ++ z) ns)) (sym r.one)
              (binder_at names c p bool_ty ker.Some r.sets r.inside ks r.last ns Truth r.kind (λ ps. refl) kind-Bool r.long
              r.sets_are (ap (binder_row ker.Some Truth r.inside) (is_truth r.kind r.of)) r.all r.sound)),
        )
    node_sound _ _ _ _ _ _ _ _ _ _ (branches_row m ρ p t e es xs h k l ts us vs me d1 d2) g kn c tie b tss met a q rest act reads =
        let x : Term = types_at met 0 in
        let w = front_of g e es (plain_operand bool_type) (plain_operand x ∷ plain_operand x ∷ []) tss met.have in
        let reads' : Reads ts ((bool_type ∷ w.types) ++ (joined_types w.others ++ rest)) =
        subst (Reads ts)
        (ap (λ z. joined_types z ++ rest) w.are ∙ append_assoc (bool_type ∷ w.types) (joined_types w.others) rest) reads in
        let r =
        tree_sound None ρ e ts h us d1 (with_bound [] g) kn c (tie_nil ρ g.bound c tie) false met.fine.below.0 bool_type
        w.types (joined_types w.others ++ rest) w.first tt reads' in
        let y : x ≡ bool_type = sym met.result ∙ act in
        let s =
        each_sound (Some m) ρ es us (k ∷ l ∷ []) vs d2 g kn c (λ n. false) 1 (plain_operand x ∷ plain_operand x ∷ [])
        w.others rest met.fine.below.1 (plain_tie names ρ g.bound c (plain_operand x ∷ plain_operand x ∷ []) refl tie)
        (y, (y, tt)) (less 2 (length es) (as_many (length names) g p op.If (e ∷ es) xs b (mean t) tss met)) w.rest r.0 in
        let z = only_two names c 1 x x s.kinds k l s.are s.all in (
          s.reads,
          truth_out names c b (mean t) _ act
              (if_is names c p bool_ty _ k l Truth kind-Bool
              (guard_is names c p bool_ty h kind-Bool (as_truth names c r.1.0 h r.1.1 r.1.2))
              (as_truth names c z.0 k (bool_of x z.0 y z.2) z.4) (as_truth names c z.1 l (bool_of x z.1 y z.3) z.5)),
        )
    node_sound _ _ _ _ _ _ _ _ _ _ (split_cases m ρ p t other es xs ys o ts us me d) g kn c tie b tss met a q rest act reads =
        let y : types_at met 0 ≡ bool_type = sym met.result ∙ act in
        let r =
        arms_sound m ρ es ts ys o us d g kn c tie (types_at met 0) y 0 met.fine.below tss rest met.have reads in
        (r.0, truth_out names c b (mean t) _ act (split_case_is names c p bool_ty ys o kind-Bool r.1))

    arms_sound : (m : Assignable) (ρ : Numbering) (es : List Expr) (ts : List Ty) (xs : List (Ker × Ker))
        (o : Option Ker) (us : List Ty) → ArmsTyped m ρ es ts xs o us →
        (g : TypeContext) → Knows names g → (c : Context) → Ties ρ g.bound c → (x : Term) → x ≡ bool_type → (n : ℕ) →
        AllFine (length names) (λ n. false) n es → (tss : List (List Term)) (rest : List Term) →
        HaveTypes g es (map plain_operand (branches x (length es))) tss → Reads ts (joined_types tss ++ rest) →
        Reads us rest × SplitArms names c xs o
    arms_sound _ _ _ _ _ _ _ (no_arms m ρ ts) g kn c tie x y n fine tss rest have reads =
        (none_reads names g [] tss ts rest have reads, tt)
    arms_sound _ _ _ _ _ _ _ (other_arm m ρ e k ts us d) g kn c tie x y n fine tss rest have reads =
        let w = front_of g e [] (plain_operand x) [] tss have in
        let reads' : Reads ts ((x ∷ w.types) ++ (joined_types w.others ++ rest)) =
        subst (Reads ts)
        (ap (λ z. joined_types z ++ rest) w.are ∙ append_assoc (x ∷ w.types) (joined_types w.others) rest) reads in
        let r =
        tree_sound (Some m) ρ e ts k us d (with_bound [] g) kn c (tie_nil ρ g.bound c tie) false fine.0 x w.types
        (joined_types w.others ++ rest) w.first y reads' in
        (none_reads names g [] w.others us rest w.rest r.0, as_truth names c r.1.0 k (bool_of x r.1.0 y r.1.1) r.1.2)
    arms_sound _ _ _ _ _ _ _ (one_arm m ρ h e l k es xs o ts us vs ws d1 d2 d3) g kn c tie x y n fine tss rest have reads =
        let os : List Operand = map plain_operand (branches x (length es)) in
        let w = front_of g h (e ∷ es) (plain_operand bool_type) (plain_operand x ∷ os) tss have in
        let v = front_of g e es (plain_operand x) os w.others w.rest in
        let reads' : Reads ts ((bool_type ∷ w.types) ++ (joined_types w.others ++ rest)) =
        subst (Reads ts)
        (ap (λ z. joined_types z ++ rest) w.are ∙ append_assoc (bool_type ∷ w.types) (joined_types w.others) rest) reads in
        let r =
        tree_sound None ρ h ts l us d1 (with_bound [] g) kn c (tie_nil ρ g.bound c tie) false fine.0 bool_type w.types
        (joined_types w.others ++ rest) w.first tt reads' in
        let reads'' : Reads us ((x ∷ v.types) ++ (joined_types v.others ++ rest)) =
        subst (Reads us)
        (ap (λ z. joined_types z ++ rest) v.are ∙ append_assoc (x ∷ v.types) (joined_types v.others) rest) r.0 in
        let s =
        tree_sound (Some m) ρ e us k vs d2 (with_bound [] g) kn c (tie_nil ρ g.bound c tie) false fine.1.0 x v.types
        (joined_types v.others ++ rest) v.first y reads'' in
        let u = arms_sound m ρ es vs xs o ws d3 g kn c tie x y (suc (suc n)) fine.1.1 v.others rest v.rest s.0 in
        (u.0, (as_truth names c r.1.0 l r.1.1 r.1.2, as_truth names c s.1.0 k (bool_of x s.1.0 y s.1.1) s.1.2, u.1))

    changes_sound : (ρ : Numbering) (x : List ℕ) (u n : ℕ) (cs : List ℕ) (es : List Expr) (ts : List Ty)
        (ds : List Change) (us : List Ty) → ChangesTyped ρ x (u ∷ n ∷ []) cs es ts ds us →
        ChangesSay names ρ x cs es ts ds us
    changes_sound _ _ _ _ _ _ _ _ _ (no_changes ρ x _ ts) g kn c tie s v i t a q h le tss rest have ch fine reads =
        (none_reads names g _ tss ts rest have reads, [], tt)
    changes_sound _ _ b n _ _ _ _ _ (one_change ρ x _ z cs es d ds ts us vs d1 d2) g kn c tie s v i t a q h le tss rest have ch fine reads =
        let A : ℕ → Term = λ k. s.type_of (v + k) in
        let m : ℕ = suc z in
        let y : Term = reached_after A i m in
        let o : Operand = right_operand x y in
        let os : List Operand = map plain_operand (index_types A i m) in
        let ps : List Operand = update_operands (x ∷ []) A (i + m) cs in
        let w =
        parted g es (os ++ o ∷ []) ps tss
        (subst (λ z. HaveTypes g es z tss) (sym (append_assoc os (o ∷ []) ps)) have) in
        let L : length (os ++ o ∷ []) ≡ suc m = indexes_long A i m o in
        let reads' : Reads ts (joined_types w.before ++ (joined_types w.behind ++ rest)) =
        subst (Reads ts)
        (ap (λ z. z ++ rest) w.are ∙ append_assoc (joined_types w.before) (joined_types w.behind) rest) reads in
        let ks : List Sight = map sight_of es in
        let here : List Wait = waiting_indexes v v i m ks in
        let later : List Wait = waiting_updates v (i + m) cs (drop (suc m) ks) in
        let r =
        path_sound ρ x (b ∷ n ∷ []) m (take (suc m) es) ts d.levels d.right us d1 g kn c tie s v i v t a q h le.0 y refl
        (b ∷ []) n refl w.before (joined_types w.behind ++ rest)
        (subst (λ z. HaveTypes g (take z es) (os ++ o ∷ []) w.before) L w.front)
        (subst (Each (HasChoice s))
        (sym (ap (waiting_indexes v v i m) (take_map sight_of (suc m) es) ∙ indexes_taken v v i m ks))
        (each_left (HasChoice s) here later ch)) 0 (fine_take (length names) (λ n. false) (suc m) 0 es fine) reads' in
        let u =
        changes_sound ρ x b n cs (drop (suc m) es) us ds vs d2 g kn c tie s v (i + m) t a q h le.1 w.behind rest
        (subst (λ z. HaveTypes g (drop z es) ps w.behind) L w.back)
        (subst (λ z. Each (HasChoice s) (waiting_updates v (i + m) cs z)) (sym (drop_map sight_of (suc m) es))
        (each_right (HasChoice s) here later ch)) (fine_drop (length names) (suc m) 0 es fine) r.0 in
        (u.0, r.1 ∷ u.1, (path_is names c n a r.1 d1 r.2, u.2))

    -- behind a level of number n, which leads to a value of kind a, whose type has the number w
    path_sound : (ρ : Numbering) (x ms : List ℕ) (j : ℕ) (es : List Expr) (ts : List Ty) (ls : List Level) (k : Ker)
        (us : List Ty) → PathTyped ρ x ms j es ts ls k us → (g : TypeContext) → Knows names g → (c : Context) →
        Ties ρ g.bound c → (s : Sub) (v i w : ℕ) (t : Ty) (a : Kind) → kind_of t ≡ Some a → Of (s.type_of w) a →
        Leads t ls → (y : Term) → Ends s v w i j y → (ns : List ℕ) (n : ℕ) → ms ≡ ns ++ n ∷ [] →
        (tss : List (List Term)) (rest : List Term) →
        HaveTypes g es (map plain_operand (index_types (λ k. s.type_of (v + k)) i j) ++ right_operand x y ∷ []) tss →
        Each (HasChoice s) (waiting_indexes v w i j (map sight_of es)) → (z : ℕ) →
        AllFine (length names) (λ n. false) z es → Reads ts (joined_types tss ++ rest) →
        Reads us rest × (js : List Kind) × PathRest names c n a ls js k
    path_sound _ _ _ _ _ _ _ _ _ (right_side ρ x ms e k ts us f d) g kn c tie s v i w t a q h le y en ns n eq tss rest have ch z fine reads =
        let o : Operand = right_operand x y in
        let r = front_of g e [] o [] tss have in
        let reads' : Reads ts ((y ∷ r.types) ++ (joined_types r.others ++ rest)) =
        subst (Reads ts)
        (ap (λ z. joined_types z ++ rest) r.are ∙ append_assoc (y ∷ r.types) (joined_types r.others) rest) reads in
        let of : Of y a = subst (λ z. Of z a) (sym en) h in
        let ties : Ties (under x ms ρ) (g.bound ++ (x, y) ∷ []) (c ++ (n, a) ∷ []) =
        subst (λ z. Ties (under x z ρ) (g.bound ++ (x, y) ∷ []) (c ++ (n, a) ∷ [])) (sym eq)
        (tie_path x ns n ρ g.bound c y a (subst (λ z. AreNew x z ρ) eq f) of tie) in
        let u =
        tree_sound None (under x ms ρ) e ts k us d (with_bound o.under g) kn (c ++ (n, a) ∷ []) ties false fine.0 y r.types
        (joined_types r.others ++ rest) r.first tt reads' in (
          none_reads names g [] r.others us rest r.rest u.0,
          [],
          subst (λ z. Is names (c ++ (n, a) ∷ []) z k) (same_of y u.1.0 a u.1.1 of) u.1.2,
        )
    path_sound _ _ _ _ _ _ _ _ _ (one_level ρ x ms m e es l ls k ts us vs d1 d2) g kn c tie s v i w t a q h le y en ns n eq tss rest have ch z fine reads =
        let A : ℕ → Term = λ k. s.type_of (v + k) in
        let x0 : Term = A (index_number i) in
        let o : Operand = right_operand x y in
        let os : List Operand = map plain_operand (index_types A (i + 1) m) ++ o ∷ [] in
        let r = front_of g e es (plain_operand x0) os tss have in
        let reads' : Reads ts ((x0 ∷ r.types) ++ (joined_types r.others ++ rest)) =
        subst (Reads ts)
        (ap (λ z. joined_types z ++ rest) r.are ∙ append_assoc (x0 ∷ r.types) (joined_types r.others) rest) reads in
        let u =
        tree_sound None ρ e ts l.index us d1 (with_bound [] g) kn c (tie_nil ρ g.bound c tie) false fine.0 x0 r.types
        (joined_types r.others ++ rest) r.first tt reads' in
        let j : Kind = u.1.0 in
        let b =
        chosen s w (v + index_number i) (v + reached_number i) (sight_of e).place (sight_of e).literal ch.0.0 a j ch.0.1 h
        u.1.1 in
        let f =
        led t (op_at l.index) a j b.0 (sight_of e).literal l.inner q le.0 (literal_tree d1)
        (literal_kind names c j l.index u.1.2) b.2 in
        let p =
        path_sound ρ x (ms ++ l.number ∷ []) m es us ls k vs d2 g kn c tie s v (i + 1) (v + reached_number i) l.inner b.0 f.1
        b.1 le.1 y (next_ends s v w i m y en) ms l.number refl r.others rest r.rest ch.1 (suc z) fine.1 u.0 in (
          p.0,
          j ∷ p.1,
          (
            b.0,
            u.1.2,
            f.0,
            tie.new l.number
                (last_fresh x ms l.number ρ (new_front x (ms ++ l.number ∷ []) (numbers_of ls) ρ (path_new d2))),
            f.1,
            p.2,
          ),
        )
