-- What a job asks for, and all that is reached from there, has a property that the forms of the table keep.
use Rattle.std.proofs.Common.{◌≡◌, ℕ, suc, ◌+◌, ◌<◌, ◌≤◌, Bool, false, IsTrue, inl, inr, List, [], ◌∷◌, ◌++◌, map, length, refl, ap, sym, ◌∙◌, arith, Option, Some, None}
use Rattle.std.specs.List.{list_all}
use Rattle.tla_meaning.specs.declared.expr.Expr.{Expr}
use Rattle.tla_meaning.specs.declared.expr.Decl.{Decl}
use Rattle.tla_meaning.specs.declared.job.Job.{Job}
use Rattle.tla_meaning.proofs.Views.{and_left, and_right}
use Rattle.snowcat_rows.specs.Types.{Term, var}
use Rattle.snowcat_rows.specs.Sorting.{Within}
use Rattle.snowcat_types.specs.declared.waiting.Wait.{Wait}
use Rattle.snowcat_rows.specs.Operators.{HasNoOperator}
use Rattle.snowcat_types.specs.Rows.{Context}
use Rattle.snowcat_types.specs.Requirements.{Requirement}
use Rattle.snowcat_types.specs.Waiting.{choice, default_kind}
use Rattle.snowcat_types.specs.Systems.{Annotations, Found, root_asks, visit, visits, behind, all_entries, count_declared, outermost, first_unknown, parts_of, system}
use Rattle.snowcat_types.specs.Typings.{Reached, at_start, decided, by_default}
use Rattle.snowcat_types.specs.Annotated.{Aliases, AreNameTypes, AreAnnotations, Says, Binds, all_notes}
use Rattle.snowcat_types.specs.Answers.{is_typable_tree, is_typable}
use Rattle.snowcat_types.proofs.Holding.{AllTypes, KeepsForms}
use Rattle.snowcat_types.proofs.Held.{AllRequired, required_append, AllEntries, entries_append, EachHas, WaitHas, choice_has, ContextHas, FoundHas, tree_held}
use Rattle.snowcat_types.proofs.OneReading.{stands_or_not}
use Rattle.snowcat_types.proofs.PlainTypes.{part_closed}
use Rattle.snowcat_types.proofs.Waits.{tree_keyed, trees_keyed}

abbrev pub AllParts : (Term → Type 0) → List (List Term) → Type 0
AllParts P [] = Unit {0}
AllParts P (ts ∷ tss) = AllTypes P ts × AllParts P tss

pub visits_held : (P : Term → Type 0) → KeepsForms P → (n : ℕ) (es : List Expr) → IsTrue (list_all (λ e. is_typable_tree n e (λ x. false)) es) →
    (v : ℕ) (c : Context) → ContextHas P n c → ((j : ℕ) → v ≤ j → j < behind v (visits c es v) → P (var j)) →
    AllParts P (map (λ k. k.types) (visits c es v)) × AllEntries P (all_entries (visits c es v))
visits_held P k n [] t v c hc h = (tt, tt)
visits_held P k n (e ∷ es) t v c hc h =
    let one : Found = visit e v c in
    let p : Bool = is_typable_tree n e (λ x. false) in
    let q : Bool = list_all (λ e. is_typable_tree n e (λ x. false)) es in
    let le : v ≤ one.next = (tree_keyed e v c).order in
    let more : one.next ≤ behind one.next (visits c es one.next) = (trees_keyed c es one.next).order in
    let first : FoundHas P one = tree_held P k n e (λ x. false) (and_left p q t) v c hc (λ j i lt. h j i (omega (arith, lt, more))) in
    let rest = visits_held P k n es (and_right p q t) one.next c hc (λ j i lt. h j (omega (arith, i, le)) lt) in
    let own : AllEntries P (one.entries ++ root_asks one ∷ []) =
    entries_append P one.entries (root_asks one ∷ []) first.1 (((k.plain.truth, first.0.1), tt), tt) in
    ((first.0.0, rest.0), entries_append P (one.entries ++ root_asks one ∷ []) (all_entries (visits c es one.next)) own rest.1)

-- ---- of a job

pub same_length : (aliases : Aliases) (ds : List Decl) (ts : List (Term × ℕ)) → AreNameTypes aliases ds ts → length ds ≡ length ts
same_length aliases [] [] h = refl
same_length aliases [] (t ∷ ts) h = absurd h
same_length aliases (d ∷ ds) [] h = absurd h
same_length aliases (d ∷ ds) (t ∷ ts) h = ap suc (same_length aliases ds ts h.1)

some_is : (t u : Term) → Some t ≡ Some u → t ≡ u
some_is t u e = cc

bound_closed : (aliases : Aliases) (text : List ℕ) (o : Option Term) (t : Term) → Says aliases text o → o ≡ Some t → Within 0 t × HasNoOperator t
bound_closed aliases text o t s e = by_binding s.binds
  where
    by_binding : Binds s.number s.type o → Within 0 t × HasNoOperator t
    by_binding (inl b) = part_closed s.number s.type t b.0 s.whole.1 (sym b.1 ∙ e)
    by_binding (inr b) = absurd (let d : None ≡ Some t = sym b.1 ∙ e in cc)

-- what a note binds is closed, and no operator type stands in it
pub noted_closed : (job : Job) (an : Annotations) → AreAnnotations job an → (text : List ℕ) (t : Term) → an.noted text ≡ Some t → Within 0 t × HasNoOperator t
noted_closed job an h text t e =
    elim (stands_or_not text (map (λ n. n.0) (all_notes (parts_of job)))) [
      | inl i ↦ bound_closed job.aliases text (an.noted text) t (h.notes text i) e
      | inr n ↦ absurd (let d : None ≡ Some t = sym (h.others text n) ∙ e in cc)
    ]

module _ (P : Term → Type 0) (k : KeepsForms P) (job : Job) (an : Annotations) (are : AreAnnotations job an) (can : IsTrue (is_typable job))
    (vars : (j : ℕ) → j < (system an job).count → P (var j)) (closed : (t : Term) → Within 0 t → HasNoOperator t → P t) where
  pub first_in : first_unknown an ≤ (system an job).count
  first_in = (trees_keyed (outermost an) (parts_of job) (first_unknown an)).order

  around : ContextHas P (length job.names) (outermost an)
  around = record {
    declared = λ i lt.
        let e : length job.names ≡ length an.declared = same_length job.aliases job.names an.declared are.names in
        let le : length an.declared + count_declared an.declared ≤ (system an job).count = first_in in
        vars i (omega (arith, lt, e, le));
    noted = λ x t e. let c = noted_closed job an are x t e in closed t c.0 c.1;
    bound = tt;
  }

  -- all types of its nodes, and all that its nodes ask
  pub job_held : AllParts P (system an job).parts × AllEntries P (system an job).entries
  job_held = visits_held P k (length job.names) (parts_of job) can (first_unknown an) (outermost an) around (λ j le lt. vars j lt)

-- ---- all that is reached

each_at : (P : Term → Type 0) (xs ys : List Wait) (w : Wait) → EachHas P (xs ++ w ∷ ys) → WaitHas P w × EachHas P (xs ++ ys)
each_at P [] ys w h = h
each_at P (x ∷ xs) ys w h = let k = each_at P xs ys w h.1 in (k.0, (h.0, k.1))

pub reached_held : (P : Term → Type 0) → KeepsForms P → (asked : List Requirement) (waits : List Wait) → AllRequired P asked → EachHas P waits →
    (rs : List Requirement) (ws ds : List Wait) → Reached asked waits rs ws ds → AllRequired P rs × EachHas P ws
reached_held P k asked waits ha hw rs ws ds at_start = (ha, hw)
reached_held P k asked waits ha hw rs ws ds (decided qs e l es w q r d) =
    let h = reached_held P k asked waits ha hw qs (e ++ w ∷ l) es r in
    let i = each_at P e l w h.1 in
    (required_append P qs (choice w q) h.0 (choice_has P k w q i.0), i.1)
reached_held P k asked waits ha hw rs ws ds (by_default qs e l es w r n i) =
    let h = reached_held P k asked waits ha hw qs (e ++ w ∷ l) es r in
    let i = each_at P e l w h.1 in
    (required_append P qs (choice w (default_kind w)) h.0 (choice_has P k w (default_kind w) i.0), i.1)
