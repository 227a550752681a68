-- Trees in form positions: which of their children can be rewritten, growth, and a form or a relation from its
-- children.
use Rattle.std.proofs.Common.{◌≡◌, ℕ, zero, suc, ◌<◌, ◌+◌, Bool, true, false, ◌&&◌, not, ◌||◌, IsTrue, List, [], ◌∷◌}
use Rattle.std.proofs.Common.{◌++◌, map, take, drop, length, get_or, All, refl, sym, ◌∙◌, ap, ap₂, subst, arith, Some}
use Rattle.std.proofs.lemmas.List.Elements.{All-cons, All-head, All-tail}
use Rattle.sat_formula.specs.Formula.{Satisfies}
use Rattle.tla_meaning.specs.declared.job.State.{State}
use Rattle.tla_meaning.specs.Meaning.{plain as plain_form}
use Rattle.tla_meaning.specs.declared.outcome.Outcome.{Outcome}
use Rattle.tla_meaning.specs.Numbers.{Width}
use Rattle.tla_meaning.specs.Scopes.{Scope}
use Rattle.cell_arena.specs.declared.build.Build.{Build}
use Rattle.cell_arena.specs.Cells.{Cells as Arena}
use Rattle.cell_arena.specs.Growth.{Grows}
use Rattle.cell_arena.proofs.Growing.{Grows-trans, Satisfies-before}
use Rattle.cell_merge.specs.Sorts.{Sort, set_of}
use Rattle.kernel_trees.specs.declared.kernel.Ker.{Ker, out-Ker}
use Rattle.kernel_trees.specs.declared.kernel.KerOp.{KerOp}
use Rattle.kernel_trees.specs.declared.kernel.KerOp.TheVariants as ker
use Rattle.kernel_trees.specs.Sound.{Context, Part, children, is_bound, form_child, is_infinite, kind_at, kinds_at}
use Rattle.kernel_trees.specs.Sound.{passes, plain, row, sound, sound_at}
use Rattle.kernel_trees.specs.Trees.{ker_form, ker_val}
use Rattle.kernel_trees.specs.TypeKinds.{Kind, Set}
use Rattle.kernel_trees.proofs.Operators.{form_plain, is_form}
use Rattle.kernel_trees.proofs.SoundRows.{Row, row_functions, row_ints, row_nats, row_records, row_sequences}
use Rattle.kernel_trees.proofs.SoundRows.{row_subsets, row_texts, row_tuples}
use Rattle.kernel_trees.proofs.SoundNodes.{sound_out, with_asked}
use Rattle.kernel_trees.proofs.SoundTrees.{Children, sound_step}
use Rattle.kernel_trees.proofs.SoundWider.{passes_mono}
use Rattle.kernel_trees.proofs.Trees.{Each}
use Rattle.kernel_ranges.specs.Ranges.{is_within, within_at}
use Rattle.kernel_ranges.proofs.Opened.{is_plain, plain_lies, with_within}
use Rattle.outcome_cells.specs.declared.cells.Cells.{Cells}
use Rattle.outcome_cells.specs.Shows.{AreCells, Shows}
use Rattle.outcome_cells.proofs.Later.{width-later}
use Rattle.typed_cells.specs.KindSorts.{sort_of}
use Rattle.typed_cells.specs.Known.{IsTextAmong}
use Rattle.form_cells.specs.declared.form.FormCells.{FormCells}
use Rattle.form_cells.specs.FormSorts.{AreForms}
use Rattle.form_cells.specs.FormValues.{ShowsForm}
use Rattle.form_cells.proofs.FormsLater.{AreForms-later, ShowsForm-later}
use Rattle.expr_rewriter.specs.declared.cell_env.CellEnv.{CellEnv}
use Rattle.expr_rewriter.specs.declared.settings.Setting.TheVariants as setting
use Rattle.expr_rewriter.specs.Environments.{AreThere, Fits, HoldsEnv, is_name}
use Rattle.expr_rewriter.specs.Forming.{CanRewriteForm, HasFormSort}
use Rattle.expr_rewriter.specs.Operating.{operands_at}
use Rattle.expr_rewriter.specs.Rewriting.{CanRewrite, HasTreeSort, texts_in}
use Rattle.expr_rewriter.specs.inner.Forming.{AreFormParts, AreFormTrees, CanForm, CanRelate, CanRewriteForms}
use Rattle.expr_rewriter.specs.inner.Forming.{FormsShow, IsFormTree, MakesForm, OfSets, Relates, form_parts, form_sets}
use Rattle.expr_rewriter.specs.inner.Forming.{makes_form, set_count}
use Rattle.expr_rewriter.specs.inner.Parts.{AreTrees, CanRewriteAll, IsTree}
use Rattle.expr_rewriter.specs.inner.Settings.{setting_of}
use Rattle.expr_rewriter.proofs.Fitting.{Fits-before}
use Rattle.expr_rewriter.proofs.FormNodes.{form_row}
use Rattle.expr_rewriter.proofs.FormShown.{children_sets, row_sets}
use Rattle.expr_rewriter.proofs.FormSides.{Relation, Sides, included_sides, member_sides, relation_of}
use Rattle.expr_rewriter.proofs.Holding.{HoldsEnv-child, HoldsEnv-later}
use Rattle.expr_rewriter.proofs.Levels.{as_tree, within_by}
use Rattle.expr_rewriter.proofs.Opening.{Reads, can-later, children_read, each_take, texts_later, texts_of_children}
use Rattle.expr_rewriter.proofs.Steps.{are_parts, tree_later, trees_later, trees_show}

-- ---- a tree that is no form is sound where it is sound in a form position

same_child : (o : KerOp) (n : ℕ) → makes_form o ≡ false → form_child o n true ≡ form_child o n false
same_child ker.Member zero e = refl
same_child ker.Member (suc zero) e = refl
same_child ker.Member (suc (suc n)) e = refl
same_child ker.Included zero e = refl
same_child ker.Included (suc zero) e = refl
same_child ker.Included (suc (suc n)) e = refl
same_child ker.SeqForm n e = refl
same_child ker.Subsets n e = absurd (cc)
same_child ker.Functions n e = absurd (cc)
same_child (ker.RecForm names) n e = absurd (cc)
same_child ker.TupForm n e = absurd (cc)
same_child o n e = refl

same_children : (o : KerOp) (n : ℕ) (c : Context) (ps : List Part) → makes_form o ≡ false →
    children o n c true ps ≡ children o n c false ps
same_children o n c [] e = refl
same_children o n c (p ∷ ps) e = ap₂ (λ (x y : Bool). x && y) (ap (p.1 c) (same_child o n e))
    (same_children o (suc n) c ps e)

finite : (o : KerOp) → makes_form o ≡ false → is_infinite o ≡ false
finite ker.IntForm e = absurd (cc)
finite ker.NatForm e = absurd (cc)
finite ker.TextForm e = absurd (cc)
finite ker.SeqForm e = absurd (cc)
finite o e = refl

same_plain : (o : KerOp) (a : Kind) (c : Context) (ps : List Part) → makes_form o ≡ false →
    plain o a c true ps ≡ plain o a c false ps
same_plain o a c ps e =
    ap₂ (λ (x y : Bool). (passes (row o a) (kinds_at ps) && x) && y) (one (is_infinite o) (finite o e))
    (same_children o 0 c ps e)
  where
    one : (i : Bool) → i ≡ false → (not i || true) ≡ (not i || false)
    one true h = absurd (cc)
    one false h = refl

same_at : (names : List Kind) (o : KerOp) (a : Kind) (xs : List ℕ) (ps : List Part) (c : Context) →
    makes_form o ≡ false →
    sound_at names o a xs ps c true ≡ sound_at names o a xs ps c false
same_at names (ker.Name i primed) a xs [] c e = refl
same_at names (ker.Bound n) a xs [] c e = refl
same_at names ker.Some a xs ps c e = refl
same_at names ker.Every a xs ps c e = refl
same_at names ker.Filter a xs ps c e = refl
same_at names ker.MapOver a xs ps c e = refl
same_at names ker.FunOf a xs ps c e = refl
same_at names ker.Update a xs ps c e = refl
same_at names ker.FoldLeft a xs ps c e = refl
same_at names ker.Range a xs [] c e = same_plain ker.Range a c [] refl
same_at names ker.Range a xs (x ∷ []) c e = same_plain ker.Range a c (x ∷ []) refl
same_at names ker.Range a xs (x ∷ y ∷ []) c e = same_plain ker.Range a c (x ∷ y ∷ []) refl
same_at names ker.Range a xs (x ∷ y ∷ l ∷ []) c e = same_plain ker.Range a c (x ∷ y ∷ l ∷ []) refl
same_at names ker.Range a xs (x ∷ y ∷ l ∷ h ∷ []) c e = ap (λ r. (is_bound c l && is_bound c h) && r)
    (same_plain ker.Range a c (x ∷ y ∷ []) refl)
same_at names ker.Range a xs (x ∷ y ∷ l ∷ h ∷ z ∷ ps) c e = same_plain ker.Range a c (x ∷ y ∷ l ∷ h ∷ z ∷ ps) refl
same_at names o a xs ps c e = same_plain o a c ps e

pub sound_lower : (names : List Kind) (k : Ker) (c : Context) → makes_form (out-Ker k).op ≡ false →
    sound names k c true ≡ true → sound names k c false ≡ true
sound_lower names k c e h =
    let ps : List Part = with_asked names (out-Ker k).args in
    sound_out names k c false
    ∙ passes_mono (λ a. sound_at names (out-Ker k).op a (out-Ker k).binds ps c true)
    (λ a. sound_at names (out-Ker k).op a (out-Ker k).binds ps c false)
    (kind_at k) (λ a q. sym (same_at names (out-Ker k).op a (out-Ker k).binds ps c e) ∙ q)
    (sym (sound_out names k c true) ∙ h)

pub can_lower : (b : Build) (k : Ker) (env : CellEnv) → makes_form (out-Ker k).op ≡ false → CanRewriteForm b k env →
    CanRewrite b k env
can_lower b k env e c = record {
  names = c.names;
  context = c.context;
  sound = sound_lower c.names k c.context e c.sound;
  holds = c.holds;
  texts = c.texts;
}

no_form : (o : KerOp) → makes_form o ≡ false → (w : _) (s t : State) → is_form w s t o ≡ false
no_form ker.IntForm e w s t = absurd (cc)
no_form ker.NatForm e w s t = absurd (cc)
no_form ker.TextForm e w s t = absurd (cc)
no_form ker.SeqForm e w s t = absurd (cc)
no_form ker.Subsets e w s t = absurd (cc)
no_form ker.Functions e w s t = absurd (cc)
no_form (ker.RecForm names) e w s t = absurd (cc)
no_form ker.TupForm e w s t = absurd (cc)
no_form o e w s t = refl

-- a set of cells in a form position
pub set_tree : (b : Build) (k : Ker) (env : CellEnv) (x : Cells) (r : FormCells) → makes_form (out-Ker k).op ≡ false →
    ((c : Arena) (a : List Bool) (o : Outcome) → Shows c a x o → ShowsForm c a r (plain_form o)) →
    ((d : Build) (s : Sort) → AreCells d (set_of s) x → AreForms d s r) → IsTree b k env x → IsFormTree b k env r
set_tree b k env x r e shows sort t = record {
  sort = λ a q. sort b (sort_of a) (t.sort (Set a) q);
  rewrites = record {
    shows = λ a m sc s u f w.
        let wide : Width = Some b.arena.width in
        subst (ShowsForm b.arena a r)
        (sym (ap (λ j. ker_form wide j sc s u) (as_tree k (out-Ker k).op refl)
        ∙ form_plain wide s u (out-Ker k).place (out-Ker k).ty (out-Ker k).op (out-Ker k).args (out-Ker k).binds sc
        (no_form (out-Ker k).op e wide s u)
        ∙ ap (λ j. plain_form (ker_val wide j sc s u)) (sym (as_tree k (out-Ker k).op refl))))
        (shows b.arena a (ker_val wide k sc s u) (t.rewrites.shows a m sc s u f w));
  };
}

-- ---- children

-- what is read where the tree stands
pub record Reading (b : Build) (k : Ker) (env : CellEnv) : Type 0 where
  pub names : List Kind
  pub context : Context
  pub holds : HoldsEnv b.arena.kinds names context k env
  pub texts : All (IsTextAmong b.arena.texts) ([] ∷ texts_in k)

abbrev tree_reading : (b : Build) (k : Ker) (env : CellEnv) → CanRewrite b k env → Reading b k env
tree_reading b k env c = record { names = c.names; context = c.context; holds = c.holds; texts = c.texts }

abbrev form_reading : (b : Build) (k : Ker) (env : CellEnv) → CanRewriteForm b k env → Reading b k env
form_reading b k env c = record { names = c.names; context = c.context; holds = c.holds; texts = c.texts }

abbrev SoundAt : List Kind → Context → Bool → Ker → Type 0
SoundAt names c b k = IsTrue (sound names k c b)

abbrev Texts : Build → Ker → Type 0
Texts b j = All (IsTextAmong b.arena.texts) (texts_in j)

tree_child : (b : Build) (k j : Ker) (env : CellEnv) (r : Reading b k env) → SoundAt r.names r.context false j →
    Reads k j → Texts b j → CanRewrite b j env
tree_child b k j env r s q t = record {
  names = r.names;
  context = r.context;
  sound = s;
  holds = HoldsEnv-child b.arena.kinds r.names r.context k j env (λ i primed. q (is_name i primed)) r.holds;
  texts = All-cons (IsTextAmong b.arena.texts) [] (texts_in j)
      (All-head (IsTextAmong b.arena.texts) [] (texts_in k) r.texts) t;
}

form_child_can : (b : Build) (k j : Ker) (env : CellEnv) (r : Reading b k env) → SoundAt r.names r.context true j →
    Reads k j → Texts b j → CanRewriteForm b j env
form_child_can b k j env r s q t = record {
  names = r.names;
  context = r.context;
  sound = s;
  holds = HoldsEnv-child b.arena.kinds r.names r.context k j env (λ i primed. q (is_name i primed)) r.holds;
  texts = All-cons (IsTextAmong b.arena.texts) [] (texts_in j)
      (All-head (IsTextAmong b.arena.texts) [] (texts_in k) r.texts) t;
}

trees_can : (b : Build) (k : Ker) (env : CellEnv) (r : Reading b k env) (ks : List Ker) →
    Each (SoundAt r.names r.context false) ks → Each (Reads k) ks →
    Each (Texts b) ks → CanRewriteAll b env ks
trees_can b k env r [] s q t = tt
trees_can b k env r (j ∷ ks) s q t = (tree_child b k j env r s.0 q.0 t.0, trees_can b k env r ks s.1 q.1 t.1)

forms_can : (b : Build) (k : Ker) (env : CellEnv) (r : Reading b k env) (ks : List Ker) → Each OfSets ks →
    Each (SoundAt r.names r.context true) ks →
    Each (Reads k) ks → Each (Texts b) ks → CanRewriteForms b env ks
forms_can b k env r [] i s q t = tt
forms_can b k env r (j ∷ ks) i s q t = (
  (i.0, form_child_can b k j env r s.0 q.0 t.0),
  forms_can b k env r ks i.1 s.1
      q.1 t.1,
)

-- the children of a node that is no leaf, and is no range
reads_args : (k : Ker) → (setting_of (out-Ker k).op ≡ setting.Leaf → ⊥) → operands_at (out-Ker k).op (out-Ker k).args ≡
    (out-Ker k).args → Each (Reads k) (out-Ker k).args
reads_args k h e = subst (Each (Reads k)) e (children_read k h)

texts_args : (b : Build) (k : Ker) (env : CellEnv) → Reading b k env → Each (Texts b) (out-Ker k).args
texts_args b k env r = texts_of_children (IsTextAmong b.arena.texts) k
    (All-tail (IsTextAmong b.arena.texts) [] (texts_in k) r.texts)

each_drop : {X : Type 0} (P : X → Type 0) (n : ℕ) (xs : List X) → Each P xs → Each P (drop n xs)
each_drop P zero xs h = h
each_drop P (suc n) [] h = tt
each_drop P (suc n) (x ∷ xs) h = each_drop P n xs h.1

form_no_leaf : (o : KerOp) → makes_form o ≡ true → setting_of o ≡ setting.Leaf → ⊥
form_no_leaf (ker.Const v) e h = absurd (cc)
form_no_leaf (ker.Name i primed) e h = absurd (cc)
form_no_leaf (ker.Bound n) e h = absurd (cc)
form_no_leaf ker.NoCase e h = absurd (cc)
form_no_leaf o e h = absurd (cc)

form_operands : (o : KerOp) (ks : List Ker) → makes_form o ≡ true → operands_at o ks ≡ ks
form_operands ker.Range ks e = absurd (cc)
form_operands o ks e = refl

-- ---- the sets and the parts of a form

abbrev is_all : KerOp → Bool
is_all ker.SeqForm = true
is_all ker.Subsets = true
is_all (ker.RecForm names) = true
is_all ker.TupForm = true
is_all o = false

all_form : (o : KerOp) (n : ℕ) → is_all o ≡ true → form_child o n true ≡ true
all_form ker.SeqForm n e = refl
all_form ker.Subsets n e = refl
all_form (ker.RecForm names) n e = refl
all_form ker.TupForm n e = refl
all_form o n e = absurd (cc)

all_sound : (names : List Kind) (c : Context) (o : KerOp) (n : ℕ) (ks : List Ker) (bs : List Kind) → is_all o ≡ true →
    Children names o n c true ks bs →
    Each (SoundAt names c true) ks
all_sound names c o n [] bs e h = tt
all_sound names c o n (k ∷ ks) [] e h = absurd h
all_sound names c o n (k ∷ ks) (a ∷ bs) e h =
    (subst (λ b. IsTrue (sound names k c b)) (all_form o n e) h.0.1, all_sound names c o (suc n) ks bs e h.1)

none_sound : (names : List Kind) (c : Context) (o : KerOp) (ks : List Ker) → Children names o 0 c true ks [] →
    Each (SoundAt names c true) ks
none_sound names c o [] h = tt
none_sound names c o (k ∷ ks) h = absurd h

function_parts : (names : List Kind) (c : Context) (ks : List Ker) (a d : Kind) →
    Children names ker.Functions 0 c true ks (Set a ∷ Set d ∷ []) →
    Each (SoundAt names c false) (take 1 ks) × Each (SoundAt names c true) (drop 1 ks)
function_parts names c [] a d h = absurd h
function_parts names c (k ∷ []) a d h = absurd h.1
function_parts names c (k ∷ l ∷ []) a d h = ((h.0.1, tt), (h.1.0.1, tt))
function_parts names c (k ∷ l ∷ m ∷ ks) a d h = absurd h.1.1

sound_parts : (names : List Kind) (c : Context) (o : KerOp) (d : Kind) (bs : List Kind) (ks : List Ker) →
    makes_form o ≡ true → Row o d bs →
    Children names o 0 c true ks bs → Each (SoundAt names c false) (take (set_count o) ks) × Each
    (SoundAt names c true) (drop (set_count o) ks)
sound_parts names c o d bs ks e row_ints h = (tt, none_sound names c ker.IntForm ks h)
sound_parts names c o d bs ks e row_nats h = (tt, none_sound names c ker.NatForm ks h)
sound_parts names c o d bs ks e row_texts h = (tt, none_sound names c ker.TextForm ks h)
sound_parts names c o d bs ks e (row_sequences a) h = (tt, all_sound names c ker.SeqForm 0 ks (Set a ∷ []) refl h)
sound_parts names c o d bs ks e (row_subsets a) h = (tt, all_sound names c ker.Subsets 0 ks (Set a ∷ []) refl h)
sound_parts names c o d bs ks e (row_functions a g) h = function_parts names c ks a g h
sound_parts names c o d bs ks e (row_tuples ms) h = (tt, all_sound names c ker.TupForm 0 ks (map Set ms) refl h)
sound_parts names c o d bs ks e (row_records ns ms l) h =
    (tt, all_sound names c (ker.RecForm ns) 0 ks (map Set ms) refl h)
sound_parts names c o d bs ks e r h = absurd (cc)

module _ (b : Build) (k : Ker) (env : CellEnv) (e : makes_form (out-Ker k).op ≡ true) (c : CanRewriteForm b k env) where
  parts_sound : Each (SoundAt c.names c.context false) (form_sets k) × Each (SoundAt c.names c.context true)
      (form_parts k)
  parts_sound =
      let z = sound_step c.names k c.context true c.sound in
      let r = form_row c.names c.context (out-Ker k).op z.0 (out-Ker k).binds (out-Ker k).args e z.2 in
      sound_parts c.names c.context (out-Ker k).op z.0 r.kinds (out-Ker k).args e r.row r.children

  args_sets : Each OfSets (out-Ker k).args
  args_sets =
      let z = sound_step c.names k c.context true c.sound in
      let r = form_row c.names c.context (out-Ker k).op z.0 (out-Ker k).binds (out-Ker k).args e z.2 in
      children_sets c.names c.context (out-Ker k).op 0 (out-Ker k).args r.kinds r.children
      (row_sets (out-Ker k).op z.0 r.kinds e r.row)

  args_read : Each (Reads k) (out-Ker k).args
  args_read = reads_args k (form_no_leaf (out-Ker k).op e) (form_operands (out-Ker k).op (out-Ker k).args e)

  pub sets_can : CanRewriteAll b env (form_sets k)
  sets_can =
      let n : ℕ = set_count (out-Ker k).op in
      trees_can b k env (form_reading b k env c) (form_sets k) parts_sound.0
      (each_take (Reads k) n (out-Ker k).args args_read)
      (each_take (Texts b) n (out-Ker k).args (texts_args b k env (form_reading b k env c)))

  pub parts_can : CanRewriteForms b env (form_parts k)
  parts_can =
      let n : ℕ = set_count (out-Ker k).op in
      forms_can b k env (form_reading b k env c) (form_parts k)
      (each_drop OfSets n (out-Ker k).args args_sets) parts_sound.1
      (each_drop (Reads k) n (out-Ker k).args args_read)
      (each_drop (Texts b) n (out-Ker k).args (texts_args b k env (form_reading b k env c)))

-- the same by another list
pub sets_can_by : (b : Build) (k : Ker) (env : CellEnv) (n : ℕ) (ks : List Ker) → ks ≡ (out-Ker k).args →
    take n (out-Ker k).args ≡ form_sets k →
    makes_form (out-Ker k).op ≡ true → CanRewriteForm b k env → CanRewriteAll b env (take n ks)
sets_can_by b k env n ks p q e c = subst (CanRewriteAll b env) (sym (ap (take n) p ∙ q)) (sets_can b k env e c)

pub sets_made : (b : Build) (k : Ker) (env : CellEnv) (n : ℕ) (ks : List Ker) (xs ys : List Cells) →
    ks ≡ (out-Ker k).args →
    take n (out-Ker k).args ≡ form_sets k → ys ≡ xs → AreTrees b env (take n ks) xs → AreTrees b env (form_sets k) ys
sets_made b k env n ks xs ys p q r t = subst (AreTrees b env (form_sets k)) (sym r)
    (subst (λ l. AreTrees b env l xs) (ap (take n) p ∙ q) t)

pub rest_made : (k : Ker) (n : ℕ) (ks rest : List Ker) → ks ≡ (out-Ker k).args →
    drop n (out-Ker k).args ≡ form_parts k → rest ≡ drop n ks →
    rest ≡ form_parts k
rest_made k n ks rest p q r = r ∙ ap (drop n) p ∙ q

-- ---- growth

pub can-form-later : (b d : Build) (k : Ker) (env : CellEnv) → Grows b d → CanRewriteForm b k env →
    CanRewriteForm d k env
can-form-later b d k env g h = record {
  names = h.names;
  context = h.context;
  sound = h.sound;
  holds = HoldsEnv-later b d h.names h.context k env g h.holds;
  texts = texts_later b d ([] ∷ texts_in k) g h.texts;
}

pub can-forms-later : (b d : Build) (env : CellEnv) (ks : List Ker) → Grows b d → CanRewriteForms b env ks →
    CanRewriteForms d env ks
can-forms-later b d env [] g h = tt
can-forms-later b d env (k ∷ ks) g h = ((h.0.0, can-form-later b d k env g h.0.1), can-forms-later b d env ks g h.1)

pub parts_can_by : (b0 b : Build) (k : Ker) (env env' : CellEnv) (rest : List Ker) → rest ≡ form_parts k →
    makes_form (out-Ker k).op ≡ true → Grows b0 b →
    env' ≡ env → CanRewriteForm b0 k env → CanRewriteForms b env' rest
parts_can_by b0 b k env env' rest p e g q c =
    subst (λ v. CanRewriteForms b v rest) (sym q)
    (subst (CanRewriteForms b env) (sym p) (can-forms-later b0 b env (form_parts k) g (parts_can b0 k env e c)))

-- a form has a kind of set where it can be rewritten and its members have a sort there
form_sorts_later : (b d : Build) (k : Ker) (x : FormCells) → Grows b d → HasFormSort b k x → HasFormSort d k x
form_sorts_later b d k x g h = λ a e. AreForms-later b d g (sort_of a) x (h a e)

form_there : (b0 b : Build) (k : Ker) (env : CellEnv) → CanRewriteForm b0 k env → Grows b0 b →
    AreThere (length b.arena.kinds) env
form_there b0 b k env c g = (can-form-later b0 b k env g c).holds.there

pub form_later : (b0 b d : Build) (k : Ker) (env : CellEnv) (x : FormCells) → OfSets k → CanRewriteForm b0 k env →
    Grows b0 b → Grows b d →
    IsFormTree b k env x → IsFormTree d k env x
form_later b0 b d k env x i c g h t = record {
  sort = form_sorts_later b d k x h t.sort;
  rewrites = record {
    shows = λ a m sc s u f w.
        let e : d.arena.width ≡ b.arena.width = width-later b d h in
        subst (λ n. ShowsForm d.arena a x (ker_form (Some n) k sc s u)) (sym e)
        (ShowsForm-later b d h a (sort_of i.0) x (ker_form (Some b.arena.width) k sc s u) (t.sort i.0 i.1).form
        (t.rewrites.shows a (Satisfies-before b d a h m) sc s u
        (Fits-before b d a env sc s u h (form_there b0 b k env c g) f)
        (subst (λ n. IsTrue (is_within (Some n) k sc s u)) e w)));
  };
}

pub forms_later : (b0 b d : Build) (env : CellEnv) (ks : List Ker) (xs : List FormCells) → CanRewriteForms b0 env ks →
    Grows b0 b → Grows b d →
    AreFormTrees b env ks xs → AreFormTrees d env ks xs
forms_later b0 b d env [] [] c g h t = tt
forms_later b0 b d env [] (x ∷ xs) c g h t = absurd t
forms_later b0 b d env (k ∷ ks) [] c g h t = absurd t
forms_later b0 b d env (k ∷ ks) (x ∷ xs) c g h t =
    (form_later b0 b d k env x c.0.0 c.0.1 g h t.0, forms_later b0 b d env ks xs c.1 g h t.1)

-- ---- several forms

forms_front : (b : Build) (env : CellEnv) (ks : List Ker) (i : ℕ) → CanRewriteForms b env ks →
    CanRewriteForms b env (take i ks)
forms_front b env ks zero c = tt
forms_front b env [] (suc i) c = tt
forms_front b env (k ∷ ks) (suc i) c = (c.0, forms_front b env ks i c.1)

form_here : (b : Build) (env : CellEnv) (ks : List Ker) (i : ℕ) (d : Ker) → i < length ks → CanRewriteForms b env ks →
    CanRewriteForm b (get_or ks i d) env
form_here b env [] i d lt c = absurd (omega arith)
form_here b env (k ∷ ks) zero d lt c = c.0.1
form_here b env (k ∷ ks) (suc i) d lt c = form_here b env ks i d (omega arith) c.1

pub form_at : (b0 b : Build) (env env' : CellEnv) (ks : List Ker) (i : ℕ) (k : Ker) → i < length ks →
    k ≡ get_or ks i k → CanRewriteForms b0 env ks →
    Grows b0 b → env' ≡ env → CanRewriteForm b k env'
form_at b0 b env env' ks i k lt e c g q =
    subst (CanRewriteForm b k) (sym q)
    (can-form-later b0 b k env g (subst (λ j. CanRewriteForm b0 j env) (sym e) (form_here b0 env ks i k lt c)))

push_form : (b : Build) (env : CellEnv) (ks : List Ker) (xs : List FormCells) (i : ℕ) (d : Ker) (x : FormCells) →
    i < length ks →
    AreFormTrees b env (take i ks) xs → IsFormTree b (get_or ks i d) env x →
    AreFormTrees b env (take (suc i) ks) (xs ++ x ∷ [])
push_form b env [] xs i d x lt t h = absurd (omega arith)
push_form b env (k ∷ ks) [] zero d x lt t h = (h, tt)
push_form b env (k ∷ ks) (y ∷ xs) zero d x lt t h = absurd t
push_form b env (k ∷ ks) [] (suc i) d x lt t h = absurd t
push_form b env (k ∷ ks) (y ∷ xs) (suc i) d x lt t h = (t.0, push_form b env ks xs i d x (omega arith) t.1 h)

pub forms_turn : (b0 b d : Build) (env env' : CellEnv) (ks : List Ker) (xs : List FormCells) (i : ℕ) (k : Ker)
    (x : FormCells) → i < length ks →
    k ≡ get_or ks i k → CanRewriteForms b0 env ks → Grows b0 b → Grows b d → env' ≡ env →
    AreFormTrees b env (take i ks) xs → IsFormTree d k env' x →
    AreFormTrees d env (take (i + 1) ks) (xs ++ x ∷ [])
forms_turn b0 b d env env' ks xs i k x lt e c g h q t u =
    subst (λ (m : ℕ). AreFormTrees d env (take m ks) (xs ++ x ∷ [])) one
    (push_form d env ks xs i k x lt (forms_later b0 b d env (take i ks) xs (forms_front b0 env ks i c) g h t)
    (subst (λ j. IsFormTree d j env x) e (subst (λ v. IsFormTree d k v x) q u)))
  where
    one : suc i ≡ i + 1
    one = omega arith

-- ---- a form

form_parts_are : (b : Build) (env : CellEnv) (ks : List Ker) (xs : List FormCells) → AreFormTrees b env ks xs →
    AreFormParts b ks xs
form_parts_are b env [] [] t = tt
form_parts_are b env [] (x ∷ xs) t = absurd t
form_parts_are b env (k ∷ ks) [] t = absurd t
form_parts_are b env (k ∷ ks) (x ∷ xs) t = (t.0.sort, form_parts_are b env ks xs t.1)

forms_show : (b : Build) (a : List Bool) (env : CellEnv) (sc : Scope) (s t : State) (ks : List Ker)
    (xs : List FormCells) → Satisfies a b.formula →
    Fits b.arena a env sc s t → AreFormTrees b env ks xs → FormsShow b.arena a sc s t ks xs
forms_show b a env sc s t [] [] m f h = tt
forms_show b a env sc s t [] (x ∷ xs) m f h = absurd h
forms_show b a env sc s t (k ∷ ks) [] m f h = absurd h
forms_show b a env sc s t (k ∷ ks) (x ∷ xs) m f h =
    (λ w. h.0.rewrites.shows a m sc s t f w, forms_show b a env sc s t ks xs m f h.1)

-- the build at the start, after the sets, and after the parts
module _ (b0 b1 b2 : Build) (k : Ker) (env : CellEnv) (e : makes_form (out-Ker k).op ≡ true)
    (c : CanRewriteForm b0 k env) (g : Grows b0 b1) (h : Grows b1 b2)
    (us : List Cells) (sets : AreTrees b1 env (form_sets k) us) (ys : List FormCells) (env' : CellEnv)
    (same : env' ≡ env) (rest : List Ker) (rest_is : rest ≡ form_parts k)
    (parts : AreFormTrees b2 env' rest ys) where
  sets_now : AreTrees b2 env (form_sets k) us
  sets_now = trees_later b0 b1 b2 env (form_sets k) us (sets_can b0 k env e c) g h sets

  parts_now : AreFormTrees b2 env (form_parts k) ys
  parts_now = subst (λ l. AreFormTrees b2 env l ys) rest_is (subst (λ v. AreFormTrees b2 v rest ys) same parts)

  pub can_form : CanForm b2 k us ys
  can_form = record {
    names = c.names;
    context = c.context;
    sound = c.sound;
    makes = e;
    sets_are = are_parts b2 env (form_sets k) us sets_now;
    parts_are = form_parts_are b2 env (form_parts k) ys parts_now;
  }

  pub form_tree : (d : Build) (r : FormCells) → Grows b2 d → HasFormSort d k r → MakesForm b2 d k us ys r →
      IsFormTree d k env r
  form_tree d r l o m = record {
    sort = o;
    rewrites = record {
      shows = λ a q sc s t f w.
          let q2 : d.arena.width ≡ b2.arena.width = width-later b2 d l in
          let sat = Satisfies-before b2 d a l q in
          let fits = Fits-before b2 d a env sc s t l (form_there b0 b2 k env c (Grows-trans b0 b1 b2 g h)) f in
          subst (λ n. ShowsForm d.arena a r (ker_form (Some n) k sc s t)) (sym q2)
          (m.shows a q sc s t (subst (λ n. IsTrue (is_within (Some n) k sc s t)) q2 w)
          (trees_show b2 a env sc s t (form_sets k) us sat fits sets_now)
          (forms_show b2 a env sc s t (form_parts k) ys sat fits parts_now));
    };
  }

-- ---- a membership or an inclusion

form_leaf : setting.Leaf ≡ setting.Form → ⊥
form_leaf e = cc

relation_operands : (o : KerOp) (ks : List Ker) → setting_of o ≡ setting.Form → operands_at o ks ≡ ks
relation_operands ker.Range ks e = absurd (cc)
relation_operands o ks e = refl

sides_plain : (o : KerOp) (v m d : Kind) → Sides o v m d → is_plain o ≡ true
sides_plain o v m d (member_sides a) = refl
sides_plain o v m d (included_sides a) = refl

-- a child at a place by the children
first_is : (args ks : List Ker) (left x y : Ker) → args ≡ ks → ks ≡ x ∷ y ∷ [] → left ≡ get_or args 0 left → left ≡ x
first_is args ks left x y p q e = e ∙ ap (λ l. get_or l 0 left) (p ∙ q)

second_is : (args ks : List Ker) (right x y : Ker) → args ≡ ks → ks ≡ x ∷ y ∷ [] → right ≡ get_or args 1 right →
    right ≡ y
second_is args ks right x y p q e = e ∙ ap (λ l. get_or l 1 right) (p ∙ q)

module _ (b : Build) (k : Ker) (env : CellEnv) (e : setting_of (out-Ker k).op ≡ setting.Form)
    (c : CanRewrite b k env) where
  relation : (d : Kind) × (kind_at k ≡ Some d) × Relation c.names c.context (out-Ker k).op d (out-Ker k).args
  relation =
      let z = sound_step c.names k c.context false c.sound in
      (z.0, z.1, relation_of c.names c.context (out-Ker k).op z.0 (out-Ker k).binds (out-Ker k).args e z.2)

  pub two_args : (args : List Ker) → args ≡ (out-Ker k).args → length args ≡ 2
  two_args args p = ap length (p ∙ relation.2.whole)

  module _ (args : List Ker) (p : args ≡ (out-Ker k).args) where
    sides_read : Each (Reads k) (relation.2.left ∷ relation.2.right ∷ [])
    sides_read =
        subst (Each (Reads k)) relation.2.whole
        (reads_args k (λ q. form_leaf (sym q ∙ e)) (relation_operands (out-Ker k).op (out-Ker k).args e))

    sides_texts : Each (Texts b) (relation.2.left ∷ relation.2.right ∷ [])
    sides_texts = subst (Each (Texts b)) relation.2.whole (texts_args b k env (tree_reading b k env c))

    pub left_can : (left : Ker) → left ≡ get_or args 0 left → CanRewrite b left env
    left_can left q =
        subst (λ j. CanRewrite b j env) (sym (first_is args
        (out-Ker k).args left relation.2.left relation.2.right p relation.2.whole q))
        (tree_child b k relation.2.left env (tree_reading b k env c) relation.2.left_sound sides_read.0 sides_texts.0)

    right_can_here : (right : Ker) → right ≡ get_or args 1 right → CanRewriteForm b right env
    right_can_here right q =
        subst (λ j. CanRewriteForm b j env) (sym
        (second_is args (out-Ker k).args right relation.2.left relation.2.right p relation.2.whole q))
        (form_child_can b k relation.2.right env
        (tree_reading b k env c) relation.2.right_sound sides_read.1.0 sides_texts.1.0)

    pub right_can : (b1 : Build) (env' : CellEnv) (right : Ker) → right ≡ get_or args 1 right → Grows b b1 →
        env' ≡ env → CanRewriteForm b1 right env'
    right_can b1 env' right q g same =
        subst (CanRewriteForm b1 right) (sym same) (can-form-later b b1 right env g (right_can_here right q))

    -- both sides, the left one after the first step, the right one after the second
    module _ (b1 b2 : Build) (left right : Ker) (f : left ≡ get_or args 0 left) (n : right ≡ get_or args 1 right)
        (g : Grows b b1) (h : Grows b1 b2) (x : Cells) (y : FormCells)
        (env' : CellEnv) (same : env' ≡ env) (l : IsTree b1 left env x) (r : IsFormTree b2 right env' y) where
      sides_of : (out-Ker k).args ≡ left ∷ right ∷ []
      sides_of =
          relation.2.whole
          ∙ ap₂ (λ u v. u ∷ v ∷ []) (sym (first_is args
          (out-Ker k).args left relation.2.left relation.2.right p relation.2.whole f))
          (sym (second_is args (out-Ker k).args right relation.2.left relation.2.right p relation.2.whole n))

      left_now : IsTree b2 left env x
      left_now = tree_later b b1 b2 left env x (left_can left f) g h l

      right_now : IsFormTree b2 right env y
      right_now = subst (λ v. IsFormTree b2 right v y) same r

      pub can_relate : CanRelate b2 k x y
      can_relate = record {
        names = c.names;
        context = c.context;
        sound = c.sound;
        relation = e;
        left = left;
        right = right;
        sides = sides_of;
        left_is = left_now.sort;
        right_is = right_now.sort;
      }

      pub related_tree : (d : Build) (z : Cells) → Grows b2 d → HasTreeSort d k z → Relates b2 d k x y z →
          IsTree d k env z
      related_tree d z i o m = record {
        sort = o;
        rewrites = record {
          shows = λ a q sc s t w v.
              let wide : d.arena.width ≡ b2.arena.width = width-later b2 d i in
              let sat = Satisfies-before b2 d a i q in
              let there = (can-later b b2 k env (Grows-trans b b1 b2 g h) c).holds.there in
              let fits = Fits-before b2 d a env sc s t i there w in
              let lies = plain_lies (Some b2.arena.width) s t (out-Ker k).op (out-Ker k).binds (left ∷ right ∷ []) sc
              (sides_plain (out-Ker k).op relation.2.value relation.2.members relation.0 relation.2.row)
              (subst (λ ks. within_at (Some b2.arena.width) (out-Ker k).op (out-Ker k).binds
              (with_within (Some b2.arena.width) ks) sc s t ≡ true) sides_of
              (within_by (Some b2.arena.width) k (out-Ker k).op sc s t refl
              (subst (λ n. IsTrue (is_within (Some n) k sc s t)) wide v))) in
              subst (λ n. Shows d.arena a z (ker_val (Some n) k sc s t)) (sym wide)
              (m.shows a q sc s t left right sides_of (left_now.rewrites.shows a sat sc s t fits lies.0)
              (right_now.rewrites.shows a sat sc s t fits lies.1.0));
        };
      }
