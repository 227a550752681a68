-- What it says of the children of a tree that this can be rewritten.
use Rattle.std.proofs.Common.{◌≡◌, ℕ, zero, suc, Bool, true, false, ◌||◌, IsTrue, List, [], ◌∷◌, ◌++◌, map, take, zip, length, All, refl, sym, ◌∙◌, ap, subst, Some}
use Rattle.std.specs.Prelude.{flat_map, slice_get}
use Rattle.std.specs.List.{list_any}
use Rattle.std.proofs.lemmas.List.{take-map}
use Rattle.std.proofs.lemmas.List.Elements.{All-head, All-tail, All-cons, All-nil, All-weaker}
use Rattle.cell_arena.specs.declared.build.Build.{Build}
use Rattle.cell_arena.specs.declared.kinds.CellId.{CellId}
use Rattle.cell_arena.specs.Growth.{Grows}
use Rattle.kernel_trees.specs.declared.kernel.Ker.{Ker, out-Ker, roll-out-Ker}
use Rattle.kernel_trees.specs.declared.kernel.Ker.TheFolds.{fold-roll-Ker}
use Rattle.kernel_trees.specs.declared.kernel.KerOp.{KerOp}
use Rattle.kernel_trees.specs.declared.kernel.KerOp.TheVariants as ker
use Rattle.kernel_trees.specs.Paths.{Marks, mentions, mentions_at}
use Rattle.kernel_trees.specs.Sound.{Context, form_child, kind_at, sound}
use Rattle.kernel_trees.specs.TypeKinds.{Kind}
use Rattle.kernel_trees.proofs.SoundRows.{BinderRow, Row, row_some, row_every, row_filter, row_map, row_function, row_const}
use Rattle.kernel_trees.proofs.SoundTrees.{Child, Children, Node, Sets, node_name, node_bound, node_plain, node_bounded, node_binder, node_update, node_fold, sound_step}
use Rattle.kernel_trees.proofs.Trees.{Each, mentions-roll}
use Rattle.typed_cells.specs.Known.{IsTextAmong}
use Rattle.typed_cells.specs.KindSorts.{sort_of}
use Rattle.typed_cells.proofs.DefaultCells.{text-later}
use Rattle.typed_cells.specs.KindSorts.{OfSorts}
use Rattle.expr_rewriter.specs.declared.cell_env.CellEnv.{CellEnv}
use Rattle.expr_rewriter.specs.declared.settings.Setting.TheVariants.{Leaf, Level, Binder}
use Rattle.expr_rewriter.specs.Environments.{is_name}
use Rattle.expr_rewriter.specs.Operating.{operands, operands_at}
use Rattle.expr_rewriter.specs.Rewriting.{CanRewrite, node_texts, own_texts, texts_in, type_texts}
use Rattle.expr_rewriter.specs.inner.Binding.{body_of, sets_of}
use Rattle.expr_rewriter.specs.inner.Parts.{CanRewriteAll}
use Rattle.expr_rewriter.specs.inner.Settings.{setting_of, with_bound}
use Rattle.expr_rewriter.proofs.Holding.{HoldsEnv-bound, HoldsEnv-child, HoldsEnv-later}

-- ---- lists

each_weaker : {X : Type 0} (P Q : X → Type 0) → ((x : X) → P x → Q x) → (xs : List X) → Each P xs → Each Q xs
each_weaker P Q f [] h = tt
each_weaker P Q f (x ∷ xs) h = (f x h.0, each_weaker P Q f xs h.1)

pub each_take : {X : Type 0} (P : X → Type 0) (n : ℕ) (xs : List X) → Each P xs → Each P (take n xs)
each_take P zero xs h = tt
each_take P (suc n) [] h = tt
each_take P (suc n) (x ∷ xs) h = (h.0, each_take P n xs h.1)

pub each_at : {X : Type 0} (P : X → Type 0) (xs : List X) (i : ℕ) (x : X) → slice_get xs i ≡ Some x → Each P xs → P x
each_at P [] i x e h = absurd (cc)
each_at P (y ∷ ys) zero x e h = subst P (some_one e) h.0
  where
    some_one : Some y ≡ Some x → y ≡ x
    some_one e = cc
each_at P (y ∷ ys) (suc i) x e h = each_at P ys i x e h.1

all_split : {X : Type 0} (P : X → Type 0) (xs ys : List X) → All P (xs ++ ys) → All P xs × All P ys
all_split P [] ys h = (All-nil P, h)
all_split P (x ∷ xs) ys h =
    let r = all_split P xs ys (All-tail P x (xs ++ ys) h) in
    (All-cons P x xs (All-head P x (xs ++ ys) h) r.0, r.1)

-- ---- texts

pub texts-out : (k : Ker) →
    texts_in k ≡ own_texts (out-Ker k).op ++ (type_texts (kind_at k) ++ flat_map (λ xs. xs) (map texts_in (out-Ker k).args))
unfolding texts_in
texts-out k = ap texts_in (sym (roll-out-Ker k)) ∙ fold-roll-Ker (List (List ℕ)) node_texts (out-Ker k)

texts_each : (P : List ℕ → Type 0) (ks : List Ker) → All P (flat_map (λ xs. xs) (map texts_in ks)) → Each (λ k. All P (texts_in k)) ks
texts_each P [] h = tt
texts_each P (k ∷ ks) h =
    let r = all_split P (texts_in k) (flat_map (λ xs. xs) (map texts_in ks)) h in
    (r.0, texts_each P ks r.1)

-- the texts of the children are among those of the tree
pub texts_of_children : (P : List ℕ → Type 0) (k : Ker) → All P (texts_in k) → Each (λ j. All P (texts_in j)) (out-Ker k).args
texts_of_children P k h =
    let below : List (List ℕ) = flat_map (λ xs. xs) (map texts_in (out-Ker k).args) in
    let own = all_split P (own_texts (out-Ker k).op) (type_texts (kind_at k) ++ below) (subst (All P) (texts-out k) h) in
    texts_each P (out-Ker k).args (all_split P (type_texts (kind_at k)) below own.1).1

-- ---- names that are read

-- what the child mentions, the node mentions
abbrev pub Reads : Ker → Ker → Type 0
Reads k j = (m : Marks) → IsTrue (mentions m j) → IsTrue (mentions m k)

any_front : (a b : Bool) → IsTrue a → IsTrue (a || b)
any_front true b h = refl
any_front false b h = absurd (cc)

any_rest : (a b : Bool) → IsTrue b → IsTrue (a || b)
any_rest true b h = refl
any_rest false b h = h

-- what one of several trees mentions
abbrev Told : List Ker → Ker → Type 0
Told ks j = (m : Marks) → IsTrue (mentions m j) → IsTrue (list_any (λ (b : Bool). b) (map (mentions m) ks))

each_told : (ks : List Ker) → Each (Told ks) ks
each_told [] = tt
each_told (k ∷ ks) = (
  λ m h. any_front (mentions m k) (list_any (λ (b : Bool). b) (map (mentions m) ks)) h,
  each_weaker (Told ks) (Told (k ∷ ks)) (λ j g m h. any_rest (mentions m k) (list_any (λ (b : Bool). b) (map (mentions m) ks)) (g m h)) ks (each_told ks),
)

at_operands : (m : Marks) (o : KerOp) (ks : List Ker) → (setting_of o ≡ Leaf → ⊥) →
    list_any (λ (b : Bool). b) (map (mentions m) (operands_at o ks)) ≡ mentions_at m o (map (mentions m) ks)
at_operands m (ker.Const v) ks h = absurd (h refl)
at_operands m (ker.Name i primed) ks h = absurd (h refl)
at_operands m ker.NoCase ks h = absurd (h refl)
at_operands m ker.Range ks h = ap (list_any (λ (b : Bool). b)) (sym (take-map (mentions m) 2 ks))
at_operands m o ks h = refl

mentions-out : (m : Marks) (k : Ker) → mentions m k ≡ mentions_at m (out-Ker k).op (map (mentions m) (out-Ker k).args)
mentions-out m k = ap (mentions m) (sym (roll-out-Ker k)) ∙ mentions-roll m (out-Ker k)

pub children_read : (k : Ker) → (setting_of (out-Ker k).op ≡ Leaf → ⊥) → Each (Reads k) (operands k)
children_read k h =
    each_weaker (Told (operands k)) (Reads k)
    (λ j g m i. subst IsTrue (at_operands m (out-Ker k).op (out-Ker k).args h ∙ sym (mentions-out m k)) (g m i)) (operands k) (each_told (operands k))

-- ---- soundness

abbrev pub SoundIn : List Kind → Context → Ker → Type 0
SoundIn names c k = IsTrue (sound names k c false)

level_child : (o : KerOp) (n : ℕ) → setting_of o ≡ Level → form_child o n false ≡ false
level_child ker.Member n h = absurd (cc)
level_child ker.Included n h = absurd (cc)
level_child ker.SeqForm n h = absurd (cc)
level_child ker.Functions zero h = refl
level_child ker.Functions (suc zero) h = refl
level_child ker.Functions (suc (suc n)) h = refl
level_child o n h = refl

children_sound : (names : List Kind) (c : Context) (o : KerOp) (n : ℕ) (ks : List Ker) (as' : List Kind) → setting_of o ≡ Level →
    Children names o n c false ks as' → Each (SoundIn names c) ks
children_sound names c o n [] as' e h = tt
children_sound names c o n (k ∷ ks) [] e h = absurd h
children_sound names c o n (k ∷ ks) (a ∷ as') e h =
    (subst (λ b. IsTrue (sound names k c b)) (level_child o n e) h.0.1, children_sound names c o (suc n) ks as' e h.1)

operands_sound : (P : Ker → Type 0) (o : KerOp) (ks : List Ker) → Each P ks → Each P (operands_at o ks)
operands_sound P ker.Range ks h = each_take P 2 ks h
operands_sound P o ks h = h

binder_setting : (o : KerOp) (a : Kind) (ms : List Kind) (e : Kind) → BinderRow o a ms e → setting_of o ≡ Binder
binder_setting o a ms e (row_some ns) = refl
binder_setting o a ms e (row_every ns) = refl
binder_setting o a ms e (row_filter b) = refl
binder_setting o a ms e (row_map b ns) = refl
binder_setting o a ms e (row_function ns b) = refl

level_binder : (o : KerOp) → setting_of o ≡ Binder → setting_of o ≡ Level → ⊥
level_binder o e h = other (sym e ∙ h)
  where
    other : Binder ≡ Level → ⊥
    other e = cc

level_sound : (names : List Kind) (c : Context) (o : KerOp) (a : Kind) (xs : List ℕ) (ks : List Ker) → setting_of o ≡ Level →
    Node names c false o a xs ks → Each (SoundIn names c) (operands_at o ks)
level_sound names c o a xs ks e (node_name i primed b ys q) = absurd (cc)
level_sound names c o a xs ks e (node_bound n b ys q) = absurd (cc)
level_sound names c o a xs ks e (node_plain p b ys ls bs r h i) = operands_sound (SoundIn names c) o ks (children_sound names c o 0 ks bs e h)
level_sound names c o a xs ks e (node_bounded ys x y l u p q r s) = (p.1, (q.1, tt))
level_sound names c o a xs ks e (node_binder p b ys ls sets body ms d q n r t u) = absurd (level_binder o (binder_setting o a ms d r) e)
level_sound names c o a xs ks e (node_update b x f i d j m p q r t) = absurd (cc)
level_sound names c o a xs ks e (node_fold b x y d f q m p r t) = absurd (cc)

-- ---- children in the node's setting

pub can_child : (b : Build) (k j : Ker) (env : CellEnv) (c : CanRewrite b k env) → SoundIn c.names c.context j → Reads k j →
    All (IsTextAmong b.arena.texts) (texts_in j) → CanRewrite b j env
can_child b k j env c s r t = record {
  names = c.names;
  context = c.context;
  sound = s;
  holds = HoldsEnv-child b.arena.kinds c.names c.context k j env (λ i primed. r (is_name i primed)) c.holds;
  texts = All-cons (IsTextAmong b.arena.texts) [] (texts_in j) (All-head (IsTextAmong b.arena.texts) [] (texts_in k) c.texts) t;
}

can_all : (b : Build) (k : Ker) (env : CellEnv) (c : CanRewrite b k env) (ks : List Ker) → Each (SoundIn c.names c.context) ks → Each (Reads k) ks →
    Each (λ j. All (IsTextAmong b.arena.texts) (texts_in j)) ks → CanRewriteAll b env ks
can_all b k env c [] s r t = tt
can_all b k env c (j ∷ ks) s r t = (can_child b k j env c s.0 r.0 t.0, can_all b k env c ks s.1 r.1 t.1)

pub child_texts : (b : Build) (k : Ker) (env : CellEnv) → CanRewrite b k env → Each (λ j. All (IsTextAmong b.arena.texts) (texts_in j)) (out-Ker k).args
child_texts b k env c =
    texts_of_children (IsTextAmong b.arena.texts) k (All-tail (IsTextAmong b.arena.texts) [] (texts_in k) c.texts)

pub level_can : (b : Build) (k : Ker) (env : CellEnv) → CanRewrite b k env → setting_of (out-Ker k).op ≡ Level → CanRewriteAll b env (operands k)
level_can b k env c e =
    let z = sound_step c.names k c.context false c.sound in
    can_all b k env c (operands k) (level_sound c.names c.context (out-Ker k).op z.0 (out-Ker k).binds (out-Ker k).args e z.2)
    (children_read k (λ h. leaf (sym h ∙ e))) (operands_sound (λ j. All (IsTextAmong b.arena.texts) (texts_in j)) (out-Ker k).op (out-Ker k).args (child_texts b k env c))
  where
    leaf : Leaf ≡ Level → ⊥
    leaf e = cc

-- ---- growth

pub texts_later : (b c : Build) (xs : List (List ℕ)) → Grows b c → All (IsTextAmong b.arena.texts) xs → All (IsTextAmong c.arena.texts) xs
texts_later b c xs g h = All-weaker (IsTextAmong b.arena.texts) (IsTextAmong c.arena.texts) (λ x i. text-later b c x i g) xs h

pub can-later : (b c : Build) (k : Ker) (env : CellEnv) → Grows b c → CanRewrite b k env → CanRewrite c k env
can-later b c k env g h = record {
  names = h.names;
  context = h.context;
  sound = h.sound;
  holds = HoldsEnv-later b c h.names h.context k env g h.holds;
  texts = texts_later b c ([] ∷ texts_in k) g h.texts;
}

-- ---- binders

-- the sets and the body of a binder, with their kinds
pub record Parts (names : List Kind) (c : Context) (o : KerOp) (a : Kind) (xs : List ℕ) (ks : List Ker) : Type 0 where
  pub sets : List Ker
  pub body : Ker
  pub whole : ks ≡ sets ++ body ∷ []
  pub count : length sets ≡ length xs
  pub members : List Kind
  pub kind : Kind
  pub row : BinderRow o a members kind
  pub sets_are : Sets names c sets members
  pub body_is : Child names (c ++ zip xs members) false kind body

row_setting : (o : KerOp) (a : Kind) (as' : List Kind) → Row o a as' → setting_of o ≡ Binder → ⊥
row_setting o a as' (row_const v b h) e = absurd (cc)
row_setting o a as' r e = absurd (cc)

pub binder_parts : (names : List Kind) (c : Context) (o : KerOp) (a : Kind) (xs : List ℕ) (ks : List Ker) → setting_of o ≡ Binder →
    Node names c false o a xs ks → Parts names c o a xs ks
binder_parts names c o a xs ks e (node_name i primed b ys q) = absurd (cc)
binder_parts names c o a xs ks e (node_bound n b ys q) = absurd (cc)
binder_parts names c o a xs ks e (node_plain p b ys ls bs r h i) = absurd (row_setting o a bs r e)
binder_parts names c o a xs ks e (node_bounded ys x y l u p q r s) = absurd (cc)
binder_parts names c o a xs ks e (node_binder p b ys ls sets body ms d q n r t u) =
    record { sets = sets; body = body; whole = q; count = n; members = ms; kind = d; row = r; sets_are = t; body_is = u }
binder_parts names c o a xs ks e (node_update b x f i d j m p q r t) = absurd (cc)
binder_parts names c o a xs ks e (node_fold b x y d f q m p r t) = absurd (cc)

front : {X : Type 0} (ks : List X) (k : X) → take (length ks) (ks ++ k ∷ []) ≡ ks
front [] k = refl
front (x ∷ ks) k = ap (λ l. x ∷ l) (front ks k)

behind_front : {X : Type 0} (ks : List X) (k : X) → slice_get (ks ++ k ∷ []) (length ks) ≡ Some k
behind_front [] k = refl
behind_front (x ∷ ks) k = behind_front ks k

-- a binder's sets and body by their places
pub parts_sets : (names : List Kind) (c : Context) (o : KerOp) (a : Kind) (xs : List ℕ) (ks : List Ker) (p : Parts names c o a xs ks) →
    take (length xs) ks ≡ p.sets
parts_sets names c o a xs ks p = ap (λ n. take n ks) (sym p.count) ∙ ap (take (length p.sets)) p.whole ∙ front p.sets p.body

pub parts_body : (names : List Kind) (c : Context) (o : KerOp) (a : Kind) (xs : List ℕ) (ks : List Ker) (p : Parts names c o a xs ks) →
    slice_get ks (length xs) ≡ Some p.body
parts_body names c o a xs ks p = ap (slice_get ks) (sym p.count) ∙ ap (λ l. slice_get l (length p.sets)) p.whole ∙ behind_front p.sets p.body

sets_sound : (names : List Kind) (c : Context) (ks : List Ker) (ms : List Kind) → Sets names c ks ms → Each (SoundIn names c) ks
sets_sound names c [] ms h = tt
sets_sound names c (k ∷ ks) [] h = absurd h
sets_sound names c (k ∷ ks) (m ∷ ms) h = (h.0.1, sets_sound names c ks ms h.1)

pub sets_length : (names : List Kind) (c : Context) (ks : List Ker) (ms : List Kind) → Sets names c ks ms → length ks ≡ length ms
sets_length names c [] [] h = refl
sets_length names c [] (m ∷ ms) h = absurd h
sets_length names c (k ∷ ks) [] h = absurd h
sets_length names c (k ∷ ks) (m ∷ ms) h = ap suc (sets_length names c ks ms h.1)

abbrev pub BinderOf : (b : Build) (k : Ker) (env : CellEnv) (c : CanRewrite b k env) → Type 0
BinderOf b k env c = (a : Kind) × (kind_at k ≡ Some a) × Parts c.names c.context (out-Ker k).op a (out-Ker k).binds (out-Ker k).args

pub binder_of : (b : Build) (k : Ker) (env : CellEnv) (c : CanRewrite b k env) → setting_of (out-Ker k).op ≡ Binder → BinderOf b k env c
binder_of b k env c e =
    let z = sound_step c.names k c.context false c.sound in
    (z.0, z.1, binder_parts c.names c.context (out-Ker k).op z.0 (out-Ker k).binds (out-Ker k).args e z.2)

binder_reads : (k : Ker) → setting_of (out-Ker k).op ≡ Binder → Each (Reads k) (out-Ker k).args
binder_reads k e = subst (Each (Reads k)) (all (out-Ker k).op (out-Ker k).args e) (children_read k (λ h. leaf (sym h ∙ e)))
  where
    leaf : Leaf ≡ Binder → ⊥
    leaf e = cc

    all : (o : KerOp) (ks : List Ker) → setting_of o ≡ Binder → operands_at o ks ≡ ks
    all ker.Range ks e = absurd (cc)
    all o ks e = refl

pub binder_can : (b : Build) (k : Ker) (env : CellEnv) → CanRewrite b k env → setting_of (out-Ker k).op ≡ Binder → CanRewriteAll b env (sets_of k)
binder_can b k env c e =
    let z = binder_of b k env c e in
    let n : ℕ = length (out-Ker k).binds in
    let ks : List Ker = (out-Ker k).args in
    can_all b k env c (sets_of k)
    (subst (Each (SoundIn c.names c.context)) (sym (parts_sets c.names c.context (out-Ker k).op z.0 (out-Ker k).binds ks z.2))
    (sets_sound c.names c.context z.2.sets z.2.members z.2.sets_are))
    (each_take (Reads k) n ks (binder_reads k e)) (each_take (λ j. All (IsTextAmong b.arena.texts) (texts_in j)) n ks (child_texts b k env c))

-- ---- a child that stands at a place

module _ (b : Build) (k : Ker) (env : CellEnv) (c : CanRewrite b k env) (all : Each (Reads k) (out-Ker k).args) where
  pub place_can : (i : ℕ) (j : Ker) → slice_get (out-Ker k).args i ≡ Some j → SoundIn c.names c.context j → CanRewrite b j env
  place_can i j q s =
      can_child b k j env c s (each_at (Reads k) (out-Ker k).args i j q all)
      (each_at (λ j. All (IsTextAmong b.arena.texts) (texts_in j)) (out-Ker k).args i j q (child_texts b k env c))

  -- where the numbers have cells of these kinds, in a build that has grown
  pub under_can : (d : Build) (i : ℕ) (j : Ker) (xs : List ℕ) (ms : List Kind) (ids : List CellId) → Grows b d → slice_get (out-Ker k).args i ≡ Some j →
      SoundIn c.names (c.context ++ zip xs ms) j → length xs ≡ length ms → OfSorts d.arena.kinds (map sort_of ms) ids →
      CanRewrite d j (with_bound env xs ids)
  under_can d i j xs ms ids g q s n h =
      let texts = texts_later b d ([] ∷ texts_in k) g c.texts in
      record {
        names = c.names;
        context = c.context ++ zip xs ms;
        sound = s;
        holds = HoldsEnv-bound d.arena.kinds c.names c.context j env xs ms ids n h
            (HoldsEnv-child d.arena.kinds c.names c.context k j env (λ i' primed. each_at (Reads k) (out-Ker k).args i j q all (is_name i' primed))
            (HoldsEnv-later b d c.names c.context k env g c.holds));
        texts = All-cons (IsTextAmong d.arena.texts) [] (texts_in j) (All-head (IsTextAmong d.arena.texts) [] (texts_in k) texts)
            (each_at (λ j. All (IsTextAmong d.arena.texts) (texts_in j)) (out-Ker k).args i j q
            (texts_of_children (IsTextAmong d.arena.texts) k (All-tail (IsTextAmong d.arena.texts) [] (texts_in k) texts)));
      }

-- the body, where the numbers have cells of the members' sorts
pub body_can : (b d : Build) (k : Ker) (env : CellEnv) (c : CanRewrite b k env) (e : setting_of (out-Ker k).op ≡ Binder) (body : Ker) (ids : List CellId) →
    Grows b d → body_of k ≡ Some body → OfSorts d.arena.kinds (map sort_of (binder_of b k env c e).2.members) ids →
    CanRewrite d body (with_bound env (out-Ker k).binds ids)
body_can b d k env c e body ids g q h =
    let z = binder_of b k env c e in
    let xs : List ℕ = (out-Ker k).binds in
    let p = z.2 in
    let same : p.body ≡ body = one (sym (parts_body c.names c.context (out-Ker k).op z.0 xs (out-Ker k).args p) ∙ q) in
    under_can b k env c (binder_reads k e) d (length xs) body xs p.members ids g q
    (subst (λ j. SoundIn c.names (c.context ++ zip xs p.members) j) same p.body_is.1)
    (sym p.count ∙ sets_length c.names c.context p.sets p.members p.sets_are) h
  where
    one : {x y : Ker} → Some x ≡ Some y → x ≡ y
    one e = cc
