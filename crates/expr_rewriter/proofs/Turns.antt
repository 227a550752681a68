-- A body at one choice more, and a binder from its sets and bodies, where these have cells.
use Rattle.std.proofs.Common.{◌≡◌, ℕ, zero, suc, ◌<◌, ◌+◌, Bool, ◌&&◌, ◌||◌, IsTrue, List, [], ◌∷◌, ◌++◌, map, take, length, get_or, All, inl, inr, ◌⊎◌, refl, sym, ◌∙◌, ap, ap₂, subst, arith, Some}
use Rattle.std.specs.List.{list_any}
use Rattle.std.proofs.lemmas.List.{length_push}
use Rattle.std.proofs.lemmas.Option.{slice_get-get_or, slice_get_within}
use Rattle.std.proofs.lemmas.List.Elements.{All-append, All-cons, All-head, All-nil, All-tail, All-weaker}
use Rattle.sat_formula.specs.Lit.{IsBelow, lit_value}
use Rattle.sat_formula.specs.Formula.{Satisfies}
use Rattle.tla_values.specs.Sets.{elements}
use Rattle.tla_values.specs.declared.value.Value.{Value}
use Rattle.tla_meaning.specs.declared.job.State.{State}
use Rattle.tla_meaning.specs.Scopes.{Scope, bind}
use Rattle.tla_meaning.specs.Shapes.{choices}
use Rattle.cell_arena.specs.declared.build.Build.{Build}
use Rattle.cell_arena.specs.declared.kinds.CellId.{CellId}
use Rattle.cell_arena.specs.declared.kinds.CellKind.{CellKind}
use Rattle.cell_arena.specs.Decode.{decode}
use Rattle.cell_arena.specs.Growth.{Grows}
use Rattle.cell_arena.proofs.Growing.{Grows-trans, Satisfies-before, decode-before}
use Rattle.cell_merge.specs.Picks.{IsSetCell}
use Rattle.cell_merge.specs.Sorts.{Sort, set_of}
use Rattle.kernel_trees.specs.declared.kernel.Ker.{Ker, out-Ker}
use Rattle.kernel_trees.specs.Trees.{ker_val, names_of}
use Rattle.kernel_trees.specs.TypeKinds.{Kind}
use Rattle.kernel_ranges.specs.Ranges.{is_within}
use Rattle.outcome_cells.specs.declared.cells.Cells.{Cells}
use Rattle.outcome_cells.specs.Shows.{Shows}
use Rattle.outcome_cells.proofs.Later.{width-later}
use Rattle.typed_cells.specs.KindSorts.{sort_of}
use Rattle.typed_cells.proofs.PartSorts.{OfSorts-later, sorts-there}
use Rattle.member_choices.specs.declared.choice.Choice.{Choice}
use Rattle.member_choices.specs.Choices.{ChoicesBelow, ChoicesOf, ListsChoices, any_choice}
use Rattle.typed_cells.specs.KindSorts.{OfSorts}
use Rattle.expr_rewriter.specs.declared.cell_env.CellEnv.{CellEnv}
use Rattle.expr_rewriter.specs.declared.settings.Setting.TheVariants.{Binder}
use Rattle.expr_rewriter.specs.Environments.{AreThere, Fits}
use Rattle.expr_rewriter.specs.Rewriting.{CanRewrite, HasTreeSort, Rewrites}
use Rattle.expr_rewriter.specs.inner.Binding.{AreBodiesAt, Binds, BodiesGive, CanBindNode, CanRewriteAt, SetKinds, body_of, sets_of}
use Rattle.expr_rewriter.specs.inner.Parts.{AreTrees, CanRewriteAll, IsTree}
use Rattle.expr_rewriter.specs.inner.Settings.{setting_of, with_bound}
use Rattle.expr_rewriter.proofs.Bound.{SetCells, are_sets, set_cells, set_sorts, sets_kinds}
use Rattle.expr_rewriter.proofs.Fitting.{Fits-before, Rewrites-later, fits_bound}
use Rattle.expr_rewriter.proofs.Opening.{BinderOf, Parts, binder_can, binder_of, body_can, can-later, parts_body, parts_sets, sets_length}
use Rattle.expr_rewriter.proofs.Steps.{are_parts, env_there, sort_later, tree_there, trees_later, trees_show}

-- ---- bodies

-- the first so many choices have bodies
pub record FrontBodies (b : Build) (env : CellEnv) (xs : List ℕ) (k : Ker) (cs : List Choice) (n : ℕ) (bodies : List Cells) : Type 0 where
  pub count : length bodies ≡ n
  pub sorts : All (HasTreeSort b k) bodies
  pub rewrites : (i : ℕ) (d : Choice) (x : Cells) → i < n → Rewrites b k (with_bound env xs (get_or cs i d).cells) (get_or bodies i x)

pub no_bodies : (b : Build) (env : CellEnv) (xs : List ℕ) (k : Ker) (cs : List Choice) (bodies : List Cells) → bodies ≡ [] →
    FrontBodies b env xs k cs 0 bodies
no_bodies b env xs k cs bodies e = record {
  count = ap length e;
  sorts = subst (All (HasTreeSort b k)) (sym e) (All-nil (HasTreeSort b k));
  rewrites = λ i d x lt. absurd (omega arith);
}

pub all_bodies : (b : Build) (env : CellEnv) (xs : List ℕ) (k : Ker) (cs : List Choice) (n : ℕ) (bodies : List Cells) → n ≡ length cs →
    FrontBodies b env xs k cs n bodies → AreBodiesAt b env xs k cs bodies
all_bodies b env xs k cs n bodies e h = record {
  count = h.count ∙ e;
  sorts = h.sorts;
  rewrites = λ i d x lt. h.rewrites i d x (omega arith);
}

at_old : (xs : List Cells) (y : Cells) (i : ℕ) (d : Cells) → i < length xs → get_or (xs ++ y ∷ []) i d ≡ get_or xs i d
at_old [] y i d lt = absurd (omega arith)
at_old (x ∷ xs) y zero d lt = refl
at_old (x ∷ xs) y (suc i) d lt = at_old xs y i d (omega arith)

at_new : (xs : List Cells) (y : Cells) (i : ℕ) (d : Cells) → i ≡ length xs → get_or (xs ++ y ∷ []) i d ≡ y
at_new [] y i d e = ap (λ (n : ℕ). get_or (y ∷ []) n d) e
at_new (x ∷ xs) y zero d e = absurd (cc)
at_new (x ∷ xs) y (suc i) d e = at_new xs y i d (omega arith)

below : (j i : ℕ) → j < suc i → (j < i) ⊎ (j ≡ i)
below zero zero h = inr refl
below zero (suc i) h = inl (omega arith)
below (suc j) zero h = absurd (omega arith)
below (suc j) (suc i) h = elim (below j i (omega arith)) as (λ _. (suc j < suc i) ⊎ (suc j ≡ suc i)) [
  | inl o ↦ inl (omega arith)
  | inr n ↦ inr (ap suc n)
]

choice_at : (cs : List Choice) (i : ℕ) (d c : Choice) → i < length cs → get_or cs i d ≡ get_or cs i c
choice_at [] i d c lt = absurd (omega arith)
choice_at (x ∷ cs) zero d c lt = refl
choice_at (x ∷ cs) (suc i) d c lt = choice_at cs i d c (omega arith)

module _ (b0 b : Build) (env env' : CellEnv) (xs : List ℕ) (k : Ker) (cs : List Choice) (i : ℕ) (ids : List CellId) (c : Choice) where
  -- one more
  pub body_count : CanRewriteAt b0 env xs k cs → i < length cs → ids ≡ (get_or cs i c).cells → length xs ≡ length ids
  body_count can lt e = (can i c lt).0 ∙ ap length (sym e)

  pub can_body : CanRewriteAt b0 env xs k cs → Grows b0 b → i < length cs → ids ≡ (get_or cs i c).cells → env' ≡ env →
      CanRewrite b k (with_bound env' xs ids)
  can_body can g lt e q =
      subst (λ (v : CellEnv). CanRewrite b k (with_bound v xs ids)) (sym q)
      (subst (λ (l : List CellId). CanRewrite b k (with_bound env xs l)) (sym e) (can-later b0 b k (with_bound env xs (get_or cs i c).cells) g (can i c lt).1))

  pub bodies_turn : (d : Build) (bodies : List Cells) (y : Cells) → CanRewriteAt b0 env xs k cs → Grows b0 b → Grows b d → i < length cs →
      ids ≡ (get_or cs i c).cells → env' ≡ env → FrontBodies b env xs k cs i bodies → IsTree d k (with_bound env' xs ids) y →
      FrontBodies d env xs k cs (i + 1) (bodies ++ y ∷ [])
  bodies_turn d bodies y can g h lt e q f t = record {
    count = length_push bodies y ∙ ap (λ (n : ℕ). n + 1) f.count;
    sorts = All-append (HasTreeSort d k) bodies (y ∷ [])
        (All-weaker (HasTreeSort b k) (HasTreeSort d k) (λ x s. sort_later b d k x h s) bodies f.sorts)
        (All-cons (HasTreeSort d k) y [] t.sort (All-nil (HasTreeSort d k)));
    rewrites = λ j a x le. elim (older j le) as (λ _. Rewrites d k (with_bound env xs (get_or cs j a).cells) (get_or (bodies ++ y ∷ []) j x)) [
      | inl o ↦ old j a x o
      | inr n ↦ new j a x n
    ];
  }
    where
      older : (j : ℕ) → j < i + 1 → (j < i) ⊎ (j ≡ i)
      older j le = below j i (omega arith)

      env_at : (j : ℕ) (a : Choice) → j < i → AreThere (length b.arena.kinds) (with_bound env xs (get_or cs j a).cells)
      env_at j a o = env_there b0 b k (with_bound env xs (get_or cs j a).cells) (can j a (omega arith)).1 g

      sort_at : (j : ℕ) (x : Cells) → j < i → HasTreeSort b k (get_or bodies j x)
      sort_at j x o = f.sorts j x (let n = f.count in omega arith)

      old : (j : ℕ) (a : Choice) (x : Cells) → j < i → Rewrites d k (with_bound env xs (get_or cs j a).cells) (get_or (bodies ++ y ∷ []) j x)
      old j a x o =
          subst (Rewrites d k (with_bound env xs (get_or cs j a).cells)) (sym (at_old bodies y j x (let n = f.count in omega arith)))
          (Rewrites-later b d k (with_bound env xs (get_or cs j a).cells) (get_or bodies j x) h (env_at j a o)
          (tree_there b0 b k (with_bound env xs (get_or cs j a).cells) (get_or bodies j x) (can j a (omega arith)).1 (sort_at j x o)) (f.rewrites j a x o))

      new : (j : ℕ) (a : Choice) (x : Cells) → j ≡ i → Rewrites d k (with_bound env xs (get_or cs j a).cells) (get_or (bodies ++ y ∷ []) j x)
      new j a x n =
          subst (Rewrites d k (with_bound env xs (get_or cs j a).cells)) (sym (at_new bodies y j x (n ∙ sym f.count)))
          (subst (λ (l : List CellId). Rewrites d k (with_bound env xs l) y)
          (e ∙ ap (λ (m : ℕ). (get_or cs m c).cells) (sym n) ∙ ap (λ (z : Choice). z.cells) (choice_at cs j c a (omega arith)))
          (subst (λ (v : CellEnv). Rewrites d k (with_bound v xs ids) y) q t.rewrites))

-- ---- a binder

sorts_count : (ks : List CellKind) (ms : List Kind) (ids : List CellId) → OfSorts ks (map sort_of ms) ids → length ms ≡ length ids
sorts_count ks [] [] h = refl
sorts_count ks [] (x ∷ xs) h = absurd h
sorts_count ks (m ∷ ms) [] h = absurd h
sorts_count ks (m ∷ ms) (x ∷ xs) h = ap suc (sorts_count ks ms xs h.1)

under_ids : (b d : Build) (a : List Bool) (ids : List CellId) → Grows b d → All (λ (id : CellId). id.index < length b.arena.kinds) ids →
    map (decode d.arena a) ids ≡ map (decode b.arena a) ids
under_ids b d a [] g h = refl
under_ids b d a (x ∷ xs) g h =
    ap₂ (λ (v : Value) (vs : List Value). v ∷ vs) (decode-before b d a x g (All-head (λ (id : CellId). id.index < length b.arena.kinds) x xs h))
    (under_ids b d a xs g (All-tail (λ (id : CellId). id.index < length b.arena.kinds) x xs h))

-- whether some choice is there that passes, of older cells
any_older : (b d : Build) (a : List Bool) (p : List Value → Bool) (ss : List Sort) (cs : List Choice) → Grows b d → ChoicesOf b.arena.kinds ss cs →
    any_choice a (decode d.arena a) p cs ≡ any_choice a (decode b.arena a) p cs
any_older b d a p ss [] g h = refl
any_older b d a p ss (c ∷ cs) g h =
    ap₂ (λ (q r : Bool). (lit_value c.there a && q) || r)
    (ap p (under_ids b d a c.cells g (sorts-there b.arena.kinds ss c.cells (All-head (λ (x : Choice). OfSorts b.arena.kinds ss x.cells) c cs h))))
    (any_older b d a p ss cs g (All-tail (λ (x : Choice). OfSorts b.arena.kinds ss x.cells) c cs h))

elements_older : (b d : Build) (a : List Bool) (ids : List CellId) → Grows b d → All (λ (id : CellId). id.index < length b.arena.kinds) ids →
    map (λ id. elements (decode d.arena a id)) ids ≡ map (λ id. elements (decode b.arena a id)) ids
elements_older b d a [] g h = refl
elements_older b d a (x ∷ xs) g h =
    ap₂ (λ (v : List Value) (vs : List (List Value)). v ∷ vs)
    (ap elements (decode-before b d a x g (All-head (λ (id : CellId). id.index < length b.arena.kinds) x xs h)))
    (elements_older b d a xs g (All-tail (λ (id : CellId). id.index < length b.arena.kinds) x xs h))

below_later : (b d : Build) (cs : List Choice) → Grows b d → ChoicesBelow b.formula.vars cs → ChoicesBelow d.formula.vars cs
below_later b d cs g h =
    All-weaker (λ (c : Choice). IsBelow b.formula.vars c.there) (λ (c : Choice). IsBelow d.formula.vars c.there)
    (λ c lt. let n = g.formula.vars in omega arith) cs h

choices_later : (b d : Build) (ss : List Sort) (cs : List Choice) → Grows b d → ChoicesOf b.arena.kinds ss cs → ChoicesOf d.arena.kinds ss cs
choices_later b d ss cs g h =
    All-weaker (λ (c : Choice). OfSorts b.arena.kinds ss c.cells) (λ (c : Choice). OfSorts d.arena.kinds ss c.cells)
    (λ c k. OfSorts-later b d ss c.cells k g) cs h

-- a binder's sets and body by other lists
pub sets_can : (b : Build) (k : Ker) (env : CellEnv) (xs : List ℕ) (ks : List Ker) → xs ≡ (out-Ker k).binds → ks ≡ (out-Ker k).args →
    CanRewriteAll b env (sets_of k) → CanRewriteAll b env (take (length xs) ks)
sets_can b k env xs ks p q c = subst (CanRewriteAll b env) (sym (ap₂ (λ (n : ℕ) (l : List Ker). take n l) (ap length p) q)) c

pub sets_made : (b : Build) (k : Ker) (env : CellEnv) (xs : List ℕ) (ks : List Ker) (zs ys : List Cells) → xs ≡ (out-Ker k).binds →
    ks ≡ (out-Ker k).args → ys ≡ zs → AreTrees b env (take (length xs) ks) zs → AreTrees b env (sets_of k) ys
sets_made b k env xs ks zs ys p q r t =
    subst (AreTrees b env (sets_of k)) (sym r) (subst (λ l. AreTrees b env l zs) (ap₂ (λ (n : ℕ) (l : List Ker). take n l) (ap length p) q) t)

pub body_made : (k : Ker) (xs : List ℕ) (ks : List Ker) (body : Ker) → xs ≡ (out-Ker k).binds → ks ≡ (out-Ker k).args →
    body ≡ get_or ks (length xs) body → body ≡ get_or (out-Ker k).args (length (out-Ker k).binds) body
body_made k xs ks body p q r = r ∙ ap₂ (λ (l : List Ker) (n : ℕ). get_or l n body) q (ap length p)

pub body_within : (b : Build) (k : Ker) (env : CellEnv) (xs : List ℕ) (ks : List Ker) → CanRewrite b k env → setting_of (out-Ker k).op ≡ Binder →
    xs ≡ (out-Ker k).binds → ks ≡ (out-Ker k).args → length xs < length ks
body_within b k env xs ks can e p q =
    let own = binder_of b k env can e in
    let lt = slice_get_within (out-Ker k).args (length (out-Ker k).binds) own.2.body
    (parts_body can.names can.context (out-Ker k).op own.0 (out-Ker k).binds (out-Ker k).args own.2) in
    subst (λ (l : List Ker). length xs < length l) (sym q) (subst (λ (l : List ℕ). length l < length (out-Ker k).args) (sym p) lt)

pub choices_made : (b : Build) (sets ys : List Cells) (cs ds : List Choice) → ds ≡ cs → ys ≡ sets →
    ListsChoices b.arena b.formula (map (λ x. x.cell) sets) cs → ListsChoices b.arena b.formula (map (λ x. x.cell) ys) ds
choices_made b sets ys cs ds p q l =
    subst (λ zs. ListsChoices b.arena b.formula (map (λ x. x.cell) zs) ds) (sym q)
    (subst (λ es. ListsChoices b.arena b.formula (map (λ x. x.cell) sets) es) (sym p) l)

pub bodies_made : (b : Build) (env : CellEnv) (xs : List ℕ) (k : Ker) (cs : List Choice) (bodies ys : List Cells) → ys ≡ bodies →
    AreBodiesAt b env xs k cs bodies → AreBodiesAt b env xs k cs ys
bodies_made b env xs k cs bodies ys p h = subst (AreBodiesAt b env xs k cs) (sym p) h

-- the kinds of a binder's sets, and what comes of them: b0 is the build in which the tree can be rewritten, b that of the
-- cells of its sets
module _ (b0 b : Build) (k : Ker) (env : CellEnv) (sets : List Cells) (can : CanRewrite b0 k env) (e : setting_of (out-Ker k).op ≡ Binder) (g : Grows b0 b)
    (t : AreTrees b env (sets_of k) sets) where
  abbrev own : BinderOf b0 k env can
  own = binder_of b0 k env can e

  abbrev own_parts : Parts can.names can.context (out-Ker k).op own.0 (out-Ker k).binds (out-Ker k).args
  own_parts = own.2

  cells_of_sets : (ms : List Kind) → SetKinds (sets_of k) ms → SetCells b ms sets
  cells_of_sets ms h = set_cells b (sets_of k) ms sets h (are_parts b env (sets_of k) sets t)

  own_kinds : SetKinds (sets_of k) own_parts.members
  own_kinds =
      subst (λ ks. SetKinds ks own_parts.members) (sym (parts_sets can.names can.context (out-Ker k).op own.0 (out-Ker k).binds (out-Ker k).args own_parts))
      (sets_kinds can.names can.context own_parts.sets own_parts.members own_parts.sets_are)

  pub sets_are : All (λ (x : Cells). IsSetCell b x.cell) sets
  sets_are = are_sets b own_parts.members sets (cells_of_sets own_parts.members own_kinds)

  pub members_count : length (out-Ker k).binds ≡ length own_parts.members
  members_count = sym own_parts.count ∙ sets_length can.names can.context own_parts.sets own_parts.members own_parts.sets_are

  body_there : length (out-Ker k).binds < length (out-Ker k).args
  body_there = body_within b0 k env (out-Ker k).binds (out-Ker k).args can e refl refl

  body_at : (body : Ker) → body ≡ get_or (out-Ker k).args (length (out-Ker k).binds) body → body_of k ≡ Some body
  body_at body q = slice_get-get_or (out-Ker k).args (length (out-Ker k).binds) body body_there ∙ ap Some (sym q)

  -- the choices of the sets' members, which d lists
  module _ (d : Build) (cs : List Choice) (h : Grows b d) (l : ListsChoices d.arena d.formula (map (λ x. x.cell) sets) cs) where
    of_kinds : (ms : List Kind) → SetKinds (sets_of k) ms → ChoicesOf d.arena.kinds (map sort_of ms) cs
    of_kinds ms q =
        l.sorts (map sort_of ms) (OfSorts-later b d (map set_of (map sort_of ms)) (map (λ x. x.cell) sets) (set_sorts b ms sets (cells_of_sets ms q)) h)

    ids_there : All (λ (id : CellId). id.index < length d.arena.kinds) (map (λ x. x.cell) sets)
    ids_there =
        sorts-there d.arena.kinds (map set_of (map sort_of own_parts.members)) (map (λ x. x.cell) sets)
        (OfSorts-later b d (map set_of (map sort_of own_parts.members)) (map (λ x. x.cell) sets)
        (set_sorts b own_parts.members sets (cells_of_sets own_parts.members own_kinds)) h)

    pub can_at_choices : (xs : List ℕ) (body : Ker) (env' : CellEnv) → xs ≡ (out-Ker k).binds → body ≡ get_or (out-Ker k).args (length (out-Ker k).binds) body →
        env' ≡ env → CanRewriteAt d env' xs body cs
    can_at_choices xs body env' p q r =
        subst (λ (v : CellEnv). CanRewriteAt d v xs body cs) (sym r)
        (subst (λ (ns : List ℕ). CanRewriteAt d env ns body cs) (sym p)
        (All-weaker (λ (c : Choice). OfSorts d.arena.kinds (map sort_of own_parts.members) c.cells)
        (λ (c : Choice). (length (out-Ker k).binds ≡ length c.cells) × CanRewrite d body (with_bound env (out-Ker k).binds c.cells))
        (λ c o. (
          members_count ∙ sorts_count d.arena.kinds own_parts.members c.cells o,
          body_can b0 d k env can e body c.cells (Grows-trans b0 b d g h) (body_at body q) o,
        )) cs (of_kinds own_parts.members own_kinds)))

    -- at a later build f, in which the bodies are
    module _ (f : Build) (xs : List ℕ) (body : Ker) (env' : CellEnv) (bodies : List Cells) (j : Grows d f) (p : xs ≡ (out-Ker k).binds)
        (q : body ≡ get_or (out-Ker k).args (length (out-Ker k).binds) body) (r : env' ≡ env) (u : AreBodiesAt f env' xs body cs bodies) where
      pub can_bind_node : CanBindNode f k sets cs bodies
      can_bind_node = record {
        names = can.names;
        context = can.context;
        sound = can.sound;
        binder = e;
        parts = are_parts f env (sets_of k) sets (trees_later b0 b f env (sets_of k) sets (binder_can b0 k env can e) g (Grows-trans b d f h j) t);
        below = below_later d f cs j l.below;
        choices_are = λ ms s. choices_later d f (map sort_of ms) cs j (of_kinds ms s);
        members = λ a m test.
            any_older d f a test (map sort_of own_parts.members) cs j (of_kinds own_parts.members own_kinds)
            ∙ l.members a (Satisfies-before d f a j m) test
            ∙ ap (λ xss. list_any test (choices xss)) (sym (elements_older d f a (map (λ x. x.cell) sets) j ids_there));
        count = u.count;
        sorts = λ other o. subst (λ y. All (HasTreeSort f y) bodies) (one (sym (body_at body q) ∙ o)) u.sorts;
      }
        where
          one : {x y : Ker} → Some x ≡ Some y → x ≡ y
          one e = cc

      bodies_give : (a : List Bool) (sc : Scope) (s t' : State) → Satisfies a f.formula → Fits f.arena a env sc s t' → BodiesGive f.arena a k sc s t' cs bodies
      bodies_give a sc s t' m fits = record {
        at = λ other o i c x lt there w.
            let same : body ≡ other = one (sym (body_at body q) ∙ o) in
            let ids : List CellId = (get_or cs i c).cells in
            let sorts : OfSorts d.arena.kinds (map sort_of own_parts.members) ids = of_kinds own_parts.members own_kinds i c lt in
            let made : Rewrites f body (with_bound env (out-Ker k).binds ids) (get_or bodies i x) =
            subst (λ (ns : List ℕ). Rewrites f body (with_bound env ns ids) (get_or bodies i x)) p
            (subst (λ (v : CellEnv). Rewrites f body (with_bound v xs ids) (get_or bodies i x)) r (u.rewrites i c x lt)) in
            let under : Scope = bind (names_of (out-Ker k).binds) (map (decode f.arena a) ids) sc in
            subst (λ y. Shows f.arena a (get_or bodies i x) (ker_val (Some f.arena.width) y under s t')) same
            (made.shows a m under s t'
            (fits_bound f.arena a env sc s t' (out-Ker k).binds ids (members_count ∙ sorts_count d.arena.kinds own_parts.members ids sorts) fits)
            (subst (λ y. IsTrue (is_within (Some f.arena.width) y under s t')) (sym same) w));
      }
        where
          one : {x y : Ker} → Some x ≡ Some y → x ≡ y
          one e = cc

      pub bound_tree : (z : Build) (x : Cells) → Grows f z → HasTreeSort z k x → Binds f z k sets cs bodies x → IsTree z k env x
      bound_tree z x v o n = record {
        sort = o;
        rewrites = record {
          shows = λ a m sc s t' fits w.
              let wide : z.arena.width ≡ f.arena.width = width-later f z v in
              let sat = Satisfies-before f z a v m in
              let old = Fits-before f z a env sc s t' v (env_there b0 f k env can (Grows-trans b0 d f (Grows-trans b0 b d g h) j)) fits in
              let later = trees_later b0 b f env (sets_of k) sets (binder_can b0 k env can e) g (Grows-trans b d f h j) t in
              subst (λ n. Shows z.arena a x (ker_val (Some n) k sc s t')) (sym wide)
              (n.shows a m sc s t' (subst (λ n. IsTrue (is_within (Some n) k sc s t')) wide w)
              (trees_show f a env sc s t' (sets_of k) sets sat old later) (bodies_give a sc s t' sat old));
        };
      }
