-- An update in the recursion: what its children are, and the node from their cells.
use Rattle.std.proofs.Common.{◌≡◌, ℕ, ◌<◌, Bool, true, false, IsTrue, List, [], ◌∷◌, ◌++◌, take, zip, length, get_or, refl, sym, ◌∙◌, ap, subst, arith, Option, Some, None, if◌then◌else◌}
use Rattle.std.specs.Prelude.{IfSome, slice_get}
use Rattle.sat_formula.specs.declared.lit.Lit.{Lit}
use Rattle.sat_formula.specs.Lit.{lit_value}
use Rattle.sat_formula.specs.Formula.{Satisfies}
use Rattle.tla_values.specs.declared.value.Value.{Value, out-Value}
use Rattle.tla_meaning.specs.declared.job.State.{State}
use Rattle.tla_meaning.specs.Meaning.{At, Outside, Reached, step_into}
use Rattle.tla_meaning.specs.Scopes.{Scope, bind}
use Rattle.cell_arena.specs.declared.build.Build.{Build}
use Rattle.cell_arena.specs.declared.kinds.CellId.{CellId}
use Rattle.cell_arena.specs.Cells.{Cells as Arena}
use Rattle.cell_arena.specs.Decode.{decode}
use Rattle.cell_arena.specs.Growth.{Grows}
use Rattle.cell_arena.proofs.Growing.{Grows-refl, Grows-trans, Satisfies-before, decode-before}
use Rattle.cell_merge.specs.Sorts.{OfSort}
use Rattle.cell_merge.proofs.Edges.{sort-there}
use Rattle.kernel_trees.specs.declared.kernel.Ker.{Ker, out-Ker}
use Rattle.kernel_trees.specs.declared.kernel.KerOp.{KerOp}
use Rattle.kernel_trees.specs.declared.kernel.KerOp.TheVariants as ker
use Rattle.kernel_trees.specs.Sound.{kind_at, literal_of, sound, updated_kind}
use Rattle.kernel_trees.specs.Trees.{ker_val, names_of}
use Rattle.kernel_trees.specs.TypeKinds.{Kind}
use Rattle.kernel_trees.proofs.Trees.{Each}
use Rattle.kernel_ranges.specs.Ranges.{is_within}
use Rattle.outcome_cells.specs.declared.cells.Cells.{Cells}
use Rattle.outcome_cells.specs.Shows.{AreCells, Shows}
use Rattle.outcome_cells.proofs.Later.{cells-there, width-later}
use Rattle.typed_cells.specs.KindSorts.{sort_of}
use Rattle.function_operators.specs.Updates.{is_outside, outside_of, reached}
use Rattle.expr_rewriter.specs.declared.cell_env.CellEnv.{CellEnv}
use Rattle.expr_rewriter.specs.declared.settings.Setting.TheVariants.{Leaf, Update}
use Rattle.expr_rewriter.specs.Environments.{Fits}
use Rattle.expr_rewriter.specs.Operating.{AreParts, operands_at}
use Rattle.expr_rewriter.specs.Rewriting.{CanRewrite, HasTreeSort}
use Rattle.expr_rewriter.specs.inner.Parts.{IsTree, PartsShow}
use Rattle.expr_rewriter.specs.inner.Settings.{setting_of, with_bound}
use Rattle.expr_rewriter.specs.inner.Updating.{CanChange, CanUpdate, GivesIndex, HasIndex, IsOldOf, IsRight, MakesRight, ShowsRight, Updates, update_body, update_index, update_parts}
use Rattle.expr_rewriter.proofs.Fitting.{Fits-before, fits_bound}
use Rattle.expr_rewriter.proofs.FoldNodes.{parts_later}
use Rattle.expr_rewriter.proofs.Levels.{some_kind}
use Rattle.expr_rewriter.proofs.Opening.{Reads, can-later, children_read, place_can, under_can}
use Rattle.expr_rewriter.proofs.Steps.{env_there, sort_later, tree_later, trees_show}
use Rattle.expr_rewriter.proofs.UpdateNodes.{UpdateAt, UpdateOf, update_at}

update_reads : (k : Ker) → setting_of (out-Ker k).op ≡ Update → Each (Reads k) (out-Ker k).args
update_reads k e = subst (Each (Reads k)) (all (out-Ker k).op (out-Ker k).args e) (children_read k (λ h. leaf (sym h ∙ e)))
  where
    leaf : Leaf ≡ Update → ⊥
    leaf e = cc

    all : (o : KerOp) (ks : List Ker) → setting_of o ≡ Update → operands_at o ks ≡ ks
    all ker.Range ks e = absurd (cc)
    all o ks e = refl

one_ker : {x y : Ker} → Some x ≡ Some y → x ≡ y
one_ker e = cc

-- ---- the children

module _ (b : Build) (k : Ker) (env : CellEnv) (can : CanRewrite b k env) (e : setting_of (out-Ker k).op ≡ Update) where
  abbrev node : UpdateAt can.names can.context k
  node = update_at can.names can.context k can.sound e

  abbrev parts : UpdateOf can.names can.context node.0 (out-Ker k).binds (out-Ker k).args
  parts = node.3

  at_place : (ks : List Ker) (i : ℕ) (j d : Ker) → ks ≡ (out-Ker k).args → get_or (parts.whole ∷ parts.index ∷ parts.body ∷ []) i d ≡ j → get_or ks i d ≡ j
  at_place ks i j d p q = ap (λ (l : List Ker). get_or l i d) (p ∙ parts.args) ∙ q

  pub three_args : (ks : List Ker) → ks ≡ (out-Ker k).args → length ks ≡ 3
  three_args ks p = ap length (p ∙ parts.args)

  pub one_number : (xs : List ℕ) → xs ≡ (out-Ker k).binds → length xs ≡ 1
  one_number xs p = ap length (p ∙ parts.binds)

  pub whole_same : (ks : List Ker) (j : Ker) → ks ≡ (out-Ker k).args → j ≡ get_or ks 0 j → j ≡ parts.whole
  whole_same ks j p q = q ∙ at_place ks 0 parts.whole j p refl

  pub index_same : (ks : List Ker) (j : Ker) → ks ≡ (out-Ker k).args → j ≡ get_or ks 1 j → j ≡ parts.index
  index_same ks j p q = q ∙ at_place ks 1 parts.index j p refl

  pub body_is : (ks : List Ker) (j : Ker) → ks ≡ (out-Ker k).args → j ≡ get_or ks 2 j → update_body k ≡ Some j
  body_is ks j p q = ap (λ (l : List Ker). slice_get l 2) parts.args ∙ ap Some (sym (q ∙ at_place ks 2 parts.body j p refl))

  pub body_same : (body : Ker) → update_body k ≡ Some body → body ≡ parts.body
  body_same body q = one_ker (sym q ∙ ap (λ (l : List Ker). slice_get l 2) parts.args)

  pub whole_can : (ks : List Ker) (j : Ker) → ks ≡ (out-Ker k).args → j ≡ get_or ks 0 j → CanRewrite b j env
  whole_can ks j p q =
      subst (λ (y : Ker). CanRewrite b y env) (sym (whole_same ks j p q))
      (place_can b k env can (update_reads k e) 0 parts.whole (ap (λ (l : List Ker). slice_get l 0) parts.args) parts.whole_is.1)

  pub index_can : (d : Build) (env' : CellEnv) (ks : List Ker) (j : Ker) → Grows b d → env' ≡ env → ks ≡ (out-Ker k).args → j ≡ get_or ks 1 j →
      CanRewrite d j env'
  index_can d env' ks j g r p q =
      subst (CanRewrite d j) (sym r)
      (subst (λ (y : Ker). CanRewrite d y env) (sym (index_same ks j p q))
      (can-later b d parts.index env g
      (place_can b k env can (update_reads k e) 1 parts.index (ap (λ (l : List Ker). slice_get l 1) parts.args) parts.index_is.1)))

  -- the cells of the function and of the index
  pub parts_are : (d f : Build) (env1 env2 : CellEnv) (ks : List Ker) (i j : Ker) (whole place : Cells) → Grows d f → ks ≡ (out-Ker k).args →
      i ≡ get_or ks 0 i → j ≡ get_or ks 1 j → IsTree d i env1 whole → IsTree f j env2 place → AreParts f (update_parts k) (whole ∷ place ∷ [])
  parts_are d f env1 env2 ks i j whole place g p q r t u =
      subst (λ l. AreParts f (take 2 l) (whole ∷ place ∷ [])) (sym parts.args) (
        subst (λ (y : Ker). HasTreeSort f y whole) (whole_same ks i p q) (sort_later d f i whole g t.sort),
        (subst (λ (y : Ker). HasTreeSort f y place) (index_same ks j p r) u.sort, tt),
      )

  module _ (f : Build) (whole place : Cells) (cells : AreParts f (update_parts k) (whole ∷ place ∷ [])) where
    both : AreParts f (parts.whole ∷ parts.index ∷ []) (whole ∷ place ∷ [])
    both = subst (λ l. AreParts f (take 2 l) (whole ∷ place ∷ [])) parts.args cells

    whole_cells : AreCells f (sort_of node.0) whole
    whole_cells = both.0 node.0 parts.whole_is.0

    place_cells : AreCells f (sort_of parts.place) place
    place_cells = both.1.0 parts.place parts.index_is.0

    found_at : (ks : List Ker) (j : Ker) → ks ≡ (out-Ker k).args → j ≡ get_or ks 1 j →
        updated_kind node.0 parts.place (literal_of (out-Ker j).op) ≡ Some parts.part
    found_at ks j p q = ap (λ (y : Ker). updated_kind node.0 parts.place (literal_of (out-Ker y).op)) (index_same ks j p q) ∙ parts.found

    pub tree_index : (ks : List Ker) (j : Ker) → ks ≡ (out-Ker k).args → j ≡ get_or ks 1 j → HasIndex f.arena.kinds whole.cell place.cell j
    tree_index ks j p q = record {
      whole = node.0;
      place = parts.place;
      part = parts.part;
      whole_is = whole_cells.sort;
      place_is = place_cells.sort;
      found = found_at ks j p q;
    }

    module _ (h : Build) (env2 : CellEnv) (ks : List Ker) (j : Ker) (old : Option (CellId × Lit)) (g : Grows b h) (r : env2 ≡ env) (p : ks ≡ (out-Ker k).args)
        (q : j ≡ get_or ks 1 j) (o : IsOldOf f h whole.cell place.cell j old) where
      old_sort : IfSome old (λ (z : CellId × Lit). OfSort h.arena.kinds (sort_of parts.part) z.0)
      old_sort = o.sort node.0 parts.place parts.part whole_cells.sort place_cells.sort (found_at ks j p q)

      pub can_change : CanChange h env2 k old
      can_change = record {
        can = subst (CanRewrite h k) (sym r) (can-later b h k env g can);
        update = e;
        below = o.below;
        sort = λ body d l m.
            subst (λ (y : Kind). IfSome old (λ (z : CellId × Lit). OfSort h.arena.kinds (sort_of y) z.0))
            (some_kind parts.part d (sym (ap kind_at (body_same body l) ∙ parts.body_is.0) ∙ m)) old_sort;
      }

      below_right : (z : Build) (body : Ker) (old : Option (CellId × Lit)) (change : Option (Lit × Cells)) → Grows h z →
          IfSome old (λ (y : CellId × Lit). y.1.var < h.formula.vars) → IsRight z env2 (out-Ker k).binds body old change →
          IfSome change (λ (x : Lit × Cells). x.0.var < z.formula.vars)
      below_right z body None None v m n = tt
      below_right z body None (Some x) v m n = absurd n
      below_right z body (Some y) None v m n = absurd n
      below_right z body (Some y) (Some x) v m n =
          subst (λ (l : Lit). l.var < z.formula.vars) (sym n.0) (let u = v.formula.vars in omega arith)

      sort_right : (z : Build) (body : Ker) (old : Option (CellId × Lit)) (change : Option (Lit × Cells)) → IsRight z env2 (out-Ker k).binds body old change →
          IfSome change (λ (x : Lit × Cells). HasTreeSort z body x.1)
      sort_right z body None None n = tt
      sort_right z body None (Some x) n = absurd n
      sort_right z body (Some y) None n = absurd n
      sort_right z body (Some y) (Some x) n = n.1.sort

      module _ (z : Build) (change : Option (Lit × Cells)) (v : Grows h z) (fh : Grows f h) (right : MakesRight z env2 k old change) where
        body_here : update_body k ≡ Some parts.body
        body_here = ap (λ (l : List Ker). slice_get l 2) parts.args

        pub can_update_node : CanUpdate z k whole place change
        can_update_node = record {
          names = can.names;
          context = can.context;
          sound = can.sound;
          update = e;
          parts = parts_later f z (update_parts k) (whole ∷ place ∷ []) (Grows-trans f h z fh v) cells;
          below = below_right z parts.body old change v o.below (right parts.body body_here);
          sort = λ body l. sort_right z body old change (right body l);
        }

        outside_is : (a : List Bool) (c : Arena) (old : Option (CellId × Lit)) (change : Option (Lit × Cells)) (body : Ker) →
            IsRight z env2 (out-Ker k).binds body old change → outside_of a change ≡ is_outside (reached c a old)
        outside_is a c None None body n = refl
        outside_is a c None (Some x) body n = absurd n
        outside_is a c (Some y) None body n = absurd n
        outside_is a c (Some y) (Some x) body n = ap (λ (l : Lit). lit_value l a) n.0 ∙ by (lit_value y.1 a)
          where
            by : (t : Bool) → t ≡ is_outside (if t then Outside else At (decode c a y.0))
            by true = refl
            by false = refl

        at_one : (t : Bool) (w u : Value) → (if t then Outside else At w) ≡ At u → w ≡ u
        at_one true w u h = absurd (cc)
        at_one false w u h = cc

        right_shows : (a : List Bool) (sc : Scope) (s t : State) → Satisfies a z.formula → Fits z.arena a env sc s t → (body : Ker) → update_body k ≡ Some body →
            (old : Option (CellId × Lit)) (change : Option (Lit × Cells)) → IfSome old (λ (y : CellId × Lit). OfSort h.arena.kinds (sort_of parts.part) y.0) →
            IsRight z env2 (out-Ker k).binds body old change → (got : Reached) → got ≡ reached h.arena a old → IfSome change (λ (x : Lit × Cells). (u : Value) →
            got ≡ At u → IsTrue (is_within (Some z.arena.width) body (bind (names_of (out-Ker k).binds) (u ∷ []) sc) s t) →
            Shows z.arena a x.1 (ker_val (Some z.arena.width) body (bind (names_of (out-Ker k).binds) (u ∷ []) sc) s t))
        right_shows a sc s t m fits body l None None so n got ge = tt
        right_shows a sc s t m fits body l None (Some x) so n got ge = absurd n
        right_shows a sc s t m fits body l (Some y) None so n got ge = absurd n
        right_shows a sc s t m fits body l (Some y) (Some x) so n got ge = λ u i w.
            let xs : List ℕ = (out-Ker k).binds in
            let older : decode z.arena a y.0 ≡ decode h.arena a y.0 = decode-before h z a y.0 v (sort-there h.arena.kinds (sort_of parts.part) y.0 so) in
            let is : decode z.arena a y.0 ≡ u = older ∙ at_one (lit_value y.1 a) (decode h.arena a y.0) u (sym ge ∙ i) in
            let in_scope : List Value → Scope = λ vs. bind (names_of xs) vs sc in
            let vals : decode z.arena a y.0 ∷ [] ≡ u ∷ [] = ap (λ (q : Value). q ∷ []) is in
            let tree = subst (λ (ev : CellEnv). IsTree z body (with_bound ev xs (y.0 ∷ [])) x.1) r n.1 in
            subst (λ (vs : List Value). Shows z.arena a x.1 (ker_val (Some z.arena.width) body (in_scope vs) s t)) vals
            (tree.rewrites.shows a m (in_scope (decode z.arena a y.0 ∷ [])) s t
            (fits_bound z.arena a env sc s t xs (y.0 ∷ []) (ap length parts.binds) fits)
            (subst (λ (vs : List Value). IsTrue (is_within (Some z.arena.width) body (in_scope vs) s t)) (sym vals) w))

        -- from the trees: d is the build of the function's cells, f that of the index's
        module _ (d : Build) (env1 : CellEnv) (i : Ker) (bd : Grows b d) (df : Grows d f) (r1 : env1 ≡ env) (qi : i ≡ get_or ks 0 i) (t : IsTree d i env whole)
            (u : IsTree f j env1 place) where
          bf : Grows b f
          bf = Grows-trans b d f bd df

          fz : Grows f z
          fz = Grows-trans f h z fh v

          whole_tree : IsTree z parts.whole env whole
          whole_tree =
              subst (λ (y : Ker). IsTree z y env whole) (whole_same ks i p qi)
              (tree_later b d z i env whole (whole_can ks i p qi) bd (Grows-trans d f z df fz) t)

          place_tree : IsTree z parts.index env place
          place_tree =
              subst (λ (y : Ker). IsTree z y env place) (index_same ks j p q)
              (tree_later d f z j env place (index_can d env ks j bd refl p q) df fz (subst (λ (ev : CellEnv). IsTree f j ev place) r1 u))

          whole_there : whole.cell.index < length f.arena.kinds
          whole_there = cells-there f (sort_of node.0) whole whole_cells

          place_there : place.cell.index < length f.arena.kinds
          place_there = cells-there f (sort_of parts.place) place place_cells

          told : (a : List Bool) (sc : Scope) (s t : State) → Satisfies a z.formula → Fits z.arena a env sc s t → (index : Ker) → update_index k ≡ Some index →
              (x : Value) → GivesIndex z.arena a place.cell index x → ShowsRight z.arena a k sc s t whole change x
          told a sc s t m fits index l x give =
              let same : index ≡ j = one_ker (sym l ∙ ap (λ (y : List Ker). slice_get y 1) parts.args) ∙ sym (index_same ks j p q) in
              let older : GivesIndex f.arena a place.cell j x = record {
                cell = sym (decode-before f z a place.cell fz place_there) ∙ give.cell;
                width = give.width;
                scope = give.scope;
                now = give.now;
                next = give.next;
                gives = ap (λ (y : Ker). ker_val give.width y give.scope give.now give.next) (sym same) ∙ give.gives;
              } in
              let reaches : step_into (out-Value (decode z.arena a whole.cell)) x ≡ reached h.arena a old =
              ap (λ (y : Value). step_into (out-Value y) x) (decode-before f z a whole.cell fz whole_there)
              ∙ o.reaches a (Satisfies-before h z a v m) x older in
              record {
                outside = outside_is a h.arena old change parts.body (right parts.body body_here) ∙ ap is_outside (sym reaches);
                shows = λ body lb. right_shows a sc s t m fits body lb old change old_sort (right body lb) (step_into (out-Value (decode z.arena a whole.cell)) x) reaches;
              }

          pub update_tree : (y : Build) (x : Cells) → Grows z y → HasTreeSort y k x → Updates z y k whole place change x → IsTree y k env x
          update_tree y x zy so n = record {
            sort = so;
            rewrites = record {
              shows = λ a m sc s t' fits w.
                  let wide : y.arena.width ≡ z.arena.width = width-later z y zy in
                  let sat = Satisfies-before z y a zy m in
                  let old_fits = Fits-before z y a env sc s t' zy (env_there b z k env can (Grows-trans b f z bf fz)) fits in
                  let show : PartsShow z.arena a sc s t' (update_parts k) (whole ∷ place ∷ []) =
                  subst (λ l. PartsShow z.arena a sc s t' (take 2 l) (whole ∷ place ∷ [])) (sym parts.args)
                  (trees_show z a env sc s t' (parts.whole ∷ parts.index ∷ []) (whole ∷ place ∷ []) sat old_fits (whole_tree, (place_tree, tt))) in
                  subst (λ n. Shows y.arena a x (ker_val (Some n) k sc s t')) (sym wide)
                  (n.shows a m sc s t' (subst (λ n. IsTrue (is_within (Some n) k sc s t')) wide w) show (told a sc s t' sat old_fits));
            };
          }

-- ---- the right side

module _ (b : Build) (env : CellEnv) (k : Ker) (old : Option (CellId × Lit)) (c : CanChange b env k old) where
  abbrev change_node : UpdateAt c.can.names c.can.context k
  change_node = update_at c.can.names c.can.context k c.can.sound c.update

  abbrev change_parts : UpdateOf c.can.names c.can.context change_node.0 (out-Ker k).binds (out-Ker k).args
  change_parts = change_node.3

  pub can_right : (id : CellId) (outside : Lit) (xs : List ℕ) (body : Ker) → old ≡ Some (id, outside) → xs ≡ (out-Ker k).binds → update_body k ≡ Some body →
      CanRewrite b body (with_bound env xs (id ∷ []))
  can_right id outside xs body q p l =
      subst (λ (ns : List ℕ). CanRewrite b body (with_bound env ns (id ∷ []))) (sym p)
      (under_can b k env c.can (update_reads k c.update) b 2 body (out-Ker k).binds (change_parts.part ∷ []) (id ∷ []) (Grows-refl b) l
      (subst (λ j. IsTrue (sound c.can.names j (c.can.context ++ zip (out-Ker k).binds (change_parts.part ∷ [])) false)) same
      (subst (λ ys. IsTrue (sound c.can.names change_parts.body (c.can.context ++ zip ys (change_parts.part ∷ [])) false)) (sym change_parts.binds) change_parts.body_is.1))
      (ap length change_parts.binds) (sorted, tt))
    where
      same : change_parts.body ≡ body
      same = one_ker (ap (λ (m : List Ker). slice_get m 2) (sym change_parts.args) ∙ l)

      sorted : OfSort b.arena.kinds (sort_of change_parts.part) id
      sorted =
          subst (λ (y : Option (CellId × Lit)). IfSome y (λ (z : CellId × Lit). OfSort b.arena.kinds (sort_of change_parts.part) z.0)) q
          (c.sort body change_parts.part l (ap kind_at (sym same) ∙ change_parts.body_is.0))
