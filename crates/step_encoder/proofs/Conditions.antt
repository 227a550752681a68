-- The ends of one tree: rewritten with the bounds of its ranges, and what stays of them as a build grows.
use Rattle.std.proofs.Common.{◌≡◌, ℕ, ◌<◌, ◌≤◌, ◌+◌, Bool, false, IsTrue, List, [], ◌∷◌, ◌++◌, take}
use Rattle.std.proofs.Common.{length, get_or, Option, Some, None, refl, sym, ◌∙◌, ap, subst, arith}
use Rattle.std.specs.Prelude.{All}
use Rattle.std.proofs.lemmas.List.{take_all, take_more}
use Rattle.std.proofs.lemmas.List.Elements.{All-cons, All-get_or, All-head, All-nil, All-tail, All-weaker}
use Rattle.sat_formula.specs.Lit.{lit_value}
use Rattle.tla_values.specs.declared.value.Value.TheVariants as value
use Rattle.tla_meaning.specs.declared.job.State.{State}
use Rattle.tla_meaning.specs.declared.outcome.Outcome.{Outcome}
use Rattle.tla_meaning.specs.declared.outcome.Outcome.TheVariants.{Val, Wrong, Big}
use Rattle.tla_meaning.specs.Executions.{no_scope}
use Rattle.cell_arena.specs.declared.build.Build.{Build}
use Rattle.cell_arena.specs.declared.kinds.CellId.{CellId}
use Rattle.cell_arena.specs.Cells.{Cells as Arena, kind_at}
use Rattle.cell_arena.specs.Decode.{decode, kind_value}
use Rattle.cell_arena.specs.Growth.{Grows, Keeps}
use Rattle.cell_arena.proofs.Decoding.{decode-kind}
use Rattle.cell_arena.proofs.Growing.{Grows-refl, Grows-trans, Satisfies-before}
use Rattle.cell_merge.specs.Sorts.{OfSort, truth}
use Rattle.cell_merge.proofs.Edges.{is-bit}
use Rattle.kernel_trees.specs.declared.kernel.Ker.{Ker}
use Rattle.kernel_trees.specs.Trees.{ker_val}
use Rattle.kernel_trees.specs.TypeKinds.{Truth}
use Rattle.kernel_shapes.specs.declared.bounds.Shape.{Shape as Code}
use Rattle.kernel_shapes.specs.Sized.{Extent}
use Rattle.kernel_ranges.specs.Ranges.{is_within}
use Rattle.shape_bounds.specs.BoundedTrees.{HasBounds}
use Rattle.shape_bounds.specs.Extents.{extent_of, kept_extent}
use Rattle.outcome_cells.specs.declared.cells.Cells.{Cells}
use Rattle.outcome_cells.specs.Shows.{AreCells, Shows}
use Rattle.system_texts.specs.SystemTexts.{HasTreeTexts}
use Rattle.expr_rewriter.specs.declared.cell_env.CellEnv.{CellEnv}
use Rattle.expr_rewriter.specs.Environments.{AreThere, Fits, IsThere, is_name}
use Rattle.expr_rewriter.specs.Rewriting.{CanRewrite, HasTreeSort, Rewrites}
use Rattle.expr_rewriter.proofs.Fitting.{Fits-before}
use Rattle.expr_rewriter.proofs.Holding.{HoldsEnv-later}
use Rattle.branch_cells.specs.declared.branch.Ends.{Ends}
use Rattle.branch_cells.specs.Ends.{AreEndsOf, EndsBelow, IsCondition, end_of}
use Rattle.encoder_laws.specs.Levels.{IsTruthOutcome}
use Rattle.step_encoder.specs.inner.Asked.{AreConditionsOf, CanAsk, IsAt, IsConditionOf}
use Rattle.step_encoder.proofs.TreeTexts.{bounded_texts}

pub width_kept : (b c : Build) → Grows b c → c.arena.width ≡ b.arena.width
unfolding Keeps
width_kept b c g = g.keeps.width

texts_kept : (b c : Build) → Grows b c → c.arena.texts ≡ b.arena.texts
unfolding Keeps
texts_kept b c g = g.keeps.texts

-- ---- truth values

-- a cell of a truth value
bit_is : (b : Build) (id : CellId) (a : List Bool) → OfSort b.arena.kinds truth id →
    (x : Bool) × (decode b.arena a id ≡ value.Bool x)
bit_is b id a h =
    let l = is-bit (kind_at b.arena.kinds id) h.1 in
    (lit_value l.0 a, decode-kind b.arena a id b.built h.0 ∙ ap (kind_value b.arena.texts a (decode b.arena a)) l.1)

truth_shown : (b : Build) (x : Cells) (a : List Bool) (o : Outcome) → AreCells b truth x → Shows b.arena a x o →
    IsTruthOutcome o
truth_shown b x a (Val v) c h = let y = bit_is b x.cell a c.sort in (y.0, sym (h.shown.value v refl) ∙ y.1)
truth_shown b x a (Wrong p) c h = tt
truth_shown b x a (Big p) c h = tt

-- ---- one tree

pub can_rewrite : (b : Build) (env : CellEnv) (now next : List Code) (k r : Ker) (w : ℕ) → CanAsk b env now next k →
    ((g : Extent) → kept_extent g ≡ extent_of now next [] → HasBounds w k g r) → CanRewrite b r env
can_rewrite b env now next k r w c h =
    let hb = h c.extent c.kept in
    record {
      names = c.names;
      context = [];
      sound = hb.stays_sound c.names [] false c.sound;
      holds = record {
        there = c.holds.there;
        named = λ i primed a m e. c.holds.named i primed a (sym (hb.names (is_name i primed)) ∙ m) e;
        numbered = c.holds.numbered;
      };
      texts = bounded_texts b.arena.texts w k c.extent r hb c.texts;
    }

pub truth_cells : (b : Build) (env : CellEnv) (now next : List Code) (k r : Ker) (w : ℕ) (x : Cells) →
    CanAsk b env now next k →
    ((g : Extent) → kept_extent g ≡ extent_of now next [] → HasBounds w k g r) → (c : Build) → HasTreeSort c r x →
    AreCells c truth x
truth_cells b env now next k r w x c h d s = s Truth ((h c.extent c.kept).kind ∙ c.truth)

pub bounds_at : (now next : List Code) (bound : List (ℕ × Code)) (w : ℕ) (k r : Ker) → bound ≡ [] →
    ((g : Extent) → kept_extent g ≡ extent_of now next bound → HasBounds w k g r) → (g : Extent) →
    kept_extent g ≡ extent_of now next [] → HasBounds w k g r
bounds_at now next bound w k r e h g q = h g (q ∙ ap (λ (bs : List (ℕ × Code)). extent_of now next bs) (sym e))

pub bounds_for : (now next : List Code) (w v : ℕ) (k r : Ker) → w ≡ v →
    ((g : Extent) → kept_extent g ≡ extent_of now next [] → HasBounds w k g r) →
    (g : Extent) → kept_extent g ≡ extent_of now next [] → HasBounds v k g r
bounds_for now next w v k r e h g q = subst (λ (n : ℕ). HasBounds n k g r) e (h g q)

-- what is made of it
pub record IsTold (b0 b1 b2 : Build) (env : CellEnv) (now next : List Code) (k r : Ker) (x : Cells)
    (ends : Ends) : Type 0 where
  pub can : CanAsk b0 env now next k
  pub wide : 4 ≤ b0.arena.width
  pub bounds : (g : Extent) → kept_extent g ≡ extent_of now next [] → HasBounds b0.arena.width k g r
  pub sort : HasTreeSort b1 r x
  pub rewrites : Rewrites b1 r env x
  pub grows : Grows b0 b1
  pub condition : IsCondition b2 x ends
  pub arena : b2.arena ≡ b1.arena
  pub onto : Grows b1 b2

module _ (b0 b1 b2 : Build) (env : CellEnv) (now next : List Code) (k r : Ker) (x : Cells) (ends : Ends)
    (h : IsTold b0 b1 b2 env now next k r x ends) where
  there_now : AreThere (length b0.arena.kinds) env
  there_now = h.can.holds.there

  w : ℕ
  w = b0.arena.width

  width_two : b2.arena.width ≡ b0.arena.width
  width_two = width_kept b1 b2 h.onto ∙ width_kept b0 b1 h.grows

  shown : (a : List Bool) (s t : State) → IsAt b2 env now next k a s t →
      Shows b1.arena a x (ker_val (Some b2.arena.width) k no_scope s t)
  shown a s t i =
      let hb = h.bounds i.extent i.kept in
      let two : 2 ≤ b0.arena.width = omega (arith, h.wide) in
      let within = hb.within i.names [] false no_scope s t two i.sound i.covers i.ready in
      let e1 : b1.arena.width ≡ b0.arena.width = width_kept b0 b1 h.grows in
      subst (λ (o : Outcome). Shows b1.arena a x o)
      (hb.outcomes (Some b1.arena.width) no_scope s t ∙ ap (λ (n : ℕ). ker_val (Some n) k no_scope s t)
      (e1 ∙ sym width_two))
      (h.rewrites.shows a (Satisfies-before b1 b2 a h.onto i.satisfies) no_scope s t
      (subst (λ (c : Arena). Fits c a env no_scope s t) h.arena i.fits)
      (subst (λ (n : ℕ). IsTrue (is_within (Some n) r no_scope s t)) (sym e1) within))

  pub told : IsConditionOf b2 env now next k ends
  told = record {
    there = (HoldsEnv-later b0 b2 h.can.names [] k env (Grows-trans b0 b1 b2 h.grows h.onto) h.can.holds).there;
    below = h.condition.below;
    says = λ a s t i.
        h.condition.says a i.satisfies (ker_val (Some b2.arena.width) k no_scope s t)
        (subst (λ (c : Arena). Shows c a x (ker_val (Some b2.arena.width) k no_scope s t)) (sym h.arena)
        (shown a s t i));
    truth = λ a s t i.
        truth_shown b1 x a (ker_val (Some b2.arena.width) k no_scope s t)
        (truth_cells b0 env now next k r b0.arena.width x h.can h.bounds b1 h.sort) (shown a s t i);
  }

-- ---- as a build grows

pub ask_later : (b c : Build) (env : CellEnv) (now next : List Code) (k : Ker) → Grows b c → CanAsk b env now next k →
    CanAsk c env now next k
ask_later b c env now next k g h = record {
  names = h.names;
  extent = h.extent;
  kept = h.kept;
  sound = h.sound;
  truth = h.truth;
  holds = HoldsEnv-later b c h.names [] k env g h.holds;
  texts = subst (λ (ts : List (List ℕ)). HasTreeTexts ts k) (sym (texts_kept b c g)) h.texts;
}

pub ask_all_later : (b c : Build) (env : CellEnv) (now next : List Code) (ks : List Ker) → Grows b c →
    All (CanAsk b env now next) ks → All (CanAsk c env now next) ks
ask_all_later b c env now next [] g h = All-nil (CanAsk c env now next)
ask_all_later b c env now next (k ∷ ks) g h =
    All-cons (CanAsk c env now next) k ks (ask_later b c env now next k g (All-head (CanAsk b env now next) k ks h))
    (ask_all_later b c env now next ks g (All-tail (CanAsk b env now next) k ks h))

at_before : (b c : Build) (env : CellEnv) (now next : List Code) (k : Ker) (a : List Bool) (s t : State) → Grows b c →
    AreThere (length b.arena.kinds) env →
    IsAt c env now next k a s t → IsAt b env now next k a s t
at_before b c env now next k a s t g h i = record {
  satisfies = Satisfies-before b c a g i.satisfies;
  extent = i.extent;
  kept = i.kept;
  names = i.names;
  sound = i.sound;
  covers = i.covers;
  fits = Fits-before b c a env no_scope s t g h i.fits;
  ready = i.ready;
}

pub env_later : (b c : Build) (env : CellEnv) → Grows b c → AreThere (length b.arena.kinds) env →
    AreThere (length c.arena.kinds) env
env_later b c env g h = record {
  current = All-weaker (λ (id : CellId). id.index < length b.arena.kinds)
      (λ (id : CellId). id.index < length c.arena.kinds) (λ id lt. less id.index (length b.arena.kinds)
      (length c.arena.kinds) lt g.longer) env.now h.current;
  following = All-weaker (IsThere (length b.arena.kinds)) (IsThere (length c.arena.kinds))
      (λ o t. there o t) env.next h.following;
  bound = All-weaker (λ (e : ℕ × CellId). e.1.index < length b.arena.kinds)
      (λ (e : ℕ × CellId). e.1.index < length c.arena.kinds) (λ e lt. less e.1.index (length b.arena.kinds)
      (length c.arena.kinds) lt g.longer) env.bound h.bound;
}
  where
    less : (i m n : ℕ) → i < m → m ≤ n → i < n
    less i m n p q = omega (arith, p, q)

    there : (o : Option CellId) → IsThere (length b.arena.kinds) o → IsThere (length c.arena.kinds) o
    there None t = tt
    there (Some id) t = less id.index (length b.arena.kinds) (length c.arena.kinds) t g.longer

pub condition_later : (b c : Build) (env : CellEnv) (now next : List Code) (k : Ker) (x : Ends) → Grows b c →
    IsConditionOf b env now next k x →
    IsConditionOf c env now next k x
condition_later b c env now next k x g h = record {
  there = env_later b c env g h.there;
  below = λ e. below e;
  says = λ a s t i.
      subst (λ (n : ℕ). AreEndsOf a x (ker_val (Some n) k no_scope s t)) (sym (width_kept b c g))
      (h.says a s t (at_before b c env now next k a s t g h.there i));
  truth = λ a s t i.
      subst (λ (n : ℕ). IsTruthOutcome (ker_val (Some n) k no_scope s t)) (sym (width_kept b c g))
      (h.truth a s t (at_before b c env now next k a s t g h.there i));
}
  where
    below : EndsBelow c.formula.vars x
    below e = less (end_of x e).var b.formula.vars c.formula.vars (h.below e) g.formula.vars
      where
        less : (i m n : ℕ) → i < m → m ≤ n → i < n
        less i m n p q = omega (arith, p, q)

-- ---- several trees

pub conditions_later : (b c : Build) (env : CellEnv) (codes : List Code) (ks : List Ker) (xs : List Ends) →
    Grows b c → AreConditionsOf b env codes ks xs →
    AreConditionsOf c env codes ks xs
conditions_later b c env codes [] [] g h = tt
conditions_later b c env codes [] (x ∷ xs) g h = absurd h
conditions_later b c env codes (k ∷ ks) [] g h = absurd h
conditions_later b c env codes (k ∷ ks) (x ∷ xs) g h = (
  condition_later b c env codes codes k x g h.0,
  conditions_later b c env codes ks xs g h.1,
)

conditions_push : (b : Build) (env : CellEnv) (codes : List Code) (ks : List Ker) (xs : List Ends) (k : Ker)
    (x : Ends) → AreConditionsOf b env codes ks xs →
    IsConditionOf b env codes codes k x → AreConditionsOf b env codes (ks ++ k ∷ []) (xs ++ x ∷ [])
conditions_push b env codes [] [] k x h one = (one, tt)
conditions_push b env codes [] (y ∷ xs) k x h one = absurd h
conditions_push b env codes (l ∷ ks) [] k x h one = absurd h
conditions_push b env codes (l ∷ ks) (y ∷ xs) k x h one = (h.0, conditions_push b env codes ks xs k x h.1 one)

pub conditions_below : (b : Build) (env : CellEnv) (codes : List Code) (ks : List Ker) (xs : List Ends) →
    AreConditionsOf b env codes ks xs → All (EndsBelow b.formula.vars) xs
conditions_below b env codes [] [] h = All-nil (EndsBelow b.formula.vars)
conditions_below b env codes [] (x ∷ xs) h = absurd h
conditions_below b env codes (k ∷ ks) [] h = absurd h
conditions_below b env codes (k ∷ ks) (x ∷ xs) h = All-cons (EndsBelow b.formula.vars) x xs h.0.below
    (conditions_below b env codes ks xs h.1)

pub below_as : (b : Build) (env : CellEnv) (codes : List Code) (ks : List Ker) (xs ys : List Ends) → ys ≡ xs →
    AreConditionsOf b env codes ks xs → All (EndsBelow b.formula.vars) ys
below_as b env codes ks xs ys e h = subst (All (EndsBelow b.formula.vars)) (sym e)
    (conditions_below b env codes ks xs h)

-- a turn of the loop over them
pub record SoFar (b c : Build) (env : CellEnv) (codes : List Code) (ks : List Ker) (i : ℕ)
    (xs : List Ends) : Type 0 where
  pub grows : Grows b c
  pub can : All (CanAsk c env codes codes) ks
  pub are : AreConditionsOf c env codes (take i ks) xs

pub none_yet : (b : Build) (env : CellEnv) (codes : List Code) (ks : List Ker) (xs : List Ends) →
    All (CanAsk b env codes codes) ks → xs ≡ [] → SoFar b b env codes ks 0 xs
none_yet b env codes ks xs h e = record {
  grows = Grows-refl b;
  can = h;
  are =
      subst (AreConditionsOf b env codes []) (sym e) tt;
}

pub one_more : (b c d : Build) (env : CellEnv) (codes : List Code) (ks : List Ker) (i : ℕ) (xs ys : List Ends)
    (k : Ker) (x : Ends) → SoFar b c env codes ks i xs →
    i < length ks → k ≡ get_or ks i k → Grows c d → IsConditionOf d env codes codes k x → ys ≡ xs ++ x ∷ [] →
    SoFar b d env codes ks (i + 1) ys
one_more b c d env codes ks i xs ys k x h lt e g one pushed = record {
  grows = Grows-trans b c d h.grows g;
  can = ask_all_later c d env codes codes ks g h.can;
  are = subst (λ (us : List Ker). AreConditionsOf d env codes us ys)
      (ap (λ (u : Ker). take i ks ++ u ∷ []) e ∙ sym (take_more ks i k lt))
      (subst (AreConditionsOf d env codes (take i ks ++ k ∷ [])) (sym pushed)
      (conditions_push d env codes (take i ks) xs k x (conditions_later c d env codes (take i ks) xs g h.are) one));
}

pub all_made : (b c : Build) (env : CellEnv) (codes : List Code) (ks : List Ker) (i : ℕ) (xs : List Ends) →
    SoFar b c env codes ks i xs → length ks ≤ i →
    AreConditionsOf c env codes ks xs
all_made b c env codes ks i xs h le = subst (λ (us : List Ker). AreConditionsOf c env codes us xs)
    (take_all i ks le) h.are

pub ask_at : (b : Build) (env : CellEnv) (codes : List Code) (ks : List Ker) (i : ℕ) (k : Ker) → i < length ks →
    k ≡ get_or ks i k → All (CanAsk b env codes codes) ks →
    CanAsk b env codes codes k
ask_at b env codes ks i k lt e h = subst (CanAsk b env codes codes) (sym e)
    (All-get_or (CanAsk b env codes codes) ks i k lt h)
