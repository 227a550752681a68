-- Trees without operands: what constants, names, bound numbers and no case give, as cells.
use Rattle.std.proofs.Common.{◌≡◌, ℕ, arith, ◌<◌, Bool, true, false, not, ◌&&◌, ◌||◌, List, [], ◌∷◌, map, length}
use Rattle.std.proofs.Common.{get_or, take, ◌+◌, ◌≢◌, refl, sym, ◌∙◌, ap, subst, All, Option, Some, None, ℤ}
use Rattle.std.specs.Prelude.{if◌then◌else◌, nat_eq, slice_get}
use Rattle.std.proofs.lemmas.List.{take_more}
use Rattle.std.proofs.lemmas.List.Elements.{All-tail}
use Rattle.sat_formula.specs.declared.lit.Lit.{Lit}
use Rattle.sat_formula.specs.Lit.{lit_value}
use Rattle.sat_formula.specs.Formula.{Satisfies}
use Rattle.tla_values.specs.Integers.{fits_width}
use Rattle.tla_values.specs.Order.{Layer}
use Rattle.tla_values.specs.declared.value.Value.{Value, out-Value}
use Rattle.tla_values.specs.declared.value.Value.TheVariants as value
use Rattle.tla_values.specs.declared.value.Value.TheOpen as layer
use Rattle.tla_meaning.specs.declared.job.State.{State}
use Rattle.tla_meaning.specs.declared.outcome.Outcome.TheVariants.{Val}
use Rattle.tla_meaning.specs.declared.place.Place.{Place}
use Rattle.tla_meaning.specs.Numbers.{Width}
use Rattle.tla_meaning.specs.Operators.{or_wrong}
use Rattle.tla_meaning.specs.Scopes.{Scope, or_else}
use Rattle.tla_meaning.proofs.Views.{and_left, false≢true}
use Rattle.cell_arena.specs.declared.build.Build.{Build}
use Rattle.cell_arena.specs.declared.kinds.CellId.{CellId}
use Rattle.cell_arena.specs.declared.kinds.CellKind.{CellKind}
use Rattle.cell_arena.specs.Decode.{decode}
use Rattle.cell_arena.specs.Growth.{Grows}
use Rattle.cell_merge.specs.Partial.{Tells, Yields}
use Rattle.cell_merge.specs.Sorts.{OfSort, Sort, number, name, truth}
use Rattle.cell_merge.proofs.Edges.{sort-there}
use Rattle.kernel_trees.specs.declared.kernel.Ker.{Ker, out-Ker, roll-out-Ker}
use Rattle.kernel_trees.specs.declared.kernel.KerOp.{KerOp}
use Rattle.kernel_trees.specs.declared.kernel.KerOp.TheVariants as ker
use Rattle.kernel_trees.specs.TypeKinds.{Kind, Truth, Number, Word, kind_of}
use Rattle.kernel_trees.specs.Paths.{mentions, mentions_at}
use Rattle.kernel_trees.specs.Sound.{Context, Part, children, is_infinite, is_literal, kind_at, kind_in, kinds_at}
use Rattle.kernel_trees.specs.Sound.{passes, plain, row, sound, sound_at}
use Rattle.kernel_trees.specs.Trees.{ker_val}
use Rattle.kernel_trees.proofs.Operators.{constant_value, tree, val_bound, val_const, val_name, val_nocase}
use Rattle.kernel_trees.proofs.SoundNodes.{sound_out, with_asked}
use Rattle.kernel_trees.proofs.SoundRows.{found}
use Rattle.kernel_trees.proofs.Trees.{mentions-roll}
use Rattle.outcome_cells.specs.declared.cells.Cells.{Cells}
use Rattle.outcome_cells.specs.Rows.{ShowsAt, or_big}
use Rattle.outcome_cells.specs.Shows.{AreCells, Shows}
use Rattle.outcome_cells.proofs.Later.{ShowsAt-same, width-later}
use Rattle.outcome_cells.proofs.Yielding.{number-big}
use Rattle.typed_cells.specs.KindSorts.{HasSort, sort_of}
use Rattle.typed_cells.specs.Known.{IsKnownCell, IsNumber, IsTextAmong}
use Rattle.expr_rewriter.specs.declared.cell_env.CellEnv.{CellEnv}
use Rattle.expr_rewriter.specs.Environments.{Fits, bound_cell, is_name, name_cell}
use Rattle.expr_rewriter.specs.Rewriting.{CanRewrite, HasTreeSort, Rewrites, constant_texts, own_texts, texts_in}
use Rattle.expr_rewriter.specs.inner.Leaves.{constant_outcome}
use Rattle.expr_rewriter.proofs.Fitting.{bound_append}
use Rattle.expr_rewriter.proofs.Holding.{name_reads, number_reads}
use Rattle.expr_rewriter.proofs.TextsIn.{own_texts_of}

-- ---- constants

pub truth_shown : (new : Build) (w : Width) (id : CellId) (r : Cells) (v : Value) (t : Bool) → v ≡ value.Bool t →
    IsKnownCell new truth (value.Bool t) id → ShowsAt new r (λ a _. Val (decode new.arena a id)) →
    ShowsAt new r (λ a p. constant_outcome w p (out-Value v))
truth_shown new w id r v t e k h =
    ShowsAt-same new r (λ a _. Val (decode new.arena a id)) (λ a p. constant_outcome w p (out-Value v)) h
    (λ a s p. ap (λ (x : Value). Val x) (k.cell.value a s) ∙ sym
    (ap (constant_outcome w p) (ap out-Value e ∙ value.outs-Bool t)))

pub text_shown : (new : Build) (w : Width) (id : CellId) (r : Cells) (v : Value) (x : List ℕ) → v ≡ value.Text x →
    IsKnownCell new name (value.Text x) id → ShowsAt new r (λ a _. Val (decode new.arena a id)) →
    ShowsAt new r (λ a p. constant_outcome w p (out-Value v))
text_shown new w id r v x e k h =
    ShowsAt-same new r (λ a _. Val (decode new.arena a id)) (λ a p. constant_outcome w p (out-Value v)) h
    (λ a s p. ap (λ (x : Value). Val x) (k.cell.value a s) ∙ sym
    (ap (constant_outcome w p) (ap out-Value e ∙ value.outs-Text x)))

fits_told : (out fits : Bool) (v w : Value) → out ≡ not fits → (out ≡ false → v ≡ w) →
    Tells out v (if fits then Some w else None)
fits_told out true v w e h = (e, h e)
fits_told out false v w e h = e

pub number_shown : (old new : Build) (id : CellId) (outside : Lit) (r : Cells) (v : Value) (n : ℤ) → v ≡ value.Int n →
    Grows old new →
    IsNumber new n (id, outside) →
    ((given : List Bool → Option Value) → Yields new (id, outside) given → ShowsAt new r (λ a p. or_big p (given a))) →
    ShowsAt new r (λ a p. constant_outcome (Some old.arena.width) p (out-Value v))
number_shown old new id outside r v n e g k h =
    let w : ℕ = new.arena.width in
    let given : Option Value = if fits_width w n then Some (value.Int n) else None in
    subst (λ m. ShowsAt new r (λ a p. constant_outcome (Some m) p (out-Value v))) (width-later old new g)
    (ShowsAt-same new r (λ a p. or_big p given) (λ a p. constant_outcome (Some w) p (out-Value v))
    (h (λ a. given) (record {
      there = sort-there new.arena.kinds number id k.sort;
      below = k.outside.below;
      tells =
          λ a s. fits_told (lit_value outside a) (fits_width w n) (decode new.arena a id) (value.Int n)
          (k.outside.value a s) (k.value a s);
    }))
    (λ a s p. number-big (Some w) p n ∙ sym (ap (constant_outcome (Some w) p) (ap out-Value e ∙ value.outs-Int n))))

-- the sort of a constant of some kind
truth_kind : (k : Kind) (t : Bool) → is_literal k (layer.Bool t) ≡ true → sort_of k ≡ truth
truth_kind Truth t h = refl
truth_kind k t h = absurd (false≢true h)

number_kind : (k : Kind) (n : ℤ) → is_literal k (layer.Int n) ≡ true → sort_of k ≡ number
number_kind Number n h = refl
number_kind k n h = absurd (false≢true h)

text_kind : (k : Kind) (x : List ℕ) → is_literal k (layer.Text x) ≡ true → sort_of k ≡ name
text_kind (Word y) x h = refl
text_kind k x h = absurd (false≢true h)

pub truth_sort : (new : Build) (r : Cells) (v : Value) (t : Bool) → v ≡ value.Bool t → AreCells new truth r →
    (k : Kind) →
    is_literal k (out-Value v) ≡ true → AreCells new (sort_of k) r
truth_sort new r v t e h k l =
    subst (λ s. AreCells new s r)
    (sym (truth_kind k t (ap (is_literal k) (sym (ap out-Value e ∙ value.outs-Bool t)) ∙ l))) h

pub number_sort : (new : Build) (r : Cells) (v : Value) (n : ℤ) → v ≡ value.Int n → AreCells new number r → (k : Kind) →
    is_literal k (out-Value v) ≡ true → AreCells new (sort_of k) r
number_sort new r v n e h k l =
    subst (λ s. AreCells new s r)
    (sym (number_kind k n (ap (is_literal k) (sym (ap out-Value e ∙ value.outs-Int n)) ∙ l))) h

pub text_sort : (new : Build) (r : Cells) (v : Value) (x : List ℕ) → v ≡ value.Text x → AreCells new name r →
    (k : Kind) →
    is_literal k (out-Value v) ≡ true → AreCells new (sort_of k) r
text_sort new r v x e h k l =
    subst (λ s. AreCells new s r)
    (sym (text_kind k x (ap (is_literal k) (sym (ap out-Value e ∙ value.outs-Text x)) ∙ l))) h

pub text_among : (ts : List (List ℕ)) (v : Value) (x : List ℕ) → v ≡ value.Text x →
    All (IsTextAmong ts) (constant_texts (out-Value v)) → All (IsTextAmong ts) (x ∷ [])
text_among ts v x e h = subst (λ l. All (IsTextAmong ts) (constant_texts l)) (ap out-Value e ∙ value.outs-Text x) h

-- ---- what soundness says of a leaf

passed : {X : Type 0} (test : X → Bool) (o : Option X) (x : X) → passes test o ≡ true → o ≡ Some x → test x ≡ true
passed test o x h e = ap (passes test) (sym e) ∙ h

node_sound : (names : List Kind) (c : Context) (k : Ker) (o : KerOp) (a : Kind) → sound names k c false ≡ true →
    (out-Ker k).op ≡ o →
    kind_at k ≡ Some a → sound_at names o a (out-Ker k).binds (with_asked names (out-Ker k).args) c false ≡ true
node_sound names c k o a h e is =
    let x = out-Ker k in
    subst (λ q. sound_at names q a x.binds (with_asked names x.args) c false ≡ true) e
    (passed (λ a. sound_at names x.op a x.binds (with_asked names x.args) c false) (kind_of x.ty) a
    (sym (sound_out names k c false) ∙ h) is)

module _ (names : List Kind) (c : Context) (a : Kind) (bs : List ℕ) where
  no_rows : (o : KerOp) (ks : List Part) → ((as' : List Kind) → row o a as' ≡ false) → plain o a c false ks ≡ true → ⊥
  no_rows o ks n h =
      let p : Bool = passes (row o a) (kinds_at ks) in
      let i : Bool = not (is_infinite o) || false in
      let r : Bool = children o 0 c false ks in
      none (kinds_at ks) (and_left p i (and_left (p && i) r h))
    where
      none : (q : Option (List Kind)) → passes (row o a) q ≡ true → ⊥
      none None e = false≢true e
      none (Some as') e = false≢true (sym (n as') ∙ e)

  name_at_node : (i : ℕ) (primed : Bool) (ks : List Ker) →
      sound_at names (ker.Name i primed) a bs (with_asked names ks) c false ≡ true →
      slice_get names i ≡ Some a
  name_at_node i primed [] h = found a (slice_get names i) h
  name_at_node i primed (k ∷ ks) h =
      absurd (no_rows (ker.Name i primed) (with_asked names (k ∷ ks)) (λ as'. refl) h)

  bound_at_node : (n : ℕ) (ks : List Ker) → sound_at names (ker.Bound n) a bs (with_asked names ks) c false ≡ true →
      kind_in c n ≡ Some a
  bound_at_node n [] h = found a (kind_in c n) h
  bound_at_node n (k ∷ ks) h = absurd (no_rows (ker.Bound n) (with_asked names (k ∷ ks)) (λ as'. refl) h)

  const_at_node : (v : Value) (ks : List Ker) → sound_at names (ker.Const v) a bs (with_asked names ks) c false ≡ true →
      is_literal a (out-Value v) ≡ true
  const_at_node v ks h =
      let p : Bool = passes (row (ker.Const v) a) (kinds_at (with_asked names ks)) in
      let r : Bool = children (ker.Const v) 0 c false (with_asked names ks) in
      one (kinds_at (with_asked names ks)) (and_left p true (and_left (p && true) r h))
    where
      one : (q : Option (List Kind)) → passes (row (ker.Const v) a) q ≡ true → is_literal a (out-Value v) ≡ true
      one None e = absurd (false≢true e)
      one (Some []) e = e
      one (Some (b ∷ as')) e = absurd (false≢true e)

-- ---- the sorts of leaves

pub constant_sort : (old new : Build) (k : Ker) (env : CellEnv) (v : Value) (r : Cells) → CanRewrite old k env →
    (out-Ker k).op ≡ ker.Const v →
    ((a : Kind) → is_literal a (out-Value v) ≡ true → AreCells new (sort_of a) r) → HasTreeSort new k r
constant_sort old new k env v r can e h = λ a is.
    h a (const_at_node can.names can.context a (out-Ker k).binds v (out-Ker k).args
    (node_sound can.names can.context k (ker.Const v) a can.sound e is))

pub constant_texts_are : (b : Build) (k : Ker) (env : CellEnv) (v : Value) → CanRewrite b k env →
    (out-Ker k).op ≡ ker.Const v →
    All (IsTextAmong b.arena.texts) (constant_texts (out-Value v))
constant_texts_are b k env v can e =
    subst (λ o. All (IsTextAmong b.arena.texts) (own_texts o)) e
    (own_texts_of (IsTextAmong b.arena.texts) k (All-tail (IsTextAmong b.arena.texts) [] (texts_in k) can.texts))

has_sort : (ks : List CellKind) (s : Sort) (o : Option CellId) (id : CellId) → HasSort ks s o → o ≡ Some id →
    OfSort ks s id
has_sort ks s o id h e = subst (HasSort ks s) e h

same_number : (i : ℕ) → nat_eq i i ≡ true
same_number i = grind arith

reads_itself : (i : ℕ) (primed : Bool) (ks : List Bool) → mentions_at (is_name i primed) (ker.Name i primed) ks ≡ true
reads_itself i true ks = ap (λ b. b && true) (same_number i)
reads_itself i false ks = same_number i

mentions_name : (k : Ker) (i : ℕ) (primed : Bool) → (out-Ker k).op ≡ ker.Name i primed →
    mentions (is_name i primed) k ≡ true
mentions_name k i primed e =
    ap (mentions (is_name i primed)) (sym (roll-out-Ker k))
    ∙ mentions-roll (is_name i primed) (out-Ker k)
    ∙ ap (λ o. mentions_at (is_name i primed) o (map (mentions (is_name i primed)) (out-Ker k).args)) e
    ∙ reads_itself i primed (map (mentions (is_name i primed)) (out-Ker k).args)

-- what is bound is not asked for a name
same_name : (now : List CellId) (next : List (Option CellId)) (bound : List (ℕ × CellId)) (i : ℕ) (primed : Bool) →
    name_cell (record { now = now; next = next; bound = [] }) i primed ≡ name_cell
    (record { now = now; next = next; bound = bound }) i primed
same_name now next bound i true = refl
same_name now next bound i false = refl

pub name_found : (now : List CellId) (next : List (Option CellId)) (bound : List (ℕ × CellId)) (i : ℕ) (primed : Bool)
    (o : Option CellId) (id : CellId) →
    o ≡ name_cell (record { now = now; next = next; bound = [] }) i primed → o ≡ Some id →
    name_cell (record { now = now; next = next; bound = bound }) i primed ≡ Some id
name_found now next bound i primed o id e q = sym (same_name now next bound i primed) ∙ sym e ∙ q

pub name_sort : (b : Build) (k : Ker) (env : CellEnv) (i : ℕ) (primed : Bool) (id : CellId) (r : Cells) →
    CanRewrite b k env →
    (out-Ker k).op ≡ ker.Name i primed → name_cell env i primed ≡ Some id →
    ((s : Sort) → OfSort b.arena.kinds s id → AreCells b s r) → HasTreeSort b k r
name_sort b k env i primed id r can e q h = λ a is.
    h (sort_of a) (has_sort b.arena.kinds (sort_of a) (name_cell env i primed) id
    (can.holds.named i primed a (mentions_name k i primed e)
    (name_at_node can.names can.context a (out-Ker k).binds i primed (out-Ker k).args
    (node_sound can.names can.context k (ker.Name i primed) a can.sound e is))) q)

pub bound_sort : (b : Build) (k : Ker) (env : CellEnv) (n : ℕ) (id : CellId) (r : Cells) → CanRewrite b k env →
    (out-Ker k).op ≡ ker.Bound n → bound_cell env.bound n ≡ Some id →
    ((s : Sort) → OfSort b.arena.kinds s id → AreCells b s r) → HasTreeSort b k r
bound_sort b k env n id r can e q h = λ a is.
    h (sort_of a) (has_sort b.arena.kinds (sort_of a) (bound_cell env.bound n) id
    (can.holds.numbered n a
    (bound_at_node can.names can.context a (out-Ker k).binds n (out-Ker k).args
    (node_sound can.names can.context k (ker.Bound n) a can.sound e is))) q)

-- ---- what leaves give

abbrev pub node : KerOp → Ker → Ker
node o k = tree (out-Ker k).place (out-Ker k).ty o (out-Ker k).args (out-Ker k).binds

node_is : (k : Ker) (o : KerOp) → (out-Ker k).op ≡ o → node o k ≡ k
node_is k o e = ap (λ q. node q k) (sym e) ∙ roll-out-Ker k

-- a tree shows what the node of this operator does
shown_by : (b : Build) (k : Ker) (env : CellEnv) (r : Cells) (o : KerOp) → (out-Ker k).op ≡ o →
    ((a : List Bool) → Satisfies a b.formula → (sc : Scope) (s t : State) → Fits b.arena a env sc s t →
    Shows b.arena a r (ker_val (Some b.arena.width) (node o k) sc s t)) → Rewrites b k env r
shown_by b k env r o e h = record {
  shows = λ a s sc now next f i.
      subst (λ j. Shows b.arena a r (ker_val (Some b.arena.width) j sc now next)) (node_is k o e) (h a s sc now next f);
}

outcomes_same : (w : Width) (p : Place) (l : Layer Value) → constant_outcome w p l ≡ constant_value w p l
outcomes_same w p (layer.Bool t) = refl
outcomes_same w p (layer.Int n) = refl
outcomes_same w p (layer.Text x) = refl
outcomes_same w p (layer.Set xs) = refl
outcomes_same w p (layer.Fun ps) = refl

pub constant_rewrites : (old new : Build) (k : Ker) (env : CellEnv) (v : Value) (r : Cells) → Grows old new →
    (out-Ker k).op ≡ ker.Const v →
    ShowsAt new r (λ a p. constant_outcome (Some old.arena.width) p (out-Value v)) → Rewrites new k env r
constant_rewrites old new k env v r g e h = shown_by new k env r (ker.Const v) e (λ a s sc now next f.
    let x = out-Ker k in
    subst (Shows new.arena a r)
    (outcomes_same (Some old.arena.width) x.place (out-Value v)
    ∙ ap (λ m. constant_value (Some m) x.place (out-Value v)) (sym (width-later old new g))
    ∙ sym (val_const (Some new.arena.width) now next x.place x.ty v x.args x.binds sc))
    (h.shows a s x.place))

pub name_rewrites : (b : Build) (k : Ker) (env : CellEnv) (i : ℕ) (primed : Bool) (id : CellId) (r : Cells) →
    (out-Ker k).op ≡ ker.Name i primed → name_cell env i primed ≡ Some id →
    ShowsAt b r (λ a _. Val (decode b.arena a id)) → Rewrites b k env r
name_rewrites b k env i primed id r e q h = shown_by b k env r (ker.Name i primed) e (λ a s sc now next f.
    let x = out-Ker k in
    subst (Shows b.arena a r)
    (sym (val_name (Some b.arena.width) now next x.place x.ty i primed x.args x.binds sc
    ∙ name_reads b.arena a env sc now next i primed id x.place f q))
    (h.shows a s x.place))

pub bound_rewrites : (b : Build) (k : Ker) (env : CellEnv) (n : ℕ) (id : CellId) (r : Cells) →
    (out-Ker k).op ≡ ker.Bound n → bound_cell env.bound n ≡ Some id → ShowsAt b r (λ a _. Val (decode b.arena a id)) →
    Rewrites b k env r
bound_rewrites b k env n id r e q h = shown_by b k env r (ker.Bound n) e (λ a s sc now next f.
    let x = out-Ker k in
    subst (Shows b.arena a r)
    (sym (val_bound (Some b.arena.width) now next x.place x.ty n x.args x.binds sc
    ∙ number_reads b.arena a env sc now next n id x.place f q))
    (h.shows a s x.place))

pub nocase_rewrites : (b : Build) (k : Ker) (env : CellEnv) (id : CellId) (none : Lit) (r : Cells) →
    (out-Ker k).op ≡ ker.NoCase →
    id.index < length b.arena.kinds → none.var < b.formula.vars →
    ((a : List Bool) → Satisfies a b.formula → lit_value none a ≡ true) →
    ((given : List Bool → Option Value) → Yields b (id, none) given → ShowsAt b r (λ a p. or_wrong p (given a))) →
    Rewrites b k env r
nocase_rewrites b k env id none r e there below forced h = shown_by b k env r ker.NoCase e (λ a s sc now next f.
    let x = out-Ker k in
    subst (Shows b.arena a r)
    (sym (val_nocase (Some b.arena.width) now next x.place x.ty x.args x.binds sc))
    ((h (λ a. None) (record { there = there; below = below; tells = λ a s. forced a s })).shows a s x.place))

-- ---- the last of the cells under a number

module _ (es : List (ℕ × CellId)) (i n : ℕ) (d : ℕ × CellId) (last : Option CellId) (lt : i < length es) where
  one_more : (t : Bool) → nat_eq n (get_or es i d).0 ≡ t →
      bound_cell (take (i + 1) es) n ≡ or_else (if t then Some (get_or es i d).1 else None) (bound_cell (take i es) n)
  one_more t e =
      ap (λ ys. bound_cell ys n) (take_more es i d lt)
      ∙ bound_append (take i es) (get_or es i d ∷ []) n
      ∙ ap (λ b. or_else (if b then Some (get_or es i d).1 else None) (bound_cell (take i es) n)) e

  is_number : (m : ℕ) → n ≡ m → nat_eq n m ≡ true
  is_number m e = grind (arith, e)

  no_number : (m : ℕ) → n ≢ m → nat_eq n m ≡ false
  no_number m e = grind (arith, e)

  pub found_here : n ≡ (get_or es i d).0 → last ≡ Some (get_or es i d).1 → last ≡ bound_cell (take (i + 1) es) n
  found_here e q = q ∙ sym (one_more true (is_number (get_or es i d).0 e))

  pub found_before : (before : Option CellId) → n ≢ (get_or es i d).0 → last ≡ before →
      before ≡ bound_cell (take i es) n →
      last ≡ bound_cell (take (i + 1) es) n
  found_before before e q h = q ∙ h ∙ sym (one_more false (no_number (get_or es i d).0 e))

-- a number that comes out of its bits
pub number_exact : (b : Build) (m n : ℤ) (r : CellId × Lit) → m ≡ n → IsNumber b m r → IsNumber b n r
number_exact b m n r e h = subst (λ i. IsNumber b i r) e h
