use Rattle.std.proofs.Common.{arith, ℕ, List, refl, ◌≡◌, ◌∙◌, ◌++◌, ap, sym, subst, map, drop, if◌then◌else◌, take, length, flat_map}
use Rattle.std.proofs.lemmas.List.{length-map}
use Rattle.tla_meaning.specs.Resolving.{Resolved, resolver, children, first_with, inner_marks}
use Rattle.tla_meaning.specs.Meaning.{role}
use Rattle.tla_meaning.specs.Symbols.{bound}
use Rattle.tla_meaning.specs.declared.expr.Expr.{Expr, out-Expr, roll-Expr}
use Rattle.flat_modules.specs.inner.Telling.{TellsAll, Told}
use Rattle.flat_modules.proofs.Walking.{all_step, cut_more, default_children, let_step, let_whole, marked_step, none_left, resolved_node, tells_node}
use Rattle.flat_modules.proofs.resolving.Resolving.+resolve.Goals as goal

pub all-loop-i-preserved : goal.all-loop-i-preserved
all-loop-i-preserved t c =
    let k = all_step c.args.args.now c.loop-i.i c.index-args-i.result c.in_ok-tree.tree c.loop-i.trees.items c.push.new.self.items _
    c.loop-i-test.true c.index-args-i.is c.in_ok-push.ensures.items c.loop-i.invariant.1 c.loop-i.beside c.loop-i.invariant.2 c.in_ok-tree.ensures in
    (omega arith, k.0, k.1)

pub children-returns-in_ok-marks-in_default : goal.children-returns-in_ok-marks-in_default
children-returns-in_ok-marks-in_default t c =
    let p = c.args.place in
    let o = c.args.op.now in
    let xs = c.args.binds.now in
    let ks = map resolver c.args.args.now in
    let s = c.args.self.now.scope in
    let is = default_children p o xs ks s c.deref.result.now c.in_default.not-Fold c.in_default.not-Use c.in_default.not-Param c.in_default.not-Let c.in_default.not-Bound
    (λ bs h. c.deref.ensures.value ∙ c.in_ok-marks-in_default.ensures bs h ∙ ap (λ n. inner_marks o xs n bs) (sym (length-map c.args.args.now resolver))) in
    subst (λ rs. TellsAll c.args.self.now c.marked-in_default.new.self rs c.marked-in_default.result) is c.marked-in_default.ensures

pub marked-loop-i-preserved : goal.marked-loop-i-preserved
marked-loop-i-preserved t c =
    let k = marked_step c.args.args.now c.loop-i.i c.index-args-i.result c.in_ok-tree.tree c.loop-i.trees.items c.push.new.self.items _
    c.loop-i-test.true c.index-args-i.is c.in_ok-push.ensures.items c.loop-i.invariant.0 (map (bound c.args.place) c.args.binds.now) c.args.marks.now c.loop-i.invariant.1
    (subst (λ b. Told (record { alloc = c.loop-i.self.alloc; scope = c.loop-i.self.scope; told = c.loop-i.self.told }) (record { alloc = c.inside.new.self.alloc; scope = c.inside.new.self.scope; told = c.inside.new.self.told })
    ((resolver c.index-args-i.result).resolve 0 (if b then c.loop-i.self.scope ++ map (bound c.args.place) c.args.binds.now else c.loop-i.self.scope)).misuses
    × (c.in_ok-tree.tree ≡ ((resolver c.index-args-i.result).resolve 0 (if b then c.loop-i.self.scope ++ map (bound c.args.place) c.args.binds.now else c.loop-i.self.scope)).tree)) c.is_marked.ensures c.in_ok-tree.ensures) in
    (k.0, k.1)

pub let_parts-loop-i-preserved : goal.let_parts-loop-i-preserved
let_parts-loop-i-preserved t c = (
  cut_more c.in_ok-entry.entry c.len-before.ensures c.loop-i.invariant.0 c.in_ok-tree.ensures.0.scope c.in_ok-push-2.ensures,
  let_step c.args.args.now c.loop-i.i c.index-args-i.result c.in_ok-tree.tree c.loop-i.trees.items c.push.new.self.items _
      c.args.place c.args.lets.now c.loop-i.rest.now c.front.result.now c.behind-rest.result.now c.index-lets-i.result c.in_ok-entry.entry c.own_function-own.result
      (omega arith) c.index-args-i.is (omega arith) c.index-lets-i.is c.front.ensures c.behind-rest.ensures c.own_function-own.ensures c.in_ok-push.ensures.items c.in_ok-entry.ensures
      c.in_ok-push-2.ensures refl c.loop-i.invariant.1 c.in_ok-tree.ensures,
)

pub let_parts-returns : goal.let_parts-returns
let_parts-returns t c =
    let at_end : c.min-count.result ≡ c.loop-i.i = omega arith in
    let_whole c.args.args.now c.loop-i.i c.loop-i.trees.items c.in_ok-last.last.items c.append.new.self.items _ c.args.place c.args.lets.now c.loop-i.rest.now
    (none_left c.args.lets.now c.args.args.now c.loop-i.i c.min-count.result (omega arith) (omega arith)) c.in_ok-append.ensures.items
    (c.cut.ensures ∙ ap (take c.len-before.result) c.in_ok-last.ensures.0.scope ∙ c.loop-i.invariant.0) refl c.loop-i.invariant.1
    (subst (λ n. Told c.loop-i.self c.all.new.self (flat_map (λ (r : Resolved). r.misuses) (first_with 0 c.loop-i.self.scope (map resolver (drop n c.args.args.now))))
    × (c.in_ok-last.last.items ≡ map (λ (r : Resolved). r.tree) (first_with 0 c.loop-i.self.scope (map resolver (drop n c.args.args.now))))) at_end c.in_ok-last.ensures)

pub resolve-returns : goal.resolve-returns
resolve-returns t c =
    let e = c.args.e.now in
    let x = out-Expr e in
    let s = c.args.self.now.scope in
    let inside : List (List ℕ) → List Expr → List Resolved = λ xs ts. children x.place x.op xs (map resolver ts) (role x.op (length xs)) c.tell_own.new.self.scope in
    let known : List (List ℕ) → List Expr → Type 0 = λ xs ts. Told c.tell_own.new.self c.children.new.self (flat_map (λ (r : Resolved). r.misuses) (inside xs ts))
    × (c.in_ok-args.args.items ≡ map (λ (r : Resolved). r.tree) (inside xs ts)) in
    let a = subst (λ ts. known x.binds ts) c.as_slice-2.ensures (subst (λ xs. known xs c.as_slice-2.result.now) c.as_slice.ensures c.in_ok-args.ensures) in
    let k = tells_node {new = c.children.new.self} x.place x.op x.binds x.args c.args.more c.in_ok-args.args.items c.in_ok-op.op c.in_ok-tell_own.ensures (c.in_ok-op.ensures (length x.binds))
    a.0 a.1 in
    let h = subst (λ (r : Resolved). Told c.args.self.now c.children.new.self r.misuses
    × (roll-Expr (record { place = x.place; op = c.in_ok-op.op; args = c.in_ok-args.args.items; binds = x.binds }) ≡ r.tree)) (sym (resolved_node e c.args.more s)) k in (
      h.0,
      ap (λ l. roll-Expr (record { place = x.place; op = c.in_ok-op.op; args = l; binds = c.in_ok-binds.binds })) c.from_vec.ensures
          ∙ ap (λ l. roll-Expr (record { place = x.place; op = c.in_ok-op.op; args = c.in_ok-args.args.items; binds = l })) c.in_ok-binds.ensures ∙ h.1,
    )
