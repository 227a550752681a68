use Rattle.std.proofs.Common.{rules, ◌≡◌, ◌∙◌, ◌+◌, ◌++◌, [], ap, length, map, refl, subst, sym, take}
use Rattle.tla_meaning.specs.declared.expr.Expr.{out-Expr}
use Rattle.kernel_reduction.specs.inner.Settings.{names_at, position_at}
use Rattle.kera_reducer.specs.inner.Standing.{NodeTyped, TreeTyped, names_of}
use Rattle.kera_reducer.proofs.ChildSteps.{FirstChildren, all_children, cut_back, next_child, tree_made}
use Rattle.kera_reducer.proofs.IfOks.{ok_by, on_ok_by}
use Rattle.kera_reducer.proofs.reducer.Reducer.+reduce.Goals as goal

pub children-loop-i-init : goal.children-loop-i-init
children-loop-i-init t c =
    let s = c.args.self.now in (
      refl,
      subst (λ z. FirstChildren c.args.passed (names_of s) c.args.e.now [] s.types.now z s.types.now)
          (sym c.new-kids.ensures.items) refl,
    )

pub children-loop-i-preserved : goal.children-loop-i-preserved
children-loop-i-preserved t c =
    let s = c.args.self.now in
    let e = c.args.e.now in
    let args = c.as_slice-args.result.now in
    let i = c.loop-i.i in
    let more = names_at (out-Expr e).op (out-Expr e).binds i in
    let inside = c.in_ok-enter.ensures.names ∙ ap (λ z. z ++ more) c.loop-i.invariant.0 in
    let around : c.len-around.result ≡ length s.names.items = search rules in
    let names = ap (map (λ t. t.now)) (c.truncate.ensures.items ∙ ap (λ n. take n c.expression.new.self.names.items) around)
    ∙ cut_back (λ t. t.now) s.names.items c.expression.new.self.names.items more (c.in_ok-kid.ensures.names ∙ inside) in
    let position = c.position_at-position.ensures
    ∙ ap (λ b. position_at c.args.passed (out-Expr e).op b (length args) i) c.len.ensures in
    let tree = subst (λ z. TreeTyped c.position_at-position.result (names_of c.enter.new.self) c.index-args-i.result z.now
    c.in_ok-kid.kid c.expression.new.self.types.now) c.in_ok-enter.ensures.types c.in_ok-kid.ensures.built in
    let built = next_child c.args.passed (names_of s) e args i s.types.now c.loop-i.kids.items c.loop-i.self.types.now
    c.as_slice-args.ensures c.index-args-i.result c.in_ok-kid.kid c.expression.new.self.types.now
    (names_of c.enter.new.self) c.position_at-position.result c.loop-i-test.true c.index-args-i.is inside position
    c.loop-i.invariant.1 tree in (
      names,
      subst (λ z. FirstChildren c.args.passed (names_of s) e (take (i + 1) args) s.types.now z
          c.expression.new.self.types.now) (sym c.in_ok-push.ensures.items) built,
    )

pub children-returns-clause-built : goal.children-returns-clause-built
children-returns-clause-built t c =
    let s = c.args.self.now in
    all_children c.args.passed (names_of s) c.args.e.now c.as_slice-args.result.now c.loop-i.i s.types.now
    c.loop-i.kids.items c.loop-i.self.types.now c.as_slice-args.ensures c.loop-i-test.false c.loop-i.invariant.1

pub children-returns-clause-names : goal.children-returns-clause-names
children-returns-clause-names t c = c.loop-i.invariant.0

pub expression-returns-in-Bound-clause-built : goal.expression-returns-in-Bound-clause-built
expression-returns-in-Bound-clause-built t c =
    let s = c.args.self.now in
    let e = c.args.e.now in
    let types = c.next_type.new.self.types.now in
    ok_by _ (λ k. TreeTyped c.args.position (names_of s) e s.types.now k types) _ c.bound_name.ensures
    (λ k b. tree_made c.args.position (names_of s) e c.in_ok-ty.ty.now types k types s.types.now c.in_ok-ty.ensures.types
    (subst (λ z. NodeTyped c.args.position z c.in_ok-ty.ty.now e types k types) c.in_ok-ty.ensures.names
    (b c.in-Bound.is c.args.position types)))

pub expression-returns-in_default : goal.expression-returns-in_default
expression-returns-in_default t c =
    let s = c.args.self.now in
    let e = c.args.e.now in
    let types = c.next_type.new.self.types.now in
    record {
      built = ok_by _ (λ k. TreeTyped c.args.position (names_of s) e s.types.now k c.node.new.self.types.now) _ c.node.ensures.built
          (λ k d. tree_made c.args.position (names_of s) e c.in_ok-ty.ty.now types k c.node.new.self.types.now s.types.now
          c.in_ok-ty.ensures.types
          (subst (λ z. NodeTyped c.args.position z c.in_ok-ty.ty.now e types k c.node.new.self.types.now)
          c.in_ok-ty.ensures.names d));
      names = on_ok_by (names_of c.node.new.self ≡ names_of c.next_type.new.self) (names_of c.node.new.self ≡ names_of s)
          c.node.result c.node.ensures.names (λ h. h ∙ c.in_ok-ty.ensures.names);
    }
