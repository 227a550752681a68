use Rattle.std.proofs.Common.{◌∙◌, ap, refl, subst, sym}
use Rattle.kernel_shapes.specs.Codes.{mean}
use Rattle.kernel_shapes.specs.Levels.{Assigns, put}
use Rattle.shape_bounds.specs.declared.names.Names.{Names}
use Rattle.shape_bounds.specs.inner.Walks.{IsAssigned, assigns_in, some_shapes}
use Rattle.shape_bounds.proofs.Walking.{assigned_next, assigned_state}
use Rattle.shape_bounds.proofs.names.Names.assign.Goals as goal

pub returns-in-Next : goal.returns-in-Next
returns-in-Next c =
    let new : Names = record { alloc = c.args.self.now.alloc; width = c.args.self.now.width; state = c.args.self.now.state; next = c.put.new.names; bound = c.args.self.now.bound; first = c.args.self.now.first } in
    subst (λ (k : Assigns). IsAssigned c.args.self.now new k c.args.i (mean c.args.shape)) (sym (ap assigns_in c.in-Next.is))
    (assigned_next c.args.self.now new c.args.i (mean c.args.shape) refl refl refl refl c.put.ensures)

pub returns-in_ok-copy-in-State : goal.returns-in_ok-copy-in-State
returns-in_ok-copy-in-State c =
    let new : Names = record { alloc = c.args.self.now.alloc; width = c.args.self.now.width; state = c.put-in-State.new.names; next = c.put-in-State-2.new.names; bound = c.args.self.now.bound; first = c.args.self.now.first } in
    subst (λ (k : Assigns). IsAssigned c.args.self.now new k c.args.i (mean c.args.shape)) (sym (ap assigns_in c.in-State.is))
    (assigned_state c.args.self.now new c.args.i (mean c.args.shape) refl refl refl
    (c.put-in-State.ensures ∙ ap (λ s. put c.args.i (mean s) (some_shapes c.args.self.now.state.items)) c.in_ok-copy-in-State.ensures) c.put-in-State-2.ensures)
