use Rattle.std.proofs.Common.{true, refl, sym}
use Rattle.kernel_trees.specs.declared.path.AssignedStep.TheVariants as mark
use Rattle.assignment_finder.proofs.Taking.{assignment_may, becomes, becomes_guard}
use Rattle.assignment_finder.proofs.marking.operand.Goals as goal

pub returns-in-Nothing : goal.returns-in-Nothing
returns-in-Nothing c = λ m before h. (
  mark.Guard c.args.k.now true,
  (becomes_guard m before c.args.k.now (sym (c.in-Nothing.ensures m before h)), c.guard.ensures m before h tt),
)

pub returns-in-Value : goal.returns-in-Value
returns-in-Value c = λ m before h.
    let z = mark.Equals c.in-Value.name c.in-Value.right.now in
    let e = sym (c.in-Value.ensures m before h) in (
      z,
      (becomes m before c.args.k.now c.in-Value.name z e refl, c.value.ensures m before h (assignment_may m before c.args.k.now c.in-Value.name z e)),
    )

pub returns-in-Member : goal.returns-in-Member
returns-in-Member c = λ m before h.
    let z = mark.Among c.in-Member.name c.in-Member.form.now in
    let e = sym (c.in-Member.ensures m before h) in (
      z,
      (becomes m before c.args.k.now c.in-Member.name z e refl, c.member.ensures m before h (assignment_may m before c.args.k.now c.in-Member.name z e)),
    )
