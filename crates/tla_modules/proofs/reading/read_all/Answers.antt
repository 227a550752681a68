use Rattle.std.proofs.Common.{arith, ◌∙◌, ◌∷◌, [], ap, length, length-append}
use Rattle.tla_meaning.specs.Flattening.{Modules}
use Rattle.tla_modules.specs.Sources.{LeadTo}
use Rattle.tla_modules.proofs.Readings.{err_is, few_read, lead_next, one_more, stopped}
use Rattle.tla_modules.proofs.reading.read_all.Goals as goal

pub read_next-requires : goal.read_next-requires
read_next-requires g c = omega (arith, few_read (g.F.Files.held c.args.files.now) c.args.root.now c.loop-name.modules.items c.loop-name.invariant.2)

pub returns-in_err-read_next-in-Next-clause-ended : goal.returns-in_err-read_next-in-Next-clause-ended
returns-in_err-read_next-in-Next-clause-ended g c =
    let old : Modules = c.loop-name.modules.items in
    let lead : LeadTo old c.args.root.now c.in-Next.name =
    lead_next old c.args.root.now c.in_ok-course_from.ensures c.in-Next.is c.deref.ensures.value c.module_name.ensures in
    err_is _ c.in_err-read_next-in-Next.field-0.0 _ _ c.from_residual-in_err-read_next-in-Next.ensures.1
    (stopped c.args.root.now c.in-Next.name old c.read_next.new.modules.items c.in_err-read_next-in-Next.field-0.0 c.loop-name.invariant.0 lead c.in_err-read_next-in-Next.ensures.read)

pub loop-name-preserved : goal.loop-name-preserved
loop-name-preserved g c =
    let old : Modules = c.loop-name.modules.items in
    let lead : LeadTo old c.args.root.now c.in-Next.name =
    lead_next old c.args.root.now c.in_ok-course_from.ensures c.in-Next.is c.deref.ensures.value c.module_name.ensures in (
      c.in_ok-read_next-in-Next.ensures.keeps ∙ c.loop-name.invariant.0,
      c.in_ok-read_next-in-Next.ensures.counted ∙ c.loop-name.invariant.1,
      one_more c.args.root.now c.in-Next.name old c.read_next.new.modules.items c.loop-name.invariant.0 lead c.loop-name.invariant.2 c.in_ok-read_next-in-Next.ensures.read,
    )

pub loop-name-smaller : goal.loop-name-smaller
loop-name-smaller g c =
    let old : Modules = c.loop-name.modules.items in
    let read = c.in_ok-read_next-in-Next.ensures.read in
    let few = few_read (g.F.Files.held c.args.files.now) c.args.root.now old c.loop-name.invariant.2 in
    omega (arith, ap length read.1, length-append old ((c.in-Next.name, read.0) ∷ []))
