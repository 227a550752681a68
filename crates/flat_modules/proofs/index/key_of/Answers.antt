use Rattle.std.proofs.Common.{◌∙◌, ◌+◌, ◌*◌, ◌%◌, ap, fold}
use Rattle.std.proofs.lemmas.List.{take_all}
use Rattle.flat_modules.specs.inner.Places.{key_of}
use Rattle.flat_modules.proofs.index.key_of.Goals as goal

pub returns : goal.returns
unfolding key_of
returns c = c.loop-byte.invariant.0 ∙ ap (fold (λ h b. (h * 31 + b) % 4294967296) 0) (take_all c.loop-byte.byte-index c.args.name.now c.loop-byte-test.false)
