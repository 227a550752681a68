use Rattle.std.proofs.Common.{◌≡◌, ◌+◌, ◌*◌, ◌%◌, ◌<◌, fold, take}
use Rattle.flat_modules.proofs.index.key_of.Given as goal

abbrev pub invariant-loop-byte : goal.invariant-loop-byte
invariant-loop-byte l = (l.key ≡ fold (λ h b. (h * 31 + b) % 4294967296) 0 (take l.byte-index l.name)) × (l.key < 4294967296)
