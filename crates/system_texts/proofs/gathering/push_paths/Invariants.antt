use Rattle.std.proofs.Common.{◌≡◌, ◌++◌, map, flat_map, take}
use Rattle.system_texts.specs.inner.Gathered.{path_texts}
use Rattle.system_texts.proofs.gathering.push_paths.Given as goal

abbrev pub invariant-loop-path : goal.invariant-loop-path
invariant-loop-path l = map (λ t. t.now) l.out.items ≡ map (λ t. t.now) l.fn.out.items ++ flat_map path_texts (take l.path-index l.paths)
