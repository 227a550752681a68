use Rattle.std.proofs.Common.{sym, ap}
use Rattle.tla_values.proofs.ShowLemmas.{shown-bool, shown-int, shown-set, shown-fun, named-yes, named-no}
use Rattle.tla_values.proofs.printing.name_of.Goals as goal

pub returns-then-is_name : goal.returns-then-is_name
returns-then-is_name c = named-yes _ _ _ c.in-Text.is c.bytes-bytes.ensures (cc)

pub returns-else-is_name : goal.returns-else-is_name
returns-else-is_name c = named-no _ _ _ c.in-Text.is c.bytes-bytes.ensures (cc)

pub returns-in-Bool : goal.returns-in-Bool
returns-in-Bool c = ap (λ s. s.name) (sym (shown-bool _ _ c.in-Bool.is))

pub returns-in-Int : goal.returns-in-Int
returns-in-Int c = ap (λ s. s.name) (sym (shown-int _ _ c.in-Int.is))

pub returns-in-Set : goal.returns-in-Set
returns-in-Set c = ap (λ s. s.name) (sym (shown-set _ _ c.in-Set.is))

pub returns-in-Fun : goal.returns-in-Fun
returns-in-Fun c = ap (λ s. s.name) (sym (shown-fun _ _ c.in-Fun.is))
