use Rattle.std.proofs.Common.{◌≡◌, ◌++◌, map, take}
use Rattle.snowcat_rows.specs.Texts.{items_text, fields_text, type_text, typed_field}
use Rattle.snowcat_rows.proofs.showing.+show_part.Given as goal

abbrev pub invariant-show_items-loop-i : goal.invariant-show_items-loop-i
invariant-show_items-loop-i l = l.out.items ≡ l.initial.out.items ++ items_text (map type_text (take l.i l.ts))

abbrev pub invariant-show_fields-loop-i : goal.invariant-show_fields-loop-i
invariant-show_fields-loop-i l = l.out.items ≡ l.initial.out.items ++ fields_text (map typed_field (take l.i l.fs))
