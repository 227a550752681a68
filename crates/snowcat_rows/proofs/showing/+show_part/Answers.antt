use Rattle.std.proofs.Common.{rules, map, ◌≡◌, arith, codes, ap, ◌∙◌, ◌++◌}
use Rattle.snowcat_rows.specs.Texts.{field_text, form_of, items_text, operand_text, result_text, type_text, typed_field}
use Rattle.tla_values.proofs.ShowLemmas.{join_by_read, two_more, four_more}
use Rattle.snowcat_rows.proofs.TextForms.{text-Fun, text-Oper, three_written, four_written}
use Rattle.snowcat_rows.proofs.showing.+show_part.Goals as goal

pub show_items-loop-i-preserved : goal.show_items-loop-i-preserved
show_items-loop-i-preserved t c =
    two_more _ _ _ c.loop-i.invariant _ _ _ _ _
    c.in_ok-separate.ensures.text c.in_ok-show_part.ensures.text
    (join_by_read type_text (λ x. x) (codes ", ") c.args.ts.now c.loop-i.i _ (omega arith) c.index-ts-i.is)

pub show_fields-loop-i-preserved : goal.show_fields-loop-i-preserved
show_fields-loop-i-preserved t c =
    four_more _ _ _ c.loop-i.invariant _ _ _ _ _ _ _ _ _
    c.in_ok-separate.ensures.text (c.in_ok-append.ensures.text ∙ ap (λ b. c.separate.new.out.items ++ b) c.bytes.ensures) c.in_ok-append-2.ensures.text c.in_ok-show_part.ensures.text
    (join_by_read typed_field field_text (codes ", ") c.args.fs.now c.loop-i.i _ (omega arith) c.index-fs-i.is)

pub show_part-returns-in_ok-show_result-in-Fun-clause-text : goal.show_part-returns-in_ok-show_result-in-Fun-clause-text
show_part-returns-in_ok-show_result-in-Fun-clause-text t c =
    let a = c.in-Fun.a in
    let b = c.in-Fun.b in
    let first : c.show_operand.new.out.items ≡ c.args.out.now.items ++ operand_text (form_of a) (type_text a) = search rules in
    let last : c.show_result.new.out.items ≡ c.append-in-Fun.new.out.items ++ result_text (form_of b) (type_text b) = search rules in
    three_written _ _ _ _ (operand_text (form_of a) (type_text a)) (codes " -> ") (result_text (form_of b) (type_text b)) _
    first c.in_ok-append-in-Fun.ensures.text last (ap type_text c.in-Fun.is ∙ text-Fun c.in-Fun.a c.in-Fun.b)

pub show_part-returns-in_ok-show_part-in-Oper-clause-text : goal.show_part-returns-in_ok-show_part-in-Oper-clause-text
show_part-returns-in_ok-show_part-in-Oper-clause-text t c =
    let b = c.in-Oper.b in
    let items : c.show_items.new.out.items ≡ c.append-in-Oper.new.out.items ++ items_text (map type_text c.in-Oper.ts) = search rules in
    let last : c.show_part.new.out.items ≡ c.append-in-Oper-2.new.out.items ++ type_text b = search rules in
    four_written _ _ _ _ _ (codes "(") (items_text (map type_text c.in-Oper.ts)) (codes ") => ") (type_text b) _
    c.in_ok-append-in-Oper.ensures.text items c.in_ok-append-in-Oper-2.ensures.text last (ap type_text c.in-Oper.is ∙ text-Oper c.in-Oper.ts c.in-Oper.b)
