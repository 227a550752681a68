-- The definitions on examples.
use Rattle.std.proofs.Common.{◌≡◌, ℕ, zero, suc, All, false, List, [], ◌∷◌, ◌++◌, refl, ap, ap₂, ◌∙◌, sym, arith, codes, pos}
use Rattle.std.proofs.lemmas.Fmt.{decimal_digit}
use Rattle.tla_values.specs.Show.{text_of}
use Rattle.tla_values.specs.declared.value.Value.{Value, Int, Set}
use Rattle.tla_values.specs.declared.value.Value.TheVariants.{outs-Int, outs-Set}
use Rattle.tla_values.specs.declared.value.Value.TheOpen as layer
use Rattle.tla_values.proofs.NormalLemmas.{normal_int}
use Rattle.tla_values.proofs.TextLaw.{head_is, tail_is}
use Rattle.tla_meaning.specs.declared.expr.Decl.{Decl}
use Rattle.trace_text.specs.Blocks.{BeginsWith, IsBadLine, IsValue}
use Rattle.trace_text.specs.Reports.{block_text, value_line}
use Rattle.trace_text.specs.declared.brackets.Bracket.TheVariants.{Brace, Angle}
use Rattle.trace_text.specs.inner.LineParts.{IsLine}
use Rattle.trace_text.specs.inner.Pieces.{made, pieces_text}
use Rattle.trace_text.proofs.BlockLines.{bad_line, line_opened}
use Rattle.trace_text.proofs.ValueForms.{fits_count, text_at}

one : Value
one = Int (pos 1)

one_shown : text_of one ≡ codes "1"
unfolding one
one_shown = text_at (Int (pos 1)) (layer.Int (pos 1)) (outs-Int (pos 1)) ∙ decimal_digit 1 (omega arith)

empty_shown : text_of (Set []) ≡ codes "{}"
empty_shown = text_at (Set []) (layer.Set []) (outs-Set [])

-- the sequence of 1 and 1, behind its opening
items : pieces_text Angle ((Int (pos 1), one) ∷ (Int (pos 2), one) ∷ []) (codes "\n") ≡ codes "1, 1>>\n"
items = ap (λ t. t ++ (((codes ", " ++ t) ++ []) ++ codes ">>\n")) one_shown

-- of a set the values alone are kept
members : made Brace ((Int (pos 1), Set []) ∷ (Int (pos 2), one) ∷ []) ≡ Set (Set [] ∷ one ∷ [])
members = refl

abbrev named : List ℕ → Decl
named name = record { name = name; place = record { file = 0; line = 1; col = 1 }; constant = false; note = [] }

abbrev names : List Decl
names = named (codes "x") ∷ named (codes "y") ∷ []

block : block_text names (record { vals = one ∷ Set [] ∷ [] }) ≡ codes "/\\ x = 1\n/\\ y = {}\n"
unfolding value_line
block = ap₂ (λ a b. ((codes "/\\ x = " ++ a) ++ codes "\n") ++ (((codes "/\\ y = " ++ b) ++ codes "\n") ++ [])) one_shown empty_shown

abbrev other : List ℕ
other = codes "/\\ z = 2\n"

-- a line of z stands where one of y is wanted
wrong_name : IsBadLine names (codes "/\\ x = 1\n/\\ z = 2\n") 2
unfolding value_line one
wrong_name = bad_line names (codes "/\\ x = 1\n/\\ z = 2\n") other 1 2 (one ∷ []) (named (codes "y")) (omega arith) refl begins none
  where
    value : IsValue one
    value = record { normal = normal_int one (pos 1) refl; fits = fits_count (pos 1) 1 refl (omega arith) }

    each : All IsValue (one ∷ [])
    each zero d lt = value
    each (suc k) d lt = absurd (omega arith)

    begins : BeginsWith (named (codes "x") ∷ []) (codes "/\\ x = 1\n/\\ z = 2\n") (record { vals = one ∷ [] }) other
    begins = record {
      state = record { one_each = refl; values = each };
      is = sym (ap (λ a. (((codes "/\\ x = " ++ a) ++ codes "\n") ++ []) ++ other) one_shown);
    }

    none : (v : Value) (more : List ℕ) → IsLine (codes "y") other v more → ⊥
    none v more line =
        let whole = line.is ∙ line_opened (codes "y") v more in
        omega (arith, head_is 122 121 _ _ (tail_is 32 32 _ _ (tail_is 92 92 _ _ (tail_is 47 47 _ _ whole))))
