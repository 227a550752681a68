-- Operators of the kernel that walk all their children, and the row of the table of shapes that each has.
use Rattle.std.specs.Prelude.{Bool, true, false}
use Rattle.kernel_trees.specs.declared.kernel.KerOp.{KerOp}
use Rattle.kernel_trees.specs.declared.kernel.KerOp.TheVariants as ker
use Rattle.kernel_shapes.specs.Rows.{Row, a_truth, a_sum, a_difference, a_product, a_quotient, a_remainder, a_size, a_length, an_enumeration, a_range, a_union, a_part, a_shorter, a_big_union, the_subsets, the_functions, the_records, the_tuples, a_choice, an_application, a_field, a_head, a_merge, a_record, an_append, a_concatenation}

abbrev pub row_of : KerOp → Row
row_of ker.Plus = a_sum
row_of ker.Minus = a_difference
row_of ker.Times = a_product
row_of ker.Quotient = a_quotient
row_of ker.Remainder = a_remainder
row_of ker.Count = a_size
row_of ker.Length = a_length
row_of ker.SetOf = an_enumeration
row_of ker.Range = a_range
row_of ker.Union = a_union
row_of ker.Inter = a_part
row_of ker.Without = a_part
row_of ker.Flatten = a_big_union
row_of ker.Subsets = the_subsets
row_of ker.Functions = the_functions
row_of (ker.RecForm xs) = the_records xs
row_of ker.TupForm = the_tuples
row_of ker.If = a_choice
row_of ker.NoCase = a_choice
row_of ker.At = an_application
row_of (ker.Item i) = an_application
row_of (ker.FieldOf x) = a_field x
row_of ker.First = a_head
row_of ker.Join = a_merge
row_of (ker.RecOf xs) = a_record xs
row_of ker.Push = an_append
row_of ker.Glue = a_concatenation
row_of ker.Rest = a_shorter
row_of ker.Slice = a_shorter
row_of o = a_truth

-- those whose row asks neither for types nor for a part of what stands there
abbrev pub is_plain : KerOp → Bool
is_plain ker.And = true
is_plain ker.Or = true
is_plain ker.Not = true
is_plain ker.Equal = true
is_plain ker.Less = true
is_plain ker.If = true
is_plain ker.Plus = true
is_plain ker.Minus = true
is_plain ker.Times = true
is_plain ker.Quotient = true
is_plain ker.Remainder = true
is_plain ker.Count = true
is_plain ker.Length = true
is_plain ker.SetOf = true
is_plain ker.Union = true
is_plain ker.Inter = true
is_plain ker.Without = true
is_plain ker.Flatten = true
is_plain ker.At = true
is_plain (ker.FieldOf x) = true
is_plain ker.First = true
is_plain ker.Join = true
is_plain (ker.RecOf xs) = true
is_plain ker.Push = true
is_plain ker.Glue = true
is_plain ker.Rest = true
is_plain ker.Slice = true
is_plain o = false
