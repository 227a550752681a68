-- The line that says why modules and a request are refused (begin with `refusal_text`, at the end): one equation a fault.
-- A place is printed as `Module:line:column`, the module being its file's name without folder and `.tla`, a number in
-- decimals, a type as the Apalache manual writes it ("Type System 1.2").
use Rattle.std.specs.Prelude.{ℕ, List, [], ◌∷◌, ◌++◌, flat_map, slice_get, unwrap_or, option_map, codes}
use Rattle.std.specs.Fmt.{decimal}
use Rattle.assignment_finder.specs.declared.assign_fault.AssignFault.{AssignFault}
use Rattle.assignment_finder.specs.declared.assign_fault.AssignFault.TheVariants as assigns
use Rattle.front_end.specs.declared.fault.FrontFault.{FrontFault}
use Rattle.front_end.specs.declared.fault.FrontFault.TheVariants as front
use Rattle.front_end.specs.declared.fault.Refusal.{Refusal}
use Rattle.kernel_trees.specs.declared.faults.KerFault.{KerFault}
use Rattle.kernel_trees.specs.declared.faults.KerFault.TheVariants as kernels
use Rattle.op_inliner.specs.declared.parts.InlineFault.{InlineFault}
use Rattle.op_inliner.specs.declared.parts.InlineFault.TheVariants as inlines
use Rattle.shape_bounds.specs.declared.shape_fault.ShapeFault.{ShapeFault}
use Rattle.shape_bounds.specs.declared.shape_fault.ShapeFault.TheVariants as shapes
use Rattle.snowcat_rows.specs.Numbered.{numbered_together}
use Rattle.snowcat_rows.specs.Texts.{type_text}
use Rattle.snowcat_rows.specs.declared.types.Ty.{Ty}
use Rattle.snowcat_types.specs.declared.faults.TypeFault.{TypeFault}
use Rattle.snowcat_types.specs.declared.faults.TypeFault.TheVariants as types
use Rattle.tla_lexer.specs.declared.fault.LexFault.{LexFault}
use Rattle.tla_lexer.specs.declared.fault.LexFault.TheVariants as lex
use Rattle.tla_meaning.specs.declared.expr.Decl.{Decl}
use Rattle.tla_meaning.specs.declared.op.Form.{Form}
use Rattle.tla_meaning.specs.declared.op.Form.TheVariants as form
use Rattle.tla_meaning.specs.declared.place.Place.{Place}
use Rattle.tla_modules.specs.declared.fault.ModuleFault.{ModuleFault}
use Rattle.tla_modules.specs.declared.fault.ModuleFault.TheVariants as modules
use Rattle.tla_parser.specs.declared.fault.ParseFault.{ParseFault}
use Rattle.tla_parser.specs.declared.fault.ParseFault.TheVariants as parse
use Rattle.tla_parser.specs.declared.fault.Syntax.{Syntax}
use Rattle.tla_parser.specs.declared.fault.Syntax.TheVariants as syntax
use Rattle.tla_values.specs.FileNames.{module_name}
use Rattle.trace_text.specs.Reports.{file_name, place_text}
use Rattle.transition_splitter.specs.declared.split_fault.SplitFault.{SplitFault}
use Rattle.transition_splitter.specs.declared.split_fault.SplitFault.TheVariants as splits

-- ---- the words for forms

-- that are read nowhere
abbrev pub syntax_text : Syntax → List ℕ
syntax_text syntax.NestedModule = codes "nested MODULE"
syntax_text syntax.ParametrizedInstance = codes "parametrized INSTANCE"
syntax_text syntax.SymbolDefinition = codes "operator definition by symbol"
syntax_text syntax.Proof = codes "proof"
syntax_text syntax.OperatorParameter = codes "operator parameter"
syntax_text syntax.TuplePattern = codes "tuple pattern"

-- that are refused where they are reached
abbrev pub form_text : Form → List ℕ
form_text form.Choose = codes "CHOOSE"
form_text form.Enabled = codes "ENABLED"
form_text form.Recursive = codes "RECURSIVE"
form_text form.Temporal = codes "TEMPORAL"
form_text form.Unbounded = codes "UNBOUNDED QUANTIFIER"
form_text form.Power = codes "POWER"
form_text form.Prime = codes "PRIME"
form_text form.Variable = codes "VARIABLE"
form_text form.DoublePrime = codes "DOUBLE PRIME"
form_text form.Library = codes "LIBRARY"

-- ---- why modules make no flat module

abbrev pub lex_text : List (List ℕ) → LexFault → List ℕ
lex_text files (lex.BadToken p) = codes "refused: bad token at " ++ place_text files p
lex_text files (lex.OpenComment p) = codes "refused: open comment at " ++ place_text files p
lex_text files (lex.BigLiteral p) = codes "refused: number past 128 bits at " ++ place_text files p
lex_text files (lex.NoHeader file) = codes "refused: no module header in " ++ module_name (file_name files file)
lex_text files (lex.Memory e) = codes "out of memory"

abbrev pub parse_text : List (List ℕ) → ParseFault → List ℕ
parse_text files (parse.BadGrammar p) = codes "refused: grammar at " ++ place_text files p
parse_text files (parse.TooDeep p) = codes "refused: nesting past 400 at " ++ place_text files p
parse_text files (parse.NotSupported p f) =
    codes "refused: " ++ syntax_text f ++ codes " is not supported at " ++ place_text files p
parse_text files (parse.Memory e) = codes "out of memory"

-- names with commas between them
abbrev pub behind_comma : List ℕ → List ℕ
behind_comma x = codes ", " ++ x

abbrev pub names_text : List (List ℕ) → List ℕ
names_text [] = []
names_text (x ∷ xs) = x ++ flat_map behind_comma xs

abbrev pub module_text : List (List ℕ) → ModuleFault → List ℕ
module_text files (modules.Missing x) = codes "refused: module " ++ x ++ codes " is missing"
module_text files (modules.NameDiffers x y) = codes "refused: file " ++ x ++ codes " holds module " ++ y
module_text files (modules.Cycle xs) = codes "refused: modules mention each other: " ++ names_text xs
module_text files (modules.Unknown x p) =
    codes "refused: name " ++ x ++ codes " is unknown at " ++ place_text files p
module_text files (modules.Twice x p q) =
    codes "refused: name " ++ x ++ codes " is declared at " ++ place_text files p
    ++ codes " and at " ++ place_text files q
module_text files (modules.Arity p m n) =
    codes "refused: " ++ decimal m ++ codes " arguments for " ++ decimal n ++ codes " at " ++ place_text files p
module_text files modules.TooMany = codes "refused: more than 64 modules"
module_text files (modules.Lex f) = lex_text files f
module_text files (modules.Parse f) = parse_text files f
module_text files (modules.Read file) = codes "read fault: " ++ file
module_text files (modules.TooLong file) = codes "file is too long: " ++ file
module_text files (modules.Memory e) = codes "out of memory"

-- ---- why the operators make no job

abbrev pub inline_text : List (List ℕ) → InlineFault → List ℕ
inline_text files (inlines.NoOperator x) = codes "refused: no operator " ++ x
inline_text files (inlines.TooLarge x n) = codes "refused: " ++ decimal n ++ codes " nodes after expansion of " ++ x
inline_text files (inlines.TooDeep x) = codes "refused: nesting past 400 after expansion of " ++ x
inline_text files (inlines.Reached f p) =
    codes "refused: " ++ form_text f ++ codes " is reached at " ++ place_text files p
inline_text files (inlines.Memory e) = codes "out of memory"

-- ---- why a job has no typing

-- two types, with one letter for each of their variables
abbrev pub two_types : Ty × Ty → List ℕ
two_types p = codes "types " ++ (type_text p.0 ++ (codes " and " ++ type_text p.1))

abbrev pub behind_place : List (List ℕ) → Place → List ℕ
behind_place files p = codes ", " ++ place_text files p

-- the places of the nodes that took their default
abbrev pub defaults_text : List (List ℕ) → List Place → List ℕ
defaults_text files [] = []
defaults_text files (p ∷ ps) = codes "; defaults at " ++ place_text files p ++ flat_map (behind_place files) ps

abbrev pub typing_text : List (List ℕ) → TypeFault → List ℕ
typing_text files (types.NotAnnotated x p) = codes "refused: name " ++ x ++ codes " has no type"
typing_text files (types.BadAnnotation p) = codes "refused: bad type at " ++ place_text files p
typing_text files (types.Clash p a b ds) =
    codes "refused: " ++ two_types (numbered_together a b) ++ codes " clash at " ++ place_text files p
    ++ defaults_text files ds
typing_text files (types.Memory e) = codes "out of memory"

-- ---- why a typed job has no kernel, a kernel no paths, a path no assignments, a system no shapes

abbrev pub ker_text : List (List ℕ) → KerFault → List ℕ
ker_text files (kernels.NotFinite p) = codes "refused: infinite set at " ++ place_text files p
ker_text files (kernels.Memory e) = codes "out of memory"

abbrev pub split_text : SplitFault → List ℕ
split_text (splits.TooManyPaths n) = codes "refused: " ++ decimal n ++ codes " paths"
split_text (splits.Memory e) = codes "out of memory"

-- the declared name of a number, and nothing where there is none
abbrev pub declared_name : List Decl → ℕ → List ℕ
declared_name names n = unwrap_or (option_map (λ (d : Decl). d.name) (slice_get names n)) []

abbrev pub assign_text : List (List ℕ) → List Decl → AssignFault → List ℕ
assign_text files names (assigns.Unassigned n p) =
    codes "refused: name " ++ declared_name names n ++ codes " is not assigned on the path at " ++ place_text files p
assign_text files names (assigns.ReadEarly n p) =
    codes "refused: name " ++ declared_name names n ++ codes " is read before it is assigned at " ++ place_text files p
assign_text files names (assigns.Infinite p) = codes "refused: infinite set at " ++ place_text files p
assign_text files names (assigns.Memory e) = codes "out of memory"

abbrev pub shape_text : List (List ℕ) → ShapeFault → List ℕ
shape_text files (shapes.TooLarge level p n) =
    codes "refused: " ++ decimal n ++ codes " members at level " ++ decimal level ++ codes " at " ++ place_text files p
shape_text files (shapes.TooLong level p n) =
    codes "refused: " ++ decimal n ++ codes " places at level " ++ decimal level ++ codes " at " ++ place_text files p
shape_text files (shapes.Memory e) = codes "out of memory"

-- ---- why modules and a request are refused

abbrev pub fault_text : List (List ℕ) → List Decl → FrontFault → List ℕ
fault_text files names (front.Module f) = module_text files f
fault_text files names (front.Inline f) = inline_text files f
fault_text files names (front.«Type» f) = typing_text files f
fault_text files names (front.Ker f) = ker_text files f
fault_text files names (front.Split f) = split_text f
fault_text files names (front.Assign f) = assign_text files names f
fault_text files names (front.Shape f) = shape_text files f
fault_text files names (front.Memory e) = codes "out of memory"

abbrev pub refusal_text : Refusal → List ℕ
refusal_text r = fault_text r.files r.names r.fault ++ codes "\n"
