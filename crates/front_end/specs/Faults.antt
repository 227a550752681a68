-- The faults of the stages as those of all stages: want of memory is told by its own variant.
use Rattle.assignment_finder.specs.declared.assign_fault.AssignFault.{AssignFault}
use Rattle.assignment_finder.specs.declared.assign_fault.AssignFault.TheVariants as assigns
use Rattle.front_end.specs.declared.fault.FrontFault.{FrontFault}
use Rattle.front_end.specs.declared.fault.FrontFault.TheVariants.{Module, Inline, «Type» as Types, Ker, Split, Assign, Shape, Memory}
use Rattle.kernel_trees.specs.declared.faults.KerFault.{KerFault}
use Rattle.kernel_trees.specs.declared.faults.KerFault.TheVariants as kernels
use Rattle.op_inliner.specs.declared.parts.InlineFault.{InlineFault}
use Rattle.op_inliner.specs.declared.parts.InlineFault.TheVariants as inlines
use Rattle.shape_bounds.specs.declared.shape_fault.ShapeFault.{ShapeFault}
use Rattle.shape_bounds.specs.declared.shape_fault.ShapeFault.TheVariants as shapes
use Rattle.snowcat_types.specs.declared.faults.TypeFault.{TypeFault}
use Rattle.snowcat_types.specs.declared.faults.TypeFault.TheVariants as types
use Rattle.tla_modules.specs.declared.fault.ModuleFault.{ModuleFault}
use Rattle.tla_modules.specs.declared.fault.ModuleFault.TheVariants as modules
use Rattle.transition_splitter.specs.declared.split_fault.SplitFault.{SplitFault}
use Rattle.transition_splitter.specs.declared.split_fault.SplitFault.TheVariants as splits

abbrev pub of_module : ModuleFault → FrontFault
of_module (modules.Memory e) = Memory e
of_module f = Module f

abbrev pub of_inline : InlineFault → FrontFault
of_inline (inlines.Memory e) = Memory e
of_inline f = Inline f

abbrev pub of_type : TypeFault → FrontFault
of_type (types.Memory e) = Memory e
of_type f = Types f

abbrev pub of_ker : KerFault → FrontFault
of_ker (kernels.Memory e) = Memory e
of_ker f = Ker f

abbrev pub of_split : SplitFault → FrontFault
of_split (splits.Memory e) = Memory e
of_split f = Split f

abbrev pub of_assign : AssignFault → FrontFault
of_assign (assigns.Memory e) = Memory e
of_assign f = Assign f

abbrev pub of_shape : ShapeFault → FrontFault
of_shape (shapes.Memory e) = Memory e
of_shape f = Shape f
