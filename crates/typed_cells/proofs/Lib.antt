pub mod OrderedFields
pub mod PartSorts
pub mod NewCells
pub mod DefaultCells
pub mod DefaultValues
pub mod Examples
pub mod CellExamples
