-- Trees in which nothing is used that is defined elsewhere.
pub use Rattle.tla_meaning.specs.Expanded.{is_expanded, is_expanded_op}
