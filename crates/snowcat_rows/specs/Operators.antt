-- Types in which no operator type stands.
use Rattle.snowcat_rows.specs.Types.{Term, Head, OperHead}
use Rattle.snowcat_rows.specs.Throughout.{Throughout}

abbrev pub IsNoOperator : Head → Type 0
IsNoOperator OperHead = ⊥
IsNoOperator h = Unit {0}

-- no operator type stands in the type
abbrev pub HasNoOperator : Term → Type 0
HasNoOperator t = Throughout (λ v. Unit {0}) IsNoOperator (λ k. Unit {0}) t
