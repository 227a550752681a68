-- What a check asks of what is accepted. Source: Konnov, Kukovec and Tran, "TLA+ Model Checking Made Symbolic", OOPSLA
-- 2019, on the reduction to KerA+, on assignments and on symbolic transitions.
use Rattle.std.specs.Prelude.{◌≤◌, Option, Some}
use Rattle.front_end.specs.Accepted.{IsAcceptedFor}
use Rattle.front_end.specs.Requests.{IsRequest}
use Rattle.front_end.specs.declared.request.Accepted.{Accepted}
use Rattle.front_end.specs.declared.request.Request.{Request}
use Rattle.step_laws.specs.Encodable.{CanEncode}
use Rattle.step_laws.specs.Systems.{StandsFor}
use Rattle.tool_outside.specs.Outside.{Folder}

-- its width and its length are such as a request may have; its system stands for its job, and can be encoded
pub record CanCheck (a : Accepted) : Type 0 where
  pub wide : 4 ≤ a.width
  pub narrow : a.width ≤ 64
  pub short : a.length ≤ 1000
  pub stands : StandsFor (Some a.width) a.job a.system
  pub encodable : CanEncode a.system

-- what is accepted for a request can be checked
abbrev pub CanBeChecked : Option Folder → Request → Accepted → Type 0
CanBeChecked held r a = IsRequest r → IsAcceptedFor held r a → CanCheck a
