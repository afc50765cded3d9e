-- What the report says of a node, shared by the forms.
use Rattle.layer_rules.specs.State.{State, is_open}
use Rattle.layer_rules.specs.declared.Fact.TheVariants as Said
use Rattle.layer_rules.specs.declared.Fact.{Fact}
use Rattle.std.specs.Prelude.{false, true}

-- A closed layer says so, whatever it is.
abbrev pub if_open : State → Fact → Fact
if_open s said = elim (is_open s) [ true ↦ said | false ↦ Said.Closed ]
