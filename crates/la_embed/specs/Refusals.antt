-- When a host refuses, and how: by those of what it calls.
use Rattle.la_wire.specs.declared.error.LineError.{LineError}
use Rattle.la_wire.specs.declared.error.LineError.TheVariants as line
use Rattle.la_durable.specs.declared.error.NodeError.{NodeError}
use Rattle.la_durable.specs.declared.error.NodeError.TheVariants as node
use Rattle.la_embed.specs.declared.error.HostError.{HostError}
use Rattle.la_embed.specs.declared.error.HostError.TheVariants.{Line, Node, Memory}

abbrev pub host_error_of_node : NodeError → HostError
host_error_of_node node.Memory = Memory
host_error_of_node e = Node e

abbrev pub host_error_of_line : LineError → HostError
host_error_of_line (line.Fault fault) = Line fault
host_error_of_line line.Memory = Memory
