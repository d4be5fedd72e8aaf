-- Where the loop of `serve` stands, by the values that it has.
use Rattle.std.proofs.Common.{◌≡◌, List, [], Option, ℕ}
use Rattle.la_journal.specs.declared.disk.Disk.{Ghosts}
use Rattle.la_durable.specs.declared.machine.NodeMachine.{NodeMachine}
use Rattle.la_durable.specs.Nodes.{kept_by}
use Rattle.la_node.specs.declared.link.Links.{Links}
use Rattle.la_io.specs.declared.source.Source.{Source}
use Rattle.la_io.specs.Sources.{ahead}
use Rattle.la_serve.specs.declared.output.Output.{Output}
use Rattle.la_serve.specs.declared.server.Server.{Server}
use Rattle.la_serve.specs.Io.{Facts, server_state}
use Rattle.la_serve.specs.Turns.{ServerState}
use Rattle.la_serve.proofs.Behind.{Point}

module _ {D R W E B : Type 0} {g : Ghosts D} (f : Facts D R W E) where
  abbrev pub point_at : (left : Option (List ℕ)) → Output W → (held : List ℕ) → E → Server D B g → Point D E
  point_at left output held errors server = record {
    objects = server.shelf.objects;
    state = server_state server;
    ahead = left;
    out = f.contents output.writer;
    held = held;
    disk = server.node.durable.disk;
    text = server.node.text.items;
    given = output.given.texts;
    errors = errors;
  }

  abbrev pub point : Source → R → Output W → (held : List ℕ) → E → Server D B g → Point D E
  point source input output held errors server =
      point_at (ahead source (f.remaining input)) output held errors server

  -- before the loop
  abbrev pub start_at : R → Output W → E → Server D B g → Point D E
  start_at input output errors server = point_at (f.remaining input) output [] errors server

-- where a server's machine, and what it knows, are as they were
abbrev pub stands_on : NodeMachine → Links → ServerState
stands_on machine links = record { kept = kept_by machine; known = links }

pub same_state : {m n : NodeMachine} {k l : Links} → m ≡ n → k ≡ l → stands_on m k ≡ stands_on n l
same_state same known = λ i. stands_on (same i) (known i)
