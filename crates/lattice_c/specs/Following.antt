-- A handle whose host was written.
use Rattle.la_embed.specs.declared.embedded.Embedded.{Embedded}
use Rattle.lattice_c.specs.declared.handle.Handle.{Handle}

-- the handle, once this is what it leads to
abbrev pub with_host : Handle → Embedded → Handle
with_host h w = record { at = h.at; alloc = h.alloc; host = w }
