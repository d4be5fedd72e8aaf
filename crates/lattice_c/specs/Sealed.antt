-- What a `Handle` owns: the same as a `Box<Embedded>`. A place owns that once a handle was put there.
use base.Fml.{Fml, ftrue}
use denote.RawPtr.{Ptr}
use Rattle.std.specs.Prelude.{Option, Some, None}
use Rattle.std.specs.Box.Ownership.{box_owns}
use Rattle.std.specs.Global.{Global}
use Rattle.std_heap.specs.contracts.GlobalAllocator.TheImpl.{ghosts}
use Rattle.la_embed.specs.contracts.embedded.Embedded.{the_row}

abbrev pub sealed_owns : Global → Ptr → the_row.Denot → Fml
sealed_owns alloc = box_owns (ghosts.dealloc_token alloc) the_row

abbrev pub placed_owns : Global → Ptr → Option the_row.Denot → Fml
placed_owns alloc at None = ftrue
placed_owns alloc at (Some host) = sealed_owns alloc at host
