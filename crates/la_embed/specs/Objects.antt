-- An object of any kind: its state is that of the object it is.
use Rattle.la_object.specs.declared.state.State.{State}
use Rattle.la_object.specs.declared.state.State.TheVariants as state
use Rattle.la_orset.specs.Puts.{adds_of, gone_of}
use Rattle.la_embed.specs.declared.object.AnyObject.{AnyObject}
use Rattle.la_embed.specs.declared.object.AnyObject.TheVariants as any

abbrev pub object_state : AnyObject → State
object_state (any.Counter c) = state.Counter c.up c.down
object_state (any.MaxRegister r) = state.Max r.largest
object_state (any.Set s) = state.Set (adds_of s.puts) (gone_of s.early s.puts)
