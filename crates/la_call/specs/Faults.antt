-- The fault of a call that a source's is.
use Rattle.la_io.specs.declared.source.SourceFault.{SourceFault}
use Rattle.la_io.specs.declared.source.SourceFault.TheVariants as source
use Rattle.la_call.specs.declared.error.CallFault.{CallFault}
use Rattle.la_call.specs.declared.error.CallFault.TheVariants.{ReadFault, Memory}

abbrev pub of_source_fault : SourceFault → CallFault
of_source_fault source.ReadFault = ReadFault
of_source_fault source.Memory = Memory
