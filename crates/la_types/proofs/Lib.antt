mod CountBytes
mod FlagBytes
mod WriteBytes
pub mod lemmas
mod KeyedCopies
mod KeyedBytes
mod MultiBytes
mod CounterBytes
mod Kept
mod ElementSets
mod ElementBytes
mod KeyEntries
mod PartBytes
mod KeptParts
