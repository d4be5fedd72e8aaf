mod Links
mod EditBytes
mod IdSets
mod InsertCopies
mod Latest
