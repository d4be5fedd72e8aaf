pub mod IdOrder
pub mod Counter
pub mod MaxRegister
pub mod OrSet
pub mod Objects
pub mod Shelves
pub mod Refusals
pub mod Laws
