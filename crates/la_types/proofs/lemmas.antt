pub mod FiniteMaps
