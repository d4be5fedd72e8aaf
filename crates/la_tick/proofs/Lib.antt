mod Doubling
mod Hearing
mod Parts
mod Whole
