pub mod Nths
pub mod Misfits
pub mod Made
pub mod Passing
pub mod Tabled
pub mod Hooks
pub mod Firsts
