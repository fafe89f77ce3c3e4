pub mod Table
pub mod History
pub mod Said
pub mod Search
pub mod Runs
pub mod Examples
