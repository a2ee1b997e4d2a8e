pub mod Faults
pub mod Paths
pub mod Arguments
pub mod Numbers
pub mod EntryTables
