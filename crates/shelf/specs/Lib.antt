pub mod Axioms
pub mod Coming
pub mod EntryLists
pub mod Faults
pub mod Forms
pub mod RecordLists
pub mod Records
pub mod Shelves
