pub mod Name
pub mod StoredName
