pub mod KeptOpenings
pub mod OpensHere
pub mod PutOffs
pub mod SeenMachine
