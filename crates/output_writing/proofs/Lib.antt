pub mod Numbers
pub mod ToPut
