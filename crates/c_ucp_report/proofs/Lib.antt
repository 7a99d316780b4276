pub mod Puts
pub mod Words
pub mod Numbers
pub mod Bodies
pub mod Held
pub mod Agree
