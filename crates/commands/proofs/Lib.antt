-- Laws of the commands: what the functions go by.
pub mod Boards
pub mod Puts
pub mod Gets
pub mod BlocksLaws
