pub mod Characters
pub mod Texts
pub mod Shapes
pub mod Forms
pub mod Rooms
