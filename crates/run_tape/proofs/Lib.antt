-- Laws of bytes that are read and written piece by piece, of answers whose errors are renamed, and of the listing that is printed.
pub mod Pieces
pub mod Mapped
pub mod Printed
