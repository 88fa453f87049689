-- `Laws` has what callers cite; the others have what the proofs of the functions share.
pub mod Bytes
pub mod Bits
pub mod Case
pub mod Collect
pub mod Laws
pub mod Sides
