pub mod TenBytes
