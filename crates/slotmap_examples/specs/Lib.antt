pub mod Registry
