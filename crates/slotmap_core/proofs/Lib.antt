pub mod General
pub mod Places
pub mod Contents
pub mod Several
pub mod FromList
pub mod SecondaryMaps
pub mod ForCallers
pub mod Common
