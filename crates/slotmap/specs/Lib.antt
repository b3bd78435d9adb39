pub mod KeysAlone
pub mod Words
