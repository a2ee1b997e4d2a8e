pub mod Contents
pub mod Places
pub mod Same
pub mod Sets
pub mod formers
