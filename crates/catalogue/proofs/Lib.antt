pub mod CatalogueBodies
pub mod LeftLists
