pub mod Bodies
pub mod CatalogueLists
pub mod Catalogues
pub mod Handed
