pub mod SameAxioms
