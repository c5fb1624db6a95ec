pub mod Patterns
pub mod Shapes
pub mod CountedTree
pub mod inner
