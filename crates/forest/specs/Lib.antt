pub mod Count
pub mod Nodes
pub mod Cells
pub mod Trees
pub mod Layers
pub mod IsTree
pub mod Walk
pub mod OneLeaf
