pub mod FitLaws
pub mod KindLaws
pub mod NumberLaws
pub mod ShapeLaws
pub mod ShapedGraphs
pub mod VertexLaws
