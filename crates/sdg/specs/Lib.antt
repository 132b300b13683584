pub mod CallSites
pub mod CallWalk
pub mod GraphEdges
pub mod Parts
pub mod SiteEdges
pub mod VertexLists
