pub mod SeenTokens
