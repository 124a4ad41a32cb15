pub mod HeightLaws
pub mod PlaceLaws
