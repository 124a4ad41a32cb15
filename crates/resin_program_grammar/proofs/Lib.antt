pub mod StartLaws
pub mod FirstLaws
