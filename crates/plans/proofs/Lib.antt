pub mod EqualityLaws
pub mod BitExtractLaws
pub mod CompareLaws
pub mod PackedLaws
pub mod SignedLaws
