pub mod SlotLaws
pub mod HeadLaws
pub mod HearLaws
