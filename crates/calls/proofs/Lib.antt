pub mod DoesLaws
pub mod RoomLaws
pub mod SignatureLaws
