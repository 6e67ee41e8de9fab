mod Ends
pub mod ValuesLaws
pub mod StatesLaws
pub mod RoundingLaws
pub mod ProperStays
