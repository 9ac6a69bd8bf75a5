pub mod Digests
pub mod FieldsAndMap
pub mod BitByBit
pub mod RoundTrip
