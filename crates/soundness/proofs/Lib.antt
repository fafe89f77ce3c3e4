-- The proofs about the definitions of specs/. A ring that fits is sound (FitsSound), and a sound ring fits (SoundFits).
pub mod InUse
pub mod RecordBytes
pub mod View
pub mod Codes
pub mod Queues
pub mod FitsHeld
pub mod FitsSound
pub mod SoundHead
pub mod SoundFits
