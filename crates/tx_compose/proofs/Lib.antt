mod Spots
mod Owning
mod Mapping
mod Looking
mod Keeping
mod EditLaws
mod FrameLaws
mod Unscrolled
