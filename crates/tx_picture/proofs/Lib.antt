mod LawLemmas
mod FormedLemmas
mod BackgroundLemmas
mod TickLemmas
mod LayLemmas
mod CoverLemmas
mod DrawingLemmas
mod PictureLemmas
