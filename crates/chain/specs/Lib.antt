pub mod Chain
pub mod StrandFrames
pub mod Base
pub mod Valid
pub mod Numbers
