mod FramesKept
