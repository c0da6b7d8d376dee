-- Each of the four lengths is compared with the one of the settings.
use Rattle.frame_encoder.proofs.encode.all_fit.Goals as goal

pub returns : goal.returns
returns c = rw (c.buffer_length-n.ensures, c.channels.ensures.is)
