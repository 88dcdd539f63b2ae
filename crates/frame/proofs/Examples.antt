-- The worked frames, computed.
use Rattle.std.proofs.Common.{refl}
use Rattle.base.specs.Answers.{ask, bind}
use Rattle.frame.specs.Pieces.{cut_from, cut_frame}
use Rattle.frame.specs.Worked.{WorkedFrames}

pub worked_frames : WorkedFrames
unfolding ask bind cut_from cut_frame
worked_frames = record { dl_16 = refl; dl_16_tail = refl; ul_19 = refl; ul_163 = refl; over_limit = refl; at_limit = refl }
