use Rattle.messages.proofs.Decides.{restated, decides-less, decides_and}
use Rattle.soundness.proofs.InUse.{decides-either, decides-nothing}
use Rattle.soundness.proofs.channels.Channel.fits.Goals as goal

pub returns : goal.returns
returns c =
    decides-either c.args.in_use
    (restated (λ u. record { sender-below = u.0.0; receiver-below = u.0.1; state = u.1 })
    (λ u. ((u.sender-below, u.receiver-below), u.state))
    (decides_and (decides_and (decides-less _ _) (decides-less _ _)) c.phase_fits.ensures))
    (decides-nothing _ _ _ _)
