-- The loop counts the channels that do not fit (proofs/InUse).
use Rattle.std.proofs.Common.{ℕ, Bool, List, get_or}
use Rattle.network.specs.Layout.{channel_room}
use Rattle.soundness.specs.Fits.{ChannelFits}
use Rattle.soundness.proofs.InUse.{CountingUsed}
use Rattle.soundness.proofs.channels.channels_fit.Given as goal

abbrev pub ChannelAt : Bool → ℕ → List ℕ → List ℕ → List ℕ → List ℕ → Bool → ℕ → Type 0
ChannelAt started nodes senders receivers phases offered in_use k =
    ChannelFits in_use started nodes (get_or senders k 0) (get_or receivers k 0) (get_or phases k 0) (get_or offered k 0)

abbrev pub invariant-loop-k : goal.invariant-loop-k
invariant-loop-k l =
    CountingUsed (ChannelAt l.started l.head.node_count l.head.senders l.head.receivers l.head.phases l.head.offered) l.head.channel_count channel_room l.places l.wrong l.k
