-- Its tests are the parts of `Fits`, made one after the other, and a ring fits exactly when it is sound.
use Rattle.std.proofs.Common.{◌≡◌, Bool, refl}
use Rattle.network.specs.declared.Ring.{Ring}
use Rattle.network.specs.Layout.{sound_ring}
use Rattle.network.proofs.Memory.Held.{sound-ring}
use Rattle.soundness.specs.Fits.{Fits, CountsFit, NodesFit, ChannelsFit, RecordsFit, StartFits}
use Rattle.messages.specs.Decides.{Decides}
use Rattle.messages.specs.Messages.{MessagesFit}
use Rattle.messages.proofs.Decides.{both-pass, first-fails, same_test}
use Rattle.soundness.proofs.FitsSound.{fits-sound}
use Rattle.soundness.proofs.SoundFits.{sound-fits}
use Rattle.soundness.proofs.is_sound.Goals as goal
use Rattle.soundness.proofs.is_sound.Goals.{then-counts_fit, else-counts_fit, then-nodes_fit, else-nodes_fit, then-channels_fit, else-channels_fit, then-records_fit, else-records_fit}

-- the parts as far as a test has come
module _ (ring : Ring) where
  abbrev Nodes : Type 0
  Nodes = CountsFit ring.head × NodesFit ring.head

  abbrev Channels : Type 0
  Channels = Nodes × ChannelsFit ring.head

  abbrev Records : Type 0
  Records = Channels × RecordsFit ring

  abbrev Messages : Type 0
  Messages = Records × MessagesFit ring

  all_parts : Messages × StartFits ring.head → Fits ring
  all_parts p =
      let m = p.0 in
      let r = m.0 in
      let c = r.0 in
      record { counts = c.0.0; nodes = c.0.1; channels = c.1; records = r.1; messages = m.1; start = p.1 }

  parted : Fits ring → Messages × StartFits ring.head
  parted f = (((((f.counts, f.nodes), f.channels), f.records), f.messages), f.start)

  sound-exactly : {r : Bool} → Decides r (Messages × StartFits ring.head) → r ≡ sound_ring ring
  sound-exactly d =
      same_test (λ e. fits-sound ring (all_parts (d.holds e)))
      (λ e. d.passes (parted (sound-fits ring (sound-ring ring e))))

pub returns-then-messages_fit : goal.returns-then-messages_fit
returns-then-messages_fit c =
    let nodes : Decides c.if-counts_fit.value (Nodes c.args.ring.now) =
    elim c.if-counts_fit.branch [
      | then-counts_fit w ↦ both-pass c.counts_fit.ensures w.nodes_fit.ensures w.if-counts_fit.true w.value-is
      | else-counts_fit w ↦ first-fails c.counts_fit.ensures w.if-counts_fit.false w.value-is
    ] in
    let channels : Decides c.if-nodes_fit.value (Channels c.args.ring.now) =
    elim c.if-nodes_fit.branch [
      | then-nodes_fit w ↦ both-pass nodes w.channels_fit.ensures w.if-nodes_fit.true w.value-is
      | else-nodes_fit w ↦ first-fails nodes w.if-nodes_fit.false w.value-is
    ] in
    let records : Decides c.if-channels_fit.value (Records c.args.ring.now) =
    elim c.if-channels_fit.branch [
      | then-channels_fit w ↦ both-pass channels w.records_fit.ensures w.if-channels_fit.true w.value-is
      | else-channels_fit w ↦ first-fails channels w.if-channels_fit.false w.value-is
    ] in
    let messages : Decides c.if-records_fit.value (Messages c.args.ring.now) =
    elim c.if-records_fit.branch [
      | then-records_fit w ↦ both-pass records w.messages_fit.ensures w.if-records_fit.true w.value-is
      | else-records_fit w ↦ first-fails records w.if-records_fit.false w.value-is
    ] in
    sound-exactly c.args.ring.now (both-pass messages c.start_fits.ensures c.if-messages_fit.true refl)

pub returns-else-messages_fit : goal.returns-else-messages_fit
returns-else-messages_fit c =
    let nodes : Decides c.if-counts_fit.value (Nodes c.args.ring.now) =
    elim c.if-counts_fit.branch [
      | then-counts_fit w ↦ both-pass c.counts_fit.ensures w.nodes_fit.ensures w.if-counts_fit.true w.value-is
      | else-counts_fit w ↦ first-fails c.counts_fit.ensures w.if-counts_fit.false w.value-is
    ] in
    let channels : Decides c.if-nodes_fit.value (Channels c.args.ring.now) =
    elim c.if-nodes_fit.branch [
      | then-nodes_fit w ↦ both-pass nodes w.channels_fit.ensures w.if-nodes_fit.true w.value-is
      | else-nodes_fit w ↦ first-fails nodes w.if-nodes_fit.false w.value-is
    ] in
    let records : Decides c.if-channels_fit.value (Records c.args.ring.now) =
    elim c.if-channels_fit.branch [
      | then-channels_fit w ↦ both-pass channels w.records_fit.ensures w.if-channels_fit.true w.value-is
      | else-channels_fit w ↦ first-fails channels w.if-channels_fit.false w.value-is
    ] in
    let messages : Decides c.if-records_fit.value (Messages c.args.ring.now) =
    elim c.if-records_fit.branch [
      | then-records_fit w ↦ both-pass records w.messages_fit.ensures w.if-records_fit.true w.value-is
      | else-records_fit w ↦ first-fails records w.if-records_fit.false w.value-is
    ] in
    sound-exactly c.args.ring.now (first-fails messages c.if-messages_fit.false refl)
