-- What a ring call answers, in plain numbers.
use Rattle.std.specs.Prelude.{ℕ, replicate, Result, Ok, Err}
use Rattle.std.specs.Int.Count.{ones}
use Rattle.refusal.specs.declared.Refusal.{Refusal}
use Rattle.refusal.specs.Number.{number_of}
use Rattle.batch.specs.Blank.{no_record}
use Rattle.network.specs.declared.Answer.{Answer}
use Rattle.network.specs.declared.Answer.TheVariants.{Done, Delivered, Hops, Waiting}
use Rattle.network.specs.declared.Ring.{Ring}
use Rattle.network.specs.declared.Dispatched.{Dispatched}
use Rattle.network.specs.Answers.{Reply, number_in}
use Rattle.network.specs.Dispatcher.{dispatch_ring, answer_of}
use Rattle.network.specs.Layout.{channel_room, reply_to}
use Rattle.network.specs.Runs.{Call}
use Rattle.c_structs.specs.declared.Delivery.{Delivery}
use Rattle.c_structs.specs.declared.HopsLeft.{HopsLeft}
use Rattle.c_structs.specs.declared.Waiting as C
use Rattle.c_structs.specs.declared.Rounds.{Rounds}

-- In each struct, what a reply does not say is 0.

-- the refusal's number, or 0
abbrev pub number_to : Call → Ring → ℕ
number_to a ring = number_in (reply_to a ring)

abbrev pub no_delivery : ℕ → Delivery
no_delivery n = record { refusal = n; delivered = 0; channel = 0; «record» = no_record }

abbrev pub delivery_of : Answer → Delivery
delivery_of Done = no_delivery 0
delivery_of (Delivered k x) = record { refusal = 0; delivered = 1; channel = k.0; «record» = x }
delivery_of (Hops h) = no_delivery 0
delivery_of (Waiting w) = no_delivery 0

abbrev pub delivery_in : Reply → Delivery
delivery_in (Ok a) = delivery_of a
delivery_in (Err r) = no_delivery (number_of r)

abbrev pub delivery_to : Call → Ring → Delivery
delivery_to a ring = delivery_in (reply_to a ring)

-- what the dispatcher answers
abbrev pub rounds_in : Result Dispatched Refusal → Rounds
rounds_in (Ok d) = record { rounds = d.rounds; refusal = 0; count = d.count; channels = d.channels; records = d.records }
rounds_in (Err r) = record {
  rounds = 0;
  refusal = number_of r;
  count = 0;
  channels = replicate channel_room 0;
  records = replicate channel_room no_record;
}

abbrev pub rounds_to : ℕ → Ring → Rounds
rounds_to given ring = rounds_in (answer_of (dispatch_ring given ring))

abbrev pub hops_of : Answer → ℕ
hops_of Done = 0
hops_of (Delivered k x) = 0
hops_of (Hops h) = h
hops_of (Waiting w) = 0

abbrev pub hops_left_in : Reply → HopsLeft
hops_left_in (Ok a) = record { refusal = 0; hops = hops_of a }
hops_left_in (Err r) = record { refusal = number_of r; hops = 0 }

abbrev pub set_of : Answer → ℕ
set_of Done = 0
set_of (Delivered k x) = 0
set_of (Hops h) = 0
set_of (Waiting w) = w

abbrev pub set_in : Reply → ℕ
set_in (Ok a) = set_of a
set_in (Err r) = 0

-- how many tasks of a node wait is the number of ones in its set
abbrev pub waiting_in : Reply → C.Waiting
waiting_in r = record { set = set_in r; tasks = ones (set_in r); refusal = number_in r }
