-- Commands, questions and answers in code, held against document 01: which ring call each command and each question is, and for each case
-- of the answer its number and its values; from these, what a step that the code returns says, and what a run answers.
use Rattle.std.specs.Prelude.{ℕ, ◌≡◌, Bool, true, false, cond, List, [], ◌∷◌, eqb, Result, Ok, Err}
use Rattle.std.proofs.Math.Option.{Option}
use Rattle.refusal.specs.declared.Refusal.{Refusal}
use Rattle.refusal.specs.declared.Refusal.TheVariants.{UnsoundRing}
use Rattle.refusal.specs.Number as Number
use Rattle.refusal.specs.Number.{number_of}
use Rattle.batch.specs.declared.BatchRecord.{BatchRecord}
use Rattle.batch.specs.declared.sending.Fields.{Fields}
use Rattle.batch.specs.Blank.{no_record}
use Rattle.batch.specs.Sending.{record_from}
use Rattle.command.specs.declared.Action.{Action}
use Rattle.command.specs.declared.Action.TheVariants.{AddNode, AddChannel, Start, Receive, Send, Enter, Move, Withdraw}
use Rattle.command.specs.declared.Command.{Command}
use Rattle.command.specs.declared.Question.{Question}
use Rattle.command.specs.declared.Question.TheVariants.{HopsLeft, WaitingSet}
use Rattle.numbers.specs.declared.ChannelNo.{ChannelNo}
use Rattle.network.specs.declared.Ring.{Ring}
use Rattle.network.specs.declared.Answer.{Answer}
use Rattle.network.specs.declared.Answer.TheVariants.{Done, Delivered, Hops, Waiting}
use Rattle.network.specs.declared.Step.{Step}
use Rattle.network.specs.Calls.{Event, done, delivered, hops_are, waiting_are, Delivery, delivery_in, Outcome, refused, accepted}
use Rattle.network.specs.Runs.{Call, add_node, add_channel, start, receive, send, enter, move, withdraw, hops_left, waiting_set, after}

-- the ring call that an action is, with the fields beside it: a send is of the record that they make
abbrev pub action_call : Action → Fields → Call
action_call (AddNode slots) f = add_node slots
action_call (AddChannel sender receiver) f = add_channel sender receiver
action_call Start f = start
action_call (Receive channel) f = receive channel
action_call (Send channel scale) f = send channel (record_from scale f)
action_call (Enter node) f = enter node
action_call (Move node) f = move node
action_call (Withdraw channel) f = withdraw channel

-- the ring call that a command is, and the one that a question is
abbrev pub call_of : Command → Call
call_of c = action_call c.action c.fields

abbrev pub question_call : Question → Call
question_call (HopsLeft channel) = hops_left channel
question_call (WaitingSet node) = waiting_set node

-- what a call answers: what an accepted call has to say, or the refusal
abbrev pub Reply : Type 0
Reply = Result Answer Refusal

-- document 01's number for a reply: that of the refusal, or 0
abbrev pub number_in : Reply → ℕ
number_in r = Number.number_in r

-- the values of an accepted answer; a refusal answers its number alone
abbrev pub event_in : Answer → Event
event_in Done = done
event_in (Delivered k x) = delivered k x
event_in (Hops h) = hops_are h
event_in (Waiting w) = waiting_are w

abbrev pub values_in : Reply → Event
values_in (Ok a) = event_in a
values_in (Err r) = done

-- whether a reply is a refusal
abbrev pub is_refusal : Reply → Bool
is_refusal (Ok a) = false
is_refusal (Err r) = true

-- the delivery in a reply, if it has one
abbrev pub delivered_in : Reply → Option Delivery
delivered_in r = delivery_in (values_in r)

-- the record that a reply tells: a delivery's; beside any other answer, a refusal too, it is blank
abbrev pub event_record : Event → BatchRecord
event_record done = no_record
event_record (delivered k x) = x
event_record (hops_are h) = no_record
event_record (waiting_are w) = no_record

abbrev pub record_told : Reply → BatchRecord
record_told r = event_record (values_in r)

-- the reply to an outcome: the one whose number and values are those of the outcome
abbrev pub answer_of : Event → Answer
answer_of done = Done
answer_of (delivered k x) = Delivered k x
answer_of (hops_are h) = Hops h
answer_of (waiting_are w) = Waiting w

abbrev pub reply_of : {S : Type 0} → Outcome S → Reply
reply_of (refused r) = Err r
reply_of (accepted e s) = Ok (answer_of e)

-- the ring after a call, and its reply; a refusal leaves the ring
abbrev pub step_of : Ring → Outcome Ring → Step
step_of ring o = record { ring = after ring o; reply = reply_of o }

-- the refusal in a reply that is one; nothing asks for it where the number is 0
abbrev pub refusal_in : Reply → Refusal
refusal_in (Ok a) = UnsoundRing
refusal_in (Err r) = r

-- What a returned step says: answered without a refusal number it is accepted, with its values and its ring; else it is refused.
abbrev pub outcome_of : Step → Outcome Ring
outcome_of s = cond (eqb (number_in s.reply) 0) (accepted (values_in s.reply) s.ring) (refused (refusal_in s.reply))

-- document 01's number and values for an outcome
abbrev pub outcome_number : {S : Type 0} → Outcome S → ℕ
outcome_number (refused r) = number_of r
outcome_number (accepted e s) = 0

abbrev pub outcome_values : {S : Type 0} → Outcome S → Event
outcome_values (refused r) = done
outcome_values (accepted e s) = e

-- a reply says the number and the values of the outcome that it answers
abbrev pub RepliesSay : Type 1
RepliesSay =
    (S : Type 0) (o : Outcome S) →
    (number_in (reply_of o) ≡ outcome_number o) × (values_in (reply_of o) ≡ outcome_values o)

-- a step says the number and the values of its reply
abbrev pub StepsSay : Type 0
StepsSay =
    (s : Step) →
    (outcome_number (outcome_of s) ≡ number_in s.reply)
    × (outcome_values (outcome_of s) ≡ values_in s.reply)

-- the step that a contract promises says the outcome that it is made of
abbrev pub StepsKeep : Type 0
StepsKeep = (ring : Ring) (o : Outcome Ring) → outcome_of (step_of ring o) ≡ o

-- what a call says: its number, 0 where it is accepted, and its values
pub record Said : Type 0 where
  pub number : ℕ
  pub values : Event

abbrev pub said_in : {S : Type 0} → Outcome S → Said
said_in o = record { number = outcome_number o; values = outcome_values o }

-- a number and no values, or a delivery
abbrev pub says : ℕ → Said
says n = record { number = n; values = done }

abbrev pub delivers : ChannelNo → BatchRecord → Said
delivers k x = record { number = 0; values = delivered k x }

-- what a run answers, call by call
abbrev pub answers : {S : Type 0} → (Call → S → Outcome S) → List Call → S → List Said
answers step [] s = []
answers step (a ∷ calls) s = said_in (step a s) ∷ answers step calls (after s (step a s))
