-- What is left of the rounds comes to the same end from every turn of the loop.
use Rattle.dispatch.proofs.Course.{InCourse}
use Rattle.dispatch.proofs.Log.{blank}
use Rattle.dispatch.proofs.rounds.Given as goal

abbrev pub invariant-loop : goal.invariant-loop
invariant-loop l = InCourse l.given l.initial.ring blank l.counter l.ring l.log
