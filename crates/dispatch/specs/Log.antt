-- The deliveries of a dispatcher call as they are kept while it runs: in its answer, one behind the other.
use Rattle.std.specs.Prelude.{◌+◌, List, [], ◌∷◌, set}
use Rattle.network.specs.declared.Dispatched.{Dispatched}
use Rattle.network.specs.Calls.{Delivery}

-- one delivery more, behind the others; and more of them, one after the other
abbrev pub logged : Delivery → Dispatched → Dispatched
logged d l =
    record {
      rounds = l.rounds;
      count = l.count + 1;
      channels = set l.channels l.count d.channel.0;
      records = set l.records l.count d.«record»;
    }

abbrev pub logged_all : List Delivery → Dispatched → Dispatched
logged_all [] l = l
logged_all (d ∷ ds) l = logged_all ds (logged d l)
