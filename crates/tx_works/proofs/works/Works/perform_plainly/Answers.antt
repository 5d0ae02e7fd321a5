-- Inside or outside.
use Rattle.tx_works.proofs.works.Works.perform_plainly.Goals as goal

pub execute_plainly_inside-requires-clause-may : goal.execute_plainly_inside-requires-clause-may
execute_plainly_inside-requires-clause-may c rest =
    record {
      prepared = c.requires.prepared rest;
      counts = c.requires.counts rest;
      begins = c.requires.begins rest;
      rested = c.requires.rested rest;
    }

pub execute_there-requires-clause-may : goal.execute_there-requires-clause-may
execute_there-requires-clause-may c rest =
    record {
      prepared = c.requires.prepared rest;
      counts = c.requires.counts rest;
      begins = c.requires.begins rest;
      rested = c.requires.rested rest;
    }
