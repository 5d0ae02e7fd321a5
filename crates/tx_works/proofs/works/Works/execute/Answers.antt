-- What the instruction has told is made of it, inside a transaction or outside.
use Rattle.std.proofs.Common.{refl, sym}
use Rattle.tx_works.specs.Works.{kept_by}
use Rattle.tx_works.proofs.works.Works.execute.Goals as goal

pub run-told-requires-clause-may : goal.run-told-requires-clause-may
run-told-requires-clause-may c rest = record {
  prepared = c.requires.prepared rest;
  counts = c.requires.counts rest;
  begins = c.requires.begins rest;
  rested = c.requires.rested rest;
}

pub tell-requires-clause-left : goal.tell-requires-clause-left
tell-requires-clause-left c rest = record {
  instr = c.args.instr.now;
  need = c.args.need.now;
  before = kept_by rest c.args.self.now;
  by = record {
    may = record {
      prepared = c.requires.prepared rest;
      counts = c.requires.counts rest;
      begins = c.requires.begins rest;
      rested = c.requires.rested rest;
    };
    counted = refl;
    live_is = sym (c.is_live-live.ensures rest);
    told_is = c.run-told.ensures.told rest;
    left = c.run-told.ensures.value rest;
  };
}

pub returns-clause-value : goal.returns-clause-value
returns-clause-value c rest =
    c.tell.ensures.value rest c.args.instr.now c.args.need.now (kept_by rest c.args.self.now) (record {
      may = record {
        prepared = c.requires.prepared rest;
        counts = c.requires.counts rest;
        begins = c.requires.begins rest;
        rested = c.requires.rested rest;
      };
      counted = refl;
      live_is = sym (c.is_live-live.ensures rest);
      told_is = c.run-told.ensures.told rest;
      left = c.run-told.ensures.value rest;
    }) (c.next_address-at.ensures rest)
