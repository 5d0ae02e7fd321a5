-- The item was added so many times.
use Rattle.std.specs.Prelude.{◌≡◌, ◌+◌, ◌++◌, replicate, vec_len, vec_capacity}
use Rattle.tx_home.proofs.taking.add_times.Given as goal

abbrev pub invariant-loop : goal.invariant-loop
invariant-loop g l =
    record {
      added : l.items.items ≡ l.initial.items.items ++ replicate l.counter l.item;
      len : vec_len l.items ≡ vec_len l.initial.items + l.counter;
      capacity : vec_capacity l.items ≡ vec_capacity l.initial.items;
    }
